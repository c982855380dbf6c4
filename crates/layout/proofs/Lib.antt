-- Laws of a grammar's layout.
pub mod LayoutLaws
pub mod FramedLaws
