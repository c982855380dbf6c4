-- Laws of the flat tables.
pub mod LayoutLaws
pub mod PutLaws
pub mod MemberLaws
