-- Laws of the calls.
pub mod FitLaws
pub mod ViewerLaws
pub mod FlatLaws
pub mod PageLaws
pub mod SheetLaws
pub mod ReasonLaws
pub mod CompareLaws
