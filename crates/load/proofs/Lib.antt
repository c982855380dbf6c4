-- Laws of loading a flat text.
pub mod BitsLaws
pub mod NoteLaws
pub mod HeldLaws
pub mod ReachedLaws
pub mod AbsentLaws
pub mod LoadLaws
pub mod NamesLaws
pub mod CheckLaws
