-- The theorems of the page hold.
pub mod AnsweredLaws
pub mod OneRightLaws
pub mod TurnedLaws
pub mod PartLaws
pub mod PassesLaws
pub mod TwinLaws
pub mod OwnTextLaws
pub mod ComparedLaws
pub mod Theorems
