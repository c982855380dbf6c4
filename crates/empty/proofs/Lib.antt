-- Laws of the empty span.
pub mod RowLaws
pub mod BeginLaws
pub mod SumLaws
pub mod RightLaws
pub mod GrowLaws
pub mod TurnLaws
