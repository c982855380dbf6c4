-- Laws of the chart.
pub mod LayoutLaws
pub mod ByEndsLaws
pub mod TurnLaws
pub mod CountedLaws
pub mod RowsLaws
