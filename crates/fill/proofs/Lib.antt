-- Laws of filling a chart.
pub mod SpanFillLaws
pub mod FillingLaws
pub mod SmallLaws
pub mod FillSpanLaws
pub mod FurtherLaws
