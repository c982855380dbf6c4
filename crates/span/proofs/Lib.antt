-- Laws of a span.
pub mod AdvanceLaws
pub mod SpanLaws
pub mod VisitLaws
pub mod TableLaws
pub mod RoundLaws
