pub mod SpanLaws
pub mod FillTurns
pub mod FitTypes
