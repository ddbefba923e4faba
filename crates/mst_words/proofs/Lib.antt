pub mod HashKeyLemmas
pub mod LineLemmas
pub mod SpanLemmas
