pub mod CsvLemmas
pub mod EscapeLemmas
pub mod LineLemmas
pub mod MalformedLemmas
pub mod ReadLemmas
pub mod ShownLemmas
