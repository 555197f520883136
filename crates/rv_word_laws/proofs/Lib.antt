pub mod FormatLemmas
pub mod MeaningRows
pub mod WordsAgree
