pub mod CsrAnswer
pub mod Fields
