pub mod SiteLemmas
pub mod ServedLemmas
pub mod StepLemmas
pub mod HaltsumLemmas
