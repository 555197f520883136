pub mod FewPoints
pub mod CommandPoints
pub mod SumLemmas
pub mod TurnLemmas
