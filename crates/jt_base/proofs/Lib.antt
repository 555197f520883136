pub mod BitLists
pub mod FaultLemmas
pub mod Fronts
pub mod Pieces
