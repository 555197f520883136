pub mod ByteLemmas
pub mod ImageLemmas
pub mod LaidLemmas
pub mod RamLemmas
