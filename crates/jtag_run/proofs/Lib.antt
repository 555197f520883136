pub mod Answered
pub mod BenchBounds
pub mod BenchEnds
pub mod BenchSuccesses
pub mod ChainBounds
pub mod ChainEnds
pub mod ChipSuccesses
mod Countings
pub mod ElfFiles
pub mod ElfRuns
pub mod LimitFeeds
pub mod LoopEnds
pub mod NetEnds
pub mod NetSuccesses
mod Numbers
pub mod Prepares
pub mod Probes
pub mod Puts
pub mod Recordings
pub mod Runs
pub mod SeedBounds
pub mod SessionPoints
pub mod SoftBenchEnds
pub mod SoftFiles
pub mod SoftRuns
pub mod Successes
