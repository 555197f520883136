mod ChainEnds
mod Untold
