mod HexLemmas
mod HitLemmas
mod WordLemmas
