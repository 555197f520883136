-- A front of a piece that a sink took.
use Rattle.std.proofs.Common.{◌≡◌, ℕ, List, ◌++◌, take, drop, Some, sym, ap}
use Rattle.std.proofs.lemmas.List.{take-append-drop}
use Rattle.jt_base.specs.Sink.{TookFront}

pub front_taken : (n : ℕ) (piece old new : List ℕ) → new ≡ old ++ take n piece → TookFront piece old (Some new)
front_taken n piece old new is = record { front = take n piece; back = drop n piece; cut = sym (take-append-drop n piece); is = ap Some is }
