-- Counts of the faults of outside things: a count never falls, and stands still at its type's end.
-- An answer that tells a fault has its cause where the count rose. No public standard defines this.
use Rattle.std.specs.Prelude.{ℕ, ◌+◌, ◌-◌, ◌^◌, ◌<◌, ◌≤◌, min, Result, Ok, Err, OnErr}

-- a count that went up, unless it stood at its end
abbrev pub Rises : ℕ → ℕ → Type 0
Rises old new = old < 2 ^ 64 - 1 → old < new

-- for calls whose every Err is a fault
pub record HasCause {T E : Type 0} (old new : ℕ) (result : Result T E) : Type 0 where
  pub later : old ≤ new
  pub cause : OnErr result (Rises old new)

-- a count of 64 bits after one more
abbrev pub counted : ℕ → ℕ
counted count = min (count + 1) (2 ^ 64 - 1)

-- the count after a call whose every Err is a fault: one more where it failed
abbrev pub count_after : {T E : Type 0} → Result T E → ℕ → ℕ
count_after (Ok x) count = count
count_after (Err e) count = counted count
