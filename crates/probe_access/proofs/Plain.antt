-- A register that the hart itself holds: any but mip, which memory tells, so that a read of it is an access.
use Rattle.std.proofs.Common.{◌≡◌, ◌∙◌, ◌<◌, ◌^◌, ◌==◌, ℕ, Bool, true, false, Option, Some, None, is_some, refl, ap}
use Rattle.rv_model.specs.Board.{Hart}
use Rattle.rv_model.specs.DebugRegisters.{debug_seen, debug_value}
use Rattle.rv_model.specs.Memory.{Memory}
use Rattle.rv_model.specs.Registers.{mip_number}
use Rattle.rv_model.proofs.DebugRegisterLemmas.{seen_is_value, seen_there}

-- a number of 16 bits, and not mip's
pub record Plain (number : ℕ) : Type 0 where
  pub small : number < 2 ^ 16
  pub other : (number == mip_number) ≡ false

-- the number of a transfer that is no access: a write has any, and a read none but mip's
abbrev pub Transferable : Bool → ℕ → Type 0
Transferable true number = number < 2 ^ 16
Transferable false number = Plain number

pub small_number : (write : Bool) (number : ℕ) → Transferable write number → number < 2 ^ 16
small_number true number t = t
small_number false number t = t.small

-- the hart holds this there
pub record Holds (y : Hart) (number v : ℕ) : Type 0 where
  pub is : debug_value y number ≡ Some v
  pub other : (number == mip_number) ≡ false

pub seen_held : (y : Hart) (m : Memory) (number v : ℕ) → Holds y number v → debug_seen y m number ≡ Some v
seen_held y m number v h = seen_is_value y m number h.other ∙ h.is

-- what is seen of a register that is there
pub record Seen (y : Hart) (m : Memory) (number : ℕ) : Type 0 where
  pub value : ℕ
  pub is : debug_seen y m number ≡ Some value

some_seen : (y : Hart) (m : Memory) (number : ℕ) (o : Option ℕ) → debug_seen y m number ≡ o → is_some o ≡ true → Seen y m number
some_seen y m number (Some u) is there = record { value = u; is = is }
some_seen y m number None is there = let none : ⊥ = cc in absurd none

pub seen_some : (y : Hart) (m : Memory) (number v : ℕ) → debug_value y number ≡ Some v → Seen y m number
seen_some y m number v is = some_seen y m number (debug_seen y m number) refl (seen_there y m number ∙ ap is_some is)
