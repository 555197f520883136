-- A set of slots out of four answers.
use Rattle.std.proofs.Common.{◌≡◌, ℕ, ◌+◌, ◌*◌, ◌/◌, ◌%◌, ◌^◌, ◌<◌, Bool, true, false, [], ◌∷◌, ◌==◌, refl, arith}
use mir.Val.{bool_byte}
use Rattle.trig_unit.specs.Members.{members}

small : (b : Bool) → bool_byte b < 2
small true = omega arith
small false = omega arith

place : (b : Bool) (n : ℕ) → n ≡ bool_byte b → (n == 1) ≡ b
place true n e = rw e refl
place false n e = rw e refl

pub members_of : (a b c d : Bool) →
    members (record { 0 = bool_byte a + bool_byte b * 2 % 256 + bool_byte c * 4 % 256 + bool_byte d * 8 % 256 }) ≡ a ∷ b ∷ c ∷ d ∷ []
members_of a b c d =
    let sa = small a in let sb = small b in let sc = small c in let sd = small d in
    let n : ℕ = bool_byte a + bool_byte b * 2 % 256 + bool_byte c * 4 % 256 + bool_byte d * 8 % 256 in
    let ea : (n / 2 ^ 0 % 2 == 1) ≡ a = place a _ (omega arith) in
    let eb : (n / 2 ^ 1 % 2 == 1) ≡ b = place b _ (omega arith) in
    let ec : (n / 2 ^ 2 % 2 == 1) ≡ c = place c _ (omega arith) in
    let ed : (n / 2 ^ 3 % 2 == 1) ≡ d = place d _ (omega arith) in
    cc
