-- The bits of so few harts are a number of 32 bits.
use Rattle.std.proofs.Common.{◌≡◌, ℕ, zero, suc, ◌%◌, ◌^◌, ◌<◌, ◌≤◌, Bool, cond, List, length, map, bit_and, sym, ap, ◌∙◌, arith}
use Rattle.std.proofs.lemmas.Bool.{lt-ltb}
use Rattle.std.proofs.lemmas.List.{length-map}
use Rattle.std.proofs.lemmas.Nat.{and_mask}
use Rattle.jt_base.specs.BitList.{number_of}
use Rattle.jt_base.proofs.BitLists.{number_of_below}
use Rattle.rv_model.specs.Board.{Hart}
use Rattle.rv_model.specs.Memory.{hart_places}
use Rattle.debug_model.specs.Module.{haltsum, is_halted}

few : (n : ℕ) → n ≤ hart_places → 2 ^ n ≤ 16
few zero h = omega arith
few (suc zero) h = omega arith
few (suc (suc zero)) h = omega arith
few (suc (suc (suc zero))) h = omega arith
few (suc (suc (suc (suc zero)))) h = omega arith
few (suc (suc (suc (suc (suc n))))) h = absurd (omega arith)

pub halted_shown : (selected : ℕ) (hs : List Hart) (bs : List Bool) (v : ℕ) → selected < 32 → length hs ≤ hart_places → bs ≡ map is_halted hs → v ≡ number_of bs
    → bit_and v 4294967295 ≡ haltsum selected hs
halted_shown selected hs bs v first most bits is =
    let long : length bs ≡ length hs = ap length bits ∙ length-map hs is_halted in
    let below : number_of bs < 2 ^ length bs = number_of_below bs in
    let room : 2 ^ length bs ≤ 16 = few (length bs) (omega (arith, long, most)) in
    let small : v < 2 ^ 32 = omega (arith, is, below, room) in
    let same : v % 2 ^ 32 ≡ v = omega (arith, small) in
    and_mask v 32 ∙ same ∙ is ∙ ap number_of bits
    ∙ sym (ap (λ b. cond b (number_of (map is_halted hs)) 0) (lt-ltb selected 32 first))
