-- The bits of a number that a list of bits spells, one by one.
use Rattle.std.proofs.Common.{◌≡◌, ℕ, zero, suc, ◌+◌, ◌*◌, ◌/◌, ◌%◌, ◌^◌, ◌==◌, ◌<◌, Bool, true, false, List, [], ◌∷◌, map, cond, slice_get, sym, ap, ◌∙◌}
use Rattle.std.proofs.Common.{arith}
use Rattle.std.proofs.lemmas.Bool.{lt-ltb}
use Rattle.std.proofs.Math.Nat.{div-div-eq-div-mul, pow-succ', zero-div}
use Rattle.std.specs.Option.{option_map_or}
use Rattle.jt_base.specs.BitList.{digit, number_of}
use Rattle.rv_model.specs.Board.{Hart}
use Rattle.rv_model.specs.Fields.{bit}
use Rattle.debug_model.specs.Module.{group_size, haltsum, is_halted}

halved : (b : Bool) (n : ℕ) → (digit b + 2 * n) / 2 ≡ n
halved true n = omega arith
halved false n = omega arith

-- a bit further up of a number whose lowest digit is known
further : (h n : ℕ) (b : Bool) → bit (suc h) (digit b + 2 * n) ≡ bit h n
further h n b = ap (λ k. k % 2 ^ 1 == 1)
    (ap (λ k. (digit b + 2 * n) / k) (pow-succ' 2 h) ∙ sym (div-div-eq-div-mul (digit b + 2 * n) 2 (2 ^ h)) ∙ ap (λ k. k / 2 ^ h) (halved b n))

lowest_bit : (b : Bool) (n : ℕ) → bit 0 (digit b + 2 * n) ≡ b
lowest_bit true n = ap (λ k. k == 1) (let e : (1 + 2 * n) / 1 % 2 ≡ 1 = omega arith in e)
lowest_bit false n = ap (λ k. k == 1) (let e : (0 + 2 * n) / 1 % 2 ≡ 0 = omega arith in e)

no_bit : (h : ℕ) → bit h 0 ≡ false
no_bit h = ap (λ k. k % 2 ^ 1 == 1) (zero-div (2 ^ h))

bits_halted : (harts : List Hart) (h : ℕ) → bit h (number_of (map is_halted harts)) ≡ option_map_or is_halted (slice_get harts h) false
unfolding number_of
bits_halted [] h = no_bit h
bits_halted (x ∷ xs) zero = lowest_bit (is_halted x) (number_of (map is_halted xs))
bits_halted (x ∷ xs) (suc h) = further h (number_of (map is_halted xs)) (is_halted x) ∙ bits_halted xs h

pub haltsum_shows : (selected : ℕ) (harts : List Hart) (h : ℕ) → selected < group_size
    → bit h (haltsum selected harts) ≡ option_map_or is_halted (slice_get harts h) false
haltsum_shows selected harts h first =
    ap (λ b. bit h (cond b (number_of (map is_halted harts)) 0)) (lt-ltb selected 32 first) ∙ bits_halted harts h
