-- The bytes of a word: by place, in memory, and behind a change of one of them.
use Rattle.std.proofs.Common.{◌≡◌, ◌∙◌, ◌+◌, ◌-◌, ◌/◌, ◌%◌, ◌^◌, ◌<◌, ◌≤◌, ◌⊎◌, set, ℕ, zero, suc, [], Option, Some, get_or}
use Rattle.std.proofs.Common.{refl, sym, ap, subst, inl, inr, arith, if◌then◌else◌}
use Rattle.std.specs.Prelude.{◌==◌}
use Rattle.std.specs.Int.{byte_at, from_le_bytes, to_le_bytes, w32}
use Rattle.std.proofs.lemmas.Bool.{cases_eq, eq-eqb}
use Rattle.std.proofs.lemmas.List.{get_or-set_other, get_or-set_same, length-set}
use Rattle.std.proofs.lemmas.Nat.{le_bytes_4}
use Rattle.std.proofs.lemmas.Option.{same_Some}
use Rattle.rv_model.specs.Memory.{kept_byte, ram_base}
use Rattle.rv_model.proofs.MapLemmas.{kept_high}
use Rattle.soft_laws.proofs.ByteLemmas.{byte_above, byte_below, byte_or}
use Rattle.soft_laws.proofs.PatchLemmas.{ebreak_bytes}
use Rattle.soft_laws.specs.Lowered.{ebreak_over}
use Rattle.soft_laws.specs.SoftBreaks.{ebreak_word}
use Rattle.soft_break.specs.Patches.{IsReplaced}

-- ---- in memory

low_byte : ℕ → ℕ → ℕ
low_byte zero w = w % 256
low_byte (suc k) w = low_byte k (w / 256)

byte_in : (a n w k q : ℕ) (o : Option ℕ) → ram_base ≤ a → q ≡ a + k → k < n → byte_or a n w q o ≡ Some (low_byte k w)
unfolding low_byte
byte_in a zero w k q o high is less = absurd (omega arith)
byte_in a (suc n) w zero q o high is less =
    byte_below (a + 1) n (w / 256) q (if q == a then Some (kept_byte a (w % 256)) else o) (omega arith)
    ∙ ap (λ b. if b then Some (kept_byte a (w % 256)) else o) (eq-eqb q a (omega arith)) ∙ ap Some (kept_high a (w % 256) high)
byte_in a (suc n) w (suc k) q o high is less =
    byte_in (a + 1) n (w / 256) k q (if q == a then Some (kept_byte a (w % 256)) else o) (omega arith) (omega arith) (omega arith)

low_byte-is : (k w : ℕ) → k < 4 → low_byte k w ≡ byte_at k w
unfolding low_byte
low_byte-is zero w h = refl
low_byte-is (suc zero) w h = refl
low_byte-is (suc (suc zero)) w h = twice w
  where
    twice : (w : ℕ) → w / 256 / 256 % 256 ≡ w / 65536 % 256
    twice w = omega arith
low_byte-is (suc (suc (suc zero))) w h = thrice w
  where
    thrice : (w : ℕ) → w / 256 / 256 / 256 % 256 ≡ w / 16777216 % 256
    thrice w = omega arith
low_byte-is (suc (suc (suc (suc k)))) w h = absurd (omega arith)

pub byte_here : (a w q : ℕ) (o : Option ℕ) → ram_base ≤ a → a ≤ q → q < a + 4 → byte_or a 4 w q o ≡ Some (byte_at (q - a) w)
byte_here a w q o high from less = byte_in a 4 w (q - a) q o high (omega arith) (omega arith) ∙ ap Some (low_byte-is (q - a) w (omega arith))

pub ebreak_here : (a q byte : ℕ) → ram_base ≤ a → a ≤ q → q < a + 4 → ebreak_over a q byte ≡ byte_at (q - a) ebreak_word
ebreak_here a q byte high from less =
    same_Some (ebreak_over a q byte) (byte_at (q - a) ebreak_word) (sym (ebreak_bytes a q byte high) ∙ byte_here a ebreak_word q (Some byte) high from less)

pub ebreak_apart : (a q byte : ℕ) → ram_base ≤ a → (q < a) ⊎ (a + 4 ≤ q) → ebreak_over a q byte ≡ byte
ebreak_apart a q byte high (inl under) =
    same_Some (ebreak_over a q byte) byte (sym (ebreak_bytes a q byte high) ∙ byte_below a 4 ebreak_word q (Some byte) under)
ebreak_apart a q byte high (inr over) =
    same_Some (ebreak_over a q byte) byte (sym (ebreak_bytes a q byte high) ∙ byte_above a 4 ebreak_word q (Some byte) over)

-- ---- one byte changed

mod_small : (v : ℕ) → v % 256 < 256
mod_small v = omega arith

small_byte : (w i : ℕ) → get_or (to_le_bytes w32 w) i 0 < 256
small_byte w zero = mod_small w
small_byte w (suc zero) = mod_small (w / 256 ^ 1)
small_byte w (suc (suc zero)) = mod_small (w / 256 ^ 2)
small_byte w (suc (suc (suc zero))) = mod_small (w / 256 ^ 3)
small_byte w (suc (suc (suc (suc i)))) = nothing i
  where
    nothing : (i : ℕ) → get_or [] i 0 < 256
    nothing zero = omega arith
    nothing (suc i) = omega arith

get_or-le_bytes : (w k : ℕ) → k < 4 → get_or (to_le_bytes w32 w) k 0 ≡ byte_at k w
get_or-le_bytes w zero h = refl
get_or-le_bytes w (suc zero) h = refl
get_or-le_bytes w (suc (suc zero)) h = refl
get_or-le_bytes w (suc (suc (suc zero))) h = refl
get_or-le_bytes w (suc (suc (suc (suc k)))) h = absurd (omega arith)

pub replaced : (w new k byte : ℕ) → k < 4 → byte < 256 → new ≡ from_le_bytes w32 (set (to_le_bytes w32 w) k byte) → IsReplaced k byte w new
replaced w new k byte inside small is = record {
  there = sym (get_or-le_bytes new k inside) ∙ ap (λ l. get_or l k 0) same ∙ get_or-set_same (to_le_bytes w32 w) k byte 0 inside;
  others = λ j less other. sym (get_or-le_bytes new j less) ∙ ap (λ l. get_or l j 0) same ∙ get_or-set_other (to_le_bytes w32 w) k j byte 0 other
      ∙ get_or-le_bytes w j less;
}
  where
    each : (i : ℕ) → get_or (set (to_le_bytes w32 w) k byte) i 0 < 256
    each i = elim (cases_eq i k) [
      | inl e ↦ subst (λ n. get_or (set (to_le_bytes w32 w) k byte) n 0 < 256) (sym e)
          (subst (λ v. v < 256) (sym (get_or-set_same (to_le_bytes w32 w) k byte 0 inside)) small)
      | inr other ↦ subst (λ v. v < 256) (sym (get_or-set_other (to_le_bytes w32 w) k i byte 0 other)) (small_byte w i)
    ]

    same : to_le_bytes w32 new ≡ set (to_le_bytes w32 w) k byte
    same = le_bytes_4 (set (to_le_bytes w32 w) k byte) new (length-set (to_le_bytes w32 w) k byte) each is
