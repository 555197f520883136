-- The immediate of every instruction that a word means has at most 64 bits.
use Rattle.std.proofs.Common.{◌≡◌, ◌+◌, ◌*◌, ◌^◌, ℕ, Bool, true, false, cond, List, [], ◌∷◌, Some, find, option_map, arith, subst}
use Rattle.std.proofs.lemmas.Option.{none-some, same_Some}
use Rattle.rv_model.specs.declared.insn.Insn.{Insn}
use Rattle.rv_model.specs.declared.insn.Insn.TheVariants.{Lui, Auipc, Jal, Jalr, Branch, Immediate, Shift, WordShift, CsrImmediate}
use Rattle.rv_model.specs.Fields.{field, imm_b, imm_i, imm_j, imm_s, imm_u}
use Rattle.rv_model.specs.Rows.{Row, matches, meaning, meaning_in, rows}
use Rattle.rv_model.proofs.WideWords.{IsWide, extended_wide}

imm_i_wide : (w : ℕ) → IsWide (imm_i w)
imm_i_wide w = extended_wide 12 (field 20 12 w) (omega arith) (omega arith) (omega arith)

imm_s_wide : (w : ℕ) → IsWide (imm_s w)
imm_s_wide w = extended_wide 12 (field 25 7 w * 2 ^ 5 + field 7 5 w) (omega arith) (omega arith) (omega arith)

imm_b_wide : (w : ℕ) → IsWide (imm_b w)
imm_b_wide w = extended_wide 13 (field 31 1 w * 2 ^ 12 + field 7 1 w * 2 ^ 11 + field 25 6 w * 2 ^ 5 + field 8 4 w * 2) (omega arith) (omega arith)
    (omega arith)

imm_u_wide : (w : ℕ) → IsWide (imm_u w)
imm_u_wide w = extended_wide 32 (field 12 20 w * 2 ^ 12) (omega arith) (omega arith) (omega arith)

imm_j_wide : (w : ℕ) → IsWide (imm_j w)
imm_j_wide w = extended_wide 21 (field 31 1 w * 2 ^ 20 + field 12 8 w * 2 ^ 12 + field 20 1 w * 2 ^ 11 + field 21 10 w * 2) (omega arith) (omega arith)
    (omega arith)

amount_wide : (w : ℕ) → IsWide (field 20 6 w)
amount_wide w = omega arith

amount_word_wide : (w : ℕ) → IsWide (field 20 5 w)
amount_word_wide w = omega arith

csr_imm_wide : (w : ℕ) → IsWide (field 15 5 w)
csr_imm_wide w = omega arith

-- the immediate, or the amount, of an instruction that has one
abbrev pub ImmediateWide : Insn → Type 0
ImmediateWide (Lui p) = IsWide p.imm
ImmediateWide (Auipc p) = IsWide p.imm
ImmediateWide (Jal p) = IsWide p.imm
ImmediateWide (Jalr p) = IsWide p.imm
ImmediateWide (Branch condition p) = IsWide p.imm
ImmediateWide (Immediate op p) = IsWide p.imm
ImmediateWide (Shift op p) = IsWide p.amount
ImmediateWide (WordShift op p) = IsWide p.amount
ImmediateWide (CsrImmediate change p) = IsWide p.imm
ImmediateWide _ = Unit {0}

abbrev RowsWide : ℕ → List Row → Type 0
RowsWide w [] = Unit {0}
RowsWide w (r ∷ rs) = ImmediateWide (r.operands w) × RowsWide w rs

-- one row, and those behind it
infixr 2 ◌⨾◌
abbrev ◌⨾◌ : {A B : Type 0} → A → B → A × B
a ⨾ b = (a, b)

all_rows : (w : ℕ) → RowsWide w rows
all_rows w =
    imm_u_wide w ⨾ imm_u_wide w ⨾ imm_j_wide w ⨾ imm_i_wide w ⨾ imm_b_wide w ⨾ imm_b_wide w ⨾ imm_b_wide w ⨾ imm_b_wide w ⨾ imm_b_wide w
    ⨾ imm_b_wide w ⨾ tt ⨾ tt ⨾ tt ⨾ tt ⨾ tt ⨾ tt ⨾ tt ⨾ tt ⨾ tt ⨾ tt ⨾ tt ⨾ imm_i_wide w ⨾ imm_i_wide w ⨾ imm_i_wide w ⨾ imm_i_wide w
    ⨾ imm_i_wide w ⨾ imm_i_wide w ⨾ amount_wide w ⨾ amount_wide w ⨾ amount_wide w ⨾ imm_i_wide w ⨾ amount_word_wide w ⨾ amount_word_wide w
    ⨾ amount_word_wide w ⨾ tt ⨾ tt ⨾ tt ⨾ tt ⨾ tt ⨾ tt ⨾ tt ⨾ tt ⨾ tt ⨾ tt ⨾ tt ⨾ tt ⨾ tt ⨾ tt ⨾ tt ⨾ tt ⨾ tt ⨾ tt ⨾ tt ⨾ tt ⨾ tt ⨾ tt ⨾ tt
    ⨾ tt ⨾ tt ⨾ tt ⨾ tt ⨾ tt ⨾ tt ⨾ tt ⨾ tt ⨾ tt ⨾ tt ⨾ tt ⨾ tt ⨾ tt ⨾ tt ⨾ tt ⨾ tt ⨾ tt ⨾ tt ⨾ tt ⨾ tt ⨾ tt ⨾ tt ⨾ tt ⨾ tt ⨾ tt ⨾ tt ⨾ tt
    ⨾ tt ⨾ tt ⨾ tt ⨾ tt ⨾ tt ⨾ csr_imm_wide w ⨾ csr_imm_wide w ⨾ csr_imm_wide w ⨾ tt ⨾ tt ⨾ tt ⨾ tt ⨾ tt

by_match : (w : ℕ) (r : Row) (rs : List Row) (insn : Insn) (b : Bool) → ImmediateWide (r.operands w) → (meaning_in rs w ≡ Some insn → ImmediateWide insn)
    → option_map (λ (s : Row). s.operands w) (cond b (Some r) (find (matches w) rs)) ≡ Some insn → ImmediateWide insn
by_match w r rs insn true p later e = subst (λ i. ImmediateWide i) (same_Some (r.operands w) insn e) p
by_match w r rs insn false p later e = later e

found_wide : (w : ℕ) (rs : List Row) (insn : Insn) → RowsWide w rs → meaning_in rs w ≡ Some insn → ImmediateWide insn
found_wide w [] insn all is = absurd (none-some insn is)
found_wide w (r ∷ rs) insn (p, all) is = by_match w r rs insn (matches w r) p (found_wide w rs insn all) is

pub meaning_wide : (w : ℕ) (insn : Insn) → meaning w ≡ Some insn → ImmediateWide insn
unfolding meaning
meaning_wide w insn is = found_wide w rows insn (all_rows w) is
