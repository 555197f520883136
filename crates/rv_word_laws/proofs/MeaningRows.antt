-- A word that means an instruction by the table means it by the instruction's own line of the relation.
use Rattle.std.proofs.Common.{◌≡◌, ℕ, List, [], ◌∷◌, drop, Some, cond, option_map, find, bit_and, refl, sym, ap, subst, ◌∙◌, inl, inr}
use Rattle.std.proofs.lemmas.Bool.{cases_Bool, eqb-true}
use Rattle.rv_model.specs.declared.insn.Insn.{Insn}
use Rattle.rv_model.specs.Rows.{Row, rows, matches, meaning_in, meaning}
use Rattle.rv_model.specs.Means.{Matches, Means}

-- what each of the rows says of a word that it matches is what the relation says
abbrev pub AllMean : ℕ → List Row → Type 0
AllMean w [] = Unit {0}
AllMean w (r ∷ rs) = (bit_and w r.mask ≡ r.code → Means w (r.operands w)) × AllMean w rs

means_in : (w : ℕ) (insn : Insn) (rs : List Row) → AllMean w rs → meaning_in rs w ≡ Some insn → Means w insn
means_in w insn [] all is = cc
means_in w insn (r ∷ rs) all is =
    elim (cases_Bool (matches w r)) [
      | inl here ↦
          let found : Some (r.operands w) ≡ Some insn = sym (ap (λ b. option_map (λ s. s.operands w) (cond b (Some r) (find (matches w) rs))) here) ∙ is in
          let same : r.operands w ≡ insn = cc in
          subst (Means w) same (all.0 (eqb-true _ _ here))
      | inr past ↦ means_in w insn rs all.1 (sym (ap (λ b. option_map (λ s. s.operands w) (cond b (Some r) (find (matches w) rs))) past) ∙ is)
    ]

-- a row with operands
stated : {w mask code : ℕ} {A : Type 0} → A → bit_and w mask ≡ code → Matches w mask code A
stated a is = record { code_is = is; operands_are = a }

-- a line for each opcode
all_mean : (w : ℕ) → AllMean w rows
all_mean w =
    let from_90 : AllMean w (drop 90 rows) = (stated refl, (stated refl, ((λ is. is), ((λ is. is), ((λ is. is), ((λ is. is), tt)))))) in
    let from_84 : AllMean w (drop 84 rows) = ((λ is. is), ((λ is. is), (stated refl, (stated refl, (stated refl, (stated refl, from_90)))))) in
    let from_78 : AllMean w (drop 78 rows) = (stated refl, (stated refl, (stated refl, (stated refl, (stated refl, (stated refl, from_84)))))) in
    let from_72 : AllMean w (drop 72 rows) = (stated refl, (stated refl, (stated refl, (stated refl, (stated refl, (stated refl, from_78)))))) in
    let from_66 : AllMean w (drop 66 rows) = (stated refl, (stated refl, (stated refl, (stated refl, (stated refl, (stated refl, from_72)))))) in
    let from_60 : AllMean w (drop 60 rows) = (stated refl, (stated refl, (stated refl, (stated refl, (stated refl, (stated refl, from_66)))))) in
    let from_54 : AllMean w (drop 54 rows) = (stated refl, (stated refl, (stated refl, (stated refl, (stated refl, (stated refl, from_60)))))) in
    let from_48 : AllMean w (drop 48 rows) = (stated refl, (stated refl, (stated refl, (stated refl, (stated refl, (stated refl, from_54)))))) in
    let from_42 : AllMean w (drop 42 rows) = (stated refl, (stated refl, (stated refl, (stated refl, (stated refl, (stated refl, from_48)))))) in
    let from_36 : AllMean w (drop 36 rows) = (stated refl, (stated refl, (stated refl, (stated refl, (stated refl, (stated refl, from_42)))))) in
    let from_30 : AllMean w (drop 30 rows) = (stated refl, (stated refl, (stated refl, (stated refl, (stated refl, (stated refl, from_36)))))) in
    let from_24 : AllMean w (drop 24 rows) = (stated refl, (stated refl, (stated refl, (stated refl, (stated refl, (stated refl, from_30)))))) in
    let from_18 : AllMean w (drop 18 rows) = (stated refl, (stated refl, (stated refl, (stated refl, (stated refl, (stated refl, from_24)))))) in
    let from_12 : AllMean w (drop 12 rows) = (stated refl, (stated refl, (stated refl, (stated refl, (stated refl, (stated refl, from_18)))))) in
    let from_6 : AllMean w (drop 6 rows) = (stated refl, (stated refl, (stated refl, (stated refl, (stated refl, (stated refl, from_12)))))) in
    (stated refl, (stated refl, (stated refl, (stated refl, (stated refl, (stated refl, from_6))))))

pub means_from_meaning : (w : ℕ) (insn : Insn) → meaning w ≡ Some insn → Means w insn
unfolding meaning
means_from_meaning w insn is = means_in w insn rows (all_mean w) is
