-- Where the code of a session stands behind an Access that covers or uncovers a word.
use Rattle.std.proofs.Common.{◌≡◌, ◌∙◌, ◌+◌, ◌<◌, ◌≤◌, ℕ, zero, suc, Bool, true, false, ◌||◌, List, [], ◌∷◌, Option, Some, None, is_some, refl, ap, subst}
use Rattle.std.proofs.Common.{inl, inr, arith}
use Rattle.std.specs.Prelude.{◌==◌, unwrap_or}
use Rattle.std.specs.FinMap.{get}
use Rattle.std.proofs.lemmas.Bool.{cases_eq, eqb-true, false≢true}
use Rattle.rv_model.specs.declared.size.Size.TheVariants.{B4}
use Rattle.rv_model.specs.Board.{Board}
use Rattle.rv_model.specs.Memory.{Bytes, is_inside, value_at, with_byte}
use Rattle.abstract_debugger.specs.Plan.{patch_bytes}
use Rattle.abstract_debugger.specs.Plan.Change.{WriteMem}
use Rattle.abstract_debugger.specs.Plan.Plan.{change}
use Rattle.abstract_debugger.specs.Turns.{after_turns}
use Rattle.abstract_debugger.proofs.DealsLemmas.{deals_stored}
use Rattle.soft_laws.specs.CallLaws.{CoveringStands, UncoveringStands}
use Rattle.soft_laws.specs.Lowered.{Table, hidden_board, hidden_bytes, lower, patched_table}
use Rattle.soft_laws.specs.Shown.{original_at}
use Rattle.soft_laws.specs.SoftBreaks.{ebreak_word, is_listed, meets, meets_some}
use Rattle.soft_laws.specs.SoftDebugger.{word_at}
use Rattle.soft_laws.proofs.ByteLemmas.{value_alike}
use Rattle.soft_laws.proofs.PatchLemmas.{get-hidden, hidden_held}
use Rattle.soft_laws.proofs.PatchedLemmas.{either_true, meets-here}

-- a byte of a covered word
listed-meets : (cs : List ℕ) (a q : ℕ) → is_listed cs a ≡ true → a ≤ q → q < a + 4 → meets_some cs q 1 ≡ true
listed-meets [] a q is from less = absurd (false≢true is)
listed-meets (c ∷ cs) a q is from less = elim (either_true (a == c) (is_listed cs a) is) [
  | inl e ↦ ap (λ b. b || meets_some cs q 1) (subst (λ n. meets n q 1 ≡ true) (eqb-true a c e) (meets-here a q from less))
  | inr e ↦ later (meets c q 1) (meets_some cs q 1) (listed-meets cs a q e from less)
]
  where
    later : (x y : Bool) → y ≡ true → (x || y) ≡ true
    later true y e = refl
    later false y e = e

-- each byte of a word that memory has
held_byte : (m : Bytes) (a n q : ℕ) → is_some (value_at m a n) ≡ true → a ≤ q → q < a + n → is_some (get m q) ≡ true
held_byte m a zero q is from less = absurd (omega arith)
held_byte m a (suc n) q is from less = by (get m a) (value_at m (a + 1) n) refl is (held_byte m (a + 1) n q)
  where
    by : (o rest : Option ℕ) → get m a ≡ o → is_some (with_byte o rest) ≡ true → (is_some rest ≡ true → a + 1 ≤ q → q < a + 1 + n → is_some (get m q) ≡ true)
        → is_some (get m q) ≡ true
    by None rest e held later = absurd (false≢true held)
    by (Some v) None e held later = absurd (false≢true held)
    by (Some v) (Some w) e held later = elim (cases_eq q a) [
      | inl same ↦ ap (λ k. is_some (get m k)) same ∙ ap is_some e
      | inr other ↦ later refl (omega (arith, from, other)) (omega (arith, less))
    ]

-- the word seen at a covered address is the remembered one, where memory has a word there
pub shown-word : (t : Table) (b : Board) (a : ℕ) → is_listed t.covered a ≡ true → is_inside b.memory a B4 ≡ true
    → word_at a (hidden_board t b) ≡ original_at t a
shown-word t b a is held = ap (λ o. unwrap_or o 0) (value_alike (hidden_bytes t.covered t.originals b.memory.bytes) t.originals a 4 (λ q from less.
    get-hidden t.covered t.originals b.memory.bytes q
    ∙ hidden_held t.covered q (get t.originals q) (get b.memory.bytes q) (listed-meets t.covered a q is from less)
    (held_byte b.memory.bytes a 4 q held from less)))

pub uncovering_stands : UncoveringStands
unfolding lower
uncovering_stands m sel way o a next t lines old new is d at held =
    deals_stored m sel way o a patch_bytes (original_at t a)
    (λ b. change (WriteMem a patch_bytes (word_at a (hidden_board t b)))
    (lower (next (word_at a (hidden_board t b))) (patched_table false a (word_at a (hidden_board t b)) t)))
    (lower (next (original_at t a)) (patched_table false a (original_at t a) t)) lines old new d at
    (ap (λ w. change (WriteMem a patch_bytes w) (lower (next w) (patched_table false a w t))) (shown-word t (after_turns at.before old.board) a is held))

pub covering_stands : CoveringStands
unfolding lower
covering_stands m sel way o a original next t lines old new d at =
    deals_stored m sel way o a patch_bytes ebreak_word (λ b. change (WriteMem a patch_bytes ebreak_word) (lower next (patched_table true a original t)))
    (lower next (patched_table true a original t)) lines old new d at refl
