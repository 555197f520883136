-- A call's bound where the first Looks show what is waited for, and how its Looks go on.
use Rattle.std.proofs.Common.{◌≡◌, ◌⊎◌, ◌+◌, ◌≤◌, ℕ, zero, suc, Bool, false, Option, Some, None, IfSome, inl, inr, refl, ap, subst, arith}
use Rattle.debug_model.proofs.RiseLemmas.{within_more}
use Rattle.debug_model.specs.Kept.{DmiSeen}
use Rattle.debug_model.specs.Pacing.{Paced}
use Rattle.debug_model.specs.Rises.{PacedWithin, Within}
use Rattle.debug_model.specs.Scan.{WhereTold}
use Rattle.debug_model.specs.Told.{Far, chip_of}
use Rattle.abstract_debugger.specs.Debugger.{Seen}
use Rattle.probe_run.specs.declared.control.Request.{Request}
use Rattle.probe_run.specs.Acts.{Tells}
use Rattle.probe_run.specs.Looks.{seen_in}
use Rattle.probe_run.specs.Outcomes.{asks}
use Rattle.probe_run.specs.Soon.{Unpaced, VainLooks, WithinLooks}
use Rattle.probe_run.specs.Told.{told}
use Rattle.probe_run.proofs.Waiting.{Looked, Vain, vain_of}

unpaced_told : (slack : Option ℕ) (n k : ℕ) (old new : Option Far) → IfSome old (λ f. Paced (chip_of f).inside → ⊥)
    → WhereTold (λ c now. Paced c.inside → PacedWithin slack n c now) old new → WhereTold (λ c now. Paced c.inside → PacedWithin slack k c now) old new
unpaced_told slack n k None new never w = w
unpaced_told slack n k (Some f) new never w = λ paced. absurd (never paced)

-- where no schedule is fair any number bounds
pub within_unpaced : (n k : ℕ) (old new : DmiSeen) → Within n old new → Unpaced old → Within k old new
within_unpaced n k old new w never = record { told = unpaced_told old.fixed.slack n k old.far new.far never w.told }

pub within_soon : (n all : ℕ) (V : Type 0) (old new : DmiSeen) → Within n old new ⊎ V → Within all old new → (V → Unpaced old) → Within n old new
within_soon n all V old new soon w never = elim soon [ inl near ↦ near | inr vain ↦ within_unpaced all n old new w (never vain) ]

-- ---- Looks, one after another

-- at most so many, or this many in vain
abbrev pub FewLooks : (k : ℕ) → Request → (Seen → Bool) → ℕ → Tells → Type 0
FewLooks k request test h old = (looks : ℕ) → 1 ≤ looks → (k ≤ looks) ⊎ VainLooks looks request test h old

less_or_same : (k n : ℕ) → k ≤ n → (k ≡ n) ⊎ (k + 1 ≤ n)
less_or_same zero zero few = inl refl
less_or_same zero (suc n) few = inr (omega arith)
less_or_same (suc k) zero few = absurd (omega arith)
less_or_same (suc k) (suc n) few = elim (less_or_same k n (omega arith)) [ inl same ↦ inl (ap suc same) | inr less ↦ inr (omega (arith, less)) ]

vain_looks : (request : Request) (test : Seen → Bool) (h k word : ℕ) (old now : Tells) → Looked test (asks request h) old now k word
    → test (seen_in word) ≡ false → VainLooks k request test h old
vain_looks request test h k word old now l unseen =
    let v : Vain test (asks request h) old now k = vain_of test (asks request h) old now k word l unseen in
    record { words = v.vain; count = v.count; none = v.none; mid = now; did = v.did }

pub looks_more : (request : Request) (test : Seen → Bool) (h k word : ℕ) (old now : Tells) → FewLooks k request test h old
    → Looked test (asks request h) old now k word → test (seen_in word) ≡ false → FewLooks (k + 1) request test h old
looks_more request test h k word old now few l unseen looks some = elim (few looks some) [
  | inl most ↦ elim (less_or_same k looks most) [
    | inl same ↦ inr (subst (λ n. VainLooks n request test h old) same (vain_looks request test h k word old now l unseen))
    | inr less ↦ inl less
  ]
  | inr vain ↦ inr vain
]

pub looks_within : (request : Request) (test : Seen → Bool) (h k : ℕ) (old new : DmiSeen) → FewLooks k request test h (told old) → Within (1 + k) old new
    → WithinLooks request test h old new
looks_within request test h k old new few w looks some = elim (few looks some) [
  | inl most ↦ inl (within_more (1 + k) (1 + looks) old new w (omega (arith, most)))
  | inr vain ↦ inr vain
]

pub all_vain : (request : Request) (test : Seen → Bool) (h k word looks : ℕ) (old now : Tells) → FewLooks k request test h old
    → Looked test (asks request h) old now k word → test (seen_in word) ≡ false → 1 ≤ looks → looks ≤ k → VainLooks looks request test h old
all_vain request test h k word looks old now few l unseen some most = elim (looks_more request test h k word old now few l unseen looks some) [
  | inl more ↦ absurd (omega (arith, more, most))
  | inr vain ↦ vain
]
