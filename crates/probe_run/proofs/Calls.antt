-- From the calls that were made to what they did at a told chip, and what is known of it behind them.
use Rattle.std.proofs.Common.{◌≡◌, ◌++◌, ℕ, List, [], ◌∷◌, Option, Some, None, IfSome, refl, sym, subst}
use Rattle.std.specs.Prelude.{◌⊎◌}
use Rattle.debug_model.specs.declared.dmi.DmiFault.{DmiFault}
use Rattle.debug_model.specs.declared.dmi_op.DmiOp.{DmiOp}
use Rattle.debug_model.specs.Dmi.{OperationCut, SiteCut}
use Rattle.debug_model.specs.Module.{Site}
use Rattle.debug_model.specs.Scan.{WhereTold}
use Rattle.debug_model.specs.Told.{Far, site_of}
use Rattle.abstract_debugger.specs.Stands.{Target}
use Rattle.probe_run.specs.Acts.{Act, Broke, Did, Tells}
use Rattle.probe_run.specs.Acts.Attempt.{Operation}
use Rattle.probe_run.specs.Happens.{Leaves, LeftBy, target_of}
use Rattle.probe_run.proofs.Moves.{selected_in}
use Rattle.probe_run.proofs.RanLemmas.{FarRan, Ran, far_ran, none_ran, untold, where_told}

-- ---- two stretches

pub record RanBoth (xs ys : List Act) (s t : Site) : Type 0 where
  pub mid : Site
  pub first : Ran xs s mid
  pub second : Ran ys mid t

pub ran_split : (xs ys : List Act) (s t : Site) → Ran (xs ++ ys) s t → RanBoth xs ys s t
ran_split [] ys s t r = record { mid = s; first = refl; second = r }
ran_split (x ∷ xs) ys s t (m, did, rest) = let b : RanBoth xs ys m t = ran_split xs ys m t rest in
    record { mid = b.mid; first = (m, did, b.first); second = b.second }

-- ---- where a chip is told

pub record CallRan (E : Site → Site → Type 0) (f : Far) (told : Option Far) : Type 0 where
  pub far : Far
  pub is : told ≡ Some far
  pub holds : E (site_of f) (site_of far)

abbrev pub Outcome : (Site → Site → Type 0) → Option Far → Option Far → Type 0
Outcome E None new = new ≡ None
Outcome E (Some f) new = CallRan E f new

abbrev pub Holds : (Site → Type 0) → Option Far → Type 0
Holds P told = IfSome told (λ f. P (site_of f))

pub holds_both : (P Q : Site → Type 0) (told : Option Far) → Holds P told → Holds Q told → Holds (λ s. P s × Q s) told
holds_both P Q None p q = tt
holds_both P Q (Some f) p q = (p, q)

did_by : (acts : List Act) (E : Site → Site → Type 0) (P : Site → Type 0) (old new : Tells) (told : Option Far) → old.far ≡ told → Holds P told
    → ((s t : Site) → P s → Ran acts s t → E s t)
    → Did old acts new → Outcome E told new.far
did_by acts E P old new None at p leads d = none_ran old at acts new d
did_by acts E P old new (Some f) at p leads d =
    let r : FarRan acts f new.far = far_ran old f at acts new d in record { far = r.far; is = r.is; holds = leads (site_of f) (site_of r.far) p r.ran }

pub did_outcome : (acts : List Act) (E : Site → Site → Type 0) (P : Site → Type 0) (old new : Tells) → Holds P old.far
    → ((s t : Site) → P s → Ran acts s t → E s t) → Did old acts new → Outcome E old.far new.far
did_outcome acts E P old new p leads d = did_by acts E P old new old.far refl p leads d

broke_by : (acts : List Act) (op : DmiOp) (E : Site → Site → Type 0) (P : Site → Type 0) (old_count new_count : ℕ) (old : Tells) (new : Option Far)
    (fault : DmiFault) (told : Option Far) → old.far ≡ told → Holds P told
    → ((s e t : Site) → P s → Ran acts s e → SiteCut op e t → E s t) → Broke acts (Operation op) old_count new_count old new fault → Outcome E told new
broke_by acts op E P old_count new_count old new fault None at p leads b = untold (OperationCut op) b.mid.far new (none_ran old at acts b.mid b.did) b.cut
broke_by acts op E P old_count new_count old new fault (Some f) at p leads b =
    let r : FarRan acts f b.mid.far = far_ran old f at acts b.mid b.did in
    let c : OperationCut op r.far.live.chip new = where_told (OperationCut op) b.mid.far new r.far r.is b.cut in
    record { far = c.far; is = c.is; holds = leads (site_of f) (site_of r.far) (site_of c.far) p r.ran c.site }

pub broke_outcome : (acts : List Act) (op : DmiOp) (E : Site → Site → Type 0) (P : Site → Type 0) (old_count new_count : ℕ) (old : Tells) (new : Option Far)
    (fault : DmiFault) → Holds P old.far
    → ((s e t : Site) → P s → Ran acts s e → SiteCut op e t → E s t) → Broke acts (Operation op) old_count new_count old new fault → Outcome E old.far new
broke_outcome acts op E P old_count new_count old new fault p leads b = broke_by acts op E P old_count new_count old new fault old.far refl p leads b

-- ---- what a contract says of it

pub record Happened (R : Target → Target → Type 0) (h : ℕ) (s t : Site) : Type 0 where
  pub happened : R (target_of s) (target_of t)
  pub unit : t.unit ≡ selected_in h s.unit

pub outcome_leaves : (R : Target → Target → Type 0) (h : ℕ) (E : Site → Site → Type 0) (old new : Option Far) → ((s t : Site) → E s t → Happened R h s t)
    → Outcome E old new → WhereTold (Leaves R h) old new
outcome_leaves R h E None new to o = o
outcome_leaves R h E (Some f) new to o = let q : Happened R h (site_of f) (site_of o.far) = to (site_of f) (site_of o.far) o.holds in
    record { far = o.far; is = o.is; happened = q.happened; unit = q.unit }

pub record HappenedCut (R : Target → Target → Type 0) (h : ℕ) (s t : Site) : Type 0 where
  pub happened : R (target_of s) (target_of t)
  pub unit : (t.unit ≡ s.unit) ⊎ (t.unit ≡ selected_in h s.unit)

pub outcome_left : (R : Target → Target → Type 0) (h : ℕ) (E : Site → Site → Type 0) (old new : Option Far) → ((s t : Site) → E s t → HappenedCut R h s t)
    → Outcome E old new → WhereTold (LeftBy R h) old new
outcome_left R h E None new to o = o
outcome_left R h E (Some f) new to o = let q : HappenedCut R h (site_of f) (site_of o.far) = to (site_of f) (site_of o.far) o.holds in
    record { far = o.far; is = o.is; happened = q.happened; unit = q.unit }

pub outcome_holds : (Q : Site → Type 0) (E : Site → Site → Type 0) (old new : Option Far) → ((s t : Site) → E s t → Q t) → Outcome E old new → Holds Q new
outcome_holds Q E None new to o = subst (λ told. Holds Q told) (sym o) tt
outcome_holds Q E (Some f) new to o = subst (λ told. Holds Q told) (sym o.is) (to (site_of f) (site_of o.far) o.holds)
