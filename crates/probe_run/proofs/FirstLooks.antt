-- A hart that is selected, asked and looked at in one call.
use Rattle.std.proofs.Common.{◌≡◌, ◌++◌, ◌<◌, ◌^◌, ℕ, List, [], ◌∷◌, length, map, All, Option, Some, None, slice_index_or, refl, sym, ap, subst, arith}
use Rattle.std.proofs.lemmas.List.Elements.{All-nil, All-cons}
use Rattle.chip_laws.proofs.SeveralOperations.{OperationsAt, StoppedAt, stopped_at}
use Rattle.debug_model.specs.Addresses.{dmcontrol_address, dmstatus_address}
use Rattle.debug_model.specs.declared.dmi.DmiFault.{DmiFault}
use Rattle.debug_model.specs.declared.dmi_op.DmiOp.{DmiOp}
use Rattle.debug_model.specs.declared.dmi_op.DmiOp.TheVariants.{Read, Write}
use Rattle.debug_model.specs.Course.{OneOperation, Operation}
use Rattle.debug_model.specs.Dmi.{IsOperation, SiteCut}
use Rattle.debug_model.specs.Many.{AnswersAll, ManyCause, OperatedAll, OperationsCut, op_of}
use Rattle.debug_model.specs.Module.{Site}
use Rattle.debug_model.specs.Scan.{WhereTold}
use Rattle.debug_model.specs.Told.{Far, site_of}
use Rattle.probe_run.specs.declared.control.Request.{Request}
use Rattle.probe_run.specs.declared.control.Request.TheVariants.{Nothing, Halt, Resume}
use Rattle.probe_run.specs.Acts.{Did, Tells, acts_of}
use Rattle.probe_run.specs.Acts.Act.{Put}
use Rattle.probe_run.specs.Acts.Attempt.{Several}
use Rattle.probe_run.specs.Looks.{look_act}
use Rattle.probe_run.specs.Outcomes.{FirstBroke, asks}
use Rattle.probe_run.specs.Requests.{control_word}
use Rattle.probe_run.proofs.ActLemmas.{broke_one, did_list, did_together}
use Rattle.probe_run.proofs.Calls.{Holds, Outcome}
use Rattle.probe_run.proofs.OpeningLemmas.{listed_two}
use Rattle.probe_run.proofs.RanLemmas.{FarRan, Ran, SiteDid, far_ran, none_ran, one_did, untold, where_told}

abbrev pub first_ops : ℕ → List DmiOp
first_ops word = Write dmcontrol_address word ∷ Read dmstatus_address ∷ []

first_small : (word : ℕ) → word < 2 ^ 32 → All IsOperation (first_ops word)
first_small word small =
    All-cons IsOperation (Write dmcontrol_address word) (Read dmstatus_address ∷ []) (omega arith, small)
    (All-cons IsOperation (Read dmstatus_address) [] (omega arith) (All-nil IsOperation))

control_small : (request : Request) (h : ℕ) → h < 2 ^ 10 → control_word request h < 2 ^ 32
control_small Nothing h small = omega arith
control_small Halt h small = omega arith
control_small Resume h small = omega arith

-- ---- a call that was Ok

pub first_did : (request : Request) (h word shown : ℕ) (results : List ℕ) (old new : Tells) → word ≡ control_word request h → word < 2 ^ 32
    → shown ≡ slice_index_or results 1 0 → length results ≡ 2
    → WhereTold (OperatedAll (first_ops word) results) old.far new.far → AnswersAll (first_ops word) results old.coming new.coming
    → Did old (asks request h ++ look_act shown ∷ []) new
first_did request h word shown results old new is small e two told heard =
    subst (λ w. Did old (Put dmcontrol_address w ∷ look_act shown ∷ []) new) is
    (subst (λ n. Did old (Put dmcontrol_address word ∷ look_act n ∷ []) new) (sym e)
    (did_list (acts_of (first_ops word) results) (Put dmcontrol_address word ∷ look_act (slice_index_or results 1 0) ∷ [])
    old new (ap (acts_of (first_ops word)) (listed_two results two))
    (did_together (Write dmcontrol_address word) (Read dmstatus_address ∷ []) results old new
    (record { small = first_small word small; told = told; heard = heard }))))

-- ---- one that failed

pub first_broke : (request : Request) (h word old_count new_count : ℕ) (old : Tells) (told : Option Far) (fault : DmiFault) → word ≡ control_word request h
    → WhereTold (OperationsCut (first_ops word)) old.far told → ManyCause 2 old_count new_count old.far told old.coming fault
    → FirstBroke request h old_count new_count old told fault
first_broke request h word old_count new_count old told fault is cut cause =
    broke_one (Several (Write dmcontrol_address (control_word request h)) (Read dmstatus_address ∷ [])) old_count new_count old told fault
    (subst (λ w. WhereTold (OperationsCut (first_ops w)) old.far told) is cut) cause

-- at a told chip: the request was cut, or the Look behind it
by_stop : (request : Request) (h : ℕ) (E : Site → Site → Type 0)
    (s : Site) → ((e t : Site) → Ran [] s e → SiteCut (Write dmcontrol_address (control_word request h)) e t → E s t)
    → ((e t : Site) → Ran (asks request h) s e → SiteCut (Read dmstatus_address) e t → E s t)
    → control_word request h < 2 ^ 32 → (done : List Operation) (op : DmiOp) (left : List DmiOp)
    → map op_of done ++ op ∷ left ≡ first_ops (control_word request h)
    → (e t : Site) → OperationsAt done s e → SiteCut op e t → E s t
by_stop request h E s first second small [] op left asked e t at cut =
    let is : op ≡ Write dmcontrol_address (control_word request h) = cc in
    first e t at (subst (λ o. SiteCut o e t) is cut)
by_stop request h E s first second small (o ∷ []) op left asked e t at cut =
    let before : o.op ≡ Write dmcontrol_address (control_word request h) = cc in
    let is : op ≡ Read dmstatus_address = cc in
    let one : OneOperation (Write dmcontrol_address (control_word request h)) o.result s at.0 = subst (λ p. OneOperation p o.result s at.0) before at.1 in
    let did : SiteDid (Put dmcontrol_address (control_word request h)) s at.0 =
    one_did (Write dmcontrol_address (control_word request h)) o.result s at.0 (omega arith, small) one in
    second e t (at.0, did, at.2) (subst (λ p. SiteCut p e t) is cut)
by_stop request h E s first second small (o ∷ p ∷ []) op left asked e t at cut = absurd (let no : ⊥ = cc in no)
by_stop request h E s first second small (o ∷ p ∷ q ∷ done) op left asked e t at cut = absurd (let no : ⊥ = cc in no)

first_by : (request : Request) (h : ℕ) (E : Site → Site → Type 0) (P : Site → Type 0) (old_count new_count : ℕ) (old : Tells) (new : Option Far)
    (fault : DmiFault) (told : Option Far) → control_word request h < 2 ^ 32 → old.far ≡ told → Holds P told
    → ((s e t : Site) → P s → Ran [] s e → SiteCut (Write dmcontrol_address (control_word request h)) e t → E s t)
    → ((s e t : Site) → P s → Ran (asks request h) s e → SiteCut (Read dmstatus_address) e t → E s t)
    → FirstBroke request h old_count new_count old new fault → Outcome E told new
first_by request h E P old_count new_count old new fault None small at p first second b =
    untold (OperationsCut (first_ops (control_word request h))) b.mid.far new (none_ran old at [] b.mid b.did) b.cut
first_by request h E P old_count new_count old new fault (Some f) small at p first second b =
    let r : FarRan [] f b.mid.far = far_ran old f at [] b.mid b.did in
    let c : OperationsCut (first_ops (control_word request h)) r.far.live.chip new =
    where_told (OperationsCut (first_ops (control_word request h))) b.mid.far new r.far r.is b.cut in
    let s : StoppedAt (first_ops (control_word request h)) (site_of r.far) (site_of c.far) =
    stopped_at (Write dmcontrol_address (control_word request h)) (Read dmstatus_address ∷ []) c.done c.rest c.happened (site_of r.far) (site_of c.far) c.asked
    c.once c.site in
    record {
      far = c.far;
      is = c.is;
      holds = by_stop request h E (site_of f) (λ e t. first (site_of f) e t p) (λ e t. second (site_of f) e t p) small s.done s.op s.left s.asked s.mid
          (site_of c.far) (subst (λ x. OperationsAt s.done x s.mid) r.ran s.before) s.cut;
    }

pub first_outcome : (request : Request) (h : ℕ) (E : Site → Site → Type 0) (P : Site → Type 0) (old_count new_count : ℕ) (old : Tells) (new : Option Far)
    (fault : DmiFault) → h < 2 ^ 10 → Holds P old.far
    → ((s e t : Site) → P s → Ran [] s e → SiteCut (Write dmcontrol_address (control_word request h)) e t → E s t)
    → ((s e t : Site) → P s → Ran (asks request h) s e → SiteCut (Read dmstatus_address) e t → E s t)
    → FirstBroke request h old_count new_count old new fault → Outcome E old.far new
first_outcome request h E P old_count new_count old new fault small p first second b =
    first_by request h E P old_count new_count old new fault old.far (control_small request h small) refl p first second b
