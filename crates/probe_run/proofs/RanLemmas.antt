-- What a told site went through while calls were made: one deed or operation after another, each from the site that the one before it left.
use Rattle.std.proofs.Common.{◌≡◌, ◌∙◌, ◌++◌, ◌<◌, ◌%◌, ◌^◌, ℕ, List, [], ◌∷◌, map, All, Option, Some, None, refl, sym, ap, subst, arith}
use Rattle.std.proofs.lemmas.List.Elements.{All-head, All-tail}
use Rattle.chip_laws.proofs.SeveralOperations.{OperationsAt, operations_between_deeds}
use Rattle.std.proofs.lemmas.Option.{none-some, same_Some}
use Rattle.debug_model.specs.declared.dmi_op.DmiOp.{DmiOp}
use Rattle.debug_model.specs.declared.dmi_op.DmiOp.TheVariants.{Read, Write}
use Rattle.debug_model.specs.Chip.{Chip}
use Rattle.debug_model.specs.Course.{DeedsAlone, OneOperation, Operation, SitePath}
use Rattle.debug_model.specs.Dmi.{IsOperation, value_of}
use Rattle.debug_model.specs.Many.{OperatedAll, answer_of, op_of}
use Rattle.debug_model.specs.Module.{Site}
use Rattle.debug_model.specs.Scan.{WhereTold}
use Rattle.debug_model.specs.Told.{Far, site_of}
use Rattle.debug_model.specs.Transport.{dtmcs_seen, fresh_dtm}
use Rattle.debug_model.specs.TransportWords.{dtmcs_word}
use Rattle.probe_run.specs.Acts.{Act, Did, Tells, act_of, acts_of, chip_did, op_act}
use Rattle.probe_run.specs.Acts.Act.{Scanned, Got, Put}
use Rattle.probe_run.specs.Acts.Did.{nothing, further, together}

pub record ScannedAt (value : ℕ) (s t : Site) : Type 0 where
  pub deeds : DeedsAlone s t
  pub value_is : value ≡ dtmcs_word (dtmcs_seen fresh_dtm)

-- an operation, of whose result the word is what dmi holds
pub record OperatedAt (op : DmiOp) (word : ℕ) (s t : Site) : Type 0 where
  pub result : ℕ
  pub one : OneOperation op result s t
  pub word_is : word ≡ value_of result

abbrev pub SiteDid : Act → Site → Site → Type 0
SiteDid (Scanned value) s t = ScannedAt value s t
SiteDid (Got address value) s t = OperatedAt (Read address) value s t
SiteDid (Put address value) s t = OperatedAt (Write address value) value s t

abbrev pub Ran : List Act → Site → Site → Type 0
Ran [] s t = t ≡ s
Ran (act ∷ acts) s t = (mid : Site) × SiteDid act s mid × Ran acts mid t

ran_snoc : (acts : List Act) (act : Act) (s mid t : Site) → Ran acts s mid → SiteDid act mid t → Ran (acts ++ act ∷ []) s t
ran_snoc [] act s mid t is did = (t, subst (λ x. SiteDid act x t) is did, refl)
ran_snoc (a ∷ acts) act s mid t (m, first, rest) did = (m, first, ran_snoc acts act m mid t rest did)

ran_append : (xs ys : List Act) (s m t : Site) → Ran xs s m → Ran ys m t → Ran (xs ++ ys) s t
ran_append [] ys s m t e r = subst (λ x. Ran ys x t) e r
ran_append (x ∷ xs) ys s m t p r = (p.0, p.1, ran_append xs ys p.0 m t p.2 r)

-- ---- several operations in one call

pub acts_done : (os : List Operation) → acts_of (map op_of os) (map answer_of os) ≡ map act_of os
acts_done [] = refl
acts_done (o ∷ os) = ap (λ xs. act_of o ∷ xs) (acts_done os)

small_value : (value : ℕ) → value < 2 ^ 32 → value ≡ value % 2 ^ 32
small_value value small = omega arith

pub one_did : (op : DmiOp) (result : ℕ) (s t : Site) → IsOperation op → OneOperation op result s t → SiteDid (op_act op (value_of result)) s t
one_did (Read address) result s t small one = record { result = result; one = one; word_is = refl }
one_did (Write address value) result s t small one = record {
  result = value;
  one = record { before = one.before; behind = one.behind; is = one.is; result_is = refl };
  word_is = small_value value small.1;
}

operations_ran : (os : List Operation) (s t : Site) → All IsOperation (map op_of os) → OperationsAt os s t → Ran (map act_of os) s t
operations_ran [] s t small e = e
operations_ran (o ∷ os) s t small p = (
  p.0,
  one_did o.op o.result s p.0 (All-head IsOperation o.op (map op_of os) small) p.1,
  operations_ran os p.0 t (All-tail IsOperation o.op (map op_of os) small) p.2,
)

path_ran : (op : DmiOp) (ops : List DmiOp) (os : List Operation) (s t : Site) → All IsOperation (op ∷ ops) → map op_of os ≡ op ∷ ops → SitePath s os t
    → Ran (map act_of os) s t
path_ran op ops [] s t small asked p = absurd (let no : ⊥ = cc in no)
path_ran op ops (o ∷ os) s t small asked p = operations_ran (o ∷ os) s t (subst (All IsOperation) (sym asked) small) (operations_between_deeds o os s t p)

-- the acts are those of the operations
pub acts_are : (ops : List DmiOp) (results : List ℕ) (os : List Operation) → map op_of os ≡ ops → results ≡ map answer_of os
    → acts_of ops results ≡ map act_of os
acts_are ops results os asked are = ap (λ xs. acts_of xs results) (sym asked) ∙ ap (λ rs. acts_of (map op_of os) rs) are ∙ acts_done os

-- a far end that is told, and what its site went through
pub record FarRan (acts : List Act) (f : Far) (told : Option Far) : Type 0 where
  pub far : Far
  pub is : told ≡ Some far
  pub ran : Ran acts (site_of f) (site_of far)

pub record FarDid (act : Act) (f : Far) (told : Option Far) : Type 0 where
  pub far : Far
  pub is : told ≡ Some far
  pub did : SiteDid act (site_of f) (site_of far)

far_did : (act : Act) (f : Far) (told : Option Far) → chip_did act f.live.chip told → FarDid act f told
far_did (Scanned value) f told d = record { far = d.none.far; is = d.none.is; did = record { deeds = d.none.site; value_is = d.value_is } }
far_did (Got address value) f told d = record { far = d.far; is = d.is; did = record { result = d.result; one = d.site; word_is = d.value_is } }
far_did (Put address value) f told d = record { far = d.far; is = d.is; did = record { result = d.result; one = d.site; word_is = d.value_is } }

pub where_told : (R : Chip → Option Far → Type 0) (old new : Option Far) (f : Far) → old ≡ Some f → WhereTold R old new → R f.live.chip new
where_told R None new f is w = absurd (none-some f is)
where_told R (Some e) new f is w = subst (λ x. R x.live.chip new) (same_Some e f is) w

far_together : (op : DmiOp) (ops : List DmiOp) (results : List ℕ) (f : Far) (told : Option Far) → All IsOperation (op ∷ ops)
    → OperatedAll (op ∷ ops) results f.live.chip told → FarRan (acts_of (op ∷ ops) results) f told
far_together op ops results f told small d = record {
  far = d.far;
  is = d.is;
  ran = subst (λ xs. Ran xs (site_of f) (site_of d.far)) (sym (acts_are (op ∷ ops) results d.done d.asked d.results_are))
      (path_ran op ops d.done (site_of f) (site_of d.far) small d.asked d.site);
}

pub far_ran : (old : Tells) (f : Far) → old.far ≡ Some f → (acts : List Act) (new : Tells) → Did old acts new → FarRan acts f new.far
far_ran old f is acts new nothing = record { far = f; is = is; ran = refl }
far_ran old f is acts new (further before act mid last did does) =
    let a : FarRan before f mid.far = far_ran old f is before mid did in
    let b : FarDid act a.far last.far = far_did act a.far last.far (where_told (chip_did act) mid.far last.far a.far a.is does.told) in
    record { far = b.far; is = b.is; ran = ran_snoc before act (site_of f) (site_of a.far) (site_of b.far) a.ran b.did }
far_ran old f is acts new (together before op ops results mid last did does) =
    let a : FarRan before f mid.far = far_ran old f is before mid did in
    let b : FarRan (acts_of (op ∷ ops) results) a.far last.far =
    far_together op ops results a.far last.far does.small (where_told (OperatedAll (op ∷ ops) results) mid.far last.far a.far a.is does.told) in
    record { far = b.far; is = b.is; ran = ran_append before (acts_of (op ∷ ops) results) (site_of f) (site_of a.far) (site_of b.far) a.ran b.ran }

-- where no chip is told, none is told behind a call, nor behind any number of them
pub untold : (R : Chip → Option Far → Type 0) (o n : Option Far) → o ≡ None → WhereTold R o n → n ≡ None
untold R None n e w = w
untold R (Some x) n e w = absurd (none-some x (sym e))

pub none_ran : (old : Tells) → old.far ≡ None → (acts : List Act) (new : Tells) → Did old acts new → new.far ≡ None
none_ran old is acts new nothing = is
none_ran old is acts new (further before act mid last did does) = untold (chip_did act) mid.far last.far (none_ran old is before mid did) does.told
none_ran old is acts new (together before op ops results mid last did does) =
    untold (OperatedAll (op ∷ ops) results) mid.far last.far (none_ran old is before mid did) does.told
