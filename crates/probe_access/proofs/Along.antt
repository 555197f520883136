-- Calls along a link as what stands behind the transport sees them.
use Rattle.std.proofs.Common.{◌≡◌, ◌++◌, ℕ, List, [], ◌∷◌, map, Option, Some, None, refl, sym, subst, append_assoc, append-nil}
use Rattle.std.proofs.lemmas.Option.{none-some}
use Rattle.debug_model.specs.declared.dmi_op.DmiOp.TheVariants.{Read, Write}
use Rattle.debug_model.specs.declared.dmi_op.DmiOp.{DmiOp}
use Rattle.debug_model.specs.Course.{DeedsAlone, OneOperation, Operation, SitePath}
use Rattle.debug_model.specs.Many.{OperatedAll, op_of}
use Rattle.chip_laws.proofs.SeveralOperations.{OperationsAt, operations_between_deeds}
use Rattle.probe_run.proofs.RanLemmas.{acts_are, untold}
use Rattle.debug_model.specs.Dmi.{value_of}
use Rattle.debug_model.specs.Module.{Site}
use Rattle.debug_model.specs.Scan.{WhereTold}
use Rattle.debug_model.specs.Told.{Far, site_of}
use Rattle.probe_run.specs.Acts.{Act, Did, Tells, act_of, acts_of, chip_did, op_act}
use Rattle.probe_run.specs.Acts.Act.{Scanned, Got, Put}
use Rattle.probe_run.specs.Acts.Did.{nothing, further, together}

-- a read, whose result was cut to the word that is answered
pub record ReadAt (address value : ℕ) (s t : Site) : Type 0 where
  pub result : ℕ
  pub one : OneOperation (Read address) result s t
  pub value_is : value ≡ value_of result

abbrev pub SiteAct : Act → Site → Site → Type 0
SiteAct (Scanned value) s t = DeedsAlone s t
SiteAct (Got address value) s t = ReadAt address value s t
SiteAct (Put address value) s t = OneOperation (Write address value) value s t

abbrev pub SiteActs : List Act → Site → Site → Type 0
SiteActs [] s t = t ≡ s
SiteActs (act ∷ acts) s t = (u : Site) × SiteAct act s u × SiteActs acts u t

pub site_acts-append : (xs ys : List Act) (s t u : Site) → SiteActs xs s t → SiteActs ys t u → SiteActs (xs ++ ys) s u
site_acts-append [] ys s t u e p = subst (λ v. SiteActs ys v u) e p
site_acts-append (x ∷ xs) ys s t u p q = (p.0, p.1, site_acts-append xs ys p.0 t u p.2 q)

-- and back
pub record Split (xs ys : List Act) (s u : Site) : Type 0 where
  pub mid : Site
  pub first : SiteActs xs s mid
  pub rest : SiteActs ys mid u

pub site_acts-split : (xs ys : List Act) (s u : Site) → SiteActs (xs ++ ys) s u → Split xs ys s u
site_acts-split [] ys s u p = record { mid = s; first = refl; rest = p }
site_acts-split (x ∷ xs) ys s u p =
    let later : Split xs ys p.0 u = site_acts-split xs ys p.0 u p.2 in record { mid = later.mid; first = (p.0, p.1, later.first); rest = later.rest }

-- ---- several operations in one call

one_operation : (op : DmiOp) (result : ℕ) (s t : Site) → OneOperation op result s t → SiteAct (op_act op (value_of result)) s t
one_operation (Read address) result s t one = record { result = result; one = one; value_is = refl }
one_operation (Write address value) result s t one = record { before = one.before; behind = one.behind; is = one.is; result_is = refl }

pub operations_acts : (os : List Operation) (s t : Site) → OperationsAt os s t → SiteActs (map act_of os) s t
operations_acts [] s t e = e
operations_acts (o ∷ os) s t p = (p.0, one_operation o.op o.result s p.0 p.1, operations_acts os p.0 t p.2)

path_acts : (op : DmiOp) (ops : List DmiOp) (os : List Operation) (s t : Site) → map op_of os ≡ op ∷ ops → SitePath s os t → SiteActs (map act_of os) s t
path_acts op ops [] s t asked p = absurd (let no : ⊥ = cc in no)
path_acts op ops (o ∷ os) s t asked p = operations_acts (o ∷ os) s t (operations_between_deeds o os s t p)

-- ---- of a told chip

pub record AtSites (acts : List Act) (f : Far) (new : Option Far) : Type 0 where
  pub far : Far
  pub is : new ≡ Some far
  pub acts_are : SiteActs acts (site_of f) (site_of far)

one_act : (act : Act) (f : Far) (new : Option Far) → chip_did act f.live.chip new → AtSites (act ∷ []) f new
one_act (Scanned value) f new d = record { far = d.none.far; is = d.none.is; acts_are = (site_of d.none.far, d.none.site, refl) }
one_act (Got address value) f new d = record
    { far = d.far; is = d.is; acts_are = (site_of d.far, record { result = d.result; one = d.site; value_is = d.value_is }, refl) }
one_act (Put address value) f new d = record {
  far = d.far;
  is = d.is;
  acts_are = (site_of d.far, record { before = d.site.before; behind = d.site.behind; is = d.site.is; result_is = refl }, refl);
}

then_act : (acts : List Act) (act : Act) (f : Far) (mid new : Option Far) → AtSites acts f mid → WhereTold (chip_did act) mid new
    → AtSites (acts ++ act ∷ []) f new
then_act acts act f mid new before does =
    let one : AtSites (act ∷ []) before.far new = one_act act before.far new (subst (λ (m : Option Far). WhereTold (chip_did act) m new) before.is does) in
    record {
      far = one.far;
      is = one.is;
      acts_are = site_acts-append acts (act ∷ []) (site_of f) (site_of before.far) (site_of one.far) before.acts_are
          one.acts_are;
    }

all_acts : (op : DmiOp) (ops : List DmiOp) (results : List ℕ) (f : Far) (new : Option Far) → OperatedAll (op ∷ ops) results f.live.chip new
    → AtSites (acts_of (op ∷ ops) results) f new
all_acts op ops results f new d = record {
  far = d.far;
  is = d.is;
  acts_are = subst (λ xs. SiteActs xs (site_of f) (site_of d.far)) (sym (acts_are (op ∷ ops) results d.done d.asked d.results_are))
      (path_acts op ops d.done (site_of f) (site_of d.far) d.asked d.site);
}

then_all : (acts : List Act) (op : DmiOp) (ops : List DmiOp) (results : List ℕ) (f : Far) (mid new : Option Far) → AtSites acts f mid
    → WhereTold (OperatedAll (op ∷ ops) results) mid new → AtSites (acts ++ acts_of (op ∷ ops) results) f new
then_all acts op ops results f mid new before does =
    let all : AtSites (acts_of (op ∷ ops) results) before.far new =
    all_acts op ops results before.far new (subst (λ (m : Option Far). WhereTold (OperatedAll (op ∷ ops) results) m new) before.is does) in
    record {
      far = all.far;
      is = all.is;
      acts_are = site_acts-append acts (acts_of (op ∷ ops) results) (site_of f) (site_of before.far) (site_of all.far)
          before.acts_are all.acts_are;
    }

pub did_sites : (old : Tells) (acts : List Act) (new : Tells) (f : Far) → Did old acts new → old.far ≡ Some f → AtSites acts f new.far
did_sites old acts new f nothing is = record { far = f; is = is; acts_are = refl }
did_sites old acts new f (further before act mid _ did does) is = then_act before act f mid.far new.far (did_sites old before mid f did is) does.told
did_sites old acts new f (together before op ops results mid _ did does) is =
    then_all before op ops results f mid.far new.far (did_sites old before mid f did is) does.told

none_told : (act : Act) (mid new : Option Far) → mid ≡ None → WhereTold (chip_did act) mid new → new ≡ None
none_told act None new e p = p
none_told act (Some f) new e p = absurd (none-some f (sym e))

pub did_untold : (old : Tells) (acts : List Act) (new : Tells) → Did old acts new → old.far ≡ None → new.far ≡ None
did_untold old acts new nothing is = is
did_untold old acts new (further before act mid _ did does) is = none_told act mid.far new.far (did_untold old before mid did is) does.told
did_untold old acts new (together before op ops results mid _ did does) is =
    untold (OperatedAll (op ∷ ops) results) mid.far new.far (did_untold old before mid did is) does.told

pub did-append : (xs : List Act) (a b : Tells) (ys : List Act) (c : Tells) → Did a xs b → Did b ys c → Did a (xs ++ ys) c
did-append xs a b ys c p nothing = subst (λ zs. Did a zs b) (sym (append-nil xs)) p
did-append xs a b ys c p (further before act mid _ did does) =
    subst (λ zs. Did a zs c) (append_assoc xs before (act ∷ [])) (further (xs ++ before) act mid c (did-append xs a b before mid p did) does)
did-append xs a b ys c p (together before op ops results mid _ did does) =
    subst (λ zs. Did a zs c) (append_assoc xs before (acts_of (op ∷ ops) results))
    (together (xs ++ before) op ops results mid c (did-append xs a b before mid p did) does)
