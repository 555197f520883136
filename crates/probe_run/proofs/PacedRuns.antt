-- What a told site went through while calls were made over a fair schedule: in front of each operation each part of the chip got on.
use Rattle.std.proofs.Common.{◌≡◌, ◌∙◌, ◌++◌, ℕ, List, [], ◌∷◌, map, All, Option, Some, None, refl, sym, ap, subst, Contains, ◌<◌}
use Rattle.std.proofs.lemmas.List.Elements.{Contains-append_right}
use Rattle.chip_laws.proofs.Pace.{course_harts, course_paced}
use Rattle.chip_laws.proofs.PathLemmas.{ran-append}
use Rattle.debug_model.specs.declared.dmi_op.DmiOp.{DmiOp}
use Rattle.debug_model.specs.declared.dmi_op.DmiOp.TheVariants.{Read, Write}
use Rattle.debug_model.specs.Course.{DeedsAlone, Operation, each_once}
use Rattle.debug_model.specs.Deeds.{ran}
use Rattle.debug_model.specs.Deeds.Deed.{Turned, CommandStepped, BusStepped}
use Rattle.debug_model.specs.Dmi.{Operated, value_of}
use Rattle.debug_model.specs.Many.{OperatedAll}
use Rattle.debug_model.specs.Module.{Site, operated, operation_result}
use Rattle.debug_model.specs.Pacing.{LivelyDeeds, Paced, PacedAlong, harts_in, harts_of}
use Rattle.debug_model.specs.Told.{Far, chip_of, site_of}
use Rattle.probe_run.specs.Acts.{Act, Did, Tells, act_of, acts_of, chip_did}
use Rattle.probe_run.specs.Acts.Act.{Scanned, Got, Put}
use Rattle.probe_run.specs.Acts.Did.{nothing, further, together}
use Rattle.probe_run.proofs.RanLemmas.{acts_are, where_told}

-- ---- deeds in a row

deeds_then : (s m t : Site) → DeedsAlone s m → DeedsAlone m t → DeedsAlone s t
deeds_then s m t d e = record { deeds = d.deeds ++ e.deeds; is = e.is ∙ ap (ran e.deeds) d.is ∙ sym (ran-append d.deeds e.deeds s) }

lively_then : (harts : ℕ) (s m t : Site) → DeedsAlone s m → LivelyDeeds harts m t → LivelyDeeds harts s t
lively_then harts s m t d l = record {
  deeds = d.deeds ++ l.deeds;
  lively = record {
    turns = λ h there. Contains-append_right d.deeds l.deeds (Turned h) (l.lively.turns h there);
    command = Contains-append_right d.deeds l.deeds CommandStepped l.lively.command;
    bus = Contains-append_right d.deeds l.deeds BusStepped l.lively.bus;
  };
  is = l.is ∙ ap (ran l.deeds) d.is ∙ sym (ran-append d.deeds l.deeds s);
}

-- ---- along the acts

-- lively deeds, and the operation
pub record PacedAt (harts : ℕ) (op : DmiOp) (result : ℕ) (s t : Site) : Type 0 where
  pub at : Site
  pub before : LivelyDeeds harts s at
  pub result_is : result ≡ operation_result op at
  pub is : t ≡ operated op at

abbrev pub PacedDid : ℕ → Act → Site → Site → Type 0
PacedDid harts (Scanned value) s t = DeedsAlone s t
PacedDid harts (Got address value) s t = (result : ℕ) × (value ≡ value_of result) × PacedAt harts (Read address) result s t
PacedDid harts (Put address value) s t = (result : ℕ) × PacedAt harts (Write address value) result s t

-- and deeds behind the last
abbrev pub PacedRan : ℕ → List Act → Site → Site → Type 0
PacedRan harts [] s t = DeedsAlone s t
PacedRan harts (act ∷ acts) s t = (mid : Site) × PacedDid harts act s mid × PacedRan harts acts mid t

at_then : (harts : ℕ) (op : DmiOp) (result : ℕ) (s m t : Site) → DeedsAlone s m → PacedAt harts op result m t → PacedAt harts op result s t
at_then harts op result s m t d p = record { at = p.at; before = lively_then harts s m p.at d p.before; result_is = p.result_is; is = p.is }

deeds_ran : (harts : ℕ) (acts : List Act) (s m t : Site) → DeedsAlone s m → PacedRan harts acts m t → PacedRan harts acts s t
deeds_ran harts [] s m t d r = deeds_then s m t d r
deeds_ran harts (Scanned value ∷ acts) s m t d (x, did, rest) = (x, deeds_then s m x d did, rest)
deeds_ran harts (Got address value ∷ acts) s m t d (x, (result, is, p), rest) = (x, (result, is, at_then harts (Read address) result s m x d p), rest)
deeds_ran harts (Put address value ∷ acts) s m t d (x, (result, p), rest) = (x, (result, at_then harts (Write address value) result s m x d p), rest)

both_ran : (harts : ℕ) (xs ys : List Act) (s m t : Site) → PacedRan harts xs s m → PacedRan harts ys m t → PacedRan harts (xs ++ ys) s t
both_ran harts [] ys s m t d r = deeds_ran harts ys s m t d r
both_ran harts (x ∷ xs) ys s m t (n, did, rest) r = (n, did, both_ran harts xs ys n m t rest r)

op_paced : (harts : ℕ) (o : Operation) (s m : Site) → LivelyDeeds harts s m → o.result ≡ operation_result o.op m → PacedDid harts (act_of o) s (operated o.op m)
op_paced harts o s m l is = by o.op o.result is
  where
    by : (op : DmiOp) (result : ℕ) → result ≡ operation_result op m → PacedDid harts (act_of (record { op = op; result = result })) s (operated op m)
    by (Read address) result shown = (result, refl, record { at = m; before = l; result_is = shown; is = refl })
    by (Write address value) result shown = (result, record { at = m; before = l; result_is = shown; is = refl })

along_ran : (harts : ℕ) (os : List Operation) (s t : Site) → PacedAlong harts s os t → PacedRan harts (map act_of os) s t
along_ran harts [] s t l = record { deeds = l.deeds; is = l.is }
along_ran harts (o ∷ os) s t (m, before, shown, rest) = (operated o.op m, op_paced harts o s m before shown, along_ran harts os (operated o.op m) t rest)

-- ---- where a chip is told

pub record FarPaced (acts : List Act) (f : Far) (told : Option Far) : Type 0 where
  pub far : Far
  pub is : told ≡ Some far
  pub paced : Paced (chip_of far).inside
  pub harts : harts_of (site_of far) ≡ harts_of (site_of f)
  pub ran : PacedRan (harts_of (site_of f)) acts (site_of f) (site_of far)

one_paced : (act : Act) (f : Far) (told : Option Far) → Paced (chip_of f).inside → chip_did act (chip_of f) told → FarPaced (act ∷ []) f told
unfolding ran
one_paced (Scanned value) f told p d = record {
  far = d.none.far;
  is = d.none.is;
  paced = course_paced (chip_of f).inside (chip_of d.none.far).inside (each_once []) d.none.path p;
  harts = course_harts (chip_of f).inside (chip_of d.none.far).inside (each_once []) d.none.path;
  ran = (site_of d.none.far, d.none.site, record { deeds = []; is = refl });
}
one_paced (Got address value) f told p d =
    let (m, before, shown, behind) = d.pace p in
    record {
      far = d.far;
      is = d.is;
      paced = course_paced (chip_of f).inside (chip_of d.far).inside _ d.path p;
      harts = course_harts (chip_of f).inside (chip_of d.far).inside _ d.path;
      ran = (
        operated (Read address) m,
        (d.result, d.value_is, record { at = m; before = before; result_is = shown; is = refl }),
        record { deeds = behind.deeds; is = behind.is },
      );
    }
one_paced (Put address value) f told p d =
    let (m, before, shown, behind) = d.pace p in
    record {
      far = d.far;
      is = d.is;
      paced = course_paced (chip_of f).inside (chip_of d.far).inside _ d.path p;
      harts = course_harts (chip_of f).inside (chip_of d.far).inside _ d.path;
      ran = (
        operated (Write address value) m,
        (d.result, record { at = m; before = before; result_is = shown; is = refl }),
        record { deeds = behind.deeds; is = behind.is },
      );
    }

all_paced : (ops : List DmiOp) (results : List ℕ) (f : Far) (told : Option Far) → Paced (chip_of f).inside → OperatedAll ops results (chip_of f) told
    → FarPaced (acts_of ops results) f told
all_paced ops results f told p d = record {
  far = d.far;
  is = d.is;
  paced = course_paced (chip_of f).inside (chip_of d.far).inside _ d.path p;
  harts = course_harts (chip_of f).inside (chip_of d.far).inside _ d.path;
  ran = subst (λ acts. PacedRan (harts_of (site_of f)) acts (site_of f) (site_of d.far)) (sym (acts_are ops results d.done d.asked d.results_are))
      (along_ran (harts_of (site_of f)) d.done (site_of f) (site_of d.far) (d.pace p));
}

both_paced : (xs ys : List Act) (f : Far) (mid new : Option Far) (a : FarPaced xs f mid) → FarPaced ys a.far new → FarPaced (xs ++ ys) f new
both_paced xs ys f mid new a b = record {
  far = b.far;
  is = b.is;
  paced = b.paced;
  harts = b.harts ∙ a.harts;
  ran = both_ran (harts_of (site_of f)) xs ys (site_of f) (site_of a.far) (site_of b.far) a.ran
      (subst (λ n. PacedRan n ys (site_of a.far) (site_of b.far)) a.harts b.ran);
}

pub far_paced : (old : Tells) (f : Far) → old.far ≡ Some f → Paced (chip_of f).inside → (acts : List Act) (new : Tells) → Did old acts new
    → FarPaced acts f new.far
unfolding ran
far_paced old f at p acts new nothing = record { far = f; is = at; paced = p; harts = refl; ran = record { deeds = []; is = refl } }
far_paced old f at p acts new (further before act mid last did does) =
    let a : FarPaced before f mid.far = far_paced old f at p before mid did in
    both_paced before (act ∷ []) f mid.far last.far a
    (one_paced act a.far last.far a.paced (where_told (chip_did act) mid.far last.far a.far a.is does.told))
far_paced old f at p acts new (together before op ops results mid last did does) =
    let a : FarPaced before f mid.far = far_paced old f at p before mid did in
    both_paced before (acts_of (op ∷ ops) results) f mid.far last.far a
    (all_paced (op ∷ ops) results a.far last.far a.paced (where_told (OperatedAll (op ∷ ops) results) mid.far last.far a.far a.is does.told))
