-- What is left of the hart where a change of its slots with a hit broke off, or the reading of dcsr before it.
use Rattle.std.proofs.Common.{
  ◌≡◌,
  ◌∙◌,
  ◌++◌,
  ℕ,
  zero,
  suc,
  Bool,
  true,
  false,
  List,
  [],
  ◌∷◌,
  map,
  set,
  Option,
  Some,
  None,
  refl,
  sym,
  ap,
  subst,
  inl,
  inr,
  if◌then◌else◌,
}
use Rattle.std.specs.Prelude.{slice_index_or}
use Rattle.rv_model.specs.declared.slot.Slot.{Slot}
use Rattle.rv_model.specs.declared.slot.Trigger.{Trigger}
use Rattle.rv_model.specs.Board.{Hart, free_slot}
use Rattle.rv_model.specs.DebugRegisters.{debug_written}
use Rattle.rv_model.specs.Registers.{csr_written}
use Rattle.rv_model.specs.TriggerWords.{trigger_csr_written, trigger_of}
use Rattle.debug_model.specs.Dmi.{DmiComing}
use Rattle.debug_model.specs.Told.{Far, IsHalted, IsReady, site_of}
use Rattle.abstract_debugger.specs.Laws.{IsFrozen}
use Rattle.abstract_debugger.specs.Slots.{with_trigger}
use Rattle.probe_access.specs.declared.fault.AccessFault.{AccessFault}
use Rattle.probe_access.specs.BlockCuts.{MaybeFlagged}
use Rattle.probe_access.specs.Cuts.{IfCut, LeftAside, Leaves}
use Rattle.probe_access.specs.SingleSteps.{with_step}
use Rattle.probe_access.proofs.CutSites.{cut_always, if_cut}
use Rattle.probe_run.specs.Acts.{Tells, tells}
use Rattle.probe_trig.specs.declared.change.Change.{Change}
use Rattle.probe_trig.specs.declared.register.TriggerRegister.{TriggerRegister}
use Rattle.probe_trig.specs.declared.register.TriggerRegister.TheVariants.{Dcsr, Tdata1, Tdata2, Tinfo, Tselect}
use Rattle.probe_trig.specs.Runs.{ChangesAny, put_back, slot_changed}
use Rattle.probe_trig.specs.StepCuts.{OverAlone, addresses_of}
use Rattle.probe_trig.specs.Stepping.{EndsAny, ending}
use Rattle.probe_trig.specs.Transfers.{Attempt, Begins, FailedIn, Transfer, number_of}
use Rattle.probe_trig.specs.Transfers.Attempt.{Getting, Setting}
use Rattle.probe_trig.specs.Transfers.Transfer.{Got, Lacked, Set}
use Rattle.probe_trig.specs.SlotRegisters.{shows_hit, trigger_changed, word_changed}
use Rattle.probe_trig.proofs.Calls.{changes_all}
use Rattle.probe_trig.proofs.CutLemmas.{alone, alone_written, attempt_cut, broke_off, may}
use Rattle.probe_trig.proofs.Told.{Led, frozen_halted, made_led, played}

-- ---- the hart

pub over_same : (x : Hart) → OverAlone x x
over_same x = record { alone = alone x; ebreakm = refl; addresses = refl }

pub over_then : (x y z : Hart) → OverAlone x y → OverAlone y z → OverAlone x z
over_then x y z p q = record {
  alone = record {
    core = q.alone.core ∙ p.alone.core;
    requests = record {
      version = q.alone.requests.version ∙ p.alone.requests.version;
      halted = q.alone.requests.halted ∙ p.alone.requests.halted;
      halt_request = q.alone.requests.halt_request ∙ p.alone.requests.halt_request;
      resume_request = q.alone.requests.resume_request ∙ p.alone.requests.resume_request;
      resume_ack = q.alone.requests.resume_ack ∙ p.alone.requests.resume_ack;
      have_reset = q.alone.requests.have_reset ∙ p.alone.requests.have_reset;
    };
  };
  ebreakm = q.ebreakm ∙ p.ebreakm;
  addresses = q.addresses ∙ p.addresses;
}

pub over_flag : (on : Bool) (x : Hart) → OverAlone x (with_step on x)
over_flag on x = record {
  alone = record { core = refl; requests = record { version = refl; halted = refl; halt_request = refl; resume_request = refl; resume_ack = refl; have_reset = refl } };
  ebreakm = refl;
  addresses = refl;
}

pub over_flagged : (on : Bool) (x y : Hart) → MaybeFlagged on x y → OverAlone x y
over_flagged on x y (inl e) = subst (OverAlone x) (sym e) (over_same x)
over_flagged on x y (inr e) = subst (OverAlone x) (sym e) (over_flag on x)

kept_by : (f : Trigger → Trigger) (ss : List Slot) → addresses_of (map (with_trigger f) ss) ≡ addresses_of ss
kept_by f [] = refl
kept_by f (s ∷ ss) = ap (λ zs. s.tdata2 ∷ zs) (kept_by f ss)

pub over_changed : (how : Change) (x : Hart) → OverAlone x (changes_all how x)
over_changed how x = record {
  alone = record { core = refl; requests = record { version = refl; halted = refl; halt_request = refl; resume_request = refl; resume_ack = refl; have_reset = refl } };
  ebreakm = refl;
  addresses = kept_by (trigger_changed how) x.debug.slots;
}

-- ---- along transfers that select a slot or write its tdata1 alone

abbrev pub Mild : Transfer → Type 0
Mild (Got r v) = Unit {0}
Mild (Lacked r) = Unit {0}
Mild (Set Tselect v) = Unit {0}
Mild (Set Tdata1 v) = Unit {0}
Mild (Set Tdata2 v) = ⊥
Mild (Set Tinfo v) = ⊥
Mild (Set Dcsr v) = ⊥

abbrev pub AllMild : List Transfer → Type 0
AllMild [] = Unit {0}
AllMild (t ∷ ts) = Mild t × AllMild ts

mild_append : (ts us : List Transfer) → AllMild ts → AllMild us → AllMild (ts ++ us)
mild_append [] us p q = q
mild_append (t ∷ ts) us p q = (p.0, mild_append ts us p.1 q)

mild_front : (ts us : List Transfer) → AllMild (ts ++ us) → AllMild ts
mild_front [] us p = tt
mild_front (t ∷ ts) us p = (p.0, mild_front ts us p.1)

mild_rest : (ts us : List Transfer) → AllMild (ts ++ us) → AllMild us
mild_rest [] us p = p
mild_rest (t ∷ ts) us p = mild_rest ts us p.1

mild_hit : (b : Bool) (w : ℕ) → AllMild (if b then Set Tdata1 w ∷ [] else [])
mild_hit true w = (tt, tt)
mild_hit false w = tt

mild_slot : (how : Change) (slot w : ℕ) → AllMild (slot_changed how slot w)
mild_slot how slot w = (tt, (tt, mild_hit (shows_hit w) (word_changed how w)))

pub mild_changes : (how : Change) (ts : List Transfer) → ChangesAny how ts → AllMild ts
mild_changes how ts (a, b, c, d, r) =
    subst AllMild (sym r.is) (
      tt,
      mild_append (slot_changed how 0 a) (slot_changed how 1 b ++ (slot_changed how 2 c ++ (slot_changed how 3 d ++ put_back r.kept))) (mild_slot how 0 a)
          (mild_append (slot_changed how 1 b) (slot_changed how 2 c ++ (slot_changed how 3 d ++ put_back r.kept)) (mild_slot how 1 b)
          (mild_append (slot_changed how 2 c) (slot_changed how 3 d ++ put_back r.kept) (mild_slot how 2 c)
          (mild_append (slot_changed how 3 d) (put_back r.kept) (mild_slot how 3 d) (tt, tt)))),
    )

pub mild_ends : (ts : List Transfer) → EndsAny ts → AllMild ts
mild_ends ts (executed, r) = subst AllMild (sym r.is) (tt, mild_changes (ending executed) r.rest r.changes)

trigger_set : (ss : List Slot) (k : ℕ) (t : Trigger) → addresses_of (set ss k (record (slice_index_or ss k free_slot) { trigger = t })) ≡ addresses_of ss
trigger_set [] k t = refl
trigger_set (s ∷ ss) zero t = refl
trigger_set (s ∷ ss) (suc k) t = ap (λ zs. s.tdata2 ∷ zs) (trigger_set ss k t)

over_selected : (x : Hart) (v : ℕ) → OverAlone x (debug_written x (number_of Tselect) v)
unfolding debug_written csr_written trigger_csr_written
over_selected x v = record { alone = alone_written x x Tselect v (alone x); ebreakm = refl; addresses = refl }

over_tdata1 : (x : Hart) (v : ℕ) → OverAlone x (debug_written x (number_of Tdata1) v)
unfolding debug_written csr_written trigger_csr_written
over_tdata1 x v = record {
  alone = alone_written x x Tdata1 v (alone x);
  ebreakm = refl;
  addresses = trigger_set x.debug.slots x.debug.tselect (trigger_of x.debug.version v);
}

over_written : (x y : Hart) (r : TriggerRegister) (v : ℕ) → Mild (Set r v) → OverAlone x y → OverAlone x (debug_written y (number_of r) v)
over_written x y Tselect v m p = over_then x y (debug_written y (number_of Tselect) v) p (over_selected y v)
over_written x y Tdata1 v m p = over_then x y (debug_written y (number_of Tdata1) v) p (over_tdata1 y v)
over_written x y Tdata2 v m p = absurd m
over_written x y Tinfo v m p = absurd m
over_written x y Dcsr v m p = absurd m

over_played : (ts : List Transfer) (x y : Hart) → AllMild ts → OverAlone x y → OverAlone x (played ts y)
over_played [] x y m p = p
over_played (Got r v ∷ ts) x y m p = over_played ts x y m.1 p
over_played (Lacked r ∷ ts) x y m p = over_played ts x y m.1 p
over_played (Set r v ∷ ts) x y m p = over_played ts x (debug_written y (number_of r) v) m.1 (over_written x y r v m.0 p)

-- ---- the call

abbrev MildAttempt : Attempt → Type 0
MildAttempt (Getting r) = Unit {0}
MildAttempt (Setting r v) = Mild (Set r v)

begun_mild : (Whole : List Transfer → Type 0) (done : List Transfer) (a : Attempt) → ((ts : List Transfer) → Whole ts → AllMild ts) → Begins Whole done a
    → AllMild done
begun_mild Whole done (Getting r) mild b = mild_front done (Got r b.0 ∷ b.1) (mild (done ++ Got r b.0 ∷ b.1) b.2)
begun_mild Whole done (Setting r v) mild b = mild_front done (Set r v ∷ b.0) (mild (done ++ Set r v ∷ b.0) b.1)

attempt_mild : (Whole : List Transfer → Type 0) (done : List Transfer) (a : Attempt) → ((ts : List Transfer) → Whole ts → AllMild ts) → Begins Whole done a
    → MildAttempt a
attempt_mild Whole done (Getting r) mild b = tt
attempt_mild Whole done (Setting r v) mild b = (mild_rest done (Set r v ∷ b.0) (mild (done ++ Set r v ∷ b.0) b.1)).0

may_over : (a : Attempt) (x y z : Hart) → MildAttempt a → OverAlone x y → may a y z → OverAlone x z
may_over (Getting r) x y z mild d m = subst (OverAlone x) (sym m) d
may_over (Setting r v) x y z mild d (inl m) = subst (OverAlone x) (sym m) d
may_over (Setting r v) x y z mild d (inr m) = subst (OverAlone x) (sym m) (over_written x y r v mild d)

pub mild_cut : (Whole : List Transfer → Type 0) (h old_count new_count : ℕ) (far : Option Far) (coming : Option DmiComing) (new : Tells) (e : AccessFault)
    → ((ts : List Transfer) → Whole ts → AllMild ts) → IsReady far → IsHalted h far
    → FailedIn Whole h old_count new_count (tells far coming) new e → IfCut (Leaves (LeftAside OverAlone h) far new.far) e
mild_cut Whole h old_count new_count None coming new e mild ready halted f = cut_always (Leaves (LeftAside OverAlone h) None new.far) e tt
mild_cut Whole h old_count new_count (Some c) coming new e mild ready halted f =
    let x : Hart = halted.hart in
    let frozen : IsFrozen x.debug = frozen_halted h c ready halted in
    let l : Led h x f.done (site_of c) f.mid.far = made_led h c x f.done (tells (Some c) coming) f.mid halted.is frozen refl f.made in
    if_cut (Leaves (LeftAside (may f.attempt) h) f.mid.far new.far) (Leaves (LeftAside OverAlone h) (Some c) new.far) e
    (broke_off (may f.attempt) OverAlone h x f.done c f.mid.far new.far halted.is frozen l
    (λ z m. may_over f.attempt x (played f.done x) z (attempt_mild Whole f.done f.attempt mild f.begins)
    (over_played f.done x x (begun_mild Whole f.done f.attempt mild f.begins) (over_same x)) m))
    (attempt_cut h f.attempt old_count new_count f.mid new e f.failed)
