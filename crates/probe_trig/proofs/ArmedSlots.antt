-- A slot that is sought, armed or freed, along transfers.
use Rattle.std.proofs.Common.{
  ◌≡◌,
  ◌∙◌,
  ◌<◌,
  ◌≤◌,
  ◌+◌,
  ◌++◌,
  ℕ,
  suc,
  true,
  false,
  List,
  [],
  ◌∷◌,
  All,
  set,
  length,
  Some,
  slice_get,
  refl,
  sym,
  ap,
  subst,
  arith,
  inl,
  inr,
  get_or-set_same,
}
use Rattle.std.proofs.Math.Seq.{set-set}
use Rattle.std.proofs.lemmas.Bool.{cases_eq}
use Rattle.std.proofs.lemmas.List.Elements.{All-head, All-tail}
use Rattle.std.proofs.lemmas.Option.{slice_get-get_or}
use Rattle.rv_model.specs.declared.slot.Slot.{Slot}
use Rattle.rv_model.specs.declared.slot.Trigger.{Trigger}
use Rattle.rv_model.specs.declared.slot.Trigger.TheVariants.{Disabled}
use Rattle.rv_model.specs.declared.version.Version.{Version}
use Rattle.rv_model.specs.Board.{Hart, free_slot}
use Rattle.rv_model.specs.TriggerWords.{CountFits, disabled_word, tdata1_of, trigger_of}
use Rattle.rv_model.specs.Triggers.{CountsFit}
use Rattle.rv_model.proofs.DebugWordLemmas.{trigger_read_back}
use Rattle.debug_model.specs.declared.command.WatchKind.TheVariants.{Access, Load, Store}
use Rattle.abstract_debugger.specs.Slots.{address_trigger, armed_for, count_trigger, freed as slot_free, is_free, watch_trigger}
use Rattle.abstract_debugger.specs.Slots.Use.{Armed}
use Rattle.abstract_debugger.specs.Trace.{What}
use Rattle.abstract_debugger.specs.Trace.What.{Break, Count, Watch}
use Rattle.abstract_debugger.specs.SlotUses.{use_named}
use Rattle.probe_trig.specs.declared.register.TriggerRegister.TheVariants.{Tdata1, Tdata2}
use Rattle.debug_model.specs.declared.slot_use.SlotUse.{SlotUse}
use Rattle.debug_model.specs.declared.slot_use.SlotUse.TheVariants as slot_use
use Rattle.probe_trig.specs.Runs.{IsInUse, armed_by, freed, words_read}
use Rattle.probe_trig.specs.Transfers.{Transfer}
use Rattle.probe_trig.specs.Transfers.Transfer.{Set}
use Rattle.probe_trig.specs.SlotRegisters.{CanArm, shows_free}
use Rattle.probe_trig.proofs.Parts.{Passed, WordPassed, passed_set, passed_then, posed, slot_at, tdata1_set, tdata2_set, word_passed}
use Rattle.probe_trig.proofs.Shows.{disabled_free, free_disabled, shows_as_free}
use Rattle.probe_trig.proofs.Told.{Shown, played}

-- ---- words are read of slots that are in use

pub there_at : (i : ℕ) (ss : List Slot) → i < length ss → slice_get ss i ≡ Some (slot_at i ss)
there_at i ss lt = slice_get-get_or ss i free_slot lt

pub record WordsPassed (i : ℕ) (words : List ℕ) (ss : List Slot) (k : ℕ) (x : Hart) (rest : List Transfer) : Type 0 where
  pub used : (j : ℕ) → i ≤ j → j < i + length words → is_free (slot_at j ss).trigger ≡ false
  pub last : ℕ
  pub passed : Passed (words_read i words ++ rest) (posed k ss x) rest (posed last ss x)

word_used : (v : Version) (i w : ℕ) (ss : List Slot) → i < length ss → CountsFit ss → w ≡ tdata1_of v (slot_at i ss).trigger → shows_free w ≡ false
    → is_free (slot_at i ss).trigger ≡ false
word_used v i w ss lt fits e used = sym (shows_as_free v w (slot_at i ss).trigger (fits i (slot_at i ss) (there_at i ss lt)) e) ∙ used

pub words_passed : (i : ℕ) (words : List ℕ) (ss : List Slot) (k : ℕ) (x : Hart) (rest : List Transfer) → length ss ≡ 4 → CountsFit ss → i + length words ≤ 4
    → All IsInUse words
    → Shown (words_read i words ++ rest) (posed k ss x) → WordsPassed i words ss k x rest
words_passed i [] ss k x rest four fits few used sh =
    record { used = λ j le lt. absurd (omega (arith, le, lt)); last = k; passed = record { shown = sh; is = refl } }
words_passed i (w ∷ words) ss k x rest four fits few used sh =
    let more : List Transfer = words_read (suc i) words ++ rest in
    let here : i < 4 = omega (arith, few) in
    let inside : i < length ss = omega (arith, four, here) in
    let a : WordPassed i w ss k x more = word_passed i w k ss x more here sh in
    let b : WordsPassed (suc i) words ss i x rest =
    words_passed (suc i) words ss i x rest four fits (omega (arith, few)) (All-tail IsInUse w words used) a.passed.shown in
    record {
      used = λ j le lt. elim (cases_eq j i) [
        | inl e ↦ subst (λ n. is_free (slot_at n ss).trigger ≡ false) (sym e) (word_used x.debug.version i w ss inside fits a.word (All-head IsInUse w words used))
        | inr other ↦ b.used j (omega (arith, le, other)) (omega (arith, lt))
      ];
      last = b.last;
      passed = passed_then (words_read i (w ∷ words) ++ rest) more rest (posed k ss x) (posed i ss x) (posed b.last ss x) a.passed b.passed;
    }

-- ---- the selected slot is armed

again_at : (i : ℕ) (s : Slot) (ss : List Slot) → i < length ss → slot_at i (set ss i s) ≡ s
again_at i s ss lt = get_or-set_same ss i s free_slot lt

-- a word is written into the slot that is selected, which keeps this trigger of it
pub trigger_set : (i n : ℕ) (t : Trigger) (s : Slot) (ss : List Slot) (x : Hart) (rest : List Transfer) → trigger_of x.debug.version n ≡ t → slot_at i ss ≡ s
    → Shown (Set Tdata1 n ∷ rest) (posed i ss x)
    → Passed (Set Tdata1 n ∷ rest) (posed i ss x) rest (posed i (set ss i (record s { trigger = t })) x)
trigger_set i n t s ss x rest kept here sh =
    passed_set Tdata1 n rest (posed i ss x) (posed i (set ss i (record s { trigger = t })) x)
    (tdata1_set i n ss x
    ∙ ap (λ (u : Slot). posed i (set ss i (record u { trigger = trigger_of x.debug.version n })) x) here
    ∙ ap (λ u. posed i (set ss i (record s { trigger = u })) x) kept) sh

-- with an address
address_armed : (i a n : ℕ) (t : Trigger) (s : Slot) (ss : List Slot) (x : Hart) (rest : List Transfer) → trigger_of x.debug.version n ≡ t → i < length ss
    → slot_at i ss ≡ s
    → Shown (Set Tdata2 a ∷ Set Tdata1 n ∷ rest) (posed i ss x)
    → Passed (Set Tdata2 a ∷ Set Tdata1 n ∷ rest) (posed i ss x) rest (posed i (set ss i (record { trigger = t; tdata2 = a })) x)
address_armed i a n t s ss x rest kept lt here sh =
    let more : List Transfer = Set Tdata1 n ∷ rest in
    let u : Slot = record s { tdata2 = a } in
    let p : Passed (Set Tdata2 a ∷ more) (posed i ss x) more (posed i (set ss i u) x) =
    passed_set Tdata2 a more (posed i ss x) (posed i (set ss i u) x)
    (tdata2_set i a ss x ∙ ap (λ (z : Slot). posed i (set ss i (record z { tdata2 = a })) x) here) sh in
    let q : Passed more (posed i (set ss i u) x) rest (posed i (set (set ss i u) i (record u { trigger = t })) x) =
    trigger_set i n t u (set ss i u) x rest kept (again_at i u ss lt) p.shown in
    let v : Slot = record { trigger = t; tdata2 = a } in
    let e : posed i (set (set ss i u) i v) x ≡ posed i (set ss i v) x = ap (λ zs. posed i zs x) (set-set ss i u v) in
    let r : Passed more (posed i (set ss i u) x) rest (posed i (set ss i v) x) =
    record { shown = subst (λ (z : Hart). Shown rest z) e q.shown; is = q.is ∙ ap (played rest) e } in
    passed_then (Set Tdata2 a ∷ more) more rest (posed i ss x) (posed i (set ss i u) x) (posed i (set ss i v) x) p r

pub record ArmedAs (v : Version) (meant : SlotUse) (i : ℕ) (s : Slot) (ss : List Slot) (x : Hart) (rest : List Transfer) : Type 0 where
  pub what : What
  pub named : use_named meant ≡ Armed what
  pub passed : Passed (armed_by v meant ++ rest) (posed i ss x) rest (posed i (set ss i (armed_for what s)) x)

-- the hart keeps a trigger that is written as of its own release
kept_trigger : (v : Version) (x : Hart) (t : Trigger) → v ≡ x.debug.version → CountFits t → trigger_of x.debug.version (tdata1_of v t) ≡ t
kept_trigger v x t same fits = ap (λ u. trigger_of x.debug.version (tdata1_of u t)) same ∙ trigger_read_back x.debug.version t fits

pub armed_as : (v : Version) (meant : SlotUse) (i : ℕ) (s : Slot) (ss : List Slot) (x : Hart) (rest : List Transfer) → v ≡ x.debug.version
    → CanArm meant → i < length ss → slot_at i ss ≡ s
    → Shown (armed_by v meant ++ rest) (posed i ss x) → ArmedAs v meant i s ss x rest
armed_as v slot_use.Free i s ss x rest offered can lt here sh = absurd can
armed_as v (slot_use.Break a) i s ss x rest offered can lt here sh =
    let t : Trigger = address_trigger true false false in
    record { what = Break a; named = refl; passed = address_armed i a _ t s ss x rest (kept_trigger v x t offered tt) lt here sh }
armed_as v (slot_use.Watch Load a) i s ss x rest offered can lt here sh =
    let t : Trigger = watch_trigger Load in
    record { what = Watch Load a; named = refl; passed = address_armed i a _ t s ss x rest (kept_trigger v x t offered tt) lt here sh }
armed_as v (slot_use.Watch Store a) i s ss x rest offered can lt here sh =
    let t : Trigger = watch_trigger Store in
    record { what = Watch Store a; named = refl; passed = address_armed i a _ t s ss x rest (kept_trigger v x t offered tt) lt here sh }
armed_as v (slot_use.Watch Access a) i s ss x rest offered can lt here sh =
    let t : Trigger = watch_trigger Access in
    record { what = Watch Access a; named = refl; passed = address_armed i a _ t s ss x rest (kept_trigger v x t offered tt) lt here sh }
armed_as v (slot_use.Count n) i s ss x rest offered can lt here sh =
    let small : n ≤ 16383 = can.1 in
    let t : Trigger = count_trigger n in
    record { what = Count n; named = refl; passed = trigger_set i _ t s ss x rest (kept_trigger v x t offered (omega (arith, small))) here sh }
armed_as v (slot_use.Other w) i s ss x rest offered can lt here sh = absurd can

-- ---- the selected slot is freed

pub slot_freed : (i : ℕ) (s : Slot) (ss : List Slot) (x : Hart) (rest : List Transfer) → slot_at i ss ≡ s → Shown (freed false ++ rest) (posed i ss x)
    → Passed (freed false ++ rest) (posed i ss x) rest (posed i (set ss i (slot_free s)) x)
slot_freed i s ss x rest here sh =
    trigger_set i disabled_word Disabled s ss x rest (free_disabled x.debug.version disabled_word disabled_free) here sh
