-- A hart's trigger registers along transfers: what was read is what they held, and what was written is what they hold.
use Rattle.std.proofs.Common.{
  ◌≡◌,
  ◌∙◌,
  ◌<◌,
  ◌%◌,
  ◌++◌,
  ◌&&◌,
  ◌||◌,
  not,
  ℕ,
  Bool,
  true,
  false,
  List,
  [],
  ◌∷◌,
  set,
  Option,
  None,
  Some,
  slice_get,
  refl,
  sym,
  ap,
  subst,
  arith,
  if◌then◌else◌,
}
use Rattle.std.specs.Prelude.{slice_index_or}
use Rattle.std.proofs.Math.Bool.{and-true, or-false}
use Rattle.std.proofs.lemmas.Option.{same_Some}
use Rattle.rv_model.specs.declared.slot.Icount.{Icount}
use Rattle.rv_model.specs.declared.slot.Mcontrol6.{Mcontrol6}
use Rattle.rv_model.specs.declared.slot.Slot.{Slot}
use Rattle.rv_model.specs.declared.slot.Trigger.{Trigger}
use Rattle.rv_model.specs.declared.slot.Trigger.TheVariants as kind
use Rattle.rv_model.specs.declared.version.Version.{Version}
use Rattle.rv_model.specs.Board.{Hart, free_slot}
use Rattle.rv_model.specs.DebugRegisters.{debug_value, debug_written}
use Rattle.rv_model.specs.Registers.{csr_value, csr_written}
use Rattle.rv_model.specs.TriggerWords.{CountFits, tdata1_of, tinfo_value, trigger_csr_value, trigger_csr_written, trigger_of, version_offered, version_shown}
use Rattle.rv_model.proofs.DebugWordLemmas.{releases_shown, shown_back, trigger_read_back}
use Rattle.rv_model.proofs.MapLemmas.{set_same}
use Rattle.abstract_debugger.specs.Slots.{trigger_has_hit, with_trigger}
use Rattle.probe_trig.specs.declared.change.Change.{Change}
use Rattle.probe_trig.specs.declared.change.Change.TheVariants as change
use Rattle.probe_trig.specs.declared.register.TriggerRegister.{TriggerRegister}
use Rattle.probe_trig.specs.declared.register.TriggerRegister.TheVariants.{Tdata1, Tdata2, Tinfo, Tselect}
use Rattle.probe_trig.specs.Runs.{arming_version, hit_changed, slot_changed, word_read}
use Rattle.probe_trig.specs.Transfers.{Transfer, asked, number_of}
use Rattle.probe_trig.specs.Transfers.Transfer.{Got, Set}
use Rattle.probe_trig.specs.SlotRegisters.{shows_hit, trigger_changed, word_changed}
use Rattle.probe_trig.proofs.Shows.{address_shown, shows_as_hit}
use Rattle.probe_trig.proofs.Told.{Shown, played}

-- ---- a hart with this tselect and these slots

abbrev pub posed : ℕ → List Slot → Hart → Hart
posed k ss x = record { core = x.core; debug = record x.debug { tselect = k; slots = ss } }

abbrev pub slot_at : ℕ → List Slot → Slot
slot_at k ss = slice_index_or ss k free_slot

select_holds : (k : ℕ) (ss : List Slot) (x : Hart) → debug_value (posed k ss x) (number_of Tselect) ≡ Some k
unfolding debug_value csr_value trigger_csr_value
select_holds k ss x = refl

tdata1_holds : (k : ℕ) (ss : List Slot) (x : Hart) → debug_value (posed k ss x) (number_of Tdata1) ≡ Some (tdata1_of x.debug.version (slot_at k ss).trigger)
unfolding debug_value csr_value trigger_csr_value
tdata1_holds k ss x = refl

pub tdata2_holds : (k : ℕ) (ss : List Slot) (x : Hart) → debug_value (posed k ss x) (number_of Tdata2) ≡ Some (slot_at k ss).tdata2
unfolding debug_value csr_value trigger_csr_value
tdata2_holds k ss x = refl

select_set : (k v : ℕ) (ss : List Slot) (x : Hart) → debug_written (posed k ss x) (number_of Tselect) v ≡ posed (v % 4) ss x
unfolding debug_written csr_written trigger_csr_written
select_set k v ss x = refl

pub tdata1_set : (k v : ℕ) (ss : List Slot) (x : Hart)
    → debug_written (posed k ss x) (number_of Tdata1) v ≡ posed k (set ss k (record (slot_at k ss) { trigger = trigger_of x.debug.version v })) x
unfolding debug_written csr_written trigger_csr_written
tdata1_set k v ss x = refl

pub tdata2_set : (k v : ℕ) (ss : List Slot) (x : Hart)
    → debug_written (posed k ss x) (number_of Tdata2) v ≡ posed k (set ss k (record (slot_at k ss) { tdata2 = v })) x
unfolding debug_written csr_written trigger_csr_written
tdata2_set k v ss x = refl

tinfo_holds : (k : ℕ) (ss : List Slot) (x : Hart) → debug_value (posed k ss x) (number_of Tinfo) ≡ Some (tinfo_value x.debug.version)
unfolding debug_value csr_value trigger_csr_value
tinfo_holds k ss x = refl

-- ---- transfers of which only a rest is left

pub record Passed (all : List Transfer) (x : Hart) (rest : List Transfer) (y : Hart) : Type 0 where
  pub shown : Shown rest y
  pub is : played all x ≡ played rest y

pub passed_set : (r : TriggerRegister) (v : ℕ) (rest : List Transfer) (x y : Hart) → debug_written x (number_of r) v ≡ y → Shown (Set r v ∷ rest) x
    → Passed (Set r v ∷ rest) x rest y
passed_set r v rest x y e s = record { shown = subst (λ (z : Hart). Shown rest z) e s; is = ap (played rest) e }

pub passed_got : (r : TriggerRegister) (v : ℕ) (rest : List Transfer) (x : Hart) → Shown (Got r v ∷ rest) x → Passed (Got r v ∷ rest) x rest x
passed_got r v rest x s = record { shown = s.1; is = refl }

pub passed_then : (all some rest : List Transfer) (x y z : Hart) → Passed all x some y → Passed some y rest z → Passed all x rest z
passed_then all some rest x y z p q = record { shown = q.shown; is = p.is ∙ q.is }

-- ---- a slot is selected, and its word read

same_value : (v w : ℕ) → Some v ≡ Some w → w ≡ v
same_value v w e = sym (same_Some v w e)

selecting : (i k : ℕ) (ss : List Slot) (x : Hart) (rest : List Transfer) → i < 4 → Shown (Set Tselect i ∷ rest) (posed k ss x)
    → Passed (Set Tselect i ∷ rest) (posed k ss x) rest (posed i ss x)
selecting i k ss x rest small s =
    let fits : i % 4 ≡ i = omega arith in
    passed_set Tselect i rest (posed k ss x) (posed i ss x) (select_set k i ss x ∙ ap (λ n. posed n ss x) fits) s

pub record WordPassed (i w : ℕ) (ss : List Slot) (k : ℕ) (x : Hart) (rest : List Transfer) : Type 0 where
  pub word : w ≡ tdata1_of x.debug.version (slot_at i ss).trigger
  pub passed : Passed (word_read i w ++ rest) (posed k ss x) rest (posed i ss x)

pub word_passed : (i w k : ℕ) (ss : List Slot) (x : Hart) (rest : List Transfer) → i < 4 → Shown (word_read i w ++ rest) (posed k ss x)
    → WordPassed i w ss k x rest
word_passed i w k ss x rest small s =
    let p : Passed (word_read i w ++ rest) (posed k ss x) (Got Tdata1 w ∷ rest) (posed i ss x) = selecting i k ss x (Got Tdata1 w ∷ rest) small s in
    record {
      word = same_value (tdata1_of x.debug.version (slot_at i ss).trigger) w (sym (tdata1_holds i ss x) ∙ p.shown.0);
      passed = passed_then (word_read i w ++ rest) (Got Tdata1 w ∷ rest) rest (posed k ss x) (posed i ss x) (posed i ss x) p
          (passed_got Tdata1 w rest (posed i ss x) p.shown);
    }

-- ---- its tinfo is read

pub record TinfoPassed (release : Version) (tinfo : Option ℕ) (i : ℕ) (ss : List Slot) (x : Hart) (rest : List Transfer) : Type 0 where
  pub offered : arming_version release tinfo ≡ x.debug.version
  pub passed : Passed (asked Tinfo tinfo ++ rest) (posed i ss x) rest (posed i ss x)

pub tinfo_passed : (release : Version) (tinfo : Option ℕ) (i : ℕ) (ss : List Slot) (x : Hart) (rest : List Transfer)
    → Shown (asked Tinfo tinfo ++ rest) (posed i ss x) → TinfoPassed release tinfo i ss x rest
tinfo_passed release None i ss x rest s = absurd s
tinfo_passed release (Some tinfo) i ss x rest s = record {
  offered = ap version_offered (same_value (tinfo_value x.debug.version) tinfo (sym (tinfo_holds i ss x) ∙ s.0)) ∙ (releases_shown x.debug.version).offered;
  passed = passed_got Tinfo tinfo rest (posed i ss x) s;
}

-- ---- and is selected as it was at first

pub kept_is : (kept k : ℕ) (ss : List Slot) (x : Hart) (rest : List Transfer) → Shown (Got Tselect kept ∷ rest) (posed k ss x) → kept ≡ k
kept_is kept k ss x rest s = same_value k kept (sym (select_holds k ss x) ∙ s.0)

pub put_back_is : (kept k i : ℕ) (ss : List Slot) (x : Hart) → kept ≡ k → k < 4 → played (Set Tselect kept ∷ []) (posed i ss x) ≡ posed k ss x
put_back_is kept k i ss x e small =
    let fits : kept % 4 ≡ k = omega arith in select_set i kept ss x ∙ ap (λ n. posed n ss x) fits

-- ---- a trigger is changed that has a hit

held_same : (m hit : Bool) → hit ≡ false → (m && not hit) ≡ m
held_same m hit e = ap (λ b. m && not b) e ∙ and-true m

back_same : (m hit : Bool) → hit ≡ false → (m || hit) ≡ m
back_same m hit e = ap (λ b. m || b) e ∙ or-false m

abbrev m6 : Mcontrol6 → Bool → Bool → Trigger
m6 t hit m = kind.Mcontrol6 (record t { hit = hit; m = m })

ic : Icount → Bool → Bool → Trigger
ic t hit m = kind.Icount (record t { hit = hit; m = m })

m6_same : (t : Mcontrol6) (hit m : Bool) → hit ≡ t.hit → m ≡ t.m → m6 t hit m ≡ kind.Mcontrol6 t
m6_same t hit m e f = ap (λ b. m6 t b m) e ∙ ap (m6 t t.hit) f

ic_same : (t : Icount) (hit m : Bool) → hit ≡ t.hit → m ≡ t.m → kind.Icount (record t { hit = hit; m = m }) ≡ kind.Icount t
ic_same t hit m e f = ap (λ b. kind.Icount (record t { hit = b; m = m })) e ∙ ap (λ b. kind.Icount (record t { m = b })) f

pub unchanged : (how : Change) (t : Trigger) → trigger_has_hit t ≡ false → trigger_changed how t ≡ t
unchanged change.Hold (kind.Mcontrol6 t) none = m6_same t t.hit (t.m && not t.hit) refl (held_same t.m t.hit none)
unchanged change.PutBack (kind.Mcontrol6 t) none = m6_same t t.hit (t.m || t.hit) refl (back_same t.m t.hit none)
unchanged change.Forget (kind.Mcontrol6 t) none = m6_same t false t.m (sym none) refl
unchanged change.PutBackAndForget (kind.Mcontrol6 t) none = m6_same t false (t.m || t.hit) (sym none) (back_same t.m t.hit none)
unchanged change.Hold (kind.Icount t) none = ic_same t t.hit (t.m && not t.hit) refl (held_same t.m t.hit none)
unchanged change.PutBack (kind.Icount t) none = ic_same t t.hit (t.m || t.hit) refl (back_same t.m t.hit none)
unchanged change.Forget (kind.Icount t) none = ic_same t false t.m (sym none) refl
unchanged change.PutBackAndForget (kind.Icount t) none = ic_same t false (t.m || t.hit) (sym none) (back_same t.m t.hit none)
unchanged change.Hold kind.Disabled none = refl
unchanged change.PutBack kind.Disabled none = refl
unchanged change.Forget kind.Disabled none = refl
unchanged change.PutBackAndForget kind.Disabled none = refl

pub change_fits : (how : Change) (t : Trigger) → CountFits t → CountFits (trigger_changed how t)
change_fits change.Hold (kind.Mcontrol6 t) f = f
change_fits change.PutBack (kind.Mcontrol6 t) f = f
change_fits change.Forget (kind.Mcontrol6 t) f = f
change_fits change.PutBackAndForget (kind.Mcontrol6 t) f = f
change_fits change.Hold (kind.Icount t) f = f
change_fits change.PutBack (kind.Icount t) f = f
change_fits change.Forget (kind.Icount t) f = f
change_fits change.PutBackAndForget (kind.Icount t) f = f
change_fits change.Hold kind.Disabled f = f
change_fits change.PutBack kind.Disabled f = f
change_fits change.Forget kind.Disabled f = f
change_fits change.PutBackAndForget kind.Disabled f = f

-- a changed word is of the type of the word before it
kept_word : (how : Change) (v : Version) (t : Trigger)
    → tdata1_of (version_shown (tdata1_of v t)) (trigger_changed how t) ≡ tdata1_of v (trigger_changed how t)
unfolding tdata1_of
kept_word how v (kind.Mcontrol6 t) = ap (λ u. tdata1_of u (trigger_changed how (kind.Mcontrol6 t))) (address_shown v t)
kept_word change.Hold v (kind.Icount t) = refl
kept_word change.PutBack v (kind.Icount t) = refl
kept_word change.Forget v (kind.Icount t) = refl
kept_word change.PutBackAndForget v (kind.Icount t) = refl
kept_word change.Hold v kind.Disabled = refl
kept_word change.PutBack v kind.Disabled = refl
kept_word change.Forget v kind.Disabled = refl
kept_word change.PutBackAndForget v kind.Disabled = refl

pub record SlotPassed (how : Change) (i w : ℕ) (s : Slot) (ss : List Slot) (k : ℕ) (x : Hart) (rest : List Transfer) : Type 0 where
  pub word : w ≡ tdata1_of x.debug.version s.trigger
  pub passed : Passed (slot_changed how i w ++ rest) (posed k ss x) rest (posed i (set ss i (with_trigger (trigger_changed how) s)) x)

changed_as : (v : Version) (how : Change) (w : ℕ) (s : Slot) → CountFits s.trigger → w ≡ tdata1_of v s.trigger
    → trigger_of v (word_changed how w) ≡ trigger_changed how s.trigger
changed_as v how w s fits word =
    let t : Trigger = s.trigger in
    ap (λ n. trigger_of v (word_changed how n)) word
    ∙ ap (λ u. trigger_of v (tdata1_of (version_shown (tdata1_of v t)) (trigger_changed how u))) (shown_back v t fits)
    ∙ ap (trigger_of v) (kept_word how v t)
    ∙ trigger_read_back v (trigger_changed how t) (change_fits how t fits)

hit_passed : (hit : Bool) (how : Change) (i w : ℕ) (s : Slot) (ss : List Slot) (x : Hart) (rest : List Transfer) → shows_hit w ≡ hit → CountFits s.trigger
    → slot_at i ss ≡ s → slice_get ss i ≡ Some s → w ≡ tdata1_of x.debug.version s.trigger
    → Shown ((if hit then Set Tdata1 (word_changed how w) ∷ [] else []) ++ rest) (posed i ss x)
    → Passed ((if hit then Set Tdata1 (word_changed how w) ∷ [] else []) ++ rest) (posed i ss x) rest
    (posed i (set ss i (with_trigger (trigger_changed how) s)) x)
hit_passed true how i w s ss x rest shows fits here at word sh =
    passed_set Tdata1 (word_changed how w) rest (posed i ss x) (posed i (set ss i (with_trigger (trigger_changed how) s)) x)
    (tdata1_set i (word_changed how w) ss x
    ∙ ap (λ (u : Slot). posed i (set ss i (record u { trigger = trigger_of x.debug.version (word_changed how w) })) x) here
    ∙ ap (λ (t : Trigger). posed i (set ss i (record s { trigger = t })) x) (changed_as x.debug.version how w s fits word)) sh
hit_passed false how i w s ss x rest shows fits here at word sh =
    let none : trigger_has_hit s.trigger ≡ false = sym (shows_as_hit x.debug.version w s.trigger fits word) ∙ shows in
    let same : posed i ss x ≡ posed i (set ss i (with_trigger (trigger_changed how) s)) x =
    ap (λ zs. posed i zs x) (sym (set_same ss i s at))
    ∙ ap (λ (t : Trigger). posed i (set ss i (record s { trigger = t })) x) (sym (unchanged how s.trigger none)) in
    record { shown = subst (λ (z : Hart). Shown rest z) same sh; is = ap (played rest) same }

pub slot_passed : (how : Change) (i w : ℕ) (s : Slot) (ss : List Slot) (k : ℕ) (x : Hart) (rest : List Transfer) → i < 4 → CountFits s.trigger
    → slot_at i ss ≡ s → slice_get ss i ≡ Some s
    → Shown (slot_changed how i w ++ rest) (posed k ss x) → SlotPassed how i w s ss k x rest
slot_passed how i w s ss k x rest small fits here at sh =
    let a : WordPassed i w ss k x (hit_changed how w ++ rest) = word_passed i w k ss x (hit_changed how w ++ rest) small sh in
    let word : w ≡ tdata1_of x.debug.version s.trigger = a.word ∙ ap (λ (u : Slot). tdata1_of x.debug.version u.trigger) here in
    record {
      word = word;
      passed = passed_then (slot_changed how i w ++ rest) (hit_changed how w ++ rest) rest (posed k ss x) (posed i ss x)
          (posed i (set ss i (with_trigger (trigger_changed how) s)) x) a.passed
          (hit_passed (shows_hit w) how i w s ss x rest refl fits here at word a.passed.shown);
    }
