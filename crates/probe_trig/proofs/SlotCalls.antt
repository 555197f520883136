-- What arming and freeing a slot make of the harts of a told chip.
use Rattle.std.proofs.Common.{◌≡◌, ◌∙◌, ◌<◌, ◌++◌, ℕ, true, false, List, ◌∷◌, set, length, Some, None, slice_get, refl, sym, ap, arith, append_assoc}
use Rattle.std.proofs.lemmas.Option.{get_or_from_slice_get, slice_get_within}
use Rattle.rv_model.specs.declared.slot.Slot.{Slot}
use Rattle.rv_model.specs.declared.version.Version.{Version}
use Rattle.rv_model.specs.Board.{free_slot}
use Rattle.abstract_debugger.specs.Debugger.{is_free_slot}
use Rattle.abstract_debugger.specs.Plan.{slot_changed, slot_freed, with_debug_part}
use Rattle.abstract_debugger.specs.Slots.{armed_for, first_free, freed as slot_free, is_free}
use Rattle.abstract_debugger.proofs.OverLemmas.{set-over}
use Rattle.probe_trig.specs.declared.register.TriggerRegister.TheVariants.{Tinfo, Tselect}
use Rattle.debug_model.specs.declared.slot_use.SlotUse.{SlotUse}
use Rattle.probe_trig.specs.Runs.{Arms, Finds, FindsNone, Frees, armed_by, arming_version, freed, put_back, word_read, words_read}
use Rattle.probe_trig.specs.Slots.{ArmedAt, FreedAt, FullAt, UnusedAt}
use Rattle.probe_trig.specs.Transfers.{Transfer, asked}
use Rattle.probe_trig.specs.Transfers.Transfer.{Got}
use Rattle.probe_trig.specs.SlotRegisters.{CanArm}
use Rattle.probe_trig.proofs.ArmedSlots.{ArmedAs, WordsPassed, armed_as, slot_freed as slot_freed_passed, there_at, words_passed}
use Rattle.probe_trig.proofs.Calls.{played_from, shown_from, slots_there}
use Rattle.probe_trig.proofs.Free.{lowest_free, none_free}
use Rattle.probe_trig.proofs.Parts.{Passed, TinfoPassed, WordPassed, kept_is, passed_got, posed, put_back_is, slot_at, tinfo_passed, word_passed}
use Rattle.probe_trig.proofs.Shows.{shows_as_free}
use Rattle.probe_trig.proofs.Told.{Makes, Shown, played, went_as, wrote_as}

-- the slot that is there is the one that the registers show
is_there : (j : ℕ) (s : Slot) (ss : List Slot) → slice_get ss j ≡ Some s → slot_at j ss ≡ s
is_there j s ss at = get_or_from_slice_get ss j s free_slot at

-- ---- a slot is freed

pub makes_freed : (slot h : ℕ) → slot < 4 → Makes (Frees slot false) h (FreedAt slot h)
makes_freed slot h small x ts old new is whole frozen r sh w =
    let k : ℕ = x.debug.tselect in
    let ss : List Slot = x.debug.slots in
    let lt : slot < length ss = omega (arith, small, whole.slots) in
    let s : Slot = slot_at slot ss in
    let at : slice_get ss slot ≡ Some s = there_at slot ss lt in
    let r2 : List Transfer = put_back r.kept in
    let r1 : List Transfer = freed false ++ r2 in
    let r0 : List Transfer = word_read slot r.tdata1 ++ r1 in
    let sh0 : Shown (Got Tselect r.kept ∷ r0) (posed k ss x) = shown_from ts (Got Tselect r.kept ∷ r0) x (posed k ss x) r.is refl sh in
    let p : Passed (Got Tselect r.kept ∷ r0) (posed k ss x) r0 (posed k ss x) = passed_got Tselect r.kept r0 (posed k ss x) sh0 in
    let q : WordPassed slot r.tdata1 ss k x r1 = word_passed slot r.tdata1 k ss x r1 small p.shown in
    let v : Passed r1 (posed slot ss x) r2 (posed slot (set ss slot (slot_free s)) x) = slot_freed_passed slot s ss x r2 refl q.passed.shown in
    record {
      in_use =
          ap (λ zs. is_free_slot (slice_get zs slot)) (slots_there h x old.board is) ∙ ap is_free_slot at
          ∙ sym (shows_as_free x.debug.version r.tdata1 s.trigger (whole.counts slot s at) q.word) ∙ r.shows;
      wrote = wrote_as h x (played ts x) (with_debug_part (slot_freed slot)) old new is frozen
          (played_from ts (Got Tselect r.kept ∷ r0) x (posed k ss x) r.is refl ∙ p.is ∙ q.passed.is ∙ v.is
          ∙ put_back_is r.kept k slot (set ss slot (slot_free s)) x (kept_is r.kept k ss x r0 sh0) whole.selected
          ∙ ap (λ zs. posed k zs x) (set-over slot_free ss slot s at)) w;
    }

pub makes_unused : (slot h : ℕ) → slot < 4 → Makes (Frees slot true) h (UnusedAt slot h)
makes_unused slot h small x ts old new is whole frozen r sh w =
    let k : ℕ = x.debug.tselect in
    let ss : List Slot = x.debug.slots in
    let lt : slot < length ss = omega (arith, small, whole.slots) in
    let s : Slot = slot_at slot ss in
    let at : slice_get ss slot ≡ Some s = there_at slot ss lt in
    let r1 : List Transfer = put_back r.kept in
    let r0 : List Transfer = word_read slot r.tdata1 ++ r1 in
    let sh0 : Shown (Got Tselect r.kept ∷ r0) (posed k ss x) = shown_from ts (Got Tselect r.kept ∷ r0) x (posed k ss x) r.is refl sh in
    let p : Passed (Got Tselect r.kept ∷ r0) (posed k ss x) r0 (posed k ss x) = passed_got Tselect r.kept r0 (posed k ss x) sh0 in
    let q : WordPassed slot r.tdata1 ss k x r1 = word_passed slot r.tdata1 k ss x r1 small p.shown in
    record {
      free =
          ap (λ zs. is_free_slot (slice_get zs slot)) (slots_there h x old.board is) ∙ ap is_free_slot at
          ∙ sym (shows_as_free x.debug.version r.tdata1 s.trigger (whole.counts slot s at) q.word) ∙ r.shows;
      went = went_as h x (played ts x) old new is frozen
          (played_from ts (Got Tselect r.kept ∷ r0) x (posed k ss x) r.is refl ∙ p.is ∙ q.passed.is
          ∙ put_back_is r.kept k slot ss x (kept_is r.kept k ss x r0 sh0) whole.selected) w;
    }

-- ---- a slot is armed

pub makes_armed : (meant : SlotUse) (slot h : ℕ) → CanArm meant → Makes (Arms meant (Some slot)) h (ArmedAt meant slot h)
makes_armed meant slot h can x ts old new is whole frozen (release, r) sh w =
    let k : ℕ = x.debug.tselect in
    let ss : List Slot = x.debug.slots in
    let f : Finds slot r.sought = r.seeks in
    let small : slot < 4 = omega (arith, f.used.few, f.here) in
    let lt : slot < length ss = omega (arith, small, whole.slots) in
    let s : Slot = slot_at slot ss in
    let at : slice_get ss slot ≡ Some s = there_at slot ss lt in
    let r3 : List Transfer = put_back r.kept in
    let v : Version = arming_version release r.tinfo in
    let r2' : List Transfer = armed_by v meant ++ r3 in
    let r2 : List Transfer = asked Tinfo r.tinfo ++ r2' in
    let r1 : List Transfer = word_read slot f.tdata1 ++ r2 in
    let r0 : List Transfer = words_read 0 f.vain ++ r1 in
    let all : ts ≡ Got Tselect r.kept ∷ r0 =
    r.is ∙ ap (λ (zs : List Transfer). Got Tselect r.kept ∷ (r.sought ++ zs)) (append_assoc (asked Tinfo r.tinfo) (armed_by v meant) r3)
    ∙ ap (λ (zs : List Transfer). Got Tselect r.kept ∷ (zs ++ r2)) f.is
    ∙ ap (λ (zs : List Transfer). Got Tselect r.kept ∷ zs) (append_assoc (words_read 0 f.vain) (word_read slot f.tdata1) r2) in
    let sh0 : Shown (Got Tselect r.kept ∷ r0) (posed k ss x) = shown_from ts (Got Tselect r.kept ∷ r0) x (posed k ss x) all refl sh in
    let p : Passed (Got Tselect r.kept ∷ r0) (posed k ss x) r0 (posed k ss x) = passed_got Tselect r.kept r0 (posed k ss x) sh0 in
    let a : WordsPassed 0 f.vain ss k x r1 = words_passed 0 f.vain ss k x r1 whole.slots whole.counts (omega (arith, f.used.few)) f.used.all p.shown in
    let q : WordPassed slot f.tdata1 ss a.last x r2 = word_passed slot f.tdata1 a.last ss x r2 small a.passed.shown in
    let t : TinfoPassed release r.tinfo slot ss x r2' = tinfo_passed release r.tinfo slot ss x r2' q.passed.shown in
    let u : ArmedAs v meant slot s ss x r3 = armed_as v meant slot s ss x r3 t.offered can lt refl t.passed.shown in
    record {
      lowest = ap first_free (slots_there h x old.board is)
          ∙ lowest_free ss slot s at (sym (shows_as_free x.debug.version f.tdata1 s.trigger (whole.counts slot s at) q.word) ∙ f.free)
          (λ j z below here. ap (λ (y : Slot). is_free y.trigger) (sym (is_there j z ss here)) ∙ a.used j (omega arith) (omega (arith, below, f.here)));
      what = u.what;
      what_is = u.named;
      wrote = wrote_as h x (played ts x) (with_debug_part (slot_changed slot u.what)) old new is frozen
          (played_from ts (Got Tselect r.kept ∷ r0) x (posed k ss x) all refl ∙ p.is ∙ a.passed.is ∙ q.passed.is ∙ t.passed.is ∙ u.passed.is
          ∙ put_back_is r.kept k slot (set ss slot (armed_for u.what s)) x (kept_is r.kept k ss x r0 sh0) whole.selected
          ∙ ap (λ zs. posed k zs x) (set-over (armed_for u.what) ss slot s at)) w;
    }

pub makes_full : (meant : SlotUse) (h : ℕ) → Makes (Arms meant None) h (FullAt h)
makes_full meant h x ts old new is whole frozen (release, r) sh w =
    let k : ℕ = x.debug.tselect in
    let ss : List Slot = x.debug.slots in
    let f : FindsNone r.sought = r.seeks in
    let r1 : List Transfer = put_back r.kept in
    let r0 : List Transfer = words_read 0 f.words ++ r1 in
    let all : ts ≡ Got Tselect r.kept ∷ r0 = r.is ∙ ap (λ (zs : List Transfer). Got Tselect r.kept ∷ (zs ++ r1)) f.is in
    let sh0 : Shown (Got Tselect r.kept ∷ r0) (posed k ss x) = shown_from ts (Got Tselect r.kept ∷ r0) x (posed k ss x) all refl sh in
    let p : Passed (Got Tselect r.kept ∷ r0) (posed k ss x) r0 (posed k ss x) = passed_got Tselect r.kept r0 (posed k ss x) sh0 in
    let a : WordsPassed 0 f.words ss k x r1 = words_passed 0 f.words ss k x r1 whole.slots whole.counts (omega (arith, f.four)) f.used p.shown in
    record {
      none = ap first_free (slots_there h x old.board is)
          ∙ none_free ss (λ j z here. ap (λ (u : Slot). is_free u.trigger) (sym (is_there j z ss here))
          ∙ (let inside : j < length ss = slice_get_within ss j z here in a.used j (omega arith) (omega (arith, inside, whole.slots, f.four))));
      went = went_as h x (played ts x) old new is frozen
          (played_from ts (Got Tselect r.kept ∷ r0) x (posed k ss x) all refl ∙ p.is ∙ a.passed.is
          ∙ put_back_is r.kept k a.last ss x (kept_is r.kept k ss x r0 sh0) whole.selected) w;
    }
