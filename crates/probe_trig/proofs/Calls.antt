-- What each whole call makes of the harts of a told chip.
use Rattle.std.proofs.Common.{◌≡◌, ◌∙◌, ◌||◌, ℕ, Bool, true, false, List, [], ◌∷◌, map, Some, slice_get, refl, sym, ap, subst}
use Rattle.rv_model.specs.declared.slot.Slot.{Slot}
use Rattle.rv_model.specs.Board.{Board, Hart}
use Rattle.abstract_debugger.specs.Plan.{with_debug_part}
use Rattle.abstract_debugger.specs.Slots.{any_hit, hits_of, slots_at, slots_here, trigger_has_hit, use_of, uses_at, uses_here, with_slots, with_trigger}
use Rattle.abstract_debugger.specs.Stands.{Rewrote, Target}
use Rattle.probe_trig.specs.declared.change.Change.{Change}
use Rattle.probe_trig.specs.declared.change.Change.TheVariants as change
use Rattle.probe_trig.specs.declared.slot_view.SlotView.{SlotView}
use Rattle.probe_trig.specs.declared.slot_words.SlotWords.{SlotWords}
use Rattle.probe_trig.specs.Runs.{Changes, ChangesAny, Reads}
use Rattle.probe_trig.specs.Slots.{ForgotAt, Shows, SlotsRead, ViewedAt, hit_of_words, use_of_words}
use Rattle.probe_run.specs.Acts.{Tells}
use Rattle.probe_trig.specs.Single.{ChangedAll, ReadAll}
use Rattle.probe_trig.specs.Transfers.{Did, Transfer}
use Rattle.probe_trig.specs.SlotRegisters.{shows_hit, trigger_changed}
use Rattle.probe_trig.proofs.Fitting.{four_changed, four_read}
use Rattle.probe_trig.proofs.Four.{FourChanged, FourSeen, Whole, changed_four, seen_four, whole_of}
use Rattle.probe_trig.proofs.Parts.{posed}
use Rattle.probe_trig.proofs.Shows.{shows_as_hit}
use Rattle.probe_trig.proofs.Told.{Makes, Shown, played, went_as, wrote_as}

-- the slots of the hart that is there
pub slots_there : (h : ℕ) (x : Hart) (b : Board) → slice_get b.harts h ≡ Some x → slots_at h b ≡ x.debug.slots
slots_there h x b is = ap slots_here is

uses_there : (h : ℕ) (x : Hart) (b : Board) → slice_get b.harts h ≡ Some x → uses_at h b ≡ map (use_of x.debug.version) x.debug.slots
uses_there h x b is = ap uses_here is

-- along these transfers, from this hart
pub shown_from : (ts all : List Transfer) (x y : Hart) → ts ≡ all → x ≡ y → Shown ts x → Shown all y
shown_from ts all x y e f s = subst (λ (z : Hart). Shown all z) f (subst (λ zs. Shown zs x) e s)

pub played_from : (ts all : List Transfer) (x y : Hart) → ts ≡ all → x ≡ y → played ts x ≡ played all y
played_from ts all x y e f = ap (λ zs. played zs x) e ∙ ap (played all) f

-- ---- the slots with a hit are changed

-- all four, by what is made of a trigger
abbrev pub changes_all : Change → Hart → Hart
changes_all how = with_debug_part (with_slots (map (with_trigger (trigger_changed how))))

pub record ChangedAt (how : Change) (some : Bool) (h : ℕ) (old new : Target) : Type 0 where
  pub some_is : some ≡ any_hit (slots_at h old.board)
  pub wrote : Rewrote (changes_all how) h old new

hits_any : (wa wb wc wd : ℕ) (a b c d : Bool) → shows_hit wa ≡ a → shows_hit wb ≡ b → shows_hit wc ≡ c → shows_hit wd ≡ d
    → (shows_hit wa || (shows_hit wb || (shows_hit wc || shows_hit wd))) ≡ (a || (b || (c || d)))
hits_any wa wb wc wd a b c d e f g k =
    ap (λ z. z || (shows_hit wb || (shows_hit wc || shows_hit wd))) e ∙ ap (λ z. a || (z || (shows_hit wc || shows_hit wd))) f
    ∙ ap (λ z. a || (b || (z || shows_hit wd))) g ∙ ap (λ z. a || (b || (c || z))) k

any_four : (a b c d : Bool) → (a || (b || (c || d))) ≡ (a || (b || (c || (d || false))))
any_four true b c d = refl
any_four false true c d = refl
any_four false false true d = refl
any_four false false false true = refl
any_four false false false false = refl

pub makes_changes : (how : Change) (some : Bool) (wa wb wc wd h : ℕ) → some ≡ (shows_hit wa || (shows_hit wb || (shows_hit wc || shows_hit wd)))
    → Makes (Changes how wa wb wc wd) h (ChangedAt how some h)
makes_changes how some wa wb wc wd h some_is x ts old new is whole frozen r sh w =
    let v : Whole x = whole_of h x whole in
    let ss : List Slot = v.four.a ∷ v.four.b ∷ v.four.c ∷ v.four.d ∷ [] in
    let k : ℕ = x.debug.tselect in
    let all : List Transfer = four_changed how r.kept wa wb wc wd in
    let f : FourChanged how x k r.kept wa wb wc wd v.four.a v.four.b v.four.c v.four.d =
    changed_four how x k r.kept wa wb wc wd v.four.a v.four.b v.four.c v.four.d whole.selected v.fits (shown_from ts all x (posed k ss x) r.is v.is sh) in
    record {
      some_is =
          some_is
          ∙ hits_any wa wb wc wd (trigger_has_hit v.four.a.trigger) (trigger_has_hit v.four.b.trigger) (trigger_has_hit v.four.c.trigger)
          (trigger_has_hit v.four.d.trigger)
          (shows_as_hit x.debug.version wa v.four.a.trigger (v.fits 0 v.four.a refl) f.word_a) (shows_as_hit x.debug.version wb v.four.b.trigger (v.fits 1 v.four.b refl) f.word_b)
          (shows_as_hit x.debug.version wc v.four.c.trigger (v.fits 2 v.four.c refl) f.word_c) (shows_as_hit x.debug.version wd v.four.d.trigger (v.fits 3 v.four.d refl) f.word_d)
          ∙ any_four (trigger_has_hit v.four.a.trigger) (trigger_has_hit v.four.b.trigger) (trigger_has_hit v.four.c.trigger) (trigger_has_hit v.four.d.trigger)
          ∙ sym (ap any_hit (slots_there h x old.board is ∙ v.four.is));
      wrote = wrote_as h x (played ts x) (changes_all how) old new is frozen
          (played_from ts all x (posed k ss x) r.is v.is ∙ f.is ∙ ap (λ zs. posed k (map (with_trigger (trigger_changed how)) zs) x) (sym v.four.is)) w;
    }

pub changed_any : (how : Change) (some : Bool) (h : ℕ) (old new : Tells) → ChangedAll how some h old new → Did (ChangesAny how) h old new
changed_any how some h old new r = record { transfers = r.did.transfers; whole = (r.a, r.b, r.c, r.d, r.did.whole); made = r.did.made }

pub makes_forget : (h : ℕ) → Makes (ChangesAny change.Forget) h (ForgotAt h)
makes_forget h x ts old new is whole frozen (a, b, c, d, r) sh w =
    let m : ChangedAt change.Forget (shows_hit a || (shows_hit b || (shows_hit c || shows_hit d))) h old new =
    makes_changes change.Forget (shows_hit a || (shows_hit b || (shows_hit c || shows_hit d))) a b c d h refl x ts old new is whole frozen r sh w in
    m.wrote

-- ---- the slots are read

pub slots_read : (view : SlotView) (words : List SlotWords) (h : ℕ) (old new : Tells) → ReadAll words h old new
    → Shows view (map use_of_words words) (map hit_of_words words) → SlotsRead view h old new
slots_read view words h old new (a, b, c, d, is, did) shows =
    record { a = a; b = b; c = c; d = d; did = did; shows = subst (λ ws. Shows view (map use_of_words ws) (map hit_of_words ws)) is shows }

pub makes_view : (view : SlotView) (wa wb wc wd : SlotWords) (h : ℕ)
    → Shows view (map use_of_words (wa ∷ wb ∷ wc ∷ wd ∷ [])) (map hit_of_words (wa ∷ wb ∷ wc ∷ wd ∷ [])) → Makes (Reads wa wb wc wd) h (ViewedAt view h)
makes_view view wa wb wc wd h shows x ts old new is whole frozen r sh w =
    let v : Whole x = whole_of h x whole in
    let ss : List Slot = v.four.a ∷ v.four.b ∷ v.four.c ∷ v.four.d ∷ [] in
    let k : ℕ = x.debug.tselect in
    let all : List Transfer = four_read r.kept wa wb wc wd in
    let f : FourSeen x k r.kept wa wb wc wd ss = seen_four x k r.kept wa wb wc wd v.four.a v.four.b v.four.c v.four.d whole.selected v.fits
    (shown_from ts all x (posed k ss x) r.is v.is sh) in
    let e : slots_at h old.board ≡ ss = slots_there h x old.board is ∙ v.four.is in
    record {
      shows = record {
        uses_are = shows.uses_are ∙ f.uses ∙ ap (map (use_of x.debug.version)) (sym v.four.is) ∙ sym (uses_there h x old.board is);
        hits_are = shows.hits_are ∙ f.hits ∙ ap hits_of (sym e);
        small = shows.small;
      };
      went = went_as h x (played ts x) old new is frozen (played_from ts all x (posed k ss x) r.is v.is ∙ f.is ∙ sym v.is) w;
    }
