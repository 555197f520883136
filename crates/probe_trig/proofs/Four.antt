-- The four slots along a whole call: they are read, or those with a hit are changed.
use Rattle.std.proofs.Common.{◌≡◌, ◌∙◌, ◌<◌, ◌++◌, ℕ, List, [], ◌∷◌, map, length, refl, sym, ap, subst, arith}
use Rattle.rv_model.specs.declared.slot.Slot.{Slot}
use Rattle.rv_model.specs.declared.version.Version.{Version}
use Rattle.rv_model.specs.Board.{Hart, IsHart}
use Rattle.rv_model.specs.TriggerWords.{CountFits, tdata1_of}
use Rattle.rv_model.specs.Triggers.{CountsFit}
use Rattle.abstract_debugger.specs.Slots.{hits_of, trigger_has_hit, use_of, with_trigger}
use Rattle.probe_trig.specs.declared.change.Change.{Change}
use Rattle.probe_trig.specs.declared.register.TriggerRegister.TheVariants.{Tdata2, Tselect}
use Rattle.probe_trig.specs.declared.slot_words.SlotWords.{SlotWords}
use Rattle.probe_trig.specs.Runs.{put_back, slot_changed, slot_read}
use Rattle.probe_trig.specs.Slots.{hit_of_words, use_of_words}
use Rattle.probe_trig.specs.Transfers.{Transfer}
use Rattle.probe_trig.specs.Transfers.Transfer.{Got}
use Rattle.probe_trig.specs.SlotRegisters.{trigger_changed}
use Rattle.probe_trig.proofs.Fitting.{four_changed, four_read}
use Rattle.probe_trig.proofs.Parts.{
  Passed,
  SlotPassed,
  WordPassed,
  kept_is,
  passed_got,
  passed_then,
  posed,
  put_back_is,
  slot_at,
  slot_passed,
  tdata2_holds,
  word_passed,
}
use Rattle.probe_trig.proofs.Shows.{shows_as_hit, shows_as_use}
use Rattle.probe_trig.proofs.Told.{Shown, played}
use Rattle.std.proofs.lemmas.Option.{same_Some}

pub record Four (ss : List Slot) : Type 0 where
  pub a : Slot
  pub b : Slot
  pub c : Slot
  pub d : Slot
  pub is : ss ≡ a ∷ b ∷ c ∷ d ∷ []

pub four_of : (ss : List Slot) → length ss ≡ 4 → Four ss
four_of [] e = absurd (omega (arith, e))
four_of (a ∷ []) e = absurd (omega (arith, e))
four_of (a ∷ b ∷ []) e = absurd (omega (arith, e))
four_of (a ∷ b ∷ c ∷ []) e = absurd (omega (arith, e))
four_of (a ∷ b ∷ c ∷ d ∷ []) e = record { a = a; b = b; c = c; d = d; is = refl }
four_of (a ∷ b ∷ c ∷ d ∷ x ∷ ss) e = absurd (omega (arith, e))

-- of a whole hart
pub record Whole (x : Hart) : Type 0 where
  pub four : Four x.debug.slots
  pub fits : CountsFit (four.a ∷ four.b ∷ four.c ∷ four.d ∷ [])
  pub is : x ≡ posed x.debug.tselect (four.a ∷ four.b ∷ four.c ∷ four.d ∷ []) x

pub whole_of : (h : ℕ) (x : Hart) → IsHart h x → Whole x
whole_of h x w =
    let f : Four x.debug.slots = four_of x.debug.slots w.slots in
    record { four = f; fits = subst (λ ss. CountsFit ss) f.is w.counts; is = ap (λ ss. posed x.debug.tselect ss x) f.is }

-- ---- changed

pub record FourChanged (how : Change) (x : Hart) (k kept wa wb wc wd : ℕ) (a b c d : Slot) : Type 0 where
  pub word_a : wa ≡ tdata1_of x.debug.version a.trigger
  pub word_b : wb ≡ tdata1_of x.debug.version b.trigger
  pub word_c : wc ≡ tdata1_of x.debug.version c.trigger
  pub word_d : wd ≡ tdata1_of x.debug.version d.trigger
  pub is : played (four_changed how kept wa wb wc wd) (posed k (a ∷ b ∷ c ∷ d ∷ []) x)
      ≡ posed k (map (with_trigger (trigger_changed how)) (a ∷ b ∷ c ∷ d ∷ [])) x

pub changed_four : (how : Change) (x : Hart) (k kept wa wb wc wd : ℕ) (a b c d : Slot) → k < 4 → CountsFit (a ∷ b ∷ c ∷ d ∷ [])
    → Shown (four_changed how kept wa wb wc wd) (posed k (a ∷ b ∷ c ∷ d ∷ []) x)
    → FourChanged how x k kept wa wb wc wd a b c d
changed_four how x k kept wa wb wc wd a b c d small fits sh =
    let f : Slot → Slot = with_trigger (trigger_changed how) in
    let s0 : List Slot = a ∷ b ∷ c ∷ d ∷ [] in
    let s1 : List Slot = f a ∷ b ∷ c ∷ d ∷ [] in
    let s2 : List Slot = f a ∷ f b ∷ c ∷ d ∷ [] in
    let s3 : List Slot = f a ∷ f b ∷ f c ∷ d ∷ [] in
    let s4 : List Slot = f a ∷ f b ∷ f c ∷ f d ∷ [] in
    let r4 : List Transfer = put_back kept in
    let r3 : List Transfer = slot_changed how 3 wd ++ r4 in
    let r2 : List Transfer = slot_changed how 2 wc ++ r3 in
    let r1 : List Transfer = slot_changed how 1 wb ++ r2 in
    let r0 : List Transfer = slot_changed how 0 wa ++ r1 in
    let p : Passed (Got Tselect kept ∷ r0) (posed k s0 x) r0 (posed k s0 x) = passed_got Tselect kept r0 (posed k s0 x) sh in
    let q0 : SlotPassed how 0 wa a s0 k x r1 = slot_passed how 0 wa a s0 k x r1 (omega arith) (fits 0 a refl) refl refl p.shown in
    let q1 : SlotPassed how 1 wb b s1 0 x r2 = slot_passed how 1 wb b s1 0 x r2 (omega arith) (fits 1 b refl) refl refl q0.passed.shown in
    let q2 : SlotPassed how 2 wc c s2 1 x r3 = slot_passed how 2 wc c s2 1 x r3 (omega arith) (fits 2 c refl) refl refl q1.passed.shown in
    let q3 : SlotPassed how 3 wd d s3 2 x r4 = slot_passed how 3 wd d s3 2 x r4 (omega arith) (fits 3 d refl) refl refl q2.passed.shown in
    record {
      word_a = q0.word;
      word_b = q1.word;
      word_c = q2.word;
      word_d = q3.word;
      is = p.is ∙ q0.passed.is ∙ q1.passed.is ∙ q2.passed.is ∙ q3.passed.is ∙ put_back_is kept k 3 s4 x (kept_is kept k s0 x r0 sh) small;
    }

-- ---- read

record SlotSeen (i : ℕ) (w : SlotWords) (s : Slot) (ss : List Slot) (k : ℕ) (x : Hart) (rest : List Transfer) : Type 0 where
  pub tdata1 : w.tdata1 ≡ tdata1_of x.debug.version s.trigger
  pub tdata2 : w.tdata2 ≡ s.tdata2
  pub passed : Passed (slot_read i w ++ rest) (posed k ss x) rest (posed i ss x)

slot_seen : (i : ℕ) (w : SlotWords) (s : Slot) (ss : List Slot) (k : ℕ) (x : Hart) (rest : List Transfer) → i < 4 → slot_at i ss ≡ s
    → Shown (slot_read i w ++ rest) (posed k ss x) → SlotSeen i w s ss k x rest
slot_seen i w s ss k x rest small here sh =
    let more : List Transfer = Got Tdata2 w.tdata2 ∷ rest in
    let a : WordPassed i w.tdata1 ss k x more = word_passed i w.tdata1 k ss x more small sh in
    record {
      tdata1 = a.word ∙ ap (λ (u : Slot). tdata1_of x.debug.version u.trigger) here;
      tdata2 = same_Some w.tdata2 (slot_at i ss).tdata2 (sym a.passed.shown.0 ∙ tdata2_holds i ss x) ∙ ap (λ (u : Slot). u.tdata2) here;
      passed = passed_then (slot_read i w ++ rest) more rest (posed k ss x) (posed i ss x) (posed i ss x) a.passed
          (passed_got Tdata2 w.tdata2 rest (posed i ss x) a.passed.shown);
    }

use_seen : (v : Version) (w : SlotWords) (s : Slot) → CountFits s.trigger → w.tdata1 ≡ tdata1_of v s.trigger → w.tdata2 ≡ s.tdata2
    → use_of_words w ≡ use_of v s
use_seen v w s fits e f = shows_as_use v w.tdata1 w.tdata2 s fits e f

pub record FourSeen (x : Hart) (k kept : ℕ) (wa wb wc wd : SlotWords) (ss : List Slot) : Type 0 where
  pub uses : map use_of_words (wa ∷ wb ∷ wc ∷ wd ∷ []) ≡ map (use_of x.debug.version) ss
  pub hits : map hit_of_words (wa ∷ wb ∷ wc ∷ wd ∷ []) ≡ hits_of ss
  pub is : played (four_read kept wa wb wc wd) (posed k ss x) ≡ posed k ss x

lists : {A : Type 0} (p q r s t u v w : A) → p ≡ t → q ≡ u → r ≡ v → s ≡ w → p ∷ q ∷ r ∷ s ∷ [] ≡ t ∷ u ∷ v ∷ w ∷ []
lists p q r s t u v w e f g h =
    ap (λ z. z ∷ q ∷ r ∷ s ∷ []) e ∙ ap (λ z. t ∷ z ∷ r ∷ s ∷ []) f ∙ ap (λ z. t ∷ u ∷ z ∷ s ∷ []) g ∙ ap (λ z. t ∷ u ∷ v ∷ z ∷ []) h

pub seen_four : (x : Hart) (k kept : ℕ) (wa wb wc wd : SlotWords) (a b c d : Slot) → k < 4 → CountsFit (a ∷ b ∷ c ∷ d ∷ [])
    → Shown (four_read kept wa wb wc wd) (posed k (a ∷ b ∷ c ∷ d ∷ []) x)
    → FourSeen x k kept wa wb wc wd (a ∷ b ∷ c ∷ d ∷ [])
seen_four x k kept wa wb wc wd a b c d small fits sh =
    let ss : List Slot = a ∷ b ∷ c ∷ d ∷ [] in
    let r4 : List Transfer = put_back kept in
    let r3 : List Transfer = slot_read 3 wd ++ r4 in
    let r2 : List Transfer = slot_read 2 wc ++ r3 in
    let r1 : List Transfer = slot_read 1 wb ++ r2 in
    let r0 : List Transfer = slot_read 0 wa ++ r1 in
    let p : Passed (Got Tselect kept ∷ r0) (posed k ss x) r0 (posed k ss x) = passed_got Tselect kept r0 (posed k ss x) sh in
    let q0 : SlotSeen 0 wa a ss k x r1 = slot_seen 0 wa a ss k x r1 (omega arith) refl p.shown in
    let q1 : SlotSeen 1 wb b ss 0 x r2 = slot_seen 1 wb b ss 0 x r2 (omega arith) refl q0.passed.shown in
    let q2 : SlotSeen 2 wc c ss 1 x r3 = slot_seen 2 wc c ss 1 x r3 (omega arith) refl q1.passed.shown in
    let q3 : SlotSeen 3 wd d ss 2 x r4 = slot_seen 3 wd d ss 2 x r4 (omega arith) refl q2.passed.shown in
    record {
      uses = lists (use_of_words wa) (use_of_words wb) (use_of_words wc) (use_of_words wd) (use_of x.debug.version a) (use_of x.debug.version b) (use_of x.debug.version c) (use_of x.debug.version d)
          (use_seen x.debug.version wa a (fits 0 a refl) q0.tdata1 q0.tdata2) (use_seen x.debug.version wb b (fits 1 b refl) q1.tdata1 q1.tdata2)
          (use_seen x.debug.version wc c (fits 2 c refl) q2.tdata1 q2.tdata2) (use_seen x.debug.version wd d (fits 3 d refl) q3.tdata1 q3.tdata2);
      hits = lists (hit_of_words wa) (hit_of_words wb) (hit_of_words wc) (hit_of_words wd) (trigger_has_hit a.trigger) (trigger_has_hit b.trigger)
          (trigger_has_hit c.trigger) (trigger_has_hit d.trigger)
          (shows_as_hit x.debug.version wa.tdata1 a.trigger (fits 0 a refl) q0.tdata1) (shows_as_hit x.debug.version wb.tdata1 b.trigger (fits 1 b refl) q1.tdata1)
          (shows_as_hit x.debug.version wc.tdata1 c.trigger (fits 2 c refl) q2.tdata1) (shows_as_hit x.debug.version wd.tdata1 d.trigger (fits 3 d refl) q3.tdata1);
      is = p.is ∙ q0.passed.is ∙ q1.passed.is ∙ q2.passed.is ∙ q3.passed.is ∙ put_back_is kept k 3 ss x (kept_is kept k ss x r0 sh) small;
    }
