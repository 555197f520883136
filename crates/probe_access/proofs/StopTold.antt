-- Both registers that say where a hart stands are read in one call: the end without an error says that the words are theirs.
use Rattle.std.proofs.Common.{◌≡◌, ◌≢◌, ◌∙◌, ◌<◌, ◌^◌, ◌++◌, ℕ, List, [], ◌∷◌, map, false, Option, Some, None, refl, sym, ap, subst, append_assoc, arith}
use Rattle.rv_model.specs.Board.{Hart}
use Rattle.rv_model.specs.Dcsr.{dcsr_of_word}
use Rattle.rv_model.specs.DebugRegisters.{dcsr_number, debug_value}
use Rattle.debug_model.specs.Addresses.{command_address, data0_address}
use Rattle.debug_model.specs.declared.dmi_op.DmiOp.TheVariants.{Read, Write}
use Rattle.debug_model.specs.Course.{OneOperation}
use Rattle.debug_model.specs.Deeds.{Deed, ran}
use Rattle.debug_model.specs.Dmi.{value_of}
use Rattle.debug_model.specs.Module.{Site, operated, register_at, result_of}
use Rattle.debug_model.specs.SystemBus.{BusUnit}
use Rattle.debug_model.specs.Told.{Far, site_of}
use Rattle.probe_run.specs.Acts.{Act, Tells}
use Rattle.probe_run.specs.Acts.Act.{Got, Put}
use Rattle.probe_access.specs.CommandRuns.{EndedBehind, clearing, error_shown, poll_act, shows_busy}
use Rattle.probe_access.specs.RegisterAccess.{joined, transfer_command, transfer_word}
use Rattle.probe_access.specs.RegisterRuns.{asked_acts}
use Rattle.probe_access.specs.Stops.{StopApart, StopAtOnce, StopRead, StopTooEarly, dpc_number, stop_acts}
use Rattle.probe_access.proofs.Along.{AtSites, ReadAt, SiteActs, Split, did_sites, did_untold, site_acts-split}
use Rattle.probe_access.proofs.AtOnceTold.{Asked, BothTouched, EndSplit, FineEnd, Touched, asked_first, asked_ran, both_touched, end_split, lower, stood_polled, upper}
use Rattle.probe_access.proofs.AtOnceTold.Asked.{going, failed}
use Rattle.probe_access.proofs.Errors.{Calm, Erred, ErredEnd, command_keeps, data0_read_keeps, erred_cleared, erred_one, erred_polled, erred_ran, stood_calm}
use Rattle.probe_access.proofs.Errors.Erred.{early}
use Rattle.probe_access.proofs.ReadyUnit.{Kept, done_ran, unit_of}
use Rattle.probe_access.proofs.RegAnswers.{ReadTold, StoodTold, apart_told, words_joined}
use Rattle.probe_access.proofs.RegisterTold.{Rests, Stood, fine_left}
use Rattle.probe_access.proofs.Steps.Between.{still, done}
use Rattle.probe_access.proofs.TransferLemmas.{with_command, words_behind}

-- ---- the lower word alone

lower_at : (number result h : ℕ) (bus : BusUnit) (y : Hart) (base : Site) (w : Hart) (k : Kept) (s t : Site) (behind : List Deed) → Calm h bus y base w
    → result ≡ result_of data0_address s → t ≡ ran behind (operated (Read data0_address) s) → Asked number h bus y base k s
    → Touched number (value_of result) lower h bus y base w k t
unfolding register_at
lower_at number result h bus y base w k s t behind c result_is is (going v held (still harts at)) =
    Touched.wrong (erred_ran h bus y base w behind (operated (Read data0_address) s) t c is
    (early (with_command (transfer_command false number) k) number v false held (still harts (ap (operated (Read data0_address)) at))))
lower_at number result h bus y base w k s t behind c result_is is (going v held (done harts at)) =
    Touched.right v held.is (ap value_of (result_is ∙ ap (result_of data0_address) at))
    (record {
      held = c.held;
      frozen = c.frozen;
      idle = c.idle;
      at = done_ran (unit_of (words_behind false number v k) h bus) h y base w behind (operated (Read data0_address) s) t c.held c.frozen refl c.idle is
          (record { harts = harts; is = ap (operated (Read data0_address)) at });
    })
lower_at number result h bus y base w k s t behind c result_is is (failed e) =
    Touched.wrong (erred_ran h bus y base w behind (operated (Read data0_address) s) t c is (data0_read_keeps h bus y base s e))

pub lower_alone : (number word h : ℕ) (bus : BusUnit) (y : Hart) (base : Site) (w : Hart) (k : Kept) (s t : Site) → Calm h bus y base w
    → Asked number h bus y base k s → ReadAt data0_address word s t → Touched number word lower h bus y base w k t
lower_alone number word h bus y base w k s t c a r =
    let o : OneOperation (Read data0_address) r.result s t = r.one in
    subst (λ n. Touched number n lower h bus y base w k t) (sym r.value_is)
    (lower_at number r.result h bus y base w k (ran o.before s) t o.behind c o.result_is o.is
    (asked_ran number h bus y base w k o.before s (ran o.before s) c refl a))

-- ---- both registers

-- the words are theirs, and both commands are over; or one was read too early
pub data StopTouched (low high word h : ℕ) (bus : BusUnit) (y : Hart) (base : Site) (w : Hart) (t : Site) : Type 0 where
  right : (v u : ℕ) (k : Kept) → debug_value y dpc_number ≡ Some v → low ≡ value_of (lower v) → high ≡ value_of (upper v)
      → debug_value y dcsr_number ≡ Some u → word ≡ value_of (lower u) → Stood h bus y base w k t → StopTouched low high word h bus y base w t
  wrong : Erred h bus y base t → StopTouched low high word h bus y base w t

-- the second command, and its word
abbrev pub second_acts : ℕ → List Act
second_acts word = Put command_address (transfer_word false dcsr_number) ∷ Got data0_address word ∷ []

second_erred : (word h : ℕ) (bus : BusUnit) (y : Hart) (base : Site) (w : Hart) (s t : Site) → Calm h bus y base w → Erred h bus y base s
    → SiteActs (second_acts word) s t → Erred h bus y base t
second_erred word h bus y base w s t c e p =
    subst (Erred h bus y base) (sym p.2.2)
    (erred_one h bus y base w (Read data0_address) p.2.1.result p.0 p.2.0 c (data0_read_keeps h bus y base) p.2.1.one
    (erred_one h bus y base w (Write command_address (transfer_word false dcsr_number)) (transfer_word false dcsr_number) s p.0 c
    (command_keeps (transfer_word false dcsr_number) h bus y base) p.1 e))

second_by : (low high word v h : ℕ) (bus : BusUnit) (y : Hart) (base : Site) (w : Hart) (k : Kept) (t : Site) → debug_value y dpc_number ≡ Some v
    → low ≡ value_of (lower v) → high ≡ value_of (upper v) → Touched dcsr_number word lower h bus y base w k t → StopTouched low high word h bus y base w t
second_by low high word v h bus y base w k t held low_is high_is (Touched.right u second word_is st) =
    StopTouched.right v u (words_behind false dcsr_number u k) held low_is high_is second word_is st
second_by low high word v h bus y base w k t held low_is high_is (Touched.wrong e) = StopTouched.wrong e

second_touched : (low high word h : ℕ) (bus : BusUnit) (y : Hart) (base : Site) (w : Hart) (k : Kept) (s t : Site) → Calm h bus y base w
    → BothTouched dpc_number low high h bus y base w k s → SiteActs (second_acts word) s t → StopTouched low high word h bus y base w t
second_touched low high word h bus y base w k s t c (BothTouched.right v held low_is high_is st) p =
    let l : Kept = words_behind false dpc_number v k in
    second_by low high word v h bus y base w l t held low_is high_is
    (subst (λ u. Touched dcsr_number word lower h bus y base w l u) (sym p.2.2)
    (lower_alone dcsr_number word h bus y base w l p.0 p.2.0 c (asked_first dcsr_number h bus y base w l s p.0 (record { small = omega arith; other = refl }) st p.1) p.2.1))
second_touched low high word h bus y base w k s t c (BothTouched.wrong e) p = StopTouched.wrong (second_erred word h bus y base w s t c e p)

pub stop_touched : (low high word h : ℕ) (bus : BusUnit) (y : Hart) (base : Site) (w : Hart) (k : Kept) (s t : Site) → Stood h bus y base w k s
    → SiteActs (stop_acts low high word) s t → StopTouched low high word h bus y base w t
stop_touched low high word h bus y base w k s t st p =
    let cut : Split (asked_acts dpc_number low high) (second_acts word) s t = site_acts-split (asked_acts dpc_number low high) (second_acts word) s t p in
    second_touched low high word h bus y base w k cut.mid t (stood_calm h bus y base w k s st)
    (both_touched dpc_number low high h bus y base w k s cut.mid (record { small = omega arith; other = refl }) st cut.first) cut.rest

-- ---- the end

pub data StopEnd (low high word last h : ℕ) (bus : BusUnit) (y : Hart) (base : Site) (w : Hart) (t : Site) : Type 0 where
  right : (v u : ℕ) → debug_value y dpc_number ≡ Some v → low ≡ value_of (lower v) → high ≡ value_of (upper v) → debug_value y dcsr_number ≡ Some u
      → word ≡ value_of (lower u) → error_shown last ≡ 0 → Rests h bus y base w t → StopEnd low high word last h bus y base w t
  wrong : error_shown last ≢ 0 → Rests h bus y base w t → StopEnd low high word last h bus y base w t

stop_ended : (low high word last h : ℕ) (bus : BusUnit) (y : Hart) (base : Site) (w : Hart) (words : List ℕ) (s t : Site) → Calm h bus y base w
    → StopTouched low high word h bus y base w s → EndSplit words last s t → shows_busy last ≡ false → StopEnd low high word last h bus y base w t
stop_ended low high word last h bus y base w words s t c (StopTouched.right v u k held low_is high_is second word_is st) e not_busy =
    let f : FineEnd last h bus y base w k e.mid = stood_polled words last h bus y base w k s e.mid st e.polled in
    StopEnd.right v u held low_is high_is second word_is f.error_is
    (record { kept = k; stood = subst (λ z. Stood h bus y base w k z) (sym (fine_left (error_shown last) e.mid t f.error_is e.cleared)) f.stood })
stop_ended low high word last h bus y base w words s t c (StopTouched.wrong err) e not_busy =
    let f : ErredEnd last h bus y base e.mid = erred_polled words last h bus y base w s e.mid c err e.polled not_busy in
    StopEnd.wrong f.error (erred_cleared last h bus y base w e.mid t c f e.cleared)

stop_ends : (low high word last h : ℕ) (bus : BusUnit) (y : Hart) (base : Site) (w : Hart) (k : Kept) (words : List ℕ) (s t : Site)
    → Stood h bus y base w k s → SiteActs (stop_acts low high word ++ (map poll_act words ++ poll_act last ∷ clearing (error_shown last))) s t
    → shows_busy last ≡ false → StopEnd low high word last h bus y base w t
stop_ends low high word last h bus y base w k words s t st p not_busy =
    let tail : List Act = map poll_act words ++ poll_act last ∷ clearing (error_shown last) in
    let cut : Split (stop_acts low high word) tail s t = site_acts-split (stop_acts low high word) tail s t p in
    stop_ended low high word last h bus y base w words cut.mid t (stood_calm h bus y base w k s st)
    (stop_touched low high word h bus y base w k s cut.mid st cut.first) (end_split words last cut.mid t cut.rest) not_busy

-- ---- a told link along it

record StopTold (low high word last h : ℕ) (bus : BusUnit) (y : Hart) (base : Site) (w : Hart) (told : Option Far) : Type 0 where
  far : Far
  is : told ≡ Some far
  end : StopEnd low high word last h bus y base w (site_of far)

asked_told : (low high word last h : ℕ) (bus : BusUnit) (y : Hart) (base : Site) (w : Hart) (old new : Tells) → StoodTold h bus y base w old.far
    → EndedBehind (stop_acts low high word) last old new → StopTold low high word last h bus y base w new.far
asked_told low high word last h bus y base w old new st e =
    let at : AtSites _ st.far new.far = did_sites old _ new st.far e.did st.is in
    record {
      far = at.far;
      is = at.is;
      end = stop_ends low high word last h bus y base w st.kept e.words (site_of st.far) (site_of at.far) st.stood at.acts_are e.idle;
    }

-- what both hold
pub record StopHeld (pc cause h : ℕ) (bus : BusUnit) (y : Hart) (base : Site) (w : Hart) (told : Option Far) : Type 0 where
  pub dpc : ℕ
  pub dpc_is : debug_value y dpc_number ≡ Some dpc
  pub pc_is : dpc < 2 ^ 64 → pc ≡ dpc
  pub dcsr : ℕ
  pub dcsr_is : debug_value y dcsr_number ≡ Some dcsr
  pub word : ℕ
  pub word_is : dcsr < 2 ^ 32 → word ≡ dcsr
  pub cause_is : cause ≡ (dcsr_of_word word).cause
  pub then : StoodTold h bus y base w told

held_by : (pc cause low high word last h : ℕ) (bus : BusUnit) (y : Hart) (base : Site) (w : Hart) (told : Option Far) (f : Far) → told ≡ Some f
    → StopEnd low high word last h bus y base w (site_of f) → error_shown last ≡ 0 → pc ≡ joined low high → cause ≡ (dcsr_of_word word).cause
    → StopHeld pc cause h bus y base w told
held_by pc cause low high word last h bus y base w told f is (StopEnd.right v u held low_is high_is second word_is fine r) none pc_is cause_is = record {
  dpc = v;
  dpc_is = held;
  pc_is = λ small. pc_is ∙ words_joined v low high small low_is high_is;
  dcsr = u;
  dcsr_is = second;
  word = word;
  word_is = λ small. omega (arith, word_is, small);
  cause_is = cause_is;
  then = record { far = f; is = is; kept = r.kept; stood = r.stood };
}
held_by pc cause low high word last h bus y base w told f is (StopEnd.wrong error r) none pc_is cause_is = absurd (error none)

early_by : (low high word last h : ℕ) (bus : BusUnit) (y : Hart) (base : Site) (w : Hart) (told : Option Far) (f : Far) → told ≡ Some f
    → StopEnd low high word last h bus y base w (site_of f) → error_shown last ≢ 0 → StoodTold h bus y base w told
early_by low high word last h bus y base w told f is (StopEnd.right v u held low_is high_is second word_is fine r) some = absurd (some fine)
early_by low high word last h bus y base w told f is (StopEnd.wrong error r) some = record { far = f; is = is; kept = r.kept; stood = r.stood }

pub stop_early_told : (h : ℕ) (bus : BusUnit) (y : Hart) (base : Site) (w : Hart) (old new : Tells) → StoodTold h bus y base w old.far
    → StopTooEarly old new → StoodTold h bus y base w new.far
stop_early_told h bus y base w old new st r =
    let t : StopTold r.low r.high r.word r.last h bus y base w new.far =
    asked_told r.low r.high r.word r.last h bus y base w old new st r.ended in
    early_by r.low r.high r.word r.last h bus y base w new.far t.far t.is t.end r.some

pub stop_told : (pc cause h : ℕ) (bus : BusUnit) (y : Hart) (base : Site) (w : Hart) (old new : Tells) → StoodTold h bus y base w old.far
    → StopRead pc cause old new → StopHeld pc cause h bus y base w new.far
stop_told pc cause h bus y base w old new st (StopRead.at_once r) =
    let t : StopTold r.low r.high r.word r.last h bus y base w new.far =
    asked_told r.low r.high r.word r.last h bus y base w old new st r.ended in
    held_by pc cause r.low r.high r.word r.last h bus y base w new.far t.far t.is t.end r.error_is r.pc_is r.cause_is
stop_told pc cause h bus y base w old new st (StopRead.late mid first r) =
    let again : StoodTold h bus y base w mid.far = stop_early_told h bus y base w old mid st first in
    let a : ReadTold dpc_number pc h bus y base w r.mid.far = apart_told dpc_number pc h bus y base w mid r.mid (record { small = omega arith; other = refl }) again r.first in
    let b : ReadTold dcsr_number r.word h bus y base w new.far = apart_told dcsr_number r.word h bus y base w r.mid new (record { small = omega arith; other = refl }) a.then r.second in
    record {
      dpc = a.held;
      dpc_is = a.held_is;
      pc_is = a.value_is;
      dcsr = b.held;
      dcsr_is = b.held_is;
      word = r.word;
      word_is = λ small. b.value_is (omega (arith, small));
      cause_is = r.cause_is;
      then = b.then;
    }

-- ---- a link that tells nothing

pub stop_untold : (pc cause : ℕ) (old new : Tells) → StopRead pc cause old new → old.far ≡ None → new.far ≡ None
stop_untold pc cause old new (StopRead.at_once r) is = did_untold old _ new r.ended.did is
stop_untold pc cause old new (StopRead.late mid first r) is =
    let none : r.mid.far ≡ None = did_untold r.first.mid _ r.mid r.first.words.did
    (did_untold mid _ r.first.mid r.first.ran.ran.did (did_untold old _ mid first.ended.did is)) in
    did_untold r.second.mid _ new r.second.words.did (did_untold r.mid _ r.second.mid r.second.ran.ran.did none)
