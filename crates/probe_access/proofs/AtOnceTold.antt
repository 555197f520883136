-- A register whose words are read in the same call as its command: the end without an error says that they are the register's.
use Rattle.std.proofs.Common.{◌≡◌, ◌≢◌, ◌∙◌, ◌<◌, ◌^◌, ◌/◌, ◌%◌, ◌++◌, ℕ, List, [], ◌∷◌, map, false, Option, Some, None, refl, sym, ap, subst, append_assoc}
use Rattle.rv_model.specs.Board.{Hart}
use Rattle.rv_model.specs.DebugRegisters.{debug_value}
use Rattle.debug_model.specs.Addresses.{data0_address, data1_address, abstractcs_address, command_address}
use Rattle.debug_model.specs.declared.abstract_command.AbstractCommand.{AbstractCommand}
use Rattle.debug_model.specs.declared.cmderr.Cmderr.TheVariants.{Fine, Exception}
use Rattle.debug_model.specs.declared.dmi_op.DmiOp.TheVariants.{Read, Write}
use Rattle.debug_model.specs.declared.micro.Micro.TheVariants.{Transfer}
use Rattle.debug_model.specs.Course.{OneOperation}
use Rattle.debug_model.specs.Deeds.{Deed, ran}
use Rattle.debug_model.specs.Dmi.{value_of}
use Rattle.debug_model.specs.Module.{DebugModule, Site, after_write, operated, register_at, result_of}
use Rattle.debug_model.specs.ModuleWords.{cmderr_number}
use Rattle.debug_model.specs.SystemBus.{BusUnit}
use Rattle.probe_run.specs.Acts.{Act}
use Rattle.probe_run.specs.Acts.Act.{Got, Put}
use Rattle.probe_access.specs.CommandRuns.{clearing, error_shown, poll_act, shows_busy}
use Rattle.probe_access.specs.RegisterAccess.{transfer_command, transfer_word}
use Rattle.probe_access.specs.RegisterRuns.{asked_acts}
use Rattle.probe_access.proofs.Along.{ReadAt, SiteActs, Split, site_acts-split}
use Rattle.probe_access.proofs.Aside.{aside, passed}
use Rattle.probe_access.proofs.Errors.{Calm, Erred, ErredEnd, data0_read_keeps, data1_read_keeps, erred_cleared, erred_one, erred_polled, erred_ran, stood_calm}
use Rattle.probe_access.proofs.Errors.Erred.{early, over}
use Rattle.probe_access.proofs.Plain.{Holds, Plain}
use Rattle.probe_access.proofs.ReadyUnit.{Kept, OpAt, commands_of, done_ran, op_at, unit_of, unit_with}
use Rattle.probe_access.proofs.RegisterTold.{Rests, Stood, fine_left, got_at}
use Rattle.probe_access.proofs.Steps.{Between, Course, DoneAt, between_ran}
use Rattle.probe_access.proofs.Steps.Between.{still, done}
use Rattle.probe_access.proofs.TransferLemmas.{
  RanAlone,
  command_starts,
  polls_ran,
  read_status,
  shown_error,
  held_does,
  transfer_refusal_by,
  with_command,
  words_behind,
}
use Rattle.probe_access.proofs.Turns.{stays_passed}
use Rattle.probe_access.proofs.WordLemmas.{transfer_back}

-- ---- the command

abbrev pub going_unit : Kept → ℕ → ℕ → BusUnit → DebugModule
going_unit k number h bus =
    unit_with (with_command (transfer_command false number) k) Fine (Transfer (transfer_command false number) ∷ []) h bus

-- it is under way, or done, or was refused
pub data Asked (number h : ℕ) (bus : BusUnit) (y : Hart) (base : Site) (k : Kept) (t : Site) : Type 0 where
  going : (v : ℕ) → Holds y number v
      → Between (going_unit k number h bus) (unit_of (words_behind false number v k) h bus) h y y base t → Asked number h bus y base k t
  failed : Erred h bus y base t → Asked number h bus y base k t

asked_by : (number h : ℕ) (bus : BusUnit) (y : Hart) (base : Site) (w : Hart) (k : Kept) (t : Site) (o : Option ℕ) → Calm h bus y base w → Plain number
    → debug_value y number ≡ o → OpAt (Write command_address (transfer_word false number)) (transfer_word false number) (unit_of k h bus) h y base t
    → Asked number h bus y base k t
asked_by number h bus y base w k t (Some v) c small held first =
    let command : AbstractCommand = transfer_command false number in
    let holds : Holds y number v = record { is = held; other = small.other } in
    let start : Site = after_write command_address (transfer_word false number) (aside (unit_of k h bus) h y (passed first.harts base)) in
    let starts = command_starts (transfer_word false number) command Fine k h bus y (passed first.harts base) w
    (stays_passed h first.harts base w c.held.here c.held.frozen) (transfer_back false number small.small)
    (transfer_refusal_by y false number (Some v) false c.frozen held refl) in
    let m : DebugModule = going_unit k number h bus in
    let course : Course m h y base w = record { here = c.held.here; frozen = c.held.frozen; frozen_x = c.frozen; selected = refl; bus = c.idle } in
    going v holds
    (subst (λ s. Between m (unit_of (words_behind false number v k) h bus) h y y base s) (sym first.is)
    (between_ran first.behind m (commands_of (words_behind false number v k) Fine []) h y y base w (Transfer command) start course c.frozen refl refl
    (held_does number v k y holds) (still first.harts starts)))
asked_by number h bus y base w k t None c small held first =
    let command : AbstractCommand = transfer_command false number in
    let n : DebugModule = unit_with (with_command command k) Exception [] h bus in
    let starts = command_starts (transfer_word false number) command Exception k h bus y (passed first.harts base) w
    (stays_passed h first.harts base w c.held.here c.held.frozen) (transfer_back false number small.small)
    (transfer_refusal_by y false number None false c.frozen held refl) in
    failed
    (over (with_command command k) Exception refl
    (done_ran n h y base w first.behind (after_write command_address (transfer_word false number) (aside (unit_of k h bus) h y (passed first.harts base))) t
    c.held c.frozen refl c.idle first.is (record { harts = first.harts; is = starts })))

pub asked_first : (number h : ℕ) (bus : BusUnit) (y : Hart) (base : Site) (w : Hart) (k : Kept) (s t : Site) → Plain number → Stood h bus y base w k s
    → OneOperation (Write command_address (transfer_word false number)) (transfer_word false number) s t → Asked number h bus y base k t
asked_first number h bus y base w k s t small st o =
    asked_by number h bus y base w k t (debug_value y number) (stood_calm h bus y base w k s st) small refl
    (op_at (Write command_address (transfer_word false number)) (transfer_word false number) (unit_of k h bus) h y base w s t st.held st.frozen refl
    st.idle st.at o)

pub asked_ran : (number h : ℕ) (bus : BusUnit) (y : Hart) (base : Site) (w : Hart) (k : Kept) (ds : List Deed) (s t : Site) → Calm h bus y base w
    → t ≡ ran ds s → Asked number h bus y base k s → Asked number h bus y base k t
asked_ran number h bus y base w k ds s t c is (going v held b) =
    let m : DebugModule = going_unit k number h bus in
    let course : Course m h y base w = record { here = c.held.here; frozen = c.held.frozen; frozen_x = c.frozen; selected = refl; bus = c.idle } in
    going v held
    (subst (λ z. Between m (unit_of (words_behind false number v k) h bus) h y y base z) (sym is)
    (between_ran ds m (commands_of (words_behind false number v k) Fine []) h y y base w (Transfer (transfer_command false number)) s course c.frozen refl refl
    (held_does number v k y held) b))
asked_ran number h bus y base w k ds s t c is (failed e) = failed (erred_ran h bus y base w ds s t c is e)

-- ---- the words

-- the word is the register's, and the command is over; or it was read too early
pub data Touched (number word : ℕ) (half : ℕ → ℕ) (h : ℕ) (bus : BusUnit) (y : Hart) (base : Site) (w : Hart) (k : Kept) (t : Site) : Type 0 where
  right : (v : ℕ) → debug_value y number ≡ Some v → word ≡ value_of (half v) → Stood h bus y base w (words_behind false number v k) t
      → Touched number word half h bus y base w k t
  wrong : Erred h bus y base t → Touched number word half h bus y base w k t

abbrev pub upper : ℕ → ℕ
upper v = v / 2 ^ 32

abbrev pub lower : ℕ → ℕ
lower v = v % 2 ^ 32

upper_at : (number result h : ℕ) (bus : BusUnit) (y : Hart) (base : Site) (w : Hart) (k : Kept) (s t : Site) (behind : List Deed) → Calm h bus y base w
    → result ≡ result_of data1_address s → t ≡ ran behind (operated (Read data1_address) s) → Asked number h bus y base k s
    → Touched number (value_of result) upper h bus y base w k t
unfolding register_at
upper_at number result h bus y base w k s t behind c result_is is (going v held (still harts at)) =
    wrong (erred_ran h bus y base w behind (operated (Read data1_address) s) t c is
    (early (with_command (transfer_command false number) k) number v false held (still harts (ap (operated (Read data1_address)) at))))
upper_at number result h bus y base w k s t behind c result_is is (going v held (done harts at)) =
    right v held.is (ap value_of (result_is ∙ ap (result_of data1_address) at))
    (record {
      held = c.held;
      frozen = c.frozen;
      idle = c.idle;
      at = done_ran (unit_of (words_behind false number v k) h bus) h y base w behind (operated (Read data1_address) s) t c.held c.frozen refl c.idle is
          (record { harts = harts; is = ap (operated (Read data1_address)) at });
    })
upper_at number result h bus y base w k s t behind c result_is is (failed e) =
    wrong (erred_ran h bus y base w behind (operated (Read data1_address) s) t c is (data1_read_keeps h bus y base s e))

pub upper_touched : (number high h : ℕ) (bus : BusUnit) (y : Hart) (base : Site) (w : Hart) (k : Kept) (s t : Site) → Calm h bus y base w
    → Asked number h bus y base k s → ReadAt data1_address high s t → Touched number high upper h bus y base w k t
upper_touched number high h bus y base w k s t c a r =
    let o : OneOperation (Read data1_address) r.result s t = r.one in
    subst (λ n. Touched number n upper h bus y base w k t) (sym r.value_is)
    (upper_at number r.result h bus y base w k (ran o.before s) t o.behind c o.result_is o.is
    (asked_ran number h bus y base w k o.before s (ran o.before s) c refl a))

-- both words
pub data BothTouched (number low high h : ℕ) (bus : BusUnit) (y : Hart) (base : Site) (w : Hart) (k : Kept) (t : Site) : Type 0 where
  right : (v : ℕ) → debug_value y number ≡ Some v → low ≡ value_of (lower v) → high ≡ value_of (upper v)
      → Stood h bus y base w (words_behind false number v k) t → BothTouched number low high h bus y base w k t
  wrong : Erred h bus y base t → BothTouched number low high h bus y base w k t

pub lower_touched : (number low high h : ℕ) (bus : BusUnit) (y : Hart) (base : Site) (w : Hart) (k : Kept) (s t : Site) → Calm h bus y base w
    → Touched number high upper h bus y base w k s → ReadAt data0_address low s t → BothTouched number low high h bus y base w k t
unfolding register_at
lower_touched number low high h bus y base w k s t c (Touched.right v held high_is st) r =
    let l : Kept = words_behind false number v k in
    let o : OpAt (Read data0_address) r.result (unit_of l h bus) h y base t =
    op_at (Read data0_address) r.result (unit_of l h bus) h y base w s t st.held st.frozen refl st.idle st.at r.one in
    BothTouched.right v held (r.value_is ∙ ap value_of o.value_is) high_is (got_at data0_address low h bus y base w l s t st r (λ z. refl))
lower_touched number low high h bus y base w k s t c (Touched.wrong e) r =
    BothTouched.wrong (erred_one h bus y base w (Read data0_address) r.result s t c (data0_read_keeps h bus y base) r.one e)

pub both_touched : (number low high h : ℕ) (bus : BusUnit) (y : Hart) (base : Site) (w : Hart) (k : Kept) (s t : Site) → Plain number
    → Stood h bus y base w k s → SiteActs (asked_acts number low high) s t → BothTouched number low high h bus y base w k t
both_touched number low high h bus y base w k s t small st p =
    let c : Calm h bus y base w = stood_calm h bus y base w k s st in
    subst (λ u. BothTouched number low high h bus y base w k u) (sym p.2.2.2)
    (lower_touched number low high h bus y base w k p.2.0 p.2.2.0 c
    (upper_touched number high h bus y base w k p.0 p.2.0 c (asked_first number h bus y base w k s p.0 small st p.1) p.2.1) p.2.2.1)

-- ---- the end

-- polls of a module that rests
pub record FineEnd (last h : ℕ) (bus : BusUnit) (y : Hart) (base : Site) (w : Hart) (k : Kept) (t : Site) : Type 0 where
  pub error_is : error_shown last ≡ 0
  pub stood : Stood h bus y base w k t

pub stood_polled : (words : List ℕ) (last h : ℕ) (bus : BusUnit) (y : Hart) (base : Site) (w : Hart) (k : Kept) (s t : Site) → Stood h bus y base w k s
    → SiteActs (map poll_act words ++ poll_act last ∷ []) s t → FineEnd last h bus y base w k t
stood_polled words last h bus y base w k s t st p =
    let cut : Split (map poll_act words) (poll_act last ∷ []) s t = site_acts-split (map poll_act words) (poll_act last ∷ []) s t p in
    let polled : RanAlone s cut.mid = polls_ran words s cut.mid cut.first in
    let look : OneOperation (Read abstractcs_address) cut.rest.1.result cut.mid cut.rest.0 = cut.rest.1.one in
    let shown : Site = ran look.before cut.mid in
    let n : DebugModule = unit_of k h bus in
    let at_look : DoneAt n h y base shown = done_ran n h y base w look.before cut.mid shown st.held st.frozen refl st.idle refl
    (done_ran n h y base w polled.deeds s cut.mid st.held st.frozen refl st.idle polled.is st.at) in
    let last_is : last ≡ value_of (result_of abstractcs_address shown) = cut.rest.1.value_is ∙ ap value_of look.result_is in
    record {
      error_is = shown_error shown last (ap (λ (u : Site). u.unit.active) at_look.is) last_is
          ∙ ap (λ (u : Site). cmderr_number u.unit.commands.error) at_look.is;
      stood = record {
        held = st.held;
        frozen = st.frozen;
        idle = st.idle;
        at = done_ran n h y base w look.behind shown t st.held st.frozen refl st.idle
            (cut.rest.2 ∙ look.is ∙ ap (ran look.behind) (read_status shown)) at_look;
      };
    }

pub data TouchEnd (number low high last h : ℕ) (bus : BusUnit) (y : Hart) (base : Site) (w : Hart) (k : Kept) (t : Site) : Type 0 where
  right : (v : ℕ) → debug_value y number ≡ Some v → low ≡ value_of (lower v) → high ≡ value_of (upper v) → error_shown last ≡ 0
      → Stood h bus y base w (words_behind false number v k) t → TouchEnd number low high last h bus y base w k t
  wrong : error_shown last ≢ 0 → Rests h bus y base w t → TouchEnd number low high last h bus y base w k t

-- polls, and the clearing of an error
pub record EndSplit (words : List ℕ) (last : ℕ) (s t : Site) : Type 0 where
  pub mid : Site
  pub polled : SiteActs (map poll_act words ++ poll_act last ∷ []) s mid
  pub cleared : SiteActs (clearing (error_shown last)) mid t

pub end_split : (words : List ℕ) (last : ℕ) (s t : Site) → SiteActs (map poll_act words ++ poll_act last ∷ clearing (error_shown last)) s t
    → EndSplit words last s t
end_split words last s t p =
    let front : List Act = map poll_act words ++ poll_act last ∷ [] in
    let cut : Split front (clearing (error_shown last)) s t = site_acts-split front (clearing (error_shown last)) s t
    (subst (λ xs. SiteActs xs s t) (sym (append_assoc (map poll_act words) (poll_act last ∷ []) (clearing (error_shown last)))) p) in
    record { mid = cut.mid; polled = cut.first; cleared = cut.rest }

touch_ended : (number low high last h : ℕ) (bus : BusUnit) (y : Hart) (base : Site) (w : Hart) (k : Kept) (words : List ℕ) (s t : Site) → Calm h bus y base w
    → BothTouched number low high h bus y base w k s → EndSplit words last s t → shows_busy last ≡ false → TouchEnd number low high last h bus y base w k t
touch_ended number low high last h bus y base w k words s t c (BothTouched.right v held low_is high_is st) e not_busy =
    let l : Kept = words_behind false number v k in
    let f : FineEnd last h bus y base w l e.mid = stood_polled words last h bus y base w l s e.mid st e.polled in
    TouchEnd.right v held low_is high_is f.error_is
    (subst (λ u. Stood h bus y base w l u) (sym (fine_left (error_shown last) e.mid t f.error_is e.cleared)) f.stood)
touch_ended number low high last h bus y base w k words s t c (BothTouched.wrong err) e not_busy =
    let f : ErredEnd last h bus y base e.mid = erred_polled words last h bus y base w s e.mid c err e.polled not_busy in
    TouchEnd.wrong f.error (erred_cleared last h bus y base w e.mid t c f e.cleared)

pub touch_ends : (number low high last h : ℕ) (bus : BusUnit) (y : Hart) (base : Site) (w : Hart) (k : Kept) (words : List ℕ) (s t : Site) → Plain number
    → Stood h bus y base w k s → SiteActs (asked_acts number low high ++ (map poll_act words ++ poll_act last ∷ clearing (error_shown last))) s t
    → shows_busy last ≡ false → TouchEnd number low high last h bus y base w k t
touch_ends number low high last h bus y base w k words s t small st p not_busy =
    let tail : List Act = map poll_act words ++ poll_act last ∷ clearing (error_shown last) in
    let cut : Split (asked_acts number low high) tail s t = site_acts-split (asked_acts number low high) tail s t p in
    touch_ended number low high last h bus y base w k words cut.mid t (stood_calm h bus y base w k s st)
    (both_touched number low high h bus y base w k s cut.mid small st cut.first) (end_split words last cut.mid t cut.rest) not_busy
