-- A register that is read and then written in one call: the end without an error says that both were done.
use Rattle.std.proofs.Common.{◌≡◌, ◌≢◌, ◌∙◌, ◌<◌, ◌^◌, ◌++◌, ℕ, List, [], ◌∷◌, map, true, false, Option, Some, None, refl, sym, subst, append_assoc, arith}
use Rattle.rv_model.specs.Board.{Hart}
use Rattle.rv_model.specs.DebugRegisters.{debug_value, debug_written}
use Rattle.debug_model.specs.Addresses.{data0_address, data1_address, command_address}
use Rattle.debug_model.specs.declared.dmi_op.DmiOp.TheVariants.{Write}
use Rattle.debug_model.specs.Commands.{high_half, low_half}
use Rattle.debug_model.specs.Dmi.{value_of}
use Rattle.debug_model.specs.Module.{Site}
use Rattle.debug_model.specs.SystemBus.{BusUnit}
use Rattle.debug_model.specs.Told.{Far, site_of}
use Rattle.probe_run.specs.Acts.{Act, Tells}
use Rattle.probe_run.specs.Acts.Act.{Put}
use Rattle.probe_access.specs.CommandRuns.{EndedBehind, clearing, error_shown, poll_act, shows_busy}
use Rattle.probe_access.specs.MemoryRuns.{Taken}
use Rattle.probe_access.specs.RegisterAccess.{joined, transfer_word, x8_number}
use Rattle.probe_access.specs.RegisterRuns.{SwappedTooEarly, asked_acts, double_written, swapped_acts}
use Rattle.probe_access.proofs.Plain.{Plain}
use Rattle.probe_access.proofs.Along.{AtSites, SiteActs, Split, did_sites, did_untold, site_acts-split}
use Rattle.probe_access.proofs.AtOnceTold.{BothTouched, EndSplit, both_touched, end_split, lower, upper}
use Rattle.probe_access.proofs.Errors.{
  Calm,
  Erred,
  ErredEnd,
  command_keeps,
  data0_write_keeps,
  data1_write_keeps,
  erred_cleared,
  erred_one,
  erred_polled,
  stood_calm,
}
use Rattle.probe_access.proofs.ReadyUnit.{Kept}
use Rattle.probe_access.proofs.RegAnswers.{ReadTold, StoodTold, WrittenTold, halves_joined, read_told, read_untold, words_joined, written_told}
use Rattle.probe_access.proofs.RegisterTold.{Rests, Stood, TransferTold, double_puts, transfer_told, with_double, words_put}
use Rattle.probe_access.proofs.TransferLemmas.{words_behind}

-- ---- behind the words

-- what is written in front of the second command's polls
abbrev pub giving_acts : ℕ → ℕ → List Act
giving_acts number value = double_written value ++ Put command_address (transfer_word true number) ∷ []

-- it is ignored while an error stands
pub giving_erred : (number value h : ℕ) (bus : BusUnit) (y : Hart) (base : Site) (w : Hart) (s t : Site) → Calm h bus y base w → Erred h bus y base s
    → SiteActs (giving_acts number value) s t → Erred h bus y base t
giving_erred number value h bus y base w s t c e p =
    subst (Erred h bus y base) (sym p.2.2.2)
    (erred_one h bus y base w (Write command_address (transfer_word true number)) (transfer_word true number) p.2.0 p.2.2.0 c
    (command_keeps (transfer_word true number) h bus y base) p.2.2.1
    (erred_one h bus y base w (Write data1_address (high_half value)) (high_half value) p.0 p.2.0 c (data1_write_keeps (high_half value) h bus y base) p.2.1
    (erred_one h bus y base w (Write data0_address (low_half value)) (low_half value) s p.0 c (data0_write_keeps (low_half value) h bus y base) p.1 e)))

pub data SwapEnd (number low high value last h : ℕ) (bus : BusUnit) (y : Hart) (base : Site) (w : Hart) (t : Site) : Type 0 where
  right : (v : ℕ) → debug_value y number ≡ Some v → low ≡ value_of (lower v) → high ≡ value_of (upper v) → error_shown last ≡ 0
      → Rests h bus (debug_written y number value) base w t → SwapEnd number low high value last h bus y base w t
  wrong : error_shown last ≢ 0 → Rests h bus y base w t → SwapEnd number low high value last h bus y base w t

given_by : (number low high value last v h : ℕ) (bus : BusUnit) (y : Hart) (base : Site) (w : Hart) (k : Kept) (t : Site) → debug_value y number ≡ Some v
    → low ≡ value_of (lower v) → high ≡ value_of (upper v) → TransferTold true number last h bus y base w (with_double value k) t
    → SwapEnd number low high value last h bus y base w t
given_by number low high value last v h bus y base w k t held low_is high_is (TransferTold.taken u is free fine st) =
    SwapEnd.right v held low_is high_is fine
    (record {
      kept = words_behind true number u (with_double value k);
      stood = subst (λ n. Stood h bus (debug_written y number n) base w (words_behind true number u (with_double value k)) t) (halves_joined value) st;
    })
given_by number low high value last v h bus y base w k t held low_is high_is (TransferTold.denied none error st) =
    SwapEnd.wrong (λ e. three_not_zero (error_shown last) error e) (record { kept = _; stood = st })
  where
    three_not_zero : (n : ℕ) → n ≡ 3 → n ≡ 0 → ⊥
    three_not_zero n a b = omega arith

given : (number low high value last h : ℕ) (bus : BusUnit) (y : Hart) (base : Site) (w : Hart) (k : Kept) (words : List ℕ) (s t : Site) → Plain number
    → Calm h bus y base w → BothTouched number low high h bus y base w k s
    → SiteActs (giving_acts number value ++ (map poll_act words ++ poll_act last ∷ clearing (error_shown last))) s t → shows_busy last ≡ false
    → SwapEnd number low high value last h bus y base w t
given number low high value last h bus y base w k words s t small c (BothTouched.right v held low_is high_is st) p not_busy =
    let l : Kept = words_behind false number v k in
    let tail : List Act = Put command_address (transfer_word true number) ∷ (map poll_act words ++ poll_act last ∷ clearing (error_shown last)) in
    let cut : Split (double_written value) tail s t = site_acts-split (double_written value) tail s t p in
    given_by number low high value last v h bus y base w l t held low_is high_is
    (transfer_told true number words last h bus y base w (with_double value l) cut.mid t small.small
    (words_put h bus y base w l (with_double value l) (double_written value) s cut.mid (double_puts value h bus y l) st cut.first) cut.rest not_busy)
given number low high value last h bus y base w k words s t small c (BothTouched.wrong e) p not_busy =
    let tail : List Act = map poll_act words ++ poll_act last ∷ clearing (error_shown last) in
    let cut : Split (giving_acts number value) tail s t = site_acts-split (giving_acts number value) tail s t p in
    let end : EndSplit words last cut.mid t = end_split words last cut.mid t cut.rest in
    let f : ErredEnd last h bus y base end.mid = erred_polled words last h bus y base w cut.mid end.mid c
    (giving_erred number value h bus y base w s cut.mid c e cut.first) end.polled not_busy in
    SwapEnd.wrong f.error (erred_cleared last h bus y base w end.mid t c f end.cleared)

pub swap_ends : (number low high value last h : ℕ) (bus : BusUnit) (y : Hart) (base : Site) (w : Hart) (k : Kept) (words : List ℕ) (s t : Site)
    → Plain number → Stood h bus y base w k s
    → SiteActs (swapped_acts number low high value ++ (map poll_act words ++ poll_act last ∷ clearing (error_shown last))) s t → shows_busy last ≡ false
    → SwapEnd number low high value last h bus y base w t
swap_ends number low high value last h bus y base w k words s t small st p not_busy =
    let tail : List Act = map poll_act words ++ poll_act last ∷ clearing (error_shown last) in
    let rest : List Act = giving_acts number value ++ tail in
    let cut : Split (asked_acts number low high) rest s t = site_acts-split (asked_acts number low high) rest s t
    (subst (λ xs. SiteActs xs s t) (append_assoc (asked_acts number low high) (giving_acts number value) tail) p) in
    given number low high value last h bus y base w k words cut.mid t small (stood_calm h bus y base w k s st)
    (both_touched number low high h bus y base w k s cut.mid small st cut.first) cut.rest not_busy

-- ---- a told link along it

record SwapTold (number low high value last h : ℕ) (bus : BusUnit) (y : Hart) (base : Site) (w : Hart) (told : Option Far) : Type 0 where
  far : Far
  is : told ≡ Some far
  end : SwapEnd number low high value last h bus y base w (site_of far)

swap_told : (number low high value last h : ℕ) (bus : BusUnit) (y : Hart) (base : Site) (w : Hart) (old new : Tells) → Plain number
    → StoodTold h bus y base w old.far → EndedBehind (swapped_acts number low high value) last old new
    → SwapTold number low high value last h bus y base w new.far
swap_told number low high value last h bus y base w old new small st e =
    let at : AtSites _ st.far new.far = did_sites old _ new st.far e.did st.is in
    record {
      far = at.far;
      is = at.is;
      end = swap_ends number low high value last h bus y base w st.kept e.words (site_of st.far) (site_of at.far) small st.stood at.acts_are e.idle;
    }

-- what it held, and what it is now
pub record TakenTold (number value given h : ℕ) (bus : BusUnit) (y : Hart) (base : Site) (w : Hart) (told : Option Far) : Type 0 where
  pub held : ℕ
  pub held_is : debug_value y number ≡ Some held
  pub value_is : held < 2 ^ 64 → value ≡ held
  pub then : StoodTold h bus (debug_written y number given) base w told

swapped_by : (number value low high given last h : ℕ) (bus : BusUnit) (y : Hart) (base : Site) (w : Hart) (told : Option Far) (f : Far) → told ≡ Some f
    → SwapEnd number low high given last h bus y base w (site_of f) → error_shown last ≡ 0 → value ≡ joined low high
    → TakenTold number value given h bus y base w told
swapped_by number value low high given last h bus y base w told f is (SwapEnd.right v held low_is high_is fine r) none value_is = record {
  held = v;
  held_is = held;
  value_is = λ small. value_is ∙ words_joined v low high small low_is high_is;
  then = record { far = f; is = is; kept = r.kept; stood = r.stood };
}
swapped_by number value low high given last h bus y base w told f is (SwapEnd.wrong error r) none value_is = absurd (error none)

unswapped_by : (number low high given last h : ℕ) (bus : BusUnit) (y : Hart) (base : Site) (w : Hart) (told : Option Far) (f : Far) → told ≡ Some f
    → SwapEnd number low high given last h bus y base w (site_of f) → error_shown last ≢ 0 → StoodTold h bus y base w told
unswapped_by number low high given last h bus y base w told f is (SwapEnd.right v held low_is high_is fine r) some = absurd (some fine)
unswapped_by number low high given last h bus y base w told f is (SwapEnd.wrong error r) some = record { far = f; is = is; kept = r.kept; stood = r.stood }

pub unswapped_told : (number value h : ℕ) (bus : BusUnit) (y : Hart) (base : Site) (w : Hart) (old new : Tells) → Plain number
    → StoodTold h bus y base w old.far → SwappedTooEarly number value old new → StoodTold h bus y base w new.far
unswapped_told number value h bus y base w old new small st r =
    let t : SwapTold number r.low r.high value r.last h bus y base w new.far =
    swap_told number r.low r.high value r.last h bus y base w old new small st r.ended in
    unswapped_by number r.low r.high value r.last h bus y base w new.far t.far t.is t.end r.some

pub taken_told : (x8 value h : ℕ) (bus : BusUnit) (y : Hart) (base : Site) (w : Hart) (old new : Tells) → StoodTold h bus y base w old.far
    → Taken x8 value old new → TakenTold x8_number value x8 h bus y base w new.far
taken_told x8 value h bus y base w old new st (Taken.at_once r) =
    let t : SwapTold x8_number r.low r.high x8 r.last h bus y base w new.far =
    swap_told x8_number r.low r.high x8 r.last h bus y base w old new (record { small = omega arith; other = refl }) st r.ended in
    swapped_by x8_number value r.low r.high x8 r.last h bus y base w new.far t.far t.is t.end r.error_is r.is
taken_told x8 value h bus y base w old new st (Taken.late mid last early read wrote) =
    let again : StoodTold h bus y base w mid.far = unswapped_told x8_number x8 h bus y base w old mid (record { small = omega arith; other = refl }) st early in
    let a : ReadTold x8_number value h bus y base w last.far = read_told x8_number value h bus y base w mid last (record { small = omega arith; other = refl }) again read in
    let b : WrittenTold x8_number x8 h bus y base w a.then.kept new.far = written_told x8_number x8 h bus y base w last new (omega arith) a.then wrote in
    record { held = a.held; held_is = a.held_is; value_is = a.value_is; then = b.then }

pub taken_untold : (x8 value : ℕ) (old new : Tells) → Taken x8 value old new → old.far ≡ None → new.far ≡ None
taken_untold x8 value old new (Taken.at_once r) is = did_untold old _ new r.ended.did is
taken_untold x8 value old new (Taken.late mid last early read wrote) is =
    did_untold last _ new wrote.ran.did (read_untold x8_number value mid last read (did_untold old _ mid early.ended.did is))
