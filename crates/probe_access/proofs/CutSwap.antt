-- What a call that broke off while a register was read and written in one call leaves: it holds what it held, or what was to be written.
use Rattle.std.proofs.Common.{◌≡◌, ◌≢◌, ◌<◌, ◌^◌, ◌++◌, ℕ, List, [], ◌∷◌, map, true, false, Option, refl, sym, subst, inl, append_assoc}
use Rattle.rv_model.specs.Board.{Hart}
use Rattle.debug_model.specs.Addresses.{data0_address, data1_address, abstractcs_address, command_address}
use Rattle.debug_model.specs.declared.dmi.DmiFault.{DmiFault}
use Rattle.debug_model.specs.declared.dmi_op.DmiOp.{DmiOp}
use Rattle.debug_model.specs.declared.dmi_op.DmiOp.TheVariants.{Read, Write}
use Rattle.debug_model.specs.Commands.{high_half, low_half}
use Rattle.debug_model.specs.Course.{OneOperation, Operation as Done}
use Rattle.debug_model.specs.Dmi.{SiteCut, value_of}
use Rattle.debug_model.specs.Dmi.SiteCut.{unperformed, was_performed}
use Rattle.debug_model.specs.Many.{OperationsCut, op_of}
use Rattle.debug_model.specs.Module.{Site}
use Rattle.debug_model.specs.Scan.{WhereTold}
use Rattle.debug_model.specs.SystemBus.{BusUnit}
use Rattle.debug_model.specs.Told.{Far, site_of}
use Rattle.chip_laws.proofs.SeveralOperations.{OperationsAt, StoppedAt, stopped_at}
use Rattle.probe_access.specs.declared.fault.AccessFault.{AccessFault}
use Rattle.probe_access.specs.declared.fault.AccessFault.TheVariants as access_fault
use Rattle.probe_run.specs.Acts.{Act, Attempt, Broke, Did, Tells, act_of}
use Rattle.probe_run.specs.Acts.Act.{Put}
use Rattle.probe_run.specs.Acts.Attempt.{Operation, Several}
use Rattle.probe_run.specs.Opening.{clears_cmderr}
use Rattle.probe_access.specs.CommandRuns.{BehindBegun, CommandBegun, InVain, error_shown, poll_act, shows_busy}
use Rattle.probe_access.specs.CommandRuns.BehindBegun.{clears, polls, together}
use Rattle.probe_access.specs.Cuts.{IfCut}
use Rattle.probe_access.specs.RegisterAccess.{transfer_word}
use Rattle.probe_access.specs.RegisterRuns.{SwapFailed, Swaps, asked_acts, double_written, swapped_acts}
use Rattle.probe_access.specs.RegisterRuns.Swaps.{swaps}
use Rattle.probe_access.proofs.Plain.{Plain}
use Rattle.probe_access.proofs.Along.{AtSites, SiteActs, Split, did_sites, operations_acts, site_acts-split}
use Rattle.probe_access.proofs.AtOnceTold.{Asked, BothTouched, asked_first, both_touched, lower_touched, upper_touched}
use Rattle.probe_access.proofs.CutAtOnce.{command_cut, erred_hung, lower_cut, over_cut, read_one, upper_cut, write_one}
use Rattle.probe_access.proofs.CutHarts.{Either, Written, transfer_cut, written_either}
use Rattle.probe_access.proofs.CutHung.{Hung, HungAt}
use Rattle.probe_access.proofs.CutSites.{CommandCutAt, CutAt, begun_cut, cut_at, sent_polls, status_cut}
use Rattle.probe_access.proofs.CutSites.CommandCutAt.{sent}
use Rattle.probe_access.proofs.Errors.{
  Calm,
  Erred,
  KeepsErred,
  command_keeps,
  data0_write_keeps,
  data1_write_keeps,
  erred_one,
  erred_polled,
  erred_ran,
  status_keeps,
  stood_calm,
}
use Rattle.probe_access.proofs.ReadyUnit.{Kept}
use Rattle.probe_access.proofs.RegAnswers.{StoodTold}
use Rattle.probe_access.proofs.RegisterCalls.{BegunEach, begun_at}
use Rattle.probe_access.proofs.RegisterTold.{Stood, double_puts, with_double, words_put}
use Rattle.probe_access.proofs.SentCalls.{none_vain}
use Rattle.probe_access.proofs.SwapTold.{giving_acts, giving_erred}
use Rattle.probe_access.proofs.TransferLemmas.{RanAlone, polls_ran, words_behind}

at_map : (Y Z : Hart → Type 0) (h : ℕ) (bus : BusUnit) (base t : Site) → ((z : Hart) → Y z → Z z) → HungAt Y h bus base t → HungAt Z h bus base t
at_map Y Z h bus base t f p =
    record { unit = p.unit; bus_is = p.bus_is; hart = p.hart; one = f p.hart p.one; harts = p.harts; at = p.at }

as_it_was : (number value h : ℕ) (bus : BusUnit) (y : Hart) (base t : Site) → HungAt (λ z. z ≡ y) h bus base t → HungAt (Written number value y) h bus base t
as_it_was number value h bus y base t p = at_map (λ z. z ≡ y) (Written number value y) h bus base t (λ z e. inl e) p

-- ---- operations while an error stands

abbrev EachKeeps : ℕ → BusUnit → Hart → Site → List DmiOp → Type 0
EachKeeps h bus y base [] = Unit {0}
EachKeeps h bus y base (op ∷ ops) = KeepsErred h bus y base op × EachKeeps h bus y base ops

one_cut : (h : ℕ) (bus : BusUnit) (y : Hart) (base : Site) (w : Hart) (op : DmiOp) (s t : Site) → Calm h bus y base w → KeepsErred h bus y base op
    → Erred h bus y base s → SiteCut op s t → Erred h bus y base t
one_cut h bus y base w op s t c keeps e (unperformed d) = erred_ran h bus y base w d.deeds s t c d.is e
one_cut h bus y base w op s t c keeps e (was_performed result o) = erred_one h bus y base w op result s t c keeps o e

erred_cut : (h : ℕ) (bus : BusUnit) (y : Hart) (base : Site) (w : Hart) (done : List Done) (op : DmiOp) (left ops : List DmiOp) (s mid t : Site)
    → Calm h bus y base w → map op_of done ++ op ∷ left ≡ ops → EachKeeps h bus y base ops → Erred h bus y base s → OperationsAt done s mid
    → SiteCut op mid t → Erred h bus y base t
erred_cut h bus y base w [] op left [] s mid t c asked each e at cut = absurd (let no : ⊥ = cc in no)
erred_cut h bus y base w (o ∷ done) op left [] s mid t c asked each e at cut = absurd (let no : ⊥ = cc in no)
erred_cut h bus y base w [] op left (p ∷ ops) s mid t c asked each e at cut =
    let is : p ≡ op = cc in
    one_cut h bus y base w op mid t c (subst (KeepsErred h bus y base) is each.0) (subst (Erred h bus y base) (sym at) e) cut
erred_cut h bus y base w (o ∷ done) op left (p ∷ ops) s mid t c asked each e at cut =
    let is : p ≡ o.op = cc in
    let others : map op_of done ++ op ∷ left ≡ ops = cc in
    erred_cut h bus y base w done op left ops at.0 mid t c others each.1
    (erred_one h bus y base w o.op o.result s at.0 c (subst (KeepsErred h bus y base) is each.0) at.1 e) at.2 cut

-- ---- behind the words

abbrev giving_ops : ℕ → ℕ → List DmiOp
giving_ops number value = Write data0_address (low_half value) ∷ Write data1_address (high_half value) ∷ Write command_address (transfer_word true number)
    ∷ Read abstractcs_address ∷ []

giving_begun : (number value : ℕ) → BegunEach (CommandBegun (double_written value) (transfer_word true number)) [] (giving_ops number value)
giving_begun number value = (
  CommandBegun.ahead [] (Put data1_address (high_half value) ∷ []) data0_address (low_half value) refl,
  λ a. (
    CommandBegun.ahead (Put data0_address (low_half value) ∷ []) [] data1_address (high_half value) refl,
    λ b. (CommandBegun.writes, λ c. (CommandBegun.polls [] none_vain, λ d. tt)),
  ),
)

giving_keeps : (number value h : ℕ) (bus : BusUnit) (y : Hart) (base : Site) → EachKeeps h bus y base (giving_ops number value)
giving_keeps number value h bus y base = (
  data0_write_keeps (low_half value) h bus y base,
  (
    data1_write_keeps (high_half value) h bus y base,
    (command_keeps (transfer_word true number) h bus y base, (status_keeps h bus y base, tt)),
  ),
)

written_cut : (number value h : ℕ) (bus : BusUnit) (y : Hart) (base : Site) (w : Hart) (l : Kept) (t : Site) → Plain number → Calm h bus y base w
    → CommandCutAt (transfer_word true number) h bus y base w (with_double value l) t → HungAt (Written number value y) h bus base t
written_cut number value h bus y base w l t small c cut =
    at_map (Either true number (with_double value l) y) (Written number value y) h bus base t (λ z p. written_either number value l y z p)
    (transfer_cut true number h bus y base w (with_double value l) t small.small c.held c.frozen c.idle cut)

giving_cut : (number low high value h : ℕ) (bus : BusUnit) (y : Hart) (base : Site) (w : Hart) (k : Kept) (done : List Done) (op : DmiOp)
    (left : List DmiOp) (s mid t : Site) → Plain number → Calm h bus y base w → map op_of done ++ op ∷ left ≡ giving_ops number value
    → BothTouched number low high h bus y base w k s → OperationsAt done s mid → SiteCut op mid t → HungAt (Written number value y) h bus base t
giving_cut number low high value h bus y base w k done op left s mid t small c asked (BothTouched.right v held low_is high_is st) at cut =
    let l : Kept = words_behind false number v k in
    written_cut number value h bus y base w l t small c
    (begun_cut (double_written value) (transfer_word true number) h bus y base w l (with_double value l) s mid t (map act_of done) op st
    (double_puts value h bus y l)
    (begun_at (CommandBegun (double_written value) (transfer_word true number)) [] (giving_ops number value) (giving_begun number value) done op left asked)
    (operations_acts done s mid at) cut)
giving_cut number low high value h bus y base w k done op left s mid t small c asked (BothTouched.wrong e) at cut =
    as_it_was number value h bus y base t
    (erred_hung h bus y base t
    (erred_cut h bus y base w done op left (giving_ops number value) s mid t c asked (giving_keeps number value h bus y base) e at cut))

-- ---- among those of the one call

abbrev swap_ops : ℕ → ℕ → List DmiOp
swap_ops number value = Read data1_address ∷ Read data0_address ∷ giving_ops number value

words_cut : (number value h : ℕ) (bus : BusUnit) (y : Hart) (base : Site) (w : Hart) (k : Kept) (done : List Done) (op : DmiOp) (left : List DmiOp)
    (s mid t : Site) → Plain number → Calm h bus y base w → map op_of done ++ op ∷ left ≡ swap_ops number value → Asked number h bus y base k s
    → OperationsAt done s mid → SiteCut op mid t → HungAt (Written number value y) h bus base t
words_cut number value h bus y base w k [] op left s mid t small c asked a at cut =
    let is : op ≡ Read data1_address = cc in
    as_it_was number value h bus y base t
    (upper_cut number h bus y base w k mid t c (subst (Asked number h bus y base k) (sym at) a) (subst (λ o. SiteCut o mid t) is cut))
words_cut number value h bus y base w k (o ∷ []) op left s mid t small c asked a at cut =
    let first : o.op ≡ Read data1_address = cc in
    let is : op ≡ Read data0_address = cc in
    let one : OneOperation (Read data1_address) o.result s at.0 = subst (λ p. OneOperation p o.result s at.0) first at.1 in
    as_it_was number value h bus y base t
    (subst (λ u. SiteCut (Read data0_address) u t → HungAt (λ z. z ≡ y) h bus base t) (sym at.2)
    (λ q. lower_cut number (value_of o.result) h bus y base w k at.0 t c
    (upper_touched number (value_of o.result) h bus y base w k s at.0 c a (read_one data1_address o.result s at.0 one)) q)
    (subst (λ p. SiteCut p mid t) is cut))
words_cut number value h bus y base w k (o ∷ p ∷ done) op left s mid t small c asked a at cut =
    let first : o.op ≡ Read data1_address = cc in
    let second : p.op ≡ Read data0_address = cc in
    let others : map op_of done ++ op ∷ left ≡ giving_ops number value = cc in
    let one : OneOperation (Read data1_address) o.result s at.0 = subst (λ q. OneOperation q o.result s at.0) first at.1 in
    let two : OneOperation (Read data0_address) p.result at.0 at.2.0 = subst (λ q. OneOperation q p.result at.0 at.2.0) second at.2.1 in
    giving_cut number (value_of p.result) (value_of o.result) value h bus y base w k done op left at.2.0 mid t small c others
    (lower_touched number (value_of p.result) (value_of o.result) h bus y base w k at.0 at.2.0 c
    (upper_touched number (value_of o.result) h bus y base w k s at.0 c a (read_one data1_address o.result s at.0 one))
    (read_one data0_address p.result at.0 at.2.0 two))
    at.2.2 cut

together_cut : (number value h : ℕ) (bus : BusUnit) (y : Hart) (base : Site) (w : Hart) (k : Kept) (done : List Done) (op : DmiOp) (left : List DmiOp)
    (s mid t : Site) → Plain number → Stood h bus y base w k s
    → map op_of done ++ op ∷ left ≡ Write command_address (transfer_word false number) ∷ swap_ops number value → OperationsAt done s mid → SiteCut op mid t
    → HungAt (Written number value y) h bus base t
together_cut number value h bus y base w k [] op left s mid t small st asked at cut =
    let is : op ≡ Write command_address (transfer_word false number) = cc in
    as_it_was number value h bus y base t
    (command_cut number h bus y base w k mid t small (subst (Stood h bus y base w k) (sym at) st) (subst (λ o. SiteCut o mid t) is cut))
together_cut number value h bus y base w k (o ∷ done) op left s mid t small st asked at cut =
    let first : o.op ≡ Write command_address (transfer_word false number) = cc in
    let others : map op_of done ++ op ∷ left ≡ swap_ops number value = cc in
    let one : OneOperation (Write command_address (transfer_word false number)) o.result s at.0 = subst (λ q. OneOperation q o.result s at.0) first at.1 in
    words_cut number value h bus y base w k done op left at.0 mid t small (stood_calm h bus y base w k s st) others
    (asked_first number h bus y base w k s at.0 small st (write_one command_address (transfer_word false number) o.result s at.0 one)) at.2 cut

-- ---- behind it

-- where the words were read
record WordsAt (number low high : ℕ) (rest : List Act) (h : ℕ) (bus : BusUnit) (y : Hart) (base : Site) (w : Hart) (k : Kept) (t : Site) : Type 0 where
  mid : Site
  touched : BothTouched number low high h bus y base w k mid
  rest_are : SiteActs rest mid t

words_at : (number low high value h : ℕ) (bus : BusUnit) (y : Hart) (base : Site) (w : Hart) (k : Kept) (more : List Act) (s t : Site) → Plain number
    → Stood h bus y base w k s → SiteActs (swapped_acts number low high value ++ more) s t
    → WordsAt number low high (giving_acts number value ++ more) h bus y base w k t
words_at number low high value h bus y base w k more s t small st p =
    let rest : List Act = giving_acts number value ++ more in
    let cut : Split (asked_acts number low high) rest s t = site_acts-split (asked_acts number low high) rest s t
    (subst (λ xs. SiteActs xs s t) (append_assoc (asked_acts number low high) (giving_acts number value) more) p) in
    record { mid = cut.mid; touched = both_touched number low high h bus y base w k s cut.mid small st cut.first; rest_are = cut.rest }

polled_cut : (number low high value h : ℕ) (bus : BusUnit) (y : Hart) (base : Site) (w : Hart) (k : Kept) (words : List ℕ) (s mid t : Site)
    → Plain number → Calm h bus y base w → InVain words → BothTouched number low high h bus y base w k s
    → SiteActs (giving_acts number value ++ map poll_act words) s mid → SiteCut (Read abstractcs_address) mid t
    → HungAt (Written number value y) h bus base t
polled_cut number low high value h bus y base w k words s mid t small c vain (BothTouched.right v held low_is high_is st) p cut =
    let l : Kept = words_behind false number v k in
    written_cut number value h bus y base w l t small c
    (begun_cut (double_written value) (transfer_word true number) h bus y base w l (with_double value l) s mid t
    (double_written value ++ Put command_address (transfer_word true number) ∷ map poll_act words) (Read abstractcs_address) st
    (double_puts value h bus y l) (CommandBegun.polls words vain) p cut)
polled_cut number low high value h bus y base w k words s mid t small c vain (BothTouched.wrong e) p cut =
    let split : Split (giving_acts number value) (map poll_act words) s mid = site_acts-split (giving_acts number value) (map poll_act words) s mid p in
    let polled : RanAlone split.mid mid = polls_ran words split.mid mid split.rest in
    let more : RanAlone mid t = status_cut mid t cut in
    as_it_was number value h bus y base t
    (erred_hung h bus y base t
    (erred_ran h bus y base w more.deeds mid t c more.is
    (erred_ran h bus y base w polled.deeds split.mid mid c polled.is (giving_erred number value h bus y base w s split.mid c e split.first))))

always_cut : (number low high value h : ℕ) (bus : BusUnit) (y : Hart) (base : Site) (w : Hart) (k : Kept) (words : List ℕ) (s t : Site) → Plain number
    → Calm h bus y base w → BothTouched number low high h bus y base w k s → SiteActs (giving_acts number value ++ map poll_act words) s t
    → HungAt (Written number value y) h bus base t
always_cut number low high value h bus y base w k words s t small c (BothTouched.right v held low_is high_is st) p =
    let l : Kept = words_behind false number v k in
    let tail : List Act = Put command_address (transfer_word true number) ∷ map poll_act words in
    let split : Split (double_written value) tail s t = site_acts-split (double_written value) tail s t p in
    written_cut number value h bus y base w l t small c
    (sent (sent_polls (transfer_word true number) words h bus y base w (with_double value l) split.mid t
    (words_put h bus y base w l (with_double value l) (double_written value) s split.mid (double_puts value h bus y l) st split.first) split.rest))
always_cut number low high value h bus y base w k words s t small c (BothTouched.wrong e) p =
    let split : Split (giving_acts number value) (map poll_act words) s t = site_acts-split (giving_acts number value) (map poll_act words) s t p in
    let polled : RanAlone split.mid t = polls_ran words split.mid t split.rest in
    as_it_was number value h bus y base t
    (erred_hung h bus y base t
    (erred_ran h bus y base w polled.deeds split.mid t c polled.is (giving_erred number value h bus y base w s split.mid c e split.first)))

cleared_cut : (number low high value last h : ℕ) (bus : BusUnit) (y : Hart) (base : Site) (w : Hart) (k : Kept) (words : List ℕ) (s mid t : Site)
    → Plain number → Calm h bus y base w → InVain words → shows_busy last ≡ false → error_shown last ≢ 0
    → BothTouched number low high h bus y base w k s → SiteActs (giving_acts number value ++ (map poll_act words ++ poll_act last ∷ [])) s mid
    → SiteCut (Write abstractcs_address clears_cmderr) mid t → HungAt (Written number value y) h bus base t
cleared_cut number low high value last h bus y base w k words s mid t small c vain not_busy error (BothTouched.right v held low_is high_is st) p cut =
    let l : Kept = words_behind false number v k in
    written_cut number value h bus y base w l t small c
    (begun_cut (double_written value) (transfer_word true number) h bus y base w l (with_double value l) s mid t
    (double_written value ++ Put command_address (transfer_word true number) ∷ (map poll_act words ++ poll_act last ∷ []))
    (Write abstractcs_address clears_cmderr) st (double_puts value h bus y l) (CommandBegun.clears words last vain not_busy error) p cut)
cleared_cut number low high value last h bus y base w k words s mid t small c vain not_busy error (BothTouched.wrong e) p cut =
    let tail : List Act = map poll_act words ++ poll_act last ∷ [] in
    let split : Split (giving_acts number value) tail s mid = site_acts-split (giving_acts number value) tail s mid p in
    as_it_was number value h bus y base t
    (over_cut last h bus y base w mid t c
    (erred_polled words last h bus y base w split.mid mid c (giving_erred number value h bus y base w s split.mid c e split.first) split.rest not_busy) cut)

-- ---- by the fault

several_hung : (number value h : ℕ) (bus : BusUnit) (y : Hart) (base : Site) (w : Hart) (old_count new_count : ℕ) (old : Tells) (told : Option Far)
    (why : DmiFault) → Plain number → StoodTold h bus y base w old.far
    → Broke [] (Several (Write command_address (transfer_word false number)) (swap_ops number value)) old_count new_count old told why
    → Hung (Written number value y) h bus base told
several_hung number value h bus y base w old_count new_count old told why small st b =
    let op : DmiOp = Write command_address (transfer_word false number) in
    let at : AtSites [] st.far b.mid.far = did_sites old [] b.mid st.far b.did st.is in
    let c : OperationsCut (op ∷ swap_ops number value) at.far.live.chip told =
    subst (λ (m : Option Far). WhereTold (OperationsCut (op ∷ swap_ops number value)) m told) at.is b.cut in
    let s : StoppedAt (op ∷ swap_ops number value) (site_of at.far) (site_of c.far) =
    stopped_at op (swap_ops number value) c.done c.rest c.happened (site_of at.far) (site_of c.far) c.asked c.once c.site in
    record {
      far = c.far;
      is = c.is;
      hung = together_cut number value h bus y base w st.kept s.done s.op s.left (site_of at.far) s.mid (site_of c.far) small
          (subst (Stood h bus y base w st.kept) (sym at.acts_are) st.stood) s.asked s.before s.cut;
    }

begun_hung : (number value h : ℕ) (bus : BusUnit) (y : Hart) (base : Site) (w : Hart) (old_count new_count : ℕ) (old : Tells) (told : Option Far)
    (why : DmiFault) (acts : List Act) (failed : Attempt) → Plain number → StoodTold h bus y base w old.far
    → BehindBegun (Swaps number value) (Write command_address (transfer_word false number)) (swap_ops number value) acts failed
    → Broke acts failed old_count new_count old told why → Hung (Written number value y) h bus base told
begun_hung number value h bus y base w old_count new_count old told why _ _ small st together b =
    several_hung number value h bus y base w old_count new_count old told why small st b
begun_hung number value h bus y base w old_count new_count old told why _ _ small st (polls _ first words (swaps low high) vain) b =
    let acts : List Act = swapped_acts number low high value ++ map poll_act (first ∷ words) in
    let c : CutAt acts (Read abstractcs_address) st.far told = cut_at acts (Read abstractcs_address) old_count new_count old told why st.far st.is b in
    let a = words_at number low high value h bus y base w st.kept (map poll_act (first ∷ words)) (site_of st.far) c.mid small st.stood c.acts_are in
    record {
      far = c.far;
      is = c.is;
      hung = polled_cut number low high value h bus y base w st.kept (first ∷ words) a.mid c.mid (site_of c.far) small
          (stood_calm h bus y base w st.kept (site_of st.far) st.stood) vain a.touched a.rest_are c.cut;
    }
begun_hung number value h bus y base w old_count new_count old told why _ _ small st (clears _ words last (swaps low high) vain not_busy error) b =
    let tail : List Act = map poll_act words ++ poll_act last ∷ [] in
    let acts : List Act = swapped_acts number low high value ++ tail in
    let c : CutAt acts (Write abstractcs_address clears_cmderr) st.far told =
    cut_at acts (Write abstractcs_address clears_cmderr) old_count new_count old told why st.far st.is b in
    let a = words_at number low high value h bus y base w st.kept tail (site_of st.far) c.mid small st.stood c.acts_are in
    record {
      far = c.far;
      is = c.is;
      hung = cleared_cut number low high value last h bus y base w st.kept words a.mid c.mid (site_of c.far) small
          (stood_calm h bus y base w st.kept (site_of st.far) st.stood) vain not_busy error a.touched a.rest_are c.cut;
    }

busy_hung : (number value h : ℕ) (bus : BusUnit) (y : Hart) (base : Site) (w : Hart) (old new : Tells) (front : List Act) (words : List ℕ) → Plain number
    → StoodTold h bus y base w old.far → Swaps number value front → Did old (front ++ map poll_act words) new
    → Hung (Written number value y) h bus base new.far
busy_hung number value h bus y base w old new _ words small st (swaps low high) did =
    let acts : List Act = swapped_acts number low high value ++ map poll_act words in
    let at : AtSites acts st.far new.far = did_sites old acts new st.far did st.is in
    let a = words_at number low high value h bus y base w st.kept (map poll_act words) (site_of st.far) (site_of at.far) small st.stood at.acts_are in
    record {
      far = at.far;
      is = at.is;
      hung = always_cut number low high value h bus y base w st.kept words a.mid (site_of at.far) small
          (stood_calm h bus y base w st.kept (site_of st.far) st.stood) a.touched a.rest_are;
    }

pub swap_hung : (number value h : ℕ) (bus : BusUnit) (y : Hart) (base : Site) (w : Hart) (old_count new_count : ℕ) (old new : Tells) (e : AccessFault)
    → Plain number → StoodTold h bus y base w old.far → SwapFailed number value old_count new_count old new e
    → IfCut (Hung (Written number value y) h bus base new.far) e
swap_hung number value h bus y base w old_count new_count old new (access_fault.Dmi why) small st f =
    begun_hung number value h bus y base w old_count new_count old new.far why f.acts f.failed small st f.begun f.broke
swap_hung number value h bus y base w old_count new_count old new (access_fault.Memory at) small st f = tt
swap_hung number value h bus y base w old_count new_count old new (access_fault.Register asked) small st f = tt
swap_hung number value h bus y base w old_count new_count old new access_fault.StillBusy small st f =
    busy_hung number value h bus y base w old new f.front f.busy.words small st f.made f.busy.did
swap_hung number value h bus y base w old_count new_count old new (access_fault.Run why) small st f = tt
swap_hung number value h bus y base w old_count new_count old new (access_fault.Odd shown) small st f = tt
