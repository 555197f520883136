-- What a call that broke off while dpc and dcsr were read in one call leaves: the hart is as it was.
use Rattle.std.proofs.Common.{◌≡◌, ◌≢◌, ◌<◌, ◌^◌, ◌++◌, ℕ, List, [], ◌∷◌, map, false, Option, refl, sym, subst, arith}
use Rattle.rv_model.specs.Board.{Hart}
use Rattle.rv_model.specs.DebugRegisters.{dcsr_number}
use Rattle.debug_model.specs.Addresses.{data0_address, data1_address, abstractcs_address, command_address}
use Rattle.debug_model.specs.declared.dmi.DmiFault.{DmiFault}
use Rattle.debug_model.specs.declared.dmi_op.DmiOp.{DmiOp}
use Rattle.debug_model.specs.declared.dmi_op.DmiOp.TheVariants.{Read, Write}
use Rattle.debug_model.specs.Course.{OneOperation, Operation as Done}
use Rattle.debug_model.specs.Dmi.{SiteCut, value_of}
use Rattle.debug_model.specs.Dmi.SiteCut.{unperformed, was_performed}
use Rattle.debug_model.specs.Many.{OperationsCut, op_of}
use Rattle.debug_model.specs.Module.{Site}
use Rattle.debug_model.specs.Scan.{WhereTold}
use Rattle.debug_model.specs.SystemBus.{BusUnit}
use Rattle.debug_model.specs.Told.{Far, site_of}
use Rattle.chip_laws.proofs.SeveralOperations.{OperationsAt, StoppedAt, stopped_at}
use Rattle.probe_access.specs.declared.fault.AccessFault.{AccessFault}
use Rattle.probe_access.specs.declared.fault.AccessFault.TheVariants as access_fault
use Rattle.probe_run.specs.Acts.{Act, Attempt, Broke, Did, Tells}
use Rattle.probe_run.specs.Acts.Attempt.{Operation, Several}
use Rattle.probe_run.specs.Opening.{clears_cmderr}
use Rattle.probe_access.specs.CommandRuns.{BehindBegun, error_shown, poll_act, shows_busy}
use Rattle.probe_access.specs.CommandRuns.BehindBegun.{clears, polls, together}
use Rattle.probe_access.specs.Cuts.{IfCut}
use Rattle.probe_access.specs.Stops.{AsksStop, StopAskFailed, dpc_number, stop_acts}
use Rattle.probe_access.specs.Stops.AsksStop.{asks}
use Rattle.probe_access.proofs.Along.{AtSites, ReadAt, SiteActs, Split, did_sites, site_acts-split}
use Rattle.probe_access.proofs.AtOnceTold.{Asked, BothTouched, FineEnd, Touched, asked_first, asked_ran, lower, lower_touched, stood_polled, upper_touched}
use Rattle.probe_access.proofs.CutAtOnce.{
  asked_hung,
  command_cut,
  erred_hung,
  lower_cut,
  nothing_ran,
  over_cut,
  read_one,
  touched_ran,
  upper_cut,
  write_one,
}
use Rattle.probe_access.proofs.CutHung.{Hung, HungAt, hung_stood}
use Rattle.probe_access.proofs.CutSites.{CutAt, cut_at, status_cut, stood_ran}
use Rattle.probe_access.proofs.Errors.{Calm, Erred, command_keeps, data0_read_keeps, erred_one, erred_polled, erred_ran, stood_calm}
use Rattle.probe_access.proofs.ReadyUnit.{Kept}
use Rattle.probe_access.proofs.RegAnswers.{StoodTold}
use Rattle.probe_access.proofs.RegisterTold.{Stood}
use Rattle.probe_access.proofs.StopCalls.{dcsr_word, dpc_word, second_ops}
use Rattle.probe_access.proofs.StopTold.{StopTouched, lower_alone, stop_touched}
use Rattle.probe_access.proofs.TransferLemmas.{RanAlone, polls_ran, words_behind}

-- ---- behind the first register's words

abbrev AsItWas : ℕ → BusUnit → Hart → Site → Site → Type 0
AsItWas h bus y base t = HungAt (λ z. z ≡ y) h bus base t

second_cut : (low high h : ℕ) (bus : BusUnit) (y : Hart) (base : Site) (w : Hart) (k : Kept) (s t : Site) → Calm h bus y base w
    → BothTouched dpc_number low high h bus y base w k s → SiteCut (Write command_address dcsr_word) s t → AsItWas h bus y base t
second_cut low high h bus y base w k s t c (BothTouched.right v held low_is high_is st) cut =
    command_cut dcsr_number h bus y base w (words_behind false dpc_number v k) s t (record { small = omega arith; other = refl }) st cut
second_cut low high h bus y base w k s t c (BothTouched.wrong e) (unperformed d) =
    erred_hung h bus y base t (erred_ran h bus y base w d.deeds s t c d.is e)
second_cut low high h bus y base w k s t c (BothTouched.wrong e) (was_performed result o) =
    erred_hung h bus y base t
    (erred_one h bus y base w (Write command_address dcsr_word) result s t c (command_keeps dcsr_word h bus y base) o e)

-- the second command was begun, or an error stands
data Second (h : ℕ) (bus : BusUnit) (y : Hart) (base t : Site) : Type 0 where
  asked : (k : Kept) → Asked dcsr_number h bus y base k t → Second h bus y base t
  none : Erred h bus y base t → Second h bus y base t

second_asked : (low high h : ℕ) (bus : BusUnit) (y : Hart) (base : Site) (w : Hart) (k : Kept) (s t : Site) → Calm h bus y base w
    → BothTouched dpc_number low high h bus y base w k s → OneOperation (Write command_address dcsr_word) dcsr_word s t → Second h bus y base t
second_asked low high h bus y base w k s t c (BothTouched.right v held low_is high_is st) o =
    asked (words_behind false dpc_number v k) (asked_first dcsr_number h bus y base w (words_behind false dpc_number v k) s t (record { small = omega arith; other = refl }) st o)
second_asked low high h bus y base w k s t c (BothTouched.wrong e) o =
    none (erred_one h bus y base w (Write command_address dcsr_word) dcsr_word s t c (command_keeps dcsr_word h bus y base) o e)

word_cut : (h : ℕ) (bus : BusUnit) (y : Hart) (base : Site) (w : Hart) (s t : Site) → Calm h bus y base w → Second h bus y base s
    → SiteCut (Read data0_address) s t → AsItWas h bus y base t
word_cut h bus y base w s t c (asked k a) (unperformed d) =
    asked_hung dcsr_number h bus y base k t (asked_ran dcsr_number h bus y base w k d.deeds s t c d.is a)
word_cut h bus y base w s t c (asked k a) (was_performed result o) =
    touched_ran dcsr_number (value_of result) lower h bus y base w k t t c (record { deeds = []; is = nothing_ran t })
    (lower_alone dcsr_number (value_of result) h bus y base w k s t c a (read_one data0_address result s t o))
word_cut h bus y base w s t c (none e) (unperformed d) = erred_hung h bus y base t (erred_ran h bus y base w d.deeds s t c d.is e)
word_cut h bus y base w s t c (none e) (was_performed result o) =
    erred_hung h bus y base t (erred_one h bus y base w (Read data0_address) result s t c (data0_read_keeps h bus y base) o e)

-- behind the second register's word
word_ran : (word h : ℕ) (bus : BusUnit) (y : Hart) (base : Site) (w : Hart) (s m t : Site) → Calm h bus y base w → Second h bus y base s
    → ReadAt data0_address word s m → RanAlone m t → AsItWas h bus y base t
word_ran word h bus y base w s m t c (asked k a) r more =
    touched_ran dcsr_number word lower h bus y base w k m t c (record { deeds = more.deeds; is = more.is })
    (lower_alone dcsr_number word h bus y base w k s m c a r)
word_ran word h bus y base w s m t c (none e) r more =
    erred_hung h bus y base t
    (erred_ran h bus y base w more.deeds m t c more.is
    (erred_one h bus y base w (Read data0_address) r.result s m c (data0_read_keeps h bus y base) r.one e))

-- ---- among the operations of the one call

rest_cut : (low high h : ℕ) (bus : BusUnit) (y : Hart) (base : Site) (w : Hart) (k : Kept) (done : List Done) (op : DmiOp) (left : List DmiOp) (s mid t : Site)
    → Calm h bus y base w → map op_of done ++ op ∷ left ≡ second_ops dcsr_word → BothTouched dpc_number low high h bus y base w k s → OperationsAt done s mid
    → SiteCut op mid t → AsItWas h bus y base t
rest_cut low high h bus y base w k [] op left s mid t c asks_these b at cut =
    let is : op ≡ Write command_address dcsr_word = cc in
    second_cut low high h bus y base w k mid t c (subst (BothTouched dpc_number low high h bus y base w k) (sym at) b)
    (subst (λ o. SiteCut o mid t) is cut)
rest_cut low high h bus y base w k (o ∷ []) op left s mid t c asks_these b at cut =
    let first : o.op ≡ Write command_address dcsr_word = cc in
    let is : op ≡ Read data0_address = cc in
    let one : OneOperation (Write command_address dcsr_word) o.result s at.0 = subst (λ p. OneOperation p o.result s at.0) first at.1 in
    word_cut h bus y base w mid t c
    (subst (Second h bus y base) (sym at.2)
    (second_asked low high h bus y base w k s at.0 c b (write_one command_address dcsr_word o.result s at.0 one)))
    (subst (λ p. SiteCut p mid t) is cut)
rest_cut low high h bus y base w k (o ∷ p ∷ []) op left s mid t c asks_these b at cut =
    let first : o.op ≡ Write command_address dcsr_word = cc in
    let second : p.op ≡ Read data0_address = cc in
    let is : op ≡ Read abstractcs_address = cc in
    let one : OneOperation (Write command_address dcsr_word) o.result s at.0 = subst (λ q. OneOperation q o.result s at.0) first at.1 in
    let two : OneOperation (Read data0_address) p.result at.0 at.2.0 = subst (λ q. OneOperation q p.result at.0 at.2.0) second at.2.1 in
    word_ran (value_of p.result) h bus y base w at.0 at.2.0 t c
    (second_asked low high h bus y base w k s at.0 c b (write_one command_address dcsr_word o.result s at.0 one))
    (read_one data0_address p.result at.0 at.2.0 two)
    (subst (λ u. RanAlone u t) at.2.2 (status_cut mid t (subst (λ q. SiteCut q mid t) is cut)))
rest_cut low high h bus y base w k (o ∷ p ∷ q ∷ []) op left s mid t c asks_these b at cut = absurd (let no : ⊥ = cc in no)
rest_cut low high h bus y base w k (o ∷ p ∷ q ∷ r ∷ done) op left s mid t c asks_these b at cut = absurd (let no : ⊥ = cc in no)

abbrev words_ops : List DmiOp
words_ops = Read data1_address ∷ Read data0_address ∷ second_ops dcsr_word

words_cut : (h : ℕ) (bus : BusUnit) (y : Hart) (base : Site) (w : Hart) (k : Kept) (done : List Done) (op : DmiOp) (left : List DmiOp) (s mid t : Site)
    → Calm h bus y base w → map op_of done ++ op ∷ left ≡ words_ops → Asked dpc_number h bus y base k s → OperationsAt done s mid → SiteCut op mid t
    → AsItWas h bus y base t
words_cut h bus y base w k [] op left s mid t c asks_these a at cut =
    let is : op ≡ Read data1_address = cc in
    upper_cut dpc_number h bus y base w k mid t c (subst (Asked dpc_number h bus y base k) (sym at) a) (subst (λ o. SiteCut o mid t) is cut)
words_cut h bus y base w k (o ∷ []) op left s mid t c asks_these a at cut =
    let first : o.op ≡ Read data1_address = cc in
    let is : op ≡ Read data0_address = cc in
    let one : OneOperation (Read data1_address) o.result s at.0 = subst (λ p. OneOperation p o.result s at.0) first at.1 in
    subst (λ u. SiteCut (Read data0_address) u t → AsItWas h bus y base t) (sym at.2)
    (λ q. lower_cut dpc_number (value_of o.result) h bus y base w k at.0 t c
    (upper_touched dpc_number (value_of o.result) h bus y base w k s at.0 c a (read_one data1_address o.result s at.0 one)) q)
    (subst (λ p. SiteCut p mid t) is cut)
words_cut h bus y base w k (o ∷ p ∷ done) op left s mid t c asks_these a at cut =
    let first : o.op ≡ Read data1_address = cc in
    let second : p.op ≡ Read data0_address = cc in
    let others : map op_of done ++ op ∷ left ≡ second_ops dcsr_word = cc in
    let one : OneOperation (Read data1_address) o.result s at.0 = subst (λ q. OneOperation q o.result s at.0) first at.1 in
    let two : OneOperation (Read data0_address) p.result at.0 at.2.0 = subst (λ q. OneOperation q p.result at.0 at.2.0) second at.2.1 in
    rest_cut (value_of p.result) (value_of o.result) h bus y base w k done op left at.2.0 mid t c others
    (lower_touched dpc_number (value_of p.result) (value_of o.result) h bus y base w k at.0 at.2.0 c
    (upper_touched dpc_number (value_of o.result) h bus y base w k s at.0 c a (read_one data1_address o.result s at.0 one))
    (read_one data0_address p.result at.0 at.2.0 two))
    at.2.2 cut

together_cut : (h : ℕ) (bus : BusUnit) (y : Hart) (base : Site) (w : Hart) (k : Kept) (done : List Done) (op : DmiOp) (left : List DmiOp) (s mid t : Site)
    → Stood h bus y base w k s → map op_of done ++ op ∷ left ≡ Write command_address dpc_word ∷ words_ops → OperationsAt done s mid → SiteCut op mid t
    → AsItWas h bus y base t
together_cut h bus y base w k [] op left s mid t st asks_these at cut =
    let is : op ≡ Write command_address dpc_word = cc in
    command_cut dpc_number h bus y base w k mid t (record { small = omega arith; other = refl }) (subst (Stood h bus y base w k) (sym at) st) (subst (λ o. SiteCut o mid t) is cut)
together_cut h bus y base w k (o ∷ done) op left s mid t st asks_these at cut =
    let first : o.op ≡ Write command_address dpc_word = cc in
    let others : map op_of done ++ op ∷ left ≡ words_ops = cc in
    let one : OneOperation (Write command_address dpc_word) o.result s at.0 = subst (λ q. OneOperation q o.result s at.0) first at.1 in
    words_cut h bus y base w k done op left at.0 mid t (stood_calm h bus y base w k s st) others
    (asked_first dpc_number h bus y base w k s at.0 (record { small = omega arith; other = refl }) st (write_one command_address dpc_word o.result s at.0 one)) at.2 cut

-- ---- polls behind it, and the clearing

touched_hung : (low high word h : ℕ) (bus : BusUnit) (y : Hart) (base : Site) (w : Hart) (s m t : Site) → Calm h bus y base w
    → StopTouched low high word h bus y base w s → RanAlone s m → RanAlone m t → AsItWas h bus y base t
touched_hung low high word h bus y base w s m t c (StopTouched.right v u k held low_is high_is second word_is st) polled more =
    hung_stood (λ z. z ≡ y) h bus y base w k t refl
    (stood_ran h bus y base w k m t (stood_ran h bus y base w k s m st (record { deeds = polled.deeds; is = polled.is }))
    (record { deeds = more.deeds; is = more.is }))
touched_hung low high word h bus y base w s m t c (StopTouched.wrong e) polled more =
    erred_hung h bus y base t (erred_ran h bus y base w more.deeds m t c more.is (erred_ran h bus y base w polled.deeds s m c polled.is e))

polls_hung : (low high word h : ℕ) (bus : BusUnit) (y : Hart) (base : Site) (w : Hart) (k : Kept) (words : List ℕ) (s mid t : Site)
    → Stood h bus y base w k s → SiteActs (stop_acts low high word ++ map poll_act words) s mid → RanAlone mid t → AsItWas h bus y base t
polls_hung low high word h bus y base w k words s mid t st p more =
    let split : Split (stop_acts low high word) (map poll_act words) s mid = site_acts-split (stop_acts low high word) (map poll_act words) s mid p in
    touched_hung low high word h bus y base w split.mid mid t (stood_calm h bus y base w k s st)
    (stop_touched low high word h bus y base w k s split.mid st split.first) (polls_ran words split.mid mid split.rest) more

clears_hung : (low high word last h : ℕ) (bus : BusUnit) (y : Hart) (base : Site) (w : Hart) (words : List ℕ) (s mid t : Site) → Calm h bus y base w
    → StopTouched low high word h bus y base w s → SiteActs (map poll_act words ++ poll_act last ∷ []) s mid → shows_busy last ≡ false
    → error_shown last ≢ 0 → SiteCut (Write abstractcs_address clears_cmderr) mid t → AsItWas h bus y base t
clears_hung low high word last h bus y base w words s mid t c (StopTouched.right v u k held low_is high_is second word_is st) p not_busy error cut =
    let f : FineEnd last h bus y base w k mid = stood_polled words last h bus y base w k s mid st p in absurd (error f.error_is)
clears_hung low high word last h bus y base w words s mid t c (StopTouched.wrong e) p not_busy error cut =
    over_cut last h bus y base w mid t c (erred_polled words last h bus y base w s mid c e p not_busy) cut

-- ---- by the fault

several_hung : (h : ℕ) (bus : BusUnit) (y : Hart) (base : Site) (w : Hart) (old_count new_count : ℕ) (old : Tells) (told : Option Far) (why : DmiFault)
    → StoodTold h bus y base w old.far → Broke [] (Several (Write command_address dpc_word) words_ops) old_count new_count old told why
    → Hung (λ z. z ≡ y) h bus base told
several_hung h bus y base w old_count new_count old told why st b =
    let op : DmiOp = Write command_address dpc_word in
    let at : AtSites [] st.far b.mid.far = did_sites old [] b.mid st.far b.did st.is in
    let c : OperationsCut (op ∷ words_ops) at.far.live.chip told =
    subst (λ (m : Option Far). WhereTold (OperationsCut (op ∷ words_ops)) m told) at.is b.cut in
    let s : StoppedAt (op ∷ words_ops) (site_of at.far) (site_of c.far) =
    stopped_at op words_ops c.done c.rest c.happened (site_of at.far) (site_of c.far) c.asked c.once c.site in
    record {
      far = c.far;
      is = c.is;
      hung = together_cut h bus y base w st.kept s.done s.op s.left (site_of at.far) s.mid (site_of c.far)
          (subst (Stood h bus y base w st.kept) (sym at.acts_are) st.stood) s.asked s.before s.cut;
    }

begun_hung : (h : ℕ) (bus : BusUnit) (y : Hart) (base : Site) (w : Hart) (old_count new_count : ℕ) (old : Tells) (told : Option Far) (why : DmiFault)
    (acts : List Act) (failed : Attempt) → StoodTold h bus y base w old.far → BehindBegun AsksStop (Write command_address dpc_word) words_ops acts failed
    → Broke acts failed old_count new_count old told why → Hung (λ z. z ≡ y) h bus base told
begun_hung h bus y base w old_count new_count old told why _ _ st together b =
    several_hung h bus y base w old_count new_count old told why st b
begun_hung h bus y base w old_count new_count old told why _ _ st (polls _ first words (asks low high word) vain) b =
    let acts : List Act = stop_acts low high word ++ map poll_act (first ∷ words) in
    let c : CutAt acts (Read abstractcs_address) st.far told = cut_at acts (Read abstractcs_address) old_count new_count old told why st.far st.is b in
    record {
      far = c.far;
      is = c.is;
      hung = polls_hung low high word h bus y base w st.kept (first ∷ words) (site_of st.far) c.mid (site_of c.far) st.stood c.acts_are
          (status_cut c.mid (site_of c.far) c.cut);
    }
begun_hung h bus y base w old_count new_count old told why _ _ st (clears _ words last (asks low high word) vain not_busy error) b =
    let tail : List Act = map poll_act words ++ poll_act last ∷ [] in
    let acts : List Act = stop_acts low high word ++ tail in
    let c : CutAt acts (Write abstractcs_address clears_cmderr) st.far told =
    cut_at acts (Write abstractcs_address clears_cmderr) old_count new_count old told why st.far st.is b in
    let split : Split (stop_acts low high word) tail (site_of st.far) c.mid =
    site_acts-split (stop_acts low high word) tail (site_of st.far) c.mid c.acts_are in
    record {
      far = c.far;
      is = c.is;
      hung = clears_hung low high word last h bus y base w words split.mid c.mid (site_of c.far)
          (stood_calm h bus y base w st.kept (site_of st.far) st.stood)
          (stop_touched low high word h bus y base w st.kept (site_of st.far) split.mid st.stood split.first) split.rest not_busy error c.cut;
    }

busy_hung : (h : ℕ) (bus : BusUnit) (y : Hart) (base : Site) (w : Hart) (old new : Tells) (front : List Act) (words : List ℕ)
    → StoodTold h bus y base w old.far → AsksStop front → Did old (front ++ map poll_act words) new → Hung (λ z. z ≡ y) h bus base new.far
busy_hung h bus y base w old new _ words st (asks low high word) did =
    let acts : List Act = stop_acts low high word ++ map poll_act words in
    let at : AtSites acts st.far new.far = did_sites old acts new st.far did st.is in
    record {
      far = at.far;
      is = at.is;
      hung = polls_hung low high word h bus y base w st.kept words (site_of st.far) (site_of at.far) (site_of at.far) st.stood at.acts_are
          (record { deeds = []; is = nothing_ran (site_of at.far) });
    }

pub stop_asking_hung : (h : ℕ) (bus : BusUnit) (y : Hart) (base : Site) (w : Hart) (old_count new_count : ℕ) (old new : Tells) (e : AccessFault)
    → StoodTold h bus y base w old.far → StopAskFailed old_count new_count old new e → IfCut (Hung (λ z. z ≡ y) h bus base new.far) e
stop_asking_hung h bus y base w old_count new_count old new (access_fault.Dmi why) st f =
    begun_hung h bus y base w old_count new_count old new.far why f.acts f.failed st f.begun f.broke
stop_asking_hung h bus y base w old_count new_count old new (access_fault.Memory at) st f = tt
stop_asking_hung h bus y base w old_count new_count old new (access_fault.Register number) st f = tt
stop_asking_hung h bus y base w old_count new_count old new access_fault.StillBusy st f =
    busy_hung h bus y base w old new f.front f.busy.words st f.made f.busy.did
stop_asking_hung h bus y base w old_count new_count old new (access_fault.Run why) st f = tt
stop_asking_hung h bus y base w old_count new_count old new (access_fault.Odd shown) st f = tt
