-- What a call that broke off while dcsr was read in one call leaves: the hart is as it was.
use Rattle.std.proofs.Common.{◌≡◌, ◌≢◌, ◌++◌, ℕ, List, [], ◌∷◌, map, false, Option, refl, sym, subst, arith}
use Rattle.rv_model.specs.Board.{Hart}
use Rattle.rv_model.specs.DebugRegisters.{dcsr_number}
use Rattle.debug_model.specs.Addresses.{data0_address, abstractcs_address, command_address}
use Rattle.debug_model.specs.declared.dmi.DmiFault.{DmiFault}
use Rattle.debug_model.specs.declared.dmi_op.DmiOp.{DmiOp}
use Rattle.debug_model.specs.declared.dmi_op.DmiOp.TheVariants.{Read, Write}
use Rattle.debug_model.specs.Course.{OneOperation, Operation as Done}
use Rattle.debug_model.specs.Dmi.{SiteCut, value_of}
use Rattle.debug_model.specs.Dmi.SiteCut.{unperformed, was_performed}
use Rattle.debug_model.specs.Many.{OperationsCut, op_of}
use Rattle.debug_model.specs.Module.{Site}
use Rattle.debug_model.specs.Scan.{WhereTold}
use Rattle.debug_model.specs.SystemBus.{BusUnit}
use Rattle.debug_model.specs.Told.{Far, site_of}
use Rattle.chip_laws.proofs.SeveralOperations.{OperationsAt, StoppedAt, stopped_at}
use Rattle.probe_access.specs.declared.fault.AccessFault.{AccessFault}
use Rattle.probe_access.specs.declared.fault.AccessFault.TheVariants as access_fault
use Rattle.probe_run.specs.Acts.{Act, Attempt, Broke, Did, Tells}
use Rattle.probe_run.specs.Acts.Attempt.{Several}
use Rattle.probe_run.specs.Opening.{clears_cmderr}
use Rattle.probe_access.specs.CommandRuns.{BehindBegun, error_shown, poll_act, shows_busy}
use Rattle.probe_access.specs.CommandRuns.BehindBegun.{clears, polls, together}
use Rattle.probe_access.specs.Cuts.{IfCut}
use Rattle.probe_access.specs.DcsrRuns.{AsksDcsr, DcsrAskFailed, dcsr_acts}
use Rattle.probe_access.specs.DcsrRuns.AsksDcsr.{asks}
use Rattle.probe_access.proofs.Along.{AtSites, SiteActs, Split, did_sites, site_acts-split}
use Rattle.probe_access.proofs.AtOnceTold.{Asked, FineEnd, Touched, asked_first, asked_ran, lower, stood_polled}
use Rattle.probe_access.proofs.CutAtOnce.{asked_hung, command_cut, erred_hung, nothing_ran, over_cut, read_one, touched_ran, write_one}
use Rattle.probe_access.proofs.CutHung.{Hung, HungAt, hung_stood}
use Rattle.probe_access.proofs.CutSites.{CutAt, cut_at, status_cut, stood_ran}
use Rattle.probe_access.proofs.DcsrTold.{dcsr_touched}
use Rattle.probe_access.proofs.Errors.{Calm, erred_polled, erred_ran, stood_calm}
use Rattle.probe_access.proofs.ReadyUnit.{Kept}
use Rattle.probe_access.proofs.RegAnswers.{StoodTold}
use Rattle.probe_access.proofs.RegisterTold.{Stood}
use Rattle.probe_access.proofs.StopCalls.{dcsr_word}
use Rattle.probe_access.proofs.StopTold.{lower_alone}
use Rattle.probe_access.proofs.TransferLemmas.{RanAlone, polls_ran, words_behind}

abbrev AsItWas : ℕ → BusUnit → Hart → Site → Site → Type 0
AsItWas h bus y base t = HungAt (λ z. z ≡ y) h bus base t

-- ---- among the operations of the one call

abbrev word_ops : List DmiOp
word_ops = Read data0_address ∷ Read abstractcs_address ∷ []

word_cut : (h : ℕ) (bus : BusUnit) (y : Hart) (base : Site) (w : Hart) (k : Kept) (s t : Site) → Calm h bus y base w → Asked dcsr_number h bus y base k s
    → SiteCut (Read data0_address) s t → AsItWas h bus y base t
word_cut h bus y base w k s t c a (unperformed d) =
    asked_hung dcsr_number h bus y base k t (asked_ran dcsr_number h bus y base w k d.deeds s t c d.is a)
word_cut h bus y base w k s t c a (was_performed result o) =
    touched_ran dcsr_number (value_of result) lower h bus y base w k t t c (record { deeds = []; is = nothing_ran t })
    (lower_alone dcsr_number (value_of result) h bus y base w k s t c a (read_one data0_address result s t o))

rest_cut : (h : ℕ) (bus : BusUnit) (y : Hart) (base : Site) (w : Hart) (k : Kept) (done : List Done) (op : DmiOp) (left : List DmiOp) (s mid t : Site)
    → Calm h bus y base w → map op_of done ++ op ∷ left ≡ word_ops → Asked dcsr_number h bus y base k s → OperationsAt done s mid → SiteCut op mid t
    → AsItWas h bus y base t
rest_cut h bus y base w k [] op left s mid t c asks_these a at cut =
    let is : op ≡ Read data0_address = cc in
    word_cut h bus y base w k mid t c (subst (Asked dcsr_number h bus y base k) (sym at) a) (subst (λ o. SiteCut o mid t) is cut)
rest_cut h bus y base w k (o ∷ []) op left s mid t c asks_these a at cut =
    let first : o.op ≡ Read data0_address = cc in
    let is : op ≡ Read abstractcs_address = cc in
    let one : OneOperation (Read data0_address) o.result s at.0 = subst (λ p. OneOperation p o.result s at.0) first at.1 in
    let polled : RanAlone mid t = status_cut mid t (subst (λ q. SiteCut q mid t) is cut) in
    touched_ran dcsr_number (value_of o.result) lower h bus y base w k mid t c (record { deeds = polled.deeds; is = polled.is })
    (subst (Touched dcsr_number (value_of o.result) lower h bus y base w k) (sym at.2)
    (lower_alone dcsr_number (value_of o.result) h bus y base w k s at.0 c a (read_one data0_address o.result s at.0 one)))
rest_cut h bus y base w k (o ∷ p ∷ []) op left s mid t c asks_these a at cut = absurd (let no : ⊥ = cc in no)
rest_cut h bus y base w k (o ∷ p ∷ q ∷ done) op left s mid t c asks_these a at cut = absurd (let no : ⊥ = cc in no)

together_cut : (h : ℕ) (bus : BusUnit) (y : Hart) (base : Site) (w : Hart) (k : Kept) (done : List Done) (op : DmiOp) (left : List DmiOp) (s mid t : Site)
    → Stood h bus y base w k s → map op_of done ++ op ∷ left ≡ Write command_address dcsr_word ∷ word_ops → OperationsAt done s mid → SiteCut op mid t
    → AsItWas h bus y base t
together_cut h bus y base w k [] op left s mid t st asks_these at cut =
    let is : op ≡ Write command_address dcsr_word = cc in
    command_cut dcsr_number h bus y base w k mid t (record { small = omega arith; other = refl }) (subst (Stood h bus y base w k) (sym at) st) (subst (λ o. SiteCut o mid t) is cut)
together_cut h bus y base w k (o ∷ done) op left s mid t st asks_these at cut =
    let first : o.op ≡ Write command_address dcsr_word = cc in
    let others : map op_of done ++ op ∷ left ≡ word_ops = cc in
    let one : OneOperation (Write command_address dcsr_word) o.result s at.0 = subst (λ q. OneOperation q o.result s at.0) first at.1 in
    rest_cut h bus y base w k done op left at.0 mid t (stood_calm h bus y base w k s st) others
    (asked_first dcsr_number h bus y base w k s at.0 (record { small = omega arith; other = refl }) st (write_one command_address dcsr_word o.result s at.0 one)) at.2 cut

-- ---- polls behind it, and the clearing

touched_hung : (word h : ℕ) (bus : BusUnit) (y : Hart) (base : Site) (w : Hart) (k : Kept) (s m t : Site) → Calm h bus y base w
    → Touched dcsr_number word lower h bus y base w k s → RanAlone s m → RanAlone m t → AsItWas h bus y base t
touched_hung word h bus y base w k s m t c (Touched.right v held word_is st) polled more =
    let l : Kept = words_behind false dcsr_number v k in
    hung_stood (λ z. z ≡ y) h bus y base w l t refl
    (stood_ran h bus y base w l m t (stood_ran h bus y base w l s m st (record { deeds = polled.deeds; is = polled.is }))
    (record { deeds = more.deeds; is = more.is }))
touched_hung word h bus y base w k s m t c (Touched.wrong e) polled more =
    erred_hung h bus y base t (erred_ran h bus y base w more.deeds m t c more.is (erred_ran h bus y base w polled.deeds s m c polled.is e))

polls_hung : (word h : ℕ) (bus : BusUnit) (y : Hart) (base : Site) (w : Hart) (k : Kept) (words : List ℕ) (s mid t : Site) → Stood h bus y base w k s
    → SiteActs (dcsr_acts word ++ map poll_act words) s mid → RanAlone mid t → AsItWas h bus y base t
polls_hung word h bus y base w k words s mid t st p more =
    let split : Split (dcsr_acts word) (map poll_act words) s mid = site_acts-split (dcsr_acts word) (map poll_act words) s mid p in
    touched_hung word h bus y base w k split.mid mid t (stood_calm h bus y base w k s st) (dcsr_touched word h bus y base w k s split.mid st split.first)
    (polls_ran words split.mid mid split.rest) more

clears_hung : (word last h : ℕ) (bus : BusUnit) (y : Hart) (base : Site) (w : Hart) (k : Kept) (words : List ℕ) (s mid t : Site) → Calm h bus y base w
    → Touched dcsr_number word lower h bus y base w k s → SiteActs (map poll_act words ++ poll_act last ∷ []) s mid → shows_busy last ≡ false
    → error_shown last ≢ 0 → SiteCut (Write abstractcs_address clears_cmderr) mid t → AsItWas h bus y base t
clears_hung word last h bus y base w k words s mid t c (Touched.right v held word_is st) p not_busy error cut =
    let l : Kept = words_behind false dcsr_number v k in
    let f : FineEnd last h bus y base w l mid = stood_polled words last h bus y base w l s mid st p in absurd (error f.error_is)
clears_hung word last h bus y base w k words s mid t c (Touched.wrong e) p not_busy error cut =
    over_cut last h bus y base w mid t c (erred_polled words last h bus y base w s mid c e p not_busy) cut

-- ---- by the fault

several_hung : (h : ℕ) (bus : BusUnit) (y : Hart) (base : Site) (w : Hart) (old_count new_count : ℕ) (old : Tells) (told : Option Far) (why : DmiFault)
    → StoodTold h bus y base w old.far → Broke [] (Several (Write command_address dcsr_word) word_ops) old_count new_count old told why
    → Hung (λ z. z ≡ y) h bus base told
several_hung h bus y base w old_count new_count old told why st b =
    let op : DmiOp = Write command_address dcsr_word in
    let at : AtSites [] st.far b.mid.far = did_sites old [] b.mid st.far b.did st.is in
    let c : OperationsCut (op ∷ word_ops) at.far.live.chip told =
    subst (λ (m : Option Far). WhereTold (OperationsCut (op ∷ word_ops)) m told) at.is b.cut in
    let s : StoppedAt (op ∷ word_ops) (site_of at.far) (site_of c.far) =
    stopped_at op word_ops c.done c.rest c.happened (site_of at.far) (site_of c.far) c.asked c.once c.site in
    record {
      far = c.far;
      is = c.is;
      hung = together_cut h bus y base w st.kept s.done s.op s.left (site_of at.far) s.mid (site_of c.far)
          (subst (Stood h bus y base w st.kept) (sym at.acts_are) st.stood) s.asked s.before s.cut;
    }

begun_hung : (h : ℕ) (bus : BusUnit) (y : Hart) (base : Site) (w : Hart) (old_count new_count : ℕ) (old : Tells) (told : Option Far) (why : DmiFault)
    (acts : List Act) (failed : Attempt) → StoodTold h bus y base w old.far → BehindBegun AsksDcsr (Write command_address dcsr_word) word_ops acts failed
    → Broke acts failed old_count new_count old told why → Hung (λ z. z ≡ y) h bus base told
begun_hung h bus y base w old_count new_count old told why _ _ st together b =
    several_hung h bus y base w old_count new_count old told why st b
begun_hung h bus y base w old_count new_count old told why _ _ st (polls _ first words (asks word) vain) b =
    let acts : List Act = dcsr_acts word ++ map poll_act (first ∷ words) in
    let c : CutAt acts (Read abstractcs_address) st.far told = cut_at acts (Read abstractcs_address) old_count new_count old told why st.far st.is b in
    record {
      far = c.far;
      is = c.is;
      hung = polls_hung word h bus y base w st.kept (first ∷ words) (site_of st.far) c.mid (site_of c.far) st.stood c.acts_are
          (status_cut c.mid (site_of c.far) c.cut);
    }
begun_hung h bus y base w old_count new_count old told why _ _ st (clears _ words last (asks word) vain not_busy error) b =
    let tail : List Act = map poll_act words ++ poll_act last ∷ [] in
    let acts : List Act = dcsr_acts word ++ tail in
    let c : CutAt acts (Write abstractcs_address clears_cmderr) st.far told =
    cut_at acts (Write abstractcs_address clears_cmderr) old_count new_count old told why st.far st.is b in
    let split : Split (dcsr_acts word) tail (site_of st.far) c.mid = site_acts-split (dcsr_acts word) tail (site_of st.far) c.mid c.acts_are in
    record {
      far = c.far;
      is = c.is;
      hung = clears_hung word last h bus y base w st.kept words split.mid c.mid (site_of c.far)
          (stood_calm h bus y base w st.kept (site_of st.far) st.stood)
          (dcsr_touched word h bus y base w st.kept (site_of st.far) split.mid st.stood split.first) split.rest not_busy error c.cut;
    }

busy_hung : (h : ℕ) (bus : BusUnit) (y : Hart) (base : Site) (w : Hart) (old new : Tells) (front : List Act) (words : List ℕ)
    → StoodTold h bus y base w old.far → AsksDcsr front → Did old (front ++ map poll_act words) new → Hung (λ z. z ≡ y) h bus base new.far
busy_hung h bus y base w old new _ words st (asks word) did =
    let acts : List Act = dcsr_acts word ++ map poll_act words in
    let at : AtSites acts st.far new.far = did_sites old acts new st.far did st.is in
    record {
      far = at.far;
      is = at.is;
      hung = polls_hung word h bus y base w st.kept words (site_of st.far) (site_of at.far) (site_of at.far) st.stood at.acts_are
          (record { deeds = []; is = nothing_ran (site_of at.far) });
    }

pub dcsr_asking_hung : (h : ℕ) (bus : BusUnit) (y : Hart) (base : Site) (w : Hart) (old_count new_count : ℕ) (old new : Tells) (e : AccessFault)
    → StoodTold h bus y base w old.far → DcsrAskFailed old_count new_count old new e → IfCut (Hung (λ z. z ≡ y) h bus base new.far) e
dcsr_asking_hung h bus y base w old_count new_count old new (access_fault.Dmi why) st f =
    begun_hung h bus y base w old_count new_count old new.far why f.acts f.failed st f.begun f.broke
dcsr_asking_hung h bus y base w old_count new_count old new (access_fault.Memory at) st f = tt
dcsr_asking_hung h bus y base w old_count new_count old new (access_fault.Register number) st f = tt
dcsr_asking_hung h bus y base w old_count new_count old new access_fault.StillBusy st f =
    busy_hung h bus y base w old new f.front f.busy.words st f.made f.busy.did
dcsr_asking_hung h bus y base w old_count new_count old new (access_fault.Run why) st f = tt
dcsr_asking_hung h bus y base w old_count new_count old new (access_fault.Odd shown) st f = tt
