-- What a call that broke off while a register was asked for in one call leaves: the hart is as it was.
use Rattle.std.proofs.Common.{◌≡◌, ◌≢◌, ◌∙◌, ◌<◌, ◌^◌, ◌++◌, ℕ, List, [], ◌∷◌, map, false, Option, refl, sym, ap, subst}
use Rattle.rv_model.specs.Board.{Hart}
use Rattle.debug_model.specs.Addresses.{data0_address, data1_address, abstractcs_address, command_address}
use Rattle.debug_model.specs.declared.dmi.DmiFault.{DmiFault}
use Rattle.debug_model.specs.declared.dmi_op.DmiOp.{DmiOp}
use Rattle.debug_model.specs.declared.dmi_op.DmiOp.TheVariants.{Read, Write}
use Rattle.debug_model.specs.Course.{DeedsAlone, OneOperation, Operation as Done}
use Rattle.debug_model.specs.Deeds.{Deed, ran}
use Rattle.debug_model.specs.Dmi.{SiteCut, value_of}
use Rattle.debug_model.specs.Dmi.SiteCut.{unperformed, was_performed}
use Rattle.debug_model.specs.Many.{OperationsCut, op_of}
use Rattle.debug_model.specs.Module.{DebugModule, Site}
use Rattle.debug_model.specs.Scan.{WhereTold}
use Rattle.debug_model.specs.SystemBus.{BusUnit}
use Rattle.debug_model.specs.Told.{Far, site_of}
use Rattle.chip_laws.proofs.SeveralOperations.{OperationsAt, StoppedAt, stopped_at}
use Rattle.probe_access.specs.declared.fault.AccessFault.{AccessFault}
use Rattle.probe_access.specs.declared.fault.AccessFault.TheVariants as access_fault
use Rattle.probe_run.specs.Acts.{Act, Attempt, Broke, Did, Tells}
use Rattle.probe_run.specs.Acts.Attempt.{Operation, Several}
use Rattle.probe_run.specs.Opening.{clears_cmderr}
use Rattle.probe_access.specs.CommandRuns.{BehindBegun, error_shown, poll_act, shows_busy}
use Rattle.probe_access.specs.CommandRuns.BehindBegun.{clears, polls, together}
use Rattle.probe_access.specs.Cuts.{IfCut}
use Rattle.probe_access.specs.RegisterAccess.{transfer_word}
use Rattle.probe_access.specs.RegisterRuns.{AskFailed, Asks, asked_acts}
use Rattle.probe_access.specs.RegisterRuns.Asks.{asks}
use Rattle.probe_access.proofs.Plain.{Plain}
use Rattle.probe_access.proofs.Along.{AtSites, ReadAt, SiteActs, Split, did_sites, site_acts-split}
use Rattle.probe_access.proofs.AtOnceTold.{
  Asked,
  BothTouched,
  FineEnd,
  Touched,
  asked_first,
  asked_ran,
  both_touched,
  lower_touched,
  stood_polled,
  upper,
  upper_touched,
}
use Rattle.probe_access.proofs.CutHung.{Hung, HungAt, between_hung, hung_done, hung_stood}
use Rattle.probe_access.proofs.CutSites.{CutAt, cut_at, status_cut, stood_ran}
use Rattle.probe_access.proofs.Errors.{Calm, Erred, ErredEnd, erred_polled, erred_ran, over_cleared, stood_calm}
use Rattle.probe_access.proofs.ReadyUnit.{Kept, done_ran, unit_with}
use Rattle.probe_access.proofs.RegAnswers.{StoodTold}
use Rattle.probe_access.proofs.RegisterTold.{Rests, Stood}
use Rattle.probe_access.proofs.TransferLemmas.{RanAlone, polls_ran}

-- ---- an error stands, or nothing is under way: the hart is as it was

pub erred_hung : (h : ℕ) (bus : BusUnit) (y : Hart) (base t : Site) → Erred h bus y base t → HungAt (λ z. z ≡ y) h bus base t
erred_hung h bus y base t (Erred.early k number v late held b) = between_hung (λ z. z ≡ y) _ _ h bus y y base t refl refl refl refl b
erred_hung h bus y base t (Erred.over k e set d) = hung_done (λ z. z ≡ y) (unit_with k e [] h bus) h bus y base t refl refl d

pub rests_hung : (h : ℕ) (bus : BusUnit) (y : Hart) (base : Site) (w : Hart) (t : Site) → Rests h bus y base w t → HungAt (λ z. z ≡ y) h bus base t
rests_hung h bus y base w t r = hung_stood (λ z. z ≡ y) h bus y base w r.kept t refl r.stood

pub asked_hung : (number h : ℕ) (bus : BusUnit) (y : Hart) (base : Site) (k : Kept) (t : Site) → Asked number h bus y base k t → HungAt (λ z. z ≡ y) h bus base t
asked_hung number h bus y base k t (Asked.going v held b) = between_hung (λ z. z ≡ y) _ _ h bus y y base t refl refl refl refl b
asked_hung number h bus y base k t (Asked.failed e) = erred_hung h bus y base t e

-- ---- deeds behind the words

pub touched_ran : (number word : ℕ) (half : ℕ → ℕ) (h : ℕ) (bus : BusUnit) (y : Hart) (base : Site) (w : Hart) (k : Kept) (s t : Site) → Calm h bus y base w
    → DeedsAlone s t → Touched number word half h bus y base w k s → HungAt (λ z. z ≡ y) h bus base t
touched_ran number word half h bus y base w k s t c d (Touched.right v held is st) =
    hung_stood (λ z. z ≡ y) h bus y base w _ t refl (stood_ran h bus y base w _ s t st d)
touched_ran number word half h bus y base w k s t c d (Touched.wrong e) = erred_hung h bus y base t (erred_ran h bus y base w d.deeds s t c d.is e)

both_ran : (number low high h : ℕ) (bus : BusUnit) (y : Hart) (base : Site) (w : Hart) (k : Kept) (ds : List Deed) (s t : Site) → Calm h bus y base w
    → t ≡ ran ds s → BothTouched number low high h bus y base w k s → HungAt (λ z. z ≡ y) h bus base t
both_ran number low high h bus y base w k ds s t c is (BothTouched.right v held low_is high_is st) =
    hung_stood (λ z. z ≡ y) h bus y base w _ t refl (stood_ran h bus y base w _ s t st (record { deeds = ds; is = is }))
both_ran number low high h bus y base w k ds s t c is (BothTouched.wrong e) = erred_hung h bus y base t (erred_ran h bus y base w ds s t c is e)

-- ---- by the operation that was cut

pub read_one : (a result : ℕ) (s t : Site) → OneOperation (Read a) result s t → ReadAt a (value_of result) s t
read_one a result s t o = record { result = result; one = o; value_is = refl }

pub write_one : (a v result : ℕ) (s t : Site) → OneOperation (Write a v) result s t → OneOperation (Write a v) v s t
write_one a v result s t o = record { before = o.before; behind = o.behind; is = o.is; result_is = refl }

pub command_cut : (number h : ℕ) (bus : BusUnit) (y : Hart) (base : Site) (w : Hart) (k : Kept) (s t : Site) → Plain number → Stood h bus y base w k s
    → SiteCut (Write command_address (transfer_word false number)) s t → HungAt (λ z. z ≡ y) h bus base t
command_cut number h bus y base w k s t small st (unperformed d) =
    hung_stood (λ z. z ≡ y) h bus y base w k t refl (stood_ran h bus y base w k s t st d)
command_cut number h bus y base w k s t small st (was_performed result o) =
    asked_hung number h bus y base k t (asked_first number h bus y base w k s t small st (write_one command_address (transfer_word false number) result s t o))

pub nothing_ran : (z : Site) → z ≡ ran [] z
unfolding ran
nothing_ran z = refl

pub upper_cut : (number h : ℕ) (bus : BusUnit) (y : Hart) (base : Site) (w : Hart) (k : Kept) (s t : Site) → Calm h bus y base w → Asked number h bus y base k s
    → SiteCut (Read data1_address) s t → HungAt (λ z. z ≡ y) h bus base t
upper_cut number h bus y base w k s t c a (unperformed d) =
    asked_hung number h bus y base k t (asked_ran number h bus y base w k d.deeds s t c d.is a)
upper_cut number h bus y base w k s t c a (was_performed result o) =
    touched_ran number (value_of result) upper h bus y base w k t t c (record { deeds = []; is = nothing_ran t })
    (upper_touched number (value_of result) h bus y base w k s t c a (read_one data1_address result s t o))

pub lower_cut : (number high h : ℕ) (bus : BusUnit) (y : Hart) (base : Site) (w : Hart) (k : Kept) (s t : Site) → Calm h bus y base w
    → Touched number high upper h bus y base w k s → SiteCut (Read data0_address) s t → HungAt (λ z. z ≡ y) h bus base t
lower_cut number high h bus y base w k s t c a (unperformed d) = touched_ran number high upper h bus y base w k s t c d a
lower_cut number high h bus y base w k s t c a (was_performed result o) =
    both_ran number (value_of result) high h bus y base w k [] t t c (nothing_ran t)
    (lower_touched number (value_of result) high h bus y base w k s t c a (read_one data0_address result s t o))

-- ---- among those of the one call

abbrev words_ops : List DmiOp
words_ops = Read data1_address ∷ Read data0_address ∷ Read abstractcs_address ∷ []

words_cut : (number h : ℕ) (bus : BusUnit) (y : Hart) (base : Site) (w : Hart) (k : Kept) (done : List Done) (op : DmiOp) (left : List DmiOp) (s mid t : Site)
    → Calm h bus y base w → map op_of done ++ op ∷ left ≡ words_ops → Asked number h bus y base k s → OperationsAt done s mid → SiteCut op mid t
    → HungAt (λ z. z ≡ y) h bus base t
words_cut number h bus y base w k [] op left s mid t c asked a at cut =
    let is : op ≡ Read data1_address = cc in
    upper_cut number h bus y base w k mid t c (subst (Asked number h bus y base k) (sym at) a) (subst (λ o. SiteCut o mid t) is cut)
words_cut number h bus y base w k (o ∷ []) op left s mid t c asked a at cut =
    let first : o.op ≡ Read data1_address = cc in
    let is : op ≡ Read data0_address = cc in
    let one : OneOperation (Read data1_address) o.result s at.0 = subst (λ p. OneOperation p o.result s at.0) first at.1 in
    lower_cut number (value_of o.result) h bus y base w k mid t c
    (subst (Touched number (value_of o.result) upper h bus y base w k) (sym at.2)
    (upper_touched number (value_of o.result) h bus y base w k s at.0 c a (read_one data1_address o.result s at.0 one)))
    (subst (λ p. SiteCut p mid t) is cut)
words_cut number h bus y base w k (o ∷ p ∷ []) op left s mid t c asked a at cut =
    let first : o.op ≡ Read data1_address = cc in
    let second : p.op ≡ Read data0_address = cc in
    let is : op ≡ Read abstractcs_address = cc in
    let one : OneOperation (Read data1_address) o.result s at.0 = subst (λ q. OneOperation q o.result s at.0) first at.1 in
    let two : OneOperation (Read data0_address) p.result at.0 at.2.0 = subst (λ q. OneOperation q p.result at.0 at.2.0) second at.2.1 in
    let polled : RanAlone mid t = status_cut mid t (subst (λ q. SiteCut q mid t) is cut) in
    both_ran number (value_of p.result) (value_of o.result) h bus y base w k polled.deeds mid t c polled.is
    (subst (BothTouched number (value_of p.result) (value_of o.result) h bus y base w k) (sym at.2.2)
    (lower_touched number (value_of p.result) (value_of o.result) h bus y base w k at.0 at.2.0 c
    (upper_touched number (value_of o.result) h bus y base w k s at.0 c a (read_one data1_address o.result s at.0 one))
    (read_one data0_address p.result at.0 at.2.0 two)))
words_cut number h bus y base w k (o ∷ p ∷ q ∷ []) op left s mid t c asked a at cut = absurd (let no : ⊥ = cc in no)
words_cut number h bus y base w k (o ∷ p ∷ q ∷ r ∷ done) op left s mid t c asked a at cut = absurd (let no : ⊥ = cc in no)

together_cut : (number h : ℕ) (bus : BusUnit) (y : Hart) (base : Site) (w : Hart) (k : Kept) (done : List Done) (op : DmiOp) (left : List DmiOp)
    (s mid t : Site) → Plain number → Stood h bus y base w k s
    → map op_of done ++ op ∷ left ≡ Write command_address (transfer_word false number) ∷ words_ops → OperationsAt done s mid → SiteCut op mid t
    → HungAt (λ z. z ≡ y) h bus base t
together_cut number h bus y base w k [] op left s mid t small st asked at cut =
    let is : op ≡ Write command_address (transfer_word false number) = cc in
    command_cut number h bus y base w k mid t small (subst (Stood h bus y base w k) (sym at) st) (subst (λ o. SiteCut o mid t) is cut)
together_cut number h bus y base w k (o ∷ done) op left s mid t small st asked at cut =
    let first : o.op ≡ Write command_address (transfer_word false number) = cc in
    let others : map op_of done ++ op ∷ left ≡ words_ops = cc in
    let one : OneOperation (Write command_address (transfer_word false number)) o.result s at.0 = subst (λ q. OneOperation q o.result s at.0) first at.1 in
    words_cut number h bus y base w k done op left at.0 mid t (stood_calm h bus y base w k s st) others
    (asked_first number h bus y base w k s at.0 small st (write_one command_address (transfer_word false number) o.result s at.0 one)) at.2 cut

-- ---- polls behind it, and the clearing

polls_hung : (number low high h : ℕ) (bus : BusUnit) (y : Hart) (base : Site) (w : Hart) (k : Kept) (words : List ℕ) (s mid t : Site) → Plain number
    → Stood h bus y base w k s → SiteActs (asked_acts number low high ++ map poll_act words) s mid → RanAlone mid t → HungAt (λ z. z ≡ y) h bus base t
polls_hung number low high h bus y base w k words s mid t small st p more =
    let split : Split (asked_acts number low high) (map poll_act words) s mid =
    site_acts-split (asked_acts number low high) (map poll_act words) s mid p in
    let polled : RanAlone split.mid mid = polls_ran words split.mid mid split.rest in
    let c : Calm h bus y base w = stood_calm h bus y base w k s st in
    rests_or (both_touched number low high h bus y base w k s split.mid small st split.first) c polled
  where
    rests_or : {u : Site} → BothTouched number low high h bus y base w k u → Calm h bus y base w → RanAlone u mid → HungAt (λ z. z ≡ y) h bus base t
    rests_or (BothTouched.right v held low_is high_is stood) c polled =
        hung_stood (λ z. z ≡ y) h bus y base w _ t refl
        (stood_ran h bus y base w _ mid t (stood_ran h bus y base w _ _ mid stood (record { deeds = polled.deeds; is = polled.is }))
        (record { deeds = more.deeds; is = more.is }))
    rests_or (BothTouched.wrong e) c polled =
        erred_hung h bus y base t (erred_ran h bus y base w more.deeds mid t c more.is (erred_ran h bus y base w polled.deeds _ mid c polled.is e))

pub over_cut : (last h : ℕ) (bus : BusUnit) (y : Hart) (base : Site) (w : Hart) (mid t : Site) → Calm h bus y base w → ErredEnd last h bus y base mid
    → SiteCut (Write abstractcs_address clears_cmderr) mid t → HungAt (λ z. z ≡ y) h bus base t
over_cut last h bus y base w mid t c e (unperformed d) =
    hung_done (λ z. z ≡ y) (unit_with e.over.kept e.over.error [] h bus) h bus y base t refl refl
    (done_ran (unit_with e.over.kept e.over.error [] h bus) h y base w d.deeds mid t c.held c.frozen refl c.idle d.is e.over.at)
over_cut last h bus y base w mid t c e (was_performed result o) =
    rests_hung h bus y base w t
    (over_cleared h bus y base w clears_cmderr mid t c (write_one abstractcs_address clears_cmderr result mid t o) e.over)

clears_hung : (number low high last h : ℕ) (bus : BusUnit) (y : Hart) (base : Site) (w : Hart) (k : Kept) (words : List ℕ) (s mid t : Site)
    → Calm h bus y base w → BothTouched number low high h bus y base w k s → SiteActs (map poll_act words ++ poll_act last ∷ []) s mid
    → shows_busy last ≡ false → error_shown last ≢ 0 → SiteCut (Write abstractcs_address clears_cmderr) mid t → HungAt (λ z. z ≡ y) h bus base t
clears_hung number low high last h bus y base w k words s mid t c (BothTouched.right v held low_is high_is st) p not_busy error cut =
    let f : FineEnd last h bus y base w _ mid = stood_polled words last h bus y base w _ s mid st p in absurd (error f.error_is)
clears_hung number low high last h bus y base w k words s mid t c (BothTouched.wrong e) p not_busy error cut =
    over_cut last h bus y base w mid t c (erred_polled words last h bus y base w s mid c e p not_busy) cut

-- ---- by the fault

several_hung : (number h : ℕ) (bus : BusUnit) (y : Hart) (base : Site) (w : Hart) (old_count new_count : ℕ) (old : Tells) (told : Option Far) (why : DmiFault)
    → Plain number → StoodTold h bus y base w old.far
    → Broke [] (Several (Write command_address (transfer_word false number)) words_ops) old_count new_count old told why → Hung (λ z. z ≡ y) h bus base told
several_hung number h bus y base w old_count new_count old told why small st b =
    let op : DmiOp = Write command_address (transfer_word false number) in
    let at : AtSites [] st.far b.mid.far = did_sites old [] b.mid st.far b.did st.is in
    let c : OperationsCut (op ∷ words_ops) at.far.live.chip told =
    subst (λ (m : Option Far). WhereTold (OperationsCut (op ∷ words_ops)) m told) at.is b.cut in
    let s : StoppedAt (op ∷ words_ops) (site_of at.far) (site_of c.far) =
    stopped_at op words_ops c.done c.rest c.happened (site_of at.far) (site_of c.far) c.asked c.once c.site in
    record {
      far = c.far;
      is = c.is;
      hung = together_cut number h bus y base w st.kept s.done s.op s.left (site_of at.far) s.mid (site_of c.far) small
          (subst (Stood h bus y base w st.kept) (sym at.acts_are) st.stood) s.asked s.before s.cut;
    }

begun_hung : (number h : ℕ) (bus : BusUnit) (y : Hart) (base : Site) (w : Hart) (old_count new_count : ℕ) (old : Tells) (told : Option Far) (why : DmiFault)
    (acts : List Act) (failed : Attempt) → Plain number → StoodTold h bus y base w old.far
    → BehindBegun (Asks number) (Write command_address (transfer_word false number)) words_ops acts failed
    → Broke acts failed old_count new_count old told why → Hung (λ z. z ≡ y) h bus base told
begun_hung number h bus y base w old_count new_count old told why _ _ small st together b =
    several_hung number h bus y base w old_count new_count old told why small st b
begun_hung number h bus y base w old_count new_count old told why _ _ small st (polls _ first words (asks low high) vain) b =
    let c : CutAt (asked_acts number low high ++ map poll_act (first ∷ words)) (Read abstractcs_address) st.far told =
    cut_at (asked_acts number low high ++ map poll_act (first ∷ words)) (Read abstractcs_address) old_count new_count old told why st.far st.is b in
    record {
      far = c.far;
      is = c.is;
      hung = polls_hung number low high h bus y base w st.kept (first ∷ words) (site_of st.far) c.mid (site_of c.far) small st.stood c.acts_are
          (status_cut c.mid (site_of c.far) c.cut);
    }
begun_hung number h bus y base w old_count new_count old told why _ _ small st (clears _ words last (asks low high) vain not_busy error) b =
    let tail : List Act = map poll_act words ++ poll_act last ∷ [] in
    let c : CutAt (asked_acts number low high ++ tail) (Write abstractcs_address clears_cmderr) st.far told =
    cut_at (asked_acts number low high ++ tail) (Write abstractcs_address clears_cmderr) old_count new_count old told why st.far st.is b in
    let split : Split (asked_acts number low high) tail (site_of st.far) c.mid =
    site_acts-split (asked_acts number low high) tail (site_of st.far) c.mid c.acts_are in
    record {
      far = c.far;
      is = c.is;
      hung = clears_hung number low high last h bus y base w st.kept words split.mid c.mid (site_of c.far)
          (stood_calm h bus y base w st.kept (site_of st.far) st.stood)
          (both_touched number low high h bus y base w st.kept (site_of st.far) split.mid small st.stood split.first) split.rest not_busy error c.cut;
    }

busy_hung : (number h : ℕ) (bus : BusUnit) (y : Hart) (base : Site) (w : Hart) (old new : Tells) (front : List Act) (words : List ℕ) → Plain number
    → StoodTold h bus y base w old.far → Asks number front → Did old (front ++ map poll_act words) new → Hung (λ z. z ≡ y) h bus base new.far
unfolding ran
busy_hung number h bus y base w old new _ words small st (asks low high) did =
    let at : AtSites (asked_acts number low high ++ map poll_act words) st.far new.far =
    did_sites old (asked_acts number low high ++ map poll_act words) new st.far did st.is in
    record {
      far = at.far;
      is = at.is;
      hung = polls_hung number low high h bus y base w st.kept words (site_of st.far) (site_of at.far) (site_of at.far) small st.stood at.acts_are
          (record { deeds = []; is = refl });
    }

pub asking_hung : (number h : ℕ) (bus : BusUnit) (y : Hart) (base : Site) (w : Hart) (old_count new_count : ℕ) (old new : Tells) (e : AccessFault)
    → Plain number → StoodTold h bus y base w old.far → AskFailed number old_count new_count old new e → IfCut (Hung (λ z. z ≡ y) h bus base new.far) e
asking_hung number h bus y base w old_count new_count old new (access_fault.Dmi why) small st f =
    begun_hung number h bus y base w old_count new_count old new.far why f.acts f.failed small st f.begun f.broke
asking_hung number h bus y base w old_count new_count old new (access_fault.Memory at) small st f = tt
asking_hung number h bus y base w old_count new_count old new (access_fault.Register asked) small st f = tt
asking_hung number h bus y base w old_count new_count old new access_fault.StillBusy small st f =
    busy_hung number h bus y base w old new f.front f.busy.words small st f.made f.busy.did
asking_hung number h bus y base w old_count new_count old new (access_fault.Run why) small st f = tt
asking_hung number h bus y base w old_count new_count old new (access_fault.Odd shown) small st f = tt
