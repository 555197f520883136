-- Calls on software breakpoints that fail, at the places of a session's lowered plan.
use Rattle.std.proofs.Common.{◌≡◌, ◌<◌, ◌+◌, ◌-◌, ◌∙◌, ℕ, suc, Bool, true, false, List, [], Some, Err, slice_get, refl, sym, ap, subst, arith}
use Rattle.std.proofs.lemmas.Bool.{false≢true}
use Rattle.rv_model.specs.declared.size.Size.TheVariants.{B4}
use Rattle.rv_model.specs.Board.{Machine}
use Rattle.rv_model.specs.DebugRegisters.{dcsr_number}
use Rattle.rv_model.specs.Memory.{loaded}
use Rattle.debug_model.specs.declared.point.Point.TheVariants.{Access}
use Rattle.debug_model.specs.Kept.{DmiSeen}
use Rattle.debug_model.specs.Module.{Site}
use Rattle.debug_model.specs.SoftCommand.{IsSoftAddress}
use Rattle.debug_model.specs.Told.{site_of}
use Rattle.abstract_debugger.specs.Debugger.{Seen, by_load, by_state, look, one}
use Rattle.abstract_debugger.specs.Lines.{Line}
use Rattle.abstract_debugger.specs.Plan.{Plan}
use Rattle.abstract_debugger.specs.Plan.Change.{EbreakHalts, Patch}
use Rattle.abstract_debugger.specs.Plan.Plan.{change, say, see, take}
use Rattle.abstract_debugger.specs.Stands.{Deals, Origin, Pointed}
use Rattle.abstract_debugger.specs.Turns.{after_turns}
use Rattle.abstract_debugger.specs.Ways.Way.{Idle}
use Rattle.abstract_debugger.proofs.DealsLemmas.{deals_at_plan, deals_loaded}
use Rattle.probe_access.specs.declared.fault.AccessFault.{AccessFault}
use Rattle.probe_access.specs.Accesses.{AccessLeft, BusStoreRefused, StoreRefused}
use Rattle.probe_access.specs.Cuts.{AccessLeftOff, BusLeftOff, IfCut, Leaves, Scratched, StoreLeaves}
use Rattle.probe_access.specs.StepRuns.{of_run}
use Rattle.probe_run.specs.declared.fault.RunFault.{RunFault}
use Rattle.probe_run.specs.declared.fault.RunFault.TheVariants as run_fault
use Rattle.probe_run.specs.declared.hart.Seen.TheVariants as seen
use Rattle.probe_run.specs.Acts.{Tells}
use Rattle.probe_run.specs.Happens.{target_of}
use Rattle.probe_run.specs.Told.{told}
use Rattle.probe_session.specs.declared.fault.Failure.{Failure}
use Rattle.probe_session.specs.Calls.{LookUnheard, ReadFell, WriteFell}
use Rattle.probe_session.specs.Failures.{failure_of_access, failure_of_run}
use Rattle.probe_session.specs.Goes.{Fault, Goes}
use Rattle.probe_session.specs.Going.{Branches}
use Rattle.probe_session.specs.Places.{idle, ready, still}
use Rattle.probe_session.specs.Steps.{Step}
use Rattle.probe_session.specs.Transcribed.{OnTheWay, Still}
use Rattle.probe_session.proofs.BrokeOff.{OnWay, is_told, left_still}
use Rattle.probe_session.proofs.Conversions.{became, of_register}
use Rattle.probe_session.proofs.LedSteps.{goes_lead}
use Rattle.probe_session.proofs.RegisterLemmas.{dcsr_of_harts}
use Rattle.soft_laws.specs.Lowered.{Table, hidden_memory, lower}
use Rattle.soft_laws.specs.SoftBreaks.{ebreak_word, is_listed, meets_some, without}
use Rattle.soft_laws.specs.SoftDebugger.{closing, covering, lifting, planting, preparing, word_at}
use Rattle.soft_laws.proofs.PatchedLemmas.{uncovered-apart}
use Rattle.soft_break.specs.declared.fault.SoftFault.{SoftFault}
use Rattle.soft_break.specs.declared.fault.SoftFault.TheVariants as soft_fault
use Rattle.soft_break.specs.Calls.{IfAccess, PlantCut, PlantRefused, ReadOne, SoftBehind}
use Rattle.soft_break.specs.Patches.{Patches}
use Rattle.soft_break.specs.Preparing.{EbreakFailed, LookBroke, PrepareFailed, ReadBroke, WriteBroke, ebreak_halting}
use Rattle.soft_break.proofs.LeadLemmas.{loaded_apart}
use Rattle.soft_session.specs.Cuts.{Cuts, CutsOf, LeftSoft, at_closing, at_over, at_planting, at_prepared}
use Rattle.soft_session.specs.Led.{at_plan}
use Rattle.soft_session.specs.Setting.{ClosedLed, failure_of_soft, is_refusal}
use Rattle.soft_session.specs.Stepping.{behind_whole}
use Rattle.soft_session.proofs.ClosingSteps.{lowest_first}
use Rattle.soft_session.proofs.CutSteps.{Way, access_by, access_cut, bus_refused_way, bus_way, cut_then, fault_cut}
use Rattle.soft_session.proofs.CutSteps.{hart_way, no_call, onto_cut, refused_way, way_on}
use Rattle.soft_session.proofs.LedLemmas.{led_same}
use Rattle.soft_session.proofs.SettingSteps.{below_goes, one_look, preparing_suc}

-- ---- patches begin with an access

lifting_takes : (a : ℕ) (next : ℕ → Plan) (t : Table)
    → lower (lifting a next) t ≡ take Access (lower (see (λ b. change (Patch a (word_at a b) false) (next (word_at a b)))) t)
unfolding lower
lifting_takes a next t = refl

covering_takes : (a original : ℕ) (next : Plan) (t : Table) → lower (covering a original next) t ≡ take Access (lower (see (λ b. change
    (Patch a original true) next)) t)
unfolding lower
covering_takes a original next t = refl

-- ---- one less, by the bus

pub unplant_cut : (A : Type 0) (a v : ℕ) (next : ℕ → Plan) (t : Table) (old new : DmiSeen) (why : SoftFault) (f : Failure) → f ≡ failure_of_soft why
    → IfAccess (AccessLeft (BusStoreRefused B4 a) a old.far new.far) why
    → IfAccess (IfCut (Leaves (BusLeftOff (StoreLeaves B4 a v)) old.far new.far)) why → SoftBehind {A = A} old new (Err why)
    → Cuts (at_plan (lifting a next) t) (told old) f (told new)
unplant_cut A a v next t old new (soft_fault.Access why) f is left cut behind =
    access_cut (BusStoreRefused B4 a) (BusLeftOff (StoreLeaves B4 a v)) a why f (at_plan (lifting a next) t) _ (told old) (told new) is (lifting_takes a next t)
    (bus_way a v) (bus_refused_way a new.far) left cut
unplant_cut A a v next t old new soft_fault.Full f is left cut behind = no_call (at_plan (lifting a next) t) old new f is behind
unplant_cut A a v next t old new soft_fault.Set f is left cut behind = no_call (at_plan (lifting a next) t) old new f is behind
unplant_cut A a v next t old new soft_fault.NotSet f is left cut behind = no_call (at_plan (lifting a next) t) old new f is behind

pub closing_cut : (A : Type 0) (a v : ℕ) (p q : Patches) (old mid new : DmiSeen) (why : SoftFault) (f : Failure) → f ≡ failure_of_soft why
    → ClosedLed p q (told old) (told mid) → slice_get q.addresses 0 ≡ Some a
    → IfAccess (AccessLeft (BusStoreRefused B4 a) a mid.far new.far) why
    → IfAccess (IfCut (Leaves (BusLeftOff (StoreLeaves B4 a v)) mid.far new.far)) why → SoftBehind {A = A} mid new (Err why)
    → CutsOf p (at_closing p.addresses) (told old) (told new) f
closing_cut A a v p q old mid new why f is closed first left cut behind next t holds =
    let rest : ℕ → Plan = λ original. closing (without a q.addresses) next in
    onto_cut q (at_closing p.addresses next t) (λ u. at_closing q.addresses next u) (told old) (told mid) (told new) f (closed next t holds) (λ u k.
    cut_then (at_closing q.addresses next u) (at_plan (lifting a rest) u) (told mid) (told mid) (told new) f
    (led_same Idle 0 _ _ (told mid) (ap (λ (ps : List ℕ). lower (closing ps next) u) (lowest_first q.addresses a k.are.upwards first)))
    (unplant_cut A a v rest u mid new why f is left cut behind))

-- ---- a word uncovered, and covered again, by the hart

pub uncover_cut : (h a v : ℕ) (why : AccessFault) (f : Failure) (p : Patches) (old new : Tells) → f ≡ failure_of_access why
    → AccessLeft (StoreRefused B4 a) a old.far new.far why → IfCut (Leaves (AccessLeftOff Scratched (StoreLeaves B4 a v) h) old.far new.far) why
    → CutsOf p (at_over a h) old new f
uncover_cut h a v why f p old new is left cut b t holds =
    access_cut (StoreRefused B4 a) (AccessLeftOff Scratched (StoreLeaves B4 a v) h) a why f (at_over a h b t) _ old new is
    (lifting_takes a (λ original. one h (covering a original b.whole) (covering a original b.other)) t) (hart_way h a v) (refused_way a new.far) left cut

pub cover_cut : (h k a x original : ℕ) (is_whole : Bool) (why : AccessFault) (f : Failure) (b : Branches) (t : Table) (old new : Tells)
    → f ≡ failure_of_access why → AccessLeft (StoreRefused B4 x) x old.far new.far why
    → IfCut (Leaves (AccessLeftOff Scratched (StoreLeaves B4 x ebreak_word) k) old.far new.far) why
    → Cuts (behind_whole is_whole h (lower (covering a original b.whole) t) (lower (covering a original b.other) t)) old f new
cover_cut h k a x original true why f b t old new is left cut =
    access_cut (StoreRefused B4 x) (AccessLeftOff Scratched (StoreLeaves B4 x ebreak_word) k) x why f (ready h (lower
    (covering a original b.whole) t)) _ old new
    is (covering_takes a original b.whole t) (hart_way k x ebreak_word) (refused_way x new.far) left cut
cover_cut h k a x original false why f b t old new is left cut =
    access_cut (StoreRefused B4 x) (AccessLeftOff Scratched (StoreLeaves B4 x ebreak_word) k) x why f (still h (lower
    (covering a original b.other) t)) _ old new
    is (covering_takes a original b.other t) (hart_way k x ebreak_word) (refused_way x new.far) left cut

-- ---- one more

planting_takes : (a : ℕ) (b : Branches) (t : Table) → lower (planting a b.other b.whole) t ≡ take Access (see (λ c.
    lower (by_load (loaded (hidden_memory t c.memory) a B4) (say (Line.MemoryFault a) b.other) (λ v. covering a v (say (Line.SoftSet a) b.whole))) t))
unfolding lower
planting_takes a b t = refl

-- the word was read
read_there : (m : Machine) (o : Origin) (a original : ℕ) (b : Branches) (t : Table) (lines : List Line) (s u : Site)
    → meets_some t.covered a 4 ≡ false → Deals m 0 Idle o (lower (planting a b.other b.whole) t) lines (target_of s) → ReadOne a original s u
    → Deals m 0 Idle o (lower (covering a original (say (Line.SoftSet a) b.whole)) t) lines (target_of u)
read_there m o a original b t lines s u none d r =
    let at : Pointed Access (target_of s) (target_of u) =
    record { before = r.before; behind = r.behind; board = r.access.board; journal = r.access.journal } in
    deals_at_plan m 0 Idle o _ _ lines (target_of u)
    (ap (λ x. lower (by_load x (say (Line.MemoryFault a) b.other) (λ v. covering a v (say (Line.SoftSet a) b.whole))) t)
    (loaded_apart t (after_turns r.before s.board).memory a B4 none ∙ r.value_is))
    (deals_loaded m 0 Idle o (λ c. lower (by_load (loaded (hidden_memory t c.memory) a B4) (say (Line.MemoryFault a) b.other)
    (λ v. covering a v (say (Line.SoftSet a) b.whole))) t) lines (target_of s) (target_of u)
    (deals_at_plan m 0 Idle o _ _ lines (target_of s) (planting_takes a b t) d) at)

plant_way : (m : Machine) (o : Origin) (a : ℕ) (b : Branches) (t : Table) (lines : List Line) (s u : Site) → meets_some t.covered a 4 ≡ false
    → Deals m 0 Idle o (lower (planting a b.other b.whole) t) lines (target_of s) → PlantCut a s u → OnTheWay o lines u.journal
plant_way m o a b t lines s u none d (PlantCut.in_read (BusLeftOff.before_it c)) =
    way_on m o (at_planting a b t) _ lines s u (planting_takes a b t) d (Way.aside c.harts c.journal)
plant_way m o a b t lines s u none d (PlantCut.in_read (BusLeftOff.behind_it c)) =
    way_on m o (at_planting a b t) _ lines s u (planting_takes a b t) d (Way.within c.before c.behind c.journal)
plant_way m o a b t lines s u none d (PlantCut.in_write original mid read left) =
    way_on m o (at_plan (covering a original (say (Line.SoftSet a) b.whole)) t) _ lines mid u (covering_takes a original (say (Line.SoftSet a) b.whole) t)
    (read_there m o a original b t lines s mid none d read) (bus_way a ebreak_word mid u left)

-- what is no refusal of memory
pub plant_cut : (A : Type 0) (a : ℕ) (p : Patches) (old new : DmiSeen) (why : SoftFault) (f : Failure) → f ≡ failure_of_soft why → is_refusal why ≡ false
    → IsSoftAddress a → is_listed p.addresses a ≡ false → IfAccess (AccessLeft (PlantRefused a) a old.far new.far) why
    → IfAccess (IfCut (Leaves (PlantCut a) old.far new.far)) why → SoftBehind {A = A} old new (Err why)
    → CutsOf p (at_planting a) (told old) (told new) f
plant_cut A a p old new (soft_fault.Access why) f is other word free left cut behind b t holds = λ m o lines d.
    subst (λ g. Still (LeftSoft o lines g) new.far) (sym is)
    (access_by (Leaves (PlantCut a) old.far new.far) (Unit {0}) (PlantRefused a) a why o lines old.far new.far
    (is_told m 0 Idle o (lower (planting a b.other b.whole) t) lines old.far d) left cut
    (λ l. left_still (PlantCut a) m 0 Idle o (lower (planting a b.other b.whole) t) lines (OnWay o lines) old.far new.far
    (λ x y e q. plant_way m o a b t lines (site_of x) (site_of y) (uncovered-apart t.covered holds.words a word.0 (holds.listed a ∙ free)) e q) l d)
    (λ e w. absurd (false≢true (sym other ∙ e))))
plant_cut A a p old new soft_fault.Full f is other word free left cut behind b t holds = no_call (at_planting a b t) old new f is behind
plant_cut A a p old new soft_fault.Set f is other word free left cut behind b t holds = no_call (at_planting a b t) old new f is behind
plant_cut A a p old new soft_fault.NotSet f is other word free left cut behind b t holds = no_call (at_planting a b t) old new f is behind

-- ---- in front of the first one

of_run_fault : (why : RunFault) → failure_of_access (of_run why) ≡ failure_of_run why
of_run_fault (run_fault.Dmi why) = refl
of_run_fault (run_fault.NoHalt looks) = refl
of_run_fault (run_fault.NoAck looks) = refl

look_broke : (h old_count new_count : ℕ) (next : Seen → Plan) (old new : Tells) (why : AccessFault) (f : Failure) → f ≡ failure_of_access why
    → LookBroke h old_count new_count old new why → Cuts (idle (look h next)) old f new
look_broke h old_count new_count next old new why f is b = fault_cut (idle (look h next)) old_count new_count old new f
    (Fault.looking next (record {
      why = b.fault;
      later = b.later;
      heard = LookUnheard.selecting b.heard;
      told = b.left;
      is = is ∙ ap failure_of_access b.is ∙ of_run_fault b.fault;
    }))

read_broke : (h old_count new_count : ℕ) (old new : Tells) (why : AccessFault) (f : Failure) → f ≡ failure_of_access why
    → ReadBroke h old_count new_count old new why → ReadFell h dcsr_number old_count new_count old new f
read_broke h old_count new_count old new why f is b = record {
  why = why;
  later = b.later;
  at = b.at;
  heard = b.heard;
  told = b.left;
  cut = b.cut;
  is = became why (of_register false h dcsr_number old.far new.far why b.left) is;
}

write_broke : (h word old_count new_count : ℕ) (old new : Tells) (why : AccessFault) (f : Failure) → f ≡ failure_of_access why
    → WriteBroke h word old_count new_count old new why → WriteFell h dcsr_number (ebreak_halting word) old_count new_count old new f
write_broke h word old_count new_count old new why f is b = record {
  why = why;
  later = b.later;
  at = b.at;
  heard = b.heard;
  told = b.left;
  cut = b.cut;
  is = became why (of_register true h dcsr_number old.far new.far why b.left) is;
}

setting_broke : (h old_count new_count : ℕ) (next : Plan) (old new : Tells) (why : AccessFault) (f : Failure) → f ≡ failure_of_access why
    → EbreakFailed h old_count new_count old new why → Cuts (still h (change (EbreakHalts h true) next)) old f new
setting_broke h old_count new_count next old new why f is (EbreakFailed.in_read b) =
    fault_cut (still h (change (EbreakHalts h true) next)) old_count new_count old new f
    (Fault.reading (read_broke h old_count new_count old new why f is b) dcsr_of_harts)
setting_broke h old_count new_count next old new why f is (EbreakFailed.in_write word count mid read read_at le b) =
    fault_cut (still h (change (EbreakHalts h true) next)) old_count new_count old new f
    (Fault.writing next (record { heard = read; told = read_at }) le (write_broke h word count new_count mid new why f is b))

pub prepare_cut : (old_count new_count : ℕ) (b : Branches) (t : Table) (old new : Tells) (why : AccessFault) (f : Failure) → f ≡ failure_of_access why
    → PrepareFailed old_count new_count old new why → Cuts (at_prepared [] b t) old f new
prepare_cut old_count new_count b t old new why f is (PrepareFailed.in_look {h} {count} {mid} few below le broke) =
    let less : h < 1024 = few in
    let k : ℕ = 1023 - h in
    let all : h + suc k ≡ 1024 = omega (arith, less) in
    let looks : Plan = look h (by_state (lower b.whole t) (lower (say (Line.IsRunning h) b.other) t)
    (change (EbreakHalts h true) (lower (preparing k (h + 1) b.other b.whole) t))) in
    cut_then (at_prepared [] b t) (idle looks) old mid new f
    (goes_lead (at_prepared [] b t) (idle looks) old mid []
    (Goes.step (below_goes b.other b.whole t below (suc k) all) (Step.same (preparing_suc k h b.other b.whole t))))
    (look_broke h count new_count (by_state (lower b.whole t) (lower (say (Line.IsRunning h) b.other) t)
    (change (EbreakHalts h true) (lower (preparing k (h + 1) b.other b.whole) t))) mid new why f is broke)
prepare_cut old_count new_count b t old new why f is (PrepareFailed.in_setting {h} {count} {mid} {looked} x few below saw le broke) =
    let o = one_look b.other b.whole t h (seen.Halted x) old mid looked few below saw in
    cut_then (at_prepared [] b t) (still h (change (EbreakHalts h true) (lower (preparing o.0 (h + 1) b.other b.whole) t))) old looked new f
    (goes_lead (at_prepared [] b t) (still h (change (EbreakHalts h true) (lower (preparing o.0 (h + 1) b.other b.whole) t))) old looked [] o.1)
    (setting_broke h count new_count _ looked new why f is broke)
