-- Where a command of a session with software breakpoints failed in one of its calls, over a told chip.
use Rattle.std.proofs.Common.{◌≡◌, ◌∙◌, ◌+◌, ◌-◌, ◌<◌, ℕ, suc, Bool, true, false, List, [], Some, None, sym, ap}
use Rattle.std.proofs.Common.{subst, arith}
use Rattle.abstract_debugger.specs.Debugger.{at_halted, going, one, stop_line}
use Rattle.abstract_debugger.specs.Lines.{Line}
use Rattle.abstract_debugger.specs.Plan.{Plan}
use Rattle.abstract_debugger.specs.Plan.Plan.{say}
use Rattle.abstract_debugger.specs.Ways.Way.{Idle, Ready, Still}
use Rattle.probe_run.specs.Acts.{Tells}
use Rattle.probe_session.specs.declared.fault.Failure.{Failure}
use Rattle.probe_session.specs.Calls.{ReadFell}
use Rattle.probe_session.specs.Commands.{at_stop_line}
use Rattle.probe_session.specs.Goes.{Falls, Went}
use Rattle.probe_session.specs.Going.{Branches, at_one, behind_one}
use Rattle.probe_session.specs.Led.{Leads}
use Rattle.probe_session.specs.Met.{Rest, before_look}
use Rattle.probe_session.specs.Places.{ready, still}
use Rattle.probe_session.specs.Steps.{Step}
use Rattle.probe_session.proofs.LedSteps.{goes_lead}
use Rattle.probe_session.proofs.RegisterLemmas.{dcsr_of_harts}
use Rattle.rv_model.specs.DebugRegisters.{dcsr_number}
use Rattle.soft_laws.specs.Lowered.{Table, lower, patched_table}
use Rattle.soft_laws.specs.SoftBreaks.{is_listed}
use Rattle.soft_laws.specs.SoftDebugger.{SoftState, covering, soft_one, soft_stepping}
use Rattle.soft_break.specs.Leading.{LiftLeads}
use Rattle.soft_break.specs.Patches.{Patches, original_of}
use Rattle.soft_session.specs.Cuts.{Cuts, CutsOf, at_one_of, at_over, at_resuming, at_steps}
use Rattle.soft_session.specs.Led.{at_plan}
use Rattle.soft_session.specs.Stepping.{HitSeen, OneLed, OverLed, PcRead, StepLed, behind_whole}
use Rattle.soft_session.specs.Tables.{Holds}
use Rattle.soft_session.proofs.CutSteps.{cut_then, falls_cut, onto_cut, read_cut}
use Rattle.soft_session.proofs.GoingSteps.{SteppedLed, elsewhere_led, by_slots, goes_on, lower_goes_on, one_more, stepping_suc, stepping_zero, there_led}
use Rattle.soft_session.proofs.GoingSteps.{whole_or_not}
use Rattle.soft_session.proofs.LedLemmas.{led_at, led_same, led_step, led_then}
use Rattle.soft_session.proofs.LineSteps.{met}
use Rattle.soft_session.proofs.LowerLemmas.{lower_halted, lower_stop_line}
use Rattle.soft_session.proofs.SteppingSteps.{lower_one, one_elsewhere, one_there}

-- ---- a single step

pub step_once_cut : (h : ℕ) (old_count new_count : ℕ) (old new : Tells) (f : Failure) → Falls (at_one h) [] old_count new_count old new f
    → (b : Branches) → Cuts (at_one h b) old f new
step_once_cut h old_count new_count old new f falls b = falls_cut (at_one h) b old_count new_count old new f falls

pub behind_step_cut : (h : ℕ) (old_count new_count : ℕ) (old mid new : Tells) (f : Failure) → Went (at_one h) (behind_one h) [] old mid
    → ReadFell h dcsr_number old_count new_count mid new f → (b : Branches) → Cuts (at_one h b) old f new
behind_step_cut h old_count new_count old mid new f went fell b =
    cut_then (at_one h b) (behind_one h b) old mid new f (goes_lead (at_one h b) (behind_one h b) old mid [] (went.goes b))
    (read_cut h dcsr_number _ old_count new_count mid new f dcsr_of_harts fell)

-- the step in the middle of a lifted breakpoint
pub lifted_cut : (h at : ℕ) (p : Patches) (old lifted new : Tells) (f : Failure) → is_listed p.addresses at ≡ true
    → LiftLeads at (original_of at p) old.far lifted.far → ((b : Branches) → Cuts (at_one h b) lifted f new) → CutsOf p (at_over at h) old new f
lifted_cut h at p old lifted new f set lifts cuts b t holds =
    let w : ℕ = original_of at p in
    let t1 : Table = patched_table false at w t in
    let x : Plan = covering at w b.whole in
    let y : Plan = covering at w b.other in
    let c : Branches = record { whole = lower x t1; other = lower y t1 } in
    cut_then (at_over at h b t) (still h (lower (one h x y) t1)) old lifted new f
    (led_at Still h _ (lower (one h x y) t1) old lifted (lifts (λ original. one h (covering at original b.whole) (covering at original b.other)) t
    (holds.listed at ∙ set) (holds.exact at set)))
    (cut_then (still h (lower (one h x y) t1)) (at_one h c) lifted lifted new f
    (led_same Still h (lower (one h x y) t1) (one h (lower x t1) (lower y t1)) lifted (lower_one h x y t1)) (cuts c))

-- behind the step, where it is covered again
pub stepped_cut : (h at : ℕ) (p : Patches) (is_whole : Bool) (old lifted stood new : Tells) (f : Failure) → is_listed p.addresses at ≡ true
    → LiftLeads at (original_of at p) old.far lifted.far → StepLed h lifted stood is_whole
    → ((b : Branches) (t : Table) → Cuts (behind_whole is_whole h (lower (covering at (original_of at p) b.whole) t)
    (lower (covering at (original_of at p) b.other) t)) stood f new) → CutsOf p (at_over at h) old new f
stepped_cut h at p is_whole old lifted stood new f set lifts steps cuts b t holds =
    let w : ℕ = original_of at p in
    let t1 : Table = patched_table false at w t in
    let x : Plan = covering at w b.whole in
    let y : Plan = covering at w b.other in
    let c : Branches = record { whole = lower x t1; other = lower y t1 } in
    cut_then (at_over at h b t) (still h (lower (one h x y) t1)) old lifted new f
    (led_at Still h _ (lower (one h x y) t1) old lifted (lifts (λ original. one h (covering at original b.whole) (covering at original b.other)) t
    (holds.listed at ∙ set) (holds.exact at set)))
    (cut_then (still h (lower (one h x y) t1)) (at_one h c) lifted lifted new f
    (led_same Still h (lower (one h x y) t1) (one h (lower x t1) (lower y t1)) lifted (lower_one h x y t1))
    (cut_then (at_one h c) (behind_whole is_whole h (lower x t1) (lower y t1)) lifted stood new f (steps c) (cuts b t1)))

-- ---- a step that may be one over a breakpoint

pub one_over_cut : (h at : ℕ) (p : Patches) (old mid new : Tells) (f : Failure) → PcRead h p.addresses old mid (Some at)
    → CutsOf p (at_over at h) mid new f → CutsOf p (at_one_of p.addresses h) old new f
one_over_cut h at p old mid new f read cuts b t holds =
    cut_then (at_one_of p.addresses h b t) (at_over at h b t) old mid new f (one_there h at p b.whole b.other t old mid read) (cuts b t holds)

pub one_plain_cut : (h : ℕ) (p : Patches) (old mid new : Tells) (f : Failure) → PcRead h p.addresses old mid None
    → ((b : Branches) → Cuts (at_one h b) mid f new) → CutsOf p (at_one_of p.addresses h) old new f
one_plain_cut h p old mid new f read cuts b t holds =
    let c : Branches = record { whole = lower b.whole t; other = lower b.other t } in
    cut_then (at_one_of p.addresses h b t) (still h (lower (one h b.whole b.other) t)) old mid new f (one_elsewhere h p b.whole b.other t old mid read)
    (cut_then (still h (lower (one h b.whole b.other) t)) (at_one h c) mid mid new f
    (led_same Still h _ _ mid (lower_one h b.whole b.other t)) (cuts c))

-- ---- a row of steps

-- at the next one
pub next_step_cut : (count done h : ℕ) (p : Patches) (old mid new : Tells) (f : Failure) → done < count → SteppedLed count done h p old mid
    → CutsOf p (at_one_of p.addresses h) mid new f → CutsOf p (at_steps count p.addresses h) old new f
next_step_cut count done h p old mid new f less steps cuts next t holds =
    let k : ℕ = count - (done + 1) in
    let all : done + suc k ≡ count = omega (arith, less) in
    onto_cut p (at_steps count p.addresses h next t) (λ u. at_steps (suc k) p.addresses h next u) old mid new f (steps (suc k) all next t holds) (λ u held.
    cut_then (at_steps (suc k) p.addresses h next u)
    (at_one_of p.addresses h (record { whole = soft_stepping k p.addresses h (stop_line h next); other = stop_line h next }) u) mid mid new f
    (led_same Still h _ _ mid (ap (λ q. lower q u) (stepping_suc k p.addresses h (stop_line h next)))) (cuts _ u held))

-- where it stands is read
stop_cut : (h : ℕ) (next : Plan) (t : Table) (old_count new_count : ℕ) (old new : Tells) (f : Failure)
    → Falls (at_stop_line h) [] old_count new_count old new f → Cuts (still h (lower (stop_line h next) t)) old f new
stop_cut h next t old_count new_count old new f falls =
    cut_then (still h (lower (stop_line h next) t)) (at_stop_line h (lower next t)) old old new f
    (led_same Still h _ _ old (lower_stop_line h next t)) (falls_cut (at_stop_line h) (lower next t) old_count new_count old new f falls)

pub stopped_cut : (count done h : ℕ) (p : Patches) (old_count new_count : ℕ) (old mid new last : Tells) (f : Failure) → done < count
    → SteppedLed count done h p old mid → OneLed h p mid new false → Falls (at_stop_line h) [] old_count new_count new last f
    → CutsOf p (at_steps count p.addresses h) old last f
stopped_cut count done h p old_count new_count old mid new last f less steps one falls next t holds =
    let k : ℕ = count - (done + 1) in
    let all : done + suc k ≡ count = omega (arith, less) in
    onto_cut p (at_steps count p.addresses h next t) (λ u. still h (lower (stop_line h next) u)) old new last f
    (one_more count done h p false old mid new less steps one k all next t holds)
    (λ u held. stop_cut h next u old_count new_count new last f falls)

pub all_made_cut : (count done h : ℕ) (p : Patches) (old_count new_count : ℕ) (old mid new : Tells) (f : Failure) → done ≡ count
    → SteppedLed count done h p old mid → Falls (at_stop_line h) [] old_count new_count mid new f → CutsOf p (at_steps count p.addresses h) old new f
all_made_cut count done h p old_count new_count old mid new f whole steps falls next t holds =
    let is : done + 0 ≡ count = omega (arith, whole) in
    onto_cut p (at_steps count p.addresses h next t) (λ u. at_steps 0 p.addresses h next u) old mid new f (steps 0 is next t holds) (λ u held.
    cut_then (at_steps 0 p.addresses h next u) (still h (lower (stop_line h next) u)) mid mid new f
    (led_same Still h _ _ mid (ap (λ q. lower q u) (stepping_zero p.addresses h (stop_line h next)))) (stop_cut h next u old_count new_count mid new f falls))

-- ---- a hart that is let go

pub gone_whole_cut : (h : ℕ) (is_whole : Bool) (old_count new_count : ℕ) (old new : Tells) (f : Failure) → is_whole ≡ true
    → Falls (λ next. ready h (going h (say Line.Resumed next))) [] old_count new_count old new f
    → (next : Plan) → Cuts (behind_whole is_whole h (going h (say Line.Resumed next)) (stop_line h next)) old f new
gone_whole_cut h is_whole old_count new_count old new f is falls next =
    subst (λ b. Cuts (behind_whole b h (going h (say Line.Resumed next)) (stop_line h next)) old f new) (sym is)
    (falls_cut (λ next. ready h (going h (say Line.Resumed next))) next old_count new_count old new f falls)

pub gone_other_cut : (h : ℕ) (is_whole : Bool) (old_count new_count : ℕ) (old new : Tells) (f : Failure) → is_whole ≡ false
    → Falls (at_stop_line h) [] old_count new_count old new f
    → (next : Plan) → Cuts (behind_whole is_whole h (going h (say Line.Resumed next)) (stop_line h next)) old f new
gone_other_cut h is_whole old_count new_count old new f is falls next =
    subst (λ b. Cuts (behind_whole b h (going h (say Line.Resumed next)) (stop_line h next)) old f new) (sym is)
    (falls_cut (at_stop_line h) next old_count new_count old new f falls)

gone_cut : (h : ℕ) (is_whole : Bool) (next : Plan) (t : Table) (old new : Tells) (f : Failure)
    → ((next : Plan) → Cuts (behind_whole is_whole h (going h (say Line.Resumed next)) (stop_line h next)) old f new)
    → Cuts (behind_whole is_whole h (lower (goes_on h next) t) (lower (stop_line h next) t)) old f new
gone_cut h is_whole next t old new f cuts =
    cut_then (behind_whole is_whole h (lower (goes_on h next) t) (lower (stop_line h next) t))
    (behind_whole is_whole h (goes_on h (lower next t)) (stop_line h (lower next t))) old old new f (whole_or_not h is_whole next t old) (cuts (lower next t))

-- over a breakpoint
pub over_cut : (h at : ℕ) (p : Patches) (old mid new : Tells) (f : Failure) → PcRead h p.addresses old mid (Some at)
    → CutsOf p (at_over at h) mid new f → CutsOf p (at_resuming p.addresses h) old new f
over_cut h at p old mid new f (PcRead.there got set) cuts next t holds =
    cut_then (at_resuming p.addresses h next t) (at_over at h (record { whole = goes_on h next; other = stop_line h next }) t) old mid new f
    (there_led h at p next t old mid got set) (cuts _ t holds)

pub behind_over_cut : (h at : ℕ) (p : Patches) (is_whole : Bool) (old mid stood new : Tells) (f : Failure) → PcRead h p.addresses old mid (Some at)
    → OverLed at h p mid stood is_whole
    → ((next : Plan) → Cuts (behind_whole is_whole h (going h (say Line.Resumed next)) (stop_line h next)) stood f new)
    → CutsOf p (at_resuming p.addresses h) old new f
behind_over_cut h at p is_whole old mid stood new f (PcRead.there got set) over cuts next t holds =
    cut_then (at_resuming p.addresses h next t) (at_over at h (record { whole = goes_on h next; other = stop_line h next }) t) old mid new f
    (there_led h at p next t old mid got set)
    (onto_cut p (at_over at h (record { whole = goes_on h next; other = stop_line h next }) t)
    (λ u. behind_whole is_whole h (lower (goes_on h next) u) (lower (stop_line h next) u)) mid stood new f (over (goes_on h next) (stop_line h next) t holds)
    (λ u held. gone_cut h is_whole next u stood new f cuts))

-- elsewhere
pub slots_seen_cut : (h : ℕ) (p : Patches) (old mid new : Tells) (f : Failure) → PcRead h p.addresses old mid None
    → ((q : Plan) → Cuts (still h q) mid f new) → CutsOf p (at_resuming p.addresses h) old new f
slots_seen_cut h p old mid new f read cuts next t holds =
    cut_then (at_resuming p.addresses h next t) (still h (by_slots h p.addresses next t)) old mid new f (elsewhere_led h p next t old mid read) (cuts _)

pub pc_cut : (h : ℕ) (p : Patches) (old new : Tells) (f : Failure) → ((q : Plan) → Cuts (still h q) old f new) → CutsOf p (at_resuming p.addresses h) old new f
pc_cut h p old new f cuts next t holds = cuts _

pub free_cut : (h : ℕ) (p : Patches) (old_count new_count : ℕ) (old mid seen new : Tells) (f : Failure) → PcRead h p.addresses old mid None
    → HitSeen h mid seen false → Falls (λ next. ready h (going h (say Line.Resumed next))) [] old_count new_count seen new f
    → CutsOf p (at_resuming p.addresses h) old new f
free_cut h p old_count new_count old mid seen new f read none falls next t holds =
    let ps : List ℕ = p.addresses in
    let free : Plan = lower (goes_on h next) t in
    cut_then (at_resuming ps h next t) (still h (by_slots h ps next t)) old mid new f (elsewhere_led h p next t old mid read)
    (cut_then (still h (by_slots h ps next t)) (ready h free) mid seen new f
    (led_step (still h (by_slots h ps next t)) (ready h free) mid seen []
    (Step.views_none (lower (soft_one ps h (goes_on h next) (stop_line h next)) t) free none.viewed none.is))
    (cut_then (ready h free) (ready h (goes_on h (lower next t))) seen seen new f (led_same Ready h free _ seen (lower_goes_on h next t))
    (falls_cut (λ next. ready h (going h (say Line.Resumed next))) (lower next t) old_count new_count seen new f falls)))

held_there : (h : ℕ) (p : Patches) (next : Plan) (t : Table) (old mid seen : Tells) → PcRead h p.addresses old mid None → HitSeen h mid seen true
    → Leads (at_resuming p.addresses h next t) old [] (at_one_of p.addresses h (record { whole = goes_on h next; other = stop_line h next }) t) seen
held_there h p next t old mid seen read hit =
    let ps : List ℕ = p.addresses in
    let held : Plan = lower (soft_one ps h (goes_on h next) (stop_line h next)) t in
    led_then (at_resuming ps h next t) (still h (by_slots h ps next t)) (still h held) old mid seen [] [] (elsewhere_led h p next t old mid read)
    (led_step (still h (by_slots h ps next t)) (still h held) mid seen [] (Step.views_hits held (lower (goes_on h next) t) hit.viewed hit.is))

pub held_cut : (h : ℕ) (p : Patches) (old mid seen new : Tells) (f : Failure) → PcRead h p.addresses old mid None → HitSeen h mid seen true
    → CutsOf p (at_one_of p.addresses h) seen new f → CutsOf p (at_resuming p.addresses h) old new f
held_cut h p old mid seen new f read hit cuts next t holds =
    cut_then (at_resuming p.addresses h next t) (at_one_of p.addresses h (record { whole = goes_on h next; other = stop_line h next }) t) old seen new f
    (held_there h p next t old mid seen read hit) (cuts _ t holds)

pub behind_held_cut : (h : ℕ) (p : Patches) (is_whole : Bool) (old mid seen stood new : Tells) (f : Failure) → PcRead h p.addresses old mid None
    → HitSeen h mid seen true → OneLed h p seen stood is_whole
    → ((next : Plan) → Cuts (behind_whole is_whole h (going h (say Line.Resumed next)) (stop_line h next)) stood f new)
    → CutsOf p (at_resuming p.addresses h) old new f
behind_held_cut h p is_whole old mid seen stood new f read hit one cuts next t holds =
    cut_then (at_resuming p.addresses h next t) (at_one_of p.addresses h (record { whole = goes_on h next; other = stop_line h next }) t) old seen new f
    (held_there h p next t old mid seen read hit)
    (onto_cut p (at_one_of p.addresses h (record { whole = goes_on h next; other = stop_line h next }) t)
    (λ u. behind_whole is_whole h (lower (goes_on h next) u) (lower (stop_line h next) u)) seen stood new f (one (goes_on h next) (stop_line h next) t holds)
    (λ u held. gone_cut h is_whole next u stood new f cuts))

-- ---- a command of a halted hart

pub not_met_cut : (body : (SoftState → Plan) → Plan) (s : SoftState) (p : Patches) (old new : Tells) (f : Failure)
    → ((r : Rest) → Cuts (before_look s.plain.hart r) old f new)
    → CutsOf p (λ (next : SoftState → Plan) t. at_plan (at_halted s.plain.hart (next s) (body next)) t) old new f
not_met_cut body s p old new f cuts next t holds =
    cut_then (at_plan (at_halted s.plain.hart (next s) (body next)) t) (before_look s.plain.hart (record {
      body = lower (body next) t;
      next = lower
          (next s) t;
    }))
    old old new f (led_same Idle 0 _ _ old (lower_halted s.plain.hart (next s) (body next) t)) (cuts _)

pub met_cut : (body : (SoftState → Plan) → Plan) (s : SoftState) (p : Patches) (old mid new : Tells) (f : Failure)
    → Went (before_look s.plain.hart) (λ r. still s.plain.hart r.body) [] old mid
    → ((next : SoftState → Plan) (t : Table) → Holds p t → Cuts (still s.plain.hart (lower (body next) t)) mid f new)
    → CutsOf p (λ (next : SoftState → Plan) t. at_plan (at_halted s.plain.hart (next s) (body next)) t) old new f
met_cut body s p old mid new f went cuts next t holds =
    cut_then (at_plan (at_halted s.plain.hart (next s) (body next)) t) (still s.plain.hart (lower (body next) t)) old mid new f
    (met s.plain.hart (next s) (body next) t old mid went) (cuts next t holds)
