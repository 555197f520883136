-- `step` and `resume`.
use Rattle.std.proofs.Common.{◌≡◌, ◌≤◌, ◌<◌, ◌+◌, ℕ, zero, suc, Bool, true, false, [], Result, Ok, Err, IfOk, IfErr, OnOk, refl, sym, ap, subst, arith}
use Rattle.std.proofs.lemmas.Bool.{false≢true}
use Rattle.rv_model.specs.DebugRegisters.{dcsr_number}
use Rattle.abstract_debugger.specs.Debugger.{going, one, stepping, stop_line}
use Rattle.abstract_debugger.specs.Lines.{Line}
use Rattle.abstract_debugger.specs.Plan.{Plan}
use Rattle.abstract_debugger.specs.Plan.Plan.{say}
use Rattle.probe_run.specs.Acts.{Tells}
use Rattle.probe_trig.specs.declared.slot_view.SlotView.{SlotView}
use Rattle.probe_trig.specs.Runs.{ReadsAny}
use Rattle.probe_trig.specs.Stepping.{shows_step}
use Rattle.probe_session.specs.declared.fault.Failure.{Failure}
use Rattle.probe_session.specs.Calls.{Got, ReadFell, ResumeFell, ResumeMade, SlotsFell, StepFell, StepFromFell, StepFromMade, StepMade, StepOverFell, StepOverMade, Viewed}
use Rattle.probe_session.specs.Commands.{at_letting_go, at_stop_line, ends_with, let_go}
use Rattle.probe_session.specs.Goes.{Falls, Fault, Went}
use Rattle.probe_session.specs.Going.{Branches, StepSeen, at_one, behind_first, behind_one}
use Rattle.probe_session.specs.Places.{Place, ready, still}
use Rattle.probe_session.specs.Reach.{stepped}
use Rattle.probe_session.specs.Steps.{any_in, behind_step}
use Rattle.probe_session.specs.Steps.Step.{ends_either_way, finds_maybe_hit, finds_none_hit, finds_other, finds_step, holds_none, knows_none_hit, resumes, same}
use Rattle.probe_session.specs.Steps.Step.{steps, steps_from, steps_over, views_hits, views_none}
use Rattle.probe_session.proofs.RegisterLemmas.{dcsr_of_harts}
use Rattle.probe_session.proofs.WentLemmas.{falls_within, within}
use Rattle.probe_session.proofs.WentLemmas.{falls_at, falls_then, went_none, went_one, went_then}
use Rattle.abstract_debugger.proofs.ToldLemmas.{stepping-suc}

stepping-zero : (h : ℕ) (next : Plan) → stepping zero h next ≡ next
unfolding stepping
stepping-zero h next = refl

abbrev pub at_steps : ℕ → ℕ → Plan → Place
at_steps count h next = still h (stepped count h next)

pub on_ok_map : {A E : Type 0} (P Q : Type 0) (r : Result A E) → (P → Q) → OnOk r P → OnOk r Q
on_ok_map P Q (Ok x) f p = f p
on_ok_map P Q (Err e) f p = tt

-- ---- one step

-- dcsr was read in front of it, and that or the step failed
pub word_falls : {K : Type 0} (h : ℕ) (p : K → Plan) {old_count new_count : ℕ} {t u : Tells} {f : Failure} → ReadFell h dcsr_number old_count new_count t u f
    → Falls (λ k. still h (p k)) [] old_count new_count t u f
word_falls h p fell = falls_at (λ k. Fault.reading fell dcsr_of_harts)

none_hit : {K : Type 0} (h : ℕ) (p : K → Plan) {t u : Tells} → StepSeen h t u true → Went (λ k. still h (p k)) (λ k. ready h (p k)) [] t u
none_hit h p (StepSeen.read got whole) = went_one (λ k. finds_none_hit got whole)
none_hit h p {t} {u} (StepSeen.known whole here is) =
    subst (λ v. Went (λ k. still h (p k)) (λ k. ready h (p k)) [] t v) (sym here) (went_one (λ k. knows_none_hit whole))

maybe_hit : {K : Type 0} (h : ℕ) (p : K → Plan) {t u : Tells} → StepSeen h t u false → Went (λ k. still h (p k)) (λ k. still h (p k)) [] t u
maybe_hit h p (StepSeen.read got not_step) = went_one (λ k. finds_maybe_hit got not_step)
maybe_hit h p (StepSeen.known whole here is) = absurd (false≢true is)

-- by what was seen
pub seen_as : {h : ℕ} {b whole : Bool} {t u : Tells} → b ≡ whole → StepSeen h t u b → StepSeen h t u whole
seen_as {h} {b} {whole} {t} {u} is s = subst (StepSeen h t u) is s

abbrev one_plan : ℕ → Branches → Plan
one_plan h b = one h b.whole b.other

pub once : (h : ℕ) {t u v : Tells} → StepSeen h t u true → StepMade h u v → Went (at_one h) (behind_one h) [] t v
once h seen made = went_then (none_hit h (one_plan h) seen) (went_one (λ b. steps b.whole b.other made))

pub once_from : (h word : ℕ) {t u v : Tells} → shows_step word ≡ true → Got h dcsr_number word t u → StepFromMade h word u v
    → Went (at_one h) (behind_one h) [] t v
once_from h word whole got made = went_then (none_hit h (one_plan h) (StepSeen.read got whole)) (went_one (λ b. steps_from b.whole b.other got made))

pub once_from_falls : (h word : ℕ) {old_count mid_count new_count : ℕ} {t u v : Tells} {f : Failure} → shows_step word ≡ true
    → Got h dcsr_number word t u → old_count ≤ mid_count → StepFromFell h word mid_count new_count u v f → Falls (at_one h) [] old_count new_count t v f
once_from_falls h word whole got le fell =
    falls_then (none_hit h (one_plan h) (StepSeen.read got whole)) le (falls_at (λ b. Fault.stepping_from b.whole b.other got fell))

pub once_over : (h : ℕ) {t u v : Tells} → StepSeen h t u false → StepOverMade h u v
    → Went (at_one h) (behind_one h) [] t v
once_over h seen made = went_then (maybe_hit h (one_plan h) seen) (went_one (λ b. steps_over b.whole b.other made))

pub once_falls : (h : ℕ) {old_count mid_count new_count : ℕ} {t u v : Tells} {f : Failure} → StepSeen h t u true
    → old_count ≤ mid_count → StepFell h mid_count new_count u v f → Falls (at_one h) [] old_count new_count t v f
once_falls h seen le fell = falls_then (none_hit h (one_plan h) seen) le (falls_at (λ b. Fault.stepping b.whole b.other fell))

pub once_over_falls : (h : ℕ) {old_count mid_count new_count : ℕ} {t u v : Tells} {f : Failure} → StepSeen h t u false
    → old_count ≤ mid_count → StepOverFell h mid_count new_count u v f → Falls (at_one h) [] old_count new_count t v f
once_over_falls h seen le fell =
    falls_then (maybe_hit h (one_plan h) seen) le (falls_at (λ b. Fault.stepping_over b.whole b.other fell))

-- ---- several

-- so many more are left
pub record Stepping (h more done : ℕ) (t u : Tells) : Type 0 where
  pub left : ℕ
  pub all : done + left ≡ more
  pub went : Went (behind_first more h) (behind_first left h) [] t u

pub stepping_none : (h more : ℕ) (t : Tells) → Stepping h more 0 t t
stepping_none h more t = record { left = more; all = omega arith; went = went_none }

-- dcsr was read as this word, the step was a whole one, and there is a next one
pub record Next (h more done word : ℕ) (t u : Tells) : Type 0 where
  pub before : Tells
  pub got : Got h dcsr_number word before u
  pub left : ℕ
  pub all : done + 1 + left ≡ more
  pub went : Went (behind_first more h) (λ next. ready h (one h (stepped left h next) (stop_line h next))) [] t u

next_by : (h more done left word : ℕ) {t u v : Tells} → done < more → done + left ≡ more → Went (behind_first more h) (behind_first left h) [] t u
    → shows_step word ≡ true → Got h dcsr_number word u v → Next h more done word t v
next_by h more done zero word below all w whole got = absurd (omega arith)
next_by h more done (suc n) word {u = u} below all w whole got = record {
  before = u;
  got = got;
  left = n;
  all = omega arith;
  went = went_then w (went_then (went_one (λ next. finds_step (stepped (suc n) h next) (stop_line h next) got whole))
      (went_one (λ next. same (stepping-suc n h (stop_line h next)))));
}

pub next_step : (h more done word : ℕ) {t u v : Tells} → done < more → Stepping h more done t u → shows_step word ≡ true → Got h dcsr_number word u v
    → Next h more done word t v
next_step h more done word below s whole got = next_by h more done s.left word below s.all s.went whole got

pub stepped_next : (h more done word : ℕ) {t u v : Tells} → Next h more done word t u → StepFromMade h word u v → Stepping h more (done + 1) t v
stepped_next h more done word n made = record {
  left = n.left;
  all = n.all;
  went = went_then n.went (went_one (λ next. steps_from (stepped n.left h next) (stop_line h next) n.got made));
}

pub next_falls : (h more done word : ℕ) {old_count mid_count new_count : ℕ} {t u v : Tells} {f : Failure} → Next h more done word t u
    → old_count ≤ mid_count → StepFromFell h word mid_count new_count u v f → Falls (behind_first more h) [] old_count new_count t v f
next_falls h more done word n le fell =
    falls_then n.went le (falls_at (λ next. Fault.stepping_from (stepped n.left h next) (stop_line h next) n.got fell))

pub found_falls : (h more done : ℕ) {old_count mid_count new_count : ℕ} {t u v : Tells} {f : Failure} → Stepping h more done t u → old_count ≤ mid_count
    → ReadFell h dcsr_number mid_count new_count u v f → Falls (behind_first more h) [] old_count new_count t v f
found_falls h more done s le fell = falls_then s.went le (falls_at (λ next. Fault.reading fell dcsr_of_harts))

pub stepped_otherwise : (h more done word : ℕ) {t u v : Tells} → Stepping h more done t u → shows_step word ≡ false → Got h dcsr_number word u v
    → Went (behind_first more h) (at_stop_line h) [] t v
stepped_otherwise h more done word s not_step got = went_then s.went
    (went_one (λ next. finds_other (stepped s.left h next) (stop_line h next) got not_step))

all_by : (h more left : ℕ) {t u : Tells} → left ≡ 0 → Went (behind_first more h) (behind_first left h) [] t u
    → Went (behind_first more h) (at_stop_line h) [] t u
all_by h more left {t} {u} is w =
    went_then (subst (λ n. Went (behind_first more h) (behind_first n h) [] t u) is w)
    (went_then (went_one (λ next. same (ap (λ p. behind_step h p (stop_line h next)) (stepping-zero h (stop_line h next)))))
    (went_one (λ next. ends_either_way)))

pub stepped_all : (h more done : ℕ) {t u : Tells} → done ≡ more → Stepping h more done t u → Went (behind_first more h) (at_stop_line h) [] t u
stepped_all h more done is s = let e : s.left ≡ 0 = omega (arith, s.all) in all_by h more s.left e s.went

-- ---- `step`

-- the first of them
pub first_step : (h count more : ℕ) {t u : Tells} → count ≡ suc more → Went (at_one h) (behind_one h) [] t u
    → Went (at_steps count h) (behind_first more h) [] t u
first_step h count more {t} {u} is w =
    subst (λ n. Went (at_steps n h) (behind_first more h) [] t u) (sym is)
    (went_then (went_one (λ next. same (stepping-suc more h (stop_line h next))))
    (within (λ next. record { whole = stepped more h next; other = stop_line h next }) w))

pub first_falls : (h count more : ℕ) {old_count new_count : ℕ} {t u : Tells} {f : Failure} → count ≡ suc more → Falls (at_one h) [] old_count new_count t u f
    → Falls (at_steps count h) [] old_count new_count t u f
first_falls h count more {old_count} {new_count} {t} {u} {f} is p =
    subst (λ n. Falls (at_steps n h) [] old_count new_count t u f) (sym is)
    (falls_then (went_one (λ next. same (stepping-suc more h (stop_line h next)))) (omega arith)
    (falls_within (λ next. record { whole = stepped more h next; other = stop_line h next }) p))

pub no_steps : (h count : ℕ) {t : Tells} → count ≡ 0 → Went (at_steps count h) (at_stop_line h) [] t t
no_steps h count {t} is = subst (λ n. Went (at_steps n h) (at_stop_line h) [] t t) (sym is) (went_one (λ next. same (stepping-zero h (stop_line h next))))

-- ---- `resume`

abbrev pub at_going : ℕ → Plan → Place
at_going h next = ready h (going h (say Line.Resumed next))

pub gone : (h : ℕ) {t u : Tells} → ResumeMade h t u → Went (at_going h) (ends_with Line.Resumed) [] t u
gone h made = went_one (λ next. resumes (say Line.Resumed next) made)

pub gone_falls : (h : ℕ) {old_count new_count : ℕ} {t u : Tells} {f : Failure} → ResumeFell h old_count new_count t u f
    → Falls (at_going h) [] old_count new_count t u f
gone_falls h fell = falls_at (λ next. Fault.resuming (say Line.Resumed next) fell)

abbrev pub held_one : ℕ → Plan → Place
held_one h next = still h (one h (going h (say Line.Resumed next)) (stop_line h next))

abbrev pub behind_held : ℕ → Plan → Place
behind_held h next = still h (behind_step h (going h (say Line.Resumed next)) (stop_line h next))

-- behind a whole step it goes, and no slot is visited
pub unheld_to_go : (h : ℕ) {t u : Tells} → StepSeen h t u true → Went (at_letting_go h) (at_going h) [] t u
unheld_to_go h seen = went_then (none_hit h (let_go h) seen)
    (went_one (λ next. holds_none (one h (going h (say Line.Resumed next)) (stop_line h next)) (going h (say Line.Resumed next))))

pub maybe_held : (h : ℕ) {t u : Tells} → StepSeen h t u false → Went (at_letting_go h) (at_letting_go h) [] t u
maybe_held h seen = maybe_hit h (let_go h) seen

pub free_to_go : (h : ℕ) (view : SlotView) {t u : Tells} → any_in view ≡ false → Viewed h view t u → Went (at_letting_go h) (at_going h) [] t u
free_to_go h view none viewed = went_one (λ next. views_none (one h (going h (say Line.Resumed next)) (stop_line h next))
    (going h (say Line.Resumed next)) viewed none)

pub held_back : (h : ℕ) (view : SlotView) {t u v : Tells} → any_in view ≡ true → Viewed h view t u → StepOverMade h u v
    → Went (at_letting_go h) (behind_held h) [] t v
held_back h view any viewed made =
    went_then (went_one (λ next. views_hits (one h (going h (say Line.Resumed next)) (stop_line h next)) (going h (say Line.Resumed next)) viewed any))
    (went_one (λ next. steps_over (going h (say Line.Resumed next)) (stop_line h next) made))

pub view_falls : (h : ℕ) {old_count new_count : ℕ} {t u : Tells} {f : Failure} → SlotsFell ReadsAny h old_count new_count t u f
    → Falls (at_letting_go h) [] old_count new_count t u f
view_falls h fell = falls_at (λ next. Fault.viewing fell)

pub held_falls : (h : ℕ) (view : SlotView) {old_count mid_count new_count : ℕ} {t u v : Tells} {f : Failure} → any_in view ≡ true → Viewed h view t u
    → old_count ≤ mid_count → StepOverFell h mid_count new_count u v f → Falls (at_letting_go h) [] old_count new_count t v f
held_falls h view any viewed le fell =
    falls_then (went_one (λ next. views_hits (one h (going h (say Line.Resumed next)) (stop_line h next)) (going h (say Line.Resumed next)) viewed any)) le
    (falls_at (λ next. Fault.stepping_over (going h (say Line.Resumed next)) (stop_line h next) fell))

pub behind_falls : (h : ℕ) {old_count mid_count new_count : ℕ} {t u v : Tells} {f : Failure} → Went (at_letting_go h) (behind_held h) [] t u
    → old_count ≤ mid_count → ReadFell h dcsr_number mid_count new_count u v f → Falls (at_letting_go h) [] old_count new_count t v f
behind_falls h w le fell = falls_then w le (falls_at (λ next. Fault.reading fell dcsr_of_harts))

pub found_whole : (h word : ℕ) {t u v : Tells} → Went (at_letting_go h) (behind_held h) [] t u → shows_step word ≡ true → Got h dcsr_number word u v
    → Went (at_letting_go h) (at_going h) [] t v
found_whole h word w whole got = went_then w (went_one (λ next. finds_step (going h (say Line.Resumed next)) (stop_line h next) got whole))

pub found_other : (h word : ℕ) {t u v : Tells} → Went (at_letting_go h) (behind_held h) [] t u → shows_step word ≡ false → Got h dcsr_number word u v
    → Went (at_letting_go h) (at_stop_line h) [] t v
found_other h word w not_step got = went_then w (went_one (λ next. finds_other (going h (say Line.Resumed next)) (stop_line h next) got not_step))

-- the hart is the same one
pub went_at : {x h : ℕ} (a : ℕ → Plan → Place) (b : Plan → Place) {t u : Tells} → x ≡ h → Went (a x) b [] t u → Went (a h) b [] t u
went_at {x} {h} a b {t} {u} is w = subst (λ n. Went (a n) b [] t u) is w

pub falls_at_hart : {x h : ℕ} (a : ℕ → Plan → Place) {old_count new_count : ℕ} {t u : Tells} {f : Failure} → x ≡ h → Falls (a x) [] old_count new_count t u f
    → Falls (a h) [] old_count new_count t u f
falls_at_hart {x} {h} a {old_count} {new_count} {t} {u} {f} is p = subst (λ n. Falls (a n) [] old_count new_count t u f) is p

pub ok_at : {A : Type 0} {x h : ℕ} (a : ℕ → Plan → Place) (b : A → Plan → Place) (r : Result A Failure) (u v : Tells) → x ≡ h
    → IfOk r (λ y. Went (a x) (b y) [] u v) → IfOk r (λ y. Went (a h) (b y) [] u v)
ok_at {A} {x} {h} a b r u v is p = subst (λ n. IfOk r (λ y. Went (a n) (b y) [] u v)) is p

pub err_at : {A : Type 0} {x h : ℕ} (a : ℕ → Plan → Place) (r : Result A Failure) (old_count new_count : ℕ) (u v : Tells) → x ≡ h
    → IfErr r (Falls (a x) [] old_count new_count u v) → IfErr r (Falls (a h) [] old_count new_count u v)
err_at {A} {x} {h} a r old_count new_count u v is p = subst (λ n. IfErr r (Falls (a n) [] old_count new_count u v)) is p

pub read_fell_at : {x h number old_count new_count : ℕ} {u v : Tells} {f : Failure} → x ≡ h → ReadFell x number old_count new_count u v f
    → ReadFell h number old_count new_count u v f
read_fell_at {x} {h} {number} {old_count} {new_count} {u} {v} {f} is p = subst (λ n. ReadFell n number old_count new_count u v f) is p

pub got_at : {x h number value : ℕ} {u v : Tells} → x ≡ h → Got x number value u v → Got h number value u v
got_at {x} {h} {number} {value} {u} {v} is p = subst (λ n. Got n number value u v) is p

pub made_at : {x h word : ℕ} {u v : Tells} → x ≡ h → StepFromMade x word u v → StepFromMade h word u v
made_at {x} {h} {word} {u} {v} is p = subst (λ n. StepFromMade n word u v) is p

pub step_fell_at : {x h word old_count new_count : ℕ} {u v : Tells} {f : Failure} → x ≡ h → StepFromFell x word old_count new_count u v f
    → StepFromFell h word old_count new_count u v f
step_fell_at {x} {h} {word} {old_count} {new_count} {u} {v} {f} is p = subst (λ n. StepFromFell n word old_count new_count u v f) is p
