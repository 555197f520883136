-- Commands of one line.
use Rattle.std.proofs.Common.{◌≡◌, ◌≤◌, ◌+◌, ◌<◌, ℕ, zero, suc, [], Result, Ok, Err, IfOk, IfErr, subst, arith}
use Rattle.debug_model.specs.declared.command.Command.TheVariants as command
use Rattle.abstract_debugger.specs.Debugger.{State, at_halted, by_state, halting, look, stop_line, waiting}
use Rattle.abstract_debugger.specs.Lines.{Line}
use Rattle.abstract_debugger.specs.Plan.{Plan}
use Rattle.abstract_debugger.specs.Plan.Plan.{say}
use Rattle.abstract_debugger.proofs.DealsLemmas.{waiting-suc, waiting-zero}
use Rattle.probe_run.specs.declared.hart.Halted.{Halted}
use Rattle.probe_run.specs.declared.hart.Running.{Running}
use Rattle.probe_run.specs.declared.hart.Seen.{Seen}
use Rattle.probe_run.specs.declared.hart.Seen.TheVariants as seen
use Rattle.probe_run.specs.Acts.{Tells}
use Rattle.probe_session.specs.declared.fault.Failure.{Failure}
use Rattle.probe_session.specs.declared.met.Met.{Met}
use Rattle.probe_session.specs.Calls.{HaltFell, HaltMade, LookFell, LookMade}
use Rattle.probe_session.specs.Commands.{at_line, at_stop_line, before, ends_with}
use Rattle.probe_session.specs.Goes.{Falls, Went}
use Rattle.probe_session.specs.Goes.{Fault}
use Rattle.probe_session.specs.Met.{MetAs, Rest, before_look}
use Rattle.probe_session.specs.Places.{Place, at_say, idle, still}
use Rattle.probe_session.specs.Seen.{IsOf}
use Rattle.probe_session.specs.Steps.Step.{looks, halts, rests, same}
use Rattle.probe_session.proofs.WentLemmas.{falls_at, falls_then, falls_within, went_none, went_one, went_then, within}

-- ---- what a callee hands on

pub if_ok_map : {A E : Type 0} (P Q : A → Type 0) (r : Result A E) → ((x : A) → P x → Q x) → IfOk r P → IfOk r Q
if_ok_map P Q (Ok x) f p = f x p
if_ok_map P Q (Err e) f p = tt

pub if_err_map : {A E : Type 0} (P Q : E → Type 0) (r : Result A E) → ((e : E) → P e → Q e) → IfErr r P → IfErr r Q
if_err_map P Q (Ok x) f p = tt
if_err_map P Q (Err e) f p = f e p

pub ok_then : {K A : Type 0} {a b : K → Place} (c : A → K → Place) (r : Result A Failure) {t u : Tells} (v : Tells) → Went a b [] t u
    → IfOk r (λ x. Went b (c x) [] u v) → IfOk r (λ x. Went a (c x) [] t v)
ok_then c (Ok x) v w p = went_then w p
ok_then c (Err e) v w p = tt

pub err_then : {K A : Type 0} {a b : K → Place} (r : Result A Failure) {old_count count : ℕ} (new_count : ℕ) {t u : Tells} (v : Tells) → Went a b [] t u
    → old_count ≤ count → IfErr r (Falls b [] count new_count u v) → IfErr r (Falls a [] old_count new_count t v)
err_then (Ok x) new_count v w le p = tt
err_then (Err e) new_count v w le p = falls_then w le p

-- ---- one Look

abbrev at_look : {K : Type 0} → ℕ → (absent running halted : K → Plan) → K → Place
at_look h a r p k = idle (look h (by_state (a k) (r k) (p k)))

pub looked_absent : {K : Type 0} (h : ℕ) (a r p : K → Plan) {t u : Tells} → LookMade h t u seen.Absent → Went (at_look h a r p) (λ k. idle (a k)) [] t u
looked_absent h a r p saw = went_one (λ k. looks (a k) (r k) (p k) saw)

pub looked_running : {K : Type 0} (h : ℕ) (a r p : K → Plan) (x : Running) {t u : Tells} → LookMade h t u (seen.Running x)
    → Went (at_look h a r p) (λ k. idle (r k)) [] t u
looked_running h a r p x saw = went_one (λ k. looks (a k) (r k) (p k) saw)

pub looked_halted : {K : Type 0} (h : ℕ) (a r p : K → Plan) (x : Halted) {t u : Tells} → LookMade h t u (seen.Halted x)
    → Went (at_look h a r p) (λ k. still h (p k)) [] t u
looked_halted h a r p x saw = went_one (λ k. looks (a k) (r k) (p k) saw)

pub look_falls : {K : Type 0} (h : ℕ) (a r p : K → Plan) {old_count new_count : ℕ} {t u : Tells} {f : Failure} → LookFell h old_count new_count t u f
    → Falls (at_look h a r p) [] old_count new_count t u f
look_falls h a r p fell = falls_at (λ k. Fault.looking (by_state (a k) (r k) (p k)) fell)

-- ---- a command's Look of a hart that is to be halted

pub met_absent : (h : ℕ) {t u : Tells} → LookMade h t u seen.Absent → Went (before_look h) (λ r. idle (say (Line.NoHart h) r.next)) [] t u
met_absent h saw = looked_absent h (λ (r : Rest). say (Line.NoHart h) r.next) (λ (r : Rest). say (Line.IsRunning h) r.next) (λ (r : Rest). r.body) saw

pub met_running : (h : ℕ) (x : Running) {t u : Tells} → LookMade h t u (seen.Running x)
    → Went (before_look h) (λ r. idle (say (Line.IsRunning h) r.next)) [] t u
met_running h x saw = looked_running h (λ (r : Rest). say (Line.NoHart h) r.next) (λ (r : Rest). say (Line.IsRunning h) r.next) (λ (r : Rest). r.body) x saw

pub met_halted : (h : ℕ) (x : Halted) {t u : Tells} → LookMade h t u (seen.Halted x) → Went (before_look h) (λ r. still h r.body) [] t u
met_halted h x saw = looked_halted h (λ (r : Rest). say (Line.NoHart h) r.next) (λ (r : Rest). say (Line.IsRunning h) r.next) (λ (r : Rest). r.body) x saw

pub met_none : (h : ℕ) {old_count new_count : ℕ} {t u : Tells} {f : Failure} → LookFell h old_count new_count t u f
    → Falls (before_look h) [] old_count new_count t u f
met_none h fell = look_falls h (λ (r : Rest). say (Line.NoHart h) r.next) (λ (r : Rest). say (Line.IsRunning h) r.next) (λ (r : Rest). r.body) fell

pub of_halted : {h : ℕ} {s : Seen} {x : Halted} → s ≡ seen.Halted x → IsOf h s → x.number ≡ h
of_halted {h} is of = subst (IsOf h) is of

pub of_running : {h : ℕ} {s : Seen} {x : Running} → s ≡ seen.Running x → IsOf h s → x.number ≡ h
of_running {h} is of = subst (IsOf h) is of

pub met_as : (h : ℕ) (t u : Tells) {m n : Met} → m ≡ n → MetAs h t u m → MetAs h t u n
met_as h t u is p = subst (MetAs h t u) is p

-- ---- a command whose body a halted hart does

abbrev pub rest : State → (Plan → Plan) → (State → Plan) → Rest
rest s body next = record { body = body (next s); next = next s }

abbrev pub for_halted : State → (Plan → Plan) → (State → Plan) → Place
for_halted s body next = idle (at_halted s.hart (next s) (body (next s)))

pub met_says : (s : State) (body : Plan → Plan) (line : Line) {t u : Tells} → Went (before_look s.hart) (λ r. at_say line r.next) [] t u
    → Went (for_halted s body) (at_line line s) [] t u
met_says s body line w = within (rest s body) w

pub met_at : (s : State) (body : ℕ → Plan → Plan) (line : Line) (x : ℕ) {t u v : Tells} → x ≡ s.hart
    → Went (before_look s.hart) (λ r. still s.hart r.body) [] t u
    → Went (λ next. still x (body x next)) (ends_with line) [] u v → Went (for_halted s (body s.hart)) (at_line line s) [] t v
met_at s body line x {t} {u} {v} is first w =
    went_then (within (rest s (body s.hart)) first) (within (λ (next : State → Plan). next s)
    (subst (λ n. Went (λ next. still n (body n next)) (ends_with line) [] u v) is w))

pub met_falls : (s : State) (body : Plan → Plan) {old_count new_count : ℕ} {t u : Tells} {f : Failure} → Falls (before_look s.hart) [] old_count new_count t u f
    → Falls (for_halted s body) [] old_count new_count t u f
met_falls s body p = falls_within (rest s body) p

pub met_at_falls : (s : State) (body : ℕ → Plan → Plan) (x : ℕ) {old_count count new_count : ℕ} {t u v : Tells} {f : Failure} → x ≡ s.hart
    → Went (before_look s.hart) (λ r. still s.hart r.body) [] t u → old_count ≤ count
    → Falls (λ next. still x (body x next)) [] count new_count u v f → Falls (for_halted s (body s.hart)) [] old_count new_count t v f
met_at_falls s body x {old_count} {count} {new_count} {t} {u} {v} {f} is first le p =
    falls_then (within (rest s (body s.hart)) first) le
    (falls_within (λ (next : State → Plan). next s) (subst (λ n. Falls (λ next. still n (body n next)) [] count new_count u v f) is p))

-- ---- the selected hart

abbrev selected : ℕ → State → (State → Plan) → Plan
selected h s next = say (Line.Selected h) (next (record s { hart = h }))

pub select_absent : (s : State) (h : ℕ) {t u : Tells} → LookMade h t u seen.Absent → Went (before (command.Hart h) s) (at_line (Line.NoHart h) s) [] t u
select_absent s h saw = looked_absent h (λ (next : State → Plan). say (Line.NoHart h) (next s)) (selected h s) (selected h s) saw

pub select_running : (s : State) (h : ℕ) (x : Running) {t u : Tells} → LookMade h t u (seen.Running x)
    → Went (before (command.Hart h) s) (at_line (Line.Selected h) (record s { hart = h })) [] t u
select_running s h x saw = looked_running h (λ (next : State → Plan). say (Line.NoHart h) (next s)) (selected h s) (selected h s) x saw

pub select_halted : (s : State) (h : ℕ) (x : Halted) {t u : Tells} → LookMade h t u (seen.Halted x)
    → Went (before (command.Hart h) s) (at_line (Line.Selected h) (record s { hart = h })) [] t u
select_halted s h x saw = went_then (looked_halted h (λ (next : State → Plan). say (Line.NoHart h) (next s)) (selected h s) (selected h s) x saw)
    (went_one (λ next. rests))

pub select_falls : (s : State) (h : ℕ) {old_count new_count : ℕ} {t u : Tells} {f : Failure} → LookFell h old_count new_count t u f
    → Falls (before (command.Hart h) s) [] old_count new_count t u f
select_falls s h fell = look_falls h (λ (next : State → Plan). say (Line.NoHart h) (next s)) (selected h s) (selected h s) fell

-- ---- a stop line at the end

abbrev pub at_stop : State → (State → Plan) → Place
at_stop s next = still s.hart (stop_line s.hart (next s))

pub stops : (s : State) (line : Line) (x : ℕ) (from : (State → Plan) → Place) {t u v : Tells} → x ≡ s.hart → Went from (at_stop s) [] t u
    → Went (at_stop_line x) (ends_with line) [] u v → Went from (at_line line s) [] t v
stops s line x from {t} {u} {v} is first w = went_then first (within (λ (next : State → Plan). next s)
    (subst (λ n. Went (at_stop_line n) (ends_with line) [] u v) is w))

pub stops_falls : (s : State) (x : ℕ) (from : (State → Plan) → Place) {old_count count new_count : ℕ} {t u v : Tells} {f : Failure} → x ≡ s.hart
    → Went from (at_stop s) [] t u → old_count ≤ count
    → Falls (at_stop_line x) [] count new_count u v f → Falls from [] old_count new_count t v f
stops_falls s x from {old_count} {count} {new_count} {t} {u} {v} {f} is first le p =
    falls_then first le (falls_within (λ (next : State → Plan). next s) (subst (λ n. Falls (at_stop_line n) [] count new_count u v f) is p))

-- ---- `state`

abbrev absent_line : State → (State → Plan) → Plan
absent_line s next = say (Line.NoHart s.hart) (next s)

abbrev running_line : State → (State → Plan) → Plan
running_line s next = say Line.Running (next s)

abbrev stopping : State → (State → Plan) → Plan
stopping s next = stop_line s.hart (next s)

pub state_absent : (s : State) {t u : Tells} → LookMade s.hart t u seen.Absent → Went (before command.State s) (at_line (Line.NoHart s.hart) s) [] t u
state_absent s saw = looked_absent s.hart (absent_line s) (running_line s) (stopping s) saw

pub state_running : (s : State) (x : Running) {t u : Tells} → LookMade s.hart t u (seen.Running x)
    → Went (before command.State s) (at_line Line.Running s) [] t u
state_running s x saw = looked_running s.hart (absent_line s) (running_line s) (stopping s) x saw

pub state_halted : (s : State) (x : Halted) {t u : Tells} → LookMade s.hart t u (seen.Halted x) → Went (before command.State s) (at_stop s) [] t u
state_halted s x saw = looked_halted s.hart (absent_line s) (running_line s) (stopping s) x saw

pub state_falls : (s : State) {old_count new_count : ℕ} {t u : Tells} {f : Failure} → LookFell s.hart old_count new_count t u f
    → Falls (before command.State s) [] old_count new_count t u f
state_falls s fell = look_falls s.hart (absent_line s) (running_line s) (stopping s) fell

-- ---- `halt`

abbrev halting_line : State → (State → Plan) → Plan
halting_line s next = halting s.hart (stop_line s.hart (next s))

pub halt_absent : (s : State) {t u : Tells} → LookMade s.hart t u seen.Absent → Went (before command.Halt s) (at_line (Line.NoHart s.hart) s) [] t u
halt_absent s saw = looked_absent s.hart (absent_line s) (halting_line s) (stopping s) saw

pub halt_halted : (s : State) (x : Halted) {t u : Tells} → LookMade s.hart t u (seen.Halted x) → Went (before command.Halt s) (at_stop s) [] t u
halt_halted s x saw = looked_halted s.hart (absent_line s) (halting_line s) (stopping s) x saw

pub halt_made : (s : State) (x : Running) {t u v : Tells} → x.number ≡ s.hart → LookMade s.hart t u (seen.Running x) → HaltMade x.number u v
    → Went (before command.Halt s) (at_stop s) [] t v
halt_made s x {t} {u} {v} is saw made =
    went_then (looked_running s.hart (absent_line s) (halting_line s) (stopping s) x saw)
    (went_one (λ next. halts (stop_line s.hart (next s)) (subst (λ n. HaltMade n u v) is made)))

pub halt_falls : (s : State) {old_count new_count : ℕ} {t u : Tells} {f : Failure} → LookFell s.hart old_count new_count t u f
    → Falls (before command.Halt s) [] old_count new_count t u f
halt_falls s fell = look_falls s.hart (absent_line s) (halting_line s) (stopping s) fell

pub halt_made_falls : (s : State) (x : Running) {old_count count new_count : ℕ} {t u v : Tells} {f : Failure} → x.number ≡ s.hart
    → LookMade s.hart t u (seen.Running x) → old_count ≤ count → HaltFell x.number count new_count u v f
    → Falls (before command.Halt s) [] old_count new_count t v f
halt_made_falls s x {old_count} {count} {new_count} {t} {u} {v} {f} is saw le fell =
    falls_then (looked_running s.hart (absent_line s) (halting_line s) (stopping s) x saw) le
    (falls_at (λ next. Fault.halt (stop_line s.hart (next s)) (subst (λ n. HaltFell n count new_count u v f) is fell)))

-- ---- `wait`

abbrev wait_left : ℕ → State → (State → Plan) → Plan
wait_left n s next = waiting n s.hart (absent_line s next) (running_line s next) (stopping s next)

abbrev pub at_wait : ℕ → State → (State → Plan) → Place
at_wait n s next = idle (wait_left n s next)

-- so many Looks saw it running
pub record Waited (s : State) (limit tries : ℕ) (t u : Tells) : Type 0 where
  pub left : ℕ
  pub all : tries + left ≡ limit
  pub went : Went (before (command.Wait limit) s) (at_wait left s) [] t u

pub waited_none : (s : State) (limit : ℕ) (t : Tells) → Waited s limit 0 t t
waited_none s limit t = record { left = limit; all = omega arith; went = went_none }

-- in front of the next Look
pub record NextLook (s : State) (limit tries : ℕ) (t u : Tells) : Type 0 where
  pub left : ℕ
  pub all : tries + 1 + left ≡ limit
  pub went : Went (before (command.Wait limit) s) (at_look s.hart (absent_line s) (wait_left left s) (stopping s)) [] t u

next_by : (s : State) (limit tries left : ℕ) {t u : Tells} → tries < limit → tries + left ≡ limit → Went (before (command.Wait limit) s) (at_wait left s) [] t u
    → NextLook s limit tries t u
next_by s limit tries zero below all w = absurd (omega arith)
next_by s limit tries (suc n) below all w = record {
  left = n;
  all = omega arith;
  went = went_then w (went_one (λ next. same (waiting-suc n s.hart (absent_line s next) (running_line s next) (stopping s next))));
}

next_look : (s : State) (limit tries : ℕ) {t u : Tells} → tries < limit → Waited s limit tries t u → NextLook s limit tries t u
next_look s limit tries below w = next_by s limit tries w.left below w.all w.went

pub waited_again : (s : State) (limit tries : ℕ) (x : Running) {t u v : Tells} → tries < limit → Waited s limit tries t u → LookMade s.hart u v (seen.Running x)
    → Waited s limit (tries + 1) t v
waited_again s limit tries x below w saw =
    let n = next_look s limit tries below w in
    record { left = n.left; all = n.all; went = went_then n.went (looked_running s.hart (absent_line s) (wait_left n.left s) (stopping s) x saw) }

pub waited_absent : (s : State) (limit tries : ℕ) {t u v : Tells} → tries < limit → Waited s limit tries t u → LookMade s.hart u v seen.Absent
    → Went (before (command.Wait limit) s) (at_line (Line.NoHart s.hart) s) [] t v
waited_absent s limit tries below w saw =
    let n = next_look s limit tries below w in
    went_then n.went (looked_absent s.hart (absent_line s) (wait_left n.left s) (stopping s) saw)

pub waited_halted : (s : State) (limit tries : ℕ) (x : Halted) {t u v : Tells} → tries < limit → Waited s limit tries t u → LookMade s.hart u v (seen.Halted x)
    → Went (before (command.Wait limit) s) (at_stop s) [] t v
waited_halted s limit tries x below w saw =
    let n = next_look s limit tries below w in
    went_then n.went (looked_halted s.hart (absent_line s) (wait_left n.left s) (stopping s) x saw)

out_by : (s : State) (limit left : ℕ) {t u : Tells} → left ≡ 0 → Went (before (command.Wait limit) s) (at_wait left s) [] t u
    → Went (before (command.Wait limit) s) (at_line Line.Running s) [] t u
out_by s limit left {t} {u} is w =
    went_then (subst (λ n. Went (before (command.Wait limit) s) (at_wait n s) [] t u) is w)
    (went_one (λ next. same (waiting-zero s.hart (absent_line s next) (running_line s next) (stopping s next))))

pub waited_out : (s : State) (limit tries : ℕ) {t u : Tells} → tries ≡ limit → Waited s limit tries t u
    → Went (before (command.Wait limit) s) (at_line Line.Running s) [] t u
waited_out s limit tries all w = let e : w.left ≡ 0 = omega (arith, w.all) in out_by s limit w.left e w.went

pub waited_falls : (s : State) (limit tries : ℕ) {old_count count new_count : ℕ} {t u v : Tells} {f : Failure} → tries < limit → Waited s limit tries t u
    → old_count ≤ count → LookFell s.hart count new_count u v f
    → Falls (before (command.Wait limit) s) [] old_count new_count t v f
waited_falls s limit tries below w le fell =
    let n = next_look s limit tries below w in
    falls_then n.went le (look_falls s.hart (absent_line s) (wait_left n.left s) (stopping s) fell)
