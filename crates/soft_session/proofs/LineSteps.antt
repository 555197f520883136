-- Commands of one line in a session with software breakpoints, and what becomes of them.
use Rattle.std.proofs.Common.{◌≡◌, ◌≢◌, ◌∙◌, ◌++◌, ℕ, Bool, true, false, not, ◌&&◌, ◌||◌, List, [], ◌∷◌, Option, refl, sym, ap, subst, if◌then◌else◌}
use Rattle.jt_base.specs.Sink.{grown}
use Rattle.debug_model.specs.declared.command.Command.TheVariants as command
use Rattle.debug_model.specs.declared.soft_command.SoftCommand.{SoftCommand}
use Rattle.debug_model.specs.declared.soft_command.SoftCommand.TheVariants.{Plain}
use Rattle.abstract_debugger.specs.Debugger.{at_halted, stop_line}
use Rattle.abstract_debugger.specs.Lines.{Line, is_error, text_of}
use Rattle.abstract_debugger.specs.Plan.{Plan}
use Rattle.abstract_debugger.specs.Plan.Change.{EbreakHalts}
use Rattle.abstract_debugger.specs.Plan.Plan.{change, say, see}
use Rattle.abstract_debugger.specs.Ways.Way.{Idle}
use Rattle.printed_lines.specs.declared.line.Line.{Line as PrintedLine}
use Rattle.printed_lines.specs.declared.line.Line.TheVariants as printed
use Rattle.printed_lines.specs.Line.{line_of}
use Rattle.probe_run.specs.Acts.{Tells}
use Rattle.probe_session.specs.declared.acted.Acted.{Acted}
use Rattle.probe_session.specs.Goes.{Went}
use Rattle.probe_session.specs.Led.{DealsAt, Leads}
use Rattle.probe_session.specs.Met.{Rest, before_look}
use Rattle.probe_session.specs.Places.{Place, at_say, idle, spot, still}
use Rattle.probe_session.specs.Said.{said_by}
use Rattle.probe_session.specs.Steps.{Step}
use Rattle.probe_session.proofs.LedSteps.{goes_lead}
use Rattle.probe_session.proofs.Spoken.{one_text}
use Rattle.soft_laws.specs.Lowered.{Table, lower}
use Rattle.soft_laws.specs.SoftBreaks.{has_some}
use Rattle.soft_laws.specs.SoftDebugger.{SoftState, soft_act, soft_resuming, soft_stepping}
use Rattle.soft_break.specs.Patches.{Patches}
use Rattle.soft_session.specs.declared.session.SoftSession.{SoftSession}
use Rattle.soft_session.specs.Acts.{ActedLed}
use Rattle.soft_session.specs.Led.{CommandLed, LineLed, Onto, acted_by, at_plan, soft_state}
use Rattle.soft_session.specs.Stepping.{GoingLed, StepsLed}
use Rattle.soft_session.specs.Tables.{Holds}
use Rattle.soft_session.proofs.GoingSteps.{at_lowered_line}
use Rattle.soft_session.proofs.LedLemmas.{led_same, led_step, led_then}
use Rattle.soft_session.proofs.LowerLemmas.{lower_halted, lower_say}

-- ---- the Look in front

-- the hart is not there, or runs
pub not_met : (h : ℕ) (next body : Plan) (t : Table) (line : Line) (old new : Tells) → Went (before_look h) (λ r. at_say line r.next) [] old new
    → Leads (at_plan (at_halted h next body) t) old [] (at_plan (say line next) t) new
not_met h next body t line old new went =
    let r : Rest = record { body = lower body t; next = lower next t } in
    at_lowered_line (at_plan (at_halted h next body) t) line next t old new
    (led_then (at_plan (at_halted h next body) t) (before_look h r) (at_say line (lower next t)) old old new [] []
    (led_same Idle 0 _ (at_halted h (lower next t) (lower body t)) old (lower_halted h next body t))
    (goes_lead (before_look h r) (at_say line (lower next t)) old new [] (went.goes r)))

-- it is halted
pub met : (h : ℕ) (next body : Plan) (t : Table) (old new : Tells) → Went (before_look h) (λ r. still h r.body) [] old new
    → Leads (at_plan (at_halted h next body) t) old [] (still h (lower body t)) new
met h next body t old new went =
    let r : Rest = record { body = lower body t; next = lower next t } in
    led_then (at_plan (at_halted h next body) t) (before_look h r) (still h (lower body t)) old old new [] []
    (led_same Idle 0 _ (at_halted h (lower next t) (lower body t)) old (lower_halted h next body t))
    (goes_lead (before_look h r) (still h (lower body t)) old new [] (went.goes r))

-- what a halted hart does of a command, whatever follows it
abbrev pub BodyLed : (body : (SoftState → Plan) → Plan) → (h : ℕ) → (from to : SoftSession) → (old new : Tells) → PrintedLine → Type 0
BodyLed body h from to old new line = (next : SoftState → Plan) (t : Table) → Holds from.table t
    → Onto to.table (λ u. Leads (still h (lower (body next) t)) old [] (at_plan (say (said_by line) (next (soft_state from))) u) new)

-- a command of a halted hart
abbrev pub HaltedLed : (body : (SoftState → Plan) → Plan) → (from to : SoftSession) → (old new : Tells) → PrintedLine → Type 0
HaltedLed body from to old new line = (next : SoftState → Plan) (t : Table) → Holds from.table t
    → Onto to.table (λ u. Leads (at_plan (at_halted from.session.hart (next (soft_state from)) (body next)) t) old []
    (at_plan (say (said_by line) (next (soft_state to))) u) new)

pub not_met_led : (body : (SoftState → Plan) → Plan) (from to : SoftSession) (line : PrintedLine) (old new : Tells) → to.table ≡ from.table
    → soft_state to ≡ soft_state from → Went (before_look from.session.hart) (λ r. at_say (said_by line) r.next) [] old new
    → HaltedLed body from to old new line
not_met_led body from to line old new same state went next t holds =
    let h : ℕ = from.session.hart in
    let before : Place = at_plan (at_halted h (next (soft_state from)) (body next)) t in
    record {
      table = t;
      holds = subst (λ p. Holds p t) (sym same) holds;
      leads = led_then before (at_plan (say (said_by line) (next (soft_state from))) t) (at_plan (say (said_by line) (next
          (soft_state to))) t) old new new [] []
          (not_met h (next (soft_state from)) (body next) t (said_by line) old new went)
          (led_same Idle 0 _ _ new (ap (λ s. lower (say (said_by line) (next s)) t) (sym state)));
    }

pub met_led : (body : (SoftState → Plan) → Plan) (from to : SoftSession) (line : PrintedLine) (old mid new : Tells) → soft_state to ≡ soft_state from
    → Went (before_look from.session.hart) (λ r. still from.session.hart r.body) [] old mid → BodyLed body from.session.hart from to mid new line
    → HaltedLed body from to old new line
met_led body from to line old mid new state went led next t holds =
    let h : ℕ = from.session.hart in
    let before : Place = at_plan (at_halted h (next (soft_state from)) (body next)) t in
    let o : Onto to.table (λ u. Leads (still h (lower (body next) t)) mid [] (at_plan (say (said_by line) (next (soft_state from))) u) new) =
    led next t holds in
    let said : Place = at_plan (say (said_by line) (next (soft_state from))) o.table in
    record {
      table = o.table;
      holds = o.holds;
      leads = led_then before said (at_plan (say (said_by line) (next (soft_state to))) o.table) old new new [] []
          (led_then before (still h (lower (body next) t)) said old mid new [] []
          (met h (next (soft_state from)) (body next) t old mid went) o.leads)
          (led_same Idle 0 _ _ new (ap (λ s. lower (say (said_by line) (next s)) o.table) (sym state)));
    }

-- ---- the three commands of a halted hart

abbrev pub step_body : ℕ → SoftState → (SoftState → Plan) → Plan
step_body count s next = soft_stepping count s.planted s.plain.hart (stop_line s.plain.hart (next s))

abbrev pub resume_body : SoftState → (SoftState → Plan) → Plan
resume_body s next = see (soft_resuming s.planted s.plain.hart (next s))

abbrev pub ebreak_body : Bool → SoftState → (SoftState → Plan) → Plan
ebreak_body on s next =
    if not on && has_some s.planted then say Line.SoftBreaksAreSet (next s) else change (EbreakHalts s.plain.hart on) (say (Line.Ebreak on) (next s))

-- the table stays
onto_same : (p q : Patches) (P : Table → Type 0) → q ≡ p → Onto p P → Onto q P
onto_same p q P is o = subst (λ x. Onto x P) (sym is) o

pub step_led_line : (count x : ℕ) (from to : SoftSession) (line : PrintedLine) (old mid new : Tells) → to.table ≡ from.table
    → soft_state to ≡ soft_state from → x ≡ from.session.hart
    → Went (before_look from.session.hart) (λ r. still from.session.hart r.body) [] old mid → StepsLed count x from.table mid new line
    → LineLed (Plain (command.Step count)) from to old new line
step_led_line count x from to line old mid new same state is went steps =
    met_led (step_body count (soft_state from)) from to line old mid new state went (λ next t holds.
    onto_same from.table to.table _ same ((subst (λ n. StepsLed count n from.table mid new line) is steps) (next (soft_state from)) t holds))

pub resume_led_line : (x : ℕ) (from to : SoftSession) (line : PrintedLine) (old mid new : Tells) → to.table ≡ from.table
    → soft_state to ≡ soft_state from → x ≡ from.session.hart
    → Went (before_look from.session.hart) (λ r. still from.session.hart r.body) [] old mid → GoingLed x from.table mid new line
    → LineLed (Plain command.Resume) from to old new line
resume_led_line x from to line old mid new same state is went goes =
    met_led (resume_body (soft_state from)) from to line old mid new state went (λ next t holds.
    onto_same from.table to.table _ same ((subst (λ n. GoingLed n from.table mid new line) is goes) (next (soft_state from)) t holds))

some_planted : (ps : List ℕ) → ps ≢ [] → has_some ps ≡ true
some_planted [] some = absurd (some refl)
some_planted (a ∷ ps) some = refl

pub ebreak_kept : (from to : SoftSession) (old new : Tells) → to.table ≡ from.table → soft_state to ≡ soft_state from → from.table.addresses ≢ []
    → Went (before_look from.session.hart) (λ r. still from.session.hart r.body) [] old new
    → LineLed (Plain (command.Ebreak false)) from to old new printed.SoftBreaksAreSet
ebreak_kept from to old new same state some went =
    met_led (ebreak_body false (soft_state from)) from to printed.SoftBreaksAreSet old new new state went (λ next t holds.
    let h : ℕ = from.session.hart in
    let s : SoftState = soft_state from in
    let kept : Plan = say Line.SoftBreaksAreSet (next s) in
    onto_same from.table to.table _ same (record {
      table = t;
      holds = holds;
      leads = led_then (still h (lower (ebreak_body false s next) t)) (still h (lower kept t)) (at_plan kept t) new new new [] []
          (led_step (still h (lower (ebreak_body false s next) t)) (still h (lower kept t)) new new []
          (Step.same (ap (λ b. lower (if b then kept else change (EbreakHalts h false) (say (Line.Ebreak false) (next s))) t) (some_planted s.planted some))))
          (led_step (still h (lower kept t)) (at_plan kept t) new new [] Step.rests);
    }))

-- ---- a line that is put

pub line_said : (line : Line) (next : Plan) (t : Table) (u : Tells) → Leads (at_plan (say line next) t) u (line ∷ []) (at_plan next t) u
line_said line next t u m o lines d = said (subst (λ p. DealsAt m o (idle p) lines u.far) (lower_say line next t) d)
  where
    said : DealsAt m o (idle (say line (lower next t))) lines u.far → DealsAt m o (at_plan next t) (lines ++ line ∷ []) u.far
    said a = led_step (spot true Idle 0 (say line (lower next t))) (at_plan next t) u u (line ∷ []) (Step.says refl) m o lines a

pub line_command : (c : SoftCommand) (line : PrintedLine) (wrong : Bool) (from to : SoftSession) (old new : Tells) (was is : Option (List ℕ))
    → LineLed c from to old new line → is ≡ grown (text_of (said_by line)) was → is_error (said_by line) ≡ wrong → CommandLed c from to wrong old new was is
line_command c line wrong from to old new was is led put wrong_is = record {
  said = said_by line ∷ [];
  put = put ∙ one_text (said_by line) was;
  wrong_is = one_wrong (is_error (said_by line)) wrong wrong_is;
  led = λ next t holds.
      let o : Onto to.table (λ u. Leads (at_plan (soft_act c (soft_state from) next) t) old [] (at_plan (say (said_by line) (next (soft_state to))) u) new) =
      led next t holds in
      record {
        table = o.table;
        holds = o.holds;
        leads = led_then (at_plan (soft_act c (soft_state from) next) t) (at_plan (say (said_by line) (next (soft_state to))) o.table)
            (at_plan (next (soft_state to)) o.table) old new new [] (said_by line ∷ []) o.leads (line_said (said_by line) (next (soft_state to)) o.table new);
      };
}
  where
    one_wrong : (b x : Bool) → b ≡ x → (b || false) ≡ x
    one_wrong true x is = is
    one_wrong false x is = is

pub line_acted : (c : SoftCommand) (line : PrintedLine) (a : Acted) (from to : SoftSession) (old new : Tells) (was is : Option (List ℕ))
    → LineLed c from to old new line → is ≡ grown (text_of (said_by line)) was → a ≡ acted_by (is_error (said_by line)) → ActedLed c from to old new was is a
line_acted c line a from to old new was is led put acted =
    subst (ActedLed c from to old new was is) (sym acted) (by (is_error (said_by line)) refl)
  where
    by : (wrong : Bool) → is_error (said_by line) ≡ wrong → ActedLed c from to old new was is (acted_by wrong)
    by true e = line_command c line true from to old new was is led put e
    by false e = line_command c line false from to old new was is led put e

-- what is printed says an error where its line does
pub errors_alike : (l : PrintedLine) → is_error (line_of l) ≡ is_error (said_by l)
errors_alike (printed.Halted pc cause hits) = refl
errors_alike (printed.Idcode number) = refl
errors_alike (printed.Selected hart) = refl
errors_alike printed.Running = refl
errors_alike printed.Resumed = refl
errors_alike (printed.Register number value) = refl
errors_alike (printed.Element address size value) = refl
errors_alike (printed.Wrote count) = refl
errors_alike (printed.Row address bytes) = refl
errors_alike (printed.Via path) = refl
errors_alike (printed.Ebreak is_on) = refl
errors_alike (printed.Slot slot used hit) = refl
errors_alike (printed.Loaded count) = refl
errors_alike (printed.SoftSet address) = refl
errors_alike (printed.SoftClear address) = refl
errors_alike (printed.NoHart hart) = refl
errors_alike (printed.IsRunning hart) = refl
errors_alike (printed.MemoryFault address) = refl
errors_alike (printed.RegisterRefused number) = refl
errors_alike printed.NoFreeSlot = refl
errors_alike (printed.SlotNotInUse slot) = refl
errors_alike (printed.SoftIsSet address) = refl
errors_alike (printed.SoftNotSet address) = refl
errors_alike printed.NoFreeSoftBreak = refl
errors_alike printed.SoftBreaksAreSet = refl
