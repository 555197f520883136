-- The way to memory in a session with software breakpoints, and the commands that go it.
use Rattle.std.proofs.Common.{◌≡◌, ◌∙◌, ℕ, Bool, List, [], Option, append-nil, refl, sym, ap, subst}
use Rattle.rv_model.specs.declared.size.Size.{Size}
use Rattle.debug_model.specs.declared.command.Command.{Command}
use Rattle.debug_model.specs.declared.command.Command.TheVariants as command
use Rattle.debug_model.specs.declared.command.Path.{Path}
use Rattle.debug_model.specs.declared.command.Path.TheVariants.{Progbuf, Bus}
use Rattle.debug_model.specs.declared.soft_command.SoftCommand.TheVariants.{Plain}
use Rattle.abstract_debugger.specs.Debugger.{State, at_halted, at_path, by_path}
use Rattle.abstract_debugger.specs.Plan.{Plan}
use Rattle.abstract_debugger.specs.Plan.Plan.{say}
use Rattle.abstract_debugger.specs.Ways.Way.{Idle}
use Rattle.printed_lines.specs.declared.line.Line.{Line as PrintedLine}
use Rattle.probe_run.specs.Acts.{Tells}
use Rattle.probe_session.specs.declared.fault.Failure.{Failure}
use Rattle.probe_session.specs.declared.reach.Reach.{Reach}
use Rattle.probe_session.specs.Commands.{state_of}
use Rattle.probe_session.specs.Goes.{Falls, Went}
use Rattle.probe_session.specs.Led.{DealsAt, Leads}
use Rattle.probe_session.specs.Places.{Place, at_say}
use Rattle.probe_session.specs.Reach.{MemoryRest, before_reach, dumped, path_by, place_by, read, written}
use Rattle.probe_session.specs.Said.{said_by}
use Rattle.probe_session.proofs.LedSteps.{goes_lead}
use Rattle.soft_laws.specs.Lowered.{Table, lower}
use Rattle.soft_laws.specs.SoftDebugger.{SoftState, plain_act}
use Rattle.soft_break.specs.Patches.{Patches}
use Rattle.soft_session.specs.declared.session.SoftSession.{SoftSession}
use Rattle.soft_session.specs.Cuts.{CommandCut, CutShort, Cuts, CutsOf, at_command}
use Rattle.soft_session.specs.Led.{CommandLed, LineLed, Onto, at_plan, soft_state}
use Rattle.soft_session.specs.Memory.{LinesLed, RestCut, RestLed, at_rest}
use Rattle.soft_session.specs.Tables.{Holds}
use Rattle.soft_session.proofs.CutCommands.{saying_then}
use Rattle.soft_session.proofs.CutSteps.{cut_then, falls_cut}
use Rattle.soft_session.proofs.LedLemmas.{led_same, led_then}
use Rattle.soft_session.proofs.GoingSteps.{at_lowered_line}
use Rattle.soft_session.proofs.LowerLemmas.{lower_halted}

-- ---- a command that reaches memory

abbrev pub Rest : Type 0
Rest = Path → Plan → Plan

-- it is this behind the way to memory
abbrev pub Reaches : Command → Rest → Type 0
Reaches c rest = (s : SoftState) (next : SoftState → Plan) → plain_act c s next ≡ at_path s.plain (next s) (rest s.plain.path (next s))

pub read_reaches : (size : Size) (a count : ℕ) → Reaches (command.Read size a count) (read size a count)
read_reaches size a count s next = refl

pub write_reaches : (size : Size) (a v count : ℕ) → Reaches (command.Write size a v count) (written size a v count)
write_reaches size a v count s next = refl

pub dump_reaches : (a count : ℕ) → Reaches (command.Dump a count) (dumped a count)
dump_reaches a count s next = refl

-- ---- the way

lower_path : (s : State) (next body : Plan) (t : Table) → lower (at_path s next body) t ≡ at_path s (lower next t) (lower body t)
lower_path s next body t = by s.path
  where
    by : (p : Path) → lower (by_path p (at_halted s.hart next body) body) t ≡ by_path p (at_halted s.hart (lower next t) (lower body t)) (lower body t)
    by Progbuf = lower_halted s.hart next body t
    by Bus = refl

in_front : (c : Command) (rest : Rest) → Reaches c rest → (s : SoftState) (next : SoftState → Plan) (t : Table) (u : Tells)
    → Leads (at_plan (plain_act c s next) t) u [] (before_reach s.plain (record { body = λ path. lower (rest path (next s)) t; next = lower (next s) t })) u
in_front c rest reaches s next t u =
    led_same Idle 0 _ _ u (ap (λ q. lower q t) (reaches s next) ∙ lower_path s.plain (next s) (rest s.plain.path (next s)) t)

way_led : (c : Command) (rest : Rest) → Reaches c rest → (s : SoftState) (r : Reach) (next : SoftState → Plan) (t : Table) (old mid : Tells)
    → Went (before_reach s.plain) (λ k. place_by r (k.body (path_by r))) [] old mid
    → Leads (at_plan (plain_act c s next) t) old [] (at_rest r (rest (path_by r)) (next s) t) mid
way_led c rest reaches s r next t old mid went =
    let k : MemoryRest = record { body = λ path. lower (rest path (next s)) t; next = lower (next s) t } in
    led_then (at_plan (plain_act c s next) t) (before_reach s.plain k) (at_rest r (rest (path_by r)) (next s) t) old old mid [] []
    (in_front c rest reaches s next t old)
    (goes_lead (before_reach s.plain k) (at_rest r (rest (path_by r)) (next s) t) old mid [] (went.goes k))

-- ---- no hart is there that is halted

pub way_says : (c : Command) (rest : Rest) → Reaches c rest → (from to : SoftSession) (line : PrintedLine) (old new : Tells) → to.table ≡ from.table
    → soft_state to ≡ soft_state from → Went (before_reach (soft_state from).plain) (λ k. at_say (said_by line) k.next) [] old new
    → LineLed (Plain c) from to old new line
way_says c rest reaches from to line old new same state went next t holds =
    let s : SoftState = soft_state from in
    let k : MemoryRest = record { body = λ path. lower (rest path (next s)) t; next = lower (next s) t } in
    let a : Place = at_plan (plain_act c s next) t in
    record {
      table = t;
      holds = subst (λ p. Holds p t) (sym same) holds;
      leads = subst (λ w. Leads a old [] (at_plan (say (said_by line) (next w)) t) new) (sym state)
          (at_lowered_line a (said_by line) (next s) t old new
          (led_then a (before_reach s.plain k) (at_say (said_by line) (lower (next s) t)) old old new [] [] (in_front c rest reaches s next t old)
          (goes_lead (before_reach s.plain k) (at_say (said_by line) (lower (next s) t)) old new [] (went.goes k))));
    }

-- ---- behind it

pub way_lines : (c : Command) (rest : Rest) → Reaches c rest → (r : Reach) (wrong : Bool) (p : Patches) (from to : SoftSession) (old mid new : Tells)
    (was is : Option (List ℕ)) → p ≡ from.table → to.table ≡ from.table → soft_state to ≡ soft_state from
    → Went (before_reach (soft_state from).plain) (λ k. place_by r (k.body (path_by r))) [] old mid
    → LinesLed r (rest (path_by r)) p wrong mid new was is → CommandLed (Plain c) from to wrong old new was is
way_lines c rest reaches r wrong p from to old mid new was is table same state went lines = record {
  said = lines.said;
  put = lines.put;
  wrong_is = lines.wrong_is;
  led = λ next t holds.
      let s : SoftState = soft_state from in
      let a : Place = at_plan (plain_act c s next) t in
      record {
        table = t;
        holds = subst (λ q. Holds q t) (sym same) holds;
        leads = subst (λ w. Leads a old lines.said (at_plan (next w) t) new) (sym state)
            (led_then a (at_rest r (rest (path_by r)) (next s) t) (at_plan (next s) t) old mid new [] lines.said
            (way_led c rest reaches s r next t old mid went) (lines.led (next s) t (subst (λ q. Holds q t) (sym table) holds)));
      };
}

pub way_line : (c : Command) (rest : Rest) → Reaches c rest → (r : Reach) (p : Patches) (from to : SoftSession) (line : PrintedLine) (old mid new : Tells)
    → p ≡ from.table → soft_state to ≡ soft_state from → Went (before_reach (soft_state from).plain) (λ k. place_by r (k.body (path_by r))) [] old mid
    → RestLed r (rest (path_by r)) p to.table mid new line → LineLed (Plain c) from to old new line
way_line c rest reaches r p from to line old mid new table state went led next t holds =
    let s : SoftState = soft_state from in
    let a : Place = at_plan (plain_act c s next) t in
    let o : Onto to.table (λ u. Leads (at_rest r (rest (path_by r)) (next s) t) mid [] (at_plan (say (said_by line) (next s)) u) new) =
    led (next s) t (subst (λ q. Holds q t) (sym table) holds) in
    record {
      table = o.table;
      holds = o.holds;
      leads = subst (λ w. Leads a old [] (at_plan (say (said_by line) (next w)) o.table) new) (sym state)
          (led_then a (at_rest r (rest (path_by r)) (next s) t) (at_plan (say (said_by line) (next s)) o.table) old mid new [] []
          (way_led c rest reaches s r next t old mid went) o.leads);
    }

-- the session is as it was, but for the words of its table
pub state_with : (from mid to : SoftSession) → soft_state mid ≡ soft_state from → to.session ≡ mid.session → to.table.addresses ≡ mid.table.addresses
    → soft_state to ≡ soft_state from
state_with from mid to state session same =
    (λ i. record { plain = state_of (session i); planted = same i }) ∙ state

-- ---- where it did not come to its end

pub reach_cut : (s : State) (old_count new_count : ℕ) (old new : Tells) (f : Failure) → Falls (before_reach s) [] old_count new_count old new f
    → (r : MemoryRest) → Cuts (before_reach s r) old f new
reach_cut s old_count new_count old new f falls r = falls_cut (before_reach s) r old_count new_count old new f falls

pub way_cut : (c : Command) (rest : Rest) → Reaches c rest → (s : SoftState) (p : Patches) (old new : Tells) (f : Failure)
    → ((r : MemoryRest) → Cuts (before_reach s.plain r) old f new) → CutsOf p (at_command (Plain c) s) old new f
way_cut c rest reaches s p old new f cuts next t holds =
    cut_then (at_plan (plain_act c s next) t) (before_reach s.plain (record { body = λ path. lower (rest path (next s)) t; next = lower (next s) t })) old old new f
    (in_front c rest reaches s next t old) (cuts (record { body = λ path. lower (rest path (next s)) t; next = lower (next s) t }))

pub behind_way_cut : (c : Command) (rest : Rest) → Reaches c rest → (s : SoftState) (r : Reach) (p q : Patches) (old mid new : Tells) (f : Failure) → q ≡ p
    → Went (before_reach s.plain) (λ k. place_by r (k.body (path_by r))) [] old mid
    → ((next : Plan) (t : Table) → Holds q t → Cuts (at_rest r (rest (path_by r)) next t) mid f new) → CutsOf p (at_command (Plain c) s) old new f
behind_way_cut c rest reaches s r p q old mid new f table went cuts next t holds =
    cut_then (at_plan (plain_act c s next) t) (at_rest r (rest (path_by r)) (next s) t) old mid new f (way_led c rest reaches s r next t old mid went)
    (cuts (next s) t (subst (λ x. Holds x t) (sym table) holds))

short_behind : (a b : Table → Place) (p : Patches) (old mid new : Tells) (was is : Option (List ℕ)) (f : Failure)
    → ((t : Table) → Leads (a t) old [] (b t) mid) → CutShort b p mid new was is f → CutShort a p old new was is f
short_behind a b p old mid new was is f leads (CutShort.in_call said put cuts) =
    CutShort.in_call said put (λ t holds. saying_then (a t) (b t) old mid new said f (leads t) (cuts t holds))
short_behind a b p old mid new was is f leads (CutShort.at_line said ahead front at) =
    CutShort.at_line said ahead front (λ t holds m o lines d. at t holds m o lines
    (subst (λ l. DealsAt m o (b t) l mid.far) (append-nil lines) (leads t m o lines d)))

pub way_short : (c : Command) (rest : Rest) → Reaches c rest → (s : SoftState) (r : Reach) (p q : Patches) (old mid new : Tells) (was is : Option (List ℕ))
    (f : Failure) → q ≡ p → Went (before_reach s.plain) (λ k. place_by r (k.body (path_by r))) [] old mid
    → RestCut r (rest (path_by r)) q mid new was is f → CommandCut (Plain c) s p old new was is f
way_short c rest reaches s r p q old mid new was is f table went cut next quiet =
    subst (λ x. CutShort (at_command (Plain c) s next) x old new was is f) table
    (short_behind (at_command (Plain c) s next) (at_rest r (rest (path_by r)) (next s)) q old mid new was is f
    (λ t. way_led c rest reaches s r next t old mid went) (cut (next s) (quiet s)))
