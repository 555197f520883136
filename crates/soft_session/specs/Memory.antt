-- What a command that reaches memory does behind the way to it, over a told chip: along what is left of its plan, lowered.
-- It is this project's own. What a user sees of memory are the words themselves, and not the ebreaks that stand in their place.
use Rattle.std.specs.Prelude.{◌≡◌, ◌+◌, ℕ, Bool, List, [], ◌∷◌, Option}
use Rattle.jt_base.specs.Sink.{grown}
use Rattle.rv_model.specs.declared.size.Size.{Size}
use Rattle.rv_model.specs.Size.{count_of}
use Rattle.abstract_debugger.specs.Laws.{Quiet}
use Rattle.abstract_debugger.specs.Lines.{Line, any_error, text_of_all}
use Rattle.abstract_debugger.specs.Plan.{Plan}
use Rattle.abstract_debugger.specs.Plan.Plan.{say}
use Rattle.printed_lines.specs.declared.line.Line.{Line as PrintedLine}
use Rattle.probe_run.specs.Acts.{Tells}
use Rattle.probe_session.specs.declared.fault.Failure.{Failure}
use Rattle.probe_session.specs.declared.reach.Reach.{Reach}
use Rattle.probe_session.specs.Led.{Leads}
use Rattle.probe_session.specs.Places.{Place}
use Rattle.probe_session.specs.Reach.{dumped, path_by, place_by, read, written}
use Rattle.probe_session.specs.Said.{said_by}
use Rattle.soft_laws.specs.Lowered.{Table, lower}
use Rattle.soft_laws.specs.Shown.{shown_value}
use Rattle.soft_break.specs.Patches.{Patches}
use Rattle.soft_session.specs.Cuts.{CutShort}
use Rattle.soft_session.specs.Led.{Onto, at_plan}
use Rattle.soft_session.specs.Tables.{Holds}

-- what a user sees of values that were loaded of elements upwards from an address
abbrev pub shown_values : Table → Size → (address : ℕ) → List ℕ → List ℕ
shown_values t size address [] = []
shown_values t size address (value ∷ values) = shown_value t address (count_of size) value ∷ shown_values t size (address + count_of size) values

-- ---- what is left of a command, by what follows it

abbrev pub to_read : Size → (address count : ℕ) → Reach → Plan → Plan
to_read size address count r next = read size address count (path_by r) next

abbrev pub to_write : Size → (address value count : ℕ) → Reach → Plan → Plan
to_write size address value count r next = written size address value count (path_by r) next

abbrev pub to_dump : (address count : ℕ) → Reach → Plan → Plan
to_dump address count r next = dumped address count (path_by r) next

abbrev pub at_rest : Reach → (Plan → Plan) → Plan → Table → Place
at_rest r rest next t = place_by r (lower (rest next) t)

-- up to what follows it, with some lines said
pub record LinesLed (r : Reach) (rest : Plan → Plan) (p : Patches) (wrong : Bool) (old new : Tells) (was is : Option (List ℕ)) : Type 0 where
  pub said : List Line
  pub put : is ≡ grown (text_of_all said) was
  pub wrong_is : any_error said ≡ wrong
  pub led : (next : Plan) (t : Table) → Holds p t → Leads (at_rest r rest next t) old said (at_plan next t) new

-- up to its one line
abbrev pub RestLed : Reach → (Plan → Plan) → (from to : Patches) → (old new : Tells) → PrintedLine → Type 0
RestLed r rest from to old new line =
    (next : Plan) (t : Table) → Holds from t → Onto to (λ u. Leads (at_rest r rest next t) old [] (at_plan (say (said_by line) next) u) new)

-- it did not come to its end
abbrev pub RestCut : Reach → (Plan → Plan) → Patches → (old new : Tells) → (was is : Option (List ℕ)) → Failure → Type 0
RestCut r rest p old new was is f = (next : Plan) → Quiet next → CutShort (at_rest r rest next) p old new was is f
