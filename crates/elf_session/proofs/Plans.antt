-- The plan of a session that loads a program keeps to first match, and what follows its lines is quiet.
use Rattle.std.proofs.Common.{ℕ, All, List, [], ◌∷◌, Result, Ok, Err}
use Rattle.std.specs.Prelude.{⊤}
use Rattle.std.proofs.lemmas.List.Elements.{All-head, All-tail}
use Rattle.rv_model.specs.declared.mem_fault.MemFault.{MemFault}
use Rattle.rv_model.specs.Board.{Machine, machine_of}
use Rattle.rv_model.specs.Memory.{store_answer}
use Rattle.rv_model.specs.Registers.{pc_number}
use Rattle.rv_model.specs.Size.{count_of}
use Rattle.debug_model.specs.declared.command.Command.{Command}
use Rattle.debug_model.specs.declared.command.Path.TheVariants.{Bus}
use Rattle.debug_model.specs.declared.point.Point.TheVariants.{Access}
use Rattle.debug_model.specs.Command.{IsWithinRanges}
use Rattle.abstract_debugger.specs.Debugger.{State, at_halted, by_store, commands, first_state}
use Rattle.abstract_debugger.specs.Lines.{Line}
use Rattle.abstract_debugger.specs.Plan.{Plan}
use Rattle.abstract_debugger.specs.Plan.Change.{WriteMem, WriteReg}
use Rattle.abstract_debugger.specs.Plan.Plan.{change, say, see}
use Rattle.abstract_debugger.specs.Plan.PlanEnd.{Done}
use Rattle.abstract_debugger.specs.Transcript.{start}
use Rattle.abstract_debugger.specs.Ways.{Way}
use Rattle.abstract_debugger.specs.Ways.Way.{Idle, Still}
use Rattle.abstract_debugger.proofs.GoodLemmas.{Fine, good-stop}
use Rattle.abstract_debugger.proofs.KnownHarts.{known-start}
use Rattle.abstract_debugger.proofs.QuietLemmas.{Calm, Says, act-calm, calm-halted, calm-stop, says-change, says-see, says-say, says-take, says_of}
use Rattle.abstract_debugger.proofs.ScriptLemmas.{good-walks}
use Rattle.abstract_debugger.proofs.WayCommands.{way-act}
use Rattle.abstract_debugger.proofs.WayWalks.{WayWalks, way-halted, way-look, way_still}
use Rattle.elf_load.specs.declared.element.Element.{Element}
use Rattle.elf_session.specs.Laws.{LoadingsKeepFirstMatch, LoadingsSayQuietly}
use Rattle.elf_session.specs.Loading.{Loading, elf_plan, entering, loading, loading_hart, loading_of, not_loaded, storing_each}

-- ---- first match

way_by_store : (G : ℕ → Way → Plan → Type 0) (sel : ℕ) (way : Way) (r : Result ⊤ MemFault) (faulted stored : Plan) → G sel way faulted → G sel way stored
    → G sel way (by_store r faulted stored)
way_by_store G sel way (Ok _) faulted stored gf g = g
way_by_store G sel way (Err fault) faulted stored gf g = gf

way_storing_each : {G : ℕ → Way → Plan → Type 0} → WayWalks G → (sel : ℕ) (way : Way) (es : List Element) (next : Plan) → G sel way next
    → G sel way (storing_each es next)
way_storing_each ws sel way [] next g = g
way_storing_each {G} ws sel way (e ∷ es) next g =
    let faulted : Plan = say (Line.MemoryFault e.address) not_loaded in
    let stored : Plan = change (WriteMem e.address (count_of e.size) e.value) (storing_each es next) in
    ws.paths sel way Bus _
    (ws.takes sel way Access tt _
    (ws.sees sel way (λ b. by_store (store_answer b.memory e.address e.size) faulted stored)
    (λ b. way_by_store G sel way (store_answer b.memory e.address e.size) faulted stored
    (ws.says sel way (Line.MemoryFault e.address) not_loaded (ws.stops sel way Done))
    (ws.writes_mem sel way e.address (count_of e.size) e.value (storing_each es next) (way_storing_each ws sel way es next g)))))

way_entering : {G : ℕ → Way → Plan → Type 0} → WayWalks G → (entry size : ℕ) (next : Plan) → G 0 Idle next → G 0 Still (entering loading_hart entry size next)
way_entering ws entry size next g =
    ws.writes_reg loading_hart pc_number entry (say (Line.Loaded size) next) (ws.says loading_hart Still (Line.Loaded size) next (way_still ws loading_hart next g))

way_loading : {G : ℕ → Way → Plan → Type 0} → WayWalks G → (l : Loading) (next : Plan) → G 0 Idle next → G 0 Idle (loading l next)
way_loading ws l next g =
    let rest : Plan = at_halted loading_hart not_loaded (entering loading_hart l.entry l.size next) in
    way-halted ws loading_hart not_loaded (storing_each l.elements rest) (ws.stops 0 Idle Done)
    (way_storing_each ws loading_hart Still l.elements rest (way_still ws loading_hart rest
    (way-halted ws loading_hart not_loaded (entering loading_hart l.entry l.size next) (ws.stops 0 Idle Done) (way_entering ws l.entry l.size next g))))

script_fine : (m : Machine) (script : List Command) → All IsWithinRanges script → (s : State) → Fine m (commands script s)
script_fine m [] within s = good-stop m 0 Idle Done
script_fine m (c ∷ cs) within s = way-act (good-walks m) c s (commands cs) (All-head IsWithinRanges c cs within)
    (script_fine m cs (All-tail IsWithinRanges c cs within))

pub keep_first_match : LoadingsKeepFirstMatch
keep_first_match board file script journal within fresh =
    (way-look (good-walks (machine_of board)) 0 Idle 0 (λ seen. elf_plan file script)
    (λ seen. way_loading (good-walks (machine_of board)) (loading_of file) (commands script first_state)
    (script_fine (machine_of board) script within first_state))).goes
    (start board) (known-start 0 board fresh) journal

-- ---- what follows a line

says_by_store : (r : Result ⊤ MemFault) (faulted stored : Plan) → Says faulted → Says stored → Says (by_store r faulted stored)
says_by_store (Ok _) faulted stored sf s = s
says_by_store (Err fault) faulted stored sf s = sf

says_storing_each : (es : List Element) (next : Plan) → Says next → Says (storing_each es next)
says_storing_each [] next s = s
says_storing_each (e ∷ es) next s =
    let faulted : Plan = say (Line.MemoryFault e.address) not_loaded in
    let stored : Plan = change (WriteMem e.address (count_of e.size) e.value) (storing_each es next) in
    let seen : Says (see (λ b. by_store (store_answer b.memory e.address e.size) faulted stored)) =
    says-see (λ b. by_store (store_answer b.memory e.address e.size) faulted stored)
    (λ b. says_by_store (store_answer b.memory e.address e.size) faulted stored (says-say (Line.MemoryFault e.address) not_loaded (calm-stop Done))
    (says-change (WriteMem e.address (count_of e.size) e.value) (storing_each es next) (says_storing_each es next s))) in
    record { says = (says-take Access _ seen).says }

calm_loading : (l : Loading) (next : Plan) → Calm next → Calm (loading l next)
calm_loading l next c =
    let rest : Plan = at_halted loading_hart not_loaded (entering loading_hart l.entry l.size next) in
    calm-halted loading_hart not_loaded (storing_each l.elements rest) (calm-stop Done)
    (says_storing_each l.elements rest (says_of rest
    (calm-halted loading_hart not_loaded (entering loading_hart l.entry l.size next) (calm-stop Done)
    (says-change (WriteReg loading_hart pc_number l.entry) (say (Line.Loaded l.size) next) (says-say (Line.Loaded l.size) next c)))))

script_calm : (script : List Command) (s : State) → Calm (commands script s)
script_calm [] s = calm-stop Done
script_calm (c ∷ cs) s = act-calm c s (commands cs) (λ t. script_calm cs t)

pub say_quietly : LoadingsSayQuietly
say_quietly file script b = (calm_loading (loading_of file) (commands script first_state) (script_calm script first_state)).says
