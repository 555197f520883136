-- Laws of sessions that load a program: for every file and every script, whatever the journal and however it ends.
-- They are this project's own.
use Rattle.std.specs.Prelude.{◌≡◌, ◌<◌, ◌++◌, ℕ, All, List, [], ◌∷◌, None, Ok, slice_index}
use Rattle.std.specs.FinMap.{get}
use Rattle.rv_model.specs.Board.{Board, machine_of}
use Rattle.rv_model.specs.Memory.{Memory, store_answer}
use Rattle.rv_model.specs.Size.{count_of}
use Rattle.rv_model.specs.Undebugged.{with_bytes}
use Rattle.debug_model.specs.declared.command.Command.{Command}
use Rattle.debug_model.specs.Command.{IsWithinRanges}
use Rattle.debug_model.specs.declared.point.Point.{Point}
use Rattle.debug_model.specs.declared.point.Point.TheVariants.{Access}
use Rattle.abstract_debugger.specs.FirstMatch.{FirstMatch}
use Rattle.abstract_debugger.specs.Known.{IsFresh}
use Rattle.abstract_debugger.specs.Laws.{SaysQuietly}
use Rattle.abstract_debugger.specs.Plan.{Plan}
use Rattle.abstract_debugger.specs.Transcript.{World, replay, start}
use Rattle.elf_load.specs.declared.element.Element.{Element}
use Rattle.elf_load.specs.Elf.{elements, refusal_of}
use Rattle.elf_load.specs.Fields.{segments_of}
use Rattle.elf_load.specs.Laws.{laid, with_elements}
use Rattle.probe_session.specs.Transcribed.{behind_opening}
use Rattle.elf_session.specs.Loading.{elf_plan, storing_each}

-- first match holds of the trace, over a board whose harts no debugger has touched
abbrev pub LoadingsKeepFirstMatch : Type 0
LoadingsKeepFirstMatch =
    (board : Board) (file : List ℕ) (script : List Command) (journal : List Point) → All IsWithinRanges script → IsFresh board
    → FirstMatch (machine_of board) (replay (behind_opening (elf_plan file script)) (start board) journal).world.past

-- what follows any line is quiet
abbrev pub LoadingsSayQuietly : Type 0
LoadingsSayQuietly = (file : List ℕ) (script : List Command) → SaysQuietly (behind_opening (elf_plan file script))

-- ---- memory

-- it takes each of these elements, one behind another
abbrev pub TakesEach : Memory → List Element → Type 0
TakesEach m [] = Unit {0}
TakesEach m (e ∷ es) = (store_answer m e.address e.size ≡ Ok tt) × TakesEach (with_bytes m e.address (count_of e.size) e.value) es

-- an access for each element, and no turn between
abbrev pub accesses_of : List Element → List Point
accesses_of [] = []
accesses_of (e ∷ es) = Access ∷ accesses_of es

-- what follows the elements goes on from this world: memory has them, and nothing else is changed that a program sees, and nothing said
pub record GoesOnWith (es : List Element) (next : Plan) (w : World) (journal : List Point) : Type 0 where
  pub world : World
  pub on : replay (storing_each es next) w (accesses_of es ++ journal) ≡ replay next world journal
  pub bytes : world.board.memory.bytes ≡ with_elements w.board.memory.bytes es
  pub harts : world.board.harts ≡ w.board.harts
  pub lines : world.lines ≡ w.lines

-- So what is behind a file's elements goes on over memory with the file's segments laid in order over what was there, zeros included, as a write keeps each byte.
abbrev pub LoadingsLaySegments : Type 0
LoadingsLaySegments =
    (file : List ℕ) → ((i : ℕ) → slice_index file i < 256) → refusal_of file ≡ None
    → (next : Plan) (w : World) (journal : List Point) → TakesEach w.board.memory (elements file)
    → (g : GoesOnWith (elements file) next w journal)
    × ((x : ℕ) → get g.world.board.memory.bytes x ≡ laid file (segments_of file) x (get w.board.memory.bytes x))
