-- A plan that goes through a block of memory: one access for each element, upwards from an address, and the lines that it says between them.
-- It is this project's own.
use Rattle.std.specs.Prelude.{◌≡◌, ◌+◌, ◌++◌, ◌∷◌, ℕ, suc, false, List, []}
use Rattle.rv_model.specs.declared.size.Size.{Size}
use Rattle.rv_model.specs.Memory.{loaded, store_answer}
use Rattle.rv_model.specs.Size.{count_of}
use Rattle.debug_model.specs.declared.command.Path.{Path}
use Rattle.abstract_debugger.specs.Debugger.{access, by_load, by_store}
use Rattle.abstract_debugger.specs.Lines.{Line}
use Rattle.abstract_debugger.specs.Plan.{Plan}
use Rattle.abstract_debugger.specs.Plan.Change.{WriteMem}
use Rattle.abstract_debugger.specs.Plan.Plan.{change, say}
use Rattle.probe_session.specs.Places.{wants_call}

-- ---- lines

-- the plan says these lines next, none of which wants a call of its own, and goes on
pub data Says : Plan → List Line → Plan → Type 0 where
  nothing : {p : Plan} → Says p [] p
  further : {line : Line} {lines : List Line} {next p : Plan} → wants_call line ≡ false → Says next lines p → Says (say line next) (line ∷ lines) p

-- ---- loads

-- the element at an address is loaded next
abbrev pub loading : Path → Size → ℕ → (faulted : Plan) → (read : ℕ → Plan) → Plan
loading path size address faulted read = access path (λ b. by_load (loaded b.memory address size) faulted read)

-- from the first plan to the second the elements from an address on are loaded, each at one access; of these values it says these lines
pub data Loads (path : Path) (size : Size) : ℕ → Plan → List ℕ → List Line → Plan → Type 0 where
  nothing : {address : ℕ} {p : Plan} → Loads path size address p [] [] p
  further : {address value : ℕ} {values : List ℕ} {said lines : List Line} {next p : Plan} (faulted : Plan) (read : ℕ → Plan)
      → Says (read value) said next
      → Loads path size (address + count_of size) next values lines p
      → Loads path size address (loading path size address faulted read) (value ∷ values) (said ++ lines) p

-- so many elements from an address on are loaded next, whatever they hold
pub data MayLoad (path : Path) (size : Size) : ℕ → ℕ → Plan → Type 0 where
  nothing : {address : ℕ} {p : Plan} → MayLoad path size address 0 p
  further : {address count : ℕ} (faulted : Plan) (read : ℕ → Plan) (said : ℕ → List Line) (next : ℕ → Plan)
      → ((value : ℕ) → Says (read value) (said value) (next value)) → ((value : ℕ) → MayLoad path size (address + count_of size) count (next value))
      → MayLoad path size address (suc count) (loading path size address faulted read)

-- ---- stores

-- a value is stored to the element at an address next
abbrev pub storing : Path → Size → (address value : ℕ) → (faulted stored : Plan) → Plan
storing path size address value faulted stored =
    access path (λ b. by_store (store_answer b.memory address size) faulted (change (WriteMem address (count_of size) value) stored))

-- from the first plan to the second these values are stored to the elements from an address on, each at one access
pub data Stores (path : Path) (size : Size) : ℕ → List ℕ → Plan → Plan → Type 0 where
  nothing : {address : ℕ} {p : Plan} → Stores path size address [] p p
  further : {address value : ℕ} {values : List ℕ} {p : Plan} (faulted next : Plan) → Stores path size (address + count_of size) values next p
      → Stores path size address (value ∷ values) (storing path size address value faulted next) p
