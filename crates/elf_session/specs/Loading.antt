-- What loading a program is to the abstract debugger: a command that stores its elements and writes the pc of hart 0, behind the opening and in front of a
-- script.
-- It is this project's own.
use Rattle.std.specs.Prelude.{ℕ, List, [], ◌∷◌}
use Rattle.rv_model.specs.Registers.{pc_number}
use Rattle.debug_model.specs.declared.command.Command.{Command}
use Rattle.debug_model.specs.declared.command.Path.TheVariants.{Bus}
use Rattle.abstract_debugger.specs.Debugger.{at_halted, commands, first_state}
use Rattle.abstract_debugger.specs.Lines.{Line}
use Rattle.abstract_debugger.specs.Plan.{Plan}
use Rattle.abstract_debugger.specs.Plan.Change.{WriteReg}
use Rattle.abstract_debugger.specs.Plan.Plan.{change, say, stop}
use Rattle.abstract_debugger.specs.Plan.PlanEnd.{Done}
use Rattle.elf_load.specs.declared.element.Element.{Element}
use Rattle.elf_load.specs.Elf.{elements, memory_size}
use Rattle.elf_load.specs.Fields.{entry_of, segments_of}
use Rattle.probe_session.specs.Blocks.{storing}

-- what is to be stored, where the program begins, and how many bytes its segments have in memory
pub record Loading : Type 0 where
  pub elements : List Element
  pub entry : ℕ
  pub size : ℕ

abbrev pub loading_of : List ℕ → Loading
loading_of file = record { elements = elements file; entry = entry_of file; size = memory_size (segments_of file) }

-- the hart that is to run it
abbrev pub loading_hart : ℕ
loading_hart = 0

-- where a fault ends the loading the session ends: no script runs over a part of a program
abbrev pub not_loaded : Plan
not_loaded = stop Done

-- the elements by the system bus, one access each, in order, up to and with the first that memory refuses
abbrev pub storing_each : List Element → (next : Plan) → Plan
storing_each [] next = next
storing_each (e ∷ es) next = storing Bus e.size e.address e.value (say (Line.MemoryFault e.address) not_loaded) (storing_each es next)

-- the hart begins at the entry, and the hits of its slots are forgotten with the pc that was
abbrev pub entering : (hart entry size : ℕ) → (next : Plan) → Plan
entering h entry size next = change (WriteReg h pc_number entry) (say (Line.Loaded size) next)

-- a Look of the hart, which is to be halted, the elements, and such a Look again
abbrev pub loading : Loading → (next : Plan) → Plan
loading l next =
    at_halted loading_hart not_loaded (storing_each l.elements (at_halted loading_hart not_loaded (entering loading_hart l.entry l.size next)))

-- behind the opening the file is loaded, and then the script runs
abbrev pub elf_plan : List ℕ → List Command → Plan
elf_plan file script = loading (loading_of file) (commands script first_state)
