-- Along its plan a loading lays the segments of its file over memory.
use Rattle.std.proofs.Common.{◌∙◌, ◌++◌, List, [], ◌∷◌, refl, ap}
use Rattle.std.specs.FinMap.{get}
use Rattle.rv_model.specs.Size.{count_of}
use Rattle.debug_model.specs.declared.point.Point.{Point}
use Rattle.debug_model.specs.declared.point.Point.TheVariants.{Access}
use Rattle.abstract_debugger.specs.Debugger.{by_store}
use Rattle.abstract_debugger.specs.Lines.{Line}
use Rattle.abstract_debugger.specs.Plan.{Plan}
use Rattle.abstract_debugger.specs.Plan.Change.{WriteMem}
use Rattle.abstract_debugger.specs.Plan.Plan.{change, say}
use Rattle.abstract_debugger.specs.Transcript.{World, changed, passed, replay}
use Rattle.elf_load.specs.declared.element.Element.{Element}
use Rattle.elf_load.specs.Elf.{elements}
use Rattle.elf_load.specs.Fields.{segments_of}
use Rattle.elf_load.proofs.LayLemmas.{segments_laid}
use Rattle.elf_load.proofs.SoundLemmas.{no_bad_segment}
use Rattle.elf_session.specs.Laws.{GoesOnWith, LoadingsLaySegments, TakesEach, accesses_of}
use Rattle.elf_session.specs.Loading.{not_loaded, storing_each}

goes_on : (es : List Element) (next : Plan) (w : World) (journal : List Point) → TakesEach w.board.memory es → GoesOnWith es next w journal
unfolding replay
goes_on [] next w journal takes = record { world = w; on = refl; bytes = refl; harts = refl; lines = refl }
goes_on (e ∷ es) next w journal takes =
    let faulted : Plan = say (Line.MemoryFault e.address) not_loaded in
    let stored : Plan = change (WriteMem e.address (count_of e.size) e.value) (storing_each es next) in
    let one : World = changed (WriteMem e.address (count_of e.size) e.value) (passed Access w) in
    let g : GoesOnWith es next one journal = goes_on es next one journal takes.1 in
    record {
      world = g.world;
      on = ap (λ r. replay (by_store r faulted stored) (passed Access w) (accesses_of es ++ journal)) takes.0 ∙ g.on;
      bytes = g.bytes;
      harts = g.harts;
      lines = g.lines;
    }

pub lay_segments : LoadingsLaySegments
lay_segments file small sound next w journal takes =
    let g : GoesOnWith (elements file) next w journal = goes_on (elements file) next w journal takes in
    (g, λ x. ap (λ m. get m x) g.bytes ∙ segments_laid file (segments_of file) w.board.memory.bytes x small (no_bad_segment file sound))
