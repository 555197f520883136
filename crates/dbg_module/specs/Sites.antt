-- A site by its parts, and the site on which an operation is looked at: memory and the journal before it tell nothing of what it does.
use Rattle.std.specs.Prelude.{List, []}
use Rattle.rv_model.specs.Board.{Hart}
use Rattle.rv_model.specs.Memory.{Memory, map_of}
use Rattle.debug_model.specs.declared.point.Point.{Point}
use Rattle.debug_model.specs.Module.{DebugModule, Site}

abbrev pub site_of : DebugModule → List Hart → Memory → List Point → Site
site_of u hs m j = record { unit = u; board = record { harts = hs; memory = m }; journal = j }

abbrev pub no_memory : Memory
no_memory = record { bytes = map_of []; reserved = [] }

-- a module and harts with no memory, and a journal of these points alone
abbrev pub bare_site : DebugModule → List Hart → List Point → Site
bare_site u hs ps = site_of u hs no_memory ps
