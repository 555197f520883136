-- A bench whose chip is as it was loaded, by the two clauses of a load.
use Rattle.std.proofs.Common.{Option, Some, None, IfSome, IsSome, refl}
use Rattle.debug_model.specs.Chip.{Live}
use Rattle.debug_model.specs.Loaded.{AsLoaded}
use Rattle.jtag_run.specs.Sessions.{IsLoadedBench}

pub is_fresh : (bench : Option Live) → IsSome bench → IfSome bench AsLoaded → IsLoadedBench bench
is_fresh (Some l) some loaded = record { first = l; is = refl; as_loaded = loaded }
is_fresh None some loaded = absurd (let none : ⊥ = cc in none)
