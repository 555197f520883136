-- Numbers that are no wider than what holds them.
use Rattle.std.specs.Prelude.{◌≡◌, ◌<◌, ℕ, Some}
use Rattle.std.specs.FinMap.{get}
use Rattle.rv_model.specs.Memory.{Memory}

-- memory holds bytes
abbrev pub MemoryReady : Memory → Type 0
MemoryReady m = (address byte : ℕ) → get m.bytes address ≡ Some byte → byte < 256
