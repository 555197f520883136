-- How much making harts halt at an ebreak lets TCK rise at most where the schedule is fair, in operations of the rate: by the harts of the chip that is told.
-- It is this project's own.
use Rattle.std.specs.Prelude.{ℕ, ◌+◌, ◌*◌, Option, Some, None, length}
use Rattle.debug_model.specs.Told.{Far, site_of}

-- as many harts are there
abbrev pub harts_told : Option Far → ℕ
harts_told None = 0
harts_told (Some f) = length (site_of f).board.harts

-- each is looked at and set, and one more is looked at
abbrev pub prepare_rises : Option Far → ℕ
prepare_rises told = 26 * harts_told told + 2
