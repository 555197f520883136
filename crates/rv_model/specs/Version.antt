-- The numbers by which dmstatus names the release of the debug specification that a chip follows.
-- RISC-V Debug Specification 1.0, "Debug Module Status", the field version: 2 is release 0.13, 3 is release 1.0.
use Rattle.std.specs.Prelude.{ℕ, ◌==◌, if◌then◌else◌, Option, Some, None}
use Rattle.rv_model.specs.declared.version.Version.{Version}
use Rattle.rv_model.specs.declared.version.Version.TheVariants.{V013, V10}

abbrev pub version_number : Version → ℕ
version_number V013 = 2
version_number V10 = 3

-- any other number is of no release that is known here
abbrev pub version_of : ℕ → Option Version
version_of n = if n == 2 then Some V013 else (if n == 3 then Some V10 else None)
