-- What a Look handed out.
-- It is this project's own.
use Rattle.std.specs.Prelude.{◌≡◌, ℕ}
use Rattle.probe_run.specs.declared.hart.Seen.{Seen}
use Rattle.probe_run.specs.declared.hart.Seen.TheVariants as seen

-- it is of this hart
abbrev pub IsOf : ℕ → Seen → Type 0
IsOf h seen.Absent = Unit {0}
IsOf h (seen.Running r) = r.number ≡ h
IsOf h (seen.Halted x) = x.number ≡ h
