-- How long a session on the chip of a bench lasts at most where the chip's schedule is fair, by its script alone; and that it meets no limit of events where
-- that is no less. It is this project's own.
use Rattle.std.specs.Prelude.{◌≡◌, ℕ, ◌+◌, ◌*◌, ◌≤◌, false, List, length, Option}
use Rattle.budget_laws.specs.FewTurns.{OffersAtMost}
use Rattle.chain_scan.specs.ChainSeen.{chain_slack}
use Rattle.chip_core.specs.Feeds.{counts_of, journal_of, limit_met}
use Rattle.command_line.specs.declared.job.Way.{Way}
use Rattle.command_line.specs.declared.job.Way.TheVariants.{Straight, Looped, Chained}
use Rattle.debug_model.specs.declared.command.Command.{Command}
use Rattle.debug_model.specs.Chip.{Live}
use Rattle.debug_model.specs.Pacing.{fair_within, harts_in}
use Rattle.debug_model.specs.Rises.{rate}
use Rattle.debug_model.specs.Schedule.{Fair}
use Rattle.probe_session.specs.Budget.{script_rises}

-- ---- schedules

-- each hart of the chip and each of its parts has its turn within 32 rounds, and no operation fails
abbrev pub IsFair : Live → Type 0
IsFair first = Fair fair_within (harts_in first.chip.inside) first.chip.inside.plan

-- and no round has more turns than the chip has harts
abbrev pub IsEven : Live → Type 0
IsEven first = OffersAtMost (harts_in first.chip.inside) first.chip.inside.plan

-- ---- bounds

-- how much oftener than its path alone a call lets TCK rise at most: over a chain as often as a scan goes around the others
abbrev pub slack_of : Way → ℕ
slack_of Straight = 0
slack_of Looped = 0
slack_of (Chained plan) = chain_slack

-- the rises of TCK of a script at most, each of which is a round
abbrev pub most_rounds : (slack : ℕ) → List Command → ℕ
most_rounds slack script = script_rises script * rate slack

-- and the points in the journal: of each round a turn of each hart, and eight others of each operation
abbrev pub most_points : (slack harts : ℕ) → List Command → ℕ
most_points slack harts script = script_rises script * (rate slack * harts + 8)

-- behind a session on a chip that was as loaded
pub record StaysWithin (slack : ℕ) (script : List Command) (first : Live) (bench : Option Live) : Type 0 where
  pub rounds : (counts_of bench).rounds ≤ most_rounds slack script
  pub points : length (journal_of bench) ≤ most_points slack (harts_in first.chip.inside) script
  -- so a chip whose limit is no less never meets it
  pub unmet : most_points slack (harts_in first.chip.inside) script ≤ first.chip.inside.works.most_points → limit_met bench ≡ false

-- under any schedule
pub record StaysWhereFair (slack : ℕ) (script : List Command) (first : Live) (bench : Option Live) : Type 0 where
  pub rounds : IsFair first → (counts_of bench).rounds ≤ most_rounds slack script
  pub within : IsFair first → IsEven first → StaysWithin slack script first bench
