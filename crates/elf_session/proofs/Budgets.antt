-- What a session that loads a file lets TCK rise: its calls one behind another, over what it stands on, and behind the end of its stream.
use Rattle.std.proofs.Common.{◌≡◌, ◌+◌, ◌≤◌, ◌∙◌, ℕ, List, Option, subst, arith}
use Rattle.debug_model.specs.declared.command.Command.{Command}
use Rattle.debug_model.specs.Kept.{DmiSeen}
use Rattle.debug_model.specs.Rises.{Within}
use Rattle.debug_model.specs.Told.{Far}
use Rattle.debug_model.proofs.RiseLemmas.{within_more, within_then}
use Rattle.probe_session.specs.declared.ended.Ended.{Ended as End}
use Rattle.probe_session.specs.Budget.{commands_rises}
use Rattle.wire_session.specs.Closing.{Closes}
use Rattle.wire_session.specs.Seen.{WireSeen}
use Rattle.wire_session.proofs.Budgets.{closes_chip, told_same}
use Rattle.elf_session.specs.Budget.{ElfWithinBudget, elf_rises, loading_rises}

-- ---- a loading

pub met_within : (n : ℕ) (old new : DmiSeen) → Within 2 old new → Within (n + 164) old new
met_within n old new w = within_more 2 (n + 164) old new w (omega arith)

pub stored_within : (n : ℕ) (old mid new : DmiSeen) → Within 2 old mid → Within n mid new → mid.fixed ≡ old.fixed → Within (n + 164) old new
stored_within n old mid new met stored fixed = within_then 2 n (n + 164) old mid new met stored fixed (omega arith)

pub entered_within : (n : ℕ) (old mid far new : DmiSeen) → Within 2 old mid → Within n mid far → Within 162 far new → mid.fixed ≡ old.fixed
    → far.fixed ≡ mid.fixed → Within (n + 164) old new
entered_within n old mid far new met stored entered fixed kept =
    within_then (n + 2) 162 (n + 164) old far new (within_then 2 n (n + 2) old mid far met stored fixed (omega arith)) entered (kept ∙ fixed) (omega arith)

-- ---- the script behind it

pub first_within : (n m : ℕ) (old new : DmiSeen) → Within n old new → Within (n + m) old new
first_within n m old new w = within_more n (n + m) old new w (omega arith)

pub both_within : (n m : ℕ) (old mid new : DmiSeen) → Within n old mid → Within m mid new → mid.fixed ≡ old.fixed → Within (n + m) old new
both_within n m old mid new first second fixed = within_then n m (n + m) old mid new first second fixed (omega arith)

sums : (n m : ℕ) → 72 + (n + m) ≤ n + (640 + m)
sums n m = omega arith

above : (n m : ℕ) → 72 ≤ n + (640 + m)
above n m = omega arith

-- ---- the opening before both

pub opening_within : (file : List ℕ) (script : List Command) (old new : DmiSeen) → Within 72 old new → Within (elf_rises file script) old new
opening_within file script old new w = within_more 72 (elf_rises file script) old new w (above (loading_rises file) (commands_rises script))

pub elf_within : (file : List ℕ) (script list : List Command) (old mid new : DmiSeen) → list ≡ script → Within 72 old mid
    → Within (loading_rises file + commands_rises list) mid new → mid.fixed ≡ old.fixed → Within (elf_rises file script) old new
elf_within file script list old mid new is first second fixed =
    within_then 72 (loading_rises file + commands_rises script) (elf_rises file script) old mid new first
    (subst (λ l. Within (loading_rises file + commands_rises l) mid new) is second) fixed (sums (loading_rises file) (commands_rises script))

-- ---- over scans, and behind the end of a stream

pub over_scans : (file : List ℕ) (script : List Command) (old new : DmiSeen) → Within (elf_rises file script) old new
    → ElfWithinBudget old.fixed.slack file script old.far new.far
over_scans file script old new w = record { told = w.told }

pub closes_budget : (slack : Option ℕ) (file : List ℕ) (script : List Command) (old : Option Far) (mid new : WireSeen) (end closed : End)
    → Closes mid new end closed → ElfWithinBudget slack file script old mid.far → ElfWithinBudget slack file script old new.far
closes_budget slack file script old mid new end closed closes w =
    record { told = told_same slack (elf_rises file script) old mid.far new.far (closes_chip mid new end closed closes) w.told }
