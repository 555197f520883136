-- What the calls of a command add up to, within its share.
use Rattle.std.proofs.Common.{◌≡◌, ◌∙◌, ℕ, ◌+◌, ◌*◌, ◌≤◌, List, ◌∷◌, Option, Some, IfSome, refl, sym, ap, subst, arith}
use Rattle.std.proofs.lemmas.List.Sums.{sum_by-cons}
use Rattle.debug_model.specs.declared.command.Command.{Command}
use Rattle.debug_model.specs.declared.command.Command.TheVariants.{Idcode, Hart, State, Halt, Resume, Step, Wait, Regs, Reg, SetReg, Read, Write, Dump, Via}
use Rattle.debug_model.specs.declared.command.Command.TheVariants.{Break, Watch, Count, Clear, Slots, Ebreak, End}
use Rattle.debug_model.specs.Command.{IsWithinRanges}
use Rattle.debug_model.specs.Kept.{DmiSeen}
use Rattle.debug_model.specs.Rises.{Within}
use Rattle.debug_model.proofs.RiseLemmas.{within_more, within_none, within_then}
use Rattle.printed_lines.specs.declared.line.Line.{Line as PrintedLine}
use Rattle.rv_model.specs.declared.size.Size.{Size}
use Rattle.probe_access.specs.BlockRises.{bus_load_rises, bus_store_rises, load_rises, store_rises}
use Rattle.probe_session.specs.declared.shown.Shown.{Shown}
use Rattle.probe_session.specs.declared.shown.Shown.TheVariants as shown
use Rattle.probe_session.specs.Budget.{command_rises, commands_rises, rises_of_shown, rises_up_to, script_rises}

-- a block by the bus costs no more than by the hart
pub bus_load_fewer : (count : ℕ) → bus_load_rises count ≤ load_rises count
bus_load_fewer count = omega arith

pub bus_store_fewer : (count : ℕ) → bus_store_rises count ≤ store_rises count
bus_store_fewer count = omega arith

-- ---- a command up to what it shows

pub up_to_few : (k : Command) → IsWithinRanges k → rises_up_to k ≤ command_rises k
up_to_few Idcode within = omega arith
up_to_few (Hart hart) within = omega arith
up_to_few State within = omega arith
up_to_few Halt within = omega arith
up_to_few Resume within = omega arith
up_to_few (Step repeats) within = omega (arith, within.0)
up_to_few (Wait repeats) within = omega arith
up_to_few Regs within = omega arith
up_to_few (Reg register) within = omega arith
up_to_few (SetReg register value) within = omega arith
up_to_few (Read size address count) within = omega arith
up_to_few (Write size address value count) within = omega arith
up_to_few (Dump address count) within = omega arith
up_to_few (Via path) within = omega arith
up_to_few (Break address) within = omega arith
up_to_few (Watch kind address) within = omega arith
up_to_few (Count turns) within = omega arith
up_to_few (Clear slot) within = omega arith
up_to_few Slots within = omega arith
up_to_few (Ebreak is_on) within = omega arith
up_to_few End within = omega arith

pub rises_as : {k j : Command} {old b d : DmiSeen} → k ≡ j → b ≡ d → Within (rises_up_to j) old d → Within (rises_up_to k) old b
rises_as {k} {j} {old} {b} {d} command_is link_is w =
    subst (λ c. Within (rises_up_to c) old b) (sym command_is) (subst (λ l. Within (rises_up_to j) old l) (sym link_is) w)

-- ---- and with what it shows

-- a line
pub line_few : (k : Command) {x : Shown} {line : PrintedLine} → x ≡ shown.Line line → IsWithinRanges k → rises_up_to k + rises_of_shown x ≤ command_rises k
line_few k is within =
    subst (λ y. rises_up_to k + rises_of_shown y ≤ command_rises k) (sym is) (let few : rises_up_to k ≤ command_rises k = up_to_few k within in omega (arith, few))

few_as : {k j : Command} {x y : Shown} → k ≡ j → x ≡ y → rises_up_to j + rises_of_shown y ≤ command_rises j → rises_up_to k + rises_of_shown x ≤ command_rises k
few_as {k} {j} {x} {y} command_is shown_is few =
    subst (λ c. rises_up_to c + rises_of_shown x ≤ command_rises c) (sym command_is)
    (subst (λ z. rises_up_to j + rises_of_shown z ≤ command_rises j) (sym shown_is) few)

pub regs_few : {k : Command} {x y : Shown} → k ≡ Regs → x ≡ y → rises_of_shown y ≤ 512 → rises_up_to k + rises_of_shown x ≤ command_rises k
regs_few {k} {x} {y} command_is shown_is few = few_as command_is shown_is (omega (arith, few))

pub slots_few : {k : Command} {x y : Shown} → k ≡ Slots → x ≡ y → rises_of_shown y ≤ 184 → rises_up_to k + rises_of_shown x ≤ command_rises k
slots_few {k} {x} {y} command_is shown_is few = few_as command_is shown_is (omega (arith, few))

block_few : (count spent : ℕ) → spent ≤ load_rises count → 2 + spent ≤ 640 + 128 * count
block_few count spent few = omega (arith, few)

pub read_few : {k : Command} {x y : Shown} {size : Size} {address count : ℕ} → k ≡ Read size address count → x ≡ y → rises_of_shown y ≤ load_rises count
    → rises_up_to k + rises_of_shown x ≤ command_rises k
read_few {count = count} command_is shown_is few = few_as command_is shown_is (block_few count _ few)

pub dump_few : {k : Command} {x y : Shown} {address count : ℕ} → k ≡ Dump address count → x ≡ y → rises_of_shown y ≤ load_rises count
    → rises_up_to k + rises_of_shown x ≤ command_rises k
dump_few {count = count} command_is shown_is few = few_as command_is shown_is (block_few count _ few)

-- ---- what is shown, by what it is

pub shown_rises_as : {x y : Shown} {old new : DmiSeen} → x ≡ y → Within (rises_of_shown y) old new → Within (rises_of_shown x) old new
shown_rises_as {x} {y} {old} {new} is w = subst (λ z. Within (rises_of_shown z) old new) (sym is) w

pub shown_few : (k : Command) {o : Option Shown} (x : Shown) → o ≡ Some x → IfSome o (λ s. rises_up_to k + rises_of_shown s ≤ command_rises k)
    → rises_up_to k + rises_of_shown x ≤ command_rises k
shown_few k x is few = subst (λ p. IfSome p (λ s. rises_up_to k + rises_of_shown s ≤ command_rises k)) is few

-- ---- the commands of a script

-- so much of what all may cost was spent that the rest may cost its own still
pub record Spending (all rest : List Command) (old new : DmiSeen) : Type 0 where
  pub spent : ℕ
  pub within : Within spent old new
  pub few : spent + commands_rises rest ≤ commands_rises all

pub spending_none : (all : List Command) (s : DmiSeen) → Spending all all s s
spending_none all s = record { spent = 0; within = within_none 0 s s refl; few = omega arith }

front_of : (n most : ℕ) (k : Command) (rest after : List Command) → rest ≡ k ∷ after → n + commands_rises rest ≤ most
    → (n + command_rises k) + commands_rises after ≤ most
front_of n most k rest after front few =
    let is : commands_rises rest ≡ command_rises k + commands_rises after = ap commands_rises front ∙ sum_by-cons command_rises k after in
    omega (arith, few, is)

-- a command more was done
pub spending_more : (all rest after : List Command) (k : Command) (old mid new : DmiSeen) → rest ≡ k ∷ after → Spending all rest old mid
    → Within (command_rises k) mid new → mid.fixed ≡ old.fixed → Spending all after old new
spending_more all rest after k old mid new front s w fixed = record {
  spent = s.spent + command_rises k;
  within = within_then s.spent (command_rises k) (s.spent + command_rises k) old mid new s.within w fixed (omega arith);
  few = front_of s.spent (commands_rises all) k rest after front s.few;
}

-- and none is left, or the rest is not done
pub spending_all : (all rest : List Command) (old new : DmiSeen) → Spending all rest old new → Within (commands_rises all) old new
spending_all all rest old new s =
    let few = s.few in within_more s.spent (commands_rises all) old new s.within (omega (arith, few))

-- of a script, whose opening stands in front
pub script_within : (script commands : List Command) (old mid new : DmiSeen) → commands ≡ script → Within 72 old mid → Within (commands_rises commands) mid new
    → mid.fixed ≡ old.fixed → Within (script_rises script) old new
script_within script commands old mid new same opening w fixed =
    within_then 72 (commands_rises script) (script_rises script) old mid new opening (subst (λ (l : List Command). Within (commands_rises l) mid new) same w) fixed
    (omega arith)

pub opening_within : (script : List Command) (old new : DmiSeen) → Within 72 old new → Within (script_rises script) old new
opening_within script old new w = within_more 72 (script_rises script) old new w (omega arith)
