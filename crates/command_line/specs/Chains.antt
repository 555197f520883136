-- The chain that a list writes: its devices from TDI to TDO, the chip as `t` and each other as the length of its instruction register.
-- How a list is written is this project's own (docs/FORMATS.md, "Words"); what a plan is says `chain_scan`.
use Rattle.std.specs.Prelude.{◌+◌, ℕ, Bool, ◌==◌, ◌&&◌, nat_le, List, [], ◌∷◌, ◌++◌, length, codes, bytes_eq}
use Rattle.std.specs.Prelude.{Option, Some, None, if◌then◌else◌}
use Rattle.std.specs.List.{after_first, before_first, list_any, slice_split}
use Rattle.chain_scan.specs.ChainPlan.{Plan, sides_most}
use Rattle.chain_scan.specs.SideTap.{width_least, width_most}
use Rattle.command_line.specs.Job.{Text}
use Rattle.command_line.specs.Numbers.{◌>>=◌, number_of, within}

abbrev pub comma : ℕ
comma = 44

-- what stands between the commas
abbrev pub items_of : Text → List Text
items_of list = slice_split (λ byte. byte == comma) list

abbrev pub is_chip : Text → Bool
is_chip item = bytes_eq item (codes "t")

-- the length that an item writes
unfoldable pub width_of : Text → Option ℕ
width_of item = number_of item >>= within width_least width_most

-- the lengths that all of these write, the last item's first: a list goes from TDI on, and a plan from TDO on
abbrev pub widths_of : List Text → Option (List ℕ)
widths_of [] = Some []
widths_of (item ∷ items) = do
  width ← width_of item
  widths ← widths_of items
  Some (widths ++ width ∷ [])

-- one device beside the chip at least, and not too many
abbrev pub counted : Plan → Option Plan
counted plan =
    if nat_le 1 (length plan.near + length plan.far) && nat_le (length plan.near + length plan.far) sides_most then Some plan else None

-- between TDO and the chip, and between the chip and TDI
abbrev pub plan_from : Option (List ℕ) → Option (List ℕ) → Option Plan
plan_from said_near said_far = do
  near ← said_near
  far ← said_far
  counted (record { near = near; far = far })

-- the chip is there once: behind it in the list stand the devices towards TDO, and before it those towards TDI
abbrev pub plan_in : List Text → Option Plan
plan_in items =
    if list_any is_chip items then plan_from (widths_of (after_first is_chip items)) (widths_of (before_first is_chip items)) else None

unfoldable pub plan_of : Text → Option Plan
plan_of list = plan_in (items_of list)
