use Rattle.std.proofs.Common.{◌≡◌, ◌+◌, ◌≤◌, List, ◌++◌, length, map}
use Rattle.std.specs.Prelude.{All}
use Rattle.chain_scan.specs.ChainPlan.{IsWidth, sides_most}
use Rattle.command_line.specs.Chains.{plan_in}
use Rattle.command_line.specs.Job.{Text}
use Rattle.command_line.proofs.ChainLists.{goes_on}
use Rattle.command_line.proofs.chains.plan_of.Given as goal

abbrev pub invariant-loop-item : goal.invariant-loop-item
invariant-loop-item l = record {
  can : (goal.iterator-loop-item).can_next l.item-iterator;
  ends : (goal.iterator-loop-item).is_finite l.item-iterator;
  goes : (rest : List Text) → plan_in (map (λ x. x.now) l.yielded ++ rest) ≡ goes_on l.is_behind l.near.items l.far.items rest;
  few : length l.near.items + length l.far.items ≤ sides_most;
  near_widths : All IsWidth l.near.items;
  far_widths : All IsWidth l.far.items;
}
