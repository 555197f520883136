use Rattle.std.proofs.Common.{◌≡◌, ◌≤◌, ◌+◌, ◌-◌, ◌*◌, ◌++◌, drop, length}
use Rattle.rv_model.specs.declared.size.Size.TheVariants.{B1}
use Rattle.rv_model.specs.Size.{count_of}
use Rattle.debug_model.specs.Command.{most_elements}
use Rattle.elf_load.specs.Elements.{bytes_of, cut}
use Rattle.elf_load.specs.Runs.{in_a_row}
use Rattle.elf_load.proofs.CallLemmas.{IsShort}
use Rattle.elf_load.proofs.run.run_at.Given as goal

-- the values so far are those of the first elements
abbrev pub invariant-elements : goal.invariant-elements
invariant-elements l = record {
  within : l.at ≤ l.segment.in_memory;
  at_is : l.at ≡ l.fn.done + length l.values.items * count_of l.size;
  next : cut (l.segment.address + l.fn.done) (drop l.fn.done (bytes_of l.file l.segment))
      ≡ in_a_row l.size (l.segment.address + l.fn.done) l.values.items ++ cut (l.segment.address + l.at) (drop l.at (bytes_of l.file l.segment));
  room : length l.values.items ≤ most_elements;
  short : l.size ≡ B1 → IsShort (l.segment.address + l.fn.done) (l.segment.in_memory - l.fn.done) (length l.values.items);
}

abbrev pub decreases-elements : goal.decreases-elements
decreases-elements l = l.segment.in_memory - l.at
