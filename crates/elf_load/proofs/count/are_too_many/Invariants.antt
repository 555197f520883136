use Rattle.std.proofs.Common.{◌≡◌, ◌+◌, ◌≤◌, ℕ, List, drop, false, flat_map, length}
use Rattle.std.specs.List.{list_any}
use Rattle.elf_load.specs.Elements.{elements_of}
use Rattle.elf_load.specs.Elf.{elements_most, is_bad_segment}
use Rattle.elf_load.proofs.count.are_too_many.Given as goal

-- the elements of the segments so far have taken what is not left of the room
abbrev pub invariant-loop-segment : goal.invariant-loop-segment
invariant-loop-segment l = record {
  most : l.room ≤ elements_most;
  taken : (file : List ℕ) → list_any (is_bad_segment (length file)) l.segments ≡ false
      → (list_any (is_bad_segment (length file)) (drop l.segment-index l.segments) ≡ false)
      × (length (flat_map (elements_of file) l.segments) + l.room
      ≡ elements_most + length (flat_map (elements_of file) (drop l.segment-index l.segments)));
}
