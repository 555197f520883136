use Rattle.std.proofs.Common.{◌≤◌, ◌+◌, ◌-◌, ◌++◌, drop, flat_map}
use Rattle.elf_load.specs.Elements.{bytes_of, cut, elements_of}
use Rattle.elf_load.specs.Elf.{elements}
use Rattle.elf_load.specs.Fields.{segments_of}
use Rattle.elf_load.specs.Runs.{calls_from, calls_most}
use Rattle.elf_load.proofs.CallLemmas.{calls_of}
use Rattle.elf_load.proofs.Going.{Going}
use Rattle.elf_load.proofs.loading.load_elf.Given as goal

-- the elements of the segments behind are still to be stored
abbrev pub invariant-segments : goal.invariant-segments
invariant-segments g l =
    Going (calls_most (segments_of l.file)) (calls_of (drop l.segment-index l.segments)) (elements l.file)
    (flat_map (elements_of l.file) (drop l.segment-index l.segments)) (g.D.Dmi.seen l.fn.link) (g.D.Dmi.seen l.link)

-- and in the segment those behind the bytes that are done
abbrev pub invariant-runs : goal.invariant-runs
invariant-runs g l = record {
  within : l.done ≤ l.segment.in_memory;
  going : Going (calls_most (segments_of l.file))
      (calls_from (l.segment.address + l.done) (l.segment.in_memory - l.done) + calls_of (drop (l.segment-index + 1) l.segments)) (elements l.file)
      (cut (l.segment.address + l.done) (drop l.done (bytes_of l.file l.segment)) ++ flat_map (elements_of l.file) (drop (l.segment-index + 1) l.segments))
      (g.D.Dmi.seen l.fn.link) (g.D.Dmi.seen l.link);
}

abbrev pub decreases-runs : goal.decreases-runs
decreases-runs g l = l.segment.in_memory - l.done
