use Rattle.std.proofs.Common.{flat_map, length, sym, arith}
use Rattle.std.proofs.lemmas.Bool.{lt-ltb}
use Rattle.elf_load.proofs.SegmentLemmas.{counted_next, none_behind, segment_next}
use Rattle.elf_load.specs.Elements.{elements_of}
use Rattle.elf_load.specs.Elf.{elements_most, is_bad_segment}
use Rattle.elf_load.proofs.count.are_too_many.Goals as goal

pub returns-then-count-room : goal.returns-then-count-room
returns-then-count-room c = λ file fine.
    let so_far = c.loop-segment.invariant.taken file fine in
    let more = counted_next file _ _ _ _ (segment_next c.args.segments.now c.loop-segment.segment-index _ c.loop-segment-test.true) so_far.0
    c.element_count-count.ensures in
    sym (lt-ltb elements_most (length (flat_map (elements_of file) c.args.segments.now)) (omega (arith, so_far.1, more, c.if-count-room.true)))

pub loop-segment-preserved : goal.loop-segment-preserved
loop-segment-preserved c = record {
  most = omega (arith, c.loop-segment.invariant.most);
  taken = λ file fine.
      let so_far = c.loop-segment.invariant.taken file fine in
      let here = segment_next c.args.segments.now c.loop-segment.segment-index _ c.loop-segment-test.true in
      let more = counted_next file _ _ _ _ here so_far.0 c.element_count-count.ensures in
      (none_behind (is_bad_segment (length file)) _ _ _ here so_far.0, omega (arith, so_far.1, more, c.if-count-room.false));
}
