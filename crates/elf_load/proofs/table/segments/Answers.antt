use Rattle.std.proofs.Common.{◌≡◌, ◌∙◌, ◌+◌, ◌-◌, ◌++◌, ◌∷◌, [], sym, ap, arith}
use Rattle.std.specs.List.{list_any}
use Rattle.elf_load.proofs.SegmentLemmas.{any_behind, any_here, load_kept, load_skipped, moved_on}
use Rattle.elf_load.specs.Elf.{is_bad_segment}
use Rattle.elf_load.specs.Fields.{load_segments, segment_of}
use Rattle.elf_load.proofs.table.segments.Goals as goal

pub loop-preserved-then-not-is_loaded : goal.loop-preserved-then-not-is_loaded
loop-preserved-then-not-is_loaded c =
    let skipped : load_segments (c.args.count - c.loop.counter) c.loop.rest.now
    ≡ load_segments (c.args.count - (c.loop.counter + 1)) c.split_at.result.1.now =
    load_skipped (c.args.count - c.loop.counter) (c.args.count - (c.loop.counter + 1)) c.loop.rest.now c.split_at.result.0.now
    c.split_at.result.1.now (omega arith) c.split_at.ensures.front c.split_at.ensures.back (sym c.is_loaded.ensures ∙ c.if-not-is_loaded.true) in
    record {
      whole = omega (arith, c.loop.invariant.whole, c.split_at.ensures.back_len);
      few = omega (arith, c.loop.invariant.few);
      taken = ap (λ l. c.loop.segments.items ++ l) (sym skipped) ∙ c.loop.invariant.taken;
      fine = c.loop.invariant.fine ∙ ap (list_any (is_bad_segment c.args.file_size)) skipped;
    }

pub returns-then-is_bad-clause-none : goal.returns-then-is_bad-clause-none
returns-then-is_bad-clause-none c =
    let kept : load_segments (c.args.count - c.loop.counter) c.loop.rest.now
    ≡ segment_of c.split_at.result.0.now ∷ load_segments (c.args.count - (c.loop.counter + 1)) c.split_at.result.1.now =
    load_kept (c.args.count - c.loop.counter) (c.args.count - (c.loop.counter + 1)) c.loop.rest.now c.split_at.result.0.now
    c.split_at.result.1.now (omega arith) c.split_at.ensures.front c.split_at.ensures.back (sym c.is_loaded.ensures ∙ c.if-not-is_loaded.false) in
    c.loop.invariant.fine
    ∙ any_here (is_bad_segment c.args.file_size) (segment_of c.split_at.result.0.now) _ _ kept
    (ap (is_bad_segment c.args.file_size) (sym c.segment-next.ensures) ∙ sym c.is_bad.ensures ∙ c.if-is_bad.true)

pub loop-preserved : goal.loop-preserved
loop-preserved c =
    let kept : load_segments (c.args.count - c.loop.counter) c.loop.rest.now
    ≡ segment_of c.split_at.result.0.now ∷ load_segments (c.args.count - (c.loop.counter + 1)) c.split_at.result.1.now =
    load_kept (c.args.count - c.loop.counter) (c.args.count - (c.loop.counter + 1)) c.loop.rest.now c.split_at.result.0.now
    c.split_at.result.1.now (omega arith) c.split_at.ensures.front c.split_at.ensures.back (sym c.is_loaded.ensures ∙ c.if-not-is_loaded.false) in
    record {
      whole = omega (arith, c.loop.invariant.whole, c.split_at.ensures.back_len);
      few = omega (arith, c.loop.invariant.few, c.push.ensures.len);
      taken = moved_on c.loop.segments.items c.push.new.self.items _ _ (segment_of c.split_at.result.0.now)
          (c.push.ensures.items ∙ ap (λ s. c.loop.segments.items ++ s ∷ []) c.segment-next.ensures) kept ∙ c.loop.invariant.taken;
      fine = c.loop.invariant.fine
          ∙ any_behind (is_bad_segment c.args.file_size) (segment_of c.split_at.result.0.now) _ _ kept
          (ap (is_bad_segment c.args.file_size) (sym c.segment-next.ensures) ∙ sym c.is_bad.ensures ∙ c.if-is_bad.false);
    }
