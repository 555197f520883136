use Rattle.std.proofs.Common.{◌≡◌, ◌∙◌, ◌+◌, ◌-◌, ◌*◌, ◌++◌, ℕ, List, [], ap, append_assoc, arith, drop, flat_map, get_or, length, subst, sym}
use Rattle.debug_model.specs.Kept.{DmiSeen}
use Rattle.rv_model.specs.Size.{count_of}
use Rattle.elf_load.specs.declared.element.Element.{Element}
use Rattle.elf_load.specs.declared.file.Segment.{Segment}
use Rattle.elf_load.specs.declared.run.Run.{Run}
use Rattle.elf_load.specs.Elements.{bytes_of, cut, elements_of}
use Rattle.elf_load.specs.Elf.{elements, memory_size}
use Rattle.elf_load.specs.Fields.{segments_of}
use Rattle.elf_load.specs.Runs.{calls_from, calls_most, elements_in}
use Rattle.elf_load.proofs.CallLemmas.{calls_of, calls_within, rest_of_calls}
use Rattle.elf_load.proofs.Failing.{err_carried, failed_cut, failed_keeps, failed_left, failed_made, failed_never, failed_rises, keeps_carried}
use Rattle.elf_load.proofs.Going.{Going, end_keeps, end_made, end_rises, end_stored, going_as, going_on, going_start}
use Rattle.elf_load.proofs.SoundLemmas.{memory_fits, memory_most, rest_is_none, rest_of_elements, segment_is_done, segment_lies, segment_small}
use Rattle.elf_load.proofs.loading.load_elf.Goals as goal

-- ---- the segments

pub segments-init : goal.segments-init
segments-init g c =
    let is : c.as_slice-segments.result.now ≡ segments_of c.args.file.now = c.as_slice-segments.ensures.value ∙ c.requires.read.segments_are in
    going_start (calls_most (segments_of c.args.file.now)) (calls_of c.as_slice-segments.result.now) (elements c.args.file.now)
    (flat_map (elements_of c.args.file.now) c.as_slice-segments.result.now) (g.D.Dmi.seen c.args.link.now)
    (ap (flat_map (elements_of c.args.file.now)) is)
    (omega (arith, ap calls_of is, calls_within (segments_of c.args.file.now))) c.requires.callable c.requires.ready

pub runs-init : goal.runs-init
runs-init g c =
    let none : Segment = record { offset = 0; address = 0; in_file = 0; in_memory = 0 } in
    let s : Segment = get_or c.as_slice-segments.result.now c.segments.segment-index none in
    record {
      within = omega arith;
      going = going_as (calls_most (segments_of c.args.file.now)) (calls_of (drop c.segments.segment-index c.as_slice-segments.result.now))
          (calls_from (s.address + 0) (s.in_memory - 0) + calls_of (drop (c.segments.segment-index + 1) c.as_slice-segments.result.now))
          (elements c.args.file.now) (flat_map (elements_of c.args.file.now) (drop c.segments.segment-index c.as_slice-segments.result.now))
          (cut (s.address + 0) (drop 0 (bytes_of c.args.file.now s))
          ++ flat_map (elements_of c.args.file.now) (drop (c.segments.segment-index + 1) c.as_slice-segments.result.now))
          (g.D.Dmi.seen c.args.link.now) (g.D.Dmi.seen c.segments.link)
          (rest_of_elements c.args.file.now c.as_slice-segments.result.now c.segments.segment-index none c.segments-test.true)
          (omega (arith, rest_of_calls c.as_slice-segments.result.now c.segments.segment-index none c.segments-test.true)) c.segments.invariant;
    }

pub segments-preserved : goal.segments-preserved
segments-preserved g c =
    going_as _ _ _ (elements c.args.file.now) _ _ (g.D.Dmi.seen c.args.link.now) (g.D.Dmi.seen c.runs.link)
    (segment_is_done c.args.file.now _ c.runs.done _
    (segment_lies c.args.file.now c.args.elf.now c.as_slice-segments.result.now c.segments.segment-index _ c.requires.read
    c.as_slice-segments.ensures.value c.segments-test.true)
    c.runs-test.false)
    (omega arith)
    c.runs.invariant.going

-- ---- a run

-- how many bytes a run has
span : (len from count n size : ℕ) → len ≡ n → from ≡ count → count ≡ size → len * from ≡ n * size
span len from count n size a b c = ap (λ k. k * from) a ∙ ap (λ k. n * k) (b ∙ c)

-- the run is the first of what is left
run_first : (file : List ℕ) (s : Segment) (most done : ℕ) (r : Run) (all behind : List Element) (calls : ℕ) (old new : DmiSeen)
    → cut (s.address + done) (drop done (bytes_of file s)) ≡ elements_in r ++ cut (s.address + (done + length r.values.items * count_of r.size))
    (drop (done + length r.values.items * count_of r.size) (bytes_of file s))
    → Going most (calls_from (s.address + done) (s.in_memory - done) + calls) all (cut (s.address + done) (drop done (bytes_of file s)) ++ behind) old new
    → Going most (calls_from (s.address + done) (s.in_memory - done) + calls) all
    (elements_in r ++ (cut (s.address + (done + length r.values.items * count_of r.size))
    (drop (done + length r.values.items * count_of r.size) (bytes_of file s)) ++ behind)) old new
run_first file s most done r all behind calls old new next going =
    going_as most _ _ all _ _ old new
    (ap (λ (es : List Element). es ++ behind) next
    ∙ append_assoc (elements_in r) (cut (s.address + (done + length r.values.items * count_of r.size))
    (drop (done + length r.values.items * count_of r.size) (bytes_of file s))) behind)
    (omega arith) going

-- a number of bytes that is the same
run_counted : (file : List ℕ) (s : Segment) (most n m done : ℕ) (all behind : List Element) (calls : ℕ) (old new : DmiSeen) → n ≡ m
    → Going most (calls_from (s.address + (done + n)) (s.in_memory - (done + n)) + calls) all
    (cut (s.address + (done + n)) (drop (done + n) (bytes_of file s)) ++ behind) old new
    → Going most (calls_from (s.address + (done + m)) (s.in_memory - (done + m)) + calls) all
    (cut (s.address + (done + m)) (drop (done + m) (bytes_of file s)) ++ behind) old new
run_counted file s most n m done all behind calls old new is going =
    subst (λ k. Going most (calls_from (s.address + (done + k)) (s.in_memory - (done + k)) + calls) all
    (cut (s.address + (done + k)) (drop (done + k) (bytes_of file s)) ++ behind) old new) is going

pub run_at-run-requires : goal.run_at-run-requires
run_at-run-requires g c =
    let l = segment_lies c.args.file.now c.args.elf.now c.as_slice-segments.result.now c.segments.segment-index _ c.requires.read
    c.as_slice-segments.ensures.value c.segments-test.true in
    record { inside = c.runs-test.true; grows = l.grows; lies = l.in_file; ends = l.in_addresses }

pub bus_store_values-requires : goal.bus_store_values-requires
bus_store_values-requires g c =
    let none : Segment = record { offset = 0; address = 0; in_file = 0; in_memory = 0 } in
    let s : Segment = get_or c.as_slice-segments.result.now c.segments.segment-index none in
    let l = segment_lies c.args.file.now c.args.elf.now c.as_slice-segments.result.now c.segments.segment-index none c.requires.read
    c.as_slice-segments.ensures.value c.segments-test.true in
    let r : Run = c.run_at-run.result in
    let long : length c.deref.result.now ≡ length r.values.items = ap length c.deref.ensures.0 in
    let ends : length c.deref.result.now * count_of r.size ≡ length r.values.items * count_of r.size = ap (λ n. n * count_of r.size) long in
    record {
      callable = c.runs.invariant.going.callable;
      ready = c.runs.invariant.going.ready;
      aligned = c.run_at-run.ensures.aligned;
      some = omega (arith, long, c.run_at-run.ensures.some);
      room = omega (arith, long, c.run_at-run.ensures.room);
      ends = omega (arith, ends, c.run_at-run.ensures.starts, c.run_at-run.ensures.within, l.in_addresses);
    }

pub overflow_mul-done : goal.overflow_mul-done
overflow_mul-done g c =
    let none : Segment = record { offset = 0; address = 0; in_file = 0; in_memory = 0 } in
    let small = segment_small c.args.file.now c.args.elf.now c.as_slice-segments.result.now c.segments.segment-index none c.requires.read
    c.as_slice-segments.ensures.value c.segments-test.true in
    omega (arith, small, c.run_at-run.ensures.within, span c.len.result c.from.result c.count.result _ _ c.len.ensures.value c.from.ensures c.count.ensures)

pub overflow_add-done : goal.overflow_add-done
overflow_add-done g c =
    let none : Segment = record { offset = 0; address = 0; in_file = 0; in_memory = 0 } in
    let small = segment_small c.args.file.now c.args.elf.now c.as_slice-segments.result.now c.segments.segment-index none c.requires.read
    c.as_slice-segments.ensures.value c.segments-test.true in
    omega (arith, small, c.run_at-run.ensures.within, span c.len.result c.from.result c.count.result _ _ c.len.ensures.value c.from.ensures c.count.ensures)

pub runs-preserved : goal.runs-preserved
runs-preserved g c =
    let none : Segment = record { offset = 0; address = 0; in_file = 0; in_memory = 0 } in
    let s : Segment = get_or c.as_slice-segments.result.now c.segments.segment-index none in
    let bytes : List ℕ = bytes_of c.args.file.now s in
    let r : Run = c.run_at-run.result in
    let done : ℕ = c.runs.done in
    let all : List Element = elements c.args.file.now in
    let most : ℕ = calls_most (segments_of c.args.file.now) in
    let behind : List Element = flat_map (elements_of c.args.file.now) (drop (c.segments.segment-index + 1) c.as_slice-segments.result.now) in
    let calls : ℕ = calls_of (drop (c.segments.segment-index + 1) c.as_slice-segments.result.now) in
    let counted : length r.values.items * count_of r.size ≡ c.len.result * c.from.result =
    sym (span c.len.result c.from.result c.count.result _ _ c.len.ensures.value c.from.ensures c.count.ensures) in
    let here = run_first c.args.file.now s most done r all behind calls _ _ c.run_at-run.ensures.next c.runs.invariant.going in
    record {
      within = omega (arith, counted, c.run_at-run.ensures.within);
      going = run_counted c.args.file.now s most (length r.values.items * count_of r.size) (c.len.result * c.from.result) done all behind calls _ _ counted
          (going_on most (calls_from (s.address + done) (s.in_memory - done) + calls)
          (calls_from (s.address + (done + length r.values.items * count_of r.size)) (s.in_memory - (done + length r.values.items * count_of r.size)) + calls)
          all (cut (s.address + (done + length r.values.items * count_of r.size)) (drop (done + length r.values.items * count_of r.size) bytes) ++ behind)
          r c.deref.result.now (g.D.Dmi.seen c.args.link.now) (g.D.Dmi.seen c.runs.link) (g.D.Dmi.seen c.bus_store_values.new.link) here
          (omega (arith, c.run_at-run.ensures.calls)) c.deref.ensures.0 c.run_at-run.ensures.some c.in_ok-bus_store_values.ensures.stored
          c.in_ok-bus_store_values.ensures.stores c.bus_store_values.ensures.rises c.in_ok-bus_store_values.ensures.ready
          c.bus_store_values.ensures.keeps.later c.bus_store_values.ensures.keeps.fixed c.in_ok-bus_store_values.ensures.keeps.behind);
    }

-- ---- the end

pub bytes_in_memory-requires : goal.bytes_in_memory-requires
bytes_in_memory-requires g c =
    memory_fits c.args.file.now c.args.elf.now c.as_slice-segments.result.now c.requires.read c.as_slice-segments.ensures.value

pub returns : goal.returns
returns g c =
    let ended : Going (calls_most (segments_of c.args.file.now)) 0 (elements c.args.file.now) [] (g.D.Dmi.seen c.args.link.now) (g.D.Dmi.seen c.segments.link) =
    going_as _ _ 0 (elements c.args.file.now) _ [] (g.D.Dmi.seen c.args.link.now) (g.D.Dmi.seen c.segments.link)
    (rest_is_none c.args.file.now c.as_slice-segments.result.now c.segments.segment-index c.segments-test.false) (omega arith) c.segments.invariant in
    record {
      size = c.bytes_in_memory.ensures ∙ ap memory_size c.as_slice-segments.ensures.value;
      most = omega (
        arith,
        c.bytes_in_memory.ensures,
        memory_most c.args.file.now c.args.elf.now c.as_slice-segments.result.now c.requires.read
            c.as_slice-segments.ensures.value,
      );
      stored = end_stored _ _ (elements c.args.file.now) _ _ ended;
      made = end_made _ _ (elements c.args.file.now) _ _ ended;
      left = tt;
      failed = tt;
      cut = tt;
      ready = ended.ready;
      ready_again = tt;
      rises = end_rises _ _ (elements c.args.file.now) _ _ ended;
      never = tt;
      keeps = end_keeps _ _ (elements c.args.file.now) _ _ c.bytes_in_memory.result ended;
    }

-- ---- a call that failed

pub returns-in_err-bus_store_values-clause-left : goal.returns-in_err-bus_store_values-clause-left
returns-in_err-bus_store_values-clause-left g c =
    let none : Segment = record { offset = 0; address = 0; in_file = 0; in_memory = 0 } in
    let s : Segment = get_or c.as_slice-segments.result.now c.segments.segment-index none in
    let here = run_first c.args.file.now s (calls_most (segments_of c.args.file.now)) c.runs.done c.run_at-run.result (elements c.args.file.now)
    (flat_map (elements_of c.args.file.now) (drop (c.segments.segment-index + 1) c.as_slice-segments.result.now))
    (calls_of (drop (c.segments.segment-index + 1) c.as_slice-segments.result.now)) (g.D.Dmi.seen c.args.link.now) (g.D.Dmi.seen c.runs.link)
    c.run_at-run.ensures.next c.runs.invariant.going in
    err_carried c.from_residual.result c.in_err-bus_store_values.field-0.0 _ c.from_residual.ensures.1
    (failed_left (calls_most (segments_of c.args.file.now)) _ (elements c.args.file.now) _ c.run_at-run.result c.deref.result.now
    (g.D.Dmi.seen c.args.link.now) (g.D.Dmi.seen c.runs.link) (g.D.Dmi.seen c.bus_store_values.new.link).far
    c.in_err-bus_store_values.field-0.0 here c.deref.ensures.0 c.in_err-bus_store_values.ensures.left)

pub returns-in_err-bus_store_values-clause-failed : goal.returns-in_err-bus_store_values-clause-failed
returns-in_err-bus_store_values-clause-failed g c =
    let none : Segment = record { offset = 0; address = 0; in_file = 0; in_memory = 0 } in
    let s : Segment = get_or c.as_slice-segments.result.now c.segments.segment-index none in
    let here = run_first c.args.file.now s (calls_most (segments_of c.args.file.now)) c.runs.done c.run_at-run.result (elements c.args.file.now)
    (flat_map (elements_of c.args.file.now) (drop (c.segments.segment-index + 1) c.as_slice-segments.result.now))
    (calls_of (drop (c.segments.segment-index + 1) c.as_slice-segments.result.now)) (g.D.Dmi.seen c.args.link.now) (g.D.Dmi.seen c.runs.link)
    c.run_at-run.ensures.next c.runs.invariant.going in
    err_carried c.from_residual.result c.in_err-bus_store_values.field-0.0 _ c.from_residual.ensures.1
    (failed_made (calls_most (segments_of c.args.file.now)) _ (elements c.args.file.now) _ c.run_at-run.result c.deref.result.now
    (g.D.Dmi.seen c.args.link.now) (g.D.Dmi.seen c.runs.link) (g.D.Dmi.seen c.bus_store_values.new.link)
    c.in_err-bus_store_values.field-0.0 here c.deref.ensures.0 (omega (arith, c.run_at-run.ensures.calls)) c.bus_store_values.ensures.keeps.later
    c.in_err-bus_store_values.ensures.refused c.in_err-bus_store_values.ensures.left c.in_err-bus_store_values.ensures.causes
    c.in_err-bus_store_values.ensures.cut)

pub returns-in_err-bus_store_values-clause-cut : goal.returns-in_err-bus_store_values-clause-cut
returns-in_err-bus_store_values-clause-cut g c =
    let none : Segment = record { offset = 0; address = 0; in_file = 0; in_memory = 0 } in
    let s : Segment = get_or c.as_slice-segments.result.now c.segments.segment-index none in
    let here = run_first c.args.file.now s (calls_most (segments_of c.args.file.now)) c.runs.done c.run_at-run.result (elements c.args.file.now)
    (flat_map (elements_of c.args.file.now) (drop (c.segments.segment-index + 1) c.as_slice-segments.result.now))
    (calls_of (drop (c.segments.segment-index + 1) c.as_slice-segments.result.now)) (g.D.Dmi.seen c.args.link.now) (g.D.Dmi.seen c.runs.link)
    c.run_at-run.ensures.next c.runs.invariant.going in
    err_carried c.from_residual.result c.in_err-bus_store_values.field-0.0 _ c.from_residual.ensures.1
    (failed_cut (calls_most (segments_of c.args.file.now)) _ (elements c.args.file.now) _ c.run_at-run.result c.deref.result.now
    (g.D.Dmi.seen c.args.link.now) (g.D.Dmi.seen c.runs.link) (g.D.Dmi.seen c.bus_store_values.new.link).far
    c.in_err-bus_store_values.field-0.0 here c.deref.ensures.0 c.in_err-bus_store_values.ensures.cut)

pub returns-in_err-bus_store_values-clause-ready_again : goal.returns-in_err-bus_store_values-clause-ready_again
returns-in_err-bus_store_values-clause-ready_again g c =
    err_carried c.from_residual.result c.in_err-bus_store_values.field-0.0 _ c.from_residual.ensures.1
    c.in_err-bus_store_values.ensures.ready_again

pub returns-in_err-bus_store_values-clause-rises : goal.returns-in_err-bus_store_values-clause-rises
returns-in_err-bus_store_values-clause-rises g c =
    let none : Segment = record { offset = 0; address = 0; in_file = 0; in_memory = 0 } in
    let s : Segment = get_or c.as_slice-segments.result.now c.segments.segment-index none in
    let here = run_first c.args.file.now s (calls_most (segments_of c.args.file.now)) c.runs.done c.run_at-run.result (elements c.args.file.now)
    (flat_map (elements_of c.args.file.now) (drop (c.segments.segment-index + 1) c.as_slice-segments.result.now))
    (calls_of (drop (c.segments.segment-index + 1) c.as_slice-segments.result.now)) (g.D.Dmi.seen c.args.link.now) (g.D.Dmi.seen c.runs.link)
    c.run_at-run.ensures.next c.runs.invariant.going in
    failed_rises (calls_most (segments_of c.args.file.now)) _ (elements c.args.file.now) _ c.run_at-run.result c.deref.result.now
    (g.D.Dmi.seen c.args.link.now) (g.D.Dmi.seen c.runs.link) (g.D.Dmi.seen c.bus_store_values.new.link)
    here c.deref.ensures.0 (omega (arith, c.run_at-run.ensures.calls)) c.bus_store_values.ensures.rises

pub returns-in_err-bus_store_values-clause-never : goal.returns-in_err-bus_store_values-clause-never
returns-in_err-bus_store_values-clause-never g c =
    err_carried c.from_residual.result c.in_err-bus_store_values.field-0.0 _ c.from_residual.ensures.1
    (failed_never _ _ _ _ (g.D.Dmi.seen c.args.link.now) (g.D.Dmi.seen c.runs.link) c.in_err-bus_store_values.field-0.0 c.runs.invariant.going
    c.in_err-bus_store_values.ensures.never)

pub returns-in_err-bus_store_values-clause-keeps : goal.returns-in_err-bus_store_values-clause-keeps
returns-in_err-bus_store_values-clause-keeps g c =
    let none : Segment = record { offset = 0; address = 0; in_file = 0; in_memory = 0 } in
    let s : Segment = get_or c.as_slice-segments.result.now c.segments.segment-index none in
    let here = run_first c.args.file.now s (calls_most (segments_of c.args.file.now)) c.runs.done c.run_at-run.result (elements c.args.file.now)
    (flat_map (elements_of c.args.file.now) (drop (c.segments.segment-index + 1) c.as_slice-segments.result.now))
    (calls_of (drop (c.segments.segment-index + 1) c.as_slice-segments.result.now)) (g.D.Dmi.seen c.args.link.now) (g.D.Dmi.seen c.runs.link)
    c.run_at-run.ensures.next c.runs.invariant.going in
    keeps_carried (elements c.args.file.now) (g.D.Dmi.seen c.args.link.now) (g.D.Dmi.seen c.bus_store_values.new.link) c.from_residual.result
    c.in_err-bus_store_values.field-0.0 c.from_residual.ensures.1
    (failed_keeps (calls_most (segments_of c.args.file.now)) _ (elements c.args.file.now) _ c.run_at-run.result (g.D.Dmi.seen c.args.link.now)
    (g.D.Dmi.seen c.runs.link) (g.D.Dmi.seen c.bus_store_values.new.link) c.in_err-bus_store_values.field-0.0 here
    c.bus_store_values.ensures.keeps.later c.bus_store_values.ensures.keeps.fixed c.in_err-bus_store_values.ensures.keeps.behind)
