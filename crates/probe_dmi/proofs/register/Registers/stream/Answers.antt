use Rattle.std.proofs.Common.{◌∙◌, ◌+◌, ◌-◌, ◌*◌, length, refl, ap, arith, rules}
use Rattle.std.proofs.lemmas.List.Elements.{All-drop}
use Rattle.std.proofs.Common.{List, All, sym, subst}
use Rattle.debug_model.specs.Dmi.{IsOperation}
use Rattle.debug_model.specs.Scan.{WhereTold}
use Rattle.debug_model.specs.declared.data_register.DataRegister.TheVariants.{Dmi}
use Rattle.debug_model.specs.declared.dmi_op.DmiOp.{DmiOp}
use Rattle.jt_base.proofs.Pieces.{on_err}
use Rattle.probe_dmi.specs.Registers.{Prepared, dmi_bits}
use Rattle.probe_dmi.proofs.Asking.{streams_begun, streams_ignored, streams_out, streams_went}
use Rattle.probe_dmi.proofs.Conditions.{can_operate, width_kept}
use Rattle.probe_dmi.proofs.Heard.{dmi_through, scan_cause}
use Rattle.probe_dmi.proofs.ManyHeard.{heard_all, heard_begun, heard_busy_again, heard_many_busy, heard_many_failed, heard_on, many_cause, stream_through}
use Rattle.probe_dmi.specs.Rises.{pauses}
use Rattle.probe_dmi.proofs.Bounds.{bounded_of, least_of, never_lost, never_wire}
use Rattle.probe_dmi.proofs.Rising.{resets_few, resets_idle, rose_more}
use Rattle.probe_dmi.proofs.Scans.{chosen_of}
use Rattle.probe_dmi.proofs.Spending.{closed_cut, closed_scan, closed_spent, closed_uncleared, closed_waited, never_busy, spent_as, spent_begun}
use Rattle.probe_dmi.proofs.Spending.{spent_cleared, spent_more, spent_next, still_spent}
use Rattle.probe_dmi.proofs.StreamEnds.{spent_on}
use Rattle.probe_dmi.proofs.StreamSpending.{again_clocks, again_scans, clocks_spent, ends_clocks, ends_scans, last_clocks, last_scans, next_clocks}
use Rattle.probe_dmi.proofs.StreamSpending.{next_scans, none_clocks, none_scans, scans_spent, waits_few}
use Rattle.probe_dmi.proofs.StreamEnds.{all_clean, all_failed_cut, all_failed_lost, all_operated, first_as, first_cut_as, is_flying, rest_is, rest_length}
use Rattle.probe_dmi.proofs.StreamEnds.{room_done, room_on, still_cut, stream_again, stream_cleared, stream_cut, stream_done, stream_failed, stream_found}
use Rattle.probe_dmi.proofs.StreamEnds.{stream_stopped, stream_taken}
use Rattle.probe_dmi.proofs.Streams.{Streaming, stream_begun, streaming_clear, unbegun}
use Rattle.probe_dmi.proofs.register.Registers.stream.Goals as goal

pub returns-in_err-select-clause-cut : goal.returns-in_err-select-clause-cut
returns-in_err-select-clause-cut g c = on_err _ (unbegun c.args.ops.now _ _ c.requires.link.clean c.in_err-select.ensures.cut)

pub scans-init : goal.scans-init
scans-init g c = record {
  streaming = stream_begun c.args.ops.now c.args.results.now.items _ _ c.requires.empty c.requires.link.clean c.in_ok-select.ensures.prepared;
  spent = spent_as _ _ 0 _ 0 _ 0 _ _ (omega arith) (omega arith)
      (spent_more 2 17 _ _ _ _ _ _ _ (none_scans (length c.args.ops.now)) (none_clocks (length c.args.ops.now)) (spent_begun _ _ c.requires.link.clean
      (rose_more _ _ 2 17 _ _ c.select.ensures.rises (omega (arith, resets_few c.args.self.now.state)) (omega (arith, resets_few c.args.self.now.state)))
      c.in_ok-select.ensures.prepared));
  share = c.clocks_before-clocks.ensures.few;
  waited = λ some. absurd (omega (arith, some));
  heard = heard_begun (length c.args.ops.now) c.args.results.now.items _ _ c.requires.empty c.select.ensures.coming;
  asked = streams_begun c.args.self.now.state c.args.abits c.args.ops.now (g.S.Scan.seen c.args.self.now.scan).asked _ c.in_ok-select.ensures.asked;
  rests = c.in_ok-select.ensures.keeps.behind;
  chosen = chosen_of Dmi _ _ c.in_ok-select.ensures.prepared;
  idle = c.in_ok-select.ensures.state;
  width = width_kept (Prepared Dmi) c.args.abits _ _ c.in_ok-select.ensures.prepared c.requires.width;
  small = c.requires.operations;
  started = λ e. c.requires.some;
  room = omega (arith, ap length c.requires.empty);
  few = omega arith;
  waits = omega (arith, c.clocks_before-clocks.ensures.few, waits_few (length c.args.ops.now));
  pace = c.requires.pace;
  paced = refl;
  later = c.select.ensures.keeps.later;
  fixed = c.select.ensures.keeps.fixed;
}

pub returns-in_err-out-clause-cut : goal.returns-in_err-out-clause-cut
returns-in_err-out-clause-cut g c = on_err _
    (stream_cut c.args.ops.now c.scans.results.items c.scans.rest.now c.scans.in_flight c.scans.busy _ (g.S.Scan.seen c.scans.self.scan).far _
    c.scans.invariant.small c.scans.invariant.streaming
    (first_cut_as c.scans.rest.now c.first_scan.result (g.S.Scan.seen c.scans.self.scan).far _ c.first_scan.ensures c.in_err-out.ensures.cut))

pub returns-in_err-out-clause-cause : goal.returns-in_err-out-clause-cause
returns-in_err-out-clause-cause g c = many_cause (length c.args.ops.now) _ _ _ _ _ c.in_err-out.field-0.0 _ c.from_residual-in_err-out.ensures.1
    (scan_cause _ (g.S.Scan.seen c.scans.self.scan).fault_count _ _ _ (g.S.Scan.seen c.scans.self.scan).coming c.in_err-out.field-0.0
    c.scans.invariant.later c.exchange_behind.ensures.keeps.later
    (stream_through (length c.args.ops.now) (length c.scans.rest.now) c.scans.busy c.scans.in_flight c.scans.results.items _ _ c.scans.invariant.heard)
    c.in_err-out.ensures.cause)

pub returns-then-out-eq-STATUS_FAILED-clause-cut : goal.returns-then-out-eq-STATUS_FAILED-clause-cut
returns-then-out-eq-STATUS_FAILED-clause-cut g c =
    all_failed_cut c.args.ops.now _ _ (stream_failed c.args.ops.now c.scans.results.items c.scans.rest.now c.scans.in_flight c.scans.busy c.in_ok-out.out _
    (g.S.Scan.seen c.scans.self.scan).far _ c.if-out-eq-STATUS_FAILED.true c.scans.invariant.streaming
    (first_as c.scans.rest.now c.first_scan.result c.in_ok-out.out (g.S.Scan.seen c.scans.self.scan).far _ c.first_scan.ensures c.in_ok-out.ensures.scanned))

pub returns-then-out-eq-STATUS_FAILED-clause-cause : goal.returns-then-out-eq-STATUS_FAILED-clause-cause
returns-then-out-eq-STATUS_FAILED-clause-cause g c = (
  all_failed_lost c.args.ops.now _ _ (stream_failed c.args.ops.now c.scans.results.items c.scans.rest.now c.scans.in_flight c.scans.busy c.in_ok-out.out _
      (g.S.Scan.seen c.scans.self.scan).far _ c.if-out-eq-STATUS_FAILED.true c.scans.invariant.streaming
      (first_as c.scans.rest.now c.first_scan.result c.in_ok-out.out (g.S.Scan.seen c.scans.self.scan).far _ c.first_scan.ensures c.in_ok-out.ensures.scanned)),
  heard_many_failed (length c.args.ops.now) (length c.scans.rest.now) c.scans.busy c.scans.in_flight c.scans.results.items c.in_ok-out.out _
      (g.S.Scan.seen c.scans.self.scan).coming (g.S.Scan.seen c.exchange_behind.new.self.scan).coming c.scans-test.true c.if-out-eq-STATUS_FAILED.true
      c.scans.invariant.heard c.in_ok-out.ensures.heard,
)

pub returns-in_err-clear_again-clause-cut : goal.returns-in_err-clear_again-clause-cut
returns-in_err-clear_again-clause-cut g c =
    on_err _ (still_cut c.args.ops.now c.scans.results.items c.scans.rest.now c.scans.in_flight c.scans.busy _
    (g.S.Scan.seen c.exchange_behind.new.self.scan).far _
    (stream_again c.args.ops.now c.scans.results.items c.scans.rest.now c.scans.in_flight c.scans.busy c.in_ok-out.out _ (g.S.Scan.seen c.scans.self.scan).far
    _ c.if-out-ne-STATUS_DONE.true c.if-out-eq-STATUS_FAILED.false c.scans.invariant.streaming
    (first_as c.scans.rest.now c.first_scan.result c.in_ok-out.out (g.S.Scan.seen c.scans.self.scan).far _ c.first_scan.ensures c.in_ok-out.ensures.scanned))
    c.in_err-clear_again.ensures.cut)

pub returns-in_err-clear_again-clause-cause : goal.returns-in_err-clear_again-clause-cause
returns-in_err-clear_again-clause-cause g c =
    many_cause (length c.args.ops.now) _ _ _ _ _ c.in_err-clear_again.field-0.0 _ c.from_residual-in_err-clear_again.ensures.1
    (scan_cause _ (g.S.Scan.seen c.exchange_behind.new.self.scan).fault_count _ _ _ (g.S.Scan.seen c.exchange_behind.new.self.scan).coming
    c.in_err-clear_again.field-0.0
    (omega (arith, c.scans.invariant.later, c.exchange_behind.ensures.keeps.later)) c.clear_again.ensures.keeps.later
    (λ b w. stream_through (length c.args.ops.now) (length c.scans.rest.now) c.scans.busy c.scans.in_flight c.scans.results.items _ _ c.scans.invariant.heard b
    (dmi_through c.in_ok-out.out _ _ c.in_ok-out.ensures.heard b w)) c.in_err-clear_again.ensures.cause)

pub scans-preserved-then-out-ne-STATUS_DONE : goal.scans-preserved-then-out-ne-STATUS_DONE
scans-preserved-then-out-ne-STATUS_DONE g c =
    let u : WhereTold (Streaming c.args.ops.now c.scans.results.items c.scans.rest.now c.scans.in_flight (c.scans.busy + 1))
    (g.S.Scan.seen c.args.self.now.scan).far (g.S.Scan.seen c.clear_again.new.self.scan).far =
    stream_cleared c.args.ops.now c.scans.results.items c.scans.rest.now c.scans.in_flight c.scans.busy c.in_ok-clear_again.field-0 _
    (g.S.Scan.seen c.exchange_behind.new.self.scan).far _
    (stream_again c.args.ops.now c.scans.results.items c.scans.rest.now c.scans.in_flight c.scans.busy c.in_ok-out.out _ (g.S.Scan.seen c.scans.self.scan).far
    _ c.if-out-ne-STATUS_DONE.true c.if-out-eq-STATUS_FAILED.false c.scans.invariant.streaming
    (first_as c.scans.rest.now c.first_scan.result c.in_ok-out.out (g.S.Scan.seen c.scans.self.scan).far _ c.first_scan.ensures c.in_ok-out.ensures.scanned))
    c.in_ok-clear_again.ensures.scanned in
    record {
      streaming = u;
      spent = (spent_cleared (scans_spent (length c.args.ops.now) (length c.args.ops.now - length c.scans.rest.now) c.scans.busy + (pauses c.scans.clocks + 1))
          (clocks_spent (length c.args.ops.now) (length c.args.ops.now - length c.scans.rest.now) c.scans.busy + (c.scans.clocks + 46)) (46 * (length c.args.ops.now - length c.scans.rest.now)) (length c.args.ops.now - length c.scans.rest.now) c.scans.busy 3 59 (scans_spent (length c.args.ops.now) (length c.args.ops.now - length c.scans.rest.now) (c.scans.busy + 1))
          (clocks_spent (length c.args.ops.now) (length c.args.ops.now - length c.scans.rest.now) (c.scans.busy + 1)) c.in_ok-clear_again.field-0 _ (g.S.Scan.seen c.exchange_behind.new.self.scan) _
          (again_scans (length c.args.ops.now) (length c.args.ops.now - length c.scans.rest.now) c.scans.busy c.scans.clocks c.scans.invariant.share c.scans.invariant.waited)
          (again_clocks (length c.args.ops.now) (length c.args.ops.now - length c.scans.rest.now) c.scans.busy c.scans.clocks c.scans.invariant.share c.scans.invariant.waited) (c.exchange_behind.ensures.keeps.fixed ∙ c.scans.invariant.fixed) (still_spent (scans_spent (length c.args.ops.now) (length c.args.ops.now - length c.scans.rest.now) c.scans.busy) (clocks_spent (length c.args.ops.now) (length c.args.ops.now - length c.scans.rest.now) c.scans.busy)
          (46 * (length c.args.ops.now - length c.scans.rest.now)) (length c.args.ops.now - length c.scans.rest.now) c.scans.busy (pauses c.scans.clocks + 1) (c.scans.clocks + 46) (scans_spent (length c.args.ops.now) (length c.args.ops.now - length c.scans.rest.now) c.scans.busy + (pauses c.scans.clocks + 1))
          (clocks_spent (length c.args.ops.now) (length c.args.ops.now - length c.scans.rest.now) c.scans.busy + (c.scans.clocks + 46)) c.first_scan.result c.in_ok-out.out _ (g.S.Scan.seen c.scans.self.scan) _ (omega arith) (omega arith) c.scans.invariant.fixed
          (streaming_clear c.args.ops.now c.scans.results.items c.scans.rest.now c.scans.in_flight c.scans.busy (g.S.Scan.seen c.args.self.now.scan).far _ c.scans.invariant.streaming)
          c.if-out-ne-STATUS_DONE.true c.if-out-eq-STATUS_FAILED.false c.scans.invariant.spent c.exchange_behind.ensures.rises c.in_ok-out.ensures.scanned) (rose_more _ _ 3 59 _ _ c.clear_again.ensures.rises (omega (arith, resets_idle _ c.in_ok-out.ensures.state))
          (omega (arith, resets_idle _ c.in_ok-out.ensures.state))) c.in_ok-clear_again.ensures.scanned);
      share = omega arith;
      waited = λ some. refl;
      heard = heard_busy_again (length c.args.ops.now) (length c.scans.rest.now) c.scans.busy c.scans.in_flight c.scans.results.items c.in_ok-out.out
          c.in_ok-clear_again.field-0 _ (g.S.Scan.seen c.scans.self.scan).coming (g.S.Scan.seen c.exchange_behind.new.self.scan).coming _
          c.if-out-ne-STATUS_DONE.true c.if-out-eq-STATUS_FAILED.false c.scans.invariant.heard c.in_ok-out.ensures.heard c.in_ok-clear_again.ensures.heard;
      asked = streams_ignored c.args.self.now.state c.exchange_behind.new.self.state c.args.abits c.args.ops.now c.scans.rest.now c.scans.clocks
          c.first_scan.result (g.S.Scan.seen c.args.self.now.scan).asked (g.S.Scan.seen c.scans.self.scan).asked
          (g.S.Scan.seen c.exchange_behind.new.self.scan).asked _
          (omega (arith, c.scans.invariant.waits)) c.first_scan.ensures c.in_ok-out.ensures.state c.scans.invariant.asked c.in_ok-out.ensures.asked
          c.in_ok-clear_again.ensures.asked;
      rests = c.in_ok-clear_again.ensures.keeps.behind;
      chosen = c.in_ok-clear_again.ensures.chosen;
      idle = c.in_ok-clear_again.ensures.state;
      width = width_kept (Streaming c.args.ops.now c.scans.results.items c.scans.rest.now c.scans.in_flight (c.scans.busy + 1)) c.args.abits
          (g.S.Scan.seen c.args.self.now.scan).far _ u c.requires.width;
      small = c.scans.invariant.small;
      started = c.scans.invariant.started;
      room = c.scans.invariant.room;
      few = omega (arith, c.scans-test.true);
      waits = omega arith;
      pace = c.behind_busy.ensures.pace;
      paced = c.behind_busy.ensures.most ∙ c.scans.invariant.paced;
      later = omega (arith, c.scans.invariant.later, c.exchange_behind.ensures.keeps.later, c.clear_again.ensures.keeps.later);
      fixed = c.clear_again.ensures.keeps.fixed ∙ c.exchange_behind.ensures.keeps.fixed ∙ c.scans.invariant.fixed;
    }

pub returns-in_default-clause-count : goal.returns-in_default-clause-count
returns-in_default-clause-count g c = room_done c.scans.in_flight c.in_ok-out.out.value c.scans.results.items c.keep.new.results.items
    (length c.scans.rest.now) (length c.args.ops.now) c.keep.ensures.kept
    (is_flying c.scans.in_flight _ c.scans.invariant.started c.in_default.len_below) c.in_default.len_below c.scans.invariant.room

pub returns-in_default-clause-operated : goal.returns-in_default-clause-operated
returns-in_default-clause-operated g c =
    all_operated c.args.ops.now c.keep.new.results.items _ _
    (stream_done c.args.ops.now c.scans.results.items c.keep.new.results.items c.scans.rest.now c.scans.in_flight c.scans.busy c.in_ok-out.out
    (g.S.Scan.seen c.args.self.now.scan).far (g.S.Scan.seen c.scans.self.scan).far _ c.in_default.len_below
    (is_flying c.scans.in_flight _ c.scans.invariant.started c.in_default.len_below)
    c.if-out-ne-STATUS_DONE.false c.keep.ensures.kept c.scans.invariant.streaming
    (first_as c.scans.rest.now c.first_scan.result c.in_ok-out.out (g.S.Scan.seen c.scans.self.scan).far _ c.first_scan.ensures
    c.in_ok-out.ensures.scanned))

pub returns-in_default-clause-answers : goal.returns-in_default-clause-answers
returns-in_default-clause-answers g c = heard_all c.args.ops.now (length c.scans.rest.now) c.scans.busy c.scans.in_flight c.scans.results.items
    c.keep.new.results.items c.in_ok-out.out _ (g.S.Scan.seen c.scans.self.scan).coming _ c.scans-test.true c.if-out-ne-STATUS_DONE.false
    (is_flying c.scans.in_flight _ c.scans.invariant.started c.in_default.len_below) c.keep.ensures.kept (omega (arith, c.in_default.len_below))
    c.scans.invariant.heard c.in_ok-out.ensures.heard

pub returns-in_default-clause-asked : goal.returns-in_default-clause-asked
returns-in_default-clause-asked g c = streams_out c.args.self.now.state c.args.abits c.args.ops.now c.scans.rest.now c.scans.clocks c.first_scan.result
    (g.S.Scan.seen c.args.self.now.scan).asked (g.S.Scan.seen c.scans.self.scan).asked _ c.in_default.len_below
    (omega (arith, c.scans.invariant.waits)) c.first_scan.ensures c.scans.invariant.asked c.in_ok-out.ensures.asked

pub returns-in_default-clause-keeps : goal.returns-in_default-clause-keeps
returns-in_default-clause-keeps g c = let o =
    can_operate _ c.in_ok-out.ensures.keeps.behind
    (all_clean c.args.ops.now c.keep.new.results.items (g.S.Scan.seen c.args.self.now.scan).far _
    (stream_done c.args.ops.now c.scans.results.items c.keep.new.results.items c.scans.rest.now c.scans.in_flight c.scans.busy c.in_ok-out.out
    (g.S.Scan.seen c.args.self.now.scan).far (g.S.Scan.seen c.scans.self.scan).far _ c.in_default.len_below
    (is_flying c.scans.in_flight _ c.scans.invariant.started c.in_default.len_below)
    c.if-out-ne-STATUS_DONE.false c.keep.ensures.kept c.scans.invariant.streaming
    (first_as c.scans.rest.now c.first_scan.result c.in_ok-out.out (g.S.Scan.seen c.scans.self.scan).far _ c.first_scan.ensures
    c.in_ok-out.ensures.scanned))) in search rules

pub scans-preserved : goal.scans-preserved
scans-preserved g c =
    let u = stream_taken c.args.ops.now c.scans.results.items c.keep.new.results.items c.scans.rest.now _ c.scans.in_flight c.scans.busy c.in_ok-out.out
    (g.S.Scan.seen c.args.self.now.scan).far (g.S.Scan.seen c.scans.self.scan).far (g.S.Scan.seen c.exchange_behind.new.self.scan).far
    c.scans.invariant.small c.in-len1-up.len_at_least (rest_is c.scans.rest.now) c.if-out-ne-STATUS_DONE.false
    c.keep.ensures.kept c.scans.invariant.streaming
    (first_as c.scans.rest.now c.first_scan.result c.in_ok-out.out (g.S.Scan.seen c.scans.self.scan).far _ c.first_scan.ensures
    c.in_ok-out.ensures.scanned) in
    record {
      streaming = u;
      spent = spent_on c.args.ops.now c.scans.rest.now _ _ _ c.in-len1-up.len_at_least (rest_is c.scans.rest.now) (omega arith)
          (spent_next (scans_spent (length c.args.ops.now) (length c.args.ops.now - length c.scans.rest.now) c.scans.busy) (clocks_spent (length c.args.ops.now) (length c.args.ops.now - length c.scans.rest.now) c.scans.busy)
          (46 * (length c.args.ops.now - length c.scans.rest.now)) (length c.args.ops.now - length c.scans.rest.now) c.scans.busy (pauses c.scans.clocks + 1) (c.scans.clocks + 46)
          (scans_spent (length c.args.ops.now) ((length c.args.ops.now - length c.scans.rest.now) + 1) 0) (clocks_spent (length c.args.ops.now) ((length c.args.ops.now - length c.scans.rest.now) + 1) 0) c.first_scan.result c.in_ok-out.out _ (g.S.Scan.seen c.scans.self.scan) _
          (next_scans (length c.args.ops.now) (length c.args.ops.now - length c.scans.rest.now) c.scans.busy c.scans.clocks c.scans.invariant.share c.scans.invariant.waited)
          (next_clocks (length c.args.ops.now) (length c.args.ops.now - length c.scans.rest.now) c.scans.busy c.scans.clocks c.scans.invariant.share c.scans.invariant.waited) c.scans.invariant.fixed
          c.scans.invariant.spent c.exchange_behind.ensures.rises c.in_ok-out.ensures.scanned);
      share = c.clocks_before-clocks-in-scans.ensures.few;
      waited = λ some. absurd (omega (arith, some));
      heard = heard_on (length c.args.ops.now) (length c.scans.rest.now) _ c.scans.busy c.scans.in_flight c.scans.results.items c.keep.new.results.items
          c.in_ok-out.out _ (g.S.Scan.seen c.scans.self.scan).coming _ c.scans-test.true c.if-out-ne-STATUS_DONE.false c.keep.ensures.kept
          (rest_length c.scans.rest.now c.in-len1-up.len_at_least) c.scans.invariant.heard c.in_ok-out.ensures.heard;
      asked = streams_went c.args.self.now.state c.args.abits c.args.ops.now c.scans.rest.now _ c.scans.clocks c.first_scan.result
          (g.S.Scan.seen c.args.self.now.scan).asked (g.S.Scan.seen c.scans.self.scan).asked _ c.in-len1-up.len_at_least (rest_is c.scans.rest.now)
          (omega (arith, c.scans.invariant.waits)) c.first_scan.ensures c.scans.invariant.asked c.in_ok-out.ensures.asked;
      rests = c.in_ok-out.ensures.keeps.behind;
      chosen = c.in_ok-out.ensures.chosen;
      idle = c.in_ok-out.ensures.state;
      width = width_kept _ c.args.abits (g.S.Scan.seen c.args.self.now.scan).far _ u c.requires.width;
      small = subst (λ (xs : List DmiOp). All IsOperation xs) (sym (rest_is c.scans.rest.now))
          (All-drop IsOperation 1 c.scans.rest.now c.scans.invariant.small);
      started = λ e. absurd (let no : ⊥ = cc in no);
      room = room_on c.scans.in_flight c.in_ok-out.out.value c.scans.results.items c.keep.new.results.items c.scans.rest.now (length c.args.ops.now)
          c.keep.ensures.kept c.in-len1-up.len_at_least c.scans.invariant.room;
      few = omega arith;
      waits = omega (arith, c.clocks_before-clocks-in-scans.ensures.few, waits_few (length c.args.ops.now));
      pace = c.scans.invariant.pace;
      paced = c.scans.invariant.paced;
      later = omega (arith, c.scans.invariant.later, c.exchange_behind.ensures.keeps.later);
      fixed = c.exchange_behind.ensures.keeps.fixed ∙ c.scans.invariant.fixed;
    }

pub returns-clause-cut : goal.returns-clause-cut
returns-clause-cut g c = stream_stopped c.args.ops.now c.scans.results.items c.scans.rest.now c.scans.in_flight c.scans.busy _ _ c.scans.invariant.streaming

pub returns-clause-cause : goal.returns-clause-cause
returns-clause-cause g c = (
  stream_found c.args.ops.now c.scans.results.items c.scans.rest.now c.scans.in_flight c.scans.busy _ _ c.scans-test.false c.scans.invariant.streaming,
  heard_many_busy (length c.args.ops.now) (length c.scans.rest.now) c.scans.busy c.scans.in_flight c.scans.results.items _ _
      (omega (arith, c.scans-test.false, c.scans.invariant.few)) c.scans.invariant.heard,
)

pub returns-in_err-select-clause-bounded : goal.returns-in_err-select-clause-bounded
returns-in_err-select-clause-bounded g c = bounded_of (length c.args.ops.now) _ _ _ _ _ _ (omega (arith, c.requires.some)) (omega (arith, c.requires.some)) (omega (arith, c.requires.some)) (omega arith)
    (closed_waited 2 17 _ _ (rose_more _ _ 2 17 _ _ c.select.ensures.rises (omega (arith, resets_few c.args.self.now.state)) (omega (arith, resets_few c.args.self.now.state))) c.in_err-select.ensures.cut).told

pub returns-in_err-out-clause-bounded : goal.returns-in_err-out-clause-bounded
returns-in_err-out-clause-bounded g c = bounded_of (length c.args.ops.now) _ _ _ _ _ _ (omega (arith, c.requires.some)) (last_scans (length c.args.ops.now) (length c.args.ops.now - length c.scans.rest.now) (omega (arith, c.requires.some)) (omega arith)) (last_clocks (length c.args.ops.now) (length c.args.ops.now - length c.scans.rest.now) (omega (arith, c.requires.some)) (omega arith)) (omega arith)
    (closed_cut (scans_spent (length c.args.ops.now) (length c.args.ops.now - length c.scans.rest.now) c.scans.busy) (clocks_spent (length c.args.ops.now) (length c.args.ops.now - length c.scans.rest.now) c.scans.busy)
    (46 * (length c.args.ops.now - length c.scans.rest.now)) (length c.args.ops.now - length c.scans.rest.now) c.scans.busy (pauses c.scans.clocks + 1) (c.scans.clocks + 46)
    (scans_spent (length c.args.ops.now) ((length c.args.ops.now - length c.scans.rest.now) + 1) 0) (clocks_spent (length c.args.ops.now) ((length c.args.ops.now - length c.scans.rest.now) + 1) 0) (dmi_bits c.first_scan.result) _ (g.S.Scan.seen c.scans.self.scan) _
    (next_scans (length c.args.ops.now) (length c.args.ops.now - length c.scans.rest.now) c.scans.busy c.scans.clocks c.scans.invariant.share c.scans.invariant.waited)
    (next_clocks (length c.args.ops.now) (length c.args.ops.now - length c.scans.rest.now) c.scans.busy c.scans.clocks c.scans.invariant.share c.scans.invariant.waited) c.scans.invariant.fixed
    c.scans.invariant.spent c.exchange_behind.ensures.rises c.in_err-out.ensures.cut).told

pub returns-then-out-eq-STATUS_FAILED-clause-bounded : goal.returns-then-out-eq-STATUS_FAILED-clause-bounded
returns-then-out-eq-STATUS_FAILED-clause-bounded g c = bounded_of (length c.args.ops.now) _ _ _ _ _ _ (omega (arith, c.requires.some)) (last_scans (length c.args.ops.now) (length c.args.ops.now - length c.scans.rest.now) (omega (arith, c.requires.some)) (omega arith)) (last_clocks (length c.args.ops.now) (length c.args.ops.now - length c.scans.rest.now) (omega (arith, c.requires.some)) (omega arith)) (omega arith)
    (closed_scan (scans_spent (length c.args.ops.now) (length c.args.ops.now - length c.scans.rest.now) c.scans.busy) (clocks_spent (length c.args.ops.now) (length c.args.ops.now - length c.scans.rest.now) c.scans.busy)
    (46 * (length c.args.ops.now - length c.scans.rest.now)) (length c.args.ops.now - length c.scans.rest.now) c.scans.busy (pauses c.scans.clocks + 1) (c.scans.clocks + 46)
    (scans_spent (length c.args.ops.now) ((length c.args.ops.now - length c.scans.rest.now) + 1) 0) (clocks_spent (length c.args.ops.now) ((length c.args.ops.now - length c.scans.rest.now) + 1) 0) c.first_scan.result c.in_ok-out.out _ (g.S.Scan.seen c.scans.self.scan) _
    (next_scans (length c.args.ops.now) (length c.args.ops.now - length c.scans.rest.now) c.scans.busy c.scans.clocks c.scans.invariant.share c.scans.invariant.waited)
    (next_clocks (length c.args.ops.now) (length c.args.ops.now - length c.scans.rest.now) c.scans.busy c.scans.clocks c.scans.invariant.share c.scans.invariant.waited) c.scans.invariant.fixed
    c.scans.invariant.spent c.exchange_behind.ensures.rises c.in_ok-out.ensures.scanned).told

pub returns-in_default-clause-bounded : goal.returns-in_default-clause-bounded
returns-in_default-clause-bounded g c = bounded_of (length c.args.ops.now) _ _ _ _ _ _ (omega (arith, c.requires.some)) (last_scans (length c.args.ops.now) (length c.args.ops.now - length c.scans.rest.now) (omega (arith, c.requires.some)) (omega arith)) (last_clocks (length c.args.ops.now) (length c.args.ops.now - length c.scans.rest.now) (omega (arith, c.requires.some)) (omega arith)) (omega arith)
    (closed_scan (scans_spent (length c.args.ops.now) (length c.args.ops.now - length c.scans.rest.now) c.scans.busy) (clocks_spent (length c.args.ops.now) (length c.args.ops.now - length c.scans.rest.now) c.scans.busy)
    (46 * (length c.args.ops.now - length c.scans.rest.now)) (length c.args.ops.now - length c.scans.rest.now) c.scans.busy (pauses c.scans.clocks + 1) (c.scans.clocks + 46)
    (scans_spent (length c.args.ops.now) ((length c.args.ops.now - length c.scans.rest.now) + 1) 0) (clocks_spent (length c.args.ops.now) ((length c.args.ops.now - length c.scans.rest.now) + 1) 0) c.first_scan.result c.in_ok-out.out _ (g.S.Scan.seen c.scans.self.scan) _
    (next_scans (length c.args.ops.now) (length c.args.ops.now - length c.scans.rest.now) c.scans.busy c.scans.clocks c.scans.invariant.share c.scans.invariant.waited)
    (next_clocks (length c.args.ops.now) (length c.args.ops.now - length c.scans.rest.now) c.scans.busy c.scans.clocks c.scans.invariant.share c.scans.invariant.waited) c.scans.invariant.fixed
    c.scans.invariant.spent c.exchange_behind.ensures.rises c.in_ok-out.ensures.scanned).told

pub returns-in_err-clear_again-clause-bounded : goal.returns-in_err-clear_again-clause-bounded
returns-in_err-clear_again-clause-bounded g c = bounded_of (length c.args.ops.now) _ _ _ _ _ _ (omega (arith, c.requires.some)) (ends_scans (length c.args.ops.now) (length c.args.ops.now - length c.scans.rest.now) (c.scans.busy + 1) (omega (arith, c.requires.some)) (omega arith)) (ends_clocks (length c.args.ops.now) (length c.args.ops.now - length c.scans.rest.now) (c.scans.busy + 1) (omega (arith, c.requires.some)) (omega arith)) (omega arith)
    (closed_uncleared (scans_spent (length c.args.ops.now) (length c.args.ops.now - length c.scans.rest.now) c.scans.busy + (pauses c.scans.clocks + 1))
    (clocks_spent (length c.args.ops.now) (length c.args.ops.now - length c.scans.rest.now) c.scans.busy + (c.scans.clocks + 46)) (46 * (length c.args.ops.now - length c.scans.rest.now)) (length c.args.ops.now - length c.scans.rest.now) c.scans.busy 3 59 (scans_spent (length c.args.ops.now) (length c.args.ops.now - length c.scans.rest.now) (c.scans.busy + 1))
    (clocks_spent (length c.args.ops.now) (length c.args.ops.now - length c.scans.rest.now) (c.scans.busy + 1)) _ (g.S.Scan.seen c.exchange_behind.new.self.scan) _
    (again_scans (length c.args.ops.now) (length c.args.ops.now - length c.scans.rest.now) c.scans.busy c.scans.clocks c.scans.invariant.share c.scans.invariant.waited)
    (again_clocks (length c.args.ops.now) (length c.args.ops.now - length c.scans.rest.now) c.scans.busy c.scans.clocks c.scans.invariant.share c.scans.invariant.waited) (c.exchange_behind.ensures.keeps.fixed ∙ c.scans.invariant.fixed) (still_spent (scans_spent (length c.args.ops.now) (length c.args.ops.now - length c.scans.rest.now) c.scans.busy) (clocks_spent (length c.args.ops.now) (length c.args.ops.now - length c.scans.rest.now) c.scans.busy)
    (46 * (length c.args.ops.now - length c.scans.rest.now)) (length c.args.ops.now - length c.scans.rest.now) c.scans.busy (pauses c.scans.clocks + 1) (c.scans.clocks + 46) (scans_spent (length c.args.ops.now) (length c.args.ops.now - length c.scans.rest.now) c.scans.busy + (pauses c.scans.clocks + 1))
    (clocks_spent (length c.args.ops.now) (length c.args.ops.now - length c.scans.rest.now) c.scans.busy + (c.scans.clocks + 46)) c.first_scan.result c.in_ok-out.out _ (g.S.Scan.seen c.scans.self.scan) _ (omega arith) (omega arith) c.scans.invariant.fixed
    (streaming_clear c.args.ops.now c.scans.results.items c.scans.rest.now c.scans.in_flight c.scans.busy (g.S.Scan.seen c.args.self.now.scan).far _ c.scans.invariant.streaming)
    c.if-out-ne-STATUS_DONE.true c.if-out-eq-STATUS_FAILED.false c.scans.invariant.spent c.exchange_behind.ensures.rises c.in_ok-out.ensures.scanned) (rose_more _ _ 3 59 _ _ c.clear_again.ensures.rises (omega (arith, resets_idle _ c.in_ok-out.ensures.state))
    (omega (arith, resets_idle _ c.in_ok-out.ensures.state))) c.in_err-clear_again.ensures.cut).told

pub returns-clause-bounded : goal.returns-clause-bounded
returns-clause-bounded g c = bounded_of (length c.args.ops.now) _ _ _ _ _ _ (omega (arith, c.requires.some)) (ends_scans (length c.args.ops.now) (length c.args.ops.now - length c.scans.rest.now) c.scans.busy (omega (arith, c.requires.some)) (omega arith)) (ends_clocks (length c.args.ops.now) (length c.args.ops.now - length c.scans.rest.now) c.scans.busy (omega (arith, c.requires.some)) (omega arith)) (omega arith)
    (closed_spent (scans_spent (length c.args.ops.now) (length c.args.ops.now - length c.scans.rest.now) c.scans.busy) (clocks_spent (length c.args.ops.now) (length c.args.ops.now - length c.scans.rest.now) c.scans.busy)
    (46 * (length c.args.ops.now - length c.scans.rest.now)) (length c.args.ops.now - length c.scans.rest.now) c.scans.busy _ _ c.scans.invariant.spent).told

pub returns-in_default-clause-least : goal.returns-in_default-clause-least
returns-in_default-clause-least g c = least_of _ (length c.args.ops.now) _ _ _ _ _ _ (omega (arith, c.in_default.len_below))
    (closed_scan (scans_spent (length c.args.ops.now) (length c.args.ops.now - length c.scans.rest.now) c.scans.busy) (clocks_spent (length c.args.ops.now) (length c.args.ops.now - length c.scans.rest.now) c.scans.busy)
    (46 * (length c.args.ops.now - length c.scans.rest.now)) (length c.args.ops.now - length c.scans.rest.now) c.scans.busy (pauses c.scans.clocks + 1) (c.scans.clocks + 46)
    (scans_spent (length c.args.ops.now) ((length c.args.ops.now - length c.scans.rest.now) + 1) 0) (clocks_spent (length c.args.ops.now) ((length c.args.ops.now - length c.scans.rest.now) + 1) 0) c.first_scan.result c.in_ok-out.out _ (g.S.Scan.seen c.scans.self.scan) _
    (next_scans (length c.args.ops.now) (length c.args.ops.now - length c.scans.rest.now) c.scans.busy c.scans.clocks c.scans.invariant.share c.scans.invariant.waited)
    (next_clocks (length c.args.ops.now) (length c.args.ops.now - length c.scans.rest.now) c.scans.busy c.scans.clocks c.scans.invariant.share c.scans.invariant.waited) c.scans.invariant.fixed
    c.scans.invariant.spent c.exchange_behind.ensures.rises c.in_ok-out.ensures.scanned).told

pub returns-in_err-select-clause-never : goal.returns-in_err-select-clause-never
returns-in_err-select-clause-never g c = never_wire _ c.in_err-select.field-0.0 _ c.from_residual.ensures.1

pub returns-in_err-out-clause-never : goal.returns-in_err-out-clause-never
returns-in_err-out-clause-never g c = never_wire _ c.in_err-out.field-0.0 _ c.from_residual-in_err-out.ensures.1

pub returns-in_err-clear_again-clause-never : goal.returns-in_err-clear_again-clause-never
returns-in_err-clear_again-clause-never g c = never_wire _ c.in_err-clear_again.field-0.0 _ c.from_residual-in_err-clear_again.ensures.1

pub returns-then-out-eq-STATUS_FAILED-clause-never : goal.returns-then-out-eq-STATUS_FAILED-clause-never
returns-then-out-eq-STATUS_FAILED-clause-never g c =
    let f = stream_failed c.args.ops.now c.scans.results.items c.scans.rest.now c.scans.in_flight c.scans.busy c.in_ok-out.out _
    (g.S.Scan.seen c.scans.self.scan).far _ c.if-out-eq-STATUS_FAILED.true c.scans.invariant.streaming
    (first_as c.scans.rest.now c.first_scan.result c.in_ok-out.out (g.S.Scan.seen c.scans.self.scan).far _ c.first_scan.ensures c.in_ok-out.ensures.scanned) in
    never_lost c.args.ops.now _ _ (all_failed_cut c.args.ops.now _ _ f) (all_failed_lost c.args.ops.now _ _ f)

pub returns-clause-never : goal.returns-clause-never
returns-clause-never g c = never_busy (scans_spent (length c.args.ops.now) (length c.args.ops.now - length c.scans.rest.now) c.scans.busy) (clocks_spent (length c.args.ops.now) (length c.args.ops.now - length c.scans.rest.now) c.scans.busy)
    (46 * (length c.args.ops.now - length c.scans.rest.now)) (length c.args.ops.now - length c.scans.rest.now) c.scans.busy _ _ (omega (arith, c.scans-test.false)) c.scans.invariant.spent
