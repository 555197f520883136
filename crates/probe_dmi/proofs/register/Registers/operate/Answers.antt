use Rattle.std.proofs.Common.{◌∙◌, ◌+◌, ◌*◌, ap, true, false, refl, subst, arith, rules}
use Rattle.debug_model.specs.Scan.{WhereTold}
use Rattle.probe_dmi.proofs.Asking.{carried_begun, carried_busy, carried_out, carried_took}
use Rattle.probe_dmi.proofs.Heard.{SoFar, dmi_through, heard_again, heard_busy, heard_carried, heard_failed, heard_result, nothing_heard, scan_cause}
use Rattle.probe_dmi.proofs.Heard.{so_far_through, wire_cause}
use Rattle.jt_base.proofs.Pieces.{on_err}
use Rattle.debug_model.specs.declared.data_register.DataRegister.TheVariants.{Dmi}
use Rattle.probe_dmi.specs.Registers.{Prepared, dmi_bits}
use Rattle.probe_dmi.proofs.Conditions.{can_operate, width_kept}
use Rattle.probe_dmi.proofs.Bounds.{bounded_of, least_of, never_found, never_one_lost, never_wire}
use Rattle.probe_dmi.proofs.Rising.{resets_few, resets_idle, rose_more}
use Rattle.probe_dmi.proofs.Scans.{chosen_of}
use Rattle.probe_dmi.proofs.Spending.{closed_cut, closed_scan, closed_spent, closed_uncleared, closed_waited, spent_as, spent_begun, spent_cleared}
use Rattle.probe_dmi.proofs.Spending.{spent_fresh, spent_next, still_spent, taken_count, taken_few}
use Rattle.probe_dmi.proofs.Told.{Underway, begun, busy_cut, busy_found, carried, clear_cut, cleared, cut_as, dmi_cut, failed, failed_cut, failed_lost}
use Rattle.probe_dmi.proofs.Told.{fetched, fetched_clean, fetched_operated, found_again, sent_as, under_as, underway_clear, untaken}
use Rattle.probe_dmi.proofs.register.Registers.operate.Goals as goal

pub scans-init : goal.scans-init
scans-init g c = record {
  underway = begun c.args.op _ _ c.requires.link.clean c.in_ok-select.ensures.prepared;
  spent = spent_begun _ _ c.requires.link.clean
      (rose_more _ _ 2 17 _ _ c.select.ensures.rises (omega (arith, resets_few c.args.self.now.state)) (omega (arith, resets_few c.args.self.now.state)))
      c.in_ok-select.ensures.prepared;
  so_far = nothing_heard _ _ c.select.ensures.coming;
  asked = carried_begun c.args.self.now.state c.args.abits c.args.op (g.S.Scan.seen c.args.self.now.scan).asked _ c.in_ok-select.ensures.asked;
  rests = c.in_ok-select.ensures.keeps.behind;
  chosen = chosen_of Dmi _ _ c.in_ok-select.ensures.prepared;
  idle = c.in_ok-select.ensures.state;
  width = width_kept (Prepared Dmi) c.args.abits _ _ c.in_ok-select.ensures.prepared c.requires.width;
  few = omega arith;
  pace = c.requires.pace;
  paced = refl;
  later = c.select.ensures.keeps.later;
  fixed = c.select.ensures.keeps.fixed;
}

pub returns-in_err-select-clause-cut : goal.returns-in_err-select-clause-cut
returns-in_err-select-clause-cut g c = on_err _ (untaken c.args.op _ _ c.requires.link.clean c.in_err-select.ensures.cut)

pub returns-in_err-out-clause-cut : goal.returns-in_err-out-clause-cut
returns-in_err-out-clause-cut g c = on_err _
    (dmi_cut c.args.op c.scans.taken c.scans.busy _ (g.S.Scan.seen c.scans.self.scan).far _ c.requires.operation c.scans.invariant.underway
    (cut_as c.args.op c.scans.taken c.next_scan.result (g.S.Scan.seen c.scans.self.scan).far _ c.next_scan.ensures c.in_err-out.ensures.cut))

pub returns-in_err-out-clause-cause : goal.returns-in_err-out-clause-cause
returns-in_err-out-clause-cause g c = wire_cause _ _ _ _ _ c.in_err-out.field-0.0 _ c.from_residual-in_err-out.ensures.1
    (scan_cause _ (g.S.Scan.seen c.scans.self.scan).fault_count _ _ _ (g.S.Scan.seen c.scans.self.scan).coming c.in_err-out.field-0.0 c.scans.invariant.later
    c.exchange_behind.ensures.keeps.later (so_far_through c.scans.busy c.scans.taken _ _ c.scans.invariant.so_far) c.in_err-out.ensures.cause)

pub returns-then-out-eq-STATUS_FAILED-clause-cut : goal.returns-then-out-eq-STATUS_FAILED-clause-cut
returns-then-out-eq-STATUS_FAILED-clause-cut g c =
    failed_cut c.args.op _ _ (failed c.args.op c.scans.taken c.scans.busy c.in_ok-out.out _ (g.S.Scan.seen c.scans.self.scan).far _
    c.if-out-eq-STATUS_FAILED.true c.scans.invariant.underway
    (sent_as c.args.op c.scans.taken c.scans.taken c.next_scan.result c.in_ok-out.out (g.S.Scan.seen c.scans.self.scan).far _ c.next_scan.ensures refl
    c.in_ok-out.ensures.scanned))

pub returns-then-out-eq-STATUS_FAILED-clause-cause : goal.returns-then-out-eq-STATUS_FAILED-clause-cause
returns-then-out-eq-STATUS_FAILED-clause-cause g c = (
  failed_lost c.args.op _ _ (failed c.args.op c.scans.taken c.scans.busy c.in_ok-out.out _ (g.S.Scan.seen c.scans.self.scan).far _
      c.if-out-eq-STATUS_FAILED.true c.scans.invariant.underway
      (sent_as c.args.op c.scans.taken c.scans.taken c.next_scan.result c.in_ok-out.out (g.S.Scan.seen c.scans.self.scan).far _ c.next_scan.ensures refl
      c.in_ok-out.ensures.scanned)),
  heard_failed c.scans.busy c.scans.taken c.in_ok-out.out _ (g.S.Scan.seen c.scans.self.scan).coming (g.S.Scan.seen c.exchange_behind.new.self.scan).coming
      c.scans-test.true c.if-out-eq-STATUS_FAILED.true c.scans.invariant.so_far c.in_ok-out.ensures.heard,
)

pub returns-then-taken-clause-operated : goal.returns-then-taken-clause-operated
returns-then-taken-clause-operated g c =
    fetched_operated c.args.op c.in_ok-out.out.value _ _
    (fetched c.args.op c.scans.busy c.in_ok-out.out _ (g.S.Scan.seen c.scans.self.scan).far _ c.if-out-eq-STATUS_DONE.true
    (under_as c.args.op c.scans.taken true c.scans.busy _ _ c.if-taken.true c.scans.invariant.underway)
    (sent_as c.args.op c.scans.taken true c.next_scan.result c.in_ok-out.out (g.S.Scan.seen c.scans.self.scan).far _ c.next_scan.ensures c.if-taken.true
    c.in_ok-out.ensures.scanned))

pub returns-then-taken-clause-answers : goal.returns-then-taken-clause-answers
returns-then-taken-clause-answers g c = heard_result c.scans.busy c.in_ok-out.out _ (g.S.Scan.seen c.scans.self.scan).coming _ c.scans-test.true
    c.if-out-eq-STATUS_DONE.true (subst (λ b. SoFar c.scans.busy b (g.S.Scan.seen c.args.self.now.scan).coming (g.S.Scan.seen c.scans.self.scan).coming)
    c.if-taken.true c.scans.invariant.so_far) c.in_ok-out.ensures.heard

pub returns-then-taken-clause-keeps : goal.returns-then-taken-clause-keeps
returns-then-taken-clause-keeps g c = let o =
    can_operate _ c.in_ok-out.ensures.keeps.behind
    (fetched_clean c.args.op c.in_ok-out.out.value (g.S.Scan.seen c.args.self.now.scan).far _
    (fetched c.args.op c.scans.busy c.in_ok-out.out _ (g.S.Scan.seen c.scans.self.scan).far _ c.if-out-eq-STATUS_DONE.true
    (under_as c.args.op c.scans.taken true c.scans.busy _ _ c.if-taken.true c.scans.invariant.underway)
    (sent_as c.args.op c.scans.taken true c.next_scan.result c.in_ok-out.out (g.S.Scan.seen c.scans.self.scan).far _ c.next_scan.ensures c.if-taken.true
    c.in_ok-out.ensures.scanned))) in search rules

pub scans-preserved-then-out-eq-STATUS_DONE : goal.scans-preserved-then-out-eq-STATUS_DONE
scans-preserved-then-out-eq-STATUS_DONE g c =
    let u : WhereTold (Underway c.args.op true c.scans.busy) (g.S.Scan.seen c.args.self.now.scan).far (g.S.Scan.seen c.exchange_behind.new.self.scan).far =
    carried c.args.op c.scans.busy c.in_ok-out.out _ (g.S.Scan.seen c.scans.self.scan).far _ c.requires.operation
    (under_as c.args.op c.scans.taken false c.scans.busy _ _ c.if-taken.false c.scans.invariant.underway)
    (sent_as c.args.op c.scans.taken false c.next_scan.result c.in_ok-out.out (g.S.Scan.seen c.scans.self.scan).far _ c.next_scan.ensures c.if-taken.false
    c.in_ok-out.ensures.scanned) in
    record {
      underway = u;
      spent = spent_as 3 63 _ 46 _ 1 0 _ _ (omega (arith, ap taken_count c.if-taken.false)) (omega (arith, ap taken_count c.if-taken.false))
          (spent_next (2 + taken_count c.scans.taken) (17 + 46 * taken_count c.scans.taken) (46 * taken_count c.scans.taken) (taken_count c.scans.taken) 0 1 46 3 63 c.next_scan.result c.in_ok-out.out _ (g.S.Scan.seen c.scans.self.scan) _ (omega (arith, ap taken_count c.if-taken.false))
          (omega (arith, ap taken_count c.if-taken.false)) c.scans.invariant.fixed c.scans.invariant.spent c.exchange_behind.ensures.rises
          c.in_ok-out.ensures.scanned);
      so_far = heard_carried c.scans.busy c.in_ok-out.out _ (g.S.Scan.seen c.scans.self.scan).coming _ c.if-out-eq-STATUS_DONE.true
          (subst (λ b. SoFar c.scans.busy b (g.S.Scan.seen c.args.self.now.scan).coming (g.S.Scan.seen c.scans.self.scan).coming) c.if-taken.false
          c.scans.invariant.so_far) c.in_ok-out.ensures.heard;
      asked = carried_took c.args.self.now.state c.args.abits c.args.op c.scans.busy c.scans.taken c.next_scan.result
          (g.S.Scan.seen c.args.self.now.scan).asked (g.S.Scan.seen c.scans.self.scan).asked _ c.next_scan.ensures c.if-taken.false
          c.scans.invariant.asked c.in_ok-out.ensures.asked;
      rests = c.in_ok-out.ensures.keeps.behind;
      chosen = c.in_ok-out.ensures.chosen;
      idle = c.in_ok-out.ensures.state;
      width = width_kept (Underway c.args.op true c.scans.busy) c.args.abits (g.S.Scan.seen c.args.self.now.scan).far _ u c.requires.width;
      few = c.scans.invariant.few;
      pace = c.scans.invariant.pace;
      paced = c.scans.invariant.paced;
      later = omega (arith, c.scans.invariant.later, c.exchange_behind.ensures.keeps.later);
      fixed = c.exchange_behind.ensures.keeps.fixed ∙ c.scans.invariant.fixed;
    }

pub returns-in_err-clear_again-clause-cut : goal.returns-in_err-clear_again-clause-cut
returns-in_err-clear_again-clause-cut g c = on_err _ (clear_cut c.args.op c.scans.taken c.scans.busy _ (g.S.Scan.seen c.exchange_behind.new.self.scan).far _
    (found_again c.args.op c.scans.taken c.scans.busy c.in_ok-out.out _ (g.S.Scan.seen c.scans.self.scan).far _ c.if-out-eq-STATUS_DONE.false
    c.if-out-eq-STATUS_FAILED.false c.scans.invariant.underway
    (sent_as c.args.op c.scans.taken c.scans.taken c.next_scan.result c.in_ok-out.out (g.S.Scan.seen c.scans.self.scan).far _ c.next_scan.ensures refl
    c.in_ok-out.ensures.scanned))
    c.in_err-clear_again.ensures.cut)

pub returns-in_err-clear_again-clause-cause : goal.returns-in_err-clear_again-clause-cause
returns-in_err-clear_again-clause-cause g c = wire_cause _ _ _ _ _ c.in_err-clear_again.field-0.0 _ c.from_residual-in_err-clear_again.ensures.1
    (scan_cause _ (g.S.Scan.seen c.exchange_behind.new.self.scan).fault_count _ _ _ (g.S.Scan.seen c.exchange_behind.new.self.scan).coming
    c.in_err-clear_again.field-0.0 (omega (arith, c.scans.invariant.later, c.exchange_behind.ensures.keeps.later)) c.clear_again.ensures.keeps.later
    (λ b w. so_far_through c.scans.busy c.scans.taken _ _ c.scans.invariant.so_far b (dmi_through c.in_ok-out.out _ _ c.in_ok-out.ensures.heard b w))
    c.in_err-clear_again.ensures.cause)

pub scans-preserved : goal.scans-preserved
scans-preserved g c =
    let u : WhereTold (Underway c.args.op c.scans.taken (c.scans.busy + 1)) (g.S.Scan.seen c.args.self.now.scan).far
    (g.S.Scan.seen c.clear_again.new.self.scan).far =
    cleared c.args.op c.scans.taken c.scans.busy c.in_ok-clear_again.field-0 _ (g.S.Scan.seen c.exchange_behind.new.self.scan).far _
    (found_again c.args.op c.scans.taken c.scans.busy c.in_ok-out.out _ (g.S.Scan.seen c.scans.self.scan).far _ c.if-out-eq-STATUS_DONE.false
    c.if-out-eq-STATUS_FAILED.false c.scans.invariant.underway
    (sent_as c.args.op c.scans.taken c.scans.taken c.next_scan.result c.in_ok-out.out (g.S.Scan.seen c.scans.self.scan).far _ c.next_scan.ensures refl
    c.in_ok-out.ensures.scanned))
    c.in_ok-clear_again.ensures.scanned in
    record {
      underway = u;
      spent = spent_fresh _ _ _ _ 0 _ _ (spent_cleared (3 + taken_count c.scans.taken) (63 + 46 * taken_count c.scans.taken) (46 * taken_count c.scans.taken) (taken_count c.scans.taken) 0 3 59 (2 + taken_count c.scans.taken) (17 + 46 * taken_count c.scans.taken) c.in_ok-clear_again.field-0 _ (g.S.Scan.seen c.exchange_behind.new.self.scan) _ (omega arith)
          (omega arith) (c.exchange_behind.ensures.keeps.fixed ∙ c.scans.invariant.fixed) (still_spent (2 + taken_count c.scans.taken) (17 + 46 * taken_count c.scans.taken) (46 * taken_count c.scans.taken) (taken_count c.scans.taken) 0 1 46 (3 + taken_count c.scans.taken) (63 + 46 * taken_count c.scans.taken) c.next_scan.result c.in_ok-out.out _ (g.S.Scan.seen c.scans.self.scan) _ (omega arith) (omega arith) c.scans.invariant.fixed
          (underway_clear c.args.op c.scans.taken c.scans.busy (g.S.Scan.seen c.args.self.now.scan).far _ c.scans.invariant.underway) c.if-out-eq-STATUS_DONE.false c.if-out-eq-STATUS_FAILED.false
          c.scans.invariant.spent c.exchange_behind.ensures.rises c.in_ok-out.ensures.scanned) (rose_more _ _ 3 59 _ _ c.clear_again.ensures.rises (omega (arith, resets_idle _ c.in_ok-out.ensures.state))
          (omega (arith, resets_idle _ c.in_ok-out.ensures.state))) c.in_ok-clear_again.ensures.scanned);
      so_far = heard_again c.scans.busy c.scans.taken c.in_ok-out.out c.in_ok-clear_again.field-0 _ (g.S.Scan.seen c.scans.self.scan).coming
          (g.S.Scan.seen c.exchange_behind.new.self.scan).coming _ c.if-out-eq-STATUS_DONE.false c.if-out-eq-STATUS_FAILED.false c.scans.invariant.so_far
          c.in_ok-out.ensures.heard c.in_ok-clear_again.ensures.heard;
      asked = carried_busy c.args.self.now.state c.exchange_behind.new.self.state c.args.abits c.args.op c.scans.busy c.scans.taken c.next_scan.result
          (g.S.Scan.seen c.args.self.now.scan).asked (g.S.Scan.seen c.scans.self.scan).asked (g.S.Scan.seen c.exchange_behind.new.self.scan).asked _
          c.next_scan.ensures c.in_ok-out.ensures.state c.scans.invariant.asked c.in_ok-out.ensures.asked c.in_ok-clear_again.ensures.asked;
      rests = c.in_ok-clear_again.ensures.keeps.behind;
      chosen = c.in_ok-clear_again.ensures.chosen;
      idle = c.in_ok-clear_again.ensures.state;
      width = width_kept (Underway c.args.op c.scans.taken (c.scans.busy + 1)) c.args.abits (g.S.Scan.seen c.args.self.now.scan).far _ u c.requires.width;
      few = omega (arith, c.scans-test.true);
      pace = c.behind_busy.ensures.pace;
      paced = c.behind_busy.ensures.most ∙ c.scans.invariant.paced;
      later = omega (arith, c.scans.invariant.later, c.exchange_behind.ensures.keeps.later, c.clear_again.ensures.keeps.later);
      fixed = c.clear_again.ensures.keeps.fixed ∙ c.exchange_behind.ensures.keeps.fixed ∙ c.scans.invariant.fixed;
    }

pub returns-clause-cut : goal.returns-clause-cut
returns-clause-cut g c = busy_cut c.args.op c.scans.taken c.scans.busy _ _ c.scans.invariant.underway

pub returns-clause-cause : goal.returns-clause-cause
returns-clause-cause g c = (
  busy_found c.args.op c.scans.taken c.scans.busy _ _ c.scans-test.false c.scans.invariant.underway,
  heard_busy c.scans.busy c.scans.taken _ (g.S.Scan.seen c.scans.self.scan).coming (omega (arith, c.scans-test.false, c.scans.invariant.few))
      c.scans.invariant.so_far,
)

pub returns-then-taken-clause-asked : goal.returns-then-taken-clause-asked
returns-then-taken-clause-asked g c = carried_out c.args.self.now.state c.args.abits c.args.op c.scans.busy c.scans.taken c.next_scan.result
    (g.S.Scan.seen c.args.self.now.scan).asked (g.S.Scan.seen c.scans.self.scan).asked _ c.next_scan.ensures c.if-taken.true
    c.scans.invariant.asked c.in_ok-out.ensures.asked

pub returns-in_err-select-clause-bounded : goal.returns-in_err-select-clause-bounded
returns-in_err-select-clause-bounded g c = bounded_of 1 _ _ _ _ _ _ (omega arith) (omega arith) (omega arith) (omega arith)
    (closed_waited 2 17 _ _ (rose_more _ _ 2 17 _ _ c.select.ensures.rises (omega (arith, resets_few c.args.self.now.state)) (omega (arith, resets_few c.args.self.now.state))) c.in_err-select.ensures.cut).told

pub returns-in_err-out-clause-bounded : goal.returns-in_err-out-clause-bounded
returns-in_err-out-clause-bounded g c = bounded_of 1 _ _ _ _ _ _ (omega arith) (omega (arith, taken_few c.scans.taken)) (omega (arith, taken_few c.scans.taken)) (omega (arith, taken_few c.scans.taken))
    (closed_cut (2 + taken_count c.scans.taken) (17 + 46 * taken_count c.scans.taken) (46 * taken_count c.scans.taken) (taken_count c.scans.taken) 0 1 46 (3 + taken_count c.scans.taken) (63 + 46 * taken_count c.scans.taken) (dmi_bits c.next_scan.result) _ (g.S.Scan.seen c.scans.self.scan) _ (omega arith) (omega arith) c.scans.invariant.fixed
    c.scans.invariant.spent c.exchange_behind.ensures.rises c.in_err-out.ensures.cut).told

pub returns-then-out-eq-STATUS_FAILED-clause-bounded : goal.returns-then-out-eq-STATUS_FAILED-clause-bounded
returns-then-out-eq-STATUS_FAILED-clause-bounded g c = bounded_of 1 _ _ _ _ _ _ (omega arith) (omega (arith, taken_few c.scans.taken)) (omega (arith, taken_few c.scans.taken)) (omega (arith, taken_few c.scans.taken))
    (closed_scan (2 + taken_count c.scans.taken) (17 + 46 * taken_count c.scans.taken) (46 * taken_count c.scans.taken) (taken_count c.scans.taken) 0 1 46 (3 + taken_count c.scans.taken) (63 + 46 * taken_count c.scans.taken) c.next_scan.result c.in_ok-out.out _ (g.S.Scan.seen c.scans.self.scan) _ (omega arith) (omega arith)
    c.scans.invariant.fixed c.scans.invariant.spent c.exchange_behind.ensures.rises c.in_ok-out.ensures.scanned).told

pub returns-then-taken-clause-bounded : goal.returns-then-taken-clause-bounded
returns-then-taken-clause-bounded g c = bounded_of 1 _ _ _ _ _ _ (omega arith) (omega (arith, taken_few c.scans.taken)) (omega (arith, taken_few c.scans.taken)) (omega (arith, taken_few c.scans.taken))
    (closed_scan (2 + taken_count c.scans.taken) (17 + 46 * taken_count c.scans.taken) (46 * taken_count c.scans.taken) (taken_count c.scans.taken) 0 1 46 (3 + taken_count c.scans.taken) (63 + 46 * taken_count c.scans.taken) c.next_scan.result c.in_ok-out.out _ (g.S.Scan.seen c.scans.self.scan) _ (omega arith) (omega arith)
    c.scans.invariant.fixed c.scans.invariant.spent c.exchange_behind.ensures.rises c.in_ok-out.ensures.scanned).told

pub returns-in_err-clear_again-clause-bounded : goal.returns-in_err-clear_again-clause-bounded
returns-in_err-clear_again-clause-bounded g c = bounded_of 1 _ _ _ _ _ _ (omega arith) (omega (arith, taken_few c.scans.taken)) (omega (arith, taken_few c.scans.taken)) (omega (arith, taken_few c.scans.taken))
    (closed_uncleared (3 + taken_count c.scans.taken) (63 + 46 * taken_count c.scans.taken) (46 * taken_count c.scans.taken) (taken_count c.scans.taken) 0 3 59 (2 + taken_count c.scans.taken) (17 + 46 * taken_count c.scans.taken) _ (g.S.Scan.seen c.exchange_behind.new.self.scan) _ (omega arith) (omega arith)
    (c.exchange_behind.ensures.keeps.fixed ∙ c.scans.invariant.fixed) (still_spent (2 + taken_count c.scans.taken) (17 + 46 * taken_count c.scans.taken) (46 * taken_count c.scans.taken) (taken_count c.scans.taken) 0 1 46 (3 + taken_count c.scans.taken) (63 + 46 * taken_count c.scans.taken) c.next_scan.result c.in_ok-out.out _ (g.S.Scan.seen c.scans.self.scan) _ (omega arith) (omega arith) c.scans.invariant.fixed
    (underway_clear c.args.op c.scans.taken c.scans.busy (g.S.Scan.seen c.args.self.now.scan).far _ c.scans.invariant.underway) c.if-out-eq-STATUS_DONE.false c.if-out-eq-STATUS_FAILED.false
    c.scans.invariant.spent c.exchange_behind.ensures.rises c.in_ok-out.ensures.scanned) (rose_more _ _ 3 59 _ _ c.clear_again.ensures.rises (omega (arith, resets_idle _ c.in_ok-out.ensures.state))
    (omega (arith, resets_idle _ c.in_ok-out.ensures.state))) c.in_err-clear_again.ensures.cut).told

pub returns-clause-bounded : goal.returns-clause-bounded
returns-clause-bounded g c = bounded_of 1 _ _ _ _ _ _ (omega arith) (omega (arith, taken_few c.scans.taken)) (omega (arith, taken_few c.scans.taken)) (omega (arith, taken_few c.scans.taken))
    (closed_spent (2 + taken_count c.scans.taken) (17 + 46 * taken_count c.scans.taken) (46 * taken_count c.scans.taken) (taken_count c.scans.taken) 0 _ _ c.scans.invariant.spent).told

pub returns-then-taken-clause-least : goal.returns-then-taken-clause-least
returns-then-taken-clause-least g c = least_of _ 1 _ _ _ _ _ _ (omega (arith, ap taken_count c.if-taken.true))
    (closed_scan (2 + taken_count c.scans.taken) (17 + 46 * taken_count c.scans.taken) (46 * taken_count c.scans.taken) (taken_count c.scans.taken) 0 1 46 (3 + taken_count c.scans.taken) (63 + 46 * taken_count c.scans.taken) c.next_scan.result c.in_ok-out.out _ (g.S.Scan.seen c.scans.self.scan) _ (omega arith) (omega arith)
    c.scans.invariant.fixed c.scans.invariant.spent c.exchange_behind.ensures.rises c.in_ok-out.ensures.scanned).told

pub returns-in_err-select-clause-never : goal.returns-in_err-select-clause-never
returns-in_err-select-clause-never g c = never_wire _ c.in_err-select.field-0.0 _ c.from_residual.ensures.1

pub returns-in_err-out-clause-never : goal.returns-in_err-out-clause-never
returns-in_err-out-clause-never g c = never_wire _ c.in_err-out.field-0.0 _ c.from_residual-in_err-out.ensures.1

pub returns-in_err-clear_again-clause-never : goal.returns-in_err-clear_again-clause-never
returns-in_err-clear_again-clause-never g c = never_wire _ c.in_err-clear_again.field-0.0 _ c.from_residual-in_err-clear_again.ensures.1

pub returns-then-out-eq-STATUS_FAILED-clause-never : goal.returns-then-out-eq-STATUS_FAILED-clause-never
returns-then-out-eq-STATUS_FAILED-clause-never g c =
    let f = failed c.args.op c.scans.taken c.scans.busy c.in_ok-out.out _ (g.S.Scan.seen c.scans.self.scan).far _
    c.if-out-eq-STATUS_FAILED.true c.scans.invariant.underway
    (sent_as c.args.op c.scans.taken c.scans.taken c.next_scan.result c.in_ok-out.out (g.S.Scan.seen c.scans.self.scan).far _ c.next_scan.ensures refl
    c.in_ok-out.ensures.scanned) in
    never_one_lost c.args.op _ _ (failed_cut c.args.op _ _ f) (failed_lost c.args.op _ _ f)

pub returns-clause-never : goal.returns-clause-never
returns-clause-never g c = never_found _ _ _ _ _ _ _ (taken_few c.scans.taken)
    (closed_spent (2 + taken_count c.scans.taken) (17 + 46 * taken_count c.scans.taken) (46 * taken_count c.scans.taken) (taken_count c.scans.taken) 0 _ _ c.scans.invariant.spent).told
    (busy_found c.args.op c.scans.taken c.scans.busy _ _ c.scans-test.false c.scans.invariant.underway)
