use Rattle.std.proofs.Common.{◌++◌, ap, ◌∙◌, sym, arith}
use Rattle.arrayvec.specs.ArrayVec.{array_vec_len}
use Rattle.abstract_debugger.specs.Lines.{places_from}
use Rattle.abstract_debugger.specs.SlotUses.{hits_in}
use Rattle.printed_lines.proofs.HitLemmas.{parted-spelled, hit_at, hit_step, no_hit_step}
use Rattle.printed_lines.proofs.halted.push_hits.Goals as goal
use Rattle.printed_lines.proofs.halted.push_hits.Goals.{then-has, else-has}

pub loop-slot-init : goal.loop-slot-init
loop-slot-init c = (ap (λ t. c.args.text.now.items ++ t) (parted-spelled (places_from 0 (hits_in c.args.hits))), omega arith)

pub loop-slot-preserved : goal.loop-slot-preserved
loop-slot-preserved c =
    let hits = hits_in c.args.hits in
    let slot = c.loop-slot.slot in
    let here = hit_at c.args.hits slot c.loop-slot-test.true ∙ sym c.has.ensures in
    elim c.if-has.branch [
      | then-has w ↦ (
        hit_step hits slot c.loop-slot.before c.if-has.before c.loop-slot.text.items w.push.new.self.items c.if-has.text.items _ (omega arith) (omega arith)
            (here ∙ w.if-has.true) w.before-is w.push.ensures.items (ap (λ v. v.items) w.text-is ∙ w.push-then-has.ensures.items) c.loop-slot.invariant.0,
        omega (arith, ap (λ v. array_vec_len v) w.text-is, w.push.ensures.len, w.push-then-has.ensures.len, c.loop-slot.invariant.1),
      )
      | else-has w ↦ (
        no_hit_step hits slot c.loop-slot.before c.if-has.before c.loop-slot.text.items c.if-has.text.items _ (omega arith) (here ∙ w.if-has.false) w.before-is
            (ap (λ v. v.items) w.text-is) c.loop-slot.invariant.0,
        omega (arith, ap (λ v. array_vec_len v) w.text-is, c.loop-slot.invariant.1),
      )
    ]
