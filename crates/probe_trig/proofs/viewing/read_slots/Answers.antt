use Rattle.debug_model.proofs.RiseLemmas.{within_more, within_then}
use Rattle.std.proofs.Common.{[], ◌∷◌, ◌++◌, refl, arith, ◌∙◌}
use Rattle.probe_trig.specs.declared.register.TriggerRegister.TheVariants.{Tselect}
use Rattle.probe_trig.specs.Runs.{put_back, slot_read}
use Rattle.probe_trig.specs.Transfers.Transfer.{Got}
use Rattle.probe_trig.proofs.Fitting.{reads_0, reads_1, reads_2, reads_3, reads_back, reads_keep}
use Rattle.probe_run.proofs.ActLemmas.{if_err}
use Rattle.probe_trig.proofs.TransferLemmas.{failed_behind, failed_first, made_then}
use Rattle.probe_access.specs.Never.{NeverLost}
use Rattle.probe_access.proofs.NeverLemmas.{lost_then}
use Rattle.probe_trig.proofs.viewing.read_slots.Goals as goal

pub returns-in_err-kept-clause-failed : goal.returns-in_err-kept-clause-failed
returns-in_err-kept-clause-failed g c =
    if_err _ c.from_residual.result _ c.from_residual.ensures.1 (failed_first _ _ _ _ _ _ _ _ reads_keep c.in_err-kept.ensures.failed)

pub returns-in_err-a-clause-failed : goal.returns-in_err-a-clause-failed
returns-in_err-a-clause-failed g c =
    if_err _ c.from_residual-in_err-a.result _ c.from_residual-in_err-a.ensures.1
    (failed_behind _ _ (Got Tselect c.in_ok-kept.kept ∷ []) _ _ _ _ _ _ _ _
    (omega (arith, c.reg.ensures.keeps.later)) c.read_slot.ensures.keeps.later c.in_ok-kept.ensures.made
    (reads_0 c.in_ok-kept.kept) c.in_err-a.ensures.failed)

pub returns-in_err-b-clause-failed : goal.returns-in_err-b-clause-failed
returns-in_err-b-clause-failed g c =
    if_err _ c.from_residual-in_err-b.result _ c.from_residual-in_err-b.ensures.1
    (failed_behind _ _ (Got Tselect c.in_ok-kept.kept ∷ (slot_read 0 c.in_ok-a.a)) _ _ _ _ _ _ _ _
    (omega (arith, c.reg.ensures.keeps.later, c.read_slot.ensures.keeps.later)) c.read_slot-2.ensures.keeps.later
    (made_then c.args.halted.now.number (Got Tselect c.in_ok-kept.kept ∷ [])
    (slot_read 0 c.in_ok-a.a) _ _ _ c.in_ok-kept.ensures.made c.in_ok-a.ensures.made) (reads_1 c.in_ok-kept.kept c.in_ok-a.a) c.in_err-b.ensures.failed)

pub returns-in_err-c-clause-failed : goal.returns-in_err-c-clause-failed
returns-in_err-c-clause-failed g c =
    if_err _ c.from_residual-in_err-c.result _ c.from_residual-in_err-c.ensures.1
    (failed_behind _ _ (Got Tselect c.in_ok-kept.kept ∷ ((slot_read 0 c.in_ok-a.a) ++ (slot_read 1 c.in_ok-b.b))) _ _ _ _ _ _ _ _
    (omega (arith, c.reg.ensures.keeps.later, c.read_slot.ensures.keeps.later, c.read_slot-2.ensures.keeps.later)) c.read_slot-3.ensures.keeps.later
    (made_then c.args.halted.now.number (Got Tselect c.in_ok-kept.kept ∷ [])
    ((slot_read 0 c.in_ok-a.a) ++ (slot_read 1 c.in_ok-b.b)) _ _ _ c.in_ok-kept.ensures.made
    (made_then c.args.halted.now.number (slot_read 0 c.in_ok-a.a) (slot_read 1 c.in_ok-b.b) _ _ _ c.in_ok-a.ensures.made c.in_ok-b.ensures.made))
    (reads_2 c.in_ok-kept.kept c.in_ok-a.a c.in_ok-b.b) c.in_err-c.ensures.failed)

pub returns-in_err-d-clause-failed : goal.returns-in_err-d-clause-failed
returns-in_err-d-clause-failed g c =
    if_err _ c.from_residual-in_err-d.result _ c.from_residual-in_err-d.ensures.1
    (failed_behind _ _ (Got Tselect c.in_ok-kept.kept ∷ ((slot_read 0 c.in_ok-a.a) ++ ((slot_read 1 c.in_ok-b.b) ++ (slot_read 2 c.in_ok-c.c)))) _ _ _ _ _ _ _ _
    (omega (arith, c.reg.ensures.keeps.later, c.read_slot.ensures.keeps.later, c.read_slot-2.ensures.keeps.later, c.read_slot-3.ensures.keeps.later))
    c.read_slot-4.ensures.keeps.later (made_then c.args.halted.now.number (Got Tselect c.in_ok-kept.kept ∷ [])
    ((slot_read 0 c.in_ok-a.a) ++ ((slot_read 1 c.in_ok-b.b) ++ (slot_read 2 c.in_ok-c.c))) _ _ _ c.in_ok-kept.ensures.made
    (made_then c.args.halted.now.number (slot_read 0 c.in_ok-a.a) ((slot_read 1 c.in_ok-b.b) ++ (slot_read 2 c.in_ok-c.c)) _ _ _ c.in_ok-a.ensures.made
    (made_then c.args.halted.now.number (slot_read 1 c.in_ok-b.b) (slot_read 2 c.in_ok-c.c) _ _ _ c.in_ok-b.ensures.made c.in_ok-c.ensures.made)))
    (reads_3 c.in_ok-kept.kept c.in_ok-a.a c.in_ok-b.b c.in_ok-c.c) c.in_err-d.ensures.failed)

pub returns-in_err-set_reg-clause-failed : goal.returns-in_err-set_reg-clause-failed
returns-in_err-set_reg-clause-failed g c =
    if_err _ c.from_residual-in_err-set_reg.result _ c.from_residual-in_err-set_reg.ensures.1
    (failed_behind _ _ (Got Tselect c.in_ok-kept.kept
    ∷ ((slot_read 0 c.in_ok-a.a) ++ ((slot_read 1 c.in_ok-b.b) ++ ((slot_read 2 c.in_ok-c.c) ++ (slot_read 3 c.in_ok-d.d))))) _ _ _ _ _ _ _ _
    (omega (
      arith,
      c.reg.ensures.keeps.later,
      c.read_slot.ensures.keeps.later,
      c.read_slot-2.ensures.keeps.later,
      c.read_slot-3.ensures.keeps.later,
      c.read_slot-4.ensures.keeps.later,
    )) c.set_reg.ensures.keeps.later
    (made_then c.args.halted.now.number (Got Tselect c.in_ok-kept.kept ∷ [])
    ((slot_read 0 c.in_ok-a.a) ++ ((slot_read 1 c.in_ok-b.b) ++ ((slot_read 2 c.in_ok-c.c) ++ (slot_read 3 c.in_ok-d.d)))) _ _ _ c.in_ok-kept.ensures.made
    (made_then c.args.halted.now.number (slot_read 0 c.in_ok-a.a)
    ((slot_read 1 c.in_ok-b.b) ++ ((slot_read 2 c.in_ok-c.c) ++ (slot_read 3 c.in_ok-d.d))) _ _ _ c.in_ok-a.ensures.made
    (made_then c.args.halted.now.number (slot_read 1 c.in_ok-b.b) ((slot_read 2 c.in_ok-c.c) ++ (slot_read 3 c.in_ok-d.d)) _ _ _ c.in_ok-b.ensures.made
    (made_then c.args.halted.now.number (slot_read 2 c.in_ok-c.c) (slot_read 3 c.in_ok-d.d) _ _ _ c.in_ok-c.ensures.made c.in_ok-d.ensures.made))))
    (reads_back c.in_ok-kept.kept c.in_ok-a.a c.in_ok-b.b c.in_ok-c.c c.in_ok-d.d) c.in_err-set_reg.ensures.failed)

pub returns-clause-did : goal.returns-clause-did
returns-clause-did g c = (
  c.in_ok-a.a,
  c.in_ok-b.b,
  c.in_ok-c.c,
  c.in_ok-d.d,
  refl,
  record {
    transfers = (Got Tselect c.in_ok-kept.kept
        ∷ ((slot_read 0 c.in_ok-a.a) ++ ((slot_read 1 c.in_ok-b.b)
        ++ ((slot_read 2 c.in_ok-c.c) ++ ((slot_read 3 c.in_ok-d.d) ++ (put_back c.in_ok-kept.kept))))));
    whole = record { kept = c.in_ok-kept.kept; is = refl };
    made = (made_then c.args.halted.now.number (Got Tselect c.in_ok-kept.kept ∷ [])
        ((slot_read 0 c.in_ok-a.a) ++ ((slot_read 1 c.in_ok-b.b) ++ ((slot_read 2 c.in_ok-c.c) ++ ((slot_read 3 c.in_ok-d.d) ++ (put_back c.in_ok-kept.kept)))))
        _ _ _ c.in_ok-kept.ensures.made (made_then c.args.halted.now.number (slot_read 0 c.in_ok-a.a)
        ((slot_read 1 c.in_ok-b.b) ++ ((slot_read 2 c.in_ok-c.c) ++ ((slot_read 3 c.in_ok-d.d) ++ (put_back c.in_ok-kept.kept)))) _ _ _ c.in_ok-a.ensures.made
        (made_then c.args.halted.now.number (slot_read 1 c.in_ok-b.b)
        ((slot_read 2 c.in_ok-c.c) ++ ((slot_read 3 c.in_ok-d.d) ++ (put_back c.in_ok-kept.kept))) _ _ _ c.in_ok-b.ensures.made
        (made_then c.args.halted.now.number (slot_read 2 c.in_ok-c.c) ((slot_read 3 c.in_ok-d.d) ++ (put_back c.in_ok-kept.kept)) _ _ _ c.in_ok-c.ensures.made
        (made_then c.args.halted.now.number (slot_read 3 c.in_ok-d.d)
        (put_back c.in_ok-kept.kept) _ _ _ c.in_ok-d.ensures.made c.in_ok-set_reg.ensures.made)))));
  },
)

pub returns-in_err-kept-clause-rises : goal.returns-in_err-kept-clause-rises
returns-in_err-kept-clause-rises g c =
    within_more 16 184 _ _ c.reg.ensures.rises (omega arith)

pub returns-in_err-a-clause-rises : goal.returns-in_err-a-clause-rises
returns-in_err-a-clause-rises g c =
    within_then 16 40 184 _ (g.D.Dmi.seen c.reg.new.link) _ c.reg.ensures.rises c.read_slot.ensures.rises
    c.reg.ensures.keeps.fixed (omega arith)

pub returns-in_err-b-clause-rises : goal.returns-in_err-b-clause-rises
returns-in_err-b-clause-rises g c =
    within_then 56 40 184 _ (g.D.Dmi.seen c.read_slot.new.link) _ (within_then 16 40 56 _ (g.D.Dmi.seen c.reg.new.link) _ c.reg.ensures.rises c.read_slot.ensures.rises
    c.reg.ensures.keeps.fixed (omega arith)) c.read_slot-2.ensures.rises
    (c.read_slot.ensures.keeps.fixed ∙ c.reg.ensures.keeps.fixed) (omega arith)

pub returns-in_err-c-clause-rises : goal.returns-in_err-c-clause-rises
returns-in_err-c-clause-rises g c =
    within_then 96 40 184 _ (g.D.Dmi.seen c.read_slot-2.new.link) _ (within_then 56 40 96 _ (g.D.Dmi.seen c.read_slot.new.link) _ (within_then 16 40 56 _ (g.D.Dmi.seen c.reg.new.link) _ c.reg.ensures.rises c.read_slot.ensures.rises
    c.reg.ensures.keeps.fixed (omega arith)) c.read_slot-2.ensures.rises
    (c.read_slot.ensures.keeps.fixed ∙ c.reg.ensures.keeps.fixed) (omega arith)) c.read_slot-3.ensures.rises
    (c.read_slot-2.ensures.keeps.fixed ∙ c.read_slot.ensures.keeps.fixed ∙ c.reg.ensures.keeps.fixed) (omega arith)

pub returns-in_err-d-clause-rises : goal.returns-in_err-d-clause-rises
returns-in_err-d-clause-rises g c =
    within_then 136 40 184 _ (g.D.Dmi.seen c.read_slot-3.new.link) _ (within_then 96 40 136 _ (g.D.Dmi.seen c.read_slot-2.new.link) _ (within_then 56 40 96 _ (g.D.Dmi.seen c.read_slot.new.link) _ (within_then 16 40 56 _ (g.D.Dmi.seen c.reg.new.link) _ c.reg.ensures.rises c.read_slot.ensures.rises
    c.reg.ensures.keeps.fixed (omega arith)) c.read_slot-2.ensures.rises
    (c.read_slot.ensures.keeps.fixed ∙ c.reg.ensures.keeps.fixed) (omega arith)) c.read_slot-3.ensures.rises
    (c.read_slot-2.ensures.keeps.fixed ∙ c.read_slot.ensures.keeps.fixed ∙ c.reg.ensures.keeps.fixed) (omega arith)) c.read_slot-4.ensures.rises
    (c.read_slot-3.ensures.keeps.fixed ∙ c.read_slot-2.ensures.keeps.fixed ∙ c.read_slot.ensures.keeps.fixed ∙ c.reg.ensures.keeps.fixed) (omega arith)

pub returns-in_err-set_reg-clause-rises : goal.returns-in_err-set_reg-clause-rises
returns-in_err-set_reg-clause-rises g c =
    within_then 176 8 184 _ (g.D.Dmi.seen c.read_slot-4.new.link) _ (within_then 136 40 176 _ (g.D.Dmi.seen c.read_slot-3.new.link) _ (within_then 96 40 136 _ (g.D.Dmi.seen c.read_slot-2.new.link) _ (within_then 56 40 96 _ (g.D.Dmi.seen c.read_slot.new.link) _ (within_then 16 40 56 _ (g.D.Dmi.seen c.reg.new.link) _ c.reg.ensures.rises c.read_slot.ensures.rises
    c.reg.ensures.keeps.fixed (omega arith)) c.read_slot-2.ensures.rises
    (c.read_slot.ensures.keeps.fixed ∙ c.reg.ensures.keeps.fixed) (omega arith)) c.read_slot-3.ensures.rises
    (c.read_slot-2.ensures.keeps.fixed ∙ c.read_slot.ensures.keeps.fixed ∙ c.reg.ensures.keeps.fixed) (omega arith)) c.read_slot-4.ensures.rises
    (c.read_slot-3.ensures.keeps.fixed ∙ c.read_slot-2.ensures.keeps.fixed ∙ c.read_slot.ensures.keeps.fixed ∙ c.reg.ensures.keeps.fixed) (omega arith)) c.set_reg.ensures.rises
    (c.read_slot-4.ensures.keeps.fixed ∙ c.read_slot-3.ensures.keeps.fixed ∙ c.read_slot-2.ensures.keeps.fixed ∙ c.read_slot.ensures.keeps.fixed ∙ c.reg.ensures.keeps.fixed) (omega arith)

pub returns-clause-rises : goal.returns-clause-rises
returns-clause-rises g c =
    within_then 176 8 184 _ (g.D.Dmi.seen c.read_slot-4.new.link) _ (within_then 136 40 176 _ (g.D.Dmi.seen c.read_slot-3.new.link) _ (within_then 96 40 136 _ (g.D.Dmi.seen c.read_slot-2.new.link) _ (within_then 56 40 96 _ (g.D.Dmi.seen c.read_slot.new.link) _ (within_then 16 40 56 _ (g.D.Dmi.seen c.reg.new.link) _ c.reg.ensures.rises c.read_slot.ensures.rises
    c.reg.ensures.keeps.fixed (omega arith)) c.read_slot-2.ensures.rises
    (c.read_slot.ensures.keeps.fixed ∙ c.reg.ensures.keeps.fixed) (omega arith)) c.read_slot-3.ensures.rises
    (c.read_slot-2.ensures.keeps.fixed ∙ c.read_slot.ensures.keeps.fixed ∙ c.reg.ensures.keeps.fixed) (omega arith)) c.read_slot-4.ensures.rises
    (c.read_slot-3.ensures.keeps.fixed ∙ c.read_slot-2.ensures.keeps.fixed ∙ c.read_slot.ensures.keeps.fixed ∙ c.reg.ensures.keeps.fixed) (omega arith)) c.set_reg.ensures.rises
    (c.read_slot-4.ensures.keeps.fixed ∙ c.read_slot-3.ensures.keeps.fixed ∙ c.read_slot-2.ensures.keeps.fixed ∙ c.read_slot.ensures.keeps.fixed ∙ c.reg.ensures.keeps.fixed) (omega arith)

pub returns-in_err-a-clause-never : goal.returns-in_err-a-clause-never
returns-in_err-a-clause-never g c =
    if_err (NeverLost (g.D.Dmi.seen c.args.link.now)) c.from_residual-in_err-a.result _ c.from_residual-in_err-a.ensures.1
    (lost_then _ (g.D.Dmi.seen c.args.link.now) (g.D.Dmi.seen c.reg.new.link) c.in_err-a.field-0.0 c.reg.ensures.rises c.in_err-a.ensures.never)

pub returns-in_err-b-clause-never : goal.returns-in_err-b-clause-never
returns-in_err-b-clause-never g c =
    if_err (NeverLost (g.D.Dmi.seen c.args.link.now)) c.from_residual-in_err-b.result _ c.from_residual-in_err-b.ensures.1
    (lost_then _ (g.D.Dmi.seen c.args.link.now) (g.D.Dmi.seen c.reg.new.link) c.in_err-b.field-0.0 c.reg.ensures.rises
    (lost_then _ (g.D.Dmi.seen c.reg.new.link) (g.D.Dmi.seen c.read_slot.new.link) c.in_err-b.field-0.0 c.read_slot.ensures.rises c.in_err-b.ensures.never))

pub returns-in_err-c-clause-never : goal.returns-in_err-c-clause-never
returns-in_err-c-clause-never g c =
    if_err (NeverLost (g.D.Dmi.seen c.args.link.now)) c.from_residual-in_err-c.result _ c.from_residual-in_err-c.ensures.1
    (lost_then _ (g.D.Dmi.seen c.args.link.now) (g.D.Dmi.seen c.reg.new.link) c.in_err-c.field-0.0 c.reg.ensures.rises
    (lost_then _ (g.D.Dmi.seen c.reg.new.link) (g.D.Dmi.seen c.read_slot.new.link) c.in_err-c.field-0.0 c.read_slot.ensures.rises
    (lost_then _ (g.D.Dmi.seen c.read_slot.new.link) (g.D.Dmi.seen c.read_slot-2.new.link) c.in_err-c.field-0.0 c.read_slot-2.ensures.rises
    c.in_err-c.ensures.never)))

pub returns-in_err-d-clause-never : goal.returns-in_err-d-clause-never
returns-in_err-d-clause-never g c =
    if_err (NeverLost (g.D.Dmi.seen c.args.link.now)) c.from_residual-in_err-d.result _ c.from_residual-in_err-d.ensures.1
    (lost_then _ (g.D.Dmi.seen c.args.link.now) (g.D.Dmi.seen c.reg.new.link) c.in_err-d.field-0.0 c.reg.ensures.rises
    (lost_then _ (g.D.Dmi.seen c.reg.new.link) (g.D.Dmi.seen c.read_slot.new.link) c.in_err-d.field-0.0 c.read_slot.ensures.rises
    (lost_then _ (g.D.Dmi.seen c.read_slot.new.link) (g.D.Dmi.seen c.read_slot-2.new.link) c.in_err-d.field-0.0 c.read_slot-2.ensures.rises
    (lost_then _ (g.D.Dmi.seen c.read_slot-2.new.link) (g.D.Dmi.seen c.read_slot-3.new.link) c.in_err-d.field-0.0 c.read_slot-3.ensures.rises
    c.in_err-d.ensures.never))))

pub returns-in_err-set_reg-clause-never : goal.returns-in_err-set_reg-clause-never
returns-in_err-set_reg-clause-never g c =
    if_err (NeverLost (g.D.Dmi.seen c.args.link.now)) c.from_residual-in_err-set_reg.result _ c.from_residual-in_err-set_reg.ensures.1
    (lost_then _ (g.D.Dmi.seen c.args.link.now) (g.D.Dmi.seen c.reg.new.link) c.in_err-set_reg.field-0.0 c.reg.ensures.rises
    (lost_then _ (g.D.Dmi.seen c.reg.new.link) (g.D.Dmi.seen c.read_slot.new.link) c.in_err-set_reg.field-0.0 c.read_slot.ensures.rises
    (lost_then _ (g.D.Dmi.seen c.read_slot.new.link) (g.D.Dmi.seen c.read_slot-2.new.link) c.in_err-set_reg.field-0.0 c.read_slot-2.ensures.rises
    (lost_then _ (g.D.Dmi.seen c.read_slot-2.new.link) (g.D.Dmi.seen c.read_slot-3.new.link) c.in_err-set_reg.field-0.0 c.read_slot-3.ensures.rises
    (lost_then _ (g.D.Dmi.seen c.read_slot-3.new.link) (g.D.Dmi.seen c.read_slot-4.new.link) c.in_err-set_reg.field-0.0 c.read_slot-4.ensures.rises
    c.in_err-set_reg.ensures.never)))))
