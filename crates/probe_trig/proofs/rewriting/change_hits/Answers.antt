use Rattle.debug_model.proofs.RiseLemmas.{within_more, within_then}
use Rattle.std.proofs.Common.{[], ◌∷◌, ◌++◌, refl, arith, ◌∙◌}
use Rattle.probe_trig.specs.declared.register.TriggerRegister.TheVariants.{Tselect}
use Rattle.probe_trig.specs.Runs.{put_back, slot_changed}
use Rattle.probe_trig.specs.Transfers.Transfer.{Got}
use Rattle.probe_trig.proofs.Fitting.{changes_0, changes_1, changes_2, changes_3, changes_back, changes_keep}
use Rattle.probe_run.proofs.ActLemmas.{if_err}
use Rattle.probe_trig.proofs.TransferLemmas.{failed_behind, failed_first, made_then}
use Rattle.probe_access.specs.Never.{NeverLost}
use Rattle.probe_access.proofs.NeverLemmas.{lost_then}
use Rattle.probe_trig.proofs.rewriting.change_hits.Goals as goal

pub returns-in_err-kept-clause-failed : goal.returns-in_err-kept-clause-failed
returns-in_err-kept-clause-failed g c =
    if_err _ c.from_residual.result _ c.from_residual.ensures.1 (failed_first _ _ _ _ _ _ _ _ (changes_keep c.args.change) c.in_err-kept.ensures.failed)

pub returns-in_err-a-clause-failed : goal.returns-in_err-a-clause-failed
returns-in_err-a-clause-failed g c =
    if_err _ c.from_residual-in_err-a.result _ c.from_residual-in_err-a.ensures.1
    (failed_behind _ _ (Got Tselect c.in_ok-kept.kept ∷ []) _ _ _ _ _ _ _ _
    (omega (arith, c.reg.ensures.keeps.later)) c.change_slot.ensures.keeps.later c.in_ok-kept.ensures.made
    (changes_0 c.args.change c.in_ok-kept.kept) c.in_err-a.ensures.failed)

pub returns-in_err-b-clause-failed : goal.returns-in_err-b-clause-failed
returns-in_err-b-clause-failed g c =
    if_err _ c.from_residual-in_err-b.result _ c.from_residual-in_err-b.ensures.1
    (failed_behind _ _ (Got Tselect c.in_ok-kept.kept ∷ (slot_changed c.args.change 0 c.in_ok-a.a)) _ _ _ _ _ _ _ _
    (omega (arith, c.reg.ensures.keeps.later, c.change_slot.ensures.keeps.later)) c.change_slot-2.ensures.keeps.later
    (made_then c.args.halted.now.number (Got Tselect c.in_ok-kept.kept ∷ [])
    (slot_changed c.args.change 0 c.in_ok-a.a) _ _ _ c.in_ok-kept.ensures.made c.in_ok-a.ensures.made)
    (changes_1 c.args.change c.in_ok-kept.kept c.in_ok-a.a) c.in_err-b.ensures.failed)

pub returns-in_err-c-clause-failed : goal.returns-in_err-c-clause-failed
returns-in_err-c-clause-failed g c =
    if_err _ c.from_residual-in_err-c.result _ c.from_residual-in_err-c.ensures.1
    (failed_behind _ _ (Got Tselect c.in_ok-kept.kept ∷ ((slot_changed c.args.change 0 c.in_ok-a.a) ++ (slot_changed c.args.change 1 c.in_ok-b.b))) _ _ _ _ _ _
    _ _ (omega (arith, c.reg.ensures.keeps.later, c.change_slot.ensures.keeps.later, c.change_slot-2.ensures.keeps.later))
    c.change_slot-3.ensures.keeps.later (made_then c.args.halted.now.number (Got Tselect c.in_ok-kept.kept ∷ [])
    ((slot_changed c.args.change 0 c.in_ok-a.a) ++ (slot_changed c.args.change 1 c.in_ok-b.b)) _ _ _ c.in_ok-kept.ensures.made
    (made_then c.args.halted.now.number (slot_changed c.args.change 0 c.in_ok-a.a)
    (slot_changed c.args.change 1 c.in_ok-b.b) _ _ _ c.in_ok-a.ensures.made c.in_ok-b.ensures.made))
    (changes_2 c.args.change c.in_ok-kept.kept c.in_ok-a.a c.in_ok-b.b) c.in_err-c.ensures.failed)

pub returns-in_err-d-clause-failed : goal.returns-in_err-d-clause-failed
returns-in_err-d-clause-failed g c =
    if_err _ c.from_residual-in_err-d.result _ c.from_residual-in_err-d.ensures.1
    (failed_behind _ _ (Got Tselect c.in_ok-kept.kept
    ∷ ((slot_changed c.args.change 0 c.in_ok-a.a) ++ ((slot_changed c.args.change 1 c.in_ok-b.b) ++ (slot_changed c.args.change 2 c.in_ok-c.c)))) _ _ _ _ _
    _ _ _ (omega (
      arith,
      c.reg.ensures.keeps.later,
      c.change_slot.ensures.keeps.later,
      c.change_slot-2.ensures.keeps.later,
      c.change_slot-3.ensures.keeps.later,
    )) c.change_slot-4.ensures.keeps.later
    (made_then c.args.halted.now.number (Got Tselect c.in_ok-kept.kept ∷ [])
    ((slot_changed c.args.change 0 c.in_ok-a.a) ++ ((slot_changed c.args.change 1 c.in_ok-b.b) ++ (slot_changed c.args.change 2 c.in_ok-c.c))) _ _ _
    c.in_ok-kept.ensures.made (made_then c.args.halted.now.number (slot_changed c.args.change 0 c.in_ok-a.a)
    ((slot_changed c.args.change 1 c.in_ok-b.b) ++ (slot_changed c.args.change 2 c.in_ok-c.c)) _ _ _ c.in_ok-a.ensures.made
    (made_then c.args.halted.now.number (slot_changed c.args.change 1 c.in_ok-b.b)
    (slot_changed c.args.change 2 c.in_ok-c.c) _ _ _ c.in_ok-b.ensures.made c.in_ok-c.ensures.made)))
    (changes_3 c.args.change c.in_ok-kept.kept c.in_ok-a.a c.in_ok-b.b c.in_ok-c.c) c.in_err-d.ensures.failed)

pub returns-in_err-set_reg-clause-failed : goal.returns-in_err-set_reg-clause-failed
returns-in_err-set_reg-clause-failed g c =
    if_err _ c.from_residual-in_err-set_reg.result _ c.from_residual-in_err-set_reg.ensures.1
    (failed_behind _ _ (Got Tselect c.in_ok-kept.kept
    ∷ ((slot_changed c.args.change 0 c.in_ok-a.a) ++ ((slot_changed c.args.change 1 c.in_ok-b.b)
    ++ ((slot_changed c.args.change 2 c.in_ok-c.c) ++ (slot_changed c.args.change 3 c.in_ok-d.d))))) _ _ _ _ _ _ _ _
    (omega (
      arith,
      c.reg.ensures.keeps.later,
      c.change_slot.ensures.keeps.later,
      c.change_slot-2.ensures.keeps.later,
      c.change_slot-3.ensures.keeps.later,
      c.change_slot-4.ensures.keeps.later,
    )) c.set_reg.ensures.keeps.later
    (made_then c.args.halted.now.number (Got Tselect c.in_ok-kept.kept ∷ [])
    ((slot_changed c.args.change 0 c.in_ok-a.a) ++ ((slot_changed c.args.change 1 c.in_ok-b.b)
    ++ ((slot_changed c.args.change 2 c.in_ok-c.c) ++ (slot_changed c.args.change 3 c.in_ok-d.d)))) _ _ _ c.in_ok-kept.ensures.made
    (made_then c.args.halted.now.number (slot_changed c.args.change 0 c.in_ok-a.a)
    ((slot_changed c.args.change 1 c.in_ok-b.b) ++ ((slot_changed c.args.change 2 c.in_ok-c.c) ++ (slot_changed c.args.change 3 c.in_ok-d.d))) _ _ _
    c.in_ok-a.ensures.made (made_then c.args.halted.now.number (slot_changed c.args.change 1 c.in_ok-b.b)
    ((slot_changed c.args.change 2 c.in_ok-c.c) ++ (slot_changed c.args.change 3 c.in_ok-d.d)) _ _ _ c.in_ok-b.ensures.made
    (made_then c.args.halted.now.number (slot_changed c.args.change 2 c.in_ok-c.c)
    (slot_changed c.args.change 3 c.in_ok-d.d) _ _ _ c.in_ok-c.ensures.made c.in_ok-d.ensures.made))))
    (changes_back c.args.change c.in_ok-kept.kept c.in_ok-a.a c.in_ok-b.b c.in_ok-c.c c.in_ok-d.d) c.in_err-set_reg.ensures.failed)

pub returns-clause-did : goal.returns-clause-did
returns-clause-did g c = record {
  a = c.in_ok-a.a;
  b = c.in_ok-b.b;
  c = c.in_ok-c.c;
  d = c.in_ok-d.d;
  some_is = c.some_hit.ensures;
  did = record {
    transfers = (Got Tselect c.in_ok-kept.kept
        ∷ ((slot_changed c.args.change 0 c.in_ok-a.a) ++ ((slot_changed c.args.change 1 c.in_ok-b.b)
        ++ ((slot_changed c.args.change 2 c.in_ok-c.c) ++ ((slot_changed c.args.change 3 c.in_ok-d.d) ++ (put_back c.in_ok-kept.kept))))));
    whole = record { kept = c.in_ok-kept.kept; is = refl };
    made = (made_then c.args.halted.now.number (Got Tselect c.in_ok-kept.kept ∷ [])
        ((slot_changed c.args.change 0 c.in_ok-a.a) ++ ((slot_changed c.args.change 1 c.in_ok-b.b)
        ++ ((slot_changed c.args.change 2 c.in_ok-c.c) ++ ((slot_changed c.args.change 3 c.in_ok-d.d) ++ (put_back c.in_ok-kept.kept))))) _ _ _
        c.in_ok-kept.ensures.made (made_then c.args.halted.now.number (slot_changed c.args.change 0 c.in_ok-a.a)
        ((slot_changed c.args.change 1 c.in_ok-b.b) ++ ((slot_changed c.args.change 2 c.in_ok-c.c)
        ++ ((slot_changed c.args.change 3 c.in_ok-d.d) ++ (put_back c.in_ok-kept.kept)))) _ _ _ c.in_ok-a.ensures.made
        (made_then c.args.halted.now.number (slot_changed c.args.change 1 c.in_ok-b.b)
        ((slot_changed c.args.change 2 c.in_ok-c.c) ++ ((slot_changed c.args.change 3 c.in_ok-d.d) ++ (put_back c.in_ok-kept.kept)))
        _ _ _ c.in_ok-b.ensures.made
        (made_then c.args.halted.now.number (slot_changed c.args.change 2 c.in_ok-c.c)
        ((slot_changed c.args.change 3 c.in_ok-d.d) ++ (put_back c.in_ok-kept.kept)) _ _ _ c.in_ok-c.ensures.made
        (made_then c.args.halted.now.number (slot_changed c.args.change 3 c.in_ok-d.d)
        (put_back c.in_ok-kept.kept) _ _ _ c.in_ok-d.ensures.made c.in_ok-set_reg.ensures.made)))));
  };
}

pub returns-in_err-kept-clause-rises : goal.returns-in_err-kept-clause-rises
returns-in_err-kept-clause-rises g c =
    within_more 16 152 _ _ c.reg.ensures.rises (omega arith)

pub returns-in_err-a-clause-rises : goal.returns-in_err-a-clause-rises
returns-in_err-a-clause-rises g c =
    within_then 16 32 152 _ (g.D.Dmi.seen c.reg.new.link) _ c.reg.ensures.rises c.change_slot.ensures.rises
    c.reg.ensures.keeps.fixed (omega arith)

pub returns-in_err-b-clause-rises : goal.returns-in_err-b-clause-rises
returns-in_err-b-clause-rises g c =
    within_then 48 32 152 _ (g.D.Dmi.seen c.change_slot.new.link) _ (within_then 16 32 48 _ (g.D.Dmi.seen c.reg.new.link) _ c.reg.ensures.rises c.change_slot.ensures.rises
    c.reg.ensures.keeps.fixed (omega arith)) c.change_slot-2.ensures.rises
    (c.change_slot.ensures.keeps.fixed ∙ c.reg.ensures.keeps.fixed) (omega arith)

pub returns-in_err-c-clause-rises : goal.returns-in_err-c-clause-rises
returns-in_err-c-clause-rises g c =
    within_then 80 32 152 _ (g.D.Dmi.seen c.change_slot-2.new.link) _ (within_then 48 32 80 _ (g.D.Dmi.seen c.change_slot.new.link) _ (within_then 16 32 48 _ (g.D.Dmi.seen c.reg.new.link) _ c.reg.ensures.rises c.change_slot.ensures.rises
    c.reg.ensures.keeps.fixed (omega arith)) c.change_slot-2.ensures.rises
    (c.change_slot.ensures.keeps.fixed ∙ c.reg.ensures.keeps.fixed) (omega arith)) c.change_slot-3.ensures.rises
    (c.change_slot-2.ensures.keeps.fixed ∙ c.change_slot.ensures.keeps.fixed ∙ c.reg.ensures.keeps.fixed) (omega arith)

pub returns-in_err-d-clause-rises : goal.returns-in_err-d-clause-rises
returns-in_err-d-clause-rises g c =
    within_then 112 32 152 _ (g.D.Dmi.seen c.change_slot-3.new.link) _ (within_then 80 32 112 _ (g.D.Dmi.seen c.change_slot-2.new.link) _ (within_then 48 32 80 _ (g.D.Dmi.seen c.change_slot.new.link) _ (within_then 16 32 48 _ (g.D.Dmi.seen c.reg.new.link) _ c.reg.ensures.rises c.change_slot.ensures.rises
    c.reg.ensures.keeps.fixed (omega arith)) c.change_slot-2.ensures.rises
    (c.change_slot.ensures.keeps.fixed ∙ c.reg.ensures.keeps.fixed) (omega arith)) c.change_slot-3.ensures.rises
    (c.change_slot-2.ensures.keeps.fixed ∙ c.change_slot.ensures.keeps.fixed ∙ c.reg.ensures.keeps.fixed) (omega arith)) c.change_slot-4.ensures.rises
    (c.change_slot-3.ensures.keeps.fixed ∙ c.change_slot-2.ensures.keeps.fixed ∙ c.change_slot.ensures.keeps.fixed ∙ c.reg.ensures.keeps.fixed) (omega arith)

pub returns-in_err-set_reg-clause-rises : goal.returns-in_err-set_reg-clause-rises
returns-in_err-set_reg-clause-rises g c =
    within_then 144 8 152 _ (g.D.Dmi.seen c.change_slot-4.new.link) _ (within_then 112 32 144 _ (g.D.Dmi.seen c.change_slot-3.new.link) _ (within_then 80 32 112 _ (g.D.Dmi.seen c.change_slot-2.new.link) _ (within_then 48 32 80 _ (g.D.Dmi.seen c.change_slot.new.link) _ (within_then 16 32 48 _ (g.D.Dmi.seen c.reg.new.link) _ c.reg.ensures.rises c.change_slot.ensures.rises
    c.reg.ensures.keeps.fixed (omega arith)) c.change_slot-2.ensures.rises
    (c.change_slot.ensures.keeps.fixed ∙ c.reg.ensures.keeps.fixed) (omega arith)) c.change_slot-3.ensures.rises
    (c.change_slot-2.ensures.keeps.fixed ∙ c.change_slot.ensures.keeps.fixed ∙ c.reg.ensures.keeps.fixed) (omega arith)) c.change_slot-4.ensures.rises
    (c.change_slot-3.ensures.keeps.fixed ∙ c.change_slot-2.ensures.keeps.fixed ∙ c.change_slot.ensures.keeps.fixed ∙ c.reg.ensures.keeps.fixed) (omega arith)) c.set_reg.ensures.rises
    (c.change_slot-4.ensures.keeps.fixed ∙ c.change_slot-3.ensures.keeps.fixed ∙ c.change_slot-2.ensures.keeps.fixed ∙ c.change_slot.ensures.keeps.fixed ∙ c.reg.ensures.keeps.fixed) (omega arith)

pub returns-clause-rises : goal.returns-clause-rises
returns-clause-rises g c =
    within_then 144 8 152 _ (g.D.Dmi.seen c.change_slot-4.new.link) _ (within_then 112 32 144 _ (g.D.Dmi.seen c.change_slot-3.new.link) _ (within_then 80 32 112 _ (g.D.Dmi.seen c.change_slot-2.new.link) _ (within_then 48 32 80 _ (g.D.Dmi.seen c.change_slot.new.link) _ (within_then 16 32 48 _ (g.D.Dmi.seen c.reg.new.link) _ c.reg.ensures.rises c.change_slot.ensures.rises
    c.reg.ensures.keeps.fixed (omega arith)) c.change_slot-2.ensures.rises
    (c.change_slot.ensures.keeps.fixed ∙ c.reg.ensures.keeps.fixed) (omega arith)) c.change_slot-3.ensures.rises
    (c.change_slot-2.ensures.keeps.fixed ∙ c.change_slot.ensures.keeps.fixed ∙ c.reg.ensures.keeps.fixed) (omega arith)) c.change_slot-4.ensures.rises
    (c.change_slot-3.ensures.keeps.fixed ∙ c.change_slot-2.ensures.keeps.fixed ∙ c.change_slot.ensures.keeps.fixed ∙ c.reg.ensures.keeps.fixed) (omega arith)) c.set_reg.ensures.rises
    (c.change_slot-4.ensures.keeps.fixed ∙ c.change_slot-3.ensures.keeps.fixed ∙ c.change_slot-2.ensures.keeps.fixed ∙ c.change_slot.ensures.keeps.fixed ∙ c.reg.ensures.keeps.fixed) (omega arith)

pub returns-in_err-a-clause-never : goal.returns-in_err-a-clause-never
returns-in_err-a-clause-never g c =
    if_err (NeverLost (g.D.Dmi.seen c.args.link.now)) c.from_residual-in_err-a.result _ c.from_residual-in_err-a.ensures.1
    (lost_then _ (g.D.Dmi.seen c.args.link.now) (g.D.Dmi.seen c.reg.new.link) c.in_err-a.field-0.0 c.reg.ensures.rises c.in_err-a.ensures.never)

pub returns-in_err-b-clause-never : goal.returns-in_err-b-clause-never
returns-in_err-b-clause-never g c =
    if_err (NeverLost (g.D.Dmi.seen c.args.link.now)) c.from_residual-in_err-b.result _ c.from_residual-in_err-b.ensures.1
    (lost_then _ (g.D.Dmi.seen c.args.link.now) (g.D.Dmi.seen c.reg.new.link) c.in_err-b.field-0.0 c.reg.ensures.rises
    (lost_then _ (g.D.Dmi.seen c.reg.new.link) (g.D.Dmi.seen c.change_slot.new.link) c.in_err-b.field-0.0 c.change_slot.ensures.rises
    c.in_err-b.ensures.never))

pub returns-in_err-c-clause-never : goal.returns-in_err-c-clause-never
returns-in_err-c-clause-never g c =
    if_err (NeverLost (g.D.Dmi.seen c.args.link.now)) c.from_residual-in_err-c.result _ c.from_residual-in_err-c.ensures.1
    (lost_then _ (g.D.Dmi.seen c.args.link.now) (g.D.Dmi.seen c.reg.new.link) c.in_err-c.field-0.0 c.reg.ensures.rises
    (lost_then _ (g.D.Dmi.seen c.reg.new.link) (g.D.Dmi.seen c.change_slot.new.link) c.in_err-c.field-0.0 c.change_slot.ensures.rises
    (lost_then _ (g.D.Dmi.seen c.change_slot.new.link) (g.D.Dmi.seen c.change_slot-2.new.link) c.in_err-c.field-0.0 c.change_slot-2.ensures.rises
    c.in_err-c.ensures.never)))

pub returns-in_err-d-clause-never : goal.returns-in_err-d-clause-never
returns-in_err-d-clause-never g c =
    if_err (NeverLost (g.D.Dmi.seen c.args.link.now)) c.from_residual-in_err-d.result _ c.from_residual-in_err-d.ensures.1
    (lost_then _ (g.D.Dmi.seen c.args.link.now) (g.D.Dmi.seen c.reg.new.link) c.in_err-d.field-0.0 c.reg.ensures.rises
    (lost_then _ (g.D.Dmi.seen c.reg.new.link) (g.D.Dmi.seen c.change_slot.new.link) c.in_err-d.field-0.0 c.change_slot.ensures.rises
    (lost_then _ (g.D.Dmi.seen c.change_slot.new.link) (g.D.Dmi.seen c.change_slot-2.new.link) c.in_err-d.field-0.0 c.change_slot-2.ensures.rises
    (lost_then _ (g.D.Dmi.seen c.change_slot-2.new.link) (g.D.Dmi.seen c.change_slot-3.new.link) c.in_err-d.field-0.0 c.change_slot-3.ensures.rises
    c.in_err-d.ensures.never))))

pub returns-in_err-set_reg-clause-never : goal.returns-in_err-set_reg-clause-never
returns-in_err-set_reg-clause-never g c =
    if_err (NeverLost (g.D.Dmi.seen c.args.link.now)) c.from_residual-in_err-set_reg.result _ c.from_residual-in_err-set_reg.ensures.1
    (lost_then _ (g.D.Dmi.seen c.args.link.now) (g.D.Dmi.seen c.reg.new.link) c.in_err-set_reg.field-0.0 c.reg.ensures.rises
    (lost_then _ (g.D.Dmi.seen c.reg.new.link) (g.D.Dmi.seen c.change_slot.new.link) c.in_err-set_reg.field-0.0 c.change_slot.ensures.rises
    (lost_then _ (g.D.Dmi.seen c.change_slot.new.link) (g.D.Dmi.seen c.change_slot-2.new.link) c.in_err-set_reg.field-0.0 c.change_slot-2.ensures.rises
    (lost_then _ (g.D.Dmi.seen c.change_slot-2.new.link) (g.D.Dmi.seen c.change_slot-3.new.link) c.in_err-set_reg.field-0.0 c.change_slot-3.ensures.rises
    (lost_then _ (g.D.Dmi.seen c.change_slot-3.new.link) (g.D.Dmi.seen c.change_slot-4.new.link) c.in_err-set_reg.field-0.0 c.change_slot-4.ensures.rises
    c.in_err-set_reg.ensures.never)))))
