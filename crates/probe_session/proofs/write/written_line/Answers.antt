use Rattle.probe_access.specs.BlockRises.{store_rises}
use Rattle.debug_model.proofs.RiseLemmas.{within_none}
use Rattle.std.proofs.Common.{rules, refl}
use Rattle.std.proofs.Common.{◌∙◌, sym}
use Rattle.probe_session.proofs.LinkLemmas.{if_err}
use Rattle.probe_session.proofs.MemoryLines.{attached_by, write_falls, write_misaligned, write_refused, wrote_all}
use Rattle.probe_session.proofs.SeenLemmas.{all_stored, some_stored}
use Rattle.probe_session.proofs.Selections.{stays_here}
use Rattle.probe_session.proofs.write.written_line.Goals as goal

pub returns-then-not-is_aligned-clause-went : goal.returns-then-not-is_aligned-clause-went
returns-then-not-is_aligned-clause-went g c = write_misaligned c.args.reach.now c.args.size c.args.address c.args.value c.args.count _
    (sym c.is_aligned.ensures ∙ c.if-not-is_aligned.true)

pub returns-in_err-store_by-clause-falls : goal.returns-in_err-store_by-clause-falls
returns-in_err-store_by-clause-falls g c = if_err _ c.in_err-store_by.field-0.0 _ c.from_residual.ensures.1
    (write_falls c.args.reach.now c.args.size c.args.address c.args.value c.args.count (sym c.is_aligned.ensures ∙ c.if-not-is_aligned.false)
    c.in_err-store_by.ensures.fell)

pub returns-in-None-clause-went : goal.returns-in-None-clause-went
returns-in-None-clause-went g c = wrote_all c.args.reach.now c.args.size c.args.address c.args.value c.args.count
    (sym c.is_aligned.ensures ∙ c.if-not-is_aligned.false) (all_stored c.in-None.is c.in_ok-store_by.ensures.stored)

pub returns-in-None-clause-keeps : goal.returns-in-None-clause-keeps
returns-in-None-clause-keeps g c = let b = attached_by c.args.reach.now _ c.in_ok-store_by.ensures.keeps.behind in search rules

pub returns-in-Some-clause-went : goal.returns-in-Some-clause-went
returns-in-Some-clause-went g c = write_refused c.args.reach.now c.args.size c.args.address c.args.value c.args.count c.in-Some.at
    (sym c.is_aligned.ensures ∙ c.if-not-is_aligned.false) (some_stored c.in-Some.is c.in_ok-store_by.ensures.stored)

pub returns-in-Some-clause-keeps : goal.returns-in-Some-clause-keeps
returns-in-Some-clause-keeps g c = let b = attached_by c.args.reach.now _ c.in_ok-store_by.ensures.keeps.behind in search rules

pub returns-then-not-is_aligned-clause-selection : goal.returns-then-not-is_aligned-clause-selection
returns-then-not-is_aligned-clause-selection g c = stays_here _

pub returns-then-not-is_aligned-clause-rises : goal.returns-then-not-is_aligned-clause-rises
returns-then-not-is_aligned-clause-rises g c =
    within_none (store_rises c.args.count) _ _ refl
