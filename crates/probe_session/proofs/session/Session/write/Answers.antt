use Rattle.probe_access.specs.BlockRises.{store_rises}
use Rattle.std.proofs.Common.{◌+◌, arith}
use Rattle.debug_model.proofs.RiseLemmas.{within_more, within_then}
use Rattle.probe_session.specs.Commands.{state_of}
use Rattle.probe_session.specs.Reach.{written}
use Rattle.probe_session.specs.Said.{said_by}
use Rattle.probe_session.proofs.Knowing.{still_knows}
use Rattle.probe_session.proofs.LinkLemmas.{if_err}
use Rattle.probe_session.proofs.MemoryLines.{reach_falls, reach_goes, reach_goes_falls, reach_says, reached_as}
use Rattle.probe_session.proofs.OneLine.{if_err_map, if_ok_map}
use Rattle.probe_session.proofs.NeverLemmas.{behind_then}
use Rattle.probe_session.proofs.session.Session.write.Goals as goal

pub returns-in_err-line-clause-falls : goal.returns-in_err-line-clause-falls
returns-in_err-line-clause-falls g c = if_err _ c.in_err-line.field-0.0 _ c.from_residual.ensures.1
    (reach_falls (state_of c.args.self.now) (written c.args.size c.args.address c.args.value c.args.count) c.in_err-line.ensures.falls)

pub returns-in-Says-clause-went : goal.returns-in-Says-clause-went
returns-in-Says-clause-went g c = reach_says (state_of c.args.self.now) (written c.args.size c.args.address c.args.value c.args.count) _
    (reached_as _ _ _ c.in-Says.is c.in_ok-line.ensures.reached)

pub returns-in-By-clause-went : goal.returns-in-By-clause-went
returns-in-By-clause-went g c = if_ok_map _ _ _ (λ line w. reach_goes (state_of c.args.self.now) c.in-By.reach
    (written c.args.size c.args.address c.args.value c.args.count) (said_by line) (reached_as _ _ _ c.in-By.is c.in_ok-line.ensures.reached) w)
    c.written_line.ensures.went

pub returns-in-By-clause-falls : goal.returns-in-By-clause-falls
returns-in-By-clause-falls g c = if_err_map _ _ _ (λ f p. reach_goes_falls (state_of c.args.self.now) c.in-By.reach
    (written c.args.size c.args.address c.args.value c.args.count) (reached_as _ _ _ c.in-By.is c.in_ok-line.ensures.reached) c.reach.ensures.keeps.later p)
    c.written_line.ensures.falls

pub returns-in-By-clause-knows : goal.returns-in-By-clause-knows
returns-in-By-clause-knows g c = still_knows _ _ _ _ _ _ c.written_line.ensures.selection c.in_ok-line.ensures.knows

pub returns-in_err-line-clause-rises : goal.returns-in_err-line-clause-rises
returns-in_err-line-clause-rises g c =
    within_more 2 (store_rises c.args.count + 2) _ _ c.reach.ensures.rises (omega arith)

pub returns-in-Says-clause-rises : goal.returns-in-Says-clause-rises
returns-in-Says-clause-rises g c =
    within_more 2 (store_rises c.args.count + 2) _ _ c.reach.ensures.rises (omega arith)

pub returns-in-By-clause-rises : goal.returns-in-By-clause-rises
returns-in-By-clause-rises g c =
    within_then 2 (store_rises c.args.count) (store_rises c.args.count + 2) _ (g.D.Dmi.seen c.reach.new.link) _ c.reach.ensures.rises
    c.written_line.ensures.rises
    c.reach.ensures.keeps.fixed (omega arith)

pub returns-in-By-clause-never : goal.returns-in-By-clause-never
returns-in-By-clause-never g c =
    behind_then 2 _ (g.D.Dmi.seen c.reach.new.link) _ c.reach.ensures.rises c.written_line.ensures.never
