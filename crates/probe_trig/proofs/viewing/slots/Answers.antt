use Rattle.probe_trig.proofs.Calls.{makes_view, slots_read}
use Rattle.probe_trig.proofs.CutLemmas.{failed_cut}
use Rattle.probe_trig.proofs.Told.{did_at}
use Rattle.probe_run.proofs.ActLemmas.{if_err}
use Rattle.probe_trig.proofs.Untold.{failed_left}
use Rattle.probe_trig.proofs.viewing.slots.Goals as goal

pub returns-in_err-words-clause-left : goal.returns-in_err-words-clause-left
returns-in_err-words-clause-left g c = if_err _ c.from_residual.result _ c.from_residual.ensures.1
    (failed_left _ _ _ _ _ _ _ c.in_err-words.field-0.0 c.in_err-words.ensures.failed)

pub returns-clause-viewed : goal.returns-clause-viewed
returns-clause-viewed g c =
    let s = slots_read c.view_of.result c.in_ok-words.words c.args.halted.now.number _ _ c.in_ok-words.ensures.did c.view_of.ensures in
    did_at _ _ c.args.halted.now.number _ _ _ c.requires.serving.ready c.requires.serving.halted
    (makes_view c.view_of.result s.a s.b s.c s.d c.args.halted.now.number s.shows) s.did

pub returns-clause-read : goal.returns-clause-read
returns-clause-read g c = slots_read c.view_of.result c.in_ok-words.words c.args.halted.now.number _ _ c.in_ok-words.ensures.did c.view_of.ensures

pub returns-in_err-words-clause-cut : goal.returns-in_err-words-clause-cut
returns-in_err-words-clause-cut g c =
    if_err _ c.from_residual.result _ c.from_residual.ensures.1
    (failed_cut _ c.args.halted.now.number _ _ _ _ _ c.in_err-words.field-0.0 c.requires.serving.ready c.requires.serving.halted
    c.in_err-words.ensures.failed)
