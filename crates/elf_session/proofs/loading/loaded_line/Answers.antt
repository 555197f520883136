use Rattle.std.proofs.Common.{arith}
use Rattle.probe_session.proofs.LinkLemmas.{if_err}
use Rattle.probe_session.proofs.OneLine.{if_err_map, if_ok_map, met_as}
use Rattle.elf_session.specs.Loading.{loading_of}
use Rattle.elf_session.proofs.Entering.{met_falls, met_says}
use Rattle.elf_session.proofs.LoadingSteps.{elements_fell, elements_first, elements_refused, entry_behind, entry_behind_falls, error_as, stored_as}
use Rattle.elf_load.specs.Runs.{load_rises}
use Rattle.probe_session.proofs.NeverLemmas.{behind_then, gives_up_then}
use Rattle.elf_session.proofs.Budgets.{entered_within, met_within, stored_within}
use Rattle.elf_session.proofs.loading.loaded_line.Goals as goal

pub returns-in_err-line-clause-falls : goal.returns-in_err-line-clause-falls
returns-in_err-line-clause-falls g c = if_err _ c.in_err-line.field-0.0 _ c.from_residual.ensures.1
    (met_falls (elements_first (loading_of c.args.file.now)) c.in_err-line.ensures.falls)

pub returns-in-Says-clause-went : goal.returns-in-Says-clause-went
returns-in-Says-clause-went g c =
    met_says (elements_first (loading_of c.args.file.now)) c.in-Says.line (error_as c.in-Says.is c.in_ok-line.ensures.error)
    (met_as _ _ _ c.in-Says.is c.in_ok-line.ensures.met)

pub returns-in_err-at-in-At-clause-falls : goal.returns-in_err-at-in-At-clause-falls
returns-in_err-at-in-At-clause-falls g c =
    let m = met_as _ _ _ c.in-At.is c.in_ok-line.ensures.met in
    if_err _ c.in_err-at-in-At.field-0.0 _ c.from_residual-in_err-at-in-At.ensures.1
    (elements_fell (loading_of c.args.file.now) m.1 c.meet.ensures.keeps.later c.in_err-at-in-At.ensures.falls)

pub returns-in-UpTo-clause-went : goal.returns-in-UpTo-clause-went
returns-in-UpTo-clause-went g c =
    let m = met_as _ _ _ c.in-At.is c.in_ok-line.ensures.met in
    elements_refused (loading_of c.args.file.now) c.in-UpTo.at m.1 (stored_as (loading_of c.args.file.now) _ _ c.in-UpTo.is c.in_ok-at-in-At.ensures.stored)

pub returns-in-All-clause-went : goal.returns-in-All-clause-went
returns-in-All-clause-went g c =
    let m = met_as _ _ _ c.in-At.is c.in_ok-line.ensures.met in
    if_ok_map _ _ _ (λ line w. entry_behind (loading_of c.args.file.now) c.args.elf.now.entry c.in-All.size line m.1
    (stored_as (loading_of c.args.file.now) _ _ c.in-All.is c.in_ok-at-in-At.ensures.stored) c.requires.read.entry_is w) c.entry_line.ensures.went

pub returns-in-All-clause-falls : goal.returns-in-All-clause-falls
returns-in-All-clause-falls g c =
    let m = met_as _ _ _ c.in-At.is c.in_ok-line.ensures.met in
    if_err_map _ _ _ (λ f p. entry_behind_falls (loading_of c.args.file.now) c.args.elf.now.entry c.in-All.size m.1
    (stored_as (loading_of c.args.file.now) _ _ c.in-All.is c.in_ok-at-in-At.ensures.stored) c.requires.read.entry_is
    (omega (arith, c.meet.ensures.keeps.later, c.store.ensures.keeps.later)) p) c.entry_line.ensures.falls

pub returns-in_err-line-clause-rises : goal.returns-in_err-line-clause-rises
returns-in_err-line-clause-rises g c = met_within (load_rises c.args.file.now) _ _ c.meet.ensures.rises

pub returns-in-Says-clause-rises : goal.returns-in-Says-clause-rises
returns-in-Says-clause-rises g c = met_within (load_rises c.args.file.now) _ _ c.meet.ensures.rises

pub returns-in_err-at-in-At-clause-rises : goal.returns-in_err-at-in-At-clause-rises
returns-in_err-at-in-At-clause-rises g c =
    stored_within (load_rises c.args.file.now) _ (g.D.Dmi.seen c.meet.new.link) _ c.meet.ensures.rises c.store.ensures.rises c.meet.ensures.keeps.fixed

pub returns-in-UpTo-clause-rises : goal.returns-in-UpTo-clause-rises
returns-in-UpTo-clause-rises g c =
    stored_within (load_rises c.args.file.now) _ (g.D.Dmi.seen c.meet.new.link) _ c.meet.ensures.rises c.store.ensures.rises c.meet.ensures.keeps.fixed

pub returns-in-All-clause-rises : goal.returns-in-All-clause-rises
returns-in-All-clause-rises g c =
    entered_within (load_rises c.args.file.now) _ (g.D.Dmi.seen c.meet.new.link) (g.D.Dmi.seen c.store.new.link) _ c.meet.ensures.rises c.store.ensures.rises c.entry_line.ensures.rises c.meet.ensures.keeps.fixed
    c.store.ensures.keeps.fixed

pub returns-in_err-at-in-At-clause-never : goal.returns-in_err-at-in-At-clause-never
returns-in_err-at-in-At-clause-never g c = if_err _ c.in_err-at-in-At.field-0.0 _ c.from_residual-in_err-at-in-At.ensures.1
    (gives_up_then 2 (g.D.Dmi.seen c.args.link.now) (g.D.Dmi.seen c.meet.new.link) c.in_err-at-in-At.field-0.0 c.meet.ensures.rises c.in_err-at-in-At.ensures.never)

pub returns-in-All-clause-never : goal.returns-in-All-clause-never
returns-in-All-clause-never g c =
    behind_then 2 (g.D.Dmi.seen c.args.link.now) (g.D.Dmi.seen c.meet.new.link) c.entry_line.result c.meet.ensures.rises
    (behind_then (load_rises c.args.file.now) (g.D.Dmi.seen c.meet.new.link) (g.D.Dmi.seen c.store.new.link) c.entry_line.result c.store.ensures.rises c.entry_line.ensures.never)
