use Rattle.std.proofs.Common.{◌≡◌, rules}
use Rattle.wire_session.proofs.SessionRuns.{session_ran_by}
use Rattle.elf_session.specs.Loading.{elf_plan}
use Rattle.elf_session.proofs.Plans.{keep_first_match}
use Rattle.wire_session.specs.Budget.{slack_of_wire}
use Rattle.elf_session.proofs.Budgets.{closes_budget}
use Rattle.elf_session.proofs.wire.run_elf_session.Goals as goal

pub returns-clause-ran : goal.returns-clause-ran
returns-clause-ran g c before behind =
    let ties : g.W.Wire.ties c.end_stream.new.wire ≡ g.W.Wire.ties c.args.wire.now = search rules in
    session_ran_by (elf_plan c.args.file.now c.args.script.now) _ c.end_stream.ensures.closes (search rules) (search rules) (search rules) (search rules)
    (search rules) (search rules)
    c.requires.loaded (λ board journal fresh. keep_first_match board c.args.file.now c.args.script.now journal c.know_ranges.ensures fresh) ties before behind

pub returns-clause-rises : goal.returns-clause-rises
returns-clause-rises g c = closes_budget slack_of_wire c.args.file.now c.args.script.now _ _ _ _ _ c.end_stream.ensures.closes (search rules)
