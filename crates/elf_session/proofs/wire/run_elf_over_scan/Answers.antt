use Rattle.elf_session.proofs.Budgets.{over_scans}
use Rattle.elf_session.proofs.wire.run_elf_over_scan.Goals as goal

pub returns-clause-rises : goal.returns-clause-rises
returns-clause-rises g c =
    rw c.into_scan.ensures (rw c.paced-link.ensures.scan at (over_scans c.args.file.now c.args.script.now _ _ c.run_elf-ended.ensures.rises))
