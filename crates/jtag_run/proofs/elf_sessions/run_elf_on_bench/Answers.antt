use Rattle.std.proofs.Common.{refl, rules}
use Rattle.jtag_run.proofs.BenchEnds.{on_bench_by}
use Rattle.jtag_run.specs.Sequel.Sequel.{of_elf}
use Rattle.jtag_run.proofs.elf_sessions.run_elf_on_bench.Goals as goal

pub returns-clause-ran : goal.returns-clause-ran
returns-clause-ran g c =
    let ran = rw c.new-wire.ensures.unread at (rw c.new-wire.ensures.bench at (c.run_elf_session.ensures.ran refl refl)) in
    let in_time = rw c.new-wire.ensures.unread at (rw c.new-wire.ensures.bench at c.run_elf_session.ensures.never) in
    let went = on_bench_by c.args.bench.now c.run_elf_session.new.wire.bench.now c.run_elf_session.new.wire.unread.items
    (of_elf c.args.file.now c.args.script.now) _ _ c.run_elf_session.result ran tt in_time in
    search (rules, went)
