use Rattle.jtag_run.proofs.ElfRuns.{elf_ended}
use Rattle.jtag_run.proofs.elf.elf_with.Goals as goal

pub returns : goal.returns
returns g c = record {
  ended = elf_ended c.args.bench.now _ c.args.inputs.now.file.bytes.items c.args.inputs.now.script _
      (record { printed = g.K.Sink.contents c.run_elf_on_bench-ended.new.out; faults = g.K.Sink.fault_count c.run_elf_on_bench-ended.new.out }) _
      c.run_elf_on_bench-ended.result _ c.run_elf_on_bench-ended.ensures.sink_later (rw c.deref.ensures.value at c.run_elf_on_bench-ended.ensures.ran)
      (rw c.at_limit.ensures at c.tell.ensures.told);
}
