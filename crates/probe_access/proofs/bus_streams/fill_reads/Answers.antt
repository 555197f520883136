use Rattle.std.proofs.Common.{◌∙◌, ◌++◌, ap, arith}
use Rattle.probe_access.specs.BusStreams.{reads_of_one}
use Rattle.probe_access.proofs.BusStreamCalls.{reads_snoc}
use Rattle.probe_access.proofs.bus_streams.fill_reads.Goals as goal

pub elements-preserved : goal.elements-preserved
elements-preserved c = record {
  filled = c.put_reads-at.ensures.put ∙ ap (λ xs. xs ++ reads_of_one c.args.size) c.elements.invariant.filled
      ∙ reads_snoc c.args.size c.elements._element;
  within = omega (arith, c.put_reads-at.ensures.behind, c.elements.invariant.within);
  long = c.put_reads-at.ensures.long ∙ c.elements.invariant.long;
}
