use Rattle.chip_laws.proofs.BusLemmas as lemmas
use Rattle.chip_laws.proofs.bus_laws.bus_reads_memory.Goals as goal

pub returns : goal.returns
returns c = lemmas.bus_reads
