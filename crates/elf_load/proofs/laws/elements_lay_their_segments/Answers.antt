use Rattle.elf_load.specs.Fields.{segments_of}
use Rattle.elf_load.proofs.LayLemmas.{segments_laid}
use Rattle.elf_load.proofs.SoundLemmas.{no_bad_segment}
use Rattle.elf_load.proofs.laws.elements_lay_their_segments.Goals as goal

pub returns : goal.returns
returns c = λ file small sound m x. segments_laid file (segments_of file) m x small (no_bad_segment file sound)
