use Rattle.std.proofs.Common.{◌≡◌, length}
use Rattle.jt_base.specs.Files.{content_of}
use Rattle.jt_base.proofs.memory_files.find_content.Given as goal

abbrev pub invariant-loop-rest : goal.invariant-loop-rest
invariant-loop-rest l = content_of l.name l.rest ≡ content_of l.name l.files

abbrev pub decreases-loop-rest : goal.decreases-loop-rest
decreases-loop-rest l = length l.rest
