use Rattle.chip_laws.proofs.PathLemmas as lemmas
use Rattle.chip_laws.proofs.path_laws.courses_are_site_paths.Goals as goal

pub returns : goal.returns
returns c = lemmas.site_path
