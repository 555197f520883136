use Rattle.std.proofs.Common.{◌≡◌, ◌∙◌, Some, ap, is_some, sym}
use Rattle.probe_run.specs.Told.{told}
use Rattle.probe_run.specs.Opening.{module_acts, module_fits, release_of}
use Rattle.probe_run.proofs.OpeningLemmas.{read_as}
use Rattle.probe_run.proofs.opening.check_module.Goals as goal

pub returns-in-Some-clause-did : goal.returns-in-Some-clause-did
returns-in-Some-clause-did g c =
    let shown : release_of c.in_ok-word.word ≡ Some c.in-Some.version = sym c.release_of.ensures ∙ c.in-Some.is in
    record {
      fits = (
        c.in_ok-word.word,
        read_as module_acts module_fits _ c.in_ok-word.word (told (g.D.Dmi.seen c.args.link.now)) (told (g.D.Dmi.seen c.look.new.link))
            c.in_ok-word.ensures.did (ap is_some shown),
      );
      release = shown;
    }
