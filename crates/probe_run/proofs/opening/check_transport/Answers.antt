use Rattle.probe_run.specs.Told.{told}
use Rattle.std.proofs.Common.{sym, ◌∙◌}
use Rattle.probe_run.specs.Opening.{TransportFails, transport_acts, transport_fits}
use Rattle.probe_run.proofs.ActLemmas.{if_err}
use Rattle.probe_run.proofs.OpeningLemmas.{broke_scan, did_scanned, read_as}
use Rattle.probe_run.proofs.opening.check_transport.Goals as goal

pub returns-in_err-word-clause-fails : goal.returns-in_err-word-clause-fails
returns-in_err-word-clause-fails g c =
    if_err (TransportFails (g.D.Dmi.seen c.args.link.now).fault_count (g.D.Dmi.seen c.dtmcs.new.self).fault_count (told (g.D.Dmi.seen c.args.link.now))
    (told (g.D.Dmi.seen c.dtmcs.new.self))) c.from_residual.result _ c.from_residual.ensures.1
    (broke_scan _ _ _ _ _ _ c.in_err-word.ensures.cut c.in_err-word.ensures.cause)

pub returns-then-not-has_transport-clause-fails : goal.returns-then-not-has_transport-clause-fails
returns-then-not-has_transport-clause-fails g c =
    read_as transport_acts transport_fits _ c.in_ok-word.word _ _
    (did_scanned c.in_ok-word.word _ _ _ _ c.in_ok-word.ensures.path c.in_ok-word.ensures.value c.in_ok-word.ensures.shows)
    (sym c.has_transport.ensures ∙ c.if-not-has_transport.true)

pub returns-clause-did : goal.returns-clause-did
returns-clause-did g c = (
  c.in_ok-word.word,
  read_as transport_acts transport_fits _ c.in_ok-word.word _ _
      (did_scanned c.in_ok-word.word _ _ _ _ c.in_ok-word.ensures.path c.in_ok-word.ensures.value c.in_ok-word.ensures.shows)
      (sym c.has_transport.ensures ∙ c.if-not-has_transport.false),
)
