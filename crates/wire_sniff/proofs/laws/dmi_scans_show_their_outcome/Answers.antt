use Rattle.wire_sniff.proofs.OutcomeLemmas as lemmas
use Rattle.wire_sniff.proofs.laws.dmi_scans_show_their_outcome.Goals as goal

pub returns : goal.returns
returns c = lemmas.dmi_scan_shows
