use Rattle.wire_sniff.proofs.PathLemmas as lemmas
use Rattle.wire_sniff.proofs.laws.paths_show_their_scans.Goals as goal

pub returns : goal.returns
returns c = record { scans = lemmas.data_scan_shows; instruction = lemmas.code_scan_shows; reset = lemmas.reset_shows }
