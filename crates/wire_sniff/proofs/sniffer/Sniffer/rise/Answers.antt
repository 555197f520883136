use Rattle.std.proofs.Common.{◌≡◌, false, refl, sym, ◌∙◌}
use Rattle.wire_sniff.proofs.SnifferLemmas.{risen, rises_free}
use Rattle.wire_sniff.proofs.sniffer.Sniffer.rise.Goals as goal

pub returns-clause-state : goal.returns-clause-state
returns-clause-state c = λ answers s is.
    let free : s.held ≡ false = sym is.held ∙ c.if-self.false in
    rw (rises_free c.args.tms c.args.tdi s free)
    (risen c.args.tms c.args.tdi answers _ _ s is refl c.next_state-self.ensures refl c.instruction_in-self.ensures c.rise.ensures.scan refl refl)
