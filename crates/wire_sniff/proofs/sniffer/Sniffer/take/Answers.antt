use Rattle.std.proofs.Common.{sym, ◌∙◌}
use Rattle.wire_sniff.proofs.SnifferLemmas.{at_fall, at_reset, at_rise}
use Rattle.wire_sniff.proofs.sniffer.Sniffer.take.Goals as goal

pub returns-in-true-false-clause-state : goal.returns-in-true-false-clause-state
returns-in-true-false-clause-state c = λ s is.
    rw (at_fall c.args.sign c.in-Pins.tck c.in-Pins.tms c.in-Pins.tdi s c.in-Pins.is (sym is.tck ∙ c.in-true-false.is-0) c.in-true-false.is-1)
    (c.fall.ensures.state c.args.answers.now s is)

pub returns-in-false-true-clause-state : goal.returns-in-false-true-clause-state
returns-in-false-true-clause-state c = λ s is.
    rw (at_rise c.args.sign c.in-Pins.tck c.in-Pins.tms c.in-Pins.tdi s c.in-Pins.is (sym is.tck ∙ c.in-false-true.is-0) c.in-false-true.is-1)
    (c.rise.ensures.state c.args.answers.now s is)

pub returns-in-Reset-clause-state : goal.returns-in-Reset-clause-state
returns-in-Reset-clause-state c = λ s is. rw (at_reset c.args.sign c.in-Reset.level s c.in-Reset.is) (c.hold.ensures.state c.args.answers.now s is)
