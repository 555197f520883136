use Rattle.std.proofs.Common.{refl, sym, ap, ◌∙◌, ◌+◌, arith}
use Rattle.debug_model.specs.declared.sbcs.Sbcs.{Sbcs}
use Rattle.probe_access.proofs.Polls.{dmi_failed, not_false, not_true, read_did}
use Rattle.debug_model.proofs.RiseLemmas.{within_none, within_then}
use Rattle.probe_access.proofs.BusPollRises.{bus_all, bus_more, bus_none, bus_once}
use Rattle.probe_access.proofs.BusPolls.{poll_broke, waiting_ends, waiting_more, waiting_none}
use Rattle.probe_access.proofs.bus_parts.poll_bus.Goals as goal

pub polls-init : goal.polls-init
polls-init g c = record {
  waiting = waiting_none _;
  rises = within_none 0 (g.D.Dmi.seen c.args.link.now) (g.D.Dmi.seen c.args.link.now) refl;
  once = bus_none (g.D.Dmi.seen c.args.link.now);
  callable = c.requires.callable;
  stands = λ h. absurd (omega arith);
  later = omega arith;
  fixed = refl;
}

pub polls-preserved : goal.polls-preserved
polls-preserved g c = record {
  waiting =
      waiting_more c.polls._polls c.in_ok-word.word _ _ _ c.polls.invariant.waiting
      (read_did 56 c.in_ok-word.word _ _ c.in_ok-word.ensures.operated c.in_ok-word.ensures.answers)
      (sym (ap (λ (s : Sbcs). s.sbbusy) c.from_word-bus.ensures) ∙ not_false _ c.if-not-bus.false);
  rises = within_then c.polls._polls 1 (c.polls._polls + 1) _ _ _ c.polls.invariant.rises c.read.ensures.rises c.polls.invariant.fixed (omega arith);
  once =
      bus_once c.polls._polls (c.polls._polls + 1) c.in_ok-word.word (g.D.Dmi.seen c.args.link.now) (g.D.Dmi.seen c.polls.link)
      (g.D.Dmi.seen c.read.new.self) c.polls.invariant.rises c.in_ok-word.ensures.operated
      (sym (ap (λ (s : Sbcs). s.sbbusy) c.from_word-bus.ensures) ∙ not_false _ c.if-not-bus.false);
  callable = record { alive = c.in_ok-word.ensures.keeps.behind.alive; link = c.in_ok-word.ensures.keeps.behind.link };
  stands = λ h. c.in_ok-word.ensures.keeps.behind;
  later = omega (arith, c.polls.invariant.later, c.read.ensures.keeps.later);
  fixed = c.read.ensures.keeps.fixed ∙ c.polls.invariant.fixed;
}

pub returns-in_err-word-clause-failed : goal.returns-in_err-word-clause-failed
returns-in_err-word-clause-failed g c =
    dmi_failed c.from_residual.result c.in_err-word.field-0.0 _ c.from_residual.ensures.1
    (poll_broke c.polls._polls _ _ _ _ _ _ c.in_err-word.field-0.0 c.polls.invariant.waiting c.polls-test.true c.polls.invariant.later
    c.read.ensures.keeps.later c.in_err-word.ensures.cut c.in_err-word.ensures.cause)

pub returns-then-not-bus-clause-polled : goal.returns-then-not-bus-clause-polled
returns-then-not-bus-clause-polled g c =
    waiting_ends c.polls._polls c.in_ok-word.word _ _ _ c.polls.invariant.waiting c.polls-test.true
    (read_did 56 c.in_ok-word.word _ _ c.in_ok-word.ensures.operated c.in_ok-word.ensures.answers)
    (sym (ap (λ (s : Sbcs). s.sbbusy) c.from_word-bus.ensures) ∙ not_true _ c.if-not-bus.true)

pub returns-in_err-word-clause-rises : goal.returns-in_err-word-clause-rises
returns-in_err-word-clause-rises g c =
    bus_more c.polls._polls _ _ _ c.polls.invariant.rises c.polls.invariant.once c.read.ensures.rises c.polls.invariant.fixed

pub returns-then-not-bus-clause-rises : goal.returns-then-not-bus-clause-rises
returns-then-not-bus-clause-rises g c =
    bus_more c.polls._polls _ _ _ c.polls.invariant.rises c.polls.invariant.once c.read.ensures.rises c.polls.invariant.fixed

pub returns-clause-rises : goal.returns-clause-rises
returns-clause-rises g c = bus_all c.polls._polls _ _ c.polls.invariant.rises c.polls.invariant.once
