use Rattle.std.proofs.Common.{◌∙◌, ◌+◌, ◌≤◌, List, ℕ, slice_index_or, ap, sym, arith}
use Rattle.debug_model.proofs.RiseLemmas.{within_more, within_then}
use Rattle.debug_model.specs.Addresses.{dmcontrol_address}
use Rattle.probe_run.specs.Told.{told}
use Rattle.probe_run.specs.Opening.{ActivationFails}
use Rattle.probe_run.specs.Opening.ActivateBroke.{at_read}
use Rattle.probe_run.proofs.ActLemmas.{did_got, if_err}
use Rattle.probe_run.proofs.OpeningLemmas.{first_broke, reads_again, reads_broke, reads_start}
use Rattle.probe_run.proofs.opening.activate.Goals as goal

pub returns-in_err-many-clause-fails : goal.returns-in_err-many-clause-fails
returns-in_err-many-clause-fails g c =
    if_err (ActivationFails (g.D.Dmi.seen c.args.link.now).fault_count (g.D.Dmi.seen c.many.new.self).fault_count (told (g.D.Dmi.seen c.args.link.now))
    (told (g.D.Dmi.seen c.many.new.self)))
    c.from_residual.result _ c.from_residual.ensures.1
    (first_broke c.word_for.result _ _ (told (g.D.Dmi.seen c.args.link.now)) _ _ c.word_for.ensures c.in_err-many.ensures.cut c.in_err-many.ensures.cause)

pub reads-init : goal.reads-init
reads-init g c = record {
  stands = c.in_ok-many.ensures.keeps.behind;
  later = c.many.ensures.keeps.later;
  fixed = c.many.ensures.keeps.fixed;
  rises = c.many.ensures.rises;
  reads = reads_start c.word_for.result _ c.many.new.results.items _ _ c.word_for.ensures (ap (λ (xs : List ℕ). slice_index_or xs 1 0) c.deref.ensures.0)
      c.in_ok-many.ensures.count
      c.in_ok-many.ensures.operated c.in_ok-many.ensures.answers;
  few = omega arith;
}

pub returns-in_err-last-clause-fails : goal.returns-in_err-last-clause-fails
returns-in_err-last-clause-fails g c =
    if_err (ActivationFails (g.D.Dmi.seen c.args.link.now).fault_count (g.D.Dmi.seen c.read.new.self).fault_count (told (g.D.Dmi.seen c.args.link.now))
    (told (g.D.Dmi.seen c.read.new.self)))
    c.from_residual-in_err-last.result _ c.from_residual-in_err-last.ensures.1
    (at_read (reads_broke (told (g.D.Dmi.seen c.args.link.now)) (told (g.D.Dmi.seen c.reads.link)) c.reads.reads c.reads.last
    (g.D.Dmi.seen c.args.link.now).fault_count (g.D.Dmi.seen c.reads.link).fault_count
    (g.D.Dmi.seen c.read.new.self).fault_count _ _ c.reads.invariant.reads (sym c.is_active.ensures ∙ c.reads-test.true)
    (omega (arith, c.reads.invariant.few, c.if-reads-eq-READS_MOST.false))
    c.reads.invariant.later c.read.ensures.keeps.later c.in_err-last.ensures.cut c.in_err-last.ensures.cause))

pub reads-preserved : goal.reads-preserved
reads-preserved g c = record {
  stands = c.in_ok-last.ensures.keeps.behind;
  later = let a : (g.D.Dmi.seen c.args.link.now).fault_count ≤ (g.D.Dmi.seen c.reads.link).fault_count = c.reads.invariant.later in
      let b : (g.D.Dmi.seen c.reads.link).fault_count ≤ (g.D.Dmi.seen c.read.new.self).fault_count = c.read.ensures.keeps.later in omega arith;
  fixed = c.read.ensures.keeps.fixed ∙ c.reads.invariant.fixed;
  rises = within_then (1 + c.reads.reads) 1 _ _ (g.D.Dmi.seen c.reads.link) _ c.reads.invariant.rises c.read.ensures.rises c.reads.invariant.fixed
      (omega arith);
  reads = reads_again (told (g.D.Dmi.seen c.args.link.now)) (told (g.D.Dmi.seen c.reads.link)) (told (g.D.Dmi.seen c.read.new.self)) c.reads.reads c.reads.last
      c.in_ok-last.last c.reads.invariant.reads
      (did_got dmcontrol_address c.in_ok-last.last _ _ _ _ c.in_ok-last.ensures.operated c.in_ok-last.ensures.answers)
      (sym c.is_active.ensures ∙ c.reads-test.true);
  few = omega (arith, c.reads.invariant.few, c.if-reads-eq-READS_MOST.false);
}

pub returns-in_err-many-clause-rises : goal.returns-in_err-many-clause-rises
returns-in_err-many-clause-rises g c = within_more 2 _ _ _ c.many.ensures.rises (omega arith)

pub returns-in_err-last-clause-rises : goal.returns-in_err-last-clause-rises
returns-in_err-last-clause-rises g c = within_then (1 + c.reads.reads) 1 _ _ (g.D.Dmi.seen c.reads.link) _ c.reads.invariant.rises c.read.ensures.rises
    c.reads.invariant.fixed (omega (arith, c.reads.invariant.few, c.if-reads-eq-READS_MOST.false))

pub returns-clause-rises : goal.returns-clause-rises
returns-clause-rises g c = within_more (1 + c.reads.reads) _ _ _ c.reads.invariant.rises (omega (arith, c.reads.invariant.few))
