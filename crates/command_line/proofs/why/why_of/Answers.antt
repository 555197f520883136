use Rattle.std.proofs.Common.{refl, sym, ◌∙◌, map, string_bytes}
use Rattle.command_line.proofs.JobLemmas.{job_by-both, job_by-chip, job_by-probe, job_by-sniff}
use Rattle.command_line.proofs.Writing.{writes_at}
use Rattle.command_line.proofs.Whys.{named_both, named_chip, named_none, named_probe, named_sniff}
use Rattle.command_line.specs.declared.why.Refused.TheVariants.{NoJob}
use Rattle.command_line.proofs.why.why_of.Goals as goal

pub returns-then-eq : goal.returns-then-eq
returns-then-eq c = record {
  named = named_both c.args.job.now (map string_bytes c.args.words.now) _ (sym c.eq.ensures ∙ c.if-eq.true) c.why_both.ensures.named;
  writes = writes_at _ _ _ (job_by-both c.args.job.now (map string_bytes c.args.words.now) (sym c.eq.ensures ∙ c.if-eq.true)) c.why_both.ensures.writes;
}

pub returns-then-eq-2 : goal.returns-then-eq-2
returns-then-eq-2 c = record {
  named = named_probe c.args.job.now (map string_bytes c.args.words.now) _ (sym c.eq.ensures ∙ c.if-eq.false) (sym c.eq-else-eq.ensures ∙ c.if-eq-2.true)
      c.why_probe.ensures.named;
  writes = writes_at _ _ _
      (job_by-probe c.args.job.now (map string_bytes c.args.words.now)
      (sym c.eq.ensures ∙ c.if-eq.false) (sym c.eq-else-eq.ensures ∙ c.if-eq-2.true)) c.why_probe.ensures.writes;
}

pub returns-then-eq-3 : goal.returns-then-eq-3
returns-then-eq-3 c = record {
  named = named_chip c.args.job.now (map string_bytes c.args.words.now) _ (sym c.eq.ensures ∙ c.if-eq.false) (sym c.eq-else-eq.ensures ∙ c.if-eq-2.false)
      (sym c.eq-else-eq-2.ensures ∙ c.if-eq-3.true) c.why_chip.ensures.named;
  writes = writes_at _ _ _
      (job_by-chip c.args.job.now (map string_bytes c.args.words.now)
      (sym c.eq.ensures ∙ c.if-eq.false) (sym c.eq-else-eq.ensures ∙ c.if-eq-2.false) (sym c.eq-else-eq-2.ensures ∙ c.if-eq-3.true)) c.why_chip.ensures.writes;
}

pub returns-then-eq-4 : goal.returns-then-eq-4
returns-then-eq-4 c = record {
  named = named_sniff c.args.job.now (map string_bytes c.args.words.now) _ (sym c.eq.ensures ∙ c.if-eq.false) (sym c.eq-else-eq.ensures ∙ c.if-eq-2.false)
      (sym c.eq-else-eq-2.ensures ∙ c.if-eq-3.false) (sym c.eq-else-eq-3.ensures ∙ c.if-eq-4.true) c.why_sniff.ensures.named;
  writes = writes_at _ _ _
      (job_by-sniff c.args.job.now (map string_bytes c.args.words.now)
      (sym c.eq.ensures ∙ c.if-eq.false) (sym c.eq-else-eq.ensures ∙ c.if-eq-2.false)
      (sym c.eq-else-eq-2.ensures ∙ c.if-eq-3.false) (sym c.eq-else-eq-3.ensures ∙ c.if-eq-4.true)) c.why_sniff.ensures.writes;
}

pub returns-else-eq-4 : goal.returns-else-eq-4
returns-else-eq-4 c = record {
  named = named_none c.args.job.now (map string_bytes c.args.words.now) (NoJob c.args.job) (sym c.eq.ensures ∙ c.if-eq.false)
      (sym c.eq-else-eq.ensures ∙ c.if-eq-2.false)
      (sym c.eq-else-eq-2.ensures ∙ c.if-eq-3.false) (sym c.eq-else-eq-3.ensures ∙ c.if-eq-4.false) refl;
  writes = tt;
}
