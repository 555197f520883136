use Rattle.std.proofs.Common.{sym, ◌∙◌, map, string_bytes}
use Rattle.command_line.proofs.GivesLemmas.{gives_at}
use Rattle.command_line.proofs.JobLemmas.{job_by-both, job_by-chip, job_by-none, job_by-probe, job_by-sniff}
use Rattle.command_line.proofs.reading.read_by.Goals as goal

pub returns-then-eq : goal.returns-then-eq
returns-then-eq c =
    let words = map string_bytes c.args.words.now in
    gives_at _ _ _ _ (sym (job_by-both c.args.program.now words (sym c.eq.ensures ∙ c.if-eq.true))) c.read_both.ensures

pub returns-then-eq-2 : goal.returns-then-eq-2
returns-then-eq-2 c =
    let words = map string_bytes c.args.words.now in
    gives_at _ _ _ _ (sym (job_by-probe c.args.program.now words (sym c.eq.ensures ∙ c.if-eq.false) (sym c.eq-else-eq.ensures ∙ c.if-eq-2.true)))
    c.read_probe.ensures

pub returns-then-eq-3 : goal.returns-then-eq-3
returns-then-eq-3 c =
    let words = map string_bytes c.args.words.now in
    gives_at _ _ _ _ (sym (job_by-chip c.args.program.now words (sym c.eq.ensures ∙ c.if-eq.false) (sym c.eq-else-eq.ensures ∙ c.if-eq-2.false)
    (sym c.eq-else-eq-2.ensures ∙ c.if-eq-3.true))) c.read_chip.ensures

pub returns-then-eq-4 : goal.returns-then-eq-4
returns-then-eq-4 c =
    let words = map string_bytes c.args.words.now in
    gives_at _ _ _ _ (sym (job_by-sniff c.args.program.now words (sym c.eq.ensures ∙ c.if-eq.false) (sym c.eq-else-eq.ensures ∙ c.if-eq-2.false)
    (sym c.eq-else-eq-2.ensures ∙ c.if-eq-3.false) (sym c.eq-else-eq-3.ensures ∙ c.if-eq-4.true))) c.read_sniff.ensures

pub returns-else-eq-4 : goal.returns-else-eq-4
returns-else-eq-4 c =
    let words = map string_bytes c.args.words.now in
    job_by-none c.args.program.now words (sym c.eq.ensures ∙ c.if-eq.false) (sym c.eq-else-eq.ensures ∙ c.if-eq-2.false)
    (sym c.eq-else-eq-2.ensures ∙ c.if-eq-3.false)
    (sym c.eq-else-eq-3.ensures ∙ c.if-eq-4.false)
