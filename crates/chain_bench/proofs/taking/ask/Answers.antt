use Rattle.std.proofs.Common.{◌∙◌, get_or}
use Rattle.std.proofs.lemmas.List.{get_or_default}
use Rattle.chain_bench.proofs.Asking.{asked_first, asked_none, asked_same}
use Rattle.chain_bench.proofs.taking.ask.Goals as goal

pub returns-in-empty-clause-level : goal.returns-in-empty-clause-level
returns-in-empty-clause-level g c =
    asked_none c.args.bench.now c.new-answers.result.items c.as_slice.result.now c.new-answers.ensures (c.as_slice.ensures.value ∙ c.feed.ensures.answers)
    c.in-empty.len_below

pub returns-in-empty-clause-same : goal.returns-in-empty-clause-same
returns-in-empty-clause-same g c = c.feed.ensures.chip ∙ asked_same c.args.bench.now

pub returns-in-len1-up-clause-level : goal.returns-in-len1-up-clause-level
returns-in-len1-up-clause-level g c =
    asked_first c.args.bench.now c.new-answers.result.items c.as_slice.result.now (get_or c.as_slice.result.now 0 0) c.new-answers.ensures
    (c.as_slice.ensures.value ∙ c.feed.ensures.answers) c.in-len1-up.len_at_least
    (get_or_default c.as_slice.result.now 0 0 (get_or c.as_slice.result.now 0 0) c.in-len1-up.len_at_least)

pub returns-in-len1-up-clause-same : goal.returns-in-len1-up-clause-same
returns-in-len1-up-clause-same g c = c.feed.ensures.chip ∙ asked_same c.args.bench.now
