use Rattle.std.proofs.Common.{ap, sym, ◌∙◌, ◌++◌}
use Rattle.std.proofs.lemmas.List.{append-nil}
use Rattle.chip_core.proofs.Feeding.{fed_stays, feed_stays, said_stays}
use Rattle.chip_core.proofs.Firsts.{fed_none, feed_none, said_none}
use Rattle.chip_core.proofs.chip.Chip.feed.Goals as goal

pub returns-in-empty-clause-chip : goal.returns-in-empty-clause-chip
returns-in-empty-clause-chip g c = sym (feed_none c.args.self.now c.args.bytes.now c.in-empty.len_below)

pub returns-in-empty-clause-answers : goal.returns-in-empty-clause-answers
returns-in-empty-clause-answers g c = sym (said_none c.args.self.now c.args.bytes.now c.args.answers.now.items c.in-empty.len_below)

pub returns-in-empty-clause-fed : goal.returns-in-empty-clause-fed
returns-in-empty-clause-fed g c = sym (fed_none 0 c.args.self.now c.args.bytes.now c.in-empty.len_below)

pub returns-in-len1-up-clause-chip : goal.returns-in-len1-up-clause-chip
returns-in-len1-up-clause-chip g c = sym (feed_stays c.args.self.now c.in-Some.end c.args.bytes.now (sym c.ending.ensures ∙ c.in-Some.is))

pub returns-in-len1-up-clause-answers : goal.returns-in-len1-up-clause-answers
returns-in-len1-up-clause-answers g c =
    let items = c.args.answers.now.items in
    sym (ap (λ xs. items ++ xs) (said_stays c.args.self.now c.in-Some.end c.args.bytes.now (sym c.ending.ensures ∙ c.in-Some.is)) ∙ append-nil items)

pub returns-in-len1-up-clause-fed : goal.returns-in-len1-up-clause-fed
returns-in-len1-up-clause-fed g c = c.fed_at.ensures
    ∙ fed_stays c.args.self.now c.in-Some.end 0 c.args.bytes.now c.in-len1-up.len_at_least (sym c.ending.ensures ∙ c.in-Some.is)
