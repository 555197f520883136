use Rattle.std.proofs.Common.{sym}
use Rattle.script_lang.proofs.LineLemmas.{content_of-found, content_of-whole}
use Rattle.script_lang.proofs.line.without_comment.Goals as goal

pub returns-in-Some : goal.returns-in-Some
returns-in-Some c = content_of-found c.args.line.now c.in-Some.start (sym c.in-Some.ensures.place)

pub returns-in-None : goal.returns-in-None
returns-in-None c = content_of-whole c.args.line.now (sym c.in-None.ensures.place)
