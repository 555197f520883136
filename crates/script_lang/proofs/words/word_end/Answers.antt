use Rattle.std.proofs.Common.{sym}
use Rattle.debug_model.specs.ScriptText.{is_blank}
use Rattle.script_lang.proofs.Places.{place_found, no_place}
use Rattle.script_lang.proofs.words.word_end.Goals as goal

pub returns-in-Some-clause-place : goal.returns-in-Some-clause-place
returns-in-Some-clause-place c = sym (place_found is_blank c.args.content.now c.in-Some.place (sym c.in-Some.ensures.place))

pub returns-in-None-clause-place : goal.returns-in-None-clause-place
returns-in-None-clause-place c = sym (no_place is_blank c.args.content.now (sym c.in-None.ensures.place))
