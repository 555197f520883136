use Rattle.std.proofs.Common.{◌<◌, length, arith}
use Rattle.std.proofs.lemmas.Bool.Decides.{nat_tests}
use Rattle.script_lang.proofs.WordLemmas.{words_of-none, words_of-first}
use Rattle.script_lang.proofs.words.next_word.Goals as goal

pub returns-then-is_empty : goal.returns-then-is_empty
returns-then-is_empty c = grind (arith, words_of-none)

pub returns : goal.returns
returns c =
    let start = c.after_blanks-start.result.now in
    let some : 0 < length start = grind (arith, nat_tests) in
    let first = words_of-first start c.word_end.result some c.after_blanks-start.ensures.start c.word_end.ensures.place in
    cc
