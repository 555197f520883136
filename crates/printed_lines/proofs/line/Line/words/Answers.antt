use Rattle.std.proofs.Common.{◌≡◌, ◌++◌, codes, decimal, ap, ◌∙◌, sym}
use Rattle.abstract_debugger.specs.Lines.{words_of_line}
use Rattle.printed_lines.specs.Line.{line_of}
use Rattle.printed_lines.proofs.line.Line.words.Goals as goal

pub returns-in-IsRunning-clause-words : goal.returns-in-IsRunning-clause-words
returns-in-IsRunning-clause-words c =
    let number : c.from-in-IsRunning.result ≡ c.in-IsRunning.hart = c.from-in-IsRunning.ensures in
    c.push_between.ensures.words
    ∙ ap (λ t. t ++ codes "error: hart " ++ decimal c.from-in-IsRunning.result ++ codes " is running") c.new-text.ensures
    ∙ ap (λ n. codes "error: hart " ++ decimal n ++ codes " is running") number
    ∙ ap (λ l. words_of_line (line_of l)) (sym c.in-IsRunning.is)
