-- The row of `lr.d` stands after rows of another mask, none of which a word of `lr.d` matches.
use Rattle.std.proofs.Common.{ap, sym, ◌∙◌, refl, Some, option_map}
use Rattle.rv_model.specs.declared.insn.Insn.TheVariants.{LoadReserved}
use Rattle.rv_model.specs.declared.width.Width.TheVariants.{DoubleWord}
use Rattle.rv_model.specs.Rows.{atomic_rows}
use Rattle.rv_model.proofs.RowLemmas.{found_row}
use Rattle.rv_words.proofs.decoder.atomic.atomic.Goals as goal

pub returns-in-268447791-clause-is : goal.returns-in-268447791-clause-is
returns-in-268447791-clause-is c =
    ap (λ p. Some (LoadReserved DoubleWord p)) c.load_reserved_operands-in-268447791.ensures.is
    ∙ sym (ap (option_map (λ r. r.operands c.args.word)) (found_row c.args.word atomic_rows refl 11 _ refl c.in-268447791.is))
