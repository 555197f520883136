use Rattle.std.proofs.Common.{arith}
use Rattle.rv_word_laws.proofs.MeaningRows.{means_from_meaning}
use Rattle.rv_word_laws.proofs.WordsAgree.{kept_bits_agree}
use Rattle.rv_word_laws.proofs.words_of_one_instruction_agree.Goals as goal

pub returns : goal.returns
returns c =
    kept_bits_agree c.args.left c.args.right (omega arith) (omega arith) c.args.insn
    (means_from_meaning c.args.left c.args.insn c.requires.left)
    (means_from_meaning c.args.right c.args.insn c.requires.right)
