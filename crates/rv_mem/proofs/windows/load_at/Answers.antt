use Rattle.std.proofs.Common.{ap, arith, sym, ◌∙◌}
use Rattle.rv_model.specs.Memory.{bytes_from, msip_base, ram_base, value_at}
use Rattle.rv_model.specs.Size.{count_of}
use Rattle.rv_mem.proofs.LaidLemmas.{value_ram, value_words}
use Rattle.rv_mem.proofs.windows.load_at.Goals as goal

pub returns-in-Some-clause-value : goal.returns-in-Some-clause-value
returns-in-Some-clause-value c =
    sym (
    value_ram c.args.words.now c.args.bytes.now c.args.addr (count_of c.args.size) c.requires.few (omega (arith, c.if-addr-ge-BASE.true))
    ∙ ap (λ a. value_at (bytes_from ram_base c.args.bytes.now) a (count_of c.args.size)) c.in-Some.ensures.index ∙ c.read.ensures.value ram_base
    )

pub returns-in-None-clause-value : goal.returns-in-None-clause-value
returns-in-None-clause-value c =
    sym (
    value_ram c.args.words.now c.args.bytes.now c.args.addr (count_of c.args.size) c.requires.few (omega (arith, c.if-addr-ge-BASE.true))
    ∙ c.in-None.ensures.outside
    )

pub returns-in-Some-index_of-clause-value : goal.returns-in-Some-index_of-clause-value
returns-in-Some-index_of-clause-value c =
    sym (
    value_words c.args.words.now c.args.bytes.now c.args.addr c.args.size c.requires.aligned (omega (arith, c.if-addr-ge-BASE.false))
    ∙ ap (λ a. value_at (bytes_from msip_base c.args.words.now) a (count_of c.args.size)) c.in-Some-index_of.ensures.index
    ∙ c.read-in-Some-index_of.ensures.value msip_base
    )

pub returns-in-None-index_of-clause-value : goal.returns-in-None-index_of-clause-value
returns-in-None-index_of-clause-value c =
    sym (
    value_words c.args.words.now c.args.bytes.now c.args.addr c.args.size c.requires.aligned (omega (arith, c.if-addr-ge-BASE.false))
    ∙ c.in-None-index_of.ensures.outside
    )
