use Rattle.std.proofs.Common.{ap, arith, is_some, sym, ◌∙◌}
use Rattle.rv_model.specs.Memory.{bytes_from}
use Rattle.rv_model.specs.Size.{count_of}
use Rattle.rv_mem.specs.Windows.{put_value}
use Rattle.rv_mem.proofs.LaidLemmas.{store_ram, store_words, value_ram, value_words}
use Rattle.rv_mem.proofs.windows.store_at.Goals as goal

pub returns-in-Some-clause-inside : goal.returns-in-Some-clause-inside
returns-in-Some-clause-inside c =
    sym (
    ap is_some (value_ram c.args.words.now c.args.bytes.now c.args.addr (count_of c.args.size) c.requires.few (omega (arith, c.if-addr-ge-BASE.true)))
    ∙ c.in-Some.ensures.inside
    )

pub returns-in-Some-clause-after : goal.returns-in-Some-clause-after
returns-in-Some-clause-after c =
    store_ram c.args.words.now c.args.bytes.now c.write.new.bytes c.args.addr c.in-Some.at c.args.size c.args.value c.requires.few c.in-Some.ensures.index
    c.write.ensures

pub returns-in-None-clause-inside : goal.returns-in-None-clause-inside
returns-in-None-clause-inside c =
    sym (
    ap is_some (value_ram c.args.words.now c.args.bytes.now c.args.addr (count_of c.args.size) c.requires.few (omega (arith, c.if-addr-ge-BASE.true))
    ∙ c.in-None.ensures.outside)
    )

pub returns-in-Some-index_of-clause-inside : goal.returns-in-Some-index_of-clause-inside
returns-in-Some-index_of-clause-inside c =
    sym (
    ap is_some (value_words c.args.words.now c.args.bytes.now c.args.addr c.args.size c.requires.aligned (omega (arith, c.if-addr-ge-BASE.false)))
    ∙ c.in-Some-index_of.ensures.inside
    )

pub returns-in-Some-index_of-clause-after : goal.returns-in-Some-index_of-clause-after
returns-in-Some-index_of-clause-after c =
    store_words c.args.words.now c.write-in-Some-index_of.new.bytes c.args.bytes.now c.args.addr c.in-Some-index_of.at c.args.size c.args.value
    c.requires.few c.requires.aligned c.in-Some-index_of.ensures.index c.in-Some-index_of.ensures.room
    (λ base. c.write-in-Some-index_of.ensures base
    ∙ ap (put_value (bytes_from base c.args.words.now) _ (count_of c.args.size)) c.kept_bits.ensures)

pub returns-in-None-index_of-clause-inside : goal.returns-in-None-index_of-clause-inside
returns-in-None-index_of-clause-inside c =
    sym (
    ap is_some (value_words c.args.words.now c.args.bytes.now c.args.addr c.args.size c.requires.aligned (omega (arith, c.if-addr-ge-BASE.false))
    ∙ c.in-None-index_of.ensures.outside)
    )
