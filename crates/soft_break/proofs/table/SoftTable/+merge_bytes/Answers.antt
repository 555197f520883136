use Rattle.std.proofs.Common.{◌∙◌, ◌+◌, ◌*◌, ◌%◌, ◌<◌, ◌^◌, ap, arith}
use Rattle.soft_laws.specs.Lowered.{merged, merged_byte, written_table}
use Rattle.soft_break.specs.Patches.{IsSameTable, table_of}
use Rattle.std.proofs.Common.{◌-◌, ◌/◌, refl, subst}
use Rattle.soft_break.proofs.Views.{fits_more, merged_more, merged_one, power_most, one_more, same_more, words_more}
use Rattle.soft_break.proofs.table.SoftTable.+merge_bytes.Goals as goal

pub returns-then-count-eq1-clause-merged : goal.returns-then-count-eq1-clause-merged
returns-then-count-eq1-clause-merged k c =
    c.from-first.ensures ∙ c.merge_byte.ensures.merged ∙ merged_one c.args.self.now.addresses c.args.addr c.args.count c.args.value (omega arith)

pub overflow_mul-result : goal.overflow_mul-result
overflow_mul-result k c =
    let fits : c.from-first.result + 256 * c.merge_bytes.result < 256 ^ c.args.count =
    fits_more c.args.count c.from-first.result c.merge_bytes.result (omega arith) c.requires.some.1 (omega (arith, c.from-first.ensures)) c.merge_bytes.ensures.fits in
    omega (arith, power_most c.args.count (c.from-first.result + 256 * c.merge_bytes.result) c.requires.some.1 fits)

pub overflow_add-result : goal.overflow_add-result
overflow_add-result k c =
    let fits : c.from-first.result + 256 * c.merge_bytes.result < 256 ^ c.args.count =
    fits_more c.args.count c.from-first.result c.merge_bytes.result (omega arith) c.requires.some.1 (omega (arith, c.from-first.ensures)) c.merge_bytes.ensures.fits in
    omega (arith, power_most c.args.count (c.from-first.result + 256 * c.merge_bytes.result) c.requires.some.1 fits)

pub returns-clause-merged : goal.returns-clause-merged
returns-clause-merged k c =
    ap (λ x. x + 256 * c.merge_bytes.result) (c.from-first.ensures ∙ c.merge_byte.ensures.merged)
    ∙ ap (λ r. merged_byte c.args.self.now.addresses c.args.addr (c.args.value % 256) + 256 * r)
    (c.merge_bytes.ensures.merged ∙ ap (λ l. merged l (c.args.addr + 1) (c.args.count - 1) (c.args.value / 256)) c.merge_byte.ensures.same)
    ∙ merged_more c.args.self.now.addresses c.args.addr c.args.count c.args.value c.requires.some.0

pub returns-clause-taken : goal.returns-clause-taken
returns-clause-taken k c =
    subst (λ j. IsSameTable (written_table c.args.addr j c.args.value (table_of c.args.self.now)) (table_of c.merge_bytes.new.self))
    (one_more c.args.count c.requires.some.0)
    (same_more (table_of c.args.self.now) (table_of c.merge_byte.new.self) (table_of c.merge_bytes.new.self) c.args.addr (c.args.count - 1) c.args.value
    (c.args.value % 256) refl c.merge_byte.ensures.taken c.merge_bytes.ensures.taken)

pub returns-clause-fits : goal.returns-clause-fits
returns-clause-fits k c =
    fits_more c.args.count c.from-first.result c.merge_bytes.result (omega arith) c.requires.some.1 (omega (arith, c.from-first.ensures)) c.merge_bytes.ensures.fits

pub returns-clause-words : goal.returns-clause-words
returns-clause-words k c = words_more c.args.self.now c.merge_byte.new.self c.merge_bytes.new.self c.merge_byte.ensures.words c.merge_bytes.ensures.words
