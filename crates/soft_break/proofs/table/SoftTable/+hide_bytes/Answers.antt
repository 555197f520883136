use Rattle.std.proofs.Common.{◌∙◌, ◌+◌, ◌*◌, ◌%◌, ◌<◌, ◌^◌, ap, arith}
use Rattle.soft_laws.specs.Shown.{shown_byte}
use Rattle.soft_break.specs.Patches.{table_of}
use Rattle.soft_break.proofs.Views.{fits_more, shown_more, shown_one, power_most}
use Rattle.soft_break.proofs.table.SoftTable.+hide_bytes.Goals as goal

pub returns-then-count-eq1-clause-shown : goal.returns-then-count-eq1-clause-shown
returns-then-count-eq1-clause-shown k c =
    c.from-first.ensures ∙ c.hide_byte.ensures ∙ shown_one (table_of c.args.self.now) c.args.addr c.args.count c.args.read (omega arith)

pub overflow_mul-result : goal.overflow_mul-result
overflow_mul-result k c =
    let fits : c.from-first.result + 256 * c.hide_bytes.result < 256 ^ c.args.count =
    fits_more c.args.count c.from-first.result c.hide_bytes.result (omega arith) c.requires.some.1 (omega (arith, c.from-first.ensures)) c.hide_bytes.ensures.fits in
    omega (arith, power_most c.args.count (c.from-first.result + 256 * c.hide_bytes.result) c.requires.some.1 fits)

pub overflow_add-result : goal.overflow_add-result
overflow_add-result k c =
    let fits : c.from-first.result + 256 * c.hide_bytes.result < 256 ^ c.args.count =
    fits_more c.args.count c.from-first.result c.hide_bytes.result (omega arith) c.requires.some.1 (omega (arith, c.from-first.ensures)) c.hide_bytes.ensures.fits in
    omega (arith, power_most c.args.count (c.from-first.result + 256 * c.hide_bytes.result) c.requires.some.1 fits)

pub returns-clause-shown : goal.returns-clause-shown
returns-clause-shown k c =
    ap (λ x. x + 256 * c.hide_bytes.result) (c.from-first.ensures ∙ c.hide_byte.ensures)
    ∙ ap (λ r. shown_byte (table_of c.args.self.now) c.args.addr (c.args.read % 256) + 256 * r) c.hide_bytes.ensures.shown
    ∙ shown_more (table_of c.args.self.now) c.args.addr c.args.count c.args.read c.requires.some.0

pub returns-clause-fits : goal.returns-clause-fits
returns-clause-fits k c =
    fits_more c.args.count c.from-first.result c.hide_bytes.result (omega arith) c.requires.some.1 (omega (arith, c.from-first.ensures)) c.hide_bytes.ensures.fits
