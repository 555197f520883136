use Rattle.std.proofs.Common.{get_or, nat_eq, sym, ap, arith, length, ◌*◌, ◌%◌, ◌≤◌, ◌<◌, ◌∙◌}
use Rattle.rv_model.specs.Memory.{Memory, msip_bit}
use Rattle.rv_mem.specs.Windows.{most_words}
use Rattle.rv_mem.proofs.LaidLemmas.{msip_bit_at, msip_bit_past}
use Rattle.rv_mem.proofs.ram.Ram.msip.Goals as goal

pub returns : goal.returns
returns c =
    let few : length c.self.inside.words.items ≤ most_words = omega (arith, c.self.invariant.1) in
    let inside : 4 * c.args.hart < length c.self.inside.words.items = omega (arith, c.if-at-len.false, c.len.ensures, c.from-at.ensures) in
    sym (
    ap (λ (m : Memory). msip_bit m c.args.hart) (sym c.self.view_is)
    ∙ msip_bit_at c.self.inside.words.items c.self.inside.bytes.items c.self.inside.places c.args.hart c.index.result.now few inside
    ∙ ap (λ b. nat_eq (b % 2) 1) (ap (λ h. get_or c.self.inside.words.items (4 * h) c.index.result.now) (sym c.from-at.ensures) ∙ sym c.index.ensures)
    )

pub returns-then-at-len : goal.returns-then-at-len
returns-then-at-len c =
    let past : length c.self.inside.words.items ≤ 4 * c.args.hart = omega (arith, c.if-at-len.true, c.len.ensures, c.from-at.ensures) in
    sym (
    ap (λ (m : Memory). msip_bit m c.args.hart) (sym c.self.view_is)
    ∙ msip_bit_past c.self.inside.words.items c.self.inside.bytes.items c.self.inside.places c.args.hart past
    )
