use Rattle.std.proofs.Common.{◌∙◌, arith, sym}
use Rattle.soft_break.proofs.Views.{found_view, shown_none, shown_view}
use Rattle.soft_break.proofs.table.SoftTable.hide_byte.Goals as goal

pub overflow_sub-at : goal.overflow_sub-at
overflow_sub-at c =
    let f = found_view c.args.self.now c.self.inside.addresses.items c.self.inside.originals.items (sym c.self.view_is) c.self.invariant c.args.at c.in-Some.place
    (sym c.place_over.ensures.place ∙ c.in-Some.is) c.in-Some.ensures.inside in
    rw (c.as_slice-in-Some.ensures.value) f.low

pub byte_of-requires : goal.byte_of-requires
byte_of-requires c =
    let f = found_view c.args.self.now c.self.inside.addresses.items c.self.inside.originals.items (sym c.self.view_is) c.self.invariant c.args.at c.in-Some.place
    (sym c.place_over.ensures.place ∙ c.in-Some.is) c.in-Some.ensures.inside in
    rw (c.as_slice-in-Some.ensures.value) (omega (arith, f.low, f.high))

pub returns-in-Some : goal.returns-in-Some
returns-in-Some c =
    let f = found_view c.args.self.now c.self.inside.addresses.items c.self.inside.originals.items (sym c.self.view_is) c.self.invariant c.args.at c.in-Some.place
    (sym c.place_over.ensures.place ∙ c.in-Some.is) c.in-Some.ensures.inside in
    c.byte_of.ensures ∙ rw (c.as_slice.ensures.value, c.as_slice-in-Some.ensures.value) (shown_view c.args.self.now c.self.inside.addresses.items c.self.inside.originals.items (sym c.self.view_is) c.self.invariant
    c.args.at c.args.byte c.in-Some.place f)

pub returns-in-None : goal.returns-in-None
returns-in-None c =
    shown_none c.args.self.now c.self.inside.addresses.items c.self.inside.originals.items (sym c.self.view_is) c.self.invariant c.args.at c.args.byte
    (sym c.place_over.ensures.place ∙ c.in-None.is)
