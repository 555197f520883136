use Rattle.std.proofs.Common.{◌∙◌, ◌-◌, arith, get_or, subst, sym}
use Rattle.soft_laws.specs.Lowered.{written_table}
use Rattle.soft_break.specs.Patches.{IsReplaced, IsSameTable, KeepsWords, table_of}
use Rattle.soft_break.proofs.Views.{found_view, merged_none, merged_view, refill_set, taken_none, taken_view, words_itself, words_view}
use Rattle.soft_break.proofs.table.SoftTable.merge_byte.Goals as goal

pub overflow_sub-within : goal.overflow_sub-within
overflow_sub-within c =
    let f = found_view c.args.self.now c.self.inside.addresses.items c.self.inside.originals.items (sym c.self.view_is) c.self.invariant c.args.at c.in-Some.place
    (sym c.place_over.ensures.place ∙ c.in-Some.is) c.in-Some.ensures.inside in
    rw (c.as_slice.ensures.value) f.low

pub with_byte-requires : goal.with_byte-requires
with_byte-requires c =
    let f = found_view c.args.self.now c.self.inside.addresses.items c.self.inside.originals.items (sym c.self.view_is) c.self.invariant c.args.at c.in-Some.place
    (sym c.place_over.ensures.place ∙ c.in-Some.is) c.in-Some.ensures.inside in
    rw (c.as_slice.ensures.value) (omega (arith, f.low, f.high))

pub byte_of-requires : goal.byte_of-requires
byte_of-requires c =
    let f = found_view c.args.self.now c.self.inside.addresses.items c.self.inside.originals.items (sym c.self.view_is) c.self.invariant c.args.at c.in-Some.place
    (sym c.place_over.ensures.place ∙ c.in-Some.is) c.in-Some.ensures.inside in
    rw (c.as_slice.ensures.value) (omega (arith, f.low, f.high))

pub returns-in-Some-clause-merged : goal.returns-in-Some-clause-merged
returns-in-Some-clause-merged c =
    let f = found_view c.args.self.now c.self.inside.addresses.items c.self.inside.originals.items (sym c.self.view_is) c.self.invariant c.args.at c.in-Some.place
    (sym c.place_over.ensures.place ∙ c.in-Some.is) c.in-Some.ensures.inside in
    c.byte_of.ensures ∙ rw (c.as_slice.ensures.value) (merged_view c.args.self.now c.self.inside.addresses.items c.self.inside.originals.items (sym c.self.view_is) c.self.invariant
    c.args.at c.args.byte c.in-Some.place f)

pub returns-in-Some-clause-taken : goal.returns-in-Some-clause-taken
returns-in-Some-clause-taken c =
    let cs = c.self.inside.addresses.items in
    let ws = c.self.inside.originals.items in
    let made : IsReplaced (c.args.at - get_or cs c.in-Some.place 0) c.args.byte (get_or ws c.in-Some.place 0) c.with_byte.result =
    subst (λ l. IsReplaced (c.args.at - get_or l c.in-Some.place 0) c.args.byte (get_or ws c.in-Some.place 0) c.with_byte.result) c.as_slice.ensures.value
    (subst (λ l. IsReplaced (c.args.at - get_or c.as_slice.result.now c.in-Some.place 0) c.args.byte (get_or l c.in-Some.place 0) c.with_byte.result)
    c.as_slice-in-Some.ensures.value c.with_byte.ensures) in
    subst (λ l. IsSameTable (written_table c.args.at 1 c.args.byte (table_of c.args.self.now)) (table_of (record { addresses = cs; originals = l })))
    (refill_set ws c.as_mut_slice.result.now c.in-Some.place c.with_byte.result c.as_mut_slice.ensures.value)
    (taken_view c.args.self.now cs ws (sym c.self.view_is) c.self.invariant c.args.at c.args.byte c.in-Some.place c.with_byte.result c.ranges.byte.fits
    (sym c.place_over.ensures.place ∙ c.in-Some.is) c.in-Some.ensures.inside made)

pub returns-in-None-clause-merged : goal.returns-in-None-clause-merged
returns-in-None-clause-merged c =
    merged_none c.args.self.now c.self.inside.addresses.items c.self.inside.originals.items (sym c.self.view_is) c.self.invariant c.args.at c.args.byte
    (sym c.place_over.ensures.place ∙ c.in-None.is)

pub returns-in-None-clause-taken : goal.returns-in-None-clause-taken
returns-in-None-clause-taken c =
    taken_none c.args.self.now c.self.inside.addresses.items c.self.inside.originals.items (sym c.self.view_is) c.self.invariant c.args.at c.args.byte c.ranges.byte.fits
    (sym c.place_over.ensures.place ∙ c.in-None.is)

pub returns-in-Some-clause-words : goal.returns-in-Some-clause-words
returns-in-Some-clause-words c =
    let cs = c.self.inside.addresses.items in
    let ws = c.self.inside.originals.items in
    subst (λ l. KeepsWords c.args.self.now (record { addresses = cs; originals = l }))
    (refill_set ws c.as_mut_slice.result.now c.in-Some.place c.with_byte.result c.as_mut_slice.ensures.value)
    (words_view c.args.self.now cs ws (sym c.self.view_is) c.self.invariant c.in-Some.place c.with_byte.result (omega arith))

pub returns-in-None-clause-words : goal.returns-in-None-clause-words
returns-in-None-clause-words c = words_itself c.args.self.now
