use Rattle.std.proofs.Common.{List, Option, ℕ, ap, arith, drop, length, map, sym, ◌++◌, ◌≡◌, ◌≤◌, ◌∙◌}
use Rattle.rv_model.specs.Image.{filled, ram_size}
use Rattle.rv_model.specs.Memory.{Bytes, Memory, kept, laid, ram_base}
use Rattle.rv_mem.specs.Windows.{most_words}
use Rattle.rv_mem.proofs.RamLemmas.{over_all, size_laid, with_image-laid}
use Rattle.rv_mem.proofs.ram.Ram.fill.Goals as goal

abbrev fill_by : List ℕ → List ℕ → List (Option ℕ) → Memory
fill_by ws xs places = record { bytes = laid ws xs; reserved = places }

pub put-requires : goal.put-requires
put-requires c =
    let few : length c.self.inside.words.items ≤ most_words = omega (arith, c.self.invariant.1) in
    let size : ram_size c.args.self.now ≡ length c.self.inside.bytes.items =
    ap ram_size (sym c.self.view_is) ∙ size_laid c.self.inside.words.items c.self.inside.bytes.items c.self.inside.places few in
    omega (arith, size, c.requires, ap length c.deref_mut.ensures.value)

pub returns-clause-after : goal.returns-clause-after
returns-clause-after c =
    let few : length c.self.inside.words.items ≤ most_words = omega (arith, c.self.invariant.1) in
    let same : _ = over_all c.self.inside.bytes.items c.put.new.bytes c.self.inside.bytes.len (omega arith)
    (c.put.auto.bytes ∙ ap length c.deref_mut.ensures.value) in
    ap (λ xs. fill_by c.self.inside.words.items xs c.clear.new.places)
    (same ∙ c.put.ensures ∙ ap (λ l. c.args.image.now ++ drop (length c.args.image.now) l) c.deref_mut.ensures.value)
    ∙ ap (fill_by c.self.inside.words.items (c.args.image.now ++ drop (length c.args.image.now) c.self.inside.bytes.items)) c.clear.ensures
    ∙ ap (λ (m : Bytes). record { bytes = m; reserved = map (kept ram_base (length c.args.image.now)) c.self.inside.places })
    (sym (with_image-laid c.self.inside.words.items c.self.inside.bytes.items c.args.image.now few))
    ∙ ap (λ (m : Memory). filled m c.args.image.now) c.self.view_is

pub returns-clause-size : goal.returns-clause-size
returns-clause-size c =
    let few : length c.self.inside.words.items ≤ most_words = omega (arith, c.self.invariant.1) in
    let same : _ = over_all c.self.inside.bytes.items c.put.new.bytes c.self.inside.bytes.len (omega arith)
    (c.put.auto.bytes ∙ ap length c.deref_mut.ensures.value) in
    size_laid c.self.inside.words.items _ c.clear.new.places few ∙ ap length same
    ∙ c.put.auto.bytes ∙ ap length c.deref_mut.ensures.value
    ∙ sym (size_laid c.self.inside.words.items c.self.inside.bytes.items c.self.inside.places few) ∙ ap ram_size c.self.view_is
