use Rattle.std.proofs.Common.{ap, arith, length, sym, ◌≡◌, ◌≤◌, ◌∙◌}
use Rattle.rv_model.specs.Image.{ram_size}
use Rattle.rv_mem.specs.Windows.{most_words}
use Rattle.rv_mem.proofs.RamLemmas.{over_all, size_laid}
use Rattle.rv_mem.proofs.ram.Ram.store.Goals as goal

pub returns-clause-size : goal.returns-clause-size
returns-clause-size c =
    let few : length c.self.inside.words.items ≤ most_words = omega (arith, c.self.invariant.1) in
    let words : length c.store_at.new.words ≡ length c.self.inside.words.items = c.store_at.auto.words ∙ ap length c.deref_mut.ensures.value in
    let bytes : length c.store_at.new.bytes ≡ length c.self.inside.bytes.items = c.store_at.auto.bytes ∙ ap length c.deref_mut-2.ensures.value in
    let same_words : _ = over_all c.self.inside.words.items c.store_at.new.words c.self.inside.words.len (omega arith) words in
    let same_bytes : _ = over_all c.self.inside.bytes.items c.store_at.new.bytes c.self.inside.bytes.len (omega arith) bytes in
    size_laid _ _ c.clear.new.places (omega (arith, few, words, ap length same_words)) ∙ ap length same_bytes
    ∙ bytes
    ∙ sym (size_laid c.self.inside.words.items c.self.inside.bytes.items c.self.inside.places few) ∙ ap ram_size c.self.view_is
