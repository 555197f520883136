use Rattle.std.proofs.Common.{ap, arith, length, subst, sym, IsSome, ◌<◌, ◌≡◌, ◌≤◌, ◌∙◌, ◌+◌, ◌↔◌}
use Rattle.std.specs.FinMap.{get}
use Rattle.rv_model.specs.Image.{ram_size}
use Rattle.rv_model.specs.Memory.{Memory, ram_base}
use Rattle.rv_mem.specs.Windows.{most_words}
use Rattle.rv_mem.proofs.RamLemmas.{has_byte, size_laid}
use Rattle.rv_mem.proofs.ram.Ram.size.Goals as goal

pub returns-clause-bytes : goal.returns-clause-bytes
returns-clause-bytes c =
    let few : length c.self.inside.words.items ≤ most_words = omega (arith, c.self.invariant.1) in
    let count : c.len.result ≡ length c.self.inside.bytes.items = omega (arith, c.len.ensures) in
    count ∙ sym (size_laid c.self.inside.words.items c.self.inside.bytes.items c.self.inside.places few) ∙ ap ram_size c.self.view_is

pub returns-clause-addresses : goal.returns-clause-addresses
returns-clause-addresses c a high =
    let few : length c.self.inside.words.items ≤ most_words = omega (arith, c.self.invariant.1) in
    subst (λ (m : Memory). IsSome (get m.bytes a) ↔ (a < ram_base + c.len.result)) c.self.view_is
    (has_byte c.self.inside.words.items c.self.inside.bytes.items a c.len.result few (omega (arith, c.len.ensures)) high)
