use Rattle.std.proofs.Common.{◌≡◌, ◌∙◌, ◌-◌, ◌+◌, ◌/◌, ◌%◌, ap, arith, min}
use Rattle.elf_load.specs.Elements.{to_multiple}
use Rattle.elf_load.proofs.CutLemmas.{length-cut}
use Rattle.elf_load.proofs.count.element_count.Goals as goal

pub returns : goal.returns
returns c = λ xs is.
    let front : min (to_multiple c.args.address) c.args.bytes ≡ c.min-front.result = omega (arith, c.min-front.ensures) in
    length-cut c.args.address xs
    ∙ ap (λ n. min (to_multiple c.args.address) n + (n - min (to_multiple c.args.address) n) / 8 + (n - min (to_multiple c.args.address) n) % 8) is
    ∙ ap (λ f. f + (c.args.bytes - f) / 8 + (c.args.bytes - f) % 8) front
