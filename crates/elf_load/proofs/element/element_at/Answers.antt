use Rattle.std.proofs.Common.{◌≡◌, ◌∙◌, ◌+◌, ◌-◌, ap, arith, drop, length, sym, take}
use Rattle.rv_model.specs.Size.{count_of}
use Rattle.elf_load.specs.Elements.{bytes_of}
use Rattle.elf_load.specs.Fields.{number_of}
use Rattle.elf_load.specs.Runs.{size_from}
use Rattle.elf_load.proofs.ElementLemmas.{element_next}
use Rattle.elf_load.proofs.SegmentLemmas.{length-bytes_of}
use Rattle.elf_load.proofs.element.element_at.Goals as goal

pub returns-clause-next : goal.returns-clause-next
returns-clause-next c =
    let bytes = bytes_of c.args.file.now c.args.segment.now in
    let whole : length bytes ≡ c.args.segment.now.in_memory = length-bytes_of c.args.file.now c.args.segment.now
    (record { in_file = c.requires.lies; grows = c.requires.grows; in_addresses = c.requires.ends }) in
    let counted : c.from.result ≡ count_of c.size_at-size.result = omega (arith, c.count.ensures, c.from.ensures) in
    element_next c.size_at-size.result c.args.segment.now.address c.args.done c.value_at-value.result bytes
    (c.size_at-size.ensures ∙ ap (λ n. size_from (c.args.segment.now.address + c.args.done) (n - c.args.done)) (sym whole))
    (omega (arith, whole, c.requires.inside))
    (c.value_at-value.ensures ∙ ap (λ n. number_of (take n (drop c.args.done bytes))) counted)
