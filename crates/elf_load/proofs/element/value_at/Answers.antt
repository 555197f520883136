use Rattle.std.proofs.Common.{◌≡◌, ◌∙◌, ◌+◌, ◌-◌, arith, min}
use Rattle.elf_load.specs.Fields.{number_at}
use Rattle.elf_load.proofs.NumberLemmas.{field}
use Rattle.elf_load.proofs.PieceLemmas.{value_is}
use Rattle.elf_load.proofs.element.value_at.Goals as goal

pub returns-then-there-eq0 : goal.returns-then-there-eq0
returns-then-there-eq0 c =
    let none : 0 ≡ min (c.args.segment.now.in_file - c.args.done) c.args.count =
    omega (arith, c.if-there-eq0.true, c.min-there.ensures, c.saturating_sub.ensures) in
    value_is c.args.file.now c.args.segment.now c.args.done c.args.count 0 c.requires.lies c.requires.grows c.requires.inside none

pub returns : goal.returns
unfolding number_at
returns c =
    let there : c.min-there.result ≡ min (c.args.segment.now.in_file - c.args.done) c.args.count =
    omega (arith, c.min-there.ensures, c.saturating_sub.ensures) in
    field (c.args.segment.now.offset + c.args.done) c.min-there.result c.read_uint.result c.args.file.now c.read_uint.ensures
    ∙ value_is c.args.file.now c.args.segment.now c.args.done c.args.count c.min-there.result c.requires.lies c.requires.grows c.requires.inside there
