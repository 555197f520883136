use Rattle.std.proofs.Common.{◌≡◌, ◌+◌, ◌≤◌, length, Some, refl, ap, ◌∙◌, arith}
use Rattle.byteorder.specs.Endian.{little_from}
use Rattle.rv_mem.proofs.ByteLemmas.{value_at_from, value_at_mid}
use Rattle.rv_mem.proofs.bytes.read.Goals as goal

pub returns-in-B1-clause-value : goal.returns-in-B1-clause-value
returns-in-B1-clause-value c base =
    let room : c.args.at + 1 ≤ length c.args.bytes.now = rw c.in-B1.is at c.requires in
    let byte : little_from c.args.at 1 c.args.bytes.now ≡ c.from.result = omega (arith, c.from.ensures) in
    rw c.in-B1.is (value_at_from base c.args.bytes.now _ c.args.at 1 refl room ∙ ap Some byte)

pub returns-in-B2-clause-value : goal.returns-in-B2-clause-value
returns-in-B2-clause-value c base =
    let room : c.args.at + 2 ≤ length c.args.bytes.now = rw c.in-B2.is at c.requires in
    rw c.in-B2.is (value_at_mid base c.args.bytes.now _ c.args.at _ 2 _ refl room (omega arith) (c.from-in-B2.ensures ∙ c.read_u16.ensures))

pub returns-in-B4-clause-value : goal.returns-in-B4-clause-value
returns-in-B4-clause-value c base =
    let room : c.args.at + 4 ≤ length c.args.bytes.now = rw c.in-B4.is at c.requires in
    rw c.in-B4.is (value_at_mid base c.args.bytes.now _ c.args.at _ 4 _ refl room (omega arith) (c.from-in-B4.ensures ∙ c.read_u32.ensures))

pub returns-in-B8-clause-value : goal.returns-in-B8-clause-value
returns-in-B8-clause-value c base =
    let room : c.args.at + 8 ≤ length c.args.bytes.now = rw c.in-B8.is at c.requires in
    rw c.in-B8.is (value_at_mid base c.args.bytes.now _ c.args.at _ 8 _ refl room (omega arith) c.read_u64.ensures)
