use Rattle.std.proofs.Common.{◌+◌, ◌-◌, ◌%◌, ◌≤◌, ◌++◌, length, set, take, drop, refl, ap, sym, ◌∙◌, arith}
use Rattle.std.proofs.lemmas.Nat.{and_mask}
use Rattle.rv_model.specs.Memory.{bytes_from}
use Rattle.rv_model.proofs.MapLemmas.{insert-bytes_from}
use Rattle.rv_mem.proofs.ByteLemmas.{write_mid, low_two, low_four}
use Rattle.rv_mem.proofs.bytes.write.Goals as goal

pub returns-in-B1 : goal.returns-in-B1
returns-in-B1 c base =
    let room : c.args.at + 1 ≤ length c.args.bytes.now = rw c.in-B1.is at c.requires in
    rw c.in-B1.is (ap (λ b. bytes_from base (set c.args.bytes.now c.args.at b)) (and_mask c.args.value 8)
    ∙ sym (insert-bytes_from base c.args.bytes.now c.args.at _ (c.args.value % 256) refl (omega arith)))

pub returns-in-B2 : goal.returns-in-B2
returns-in-B2 c base =
    let room : c.args.at + 2 ≤ length c.args.bytes.now = rw c.in-B2.is at c.requires in
    rw c.in-B2.is (write_mid base c.args.bytes.now _ _ c.args.at _ 2 _ refl room refl
    (c.write_u16.ensures ∙ ap (λ l. l ++ drop 2 (take (length c.args.bytes.now - c.args.at) (drop c.args.at c.args.bytes.now)))
    (low_two c.args.value _ (and_mask c.args.value 16))))

pub returns-in-B4 : goal.returns-in-B4
returns-in-B4 c base =
    let room : c.args.at + 4 ≤ length c.args.bytes.now = rw c.in-B4.is at c.requires in
    rw c.in-B4.is (write_mid base c.args.bytes.now _ _ c.args.at _ 4 _ refl room refl
    (c.write_u32.ensures ∙ ap (λ l. l ++ drop 4 (take (length c.args.bytes.now - c.args.at) (drop c.args.at c.args.bytes.now)))
    (low_four c.args.value _ (and_mask c.args.value 32))))

pub returns-in-B8 : goal.returns-in-B8
returns-in-B8 c base =
    let room : c.args.at + 8 ≤ length c.args.bytes.now = rw c.in-B8.is at c.requires in
    rw c.in-B8.is (write_mid base c.args.bytes.now _ _ c.args.at _ 8 _ refl room refl c.write_u64.ensures)
