use Rattle.std.proofs.Common.{◌∙◌, ◌≡◌, ◌≤◌, ℕ, List, ap, arith, subst, sum, sym}
use Rattle.chain_scan.proofs.Combined.{sums_most}
use Rattle.chain_scan.proofs.chain_scanner.code_batch.Goals as goal

pub all_bits-requires : goal.all_bits-requires
all_bits-requires c = record {
  few = subst (λ (ws : List ℕ). sum ws ≤ 56) (sym c.near.ensures) (omega (arith, sums_most c.args.plan.now.near c.args.plan.now.far c.know.ensures));
}

pub all_bits-requires-2 : goal.all_bits-requires-2
all_bits-requires-2 c = record {
  few = subst (λ (ws : List ℕ). sum ws ≤ 56) (sym c.far.ensures) (omega (arith, sums_most c.args.plan.now.near c.args.plan.now.far c.know.ensures));
}

pub put_scan-requires-clause-room : goal.put_scan-requires-clause-room
put_scan-requires-clause-room c =
    let near : c.all_bits.result ≡ sum c.args.plan.now.near = c.all_bits.ensures ∙ ap sum c.near.ensures in
    let far : c.all_bits-2.result ≡ sum c.args.plan.now.far = c.all_bits-2.ensures ∙ ap sum c.far.ensures in
    omega (arith, near, far, c.from_u64.ensures.length, sums_most c.args.plan.now.near c.args.plan.now.far c.know.ensures)
