-- How points and rounds add up below a chip's limits.
use Rattle.std.proofs.Common.{◌≡◌, ℕ, ◌+◌, ◌*◌, ◌^◌, ◌<◌, ◌≤◌, false, length, refl, arith}
use Rattle.std.proofs.Math.Nat.{mul-add, mul-le-mul_left, mul-le-mul_right, mul_assoc}
use Rattle.std.proofs.lemmas.Bool.{le-ltb, lt-ltb}
use Rattle.debug_model.specs.Chip.{Works, at_limit}

-- turns of so many rounds, and the other points
pub both_parts : (budget per harts rounds turns points all : ℕ) → rounds ≤ budget * per → turns ≤ rounds * harts → points ≤ 8 * budget → all ≤ turns + points
    → all ≤ budget * (per * harts + 8)
both_parts budget per harts rounds turns points all few each others sum =
    let most : rounds * harts ≤ budget * per * harts = mul-le-mul_right harts few in
    let apart : budget * (per * harts + 8) ≡ budget * (per * harts) + budget * 8 = mul-add budget (per * harts) 8 in
    let same : budget * per * harts ≡ budget * (per * harts) = mul_assoc budget per harts in
    omega (arith, most, apart, same, each, others, sum)

pub below_limit : (w : Works) (most : ℕ) → w.most_points ≡ most → length w.site.journal ≤ most → w.counts.rounds < 2 ^ 62 → at_limit w ≡ false
below_limit w most is few below =
    rw (le-ltb w.most_points (length w.site.journal) (omega (arith, is, few)), lt-ltb w.counts.rounds (2 ^ 62) below) refl

-- fewer rounds than points, where each round may have some
pub fewer_rounds : (budget per harts rounds most : ℕ) → 1 ≤ harts → 1 ≤ budget → rounds ≤ budget * per → budget * (per * harts + 8) ≤ most → most ≤ 2 ^ 62
    → rounds < 2 ^ 62
fewer_rounds budget per harts rounds most some spent few fits limit =
    let apart : budget * (per * harts + 8) ≡ budget * (per * harts) + budget * 8 = mul-add budget (per * harts) 8 in
    let each : per * 1 ≤ per * harts = mul-le-mul_left per some in
    let more : budget * per ≤ budget * (per * harts) = mul-le-mul_left budget (let one : per * 1 ≤ per * harts = each in omega (arith, one)) in
    omega (arith, apart, more, few, fits, limit, spent)
