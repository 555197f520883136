-- How much calls on many elements let TCK rise under a fair schedule: of an element the operations that it takes, and of a run by a program what it wastes
-- where it comes too early, once for each number of looks.
use Rattle.std.proofs.Common.{◌≡◌, ◌≤◌, ◌<◌, ◌+◌, ◌*◌, ℕ, List, length, ap, arith}
use Rattle.std.proofs.Math.Nat.{mul-le-mul_left, mul-le-mul_right}
use Rattle.rv_model.specs.declared.size.Size.{Size}
use Rattle.debug_model.proofs.RiseLemmas.{within_more}
use Rattle.debug_model.specs.declared.dmi_op.DmiOp.{DmiOp}
use Rattle.debug_model.specs.Kept.{DmiSeen}
use Rattle.debug_model.specs.Rises.{Within}
use Rattle.probe_access.specs.BusStreams.{reads_of}
use Rattle.probe_access.proofs.BusStreamCalls.{reads_long}

-- ---- by the bus

pub reads_rise : (size : Size) (number : ℕ) (ops : List DmiOp) (old new : DmiSeen) → ops ≡ reads_of size number → Within (length ops) old new
    → Within (2 * number) old new
reads_rise size number ops old new is within =
    let e : length ops ≡ length (reads_of size number) = ap length is in
    let k : length (reads_of size number) ≤ 2 * number = reads_long size number in within_more (length ops) (2 * number) old new within (omega (arith, e, k))

-- ---- by a program

-- the operations of a run's elements, where each of them has so many at most
pub run_most : (most more each : ℕ) → each ≤ most → more * each ≤ most * more
run_most most more each few = let a : more * each ≤ more * most = mul-le-mul_left more few in omega (arith, a)

-- loads: a run that came too early hands out one element at least
pub loads_wasted : (done now looks waste cost : ℕ) → cost ≤ waste → done < now
    → ((17 + 18 * done) + looks * waste) + (cost + 18) ≤ (17 + 18 * now) + (looks + 1) * waste
loads_wasted done now looks waste cost few more = omega (arith, few, more)

pub loads_end : (done looks count : ℕ) → done < count → looks ≤ 7 → (17 + 18 * done) + looks * (8 * count) ≤ 74 * count
loads_end done looks count few most = let a : looks * (8 * count) ≤ 7 * (8 * count) = mul-le-mul_right (8 * count) most in omega (arith, few, a)

pub loads_cut : (done looks more cost count : ℕ) → looks ≤ 6 → cost ≤ 8 * more → done + 2 + more < count
    → ((17 + 18 * done) + looks * (8 * count)) + (cost + 18) ≤ 74 * count
loads_cut done looks more cost count most few within =
    let a : looks * (8 * count) ≤ 6 * (8 * count) = mul-le-mul_right (8 * count) most in omega (arith, few, a, within)

-- stores: a run that came too early stores one element at least, and the program is begun again
pub stores_wasted : (done now looks count cost : ℕ) → cost ≤ 7 * count → done < now
    → ((25 + 8 * done) + looks * (7 * count + 33)) + (cost + 41) ≤ (25 + 8 * now) + (looks + 1) * (7 * count + 33)
stores_wasted done now looks count cost few more = omega (arith, few, more)

pub stores_end : (done looks count : ℕ) → done ≤ count → looks ≤ 7 → (25 + 8 * done) + looks * (7 * count + 33) ≤ 57 * count + 256
stores_end done looks count few most = let a : looks * (7 * count + 33) ≤ 7 * (7 * count + 33) = mul-le-mul_right (7 * count + 33) most in omega (arith, few, a)

pub stores_cut : (done looks more cost count : ℕ) → looks ≤ 6 → cost ≤ 7 * more → done + 2 + more ≤ count
    → ((25 + 8 * done) + looks * (7 * count + 33)) + (cost + 41) ≤ 57 * count + 256
stores_cut done looks more cost count most few within =
    let a : looks * (7 * count + 33) ≤ 6 * (7 * count + 33) = mul-le-mul_right (7 * count + 33) most in omega (arith, few, a, within)
