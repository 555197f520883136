-- What several operations in one call cost: each scan that finds the transport idle, with the clocks before it, and each busy answer apart.
use Rattle.std.proofs.Common.{◌≡◌, ℕ, zero, suc, ◌+◌, ◌-◌, ◌*◌, ◌<◌, ◌≤◌, cond, nat_lt, Bool, true, false, add-one, refl, ap, arith}
use Rattle.std.proofs.lemmas.Bool.{ltb-false, ltb-true}
use Rattle.probe_dmi.specs.Rises.{pauses, waits_most}

-- whether there are several operations; how many the transport has taken; and how many busy answers came in a row
scans_by : Bool → ℕ → ℕ → ℕ
scans_by true taken row = 2 + 2 * taken + pauses row
scans_by false taken row = 2 + taken

clocks_by : Bool → ℕ → ℕ → ℕ
clocks_by true taken row = 17 + 70 * taken + 24 * pauses row
clocks_by false taken row = 17 + 46 * taken

pub scans_spent : (operations taken row : ℕ) → ℕ
scans_spent operations taken row = scans_by (nat_lt 1 operations) taken row

pub clocks_spent : (operations taken row : ℕ) → ℕ
clocks_spent operations taken row = clocks_by (nat_lt 1 operations) taken row

-- ---- the clocks before a scan

pub waits_few : (operations : ℕ) → waits_most operations ≤ 24
waits_few operations = by (nat_lt 1 operations)
  where
    by : (several : Bool) → cond several 24 0 ≤ 24
    by true = omega arith
    by false = omega arith

pub waits_pace : (operations clocks : ℕ) → 1 < operations → clocks ≤ 24 → clocks ≤ waits_most operations
waits_pace operations clocks several few = by (nat_lt 1 operations) refl
  where
    by : (b : Bool) → nat_lt 1 operations ≡ b → clocks ≤ cond b 24 0
    by true e = few
    by false e = let one : operations ≤ 1 = ltb-false 1 operations e in absurd (omega (arith, one, several))

pauses_few : (n : ℕ) → pauses n ≤ 1
pauses_few zero = omega arith
pauses_few (suc n) = omega arith

pauses_none : (n : ℕ) → n ≡ 0 → pauses n ≡ 0
pauses_none n e = ap pauses e

pauses_more : (n : ℕ) → pauses (n + 1) ≡ 1
pauses_more n = ap pauses (add-one n)

-- either none has been spent on this operation yet, or it was before
waited : (row clocks : ℕ) → (0 < row → clocks ≡ 0) → (pauses clocks + pauses row ≤ 1) × (clocks ≤ 24 → clocks + 24 * pauses row ≤ 24)
waited zero clocks once = (omega (arith, pauses_few clocks), λ few. omega (arith, few))
waited (suc row) clocks once =
    let none : clocks ≡ 0 = once (omega arith) in
    (omega (arith, pauses_none clocks none), λ few. omega (arith, none))

-- ---- begun

begun_by : (several : Bool) → (2 ≤ scans_by several 0 0) × (17 ≤ clocks_by several 0 0)
unfolding scans_by clocks_by
begun_by true = (omega arith, omega arith)
begun_by false = (omega arith, omega arith)

-- ---- the next was carried

next_by : (several : Bool) (taken row clocks : ℕ) → clocks ≤ cond several 24 0 → (0 < row → clocks ≡ 0)
    → (scans_by several taken row + (pauses clocks + 1) ≤ scans_by several (taken + 1) 0)
    × (clocks_by several taken row + (clocks + 46) ≤ clocks_by several (taken + 1) 0)
unfolding scans_by clocks_by
next_by true taken row clocks few once = let w = waited row clocks once in (omega (arith, w.0), omega (arith, w.1 few))
next_by false taken row clocks few once =
    let none : clocks ≡ 0 = omega (arith, few) in
    (omega (arith, pauses_none clocks none), omega (arith, none))

pub next_scans : (operations taken row clocks : ℕ) → clocks ≤ waits_most operations → (0 < row → clocks ≡ 0)
    → scans_spent operations taken row + (pauses clocks + 1) ≤ scans_spent operations (taken + 1) 0
unfolding scans_spent
next_scans operations taken row clocks few once = (next_by (nat_lt 1 operations) taken row clocks few once).0

pub next_clocks : (operations taken row clocks : ℕ) → clocks ≤ waits_most operations → (0 < row → clocks ≡ 0)
    → clocks_spent operations taken row + (clocks + 46) ≤ clocks_spent operations (taken + 1) 0
unfolding clocks_spent
next_clocks operations taken row clocks few once = (next_by (nat_lt 1 operations) taken row clocks few once).1

-- ---- it was found busy once more

again_by : (several : Bool) (taken row clocks : ℕ) → clocks ≤ cond several 24 0 → (0 < row → clocks ≡ 0)
    → (scans_by several taken row + (pauses clocks + 1) + 3 ≤ scans_by several taken (row + 1) + 4)
    × (clocks_by several taken row + (clocks + 46) + 59 ≤ clocks_by several taken (row + 1) + 105)
unfolding scans_by clocks_by
again_by true taken row clocks few once =
    let w = waited row clocks once in
    (omega (arith, w.0, pauses_more row), omega (arith, w.1 few, pauses_more row))
again_by false taken row clocks few once =
    let none : clocks ≡ 0 = omega (arith, few) in
    (omega (arith, pauses_none clocks none), omega (arith, none))

pub again_scans : (operations taken row clocks : ℕ) → clocks ≤ waits_most operations → (0 < row → clocks ≡ 0)
    → scans_spent operations taken row + (pauses clocks + 1) + 3 ≤ scans_spent operations taken (row + 1) + 4
unfolding scans_spent
again_scans operations taken row clocks few once = (again_by (nat_lt 1 operations) taken row clocks few once).0

pub again_clocks : (operations taken row clocks : ℕ) → clocks ≤ waits_most operations → (0 < row → clocks ≡ 0)
    → clocks_spent operations taken row + (clocks + 46) + 59 ≤ clocks_spent operations taken (row + 1) + 105
unfolding clocks_spent
again_clocks operations taken row clocks few once = (again_by (nat_lt 1 operations) taken row clocks few once).1

-- ---- in the end

ends_by : (several : Bool) (operations taken row : ℕ) → nat_lt 1 operations ≡ several → 1 ≤ operations → taken ≤ operations
    → (scans_by several taken row ≤ 4 * operations) × (clocks_by several taken row + 9 ≤ 118 * operations)
unfolding scans_by clocks_by
ends_by true operations taken row e some few =
    let two : 1 < operations = ltb-true 1 operations e in
    (omega (arith, two, few, pauses_few row), omega (arith, two, few, pauses_few row))
ends_by false operations taken row e some few =
    let one : operations ≤ 1 = ltb-false 1 operations e in
    (omega (arith, one, some, few), omega (arith, one, some, few))

pub ends_scans : (operations taken row : ℕ) → 1 ≤ operations → taken ≤ operations → scans_spent operations taken row ≤ 4 * operations
unfolding scans_spent
ends_scans operations taken row some few = (ends_by (nat_lt 1 operations) operations taken row refl some few).0

pub ends_clocks : (operations taken row : ℕ) → 1 ≤ operations → taken ≤ operations → clocks_spent operations taken row + 9 ≤ 118 * operations
unfolding clocks_spent
ends_clocks operations taken row some few = (ends_by (nat_lt 1 operations) operations taken row refl some few).1

last_by : (several : Bool) (operations taken : ℕ) → nat_lt 1 operations ≡ several → 1 ≤ operations → taken ≤ operations
    → (scans_by several (taken + 1) 0 ≤ 4 * operations) × (clocks_by several (taken + 1) 0 + 9 ≤ 118 * operations)
unfolding scans_by clocks_by
last_by true operations taken e some few =
    let two : 1 < operations = ltb-true 1 operations e in (omega (arith, two, few), omega (arith, two, few))
last_by false operations taken e some few =
    let one : operations ≤ 1 = ltb-false 1 operations e in (omega (arith, one, some, few), omega (arith, one, some, few))

-- with the scan that fetches the last result
pub last_scans : (operations taken : ℕ) → 1 ≤ operations → taken ≤ operations → scans_spent operations (taken + 1) 0 ≤ 4 * operations
unfolding scans_spent
last_scans operations taken some few = (last_by (nat_lt 1 operations) operations taken refl some few).0

pub last_clocks : (operations taken : ℕ) → 1 ≤ operations → taken ≤ operations → clocks_spent operations (taken + 1) 0 + 9 ≤ 118 * operations
unfolding clocks_spent
last_clocks operations taken some few = (last_by (nat_lt 1 operations) operations taken refl some few).1

-- ---- with none taken yet

-- of a list, less itself
pub none_scans : (operations : ℕ) → 2 ≤ scans_spent operations (operations - operations) 0
unfolding scans_spent
none_scans operations = let none : operations - operations ≡ 0 = omega arith in rw none (begun_by (nat_lt 1 operations)).0

pub none_clocks : (operations : ℕ) → 17 ≤ clocks_spent operations (operations - operations) 0
unfolding clocks_spent
none_clocks operations = let none : operations - operations ≡ 0 = omega arith in rw none (begun_by (nat_lt 1 operations)).1
