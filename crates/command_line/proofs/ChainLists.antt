-- A list that is read item by item.
use Rattle.std.proofs.Common.{◌≡◌, ℕ, ◌+◌, ◌<◌, ◌≤◌, ◌&&◌, Bool, true, false, cond, not, ◌||◌, nat_le, List, [], ◌∷◌, ◌++◌, length, take, drop}
use Rattle.std.proofs.Common.{Option, Some, None, refl, sym, ap, ◌∙◌}
use Rattle.std.proofs.Common.{append-nil, append_assoc, arith, get_or, length-append, map}
use Rattle.std.specs.Borrow.{Bor}
use Rattle.std.specs.Prelude.{◌↔◌, All, IfSome, IsSome}
use Rattle.std.proofs.lemmas.List.{at_drop_more, map-append, take-append-drop}
use Rattle.std.proofs.lemmas.Grind.{common_steps}
use Rattle.std.proofs.lemmas.Bool.Decides.{nat_tests}
use native.Mathlib.Numerals.{unary_clauses}
use Rattle.std.specs.List.{after_first, before_first, list_any, position_or_len}
use Rattle.chain_scan.specs.ChainPlan.{IsPlan, IsWidth, Plan, sides_most}
use Rattle.command_line.specs.Chains.{counted, is_chip, plan_from, plan_in, width_of, widths_of}
use Rattle.command_line.specs.Numbers.{◌>>=◌}
use Rattle.command_line.specs.Job.{Text}

-- more lengths before these
abbrev grown : List ℕ → Option (List ℕ) → Option (List ℕ)
grown side said = said >>= λ more. Some (more ++ side)

-- what a list writes that goes on with these items, behind the chip or before it
abbrev pub goes_on : Bool → (near far : List ℕ) → List Text → Option Plan
goes_on true near far items = plan_from (grown near (widths_of items)) (Some far)
goes_on false near far items =
    cond (list_any is_chip items) (plan_from (grown near (widths_of (after_first is_chip items))) (grown far (widths_of (before_first is_chip items)))) None

grown_none : (said : Option (List ℕ)) → grown [] said ≡ said
grown_none None = refl
grown_none (Some more) = ap Some (append-nil more)

pub begins : (items : List Text) → goes_on false [] [] items ≡ plan_in items
begins items = λ i. cond (list_any is_chip items)
    (plan_from (grown_none (widths_of (after_first is_chip items)) i) (grown_none (widths_of (before_first is_chip items)) i))
    None

-- ---- the first item of a list

one_on : (n : ℕ) → 1 + n ≡ n + 1
one_on n = omega arith

take_on : (n : ℕ) (item : Text) (items : List Text) → take (1 + n) (item ∷ items) ≡ item ∷ take n items
take_on n item items = ap (λ k. take k (item ∷ items)) (one_on n) ∙ simp unary_clauses

drop_on : (n : ℕ) (item : Text) (items : List Text) → drop (1 + n + 1) (item ∷ items) ≡ drop (n + 1) items
drop_on n item items = ap (λ k. drop (k + 1) (item ∷ items)) (one_on n) ∙ simp unary_clauses

drop_one : (item : Text) (items : List Text) → drop (0 + 1) (item ∷ items) ≡ items
drop_one item items = refl

first_before : (p : Text → Bool) (item : Text) (items : List Text) → p item ≡ true → before_first p (item ∷ items) ≡ []
first_before p item items is = ap (λ b. take (cond (not b) (1 + position_or_len p items) 0) (item ∷ items)) is

first_after : (p : Text → Bool) (item : Text) (items : List Text) → p item ≡ true → after_first p (item ∷ items) ≡ items
first_after p item items is = ap (λ b. drop (cond (not b) (1 + position_or_len p items) 0 + 1) (item ∷ items)) is ∙ drop_one item items

other_before : (p : Text → Bool) (item : Text) (items : List Text) → p item ≡ false → before_first p (item ∷ items) ≡ item ∷ before_first p items
other_before p item items is = ap (λ b. take (cond (not b) (1 + position_or_len p items) 0) (item ∷ items)) is ∙ take_on (position_or_len p items) item items

other_after : (p : Text → Bool) (item : Text) (items : List Text) → p item ≡ false → after_first p (item ∷ items) ≡ after_first p items
other_after p item items is = ap (λ b. drop (cond (not b) (1 + position_or_len p items) 0 + 1) (item ∷ items)) is ∙ drop_on (position_or_len p items) item items

-- ---- one more item

chosen : Bool → Option Plan → Option Plan
chosen there said = cond there said None

at_chip_by : (near far : List ℕ) (item : Text) (items : List Text) → is_chip item ≡ true
    → goes_on false near far (item ∷ items) ≡ plan_from (grown near (widths_of items)) (grown far (widths_of []))
at_chip_by near far item items is = λ i. cond (any i) (plan_from (grown near (widths_of (first_after is_chip item items is i)))
    (grown far (widths_of (first_before is_chip item items is i)))) None
  where
    any : list_any is_chip (item ∷ items) ≡ true
    any = ap (λ b. b || list_any is_chip items) is

-- the chip is met
pub at_chip : (near far : List ℕ) (item : Text) (items : List Text) → is_chip item ≡ true
    → goes_on false near far (item ∷ items) ≡ goes_on true near far items
at_chip near far item items is = at_chip_by near far item items is

grown_once : (side : List ℕ) (width : ℕ) (said : Option (List ℕ)) → grown side (said >>= λ widths. Some (widths ++ width ∷ [])) ≡ grown (width ∷ side) said
grown_once side width None = refl
grown_once side width (Some widths) = ap Some (append_assoc widths (width ∷ []) side)

abbrev widths_by : (width : Option ℕ) (said : Option (List ℕ)) → Option (List ℕ)
widths_by width said = width >>= λ w. said >>= λ widths. Some (widths ++ w ∷ [])

-- one more length, behind the chip
pub at_near : (near far : List ℕ) (item : Text) (items : List Text) (width : ℕ) → width_of item ≡ Some width
    → goes_on true near far (item ∷ items) ≡ goes_on true (width ∷ near) far items
at_near near far item items width is =
    ap (λ w. plan_from (grown near (widths_by w (widths_of items))) (Some far)) is
    ∙ ap (λ n. plan_from n (Some far)) (grown_once near width (widths_of items))

-- ... or before it
pub at_far : (near far : List ℕ) (item : Text) (items : List Text) (width : ℕ) → is_chip item ≡ false → width_of item ≡ Some width
    → goes_on false near far (item ∷ items) ≡ goes_on false near (width ∷ far) items
at_far near far item items width other is =
    (λ i. cond (any i) (plan_from (grown near (widths_of (other_after is_chip item items other i)))
    (grown far (widths_of (other_before is_chip item items other i)))) None)
    ∙ ap (λ f. cond (list_any is_chip items) (plan_from (grown near (widths_of (after_first is_chip items))) f) None)
    (ap (λ w. grown far (widths_by w (widths_of (before_first is_chip items)))) is ∙ grown_once far width (widths_of (before_first is_chip items)))
  where
    any : list_any is_chip (item ∷ items) ≡ list_any is_chip items
    any = ap (λ b. b || list_any is_chip items) other

none_behind : (near : Option (List ℕ)) → plan_from near None ≡ None
none_behind None = refl
none_behind (Some n) = refl

never : (there : Bool) → cond {A = Option Plan} there None None ≡ None
never true = refl
never false = refl

-- an item that writes no length
pub at_bad_near : (near far : List ℕ) (item : Text) (items : List Text) → width_of item ≡ None → goes_on true near far (item ∷ items) ≡ None
at_bad_near near far item items is = ap (λ w. plan_from (grown near (widths_by w (widths_of items))) (Some far)) is

pub at_bad_far : (near far : List ℕ) (item : Text) (items : List Text) → is_chip item ≡ false → width_of item ≡ None
    → goes_on false near far (item ∷ items) ≡ None
at_bad_far near far item items other is =
    (λ i. cond (list_any is_chip (item ∷ items)) (plan_from (grown near (widths_of (after_first is_chip (item ∷ items))))
    (grown far (widths_of (other_before is_chip item items other i)))) None)
    ∙ ap (λ w. cond (list_any is_chip (item ∷ items)) (plan_from (grown near (widths_of (after_first is_chip (item ∷ items))))
    (grown far (widths_by w (widths_of (before_first is_chip items))))) None) is
    ∙ ap (λ p. cond (list_any is_chip (item ∷ items)) p None) (none_behind _)
    ∙ never (list_any is_chip (item ∷ items))

-- ---- too many

counted_full : (near far : List ℕ) → sides_most < length near + length far → counted (record { near = near; far = far }) ≡ None
counted_full near far many = by (nat_le 1 (length near + length far)) (nat_le (length near + length far) sides_most) (grind (arith, nat_tests))
  where
    by : (a b : Bool) → b ≡ false → cond {A = Option Plan} (a && b) (Some (record { near = near; far = far })) None ≡ None
    by true true e = cc
    by true false e = refl
    by false b e = refl

full_by : (near far : List ℕ) (more back : Option (List ℕ)) → sides_most < length near + length far → plan_from (grown near more) (grown far back) ≡ None
full_by near far None back many = refl
full_by near far (Some ms) None many = refl
full_by near far (Some ms) (Some bs) many = counted_full (ms ++ near) (bs ++ far) (grind (arith, length-append))

-- lists only grow
pub full : (behind : Bool) (near far : List ℕ) (items : List Text) → sides_most < length near + length far → goes_on behind near far items ≡ None
full true near far items many = full_by near far (widths_of items) (Some []) many
full false near far items many =
    ap (λ p. cond (list_any is_chip items) p None) (full_by near far (widths_of (after_first is_chip items)) (widths_of (before_first is_chip items)) many)
    ∙ never (list_any is_chip items)

-- ---- by whether the chip was met before

pub met : (behind : Bool) (near far : List ℕ) (item : Text) (items : List Text) → behind ≡ false → is_chip item ≡ true
    → goes_on behind near far (item ∷ items) ≡ goes_on true near far items
met true near far item items before is = cc
met false near far item items before is = at_chip near far item items is

pub one_near : (behind : Bool) (near near' far : List ℕ) (item : Text) (items : List Text) (width : ℕ) → behind ≡ true → width_of item ≡ Some width
    → near' ≡ width ∷ near → goes_on behind near far (item ∷ items) ≡ goes_on behind near' far items
one_near true near near' far item items width after is more = at_near near far item items width is ∙ ap (λ n. goes_on true n far items) (sym more)
one_near false near near' far item items width after is more = cc

pub one_far : (behind : Bool) (near far far' : List ℕ) (item : Text) (items : List Text) (width : ℕ) → behind ≡ false → is_chip item ≡ false
    → width_of item ≡ Some width → far' ≡ width ∷ far → goes_on behind near far (item ∷ items) ≡ goes_on behind near far' items
one_far true near far far' item items width before other is more = cc
one_far false near far far' item items width before other is more = at_far near far item items width other is ∙ ap (λ f. goes_on false near f items) (sym more)

pub at_bad : (behind : Bool) (near far : List ℕ) (item : Text) (items : List Text) → (behind ≡ false → is_chip item ≡ false) → width_of item ≡ None
    → goes_on behind near far (item ∷ items) ≡ None
at_bad true near far item items other is = at_bad_near near far item items is
at_bad false near far item items other is = at_bad_far near far item items (other refl) is

pub at_full : (behind : Bool) (near far : List ℕ) (item : Text) (items : List Text) (width : ℕ) → (behind ≡ false → is_chip item ≡ false)
    → width_of item ≡ Some width → length near + length far ≡ sides_most → goes_on behind near far (item ∷ items) ≡ None
at_full true near far item items width other is many = at_near near far item items width is ∙ full true (width ∷ near) far items (omega arith)
at_full false near far item items width other is many = at_far near far item items width (other refl) is ∙ full false near (width ∷ far) items (omega arith)

-- ---- a list behind its first items

pub on_with : (front : List (Bor Text)) (item : Bor Text) (behind behind' : Bool) (near far near' far' : List ℕ)
    → ((rest : List Text) → plan_in (map (λ x. x.now) front ++ rest) ≡ goes_on behind near far rest)
    → ((rest : List Text) → goes_on behind near far (item.now ∷ rest) ≡ goes_on behind' near' far' rest)
    → (rest : List Text) → plan_in (map (λ x. x.now) (front ++ item ∷ []) ++ rest) ≡ goes_on behind' near' far' rest
on_with front item behind behind' near far near' far' goes on rest =
    ap (λ items. plan_in (items ++ rest)) (map-append (λ x. x.now) front (item ∷ []))
    ∙ ap plan_in (append_assoc (map (λ x. x.now) front) (item.now ∷ []) rest) ∙ goes (item.now ∷ rest) ∙ on rest

take_with : (items : List Text) (n : ℕ) (d : Text) → n < length items → items ≡ take n items ++ (get_or items n d ∷ drop (n + 1) items)
take_with items n d h = sym (take-append-drop n items) ∙ ap (λ rest. take n items ++ rest) (at_drop_more (λ x. x) items n d h)

pub refused_at : (items front : List Text) (item : Text) (n : ℕ) (behind : Bool) (near far : List ℕ)
    → ((rest : List Text) → plan_in (front ++ rest) ≡ goes_on behind near far rest)
    → front ≡ take n items → n < length items → item ≡ get_or items n item
    → ((rest : List Text) → goes_on behind near far (item ∷ rest) ≡ None) → plan_in items ≡ None
refused_at items front item n behind near far goes is inside here bad =
    ap plan_in (take_with items n item inside ∙ (λ i. sym is i ++ (sym here i ∷ drop (n + 1) items)))
    ∙ goes (item ∷ drop (n + 1) items) ∙ bad (drop (n + 1) items)

pub ended : (items front : List Text) (behind : Bool) (near far : List ℕ) → ((rest : List Text) → plan_in (front ++ rest) ≡ goes_on behind near far rest)
    → front ≡ items → plan_in items ≡ goes_on behind near far []
ended items front behind near far goes is = ap plan_in (sym is ∙ sym (append-nil front)) ∙ goes []

-- the chip was not met
pub unmet : (behind : Bool) (near far : List ℕ) → behind ≡ false → goes_on behind near far [] ≡ None
unmet true near far before = cc
unmet false near far before = refl

-- ---- the plan

tested : (near far : List ℕ) (r : Option Plan) (a b : Bool) → nat_le 1 (length near + length far) ≡ a → nat_le (length near + length far) sides_most ≡ b
    → IfSome r (λ p. p ≡ record { near = near; far = far }) → (IsSome r ↔ IsPlan near far) → All IsWidth near → All IsWidth far
    → r ≡ cond (a && b) (Some (record { near = near; far = far })) None
tested near far None true true low high is right near_widths far_widths =
    let plan : IsPlan near far = record {
      some = grind (arith, nat_tests);
      few = grind (arith, nat_tests);
      near_widths = near_widths;
      far_widths = far_widths;
    } in
    let some : IsSome none = right.1 plan in cc
  where
    none : Option Plan
    none = None
tested near far None true false low high is right near_widths far_widths = refl
tested near far None false b low high is right near_widths far_widths = refl
tested near far (Some p) true true low high is right near_widths far_widths = ap Some is
tested near far (Some p) true false low high is right near_widths far_widths =
    let few : length near + length far ≤ sides_most = (right.0 refl).few in absurd (grind (arith, nat_tests))
tested near far (Some p) false b low high is right near_widths far_widths =
    let some : 1 ≤ length near + length far = (right.0 refl).some in absurd (grind (arith, nat_tests))

pub made : (behind : Bool) (near far : List ℕ) (r : Option Plan) → behind ≡ true → IfSome r (λ p. p ≡ record { near = near; far = far })
    → (IsSome r ↔ IsPlan near far) → All IsWidth near → All IsWidth far → r ≡ goes_on behind near far []
made true near far r after is right near_widths far_widths =
    tested near far r (nat_le 1 (length near + length far)) (nat_le (length near + length far) sides_most) refl refl is right near_widths far_widths
made false near far r after is right near_widths far_widths = cc
