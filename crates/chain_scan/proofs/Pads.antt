-- Padded scans as lists: which bits go in, and which of those that come out are asked.
use Rattle.std.proofs.Common.{◌≡◌, ◌∙◌, ◌<◌, ◌+◌, ℕ, zero, suc, List, [], ◌∷◌, ◌++◌, map, length, replicate, Bool, true, false, refl, sym, ap, subst, arith}
use Rattle.std.proofs.Common.{append_assoc, append-nil, length-append}
use Rattle.std.proofs.lemmas.List.{length-map, length-replicate}
use Rattle.probe_scan.specs.Padded.{Shifted, as_asked, padded, pads}
use Rattle.chain_scan.specs.Passing.{pad}
use Rattle.chain_scan.specs.SideTap.{SideTap}
use Rattle.chain_scan.proofs.Shifts.{asked_among, bit_of}

-- ---- what goes in

pads_bits : (count : ℕ) (level : Bool) → map bit_of (pads count level) ≡ replicate count level
pads_bits zero level = refl
pads_bits (suc n) level = ap (λ xs. level ∷ xs) (pads_bits n level)

own_bits : (ask : Bool) (bits : List Bool) → map bit_of (map (as_asked ask) bits) ≡ bits
own_bits ask [] = refl
own_bits ask (b ∷ bs) = ap (λ xs. b ∷ xs) (own_bits ask bs)

map_apart : (xs ys : List Shifted) → map bit_of (xs ++ ys) ≡ map bit_of xs ++ map bit_of ys
map_apart [] ys = refl
map_apart (x ∷ xs) ys = ap (λ zs. bit_of x ∷ zs) (map_apart xs ys)

pub padded_bits : (level : Bool) (before : ℕ) (bits : List Bool) (after : ℕ) (ask : Bool)
    → map bit_of (padded level before bits after ask) ≡ replicate before level ++ (bits ++ replicate after level)
padded_bits level before bits after ask =
    map_apart (pads before level) (map (as_asked ask) bits ++ pads after level)
    ∙ ap (λ xs. xs ++ map bit_of (map (as_asked ask) bits ++ pads after level)) (pads_bits before level)
    ∙ ap (λ ys. replicate before level ++ ys) (map_apart (map (as_asked ask) bits) (pads after level)
    ∙ ap (λ xs. xs ++ map bit_of (pads after level)) (own_bits ask bits) ∙ ap (λ xs. bits ++ xs) (pads_bits after level))

pub side_pads : (ts : List SideTap) → replicate (length ts) false ≡ map pad ts
side_pads [] = refl
side_pads (t ∷ ts) = ap (λ xs. false ∷ xs) (side_pads ts)

-- ---- at least one

pub record SomeShifted (ss : List Shifted) : Type 0 where
  pub first : Shifted
  pub others : List Shifted
  pub is : ss ≡ first ∷ others

pub some_padded : (level : Bool) (before : ℕ) (bits : List Bool) (after : ℕ) (ask : Bool) → 0 < length bits → SomeShifted (padded level before bits after ask)
some_padded level zero [] after ask some = absurd (omega (arith, some))
some_padded level zero (b ∷ bs) after ask some = record { first = _; others = _; is = refl }
some_padded level (suc n) bits after ask some = record { first = _; others = _; is = refl }

-- ---- what is asked

none_asked : (count : ℕ) (level : Bool) (rest : List Shifted) (front back : List Bool) → length front ≡ count
    → asked_among (pads count level ++ rest) (front ++ back) ≡ asked_among rest back
none_asked zero level rest [] back same = refl
none_asked zero level rest (f ∷ front) back same = absurd (omega (arith, same))
none_asked (suc n) level rest [] back same = absurd (omega (arith, same))
none_asked (suc n) level rest (f ∷ front) back same = none_asked n level rest front back (omega (arith, same))

pads_asked : (count : ℕ) (level : Bool) (back : List Bool) → asked_among (pads count level) back ≡ []
pads_asked zero level back = refl
pads_asked (suc n) level [] = refl
pads_asked (suc n) level (b ∷ back) = pads_asked n level back

own_asked : (bits was : List Bool) (count : ℕ) (level : Bool) (back : List Bool) → length was ≡ length bits
    → asked_among (map (as_asked true) bits ++ pads count level) (was ++ back) ≡ was
own_asked [] [] count level back same = pads_asked count level back
own_asked [] (w ∷ was) count level back same = absurd (omega (arith, same))
own_asked (b ∷ bs) [] count level back same = absurd (omega (arith, same))
own_asked (b ∷ bs) (w ∷ was) count level back same = ap (λ xs. w ∷ xs) (own_asked bs was count level back (omega (arith, same)))

pub padded_asked : (level : Bool) (before : ℕ) (bits : List Bool) (after : ℕ) (front was back : List Bool) → length front ≡ before → length was ≡ length bits
    → asked_among (padded level before bits after true) (front ++ (was ++ back)) ≡ was
padded_asked level before bits after front was back one two =
    none_asked before level (map (as_asked true) bits ++ pads after level) front (was ++ back) one ∙ own_asked bits was after level back two

pub side_length : (ts : List SideTap) → length (map pad ts) ≡ length ts
side_length [] = refl
side_length (t ∷ ts) = ap suc (side_length ts)
