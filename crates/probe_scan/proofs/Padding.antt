-- Padded scans, piece by piece.
use Rattle.std.proofs.Common.{◌≡◌, ◌∙◌, ◌<◌, ◌-◌, ◌==◌, ℕ, zero, suc, List, [], ◌∷◌, ◌++◌, ◌&&◌, Bool, true, false, length, map, refl, sym, ap}
use Rattle.std.proofs.Common.{append_assoc, append-nil, arith}
use Rattle.bitbang_stream.specs.Clock.{pulsed}
use Rattle.debug_model.specs.Scan.{to_idle}
use Rattle.probe_scan.specs.Padded.{Shifted, as_asked, is_end, padded, pads, scan_bytes, shifted_bytes, to_shift}

-- a front that something stands behind, and the rest
pub shifted_apart : (ends : Bool) (xs : List Shifted) (y : Shifted) (ys : List Shifted)
    → shifted_bytes ends (xs ++ y ∷ ys) ≡ shifted_bytes false xs ++ shifted_bytes ends (y ∷ ys)
shifted_apart ends [] y ys = refl
shifted_apart ends (x ∷ []) y ys = by x.asked x.bit
  where
    by : (asked bit : Bool) → pulsed asked (false && ends) bit ++ shifted_bytes ends (y ∷ ys)
        ≡ (pulsed asked (true && false) bit ++ []) ++ shifted_bytes ends (y ∷ ys)
    by true bit = refl
    by false bit = refl
shifted_apart ends (x ∷ (z ∷ xs)) y ys = ap (λ r. pulsed x.asked (false && ends) x.bit ++ r) (shifted_apart ends (z ∷ xs) y ys)
    ∙ sym (append_assoc (pulsed x.asked (false && ends) x.bit) (shifted_bytes false (z ∷ xs)) (shifted_bytes ends (y ∷ ys)))

-- the bits, and behind them pads, where there are any
bits_and_pads : (ask level b : Bool) (bs : List Bool) (after : ℕ) → shifted_bytes (after == 0) (map (as_asked ask) (b ∷ bs))
    ++ shifted_bytes true (pads after level)
    ≡ shifted_bytes true (map (as_asked ask) (b ∷ bs) ++ pads after level)
bits_and_pads ask level b bs zero = append-nil (shifted_bytes true (map (as_asked ask) (b ∷ bs)))
    ∙ ap (shifted_bytes true) (sym (append-nil (map (as_asked ask) (b ∷ bs))))
bits_and_pads ask level b bs (suc n) =
    let none : (suc n == 0) ≡ false = grind arith in
    ap (λ z. shifted_bytes z (map (as_asked ask) (b ∷ bs)) ++ shifted_bytes true (pads (suc n) level)) none
    ∙ sym (shifted_apart true (map (as_asked ask) (b ∷ bs)) _ (pads n level))

all_pads : (ask level b : Bool) (bs : List Bool) (before after : ℕ) → shifted_bytes false (pads before level)
    ++ (shifted_bytes (after == 0) (map (as_asked ask) (b ∷ bs)) ++ shifted_bytes true (pads after level))
    ≡ shifted_bytes true (padded level before (b ∷ bs) after ask)
all_pads ask level b bs before after = ap (λ r. shifted_bytes false (pads before level) ++ r) (bits_and_pads ask level b bs after)
    ∙ sym (shifted_apart true (pads before level) (as_asked ask b) (map (as_asked ask) bs ++ pads after level))

pub scan_pieces : (ir ask : Bool) (before after : ℕ) (bits : List Bool) (b0 b1 b2 b3 b4 b5 : List ℕ) → 0 < length bits → b0 ≡ [] → b1 ≡ b0 ++ to_shift ir
    → b2 ≡ b1 ++ shifted_bytes false (pads before ir) → b3 ≡ b2 ++ shifted_bytes (after == 0) (map (as_asked ask) bits)
    → b4 ≡ b3 ++ shifted_bytes true (pads after ir) → b5 ≡ b4 ++ to_idle → b5 ≡ scan_bytes ir before bits after ask
scan_pieces ir ask before after [] b0 b1 b2 b3 b4 b5 some e0 e1 e2 e3 e4 e5 = absurd (omega (arith, some))
scan_pieces ir ask before after (b ∷ bs) b0 b1 b2 b3 b4 b5 some e0 e1 e2 e3 e4 e5 =
    let front : List ℕ = to_shift ir in
    let lead : List ℕ = shifted_bytes false (pads before ir) in
    let own : List ℕ = shifted_bytes (after == 0) (map (as_asked ask) (b ∷ bs)) in
    let tail : List ℕ = shifted_bytes true (pads after ir) in
    e5 ∙ ap (λ x. x ++ to_idle) (e4 ∙ ap (λ x. x ++ tail) (e3 ∙ ap (λ x. x ++ own) (e2 ∙ ap (λ x. x ++ lead) (e1 ∙ ap (λ x. x ++ front) e0))))
    ∙ ap (λ x. x ++ to_idle) (append_assoc (front ++ lead) own tail ∙ append_assoc front lead (own ++ tail)
    ∙ ap (λ x. front ++ x) (all_pads ask ir b bs before after))
    ∙ append_assoc front (shifted_bytes true (padded ir before (b ∷ bs) after ask)) to_idle
