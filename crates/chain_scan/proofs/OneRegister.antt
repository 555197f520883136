-- In a Shift state the registers of a chain shift as one.
use Rattle.std.proofs.Common.{◌≡◌, ◌≢◌, ◌∙◌, List, [], ◌∷◌, ◌++◌, inl, inr, map, Bool, true, false, refl, sym, ap, append_assoc}
use Rattle.std.proofs.Common.{append-nil, if◌then◌else◌}
use Rattle.jt_base.specs.BitList.{lowest, shift_in}
use Rattle.debug_model.specs.declared.tap_state.TapState.{TapState}
use Rattle.debug_model.specs.Port.{Port, port_fallen, port_risen, risen, shift_after, tdo_after}
use Rattle.debug_model.specs.Transport.{Dtm}
use Rattle.chain_scan.specs.Chain.{chain_falls, outgoing, sides_rise}
use Rattle.chain_scan.specs.ChainLaws.{Each, HasBits, RegistersShiftAsOne, Shifting, StandsAs, joined_shifts}
use Rattle.chain_scan.specs.SideTap.{SideTap, side_falls, side_risen, side_rises, side_shift_after, side_tdo_after}

-- ---- two registers, one behind the other

-- what the first of two takes: the lowest bit of the second, and where that is empty what comes in
abbrev fed : Bool → List Bool → Bool
fed b [] = b
fed b (y ∷ ys) = y

shift_two : (b : Bool) (xs ys : List Bool) → shift_in (fed b ys) xs ++ shift_in b ys ≡ shift_in b (xs ++ ys)
shift_two b [] [] = refl
shift_two b [] (y ∷ ys) = refl
shift_two b (x ∷ xs) [] = append-nil (xs ++ b ∷ []) ∙ ap (λ zs. zs ++ b ∷ []) (sym (append-nil xs))
shift_two b (x ∷ xs) (y ∷ ys) = append_assoc xs (y ∷ []) (ys ++ b ∷ []) ∙ sym (append_assoc xs (y ∷ ys) (b ∷ []))

fed_lowest : (b : Bool) (ys : List Bool) → ys ≢ [] → fed b ys ≡ lowest ys
fed_lowest b [] some = absurd (some refl)
fed_lowest b (y ∷ ys) some = refl

fed_front : (b : Bool) (xs ys : List Bool) → xs ≢ [] → fed b (xs ++ ys) ≡ lowest xs
fed_front b [] ys some = absurd (some refl)
fed_front b (x ∷ xs) ys some = refl

fed_then : (xs ys : List Bool) → fed (lowest ys) xs ≡ lowest (xs ++ ys)
fed_then [] ys = refl
fed_then (x ∷ xs) ys = refl

lowest_front : (xs ys : List Bool) → xs ≢ [] → lowest (xs ++ ys) ≡ lowest xs
lowest_front [] ys some = absurd (some refl)
lowest_front (x ∷ xs) ys some = refl

-- ---- one TAP

side_shows : (state : TapState) (bits : List Bool) → Shifting state → side_tdo_after state bits ≡ lowest bits
side_shows state bits (inl is) = ap (λ s. side_tdo_after s bits) is
side_shows state bits (inr is) = ap (λ s. side_tdo_after s bits) is

side_shifts : (state : TapState) (t : SideTap) (tdi : Bool) → Shifting state → side_shift_after state t tdi ≡ shift_in tdi t.shift
side_shifts state t tdi (inl is) = ap (λ s. side_shift_after s t tdi) is
side_shifts state t tdi (inr is) = ap (λ s. side_shift_after s t tdi) is

chip_shows : (p : Port) → Shifting p.state → tdo_after p.state p.shift ≡ lowest p.shift
chip_shows p (inl is) = ap (λ s. tdo_after s p.shift) is
chip_shows p (inr is) = ap (λ s. tdo_after s p.shift) is

pub chip_shifts : (p : Port) (d : Dtm) (tdi : Bool) → Shifting p.state → (bits : List Bool) → shift_after p.state p.selected d tdi bits ≡ shift_in tdi bits
chip_shifts p d tdi (inl is) bits = ap (λ s. shift_after s p.selected d tdi bits) is
chip_shifts p d tdi (inr is) bits = ap (λ s. shift_after s p.selected d tdi bits) is

pub same_state : (p : Port) (t : SideTap) → StandsAs p t → Shifting p.state → Shifting t.state
same_state p t s (inl is) = inl (s.state ∙ is)
same_state p t s (inr is) = inr (s.state ∙ is)

shift_by : (held tms tdi : Bool) (t : SideTap) → held ≡ false → Shifting t.state
    → (if held then side_falls t else side_risen tms tdi (side_falls t)).shift ≡ shift_in tdi t.shift
shift_by true tms tdi t free shifting = absurd (let no : ⊥ = cc in no)
shift_by false tms tdi t free shifting = side_shifts t.state (side_falls t) tdi shifting

-- a rise behind a fall
pub risen_shift : (tms tdi : Bool) (t : SideTap) → t.held ≡ false → Shifting t.state → (side_rises tms tdi (side_falls t)).shift ≡ shift_in tdi t.shift
risen_shift tms tdi t free shifting = shift_by t.held tms tdi t free shifting

-- ---- several

pub outgoing_fed : (tdi : Bool) (p : Port) (ts : List SideTap) → Shifting p.state → Each (StandsAs p) ts → Each HasBits ts
    → outgoing tdi (map side_falls ts) ≡ fed tdi (joined_shifts ts)
outgoing_fed tdi p [] shifting one bits = refl
outgoing_fed tdi p (t ∷ ts) shifting one bits =
    side_shows t.state t.shift (same_state p t one.0 shifting) ∙ sym (fed_front tdi t.shift (joined_shifts ts) bits.0)

pub sides_shift : (tms tdi : Bool) (p : Port) (ts : List SideTap) → Shifting p.state → p.held ≡ false → Each (StandsAs p) ts → Each HasBits ts
    → joined_shifts (sides_rise tms tdi (map side_falls ts)) ≡ shift_in tdi (joined_shifts ts)
sides_shift tms tdi p [] shifting free one bits = refl
sides_shift tms tdi p (t ∷ ts) shifting free one bits =
    let into : Bool = outgoing tdi (map side_falls ts) in
    let first : (side_rises tms into (side_falls t)).shift ≡ shift_in into t.shift =
    risen_shift tms into t (one.0.held ∙ free) (same_state p t one.0 shifting) in
    ap (λ xs. xs ++ joined_shifts (sides_rise tms tdi (map side_falls ts))) first
    ∙ ap (λ ys. shift_in into t.shift ++ ys) (sides_shift tms tdi p ts shifting free one.1 bits.1)
    ∙ ap (λ b. shift_in b t.shift ++ shift_in tdi (joined_shifts ts)) (outgoing_fed tdi p ts shifting one.1 bits.1)
    ∙ shift_two tdi t.shift (joined_shifts ts)

-- ---- the whole

pub port_shift : (held tms tdi : Bool) (d : Dtm) (p : Port) → held ≡ false
    → (if held then p else risen tms tdi d p).shift ≡ shift_after p.state p.selected d tdi p.shift
port_shift true tms tdi d p is = absurd (let no : ⊥ = cc in no)
port_shift false tms tdi d p is = refl

pub registers_shift_as_one : RegistersShiftAsOne
registers_shift_as_one c tms tdi s =
    let p : Port = c.chip.port in
    let near : List Bool = joined_shifts c.near in
    let far : List Bool = joined_shifts c.far in
    let behind : List Bool = p.shift ++ far in
    let d : Dtm = (chain_falls c).chip.inside.works.dtm in
    let out : Bool = tdo_after p.state p.shift in
    let into : Bool = outgoing tdi (map side_falls c.far) in
    let shows : out ≡ lowest p.shift = chip_shows p s.shifting in
    let fed_is : into ≡ fed tdi far = outgoing_fed tdi p c.far s.shifting s.together.far s.far in
    let chip_is : (port_risen tms into d (port_fallen p)).shift ≡ shift_in (fed tdi far) p.shift =
    port_shift p.held tms into d (port_fallen p) s.free ∙ chip_shifts (port_fallen p) d into s.shifting p.shift ∙ ap (λ b. shift_in b p.shift) fed_is in
    let far_is : joined_shifts (sides_rise tms tdi (map side_falls c.far)) ≡ shift_in tdi far =
    sides_shift tms tdi p c.far s.shifting s.free s.together.far s.far in
    let near_is : joined_shifts (sides_rise tms out (map side_falls c.near)) ≡ shift_in (fed tdi behind) near =
    sides_shift tms out p c.near s.shifting s.free s.together.near s.near
    ∙ ap (λ b. shift_in b near) (shows ∙ sym (fed_front tdi p.shift far s.chip)) in
    record {
      tdo = outgoing_fed out p c.near s.shifting s.together.near s.near ∙ ap (λ b. fed b near) (shows ∙ sym (lowest_front p.shift far s.chip))
          ∙ fed_then near behind;
      shifted =
          ap (λ xs. joined_shifts (sides_rise tms out (map side_falls c.near)) ++ (xs ++ joined_shifts (sides_rise tms tdi (map side_falls c.far)))) chip_is
          ∙ ap (λ ys. joined_shifts (sides_rise tms out (map side_falls c.near)) ++ (shift_in (fed tdi far) p.shift ++ ys)) far_is
          ∙ ap (λ zs. joined_shifts (sides_rise tms out (map side_falls c.near)) ++ zs) (shift_two tdi p.shift far)
          ∙ ap (λ xs. xs ++ shift_in tdi behind) near_is
          ∙ shift_two tdi near behind;
    }
