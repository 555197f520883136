-- A scan through a chain, clock by clock.
use Rattle.std.proofs.Common.{◌≡◌, ◌≢◌, ◌∙◌, ◌+◌, ◌≤◌, suc, List, [], ◌∷◌, ◌++◌, inl, inr, length, take, drop, map, Bool, true, false, refl, sym, ap}
use Rattle.std.proofs.Common.{subst, append_assoc, append-nil, if◌then◌else◌, arith}
use Rattle.std.proofs.lemmas.List.{drop-append-le, length-append, take-append-le}
use Rattle.jt_base.specs.BitList.{lowest, shift_in}
use Rattle.debug_model.specs.declared.tap_state.TapState.{TapState}
use Rattle.debug_model.specs.Port.{Port, port_fallen, risen}
use Rattle.debug_model.specs.Tap.{next_state}
use Rattle.debug_model.specs.Transport.{Dtm}
use Rattle.chain_scan.specs.Chain.{Chain, chain_falls, outgoing, sides_rise}
use Rattle.chain_scan.specs.ChainLaws.{Each, HasBits, OneRegister, Shifting, ShiftsAlong, StandsAs, joined_shifts, whole}
use Rattle.chain_scan.specs.Passing.{Exchanged, IsBypassed, PadsGoAround, ScansExchange, pads, passed, shift_clock, taken_out}
use Rattle.chain_scan.specs.SideTap.{SideTap, side_falls}
use Rattle.chain_scan.proofs.OneRegister.{registers_shift_as_one, risen_shift, same_state, chip_shifts, port_shift, sides_shift}
use Rattle.chain_scan.proofs.OneState.{falls_together, rises_together}

-- ---- one register, shifted through

abbrev shifts : List Bool → List Bool → List Bool
shifts w [] = w
shifts w (b ∷ bs) = shifts (shift_in b w) bs

abbrev outs : List Bool → List Bool → List Bool
outs w [] = []
outs w (b ∷ bs) = lowest w ∷ outs (shift_in b w) bs

length_shifted : (b : Bool) (w : List Bool) → length (shift_in b w) ≡ length w
length_shifted b [] = refl
length_shifted b (x ∷ xs) = length-append xs (b ∷ []) ∙ (let e : length xs + 1 ≡ suc (length xs) = omega arith in e)

some_shifted : (b : Bool) (w : List Bool) → w ≢ [] → shift_in b w ≢ []
some_shifted b [] some = absurd (some refl)
some_shifted b (x ∷ []) some = λ e. let no : ⊥ = cc in no
some_shifted b (x ∷ (y ∷ ys)) some = λ e. let no : ⊥ = cc in no

-- as long as bits are left
shifts_are : (w bs : List Bool) → length bs ≤ length w → shifts w bs ≡ drop (length bs) w ++ bs
shifts_are w [] few = sym (append-nil w)
shifts_are [] (b ∷ bs) few = absurd (omega (arith, few))
shifts_are (x ∷ xs) (b ∷ bs) few =
    shifts_are (xs ++ b ∷ []) bs (omega (arith, few, length-append xs (b ∷ [])))
    ∙ ap (λ ys. ys ++ bs) (drop-append-le (length bs) xs (b ∷ []) (omega (arith, few)))
    ∙ append_assoc (drop (length bs) xs) (b ∷ []) bs

outs_are : (w bs : List Bool) → length bs ≤ length w → outs w bs ≡ take (length bs) w
outs_are w [] few = refl
outs_are [] (b ∷ bs) few = absurd (omega (arith, few))
outs_are (x ∷ xs) (b ∷ bs) few =
    ap (λ ys. x ∷ ys) (outs_are (xs ++ b ∷ []) bs (omega (arith, few, length-append xs (b ∷ [])))
    ∙ take-append-le (length bs) xs (b ∷ []) (omega (arith, few)))

drop_all : (w bs : List Bool) → length bs ≡ length w → drop (length bs) w ≡ []
drop_all [] [] same = refl
drop_all [] (b ∷ bs) same = refl
drop_all (x ∷ xs) [] same = absurd (omega (arith, same))
drop_all (x ∷ xs) (b ∷ bs) same = drop_all xs bs (omega (arith, same))

take_all : (w bs : List Bool) → length bs ≡ length w → take (length bs) w ≡ w
take_all [] [] same = refl
take_all [] (b ∷ bs) same = refl
take_all (x ∷ xs) [] same = absurd (omega (arith, same))
take_all (x ∷ xs) (b ∷ bs) same = ap (λ ys. x ∷ ys) (take_all xs bs (omega (arith, same)))

-- ---- a clock leaves the chain shifting

stays : (state : TapState) → Shifting state → next_state state false ≡ state
stays state (inl is) = ap (λ s. next_state s false) is ∙ sym is
stays state (inr is) = ap (λ s. next_state s false) is ∙ sym is

stays_by : (held into : Bool) (d : Dtm) (p : Port) → Shifting p.state → (if held then p else risen false into d p).state ≡ p.state
stays_by true into d p shifting = refl
stays_by false into d p shifting = stays p.state shifting

held_by : (held into : Bool) (d : Dtm) (p : Port) → (if held then p else risen false into d p).held ≡ p.held
held_by true into d p = refl
held_by false into d p = refl

each_bits : (tdi : Bool) (p : Port) (ts : List SideTap) → Shifting p.state → p.held ≡ false → Each (StandsAs p) ts → Each HasBits ts
    → Each HasBits (sides_rise false tdi (map side_falls ts))
each_bits tdi p [] shifting free one bits = tt
each_bits tdi p (t ∷ ts) shifting free one bits =
    let into : Bool = outgoing tdi (map side_falls ts) in (
      subst (λ xs. xs ≢ []) (sym (risen_shift false into t (one.0.held ∙ free) (same_state p t one.0 shifting))) (some_shifted into t.shift bits.0),
      each_bits tdi p ts shifting free one.1 bits.1,
    )

chip_shifted : (tdi : Bool) (c : Chain) → ShiftsAlong c
    → (shift_clock tdi c).chip.port.shift ≡ shift_in (outgoing tdi (map side_falls c.far)) c.chip.port.shift
chip_shifted tdi c s =
    let p : Port = c.chip.port in
    let into : Bool = outgoing tdi (map side_falls c.far) in
    let d : Dtm = (chain_falls c).chip.inside.works.dtm in
    port_shift p.held false into d (port_fallen p) s.free ∙ chip_shifts (port_fallen p) d into s.shifting p.shift

shifts_on : (tdi : Bool) (c : Chain) → ShiftsAlong c → ShiftsAlong (shift_clock tdi c)
shifts_on tdi c s =
    let p : Port = c.chip.port in
    let into : Bool = outgoing tdi (map side_falls c.far) in
    let d : Dtm = (chain_falls c).chip.inside.works.dtm in
    record {
      together = rises_together false tdi (chain_falls c) (falls_together c s.together);
      shifting = subst Shifting (sym (stays_by p.held into d (port_fallen p) s.shifting)) s.shifting;
      free = held_by p.held into d (port_fallen p) ∙ s.free;
      near = each_bits (port_fallen p).tdo p c.near s.shifting s.free s.together.near s.near;
      chip = subst (λ xs. xs ≢ []) (sym (chip_shifted tdi c s)) (some_shifted into p.shift s.chip);
      far = each_bits tdi p c.far s.shifting s.free s.together.far s.far;
    }

-- ---- all clocks

whole_passed : (c : Chain) (given : List Bool) → ShiftsAlong c → whole (passed c given) ≡ shifts (whole c) given
whole_passed c [] s = refl
whole_passed c (b ∷ bs) s =
    whole_passed (shift_clock b c) bs (shifts_on b c s) ∙ ap (λ w. shifts w bs) (registers_shift_as_one c false b s).shifted

outs_taken : (c : Chain) (given : List Bool) → ShiftsAlong c → taken_out c given ≡ outs (whole c) given
outs_taken c [] s = refl
outs_taken c (b ∷ bs) s =
    let one : OneRegister c false b = registers_shift_as_one c false b s in
    ap (λ x. x ∷ taken_out (shift_clock b c) bs) one.tdo
    ∙ ap (λ xs. lowest (whole c) ∷ xs) (outs_taken (shift_clock b c) bs (shifts_on b c s) ∙ ap (λ w. outs w bs) one.shifted)

pub scans_exchange : ScansExchange
scans_exchange c given s same =
    let few : length given ≤ length (whole c) = omega (arith, same) in
    record {
      out = outs_taken c given s ∙ outs_are (whole c) given few ∙ take_all (whole c) given same;
      within = whole_passed c given s ∙ shifts_are (whole c) given few ∙ ap (λ xs. xs ++ given) (drop_all (whole c) given same);
    }

-- ---- each register keeps its length

pub near_length : (c : Chain) (given : List Bool) → ShiftsAlong c → length (joined_shifts (passed c given).near) ≡ length (joined_shifts c.near)
near_length c [] s = refl
near_length c (b ∷ bs) s =
    let p : Port = c.chip.port in
    near_length (shift_clock b c) bs (shifts_on b c s)
    ∙ ap length (sides_shift false (port_fallen p).tdo p c.near s.shifting s.free s.together.near s.near)
    ∙ length_shifted (port_fallen p).tdo (joined_shifts c.near)

pub chip_length : (c : Chain) (given : List Bool) → ShiftsAlong c → length (passed c given).chip.port.shift ≡ length c.chip.port.shift
chip_length c [] s = refl
chip_length c (b ∷ bs) s =
    chip_length (shift_clock b c) bs (shifts_on b c s) ∙ ap length (chip_shifted b c s)
    ∙ length_shifted (outgoing b (map side_falls c.far)) c.chip.port.shift

-- what stands behind a front of the same length, and the front itself
pub same_front : (xs ys us vs : List Bool) → length xs ≡ length us → xs ++ ys ≡ us ++ vs → xs ≡ us
same_front [] ys [] vs same is = refl
same_front [] ys (u ∷ us) vs same is = absurd (omega (arith, same))
same_front (x ∷ xs) ys [] vs same is = absurd (omega (arith, same))
same_front (x ∷ xs) ys (u ∷ us) vs same is =
    let first : x ≡ u = cc in
    let rest : xs ++ ys ≡ us ++ vs = cc in
    ap (λ z. z ∷ xs) first ∙ ap (λ zs. u ∷ zs) (same_front xs ys us vs (omega (arith, same)) rest)

pub same_back : (xs ys us vs : List Bool) → length xs ≡ length us → xs ++ ys ≡ us ++ vs → ys ≡ vs
same_back [] ys [] vs same is = is
same_back [] ys (u ∷ us) vs same is = absurd (omega (arith, same))
same_back (x ∷ xs) ys [] vs same is = absurd (omega (arith, same))
same_back (x ∷ xs) ys (u ∷ us) vs same is = same_back xs ys us vs (omega (arith, same)) (let rest : xs ++ ys ≡ us ++ vs = cc in rest)

-- ---- around devices in BYPASS

bypassed : (ts : List SideTap) → Each IsBypassed ts → joined_shifts ts ≡ pads ts
bypassed [] all = refl
bypassed (t ∷ ts) all = ap (λ xs. xs ++ joined_shifts ts) all.0.bit ∙ ap (λ xs. false ∷ xs) (bypassed ts all.1)

pub pads_go_around : PadsGoAround
pads_go_around c bits s near far same =
    let given : List Bool = pads c.near ++ (bits ++ pads c.far) in
    let near_is : joined_shifts c.near ≡ pads c.near = bypassed c.near near in
    let far_is : joined_shifts c.far ≡ pads c.far = bypassed c.far far in
    let whole_is : whole c ≡ pads c.near ++ (c.chip.port.shift ++ pads c.far) =
    ap (λ xs. xs ++ (c.chip.port.shift ++ joined_shifts c.far)) near_is ∙ ap (λ ys. pads c.near ++ (c.chip.port.shift ++ ys)) far_is in
    let as_long : length given ≡ length (whole c) =
    length-append (pads c.near) (bits ++ pads c.far)
    ∙ ap (λ n. length (pads c.near) + n) (length-append bits (pads c.far) ∙ ap (λ n. n + length (pads c.far)) same
    ∙ sym (length-append c.chip.port.shift (pads c.far)))
    ∙ sym (length-append (pads c.near) (c.chip.port.shift ++ pads c.far)) ∙ ap length (sym whole_is) in
    let e : Exchanged c given = scans_exchange c given s as_long in
    let d : Chain = passed c given in
    let behind : d.chip.port.shift ++ joined_shifts d.far ≡ bits ++ pads c.far =
    same_back (joined_shifts d.near) (d.chip.port.shift ++ joined_shifts d.far) (pads c.near) (bits ++ pads c.far)
    (near_length c given s ∙ ap length near_is) e.within in
    record {
      out = e.out ∙ whole_is;
      chip = same_front d.chip.port.shift (joined_shifts d.far) bits (pads c.far) (chip_length c given s ∙ sym same) behind;
    }
