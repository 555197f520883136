-- All TAPs of a chain stand in one state, whatever bytes come.
use Rattle.std.proofs.Common.{List, [], ◌∷◌, map, Bool, true, false, Option, Some, None, refl, sym, ap, subst, if◌then◌else◌}
use Rattle.debug_model.specs.declared.sign.Sign.{Sign}
use Rattle.debug_model.specs.declared.sign.Sign.TheVariants.{Pins, Ask, Light, Reset, Quit}
use Rattle.debug_model.specs.Port.{Port, port_fallen, port_held, port_risen, risen}
use Rattle.debug_model.specs.Signs.{sign_of}
use Rattle.debug_model.specs.Tap.{next_state}
use Rattle.debug_model.specs.Transport.{Dtm}
use Rattle.chain_scan.specs.Chain.{Chain, chain_falls, chain_held, chain_pins, chain_rises, chain_signed, outgoing, run_chain, sides_rise}
use Rattle.chain_scan.specs.ChainLaws.{Each, InOneState, StandsAs, TapsStayInOneState}
use Rattle.chain_scan.specs.SideTap.{SideTap, side_falls, side_holds, side_risen, side_rises}

-- ---- one TAP beside the chip's

risen_by : (held : Bool) (tms into tdi : Bool) (d : Dtm) (p : Port) (t : SideTap) → StandsAs p t
    → StandsAs (if held then p else risen tms into d p) (if held then t else side_risen tms tdi t)
risen_by true tms into tdi d p t s = s
risen_by false tms into tdi d p t s = record { state = ap (λ z. next_state z tms) s.state; held = s.held }

stands_risen : (tms into tdi : Bool) (d : Dtm) (p : Port) (t : SideTap) → StandsAs p t → StandsAs (port_risen tms into d p) (side_rises tms tdi t)
stands_risen tms into tdi d p t s =
    subst (λ held. StandsAs (port_risen tms into d p) (if held then t else side_risen tms tdi t)) (sym s.held) (risen_by p.held tms into tdi d p t s)

stands_held : (on : Bool) (p : Port) (t : SideTap) → StandsAs p t → StandsAs (port_held on p) (side_holds on t)
stands_held true p t s = record { state = refl; held = refl }
stands_held false p t s = record { state = s.state; held = refl }

-- ---- and several

each_risen : (tms into tdi : Bool) (d : Dtm) (p : Port) (ts : List SideTap) → Each (StandsAs p) ts
    → Each (StandsAs (port_risen tms into d p)) (sides_rise tms tdi ts)
each_risen tms into tdi d p [] all = tt
each_risen tms into tdi d p (t ∷ ts) all = (stands_risen tms into (outgoing tdi ts) d p t all.0, each_risen tms into tdi d p ts all.1)

pub each_fallen : (p : Port) (ts : List SideTap) → Each (StandsAs p) ts → Each (StandsAs (port_fallen p)) (map side_falls ts)
each_fallen p [] all = tt
each_fallen p (t ∷ ts) all = (record { state = all.0.state; held = all.0.held }, each_fallen p ts all.1)

each_held : (on : Bool) (p : Port) (ts : List SideTap) → Each (StandsAs p) ts → Each (StandsAs (port_held on p)) (map (side_holds on) ts)
each_held on p [] all = tt
each_held on p (t ∷ ts) all = (stands_held on p t all.0, each_held on p ts all.1)

-- ---- one byte

pub rises_together : (tms tdi : Bool) (c : Chain) → InOneState c → InOneState (chain_rises tms tdi c)
rises_together tms tdi c one =
    let into : Bool = outgoing tdi c.far in
    let d : Dtm = c.chip.inside.works.dtm in
    record { near = each_risen tms into c.chip.port.tdo d c.chip.port c.near one.near; far = each_risen tms into tdi d c.chip.port c.far one.far }

pub falls_together : (c : Chain) → InOneState c → InOneState (chain_falls c)
falls_together c one = record { near = each_fallen c.chip.port c.near one.near; far = each_fallen c.chip.port c.far one.far }

held_together : (on : Bool) (c : Chain) → InOneState c → InOneState (chain_held on c)
held_together on c one = record { near = each_held on c.chip.port c.near one.near; far = each_held on c.chip.port c.far one.far }

pins_together : (was is tms tdi : Bool) (c : Chain) → InOneState c → InOneState (chain_pins was is tms tdi c)
pins_together false true tms tdi c one = rises_together tms tdi c one
pins_together true false tms tdi c one = falls_together c one
pins_together false false tms tdi c one = one
pins_together true true tms tdi c one = one

signed_together : (s : Option Sign) (c : Chain) → InOneState c → InOneState (chain_signed s c)
signed_together (Some (Pins tck tms tdi)) c one = pins_together c.chip.tck tck tms tdi c one
signed_together (Some Ask) c one = one
signed_together (Some Light) c one = one
signed_together (Some (Reset on)) c one = held_together on c one
signed_together (Some Quit) c one = one
signed_together None c one = one

pub taps_stay_in_one_state : TapsStayInOneState
unfolding run_chain
taps_stay_in_one_state c [] one = one
taps_stay_in_one_state c (b ∷ bs) one = taps_stay_in_one_state (chain_signed (sign_of b) c) bs (signed_together (sign_of b) c one)
