-- What single clocks do to the devices beside the chip: a capture, and the update of an instruction.
use Rattle.std.proofs.Common.{◌≡◌, ◌∙◌, List, [], ◌∷◌, map, Bool, true, false, refl, sym, subst}
use Rattle.debug_model.specs.Port.{Port}
use Rattle.debug_model.specs.declared.tap_state.TapState.{TapState}
use Rattle.debug_model.specs.declared.tap_state.TapState.TheVariants.{CaptureDr, CaptureIr, Exit1Ir}
use Rattle.chain_scan.specs.Bypassed.{Bypasses}
use Rattle.chain_scan.specs.Chain.{outgoing, sides_rise}
use Rattle.chain_scan.specs.ChainLaws.{Each, StandsAs}
use Rattle.chain_scan.specs.Passing.{IsBypassed}
use Rattle.chain_scan.specs.SideTap.{SideTap, captured_instruction, side_falls, side_rises}

side_is : (t : SideTap) (s : TapState) (b h : Bool) → t.state ≡ s → t.identifies ≡ b → t.held ≡ h
    → t ≡ record { width = t.width; state = s; identifies = b; shift = t.shift; tdo = t.tdo; held = h }
side_is t s b h e f g = by t.state t.identifies t.held e f g
  where
    by : (s' : TapState) (b' h' : Bool) → s' ≡ s → b' ≡ b → h' ≡ h → record t { state = s'; identifies = b'; held = h' }
        ≡ record { width = t.width; state = s; identifies = b; shift = t.shift; tdo = t.tdo; held = h }
    by s' b' h' e f g = cc

-- ---- a capture

one_captured : (tdi : Bool) (t : SideTap) → t.state ≡ CaptureDr → t.held ≡ false → Bypasses t → IsBypassed (side_rises false tdi (side_falls t))
one_captured tdi t is free b =
    subst (λ u. IsBypassed (side_rises false tdi (side_falls u))) (sym (side_is t CaptureDr false false is b.selected free)) (record { bit = refl })

pub captured_pads : (tdi : Bool) (p : Port) (ts : List SideTap) → p.state ≡ CaptureDr → p.held ≡ false → Each (StandsAs p) ts → Each Bypasses ts
    → Each IsBypassed (sides_rise false tdi (map side_falls ts))
captured_pads tdi p [] is free one all = tt
captured_pads tdi p (t ∷ ts) is free one all = (
  one_captured (outgoing tdi (map side_falls ts)) t (one.0.state ∙ is) (one.0.held ∙ free) all.0,
  captured_pads tdi p ts is free one.1 all.1,
)

-- the instruction register behind its capture
pub record IsCapturedCode (t : SideTap) : Type 0 where
  pub is : t.shift ≡ captured_instruction t.width

one_code : (tdi : Bool) (t : SideTap) → t.state ≡ CaptureIr → t.held ≡ false → IsCapturedCode (side_rises false tdi (side_falls t))
one_code tdi t is free =
    subst (λ u. IsCapturedCode (side_rises false tdi (side_falls u))) (sym (side_is t CaptureIr t.identifies false is refl free)) (record { is = refl })

pub captured_codes : (tdi : Bool) (p : Port) (ts : List SideTap) → p.state ≡ CaptureIr → p.held ≡ false → Each (StandsAs p) ts
    → Each IsCapturedCode (sides_rise false tdi (map side_falls ts))
captured_codes tdi p [] is free one = tt
captured_codes tdi p (t ∷ ts) is free one =
    (one_code (outgoing tdi (map side_falls ts)) t (one.0.state ∙ is) (one.0.held ∙ free), captured_codes tdi p ts is free one.1)

-- ---- from Exit1-IR over Update-IR to Run-Test/Idle

one_updated : (x y : Bool) (t : SideTap) → t.state ≡ Exit1Ir → t.held ≡ false
    → Bypasses (side_rises false y (side_falls (side_rises true x (side_falls t))))
one_updated x y t is free =
    subst (λ u. Bypasses (side_rises false y (side_falls (side_rises true x (side_falls u)))))
    (sym (side_is t Exit1Ir t.identifies false is refl free)) (record { selected = refl })

pub updated_codes : (x y : Bool) (p : Port) (ts : List SideTap) → p.state ≡ Exit1Ir → p.held ≡ false → Each (StandsAs p) ts
    → Each Bypasses (sides_rise false y (map side_falls (sides_rise true x (map side_falls ts))))
updated_codes x y p [] is free one = tt
updated_codes x y p (t ∷ ts) is free one = (
  one_updated (outgoing x (map side_falls ts)) (outgoing y (map side_falls (sides_rise true x (map side_falls ts)))) t (one.0.state ∙ is)
      (one.0.held ∙ free),
  updated_codes x y p ts is free one.1,
)
