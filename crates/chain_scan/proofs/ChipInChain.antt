-- The chip of a chain is the chip alone with another TDI.
use Rattle.std.proofs.Common.{◌≡◌, ◌∙◌, ℕ, [], ◌∷◌, Bool, true, false, Option, Some, None, refl, sym, ap}
use Rattle.debug_model.specs.declared.sign.Sign.{Sign}
use Rattle.debug_model.specs.declared.sign.Sign.TheVariants.{Pins, Ask, Light, Reset, Quit}
use Rattle.debug_model.specs.Chip.{pins, run, signed}
use Rattle.debug_model.specs.Signs.{sign_of}
use Rattle.chain_scan.specs.Chain.{Chain, chain_pins, chain_signed, outgoing, run_chain}
use Rattle.chain_scan.specs.ChipInChain.{ChipSeesAnotherTdi, levels_byte, seen_byte, seen_bytes}

pub levels_sign : (tck tms tdi : Bool) → sign_of (levels_byte tck tms tdi) ≡ Some (Pins tck tms tdi)
levels_sign false false false = refl
levels_sign false false true = refl
levels_sign false true false = refl
levels_sign false true true = refl
levels_sign true false false = refl
levels_sign true false true = refl
levels_sign true true false = refl
levels_sign true true true = refl

pinned : (was is tms tdi : Bool) (c : Chain) → (chain_pins was is tms tdi c).chip ≡ pins was is tms (outgoing tdi c.far) c.chip
pinned false true tms tdi c = refl
pinned true false tms tdi c = refl
pinned false false tms tdi c = refl
pinned true true tms tdi c = refl

sees : (s : Option Sign) (b : ℕ) (c : Chain) → sign_of b ≡ s → (chain_signed s c).chip ≡ signed (sign_of (seen_byte s b c)) c.chip
sees (Some (Pins tck tms tdi)) b c is =
    pinned c.chip.tck tck tms tdi c ∙ ap (λ z. signed z c.chip) (sym (levels_sign tck tms (outgoing tdi c.far)))
sees (Some Ask) b c is = ap (λ z. signed z c.chip) (sym is)
sees (Some Light) b c is = ap (λ z. signed z c.chip) (sym is)
sees (Some (Reset trst)) b c is = ap (λ z. signed z c.chip) (sym is)
sees (Some Quit) b c is = ap (λ z. signed z c.chip) (sym is)
sees None b c is = ap (λ z. signed z c.chip) (sym is)

pub chip_sees_another_tdi : ChipSeesAnotherTdi
unfolding run run_chain
chip_sees_another_tdi c [] = refl
chip_sees_another_tdi c (b ∷ bs) =
    chip_sees_another_tdi (chain_signed (sign_of b) c) bs
    ∙ ap (λ d. run d (seen_bytes (chain_signed (sign_of b) c) bs)) (sees (sign_of b) b c refl)
