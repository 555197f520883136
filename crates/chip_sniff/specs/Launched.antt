-- The operations of the debug module interface that a chip's transport puts in flight while it takes bytes.
-- RISC-V Debug Specification 1.0, "Debug Module Interface Access"; IEEE 1149.1 for the fall in Update-DR, which updates the selected register.
use Rattle.std.specs.Prelude.{ℕ, List, [], ◌∷◌, ◌++◌, Bool, true, false, Option, Some, None}
use Rattle.debug_model.specs.declared.data_register.DataRegister.{DataRegister}
use Rattle.debug_model.specs.declared.dmi_op.DmiOp.{DmiOp}
use Rattle.debug_model.specs.declared.sign.Sign.{Sign}
use Rattle.debug_model.specs.declared.sign.Sign.TheVariants.{Pins, Ask, Light, Reset, Quit}
use Rattle.debug_model.specs.declared.tap_state.TapState.{TapState}
use Rattle.debug_model.specs.declared.tap_state.TapState.TheVariants.{UpdateDr}
use Rattle.debug_model.specs.Chip.{Chip, Live, after, end_of, unless_ended}
use Rattle.debug_model.specs.Course.{Happening, in_update}
use Rattle.debug_model.specs.Course.Happening.{Launched, Performed, Lost}
use Rattle.debug_model.specs.Signs.{sign_of}
use Rattle.debug_model.specs.Transport.{Dtm}

-- those among what happens to operations
abbrev pub put_in_flight : List Happening → List DmiOp
put_in_flight [] = []
put_in_flight (Launched op ∷ hs) = op ∷ put_in_flight hs
put_in_flight (Performed op result ∷ hs) = put_in_flight hs
put_in_flight (Lost op ∷ hs) = put_in_flight hs

-- a fall in Update-DR updates the selected register with what was shifted
abbrev pub updated_at : TapState → DataRegister → List Bool → Dtm → List Happening
updated_at UpdateDr r bits d = in_update r bits d
updated_at _ r bits d = []

abbrev pub at_edge : Bool → Bool → Chip → List Happening
at_edge true false c = updated_at c.port.state c.port.selected c.port.shift c.inside.works.dtm
at_edge true true c = []
at_edge false tck c = []

abbrev pub at_sign : Option Sign → Chip → List Happening
at_sign (Some (Pins tck tms tdi)) c = at_edge c.tck tck c
at_sign (Some Ask) c = []
at_sign (Some Light) c = []
at_sign (Some (Reset trst)) c = []
at_sign (Some Quit) c = []
at_sign None c = []

-- a byte that ends the chip, and each behind it, does nothing else
abbrev pub launched_by_byte : Live → ℕ → List DmiOp
launched_by_byte l b = unless_ended l.ended (unless_ended (end_of b (sign_of b) l.chip) (put_in_flight (at_sign (sign_of b) l.chip)) []) []

-- in their order
unfoldable pub launched : Live → List ℕ → List DmiOp
launched l [] = []
launched l (b ∷ bs) = launched_by_byte l b ++ launched (after l b) bs
