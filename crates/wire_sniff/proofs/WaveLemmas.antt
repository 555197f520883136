-- The levels of a moment, by what the code keeps of it.
use Rattle.std.proofs.Common.{◌≡◌, ◌∙◌, ℕ, List, ◌++◌, Option, None, refl, sym, ap, subst, append-nil}
use Rattle.std.specs.List.{flat_map}
use Rattle.debug_model.specs.declared.sign.Sign.{Sign}
use Rattle.debug_model.specs.Signs.{sign_of}
use Rattle.wire_sniff.specs.Sniffed.{sign_lines}
use Rattle.wire_sniff.specs.State.{IsMoment}
use Rattle.wire_sniff.specs.Waves.{Moment as Definition, levels, line_change, moment_after, sign_wave, time_line, wire_levels}
use Rattle.wire_sniff.specs.declared.moment.Moment.{Moment}

pub same_levels : (answers : List ℕ) (moment : Moment) (m : Definition) → IsMoment answers moment m
    → wire_levels moment.sniffer.tck moment.tms moment.tdi moment.sniffer.is_held moment.sniffer.answer moment.sniffer.state ≡ levels m
same_levels answers moment m is = rw (is.sniffer.tck, is.tms, is.tdi, is.sniffer.held, is.sniffer.answer, is.sniffer.state) refl

-- what a sign shows, in the two pieces that are put
pub sign_wave-parts : (time : ℕ) (sign : Option Sign) (m : Definition)
    → sign_wave time sign m ≡ (time_line time ++ levels (moment_after sign m)) ++ flat_map line_change (sign_lines sign m.sniffer)
unfolding sign_wave
sign_wave-parts time sign m = refl

pub no_sign_wave : (time byte : ℕ) (m : Definition) → sign_of byte ≡ None → sign_wave time (sign_of byte) m ≡ time_line time ++ levels m
no_sign_wave time byte m none =
    ap (λ sign. sign_wave time sign m) none ∙ sign_wave-parts time None m ∙ append-nil (time_line time ++ levels m)

pub no_sign_moment : (answers : List ℕ) (moment : Moment) (byte : ℕ) (m : Definition) → sign_of byte ≡ None → IsMoment answers moment m
    → IsMoment answers moment (moment_after (sign_of byte) m)
no_sign_moment answers moment byte m none is =
    subst (λ sign. IsMoment answers moment (moment_after sign m)) (sym none) (record { tms = is.tms; tdi = is.tdi; sniffer = is.sniffer })
