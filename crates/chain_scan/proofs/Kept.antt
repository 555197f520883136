-- What a chain keeps under any bytes, the lengths of its instruction registers, and BYPASS in the others while no clock leads to Test-Logic-Reset.
use Rattle.std.proofs.Common.{◌≡◌, ◌≢◌, ◌∙◌, ℕ, List, [], ◌∷◌, ◌++◌, map, Bool, true, false, Option, Some, None, IfSome, refl, sym, ap, subst}
use Rattle.std.proofs.Common.{if◌then◌else◌, option_map}
use Rattle.debug_model.specs.Chip.{Inside}
use Rattle.debug_model.specs.Port.{Port}
use Rattle.debug_model.specs.Scan.{path}
use Rattle.debug_model.specs.Signs.{sign_of}
use Rattle.debug_model.specs.Tap.{next_state}
use Rattle.debug_model.specs.declared.data_register.DataRegister.{DataRegister}
use Rattle.debug_model.specs.declared.sign.Sign.{Sign}
use Rattle.debug_model.specs.declared.sign.Sign.TheVariants.{Pins, Ask, Light, Reset, Quit}
use Rattle.debug_model.specs.declared.tap_state.TapState.{TapState}
use Rattle.debug_model.specs.declared.tap_state.TapState.TheVariants.{TestLogicReset, UpdateIr}
use Rattle.chain_scan.specs.Bypassed.{AllBypass, Bypasses, IsPlanned, IsPlannedTold, width_of}
use Rattle.chain_scan.specs.Chain.{Chain, chain_falls, chain_held, chain_pins, chain_rises, chain_signed, outgoing, run_chain, sides_rise}
use Rattle.chain_scan.specs.ChainLaws.{Each, InOneState, StandsAs}
use Rattle.chain_scan.specs.ChainPlan.{Plan}
use Rattle.chain_scan.specs.SideTap.{SideTap, identifies_after, identifies_in, side_falls, side_holds, side_risen, side_rises}
use Rattle.chain_scan.specs.Told.{ChainFar, ChainReadsFront, ChainReadsSome, ChainSentFront, chain_sent}
use Rattle.chain_scan.proofs.ChainEnds.{TookFront, took_front}
use Rattle.chain_scan.proofs.Clocks.{chain_at, chain_with, clock_runs, low_first}
use Rattle.chain_scan.proofs.OneState.{falls_together, rises_together, taps_stay_in_one_state}

-- ---- lengths

widths : List SideTap → List ℕ
widths ts = map width_of ts

risen_width : (held tms tdi : Bool) (t : SideTap) → (if held then t else side_risen tms tdi t).width ≡ t.width
risen_width true tms tdi t = refl
risen_width false tms tdi t = refl

held_width : (on : Bool) (t : SideTap) → (side_holds on t).width ≡ t.width
held_width true t = refl
held_width false t = refl

pub rise_widths : (tms tdi : Bool) (ts : List SideTap) → map width_of (sides_rise tms tdi ts) ≡ map width_of ts
rise_widths tms tdi [] = refl
rise_widths tms tdi (t ∷ ts) =
    ap (λ w. w ∷ map width_of (sides_rise tms tdi ts)) (risen_width t.held tms (outgoing tdi ts) t)
    ∙ ap (λ ws. t.width ∷ ws) (rise_widths tms tdi ts)

pub fall_widths : (ts : List SideTap) → map width_of (map side_falls ts) ≡ map width_of ts
fall_widths [] = refl
fall_widths (t ∷ ts) = ap (λ ws. t.width ∷ ws) (fall_widths ts)

hold_widths : (on : Bool) (ts : List SideTap) → map width_of (map (side_holds on) ts) ≡ map width_of ts
hold_widths on [] = refl
hold_widths on (t ∷ ts) = ap (λ w. w ∷ map width_of (map (side_holds on) ts)) (held_width on t) ∙ ap (λ ws. t.width ∷ ws) (hold_widths on ts)

pub record SameWidths (c d : Chain) : Type 0 where
  pub near : map width_of d.near ≡ map width_of c.near
  pub far : map width_of d.far ≡ map width_of c.far

same_pins : (was is tms tdi : Bool) (c : Chain) → SameWidths c (chain_pins was is tms tdi c)
same_pins false true tms tdi c = record { near = rise_widths tms c.chip.port.tdo c.near; far = rise_widths tms tdi c.far }
same_pins true false tms tdi c = record { near = fall_widths c.near; far = fall_widths c.far }
same_pins false false tms tdi c = record { near = refl; far = refl }
same_pins true true tms tdi c = record { near = refl; far = refl }

same_signed : (s : Option Sign) (c : Chain) → SameWidths c (chain_signed s c)
same_signed (Some (Pins tck tms tdi)) c = same_pins c.chip.tck tck tms tdi c
same_signed (Some Ask) c = record { near = refl; far = refl }
same_signed (Some Light) c = record { near = refl; far = refl }
same_signed (Some (Reset on)) c = record { near = hold_widths on c.near; far = hold_widths on c.far }
same_signed (Some Quit) c = record { near = refl; far = refl }
same_signed None c = record { near = refl; far = refl }

pub same_widths : (bytes : List ℕ) (c : Chain) → SameWidths c (run_chain c bytes)
unfolding run_chain
same_widths [] c = record { near = refl; far = refl }
same_widths (b ∷ bs) c =
    let first : SameWidths c (chain_signed (sign_of b) c) = same_signed (sign_of b) c in
    let more : SameWidths (chain_signed (sign_of b) c) (run_chain (chain_signed (sign_of b) c) bs) = same_widths bs (chain_signed (sign_of b) c) in
    record { near = more.near ∙ first.near; far = more.far ∙ first.far }

-- ---- a plan fits whatever bytes come

pub planned_run : (plan : Plan) (bytes : List ℕ) (c : Chain) → IsPlanned plan c → IsPlanned plan (run_chain c bytes)
planned_run plan bytes c p =
    let same : SameWidths c (run_chain c bytes) = same_widths bytes c in
    record { near = same.near ∙ p.near; far = same.far ∙ p.far; together = taps_stay_in_one_state c bytes p.together }

planned_fed : (plan : Plan) (bytes : List ℕ) (f : ChainFar) → IsPlanned plan f.live.chain → IsPlanned plan (chain_sent bytes f).live.chain
planned_fed plan bytes f p =
    let t : TookFront bytes f.live.chain (chain_sent bytes f).live.chain = took_front bytes f.live in
    subst (IsPlanned plan) (sym t.is) (planned_run plan t.front f.live.chain p)

pub planned_sent : (plan : Plan) (bytes : List ℕ) (old new : Option ChainFar) → IsPlannedTold plan old → new ≡ option_map (chain_sent bytes) old
    → IsPlannedTold plan new
planned_sent plan bytes None new p is = subst (IsPlannedTold plan) (sym is) tt
planned_sent plan bytes (Some f) new p is = subst (IsPlannedTold plan) (sym is) (planned_fed plan bytes f p)

pub planned_front : (plan : Plan) (bytes : List ℕ) (old new : Option ChainFar) → IsPlannedTold plan old → ChainSentFront bytes old new → IsPlannedTold plan new
planned_front plan bytes None new p s = subst (IsPlannedTold plan) (sym s) tt
planned_front plan bytes (Some f) new p s = subst (IsPlannedTold plan) (sym s.3) (planned_fed plan s.0 f p)

pub planned_read : (plan : Plan) (into : List ℕ) (old new : Option ChainFar) → IsPlannedTold plan old → ChainReadsFront into old new → IsPlannedTold plan new
planned_read plan into None new p r = subst (IsPlannedTold plan) (sym r) tt
planned_read plan into (Some f) new p r = subst (IsPlannedTold plan) (sym r.2) p

pub planned_some : (plan : Plan) (into : List ℕ) (old new : Option ChainFar) → IsPlannedTold plan old → ChainReadsSome into old new → IsPlannedTold plan new
planned_some plan into None new p r = subst (IsPlannedTold plan) (sym r) tt
planned_some plan into (Some f) new p r = subst (IsPlannedTold plan) (sym r.2) p

-- ---- BYPASS

fall_keeps : (s : TapState) → identifies_after s false ≡ false
fall_keeps UpdateIr = refl
fall_keeps s = refl

rise_keeps : (s : TapState) → s ≢ TestLogicReset → identifies_in s false ≡ false
rise_keeps TestLogicReset other = absurd (other refl)
rise_keeps s other = refl

each_fall_keeps : (ts : List SideTap) → Each Bypasses ts → Each Bypasses (map side_falls ts)
each_fall_keeps [] all = tt
each_fall_keeps (t ∷ ts) all = (
  record { selected = ap (λ x. identifies_after t.state x) all.0.selected ∙ fall_keeps t.state },
  each_fall_keeps ts all.1,
)

one_rise_keeps : (held tms tdi : Bool) (t : SideTap) → next_state t.state tms ≢ TestLogicReset → Bypasses t
    → Bypasses (if held then t else side_risen tms tdi t)
one_rise_keeps true tms tdi t other b = b
one_rise_keeps false tms tdi t other b =
    record { selected = ap (λ x. identifies_in (next_state t.state tms) x) b.selected ∙ rise_keeps (next_state t.state tms) other }

each_rise_keeps : (tms tdi : Bool) (p : Port) (ts : List SideTap) → next_state p.state tms ≢ TestLogicReset → Each (StandsAs p) ts → Each Bypasses ts
    → Each Bypasses (sides_rise tms tdi ts)
each_rise_keeps tms tdi p [] other one all = tt
each_rise_keeps tms tdi p (t ∷ ts) other one all = (
  one_rise_keeps t.held tms (outgoing tdi ts) t (subst (λ s. next_state s tms ≢ TestLogicReset) (sym one.0.state) other) all.0,
  each_rise_keeps tms tdi p ts other one.1 all.1,
)

-- all stand in one state, and the others in BYPASS
pub record Passes (c : Chain) : Type 0 where
  pub together : InOneState c
  pub others : AllBypass c

pub fall_passes : (c : Chain) → Passes c → Passes (chain_falls c)
fall_passes c p = record {
  together = falls_together c p.together;
  others = record { near = each_fall_keeps c.near p.others.near; far = each_fall_keeps c.far p.others.far };
}

pub rise_passes : (tms tdi : Bool) (c : Chain) → next_state c.chip.port.state tms ≢ TestLogicReset → Passes c → Passes (chain_rises tms tdi c)
rise_passes tms tdi c other p = record {
  together = rises_together tms tdi c p.together;
  others = record {
    near = each_rise_keeps tms c.chip.port.tdo c.chip.port c.near other p.together.near p.others.near;
    far = each_rise_keeps tms tdi c.chip.port c.far other p.together.far p.others.far;
  };
}

low_passes : (tck : Bool) (c : Chain) → Passes c → Passes (low_first tck c)
low_passes true c p = fall_passes c p
low_passes false c p = p

low_state : (tck : Bool) (c : Chain) → (low_first tck c).chip.port.state ≡ c.chip.port.state
low_state true c = refl
low_state false c = refl

pub clock_passes : (tms tdi tck : Bool) (c : Chain) → next_state c.chip.port.state tms ≢ TestLogicReset → Passes c
    → Passes (chain_rises tms tdi (low_first tck c))
clock_passes tms tdi tck c other p =
    rise_passes tms tdi (low_first tck c) (subst (λ s. next_state s tms ≢ TestLogicReset) (sym (low_state tck c)) other) (low_passes tck c p)

-- none of these levels leads to Test-Logic-Reset
abbrev pub Avoids : TapState → List Bool → Type 0
Avoids s [] = Unit {0}
Avoids s (tms ∷ levels) = (next_state s tms ≢ TestLogicReset) × Avoids (next_state s tms) levels

pub path_passes : (levels : List Bool) (tck : Bool) (s : TapState) (r : DataRegister) (bits : List Bool) (tdo : Bool) (i : Inside) (near far : List SideTap)
    → Avoids s levels → Passes (chain_at tck s r bits tdo i near far) → Passes (run_chain (chain_at tck s r bits tdo i near far) (path levels))
unfolding run_chain
path_passes [] tck s r bits tdo i near far avoids p = p
path_passes (tms ∷ levels) true s r bits tdo i near far avoids p = subst Passes
    (sym (clock_runs false tms false true (chain_at true s r bits tdo i near far).chip.port i near far (path levels)))
    (path_passes levels true (next_state s tms) _ _ _ _ _ _ avoids.1
    (clock_passes tms false true (chain_at true s r bits tdo i near far) avoids.0 p))
path_passes (tms ∷ levels) false s r bits tdo i near far avoids p = subst Passes
    (sym (clock_runs false tms false false (chain_at false s r bits tdo i near far).chip.port i near far (path levels)))
    (path_passes levels true (next_state s tms) _ _ _ _ _ _ avoids.1
    (clock_passes tms false false (chain_at false s r bits tdo i near far) avoids.0 p))
