-- What a sign does to a chip and to a sniffer that have the same behind them.
use Rattle.std.proofs.Common.{◌≡◌, ◌∙◌, ℕ, ◌==◌, List, ◌++◌, Bool, true, false, Some, refl, ap, sym, subst, cond}
use Rattle.debug_model.specs.declared.sign.Sign.{Sign}
use Rattle.debug_model.specs.declared.sign.Sign.TheVariants.{Pins, Ask, Light, Reset, Quit}
use Rattle.debug_model.specs.declared.tap_state.TapState.{TapState}
use Rattle.debug_model.specs.declared.tap_state.TapState.TheVariants.{TestLogicReset}
use Rattle.debug_model.specs.Chip.{Chip, Inside, answer_byte, answered, fall, pins, rise, signed, tick, works_risen}
use Rattle.debug_model.specs.Port.{Port, captured_in, data_register_of, dtm_risen, port_held, port_risen, risen, selected_in, shift_after}
use Rattle.debug_model.specs.Tap.{next_state}
use Rattle.wire_sniff.specs.Sniffed.{Sniffer, code_after, code_in, given_after, sniffed, sniffed_pins, sniffer_asks, sniffer_falls, sniffer_held}
use Rattle.wire_sniff.specs.Sniffed.{sniffer_risen, sniffer_rises, taken_after}
use Rattle.chip_laws.proofs.StickyRounds.{tick_sticky}
use Rattle.chip_sniff.proofs.Scans.{InScan, ask_keeps, fall_keeps, fall_selects, rise_keeps, rise_selects}

-- what they have in common between two signs
pub record Tied (c : Chip) (s : Sniffer) : Type 0 where
  pub tck : c.tck ≡ s.tck
  pub state : c.port.state ≡ s.state
  pub held : c.port.held ≡ s.held
  pub selected : c.port.selected ≡ data_register_of s.code
  pub reset : c.port.held ≡ true → c.port.state ≡ TestLogicReset
  pub scan : InScan c.port.state c.tck c.port.selected c.port.shift c.port.tdo c.inside.works.dtm.sticky s.given s.taken s.answer

-- ---- a rise

risen_tied : (tms tdi : Bool) (c : Chip) (s : Sniffer) (i : Inside) → Tied c s → c.tck ≡ false → c.port.held ≡ false
    → i.works.dtm.sticky ≡ (captured_in c.port.state c.port.selected c.inside.works.dtm).sticky
    → Tied (record { tck = true; port = risen tms tdi c.inside.works.dtm c.port; inside = i }) (sniffer_risen tms tdi s)
risen_tied tms tdi c s i t low free sticky =
    let was = c.port.state in
    let d = c.inside.works.dtm in
    let next : next_state was tms ≡ next_state s.state tms = ap (λ x. next_state x tms) t.state in
    let before = subst (λ k. InScan was k c.port.selected c.port.shift c.port.tdo d.sticky s.given s.taken s.answer) low t.scan in
    let kept = rise_keeps was tms tdi c.port.selected d c.port.shift c.port.tdo s.given s.taken s.answer before in
    record {
      tck = refl;
      state = next;
      held = t.held;
      selected = rise_selects (next_state was tms) c.port.selected s.code t.selected ∙ ap (λ x. data_register_of (code_in x s.code)) next;
      reset = λ e. absurd (cc);
      scan = subst (λ x. InScan (next_state was tms) true (selected_in (next_state was tms) c.port.selected)
          (shift_after was c.port.selected d tdi c.port.shift) c.port.tdo x
          (given_after s.state tdi s.given) (taken_after s.state s.answer s.taken) s.answer) (sym sticky)
          (subst (λ x. InScan (next_state was tms) true (selected_in (next_state was tms) c.port.selected) (shift_after was c.port.selected d tdi c.port.shift)
          c.port.tdo
          (captured_in was c.port.selected d).sticky (given_after x tdi s.given) (taken_after x s.answer s.taken) s.answer) t.state kept);
    }

in_reset : (state : TapState) (tck : Bool) (c : Chip) (s : Sniffer) (i : Inside) → state ≡ TestLogicReset
    → InScan state tck c.port.selected c.port.shift c.port.tdo i.works.dtm.sticky s.given s.taken s.answer
in_reset state tck c s i e = rw e tt

held_tied : (c : Chip) (s : Sniffer) (i : Inside) → Tied c s → c.port.held ≡ true
    → Tied (record { tck = true; port = c.port; inside = i }) (record s { tck = true })
held_tied c s i t held = record {
  tck = refl;
  state = t.state;
  held = t.held;
  selected = t.selected;
  reset = t.reset;
  scan = in_reset c.port.state true c s i (t.reset held);
}

rise_tied : (tms tdi : Bool) (c : Chip) (s : Sniffer) → Tied c s → c.tck ≡ false → Tied (rise tms tdi c) (sniffer_rises tms tdi s)
rise_tied tms tdi c s t low = by_held c.port.held refl where
  i : Inside
  i = tick (record c.inside { works = works_risen c.port c.inside.works })

  by_held : (h : Bool) → c.port.held ≡ h → Tied (rise tms tdi c) (sniffer_rises tms tdi s)
  by_held true h =
      let sniffer : sniffer_rises tms tdi s ≡ record s { tck = true } = rw (sym t.held ∙ h) refl in
      let port : port_risen tms tdi c.inside.works.dtm c.port ≡ c.port = rw h refl in
      subst (λ x. Tied (rise tms tdi c) x) (sym sniffer)
      (subst (λ (p : Port). Tied (record { tck = true; port = p; inside = i }) (record s { tck = true })) (sym port) (held_tied c s i t h))
  by_held false h =
      let sniffer : sniffer_rises tms tdi s ≡ sniffer_risen tms tdi s = rw (sym t.held ∙ h) refl in
      let port : port_risen tms tdi c.inside.works.dtm c.port ≡ risen tms tdi c.inside.works.dtm c.port = rw h refl in
      let dtm : dtm_risen c.port c.inside.works.dtm ≡ captured_in c.port.state c.port.selected c.inside.works.dtm = rw h refl in
      subst (λ x. Tied (rise tms tdi c) x) (sym sniffer)
      (subst (λ (p : Port). Tied (record { tck = true; port = p; inside = i }) (sniffer_risen tms tdi s)) (sym port)
      (risen_tied tms tdi c s i t low h (tick_sticky (record c.inside { works = works_risen c.port c.inside.works }) ∙ ap (λ d. d.sticky) dtm)))

-- ---- the other signs

fall_tied : (c : Chip) (s : Sniffer) → Tied c s → c.tck ≡ true → Tied (fall c) (sniffer_falls s)
fall_tied c s t high =
    let before = subst (λ k. InScan c.port.state k c.port.selected c.port.shift c.port.tdo c.inside.works.dtm.sticky s.given s.taken s.answer) high t.scan in
    record {
      tck = refl;
      state = t.state;
      held = t.held;
      selected = fall_selects c.port.state c.port.selected c.port.shift c.port.tdo c.inside.works.dtm.sticky s.given s.taken s.answer s.code before t.selected
          ∙ ap (λ x. data_register_of (code_after x s.given s.code)) t.state;
      reset = t.reset;
      scan = fall_keeps c.port.state c.port.selected c.inside.works.dtm c.port.shift c.port.tdo s.given s.taken s.answer before;
    }

told : (level : Bool) → (answer_byte level == answer_byte true) ≡ level
told true = refl
told false = refl

ask_tied : (c : Chip) (s : Sniffer) (coming : List ℕ) → Tied c s → Tied c (record s { answer = Some c.port.tdo; coming = coming })
ask_tied c s coming t = record {
  tck = t.tck;
  state = t.state;
  held = t.held;
  selected = t.selected;
  reset = t.reset;
  scan = ask_keeps c.port.state c.tck c.port.selected c.port.shift c.port.tdo c.inside.works.dtm.sticky s.given s.taken s.answer t.scan;
}

reset_tied : (level : Bool) (c : Chip) (s : Sniffer) → Tied c s → Tied (record c { port = port_held level c.port }) (sniffer_held level s)
reset_tied true c s t = record { tck = t.tck; state = refl; held = refl; selected = refl; reset = λ e. refl; scan = tt }
reset_tied false c s t = record { tck = t.tck; state = t.state; held = refl; selected = t.selected; reset = λ e. absurd (cc); scan = t.scan }

pins_tied : (was now tms tdi : Bool) (c : Chip) (s : Sniffer) → Tied c s → c.tck ≡ was → Tied (pins was now tms tdi c) (sniffed_pins was now tms tdi s)
pins_tied false true tms tdi c s t e = rise_tied tms tdi c s t e
pins_tied true false tms tdi c s t e = fall_tied c s t e
pins_tied false false tms tdi c s t e = t
pins_tied true true tms tdi c s t e = t

-- the answers of a sign, and those that come behind it
pub sign_tied : (sign : Sign) (c : Chip) (s : Sniffer) (coming : List ℕ) → Tied c s → s.coming ≡ answered (Some sign) c ++ coming
    → Tied (signed (Some sign) c) (sniffed (Some sign) s) × ((sniffed (Some sign) s).coming ≡ coming)
sign_tied (Pins tck tms tdi) c s coming t e = (
  subst (λ x. Tied (signed (Some (Pins tck tms tdi)) c) (sniffed_pins x tck tms tdi s)) t.tck (pins_tied c.tck tck tms tdi c s t refl),
  pins_coming s.tck tck ∙ e,
) where
  pins_coming : (was now : Bool) → (sniffed_pins was now tms tdi s).coming ≡ s.coming
  pins_coming false true = rises_coming s.held
    where
      rises_coming : (h : Bool) → (cond h (record s { tck = true }) (sniffer_risen tms tdi s)).coming ≡ s.coming
      rises_coming true = refl
      rises_coming false = refl
  pins_coming true false = refl
  pins_coming false false = refl
  pins_coming true true = refl
sign_tied Ask c s coming t e = (
  subst (λ next. Tied c (sniffer_asks next s)) (sym e)
      (subst (λ (b : Bool). Tied c (record s { answer = Some b; coming = coming })) (sym (told c.port.tdo)) (ask_tied c s coming t)),
  ap (λ next. (sniffer_asks next s).coming) e,
)
sign_tied Light c s coming t e = (t, e)
sign_tied (Reset level) c s coming t e = (reset_tied level c s t, held_coming level ∙ e) where
  held_coming : (l : Bool) → (sniffer_held l s).coming ≡ s.coming
  held_coming true = refl
  held_coming false = refl
sign_tied Quit c s coming t e = (t, e)
