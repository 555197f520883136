-- What a sign does to the state that the code keeps.
use Rattle.std.proofs.Common.{◌≡◌, ◌∙◌, ℕ, Bool, true, false, List, [], drop, Option, Some, refl, ap, sym, subst}
use Rattle.debug_model.specs.declared.sign.Sign.{Sign}
use Rattle.debug_model.specs.declared.sign.Sign.TheVariants.{Pins, Ask, Light, Reset, Quit}
use Rattle.debug_model.specs.declared.tap_state.TapState.{TapState}
use Rattle.debug_model.specs.declared.tap_state.TapState.TheVariants.{UpdateDr, UpdateIr}
use Rattle.debug_model.specs.Tap.{next_state}
use Rattle.wire_sniff.specs.Sniffed.{Sniffer as Definition, code_in, given_after, lines_at, sign_lines, sniffed, sniffer_falls, sniffer_held, sniffer_risen}
use Rattle.wire_sniff.specs.Sniffed.{sniffer_rises, taken_after}
use Rattle.wire_sniff.specs.State.{IsScan, IsSniffer, is_fall}
use Rattle.wire_sniff.specs.declared.sniffer.Sniffer.{Sniffer}

-- ---- a rise

pub risen : (tms tdi : Bool) (answers : List ℕ) (old new : Sniffer) (s : Definition) → IsSniffer answers old s
    → new.tck ≡ true → new.state ≡ next_state old.state tms → new.is_held ≡ old.is_held → new.code ≡ code_in new.state old.code
    → ((given : List Bool) (taken : List (Option Bool)) → IsScan old.scan given taken
    → IsScan new.scan (given_after old.state tdi given) (taken_after old.state old.answer taken))
    → new.answer ≡ old.answer → new.heard ≡ old.heard → IsSniffer answers new (sniffer_risen tms tdi s)
risen tms tdi answers old new s is tck state held code scan answer heard =
    let behind : new.state ≡ next_state s.state tms = state ∙ ap (λ t. next_state t tms) is.state in
    record {
      tck = tck;
      state = behind;
      held = held ∙ is.held;
      code = code ∙ ap (λ t. code_in t old.code) behind ∙ ap (code_in (next_state s.state tms)) is.code;
      scan =
          let at : IsScan new.scan (given_after old.state tdi s.given) (taken_after old.state old.answer s.taken) = scan s.given s.taken is.scan in
          let there : IsScan new.scan (given_after s.state tdi s.given) (taken_after s.state old.answer s.taken) =
          subst (λ t. IsScan new.scan (given_after t tdi s.given) (taken_after t old.answer s.taken)) is.state at in
          subst (λ a. IsScan new.scan (given_after s.state tdi s.given) (taken_after s.state a s.taken)) is.answer there;
      answer = answer ∙ is.answer;
      coming = ap (λ n. drop n answers) heard ∙ is.coming;
    }

pub rises_free : (tms tdi : Bool) (s : Definition) → s.held ≡ false → sniffer_rises tms tdi s ≡ sniffer_risen tms tdi s
rises_free tms tdi s free = rw free refl

pub rises_held : (tms tdi : Bool) (s : Definition) → s.held ≡ true → sniffer_rises tms tdi s ≡ record s { tck = true }
rises_held tms tdi s held = rw held refl

-- ---- signs

pub at_rise : (sign : Sign) (tck tms tdi : Bool) (s : Definition) → sign ≡ Pins tck tms tdi → s.tck ≡ false → tck ≡ true
    → sniffed (Some sign) s ≡ sniffer_rises tms tdi s
at_rise sign tck tms tdi s is was now = rw (is, was, now) refl

pub at_fall : (sign : Sign) (tck tms tdi : Bool) (s : Definition) → sign ≡ Pins tck tms tdi → s.tck ≡ true → tck ≡ false
    → sniffed (Some sign) s ≡ sniffer_falls s
at_fall sign tck tms tdi s is was now = rw (is, was, now) refl

pub at_reset : (sign : Sign) (level : Bool) (s : Definition) → sign ≡ Reset level → sniffed (Some sign) s ≡ sniffer_held level s
at_reset sign level s is = rw is refl

-- a fall shows something in the two Update states alone
pub lines_other : (t : TapState) (s : Definition) → (t ≡ UpdateIr → ⊥) → (t ≡ UpdateDr → ⊥) → lines_at t s ≡ []
lines_other UpdateIr s a b = absurd (a refl)
lines_other UpdateDr s a b = absurd (b refl)
lines_other _ s a b = refl

edge_shows : (was : Bool) (sign : Sign) (s : Definition) → s.tck ≡ was → is_fall was sign ≡ true → sign_lines (Some sign) s ≡ lines_at s.state s
edge_shows true (Pins false tms tdi) s is falls = rw is refl
edge_shows true (Pins true tms tdi) s is falls = absurd (cc)
edge_shows true Ask s is falls = absurd (cc)
edge_shows true Light s is falls = absurd (cc)
edge_shows true (Reset level) s is falls = absurd (cc)
edge_shows true Quit s is falls = absurd (cc)
edge_shows false sign s is falls = absurd (cc)

pub falls_show : (was : Bool) (sign : Sign) (s : Definition) → was ≡ s.tck → is_fall was sign ≡ true → sign_lines (Some sign) s ≡ lines_at s.state s
falls_show was sign s is falls = edge_shows was sign s (sym is) falls

edge_hides : (was : Bool) (sign : Sign) (s : Definition) → s.tck ≡ was → is_fall was sign ≡ false → sign_lines (Some sign) s ≡ []
edge_hides true (Pins false tms tdi) s is stays = absurd (cc)
edge_hides true (Pins true tms tdi) s is stays = rw is refl
edge_hides false (Pins tck tms tdi) s is stays = rw is refl
edge_hides was Ask s is stays = refl
edge_hides was Light s is stays = refl
edge_hides was (Reset level) s is stays = refl
edge_hides was Quit s is stays = refl

-- what is no fall shows nothing
pub others_hide : (was : Bool) (sign : Sign) (s : Definition) → was ≡ s.tck → is_fall was sign ≡ false → sign_lines (Some sign) s ≡ []
others_hide was sign s is stays = edge_hides was sign s (sym is) stays
