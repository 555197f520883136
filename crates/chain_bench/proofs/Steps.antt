-- One byte at a chain on a bench: what is done at the chip and at the devices beside it is what the byte does to the chain.
use Rattle.std.proofs.Common.{◌≡◌, ◌∙◌, ℕ, List, [], ◌∷◌, ◌++◌, Bool, true, false, Option, Some, None, is_none, option_map, refl, sym, ap, subst}
use Rattle.std.proofs.lemmas.List.{append-nil}
use Rattle.debug_model.specs.declared.chip_end.ChipEnd.{ChipEnd}
use Rattle.debug_model.specs.declared.sign.Sign.{Sign}
use Rattle.debug_model.specs.declared.sign.Sign.TheVariants.{Pins, Ask, Light, Reset, Quit}
use Rattle.debug_model.specs.Chip.{Chip, Live, after, answer_byte, end_of, pins, rise_end, signed, taken_by, unless_ended}
use Rattle.debug_model.specs.Signs.{sign_of}
use Rattle.chain_scan.specs.Chain.{Chain, chain_answered, chain_pins, chain_signed, outgoing}
use Rattle.chain_scan.specs.ChipInChain.{levels_byte}
use Rattle.chain_scan.specs.Told.{ChainLive, chain_after, chain_taken_by}
use Rattle.chain_scan.proofs.ChipInChain.{levels_sign}
use Rattle.chain_bench.specs.Benched.{Beside, answer_in, beside_held, beside_pinned, chain_on, chain_with, ended_of, is_live, live_with, tck_of, tdo_of}

-- ---- what a byte does where nothing has ended the chip

chain_is : (s : Beside) (l : Live) (b : ℕ) (g : Option Sign) → l.ended ≡ None → sign_of b ≡ g
    → chain_after (live_with s l) b ≡ chain_taken_by (end_of b g l.chip) (chain_signed g (chain_with s l.chip)) (chain_with s l.chip)
chain_is s l b g live is =
    let c : Chain = chain_with s l.chip in
    ap (λ o. unless_ended o (chain_taken_by (end_of b (sign_of b) l.chip) (chain_signed (sign_of b) c) c) (live_with s l)) live
    ∙ ap (λ z. chain_taken_by (end_of b z l.chip) (chain_signed z c) c) is

chip_is : (l : Live) (b : ℕ) (g : Option Sign) → l.ended ≡ None → sign_of b ≡ g → after l b ≡ taken_by (end_of b g l.chip) (signed g l.chip) l.chip
chip_is l b g live is =
    ap (λ o. unless_ended o (taken_by (end_of b (sign_of b) l.chip) (signed (sign_of b) l.chip) l.chip) l) live
    ∙ ap (λ z. taken_by (end_of b z l.chip) (signed z l.chip) l.chip) is

-- nothing has ended it, and this is its TDO
record Shows (level : Bool) (l : Live) : Type 0 where
  pub live : l.ended ≡ None
  pub tdo : l.chip.port.tdo ≡ level

shows : (l : Live) (level : Bool) → Some level ≡ tdo_of (Some l) → Shows level l
shows l level is = by l.ended refl is
  where
    by : (o : Option ChipEnd) → l.ended ≡ o → Some level ≡ unless_ended o (Some l.chip.port.tdo) None → Shows level l
    by None live told = record { live = live; tdo = cc }
    by (Some e) live told = absurd (let none : ⊥ = cc in none)

pub record Stepped (bench new : Option Live) (s t : Beside) (b : ℕ) : Type 0 where
  pub chain : chain_on new t ≡ option_map (λ l. chain_after l b) (chain_on bench s)
  pub clock : t.tck ≡ tck_of new

-- ---- pins

pins_went : (o : Option ChipEnd) (was tck tms tdi : Bool) (s : Beside) (c : Chip)
    → is_none (taken_by o (pins was tck tms (outgoing tdi s.far) c) c).ended ≡ true
    → live_with (beside_pinned c.port.tdo was tck tms tdi s) (taken_by o (pins was tck tms (outgoing tdi s.far) c) c)
    ≡ chain_taken_by o (chain_pins was tck tms tdi (chain_with s c)) (chain_with s c)
pins_went None false true tms tdi s c went = refl
pins_went None true false tms tdi s c went = refl
pins_went None false false tms tdi s c went = refl
pins_went None true true tms tdi s c went = refl
pins_went (Some e) was tck tms tdi s c went = absurd (let none : ⊥ = cc in none)

beside_tck : (level was tck tms tdi : Bool) (s : Beside) → (beside_pinned level was tck tms tdi s).tck ≡ tck
beside_tck level false true tms tdi s = refl
beside_tck level true false tms tdi s = refl
beside_tck level false false tms tdi s = refl
beside_tck level true true tms tdi s = refl

went_tck : (o : Option ChipEnd) (was tck tms tdi : Bool) (c : Chip) → was ≡ c.tck → is_none (taken_by o (pins was tck tms tdi c) c).ended ≡ true
    → tck ≡ (taken_by o (pins was tck tms tdi c) c).chip.tck
went_tck None false true tms tdi c is went = refl
went_tck None true false tms tdi c is went = refl
went_tck None false false tms tdi c is went = is
went_tck None true true tms tdi c is went = is
went_tck (Some e) was tck tms tdi c is went = absurd (let none : ⊥ = cc in none)

pins_stopped : (o : Option ChipEnd) (s : Beside) (c next : Chip) (chain : Chain) → is_none (taken_by o next c).ended ≡ false
    → live_with s (taken_by o next c) ≡ chain_taken_by o chain (chain_with s c)
pins_stopped None s c next chain stopped = absurd (let none : ⊥ = cc in none)
pins_stopped (Some e) s c next chain stopped = refl

stopped_tck : (o : Option ChipEnd) (c next : Chip) → is_none (taken_by o next c).ended ≡ false → c.tck ≡ (taken_by o next c).chip.tck
stopped_tck None c next stopped = absurd (let none : ⊥ = cc in none)
stopped_tck (Some e) c next stopped = refl

-- what the chip is given, and what it is behind it
pins_are : (s : Beside) (l : Live) (seen : ℕ) (tck tms tdi : Bool) → l.ended ≡ None → seen ≡ levels_byte tck tms (outgoing tdi s.far)
    → after l seen ≡ taken_by (rise_end l.chip.tck tck l.chip.inside.works) (pins l.chip.tck tck tms (outgoing tdi s.far) l.chip) l.chip
pins_are s l seen tck tms tdi live is =
    chip_is l seen (Some (Pins tck tms (outgoing tdi s.far))) live (ap sign_of is ∙ levels_sign tck tms (outgoing tdi s.far))

live_pins : (s : Beside) (l : Live) (b seen : ℕ) (level tck tms tdi : Bool) → Shows level l → s.tck ≡ l.chip.tck
    → sign_of b ≡ Some (Pins tck tms tdi) → seen ≡ levels_byte tck tms (outgoing tdi s.far) → is_none (after l seen).ended ≡ true
    → Stepped (Some l) (Some (after l seen)) s (beside_pinned level s.tck tck tms tdi s) b
live_pins s l b seen level tck tms tdi shown clock sign is went =
    let end : Option ChipEnd = rise_end l.chip.tck tck l.chip.inside.works in
    let next : Live = taken_by end (pins l.chip.tck tck tms (outgoing tdi s.far) l.chip) l.chip in
    let chip : after l seen ≡ next = pins_are s l seen tck tms tdi shown.live is in
    let taken : is_none next.ended ≡ true = ap (λ (m : Live). is_none m.ended) (sym chip) ∙ went in
    record {
      chain = ap (λ (m : ChainLive). Some m)
          (ap (λ m. live_with (beside_pinned level s.tck tck tms tdi s) m) chip
          ∙ ap (λ t. live_with (beside_pinned t s.tck tck tms tdi s) next) (sym shown.tdo)
          ∙ ap (λ t. live_with (beside_pinned l.chip.port.tdo t tck tms tdi s) next) clock
          ∙ pins_went end l.chip.tck tck tms tdi s l.chip taken
          ∙ sym (chain_is s l b (Some (Pins tck tms tdi)) shown.live sign));
      clock = beside_tck level s.tck tck tms tdi s ∙ went_tck end l.chip.tck tck tms (outgoing tdi s.far) l.chip refl taken
          ∙ ap (λ (m : Live). m.chip.tck) (sym chip);
    }

live_stopped : (s : Beside) (l : Live) (b seen : ℕ) (level tck tms tdi : Bool) → Shows level l → s.tck ≡ l.chip.tck
    → sign_of b ≡ Some (Pins tck tms tdi) → seen ≡ levels_byte tck tms (outgoing tdi s.far) → is_none (after l seen).ended ≡ false
    → Stepped (Some l) (Some (after l seen)) s s b
live_stopped s l b seen level tck tms tdi shown clock sign is stopped =
    let end : Option ChipEnd = rise_end l.chip.tck tck l.chip.inside.works in
    let pinned : Chip = pins l.chip.tck tck tms (outgoing tdi s.far) l.chip in
    let chip : after l seen ≡ taken_by end pinned l.chip = pins_are s l seen tck tms tdi shown.live is in
    let ended : is_none (taken_by end pinned l.chip).ended ≡ false = ap (λ (m : Live). is_none m.ended) (sym chip) ∙ stopped in
    record {
      chain = ap (λ (m : ChainLive). Some m)
          (ap (λ m. live_with s m) chip
          ∙ pins_stopped end s l.chip pinned (chain_pins l.chip.tck tck tms tdi (chain_with s l.chip)) ended
          ∙ sym (chain_is s l b (Some (Pins tck tms tdi)) shown.live sign));
      clock = clock ∙ stopped_tck end l.chip pinned ended ∙ ap (λ (m : Live). m.chip.tck) (sym chip);
    }

-- ---- TRST

live_held : (s : Beside) (l : Live) (b : ℕ) (level on : Bool) → Shows level l → s.tck ≡ l.chip.tck → sign_of b ≡ Some (Reset on)
    → Stepped (Some l) (Some (after l b)) s (beside_held on s) b
live_held s l b level on shown clock sign =
    let chip : _ = chip_is l b (Some (Reset on)) shown.live sign in
    record {
      chain = ap (λ (m : ChainLive). Some m)
          (ap (λ m. live_with (beside_held on s) m) chip ∙ sym (chain_is s l b (Some (Reset on)) shown.live sign));
      clock = clock ∙ ap (λ (m : Live). m.chip.tck) (sym chip);
    }

-- ---- what moves nothing: a light, the end, and a byte that is no sign

pub record IsPlain (g : Option Sign) : Type 0 where
  pub chip : (c : Chip) → signed g c ≡ c
  pub chain : (c : Chain) → chain_signed g c ≡ c

pub light_plain : IsPlain (Some Light)
light_plain = record { chip = λ c. refl; chain = λ c. refl }

pub quit_plain : IsPlain (Some Quit)
quit_plain = record { chip = λ c. refl; chain = λ c. refl }

pub none_plain : IsPlain None
none_plain = record { chip = λ c. refl; chain = λ c. refl }

plain_with : (o : Option ChipEnd) (s : Beside) (c : Chip) → live_with s (taken_by o c c) ≡ chain_taken_by o (chain_with s c) (chain_with s c)
plain_with None s c = refl
plain_with (Some e) s c = refl

plain_tck : (o : Option ChipEnd) (c : Chip) → c.tck ≡ (taken_by o c c).chip.tck
plain_tck None c = refl
plain_tck (Some e) c = refl

live_plain : (s : Beside) (l : Live) (b : ℕ) (level : Bool) (g : Option Sign) → IsPlain g → Shows level l → s.tck ≡ l.chip.tck → sign_of b ≡ g
    → Stepped (Some l) (Some (after l b)) s s b
live_plain s l b level g plain shown clock sign =
    let end : Option ChipEnd = end_of b g l.chip in
    let c : Chain = chain_with s l.chip in
    let chip : after l b ≡ taken_by end l.chip l.chip = chip_is l b g shown.live sign ∙ ap (λ x. taken_by end x l.chip) (plain.chip l.chip) in
    record {
      chain = ap (λ (m : ChainLive). Some m)
          (ap (λ m. live_with s m) chip ∙ plain_with end s l.chip ∙ ap (λ x. chain_taken_by end x c) (sym (plain.chain c))
          ∙ sym (chain_is s l b g shown.live sign));
      clock = clock ∙ plain_tck end l.chip ∙ ap (λ (m : Live). m.chip.tck) (sym chip);
    }

-- ---- a question

live_asked : (s : Beside) (l : Live) (b : ℕ) (level : Bool) → Shows level l → s.tck ≡ l.chip.tck → sign_of b ≡ Some Ask → Stepped (Some l) (Some l) s s b
live_asked s l b level shown clock sign =
    record {
      chain = ap (λ (m : ChainLive). Some m)
          (ap (λ (o : Option ChipEnd). let m : ChainLive = record { chain = chain_with s l.chip; ended = o } in m) shown.live
          ∙ sym (chain_is s l b (Some Ask) shown.live sign));
      clock = clock;
    }

-- ---- of a bench, whatever it is

step_to : (bench new next : Option Live) (s t : Beside) (b : ℕ) → new ≡ next → Stepped bench next s t b → Stepped bench new s t b
step_to bench new next s t b is step = subst (λ n. Stepped bench n s t b) (sym is) step

never : (level : Bool) → {P : Type 0} → Some level ≡ None → P
never level is = absurd (let none : ⊥ = cc in none)

pub bench_pins : (bench new : Option Live) (s : Beside) (b seen : ℕ) (level tck tms tdi : Bool) → Some level ≡ tdo_of bench → s.tck ≡ tck_of bench
    → sign_of b ≡ Some (Pins tck tms tdi) → seen ≡ levels_byte tck tms (outgoing tdi s.far) → new ≡ option_map (λ l. after l seen) bench
    → is_live new ≡ true → Stepped bench new s (beside_pinned level s.tck tck tms tdi s) b
bench_pins bench new s b seen level tck tms tdi told clock sign is chip went =
    step_to bench new (option_map (λ l. after l seen) bench) s (beside_pinned level s.tck tck tms tdi s) b chip
    (by bench told clock (ap is_live (sym chip) ∙ went))
  where
    by : (o : Option Live) → Some level ≡ tdo_of o → s.tck ≡ tck_of o → is_live (option_map (λ l. after l seen) o) ≡ true
        → Stepped o (option_map (λ l. after l seen) o) s (beside_pinned level s.tck tck tms tdi s) b
    by None shown at live = never level shown
    by (Some l) shown at live = live_pins s l b seen level tck tms tdi (shows l level shown) at sign is live

pub bench_stopped : (bench new : Option Live) (s : Beside) (b seen : ℕ) (level tck tms tdi : Bool) → Some level ≡ tdo_of bench → s.tck ≡ tck_of bench
    → sign_of b ≡ Some (Pins tck tms tdi) → seen ≡ levels_byte tck tms (outgoing tdi s.far) → new ≡ option_map (λ l. after l seen) bench
    → is_live new ≡ false → Stepped bench new s s b
bench_stopped bench new s b seen level tck tms tdi told clock sign is chip stopped =
    step_to bench new (option_map (λ l. after l seen) bench) s s b chip (by bench told clock (ap is_live (sym chip) ∙ stopped))
  where
    by : (o : Option Live) → Some level ≡ tdo_of o → s.tck ≡ tck_of o → is_live (option_map (λ l. after l seen) o) ≡ false
        → Stepped o (option_map (λ l. after l seen) o) s s b
    by None shown at ended = never level shown
    by (Some l) shown at ended = live_stopped s l b seen level tck tms tdi (shows l level shown) at sign is ended

pub bench_held : (bench new : Option Live) (s : Beside) (b : ℕ) (level on : Bool) → Some level ≡ tdo_of bench → s.tck ≡ tck_of bench
    → sign_of b ≡ Some (Reset on) → new ≡ option_map (λ l. after l b) bench → Stepped bench new s (beside_held on s) b
bench_held bench new s b level on told clock sign chip =
    step_to bench new (option_map (λ l. after l b) bench) s (beside_held on s) b chip (by bench told clock)
  where
    by : (o : Option Live) → Some level ≡ tdo_of o → s.tck ≡ tck_of o → Stepped o (option_map (λ l. after l b) o) s (beside_held on s) b
    by None shown at = never level shown
    by (Some l) shown at = live_held s l b level on (shows l level shown) at sign

pub bench_plain : (bench new : Option Live) (s : Beside) (b : ℕ) (level : Bool) (g : Option Sign) → IsPlain g → Some level ≡ tdo_of bench
    → s.tck ≡ tck_of bench → sign_of b ≡ g → new ≡ option_map (λ l. after l b) bench → Stepped bench new s s b
bench_plain bench new s b level g plain told clock sign chip =
    step_to bench new (option_map (λ l. after l b) bench) s s b chip (by bench told clock)
  where
    by : (o : Option Live) → Some level ≡ tdo_of o → s.tck ≡ tck_of o → Stepped o (option_map (λ l. after l b) o) s s b
    by None shown at = never level shown
    by (Some l) shown at = live_plain s l b level g plain (shows l level shown) at sign

pub bench_asked : (bench new : Option Live) (s : Beside) (b : ℕ) (level : Bool) → Some level ≡ tdo_of bench → s.tck ≡ tck_of bench → sign_of b ≡ Some Ask
    → new ≡ bench → Stepped bench new s s b
bench_asked bench new s b level told clock sign chip = step_to bench new bench s s b chip (by bench told clock)
  where
    by : (o : Option Live) → Some level ≡ tdo_of o → s.tck ≡ tck_of o → Stepped o o s s b
    by None shown at = never level shown
    by (Some l) shown at = live_asked s l b level (shows l level shown) at sign

-- where something has ended the chip
pub bench_ended : (bench new : Option Live) (s : Beside) (b : ℕ) → None ≡ tdo_of bench → s.tck ≡ tck_of bench → new ≡ bench → Stepped bench new s s b
bench_ended bench new s b told clock chip = step_to bench new bench s s b chip (record { chain = by bench told; clock = clock })
  where
    at : (o : Option ChipEnd) (l : Live) → l.ended ≡ o → None ≡ unless_ended o (Some l.chip.port.tdo) None
        → live_with s l ≡ unless_ended o (chain_taken_by (end_of b (sign_of b) l.chip) (chain_signed (sign_of b) (chain_with s l.chip)) (chain_with s l.chip))
        (live_with s l)
    at None l is shown = never l.chip.port.tdo (sym shown)
    at (Some e) l is shown = refl

    by : (o : Option Live) → None ≡ tdo_of o → chain_on o s ≡ option_map (λ l. chain_after l b) (chain_on o s)
    by None shown = refl
    by (Some l) shown = ap (λ (m : ChainLive). Some m) (at l.ended l refl shown)

-- no byte is taken then
pub stays_ended : (bench : Option Live) (b : ℕ) → None ≡ tdo_of bench → option_map (λ l. after l b) bench ≡ bench
stays_ended bench b told = by bench told
  where
    at : (o : Option ChipEnd) (l : Live) → None ≡ unless_ended o (Some l.chip.port.tdo) None
        → unless_ended o (taken_by (end_of b (sign_of b) l.chip) (signed (sign_of b) l.chip) l.chip) l ≡ l
    at None l shown = never l.chip.port.tdo (sym shown)
    at (Some e) l shown = refl

    by : (o : Option Live) → None ≡ tdo_of o → option_map (λ l. after l b) o ≡ o
    by None shown = refl
    by (Some l) shown = ap (λ (m : Live). Some m) (at l.ended l shown)

-- nothing has ended it then
pub live_shown : (bench : Option Live) (level : Bool) → Some level ≡ tdo_of bench → None ≡ ended_of bench
live_shown bench level told = by bench told
  where
    by : (o : Option Live) → Some level ≡ tdo_of o → None ≡ ended_of o
    by None shown = never level shown
    by (Some l) shown = sym (shows l level shown).live

-- ---- answers

-- of a sign without one
pub record IsSilent (g : Option Sign) : Type 0 where
  pub answers : (c : Chain) → chain_answered g c ≡ []

pub pins_silent : (tck tms tdi : Bool) → IsSilent (Some (Pins tck tms tdi))
pins_silent tck tms tdi = record { answers = λ c. refl }

pub held_silent : (on : Bool) → IsSilent (Some (Reset on))
held_silent on = record { answers = λ c. refl }

pub light_silent : IsSilent (Some Light)
light_silent = record { answers = λ c. refl }

pub quit_silent : IsSilent (Some Quit)
quit_silent = record { answers = λ c. refl }

pub none_silent : IsSilent None
none_silent = record { answers = λ c. refl }

nothing_said : (o : Option ChipEnd) (g : Option Sign) (c : Chain) → IsSilent g → unless_ended o (chain_answered g c) [] ≡ []
nothing_said None g c silent = silent.answers c
nothing_said (Some e) g c silent = refl

pub answers_none : (bench : Option Live) (s : Beside) (b : ℕ) (g : Option Sign) (items : List ℕ) → sign_of b ≡ g → IsSilent g
    → items ≡ items ++ answer_in (chain_on bench s) b
answers_none bench s b g items sign silent = sym (ap (λ xs. items ++ xs) (by bench) ∙ append-nil items)
  where
    by : (o : Option Live) → answer_in (chain_on o s) b ≡ []
    by None = refl
    by (Some l) = ap (λ z. unless_ended l.ended (chain_answered z (chain_with s l.chip)) []) sign ∙ nothing_said l.ended g (chain_with s l.chip) silent

pub answers_ended : (bench : Option Live) (s : Beside) (b : ℕ) (items : List ℕ) → None ≡ tdo_of bench → items ≡ items ++ answer_in (chain_on bench s) b
answers_ended bench s b items told = sym (ap (λ xs. items ++ xs) (by bench told) ∙ append-nil items)
  where
    at : (o : Option ChipEnd) (l : Live) → None ≡ unless_ended o (Some l.chip.port.tdo) None
        → unless_ended o (chain_answered (sign_of b) (chain_with s l.chip)) [] ≡ []
    at None l shown = never l.chip.port.tdo (sym shown)
    at (Some e) l shown = refl

    by : (o : Option Live) → None ≡ tdo_of o → answer_in (chain_on o s) b ≡ []
    by None shown = refl
    by (Some l) shown = at l.ended l shown

pub answers_asked : (bench : Option Live) (s : Beside) (b : ℕ) (level : Bool) → Some level ≡ tdo_of bench → sign_of b ≡ Some Ask
    → answer_byte (outgoing level s.near) ∷ [] ≡ answer_in (chain_on bench s) b
answers_asked bench s b level told sign = by bench told
  where
    live : (l : Live) → Shows level l → answer_byte (outgoing level s.near) ∷ [] ≡ answer_in (chain_on (Some l) s) b
    live l shown =
        ap (λ t. answer_byte (outgoing t s.near) ∷ []) (sym shown.tdo)
        ∙ ap (λ z. chain_answered z (chain_with s l.chip)) (sym sign)
        ∙ ap (λ o. unless_ended o (chain_answered (sign_of b) (chain_with s l.chip)) []) (sym shown.live)

    by : (o : Option Live) → Some level ≡ tdo_of o → answer_byte (outgoing level s.near) ∷ [] ≡ answer_in (chain_on o s) b
    by None shown = never level shown
    by (Some l) shown = live l (shows l level shown)
