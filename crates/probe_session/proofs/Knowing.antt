-- What a session knows behind a command.
use Rattle.std.proofs.Common.{◌≡◌, ℕ, Bool, true, false, Option, Some, None, Result, Ok, Err, OnOk, refl, sym, subst, if◌then◌else◌}
use Rattle.std.specs.Prelude.{◌==◌}
use Rattle.std.proofs.lemmas.Bool.{eqb-true, false≢true}
use Rattle.printed_lines.specs.declared.line.Line.{Line as PrintedLine}
use Rattle.debug_model.specs.declared.command.Command.{Command}
use Rattle.debug_model.specs.declared.command.Command.TheVariants as command
use Rattle.debug_model.specs.Kept.{DmiSeen}
use Rattle.debug_model.specs.declared.command.Path.{Path}
use Rattle.debug_model.specs.declared.command.Path.TheVariants.{Progbuf, Bus}
use Rattle.debug_model.specs.Told.{Far, Selects}
use Rattle.probe_session.specs.declared.acted.Acted.{Acted}
use Rattle.probe_session.specs.declared.acted.Acted.TheVariants as acted
use Rattle.probe_session.specs.declared.fault.Failure.{Failure}
use Rattle.probe_session.specs.declared.known.Known.{Known}
use Rattle.probe_session.specs.declared.known.Known.TheVariants as known
use Rattle.probe_session.specs.declared.session.Session.{Session}
use Rattle.probe_session.specs.declared.shown.Shown.{Shown}
use Rattle.probe_session.specs.declared.shown.Shown.TheVariants as shown
use Rattle.probe_session.specs.Known.{IsKnownBeside, Knows, KnowsAfter, StandsStepped, is_selected, known_behind, known_by, says_step, shows_step}
use Rattle.probe_session.specs.Known.{is_stepped, without_step}
use Rattle.probe_session.specs.Shown.{IfLine}
use Rattle.probe_session.proofs.Selections.{Stays, knows_without, selects_still}

-- by the command, what it shows, and what it left
pub knows_behind : {k j : Command} {x y : Shown} {v w : Session} {b d : DmiSeen} → k ≡ j → x ≡ y → v ≡ w → b ≡ d
    → Knows (known_behind j (Some y) w.hart w.path w.known) w.hart d.far → Knows (known_behind k (Some x) v.hart v.path v.known) v.hart b.far
knows_behind {k} {j} {x} {y} {v} {w} {b} {d} command_is shown_is session_is link_is knows =
    subst (λ l. Knows (known_behind k (Some x) v.hart v.path v.known) v.hart l.far) (sym link_is)
    (subst (λ (s : Session). Knows (known_behind k (Some x) s.hart s.path s.known) s.hart d.far) (sym session_is)
    (subst (λ z. Knows (known_behind k (Some z) w.hart w.path w.known) w.hart d.far) (sym shown_is)
    (subst (λ c. Knows (known_behind c (Some y) w.hart w.path w.known) w.hart d.far) (sym command_is) knows)))

pub knows_as : {is k : Known} (h : ℕ) (far : Option Far) → is ≡ k → Knows k h far → Knows is h far
knows_as {is} {k} h far same knows = subst (λ n. Knows n h far) (sym same) knows

-- a hart was looked at: it is the session's, or another one
looked_by : (is : Bool) (n h : ℕ) (far : Option Far) → (is ≡ true → n ≡ h) → Selects n far → Knows (if is then known.Selected else known.Nothing) h far
looked_by true n h far same selected = subst (λ m. Selects m far) (same refl) selected
looked_by false n h far same selected = tt

pub knows_looked : (n h : ℕ) (far : Option Far) → Selects n far → Knows (if n == h then known.Selected else known.Nothing) h far
knows_looked n h far selected = looked_by (n == h) n h far (λ e. eqb-true n h e) selected

-- the session is as it was
pub knows_same : (k j : Known) (h g : ℕ) (far : Option Far) → k ≡ j → h ≡ g → Knows j g far
    → Knows (without_step k) h far
knows_same k j h g far known_is hart_is knows =
    subst (λ n. Knows (without_step n) h far) (sym known_is) (subst (λ n. Knows (without_step j) n far) (sym hart_is) (knows_without j g far knows))

pub knows_ended : (k : Command) (h : ℕ) (path : Path) (j : Known) (far : Option Far) → k ≡ command.End → Knows j h far
    → Knows (known_behind k None h path j) h far
knows_ended k h path j far is knows = subst (λ c. Knows (known_behind c None h path j) h far) (sym is) (knows_without j h far knows)

-- and behind what became of it
pub knows_after : (a : Acted) (s : Session) (far : Option Far) → Knows s.known s.hart far → KnowsAfter a s far
knows_after acted.Done s far knows = knows
knows_after acted.Error s far knows = knows
knows_after acted.End s far knows = knows
knows_after (acted.Wire why) s far knows = tt
knows_after (acted.Lost why) s far knows = tt
knows_after acted.Sink s far knows = tt

-- ---- by the path

pub knows_by_bus : (path : Path) (k : Known) (h : ℕ) (far : Option Far) → path ≡ Bus → Knows k h far → Knows (known_by path k) h far
knows_by_bus path k h far is knows = subst (λ p. Knows (known_by p k) h far) (sym is) (knows_without k h far knows)

pub knows_by_hart : (path : Path) (k : Known) (h : ℕ) (far : Option Far) → path ≡ Progbuf → Selects h far → Knows (known_by path k) h far
knows_by_hart path k h far is selected = subst (λ p. Knows (known_by p k) h far) (sym is) selected

by_path : (path : Path) (k : Known) (h : ℕ) (old new : Option Far) → Stays old new → Knows (known_by path k) h old → Knows (known_by path k) h new
by_path Progbuf k h old new stays knows = selects_still h old new stays knows
by_path Bus known.Nothing h old new stays knows = tt
by_path Bus known.Selected h old new stays knows = selects_still h old new stays knows
by_path Bus known.Stepped h old new stays knows = selects_still h old new stays knows

pub still_knows : {A : Type 0} (path : Path) (k : Known) (h : ℕ) (old new : Option Far) (result : Result A Failure) → OnOk result (Stays old new)
    → Knows (known_by path k) h old → OnOk result (Knows (known_by path k) h new)
still_knows path k h old new (Ok value) stays knows = by_path path k h old new stays knows
still_knows path k h old new (Err f) stays knows = tt

-- ---- what is shown

stepped_by : (is : Bool) (h : ℕ) (far : Option Far) → (is ≡ true → StandsStepped h far) → Selects h far
    → Knows (if is then known.Stepped else known.Selected) h far
stepped_by true h far whole selected = whole refl
stepped_by false h far whole selected = selected

pub knows_stepped : (line : PrintedLine) (h : ℕ) (far : Option Far) → (says_step line ≡ true → StandsStepped h far) → Selects h far
    → Knows (if says_step line then known.Stepped else known.Selected) h far
knows_stepped line h far whole selected = stepped_by (says_step line) h far whole selected

-- a line is shown without a call, and beside anything else no more is known than the selection
shows_knows : (x : Shown) (h : ℕ) (old new : Option Far) → IfLine x (new ≡ old) → shows_step (Some x) ≡ true → StandsStepped h old → StandsStepped h new
shows_knows (shown.Line line) h old new same is knows = subst (StandsStepped h) (sym same) knows
shows_knows (shown.Registers y) h old new same is knows = absurd (false≢true is)
shows_knows (shown.Slots y) h old new same is knows = absurd (false≢true is)
shows_knows (shown.Elements r size address count) h old new same is knows = absurd (false≢true is)
shows_knows (shown.Bytes r address count) h old new same is knows = absurd (false≢true is)

pub shown_knows : (x : Shown) (k : Known) (h : ℕ) (old new : Option Far) → Stays old new → IfLine x (new ≡ old) → IsKnownBeside (Some x) k → Knows k h old
    → Knows k h new
shown_knows x known.Nothing h old new stays same beside knows = tt
shown_knows x known.Selected h old new stays same beside knows = selects_still h old new stays knows
shown_knows x known.Stepped h old new stays same beside knows = shows_knows x h old new same beside knows

pub known_beside : {o : Option Shown} {x : Shown} (k : Known) → o ≡ Some x → IsKnownBeside o k → IsKnownBeside (Some x) k
known_beside {o} {x} k is p = subst (λ z. IsKnownBeside z k) is p

-- ---- in front of a Look

pub knows_selects : (k : Known) (h : ℕ) (far : Option Far) → is_selected k ≡ true → Knows k h far → Selects h far
knows_selects known.Nothing h far is knows = absurd (false≢true is)
knows_selects known.Selected h far is knows = knows
knows_selects known.Stepped h far is knows = knows.serving.selects

pub knows_step : (k : Known) (h : ℕ) (far : Option Far) → is_stepped k ≡ true → Knows k h far → StandsStepped h far
knows_step known.Nothing h far is knows = absurd (false≢true is)
knows_step known.Selected h far is knows = absurd (false≢true is)
knows_step known.Stepped h far is knows = knows

-- of the hart that was met
pub knows_met : (k : Known) {x h : ℕ} (far : Option Far) → x ≡ h → Knows k h far → Knows k x far
knows_met k {x} {h} far is knows = subst (λ n. Knows k n far) (sym is) knows
