-- Steps of a session with software breakpoints over a told chip, one behind another.
use Rattle.std.proofs.Common.{◌≡◌, ◌++◌, ℕ, Bool, true, false, List, [], append_assoc, append-nil, refl, sym, subst, if◌then◌else◌}
use Rattle.abstract_debugger.specs.Lines.{Line}
use Rattle.abstract_debugger.specs.Plan.{Plan}
use Rattle.abstract_debugger.specs.Ways.{Way}
use Rattle.probe_run.specs.Acts.{Tells}
use Rattle.probe_session.specs.Goes.{Goes}
use Rattle.probe_session.specs.Led.{DealsAt, Leads}
use Rattle.probe_session.specs.Places.{Place, place}
use Rattle.probe_session.specs.Steps.{Step}
use Rattle.probe_session.proofs.LedSteps.{goes_lead}
use Rattle.soft_laws.specs.Lowered.{Table, lower}
use Rattle.soft_break.specs.Leading.{LeadsTo}
use Rattle.soft_break.specs.Patches.{Patches}
use Rattle.soft_session.specs.Led.{Onto}
use Rattle.soft_session.specs.Tables.{Holds}

pub led_then : (a b c : Place) (t u v : Tells) (xs ys : List Line) → Leads a t xs b u → Leads b u ys c v → Leads a t (xs ++ ys) c v
led_then a b c t u v xs ys first second m o lines d =
    subst (λ l. DealsAt m o c l v.far) (append_assoc lines xs ys) (second m o (lines ++ xs) (first m o lines d))

-- one step of those that a session without breakpoints makes
pub led_step : (a b : Place) (t u : Tells) (xs : List Line) → Step a t xs b u → Leads a t xs b u
led_step a b t u xs s = goes_lead a b t u xs (Goes.step Goes.start s)

pub led_same : (way : Way) (h : ℕ) (p q : Plan) (t : Tells) → p ≡ q → Leads (place way h p) t [] (place way h q) t
led_same way h p q t is = led_step (place way h p) (place way h q) t t [] (Step.same is)

-- what a call on the breakpoints says of any hart
pub led_at : (way : Way) (h : ℕ) (p q : Plan) (t u : Tells) → LeadsTo p q t.far u.far → Leads (place way h p) t [] (place way h q) u
led_at way h p q t u to m o lines d = subst (λ l. DealsAt m o (place way h q) l u.far) (sym (append-nil lines)) (to m h way o lines d)

-- to a plan that a test chooses
pub lowered_if : (b : Bool) (p q : Plan) (t : Table) (x : Bool) → b ≡ x → lower (if b then p else q) t ≡ (if x then lower p t else lower q t)
lowered_if true p q t true is = refl
lowered_if false p q t false is = refl
lowered_if true p q t false is = absurd (cc)
lowered_if false p q t true is = absurd (cc)

pub onto_here : (p : Patches) (a b : Place) (t u : Tells) (xs : List Line) (table : Table) → Holds p table → Leads a t xs b u
    → Onto p (λ k. Leads a t xs b u)
onto_here p a b t u xs table h led = record { table = table; holds = h; leads = led }
