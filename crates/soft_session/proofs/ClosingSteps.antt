-- Every breakpoint taken out, one behind another and upwards, as steps of a session's lowered plan.
use Rattle.std.proofs.Common.{◌≡◌, ◌∙◌, ◌<◌, ◌+◌, ℕ, true, List, [], ◌∷◌, length, Some, None, slice_get, refl, sym, ap, subst, arith, if◌then◌else◌}
use Rattle.std.specs.Prelude.{◌||◌}
use Rattle.std.proofs.lemmas.Bool.{eq-eqb, ne_eqb}
use Rattle.std.proofs.lemmas.Option.{none-some, same_Some}
use Rattle.abstract_debugger.specs.Plan.Plan.{stop}
use Rattle.abstract_debugger.specs.Plan.PlanEnd.{Done}
use Rattle.abstract_debugger.specs.Ways.Way.{Idle}
use Rattle.probe_run.specs.Acts.{Tells}
use Rattle.probe_session.specs.Led.{Leads}
use Rattle.probe_session.specs.Places.{Place, idle}
use Rattle.soft_laws.specs.Lowered.{Table, lower}
use Rattle.soft_laws.specs.SoftBreaks.{is_listed, without}
use Rattle.soft_laws.specs.SoftDebugger.{closing, lifting}
use Rattle.soft_break.specs.Leading.{LiftLeads}
use Rattle.soft_break.specs.Patches.{IsBelow, Patches, Upwards, original_of, without_patch}
use Rattle.soft_session.specs.Led.{Onto, at_plan}
use Rattle.soft_session.specs.Setting.{ClosedLed}
use Rattle.soft_session.specs.Tables.{Holds}
use Rattle.soft_session.proofs.LedLemmas.{led_same, led_then}
use Rattle.soft_session.proofs.SettingSteps.{lift_set}

-- ---- the lowest address

below_more : (a c : ℕ) (cs : List ℕ) → a < c → IsBelow c cs → IsBelow a cs
below_more a c [] less below = tt
below_more a c (d ∷ cs) less below = omega (arith, less, below)

-- what lies above an address is not it
without_above : (a : ℕ) (cs : List ℕ) → IsBelow a cs → Upwards cs → without a cs ≡ cs
without_above a [] below up = refl
without_above a (c ∷ cs) below up =
    ap (λ b. if b then without a cs else c ∷ without a cs) (ne_eqb a c (λ e. omega (arith, below, e)))
    ∙ ap (λ (ds : List ℕ). c ∷ ds) (without_above a cs (below_more a c cs below up.0) up.1)

pub lowest_first : (ps : List ℕ) (a : ℕ) → Upwards ps → slice_get ps 0 ≡ Some a → ps ≡ a ∷ without a ps
lowest_first [] a up is = absurd (none-some a is)
lowest_first (c ∷ cs) a up is =
    let same : c ≡ a = same_Some c a is in
    subst (λ n. c ∷ cs ≡ n ∷ without n (c ∷ cs)) same (ap (λ (ds : List ℕ). c ∷ ds)
    (sym (ap (λ b. if b then without c cs else c ∷ without c cs) (eq-eqb c c refl) ∙ without_above c cs up.0 up.1)))

pub lowest_listed : (ps : List ℕ) (a : ℕ) → slice_get ps 0 ≡ Some a → is_listed ps a ≡ true
lowest_listed [] a is = absurd (none-some a is)
lowest_listed (c ∷ cs) a is = ap (λ b. b || is_listed cs a) (eq-eqb a c (sym (same_Some c a is)))

pub none_lowest : (ps : List ℕ) → slice_get ps 0 ≡ None → ps ≡ []
none_lowest [] is = refl
none_lowest (c ∷ cs) is = absurd (none-some c (sym is))

pub one_less : (a : ℕ) (p q : Patches) → Upwards p.addresses → slice_get p.addresses 0 ≡ Some a → q ≡ without_patch a p
    → length q.addresses + 1 ≡ length p.addresses
one_less a p q up first is =
    let e : length p.addresses ≡ length (a ∷ without a p.addresses) = ap length (lowest_first p.addresses a up first) in
    let f : length q.addresses ≡ length (without a p.addresses) = ap (λ (r : Patches). length r.addresses) is in
    omega (arith, e, f)

-- ---- one behind another

pub none_closed : (p : Patches) (u : Tells) → ClosedLed p p u u
none_closed p u next t holds = record {
  table = t;
  holds = holds;
  leads = led_same Idle 0 (lower (closing p.addresses next) t) (lower (closing p.addresses next) t) u refl;
}

pub closed_one : (a : ℕ) (p q r : Patches) (old mid new : Tells) → ClosedLed p q old mid → slice_get q.addresses 0 ≡ Some a → r ≡ without_patch a q
    → LiftLeads a (original_of a q) mid.far new.far → ClosedLed p r old new
closed_one a p q r old mid new closed first is lifts next t holds =
    let o : Onto q (λ u. Leads (at_plan (closing p.addresses next) t) old [] (at_plan (closing q.addresses next) u) mid) = closed next t holds in
    let rest : List ℕ = without a q.addresses in
    let l : Onto r (λ u. Leads (at_plan (lifting a (λ original. closing rest next)) o.table) mid [] (at_plan (closing rest next) u) new) =
    lift_set a q r (λ original. closing rest next) o.table mid new (lowest_listed q.addresses a first) is lifts o.holds in
    let from : Place = at_plan (closing p.addresses next) t in
    record {
      table = l.table;
      holds = l.holds;
      leads = led_then from (at_plan (closing rest next) l.table) (at_plan (closing r.addresses next) l.table) old new new [] []
          (led_then from (at_plan (lifting a (λ original. closing rest next)) o.table) (at_plan (closing rest next) l.table) old mid new [] []
          (led_then from (at_plan (closing q.addresses next) o.table) (at_plan (lifting a (λ original. closing rest next)) o.table) old mid mid [] [] o.leads
          (led_same Idle 0 _ _ mid (ap (λ (ps : List ℕ). lower (closing ps next) o.table) (lowest_first q.addresses a o.holds.are.upwards first))))
          l.leads)
          (led_same Idle 0 _ _ new (ap (λ (s : Patches). lower (closing s.addresses next) l.table) (sym is)));
    }

-- ---- at the end

stopped : (t : Table) → lower (stop Done) t ≡ stop Done
unfolding lower
stopped t = refl

pub closed_end : (p q : Patches) (old new : Tells) → ClosedLed p q old new → q.addresses ≡ [] → (t : Table) → Holds p t
    → Onto q (λ u. Leads (at_plan (closing p.addresses (stop Done)) t) old [] (idle (stop Done)) new)
closed_end p q old new closed none t holds =
    let o : Onto q (λ u. Leads (at_plan (closing p.addresses (stop Done)) t) old [] (at_plan (closing q.addresses (stop Done)) u) new) =
    closed (stop Done) t holds in
    record {
      table = o.table;
      holds = o.holds;
      leads = led_then (at_plan (closing p.addresses (stop Done)) t) (at_plan (closing q.addresses (stop Done)) o.table) (idle
          (stop Done)) old new new [] [] o.leads
          (led_same Idle 0 _ _ new (ap (λ (ps : List ℕ). lower (closing ps (stop Done)) o.table) none ∙ stopped o.table));
    }
