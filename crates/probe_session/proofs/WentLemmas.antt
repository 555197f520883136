-- Steps of a session, one behind another.
use Rattle.std.proofs.Common.{◌≤◌, ◌++◌, ℕ, List, [], subst, sym, append_assoc, append-nil, arith}
use Rattle.abstract_debugger.specs.Lines.{Line}
use Rattle.probe_run.specs.Acts.{Tells}
use Rattle.probe_session.specs.declared.fault.Failure.{Failure}
use Rattle.probe_session.specs.Goes.{Falls, Fault, Goes, Went}
use Rattle.probe_session.specs.Goes.Goes.{start, step}
use Rattle.probe_session.specs.Places.{Place}
use Rattle.probe_session.specs.Steps.{Step}

pub one : {from to : Place} {old new : Tells} {said : List Line} → Step from old said to new → Goes from old said to new
one s = step start s

pub goes_then : {a b : Place} {t u : Tells} {xs ys : List Line} {c : Place} {v : Tells} → Goes a t xs b u → Goes b u ys c v → Goes a t (xs ++ ys) c v
goes_then {a} {b} {t} {u} {xs} g start = subst (λ l. Goes a t l b u) (sym (append-nil xs)) g
goes_then {a} {b} {t} {u} {xs} {ys} {c} {v} g (step {said = s} {more = m} h st) = subst (λ l. Goes a t l c v) (append_assoc xs s m) (step (goes_then g h) st)

pub went_one : {K : Type 0} {a b : K → Place} {t u : Tells} {said : List Line} → ((next : K) → Step (a next) t said (b next) u) → Went a b said t u
went_one s = record { goes = λ next. one (s next) }

pub went_none : {K : Type 0} {a : K → Place} {t : Tells} → Went a a [] t t
went_none = record { goes = λ next. start }

pub went_then : {K : Type 0} {a b c : K → Place} {t u v : Tells} {xs ys : List Line} → Went a b xs t u → Went b c ys u v → Went a c (xs ++ ys) t v
went_then p q = record { goes = λ next. goes_then (p.goes next) (q.goes next) }

-- in a longer plan
pub within : {K L : Type 0} {a b : L → Place} {t u : Tells} {said : List Line} (f : K → L) → Went a b said t u → Went (λ k. a (f k)) (λ k. b (f k)) said t u
within f w = record { goes = λ k. w.goes (f k) }

-- ---- a call that failed

pub falls_at : {K : Type 0} {a : K → Place} {old_count new_count : ℕ} {t u : Tells} {f : Failure} → ((next : K) → Fault (a next) old_count new_count t u f)
    → Falls a [] old_count new_count t u f
falls_at {K} {a} {old_count} {new_count} {t} {u} {f} fault = record { at = a; mid = t; count = old_count; went = went_none; later = omega arith; fault = fault }

pub falls_then : {K : Type 0} {a b : K → Place} {old_count count new_count : ℕ} {t u v : Tells} {xs ys : List Line} {f : Failure} → Went a b xs t u
    → old_count ≤ count → Falls b ys count new_count u v f
    → Falls a (xs ++ ys) old_count new_count t v f
falls_then w le p = record { at = p.at; mid = p.mid; count = p.count; went = went_then w p.went; later = omega (arith, le, p.later); fault = p.fault }

pub falls_within : {K L : Type 0} {a : L → Place} {old_count new_count : ℕ} {t u : Tells} {said : List Line} {f : Failure} (g : K → L)
    → Falls a said old_count new_count t u f → Falls (λ k. a (g k)) said old_count new_count t u f
falls_within g p = record { at = λ k. p.at (g k); mid = p.mid; count = p.count; went = within g p.went; later = p.later; fault = λ k. p.fault (g k) }
