-- What a command shows, and the lines of it.
use Rattle.std.proofs.Common.{◌≡◌, ◌≤◌, ℕ, Bool, List, [], Option, Some, Result, Ok, Err, OnOk, refl, sym, subst, arith}
use Rattle.debug_model.specs.declared.command.Command.{Command}
use Rattle.debug_model.specs.Kept.{DmiSeen}
use Rattle.debug_model.specs.Told.{Far}
use Rattle.abstract_debugger.specs.Debugger.{State}
use Rattle.abstract_debugger.specs.Laws.{Quiet}
use Rattle.abstract_debugger.specs.Plan.{Plan}
use Rattle.printed_lines.specs.declared.line.Line.{Line as PrintedLine}
use Rattle.probe_run.specs.Acts.{Tells}
use Rattle.probe_session.specs.declared.fault.Failure.{Failure}
use Rattle.probe_session.specs.declared.shown.Shown.{Shown}
use Rattle.probe_session.specs.declared.shown.Shown.TheVariants as shown
use Rattle.probe_session.specs.Commands.{before, behind}
use Rattle.probe_session.specs.Goes.{CalmNext, Fell, Spoke, Went}
use Rattle.probe_session.specs.Links.{Attached, AttachedAt, Goes}
use Rattle.probe_session.specs.Met.{before_look}
use Rattle.probe_session.specs.Places.{idle, still}
use Rattle.probe_session.specs.Shown.{AttachedShown, AttachedUpTo, DoneUpTo, IfLine, at_lines_of, at_shown}
use Rattle.probe_session.proofs.OneLine.{for_halted, rest}
use Rattle.probe_session.proofs.SeveralLines.{went_fell}
use Rattle.probe_session.proofs.Spoken.{fell_within, spoke_within, went_spoke}
use Rattle.probe_session.proofs.WentLemmas.{within}

-- ---- what is shown, by what it is

pub spoke_of : {x y : Shown} (wrong : Bool) {t u : Tells} {c d : Option (List ℕ)} → x ≡ y → Spoke (at_lines_of y) idle wrong t u c d
    → Spoke (at_lines_of x) idle wrong t u c d
spoke_of wrong {t} {u} {c} {d} is s = subst (λ z. Spoke (at_lines_of z) idle wrong t u c d) (sym is) s

pub fell_of : {x y : Shown} {old_count new_count : ℕ} {t u : Tells} {sink_old sink_new : ℕ} {c d : Option (List ℕ)} {f : Failure} → x ≡ y
    → Fell Quiet (at_lines_of y) old_count new_count t u sink_old sink_new c d f → Fell Quiet (at_lines_of x) old_count new_count t u sink_old sink_new c d f
fell_of {old_count = old_count} {new_count = new_count} {t = t} {u = u} {sink_old = sink_old} {sink_new = sink_new} {c = c} {d = d} {f = f} is p =
    subst (λ z. Fell Quiet (at_lines_of z) old_count new_count t u sink_old sink_new c d f) (sym is) p

-- a fact behind a line
pub line_same : (x : Shown) (far : Option Far) → IfLine x (far ≡ far)
line_same (shown.Line line) far = refl
line_same (shown.Registers y) far = tt
line_same (shown.Slots y) far = tt
line_same (shown.Elements r size address count) far = tt
line_same (shown.Bytes r address count) far = tt

pub line_of : {x y : Shown} (P : Type 0) → x ≡ y → IfLine y P → IfLine x P
line_of {x} {y} P is p = subst (λ z. IfLine z P) (sym is) p

pub ok_line_of : {A : Type 0} {x y : Shown} (result : Result A Failure) (P : Type 0) → x ≡ y → IfLine y P → OnOk result (IfLine x P)
ok_line_of (Ok value) P is p = line_of P is p
ok_line_of (Err f) P is p = tt

-- ---- of a command

-- a Look found the hart halted that is to be read
pub met_shows : (s : State) (body : ℕ → Plan → Plan) (x : ℕ) {t u : Tells} → x ≡ s.hart → Went (before_look s.hart) (λ r. still s.hart r.body) [] t u
    → Went (for_halted s (body s.hart)) (λ next. still x (body x (next s))) [] t u
met_shows s body x {t} {u} is first =
    subst (λ n. Went (for_halted s (body s.hart)) (λ next. still n (body n (next s))) [] t u) (sym is) (within (rest s (body s.hart)) first)

-- it was done, up to what it shows
pub did_as : {k j : Command} {v w : State} {x y : Shown} {b d : Tells} (s : State) (a : Tells) → k ≡ j → v ≡ w → b ≡ d → x ≡ y
    → Went (before j s) (at_shown y w) [] a d → Went (before k s) (at_shown x v) [] a b
did_as {k} {j} {v} {w} {x} {y} {b} {d} s a command_is state_is link_is shown_is did =
    subst (λ c. Went (before c s) (at_shown x v) [] a b) (sym command_is)
    (subst (λ (z : State). Went (before j s) (at_shown x z) [] a b) (sym state_is)
    (subst (λ l. Went (before j s) (at_shown x w) [] a l) (sym link_is)
    (subst (λ z. Went (before j s) (at_shown z w) [] a d) (sym shown_is) did)))

pub shown_keeps : {x y : Shown} {old b d : DmiSeen} → b ≡ d → x ≡ y → Goes AttachedShown old d (Ok y) → Goes AttachedUpTo old b (Ok (Some x))
shown_keeps {x} {y} {old} {b} {d} link_is shown_is k =
    subst (λ l. Goes AttachedUpTo old l (Ok (Some x))) (sym link_is)
    (subst (λ z. Goes AttachedUpTo old d (Ok (Some z))) (sym shown_is) (record { later = k.later; fixed = k.fixed; behind = k.behind }))

pub line_keeps : {x : Shown} {line : PrintedLine} {old b d : DmiSeen} → b ≡ d → x ≡ shown.Line line → Goes (λ _. Attached) old d (Ok line)
    → Goes AttachedUpTo old b (Ok (Some x))
line_keeps link_is shown_is k = shown_keeps link_is shown_is (record { later = k.later; fixed = k.fixed; behind = k.behind })

pub hart_line_keeps : {h : ℕ} {x : Shown} {line : PrintedLine} {old b d : DmiSeen} → b ≡ d → x ≡ shown.Line line → Goes (λ _. AttachedAt h) old d (Ok line)
    → Goes AttachedUpTo old b (Ok (Some x))
hart_line_keeps link_is shown_is k =
    line_keeps link_is shown_is (record { later = k.later; fixed = k.fixed; behind = record { stands = k.behind.stands; ready = k.behind.ready } })

-- without a call
pub chosen_keeps : {x : Shown} {line : PrintedLine} {old b : DmiSeen} → b ≡ old → x ≡ shown.Line line → Attached old → Goes AttachedUpTo old b (Ok (Some x))
chosen_keeps link_is shown_is serving = shown_keeps link_is shown_is (record { later = omega arith; fixed = refl; behind = serving })

pub done_some : {o : Option Shown} {x : Shown} (k : Command) (s v : State) {t u : Tells} → o ≡ Some x → DoneUpTo k s v t u o
    → Went (before k s) (at_shown x v) [] t u
done_some k s v {t} {u} is did = subst (DoneUpTo k s v t u) is did

-- its lines were put
pub shown_spoke : (x : Shown) (k : Command) (s v : State) {put wrong : Bool} {t u w : Tells} {c d : Option (List ℕ)} → put ≡ wrong
    → Went (before k s) (at_shown x v) [] t u → Spoke (at_lines_of x) idle put u w c d → Spoke (before k s) (behind v) wrong t w c d
shown_spoke x k s v {t = t} {w = w} {c = c} {d = d} is did sp = subst (λ z. Spoke (before k s) (behind v) z t w c d) is
    (went_spoke did (spoke_within (λ (next : State → Plan). next v) sp))

pub shown_fell : (x : Shown) (k : Command) (s v : State) {old_count count new_count : ℕ} {t u w : Tells} {sink_old sink_new : ℕ} {c d : Option (List ℕ)}
    {f : Failure} → Went (before k s) (at_shown x v) [] t u → old_count ≤ count → Fell Quiet (at_lines_of x) count new_count u w sink_old sink_new c d f
    → Fell CalmNext (before k s) old_count new_count t w sink_old sink_new c d f
shown_fell x k s v did le fell = went_fell did le (fell_within (λ (next : State → Plan). next v) (λ next calm. calm v) fell)
