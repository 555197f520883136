-- What turns behind the transport and a halted hart that was changed meanwhile leave, by the words of the calls on registers and memory.
use Rattle.std.proofs.Common.{◌≡◌, ◌∙◌, ℕ, List, [], ◌∷◌, ◌++◌, Option, Some, None, IfSome, slice_get, refl, sym, ap, subst, append-nil}
use Rattle.rv_model.specs.Board.{Hart}
use Rattle.rv_model.specs.DebugLaws.{SameRequests}
use Rattle.rv_model.specs.Memory.{Memory}
use Rattle.debug_model.specs.Chip.{Chip}
use Rattle.debug_model.specs.Module.{Site}
use Rattle.debug_model.specs.Scan.{WhereTold}
use Rattle.debug_model.specs.Told.{Far, site_of}
use Rattle.debug_model.specs.declared.point.Point.TheVariants.{Access}
use Rattle.abstract_debugger.specs.Laws.{IsFrozenAt}
use Rattle.abstract_debugger.specs.Stands.{Target}
use Rattle.abstract_debugger.specs.Turns.{after_turns, turns}
use Rattle.abstract_debugger.proofs.FrozenLemmas.{stays_same}
use Rattle.probe_run.specs.Happens.{target_of}
use Rattle.probe_run.specs.Sites.{put_hart}
use Rattle.probe_run.specs.Told.{Serving}
use Rattle.probe_access.specs.Accesses.{with_memory}
use Rattle.probe_access.specs.Cuts.{LeftAside, LeftBehind, Leaves, Unchanged}
use Rattle.probe_access.specs.Registers.{TurnsPassed}
use Rattle.left_laws.specs.Left.{IsAmong, LeftBut, LeftFar, Scope, Spared, wiped_core}
use Rattle.left_laws.specs.Left.Spared.{Nothing, Registers}
use Rattle.left_laws.proofs.Leads.{Led, led_but, led_left, led_then, led_turns}
use Rattle.left_laws.proofs.Puts.{left_put, left_written, led_part, put_itself, stays_between}
use Rattle.left_laws.proofs.Stopped.{serving_frozen}

-- ---- turns

pub passed_led : (s : Scope) (a b : Site) → TurnsPassed a b → Led s (target_of a) (target_of b)
passed_led s a b p = led_turns s p.harts (target_of a) (target_of b) p.board p.journal

-- ---- turns, and a hart put beside them

abbrev pub behind_turns : List ℕ → Site → Target
behind_turns harts a = record { board = after_turns harts a.board; journal = a.journal ++ turns harts }

turned : (s : Scope) (harts : List ℕ) (a : Site) → Led s (target_of a) (behind_turns harts a)
turned s harts a = led_turns s harts (target_of a) (behind_turns harts a) refl refl

there : (h : ℕ) (harts : List ℕ) (a : Site) (x : Hart) → IsFrozenAt h a.board → slice_get a.board.harts h ≡ Some x
    → slice_get (after_turns harts a.board).harts h ≡ Some x
there h harts a x frozen here = stays_same h a.board harts frozen ∙ here

pub same_put : (s : Scope) (h : ℕ) (harts : List ℕ) (x y : Hart) (a : Site) (new : Target) → IsFrozenAt h a.board → slice_get a.board.harts h ≡ Some x → y ≡ x
    → new.board ≡ put_hart h y (after_turns harts a.board) → new.journal ≡ a.journal ++ turns harts → Led s (target_of a) new
same_put s h harts x y a new frozen here is board journal =
    led_turns s harts (target_of a) new
    (board ∙ ap (λ z. put_hart h z (after_turns harts a.board)) is ∙ put_itself h x (after_turns harts a.board) (there h harts a x frozen here)) journal

pub part_put : (s : Scope) (h : ℕ) (harts : List ℕ) (x y : Hart) (a : Site) (new : Target) → IsAmong h s.changes → IsFrozenAt h a.board
    → slice_get a.board.harts h ≡ Some x → y.core ≡ x.core → SameRequests x.debug y.debug
    → new.board ≡ put_hart h y (after_turns harts a.board) → new.journal ≡ a.journal ++ turns harts → Led s (target_of a) new
part_put s h harts x y a new ok frozen here core same board journal =
    led_then s (target_of a) (behind_turns harts a) new (turned s harts a)
    (led_part s h x y (behind_turns harts a) new ok (there h harts a x frozen here) core same board journal)

pub lost_put : (s : Scope) (h : ℕ) (numbers harts : List ℕ) (x y : Hart) (a : Site) (new : Target) → IsFrozenAt h a.board
    → slice_get a.board.harts h ≡ Some x → y.debug ≡ x.debug → wiped_core numbers y.core ≡ wiped_core numbers x.core
    → new.board ≡ put_hart h y (after_turns harts a.board) → new.journal ≡ a.journal ++ turns harts → LeftBut s (Registers h numbers) (target_of a) new
lost_put s h numbers harts x y a new frozen here debug core board journal =
    led_but s (Registers h numbers) (target_of a) (behind_turns harts a) new (turned s harts a)
    (left_put s h numbers x y (behind_turns harts a) new (there h harts a x frozen here) debug core board journal)

pub written_put : (s : Scope) (h : ℕ) (numbers harts : List ℕ) (x y : Hart) (a : Site) (new : Target) → IsAmong h s.changes → IsFrozenAt h a.board
    → slice_get a.board.harts h ≡ Some x → SameRequests x.debug y.debug → wiped_core numbers y.core ≡ wiped_core numbers x.core
    → new.board ≡ put_hart h y (after_turns harts a.board) → new.journal ≡ a.journal ++ turns harts → LeftBut s (Registers h numbers) (target_of a) new
written_put s h numbers harts x y a new ok frozen here same core board journal =
    led_but s (Registers h numbers) (target_of a) (behind_turns harts a) new (turned s harts a)
    (left_written s h numbers x y (behind_turns harts a) new ok (there h harts a x frozen here) same core board journal)

-- ---- by what is left aside

pub aside_same : (s : Scope) (h : ℕ) (a b : Site) → IsFrozenAt h a.board → LeftAside Unchanged h a b → Led s (target_of a) (target_of b)
aside_same s h a b frozen l = same_put s h l.harts l.hart l.left a (target_of b) frozen l.here l.one l.board l.journal

-- an access among the turns
abbrev pub behind_access : List ℕ → List ℕ → Memory → Site → Target
behind_access before behind m a = record {
  board = after_turns behind (with_memory m (after_turns before a.board));
  journal = (a.journal ++ turns before) ++ Access ∷ turns behind;
}

pub behind_same : (s : Scope) (N : Memory → Memory → Type 0) (h : ℕ) (a b : Site) → IsFrozenAt h a.board
    → ((before behind : List ℕ) (m : Memory) → N (after_turns before a.board).memory m → Led s (target_of a) (behind_access before behind m a))
    → LeftBehind Unchanged N h a b → Led s (target_of a) (target_of b)
behind_same s N h a b frozen makes l =
    let mid : Target = behind_access l.before l.behind l.memory a in
    let at : slice_get mid.board.harts h ≡ Some l.hart = stays_between h l.before l.behind l.memory a.board frozen ∙ l.here in
    led_then s (target_of a) mid (target_of b) (makes l.before l.behind l.memory l.made)
    (led_turns s [] mid (target_of b) (l.board ∙ ap (λ z. put_hart h z mid.board) l.one ∙ put_itself h l.hart mid.board at)
    (l.journal ∙ sym (append-nil mid.journal)))

pub behind_lost : (s : Scope) (Y : Hart → Hart → Type 0) (N : Memory → Memory → Type 0) (h : ℕ) (numbers : List ℕ) (a b : Site) → IsFrozenAt h a.board
    → ((x y : Hart) → Y x y → (y.debug ≡ x.debug) × (wiped_core numbers y.core ≡ wiped_core numbers x.core))
    → ((before behind : List ℕ) (m : Memory) → N (after_turns before a.board).memory m → Led s (target_of a) (behind_access before behind m a))
    → LeftBehind Y N h a b → LeftBut s (Registers h numbers) (target_of a) (target_of b)
behind_lost s Y N h numbers a b frozen loses makes l =
    let mid : Target = behind_access l.before l.behind l.memory a in
    let at : slice_get mid.board.harts h ≡ Some l.hart = stays_between h l.before l.behind l.memory a.board frozen ∙ l.here in
    let lost = loses l.hart l.left l.one in
    led_but s (Registers h numbers) (target_of a) mid (target_of b) (makes l.before l.behind l.memory l.made)
    (left_put s h numbers l.hart l.left mid (target_of b) at lost.0 lost.1 l.board l.journal)

-- ---- of a told chip

abbrev pub Left : Scope → Spared → Option Far → Option Far → Type 0
Left s spared x y = IfSome x (λ f. LeftFar s spared f y)

pub told_left : (s : Scope) (spared : Spared) (R : Chip → Option Far → Type 0) (x y : Option Far)
    → ((f : Far) → x ≡ Some f → R f.live.chip y → LeftFar s spared f y)
    → WhereTold R x y → Left s spared x y
told_left s spared R None y to w = tt
told_left s spared R (Some f) y to w = to f refl w

pub leaves_left : (s : Scope) (spared : Spared) (R : Site → Site → Type 0) (x y : Option Far)
    → ((f g : Far) → x ≡ Some f → R (site_of f) (site_of g) → LeftBut s spared (target_of (site_of f)) (target_of (site_of g)))
    → Leaves R x y → Left s spared x y
leaves_left s spared R None y to w = tt
leaves_left s spared R (Some f) y to w = record { far = w.far; is = w.is; left = to f w.far refl w.left }

pub untold_left : (s : Scope) (spared : Spared) (x y : Option Far) → x ≡ None → Left s spared x y
untold_left s spared x y is = subst (λ o. Left s spared o y) (sym is) tt

pub served : (h : ℕ) (x : Option Far) (f : Far) → Serving h x → x ≡ Some f → IsFrozenAt h (site_of f).board
served h x f serving is = serving_frozen h f (subst (Serving h) is serving)

-- where nothing is lost
pub whole : (s : Scope) (f g : Far) (y : Option Far) → y ≡ Some g → Led s (target_of (site_of f)) (target_of (site_of g)) → LeftFar s Nothing f y
whole s f g y is l = record { far = g; is = is; left = led_left s Nothing (target_of (site_of f)) (target_of (site_of g)) l }
