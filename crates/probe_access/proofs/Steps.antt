-- A command's micro steps while turns pass: a transfer is one step at any moment, an access is made at one moment.
use Rattle.std.proofs.Common.{◌≡◌, ◌∙◌, ℕ, List, [], ◌∷◌, ◌++◌, set, false, Option, Some, None, slice_get, sym, ap, append-nil}
use Rattle.std.proofs.Math.Seq.{set-set}
use Rattle.rv_model.specs.Board.{Hart}
use Rattle.rv_model.specs.Memory.{Memory}
use Rattle.debug_model.specs.declared.micro.Micro.{Micro}
use Rattle.debug_model.specs.declared.point.Point.{Point}
use Rattle.debug_model.specs.Commands.{CommandUnit, Stepped, micro_step}
use Rattle.debug_model.specs.Deeds.{Deed, access_points, after_deed, bus_stepped, command_stepped, ran, stepped_by, turned, with_stepped}
use Rattle.debug_model.specs.Deeds.Deed.{Turned, CommandStepped, BusStepped}
use Rattle.debug_model.specs.Module.{DebugModule, Site}
use Rattle.probe_access.proofs.Aside.{Frozen, HartAt, aside, passed, with_unit}
use Rattle.probe_access.proofs.Turns.{aside_turned, hart_aside, passed-append, stays_passed}
use Rattle.probe_run.proofs.SiteLemmas.{bus_rests}
use Rattle.probe_access.proofs.Quiet.{command_quiet}

-- ---- one micro step

-- what it does to memory and journal
abbrev moved : Stepped → Site → Site
moved d t = record { unit = t.unit; board = record { harts = t.board.harts; memory = d.memory }; journal = t.journal ++ access_points d.accessed }

some_step : (steps : List Micro) (m : Micro) (ms : List Micro) (o : Option Hart) (s : Site) (x : Hart) → steps ≡ m ∷ ms → o ≡ Some x
    → stepped_by steps o s ≡ with_stepped (micro_step x s.board.memory s.unit.commands) s
some_step steps m ms o s x is here = ap (λ (ns : List Micro). stepped_by ns o s) is ∙ ap (λ p. stepped_by (m ∷ ms) p s) here

pub stepped_aside : (m : DebugModule) (h : ℕ) (x : Hart) (t : Site) (w : Hart) (a : Micro) (rest : List Micro) → HartAt h t w → m.hartsel ≡ h
    → m.commands.steps ≡ a ∷ rest
    → command_stepped (aside m h x t) ≡ aside (with_unit (micro_step x t.board.memory m.commands).unit m) h (micro_step x t.board.memory m.commands).hart
    (moved (micro_step x t.board.memory m.commands) t)
stepped_aside m h x t w a rest here selected under_way =
    let d : Stepped = micro_step x t.board.memory m.commands in
    some_step m.commands.steps a rest (slice_get (set t.board.harts h x) m.hartsel) (aside m h x t) x under_way
    (ap (λ n. slice_get (set t.board.harts h x) n) selected ∙ hart_aside m h x t w here)
    ∙ ap (λ n. let s : Site = record {
      unit = with_unit d.unit m;
      board = record { harts = set (set t.board.harts h x) n d.hart; memory = d.memory };
      journal =
          t.journal ++ access_points d.accessed;
    } in s) selected
    ∙ ap (λ hs. let s : Site = record {
      unit = with_unit d.unit m;
      board = record { harts = hs; memory = d.memory };
      journal =
          t.journal ++ access_points d.accessed;
    } in s) (set-set t.board.harts h x d.hart)

-- one that leaves memory alone
pub record Does (x : Hart) (u : CommandUnit) (y : Hart) (v : CommandUnit) : Type 0 where
  pub each : (m : Memory) → micro_step x m u ≡ record { unit = v; hart = y; memory = m; accessed = false }

abbrev kept_moved : DebugModule → ℕ → Site → Stepped → Site
kept_moved m h t d = aside (with_unit d.unit m) h d.hart (moved d t)

pub does_aside : (m : DebugModule) (h : ℕ) (x : Hart) (t : Site) (w : Hart) (a : Micro) (rest : List Micro) (y : Hart) (v : CommandUnit)
    → HartAt h t w → m.hartsel ≡ h → m.commands.steps ≡ a ∷ rest → Does x m.commands y v → command_stepped (aside m h x t) ≡ aside (with_unit v m) h y t
does_aside m h x t w a rest y v here selected under_way does =
    stepped_aside m h x t w a rest here selected under_way
    ∙ ap (kept_moved m h t) (does.each t.board.memory)
    ∙ ap (λ (j : List Point). aside (with_unit v m) h y (let s : Site = record { unit = t.unit; board = t.board; journal = j } in s)) (append-nil t.journal)

-- ---- a command of one such step

-- since a base some turns, and the step is still to come or was done
pub data Between (m n : DebugModule) (h : ℕ) (x y : Hart) (base s : Site) : Type 0 where
  still : (harts : List ℕ) → s ≡ aside m h x (passed harts base) → Between m n h x y base s
  done : (harts : List ℕ) → s ≡ aside n h y (passed harts base) → Between m n h x y base s

-- what each stage rests on
pub record Course (m : DebugModule) (h : ℕ) (x : Hart) (base : Site) (w : Hart) : Type 0 where
  pub here : HartAt h base w
  pub frozen : Frozen w
  pub frozen_x : Frozen x
  pub selected : m.hartsel ≡ h
  pub bus : m.bus.pending ≡ None

between_turn : (m n : DebugModule) (h : ℕ) (x y : Hart) (base : Site) (w : Hart) (g : ℕ) (s : Site) → HartAt h base w → Frozen w → Frozen x → Frozen y
    → Between m n h x y base s → Between m n h x y base (turned g s)
unfolding passed
between_turn m n h x y base w g s here f fx fy (still harts is) =
    still (harts ++ g ∷ []) (ap (turned g) is ∙ aside_turned m h g x (passed harts base) w (stays_passed h harts base w here f) f fx
    ∙ ap (aside m h x) (sym (passed-append harts (g ∷ []) base)))
between_turn m n h x y base w g s here f fx fy (done harts is) =
    done (harts ++ g ∷ []) (ap (turned g) is ∙ aside_turned n h g y (passed harts base) w (stays_passed h harts base w here f) f fy
    ∙ ap (aside n h y) (sym (passed-append harts (g ∷ []) base)))

between_step : (m : DebugModule) (v : CommandUnit) (h : ℕ) (x y : Hart) (base : Site) (w : Hart) (a : Micro) (s : Site) → Course m h x base w
    → m.commands.steps ≡ a ∷ [] → v.steps ≡ [] → Does x m.commands y v
    → Between m (with_unit v m) h x y base s → Between m (with_unit v m) h x y base (command_stepped s)
between_step m v h x y base w a s c one none does (still harts is) =
    done harts (ap command_stepped is ∙ does_aside m h x (passed harts base) w a [] y v (stays_passed h harts base w c.here c.frozen) c.selected one does)
between_step m v h x y base w a s c one none does (done harts is) =
    done harts (ap command_stepped is ∙ command_quiet (aside (with_unit v m) h y (passed harts base)) none)

between_bus : (m n : DebugModule) (h : ℕ) (x y : Hart) (base s : Site) → m.bus.pending ≡ None → n.bus.pending ≡ None → Between m n h x y base s
    → Between m n h x y base (bus_stepped s)
between_bus m n h x y base s idle still_idle (still harts is) = still harts (ap bus_stepped is ∙ bus_rests (aside m h x (passed harts base)) idle)
between_bus m n h x y base s idle still_idle (done harts is) = done harts (ap bus_stepped is ∙ bus_rests (aside n h y (passed harts base)) still_idle)

pub between_ran : (ds : List Deed) (m : DebugModule) (v : CommandUnit) (h : ℕ) (x y : Hart) (base : Site) (w : Hart) (a : Micro) (s : Site)
    → Course m h x base w → Frozen y → m.commands.steps ≡ a ∷ [] → v.steps ≡ [] → Does x m.commands y v
    → Between m (with_unit v m) h x y base s → Between m (with_unit v m) h x y base (ran ds s)
unfolding ran after_deed
between_ran [] m v h x y base w a s c fy one none does b = b
between_ran (Turned g ∷ ds) m v h x y base w a s c fy one none does b =
    between_ran ds m v h x y base w a (turned g s) c fy one none does (between_turn m (with_unit v m) h x y base w g s c.here c.frozen c.frozen_x fy b)
between_ran (CommandStepped ∷ ds) m v h x y base w a s c fy one none does b =
    between_ran ds m v h x y base w a (command_stepped s) c fy one none does (between_step m v h x y base w a s c one none does b)
between_ran (BusStepped ∷ ds) m v h x y base w a s c fy one none does b =
    between_ran ds m v h x y base w a (bus_stepped s) c fy one none does (between_bus m (with_unit v m) h x y base s c.bus c.bus b)

-- the end
pub record DoneAt (n : DebugModule) (h : ℕ) (y : Hart) (base s : Site) : Type 0 where
  pub harts : List ℕ
  pub is : s ≡ aside n h y (passed harts base)

some_none : (a : Micro) (rest : List Micro) → a ∷ rest ≡ [] → ⊥
some_none a rest e = cc

pub between_done : (m n : DebugModule) (h : ℕ) (x y : Hart) (base s : Site) (a : Micro) (rest : List Micro) → m.commands.steps ≡ a ∷ rest
    → s.unit.commands.steps ≡ [] → Between m n h x y base s → DoneAt n h y base s
between_done m n h x y base s a rest one none (still harts is) =
    absurd (some_none a rest (sym one ∙ ap (λ (t : Site). t.unit.commands.steps) (sym is) ∙ none))
between_done m n h x y base s a rest one none (done harts is) = record { harts = harts; is = is }
