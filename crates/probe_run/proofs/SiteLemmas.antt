-- Quiet sites: what goes on between two operations is turns alone, and a frozen hart stays through them.
use Rattle.std.proofs.Common.{◌≡◌, ◌∙◌, ◌++◌, ℕ, List, [], ◌∷◌, Option, Some, None, slice_get, refl, sym, ap, subst, append_assoc, append-nil}
use Rattle.std.proofs.lemmas.Option.{none-some}
use Rattle.rv_model.specs.Board.{Board, Hart}
use Rattle.rv_model.specs.Turn.{turn_by}
use Rattle.debug_model.specs.declared.dmi_op.DmiOp.{DmiOp}
use Rattle.debug_model.specs.declared.micro.Micro.{Micro}
use Rattle.debug_model.specs.declared.bus_access.BusAccess.{BusAccess}
use Rattle.debug_model.specs.declared.point.Point.{Point}
use Rattle.debug_model.specs.Course.{DeedsAlone, OneOperation}
use Rattle.debug_model.specs.Deeds.{Deed, after_deed, bus_stepped, ran, stepped_by, turned, turned_by, with_bus_done}
use Rattle.debug_model.specs.Deeds.Deed.{Turned, CommandStepped, BusStepped}
use Rattle.debug_model.specs.Module.{Site, operated, operation_result, selected_hart}
use Rattle.debug_model.specs.SystemBus.{bus_done, bus_done_by, access_size}
use Rattle.rv_model.specs.declared.size.Size.{Size}
use Rattle.abstract_debugger.specs.Laws.{IsFrozen}
use Rattle.abstract_debugger.specs.Plan.{hart_over}
use Rattle.abstract_debugger.specs.Turns.{after_turns, turns}
use Rattle.abstract_debugger.proofs.FrozenLemmas.{frozen_may_wait, frozen_stays}
use Rattle.abstract_debugger.proofs.OverLemmas.{set-over}
use Rattle.abstract_debugger.proofs.StandsLemmas.{after_turns-append, turns-append}
use Rattle.probe_run.specs.Sites.{Amid, IsFrozenAs, IsQuiet, TurnsAlone, put_hart, spun}

-- ---- sites by their fields

pub same_site : (s t : Site) → s.unit ≡ t.unit → s.board ≡ t.board → s.journal ≡ t.journal → s ≡ t
same_site s t u b j =
    ap (λ x. let r : Site = record { unit = x; board = s.board; journal = s.journal } in r) u
    ∙ ap (λ x. let r : Site = record { unit = t.unit; board = x; journal = s.journal } in r) b
    ∙ ap (λ x. let r : Site = record { unit = t.unit; board = t.board; journal = x } in r) j

pub spun_none : (s : Site) → spun [] s ≡ s
spun_none s = same_site (spun [] s) s refl refl (append-nil s.journal)

pub spun_twice : (xs ys : List ℕ) (s : Site) → spun ys (spun xs s) ≡ spun (xs ++ ys) s
spun_twice xs ys s =
    same_site (spun ys (spun xs s)) (spun (xs ++ ys) s) refl (sym (after_turns-append xs ys s.board))
    (append_assoc s.journal (turns xs) (turns ys) ∙ ap (λ (j : List Point). s.journal ++ j) (sym (turns-append xs ys)))

-- ---- between operations

turned_alone_by : (o : Option Hart) (h : ℕ) (s : Site) → slice_get s.board.harts h ≡ o → TurnsAlone s (turned_by o h s)
turned_alone_by None h s at = record { harts = []; is = sym (spun_none s) }
turned_alone_by (Some x) h s at = record {
  harts = h ∷ [];
  is = same_site (turned_by (Some x) h s) (spun (h ∷ []) s) refl (ap (λ o. turn_by o h s.board) (sym at)) refl;
}

turned_alone : (h : ℕ) (s : Site) → TurnsAlone s (turned h s)
turned_alone h s = turned_alone_by (slice_get s.board.harts h) h s refl

command_rests : (steps : List Micro) (hart : Option Hart) (s : Site) → steps ≡ [] → stepped_by steps hart s ≡ s
command_rests [] hart s is = refl
command_rests (m ∷ ms) hart s is = cc

bus_rests_by : (pending : Option BusAccess) (size : Option Size) (s : Site) → pending ≡ None
    → with_bus_done (bus_done_by pending size s.board.memory s.unit.bus) s ≡ s
bus_rests_by None size s is = same_site (with_bus_done (bus_done_by None size s.board.memory s.unit.bus) s) s refl refl (append-nil s.journal)
bus_rests_by (Some a) size s is = absurd (none-some a (sym is))

pub bus_rests : (s : Site) → s.unit.bus.pending ≡ None → bus_stepped s ≡ s
unfolding bus_done
bus_rests s is = bus_rests_by s.unit.bus.pending (access_size s.unit.bus.access) s is

pub quiet_deed : (d : Deed) (s : Site) → IsQuiet s → TurnsAlone s (after_deed d s)
unfolding after_deed
quiet_deed (Turned h) s q = turned_alone h s
quiet_deed CommandStepped s q = record { harts = []; is = command_rests s.unit.commands.steps (selected_hart s) s q.no_command ∙ sym (spun_none s) }
quiet_deed BusStepped s q = record { harts = []; is = bus_rests s q.no_access ∙ sym (spun_none s) }

pub quiet_spun : (harts : List ℕ) (s : Site) → IsQuiet s → IsQuiet (spun harts s)
quiet_spun harts s q = record { no_command = q.no_command; no_access = q.no_access }

pub turns_then : (s t u : Site) → TurnsAlone s t → TurnsAlone t u → TurnsAlone s u
turns_then s t u a b = record { harts = a.harts ++ b.harts; is = b.is ∙ ap (spun b.harts) a.is ∙ spun_twice a.harts b.harts s }

pub quiet_along : (s t : Site) → TurnsAlone s t → IsQuiet s → IsQuiet t
quiet_along s t a q = subst (λ x. IsQuiet x) (sym a.is) (quiet_spun a.harts s q)

-- deeds of a quiet site are turns
pub quiet_ran : (ds : List Deed) (s : Site) → IsQuiet s → TurnsAlone s (ran ds s)
unfolding ran
quiet_ran [] s q = record { harts = []; is = sym (spun_none s) }
quiet_ran (d ∷ ds) s q =
    let one : TurnsAlone s (after_deed d s) = quiet_deed d s q in
    turns_then s (after_deed d s) (ran ds (after_deed d s)) one (quiet_ran ds (after_deed d s) (quiet_along s (after_deed d s) one q))

pub quiet_deeds : (s t : Site) → IsQuiet s → DeedsAlone s t → TurnsAlone s t
quiet_deeds s t q d = let r : TurnsAlone s (ran d.deeds s) = quiet_ran d.deeds s q in record { harts = r.harts; is = d.is ∙ r.is }

-- in front of an operation turns alone, and what it answers is taken behind them
pub record Before (op : DmiOp) (result : ℕ) (s t : Site) : Type 0 where
  pub before : List ℕ
  pub behind : List Deed
  pub is : t ≡ ran behind (operated op (spun before s))
  pub result_is : result ≡ operation_result op (spun before s)

pub before_operation : (op : DmiOp) (result : ℕ) (s t : Site) → IsQuiet s → OneOperation op result s t → Before op result s t
before_operation op result s t q o =
    let r : TurnsAlone s (ran o.before s) = quiet_ran o.before s q in
    record {
      before = r.harts;
      behind = o.behind;
      is = o.is ∙ ap (λ x. ran o.behind (operated op x)) r.is;
      result_is = o.result_is ∙ ap (operation_result op) r.is;
    }

-- an operation that leaves a site quiet: turns, the operation, and turns
pub record AmidOperation (op : DmiOp) (result : ℕ) (s t : Site) : Type 0 where
  pub amid : Amid (operated op) s t
  pub result_is : result ≡ operation_result op (spun amid.before s)

pub quiet_operation : (op : DmiOp) (result : ℕ) (s t : Site) → IsQuiet s → ((harts : List ℕ) → IsQuiet (operated op (spun harts s)))
    → OneOperation op result s t → AmidOperation op result s t
quiet_operation op result s t q stays o =
    let b : Before op result s t = before_operation op result s t q o in
    let r : TurnsAlone (operated op (spun b.before s)) (ran b.behind (operated op (spun b.before s))) =
    quiet_ran b.behind (operated op (spun b.before s)) (stays b.before) in
    record { amid = record { before = b.before; behind = r.harts; is = b.is ∙ r.is }; result_is = b.result_is }

-- ---- a frozen hart

frozen_part : (h : ℕ) (x : Hart) (b : Board) → IsFrozenAs h x b → IsFrozen x.debug
frozen_part h x b f = record { why = f.why; halted = f.halted; not_asked = f.not_asked }

pub frozen-turns : (h : ℕ) (x : Hart) (b : Board) (harts : List ℕ) → IsFrozenAs h x b → IsFrozenAs h x (after_turns harts b)
frozen-turns h x b harts f = record { why = f.why; is = frozen_stays h x b harts f.is (frozen_part h x b f); halted = f.halted; not_asked = f.not_asked }

put_over : (h : ℕ) (x y : Hart) (b : Board) → slice_get b.harts h ≡ Some x → put_hart h y b ≡ hart_over (λ _. y) h b
put_over h x y b is = ap (λ (hs : List Hart). let c : Board = record { harts = hs; memory = b.memory } in c) (set-over (λ _. y) b.harts h x is)

-- turns pass a frozen hart by, and so do they another frozen one in its place
pub put-turn : (h : ℕ) (x y : Hart) (b : Board) (harts : List ℕ) → IsFrozenAs h x b → IsFrozen y.debug
    → after_turns harts (put_hart h y b) ≡ put_hart h y (after_turns harts b)
put-turn h x y b harts f g =
    ap (after_turns harts) (put_over h x y b f.is)
    ∙ frozen_may_wait (λ _. y) h x b harts f.is (frozen_part h x b f) g
    ∙ sym (put_over h x y (after_turns harts b) (frozen_stays h x b harts f.is (frozen_part h x b f)))
