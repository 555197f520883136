-- A micro step on a site, out of what it does to unit, hart and memory.
use Rattle.std.proofs.Common.{◌≡◌, Bool, true, false, List, [], ◌∷◌, ◌++◌, set, Option, Some, None, slice_get, refl, sym, ap, ◌∙◌, append-nil}
use Rattle.rv_model.specs.Board.{Hart}
use Rattle.rv_model.specs.Memory.{Memory}
use Rattle.debug_model.specs.declared.micro.Micro.{Micro}
use Rattle.debug_model.specs.declared.point.Point.{Point}
use Rattle.debug_model.specs.Commands.{CommandUnit, Stepped, busy, is_under_way, micro_step}
use Rattle.debug_model.specs.Deeds.{access_points, command_stepped, stepped_by, with_stepped}
use Rattle.debug_model.specs.Module.{DebugModule, Site}
use Rattle.dbg_abstract.specs.Steps.{stepped_to}
use Rattle.dbg_module.specs.Sites.{site_of}

some_step : (steps : List Micro) (o : Option Hart) (s : Site) (x : Hart) → is_under_way steps ≡ true → o ≡ Some x
    → stepped_by steps o s ≡ with_stepped (micro_step x s.board.memory s.unit.commands) s
some_step [] o s x is here = cc
some_step (m ∷ ms) o s x is here = ap (λ p. stepped_by (m ∷ ms) p s) here

pub stepped_at : (u : DebugModule) (hs : List Hart) (m : Memory) (j : List Point) (x y : Hart) (v : CommandUnit) (after : Memory) (accessed : Bool)
    → busy u.commands ≡ true → slice_get hs u.hartsel ≡ Some x → stepped_to v y after accessed ≡ micro_step x m u.commands
    → command_stepped (site_of u hs m j) ≡ site_of (record u { commands = v }) (set hs u.hartsel y) after (j ++ access_points accessed)
stepped_at u hs m j x y v after accessed is here step =
    some_step u.commands.steps (slice_get hs u.hartsel) (site_of u hs m j) x is here
    ∙ ap (λ (d : Stepped). with_stepped d (site_of u hs m j)) (sym step)

no_step : (steps : List Micro) (o : Option Hart) (s : Site) → o ≡ None → stepped_by steps o s ≡ s
no_step [] o s here = refl
no_step (m ∷ ms) o s here = ap (λ p. stepped_by (m ∷ ms) p s) here

-- of a hart that is not there
pub not_stepped : (u : DebugModule) (hs : List Hart) (m : Memory) (j : List Point) → slice_get hs u.hartsel ≡ None
    → command_stepped (site_of u hs m j) ≡ site_of u hs m (j ++ access_points false)
not_stepped u hs m j here =
    no_step u.commands.steps (slice_get hs u.hartsel) (site_of u hs m j) here ∙ ap (site_of u hs m) (sym (append-nil j))

idle_step : (steps : List Micro) (o : Option Hart) (s : Site) → is_under_way steps ≡ false → stepped_by steps o s ≡ s
idle_step [] o s is = refl
idle_step (m ∷ ms) o s is = cc

-- with no command under way
pub idle_stepped : (u : DebugModule) (hs : List Hart) (m : Memory) (j : List Point) → busy u.commands ≡ false
    → command_stepped (site_of u hs m j) ≡ site_of u hs m (j ++ access_points false)
idle_stepped u hs m j is =
    idle_step u.commands.steps (slice_get hs u.hartsel) (site_of u hs m j) is ∙ ap (site_of u hs m) (sym (append-nil j))
