-- With nothing under way what happens behind the transport is turns alone.
use Rattle.std.proofs.Common.{◌≡◌, ◌∙◌, List, [], ◌∷◌, Option, Some, None, refl, ap}
use Rattle.rv_model.specs.Board.{Hart}
use Rattle.debug_model.specs.declared.micro.Micro.{Micro}
use Rattle.debug_model.specs.Deeds.{Deed, after_deed, bus_stepped, command_stepped, ran, stepped_by, turned}
use Rattle.debug_model.specs.Deeds.Deed.{Turned, CommandStepped, BusStepped}
use Rattle.debug_model.specs.Module.{DebugModule, Site, selected_hart}
use Rattle.probe_run.proofs.SiteLemmas.{bus_rests}
use Rattle.probe_access.proofs.Aside.{harts_of, passed}
use Rattle.probe_access.proofs.Turns.{unit_turned}

pub command_quiet : (s : Site) → s.unit.commands.steps ≡ [] → command_stepped s ≡ s
command_quiet s is = ap (λ steps. stepped_by steps (selected_hart s) s) is

pub quiet_ran : (ds : List Deed) (s : Site) → s.unit.commands.steps ≡ [] → s.unit.bus.pending ≡ None → ran ds s ≡ passed (harts_of ds) s
unfolding ran after_deed passed
quiet_ran [] s none idle = refl
quiet_ran (Turned h ∷ ds) s none idle =
    quiet_ran ds (turned h s) (ap (λ (m : DebugModule). m.commands.steps) (unit_turned h s) ∙ none)
    (ap (λ (m : DebugModule). m.bus.pending) (unit_turned h s) ∙ idle)
quiet_ran (CommandStepped ∷ ds) s none idle = ap (ran ds) (command_quiet s none) ∙ quiet_ran ds s none idle
quiet_ran (BusStepped ∷ ds) s none idle = ap (ran ds) (bus_rests s idle) ∙ quiet_ran ds s none idle

-- ---- a module that works goes on working

active_by : (steps : List Micro) (o : Option Hart) (s : Site) → (stepped_by steps o s).unit.active ≡ s.unit.active
active_by [] o s = refl
active_by (m ∷ ms) (Some hart) s = refl
active_by (m ∷ ms) None s = refl

pub active_ran : (ds : List Deed) (s : Site) → (ran ds s).unit.active ≡ s.unit.active
unfolding ran after_deed
active_ran [] s = refl
active_ran (Turned h ∷ ds) s = active_ran ds (turned h s) ∙ ap (λ (m : DebugModule). m.active) (unit_turned h s)
active_ran (CommandStepped ∷ ds) s = active_ran ds (command_stepped s) ∙ active_by s.unit.commands.steps (selected_hart s) s
active_ran (BusStepped ∷ ds) s = active_ran ds (bus_stepped s)
