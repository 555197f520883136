-- Where the calls of software breakpoints lead a session whose chip is told: from a place of its lowered plan to the next.
-- It is this project's own: over every origin, every plan that follows and all lines said before, whatever is known of the selected hart.
use Rattle.std.specs.Prelude.{◌≡◌, ℕ, true, false, List, Option, option_map}
use Rattle.rv_model.specs.Board.{Machine}
use Rattle.debug_model.specs.Told.{Far, site_of}
use Rattle.abstract_debugger.specs.Lines.{Line}
use Rattle.abstract_debugger.specs.Plan.{Plan}
use Rattle.abstract_debugger.specs.Plan.Plan.{say}
use Rattle.abstract_debugger.specs.Stands.{At, Origin, Target}
use Rattle.abstract_debugger.specs.Ways.{Way}
use Rattle.probe_run.specs.Happens.{target_of}
use Rattle.soft_laws.specs.Lowered.{Table, lower, patched_table}
use Rattle.soft_laws.specs.Shown.{original_at}
use Rattle.soft_laws.specs.SoftBreaks.{AreSoftAddresses, is_listed}
use Rattle.soft_laws.specs.SoftDebugger.{covering, lifting, planting}

-- what a session knows of the chip that a link tells of
abbrev pub told_target : Option Far → Option Target
told_target far = option_map (λ f. target_of (site_of f)) far

-- whoever has followed the plan to the first place has followed it to the second
abbrev pub LeadsTo : (from to : Plan) → (old new : Option Far) → Type 0
LeadsTo from to old new = (m : Machine) (selected : ℕ) (way : Way) (o : Origin) (lines : List Line)
    → At m selected way o from lines (told_target old) → At m selected way o to lines (told_target new)

-- the word at a covered address, of which the table remembers this, is uncovered
abbrev pub LiftLeads : (a original : ℕ) → (old new : Option Far) → Type 0
LiftLeads a original old new = (next : ℕ → Plan) (t : Table) → is_listed t.covered a ≡ true → original_at t a ≡ original
    → LeadsTo (lower (lifting a next) t) (lower (next original) (patched_table false a original t)) old new

-- the word at an address is covered
abbrev pub CoverLeads : (a : ℕ) → (old new : Option Far) → Type 0
CoverLeads a old new = (original : ℕ) (next : Plan) (t : Table) → LeadsTo (lower (covering a original next) t) (lower next (patched_table true a original t)) old new

-- a breakpoint was set where none was
abbrev pub PlantLeads : (a original : ℕ) → (old new : Option Far) → Type 0
PlantLeads a original old new = (next set : Plan) (t : Table) → AreSoftAddresses t.covered → is_listed t.covered a ≡ false
    → LeadsTo (lower (planting a next set) t) (lower (say (Line.SoftSet a) set) (patched_table true a original t)) old new

-- a breakpoint was to be set outside memory
abbrev pub RefusalLeads : (a : ℕ) → (old new : Option Far) → Type 0
RefusalLeads a old new = (next set : Plan) (t : Table) → AreSoftAddresses t.covered → is_listed t.covered a ≡ false
    → LeadsTo (lower (planting a next set) t) (lower (say (Line.MemoryFault a) next) t) old new
