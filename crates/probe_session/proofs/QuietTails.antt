-- What follows a line in the middle of a command changes nothing before the next point, where what follows the command does not.
use Rattle.std.proofs.Common.{ℕ, zero, suc, List, [], ◌∷◌}
use Rattle.rv_model.specs.declared.size.Size.{Size}
use Rattle.debug_model.specs.declared.command.Path.{Path}
use Rattle.abstract_debugger.specs.Debugger.{dumping, reading, saying}
use Rattle.abstract_debugger.specs.Laws.{Quiet}
use Rattle.abstract_debugger.specs.Lines.{Line}
use Rattle.abstract_debugger.specs.Plan.{Plan}

pub quiet_saying : (lines : List Line) (next : Plan) → Quiet next → Quiet (saying lines next)
quiet_saying [] next calm = calm
quiet_saying (line ∷ lines) next calm = quiet_saying lines next calm

pub quiet_reading : (path : Path) (n : ℕ) (size : Size) (address : ℕ) (next : Plan) → Quiet next → Quiet (reading path n size address next)
unfolding reading
quiet_reading path zero size address next calm = calm
quiet_reading path (suc n) size address next calm = tt

pub quiet_dumping : (path : Path) (n first : ℕ) (row : List ℕ) (next : Plan) → Quiet next → Quiet (dumping path n first row next)
unfolding dumping
quiet_dumping path zero first [] next calm = calm
quiet_dumping path zero first (byte ∷ bytes) next calm = calm
quiet_dumping path (suc n) first row next calm = tt
