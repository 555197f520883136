-- What is left of a told chip where a block of accesses or a single step broke off.
-- It is this project's own: elements in front were done, and the one that was under way is left as a single access is; a step has come so far.
use Rattle.std.specs.Prelude.{◌≡◌, ◌⊎◌, ◌<◌, ◌++◌, ℕ, List, length, Bool, true, false}
use Rattle.rv_model.specs.declared.size.Size.{Size}
use Rattle.rv_model.specs.Board.{Hart}
use Rattle.debug_model.specs.declared.point.Point.TheVariants.{ResumeReq}
use Rattle.debug_model.specs.Module.{Site}
use Rattle.abstract_debugger.specs.Debugger.{sees_both}
use Rattle.abstract_debugger.specs.Stands.{Rewrote, Target}
use Rattle.probe_run.specs.Happens.{RunCut, StepsAt, target_of}
use Rattle.probe_access.specs.Blocks.{LoadedEach, StoredEach, element_at}
use Rattle.probe_access.specs.Cuts.{AccessLeftOff, LeftAside, LoadLeaves, Scratched, StoreLeaves}
use Rattle.probe_access.specs.SingleSteps.{with_step}

-- ---- blocks

-- the first elements of the block were accessed, those that were handed out and maybe more, and then at most one more of it
pub data BlockLoadCut (size : Size) (address count : ℕ) (values : List ℕ) (h : ℕ) (s t : Site) : Type 0 where
  within : (more : List ℕ) (mid : Site) → length (values ++ more) < count → LoadedEach size address s (values ++ more) mid
      → AccessLeftOff Scratched LoadLeaves h mid t → BlockLoadCut size address count values h s t
  behind : (more : List ℕ) (mid : Site) → length (values ++ more) ≡ count → LoadedEach size address s (values ++ more) mid
      → LeftAside Scratched h mid t → BlockLoadCut size address count values h s t

pub data BlockStoreCut (size : Size) (address value count h : ℕ) (s t : Site) : Type 0 where
  within : (done : ℕ) (mid : Site) → done < count → StoredEach size address value s done mid
      → AccessLeftOff Scratched (StoreLeaves size (element_at size address done) value) h mid t → BlockStoreCut size address value count h s t
  behind : (mid : Site) → StoredEach size address value s count mid → LeftAside Scratched h mid t → BlockStoreCut size address value count h s t

-- ---- a single step

-- the step flag was written, or not yet
abbrev pub MaybeFlagged : Bool → Hart → Hart → Type 0
MaybeFlagged on x y = (y ≡ x) ⊎ (y ≡ with_step on x)

-- while the hart ran
pub record CutRunning (h : ℕ) (s t : Site) : Type 0 where
  pub begun : Target
  pub sets : Rewrote (with_step true) h (target_of s) begun
  pub runs : RunCut (ResumeReq h) sees_both h begun (target_of t)
  pub bus : t.unit.bus ≡ s.unit.bus

-- while the flag was cleared
pub record CutClearing (h : ℕ) (s t : Site) : Type 0 where
  pub begun : Target
  pub ran : Site
  pub sets : Rewrote (with_step true) h (target_of s) begun
  pub runs : StepsAt h begun (target_of ran)
  pub clears : LeftAside (MaybeFlagged false) h ran t
  pub bus : t.unit.bus ≡ s.unit.bus

pub data StepCut (h : ℕ) (s t : Site) : Type 0 where
  setting : LeftAside (MaybeFlagged true) h s t → StepCut h s t
  running : CutRunning h s t → StepCut h s t
  clearing : CutClearing h s t → StepCut h s t
