-- What each call on the registers of a halted hart leaves of a told chip, whatever it answers. Each law takes the call's own clauses.
-- RISC-V Debug Specification 1.0, "Access Register".
use Rattle.std.specs.Prelude.{ℕ, true, false, [], ◌∷◌, IfErr, IfOk, OnOk, Result, ⊤}
use Rattle.rv_model.specs.DebugRegisters.{dcsr_number}
use Rattle.debug_model.specs.Kept.{DmiSeen}
use Rattle.probe_run.specs.Told.{OnChip, Serving}
use Rattle.probe_access.specs.declared.fault.AccessFault.{AccessFault}
use Rattle.probe_access.specs.declared.scratch.Scratch.{Scratch}
use Rattle.probe_access.specs.declared.stopped.Stop.{Stop}
use Rattle.probe_access.specs.Cuts.{IfCut, LeftAside, Leaves, MaybePutBack, MaybeWritten, Unchanged}
use Rattle.probe_access.specs.Pending.{RegisterCutAt, RegisterGotAt, is_mip}
use Rattle.probe_access.specs.Registers.{RegisterLeft, RegisterReadAt, RegisterWrittenAt}
use Rattle.probe_access.specs.Scratches.{PutBackAt, SavedAt, ScratchLeft}
use Rattle.probe_access.specs.Stops.{StoppedAt}
use Rattle.left_laws.specs.Left.{LeavesBut, scratch}
use Rattle.left_laws.specs.Left.Spared.{Nothing, Registers}
use Rattle.left_laws.specs.Scopes.{changing, passive, reading}

-- a read of mip alone is an access
abbrev pub RegLeaves : Type 0
RegLeaves = (h register : ℕ) (old new : DmiSeen) (result : Result ℕ AccessFault) → Serving h old.far
    → IfOk result (λ value. OnChip (RegisterGotAt h register value) old new)
    → IfErr result (RegisterLeft false h register old.far new.far)
    → IfErr result (IfCut (Leaves (RegisterCutAt register h) old.far new.far))
    → LeavesBut (reading (is_mip register)) Nothing old new

abbrev pub HeldRegLeaves : Type 0
HeldRegLeaves = (h register : ℕ) (old new : DmiSeen) (result : Result ℕ AccessFault) → Serving h old.far
    → IfOk result (λ value. OnChip (RegisterReadAt h register value) old new)
    → IfErr result (RegisterLeft false h register old.far new.far)
    → IfErr result (IfCut (Leaves (LeftAside Unchanged h) old.far new.far))
    → LeavesBut passive Nothing old new

-- the register that is written may be lost, and so may what it is of the debug part
abbrev pub SetRegLeaves : Type 0
SetRegLeaves = (h register value : ℕ) (old new : DmiSeen) (result : Result ⊤ AccessFault) → Serving h old.far
    → OnOk result (OnChip (RegisterWrittenAt h register value) old new)
    → IfErr result (RegisterLeft true h register old.far new.far)
    → IfErr result (IfCut (Leaves (LeftAside (MaybeWritten register value) h) old.far new.far))
    → LeavesBut (changing h) (Registers h (register ∷ [])) old new

abbrev pub SaveLeaves : Type 0
SaveLeaves = (h : ℕ) (old new : DmiSeen) (result : Result Scratch AccessFault) → Serving h old.far
    → IfOk result (λ scratch. OnChip (SavedAt h scratch.x8 scratch.x9) old new)
    → IfErr result (ScratchLeft old.far)
    → IfErr result (IfCut (Leaves (LeftAside Unchanged h) old.far new.far))
    → LeavesBut passive Nothing old new

abbrev pub RestoreLeaves : Type 0
RestoreLeaves = (h x8 x9 : ℕ) (old new : DmiSeen) (result : Result ⊤ AccessFault) → Serving h old.far
    → OnOk result (OnChip (PutBackAt h x8 x9) old new)
    → IfErr result (ScratchLeft old.far)
    → IfErr result (IfCut (Leaves (LeftAside (MaybePutBack x8 x9) h) old.far new.far))
    → LeavesBut passive (Registers h scratch) old new

abbrev pub StopLeaves : Type 0
StopLeaves = (h : ℕ) (old new : DmiSeen) (result : Result Stop AccessFault) → Serving h old.far
    → IfOk result (λ stop. OnChip (StoppedAt h stop.pc stop.cause) old new)
    → IfErr result (ScratchLeft old.far)
    → IfErr result (IfCut (Leaves (LeftAside Unchanged h) old.far new.far))
    → LeavesBut passive Nothing old new

abbrev pub ReadDcsrLeaves : Type 0
ReadDcsrLeaves = (h : ℕ) (old new : DmiSeen) (result : Result ℕ AccessFault) → Serving h old.far
    → IfOk result (λ word. OnChip (RegisterReadAt h dcsr_number word) old new)
    → IfErr result (ScratchLeft old.far)
    → IfErr result (IfCut (Leaves (LeftAside Unchanged h) old.far new.far))
    → LeavesBut passive Nothing old new
