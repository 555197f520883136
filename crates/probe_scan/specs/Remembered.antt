-- What a scanner remembers of a TAP that it left in Run-Test/Idle: the instruction, so that no code is scanned that is there already.
-- IEEE 1149.1: the instruction stays until Update-IR or Test-Logic-Reset.
use Rattle.std.specs.Prelude.{◌≡◌, ℕ, false, Option, None, IfSome}
use Rattle.debug_model.specs.declared.data_register.DataRegister.{DataRegister}
use Rattle.debug_model.specs.Port.{data_register_of}
use Rattle.debug_model.specs.Told.{Far}

-- nothing has ended the chip, this register is selected, and TDO is 0 as behind each path
pub record Holds (r : DataRegister) (f : Far) : Type 0 where
  pub live : f.live.ended ≡ None
  pub selected : f.live.chip.port.selected ≡ r
  pub tdo : f.live.chip.port.tdo ≡ false

-- the remembered code, where there is one, is the instruction at the far end, where that is told
abbrev pub IsRemembered : Option ℕ → Option Far → Type 0
IsRemembered code told = IfSome code (λ c. IfSome told (Holds (data_register_of c)))
