-- What the instruction at pc touches, by the instructions.
use Rattle.std.proofs.Common.{◌≡◌, ℕ, Option, Some, None, Result, Ok, Err, refl}
use Rattle.rv_model.specs.declared.insn.Insn.{Insn}
use Rattle.rv_model.specs.declared.insn.Insn.TheVariants.{Load}
use Rattle.rv_model.specs.declared.mem_fault.MemFault.{MemFault}
use Rattle.rv_model.specs.Core.{Core}
use Rattle.rv_model.specs.Memory.{Memory, fetch_of}
use Rattle.rv_model.specs.Rows.{meaning}
use Rattle.rv_model.specs.Touch.{touch, touch_meant, touch_fetched, touch_of}

touch-pc : (insn : Insn) (c : Core) → (touch insn c).pc ≡ c.pc
touch-pc (Load op p) c = refl
touch-pc insn c = refl

touch_meant-pc : (o : Option Insn) (c : Core) → (touch_meant o c).pc ≡ c.pc
touch_meant-pc (Some insn) c = touch-pc insn c
touch_meant-pc None c = refl

touch_fetched-pc : (r : Result ℕ MemFault) (c : Core) → (touch_fetched r c).pc ≡ c.pc
touch_fetched-pc (Ok w) c = touch_meant-pc (meaning w) c
touch_fetched-pc (Err fault) c = refl

-- the address that a trigger compares with an instruction's is the core's pc
pub touch_of-pc : (c : Core) (m : Memory) → (touch_of c m).pc ≡ c.pc
unfolding touch_of
touch_of-pc c m = touch_fetched-pc (fetch_of m c.pc) c
