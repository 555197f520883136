-- When a link can be used again, and what a call keeps of a told chip.
use Rattle.std.proofs.Common.{◌≡◌, ◌∙◌, ℕ, ◌+◌, List, length, Bool, Option, Some, None, ap, sym, subst, inr}
use Rattle.debug_model.specs.Chip.{Chip}
use Rattle.debug_model.specs.Dmi.{CanOperate}
use Rattle.debug_model.specs.Kept.{ScanRests, ScanSeen}
use Rattle.debug_model.specs.Scan.{Fits, WhereTold}
use Rattle.debug_model.specs.Transport.{width_of}
use Rattle.debug_model.specs.declared.data_register.DataRegister.{DataRegister}
use Rattle.debug_model.specs.declared.data_register.DataRegister.TheVariants.{Dmi}
use Rattle.debug_model.specs.Told.{Far, IsClean, IsFree, IsIdle, IsLive, IsRead}
use Rattle.probe_dmi.specs.Registers.{CanScan, IsAsLong, IsWidth, Prepared}

pub width_kept : (R : Chip → Option Far → Type 0) (abits : ℕ) (old new : Option Far) → WhereTold R old new → IsWidth abits old → IsWidth abits new
width_kept R abits None new r w = subst (IsWidth abits) (sym r) tt
width_kept R abits (Some f) None r w = tt
width_kept R abits (Some f) (Some g) r w = w

pub can_again : (s : ScanSeen) → ScanRests s → CanScan s.far
can_again s r = again s.far r.live r.read r.free r.idle
  where
    again : (told : Option Far) → IsLive told → IsRead told → IsFree told → IsIdle told → CanScan told
    again None live read free idle = record { unended = tt; read = tt; free = tt; rest = tt }
    again (Some f) live read free idle = record { unended = rw live tt; read = read; free = free; rest = inr idle }

pub can_operate : (s : ScanSeen) → ScanRests s → IsClean s.far → CanOperate s.far
can_operate s r clean = let o = can_again s r in record { unended = o.unended; read = o.read; free = o.free; rest = o.rest; clean = clean }

pub can_first : (told : Option Far) → CanOperate told → CanScan told
can_first told o = record { unended = o.unended; read = o.read; free = o.free; rest = o.rest }

-- ---- scans as long as the register

pub fits_then : (r : DataRegister) (bits : List Bool) (old mid : Option Far) → WhereTold (Prepared r) old mid → IsAsLong r bits old → Fits bits mid
fits_then r bits None mid was long = subst (Fits bits) (sym was) tt
fits_then r bits (Some f) mid was long = subst (Fits bits) (sym was.is) (long ∙ ap width_of (sym was.selected))

pub as_long : (r : DataRegister) (bits : List Bool) (told : Option Far) → length bits ≡ width_of r → IsAsLong r bits told
as_long r bits None long = tt
as_long r bits (Some f) long = long

pub dmi_long : (abits : ℕ) (bits : List Bool) (told : Option Far) → length bits ≡ 34 + abits → IsWidth abits told → IsAsLong Dmi bits told
dmi_long abits bits None long width = tt
dmi_long abits bits (Some f) long width = long ∙ ap (λ n. 34 + n) width
