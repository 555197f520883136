-- A chain at the far side of a net, over plain variables.
use Rattle.std.proofs.Common.{◌≡◌, ◌∙◌, Bool, true, false, Option, Some, None, is_some, refl, sym}
use Rattle.std.specs.Prelude.{IsSome, option_map}
use Rattle.debug_model.specs.Chip.{Live}
use Rattle.debug_model.specs.Net.{IsConnected, NetState, Peer}
use Rattle.debug_model.specs.Told.{read_out}

untold_by : (chip : Option Live) → is_some chip ≡ false → option_map read_out chip ≡ None
untold_by None none = refl
untold_by (Some l) none = cc

-- a net that tells no chip tells none behind its opening
pub untold : (peer : Peer) (s : NetState) (told : Bool) → told ≡ false → told ≡ is_some peer.chip → IsConnected peer s → s.chip ≡ None
untold peer s told never is opened = opened.chip ∙ untold_by peer.chip (sym is ∙ never)

pub told_there : (peer : Peer) (told : Bool) → told ≡ true → told ≡ is_some peer.chip → IsSome peer.chip
told_there peer told there is = sym is ∙ there
