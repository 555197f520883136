-- A chip as it was loaded, of which no answer is unread, may be operated.
use Rattle.std.proofs.Common.{◌≡◌, ℕ, List, [], Option, Some, None, refl, sym, subst, inl}
use Rattle.rv_model.specs.declared.version.Version.{Version}
use Rattle.rv_model.specs.Board.{Board}
use Rattle.debug_model.specs.Chip.{Live}
use Rattle.debug_model.specs.Dmi.{CanOperate}
use Rattle.debug_model.specs.Loaded.{live, loaded_board, loaded_chip}
use Rattle.debug_model.specs.Schedule.{RoundPlan}
use Rattle.debug_model.specs.Told.{Far, IsAsLoaded, IsRead}

operates_at : (v : Version) (board : Board) (plan : RoundPlan) (most_points : ℕ) (unread : List ℕ) → unread ≡ []
    → CanOperate (Some (record { live = live (loaded_chip v board plan most_points); unread = unread }))
operates_at v board plan most_points unread read = record {
  unended = tt;
  read = read;
  free = refl;
  rest = inl refl;
  clean = record { none_in_flight = refl; clear = refl; not_failed = refl };
}

pub loaded_operates : (told : Option Far) → IsAsLoaded told → IsRead told → CanOperate told
loaded_operates None loaded read = record { unended = tt; read = tt; free = tt; rest = tt; clean = tt }
loaded_operates (Some f) loaded read =
    subst (λ (l : Live). CanOperate (Some (record { live = l; unread = f.unread }))) (sym loaded.is)
    (operates_at loaded.version (loaded_board loaded.version loaded.image loaded.harts loaded.ram loaded.halted) loaded.plan loaded.most_points f.unread read)
