-- Puts leave the bytes that are to come.
use Rattle.std.proofs.Common.{◌≡◌, ℕ, List, Option, None, Some, option_map, refl, ap, ◌∙◌}
use Rattle.debug_model.specs.Net.{Exchange, NetState, PutFront, after_put, coming_in, coming_of, more_put}
use Rattle.debug_model.specs.declared.net.End.TheVariants as ends

exchange_stays : (bytes : List ℕ) (told : Option Exchange) → option_map coming_in (option_map (more_put bytes) told) ≡ option_map coming_in told
exchange_stays bytes None = refl
exchange_stays bytes (Some e) = refl

pub coming_stays : (bytes : List ℕ) (old new : NetState) → new ≡ after_put ends.Near bytes old → coming_of new ≡ coming_of old
coming_stays bytes old new is = ap coming_of is ∙ exchange_stays bytes old.exchange

pub coming_stays_cut : (bytes : List ℕ) (old new : NetState) → PutFront ends.Near bytes old new → coming_of new ≡ coming_of old
coming_stays_cut bytes old new cut = coming_stays cut.front old new cut.is
