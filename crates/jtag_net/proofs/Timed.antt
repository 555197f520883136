-- What a wire over a net keeps of a told chip's schedule, whatever was put and taken.
use Rattle.std.proofs.Common.{◌≡◌, ℕ, List, ◌∷◌, Option, None, Some, option_map, refl, ap, ◌∙◌}
use Rattle.std.specs.Borrow.{GName}
use Rattle.debug_model.specs.Net.{NetState, PutFront, after_put, after_take, read_on}
use Rattle.debug_model.specs.Offered.{Timing}
use Rattle.debug_model.specs.Ties.{timing_told}
use Rattle.debug_model.specs.Told.{Far}
use Rattle.debug_model.specs.Wire.{sent}
use Rattle.debug_model.specs.declared.net.End.TheVariants as ends
use Rattle.chip_laws.proofs.Timing.{feed_timing}
use Rattle.jtag_net.specs.Wired.{Took, TookSome, wired_ties}

sent_timing : (bytes : List ℕ) (told : Option Far) → timing_told (option_map (sent bytes) told) ≡ timing_told told
sent_timing bytes None = refl
sent_timing bytes (Some f) = ap (λ (t : Timing). Some t) (feed_timing f.live bytes)

read_timing : (n : ℕ) (told : Option Far) → timing_told (option_map (read_on n) told) ≡ timing_told told
read_timing n None = refl
read_timing n (Some f) = refl

pub put_ties : (name : GName) (lenders : List GName) (bytes : List ℕ) (old new : NetState) → new ≡ after_put ends.Near bytes old
    → wired_ties name lenders new ≡ wired_ties name lenders old
put_ties name lenders bytes old new is =
    ap (wired_ties name lenders) is ∙ ap (λ t. record { lenders = name ∷ lenders; net = old.ties; timing = t; began = None }) (sent_timing bytes old.chip)

pub front_ties : (name : GName) (lenders : List GName) (bytes : List ℕ) (old new : NetState) → PutFront ends.Near bytes old new
    → wired_ties name lenders new ≡ wired_ties name lenders old
front_ties name lenders bytes old new put = put_ties name lenders put.front old new put.is

take_ties : (name : GName) (lenders : List GName) (n : ℕ) (old new : NetState) → new ≡ after_take ends.Near n old
    → wired_ties name lenders new ≡ wired_ties name lenders old
take_ties name lenders n old new is =
    ap (wired_ties name lenders) is ∙ ap (λ t. record { lenders = name ∷ lenders; net = old.ties; timing = t; began = None }) (read_timing n old.chip)

pub took_ties : (name : GName) (lenders : List GName) (count : ℕ) (into : List ℕ) (old new : NetState) → Took count into old new
    → wired_ties name lenders new ≡ wired_ties name lenders old
took_ties name lenders count into old new took = take_ties name lenders count old new took.is

pub some_ties : (name : GName) (lenders : List GName) (into : List ℕ) (old new : NetState) → TookSome into old new
    → wired_ties name lenders new ≡ wired_ties name lenders old
some_ties name lenders into old new some = take_ties name lenders some.count old new some.took.is
