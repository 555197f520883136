-- What a session lets TCK rise, over what it stands on, and behind the end of its stream.
use Rattle.std.proofs.Common.{◌≡◌, ◌+◌, ◌*◌, ◌≤◌, ℕ, List, Option, Some, None, IfSome, option_map, refl, sym, ap, subst}
use Rattle.debug_model.specs.declared.command.Command.{Command}
use Rattle.debug_model.specs.Chip.{Chip}
use Rattle.debug_model.specs.Kept.{DmiSeen}
use Rattle.debug_model.specs.Pacing.{Paced}
use Rattle.debug_model.specs.Rises.{PacedWithin, Within, rate, rises_in}
use Rattle.debug_model.specs.Scan.{WhereTold}
use Rattle.debug_model.specs.Told.{Far, chip_of}
use Rattle.debug_model.specs.Wire.{SentFront, sent}
use Rattle.probe_session.specs.declared.ended.Ended.{Ended as End}
use Rattle.probe_session.specs.Budget.{script_rises}
use Rattle.wire_session.specs.Budget.{WithinBudget}
use Rattle.wire_session.specs.Closing.{Closes, quit}
use Rattle.wire_session.specs.Closing.Closes.{behind_fault, quitted, unquitted}
use Rattle.wire_session.specs.Seen.{WireSeen}
use Rattle.wire_session.proofs.StreamEnds.{front_chip, sent_chip}

-- a link tells what its scans tell
pub over_scans : (script : List Command) (old new : DmiSeen) → Within (script_rises script) old new → WithinBudget old.fixed.slack script old.far new.far
over_scans script old new w = record { told = w.told }

-- ---- the end of the stream

-- where a chip is told it is told still, and the same
abbrev pub SameChip : Option Far → Option Far → Type 0
SameChip None new = new ≡ None
SameChip (Some f) new = (g : Far) × (new ≡ Some g) × (chip_of g ≡ chip_of f)

same_here : (mid new : Option Far) → new ≡ mid → SameChip mid new
same_here None new is = is
same_here (Some f) new is = (f, is, refl)

same_sent : (mid new : Option Far) → new ≡ option_map (sent quit) mid → SameChip mid new
same_sent None new is = is
same_sent (Some f) new is = (sent quit f, is, sent_chip f)

same_front : (mid new : Option Far) → SentFront quit mid new → SameChip mid new
same_front None new is = is
same_front (Some f) new s = (sent s.0 f, s.3, front_chip f s.0 s.1 s.2)

pub closes_chip : (mid new : WireSeen) (end closed : End) → Closes mid new end closed → SameChip mid.far new.far
closes_chip mid new end closed (behind_fault sends is same) = same_here mid.far new.far (ap (λ (w : WireSeen). w.far) same)
closes_chip mid new end closed (quitted sends is done) = same_sent mid.far new.far done.far
closes_chip mid new end closed (unquitted why sends is done) = same_front mid.far new.far done.far

paced_same : (slack : Option ℕ) (n : ℕ) (c : Chip) (f : Far) (new : Option Far) → SameChip (Some f) new → Paced (chip_of f).inside
    → IfSome slack (λ s. rises_in (chip_of f).inside ≤ rises_in c.inside + n * rate s) → PacedWithin slack n c new
paced_same slack n c f new same paced most = record {
  far = same.0;
  is = same.1;
  paced = subst (λ (x : Chip). Paced x.inside) (sym same.2) paced;
  most = subst (λ (x : Chip). IfSome slack (λ s. rises_in x.inside ≤ rises_in c.inside + n * rate s)) (sym same.2) most;
}

within_same : (slack : Option ℕ) (n : ℕ) (c : Chip) (mid new : Option Far) → SameChip mid new → PacedWithin slack n c mid → PacedWithin slack n c new
within_same slack n c mid new same p =
    paced_same slack n c p.far new (subst (λ m. SameChip m new) p.is same) p.paced p.most

pub told_same : (slack : Option ℕ) (n : ℕ) (old mid new : Option Far) → SameChip mid new → WhereTold (λ c now. Paced c.inside → PacedWithin slack n c now) old mid
    → WhereTold (λ c now. Paced c.inside → PacedWithin slack n c now) old new
told_same slack n None mid new same none = subst (λ m. SameChip m new) none same
told_same slack n (Some f) mid new same told = λ paced. within_same slack n (chip_of f) mid new same (told paced)

pub closes_budget : (slack : Option ℕ) (script : List Command) (old : Option Far) (mid new : WireSeen) (end closed : End) → Closes mid new end closed
    → WithinBudget slack script old mid.far → WithinBudget slack script old new.far
closes_budget slack script old mid new end closed closes w =
    record { told = told_same slack (script_rises script) old mid.far new.far (closes_chip mid new end closed closes) w.told }
