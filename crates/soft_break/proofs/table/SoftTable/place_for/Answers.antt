use Rattle.std.proofs.Common.{length, nat_lt, sym, ◌∙◌, ap}
use Rattle.soft_break.specs.Patches.{Patches}
use Rattle.soft_break.proofs.Covering.{no_place, place_found}
use Rattle.soft_break.proofs.table.SoftTable.place_for.Goals as goal

pub returns-in-Some-clause-place : goal.returns-in-Some-clause-place
returns-in-Some-clause-place c =
    sym (place_found (λ a. nat_lt c.args.at a) c.args.self.now.addresses c.in-Some.place (sym c.place_above.ensures.place ∙ c.in-Some.is))

pub returns-in-None-clause-place : goal.returns-in-None-clause-place
returns-in-None-clause-place c =
    c.len.ensures.value ∙ ap (λ (p : Patches). length p.addresses) c.self.view_is
    ∙ sym (no_place (λ a. nat_lt c.args.at a) c.args.self.now.addresses (sym c.place_above.ensures.place ∙ c.in-None.is))
