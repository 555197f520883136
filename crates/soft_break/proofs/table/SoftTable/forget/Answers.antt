use Rattle.std.proofs.Common.{◌∙◌, sym}
use Rattle.std.proofs.lemmas.Bool.{false≢true}
use Rattle.soft_break.proofs.Lists.{not_listed}
use Rattle.soft_break.proofs.Covering.{no_place}
use Rattle.std.specs.Prelude.{◌==◌}
use Rattle.soft_break.proofs.Views.{forget_keeps, forget_view}
use Rattle.soft_break.proofs.table.SoftTable.forget.Goals as goal

pub invariant_of-self : goal.invariant_of-self
invariant_of-self c =
    forget_keeps c.args.self.now c.self.inside.addresses.items c.self.inside.originals.items (sym c.self.view_is) c.self.invariant c.remove.new.self.items
    c.remove-in-Some.new.self.items c.args.at c.in-Some.place c.requires (sym c.place_of.ensures.place ∙ c.in-Some.is) c.remove.ensures.items
    c.remove-in-Some.ensures.items

pub returns-in-Some : goal.returns-in-Some
returns-in-Some c =
    forget_view c.args.self.now c.self.inside.addresses.items c.self.inside.originals.items (sym c.self.view_is) c.self.invariant c.remove.new.self.items
    c.remove-in-Some.new.self.items c.args.at c.in-Some.place c.requires (sym c.place_of.ensures.place ∙ c.in-Some.is) c.remove.ensures.items
    c.remove-in-Some.ensures.items

pub returns-in_default : goal.returns-in_default
returns-in_default c =
    absurd (false≢true (sym (not_listed c.args.self.now.addresses c.args.at
    (no_place (λ a. c.args.at == a) c.args.self.now.addresses (sym c.place_of.ensures.place ∙ c.in_default.is))) ∙ c.requires))
