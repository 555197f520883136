use Rattle.std.proofs.Common.{◌∙◌, ap, sym}
use Rattle.std.specs.Prelude.{◌==◌}
use Rattle.std.proofs.lemmas.Bool.{false≢true}
use Rattle.soft_laws.specs.SoftBreaks.{is_listed}
use Rattle.soft_break.specs.Patches.{Patches}
use Rattle.soft_break.proofs.Covering.{no_place}
use Rattle.soft_break.proofs.Lists.{not_listed}
use Rattle.soft_break.proofs.PlantSteps.{listed_word}
use Rattle.soft_break.proofs.Views.{original_view}
use Rattle.soft_break.proofs.table.SoftTable.original.Goals as goal

pub returns-in-Some-clause-original : goal.returns-in-Some-clause-original
returns-in-Some-clause-original c =
    rw (c.as_slice.ensures.value) (original_view c.args.self.now c.self.inside.addresses.items c.self.inside.originals.items (sym c.self.view_is)
    c.self.invariant c.args.at c.in-Some.place c.requires (sym c.place_of.ensures.place ∙ c.in-Some.is))

pub returns-in-Some-clause-word : goal.returns-in-Some-clause-word
returns-in-Some-clause-word c =
    listed_word c.self.inside.addresses.items c.args.at c.self.invariant.words
    (ap (λ (p : Patches). is_listed p.addresses c.args.at) c.self.view_is ∙ c.requires)

pub returns-in-None-clause-original : goal.returns-in-None-clause-original
returns-in-None-clause-original c =
    absurd (false≢true (sym (not_listed c.args.self.now.addresses c.args.at
    (no_place (λ a. c.args.at == a) c.args.self.now.addresses (sym c.place_of.ensures.place ∙ c.in-None.is))) ∙ c.requires))

pub returns-in-None-clause-word : goal.returns-in-None-clause-word
returns-in-None-clause-word c =
    absurd (false≢true (sym (not_listed c.args.self.now.addresses c.args.at
    (no_place (λ a. c.args.at == a) c.args.self.now.addresses (sym c.place_of.ensures.place ∙ c.in-None.is))) ∙ c.requires))
