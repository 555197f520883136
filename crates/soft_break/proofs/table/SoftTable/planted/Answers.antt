use Rattle.std.proofs.Common.{◌∙◌, sym}
use Rattle.soft_break.proofs.Views.{listed_found, listed_none}
use Rattle.soft_break.proofs.table.SoftTable.planted.Goals as goal

pub returns-in-Some : goal.returns-in-Some
returns-in-Some c =
    listed_found c.args.self.now.addresses c.args.at c.in-Some.field-0 (sym c.place_of.ensures.place ∙ c.in-Some.is) c.in-Some.ensures.inside

pub returns-in-None : goal.returns-in-None
returns-in-None c = listed_none c.args.self.now.addresses c.args.at (sym c.place_of.ensures.place ∙ c.in-None.is)
