use Rattle.std.proofs.Common.{◌∙◌, sym}
use Rattle.rv_model.specs.Size.{count_of}
use Rattle.soft_break.proofs.Views.{beside_found, beside_none}
use Rattle.soft_break.proofs.table.SoftTable.meets.Goals as goal

pub returns-in-Some : goal.returns-in-Some
returns-in-Some c =
    beside_found c.args.self.now.addresses c.args.addr (count_of c.args.size) c.in-Some.field-0 (sym c.place_beside.ensures.place ∙ c.in-Some.is)
    c.in-Some.ensures.inside

pub returns-in-None : goal.returns-in-None
returns-in-None c = beside_none c.args.self.now.addresses c.args.addr (count_of c.args.size) (sym c.place_beside.ensures.place ∙ c.in-None.is)
