use Rattle.std.proofs.Common.{sym}
use Rattle.soft_break.proofs.Views.{put_found, put_keeps, put_view}
use Rattle.soft_break.proofs.table.SoftTable.put.Goals as goal

pub invariant_of-self : goal.invariant_of-self
invariant_of-self c =
    put_keeps c.args.self.now c.self.inside.addresses.items c.self.inside.originals.items (sym c.self.view_is) c.self.invariant c.insert.new.self.items
    c.insert-2.new.self.items c.args.at c.args.original c.place_for-place.result c.requires.word c.requires.free c.place_for-place.ensures.place
    c.insert.ensures.items c.insert-2.ensures.items

pub returns-clause-put : goal.returns-clause-put
returns-clause-put c =
    put_view c.args.self.now c.self.inside.addresses.items c.self.inside.originals.items (sym c.self.view_is) c.self.invariant c.insert.new.self.items
    c.insert-2.new.self.items c.args.at c.args.original c.place_for-place.result c.requires.free c.place_for-place.ensures.place
    c.insert.ensures.items c.insert-2.ensures.items

pub returns-clause-found : goal.returns-clause-found
returns-clause-found c =
    put_found c.args.self.now c.self.inside.addresses.items c.self.inside.originals.items (sym c.self.view_is) c.self.invariant c.insert.new.self.items
    c.insert-2.new.self.items c.args.at c.args.original c.place_for-place.result c.requires.free c.place_for-place.ensures.place
    c.insert.ensures.items c.insert-2.ensures.items
