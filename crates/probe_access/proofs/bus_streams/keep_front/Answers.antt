use Rattle.std.proofs.Common.{◌∙◌, ap, sym, subst, [], ◌∷◌, ◌++◌, take, arith, ◌-◌}
use Rattle.probe_access.specs.BusRuns.{cut_to}
use Rattle.probe_access.specs.BusStreams.{Handed}
use Rattle.probe_access.specs.BusStreams.Handed.{none}
use Rattle.probe_access.proofs.BusStreamCalls.{handed_some}
use Rattle.probe_access.proofs.bus_streams.keep_front.Goals as goal

pub returns-then-number-eq0-clause-handed : goal.returns-then-number-eq0-clause-handed
returns-then-number-eq0-clause-handed c =
    subst (λ xs. Handed c.args.into.now.items (cut_to c.args.size c.args.held.now.value) xs) (sym c.clear.ensures) none

pub push-requires : goal.push-requires
push-requires c = (omega arith, omega (arith, c.truncate.ensures.len, c.requires.within, c.requires.room, c.if-number-eq0.false))

pub returns-clause-handed : goal.returns-clause-handed
returns-clause-handed c =
    handed_some c.args.into.now.items (c.args.number - 1) (cut_to c.args.size c.args.held.now.value) c.push.new.self.items
    (c.push.ensures.items ∙ ap (λ xs. xs ++ c.cut_to.result ∷ []) c.truncate.ensures.items
    ∙ ap (λ n. take (c.args.number - 1) c.args.into.now.items ++ n ∷ []) c.cut_to.ensures)
