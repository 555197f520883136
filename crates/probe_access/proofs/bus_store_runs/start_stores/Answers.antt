use Rattle.debug_model.proofs.RiseLemmas.{within_more, within_then}
use Rattle.std.proofs.Common.{◌≡◌, ℕ, refl, subst, [], ◌∷◌, arith}
use Rattle.debug_model.specs.Addresses.{sbdata1_address}
use Rattle.probe_run.specs.Acts.{Did, Tells}
use Rattle.probe_run.specs.Acts.Act.{Put}
use Rattle.probe_run.specs.Told.{told}
use Rattle.probe_access.specs.BusRuns.{Starting, addressed}
use Rattle.probe_access.specs.BusRuns.Starting.{next}
use Rattle.probe_access.specs.BusStoreStreams.{stores_started, storing}
use Rattle.probe_access.specs.Faults.{BrokeIn}
use Rattle.probe_run.proofs.ActLemmas.{did_then}
use Rattle.probe_access.proofs.BusPolls.{broke_before}
use Rattle.probe_access.proofs.RegisterCalls.{fault_failed, word_broke_behind, word_put}
use Rattle.probe_access.proofs.bus_store_runs.start_stores.Goals as goal

set_did : (word value address : ℕ) (old new : Tells) → word ≡ value → Did old (addressed word address) new → Did old (addressed value address) new
set_did word value address old new is did = subst (λ w. Did old (addressed w address) new) is did

pub returns-in_err-set_up-clause-broke : goal.returns-in_err-set_up-clause-broke
returns-in_err-set_up-clause-broke g c =
    fault_failed c.from_residual.result c.in_err-set_up.field-0.0 _ c.from_residual.ensures.1
    (broke_before (addressed (storing c.args.size) c.args.address) (Put sbdata1_address c.args.upper ∷ []) _ _
    (told (g.D.Dmi.seen c.args.link.now)) _ c.in_err-set_up.field-0.0
    (subst (λ w. BrokeIn (Starting (addressed w c.args.address)) (g.D.Dmi.seen c.args.link.now).fault_count
    (g.D.Dmi.seen c.set_up.new.link).fault_count (told (g.D.Dmi.seen c.args.link.now)) (g.D.Dmi.seen c.set_up.new.link).far c.in_err-set_up.field-0.0)
    c.storing_of.ensures c.in_err-set_up.ensures.broke))

pub returns-in_err-write-clause-broke : goal.returns-in_err-write-clause-broke
returns-in_err-write-clause-broke g c =
    fault_failed c.from_residual-in_err-write.result c.in_err-write.field-0.0 _ c.from_residual-in_err-write.ensures.1
    (word_broke_behind (Starting (stores_started c.args.size c.args.address c.args.upper)) (addressed (storing c.args.size) c.args.address) 61
    c.args.upper c.args.upper _ _ _ (told (g.D.Dmi.seen c.args.link.now)) (told (g.D.Dmi.seen c.set_up.new.link)) _
    c.in_err-write.field-0.0 refl
    (next (addressed (storing c.args.size) c.args.address) [] sbdata1_address c.args.upper refl)
    (set_did c.storing_of.result (storing c.args.size) c.args.address _ _ c.storing_of.ensures c.in_ok-set_up.ensures.did) c.set_up.ensures.keeps.later
    c.write.ensures.keeps.later c.in_err-write.ensures.cut c.in_err-write.ensures.cause)

pub returns-clause-did : goal.returns-clause-did
returns-clause-did g c =
    did_then _ _ _ (set_did c.storing_of.result (storing c.args.size) c.args.address _ _ c.storing_of.ensures c.in_ok-set_up.ensures.did) _ _
    (word_put 61 c.args.upper c.args.upper _ _ refl c.in_ok-write.ensures.operated c.in_ok-write.ensures.passes)

pub returns-in_err-set_up-clause-rises : goal.returns-in_err-set_up-clause-rises
returns-in_err-set_up-clause-rises g c =
    within_more 3 4 _ _ c.set_up.ensures.rises (omega arith)

pub returns-in_err-write-clause-rises : goal.returns-in_err-write-clause-rises
returns-in_err-write-clause-rises g c =
    within_then 3 1 4 _ (g.D.Dmi.seen c.set_up.new.link) _ c.set_up.ensures.rises c.write.ensures.rises
    c.set_up.ensures.keeps.fixed (omega arith)

pub returns-clause-rises : goal.returns-clause-rises
returns-clause-rises g c =
    within_then 3 1 4 _ (g.D.Dmi.seen c.set_up.new.link) _ c.set_up.ensures.rises c.write.ensures.rises
    c.set_up.ensures.keeps.fixed (omega arith)
