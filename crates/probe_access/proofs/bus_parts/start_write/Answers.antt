use Rattle.debug_model.proofs.RiseLemmas.{within_then}
use Rattle.probe_run.specs.Told.{told}
use Rattle.std.proofs.Common.{◌≡◌, ◌++◌, ℕ, refl, subst, [], ◌∷◌, arith, ◌∙◌}
use Rattle.debug_model.specs.Addresses.{sbdata0_address, sbdata1_address}
use Rattle.debug_model.specs.Commands.{high_half, low_half}
use Rattle.probe_run.specs.Acts.{Did, Tells}
use Rattle.probe_run.specs.Acts.Act.{Put}
use Rattle.probe_access.specs.BusRuns.{Starting, addressed, setting, supplied, write_started}
use Rattle.probe_access.specs.BusRuns.Starting.{next}
use Rattle.std.proofs.Common.{false}
use Rattle.probe_access.specs.Faults.{BrokeIn}
use Rattle.probe_run.proofs.ActLemmas.{did_then}
use Rattle.probe_access.proofs.BusPolls.{broke_before}
use Rattle.probe_access.proofs.RegisterCalls.{fault_failed, word_broke_behind, word_put}
use Rattle.probe_access.proofs.bus_parts.start_write.Goals as goal

set_did : (word value address : ℕ) (old new : Tells) → word ≡ value → Did old (addressed word address) new → Did old (addressed value address) new
set_did word value address old new is did = subst (λ w. Did old (addressed w address) new) is did

pub returns-in_err-set_up-clause-broke : goal.returns-in_err-set_up-clause-broke
returns-in_err-set_up-clause-broke g c =
    fault_failed c.from_residual.result c.in_err-set_up.field-0.0 _ c.from_residual.ensures.1
    (subst (λ w. BrokeIn (Starting (addressed w c.args.address ++ supplied c.args.value)) (g.D.Dmi.seen c.args.link.now).fault_count
    (g.D.Dmi.seen c.set_up.new.link).fault_count (told (g.D.Dmi.seen c.args.link.now)) (g.D.Dmi.seen c.set_up.new.link).far c.in_err-set_up.field-0.0)
    c.setting_of.ensures
    (broke_before (addressed c.setting_of.result c.args.address) (supplied c.args.value) _ _ (told (g.D.Dmi.seen c.args.link.now)) _ c.in_err-set_up.field-0.0
    c.in_err-set_up.ensures.broke))

pub returns-in_err-write-clause-broke : goal.returns-in_err-write-clause-broke
returns-in_err-write-clause-broke g c =
    fault_failed c.from_residual-in_err-write.result c.in_err-write.field-0.0 _ c.from_residual-in_err-write.ensures.1
    (word_broke_behind (Starting (write_started c.args.size c.args.address c.args.value)) (addressed (setting false c.args.size) c.args.address) 61
    c.high_word.result (high_half c.args.value) _ _ _
    (told (g.D.Dmi.seen c.args.link.now)) (told (g.D.Dmi.seen c.set_up.new.link)) _ c.in_err-write.field-0.0 c.high_word.ensures
    (next (addressed (setting false c.args.size) c.args.address) (Put sbdata0_address (low_half c.args.value) ∷ []) sbdata1_address (high_half c.args.value)
    refl)
    (set_did c.setting_of.result (setting false c.args.size) c.args.address _ _ c.setting_of.ensures c.in_ok-set_up.ensures.did) c.set_up.ensures.keeps.later
    c.write.ensures.keeps.later c.in_err-write.ensures.cut c.in_err-write.ensures.cause)

pub returns-in_err-write-2-clause-broke : goal.returns-in_err-write-2-clause-broke
returns-in_err-write-2-clause-broke g c =
    fault_failed c.from_residual-in_err-write-2.result c.in_err-write-2.field-0.0 _ c.from_residual-in_err-write-2.ensures.1
    (word_broke_behind (Starting (write_started c.args.size c.args.address c.args.value))
    (addressed (setting false c.args.size) c.args.address ++ Put sbdata1_address (high_half c.args.value) ∷ []) 60 c.low_word.result
    (low_half c.args.value) _ _ _
    (told (g.D.Dmi.seen c.args.link.now)) (told (g.D.Dmi.seen c.write.new.self)) _ c.in_err-write-2.field-0.0 c.low_word.ensures
    (next (addressed (setting false c.args.size) c.args.address ++ Put sbdata1_address (high_half c.args.value) ∷ []) [] sbdata0_address
    (low_half c.args.value) refl)
    (did_then _ _ _ (set_did c.setting_of.result (setting false c.args.size) c.args.address _ _ c.setting_of.ensures c.in_ok-set_up.ensures.did) _ _
    (word_put 61 c.high_word.result (high_half c.args.value) _ _ c.high_word.ensures c.in_ok-write.ensures.operated c.in_ok-write.ensures.passes))
    (omega (arith, c.set_up.ensures.keeps.later, c.write.ensures.keeps.later)) c.write-2.ensures.keeps.later c.in_err-write-2.ensures.cut
    c.in_err-write-2.ensures.cause)

pub returns-clause-did : goal.returns-clause-did
returns-clause-did g c =
    did_then _ _ _ (set_did c.setting_of.result (setting false c.args.size) c.args.address _ _ c.setting_of.ensures c.in_ok-set_up.ensures.did) _ _
    (did_then _ _ _ (word_put 61 c.high_word.result (high_half c.args.value) _ _ c.high_word.ensures c.in_ok-write.ensures.operated
    c.in_ok-write.ensures.passes) _ _
    (word_put 60 c.low_word.result (low_half c.args.value) _ _ c.low_word.ensures c.in_ok-write-2.ensures.operated c.in_ok-write-2.ensures.passes))

pub returns-in_err-write-2-clause-rises : goal.returns-in_err-write-2-clause-rises
returns-in_err-write-2-clause-rises g c =
    within_then 4 1 5 _ (g.D.Dmi.seen c.write.new.self) _ (within_then 3 1 4 _ (g.D.Dmi.seen c.set_up.new.link) _ c.set_up.ensures.rises c.write.ensures.rises
    c.set_up.ensures.keeps.fixed (omega arith)) c.write-2.ensures.rises
    (c.write.ensures.keeps.fixed ∙ c.set_up.ensures.keeps.fixed) (omega arith)

pub returns-clause-rises : goal.returns-clause-rises
returns-clause-rises g c =
    within_then 4 1 5 _ (g.D.Dmi.seen c.write.new.self) _ (within_then 3 1 4 _ (g.D.Dmi.seen c.set_up.new.link) _ c.set_up.ensures.rises c.write.ensures.rises
    c.set_up.ensures.keeps.fixed (omega arith)) c.write-2.ensures.rises
    (c.write.ensures.keeps.fixed ∙ c.set_up.ensures.keeps.fixed) (omega arith)
