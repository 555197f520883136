use Rattle.debug_model.proofs.RiseLemmas.{within_then}
use Rattle.probe_run.specs.Told.{told}
use Rattle.std.proofs.Common.{refl, [], ◌∷◌, arith, ◌∙◌}
use Rattle.debug_model.specs.Addresses.{sbaddress0_address, sbaddress1_address, sbcs_address}
use Rattle.debug_model.specs.Commands.{high_half, low_half}
use Rattle.probe_run.specs.Acts.Act.{Put}
use Rattle.probe_access.specs.BusRuns.{Starting, addressed}
use Rattle.probe_access.specs.BusRuns.Starting.{next}
use Rattle.probe_run.proofs.ActLemmas.{did_then}
use Rattle.probe_access.proofs.RegisterCalls.{fault_failed, put_did, word_broke, word_broke_behind, word_put}
use Rattle.probe_access.proofs.bus_parts.set_up.Goals as goal

pub returns-in_err-write-clause-broke : goal.returns-in_err-write-clause-broke
returns-in_err-write-clause-broke g c =
    fault_failed c.from_residual.result c.in_err-write.field-0.0 _ c.from_residual.ensures.1
    (word_broke (Starting (addressed c.args.setting c.args.address)) 56 c.args.setting c.args.setting _ _ (told (g.D.Dmi.seen c.args.link.now)) _
    c.in_err-write.field-0.0 refl
    (next [] (Put sbaddress1_address (high_half c.args.address) ∷ Put sbaddress0_address (low_half c.args.address) ∷ []) sbcs_address c.args.setting refl)
    c.in_err-write.ensures.cut c.in_err-write.ensures.cause)

pub returns-in_err-write-2-clause-broke : goal.returns-in_err-write-2-clause-broke
returns-in_err-write-2-clause-broke g c =
    fault_failed c.from_residual-in_err-write-2.result c.in_err-write-2.field-0.0 _ c.from_residual-in_err-write-2.ensures.1
    (word_broke_behind (Starting (addressed c.args.setting c.args.address)) (Put sbcs_address c.args.setting ∷ []) 58 c.high_word.result
    (high_half c.args.address) _ _ _
    (told (g.D.Dmi.seen c.args.link.now)) (told (g.D.Dmi.seen c.write.new.self)) _ c.in_err-write-2.field-0.0 c.high_word.ensures
    (next (Put sbcs_address c.args.setting ∷ []) (Put sbaddress0_address (low_half c.args.address) ∷ []) sbaddress1_address (high_half c.args.address) refl)
    (put_did sbcs_address c.args.setting _ _ c.in_ok-write.ensures.operated c.in_ok-write.ensures.passes) c.write.ensures.keeps.later
    c.write-2.ensures.keeps.later c.in_err-write-2.ensures.cut c.in_err-write-2.ensures.cause)

pub returns-in_err-write-3-clause-broke : goal.returns-in_err-write-3-clause-broke
returns-in_err-write-3-clause-broke g c =
    fault_failed c.from_residual-in_err-write-3.result c.in_err-write-3.field-0.0 _ c.from_residual-in_err-write-3.ensures.1
    (word_broke_behind (Starting (addressed c.args.setting c.args.address))
    (Put sbcs_address c.args.setting ∷ Put sbaddress1_address (high_half c.args.address) ∷ []) 57 c.low_word.result (low_half c.args.address) _ _ _
    (told (g.D.Dmi.seen c.args.link.now)) (told (g.D.Dmi.seen c.write-2.new.self)) _ c.in_err-write-3.field-0.0 c.low_word.ensures
    (next (Put sbcs_address c.args.setting ∷ Put sbaddress1_address (high_half c.args.address) ∷ []) [] sbaddress0_address (low_half c.args.address) refl)
    (did_then _ _ _ (put_did sbcs_address c.args.setting _ _ c.in_ok-write.ensures.operated c.in_ok-write.ensures.passes) _ _
    (word_put 58 c.high_word.result (high_half c.args.address) _ _ c.high_word.ensures c.in_ok-write-2.ensures.operated c.in_ok-write-2.ensures.passes))
    (omega (arith, c.write.ensures.keeps.later, c.write-2.ensures.keeps.later)) c.write-3.ensures.keeps.later c.in_err-write-3.ensures.cut
    c.in_err-write-3.ensures.cause)

pub returns-clause-did : goal.returns-clause-did
returns-clause-did g c =
    did_then _ _ _ (put_did sbcs_address c.args.setting _ _ c.in_ok-write.ensures.operated c.in_ok-write.ensures.passes) _ _
    (did_then _ _ _ (word_put 58 c.high_word.result (high_half c.args.address) _ _ c.high_word.ensures c.in_ok-write-2.ensures.operated
    c.in_ok-write-2.ensures.passes) _ _
    (word_put 57 c.low_word.result (low_half c.args.address) _ _ c.low_word.ensures c.in_ok-write-3.ensures.operated c.in_ok-write-3.ensures.passes))

pub returns-in_err-write-3-clause-rises : goal.returns-in_err-write-3-clause-rises
returns-in_err-write-3-clause-rises g c =
    within_then 2 1 3 _ (g.D.Dmi.seen c.write-2.new.self) _ (within_then 1 1 2 _ (g.D.Dmi.seen c.write.new.self) _ c.write.ensures.rises c.write-2.ensures.rises
    c.write.ensures.keeps.fixed (omega arith)) c.write-3.ensures.rises
    (c.write-2.ensures.keeps.fixed ∙ c.write.ensures.keeps.fixed) (omega arith)

pub returns-clause-rises : goal.returns-clause-rises
returns-clause-rises g c =
    within_then 2 1 3 _ (g.D.Dmi.seen c.write-2.new.self) _ (within_then 1 1 2 _ (g.D.Dmi.seen c.write.new.self) _ c.write.ensures.rises c.write-2.ensures.rises
    c.write.ensures.keeps.fixed (omega arith)) c.write-3.ensures.rises
    (c.write-2.ensures.keeps.fixed ∙ c.write.ensures.keeps.fixed) (omega arith)
