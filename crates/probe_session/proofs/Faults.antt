-- Wherever a call of a session failed, over a told chip.
use Rattle.std.proofs.Common.{ℕ, List}
use Rattle.rv_model.specs.Board.{Machine}
use Rattle.rv_model.specs.DebugRegisters.{dcsr_number}
use Rattle.rv_model.specs.Registers.{pc_number}
use Rattle.debug_model.specs.Told.{site_of}
use Rattle.abstract_debugger.specs.Lines.{Line}
use Rattle.abstract_debugger.specs.Plan.{Plan}
use Rattle.abstract_debugger.specs.Stands.{At, Origin}
use Rattle.abstract_debugger.specs.Ways.Way.{Still as StillWay}
use Rattle.abstract_debugger.proofs.DealsLemmas.{deals_went_on}
use Rattle.probe_access.specs.Registers.{RegisterReadAt}
use Rattle.probe_access.specs.Stops.{StoppedAt}
use Rattle.probe_run.specs.Acts.{Tells}
use Rattle.probe_run.specs.Happens.{target_of}
use Rattle.probe_trig.specs.declared.change.Change.TheVariants.{Forget}
use Rattle.probe_trig.specs.Runs.{ArmsAny, ChangesAny, FreesAny, ReadsAny}
use Rattle.probe_session.specs.declared.fault.Failure.{Failure}
use Rattle.probe_session.specs.Goes.{Fault, Passing}
use Rattle.probe_session.specs.Led.{DealsAt, target_at}
use Rattle.probe_session.specs.Places.{Place}
use Rattle.probe_session.specs.Steps.{with_ebreakm}
use Rattle.probe_session.specs.Transcribed.{Still}
use Rattle.probe_session.proofs.AccessFaults.{asked_fell, forget_fell, given_fell, gotten_fell, pending_fell, slots_fell, stop_fell, written_fell}
use Rattle.probe_session.proofs.BlockFaults.{block_load_fell, block_store_fell}
use Rattle.probe_session.proofs.BrokeOff.{LeftAs}
use Rattle.probe_session.proofs.OverFaults.{over_fell}
use Rattle.probe_session.proofs.RegisterLemmas.{dcsr_of_harts, dcsr_taken}
use Rattle.probe_session.proofs.RunFaults.{halt_fell, idcode_fell, look_fell, resume_fell}
use Rattle.probe_session.proofs.Unhit.{step_fell, step_from_fell}
use Rattle.probe_session.proofs.Tolds.{at_far, told_case, went_by}

-- what was read passed the plan by
passing : (h : ℕ) (m : Machine) (o : Origin) (p : Plan) (lines : List Line) (old mid : Tells) → Passing h old mid
    → At m h StillWay o p lines (target_at old.far) → At m h StillWay o p lines (target_at mid.far)
passing h m o p lines old mid (Passing.got {number} {value} got) a =
    told_case (RegisterReadAt h number value) m h StillWay o p lines (λ n. At m h StillWay o p lines (target_at n)) old.far mid.far
    (λ c d g. at_far m h StillWay o p lines g.far mid.far g.is (deals_went_on m h StillWay o p lines (target_of (site_of c)) (target_of (site_of g.far)) d
    (went_by (site_of c) (site_of g.far) g.passed))) got.told a
passing h m o p lines old mid (Passing.found {pc} {cause} found) a =
    told_case (StoppedAt h pc cause) m h StillWay o p lines (λ n. At m h StillWay o p lines (target_at n)) old.far mid.far
    (λ c d g. at_far m h StillWay o p lines g.far mid.far g.is (deals_went_on m h StillWay o p lines (target_of (site_of c)) (target_of (site_of g.far)) d
    (went_by (site_of c) (site_of g.far) g.passed))) found.told a

pub fault_left : (p : Place) (old_count new_count : ℕ) (old new : Tells) (f : Failure) → Fault p old_count new_count old new f
    → (m : Machine) (o : Origin) (lines : List Line) → DealsAt m o p lines old.far → Still (LeftAs o lines f) new.far
fault_left p old_count new_count old new f (Fault.idcode fell) m o lines a = idcode_fell m p.hart p.way o p.plan lines old_count new_count old new f fell a
fault_left p old_count new_count old new f (Fault.looking {h} next fell) m o lines a = look_fell h m o next lines old_count new_count old new f fell a
fault_left p old_count new_count old new f (Fault.halt {h} next fell) m o lines a = halt_fell h m o next lines old_count new_count old new f fell a
fault_left p old_count new_count old new f (Fault.resuming {h} next fell) m o lines a = resume_fell h m o next lines old_count new_count old new f fell a
fault_left p old_count new_count old new f (Fault.stepping_over {h} stepped other fell) m o lines a =
    over_fell h m o stepped other lines old_count new_count old new f fell a
fault_left p old_count new_count old new f (Fault.stepping {h} stepped other fell) m o lines a =
    step_fell h m o stepped other lines old_count new_count old new f fell a
fault_left p old_count new_count old new f (Fault.stepping_from {h} {word} stepped other got fell) m o lines a =
    step_from_fell h word m o stepped other lines old_count new_count old new f fell a
fault_left p old_count new_count old new f (Fault.asking {h} {number} fell) m o lines a =
    asked_fell h number m p.hart p.way o p.plan lines old_count new_count old new f fell a
fault_left p old_count new_count old new f (Fault.asking_pending {h} next fell) m o lines a =
    pending_fell h m o next lines old_count new_count old new f fell a
fault_left p old_count new_count old new f (Fault.reading {h} {number} fell of) m o lines a =
    gotten_fell h number m p.hart p.way o p.plan lines old_count new_count old new f of fell a
fault_left p old_count new_count old new f (Fault.giving {h} {number} {value} refused next fell) m o lines a =
    given_fell h number value m p.hart p.way o p.plan lines old_count new_count old new f fell a
fault_left p old_count new_count old new f (Fault.writing {h} {word} {count = count} {on = on} next {mid = mid} at le fell) m o lines a =
    written_fell h dcsr_number (with_ebreakm on word) m p.hart p.way o p.plan lines count new_count mid new f dcsr_of_harts dcsr_taken fell
    (passing h m o p.plan lines old mid (Passing.got at) a)
fault_left p old_count new_count old new f (Fault.viewing {h} fell) m o lines a =
    slots_fell ReadsAny h m p.hart p.way o p.plan lines old_count new_count old new f fell a
fault_left p old_count new_count old new f (Fault.arming {h} {meant = meant} fell) m o lines a =
    slots_fell (ArmsAny meant) h m p.hart p.way o p.plan lines old_count new_count old new f fell a
fault_left p old_count new_count old new f (Fault.freeing {h} {slot} fell) m o lines a =
    slots_fell (FreesAny slot) h m p.hart p.way o p.plan lines old_count new_count old new f fell a
fault_left p old_count new_count old new f (Fault.forgetting {h} fell) m o lines a =
    slots_fell (ChangesAny Forget) h m p.hart p.way o p.plan lines old_count new_count old new f fell a
fault_left p old_count new_count old new f (Fault.forgetting_behind {h} {value} {count = count} refused next {mid = mid} gave le fell) m o lines a =
    forget_fell h pc_number value m p.hart p.way o p.plan lines count new_count old mid new f gave fell a
fault_left p old_count new_count old new f (Fault.behind {h} {count = count} {p = q} {mid = mid} passed le fell) m o lines a =
    fault_left _ count new_count mid new f fell m o lines (passing h m o q lines old mid passed a)
fault_left p old_count new_count old new f (Fault.stopping {h} fell) m o lines a =
    stop_fell h m p.hart p.way o p.plan lines old_count new_count old new f fell a
fault_left p old_count new_count old new f (Fault.loading_block {way = way} {h} {address} {count} {size = size} {p = q} may fell) m o lines a =
    block_load_fell size address count m h way o q lines old_count new_count old new f may fell a
fault_left p old_count new_count old new f (Fault.storing_block {way = way} {h} {address} {size = size} {values} {p = q} {to} stores fell) m o lines a =
    block_store_fell size address values m h way o q to lines old_count new_count old new f stores fell a
