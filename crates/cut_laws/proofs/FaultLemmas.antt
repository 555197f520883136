-- Wherever a call of a session failed, over a told chip: each constructor by its own law.
use Rattle.std.proofs.Common.{◌∙◌, ◌++◌, ℕ, List, sym, ap}
use Rattle.rv_model.specs.Board.{Machine}
use Rattle.debug_model.specs.Told.{site_of}
use Rattle.abstract_debugger.specs.Lines.{Line}
use Rattle.abstract_debugger.specs.Plan.{Plan}
use Rattle.abstract_debugger.specs.Stands.{At, Origin}
use Rattle.abstract_debugger.specs.Ways.Way.{Still as StillWay}
use Rattle.abstract_debugger.proofs.DealsLemmas.{deals_went_on}
use Rattle.abstract_debugger.proofs.Transparency.{transparent}
use Rattle.probe_access.specs.Registers.{RegisterReadAt}
use Rattle.probe_access.specs.Stops.{StoppedAt}
use Rattle.probe_run.specs.Acts.{Tells}
use Rattle.probe_run.specs.Happens.{target_of}
use Rattle.probe_trig.specs.declared.change.Change.TheVariants.{Forget}
use Rattle.probe_trig.specs.Runs.{ArmsAny, ChangesAny, FreesAny, ReadsAny}
use Rattle.probe_session.specs.Commands.{before}
use Rattle.probe_session.specs.Goes.{Fault, Passing}
use Rattle.probe_session.specs.Led.{target_at}
use Rattle.probe_session.proofs.LedSteps.{goes_lead}
use Rattle.probe_session.proofs.Tolds.{at_far, told_case, went_by}
use Rattle.left_laws.specs.Left.{wiped}
use Rattle.cut_laws.specs.FaultLaws.{CommandsLeave, FaultsLeave, UndebuggedBut}
use Rattle.cut_laws.proofs.BehindLemmas.{forgetting_behind_cut}
use Rattle.cut_laws.proofs.BesideLemmas.{asking_cut, giving_cut, reading_cut, slots_cut, stopping_cut, writing_cut}
use Rattle.cut_laws.proofs.BlockLemmas.{loading_block_cut, storing_block_cut}
use Rattle.cut_laws.proofs.IdcodeLemmas.{idcode_cut}
use Rattle.cut_laws.proofs.PendingLemmas.{asking_pending_cut}
use Rattle.cut_laws.proofs.RunLemmas.{halting_cut, looking_cut, resuming_cut}
use Rattle.cut_laws.proofs.StepLemmas.{stepping_cut, stepping_from_cut, stepping_over_cut}

-- what was read passed the plan by
passing : (h : ℕ) (m : Machine) (o : Origin) (p : Plan) (lines : List Line) (old mid : Tells) → Passing h old mid
    → At m h StillWay o p lines (target_at old.far) → At m h StillWay o p lines (target_at mid.far)
passing h m o p lines old mid (Passing.got {number} {value} got) a =
    told_case (RegisterReadAt h number value) m h StillWay o p lines (λ n. At m h StillWay o p lines (target_at n)) old.far mid.far
    (λ c d g. at_far m h StillWay o p lines g.far mid.far g.is (deals_went_on m h StillWay o p lines (target_of (site_of c)) (target_of (site_of g.far)) d
    (went_by (site_of c) (site_of g.far) g.passed))) got.told a
passing h m o p lines old mid (Passing.found {pc} {cause} found) a =
    told_case (StoppedAt h pc cause) m h StillWay o p lines (λ n. At m h StillWay o p lines (target_at n)) old.far mid.far
    (λ c d g. at_far m h StillWay o p lines g.far mid.far g.is (deals_went_on m h StillWay o p lines (target_of (site_of c)) (target_of (site_of g.far)) d
    (went_by (site_of c) (site_of g.far) g.passed))) found.told a

pub faults_leave : FaultsLeave
faults_leave n p b c old new f (Fault.idcode fell) w m o lines a = idcode_cut p b c old new f fell m o lines w a
faults_leave n p b c old new f (Fault.looking {h} next fell) w m o lines a = looking_cut h n next b c old new f fell m o lines w a
faults_leave n p b c old new f (Fault.halt {h} next fell) w m o lines a = halting_cut h n next b c old new f fell m o lines w a
faults_leave n p b c old new f (Fault.resuming {h} next fell) w m o lines a = resuming_cut h next b c old new f fell m o lines w a
faults_leave n p b c old new f (Fault.stepping_over {h} stepped other fell) w m o lines a =
    stepping_over_cut h n stepped other b c old new f fell m o lines w a
faults_leave n p b c old new f (Fault.stepping {h} stepped other fell) w m o lines a = stepping_cut h n stepped other b c old new f fell m o lines w a
faults_leave n p b c old new f (Fault.stepping_from {h} {word} stepped other got fell) w m o lines a =
    stepping_from_cut h word n stepped other b c old new f fell m o lines w a
faults_leave n p b c old new f (Fault.asking {h} {number} {p = q} fell) w m o lines a = asking_cut h number n q b c old new f fell m o lines w a
faults_leave n p b c old new f (Fault.asking_pending {h} next fell) w m o lines a = asking_pending_cut h n next b c old new f fell m o lines w a
faults_leave n p b c old new f (Fault.reading {h} {number} {p = q} fell of) w m o lines a = reading_cut h number n q b c old new f fell of m o lines w a
faults_leave n p b c old new f (Fault.giving {h} {number} {value} refused next fell) w m o lines a =
    giving_cut h number value n refused next b c old new f fell m o lines w a
faults_leave n p b c old new f (Fault.writing {h} {word} {count = k} {on = on} next {mid = mid} got later fell) w m o lines a =
    writing_cut h word on n next k c mid new f fell m o lines w (passing h m o p.plan lines old mid (Passing.got got) a)
faults_leave n p b c old new f (Fault.viewing {h} {p = q} fell) w m o lines a = slots_cut ReadsAny h n q b c old new f fell m o lines w a
faults_leave n p b c old new f (Fault.arming {h} {p = q} {meant = meant} fell) w m o lines a =
    slots_cut (ArmsAny meant) h n q b c old new f fell m o lines w a
faults_leave n p b c old new f (Fault.freeing {h} {slot} {p = q} fell) w m o lines a = slots_cut (FreesAny slot) h n q b c old new f fell m o lines w a
faults_leave n p b c old new f (Fault.forgetting {h} {p = q} fell) w m o lines a = slots_cut (ChangesAny Forget) h n q b c old new f fell m o lines w a
faults_leave n p b c old new f (Fault.forgetting_behind {h} {value} {count = k} refused next {mid = mid} gave later fell) w m o lines a =
    forgetting_behind_cut h value n refused next k c old mid new f gave fell m o lines w a
faults_leave n p b c old new f (Fault.behind {h} {count = k} {p = q} {mid = mid} passed later fault) w m o lines a =
    faults_leave n _ k c mid new f fault w m o lines (passing h m o q lines old mid passed a)
faults_leave n p b c old new f (Fault.stopping {h} {p = q} fell) w m o lines a = stopping_cut h n q b c old new f fell m o lines w a
faults_leave n p b c old new f (Fault.loading_block {path} {way} {h} {address} {count} {size = size} {p = q} may fell) w m o lines a =
    loading_block_cut path way h size address count q b c old new f may w fell m o lines a
faults_leave n p b c old new f (Fault.storing_block {path} {way} {h} {address} {size = size} {values} {p = q} {to} stores fell) w m o lines a =
    storing_block_cut path way h size address values q to b c old new f stores w fell m o lines a

-- ---- a command

pub commands_leave : CommandsLeave
commands_leave n command s said b c old new f falls next w m o lines a =
    faults_leave n (falls.at next) falls.count c falls.mid new f (falls.fault next) w m o (lines ++ said)
    (goes_lead (before command s next) (falls.at next) old falls.mid said (falls.went.goes next) m o lines a)

-- ---- to a machine that nobody debugs

pub undebugged_but : UndebuggedBut
undebugged_but s plan board t unmasked ends = sym ends ∙ ap (wiped s) (transparent plan board t.journal unmasked)
