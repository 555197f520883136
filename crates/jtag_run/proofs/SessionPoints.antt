-- What a session takes of points: what its script's commands take is within their budget, and none leads its plan astray.
use Rattle.std.proofs.Common.{◌≡◌, ◌∙◌, ℕ, ◌+◌, ◌*◌, ◌≤◌, List, [], ◌∷◌, Option, sym, arith}
use Rattle.std.specs.Prelude.{All, sum_by}
use Rattle.std.proofs.lemmas.List.Elements.{All-head, All-tail}
use Rattle.std.proofs.lemmas.List.Sums.{sum_by-cons}
use Rattle.abstract_debugger.specs.Transcript.{End as Shown}
use Rattle.abstract_debugger.specs.Transcript.End.{Astray, Clean, NoAck, NoHalt, WithErrors}
use Rattle.abstract_debugger.specs.Plan.{Plan}
use Rattle.budget_laws.specs.ScriptPoints.{command_points, script_points}
use Rattle.debug_model.specs.declared.command.Command.{Command}
use Rattle.debug_model.specs.declared.command.Command.TheVariants as command
use Rattle.debug_model.specs.Command.{IsWithinRanges}
use Rattle.debug_model.specs.Told.{Far}
use Rattle.probe_session.specs.declared.ended.Ended.{Ended as End}
use Rattle.probe_session.specs.declared.ended.Ended.TheVariants as ends
use Rattle.probe_session.specs.declared.fault.LostCause.TheVariants as lost
use Rattle.probe_session.specs.Budget.{command_rises, commands_rises, script_rises}
use Rattle.probe_session.specs.Transcribed.{WrittenBy, shown_by}

-- ---- what a script takes is within its budget

command_within : (c : Command) → IsWithinRanges c → command_points c ≤ 8 * command_rises c
command_within command.Idcode within = omega arith
command_within (command.Hart hart) within = omega arith
command_within command.State within = omega arith
command_within command.Halt within = omega arith
command_within command.Resume within = omega arith
command_within (command.Step repeats) within = let some : 1 ≤ repeats = within.0 in omega (arith, some)
command_within (command.Wait repeats) within = omega arith
command_within command.Regs within = omega arith
command_within (command.Reg register) within = omega arith
command_within (command.SetReg register value) within = omega arith
command_within (command.Read size address count) within = omega arith
command_within (command.Write size address value count) within = omega arith
command_within (command.Dump address count) within = omega arith
command_within (command.Via path) within = omega arith
command_within (command.Break address) within = omega arith
command_within (command.Watch kind address) within = omega arith
command_within (command.Count turns) within = omega arith
command_within (command.Clear slot) within = omega arith
command_within command.Slots within = omega arith
command_within (command.Ebreak is_on) within = omega arith
command_within command.End within = omega arith

commands_within : (script : List Command) → All IsWithinRanges script → sum_by command_points script ≤ 8 * commands_rises script
commands_within [] within = omega arith
commands_within (c ∷ cs) within =
    let here : command_points c ≤ 8 * command_rises c = command_within c (All-head IsWithinRanges c cs within) in
    let there : sum_by command_points cs ≤ 8 * commands_rises cs = commands_within cs (All-tail IsWithinRanges c cs within) in
    let points : sum_by command_points (c ∷ cs) ≡ command_points c + sum_by command_points cs = sum_by-cons command_points c cs in
    let rises : commands_rises (c ∷ cs) ≡ command_rises c + commands_rises cs = sum_by-cons command_rises c cs in
    omega (arith, here, there, points, rises)

pub script_within : (script : List Command) → All IsWithinRanges script → script_points script ≤ 8 * script_rises script
script_within script within =
    let few : sum_by command_points script ≤ 8 * commands_rises script = commands_within script within in omega (arith, few)

-- ---- no session leads its plan astray

ends_clean : (o : Shown) → o ≡ Clean → o ≡ Astray → ⊥
ends_clean o is astray = let none : Clean ≡ Astray = sym is ∙ astray in cc

ends_with_errors : (o : Shown) → o ≡ WithErrors → o ≡ Astray → ⊥
ends_with_errors o is astray = let none : WithErrors ≡ Astray = sym is ∙ astray in cc

ends_with_no_halt : (o : Shown) (looks : ℕ) → o ≡ NoHalt looks → o ≡ Astray → ⊥
ends_with_no_halt o looks is astray = let none : NoHalt looks ≡ Astray = sym is ∙ astray in cc

ends_with_no_ack : (o : Shown) (looks : ℕ) → o ≡ NoAck looks → o ≡ Astray → ⊥
ends_with_no_ack o looks is astray = let none : NoAck looks ≡ Astray = sym is ∙ astray in cc

pub not_astray : (p : Plan) (was is : Option (List ℕ)) (first last : Far) (e : End) → WrittenBy p was is first last e → (shown_by p first last).end ≡ Astray → ⊥
not_astray p was is first last ends.Clean w = ends_clean (shown_by p first last).end w.end_is
not_astray p was is first last ends.WithErrors w = ends_with_errors (shown_by p first last).end w.end_is
not_astray p was is first last (ends.Target fault) w = absurd w
not_astray p was is first last (ends.Wire why) w = w.on_the_way
not_astray p was is first last (ends.Lost lost.DmiFailed) w = w.on_the_way
not_astray p was is first last (ends.Lost lost.StillBusy) w = w.on_the_way
not_astray p was is first last (ends.Lost (lost.NoHalt looks)) w = ends_with_no_halt (shown_by p first last).end looks w.end_is
not_astray p was is first last (ends.Lost (lost.NoAck looks)) w = ends_with_no_ack (shown_by p first last).end looks w.end_is
not_astray p was is first last (ends.Lost (lost.Odd odd)) w = absurd w
not_astray p was is first last ends.Sink w = w.front.on_the_way
