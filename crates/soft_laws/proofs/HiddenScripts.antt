-- Every command keeps the chip's world hidden, and so does a session.
use Rattle.std.proofs.Common.{◌≡◌, ◌∙◌, ℕ, Bool, true, false, not, ◌&&◌, List, [], ◌∷◌, length}
use Rattle.std.proofs.Common.{refl, sym, ap, subst, inl, inr, if◌then◌else◌}
use Rattle.std.specs.Prelude.{All, ◌==◌}
use Rattle.std.proofs.lemmas.Bool.{false≢true}
use Rattle.std.proofs.lemmas.List.Elements.{All-head, All-tail}
use Rattle.rv_model.specs.Board.{Board, Machine, machine_of}
use Rattle.rv_model.specs.TurnLaws.{StepsUnmasked}
use Rattle.debug_model.specs.declared.command.Command.{Command}
use Rattle.debug_model.specs.declared.command.Command.TheVariants as command
use Rattle.debug_model.specs.declared.point.Point.{Point}
use Rattle.abstract_debugger.specs.Debugger.{act, stop_line}
use Rattle.abstract_debugger.specs.Lines.{Line}
use Rattle.abstract_debugger.specs.Plan.{Plan}
use Rattle.abstract_debugger.specs.Plan.Change.{EbreakHalts}
use Rattle.abstract_debugger.specs.Plan.Plan.{see, change, say}
use Rattle.abstract_debugger.specs.Transcript.{start}
use Rattle.abstract_debugger.proofs.WalkLemmas.{Walks, act-walks, walk-halted, walk-if, walk-look, walk-stop_line}
use Rattle.soft_laws.specs.Laws.{ChipsAreUndebugged, HasFewHarts, IsSoftWithinRanges, IsUndisturbed, SessionsHide, chip_outcome}
use Rattle.soft_laws.specs.Lowered.{no_table}
use Rattle.soft_laws.specs.SoftBreaks.{IsSoftAddress, covered, has_some, is_listed, patched_board, patched_machine, without}
use Rattle.debug_model.specs.declared.soft_command.SoftCommand.{SoftCommand}
use Rattle.soft_laws.specs.SoftDebugger.{SoftState, clearing, first_soft_state, lifting, most_planted}
use Rattle.soft_laws.specs.SoftDebugger.{plain_act, planting, prepared, put_in, setting, soft_act, soft_commands, soft_resuming}
use Rattle.soft_laws.specs.SoftDebugger.{soft_session, soft_stepping, soft_transcript, switching}
use Rattle.debug_model.specs.declared.soft_command.SoftCommand.TheVariants.{Plain, Soft, Unsoft}
use Rattle.soft_laws.proofs.HiddenPlans.{Hidden, Same, h-change, h-say}
use Rattle.soft_laws.proofs.PlantedLemmas.{Plants, fewer_without}
use Rattle.soft_laws.proofs.PlantedLemmas.{plants-changed, plants-known, put-either, without-listed}
use Rattle.soft_laws.proofs.SoftTransparency.{soft_transparent}
use Rattle.soft_laws.proofs.StepHides.{hides-start}
use Rattle.soft_laws.proofs.HiddenSteps.{AreWords, Walked, closing-hidden, hidden-walk, lifting-hidden, planting-hidden, prepared-hidden, resuming-hidden}
use Rattle.soft_laws.proofs.HiddenSteps.{stepping-hidden}

-- ---- the commands

-- what follows is hidden in every state whose breakpoints are words
abbrev NextHidden : Machine → (SoftState → Plan) → Type 0
NextHidden m next = (t : SoftState) → AreWords t.planted → Hidden m (Plants t.planted) (next t)

put_words : (a : ℕ) (ps : List ℕ) → IsSoftAddress a → AreWords ps → AreWords (put_in a ps)
unfolding AreWords
put_words a ps aligned words b there = elim (put-either a b ps there) [
  | inl e ↦ subst IsSoftAddress (sym e) aligned
  | inr e ↦ words b e
]

without_words : (a : ℕ) (ps : List ℕ) → AreWords ps → AreWords (without a ps)
unfolding AreWords
without_words a ps words b there = words b (without-listed a b ps there).before

setting-hidden : (m : Machine) (a : ℕ) (s : SoftState) (next : SoftState → Plan) → IsSoftAddress a → AreWords s.planted → NextHidden m next
    → Hidden m (Plants s.planted) (setting a s next)
setting-hidden m a s next aligned words f =
    let ws : Walks Walked (λ p q. Hidden m (Plants s.planted) p) = hidden-walk m s.planted in
    let later : Plan = next (record s { planted = put_in a s.planted }) in
    let full : Plan = (if length s.planted == most_planted then say Line.NoFreeSoftBreak (next s)
    else prepared s.planted (next s) (planting a (next s) later)) in
    walk-if ws (is_listed s.planted a) (say (Line.SoftIsSet a) (next s)) full (say (Line.SoftIsSet a) (next s)) full
    (ws.says (Line.SoftIsSet a) (next s) (next s) (f s words))
    (walk-if ws (length s.planted == most_planted) (say Line.NoFreeSoftBreak (next s)) (prepared s.planted (next s) (planting a (next s) later))
    (say Line.NoFreeSoftBreak (next s)) (prepared s.planted (next s) (planting a (next s) later))
    (ws.says Line.NoFreeSoftBreak (next s) (next s) (f s words))
    (prepared-hidden m s.planted (next s) (planting a (next s) later) (f s words)
    (planting-hidden m a s.planted aligned (next s) later (f s words)
    (f (record s { planted = put_in a s.planted }) (put_words a s.planted aligned words)))))

clearing-hidden : (m : Machine) (a : ℕ) (s : SoftState) (next : SoftState → Plan) → IsSoftAddress a → AreWords s.planted → NextHidden m next
    → Hidden m (Plants s.planted) (clearing a s next)
clearing-hidden m a s next aligned words f =
    let ws : Walks Walked (λ p q. Hidden m (Plants s.planted) p) = hidden-walk m s.planted in
    let later : SoftState = record s { planted = without a s.planted } in
    let lifted : Plan = lifting a (λ original. say (Line.SoftClear a) (next later)) in
    walk-if ws (is_listed s.planted a) lifted (say (Line.SoftNotSet a) (next s)) lifted (say (Line.SoftNotSet a) (next s))
    (lifting-hidden m a s.planted (without a s.planted) aligned (fewer_without a s.planted) (λ original. say (Line.SoftClear a) (next later))
    (λ original. h-say m (Plants (without a s.planted)) (plants-known (without a s.planted)) (Line.SoftClear a) (next later)
    (f later (without_words a s.planted words))))
    (ws.says (Line.SoftNotSet a) (next s) (next s) (f s words))

switching-hidden : (m : Machine) (on : Bool) (s : SoftState) (next : SoftState → Plan) → AreWords s.planted → NextHidden m next
    → Hidden m (Plants s.planted) (switching on s next)
switching-hidden m on s next words f =
    walk-halted ws s.plain.hart (next s) _ (next s) (next s) (f s words) (by on (has_some s.planted) refl)
  where
    ws : Walks Walked (λ p q. Hidden m (Plants s.planted) p)
    ws = hidden-walk m s.planted

    switched : (e : Bool) → (has_some s.planted ≡ true → e ≡ true)
        → Hidden m (Plants s.planted) (change (EbreakHalts s.plain.hart e) (say (Line.Ebreak e) (next s)))
    switched e stays =
        h-change m (Plants s.planted) (Plants s.planted) (EbreakHalts s.plain.hart e) (say (Line.Ebreak e) (next s)) tt
        (λ w. plants-changed s.planted (EbreakHalts s.plain.hart e) w tt (λ some before is. stays some) (λ before is. is))
        (ws.says (Line.Ebreak e) (next s) (next s) (f s words))

    by : (e some : Bool) → has_some s.planted ≡ some → Hidden m (Plants s.planted) (if not e && some then say Line.SoftBreaksAreSet (next s)
        else change (EbreakHalts s.plain.hart e) (say (Line.Ebreak e) (next s)))
    by true some is = switched true (λ there. refl)
    by false true is = ws.says Line.SoftBreaksAreSet (next s) (next s) (f s words)
    by false false is = switched false (λ there. absurd (false≢true (sym is ∙ there)))

-- a command that is as it was
as_it_was : (m : Machine) (c : Command) (s : SoftState) (next : SoftState → Plan) → Walked c → AreWords s.planted → NextHidden m next
    → Hidden m (Plants s.planted) (act c s.plain (λ t. next (record s { plain = t })))
as_it_was m c s next walked words f =
    act-walks (hidden-walk m s.planted) c s.plain (λ t. next (record s { plain = t })) (λ t. next (record s { plain = t })) walked
    (λ t. f (record s { plain = t }) words)

plain-hidden : (m : Machine) (c : Command) (s : SoftState) (next : SoftState → Plan) → AreWords s.planted → NextHidden m next
    → Hidden m (Plants s.planted) (plain_act c s next)
plain-hidden m command.Resume s next words f =
    walk-halted (hidden-walk m s.planted) s.plain.hart (next s) (see (soft_resuming s.planted s.plain.hart (next s))) (next s) (next s) (f s words)
    (resuming-hidden m s.planted words s.plain.hart (next s) (f s words))
plain-hidden m (command.Step k) s next words f =
    walk-halted (hidden-walk m s.planted) s.plain.hart (next s) (soft_stepping k s.planted s.plain.hart (stop_line s.plain.hart (next s))) (next s) (next s)
    (f s words)
    (stepping-hidden m s.planted words k s.plain.hart (stop_line s.plain.hart (next s))
    (walk-stop_line (hidden-walk m s.planted) s.plain.hart (next s) (next s) (f s words)))
plain-hidden m (command.Ebreak on) s next words f = switching-hidden m on s next words f
plain-hidden m command.End s next words f = closing-hidden m s.planted words
plain-hidden m command.Idcode s next words f = as_it_was m command.Idcode s next tt words f
plain-hidden m (command.Hart n) s next words f = as_it_was m (command.Hart n) s next tt words f
plain-hidden m command.State s next words f = as_it_was m command.State s next tt words f
plain-hidden m command.Halt s next words f = as_it_was m command.Halt s next tt words f
plain-hidden m (command.Wait k) s next words f = as_it_was m (command.Wait k) s next tt words f
plain-hidden m command.Regs s next words f = as_it_was m command.Regs s next tt words f
plain-hidden m (command.Reg r) s next words f = as_it_was m (command.Reg r) s next tt words f
plain-hidden m (command.SetReg r v) s next words f = as_it_was m (command.SetReg r v) s next tt words f
plain-hidden m (command.Read size a count) s next words f = as_it_was m (command.Read size a count) s next tt words f
plain-hidden m (command.Write size a v count) s next words f = as_it_was m (command.Write size a v count) s next tt words f
plain-hidden m (command.Dump a count) s next words f = as_it_was m (command.Dump a count) s next tt words f
plain-hidden m (command.Via path) s next words f = as_it_was m (command.Via path) s next tt words f
plain-hidden m (command.Break a) s next words f = as_it_was m (command.Break a) s next tt words f
plain-hidden m (command.Watch kind a) s next words f = as_it_was m (command.Watch kind a) s next tt words f
plain-hidden m (command.Count turns) s next words f = as_it_was m (command.Count turns) s next tt words f
plain-hidden m (command.Clear slot) s next words f = as_it_was m (command.Clear slot) s next tt words f
plain-hidden m command.Slots s next words f = as_it_was m command.Slots s next tt words f

act-hidden : (m : Machine) (c : SoftCommand) (s : SoftState) (next : SoftState → Plan) → IsSoftWithinRanges c → AreWords s.planted → NextHidden m next
    → Hidden m (Plants s.planted) (soft_act c s next)
act-hidden m (Plain c) s next within words f = plain-hidden m c s next words f
act-hidden m (Soft a) s next within words f = setting-hidden m a s next within words f
act-hidden m (Unsoft a) s next within words f = clearing-hidden m a s next within words f

commands-hidden : (m : Machine) (script : List SoftCommand) → All IsSoftWithinRanges script → NextHidden m (soft_commands script)
commands-hidden m [] within s words = closing-hidden m s.planted words
commands-hidden m (c ∷ cs) within s words =
    act-hidden m c s (soft_commands cs) (All-head IsSoftWithinRanges c cs within) words (commands-hidden m cs (All-tail IsSoftWithinRanges c cs within))

-- ---- sessions

no_words : AreWords []
unfolding AreWords
no_words a is = absurd (false≢true is)

session-hidden : (m : Machine) (script : List SoftCommand) → All IsSoftWithinRanges script → Hidden m (Plants []) (soft_session script)
session-hidden m script within =
    walk-look (hidden-walk m []) 0 (λ seen. soft_commands script first_soft_state) (λ seen. soft_commands script first_soft_state)
    (λ seen. commands-hidden m script within first_soft_state no_words)

start_plants : (board : Board) → HasFewHarts board → Plants [] (start board)
start_plants board few = record { within = λ a is. is; guarded = λ some. absurd (false≢true some); few = few }

-- a whole session, and the chip's
pub session-same : (board : Board) (script : List SoftCommand) (journal : List Point) → All IsSoftWithinRanges script → HasFewHarts board
    → StepsUnmasked board → IsUndisturbed board script journal
    → Same (machine_of board) (soft_transcript board script journal) (chip_outcome board script journal)
session-same board script journal within few unmasked u =
    (session-hidden (machine_of board) script within).goes no_table (start board) (start board) (hides-start board unmasked) (start_plants board few) journal u

pub sessions_hide : SessionsHide
sessions_hide board script journal within few unmasked u =
    let same : Same (machine_of board) (soft_transcript board script journal) (chip_outcome board script journal) =
    session-same board script journal within few unmasked u in
    record {
      end = same.end;
      lines = same.hides.lines;
      board = same.hides.board ∙ ap (λ cs. patched_board cs (soft_transcript board script journal).world.board) same.hides.told;
      cleared = same.cleared;
    }

-- the chip's machine is that of the session's own entries, under patches
pub chips_are_undebugged : ChipsAreUndebugged
chips_are_undebugged board script journal within few unmasked u =
    ap machine_of (sessions_hide board script journal within few unmasked u).board
    ∙ ap (patched_machine (covered (soft_transcript board script journal).world.past)) (soft_transparent (soft_session script) board journal unmasked)
