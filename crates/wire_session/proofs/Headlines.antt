-- The sentences of the headline, of a session over a wire that tells a chip as it was loaded.
use Rattle.std.proofs.Common.{◌≡◌, ◌∙◌, ℕ, All, List, Option, Some, None, IfSome, sym, ap, subst}
use Rattle.std.proofs.lemmas.Option.{same_Some}
use Rattle.rv_model.specs.Board.{Board, machine_of}
use Rattle.chip_laws.proofs.Timing.{timing_decides}
use Rattle.chip_laws.proofs.Turns.{at_its_start, fresh_offers}
use Rattle.debug_model.specs.declared.command.Command.{Command}
use Rattle.debug_model.specs.declared.event.Event.{Event}
use Rattle.debug_model.specs.Chip.{Chip, Live}
use Rattle.debug_model.specs.Command.{IsWithinRanges}
use Rattle.debug_model.specs.Loaded.{AsLoaded}
use Rattle.debug_model.specs.Offered.{HasOfferedTurns, Timing, TurnsOffered, timing_of}
use Rattle.debug_model.specs.Schedule.{RoundPlan, at_start}
use Rattle.debug_model.specs.Ties.{timing_told}
use Rattle.debug_model.specs.Told.{Far, IsAsLoaded, chip_of}
use Rattle.debug_model.specs.declared.point.Point.{Point}
use Rattle.abstract_debugger.specs.Debugger.{commands, first_state}
use Rattle.abstract_debugger.specs.FirstMatch.{FirstMatch}
use Rattle.abstract_debugger.specs.Known.{IsFresh}
use Rattle.abstract_debugger.specs.Plan.{Plan}
use Rattle.abstract_debugger.specs.Transcript.{replay, start}
use Rattle.abstract_debugger.proofs.ScriptLemmas.{first_match}
use Rattle.abstract_debugger.proofs.Transparency.{fresh_unmasked, transparent}
use Rattle.probe_session.specs.declared.ended.Ended.{Ended as End}
use Rattle.probe_session.specs.declared.ended.Ended.TheVariants as ends
use Rattle.probe_session.specs.declared.fault.LostCause.TheVariants as lost
use Rattle.probe_session.specs.Transcribed.{Still, TranscribedBy, WrittenBy, behind_opening, shown_by}
use Rattle.probe_session.proofs.Transcribing.{loaded_fresh}
use Rattle.wire_session.specs.Headline.{HeadlineBy, IsUndebugged, UndebuggedBehind, board_of, journal_of}

-- first match holds of the trace, whatever the journal and the end
abbrev pub KeepsFirstMatch : Plan → Type 0
KeepsFirstMatch p =
    (board : Board) (journal : List Point) → IsFresh board → FirstMatch (machine_of board) (replay (behind_opening p) (start board) journal).world.past

pub scripts_keep : (script : List Command) → All IsWithinRanges script → KeepsFirstMatch (commands script first_state)
scripts_keep script within board journal fresh = first_match board script journal within fresh

undebugged_by : (p : Plan) (first last : Far) → AsLoaded first.live → (shown_by p first last).world.board ≡ board_of last.live
    → IsUndebugged p first.live last.live
undebugged_by p first last a same =
    ap machine_of (sym same)
    ∙ transparent (behind_opening p) (board_of first.live) (journal_of last.live) (fresh_unmasked (board_of first.live) (loaded_fresh first.live a))

undebugged_behind : (p : Plan) (was is : Option (List ℕ)) (first last : Far) (e : End) → AsLoaded first.live
    → WrittenBy p was is first last e → UndebuggedBehind e p first.live last.live
undebugged_behind p was is first last ends.Clean a w = undebugged_by p first last a w.board_is
undebugged_behind p was is first last ends.WithErrors a w = undebugged_by p first last a w.board_is
undebugged_behind p was is first last (ends.Target fault) a w = tt
undebugged_behind p was is first last (ends.Wire why) a w = tt
undebugged_behind p was is first last (ends.Lost lost.DmiFailed) a w = tt
undebugged_behind p was is first last (ends.Lost lost.StillBusy) a w = tt
undebugged_behind p was is first last (ends.Lost (lost.NoHalt looks)) a w = undebugged_by p first last a w.board_is
undebugged_behind p was is first last (ends.Lost (lost.NoAck looks)) a w = undebugged_by p first last a w.board_is
undebugged_behind p was is first last (ends.Lost (lost.Odd odd)) a w = tt
undebugged_behind p was is first last ends.Sink a w = undebugged_by p first last a w.board_is

-- the harts have had just the turns of the schedule with which the chip was loaded
turns_behind : (first : Live) (c : Chip) → AsLoaded first → timing_of c ≡ timing_of first.chip → TurnsOffered first.chip.inside.plan c
turns_behind first c a same =
    let offered : HasOfferedTurns c = (timing_decides c).0 (ap (λ (t : Timing). t.offered) same ∙ (timing_decides first.chip).1 (fresh_offers first a)) in
    let plan : at_start c.inside.plan ≡ first.chip.inside.plan =
    ap (λ (r : List (List Event)). record { rounds = r; place = 0 }) (ap (λ (t : Timing). t.rounds) same) ∙ at_its_start first a in
    subst (λ (p : RoundPlan). TurnsOffered p c) plan offered

headline_of : (p : Plan) (was is : Option (List ℕ)) (first last : Far) (e : End) → AsLoaded first.live → KeepsFirstMatch p
    → WrittenBy p was is first last e
    → timing_of (chip_of last) ≡ timing_of (chip_of first) → HeadlineBy p was is first last e
headline_of p was is first last e a keeps w same = record {
  written = w;
  undebugged = undebugged_behind p was is first last e a w;
  first_match = keeps (board_of first.live) (journal_of last.live) (loaded_fresh first.live a);
  turns = turns_behind first.live (chip_of last) a same;
}

-- where the wire tells its chip
pub headline_told : (p : Plan) (was is : Option (List ℕ)) (old mid : Option Far) (e : End) → IsAsLoaded old → KeepsFirstMatch p
    → TranscribedBy p was is old mid e
    → timing_told mid ≡ timing_told old → IfSome old (λ first. Still (λ last. HeadlineBy p was is first last e) mid)
headline_told p was is None mid e a keeps told same = tt
headline_told p was is (Some first) mid e a keeps told same = record {
  far = told.far;
  is = told.is;
  holds = headline_of p was is first told.far e a keeps told.holds (same_Some _ _ (ap timing_told (sym told.is) ∙ same));
}

-- the turns alone, of a session of any kind that leaves its chip told
pub turns_told : (R : Far → Far → Type 0) (old mid : Option Far) → IsAsLoaded old → IfSome old (λ first. Still (R first) mid)
    → timing_told mid ≡ timing_told old → IfSome old (λ first. Still (λ last. TurnsOffered first.live.chip.inside.plan (chip_of last)) mid)
turns_told R None mid a told same = tt
turns_told R (Some first) mid a told same = record {
  far = told.far;
  is = told.is;
  holds = turns_behind first.live (chip_of told.far) a (same_Some _ _ (ap timing_told (sym told.is) ∙ same));
}
