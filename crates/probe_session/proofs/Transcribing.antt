-- What a session has written, by the transcript of the chip's journal.
use Rattle.std.proofs.Common.{◌≡◌, ◌∙◌, ◌++◌, ℕ, Bool, List, [], ◌∷◌, Option, Some, None, slice_get, refl, sym, ap, subst, append_assoc, append-nil}
use Rattle.std.proofs.Common.{if◌then◌else◌}
use Rattle.std.proofs.lemmas.Option.{none-some, same_Some}
use Rattle.jt_base.specs.Sink.{GrewByPrefix, grown}
use Rattle.rv_model.specs.Board.{Board, Hart, Machine, machine_of}
use Rattle.debug_model.specs.declared.point.Point.{Point}
use Rattle.debug_model.specs.Chip.{Live}
use Rattle.debug_model.specs.Loaded.{AsLoaded}
use Rattle.debug_model.specs.Told.{Far, site_of}
use Rattle.abstract_debugger.specs.Debugger.{Seen, seen_at}
use Rattle.abstract_debugger.specs.Known.{IsFresh, IsFreshPart}
use Rattle.abstract_debugger.specs.Laws.{IsFront}
use Rattle.abstract_debugger.specs.Lines.{Line, any_error, text_of, text_of_all}
use Rattle.abstract_debugger.specs.Plan.{Plan}
use Rattle.abstract_debugger.specs.Plan.Plan.{stop}
use Rattle.abstract_debugger.specs.Plan.PlanEnd.{Done}
use Rattle.abstract_debugger.specs.Stands.{Deals, IsTranscribed, Looked, Origin, Target}
use Rattle.abstract_debugger.specs.Transcript.{End, graded}
use Rattle.abstract_debugger.specs.Turns.{after_turns}
use Rattle.abstract_debugger.specs.Ways.Way.{Idle}
use Rattle.abstract_debugger.proofs.DealsLemmas.{deals_looked, deals_starts}
use Rattle.abstract_debugger.proofs.ScriptLemmas.{reset_is_fresh}
use Rattle.abstract_debugger.proofs.StandsLemmas.{transcribed}
use Rattle.probe_run.specs.Happens.{target_of}
use Rattle.probe_run.specs.Opening.{OpenedChip}
use Rattle.probe_run.proofs.LoadedChip.{ResetAs, each_reset}
use Rattle.probe_session.specs.Led.{DealsAt, target_at}
use Rattle.probe_session.specs.Places.{idle}
use Rattle.probe_session.specs.Scripts.{at_stop}
use Rattle.probe_session.specs.Transcribed.{IsTranscript, Still, behind_opening, origin_of}
use Rattle.probe_session.proofs.Spoken.{text_of_all-append}
use Rattle.probe_session.proofs.Tolds.{at_far}

-- ---- the text of a front of the lines

pub front_written : (said whole : List Line) (was is : Option (List ℕ)) → IsFront said whole → is ≡ grown (text_of_all said) was
    → GrewByPrefix (text_of_all whole) was is
front_written said whole None is f e = e
front_written said whole (Some bytes) is f e = record {
  front = text_of_all said;
  back = text_of_all f.rest;
  cut = ap text_of_all f.is
      ∙ text_of_all-append said f.rest;
  is = e;
}

several_more : (said ahead rest : List Line) (front back : List ℕ) → text_of_all ahead ≡ front ++ back
    → text_of_all ((said ++ ahead) ++ rest) ≡ (text_of_all said ++ front) ++ (back ++ text_of_all rest)
several_more said ahead rest front back cut =
    let text : List ℕ = text_of_all rest in
    text_of_all-append (said ++ ahead) rest ∙ ap (λ (x : List ℕ). x ++ text)
    (text_of_all-append said ahead ∙ ap (λ (x : List ℕ). text_of_all said ++ x) cut ∙ sym (append_assoc (text_of_all said) front back))
    ∙ append_assoc (text_of_all said ++ front) back text

pub lines_written : (said whole ahead : List Line) (was is : Option (List ℕ)) → IsFront (said ++ ahead) whole
    → GrewByPrefix (text_of_all ahead) (grown (text_of_all said) was) is → GrewByPrefix (text_of_all whole) was is
lines_written said whole ahead None is f g = g
lines_written said whole ahead (Some bytes) is f g = record {
  front = text_of_all said ++ g.front;
  back = g.back ++ text_of_all f.rest;
  cut = ap text_of_all f.is ∙ several_more said ahead f.rest g.front g.back g.cut;
  is = g.is ∙ ap (λ (x : List ℕ). Some x) (append_assoc bytes (text_of_all said) g.front);
}

pub line_written : (said whole : List Line) (line : Line) (was is : Option (List ℕ)) → IsFront (said ++ line ∷ []) whole
    → GrewByPrefix (text_of line) (grown (text_of_all said) was) is → GrewByPrefix (text_of_all whole) was is
line_written said whole line was is f g = lines_written said whole (line ∷ []) was is f
    (subst (λ text. GrewByPrefix text (grown (text_of_all said) was) is) (sym (append-nil (text_of line))) g)

-- ---- the opening of a chip as it was loaded

board_of : Live → Board
board_of l = l.chip.inside.works.site.board

reset_fresh : (j : ℕ) (x : Hart) → ResetAs j x → IsFreshPart x.debug
reset_fresh j x r = subst (λ (y : Hart). IsFreshPart y.debug) (sym r.is) (reset_is_fresh r.version r.halted)

pub loaded_fresh : (l : Live) → AsLoaded l → IsFresh l.chip.inside.works.site.board
loaded_fresh l a j x is =
    reset_fresh j x (each_reset a.version a.harts a.halted a.right.most j x (sym (ap (λ (k : Live). slice_get k.chip.inside.works.site.board.harts j) a.is) ∙ is))

pub begun_deals : (p : Plan) (first : Far) → AsLoaded first.live
    → Deals (machine_of (site_of first).board) 0 Idle (origin_of p first) (behind_opening p) [] (target_of (site_of first))
begun_deals p first a =
    subst (λ (j : List Point). Deals (machine_of (site_of first).board) 0 Idle (origin_of p first) (behind_opening p) []
    (record { board = (site_of first).board; journal = j }))
    (sym (ap (λ (k : Live). k.chip.inside.works.site.journal) a.is)) (deals_starts 0 (behind_opening p) (site_of first).board (loaded_fresh first.live a))

pub opened_deals : (p : Plan) (first : Far) (new : Option Far) → AsLoaded first.live → OpenedChip first new
    → DealsAt (machine_of (site_of first).board) (origin_of p first) (idle p) [] new
opened_deals p first new a opened =
    let m : Machine = machine_of (site_of first).board in
    let o : Origin = origin_of p first in
    let old : Target = target_of (site_of first) in
    let sees : Seen = seen_at 0 (after_turns opened.happened.before old.board) in
    let looks : Looked 0 sees old (target_of (site_of opened.far)) = record { pointed = opened.happened; shows = refl } in
    at_far m 0 Idle o p [] opened.far new opened.is
    (deals_looked m 0 Idle Idle o 0 (λ _. p) sees [] old (target_of (site_of opened.far)) (λ w e k. k)
    (begun_deals p first a) looks)

-- ---- where a session is at its end

-- a chip that is told still
pub found_far : (P : Target → Type 0) (Q : Far → Type 0) (new : Option Far) (t : Target) → target_at new ≡ Some t → P t
    → ((f : Far) → P (target_of (site_of f)) → Q f) → Still Q new
found_far P Q None t is p step = absurd (none-some t is)
found_far P Q (Some f) t is p step = record { far = f; is = refl; holds = step f (subst P (sym (same_Some (target_of (site_of f)) t is)) p) }

grades : (wrong : Bool) (said : List Line) → any_error said ≡ wrong → graded Done said ≡ (if wrong then End.WithErrors else End.Clean)
grades wrong said is = ap (λ (b : Bool). if b then End.WithErrors else End.Clean) is

pub ran_transcribed : (p : Plan) (wrong : Bool) (first : Far) (was is : Option (List ℕ)) (new : Option Far) (said : List Line)
    → DealsAt (machine_of (site_of first).board) (origin_of p first) (at_stop tt) said new
    → any_error said ≡ wrong → is ≡ grown (text_of_all said) was → Still (IsTranscript p (if wrong then End.WithErrors else End.Clean) was is first) new
ran_transcribed p wrong first was is new said d wrong_is put =
    found_far (λ t. Deals (machine_of (site_of first).board) 0 Idle (origin_of p first) (stop Done) said t)
    (IsTranscript p (if wrong then End.WithErrors else End.Clean) was is first) new d.target d.is d.holds (λ f e.
    let t : IsTranscribed (origin_of p first) (graded Done said) said (target_of (site_of f)) =
    transcribed (origin_of p first) Done said (target_of (site_of f)) e.stands in
    record {
      end_is = t.end_is ∙ grades wrong said wrong_is;
      written = put ∙ ap (λ (l : List Line). grown (text_of_all l) was) (sym t.lines_are);
      board_is = t.board_is;
    })
