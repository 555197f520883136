-- Lines that are said and written, one behind another.
use Rattle.std.proofs.Common.{◌≡◌, ◌≤◌, ◌∙◌, ◌++◌, ℕ, Bool, true, false, List, [], ◌∷◌, Option, Some, None, refl, sym, ap, subst, append_assoc, append-nil}
use Rattle.std.specs.Prelude.{◌||◌, not}
use Rattle.std.proofs.lemmas.List.Folds.{list_any-append}
use Rattle.jt_base.specs.Faults.{Rises}
use Rattle.jt_base.specs.Sink.{GrewByPrefix, grown}
use Rattle.abstract_debugger.specs.Lines.{Line, any_error, is_error, text_of, text_of_all}
use Rattle.abstract_debugger.specs.Plan.{Plan}
use Rattle.abstract_debugger.specs.Plan.Plan.{say}
use Rattle.abstract_debugger.specs.Ways.{Way}
use Rattle.abstract_debugger.specs.Ways.Way.{Idle}
use Rattle.printed_lines.specs.declared.line.Line.{Line as PrintedLine}
use Rattle.printed_lines.specs.declared.line.Line.TheVariants as printed
use Rattle.printed_lines.specs.Line.{line_of}
use Rattle.probe_run.specs.Acts.{Tells}
use Rattle.probe_session.specs.declared.fault.Failure.{Failure}
use Rattle.probe_session.specs.declared.fault.Failure.TheVariants as failure
use Rattle.abstract_debugger.specs.Laws.{Quiet}
use Rattle.probe_session.specs.Goes.{Falls, Fell, Spoke, Went}
use Rattle.probe_session.specs.Goes.Fell.{among_lines, at_line, in_call}
use Rattle.probe_session.specs.Places.{Place, at_say, idle, wants_call, may_say, place, spot}
use Rattle.probe_session.specs.Said.{said_by}
use Rattle.probe_session.specs.Steps.Step.{says}
use Rattle.probe_session.proofs.WentLemmas.{falls_then, falls_within, went_none, went_one, went_then, within}

pub text_of_all-append : (xs ys : List Line) → text_of_all (xs ++ ys) ≡ text_of_all xs ++ text_of_all ys
text_of_all-append [] ys = refl
text_of_all-append (x ∷ xs) ys = ap (λ text. text_of x ++ text) (text_of_all-append xs ys) ∙ sym (append_assoc (text_of x) (text_of_all xs) (text_of_all ys))

pub grown_none : (c : Option (List ℕ)) → c ≡ grown [] c
grown_none None = refl
grown_none (Some bytes) = ap (λ (x : List ℕ). Some x) (sym (append-nil bytes))

pub grown_twice : (a b : List ℕ) (c : Option (List ℕ)) → grown b (grown a c) ≡ grown (a ++ b) c
grown_twice a b None = refl
grown_twice a b (Some bytes) = ap (λ (x : List ℕ). Some x) (append_assoc bytes a b)

pub grown_lines : (xs ys : List Line) (c d e : Option (List ℕ)) → d ≡ grown (text_of_all xs) c → e ≡ grown (text_of_all ys) d
    → e ≡ grown (text_of_all (xs ++ ys)) c
grown_lines xs ys c d e first second =
    second ∙ ap (grown (text_of_all ys)) first ∙ grown_twice (text_of_all xs) (text_of_all ys) c
    ∙ ap (λ (text : List ℕ). grown text c) (sym (text_of_all-append xs ys))

pub one_text : (line : Line) (c : Option (List ℕ)) → grown (text_of line) c ≡ grown (text_of_all (line ∷ [])) c
one_text line c = ap (λ (text : List ℕ). grown text c) (sym (append-nil (text_of line)))

-- ---- lines that were written

pub spoke_none : {K : Type 0} {a : K → Place} {t : Tells} (c : Option (List ℕ)) → Spoke a a false t t c c
spoke_none c = record { said = []; went = went_none; put = grown_none c; wrong_is = refl }

pub spoke_went : {K : Type 0} {a b d : K → Place} {wrong : Bool} {t u v : Tells} {c e : Option (List ℕ)} → Spoke a b wrong t u c e → Went b d [] u v
    → Spoke a d wrong t v c e
spoke_went {K} {a} {b} {d} {wrong} {t} {u} {v} {c} {e} s w = record {
  said = s.said;
  went = subst (λ l. Went a d l t v) (append-nil s.said) (went_then s.went w);
  put = s.put;
  wrong_is = s.wrong_is;
}

pub went_spoke : {K : Type 0} {a b d : K → Place} {wrong : Bool} {t u v : Tells} {c e : Option (List ℕ)} → Went a b [] t u → Spoke b d wrong u v c e
    → Spoke a d wrong t v c e
went_spoke w s = record { said = s.said; went = went_then w s.went; put = s.put; wrong_is = s.wrong_is }

pub spoke_then : {K : Type 0} {a b d : K → Place} {x y : Bool} {t u v : Tells} {c e f : Option (List ℕ)} → Spoke a b x t u c e → Spoke b d y u v e f
    → Spoke a d (x || y) t v c f
spoke_then {K} {a} {b} {d} {x} {y} {t} {u} {v} {c} {e} {f} p q = record {
  said = p.said ++ q.said;
  went = went_then p.went q.went;
  put = grown_lines p.said q.said c e f p.put q.put;
  wrong_is = list_any-append is_error p.said q.said ∙ ap (λ (z : Bool). z || any_error q.said) p.wrong_is ∙ ap (λ (z : Bool). x || z) q.wrong_is;
}

or_false : (b : Bool) → (b || false) ≡ b
or_false true = refl
or_false false = refl

-- lines that were said at once, and then written
pub spoke_lines : {K : Type 0} {a b : K → Place} {t u : Tells} (said : List Line) {c d : Option (List ℕ)} → any_error said ≡ false → Went a b said t u
    → d ≡ grown (text_of_all said) c → Spoke a b false t u c d
spoke_lines said plain w put = record { said = said; went = w; put = put; wrong_is = plain }

-- and one of them was not
pub fell_among : {K : Type 0} {T : K → Type 0} {a : K → Place} (said : List Line) (way : Way) (h : ℕ) (p : K → Plan) (quiet : (k : K) → T k → Quiet (p k))
    (old_count new_count : ℕ) {t u : Tells} {sink_old sink_new : ℕ} {c d : Option (List ℕ)} {f : Failure} → f ≡ failure.Sink
    → Went a (λ k. place way h (p k)) said t u → GrewByPrefix (text_of_all said) c d → Rises sink_old sink_new
    → Fell T a old_count new_count t u sink_old sink_new c d f
fell_among {K} {T} {a} said way h p quiet old_count new_count {t} {u} {sink_old} {sink_new} {c} {d} {f} is w front rises =
    subst (λ (x : Failure). Fell T a old_count new_count t u sink_old sink_new c d x) (sym is)
    (among_lines [] said way h p quiet w (subst (λ x. GrewByPrefix (text_of_all said) x d) (grown_none c) front) rises)

-- a line that is said and written
says_at : {K : Type 0} (heard : Bool) (way : Way) (h : ℕ) (line : Line) (p : K → Plan) {t : Tells} {c d : Option (List ℕ)} → may_say heard line ≡ true
    → d ≡ grown (text_of line) c
    → Spoke (λ k. spot heard way h (say line (p k))) (λ k. place way h (p k)) (is_error line) t t c d
says_at heard way h line p {t} {c} {d} may put = record {
  said = line ∷ [];
  went = went_one (λ k. says may);
  put = put ∙ one_text line c;
  wrong_is = or_false (is_error line);
}

-- a line that wants no call
pub says_line : {K : Type 0} (way : Way) (h : ℕ) (line : Line) (p : K → Plan) {t : Tells} {c d : Option (List ℕ)} → wants_call line ≡ false
    → d ≡ grown (text_of line) c
    → Spoke (λ k. place way h (say line (p k))) (λ k. place way h (p k)) (is_error line) t t c d
says_line way h line p plain put = says_at false way h line p (ap not plain) put

pub spoke_says : {K : Type 0} {a : K → Place} (way : Way) (h : ℕ) (line : Line) (p : K → Plan) {wrong : Bool} {t u : Tells} {c d e : Option (List ℕ)}
    → wants_call line ≡ false → Spoke a (λ k. place way h (say line (p k))) wrong t u c d
    → e ≡ grown (text_of line) d → Spoke a (λ k. place way h (p k)) (wrong || is_error line) t u c e
spoke_says way h line p plain s put = spoke_then s (says_line way h line p plain put)

-- any line at its place
said_where : (b : Bool) → (b || not b) ≡ true
said_where true = refl
said_where false = refl

pub may_at_say : (line : Line) → may_say (wants_call line) line ≡ true
may_at_say line = said_where (wants_call line)

spoke_at : {K : Type 0} {a : K → Place} (line : Line) (p : K → Plan) {wrong : Bool} {t u : Tells} {c d e : Option (List ℕ)}
    → Spoke a (λ k. at_say line (p k)) wrong t u c d → e ≡ grown (text_of line) d
    → Spoke a (λ k. idle (p k)) (wrong || is_error line) t u c e
spoke_at line p s put = spoke_then s (says_at (wants_call line) Idle 0 line p (may_at_say line) put)

pub spoke_within : {K L : Type 0} {a b : L → Place} {wrong : Bool} {t u : Tells} {c d : Option (List ℕ)} (f : K → L) → Spoke a b wrong t u c d
    → Spoke (λ k. a (f k)) (λ k. b (f k)) wrong t u c d
spoke_within f s = record { said = s.said; went = within f s.went; put = s.put; wrong_is = s.wrong_is }

-- ---- and what fell

falls_said : {K : Type 0} {a : K → Place} {xs ys : List Line} {old_count new_count : ℕ} {t u : Tells} {f : Failure} → xs ≡ ys
    → Falls a xs old_count new_count t u f → Falls a ys old_count new_count t u f
falls_said {K} {a} {xs} {ys} {old_count} {new_count} {t} {u} {f} is p = subst (λ l. Falls a l old_count new_count t u f) is p

-- a call failed behind lines that were written
pub fell_call : {K : Type 0} {T : K → Type 0} {a b : K → Place} {wrong : Bool} {old_count count new_count : ℕ} {t u v : Tells} (sink_old sink_new : ℕ)
    {c d : Option (List ℕ)} {f : Failure} → Spoke a b wrong t u c d → old_count ≤ count
    → Falls b [] count new_count u v f → Fell T a old_count new_count t v sink_old sink_new c d f
fell_call sink_old sink_new s le p = in_call s.said (falls_said (append-nil s.said) (falls_then s.went le p)) s.put

pub front_at : (line : Line) (c d e : Option (List ℕ)) → d ≡ c → GrewByPrefix (text_of line) d e → GrewByPrefix (text_of line) c e
front_at line c d e is g = subst (λ x. GrewByPrefix (text_of line) x e) is g

-- a line could not be written, behind others
fell_where : {K : Type 0} {T : K → Type 0} {a : K → Place} (heard : Bool) (way : Way) (h : ℕ) (line : Line) (p : K → Plan) (may : may_say heard line ≡ true)
    (quiet : (k : K) → T k → Quiet (p k)) {wrong : Bool} (old_count new_count : ℕ) {t u : Tells} {sink_old sink_new : ℕ} {c d e : Option (List ℕ)}
    {f : Failure} → f ≡ failure.Sink
    → Spoke a (λ k. spot heard way h (say line (p k))) wrong t u c d → GrewByPrefix (text_of line) d e → Rises sink_old sink_new
    → Fell T a old_count new_count t u sink_old sink_new c e f
fell_where {K} {T} {a} heard way h line p may quiet old_count new_count {t} {u} {sink_old} {sink_new} {c} {d} {e} {f} is s front rises =
    subst (λ (x : Failure). Fell T a old_count new_count t u sink_old sink_new c e x) (sym is)
    (at_line s.said line heard way h p may quiet s.went (front_at line (grown (text_of_all s.said) c) d e s.put front) rises)

pub fell_line : {K : Type 0} {T : K → Type 0} {a : K → Place} (way : Way) (h : ℕ) (line : Line) (p : K → Plan) (plain : wants_call line ≡ false)
    (quiet : (k : K) → T k → Quiet (p k)) {wrong : Bool} (old_count new_count : ℕ) {t u : Tells} {sink_old sink_new : ℕ} {c d e : Option (List ℕ)}
    {f : Failure} → f ≡ failure.Sink
    → Spoke a (λ k. place way h (say line (p k))) wrong t u c d → GrewByPrefix (text_of line) d e → Rises sink_old sink_new
    → Fell T a old_count new_count t u sink_old sink_new c e f
fell_line way h line p plain quiet old_count new_count is s front rises =
    fell_where false way h line p (ap not plain) quiet old_count new_count is s front rises

-- any line at its place
pub fell_said : {K : Type 0} {T : K → Type 0} {a : K → Place} (line : Line) (p : K → Plan) (quiet : (k : K) → T k → Quiet (p k)) {wrong : Bool}
    (old_count new_count : ℕ) {t u : Tells} {sink_old sink_new : ℕ} {c d e : Option (List ℕ)} {f : Failure} → f ≡ failure.Sink
    → Spoke a (λ k. at_say line (p k)) wrong t u c d → GrewByPrefix (text_of line) d e → Rises sink_old sink_new
    → Fell T a old_count new_count t u sink_old sink_new c e f
fell_said line p quiet old_count new_count is s front rises = fell_where (wants_call line) Idle 0 line p (may_at_say line) quiet old_count
    new_count is s front rises

pub fell_within : {K L : Type 0} {T : K → Type 0} {U : L → Type 0} {a : L → Place} {old_count new_count : ℕ} {t u : Tells} {sink_old sink_new : ℕ}
    {c d : Option (List ℕ)} {f : Failure} (g : K → L) (calm : (k : K) → T k → U (g k)) → Fell U a old_count new_count t u sink_old sink_new c d f
    → Fell T (λ k. a (g k)) old_count new_count t u sink_old sink_new c d f
fell_within g calm (in_call said p put) = in_call said (falls_within g p) put
fell_within g calm (at_line said line heard way h p may quiet w front rises) =
    at_line said line heard way h (λ k. p (g k)) may (λ k t. quiet (g k) (calm k t)) (within g w) front rises
fell_within g calm (among_lines said ahead way h p quiet w front rises) =
    among_lines said ahead way h (λ k. p (g k)) (λ k t. quiet (g k) (calm k t)) (within g w) front rises

-- ---- one line

pub fell_first : {K : Type 0} {T : K → Type 0} {a : K → Place} {old_count new_count : ℕ} {t u : Tells} (sink_old sink_new : ℕ) (c : Option (List ℕ))
    {f : Failure} → Falls a [] old_count new_count t u f → Fell T a old_count new_count t u sink_old sink_new c c f
fell_first sink_old sink_new c p = in_call [] p (grown_none c)

pub spoke_first : {K : Type 0} {a b : K → Place} {t u : Tells} (c : Option (List ℕ)) → Went a b [] t u → Spoke a b false t u c c
spoke_first c w = spoke_went (spoke_none c) w

-- an error line is one however it is kept
same_error : (l : PrintedLine) → is_error (line_of l) ≡ is_error (said_by l)
same_error (printed.Idcode n) = refl
same_error (printed.Selected h) = refl
same_error (printed.Halted pc cause hits) = refl
same_error printed.Running = refl
same_error printed.Resumed = refl
same_error (printed.Register n v) = refl
same_error (printed.Element a size v) = refl
same_error (printed.Wrote n) = refl
same_error (printed.Row a bytes) = refl
same_error (printed.Via path) = refl
same_error (printed.Ebreak on) = refl
same_error (printed.Slot n used hit) = refl
same_error (printed.Loaded n) = refl
same_error (printed.SoftSet a) = refl
same_error (printed.SoftClear a) = refl
same_error (printed.NoHart h) = refl
same_error (printed.IsRunning h) = refl
same_error (printed.MemoryFault a) = refl
same_error (printed.RegisterRefused n) = refl
same_error printed.NoFreeSlot = refl
same_error (printed.SlotNotInUse n) = refl
same_error (printed.SoftIsSet a) = refl
same_error (printed.SoftNotSet a) = refl
same_error printed.NoFreeSoftBreak = refl
same_error printed.SoftBreaksAreSet = refl

-- a command of one line, which is said and written
pub one_line : {K : Type 0} {a : K → Place} (l : PrintedLine) (p : K → Plan) (wrong : Bool) {t u : Tells} {c d : Option (List ℕ)} → wrong ≡ is_error (line_of l)
    → Went a (λ k. at_say (said_by l) (p k)) [] t u
    → d ≡ grown (text_of (said_by l)) c → Spoke a (λ k. idle (p k)) wrong t u c d
one_line {K} {a} l p wrong {t} {u} {c} {d} is w put =
    subst (λ b. Spoke a (λ k. idle (p k)) b t u c d) (sym (is ∙ same_error l)) (spoke_at (said_by l) p (spoke_first c w) put)
