-- Lines that are written one behind another: those that are left.
use Rattle.std.proofs.Common.{◌≡◌, ◌∙◌, ◌++◌, ℕ, List, [], ◌∷◌, Option, sym, ap, append_assoc, append-nil}
use Rattle.jt_base.specs.Sink.{GrewByPrefix, grown}
use Rattle.abstract_debugger.specs.Lines.{Line, text_of, text_of_all}
use Rattle.probe_session.proofs.Spoken.{front_at, grown_lines, grown_none, one_text}
use Rattle.probe_session.proofs.Transcribing.{line_written}

pub record LinesLeft (whole left : List Line) (was is : Option (List ℕ)) : Type 0 where
  pub said : List Line
  pub all : said ++ left ≡ whole
  pub put : is ≡ grown (text_of_all said) was

pub none_put : (whole left : List Line) (c : Option (List ℕ)) → left ≡ whole → LinesLeft whole left c c
none_put whole left c is = record { said = []; all = is; put = grown_none c }

pub some_put : (whole lines left : List Line) {c d e : Option (List ℕ)} → LinesLeft whole (lines ++ left) c d → e ≡ grown (text_of_all lines) d
    → LinesLeft whole left c e
some_put whole lines left {c} {d} {e} p put = record {
  said = p.said ++ lines;
  all = append_assoc p.said lines left ∙ p.all;
  put = grown_lines p.said lines c d e p.put put;
}

pub one_put : (whole left : List Line) (line : Line) {c d e : Option (List ℕ)} → LinesLeft whole (line ∷ left) c d → e ≡ grown (text_of line) d
    → LinesLeft whole left c e
one_put whole left line {d = d} p put = some_put whole (line ∷ []) left p (put ∙ one_text line d)

pub all_put : (whole left : List Line) {c d : Option (List ℕ)} → left ≡ [] → LinesLeft whole left c d → d ≡ grown (text_of_all whole) c
all_put whole left {c} is p =
    p.put ∙ ap (λ (ls : List Line). grown (text_of_all ls) c) (sym (append-nil p.said) ∙ ap (λ (ls : List Line). p.said ++ ls) (sym is) ∙ p.all)

-- one of them was cut off in the middle
pub line_cut : (whole left : List Line) (line : Line) (c d e : Option (List ℕ)) → LinesLeft whole (line ∷ left) c d → GrewByPrefix (text_of line) d e
    → GrewByPrefix (text_of_all whole) c e
line_cut whole left line c d e p front =
    line_written p.said whole line c e (record { rest = left; is = sym p.all ∙ sym (append_assoc p.said (line ∷ []) left) })
    (front_at line (grown (text_of_all p.said) c) d e p.put front)
