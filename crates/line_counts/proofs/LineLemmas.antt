-- The whole lines of the text of printed lines, and the errors among them.
use Rattle.std.proofs.Common.{◌≡◌, ℕ, Bool, true, false, cond, ◌==◌, List, [], ◌∷◌, ◌++◌, map, length, codes, decimal, refl, ap, ◌∙◌, append_assoc, arith}
use Rattle.std.specs.List.{onto_first, count_by}
use Rattle.std.proofs.lemmas.Bool.{and_parts, not-true}
use Rattle.std.proofs.lemmas.List.{length-map}
use Rattle.std.proofs.lemmas.List.Sums.{sum_by-cons}
use Rattle.std.proofs.lemmas.List.Folds.{list_all-append}
use Rattle.debug_model.specs.declared.command.Path.TheVariants.{Progbuf, Bus}
use Rattle.debug_model.specs.declared.command.WatchKind.TheVariants.{Load, Store, Access}
use Rattle.debug_model.specs.Spelling.{spelled_address}
use Rattle.debug_model.specs.ScriptText.{line_feed, lines_of}
use Rattle.abstract_debugger.specs.Lines.{Line, is_error, words_of_line, text_of, text_of_all, spelled_places, places_from, spelled_cause, spelled_use}
use Rattle.abstract_debugger.specs.Lines.{spelled_what, spelled_hit}
use Rattle.abstract_debugger.specs.Lines.Line.{Idcode, Selected, Halted, Running, Resumed, Register, Element, Wrote, Row, Via, Ebreak, Slot, Loaded, SoftSet, SoftClear}
use Rattle.abstract_debugger.specs.Lines.Line.{NoHart, IsRunning, MemoryFault, RegisterRefused, NoFreeSlot, SlotNotInUse, SoftIsSet, SoftNotSet}
use Rattle.abstract_debugger.specs.Lines.Line.{NoFreeSoftBreak, SoftBreaksAreSet}
use Rattle.abstract_debugger.specs.Slots.{Use}
use Rattle.abstract_debugger.specs.Slots.Use.{Armed, Unused, Other}
use Rattle.abstract_debugger.specs.Trace.{What}
use Rattle.abstract_debugger.specs.Trace.What.{Break, Watch, Count}
use Rattle.line_counts.specs.Counts.{whole_lines, tells_error, lines_in, errors_in}
use Rattle.line_counts.proofs.SplitLemmas.{some_part, all_but_last-cons}
use Rattle.line_counts.proofs.CleanLemmas.{clean_in_case, is_in_line, is_clean, decimal_clean, hexadecimal_clean, bytes_clean, places_clean, name_clean}
use Rattle.line_counts.proofs.CleanLemmas.{name_is_quiet}

-- ---- no line has a line feed

cause_clean : (cause : ℕ) (hits : List Bool) → is_clean (spelled_cause cause hits) ≡ true
cause_clean cause hits =
    let trigger = codes "trigger" ++ spelled_places (places_from 0 hits) in
    let other = codes "cause " ++ decimal cause in
    let fifth = clean_in_case (cause == 5) (codes "reset") other refl (simp decimal_clean) in
    let fourth = clean_in_case (cause == 4) (codes "step") _ refl fifth in
    let third = clean_in_case (cause == 3) (codes "haltreq") _ refl fourth in
    let second = clean_in_case (cause == 2) trigger _ (simp places_clean) third in
    clean_in_case (cause == 1) (codes "ebreak") _ refl second

what_clean : (what : What) → is_clean (spelled_what what) ≡ true
what_clean (Break address) = simp hexadecimal_clean
what_clean (Watch Load address) = simp hexadecimal_clean
what_clean (Watch Store address) = simp hexadecimal_clean
what_clean (Watch Access address) = simp hexadecimal_clean
what_clean (Count turns) = simp decimal_clean

use_clean : (use_of : Use) → is_clean (spelled_use use_of) ≡ true
use_clean (Armed what) = what_clean what
use_clean Unused = refl
use_clean (Other tdata1) = simp hexadecimal_clean

hit_clean : (hit : Bool) → is_clean (spelled_hit hit) ≡ true
hit_clean true = refl
hit_clean false = refl

line_clean : (line : Line) → is_clean (words_of_line line) ≡ true
line_clean (Idcode number) = simp hexadecimal_clean
line_clean (Selected hart) = simp decimal_clean
line_clean (Halted pc cause hits) = simp (list_all-append, hexadecimal_clean, cause_clean)
line_clean Running = refl
line_clean Resumed = refl
line_clean (Register number value) = simp (list_all-append, hexadecimal_clean, name_clean)
line_clean (Element address size value) = simp (list_all-append, hexadecimal_clean)
line_clean (Wrote count) = simp decimal_clean
line_clean (Row address bytes) = simp (list_all-append, hexadecimal_clean, bytes_clean)
line_clean (Via Progbuf) = refl
line_clean (Via Bus) = refl
line_clean (Ebreak true) = refl
line_clean (Ebreak false) = refl
line_clean (Slot slot used hit) = simp (list_all-append, decimal_clean, use_clean, hit_clean)
line_clean (Loaded count) = simp decimal_clean
line_clean (SoftSet address) = simp (list_all-append, hexadecimal_clean)
line_clean (SoftClear address) = simp (list_all-append, hexadecimal_clean)
line_clean (NoHart hart) = simp decimal_clean
line_clean (IsRunning hart) = simp (list_all-append, decimal_clean)
line_clean (MemoryFault address) = simp hexadecimal_clean
line_clean (RegisterRefused number) = simp (list_all-append, name_clean)
line_clean NoFreeSlot = refl
line_clean (SlotNotInUse slot) = simp (list_all-append, decimal_clean)
line_clean (SoftIsSet address) = simp (list_all-append, hexadecimal_clean)
line_clean (SoftNotSet address) = simp (list_all-append, hexadecimal_clean)
line_clean NoFreeSoftBreak = refl
line_clean SoftBreaksAreSet = refl

-- ---- errors begin as errors, and no other line does

error_told : (line : Line) → tells_error (words_of_line line) ≡ is_error line
error_told (Idcode number) = refl
error_told (Selected hart) = refl
error_told (Halted pc cause hits) = refl
error_told Running = refl
error_told Resumed = refl
error_told (Register number value) = name_is_quiet number (spelled_address value)
error_told (Element address size value) = refl
error_told (Wrote count) = refl
error_told (Row address bytes) = refl
error_told (Via path) = refl
error_told (Ebreak is_on) = refl
error_told (Slot slot used hit) = refl
error_told (Loaded count) = refl
error_told (SoftSet address) = refl
error_told (SoftClear address) = refl
error_told (NoHart hart) = refl
error_told (IsRunning hart) = refl
error_told (MemoryFault address) = refl
error_told (RegisterRefused number) = refl
error_told NoFreeSlot = refl
error_told (SlotNotInUse slot) = refl
error_told (SoftIsSet address) = refl
error_told (SoftNotSet address) = refl
error_told NoFreeSoftBreak = refl
error_told SoftBreaksAreSet = refl

-- ---- the whole lines

parts_behind : (words rest : List ℕ) → is_clean words ≡ true → lines_of (words ++ line_feed ∷ rest) ≡ words ∷ lines_of rest
parts_behind [] rest clean = refl
parts_behind (byte ∷ words) rest clean =
    let parts = and_parts (is_in_line byte) (is_clean words) clean in
    let within : (byte == line_feed) ≡ false = not-true (byte == line_feed) parts.0 in
    rw within (ap (λ lines. onto_first byte lines) (parts_behind words rest parts.1))

pub whole_lines_are : (lines : List Line) → whole_lines (text_of_all lines) ≡ map words_of_line lines
unfolding whole_lines
whole_lines_are [] = refl
whole_lines_are (line ∷ lines) =
    let words = words_of_line line in
    let rest = text_of_all lines in
    let parts : lines_of (text_of line ++ rest) ≡ words ∷ lines_of rest = rw append_assoc (parts_behind words rest (line_clean line)) in
    rw parts (all_but_last-cons words (lines_of rest) (some_part (λ byte. byte == line_feed) rest) ∙ ap (λ whole. words ∷ whole) (whole_lines_are lines))

pub lines_in_text : (lines : List Line) → lines_in (text_of_all lines) ≡ length lines
lines_in_text lines = ap length (whole_lines_are lines) ∙ length-map lines words_of_line

errors_among : (lines : List Line) → count_by tells_error (map words_of_line lines) ≡ count_by is_error lines
errors_among [] = refl
errors_among (line ∷ lines) =
    let told = sum_by-cons (λ words. cond (tells_error words) 1 0) (words_of_line line) (map words_of_line lines) in
    let errs = sum_by-cons (λ l. cond (is_error l) 1 0) line lines in
    let same = ap {B = ℕ} (λ b. cond b 1 0) (error_told line) in
    omega (arith, told, errs, same, errors_among lines)

pub errors_in_text : (lines : List Line) → errors_in (text_of_all lines) ≡ count_by is_error lines
errors_in_text lines = ap (λ whole. count_by tells_error whole) (whole_lines_are lines) ∙ errors_among lines
