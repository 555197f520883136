-- Elements and bytes that are shown one behind another: the line of the next one, and the lines that are left.
use Rattle.std.proofs.Common.{◌≡◌, ◌≢◌, ◌<◌, ◌≤◌, ◌∙◌, ◌+◌, ◌*◌, ◌++◌, ℕ, Bool, true, false, List, [], ◌∷◌, length, map, drop, get_or, Option, refl}
use Rattle.std.proofs.Common.{sym, ap, subst, arith}
use Rattle.std.specs.Prelude.{◌==◌}
use Rattle.std.proofs.lemmas.Bool.{eq-eqb, eqb-true, false≢true}
use Rattle.std.proofs.lemmas.List.{drop_more, length-append, length-map}
use Rattle.std.proofs.Math.ListN.{drop_of_length-le}
use Rattle.jt_base.specs.Sink.{GrewByPrefix, grown}
use Rattle.rv_model.specs.declared.size.Size.{Size}
use Rattle.rv_model.specs.declared.size.Size.TheVariants.{B1}
use Rattle.rv_model.specs.Size.{count_of}
use Rattle.abstract_debugger.specs.Debugger.{row_bytes}
use Rattle.abstract_debugger.specs.Lines.{Line, text_of, text_of_all}
use Rattle.probe_access.specs.Blocks.{element_at}
use Rattle.probe_access.specs.BusRuns.{cut_to}
use Rattle.probe_session.specs.Showing.{BytePut, RowCut, byte_rows, element_lines, row_lines}
use Rattle.probe_session.proofs.LinesLeft.{LinesLeft, all_put, line_cut, none_put, one_put, some_put}
use Rattle.probe_session.proofs.Spoken.{grown_none, one_text}

-- ---- elements

-- those from a number on, as the size shows them
abbrev from : Size → (number : ℕ) → (values : List ℕ) → List ℕ
from size number values = map (cut_to size) (drop number values)

abbrev pub ElementsLeft : Size → (address : ℕ) → (values : List ℕ) → (number : ℕ) → (was is : Option (List ℕ)) → Type 0
ElementsLeft size address values number was is =
    LinesLeft (element_lines size address (map (cut_to size) values)) (element_lines size (element_at size address number) (from size number values)) was is

next_at : (size : Size) (address number : ℕ) → element_at size address number + count_of size ≡ element_at size address (number + 1)
next_at size address number = omega arith

next_line : (size : Size) (address number d : ℕ) (values : List ℕ) → number < length values
    → element_lines size (element_at size address number) (from size number values)
    ≡ Line.Element (element_at size address number) size (cut_to size (get_or values number d))
    ∷ element_lines size (element_at size address (number + 1)) (from size (number + 1) values)
next_line size address number d values below =
    ap (λ (xs : List ℕ). element_lines size (element_at size address number) (map (cut_to size) xs)) (drop_more values number d below)
    ∙ ap (λ b. Line.Element (element_at size address number) size (cut_to size (get_or values number d)) ∷ element_lines size b (from size (number + 1) values))
    (next_at size address number)

pub elements_none_yet : (size : Size) (address : ℕ) (values : List ℕ) (c : Option (List ℕ)) → ElementsLeft size address values 0 c c
elements_none_yet size address values c = none_put _ _ c
    (let e : element_at size address 0 ≡ address = omega arith in ap (λ b. element_lines size b (map (cut_to size) values)) e)

same_line : (size : Size) (address number at value shown d : ℕ) (values : List ℕ) → at ≡ element_at size address number → value ≡ get_or values number d
    → shown ≡ cut_to size value
    → Line.Element at size shown ≡ Line.Element (element_at size address number) size (cut_to size (get_or values number d))
same_line size address number at value shown d values at_is value_is shown_is =
    ap (λ a. Line.Element a size shown) at_is
    ∙ ap (λ v. Line.Element (element_at size address number) size v) (shown_is ∙ ap (cut_to size) value_is)

at_next : (size : Size) (address number at value shown d : ℕ) (values : List ℕ) {c e : Option (List ℕ)} → number < length values
    → at ≡ element_at size address number → value ≡ get_or values number d → shown ≡ cut_to size value → ElementsLeft size address values number c e
    → LinesLeft (element_lines size address (map (cut_to size) values))
    (Line.Element at size shown ∷ element_lines size (element_at size address (number + 1)) (from size (number + 1) values)) c e
at_next size address number at value shown d values {c} {e} below at_is value_is shown_is p =
    subst (λ left. LinesLeft (element_lines size address (map (cut_to size) values)) left c e)
    (next_line size address number d values below
    ∙ ap (λ l. l ∷ element_lines size (element_at size address (number + 1)) (from size (number + 1) values))
    (sym (same_line size address number at value shown d values at_is value_is shown_is))) p

pub element_put : (size : Size) (address number at value shown d : ℕ) (values : List ℕ) {c e f : Option (List ℕ)} → number < length values
    → at ≡ element_at size address number → value ≡ get_or values number d → shown ≡ cut_to size value → ElementsLeft size address values number c e
    → f ≡ grown (text_of (Line.Element at size shown)) e → ElementsLeft size address values (number + 1) c f
element_put size address number at value shown d values below at_is value_is shown_is p put =
    one_put _ _ (Line.Element at size shown) (at_next size address number at value shown d values below at_is value_is shown_is p) put

pub element_cut : (size : Size) (address number at value shown d : ℕ) (values : List ℕ) (c e f : Option (List ℕ)) → number < length values
    → at ≡ element_at size address number → value ≡ get_or values number d → shown ≡ cut_to size value → ElementsLeft size address values number c e
    → GrewByPrefix (text_of (Line.Element at size shown)) e f
    → GrewByPrefix (text_of_all (element_lines size address (map (cut_to size) values))) c f
element_cut size address number at value shown d values c e f below at_is value_is shown_is p front =
    line_cut _ _ (Line.Element at size shown) c e f (at_next size address number at value shown d values below at_is value_is shown_is p) front

pub elements_put : (size : Size) (address number : ℕ) (values : List ℕ) {c e : Option (List ℕ)} → length values ≤ number
    → ElementsLeft size address values number c e → e ≡ grown (text_of_all (element_lines size address (map (cut_to size) values))) c
elements_put size address number values done p =
    all_put _ _ (ap (λ (xs : List ℕ). element_lines size (element_at size address number) (map (cut_to size) xs)) (drop_of_length-le values done)) p

-- the slice of what was loaded
pub shown_as : (size : Size) (address : ℕ) (slice items : List ℕ) (c d : Option (List ℕ)) → slice ≡ items
    → d ≡ grown (text_of_all (element_lines size address (map (cut_to size) slice))) c
    → d ≡ grown (text_of_all (element_lines size address (map (cut_to size) items))) c
shown_as size address slice items c d is put =
    put ∙ ap (λ (xs : List ℕ). grown (text_of_all (element_lines size address (map (cut_to size) xs))) c) is

pub cut_as : (size : Size) (address : ℕ) (slice items : List ℕ) (c d : Option (List ℕ)) → slice ≡ items
    → GrewByPrefix (text_of_all (element_lines size address (map (cut_to size) slice))) c d
    → GrewByPrefix (text_of_all (element_lines size address (map (cut_to size) items))) c d
cut_as size address slice items c d is front =
    subst (λ (xs : List ℕ). GrewByPrefix (text_of_all (element_lines size address (map (cut_to size) xs))) c d) is front

-- the address of the element that was refused
pub fault_at : (size : Size) (address at n : ℕ) (items : List ℕ) → at ≡ address + n * count_of size → n ≡ length items
    → at ≡ element_at size address (length (map (cut_to size) items))
fault_at size address at n items is many = is ∙ ap (λ k. address + k * count_of size) (many ∙ sym (length-map items (cut_to size)))

-- ---- bytes

abbrev pub BytesLeft : (address : ℕ) → (values : List ℕ) → (number first : ℕ) → (row : List ℕ) → (was is : Option (List ℕ)) → Type 0
BytesLeft address values number first row was is =
    LinesLeft (byte_rows address [] (map (cut_to B1) values)) (byte_rows first row (from B1 number values)) was is

-- where the row that waits begins is known by what was shown
pub record RowWaits (address : ℕ) (values : List ℕ) (number : ℕ) (row : List ℕ) (was is : Option (List ℕ)) : Type 0 where
  pub begins : ℕ
  pub along : begins + length row ≡ address + number
  pub left : BytesLeft address values number begins row was is

pub bytes_none_yet : (address : ℕ) (values row : List ℕ) (c : Option (List ℕ)) → row ≡ [] → RowWaits address values 0 row c c
bytes_none_yet address values row c is = subst (λ r. RowWaits address values 0 r c c) (sym is)
    (record { begins = address; along = omega arith; left = none_put _ _ c refl })

next_byte : (number d : ℕ) (values : List ℕ) → number < length values → from B1 number values
    ≡ cut_to B1 (get_or values number d) ∷ from B1 (number + 1) values
next_byte number d values below = ap (λ (xs : List ℕ). map (cut_to B1) xs) (drop_more values number d below)

pub byte_is : (byte value shown d number : ℕ) (values : List ℕ) → byte ≡ shown → shown ≡ cut_to B1 value → value ≡ get_or values number d
    → cut_to B1 (get_or values number d) ≡ byte
byte_is byte value shown d number values a b c = sym (a ∙ b ∙ ap (cut_to B1) c)

at_byte : (address number first byte d : ℕ) (values row : List ℕ) {c e : Option (List ℕ)} → number < length values
    → first + length row ≡ address + number → cut_to B1 (get_or values number d) ≡ byte → RowWaits address values number row c e
    → LinesLeft (byte_rows address [] (map (cut_to B1) values)) (byte_rows first row (byte ∷ from B1 (number + 1) values)) c e
at_byte address number first byte d values row {c} {e} below along is p =
    let first_is : p.begins ≡ first = omega (arith, p.along, along) in
    subst (λ b. LinesLeft (byte_rows address [] (map (cut_to B1) values)) (byte_rows b row (byte ∷ from B1 (number + 1) values)) c e) first_is
    (subst (λ bytes. LinesLeft (byte_rows address [] (map (cut_to B1) values)) (byte_rows p.begins row bytes) c e)
    (next_byte number d values below ∙ ap (λ x. x ∷ from B1 (number + 1) values) is) p.left)

pub byte_put : (address number first byte d : ℕ) (values row left_row : List ℕ) {c e f : Option (List ℕ)} → number < length values
    → first + length row ≡ address + number → cut_to B1 (get_or values number d) ≡ byte → RowWaits address values number row c e
    → BytePut first row byte left_row e f → RowWaits address values (number + 1) left_row c f
byte_put address number first byte d values row left_row {c} {e} below along is p b = record {
  begins = b.begins;
  along = omega (arith, b.along, along);
  left = some_put _ b.lines _
      (subst (λ left. LinesLeft (byte_rows address [] (map (cut_to B1) values)) left c e) (b.shows (from B1 (number + 1) values))
      (at_byte address number first byte d values row below along is p)) b.put;
}

cut_row : (first byte : ℕ) (row bytes : List ℕ) (b : Bool) → (length row + 1 == row_bytes) ≡ b → length row + 1 ≡ row_bytes
    → byte_rows first row (byte ∷ bytes) ≡ Line.Row first (row ++ byte ∷ []) ∷ byte_rows (first + row_bytes) [] bytes
cut_row first byte row bytes true e whole = rw e refl
cut_row first byte row bytes false e whole = absurd (false≢true (sym e ∙ eq-eqb (length row + 1) row_bytes whole))

pub byte_cut : (address number first byte d : ℕ) (values row : List ℕ) (c e f : Option (List ℕ)) → number < length values
    → first + length row ≡ address + number → cut_to B1 (get_or values number d) ≡ byte → RowWaits address values number row c e
    → RowCut first row byte e f → GrewByPrefix (text_of_all (byte_rows address [] (map (cut_to B1) values))) c f
byte_cut address number first byte d values row c e f below along is p cut =
    line_cut _ _ (Line.Row first (row ++ byte ∷ [])) c e f
    (subst (λ left. LinesLeft (byte_rows address [] (map (cut_to B1) values)) left c e)
    (cut_row first byte row (from B1 (number + 1) values) (length row + 1 == row_bytes) refl cut.whole)
    (at_byte address number first byte d values row below along is p)) cut.front

-- ---- a byte in its row

put_whole : (first byte : ℕ) (row left_row : List ℕ) (c d : Option (List ℕ)) → length row + 1 ≡ row_bytes → left_row ≡ []
    → d ≡ grown (text_of_all (Line.Row first (row ++ byte ∷ []) ∷ [])) c → BytePut first row byte left_row c d
put_whole first byte row left_row c d whole left_is put = record {
  begins = first + row_bytes;
  lines = Line.Row first (row ++ byte ∷ []) ∷ [];
  along = let e : length left_row ≡ 0 = ap (λ (r : List ℕ). length r) left_is in omega (arith, whole, e);
  shows = λ bytes. cut_row first byte row bytes (length row + 1 == row_bytes) refl whole
      ∙ ap (λ (r : List ℕ). Line.Row first (row ++ byte ∷ []) ∷ byte_rows (first + row_bytes) r bytes) (sym left_is);
  put = put;
}

wait_row : (first byte : ℕ) (row bytes : List ℕ) (b : Bool) → (length row + 1 == row_bytes) ≡ b → length row + 1 ≢ row_bytes
    → byte_rows first row (byte ∷ bytes) ≡ byte_rows first (row ++ byte ∷ []) bytes
wait_row first byte row bytes true e part = absurd (part (eqb-true (length row + 1) row_bytes e))
wait_row first byte row bytes false e part = rw e refl

pub byte_waits : (first byte : ℕ) (row left_row : List ℕ) (c : Option (List ℕ)) → length row + 1 ≢ row_bytes → left_row ≡ row ++ byte ∷ []
    → BytePut first row byte left_row c c
byte_waits first byte row left_row c part left_is = record {
  begins = first;
  lines = [];
  along = let e : length left_row ≡ length row + 1 = ap (λ (r : List ℕ). length r) left_is ∙ length-append row (byte ∷ []) in omega (arith, e);
  shows = λ bytes. wait_row first byte row bytes (length row + 1 == row_bytes) refl part
      ∙ ap (λ (r : List ℕ). byte_rows first r bytes) (sym left_is);
  put = grown_none c;
}

pub row_put : (first byte : ℕ) (row items left_row : List ℕ) {c d : Option (List ℕ)} → length row + 1 ≡ row_bytes → items ≡ row ++ byte ∷ []
    → left_row ≡ [] → d ≡ grown (text_of (Line.Row first items)) c → BytePut first row byte left_row c d
row_put first byte row items left_row {c} {d} whole items_are left_is put =
    put_whole first byte row left_row c d whole left_is
    (put ∙ ap (λ (r : List ℕ). grown (text_of (Line.Row first r)) c) items_are ∙ one_text (Line.Row first (row ++ byte ∷ [])) c)

pub row_cut : (first byte : ℕ) (row items : List ℕ) (c d : Option (List ℕ)) → length row + 1 ≡ row_bytes → items ≡ row ++ byte ∷ []
    → GrewByPrefix (text_of (Line.Row first items)) c d → RowCut first row byte c d
row_cut first byte row items c d whole items_are front = record {
  whole = whole;
  front = subst (λ (r : List ℕ). GrewByPrefix (text_of (Line.Row first r)) c d) items_are front;
}

pub is_whole : (n m : ℕ) (b : Bool) → b ≡ (n == 16) → b ≡ true → n ≡ m + 1 → m + 1 ≡ 16
is_whole n m b is full more = let e : n ≡ 16 = eqb-true n 16 (sym is ∙ full) in omega (arith, e, more)

pub is_part : (n m : ℕ) (b : Bool) → b ≡ (n == 16) → b ≡ false → n ≡ m + 1 → m + 1 ≢ 16
is_part n m b is full more e = let f : n ≡ 16 = omega (arith, e, more) in false≢true (sym full ∙ is ∙ eq-eqb n 16 f)

-- ---- the last row

all_bytes : (values : List ℕ) (number : ℕ) → length values ≤ number → from B1 number values ≡ []
all_bytes values number done = ap (λ (xs : List ℕ). map (cut_to B1) xs) (drop_of_length-le values done)

at_last : (address number first : ℕ) (values row : List ℕ) {c e : Option (List ℕ)} → length values ≤ number → first + length row ≡ address + number
    → RowWaits address values number row c e
    → LinesLeft (byte_rows address [] (map (cut_to B1) values)) (row_lines first row) c e
at_last address number first values row {c} {e} done along p =
    let first_is : p.begins ≡ first = omega (arith, p.along, along) in
    subst (λ b. LinesLeft (byte_rows address [] (map (cut_to B1) values)) (row_lines b row) c e) first_is
    (subst (λ bytes. LinesLeft (byte_rows address [] (map (cut_to B1) values)) (byte_rows p.begins row bytes) c e) (all_bytes values number done) p.left)

pub not_empty : (n : ℕ) (b : Bool) → b ≡ (n == 0) → b ≡ false → n ≡ 0 → ⊥
not_empty n b is some none = false≢true (sym some ∙ is ∙ eq-eqb n 0 none)

no_row : (first : ℕ) (row : List ℕ) → length row ≡ 0 → row_lines first row ≡ []
no_row first [] none = refl
no_row first (byte ∷ bytes) none = absurd (omega (arith, none))

a_row : (first : ℕ) (row : List ℕ) → (length row ≡ 0 → ⊥) → row_lines first row ≡ Line.Row first row ∷ []
a_row first [] some = absurd (some refl)
a_row first (byte ∷ bytes) some = refl

pub no_row_left : (address number : ℕ) (values row : List ℕ) {c e : Option (List ℕ)} → length values ≤ number → length row ≡ 0
    → RowWaits address values number row c e → e ≡ grown (text_of_all (byte_rows address [] (map (cut_to B1) values))) c
no_row_left address number values row done none p =
    all_put _ _ (no_row (address + number) row none) (at_last address number (address + number) values row done (omega (arith, none)) p)

at_row : (address number first : ℕ) (values row : List ℕ) {c e : Option (List ℕ)} → length values ≤ number → first + length row ≡ address + number
    → (length row ≡ 0 → ⊥) → RowWaits address values number row c e
    → LinesLeft (byte_rows address [] (map (cut_to B1) values)) (Line.Row first row ∷ []) c e
at_row address number first values row {c} {e} done along some p =
    subst (λ left. LinesLeft (byte_rows address [] (map (cut_to B1) values)) left c e) (a_row first row some)
    (at_last address number first values row done along p)

pub last_put : (address number first : ℕ) (values row : List ℕ) {c e f : Option (List ℕ)} → length values ≤ number → first + length row ≡ address + number
    → (length row ≡ 0 → ⊥) → RowWaits address values number row c e → f ≡ grown (text_of (Line.Row first row)) e
    → f ≡ grown (text_of_all (byte_rows address [] (map (cut_to B1) values))) c
last_put address number first values row done along some p put =
    all_put _ [] refl (one_put _ [] (Line.Row first row) (at_row address number first values row done along some p) put)

pub last_cut : (address number first : ℕ) (values row : List ℕ) (c e f : Option (List ℕ)) → length values ≤ number
    → first + length row ≡ address + number → (length row ≡ 0 → ⊥) → RowWaits address values number row c e
    → GrewByPrefix (text_of (Line.Row first row)) e f → GrewByPrefix (text_of_all (byte_rows address [] (map (cut_to B1) values))) c f
last_cut address number first values row c e f done along some p front =
    line_cut _ [] (Line.Row first row) c e f (at_row address number first values row done along some p) front

-- ---- the slice of what was loaded

pub rows_shown_as : (address : ℕ) (slice items : List ℕ) (c d : Option (List ℕ)) → slice ≡ items
    → d ≡ grown (text_of_all (byte_rows address [] (map (cut_to B1) slice))) c → d ≡ grown (text_of_all (byte_rows address [] (map (cut_to B1) items))) c
rows_shown_as address slice items c d is put = put ∙ ap (λ (xs : List ℕ). grown (text_of_all (byte_rows address [] (map (cut_to B1) xs))) c) is

pub rows_cut_as : (address : ℕ) (slice items : List ℕ) (c d : Option (List ℕ)) → slice ≡ items
    → GrewByPrefix (text_of_all (byte_rows address [] (map (cut_to B1) slice))) c d
    → GrewByPrefix (text_of_all (byte_rows address [] (map (cut_to B1) items))) c d
rows_cut_as address slice items c d is front = subst (λ (xs : List ℕ). GrewByPrefix (text_of_all (byte_rows address [] (map (cut_to B1) xs))) c d) is front

pub byte_fault_at : (address at n : ℕ) (items : List ℕ) → at ≡ address + n → n ≡ length items → at ≡ address + length (map (cut_to B1) items)
byte_fault_at address at n items is many = is ∙ ap (λ k. address + k) (many ∙ sym (length-map items (cut_to B1)))
