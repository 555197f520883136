-- The bytes of `dump` along the plan: rows as a user sees them, and the row that waits behind them.
use Rattle.std.proofs.Common.{◌≡◌, ◌∙◌, ◌+◌, ◌++◌, ℕ, zero, suc, Bool, true, false, List, [], ◌∷◌, length, refl, sym, ap, subst}
use Rattle.std.proofs.Common.{arith}
use Rattle.std.proofs.Common.{if◌then◌else◌}
use Rattle.std.specs.Prelude.{◌==◌}
use Rattle.std.proofs.lemmas.Bool.{eqb-true}
use Rattle.std.proofs.lemmas.List.{length-append}
use Rattle.rv_model.specs.declared.size.Size.TheVariants.{B1}
use Rattle.rv_model.specs.Size.{count_of}
use Rattle.debug_model.specs.declared.command.Path.{Path}
use Rattle.abstract_debugger.specs.Debugger.{row_bytes, saying_row}
use Rattle.abstract_debugger.specs.Lines.{Line}
use Rattle.abstract_debugger.specs.Plan.{Plan}
use Rattle.abstract_debugger.specs.Plan.Plan.{say}
use Rattle.probe_session.specs.Blocks.{Loads, MayLoad, Says, loading}
use Rattle.probe_session.specs.Showing.{byte_rows, row_lines, whole_rows}
use Rattle.soft_laws.specs.Lowered.{Table, lower}
use Rattle.soft_laws.specs.Shown.{shown_value}
use Rattle.soft_laws.proofs.AlikePlans.{shown_dumping}
use Rattle.soft_session.specs.Memory.{shown_values}

-- the plan behind a byte that was loaded, and behind one that was refused
abbrev pub behind_byte : (path : Path) (n first : ℕ) (row : List ℕ) (next : Plan) (t : Table) → ℕ → Plan
behind_byte path n first row next t v =
    if length row + 1 == row_bytes
    then say (Line.Row first (row ++ shown_value t (first + length row) 1 v ∷ [])) (shown_dumping path n (first + row_bytes) [] next t)
    else shown_dumping path n first (row ++ shown_value t (first + length row) 1 v ∷ []) next t

abbrev pub faulted : (first : ℕ) (row : List ℕ) (next : Plan) (t : Table) → Plan
faulted first row next t = saying_row first row (say (Line.MemoryFault (first + length row)) (lower next t))

-- what is shown of the bytes behind those of a row
abbrev pub behind_row : Table → (first : ℕ) → (row values : List ℕ) → List ℕ
behind_row t first row values = shown_values t B1 (first + length row) values

-- from a row on: the row that waits behind them, and the lines of those that were whole
pub record Along (path : Path) (n first : ℕ) (row : List ℕ) (next : Plan) (t : Table) (values : List ℕ) (left : ℕ) : Type 0 where
  pub begins : ℕ
  pub waits : List ℕ
  pub along : begins + length waits ≡ first + length row + length values
  pub loads : Loads path B1 (first + length row) (shown_dumping path n first row next t) values (whole_rows first row (behind_row t first row values))
      (shown_dumping path left begins waits next t)
  pub lines : byte_rows first row (behind_row t first row values) ≡ whole_rows first row (behind_row t first row values) ++ row_lines begins waits

one_longer : (v : ℕ) (row : List ℕ) → length (row ++ v ∷ []) ≡ length row + 1
one_longer v row = length-append row (v ∷ [])

pub behind : (path : Path) (a b : ℕ) (p q : Plan) (values : List ℕ) (lines : List Line) → a ≡ b → Loads path B1 a p values lines q
    → Loads path B1 b p values lines q
behind path a b p q values lines is l = subst (λ x. Loads path B1 x p values lines q) is l

-- a byte that fills its row, and one that does not
says_whole : (path : Path) (n first : ℕ) (row : List ℕ) (next : Plan) (t : Table) (v : ℕ) → (length row + 1 == row_bytes) ≡ true
    → Says (behind_byte path n first row next t v) (Line.Row first (row ++ shown_value t (first + length row) 1 v ∷ []) ∷ [])
    (shown_dumping path n (first + row_bytes) [] next t)
says_whole path n first row next t v full = rw full (Says.further refl Says.nothing)

says_part : (path : Path) (n first : ℕ) (row : List ℕ) (next : Plan) (t : Table) (v : ℕ) → (length row + 1 == row_bytes) ≡ false
    → Says (behind_byte path n first row next t v) [] (shown_dumping path n first (row ++ shown_value t (first + length row) 1 v ∷ []) next t)
says_part path n first row next t v part = rw part Says.nothing

rows_whole : (first : ℕ) (row : List ℕ) (v : ℕ) (values : List ℕ) → (length row + 1 == row_bytes) ≡ true
    → whole_rows first row (v ∷ values) ≡ Line.Row first (row ++ v ∷ []) ∷ whole_rows (first + row_bytes) [] values
rows_whole first row v values full = rw full refl

rows_part : (first : ℕ) (row : List ℕ) (v : ℕ) (values : List ℕ) → (length row + 1 == row_bytes) ≡ false
    → whole_rows first row (v ∷ values) ≡ whole_rows first (row ++ v ∷ []) values
rows_part first row v values part = rw part refl

lines_whole : (first : ℕ) (row : List ℕ) (v : ℕ) (values : List ℕ) → (length row + 1 == row_bytes) ≡ true
    → byte_rows first row (v ∷ values) ≡ Line.Row first (row ++ v ∷ []) ∷ byte_rows (first + row_bytes) [] values
lines_whole first row v values full = rw full refl

lines_part : (first : ℕ) (row : List ℕ) (v : ℕ) (values : List ℕ) → (length row + 1 == row_bytes) ≡ false
    → byte_rows first row (v ∷ values) ≡ byte_rows first (row ++ v ∷ []) values
lines_part first row v values part = rw part refl

-- the address of the byte behind it
behind_whole : (first : ℕ) (row : List ℕ) → (length row + 1 == row_bytes) ≡ true → first + row_bytes + 0 ≡ first + length row + count_of B1
behind_whole first row full = let e : length row + 1 ≡ 16 = eqb-true (length row + 1) 16 full in omega (arith, e)

behind_part : (first : ℕ) (row : List ℕ) (v : ℕ) → first + length (row ++ v ∷ []) ≡ first + length row + count_of B1
behind_part first row v = let e : length (row ++ v ∷ []) ≡ length row + 1 = one_longer v row in omega (arith, e)

along_more : (path : Path) (n first : ℕ) (row : List ℕ) (next : Plan) (t : Table) (v : ℕ) (values : List ℕ) (left : ℕ) (b : Bool)
    → (length row + 1 == row_bytes) ≡ b
    → Along path n (first + row_bytes) [] next t values left
    → Along path n first (row ++ shown_value t (first + length row) 1 v ∷ []) next t values left
    → Along path (suc n) first row next t (v ∷ values) left
along_more path n first row next t v values left true full x y =
    let w : ℕ = shown_value t (first + length row) 1 v in
    let more : List ℕ = shown_values t B1 (first + length row + count_of B1) values in
    record {
      begins = x.begins;
      waits = x.waits;
      along = let e : length row + 1 ≡ 16 = eqb-true (length row + 1) 16 full in omega (arith, x.along, e);
      loads = subst (λ ls. Loads path B1 (first + length row) (loading path B1 (first + length row) (faulted first row next t)
          (behind_byte path n first row next t)) (v ∷ values) ls (shown_dumping path left x.begins x.waits next t)) (sym (rows_whole first row w more full))
          (Loads.further (faulted first row next t) (behind_byte path n first row next t) (says_whole path n first row next t v full)
          (behind path (first + row_bytes + 0) (first + length row + count_of B1) _ _ values _ (behind_whole first row full)
          (subst (λ a. Loads path B1 (first + row_bytes + 0) (shown_dumping path n (first + row_bytes) [] next t) values
          (whole_rows (first + row_bytes) [] (shown_values t B1 a values)) (shown_dumping path left x.begins x.waits next t))
          (behind_whole first row full) x.loads)));
      lines = lines_whole first row w more full
          ∙ ap (λ (l : List Line). Line.Row first (row ++ w ∷ []) ∷ l)
          (subst (λ a. byte_rows (first + row_bytes) [] (shown_values t B1 a values)
          ≡ whole_rows (first + row_bytes) [] (shown_values t B1 a values) ++ row_lines x.begins x.waits) (behind_whole first row full) x.lines)
          ∙ ap (λ (l : List Line). l ++ row_lines x.begins x.waits) (sym (rows_whole first row w more full));
    }
along_more path n first row next t v values left false part x y =
    let w : ℕ = shown_value t (first + length row) 1 v in
    let more : List ℕ = shown_values t B1 (first + length row + count_of B1) values in
    record {
      begins = y.begins;
      waits = y.waits;
      along = let e : length (row ++ w ∷ []) ≡ length row + 1 = one_longer w row in omega (arith, y.along, e);
      loads = subst (λ ls. Loads path B1 (first + length row) (loading path B1 (first + length row) (faulted first row next t)
          (behind_byte path n first row next t)) (v ∷ values) ls (shown_dumping path left y.begins y.waits next t)) (sym (rows_part first row w more part))
          (Loads.further (faulted first row next t) (behind_byte path n first row next t) (says_part path n first row next t v part)
          (behind path (first + length (row ++ w ∷ [])) (first + length row + count_of B1) _ _ values _ (behind_part first row w)
          (subst (λ a. Loads path B1 (first + length (row ++ w ∷ [])) (shown_dumping path n first (row ++ w ∷ []) next t) values
          (whole_rows first (row ++ w ∷ []) (shown_values t B1 a values)) (shown_dumping path left y.begins y.waits next t))
          (behind_part first row w) y.loads)));
      lines = lines_part first row w more part
          ∙ subst (λ a. byte_rows first (row ++ w ∷ []) (shown_values t B1 a values)
          ≡ whole_rows first (row ++ w ∷ []) (shown_values t B1 a values) ++ row_lines y.begins y.waits) (behind_part first row w) y.lines
          ∙ ap (λ (l : List Line). l ++ row_lines y.begins y.waits) (sym (rows_part first row w more part));
    }

pub along : (path : Path) (n first : ℕ) (row : List ℕ) (next : Plan) (t : Table) (values : List ℕ) (left : ℕ) → n ≡ length values + left
    → Along path n first row next t values left
along path n first row next t [] left is = record {
  begins = first;
  waits = row;
  along = omega arith;
  loads = let e : n ≡ left = omega (arith, is) in
      subst (λ m. Loads path B1 (first + length row) (shown_dumping path m first row next t) [] [] (shown_dumping path left first row next t)) (sym e)
      Loads.nothing;
  lines = refl;
}
along path zero first row next t (v ∷ values) left is = absurd (omega arith)
along path (suc n) first row next t (v ∷ values) left is =
    along_more path n first row next t v values left (length row + 1 == row_bytes) refl
    (along path n (first + row_bytes) [] next t values left (omega arith))
    (along path n first (row ++ shown_value t (first + length row) 1 v ∷ []) next t values left (omega arith))

may_more : (path : Path) (n first : ℕ) (row : List ℕ) (next : Plan) (t : Table) (b : Bool) → (length row + 1 == row_bytes) ≡ b
    → ((f : ℕ) (r : List ℕ) → MayLoad path B1 (f + length r) n (shown_dumping path n f r next t)) → MayLoad path B1 (first + length row) (suc n)
    (shown_dumping path (suc n) first row next t)
may_more path n first row next t true full each =
    MayLoad.further (faulted first row next t) (behind_byte path n first row next t)
    (λ v. Line.Row first (row ++ shown_value t (first + length row) 1 v ∷ []) ∷ [])
    (λ v. shown_dumping path n (first + row_bytes) [] next t) (λ v. says_whole path n first row next t v full)
    (λ v. subst (λ a. MayLoad path B1 a n (shown_dumping path n (first + row_bytes) [] next t)) (behind_whole first row full) (each (first + row_bytes) []))
may_more path n first row next t false part each =
    MayLoad.further (faulted first row next t) (behind_byte path n first row next t) (λ v. [])
    (λ v. shown_dumping path n first (row ++ shown_value t (first + length row) 1 v ∷ []) next t) (λ v. says_part path n first row next t v part)
    (λ v. subst (λ a. MayLoad path B1 a n (shown_dumping path n first (row ++ shown_value t (first + length row) 1 v ∷ []) next t))
    (behind_part first row (shown_value t (first + length row) 1 v)) (each first (row ++ shown_value t (first + length row) 1 v ∷ [])))

pub may_dump : (path : Path) (n : ℕ) (next : Plan) (t : Table) (first : ℕ) (row : List ℕ)
    → MayLoad path B1 (first + length row) n (shown_dumping path n first row next t)
may_dump path zero next t first row = MayLoad.nothing
may_dump path (suc n) next t first row =
    may_more path n first row next t (length row + 1 == row_bytes) refl (λ f r. may_dump path n next t f r)
