-- `dump`: a block of bytes, and the lines of their rows behind it.
use Rattle.std.proofs.Common.{◌≡◌, ◌+◌, ◌-◌, ◌++◌, ℕ, zero, suc, Bool, true, false, List, [], ◌∷◌, length, Option, refl, sym, ap, subst, arith}
use Rattle.std.proofs.Common.{if◌then◌else◌}
use Rattle.std.specs.Prelude.{◌==◌}
use Rattle.std.proofs.lemmas.Bool.{eqb-true}
use Rattle.std.proofs.lemmas.List.{length-append}
use Rattle.jt_base.specs.Faults.{Rises}
use Rattle.jt_base.specs.Sink.{GrewByPrefix, grown}
use Rattle.rv_model.specs.declared.size.Size.TheVariants.{B1}
use Rattle.rv_model.specs.Size.{count_of}
use Rattle.debug_model.specs.declared.command.Path.{Path}
use Rattle.abstract_debugger.specs.Debugger.{dumping, row_bytes, saying_row}
use Rattle.abstract_debugger.specs.Laws.{Quiet}
use Rattle.abstract_debugger.specs.Lines.{Line, any_error, text_of, text_of_all}
use Rattle.abstract_debugger.specs.Plan.{Plan}
use Rattle.abstract_debugger.specs.Plan.Plan.{say}
use Rattle.abstract_debugger.specs.Ways.{Way}
use Rattle.probe_access.specs.Blocks.{element_at}
use Rattle.probe_run.specs.Acts.{Tells}
use Rattle.probe_session.specs.declared.fault.Failure.{Failure}
use Rattle.probe_session.specs.declared.fault.Failure.TheVariants as failure
use Rattle.probe_session.specs.declared.reach.Reach.{Reach}
use Rattle.probe_session.specs.Answers.{BlockLoadedAs}
use Rattle.probe_session.specs.BlockCalls.{BlockLoadFell, BlockLoaded, BlockLoadedNone}
use Rattle.probe_session.specs.Blocks.{Loads, MayLoad, Says, loading}
use Rattle.probe_session.specs.Goes.{Fault, Fell, Goes, Spoke, Went}
use Rattle.probe_session.specs.Goes.Goes.{start}
use Rattle.probe_session.specs.Places.{idle, place}
use Rattle.probe_session.specs.Reach.{hart_by, path_by, place_by, way_by}
use Rattle.probe_session.specs.Showing.{at_dump, byte_rows, row_lines, whole_rows}
use Rattle.probe_session.specs.Steps.Step.{loads_block, loads_block_none, says}
use Rattle.probe_session.proofs.MemoryLines.{reach_rests}
use Rattle.probe_session.proofs.Spoken.{fell_among, fell_first, fell_line, spoke_lines, spoke_says, spoke_went}
use Rattle.probe_session.proofs.WentLemmas.{falls_at, goes_then, one}

-- ---- the bytes lead along the plan

-- the plan behind a byte that was loaded, and behind one that was refused
abbrev behind_byte : (path : Path) (n first : ℕ) (row : List ℕ) (next : Plan) → ℕ → Plan
behind_byte path n first row next v =
    if length row + 1 == row_bytes
    then say (Line.Row first (row ++ v ∷ [])) (dumping path n (first + row_bytes) [] next)
    else dumping path n first (row ++ v ∷ []) next

abbrev faulted : (first : ℕ) (row : List ℕ) (next : Plan) → Plan
faulted first row next = saying_row first row (say (Line.MemoryFault (first + length row)) next)

-- from a row on: the row that waits behind them, and the lines of those that were whole
record Along (path : Path) (n first : ℕ) (row : List ℕ) (next : Plan) (values : List ℕ) (left : ℕ) : Type 0 where
  pub begins : ℕ
  pub waits : List ℕ
  pub along : begins + length waits ≡ first + length row + length values
  pub loads : Loads path B1 (first + length row) (dumping path n first row next) values (whole_rows first row values) (dumping path left begins waits next)
  pub lines : byte_rows first row values ≡ whole_rows first row values ++ row_lines begins waits

one_longer : (v : ℕ) (row : List ℕ) → length (row ++ v ∷ []) ≡ length row + 1
one_longer v row = length-append row (v ∷ [])

behind : (path : Path) (a b : ℕ) (p q : Plan) (values : List ℕ) (lines : List Line) → a ≡ b → Loads path B1 a p values lines q
    → Loads path B1 b p values lines q
behind path a b p q values lines is l = subst (λ x. Loads path B1 x p values lines q) is l

-- a byte that fills its row, and one that does not
says_whole : (path : Path) (n first : ℕ) (row : List ℕ) (next : Plan) (v : ℕ) → (length row + 1 == row_bytes) ≡ true
    → Says (behind_byte path n first row next v) (Line.Row first (row ++ v ∷ []) ∷ []) (dumping path n (first + row_bytes) [] next)
says_whole path n first row next v full = rw full (Says.further refl Says.nothing)

says_part : (path : Path) (n first : ℕ) (row : List ℕ) (next : Plan) (v : ℕ) → (length row + 1 == row_bytes) ≡ false
    → Says (behind_byte path n first row next v) [] (dumping path n first (row ++ v ∷ []) next)
says_part path n first row next v part = rw part Says.nothing

rows_whole : (first : ℕ) (row : List ℕ) (v : ℕ) (values : List ℕ) → (length row + 1 == row_bytes) ≡ true
    → whole_rows first row (v ∷ values) ≡ Line.Row first (row ++ v ∷ []) ∷ whole_rows (first + row_bytes) [] values
rows_whole first row v values full = rw full refl

rows_part : (first : ℕ) (row : List ℕ) (v : ℕ) (values : List ℕ) → (length row + 1 == row_bytes) ≡ false
    → whole_rows first row (v ∷ values) ≡ whole_rows first (row ++ v ∷ []) values
rows_part first row v values part = rw part refl

-- the address of the byte behind it
behind_whole : (first : ℕ) (row : List ℕ) → (length row + 1 == row_bytes) ≡ true → first + row_bytes + 0 ≡ first + length row + count_of B1
behind_whole first row full = let e : length row + 1 ≡ 16 = eqb-true (length row + 1) 16 full in omega (arith, e)

behind_part : (first : ℕ) (row : List ℕ) (v : ℕ) → first + length (row ++ v ∷ []) ≡ first + length row + count_of B1
behind_part first row v = let e : length (row ++ v ∷ []) ≡ length row + 1 = one_longer v row in omega (arith, e)

dumping-suc : (path : Path) (n first : ℕ) (row : List ℕ) (next : Plan)
    → dumping path (suc n) first row next ≡ loading path B1 (first + length row) (faulted first row next) (behind_byte path n first row next)
unfolding dumping
dumping-suc path n first row next = refl

along_more : (path : Path) (n first : ℕ) (row : List ℕ) (next : Plan) (v : ℕ) (values : List ℕ) (left : ℕ) (b : Bool) → (length row + 1 == row_bytes) ≡ b
    → Along path n (first + row_bytes) [] next values left → Along path n first (row ++ v ∷ []) next values left
    → Along path (suc n) first row next (v ∷ values) left
along_more path n first row next v values left true full x y = record {
  begins = x.begins;
  waits = x.waits;
  along = let e : length row + 1 ≡ 16 = eqb-true (length row + 1) 16 full in omega (arith, x.along, e);
  loads = subst (λ p. Loads path B1 (first + length row) p (v ∷ values) (whole_rows first row (v ∷ values)) (dumping path left x.begins x.waits next))
      (sym (dumping-suc path n first row next))
      (subst (λ ls. Loads path B1 (first + length row) (loading path B1 (first + length row) (faulted first row next) (behind_byte path n first row next))
      (v ∷ values) ls (dumping path left x.begins x.waits next)) (sym (rows_whole first row v values full))
      (Loads.further (faulted first row next) (behind_byte path n first row next) (says_whole path n first row next v full)
      (behind path (first + row_bytes + 0) (first + length row + count_of B1) _ _ values _ (behind_whole first row full) x.loads)));
  lines = rw full (ap (λ (l : List Line). Line.Row first (row ++ v ∷ []) ∷ l) x.lines);
}
along_more path n first row next v values left false part x y = record {
  begins = y.begins;
  waits = y.waits;
  along = let e : length (row ++ v ∷ []) ≡ length row + 1 = one_longer v row in omega (arith, y.along, e);
  loads = subst (λ p. Loads path B1 (first + length row) p (v ∷ values) (whole_rows first row (v ∷ values)) (dumping path left y.begins y.waits next))
      (sym (dumping-suc path n first row next))
      (subst (λ ls. Loads path B1 (first + length row) (loading path B1 (first + length row) (faulted first row next) (behind_byte path n first row next))
      (v ∷ values) ls (dumping path left y.begins y.waits next)) (sym (rows_part first row v values part))
      (Loads.further (faulted first row next) (behind_byte path n first row next) (says_part path n first row next v part)
      (behind path (first + length (row ++ v ∷ [])) (first + length row + count_of B1) _ _ values _ (behind_part first row v) y.loads)));
  lines = rw part y.lines;
}

along : (path : Path) (n first : ℕ) (row : List ℕ) (next : Plan) (values : List ℕ) (left : ℕ) → n ≡ length values + left
    → Along path n first row next values left
along path n first row next [] left is = record {
  begins = first;
  waits = row;
  along = omega arith;
  loads = let e : n ≡ left = omega (arith, is) in
      subst (λ m. Loads path B1 (first + length row) (dumping path m first row next) [] [] (dumping path left first row next)) (sym e) Loads.nothing;
  lines = refl;
}
along path zero first row next (v ∷ values) left is = absurd (omega arith)
along path (suc n) first row next (v ∷ values) left is =
    along_more path n first row next v values left (length row + 1 == row_bytes) refl (along path n (first + row_bytes) [] next values left (omega arith))
    (along path n first (row ++ v ∷ []) next values left (omega arith))

may_more : (path : Path) (n first : ℕ) (row : List ℕ) (next : Plan) (b : Bool) → (length row + 1 == row_bytes) ≡ b
    → ((f : ℕ) (r : List ℕ) → MayLoad path B1 (f + length r) n (dumping path n f r next)) → MayLoad path B1 (first + length row) (suc n)
    (dumping path (suc n) first row next)
may_more path n first row next true full each =
    subst (λ p. MayLoad path B1 (first + length row) (suc n) p) (sym (dumping-suc path n first row next))
    (MayLoad.further (faulted first row next) (behind_byte path n first row next) (λ v. Line.Row first (row ++ v ∷ []) ∷ [])
    (λ v. dumping path n (first + row_bytes) [] next) (λ v. says_whole path n first row next v full)
    (λ v. subst (λ a. MayLoad path B1 a n (dumping path n (first + row_bytes) [] next)) (behind_whole first row full) (each (first + row_bytes) [])))
may_more path n first row next false part each =
    subst (λ p. MayLoad path B1 (first + length row) (suc n) p) (sym (dumping-suc path n first row next))
    (MayLoad.further (faulted first row next) (behind_byte path n first row next) (λ v. [])
    (λ v. dumping path n first (row ++ v ∷ []) next) (λ v. says_part path n first row next v part)
    (λ v. subst (λ a. MayLoad path B1 a n (dumping path n first (row ++ v ∷ []) next)) (behind_part first row v) (each first (row ++ v ∷ []))))

dumping_may : (path : Path) (n : ℕ) (next : Plan) (first : ℕ) (row : List ℕ) → MayLoad path B1 (first + length row) n (dumping path n first row next)
dumping_may path zero next first row = MayLoad.nothing
dumping_may path (suc n) next first row =
    may_more path n first row next (length row + 1 == row_bytes) refl (λ f r. dumping_may path n next f r)

-- none of the lines is of an error
row_right : (first : ℕ) (row : List ℕ) → any_error (row_lines first row) ≡ false
row_right first [] = refl
row_right first (byte ∷ bytes) = refl

right_more : (first : ℕ) (row : List ℕ) (v : ℕ) (values : List ℕ) (b : Bool) → (length row + 1 == row_bytes) ≡ b
    → ((f : ℕ) (r : List ℕ) → any_error (byte_rows f r values) ≡ false) → any_error (byte_rows first row (v ∷ values)) ≡ false
right_more first row v values true full each = rw full (each (first + row_bytes) [])
right_more first row v values false part each = rw part (each first (row ++ v ∷ []))

no_error : (values : List ℕ) (first : ℕ) (row : List ℕ) → any_error (byte_rows first row values) ≡ false
no_error [] first row = row_right first row
no_error (v ∷ values) first row = right_more first row v values (length row + 1 == row_bytes) refl (λ f r. no_error values f r)

-- ---- the block

-- the bytes that wait in a row are said
row_goes : (way : Way) (h first : ℕ) (row : List ℕ) (p : Plan) {t : Tells}
    → Goes (place way h (saying_row first row p)) t (row_lines first row) (place way h p) t
row_goes way h first [] p = start
row_goes way h first (byte ∷ bytes) p = one (says refl)

at_first : (path : Path) (a : ℕ) (p q : Plan) (values : List ℕ) (lines : List Line) → Loads path B1 (a + 0) p values lines q → Loads path B1 a p values lines q
at_first path a p q values lines l = behind path (a + 0) a p q values lines (omega arith) l

dump_goes : (r : Reach) (a count : ℕ) (values : List ℕ) (next : Plan) {t u : Tells} → Along (path_by r) count a [] next values 0
    → BlockLoaded (path_by r) (way_by r) (hart_by r) B1 a values t u → Goes (at_dump r a count next) t (byte_rows a [] values) (place_by r next) u
unfolding dumping
dump_goes r a count values next {t} {u} x l =
    subst (λ ls. Goes (at_dump r a count next) t ls (place_by r next) u) (sym x.lines)
    (goes_then (one (loads_block (at_first (path_by r) a _ _ values _ x.loads) l)) (row_goes (way_by r) (hart_by r) x.begins x.waits next))

pub block_dumped : (r : Reach) (a count : ℕ) (values : List ℕ) {t u : Tells} → BlockLoadedAs (path_by r) (way_by r) (hart_by r) B1 a count values t u true
    → Went (at_dump r a count) (λ next. place_by r next) (byte_rows a [] values) t u
block_dumped r a count values l = record {
  goes = λ next. dump_goes r a count values next
      (along (path_by r) count a [] next values 0 (omega (arith, l.0))) l.1;
}

at_refused : (path : Path) (a count left : ℕ) (values : List ℕ) (next : Plan) (x : Along path count a [] next values (suc left))
    → x.begins + length x.waits ≡ element_at B1 a (length values)
    → Loads path B1 a (dumping path count a [] next) values (whole_rows a [] values)
    (loading path B1 (element_at B1 a (length values)) (faulted x.begins x.waits next) (behind_byte path left x.begins x.waits next))
unfolding dumping
at_refused path a count left values next x here =
    subst (λ y. Loads path B1 a (dumping path count a [] next) values (whole_rows a [] values)
    (loading path B1 y (faulted x.begins x.waits next) (behind_byte path left x.begins x.waits next))) here (at_first path a _ _ values _ x.loads)

refused_goes : (r : Reach) (a count at left : ℕ) (values : List ℕ) (next : Plan) {t u : Tells} → at ≡ a + length values
    → Along (path_by r) count a [] next values (suc left)
    → BlockLoadedNone (path_by r) (way_by r) (hart_by r) B1 a values t u
    → Goes (at_dump r a count next) t (byte_rows a [] values) (place_by r (say (Line.MemoryFault at) next)) u
unfolding dumping
refused_goes r a count at left values next {t} {u} is x l =
    let here : x.begins + length x.waits ≡ element_at B1 a (length values) = omega (arith, x.along) in
    let there : x.begins + length x.waits ≡ at = omega (arith, x.along, is) in
    subst (λ ls. Goes (at_dump r a count next) t ls (place_by r (say (Line.MemoryFault at) next)) u) (sym x.lines)
    (goes_then (one (loads_block_none _ (at_refused (path_by r) a count left values next x here) l))
    (subst (λ y. Goes (place_by r (saying_row x.begins x.waits (say (Line.MemoryFault y) next))) u (row_lines x.begins x.waits)
    (place_by r (say (Line.MemoryFault at) next)) u) (sym there) (row_goes (way_by r) (hart_by r) x.begins x.waits (say (Line.MemoryFault at) next))))

pub dump_refused : (r : Reach) (a count at : ℕ) (values : List ℕ) {t u : Tells} → at ≡ a + length values
    → BlockLoadedAs (path_by r) (way_by r) (hart_by r) B1 a count values t u false
    → Went (at_dump r a count) (λ next. place_by r (say (Line.MemoryFault at) next)) (byte_rows a [] values) t u
dump_refused r a count at values is l =
    let left : ℕ = count - (length values + 1) in
    let all : count ≡ length values + suc left = omega (arith, l.0) in
    record { goes = λ next. refused_goes r a count at left values next is (along (path_by r) count a [] next values (suc left) all) l.1 }

pub dump_fell : (r : Reach) (a count : ℕ) {old_count new_count : ℕ} {t u : Tells} (sink_old sink_new : ℕ) (c : Option (List ℕ)) {f : Failure}
    → BlockLoadFell (path_by r) (way_by r) (hart_by r) B1 a count old_count new_count t u f
    → Fell Quiet (at_dump r a count) old_count new_count t u sink_old sink_new c c f
dump_fell r a count sink_old sink_new c fell = fell_first sink_old sink_new c (falls_at (λ next. Fault.loading_block
    (subst (λ x. MayLoad (path_by r) B1 x count (dumping (path_by r) count a [] next)) (omega arith) (dumping_may (path_by r) count next a [])) fell))

-- ---- its lines

-- where one of them is cut, whether the block is whole or not
pub rows_cut : (r : Reach) (a count old_count new_count : ℕ) (values : List ℕ) (is_whole : Bool) {t u : Tells} {sink_old sink_new : ℕ}
    {c d : Option (List ℕ)} {f : Failure} → f ≡ failure.Sink → BlockLoadedAs (path_by r) (way_by r) (hart_by r) B1 a count values t u is_whole
    → GrewByPrefix (text_of_all (byte_rows a [] values)) c d → Rises sink_old sink_new
    → Fell Quiet (at_dump r a count) old_count new_count t u sink_old sink_new c d f
rows_cut r a count old_count new_count values true sink l front rises =
    fell_among (byte_rows a [] values) (way_by r) (hart_by r) (λ next. next) (λ next calm. calm) old_count new_count sink
    (block_dumped r a count values l) front rises
rows_cut r a count old_count new_count values false sink l front rises =
    fell_among (byte_rows a [] values) (way_by r) (hart_by r) (λ next. say (Line.MemoryFault (a + length values)) next) (λ next calm. calm)
    old_count new_count sink (dump_refused r a count _ values refl l) front rises

pub rows_shown : (r : Reach) (a count : ℕ) (values : List ℕ) {t u : Tells} {c d : Option (List ℕ)}
    → BlockLoadedAs (path_by r) (way_by r) (hart_by r) B1 a count values t u true
    → d ≡ grown (text_of_all (byte_rows a [] values)) c → Spoke (at_dump r a count) idle false t u c d
rows_shown r a count values l put =
    spoke_went (spoke_lines (byte_rows a [] values) (no_error values a []) (block_dumped r a count values l) put) (reach_rests r (λ next. next))

shown_before : (r : Reach) (a count at : ℕ) (values : List ℕ) {t u : Tells} {c d : Option (List ℕ)} → at ≡ a + length values
    → BlockLoadedAs (path_by r) (way_by r) (hart_by r) B1 a count values t u false → d ≡ grown (text_of_all (byte_rows a [] values)) c
    → Spoke (at_dump r a count) (λ next. place_by r (say (Line.MemoryFault at) next)) false t u c d
shown_before r a count at values is l put =
    spoke_lines (byte_rows a [] values) (no_error values a []) (dump_refused r a count at values is l) put

pub rows_refused : (r : Reach) (a count at : ℕ) (values : List ℕ) {t u : Tells} {c d e : Option (List ℕ)} → at ≡ a + length values
    → BlockLoadedAs (path_by r) (way_by r) (hart_by r) B1 a count values t u false → d ≡ grown (text_of_all (byte_rows a [] values)) c
    → e ≡ grown (text_of (Line.MemoryFault at)) d → Spoke (at_dump r a count) idle true t u c e
rows_refused r a count at values is l put more =
    spoke_went (spoke_says (way_by r) (hart_by r) (Line.MemoryFault at) (λ next. next) refl (shown_before r a count at values is l put) more)
    (reach_rests r (λ next. next))

pub refusal_cut : (r : Reach) (a count at old_count new_count : ℕ) (values : List ℕ) {t u : Tells} {sink_old sink_new : ℕ}
    {c d e : Option (List ℕ)} {f : Failure} → f ≡ failure.Sink → at ≡ a + length values
    → BlockLoadedAs (path_by r) (way_by r) (hart_by r) B1 a count values t u false
    → d ≡ grown (text_of_all (byte_rows a [] values)) c → GrewByPrefix (text_of (Line.MemoryFault at)) d e → Rises sink_old sink_new
    → Fell Quiet (at_dump r a count) old_count new_count t u sink_old sink_new c e f
refusal_cut r a count at old_count new_count values sink is l put front rises =
    fell_line (way_by r) (hart_by r) (Line.MemoryFault at) (λ next. next) refl (λ next calm. calm) old_count new_count sink
    (shown_before r a count at values is l put) front rises
