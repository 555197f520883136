-- The calls of a command whose first poll is made in one call with what came in front of it, put together.
use Rattle.std.proofs.Common.{
  ◌≡◌,
  ◌≢◌,
  ◌∙◌,
  ◌≤◌,
  ◌<◌,
  ◌^◌,
  ◌++◌,
  ℕ,
  List,
  [],
  ◌∷◌,
  map,
  length,
  slice_index_or,
  arith,
  Option,
  refl,
  sym,
  ap,
  subst,
  append_assoc,
  false,
  All,
  true,
}
use Rattle.debug_model.specs.Addresses.{abstractcs_address, command_address, data0_address, data1_address}
use Rattle.debug_model.specs.declared.dmi.DmiFault.{DmiFault}
use Rattle.debug_model.specs.declared.dmi_op.DmiOp.{DmiOp}
use Rattle.debug_model.specs.declared.dmi_op.DmiOp.TheVariants.{Read, Write}
use Rattle.debug_model.specs.Many.{AnswersAll, ManyCause, OperatedAll, OperationsCut}
use Rattle.debug_model.specs.Scan.{WhereTold}
use Rattle.debug_model.specs.Told.{Far}
use Rattle.probe_access.specs.declared.fault.AccessFault.{AccessFault}
use Rattle.probe_access.specs.declared.fault.AccessFault.TheVariants as access_fault
use Rattle.probe_run.specs.Acts.{Act, Attempt, Did, Tells, acts_of, op_act}
use Rattle.probe_run.specs.Acts.Attempt.{Operation, Several}
use Rattle.probe_run.specs.Opening.{clears_cmderr}
use Rattle.probe_access.specs.CommandRuns.{
  BehindBegun,
  EndBehindFailed,
  EndBegun,
  EndFailed,
  EndedBehind,
  EndedFrom,
  InVain,
  clearing,
  error_shown,
  poll_act,
  shows_busy,
}
use Rattle.probe_access.specs.CommandRuns.BehindBegun.{clears, polls, together}
use Rattle.probe_access.specs.CommandRuns.EndBegun.{clears as end_clears, polls as end_polls}
use Rattle.probe_access.specs.Faults.{BrokeIn}
use Rattle.probe_access.specs.RegisterAccess.{joined, transfer_word}
use Rattle.probe_access.specs.RegisterRuns.{AskFailed, Asks, ReadApartFailed, ReadAtOnce, ReadFailed, ReadTooEarly, asked_acts, SwapFailed, Swaps, swapped_acts}
use Rattle.probe_access.specs.RegisterRuns.ReadFailed.{late}
use Rattle.probe_access.proofs.RegisterCalls.{broke_counted}
use Rattle.probe_access.proofs.SentCalls.{four_acts, four_small}
use Rattle.probe_run.proofs.ActLemmas.{broke_list, broke_one, broke_then, did_list, did_then, did_together}
use Rattle.std.proofs.lemmas.List.Elements.{All-cons}
use Rattle.debug_model.specs.Dmi.{IsOperation}
use Rattle.debug_model.specs.Commands.{high_half, low_half}

-- ---- behind any calls, with the first poll

front_then : (front : List Act) (first : ℕ) (rest tail : List Act) → poll_act first ∷ rest ≡ tail → (front ++ poll_act first ∷ []) ++ rest ≡ front ++ tail
front_then front first rest tail is = append_assoc front (poll_act first ∷ []) rest ∙ ap (λ xs. front ++ xs) is

pub ended_behind : (front : List Act) (first last : ℕ) (old mid new : Tells) → Did old (front ++ poll_act first ∷ []) mid → EndedFrom first last mid new
    → EndedBehind front last old new
ended_behind front first last old mid new did e = record {
  words = e.words;
  vain = e.vain;
  idle = e.idle;
  did = did_list ((front ++ poll_act first ∷ []) ++ e.rest) (front ++ (map poll_act e.words ++ poll_act last ∷ clearing (error_shown last))) old new
      (front_then front first e.rest (map poll_act e.words ++ poll_act last ∷ clearing (error_shown last)) e.is)
      (did_then (front ++ poll_act first ∷ []) old mid did e.rest new e.did);
}

-- the first poll is among them
polled_begun : (Front : List Act → Type 0) (op : DmiOp) (ops : List DmiOp) (front : List Act) (first : ℕ) (rest : List Act) (words : List ℕ) → Front front
    → InVain words → poll_act first ∷ rest ≡ map poll_act words
    → BehindBegun Front op ops (front ++ poll_act first ∷ rest) (Operation (Read abstractcs_address))
polled_begun Front op ops front first rest [] made vain is = absurd (let no : ⊥ = cc in no)
polled_begun Front op ops front first rest (w ∷ words) made vain is =
    subst (λ xs. BehindBegun Front op ops (front ++ xs) (Operation (Read abstractcs_address))) (sym is) (polls front w words made vain)

end_begun : (Front : List Act → Type 0) (op : DmiOp) (ops : List DmiOp) (front : List Act) (first : ℕ) (rest : List Act) (failed : Attempt) → Front front
    → EndBegun first rest failed → BehindBegun Front op ops (front ++ poll_act first ∷ rest) failed
end_begun Front op ops front first _ _ made (end_polls words rest vain is) = polled_begun Front op ops front first rest words made vain is
end_begun Front op ops front first _ _ made (end_clears words last rest vain idle error is) =
    subst (λ xs. BehindBegun Front op ops (front ++ xs) (Operation (Write abstractcs_address clears_cmderr))) (sym is)
    (clears front words last made vain idle error)

pub failed_behind : (Front : List Act → Type 0) (op : DmiOp) (ops : List DmiOp) (front : List Act) (first : ℕ) (e : AccessFault)
    (count mid_count new_count : ℕ) (old mid new : Tells) → Front front → Did old (front ++ poll_act first ∷ []) mid → count ≤ mid_count
    → mid_count ≤ new_count → EndFailed first mid_count new_count mid new e → EndBehindFailed Front op ops count new_count old new e
failed_behind Front op ops front first (access_fault.Dmi why) count mid_count new_count old mid new made did le later f = record {
  acts = front ++ poll_act first ∷ f.acts;
  failed = f.failed;
  begun = end_begun Front op ops front first f.acts f.failed made f.begun;
  broke = broke_list ((front ++ poll_act first ∷ []) ++ f.acts) (front ++ poll_act first ∷ f.acts) f.failed count new_count old new.far why
      (append_assoc front (poll_act first ∷ []) f.acts)
      (broke_then (front ++ poll_act first ∷ []) old mid did f.acts f.failed count mid_count new_count new.far why le later f.broke);
}
failed_behind Front op ops front first (access_fault.Memory address) count mid_count new_count old mid new made did le later f = f
failed_behind Front op ops front first (access_fault.Register asked) count mid_count new_count old mid new made did le later f = f
failed_behind Front op ops front first (access_fault.Run why) count mid_count new_count old mid new made did le later f = f
failed_behind Front op ops front first access_fault.StillBusy count mid_count new_count old mid new made did le later f = record {
  front = front;
  made = made;
  busy = record {
    words = f.words;
    busy = f.busy;
    all = f.all;
    did = did_list ((front ++ poll_act first ∷ []) ++ f.rest) (front ++ map poll_act f.words) old new
        (front_then front first f.rest (map poll_act f.words) f.is) (did_then (front ++ poll_act first ∷ []) old mid did f.rest new f.did);
  };
}
failed_behind Front op ops front first (access_fault.Odd shown) count mid_count new_count old mid new made did le later f = f

-- the one call failed
pub together_broke : (Front : List Act → Type 0) (op : DmiOp) (ops : List DmiOp) (old_count new_count : ℕ) (old : Tells) (told : Option Far) (why : DmiFault)
    → WhereTold (OperationsCut (op ∷ ops)) old.far told → ManyCause (length (op ∷ ops)) old_count new_count old.far told old.coming why
    → BrokeIn (BehindBegun Front op ops) old_count new_count old told why
together_broke Front op ops old_count new_count old told why cut cause =
    record { acts = []; failed = Several op ops; begun = together; broke = broke_one (Several op ops) old_count new_count old told why cut cause }

-- since an earlier count of faults
pub behind_counted : (Front : List Act → Type 0) (op : DmiOp) (ops : List DmiOp) (count mid_count new_count : ℕ) (old new : Tells) (e : AccessFault)
    → count ≤ mid_count → mid_count ≤ new_count → EndBehindFailed Front op ops mid_count new_count old new e
    → EndBehindFailed Front op ops count new_count old new e
behind_counted Front op ops count mid_count new_count old new (access_fault.Dmi why) le later f =
    broke_counted (BehindBegun Front op ops) count mid_count new_count old new.far why le later f
behind_counted Front op ops count mid_count new_count old new (access_fault.Memory address) le later f = f
behind_counted Front op ops count mid_count new_count old new (access_fault.Register asked) le later f = f
behind_counted Front op ops count mid_count new_count old new access_fault.StillBusy le later f = f
behind_counted Front op ops count mid_count new_count old new (access_fault.Run why) le later f = f
behind_counted Front op ops count mid_count new_count old new (access_fault.Odd shown) le later f = f

-- ---- a register that is asked for

abbrev pub ask_ops : ℕ → List DmiOp
ask_ops wrote = Write command_address wrote ∷ Read data1_address ∷ Read data0_address ∷ Read abstractcs_address ∷ []

pub asked_did : (number wrote : ℕ) (results : List ℕ) (old new : Tells) → wrote ≡ transfer_word false number → wrote < 2 ^ 32 → length results ≡ 4
    → WhereTold (OperatedAll (ask_ops wrote) results) old.far new.far → AnswersAll (ask_ops wrote) results old.coming new.coming
    → Did old (asked_acts number (slice_index_or results 2 0) (slice_index_or results 1 0) ++ poll_act (slice_index_or results 3 0) ∷ []) new
asked_did number wrote results old new is small four told heard =
    subst (λ w. Did old (Act.Put command_address w ∷ Act.Got data1_address (slice_index_or results 1 0) ∷ Act.Got data0_address (slice_index_or results 2 0)
    ∷ poll_act (slice_index_or results 3 0) ∷ []) new) is
    (did_list (acts_of (ask_ops wrote) results) (Act.Put command_address wrote ∷ Act.Got data1_address (slice_index_or results 1 0)
    ∷ Act.Got data0_address (slice_index_or results 2 0) ∷ poll_act (slice_index_or results 3 0) ∷ []) old new
    (four_acts (Write command_address wrote) (Read data1_address) (Read data0_address) (Read abstractcs_address) results 0 four)
    (did_together (Write command_address wrote) (Read data1_address ∷ Read data0_address ∷ Read abstractcs_address ∷ []) results old new
    (record {
      small = four_small (Write command_address wrote) (Read data1_address) (Read data0_address) (Read abstractcs_address) (omega arith, small) (omega arith)
          (omega arith) (omega arith);
      told = told;
      heard = heard;
    })))

pub asking_broke : (number wrote old_count new_count : ℕ) (old new : Tells) (why : DmiFault) → wrote ≡ transfer_word false number
    → WhereTold (OperationsCut (ask_ops wrote)) old.far new.far → ManyCause 4 old_count new_count old.far new.far old.coming why
    → AskFailed number old_count new_count old new (access_fault.Dmi why)
asking_broke number wrote old_count new_count old new why is cut cause =
    together_broke (Asks number) (Write command_address (transfer_word false number)) (Read data1_address ∷ Read data0_address ∷ Read abstractcs_address ∷ [])
    old_count new_count old new.far why
    (subst (λ w. WhereTold (OperationsCut (ask_ops w)) old.far new.far) is cut) cause

pub asking_failed : (number low high first : ℕ) (e : AccessFault) (count mid_count new_count : ℕ) (old mid new : Tells)
    → Did old (asked_acts number low high ++ poll_act first ∷ []) mid → count ≤ mid_count → mid_count ≤ new_count
    → EndFailed first mid_count new_count mid new e → AskFailed number count new_count old new e
asking_failed number low high first e count mid_count new_count old mid new did le later f =
    failed_behind (Asks number) (Write command_address (transfer_word false number))
    (Read data1_address ∷ Read data0_address ∷ Read abstractcs_address ∷ []) (asked_acts number low high) first e count mid_count new_count old mid new
    (Asks.asks low high) did le later f

-- ---- a register that is read and written

seven_acts : (a b c d e f g : DmiOp) (results : List ℕ) (z : ℕ) → length results ≡ 7
    → acts_of (a ∷ b ∷ c ∷ d ∷ e ∷ f ∷ g ∷ []) results
    ≡ op_act a (slice_index_or results 0 z) ∷ op_act b (slice_index_or results 1 z) ∷ op_act c (slice_index_or results 2 z) ∷ op_act d
    (slice_index_or results 3 z)
    ∷ op_act e (slice_index_or results 4 z) ∷ op_act f (slice_index_or results 5 z) ∷ op_act g (slice_index_or results 6 z) ∷ []
seven_acts a b c d e f g [] z all = absurd (omega arith)
seven_acts a b c d e f g (p ∷ []) z all = absurd (omega arith)
seven_acts a b c d e f g (p ∷ q ∷ []) z all = absurd (omega arith)
seven_acts a b c d e f g (p ∷ q ∷ r ∷ []) z all = absurd (omega arith)
seven_acts a b c d e f g (p ∷ q ∷ r ∷ s ∷ []) z all = absurd (omega arith)
seven_acts a b c d e f g (p ∷ q ∷ r ∷ s ∷ t ∷ []) z all = absurd (omega arith)
seven_acts a b c d e f g (p ∷ q ∷ r ∷ s ∷ t ∷ u ∷ []) z all = absurd (omega arith)
seven_acts a b c d e f g (p ∷ q ∷ r ∷ s ∷ t ∷ u ∷ v ∷ []) z all = refl
seven_acts a b c d e f g (p ∷ q ∷ r ∷ s ∷ t ∷ u ∷ v ∷ w ∷ xs) z all = absurd (omega arith)

abbrev pub swap_ops : ℕ → ℕ → ℕ → ℕ → List DmiOp
swap_ops reads low high writes = Write command_address reads ∷ Read data1_address ∷ Read data0_address ∷ Write data0_address low ∷ Write data1_address high
    ∷ Write command_address writes ∷ Read abstractcs_address ∷ []

-- what is written is what is meant
pub record Meant (number value reads low high writes : ℕ) : Type 0 where
  pub reads_are : reads ≡ transfer_word false number
  pub low_is : low ≡ low_half value
  pub high_is : high ≡ high_half value
  pub writes_are : writes ≡ transfer_word true number

meant_ops : (number value reads low high writes : ℕ) → Meant number value reads low high writes
    → swap_ops reads low high writes ≡ swap_ops (transfer_word false number) (low_half value) (high_half value) (transfer_word true number)
meant_ops number value reads low high writes m =
    ap (λ n. swap_ops n low high writes) m.reads_are
    ∙ ap (λ n. swap_ops (transfer_word false number) n high writes) m.low_is
    ∙ ap (λ n. swap_ops (transfer_word false number) (low_half value) n writes) m.high_is
    ∙ ap (λ n. swap_ops (transfer_word false number) (low_half value) (high_half value) n) m.writes_are

swap_small : (reads low high writes : ℕ) → reads < 2 ^ 32 → low < 2 ^ 32 → high < 2 ^ 32 → writes < 2 ^ 32 → All IsOperation (swap_ops reads low high writes)
swap_small reads low high writes small_reads small_low small_high small_writes =
    let giving : List DmiOp = Write data0_address low ∷ Write data1_address high ∷ Write command_address writes ∷ Read abstractcs_address ∷ [] in
    All-cons IsOperation (Write command_address reads) (Read data1_address ∷ Read data0_address ∷ giving) (omega arith, small_reads)
    (All-cons IsOperation (Read data1_address) (Read data0_address ∷ giving) (omega arith)
    (All-cons IsOperation (Read data0_address) giving (omega arith)
    (four_small (Write data0_address low) (Write data1_address high) (Write command_address writes) (Read abstractcs_address) (omega arith, small_low)
    (omega arith, small_high) (omega arith, small_writes) (omega arith))))

pub swap_did : (number value reads low high writes : ℕ) (results : List ℕ) (old new : Tells) → Meant number value reads low high writes → reads < 2 ^ 32
    → low < 2 ^ 32 → high < 2 ^ 32 → writes < 2 ^ 32 → length results ≡ 7 → WhereTold (OperatedAll (swap_ops reads low high writes) results) old.far new.far
    → AnswersAll (swap_ops reads low high writes) results old.coming new.coming
    → Did old (swapped_acts number (slice_index_or results 2 0) (slice_index_or results 1 0) value ++ poll_act (slice_index_or results 6 0) ∷ []) new
swap_did number value reads low high writes results old new m small_reads small_low small_high small_writes seven told heard =
    did_list (acts_of (swap_ops reads low high writes) results)
    (swapped_acts number (slice_index_or results 2 0) (slice_index_or results 1 0) value ++ poll_act (slice_index_or results 6 0) ∷ []) old new
    (ap (λ ops. acts_of ops results) (meant_ops number value reads low high writes m)
    ∙ seven_acts (Write command_address (transfer_word false number)) (Read data1_address) (Read data0_address) (Write data0_address (low_half value))
    (Write data1_address (high_half value)) (Write command_address (transfer_word true number)) (Read abstractcs_address) results 0 seven)
    (did_together (Write command_address reads) (Read data1_address ∷ Read data0_address ∷ Write data0_address low ∷ Write data1_address high
    ∷ Write command_address writes ∷ Read abstractcs_address ∷ []) results old new
    (record { small = swap_small reads low high writes small_reads small_low small_high small_writes; told = told; heard = heard }))

pub swap_broke : (number value reads low high writes old_count new_count : ℕ) (old new : Tells) (why : DmiFault) → Meant number value reads low high writes
    → WhereTold (OperationsCut (swap_ops reads low high writes)) old.far new.far → ManyCause 7 old_count new_count old.far new.far old.coming why
    → SwapFailed number value old_count new_count old new (access_fault.Dmi why)
swap_broke number value reads low high writes old_count new_count old new why m cut cause =
    together_broke (Swaps number value) (Write command_address (transfer_word false number))
    (Read data1_address ∷ Read data0_address ∷ Write data0_address (low_half value) ∷ Write data1_address (high_half value)
    ∷ Write command_address (transfer_word true number) ∷ Read abstractcs_address ∷ []) old_count new_count old new.far why
    (subst (λ ops. WhereTold (OperationsCut ops) old.far new.far) (meant_ops number value reads low high writes m) cut) cause

pub swap_failed : (number value low high first : ℕ) (e : AccessFault) (count mid_count new_count : ℕ) (old mid new : Tells)
    → Did old (swapped_acts number low high value ++ poll_act first ∷ []) mid → count ≤ mid_count → mid_count ≤ new_count
    → EndFailed first mid_count new_count mid new e → SwapFailed number value count new_count old new e
swap_failed number value low high first e count mid_count new_count old mid new did le later f =
    failed_behind (Swaps number value) (Write command_address (transfer_word false number))
    (Read data1_address ∷ Read data0_address ∷ Write data0_address (low_half value) ∷ Write data1_address (high_half value)
    ∷ Write command_address (transfer_word true number) ∷ Read abstractcs_address ∷ []) (swapped_acts number low high value) first e count mid_count
    new_count old mid new (Swaps.swaps low high) did le later f
