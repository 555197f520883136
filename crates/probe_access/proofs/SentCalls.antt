-- A command and its first poll in one call, with the writes that come in front of it.
use Rattle.std.proofs.Common.{◌≡◌, ◌∙◌, ◌<◌, ◌^◌, ◌++◌, ℕ, List, [], ◌∷◌, length, All, slice_index_or, arith, Option, refl, ap, subst}
use Rattle.std.proofs.lemmas.List.Elements.{All-cons}
use Rattle.debug_model.specs.Addresses.{abstractcs_address, command_address, data0_address, data1_address, progbuf0_address, progbuf1_address}
use Rattle.debug_model.specs.declared.dmi.DmiFault.{DmiFault}
use Rattle.debug_model.specs.declared.dmi_op.DmiOp.{DmiOp}
use Rattle.debug_model.specs.declared.dmi_op.DmiOp.TheVariants.{Read, Write}
use Rattle.debug_model.specs.Commands.{high_half, low_half}
use Rattle.debug_model.specs.Dmi.{IsOperation}
use Rattle.debug_model.specs.Many.{AnswersAll, ManyCause, OperatedAll, OperationsCut}
use Rattle.debug_model.specs.Scan.{WhereTold}
use Rattle.debug_model.specs.Told.{Far}
use Rattle.probe_run.specs.Acts.{Act, Did, Tells, acts_of, op_act}
use Rattle.probe_run.specs.Acts.Act.{Put}
use Rattle.probe_access.specs.CommandRuns.{CommandBegun, InVain, poll_act}
use Rattle.probe_access.specs.CommandRuns.CommandBegun.{ahead, polls, writes}
use Rattle.probe_access.specs.Faults.{Among, BrokeIn}
use Rattle.probe_access.specs.MemoryRuns.{program_set, program_written}
use Rattle.probe_access.specs.RegisterAccess.{ebreak_word}
use Rattle.probe_access.specs.RegisterRuns.{double_written}
use Rattle.probe_access.proofs.RegisterCalls.{many_broke, sent_acts, two_did, two_small}
use Rattle.probe_run.proofs.ActLemmas.{did_list, did_together}

pub none_vain : InVain []
none_vain = record { busy = λ k d h. absurd (omega arith); few = omega arith }

-- ---- a command alone

pub command_did : (wrote word : ℕ) (results : List ℕ) (old new : Tells) → wrote ≡ word → wrote < 2 ^ 32 → length results ≡ 2
    → WhereTold (OperatedAll (Write command_address wrote ∷ Read abstractcs_address ∷ []) results) old.far new.far
    → AnswersAll (Write command_address wrote ∷ Read abstractcs_address ∷ []) results old.coming new.coming
    → Did old (sent_acts [] word (slice_index_or results 1 0)) new
command_did wrote word results old new is small two told heard =
    subst (λ w. Did old (sent_acts [] w (slice_index_or results 1 0)) new) is
    (two_did (Write command_address wrote) (Read abstractcs_address) results 0 0 old new
    (two_small (Write command_address wrote) (Read abstractcs_address) (omega arith, small) (omega arith)) two told heard)

pub command_broke : (wrote word old_count new_count : ℕ) (old : Tells) (told : Option Far) (why : DmiFault) → wrote ≡ word
    → WhereTold (OperationsCut (Write command_address wrote ∷ Read abstractcs_address ∷ [])) old.far told
    → ManyCause 2 old_count new_count old.far told old.coming why
    → BrokeIn (Among (CommandBegun [] word)) old_count new_count old told why
command_broke wrote word old_count new_count old told why is cut cause =
    subst (λ w. BrokeIn (Among (CommandBegun [] w)) old_count new_count old told why) is
    (many_broke (CommandBegun [] wrote) (Write command_address wrote) (Read abstractcs_address ∷ []) old_count new_count old told why
    (writes, λ a. (polls [] none_vain, λ b. tt)) cut cause)

-- ---- behind the words of a value

pub four_acts : (a b c d : DmiOp) (results : List ℕ) (z : ℕ) → length results ≡ 4
    → acts_of (a ∷ b ∷ c ∷ d ∷ []) results
    ≡ op_act a (slice_index_or results 0 z) ∷ op_act b (slice_index_or results 1 z) ∷ op_act c (slice_index_or results 2 z) ∷ op_act d
    (slice_index_or results 3 z) ∷ []
four_acts a b c d [] z all = absurd (omega arith)
four_acts a b c d (p ∷ []) z all = absurd (omega arith)
four_acts a b c d (p ∷ q ∷ []) z all = absurd (omega arith)
four_acts a b c d (p ∷ q ∷ r ∷ []) z all = absurd (omega arith)
four_acts a b c d (p ∷ q ∷ r ∷ s ∷ []) z all = refl
four_acts a b c d (p ∷ q ∷ r ∷ s ∷ t ∷ xs) z all = absurd (omega arith)

abbrev with_ops : ℕ → ℕ → ℕ → List DmiOp
with_ops low high wrote = Write data0_address low ∷ Write data1_address high ∷ Write command_address wrote ∷ Read abstractcs_address ∷ []

pub four_small : (a b c d : DmiOp) → IsOperation a → IsOperation b → IsOperation c → IsOperation d → All IsOperation (a ∷ b ∷ c ∷ d ∷ [])
four_small a b c d p q r s = All-cons IsOperation a (b ∷ c ∷ d ∷ []) p (All-cons IsOperation b (c ∷ d ∷ []) q (two_small c d r s))

pub with_did : (low high value wrote word : ℕ) (results : List ℕ) (old new : Tells) → low ≡ low_half value → high ≡ high_half value → wrote ≡ word
    → low < 2 ^ 32 → high < 2 ^ 32 → wrote < 2 ^ 32 → length results ≡ 4
    → WhereTold (OperatedAll (with_ops low high wrote) results) old.far new.far → AnswersAll (with_ops low high wrote) results old.coming new.coming
    → Did old (sent_acts (double_written value) word (slice_index_or results 3 0)) new
with_did low high value wrote word results old new is_low is_high is small_low small_high small four told heard =
    did_list (acts_of (with_ops low high wrote) results) (sent_acts (double_written value) word (slice_index_or results 3 0)) old new
    (four_acts (Write data0_address low) (Write data1_address high) (Write command_address wrote) (Read abstractcs_address) results 0 four
    ∙ ap (λ n. Put data0_address n ∷ Put data1_address high ∷ Put command_address wrote ∷ poll_act (slice_index_or results 3 0) ∷ []) is_low
    ∙ ap (λ n. Put data0_address (low_half value) ∷ Put data1_address n ∷ Put command_address wrote ∷ poll_act (slice_index_or results 3 0) ∷ []) is_high
    ∙ ap (λ n. Put data0_address (low_half value) ∷ Put data1_address (high_half value) ∷ Put command_address n ∷ poll_act (slice_index_or results 3 0) ∷ [])
    is)
    (did_together (Write data0_address low) (Write data1_address high ∷ Write command_address wrote ∷ Read abstractcs_address ∷ []) results old new
    (record {
      small = four_small (Write data0_address low) (Write data1_address high) (Write command_address wrote) (Read abstractcs_address)
          (omega arith, small_low) (omega arith, small_high) (omega arith, small) (omega arith);
      told = told;
      heard = heard;
    }))

pub with_broke : (low high value wrote word old_count new_count : ℕ) (old : Tells) (told : Option Far) (why : DmiFault) → low ≡ low_half value
    → high ≡ high_half value
    → wrote ≡ word → WhereTold (OperationsCut (with_ops low high wrote)) old.far told → ManyCause 4 old_count new_count old.far told old.coming why
    → BrokeIn (Among (CommandBegun (double_written value) word)) old_count new_count old told why
with_broke low high value wrote word old_count new_count old told why is_low is_high is cut cause =
    many_broke (CommandBegun (double_written value) word) (Write data0_address (low_half value))
    (Write data1_address (high_half value) ∷ Write command_address word ∷ Read abstractcs_address ∷ []) old_count new_count old told why (
      ahead [] (Put data1_address (high_half value) ∷ []) data0_address (low_half value) refl,
      λ a. (ahead (Put data0_address (low_half value) ∷ []) [] data1_address (high_half value) refl, λ b. (writes, λ c. (polls [] none_vain, λ d. tt))),
    )
    (subst (λ n. WhereTold (OperationsCut (with_ops (low_half value) (high_half value) n)) old.far told) is
    (subst (λ n. WhereTold (OperationsCut (with_ops (low_half value) n wrote)) old.far told) is_high
    (subst (λ n. WhereTold (OperationsCut (with_ops n high wrote)) old.far told) is_low cut))) cause

-- ---- behind a program and its address

six_acts : (a b c d e f : DmiOp) (results : List ℕ) (z : ℕ) → length results ≡ 6
    → acts_of (a ∷ b ∷ c ∷ d ∷ e ∷ f ∷ []) results
    ≡ op_act a (slice_index_or results 0 z) ∷ op_act b (slice_index_or results 1 z) ∷ op_act c (slice_index_or results 2 z) ∷ op_act d
    (slice_index_or results 3 z)
    ∷ op_act e (slice_index_or results 4 z) ∷ op_act f (slice_index_or results 5 z) ∷ []
six_acts a b c d e f [] z all = absurd (omega arith)
six_acts a b c d e f (p ∷ []) z all = absurd (omega arith)
six_acts a b c d e f (p ∷ q ∷ []) z all = absurd (omega arith)
six_acts a b c d e f (p ∷ q ∷ r ∷ []) z all = absurd (omega arith)
six_acts a b c d e f (p ∷ q ∷ r ∷ s ∷ []) z all = absurd (omega arith)
six_acts a b c d e f (p ∷ q ∷ r ∷ s ∷ t ∷ []) z all = absurd (omega arith)
six_acts a b c d e f (p ∷ q ∷ r ∷ s ∷ t ∷ u ∷ []) z all = refl
six_acts a b c d e f (p ∷ q ∷ r ∷ s ∷ t ∷ u ∷ v ∷ xs) z all = absurd (omega arith)

abbrev program_ops : ℕ → ℕ → ℕ → ℕ → List DmiOp
program_ops word low high wrote = Write progbuf0_address word ∷ Write progbuf1_address ebreak_word ∷ with_ops low high wrote

pub program_did : (word low high address wrote run : ℕ) (results : List ℕ) (old new : Tells) → low ≡ low_half address → high ≡ high_half address → wrote ≡ run
    → word < 2 ^ 32 → low < 2 ^ 32 → high < 2 ^ 32 → wrote < 2 ^ 32 → length results ≡ 6
    → WhereTold (OperatedAll (program_ops word low high wrote) results) old.far new.far
    → AnswersAll (program_ops word low high wrote) results old.coming new.coming
    → Did old (sent_acts (program_set word address) run (slice_index_or results 5 0)) new
program_did word low high address wrote run results old new is_low is_high is small_word small_low small_high small six told heard =
    let front : List Act = program_written word in
    let last : Act = poll_act (slice_index_or results 5 0) in
    did_list (acts_of (program_ops word low high wrote) results) (sent_acts (program_set word address) run (slice_index_or results 5 0)) old new
    (six_acts (Write progbuf0_address word) (Write progbuf1_address ebreak_word) (Write data0_address low) (Write data1_address high)
    (Write command_address wrote)
    (Read abstractcs_address) results 0 six
    ∙ ap (λ n. front ++ Put data0_address n ∷ Put data1_address high ∷ Put command_address wrote ∷ last ∷ []) is_low
    ∙ ap (λ n. front ++ Put data0_address (low_half address) ∷ Put data1_address n ∷ Put command_address wrote ∷ last ∷ []) is_high
    ∙ ap (λ n. front ++ Put data0_address (low_half address) ∷ Put data1_address (high_half address) ∷ Put command_address n ∷ last ∷ []) is)
    (did_together (Write progbuf0_address word) (Write progbuf1_address ebreak_word ∷ with_ops low high wrote) results old new
    (record {
      small = All-cons IsOperation (Write progbuf0_address word) (Write progbuf1_address ebreak_word ∷ with_ops low high wrote) (omega arith, small_word)
          (All-cons IsOperation (Write progbuf1_address ebreak_word) (with_ops low high wrote) (omega arith, omega arith)
          (four_small (Write data0_address low) (Write data1_address high) (Write command_address wrote) (Read abstractcs_address)
          (omega arith, small_low) (omega arith, small_high) (omega arith, small) (omega arith)));
      told = told;
      heard = heard;
    }))

pub program_broke : (word low high address wrote run old_count new_count : ℕ) (old : Tells) (told : Option Far) (why : DmiFault) → low ≡ low_half address
    → high ≡ high_half address → wrote ≡ run → WhereTold (OperationsCut (program_ops word low high wrote)) old.far told
    → ManyCause 6 old_count new_count old.far told old.coming why
    → BrokeIn (Among (CommandBegun (program_set word address) run)) old_count new_count old told why
program_broke word low high address wrote run old_count new_count old told why is_low is_high is cut cause =
    let first = Put progbuf0_address word in
    let second = Put progbuf1_address ebreak_word in
    let third = Put data0_address (low_half address) in
    let fourth = Put data1_address (high_half address) in
    many_broke (CommandBegun (program_set word address) run) (Write progbuf0_address word)
    (Write progbuf1_address ebreak_word ∷ with_ops (low_half address) (high_half address) run) old_count new_count old told why (
      ahead [] (second ∷ third ∷ fourth ∷ []) progbuf0_address word refl,
      λ a. (
        ahead (first ∷ []) (third ∷ fourth ∷ []) progbuf1_address ebreak_word refl,
        λ b. (
          ahead (first ∷ second ∷ []) (fourth ∷ []) data0_address (low_half address) refl,
          λ c. (ahead (first ∷ second ∷ third ∷ []) [] data1_address (high_half address) refl, λ d. (writes, λ e. (polls [] none_vain, λ f. tt))),
        ),
      ),
    )
    (subst (λ n. WhereTold (OperationsCut (program_ops word (low_half address) (high_half address) n)) old.far told) is
    (subst (λ n. WhereTold (OperationsCut (program_ops word (low_half address) n wrote)) old.far told) is_high
    (subst (λ n. WhereTold (OperationsCut (program_ops word n high wrote)) old.far told) is_low cut))) cause
