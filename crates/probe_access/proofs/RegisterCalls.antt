-- The calls of a command and of the data words, put together out of single calls.
use Rattle.std.proofs.Common.{
  ◌≡◌,
  ◌≢◌,
  ◌∙◌,
  ◌≤◌,
  ◌<◌,
  ◌^◌,
  ◌++◌,
  ℕ,
  List,
  [],
  ◌∷◌,
  map,
  length,
  All,
  slice_index_or,
  length-append,
  arith,
  Option,
  Result,
  Ok,
  Err,
  IfErr,
  refl,
  sym,
  ap,
  subst,
  append_assoc,
  append-nil,
  true,
  false,
  cond,
}
use Rattle.std.specs.Result.{IsErrAnd}
use Rattle.std.proofs.lemmas.Bool.{ne_eqb}
use Rattle.debug_model.specs.Addresses.{abstractcs_address, command_address}
use Rattle.debug_model.specs.declared.abstract_command.AbstractCommand.{AbstractCommand}
use Rattle.debug_model.specs.declared.dmi.DmiFault.{DmiFault}
use Rattle.debug_model.specs.ModuleWords.{command_word}
use Rattle.debug_model.specs.declared.dmi_op.DmiOp.TheVariants.{Read, Write}
use Rattle.debug_model.specs.Dmi.{DmiCause, IsOperation, Operated, OperationCut, Passes, value_of}
use Rattle.debug_model.specs.Scan.{WhereTold}
use Rattle.debug_model.specs.Told.{Far}
use Rattle.probe_access.specs.declared.fault.AccessFault.{AccessFault}
use Rattle.probe_access.specs.declared.fault.AccessFault.TheVariants as access_fault
use Rattle.probe_run.specs.Acts.{Act, Attempt, Broke, Did, Tells, act_of, acts_of, op_act}
use Rattle.debug_model.specs.declared.dmi_op.DmiOp.{DmiOp}
use Rattle.debug_model.specs.Course.{Operation as ThePerformed}
use Rattle.debug_model.specs.Many.{AnswersAll, ManyCause, OperatedAll, OperationsCut, op_of}
use Rattle.std.proofs.lemmas.List.Elements.{All-cons}
use Rattle.probe_run.specs.Acts.Act.{Put}
use Rattle.probe_run.specs.Acts.Attempt.{Operation, Several}
use Rattle.probe_access.specs.CommandRuns.{
  CommandBegun,
  CommandFailed,
  EndBegun,
  EndFailed,
  EndedFrom,
  PolledFrom,
  RanCommand,
  clearing,
  command_acts,
  error_shown,
  poll_act,
}
use Rattle.probe_access.specs.CommandRuns.CommandBegun.{clears, polls}
use Rattle.probe_access.specs.CommandRuns.EndBegun.{clears as end_clears, polls as end_polls}
use Rattle.probe_access.specs.Faults.{Among, BrokeIn}
use Rattle.probe_access.specs.RegisterRuns.{DoubleReads, ReadApartFailed, WriteFailed, double_written}
use Rattle.probe_access.specs.RegisterRuns.ReadApartFailedAt.{in_command as read_in_command, in_words as read_in_words}
use Rattle.probe_run.specs.Acts.Did.{nothing}
use Rattle.probe_access.specs.RegisterAccess.{transfer_word}
use Rattle.probe_run.proofs.ActLemmas.{broke_list, broke_one, broke_then, did_list, did_one, did_then, did_together}
use Rattle.probe_run.specs.Opening.{clears_cmderr}

-- ---- single calls

pub put_did : (address value : ℕ) (old new : Tells) → WhereTold (Operated (Write address value) value) old.far new.far → Passes old.coming new.coming
    → Did old (Put address value ∷ []) new
put_did address value old new told heard = did_one (Put address value) old new told heard

-- one failed behind these
pub broke_behind : (B : List Act → Attempt → Type 0) (xs : List Act) (failed : Attempt) (count mid_count new_count : ℕ) (old mid : Tells) (told : Option Far)
    (why : DmiFault) → B xs failed → Did old xs mid
    → count ≤ mid_count → mid_count ≤ new_count → Broke [] failed mid_count new_count mid told why → BrokeIn B count new_count old told why
broke_behind B xs failed count mid_count new_count old mid told why begun did le later broke = record {
  acts = xs;
  failed = failed;
  begun = begun;
  broke = broke_list (xs ++ []) xs failed count new_count old told why (append-nil xs)
      (broke_then xs old mid did [] failed count mid_count new_count told why le later broke);
}

-- of a word that is this one
pub word_put : (address word value : ℕ) (old new : Tells) → word ≡ value → WhereTold (Operated (Write address word) word) old.far new.far
    → Passes old.coming new.coming → Did old (Put address value ∷ []) new
word_put address word value old new is told heard = subst (λ v. Did old (Put address v ∷ []) new) is (put_did address word old new told heard)

pub word_broke : (B : List Act → Attempt → Type 0) (address word value : ℕ) (old_count new_count : ℕ) (old : Tells) (told : Option Far) (why : DmiFault)
    → word ≡ value → B [] (Operation (Write address value))
    → WhereTold (OperationCut (Write address word)) old.far told → DmiCause old_count new_count old.far told old.coming why
    → BrokeIn B old_count new_count old told why
word_broke B address word value old_count new_count old told why is begun cut cause = record {
  acts = [];
  failed = Operation (Write address value);
  begun = begun;
  broke = broke_one (Operation (Write address value)) old_count new_count old told why
      (subst (λ v. WhereTold (OperationCut (Write address v)) old.far told) is cut) cause;
}

pub word_broke_behind : (B : List Act → Attempt → Type 0) (xs : List Act) (address word value : ℕ) (count mid_count new_count : ℕ) (old mid : Tells)
    (told : Option Far) (why : DmiFault) → word ≡ value
    → B xs (Operation (Write address value)) → Did old xs mid → count ≤ mid_count → mid_count ≤ new_count
    → WhereTold (OperationCut (Write address word)) mid.far told → DmiCause mid_count new_count mid.far told mid.coming why
    → BrokeIn B count new_count old told why
word_broke_behind B xs address word value count mid_count new_count old mid told why is begun did le later cut cause =
    broke_behind B xs (Operation (Write address value)) count mid_count new_count old mid told why begun did le later
    (broke_one (Operation (Write address value)) mid_count new_count mid told why (subst (λ v. WhereTold (OperationCut (Write address v)) mid.far told) is cut)
    cause)

pub read_broke_behind : (B : List Act → Attempt → Type 0) (xs : List Act) (address : ℕ) (count mid_count new_count : ℕ) (old mid : Tells) (told : Option Far)
    (why : DmiFault)
    → B xs (Operation (Read address)) → Did old xs mid → count ≤ mid_count → mid_count ≤ new_count
    → WhereTold (OperationCut (Read address)) mid.far told → DmiCause mid_count new_count mid.far told mid.coming why → BrokeIn B count new_count old told why
read_broke_behind B xs address count mid_count new_count old mid told why begun did le later cut cause =
    broke_behind B xs (Operation (Read address)) count mid_count new_count old mid told why begun did le later
    (broke_one (Operation (Read address)) mid_count new_count mid told why cut cause)

-- the first call failed
pub broke_first : (B : List Act → Attempt → Type 0) (failed : Attempt) (old_count new_count : ℕ) (old : Tells) (told : Option Far) (why : DmiFault)
    → B [] failed → Broke [] failed old_count new_count old told why
    → BrokeIn B old_count new_count old told why
broke_first B failed old_count new_count old told why begun broke = record { acts = []; failed = failed; begun = begun; broke = broke }

-- the same where more calls were counted
pub broke_counted : (B : List Act → Attempt → Type 0) (count mid_count new_count : ℕ) (old : Tells) (told : Option Far) (why : DmiFault) → count ≤ mid_count
    → mid_count ≤ new_count
    → BrokeIn B mid_count new_count old told why → BrokeIn B count new_count old told why
broke_counted B count mid_count new_count old told why le later b = record {
  acts = b.acts;
  failed = b.failed;
  begun = b.begun;
  broke = broke_then [] old old nothing b.acts b.failed count mid_count new_count told why le later b.broke;
}

-- ---- a command

pub none_cleared : (error : ℕ) → error ≡ 0 → [] ≡ clearing error
none_cleared error is = let e : (error ≡ 0) = is in rw e refl

pub some_cleared : (error : ℕ) → error ≢ 0 → (Put abstractcs_address clears_cmderr ∷ []) ≡ clearing error
some_cleared error is = ap (λ b. cond b [] (Put abstractcs_address clears_cmderr ∷ [])) (sym (ne_eqb error 0 is))

-- polls that end it, and the clearing of an error
pub ended_then : (first last : ℕ) (old mid new : Tells) → PolledFrom first last old mid → (cs : List Act) → Did mid cs new → cs ≡ clearing (error_shown last)
    → EndedFrom first last old new
ended_then first last old mid new e cs did is = record {
  words = e.words;
  vain = e.vain;
  idle = e.idle;
  rest = e.rest ++ cs;
  is = ap (λ xs. xs ++ cs) e.is ∙ append_assoc (map poll_act e.words) (poll_act last ∷ []) cs ∙ ap (λ xs. map poll_act e.words ++ poll_act last ∷ xs) is;
  did = did_then e.rest old mid e.did cs new did;
}

-- it was written behind these writes, with its first poll
abbrev pub sent_acts : List Act → ℕ → ℕ → List Act
sent_acts front word first = front ++ Put command_address word ∷ poll_act first ∷ []

sent_then : (front : List Act) (word first : ℕ) (rest tail : List Act) → poll_act first ∷ rest ≡ tail
    → sent_acts front word first ++ rest ≡ front ++ Put command_address word ∷ tail
sent_then front word first rest tail is =
    append_assoc front (Put command_address word ∷ poll_act first ∷ []) rest ∙ ap (λ xs. front ++ Put command_address word ∷ xs) is

pub ran_behind : (front : List Act) (word first last : ℕ) (old mid new : Tells) → Did old (sent_acts front word first) mid → EndedFrom first last mid new
    → RanCommand front word last old new
ran_behind front word first last old mid new did e = record {
  words = e.words;
  vain = e.vain;
  idle = e.idle;
  did = did_list (sent_acts front word first ++ e.rest) (command_acts front word e.words last) old new
      (sent_then front word first e.rest (map poll_act e.words ++ poll_act last ∷ clearing (error_shown last)) e.is)
      (did_then (sent_acts front word first) old mid did e.rest new e.did);
}

end_begun : (front : List Act) (word first : ℕ) (rest : List Act) (failed : Attempt) → EndBegun first rest failed
    → Among (CommandBegun front word) (front ++ Put command_address word ∷ poll_act first ∷ rest) failed
end_begun front word first _ _ (end_polls words rest vain is) =
    subst (λ xs. CommandBegun front word (front ++ Put command_address word ∷ xs) (Operation (Read abstractcs_address))) (sym is) (polls words vain)
end_begun front word first _ _ (end_clears words last rest vain idle error is) =
    subst (λ xs. CommandBegun front word (front ++ Put command_address word ∷ xs) (Operation (Write abstractcs_address clears_cmderr))) (sym is)
    (clears words last vain idle error)

pub failed_behind : (front : List Act) (word first : ℕ) (e : AccessFault) (count mid_count new_count : ℕ) (old mid new : Tells)
    → Did old (sent_acts front word first) mid → count ≤ mid_count → mid_count ≤ new_count → EndFailed first mid_count new_count mid new e
    → CommandFailed front word count new_count old new e
failed_behind front word first (access_fault.Dmi why) count mid_count new_count old mid new did le later f = record {
  acts = front ++ Put command_address word ∷ poll_act first ∷ f.acts;
  failed = f.failed;
  begun = end_begun front word first f.acts f.failed f.begun;
  broke = broke_list (sent_acts front word first ++ f.acts) (front ++ Put command_address word ∷ poll_act first ∷ f.acts) f.failed count new_count old new.far
      why
      (append_assoc front (Put command_address word ∷ poll_act first ∷ []) f.acts)
      (broke_then (sent_acts front word first) old mid did f.acts f.failed count mid_count new_count new.far why le later f.broke);
}
failed_behind front word first (access_fault.Memory address) count mid_count new_count old mid new did le later f = f
failed_behind front word first (access_fault.Register asked) count mid_count new_count old mid new did le later f = f
failed_behind front word first (access_fault.Run why) count mid_count new_count old mid new did le later f = f
failed_behind front word first access_fault.StillBusy count mid_count new_count old mid new did le later f = record {
  words = f.words;
  busy = f.busy;
  all = f.all;
  did = did_list (sent_acts front word first ++ f.rest) ((front ++ Put command_address word ∷ []) ++ map poll_act f.words) old new
      (sent_then front word first f.rest (map poll_act f.words) f.is ∙ sym (append_assoc front (Put command_address word ∷ []) (map poll_act f.words)))
      (did_then (sent_acts front word first) old mid did f.rest new f.did);
}
failed_behind front word first (access_fault.Odd shown) count mid_count new_count old mid new did le later f = f

-- what a `?` hands on
pub err_failed : {A : Type 0} (r : Result A AccessFault) (e : AccessFault) (P : AccessFault → Type 0) → IsErrAnd r (λ x. x ≡ e) → P e → IfErr r P
err_failed (Ok x) e P is p = tt
err_failed (Err x) e P is p = subst P (sym is) p

pub fault_failed : {A : Type 0} (r : Result A DmiFault) (e : DmiFault) (P : DmiFault → Type 0) → IsErrAnd r (λ x. x ≡ e) → P e → IfErr r P
fault_failed (Ok x) e P is p = tt
fault_failed (Err x) e P is p = subst P (sym is) p

-- ---- a register

pub read_command_failed : (number : ℕ) (e : AccessFault) (old_count new_count : ℕ) (old new : Tells)
    → CommandFailed [] (transfer_word false number) old_count new_count old new e → ReadApartFailed number old_count new_count old new e
read_command_failed number (access_fault.Dmi why) old_count new_count old new f = read_in_command (access_fault.Dmi why) f
read_command_failed number (access_fault.Memory address) old_count new_count old new f = f
read_command_failed number (access_fault.Register asked) old_count new_count old new f = absurd f
read_command_failed number (access_fault.Run why) old_count new_count old new f = absurd f
read_command_failed number access_fault.StillBusy old_count new_count old new f = f
read_command_failed number (access_fault.Odd shown) old_count new_count old new f = absurd f

pub read_words_failed : (number last : ℕ) (why : DmiFault) (count mid_count new_count : ℕ) (old mid new : Tells)
    → RanCommand [] (transfer_word false number) last old mid → error_shown last ≡ 0 → count ≤ mid_count → mid_count ≤ new_count
    → BrokeIn (Among DoubleReads) mid_count new_count mid new.far why → ReadApartFailed number count new_count old new (access_fault.Dmi why)
read_words_failed number last why count mid_count new_count old mid new ran fine le later b =
    read_in_words mid (record { last = last; ran = ran; error_is = fine }) why
    (broke_counted (Among DoubleReads) count mid_count new_count mid new.far why le later b)

pub write_command_failed : (number value : ℕ) (e : AccessFault) (old_count new_count : ℕ) (old new : Tells)
    → CommandFailed (double_written value) (transfer_word true number) old_count new_count old new e → WriteFailed number value old_count new_count old new e
write_command_failed number value (access_fault.Dmi why) old_count new_count old new f = f
write_command_failed number value (access_fault.Memory address) old_count new_count old new f = f
write_command_failed number value (access_fault.Register asked) old_count new_count old new f = absurd f
write_command_failed number value (access_fault.Run why) old_count new_count old new f = absurd f
write_command_failed number value access_fault.StillBusy old_count new_count old new f = f
write_command_failed number value (access_fault.Odd shown) old_count new_count old new f = absurd f

-- of a command that is this one
pub same_failed : (front : List Act) (k l : AbstractCommand) (e : AccessFault) (old_count new_count : ℕ) (old new : Tells) → k ≡ l
    → CommandFailed front (command_word k) old_count new_count old new e → CommandFailed front (command_word l) old_count new_count old new e
same_failed front k l e old_count new_count old new is f = subst (λ (m : AbstractCommand). CommandFailed front (command_word m) old_count new_count old new e)
    is f

pub same_ran : (front : List Act) (k l : AbstractCommand) (last : ℕ) (old new : Tells) → k ≡ l → RanCommand front (command_word k) last old new
    → RanCommand front (command_word l) last old new
same_ran front k l last old new is r = subst (λ (m : AbstractCommand). RanCommand front (command_word m) last old new) is r

-- ---- several operations in one call

pub two_small : (a b : DmiOp) → IsOperation a → IsOperation b → All IsOperation (a ∷ b ∷ [])
two_small a b first second = All-cons IsOperation a (b ∷ []) first (All-cons IsOperation b [] second (λ k d h. absurd (omega arith)))

-- each of them may be made behind those in front of it
abbrev pub BegunEach : (List Act → Attempt → Type 0) → List Act → List DmiOp → Type 0
BegunEach B acts [] = Unit {0}
BegunEach B acts (op ∷ ops) = B acts (Operation op) × ((result : ℕ) → BegunEach B (acts ++ op_act op (value_of result) ∷ []) ops)

pub begun_at : (B : List Act → Attempt → Type 0) (acts : List Act) (ops : List DmiOp) → BegunEach B acts ops
    → (done : List ThePerformed) (next : DmiOp) (left : List DmiOp)
    → map op_of done ++ next ∷ left ≡ ops → B (acts ++ map act_of done) (Operation next)
begun_at B acts [] b [] next left e = absurd (let no : ⊥ = cc in no)
begun_at B acts [] b (o ∷ done) next left e = absurd (let no : ⊥ = cc in no)
begun_at B acts (op ∷ ops) b [] next left e =
    let is : op ≡ next = cc in subst (λ xs. B xs (Operation next)) (sym (append-nil acts)) (subst (λ o. B acts (Operation o)) is b.0)
begun_at B acts (op ∷ ops) b (o ∷ done) next left e =
    let is : op ≡ o.op = cc in
    let others : map op_of done ++ next ∷ left ≡ ops = cc in
    subst (λ xs. B xs (Operation next)) (append_assoc acts (act_of o ∷ []) (map act_of done))
    (subst (λ p. B ((acts ++ op_act p (value_of o.result) ∷ []) ++ map act_of done) (Operation next)) is
    (begun_at B (acts ++ op_act op (value_of o.result) ∷ []) ops (b.1 o.result) done next left others))

pub many_broke : (B : List Act → Attempt → Type 0) (op : DmiOp) (ops : List DmiOp) (old_count new_count : ℕ) (old : Tells) (told : Option Far) (why : DmiFault)
    → BegunEach B [] (op ∷ ops) → WhereTold (OperationsCut (op ∷ ops)) old.far told
    → ManyCause (length (op ∷ ops)) old_count new_count old.far told old.coming why
    → BrokeIn (Among B) old_count new_count old told why
many_broke B op ops old_count new_count old told why each cut cause = record {
  acts = [];
  failed = Several op ops;
  begun = λ done next left e. begun_at B [] (op ∷ ops) each done next left e;
  broke = broke_one (Several op ops) old_count new_count old told why cut cause;
}

-- two results
two_acts : (a b : DmiOp) (results : List ℕ) (d e : ℕ) → length results ≡ 2
    → acts_of (a ∷ b ∷ []) results ≡ op_act a (slice_index_or results 0 d) ∷ op_act b (slice_index_or results 1 e) ∷ []
two_acts a b [] d e two = absurd (omega arith)
two_acts a b (x ∷ []) d e two = absurd (omega arith)
two_acts a b (x ∷ y ∷ []) d e two = refl
two_acts a b (x ∷ y ∷ z ∷ xs) d e two = absurd (omega arith)

pub two_did : (a b : DmiOp) (results : List ℕ) (d e : ℕ) (old new : Tells) → All IsOperation (a ∷ b ∷ []) → length results ≡ 2
    → WhereTold (OperatedAll (a ∷ b ∷ []) results) old.far new.far → AnswersAll (a ∷ b ∷ []) results old.coming new.coming
    → Did old (op_act a (slice_index_or results 0 d) ∷ op_act b (slice_index_or results 1 e) ∷ []) new
two_did a b results d e old new small two told heard =
    did_list (acts_of (a ∷ b ∷ []) results) _ old new (two_acts a b results d e two)
    (did_together a (b ∷ []) results old new (record { small = small; told = told; heard = heard }))
