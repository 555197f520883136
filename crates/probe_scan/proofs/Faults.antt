-- What a fault leaves behind and why it came: a told chip has taken a front of the call's bytes, and gives no bad answer.
use Rattle.std.proofs.Common.{
  ◌≡◌,
  ◌≢◌,
  ◌∙◌,
  ◌<◌,
  ◌≤◌,
  ◌+◌,
  ◌⊎◌,
  ℕ,
  suc,
  List,
  [],
  ◌∷◌,
  ◌++◌,
  Bool,
  true,
  false,
  length,
  map,
  drop,
  Option,
  Some,
  None,
  option_map,
  IfSome,
  refl,
  sym,
  ap,
  subst,
  arith,
  inl,
  inr,
  append_assoc,
}
use Rattle.jt_base.specs.Faults.{Rises}
use Rattle.debug_model.specs.Chip.{Chip, Inside, Live, answer_byte}
use Rattle.debug_model.specs.Scan.{
  BadCause,
  CameWrong,
  ResetCut,
  RoundsPassed,
  ScanCause,
  ScanCut,
  Stage,
  WhereTold,
  WrongIn,
  dr_bytes,
  ir_bytes,
  reset_bytes,
  ticks,
}
use Rattle.debug_model.specs.Scan.{Answers, not_captured, captured, updated}
use Rattle.debug_model.specs.Told.{Far, IsFree, IsIdle}
use Rattle.debug_model.specs.Wire.{EndCause, SentFront, sent}
use Rattle.debug_model.specs.declared.data_register.DataRegister.{DataRegister}
use Rattle.debug_model.specs.declared.tap_state.TapState.{TapState}
use Rattle.debug_model.specs.declared.tap_state.TapState.TheVariants.{TestLogicReset, RunTestIdle}
use Rattle.debug_model.specs.declared.wire.WireFault.{WireFault}
use Rattle.debug_model.specs.declared.wire.WireFault.TheVariants.{SendFailed, RecvFailed, Ended, BadAnswer}
use Rattle.probe_scan.proofs.Along.{Along, along_front, dr_along, idle_along, ir_along, still_along}
use Rattle.probe_scan.proofs.Ends.{TookFront, took_front}
use Rattle.probe_scan.proofs.Paths.{chip_at, scan_inside}
use Rattle.probe_scan.proofs.Received.{first_or}
use Rattle.probe_scan.proofs.Rounds.{Counted, path_counted, rounds_of, ticks_rounds}
use Rattle.probe_scan.proofs.Scans.{Between, IsAsked, any_at, out_of, state_at}
use Rattle.probe_scan.specs.Answers.{IsWrong, KeepsChip, ReceiveCause}

-- ---- a front was taken

pub record CutAt (bytes : List ℕ) (f : Far) (new : Option Far) : Type 0 where
  pub far : Far
  pub is : new ≡ Some far
  pub took : TookFront bytes f.live.chip far.live.chip

pub cut_of_send : (bytes : List ℕ) (f : Far) (new : Option Far) → SentFront bytes (Some f) new → CutAt bytes f new
cut_of_send bytes f new s =
    let t = took_front s.0 f.live in
    record {
      far = sent s.0 f;
      is = s.3;
      took = record { front = t.front; back = t.back ++ s.1; cut = s.2 ∙ ap (λ xs. xs ++ s.1) t.cut ∙ append_assoc t.front t.back s.1; is = t.is };
    }

pub along_cut : (Q : Inside → Type 0) (bytes : List ℕ) (f : Far) (new : Option Far) → (cut : CutAt bytes f new) → Along Q f.live.chip bytes
    → Q cut.far.live.chip.inside
along_cut Q bytes f new cut a = subst (λ (d : Chip). Q d.inside) (sym cut.took.is)
    (along_front Q cut.took.front cut.took.back f.live.chip (subst (Along Q f.live.chip) cut.took.cut a))

-- ---- a reset

-- so many rises, and where the TAP stood at rest nothing but their rounds
pub record ResetSoFar (s : TapState) (i now : Inside) : Type 0 where
  pub rises : ℕ
  pub passed : (s ≡ TestLogicReset) ⊎ (s ≡ RunTestIdle) → now ≡ ticks rises i
  pub counted : rounds_of now ≡ rounds_of i + rises
  pub few : rises ≤ 6

unfoldable pub at_rest : TapState → Bool
at_rest TestLogicReset = true
at_rest RunTestIdle = true
at_rest _ = false

pub not_both : (b : Bool) {P : Type 0} → b ≡ true → b ≡ false → P
not_both b p q = absurd cc

pub moving_so_far : (s : TapState) (i now : Inside) → at_rest s ≡ false → Counted (rounds_of i) 6 now → ResetSoFar s i now
unfolding at_rest
moving_so_far s i now moves c = record {
  rises = c.rises;
  passed = λ h. elim h [ inl e ↦ not_both (at_rest s) (ap at_rest e) moves | inr e ↦ not_both (at_rest s) (ap at_rest e) moves ];
  counted = c.counted;
  few = c.few;
}

along_map : (Q R : Inside → Type 0) → ((now : Inside) → Q now → R now) → (bytes : List ℕ) (c : Chip) → Along Q c bytes → Along R c bytes
along_map Q R each [] c a = each c.inside a
along_map Q R each (b ∷ bs) c a = (each c.inside a.0, along_map Q R each bs _ a.1)

moving_along : (s : TapState) (tck : Bool) (r : DataRegister) (bits : List Bool) (tdo : Bool) (i : Inside) → at_rest s ≡ false
    → Along (ResetSoFar s i) (chip_at tck s r bits tdo i) reset_bytes
moving_along s tck r bits tdo i moves = along_map (Counted (rounds_of i) 6) (ResetSoFar s i) (λ now c. moving_so_far s i now moves c) reset_bytes _
    (path_counted (true ∷ true ∷ true ∷ true ∷ true ∷ false ∷ []) 0 (rounds_of i) 6 tck _ i (omega arith) (omega arith))

pub resting : (s : TapState) (i : Inside) (k : ℕ) → k ≤ 6 → ResetSoFar s i (ticks k i)
resting s i k few = record { rises = k; passed = λ _. refl; counted = ticks_rounds k i; few = few }

reset_along : (s : TapState) (tck : Bool) (r : DataRegister) (bits : List Bool) (tdo : Bool) (i : Inside)
    → Along (ResetSoFar s i) (chip_at tck s r bits tdo i) reset_bytes
unfolding at_rest
reset_along TestLogicReset tck r bits tdo i = still_along (ResetSoFar TestLogicReset i) tck r bits tdo i (resting TestLogicReset i)
reset_along RunTestIdle tck r bits tdo i = idle_along (ResetSoFar RunTestIdle i) tck r bits tdo i (resting RunTestIdle i)
reset_along s tck r bits tdo i = moving_along s tck r bits tdo i refl

reset_cut_at : (f : Far) (new : Option Far) → CutAt reset_bytes f new → f.live.chip.port.held ≡ false → ResetCut (Some 0) f.live.chip new
reset_cut_at f new cut free =
    let c = f.live.chip in
    let so_far = along_cut (ResetSoFar c.port.state c.inside) reset_bytes f new cut
    (subst (λ d. Along (ResetSoFar c.port.state c.inside) d reset_bytes) (sym (any_at c free))
    (reset_along c.port.state c.tck c.port.selected c.port.shift c.port.tdo c.inside)) in
    record { far = cut.far; rises = so_far.rises; is = cut.is; passed = so_far.passed; counted = so_far.counted; most = omega (arith, so_far.few) }

reset_cut : (old new : Option Far) → SentFront reset_bytes old new → IsFree old → WhereTold (ResetCut (Some 0)) old new
reset_cut None new s free = s
reset_cut (Some f) new s free = reset_cut_at f new (cut_of_send reset_bytes f new s) free

pub reset_cut_behind : (bytes : List ℕ) (old new : Option Far) → bytes ≡ reset_bytes → SentFront bytes old new → IsFree old
    → WhereTold (ResetCut (Some 0)) old new
reset_cut_behind bytes old new are s free = reset_cut old new (subst (λ b. SentFront b old new) are s) free

-- ---- an instruction

pub record RoundsSoFar (i now : Inside) : Type 0 where
  pub rises : ℕ
  pub passed : now ≡ ticks rises i
  pub few : rises ≤ 11

ir_cut_at : (code : ℕ) (f : Far) (new : Option Far) → CutAt (ir_bytes code) f new → f.live.chip.port.held ≡ false → f.live.chip.port.state ≡ RunTestIdle
    → RoundsPassed (Some 0) 11 f.live.chip new
ir_cut_at code f new cut free idle =
    let c = f.live.chip in
    let so_far = along_cut (RoundsSoFar c.inside) (ir_bytes code) f new cut
    (subst (λ d. Along (RoundsSoFar c.inside) d (ir_bytes code)) (sym (state_at RunTestIdle c free idle))
    (ir_along (RoundsSoFar c.inside) code c.tck c.port.selected c.port.shift c.port.tdo c.inside
    (λ k few. record { rises = k; passed = refl; few = few }))) in
    record { far = cut.far; rises = so_far.rises; is = cut.is; passed = so_far.passed; most = omega (arith, so_far.few) }

ir_cut : (code : ℕ) (old new : Option Far) → SentFront (ir_bytes code) old new → IsFree old → IsIdle old → WhereTold (RoundsPassed (Some 0) 11) old new
ir_cut code None new s free idle = s
ir_cut code (Some f) new s free idle = ir_cut_at code f new (cut_of_send (ir_bytes code) f new s) free idle

pub ir_cut_behind : (bytes : List ℕ) (code : ℕ) (old new : Option Far) → bytes ≡ ir_bytes code → SentFront bytes old new → IsFree old → IsIdle old
    → WhereTold (RoundsPassed (Some 0) 11) old new
ir_cut_behind bytes code old new are s free idle = ir_cut code old new (subst (λ b. SentFront b old new) are s) free idle

-- ---- a scan

record ScanSoFar (bits : List Bool) (r : DataRegister) (i now : Inside) : Type 0 where
  pub rises : ℕ
  pub stage : Stage bits r i rises now
  pub few : rises ≤ length bits + 5

scan_along : (bits : List Bool) (tck : Bool) (r : DataRegister) (old : List Bool) (tdo : Bool) (i : Inside) → 0 < length bits
    → Along (ScanSoFar bits r i) (chip_at tck RunTestIdle r old tdo i) (dr_bytes bits)
unfolding ticks
scan_along [] tck r old tdo i some = absurd (omega arith)
scan_along (b ∷ bs) tck r old tdo i some = dr_along (ScanSoFar (b ∷ bs) r i) b bs tck r old tdo i
    (λ k few. record { rises = k; stage = not_captured k; few = omega (arith, few) })
    (λ k least few. record { rises = 2 + k; stage = captured 2 k; few = omega (arith, few) })
    (record { rises = 2 + suc (suc (length (b ∷ bs))) + 0; stage = updated 2 (suc (suc (length (b ∷ bs)))) 0; few = omega arith })
    (record { rises = 2 + suc (suc (length (b ∷ bs))) + 1; stage = updated 2 (suc (suc (length (b ∷ bs)))) 1; few = omega arith })

scan_cut_at : (bits : List Bool) (f : Far) (new : Option Far) → 0 < length bits → CutAt (dr_bytes bits) f new → f.live.chip.port.held ≡ false
    → f.live.chip.port.state ≡ RunTestIdle → ScanCut (Some 0) bits f.live.chip new
scan_cut_at bits f new some cut free idle =
    let c = f.live.chip in
    let so_far = along_cut (ScanSoFar bits c.port.selected c.inside) (dr_bytes bits) f new cut
    (subst (λ d. Along (ScanSoFar bits c.port.selected c.inside) d (dr_bytes bits)) (sym (state_at RunTestIdle c free idle))
    (scan_along bits c.tck c.port.selected c.port.shift c.port.tdo c.inside some)) in
    record { far = cut.far; rises = so_far.rises; is = cut.is; stage = so_far.stage; most = omega (arith, so_far.few) }

scan_cut : (bits : List Bool) (old new : Option Far) → 0 < length bits → SentFront (dr_bytes bits) old new → IsFree old → IsIdle old
    → WhereTold (ScanCut (Some 0) bits) old new
scan_cut bits None new some s free idle = s
scan_cut bits (Some f) new some s free idle = scan_cut_at bits f new some (cut_of_send (dr_bytes bits) f new s) free idle

pub scan_cut_behind : (bytes : List ℕ) (bits : List Bool) (old new : Option Far) → bytes ≡ dr_bytes bits → 0 < length bits → SentFront bytes old new
    → IsFree old → IsIdle old → WhereTold (ScanCut (Some 0) bits) old new
scan_cut_behind bytes bits old new are some s free idle = scan_cut bits old new some (subst (λ b. SentFront b old new) are s) free idle

-- where the answers were lost or bad, the whole scan was taken
whole_cut_at : (bits : List Bool) (f : Far) (new : Option Far) (g : Far) → new ≡ Some g
    → g.live.chip.inside ≡ scan_inside bits f.live.chip.port.selected f.live.chip.inside → ScanCut (Some 0) bits f.live.chip new
whole_cut_at bits f new g is inside_is = record {
  far = g;
  rises = 2 + suc (suc (length bits)) + 1;
  is = is;
  stage = subst (Stage bits f.live.chip.port.selected f.live.chip.inside (2 + suc (suc (length bits)) + 1)) (sym inside_is)
      (updated 2 (suc (suc (length bits))) 1);
  most = omega arith;
}

lost_cut_at : (bits : List Bool) (f : Far) (between new : Option Far) → IsAsked bits f between → KeepsChip between new → ScanCut (Some 0) bits f.live.chip new
lost_cut_at bits f between new a keeps =
    let at = subst (λ t. KeepsChip t new) a.is keeps in
    whole_cut_at bits f new _ at.1 refl

pub lost_cut : (bits : List Bool) (old between new : Option Far) → Between bits old between → KeepsChip between new → WhereTold (ScanCut (Some 0) bits) old new
lost_cut bits None between new b keeps = subst (λ t. KeepsChip t new) b.is keeps
lost_cut bits (Some f) between new b keeps = lost_cut_at bits f between new b.asked keeps

-- ---- causes

-- no answer of a told chip is bad
no_bad : (good bits : List Bool) (bad : ℕ) (rest : List ℕ) → bad ≢ 48 → bad ≢ 49 → map answer_byte bits ≡ map answer_byte good ++ bad ∷ rest → ⊥
unfolding first_or
no_bad [] [] bad rest p q e = absurd (omega (arith, ap length e))
no_bad [] (true ∷ bits) bad rest p q e = q (sym (ap (first_or bad) e))
no_bad [] (false ∷ bits) bad rest p q e = p (sym (ap (first_or bad) e))
no_bad (g ∷ good) [] bad rest p q e = absurd (omega (arith, ap length e))
no_bad (g ∷ good) (b ∷ bits) bad rest p q e = no_bad good bits bad rest p q (ap (drop 1) e)

pub none_wrong : (b : ℕ) (bits : List Bool) (coming : Option (List ℕ)) (l : Live) → IsWrong b (Some
    (record { live = l; unread = map answer_byte bits })) coming → ⊥
none_wrong b bits coming l wrong = no_bad wrong.of_chip.good bits b wrong.of_chip.rest wrong.not_zero wrong.not_one wrong.of_chip.is

pub coming_wrong : (b : ℕ) (coming : Option (List ℕ)) → IfSome coming (CameWrong b) → IfSome (option_map Answers coming) (WrongIn b)
coming_wrong b None wrong = tt
coming_wrong b (Some coming) wrong = wrong

bad_cause : (bits : List Bool) (b : ℕ) (old between new : Option Far) (coming : Option (List ℕ)) → Between bits old between → KeepsChip between new
    → IsWrong b between coming → BadCause b new (option_map Answers coming)
bad_cause bits b None between new coming was keeps wrong =
    (subst (λ t. KeepsChip t new) was.is keeps, wrong.not_zero, wrong.not_one, coming_wrong b coming wrong.of_coming)
bad_cause bits b (Some f) between new coming was keeps wrong =
    absurd (none_wrong b (out_of bits f.live.chip) coming _ (subst (λ t. IsWrong b t coming) was.asked.is wrong))

-- why a scan has no answers: a fault of the wire's, or a bad answer
pub scan_cause : (bits : List Bool) (before between_count after : ℕ) (old between new : Option Far) (coming coming' : Option (List ℕ)) (fault : WireFault)
    → between_count ≡ before → coming' ≡ coming → Between bits old between → KeepsChip between new
    → ReceiveCause between_count after between new coming' fault → ScanCause before after new (option_map Answers coming) fault
scan_cause bits before between_count after old between new coming coming' SendFailed same alike was keeps cause = absurd cause
scan_cause bits before between_count after old between new coming coming' RecvFailed same alike was keeps cause = subst (λ n. Rises n after) same cause
scan_cause bits before between_count after old between new coming coming' Ended same alike was keeps cause = subst (λ n. EndCause n after new) same cause
scan_cause bits before between_count after old between new coming coming' (BadAnswer b) same alike was keeps cause =
    subst (λ c. BadCause b new (option_map Answers c)) alike (bad_cause bits b old between new coming' was keeps cause)
