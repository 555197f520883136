-- What a reset, an instruction and a scan did at the far end of a wire that took all their bytes, over plain variables.
use Rattle.std.proofs.Common.{
  ◌≡◌,
  ◌∙◌,
  ◌<◌,
  ◌≤◌,
  ◌+◌,
  ◌==◌,
  ℕ,
  suc,
  List,
  [],
  ◌∷◌,
  ◌++◌,
  Bool,
  true,
  false,
  length,
  map,
  Option,
  Some,
  None,
  option_map,
  IfSome,
  IsTrue,
  refl,
  sym,
  ap,
  subst,
  arith,
  inl,
  inr,
  length-append,
  length-take,
  append-nil,
}
use Rattle.std.proofs.lemmas.List.{length-map}
use Rattle.debug_model.specs.Chip.{Chip, Inside, Live, answer_byte, feed, run, said, told_by}
use Rattle.debug_model.specs.Port.{Port, data_register_of}
use Rattle.debug_model.specs.Scan.{
  Scanned,
  Selected,
  StoodAtRest,
  WasReset,
  WhereTold,
  ComesOut,
  comes_out,
  dr_bytes,
  dr_out,
  dr_stays,
  far_at,
  idle_port,
  ir_bytes,
  reset_bytes,
  ticks,
}
use Rattle.debug_model.specs.Scan.{Answers}
use Rattle.debug_model.specs.Told.{Far, IsFree, IsIdle, IsLive, IsOpen, IsRead}
use Rattle.debug_model.specs.Wire.{ReadsFront, TakesComing, are_open, sent}
use Rattle.debug_model.specs.declared.data_register.DataRegister.{DataRegister}
use Rattle.debug_model.specs.declared.data_register.DataRegister.TheVariants.{Idcode}
use Rattle.debug_model.specs.declared.chip_end.ChipEnd.{ChipEnd}
use Rattle.debug_model.specs.declared.tap_state.TapState.{TapState}
use Rattle.debug_model.specs.declared.tap_state.TapState.TheVariants.{TestLogicReset, RunTestIdle}
use Rattle.jt_base.specs.BitList.{bits_of}
use Rattle.probe_scan.proofs.Ends.{living, took_all_live}
use Rattle.probe_scan.proofs.Paths.{
  IsReset,
  chip_at,
  dr_run,
  dr_told,
  idle_chip,
  ir_quiet,
  ir_run,
  reset_idle,
  reset_quiet,
  reset_run,
  reset_still,
  scan_inside,
}
use Rattle.probe_scan.proofs.Rounds.{path_rounds, rounds_of}
use Rattle.probe_scan.specs.Remembered.{Holds, IsRemembered}

-- ---- a chip as a literal

-- with TRST 0
pub any_at : (c : Chip) → c.port.held ≡ false → c ≡ chip_at c.tck c.port.state c.port.selected c.port.shift c.port.tdo c.inside
any_at c free = by c.port.held free
  where
    by : (h : Bool) → h ≡ false → record c { port = record c.port { held = h } } ≡ chip_at c.tck c.port.state c.port.selected c.port.shift c.port.tdo c.inside
    by h e = cc

-- and in this state
pub state_at : (s : TapState) (c : Chip) → c.port.held ≡ false → c.port.state ≡ s → c ≡ chip_at c.tck s c.port.selected c.port.shift c.port.tdo c.inside
state_at s c free is = any_at c free ∙ ap (λ t. chip_at c.tck t c.port.selected c.port.shift c.port.tdo c.inside) is

-- a far end by its parts
abbrev pub far_with : Live → List ℕ → Far
far_with l u = record { live = l; unread = u }

pub far_of : (l l' : Live) (u u' : List ℕ) → l ≡ l' → u ≡ u' → far_with l u ≡ far_with l' u'
far_of l l' u u' p q = cc

-- a chip by its parts
abbrev pub chip_with : Bool → Port → Inside → Chip
chip_with tck p i = record { tck = tck; port = p; inside = i }

-- ---- a whole piece was sent

abbrev pub far_living : Chip → List ℕ → Far
far_living c unread = record { live = living c; unread = unread }

pub record SentAll (bytes : List ℕ) (f : Far) (new : Option Far) : Type 0 where
  pub live : f.live.ended ≡ None
  pub is : new ≡ Some (far_living (run f.live.chip bytes) (told_by f.live.chip bytes))

pub sent_all : (bytes : List ℕ) (f : Far) (new : Option Far) → new ≡ Some (sent bytes f) → IsLive new → f.unread ≡ [] → SentAll bytes f new
sent_all bytes f new is live read =
    let ended : (feed f.live bytes).ended ≡ None = subst IsLive is live in
    let all = took_all_live bytes f.live ended in
    record { live = all.live; is = is ∙ ap Some (far_of _ _ _ _ all.all.chip (ap (λ u. u ++ said f.live bytes) read ∙ all.all.answers)) }

-- ---- what every success leaves

pub record Rests (r : DataRegister) (new : Option Far) : Type 0 where
  pub live : IsLive new
  pub read : IsRead new
  pub free : IsFree new
  pub idle : IsIdle new
  pub holds : IfSome new (Holds r)

pub rests_at : (tck : Bool) (r : DataRegister) (shift : List Bool) (i : Inside) (new : Option Far) → new ≡ Some (far_at tck (idle_port r shift) i) → Rests r new
rests_at tck r shift i new is = rw is (record {
  live = refl;
  read = refl;
  free = refl;
  idle = refl;
  holds = record { live = refl; selected = refl; tdo = refl };
})

pub rests_untold : (r : DataRegister) (new : Option Far) → new ≡ None → Rests r new
rests_untold r new is = rw is (record { live = tt; read = tt; free = tt; idle = tt; holds = tt })

-- ---- a reset

pub record ResetDone (old new : Option Far) : Type 0 where
  pub reset : WhereTold (WasReset (Some 0)) old new
  pub rests : Rests Idcode new

pub reset_chip : (d : Chip) → IsReset d → d ≡ chip_with true (idle_port Idcode d.port.shift) d.inside
reset_chip d is = by d.tck d.port is.tck is.port
  where
    by : (t : Bool) (p : Port) → t ≡ true → p ≡ idle_port Idcode d.port.shift → chip_with t p d.inside ≡ chip_with true (idle_port Idcode d.port.shift) d.inside
    by t p e h = cc

reset_passed : (c : Chip) → c.port.held ≡ false → StoodAtRest c → (run c reset_bytes).inside ≡ ticks 6 c.inside
reset_passed c free (inl is) = ap (λ d. (run d reset_bytes).inside) (state_at TestLogicReset c free is)
    ∙ reset_still c.tck c.port.selected c.port.shift c.port.tdo c.inside
reset_passed c free (inr is) = ap (λ d. (run d reset_bytes).inside) (state_at RunTestIdle c free is)
    ∙ reset_idle c.tck c.port.selected c.port.shift c.port.tdo c.inside

reset_counted : (c : Chip) → rounds_of (run c reset_bytes).inside ≡ rounds_of c.inside + 6
reset_counted c = path_rounds (true ∷ true ∷ true ∷ true ∷ true ∷ false ∷ []) 0 (rounds_of c.inside) c.tck c.port c.inside (omega arith)

reset_told : (f : Far) (new : Option Far) → SentAll reset_bytes f new → f.live.chip.port.held ≡ false → ResetDone (Some f) new
reset_told f new all free =
    let c = f.live.chip in
    let is_reset : IsReset (run c reset_bytes) = subst (λ d. IsReset (run d reset_bytes)) (sym (any_at c free))
    (reset_run c.tck c.port.state c.port.selected c.port.shift c.port.tdo c.inside) in
    let is : new ≡ Some (far_at true (idle_port Idcode (run c reset_bytes).port.shift) (run c reset_bytes).inside) = all.is
    ∙ ap Some (far_of _ _ _ _ (ap living (reset_chip (run c reset_bytes) is_reset)) (reset_quiet c)) in
    record {
      reset = record {
        inside = (run c reset_bytes).inside;
        shift = (run c reset_bytes).port.shift;
        rises = 6;
        is = is;
        passed = reset_passed c free;
        counted = reset_counted c;
        least = omega arith;
        most = omega arith;
      };
      rests = rests_at true Idcode _ _ new is;
    }

pub reset_done : (old new : Option Far) → new ≡ option_map (sent reset_bytes) old → IsLive new → IsRead old → IsFree old → ResetDone old new
reset_done None new is live read free = record { reset = is; rests = rests_untold Idcode new is }
reset_done (Some f) new is live read free = reset_told f new (sent_all reset_bytes f new is live read) free

-- behind these bytes, which a wire took
pub reset_behind : (bytes : List ℕ) (old new : Option Far) → bytes ≡ reset_bytes → new ≡ option_map (sent bytes) old → (IsTrue (are_open bytes) → IsLive new)
    → IsTrue (are_open bytes) → IsRead old → IsFree old → ResetDone old new
reset_behind bytes old new are is live opens read free = reset_done old new (subst (λ b. new ≡ option_map (sent b) old) are is) (live opens) read free

-- ---- an instruction

pub record IrDone (code : ℕ) (old new : Option Far) : Type 0 where
  pub selected : WhereTold (Selected (Some 0) code) old new
  pub rests : Rests (data_register_of code) new

ir_told : (code : ℕ) (f : Far) (new : Option Far) → code < 32 → SentAll (ir_bytes code) f new → f.live.chip.port.held ≡ false
    → f.live.chip.port.state ≡ RunTestIdle → IrDone code (Some f) new
ir_told code f new small all free idle =
    let c = f.live.chip in
    let ran : run c (ir_bytes code) ≡ idle_chip (data_register_of code) (bits_of 5 code) (ticks 11 c.inside) =
    ap (λ d. run d (ir_bytes code)) (state_at RunTestIdle c free idle) ∙ ir_run code c.tck c.port.selected c.port.shift c.port.tdo c.inside small in
    let is : new ≡ Some (far_at true (idle_port (data_register_of code) (bits_of 5 code)) (ticks 11 c.inside)) = all.is
    ∙ ap Some (far_of _ _ _ _ (ap living ran) (ir_quiet code c)) in
    record {
      selected = record { rises = 11; tck = true; shift = bits_of 5 code; is = is; least = λ _. omega arith; most = omega arith };
      rests = rests_at true (data_register_of code) _ _ new is;
    }

pub ir_done : (code : ℕ) (old new : Option Far) → code < 32 → new ≡ option_map (sent (ir_bytes code)) old → IsLive new → IsRead old → IsFree old → IsIdle old
    → IrDone code old new
ir_done code None new small is live read free idle = record { selected = is; rests = rests_untold (data_register_of code) new is }
ir_done code (Some f) new small is live read free idle = ir_told code f new small (sent_all (ir_bytes code) f new is live read) free idle

pub ir_behind : (bytes : List ℕ) (code : ℕ) (old new : Option Far) → bytes ≡ ir_bytes code → code < 32 → new ≡ option_map (sent bytes) old
    → (IsTrue (are_open bytes) → IsLive new) → IsTrue (are_open bytes) → IsRead old → IsFree old → IsIdle old → IrDone code old new
ir_behind bytes code old new are small is live opens read free idle =
    ir_done code old new small (subst (λ b. new ≡ option_map (sent b) old) are is) (live opens) read free idle

-- it is there already
held_far : (f : Far) (r : DataRegister) → Holds r f → f.unread ≡ [] → f.live.chip.port.held ≡ false → f.live.chip.port.state ≡ RunTestIdle
    → f ≡ far_at f.live.chip.tck (idle_port r f.live.chip.port.shift) f.live.chip.inside
held_far f r holds read free idle = by f.unread f.live.ended f.live.chip.port.held f.live.chip.port.state f.live.chip.port.selected f.live.chip.port.tdo read
    holds.live free idle holds.selected holds.tdo
  where
    by : (u : List ℕ) (e : Option ChipEnd) (h : Bool) (s : TapState) (q : DataRegister) (t : Bool) → u ≡ [] → e ≡ None → h ≡ false → s ≡ RunTestIdle → q ≡ r
        → t ≡ false → far_with (record {
          chip = record f.live.chip
              { port = record { state = s; selected = q; shift = f.live.chip.port.shift; tdo = t; held = h } };
          ended = e;
        }) u
        ≡ far_at f.live.chip.tck (idle_port r f.live.chip.port.shift) f.live.chip.inside
    by u e h s q t a b c d g i = cc

ir_there : (code : ℕ) (f : Far) → Holds (data_register_of code) f → f.unread ≡ [] → f.live.chip.port.held ≡ false → f.live.chip.port.state ≡ RunTestIdle
    → IrDone code (Some f) (Some f)
unfolding ticks
ir_there code f holds read free idle =
    let is : Some f ≡ Some (far_at f.live.chip.tck (idle_port (data_register_of code) f.live.chip.port.shift) f.live.chip.inside) =
    ap Some (held_far f (data_register_of code) holds read free idle) in
    record {
      selected = record {
        rises = 0;
        tck = f.live.chip.tck;
        shift = f.live.chip.port.shift;
        is = is;
        least = λ other. absurd (other holds.selected);
        most = omega arith;
      };
      rests = record { live = holds.live; read = read; free = free; idle = idle; holds = holds };
    }

ir_stays : (code : ℕ) (old : Option Far) → IfSome old (Holds (data_register_of code)) → IsRead old → IsFree old → IsIdle old → IrDone code old old
ir_stays code None holds read free idle = record { selected = refl; rests = rests_untold (data_register_of code) None refl }
ir_stays code (Some f) holds read free idle = ir_there code f holds read free idle

pub ir_remembered : (code : ℕ) (m : Option ℕ) (old : Option Far) → m ≡ Some code → IsRemembered m old → IsRead old → IsFree old → IsIdle old
    → IrDone code old old
ir_remembered code m old is holds read free idle = ir_stays code old (subst (λ n. IsRemembered n old) is holds) read free idle

-- ---- a scan

length-comes_out : (was bits : List Bool) → length (comes_out was bits) ≡ length bits
length-comes_out was bits = grind (arith, length-append {A = Bool}, length-take {A = Bool})

pub length-answers : (bits : List Bool) → length (map answer_byte bits) ≡ length bits
length-answers bits = simp length-map

-- what the chip takes out of its register
abbrev pub out_of : List Bool → Chip → List Bool
out_of bits c = dr_out bits c.port.selected (ticks 2 c.inside)

pub record IsAsked (bits : List Bool) (f : Far) (between : Option Far) : Type 0 where
  pub is : between ≡ Some (far_living (idle_chip f.live.chip.port.selected (dr_stays bits f.live.chip.port.selected (ticks 2 f.live.chip.inside))
      (scan_inside bits f.live.chip.port.selected f.live.chip.inside)) (map answer_byte (out_of bits f.live.chip)))

asked_told : (bits : List Bool) (f : Far) (between : Option Far) → 0 < length bits → SentAll (dr_bytes bits) f between → f.live.chip.port.held ≡ false
    → f.live.chip.port.state ≡ RunTestIdle → IsAsked bits f between
asked_told bits f between some all free idle =
    let c = f.live.chip in
    let at = state_at RunTestIdle c free idle in
    let ran = ap (λ d. run d (dr_bytes bits)) at ∙ dr_run bits c.tck c.port.selected c.port.shift c.port.tdo c.inside some in
    let told = ap (λ d. told_by d (dr_bytes bits)) at ∙ dr_told bits c.tck c.port.selected c.port.shift c.port.tdo c.inside some in
    record { is = all.is ∙ ap Some (far_of _ _ _ _ (ap living ran) told) }

asked : (bits : List Bool) (old between : Option Far) → 0 < length bits → between ≡ option_map (sent (dr_bytes bits)) old → IsLive between → IsRead old
    → IsFree old → IsIdle old → IfSome old (λ f. IsAsked bits f between)
asked bits None between some is live read free idle = tt
asked bits (Some f) between some is live read free idle = asked_told bits f between some (sent_all (dr_bytes bits) f between is live read) free idle

-- what a wire that took the bytes of a scan tells
pub record Between (bits : List Bool) (old between : Option Far) : Type 0 where
  pub is : between ≡ option_map (sent (dr_bytes bits)) old
  pub ready : IsOpen between
  pub asked : IfSome old (λ f. IsAsked bits f between)

pub open_of_live : (told : Option Far) → IsLive told → IsOpen told
open_of_live None live = tt
open_of_live (Some f) live = rw live tt

pub scan_between : (bytes : List ℕ) (bits : List Bool) (old between : Option Far) → bytes ≡ dr_bytes bits → 0 < length bits
    → between ≡ option_map (sent bytes) old → (IsTrue (are_open bytes) → IsLive between) → IsTrue (are_open bytes) → IsRead old → IsFree old → IsIdle old
    → Between bits old between
scan_between bytes bits old between are some is live opens read free idle =
    let sent_is = subst (λ b. between ≡ option_map (sent b) old) are is in
    record { is = sent_is; ready = open_of_live between (live opens); asked = asked bits old between some sent_is (live opens) read free idle }

-- so many answers wait
length-out : (bits : List Bool) (c : Chip) → length (map answer_byte (out_of bits c)) ≡ length bits
length-out bits c = length-answers (out_of bits c) ∙ length-comes_out _ bits

waiting_told : (bits : List Bool) (n : ℕ) (f : Far) (between : Option Far) → n ≤ length bits → IsAsked bits f between
    → IfSome between (λ g. n ≤ length g.unread)
waiting_told bits n f between few a =
    let enough : n ≤ length (map answer_byte (out_of bits f.live.chip)) = subst (λ k. n ≤ k) (sym (length-out bits f.live.chip)) few in
    rw a.is enough

pub waiting : (bits : List Bool) (n : ℕ) (old between : Option Far) → n ≤ length bits → Between bits old between → IfSome between (λ g. n ≤ length g.unread)
waiting bits n None between few b = rw b.is tt
waiting bits n (Some f) between few b = waiting_told bits n f between few b.asked

-- a front of the answers, as many as they are, is all of them
pub all_answers : (xs ys rest : List ℕ) → xs ≡ ys ++ rest → length ys ≡ length xs → (ys ≡ xs) × (rest ≡ [])
all_answers xs ys [] e l = (sym (e ∙ simp append-nil), refl)
all_answers xs ys (r ∷ rest) e l = absurd (omega (arith, ap length e, length-append {A = ℕ} ys (r ∷ rest)))

-- bits are told apart by their answers
bit_of : ℕ → Bool
bit_of n = n == 49

bit_of-answer_byte : (b : Bool) → bit_of (answer_byte b) ≡ b
unfolding bit_of
bit_of-answer_byte true = refl
bit_of-answer_byte false = refl

bits_back : (bits : List Bool) → map bit_of (map answer_byte bits) ≡ bits
bits_back [] = refl
bits_back (b ∷ bs) = rw (bit_of-answer_byte b, bits_back bs) refl

pub same_bits : (xs ys : List Bool) → map answer_byte xs ≡ map answer_byte ys → xs ≡ ys
same_bits xs ys e = sym (bits_back xs) ∙ ap (map bit_of) e ∙ bits_back ys

-- what was received is what came out, and nothing is left
pub record IsReceived (bits : List Bool) (answers : List ℕ) (f : Far) (new : Option Far) : Type 0 where
  pub answers_are : answers ≡ map answer_byte (out_of bits f.live.chip)
  pub is : new ≡ Some (far_at true (idle_port f.live.chip.port.selected (dr_stays bits f.live.chip.port.selected (ticks 2 f.live.chip.inside)))
      (scan_inside bits f.live.chip.port.selected f.live.chip.inside))

received_at : (bits : List Bool) (answers : List ℕ) (f : Far) (new : Option Far) → length answers ≡ length bits
    → ReadsFront answers (Some (far_living (idle_chip f.live.chip.port.selected (dr_stays bits f.live.chip.port.selected (ticks 2 f.live.chip.inside))
    (scan_inside bits f.live.chip.port.selected f.live.chip.inside)) (map answer_byte (out_of bits f.live.chip)))) new → IsReceived bits answers f new
received_at bits answers f new full read =
    let all = all_answers (map answer_byte (out_of bits f.live.chip)) answers read.0 read.1 (full ∙ sym (length-out bits f.live.chip)) in
    record {
      answers_are = all.0;
      is = read.2 ∙ ap Some
          (ap (λ rest. far_living (idle_chip f.live.chip.port.selected (dr_stays bits f.live.chip.port.selected (ticks 2 f.live.chip.inside))
          (scan_inside bits f.live.chip.port.selected f.live.chip.inside)) rest) all.1);
    }

pub received : (bits : List Bool) (answers : List ℕ) (f : Far) (between new : Option Far) → length answers ≡ length bits → IsAsked bits f between
    → ReadsFront answers between new → IsReceived bits answers f new
received bits answers f between new full a read = received_at bits answers f new full (subst (λ b. ReadsFront answers b new) a.is read)

-- a scan was done
pub record IsDone (bits out : List Bool) (old new : Option Far) : Type 0 where
  pub scanned : WhereTold (Scanned (Some 0) bits out) old new
  pub live : IsLive new
  pub read : IsRead new
  pub free : IsFree new
  pub idle : IsIdle new
  pub holds : (r : DataRegister) → IfSome old (Holds r) → IfSome new (Holds r)

done_told : (bits out : List Bool) (answers : List ℕ) (f : Far) (new : Option Far) → IsReceived bits answers f new → answers ≡ map answer_byte out
    → IsDone bits out (Some f) new
done_told bits out answers f new got spelled =
    let rests = rests_at true f.live.chip.port.selected _ _ new got.is in
    record {
      scanned = record {
        before = 2;
        between = suc (suc (length bits));
        behind = 1;
        shifts = omega arith;
        out_is = same_bits _ _ (sym spelled ∙ got.answers_are);
        is = got.is;
        least = omega arith;
        most = omega arith;
      };
      live = rests.live;
      read = rests.read;
      free = rests.free;
      idle = rests.idle;
      holds = λ r was. subst (λ q. IfSome new (Holds q)) was.selected rests.holds;
    }

done_untold : (bits out : List Bool) (new : Option Far) → new ≡ None → IsDone bits out None new
done_untold bits out new is = rw is (record { scanned = refl; live = tt; read = tt; free = tt; idle = tt; holds = λ r was. tt })

pub scan_done : (bits out : List Bool) (answers : List ℕ) (old between new : Option Far) → Between bits old between → ReadsFront answers between new
    → length answers ≡ length bits → answers ≡ map answer_byte out → IsDone bits out old new
scan_done bits out answers None between new b read full spelled = done_untold bits out new (subst (λ t. ReadsFront answers t new) b.is read)
scan_done bits out answers (Some f) between new b read full spelled =
    done_told bits out answers f new (received bits answers f between new full b.asked read) spelled

-- and what was remembered still holds
pub remembers : (m : Option ℕ) (k : Option ℕ) (old new : Option Far) → ((r : DataRegister) → IfSome old (Holds r) → IfSome new (Holds r)) → k ≡ m
    → IsRemembered m old → IsRemembered k new
remembers m k old new each is was = subst (λ n. IsRemembered n new) (sym is) (by m was)
  where
    by : (n : Option ℕ) → IsRemembered n old → IsRemembered n new
    by None was = tt
    by (Some code) was = each (data_register_of code) was

-- the answers that were to come
pub came_out : (answers : List ℕ) (out : List Bool) (old new : Option (List ℕ)) → TakesComing answers old new → answers ≡ map answer_byte out
    → ComesOut out (option_map Answers old) (option_map Answers new)
came_out answers out None new takes spelled = rw takes refl
came_out answers out (Some coming) new takes spelled = (takes.0, takes.1 ∙ ap (λ xs. xs ++ takes.0) spelled, ap (option_map Answers) takes.2)
