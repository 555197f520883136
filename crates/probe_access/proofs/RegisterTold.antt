-- What the calls of a register access do at a told chip: the hart is held aside, and turns pass.
use Rattle.std.proofs.Common.{◌≡◌, ◌∙◌, ◌++◌, ℕ, ◌<◌, ◌^◌, List, [], ◌∷◌, map, Bool, false, not, ◌&&◌, Some, None, is_some, refl, sym, ap, subst, append_assoc}
use Rattle.rv_model.specs.Board.{Hart}
use Rattle.rv_model.specs.DebugRegisters.{debug_value}
use Rattle.debug_model.specs.Addresses.{data0_address, data1_address, abstractcs_address, command_address}
use Rattle.debug_model.specs.declared.cmderr.Cmderr.TheVariants.{Exception}
use Rattle.debug_model.specs.declared.dmi_op.DmiOp.TheVariants.{Read, Write}
use Rattle.debug_model.specs.Commands.{high_half, low_half}
use Rattle.debug_model.specs.Dmi.{value_of}
use Rattle.debug_model.specs.Module.{Site, operated, register_at}
use Rattle.debug_model.specs.SystemBus.{BusUnit}
use Rattle.probe_run.specs.Acts.{Act}
use Rattle.probe_run.specs.Acts.Act.{Got, Put}
use Rattle.probe_access.specs.CommandRuns.{clearing, command_acts, error_shown, poll_act, shows_busy}
use Rattle.probe_access.specs.RegisterRuns.{double_written}
use Rattle.probe_access.proofs.Aside.{Frozen, aside, passed}
use Rattle.probe_access.specs.RegisterAccess.{transfer_command, transfer_word}
use Rattle.probe_access.proofs.Along.{ReadAt, SiteActs, Split, site_acts-split}
use Rattle.probe_access.proofs.Plain.{Transferable}
use Rattle.probe_access.proofs.ReadyUnit.{Held, Kept, OpAt, op_at, op_done, unit_of, unit_with}
use Rattle.probe_access.proofs.Steps.{DoneAt}
use Rattle.probe_access.proofs.TransferLemmas.{
  Commanded,
  TransferEnd,
  behind_frozen,
  commanded,
  hart_behind,
  refusing,
  transfer_ends,
  with_command,
  words_behind,
}
use Rattle.probe_access.proofs.TransferLemmas.TransferEnd.{took, refused}
use Rattle.probe_run.specs.Opening.{clears_cmderr}

-- ---- a site that serves, with hart h aside as y since a base at which it was w

pub record Stood (h : ℕ) (bus : BusUnit) (y : Hart) (base : Site) (w : Hart) (k : Kept) (s : Site) : Type 0 where
  pub held : Held h w base
  pub frozen : Frozen y
  pub idle : bus.pending ≡ None
  pub at : DoneAt (unit_of k h bus) h y base s

-- it is quiet, with some words
pub record Rests (h : ℕ) (bus : BusUnit) (y : Hart) (base : Site) (w : Hart) (t : Site) : Type 0 where
  pub kept : Kept
  pub stood : Stood h bus y base w kept t

pub rests : (h : ℕ) (bus : BusUnit) (y : Hart) (base : Site) (w : Hart) (k : Kept) (t : Site) → Stood h bus y base w k t → Rests h bus y base w t
rests h bus y base w k t st = record { kept = k; stood = st }

-- ---- one operation

-- a read that changes nothing
pub got_at : (a value : ℕ) (h : ℕ) (bus : BusUnit) (y : Hart) (base : Site) (w : Hart) (k : Kept) (s t : Site) → Stood h bus y base w k s → ReadAt a value s t
    → ((z : Site) → operated (Read a) (aside (unit_of k h bus) h y z) ≡ aside (unit_of k h bus) h y z) → Stood h bus y base w k t
got_at a value h bus y base w k s t st r same =
    let o : OpAt (Read a) r.result (unit_of k h bus) h y base t =
    op_at (Read a) r.result (unit_of k h bus) h y base w s t st.held st.frozen refl st.idle st.at r.one in
    record {
      held = st.held;
      frozen = st.frozen;
      idle = st.idle;
      at =
          op_done (Read a) r.result (unit_of k h bus) (unit_of k h bus) h y base w t st.held st.frozen refl st.idle o (same (passed o.harts base));
    }

-- a write that changes the words alone
pub put_at : (a value : ℕ) (h : ℕ) (bus : BusUnit) (y : Hart) (base : Site) (w : Hart) (k l : Kept) (s t : Site) → Stood h bus y base w k s
    → SiteActs (Put a value ∷ []) s t
    → ((z : Site) → operated (Write a value) (aside (unit_of k h bus) h y z) ≡ aside (unit_of l h bus) h y z) → Stood h bus y base w l t
put_at a value h bus y base w k l s t st p changes =
    let o : OpAt (Write a value) value (unit_of k h bus) h y base p.0 =
    op_at (Write a value) value (unit_of k h bus) h y base w s p.0 st.held st.frozen refl st.idle st.at p.1 in
    record {
      held = st.held;
      frozen = st.frozen;
      idle = st.idle;
      at = subst (λ u. DoneAt (unit_of l h bus) h y base u) (sym p.2)
          (op_done (Write a value) value (unit_of k h bus) (unit_of l h bus) h y base w p.0 st.held st.frozen refl st.idle o (changes (passed o.harts base)));
    }

-- ---- the data words

pub record WordsGot (low high : ℕ) (h : ℕ) (bus : BusUnit) (y : Hart) (base : Site) (w : Hart) (k : Kept) (t : Site) : Type 0 where
  pub low_is : low ≡ value_of k.data0
  pub high_is : high ≡ value_of k.data1
  pub stood : Stood h bus y base w k t

pub words_got : (low high h : ℕ) (bus : BusUnit) (y : Hart) (base : Site) (w : Hart) (k : Kept) (s t : Site) → Stood h bus y base w k s
    → SiteActs (Got data0_address low ∷ Got data1_address high ∷ []) s t
    → WordsGot low high h bus y base w k t
unfolding register_at
words_got low high h bus y base w k s t st p =
    let first : OpAt (Read data0_address) p.1.result (unit_of k h bus) h y base p.0 =
    op_at (Read data0_address) p.1.result (unit_of k h bus) h y base w s p.0 st.held st.frozen refl st.idle st.at p.1.one in
    let mid : Stood h bus y base w k p.0 = got_at data0_address low h bus y base w k s p.0 st p.1 (λ z. refl) in
    let second : OpAt (Read data1_address) p.2.1.result (unit_of k h bus) h y base p.2.0 =
    op_at (Read data1_address) p.2.1.result (unit_of k h bus) h y base w p.0 p.2.0 mid.held mid.frozen refl mid.idle mid.at p.2.1.one in
    let last : Stood h bus y base w k p.2.0 = got_at data1_address high h bus y base w k p.0 p.2.0 mid p.2.1 (λ z. refl) in
    record {
      low_is = p.1.value_is ∙ ap value_of first.value_is;
      high_is = p.2.1.value_is ∙ ap value_of second.value_is;
      stood = subst (λ u. Stood h bus y base w k u) (sym p.2.2) last;
    }

abbrev pub with_double : ℕ → Kept → Kept
with_double v k = record k { data0 = low_half v; data1 = high_half v }

abbrev pub with_data0 : ℕ → Kept → Kept
with_data0 v k = record k { data0 = v }

-- ---- writes that change the words alone, one after another

pub data WordPuts (h : ℕ) (bus : BusUnit) (y : Hart) : Kept → List Act → Kept → Type 0 where
  no_more : (k : Kept) → WordPuts h bus y k [] k
  and_then : (a v : ℕ) (acts : List Act) (k l m : Kept) → ((z : Site) → operated (Write a v) (aside (unit_of k h bus) h y z) ≡ aside (unit_of l h bus) h y z)
      → WordPuts h bus y l acts m → WordPuts h bus y k (Put a v ∷ acts) m

pub words_put : (h : ℕ) (bus : BusUnit) (y : Hart) (base : Site) (w : Hart) (k l : Kept) (acts : List Act) (s t : Site) → WordPuts h bus y k acts l
    → Stood h bus y base w k s → SiteActs acts s t → Stood h bus y base w l t
words_put h bus y base w k _ _ s t (no_more _) st e = subst (λ u. Stood h bus y base w k u) (sym e) st
words_put h bus y base w k l _ s t (and_then a v acts _ m _ changes more) st p =
    words_put h bus y base w m l acts p.0 t more (put_at a v h bus y base w k m s p.0 st (p.0, p.1, refl) changes) p.2

pub double_puts : (value h : ℕ) (bus : BusUnit) (y : Hart) (k : Kept) → WordPuts h bus y k (double_written value) (with_double value k)
unfolding register_at
double_puts value h bus y k =
    and_then data0_address (low_half value) (Put data1_address (high_half value) ∷ []) k (with_data0 (low_half value) k) (with_double value k) (λ z. refl)
    (and_then data1_address (high_half value) [] (with_data0 (low_half value) k) (with_double value k) (with_double value k) (λ z. refl)
    (no_more (with_double value k)))

-- ---- a command

pub record CommandCut (words : List ℕ) (word last : ℕ) (s t : Site) : Type 0 where
  pub mid : Site
  pub ran : SiteActs (Put command_address word ∷ (map poll_act words ++ poll_act last ∷ [])) s mid
  pub cleared : SiteActs (clearing (error_shown last)) mid t

pub command_cut : (words : List ℕ) (word last : ℕ) (s t : Site) → SiteActs (command_acts [] word words last) s t → CommandCut words word last s t
command_cut words word last s t p =
    let joined_acts : (map poll_act words ++ poll_act last ∷ []) ++ clearing (error_shown last) ≡ map poll_act words ++ poll_act last ∷ clearing
    (error_shown last) = append_assoc (map poll_act words) (poll_act last ∷ []) (clearing (error_shown last)) in
    let q : SiteActs ((map poll_act words ++ poll_act last ∷ []) ++ clearing (error_shown last)) p.0 t =
    subst (λ xs. SiteActs xs p.0 t) (sym joined_acts) p.2 in
    let cut : Split (map poll_act words ++ poll_act last ∷ []) (clearing (error_shown last)) p.0 t =
    site_acts-split (map poll_act words ++ poll_act last ∷ []) (clearing (error_shown last)) p.0 t q in
    record { mid = cut.mid; ran = (p.0, p.1, cut.first); cleared = cut.rest }

-- with no error nothing is cleared
pub fine_left : (error : ℕ) (s t : Site) → error ≡ 0 → SiteActs (clearing error) s t → t ≡ s
fine_left error s t is p = subst (λ e. SiteActs (clearing e) s t) is p

pub error_cleared : (error h : ℕ) (bus : BusUnit) (y : Hart) (base : Site) (w : Hart) (k : Kept) (s t : Site) → error ≡ 3 → Held h w base → Frozen y
    → bus.pending ≡ None → DoneAt (unit_with k Exception [] h bus) h y base s
    → SiteActs (clearing error) s t → Stood h bus y base w k t
unfolding register_at
error_cleared error h bus y base w k s t is held fy idle d p =
    let q : SiteActs (Put abstractcs_address clears_cmderr ∷ []) s t = subst (λ e. SiteActs (clearing e) s t) is p in
    let o : OpAt (Write abstractcs_address clears_cmderr) clears_cmderr (unit_with k Exception [] h bus) h y base q.0 =
    op_at (Write abstractcs_address clears_cmderr) clears_cmderr (unit_with k Exception [] h bus) h y base w s q.0 held fy refl idle d q.1 in
    record {
      held = held;
      frozen = fy;
      idle = idle;
      at = subst (λ u. DoneAt (unit_of k h bus) h y base u) (sym q.2)
          (op_done (Write abstractcs_address clears_cmderr) clears_cmderr (unit_with k Exception [] h bus) (unit_of k h bus) h y base w q.0 held fy refl idle o
          refl);
    }

pub data TransferTold (write : Bool) (number last : ℕ) (h : ℕ) (bus : BusUnit) (y : Hart) (base : Site) (w : Hart) (k : Kept) (t : Site) : Type 0 where
  taken : (v : ℕ) → debug_value y number ≡ Some v → refusing write number ≡ false → error_shown last ≡ 0
      → Stood h bus (hart_behind write number k y) base w (words_behind write number v k) t → TransferTold write number last h bus y base w k t
  denied : is_some (debug_value y number) && not (refusing write number) ≡ false → error_shown last ≡ 3
      → Stood h bus y base w (with_command (transfer_command write number) k) t → TransferTold write number last h bus y base w k t

transfer_cleared : (write : Bool) (number last : ℕ) (h : ℕ) (bus : BusUnit) (y : Hart) (base : Site) (w : Hart) (k : Kept) (mid t : Site) → Held h w base
    → Frozen y → bus.pending ≡ None
    → TransferEnd write number last k h bus y base mid → SiteActs (clearing (error_shown last)) mid t → TransferTold write number last h bus y base w k t
transfer_cleared write number last h bus y base w k mid t held fy idle (took v is free end) p =
    taken v is free end.error_is
    (record {
      held = held;
      frozen = behind_frozen write number k y fy;
      idle = idle;
      at = subst (λ u. DoneAt (unit_of (words_behind write number v k) h bus) h (hart_behind write number k y) base u)
          (sym (fine_left (error_shown last) mid t end.error_is p)) end.done_at;
    })
transfer_cleared write number last h bus y base w k mid t held fy idle (refused is end) p =
    denied is end.error_is (error_cleared (error_shown last) h bus y base w (with_command (transfer_command write number) k) mid t end.error_is held fy idle
    end.done_at p)

pub transfer_told : (write : Bool) (number : ℕ) (words : List ℕ) (last : ℕ) (h : ℕ) (bus : BusUnit) (y : Hart) (base : Site) (w : Hart) (k : Kept) (s t : Site)
    → Transferable write number → Stood h bus y base w k s
    → SiteActs (command_acts [] (transfer_word write number) words last) s t → shows_busy last ≡ false → TransferTold write number last h bus y base w k t
transfer_told write number words last h bus y base w k s t small st p not_busy =
    let cut : CommandCut words (transfer_word write number) last s t = command_cut words (transfer_word write number) last s t p in
    let c : Commanded (transfer_word write number) last (unit_of k h bus) h y base cut.mid =
    commanded (transfer_word write number) words last (unit_of k h bus) h y base w s cut.mid st.held st.frozen refl st.idle st.at cut.ran in
    transfer_cleared write number last h bus y base w k cut.mid t st.held st.frozen st.idle
    (transfer_ends write number last k h bus y base w cut.mid st.held st.frozen small st.idle c not_busy) cut.cleared
