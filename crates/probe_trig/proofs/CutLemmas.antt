-- What a call on slots that broke off has left of the hart: at most its debug part is another.
use Rattle.std.proofs.Common.{◌≡◌, ◌∙◌, ℕ, List, [], ◌∷◌, Option, Some, None, slice_get, refl, sym, ap, subst, inl, inr}
use Rattle.std.proofs.lemmas.Option.{same_Some}
use Rattle.rv_model.specs.Board.{Hart}
use Rattle.rv_model.specs.DebugLaws.{WriteKeeps}
use Rattle.rv_model.specs.DebugRegisters.{debug_written}
use Rattle.rv_model.specs.Registers.{csr_written}
use Rattle.rv_model.proofs.DebugLemmas.{writes_keep}
use Rattle.debug_model.specs.Dmi.{DmiComing}
use Rattle.debug_model.specs.Module.{Site}
use Rattle.debug_model.specs.Told.{Far, IsHalted, IsReady, site_of}
use Rattle.abstract_debugger.specs.Laws.{IsFrozen}
use Rattle.abstract_debugger.specs.Stands.{Rewrote}
use Rattle.abstract_debugger.specs.Turns.{after_turns}
use Rattle.abstract_debugger.proofs.FrozenLemmas.{frozen_stays}
use Rattle.abstract_debugger.proofs.StandsLemmas.{rewrote_then}
use Rattle.probe_access.specs.declared.fault.AccessFault.{AccessFault}
use Rattle.probe_access.specs.declared.fault.AccessFault.TheVariants as access_fault
use Rattle.probe_access.specs.Cuts.{IfCut, IsLeft, LeftAside, Leaves, MaybeWritten, Unchanged}
use Rattle.probe_run.specs.Acts.{Tells, tells}
use Rattle.probe_run.specs.Happens.{target_of}
use Rattle.probe_trig.specs.declared.register.TriggerRegister.{TriggerRegister}
use Rattle.probe_trig.specs.declared.register.TriggerRegister.TheVariants.{Dcsr, Tdata1, Tdata2, Tinfo, Tselect}
use Rattle.probe_trig.specs.Slots.{DebugAlone}
use Rattle.probe_trig.specs.Transfers.{Attempt, AttemptFailed, FailedIn, Transfer, number_of}
use Rattle.probe_trig.specs.Transfers.Attempt.{Getting, Setting}
use Rattle.probe_trig.specs.Transfers.Transfer.{Got, Lacked, Set}
use Rattle.probe_trig.proofs.Told.{Led, becomes, board_with, but_wrote, frozen_at, frozen_halted, frozen_played, made_led, now_there, over_here, played}

-- ---- the hart

core_kept : (x : Hart) (r : TriggerRegister) (v : ℕ) → (debug_written x (number_of r) v).core ≡ x.core
unfolding debug_written csr_written
core_kept x Tselect v = refl
core_kept x Tdata1 v = refl
core_kept x Tdata2 v = refl
core_kept x Tinfo v = refl
core_kept x Dcsr v = refl

pub alone_written : (x y : Hart) (r : TriggerRegister) (v : ℕ) → DebugAlone x y → DebugAlone x (debug_written y (number_of r) v)
alone_written x y r v d =
    let k : WriteKeeps y (debug_written y (number_of r) v) = writes_keep y (number_of r) v in
    record {
      core = core_kept y r v ∙ d.core;
      requests = record {
        version = k.requests.version ∙ d.requests.version;
        halted = k.requests.halted ∙ d.requests.halted;
        halt_request = k.requests.halt_request ∙ d.requests.halt_request;
        resume_request = k.requests.resume_request ∙ d.requests.resume_request;
        resume_ack = k.requests.resume_ack ∙ d.requests.resume_ack;
        have_reset = k.requests.have_reset ∙ d.requests.have_reset;
      };
    }

alone_played : (ts : List Transfer) (x y : Hart) → DebugAlone x y → DebugAlone x (played ts y)
alone_played [] x y d = d
alone_played (Got r v ∷ ts) x y d = alone_played ts x y d
alone_played (Lacked r ∷ ts) x y d = alone_played ts x y d
alone_played (Set r v ∷ ts) x y d = alone_played ts x (debug_written y (number_of r) v) (alone_written x y r v d)

pub alone : (x : Hart) → DebugAlone x x
alone x = record { core = refl; requests = record { version = refl; halted = refl; halt_request = refl; resume_request = refl; resume_ack = refl; have_reset = refl } }

-- ---- the site

left_then : (Y Z : Hart → Hart → Type 0) (h : ℕ) (x y : Hart) (s mid t : Site) → slice_get s.board.harts h ≡ Some x → IsFrozen x.debug → IsFrozen y.debug
    → Rewrote (becomes y) h (target_of s) (target_of mid) → mid.unit.bus ≡ s.unit.bus
    → ((z : Hart) → Y y z → Z x z) → LeftAside Y h mid t → LeftAside Z h s t
left_then Y Z h x y s mid t is fx fy w bus alone l =
    let at : slice_get mid.board.harts h ≡ Some y = now_there h x y (target_of s) (target_of mid) is fx w in
    let same : l.hart ≡ y = same_Some l.hart y (sym l.here ∙ at) in
    let v : Rewrote (becomes l.left) h (target_of mid) (target_of t) =
    but_wrote h y l.left mid t at fy (record { harts = l.harts; board = l.board; journal = l.journal; bus = l.bus }) in
    let b : Rewrote (becomes l.left) h (target_of s) (target_of t) =
    rewrote_then (becomes y) (becomes l.left) h (target_of s) (target_of mid) (target_of t) (frozen_at h x s.board is fx) (λ z f. fy) w v in
    record {
      hart = x;
      here = is;
      left = l.left;
      one = alone l.left (subst (λ (z : Hart). Y z l.left) same l.one);
      harts = b.harts;
      board = b.board ∙ ap (board_with (after_turns b.harts s.board))
          (sym (over_here h l.left x (after_turns b.harts s.board).harts (still_there h x s b.harts is fx)));
      journal = b.journal;
      bus = l.bus ∙ bus;
    }
  where
    still_there : (h : ℕ) (x : Hart) (s : Site) (harts : List ℕ) → slice_get s.board.harts h ≡ Some x → IsFrozen x.debug
        → slice_get (after_turns harts s.board).harts h ≡ Some x
    still_there h x s harts is f = frozen_stays h x s.board harts is f

pub broke_off : (Y Z : Hart → Hart → Type 0) (h : ℕ) (x : Hart) (ts : List Transfer) (f : Far) (mid new : Option Far)
    → slice_get (site_of f).board.harts h ≡ Some x → IsFrozen x.debug → Led h x ts (site_of f) mid
    → ((z : Hart) → Y (played ts x) z → Z x z) → Leaves (LeftAside Y h) mid new → Leaves (LeftAside Z h) (Some f) new
broke_off Y Z h x ts f mid new is frozen l alone cut =
    let k : IsLeft (LeftAside Y h) l.far.live.chip new = subst (λ o. Leaves (LeftAside Y h) o new) l.is cut in
    record {
      far = k.far;
      is = k.is;
      left = left_then Y Z h x (played ts x) (site_of f) (site_of l.far) (site_of k.far) is frozen
          (frozen_played ts x frozen) l.wrote l.bus alone k.left;
    }

-- what a failed transfer may have made of it
abbrev pub may : Attempt → Hart → Hart → Type 0
may (Getting r) = Unchanged
may (Setting r v) = MaybeWritten (number_of r) v

may_alone : (a : Attempt) (x y z : Hart) → DebugAlone x y → may a y z → DebugAlone x z
may_alone (Getting r) x y z d m = subst (λ (u : Hart). DebugAlone x u) (sym m) d
may_alone (Setting r v) x y z d (inl m) = subst (λ (u : Hart). DebugAlone x u) (sym m) d
may_alone (Setting r v) x y z d (inr m) = subst (λ (u : Hart). DebugAlone x u) (sym m) (alone_written x y r v d)

pub attempt_cut : (h : ℕ) (a : Attempt) (old_count new_count : ℕ) (old new : Tells) (e : AccessFault) → AttemptFailed h a old_count new_count old new e
    → IfCut (Leaves (LeftAside (may a) h) old.far new.far) e
attempt_cut h (Getting r) old_count new_count old new e f = f.cut
attempt_cut h (Setting r v) old_count new_count old new e f = f.cut

cut_as : (P Q : Type 0) (e : AccessFault) → (P → Q) → IfCut P e → IfCut Q e
cut_as P Q (access_fault.Dmi why) f p = f p
cut_as P Q (access_fault.Memory at) f p = tt
cut_as P Q (access_fault.Register number) f p = tt
cut_as P Q access_fault.StillBusy f p = f p
cut_as P Q (access_fault.Run why) f p = tt
cut_as P Q (access_fault.Odd word) f p = tt

cut_none : (P : Type 0) (e : AccessFault) → P → IfCut P e
cut_none P (access_fault.Dmi why) p = p
cut_none P (access_fault.Memory at) p = tt
cut_none P (access_fault.Register number) p = tt
cut_none P access_fault.StillBusy p = p
cut_none P (access_fault.Run why) p = tt
cut_none P (access_fault.Odd word) p = tt

pub failed_cut : (Whole : List Transfer → Type 0) (h old_count new_count : ℕ) (far : Option Far) (coming : Option DmiComing) (new : Tells) (e : AccessFault)
    → IsReady far → IsHalted h far
    → FailedIn Whole h old_count new_count (tells far coming) new e → IfCut (Leaves (LeftAside DebugAlone h) far new.far) e
failed_cut Whole h old_count new_count None coming new e ready halted f = cut_none (Leaves (LeftAside DebugAlone h) None new.far) e tt
failed_cut Whole h old_count new_count (Some c) coming new e ready halted f =
    let x : Hart = halted.hart in
    let frozen : IsFrozen x.debug = frozen_halted h c ready halted in
    let l : Led h x f.done (site_of c) f.mid.far = made_led h c x f.done (tells (Some c) coming) f.mid halted.is frozen refl f.made in
    cut_as (Leaves (LeftAside (may f.attempt) h) f.mid.far new.far) (Leaves (LeftAside DebugAlone h) (Some c) new.far) e
    (broke_off (may f.attempt) DebugAlone h x f.done c f.mid.far new.far halted.is frozen l
    (λ z m. may_alone f.attempt x (played f.done x) z (alone_played f.done x x (alone x)) m))
    (attempt_cut h f.attempt old_count new_count f.mid new e f.failed)
