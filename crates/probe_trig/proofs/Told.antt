-- What transfers made of the halted hart of a told chip: turns, and all that was written to the one hart.
use Rattle.std.proofs.Common.{
  ◌≡◌,
  ◌∙◌,
  ℕ,
  List,
  [],
  ◌∷◌,
  set,
  Option,
  Some,
  None,
  option_map,
  slice_get,
  refl,
  sym,
  ap,
  subst,
  append-nil,
  is_some,
  true,
  false,
}
use Rattle.std.proofs.lemmas.Bool.{false≢true}
use Rattle.std.proofs.lemmas.Option.{none-some, same_Some}
use Rattle.rv_model.specs.declared.cause.Cause.{Cause}
use Rattle.rv_model.specs.Board.{Board, DebugPart, Hart, IsHart}
use Rattle.rv_model.specs.DebugLaws.{WriteKeeps}
use Rattle.rv_model.specs.DebugRegisters.{debug_value, debug_written}
use Rattle.rv_model.proofs.DebugLemmas.{writes_keep}
use Rattle.debug_model.specs.Dmi.{DmiComing}
use Rattle.debug_model.specs.Module.{Site}
use Rattle.debug_model.specs.Scan.{WhereTold}
use Rattle.debug_model.specs.Told.{Far, HartHalted, IsHalted, IsReady, SiteReady, site_of}
use Rattle.abstract_debugger.specs.Laws.{IsFrozen, IsFrozenAt}
use Rattle.abstract_debugger.specs.Slots.{over}
use Rattle.abstract_debugger.specs.Stands.{Rewrote, Target, WentOn}
use Rattle.abstract_debugger.specs.Turns.{after_turns}
use Rattle.abstract_debugger.proofs.FrozenLemmas.{frozen_stays}
use Rattle.abstract_debugger.proofs.OverLemmas.{set-over, slice_get-over_same}
use Rattle.rv_model.proofs.MapLemmas.{set_same}
use Rattle.abstract_debugger.proofs.StandsLemmas.{rewrote_then}
use Rattle.probe_access.specs.Registers.{RegisterReadAt, IsHartAt, RegisterWrittenAt, TurnsPassed, TurnsPassedBut}
use Rattle.probe_run.specs.Acts.{Tells, tells}
use Rattle.probe_run.specs.Happens.{target_of}
use Rattle.probe_trig.specs.Slots.{AtHarts}
use Rattle.probe_trig.specs.Transfers.{Did, Made, Transfer, number_of}
use Rattle.probe_trig.specs.Transfers.Made.{first, nothing}
use Rattle.probe_trig.specs.Transfers.Transfer.{Got, Lacked, Set}
use Rattle.probe_trig.proofs.Untold.{made_none}

-- ---- along the transfers

-- the hart behind them
abbrev pub played : List Transfer → Hart → Hart
played [] x = x
played (Got r v ∷ ts) x = played ts x
played (Lacked r ∷ ts) x = played ts x
played (Set r v ∷ ts) x = played ts (debug_written x (number_of r) v)

-- what was read is what it held, and it lacks no register
abbrev pub Shown : List Transfer → Hart → Type 0
Shown [] x = Unit {0}
Shown (Got r v ∷ ts) x = (debug_value x (number_of r) ≡ Some v) × Shown ts x
Shown (Lacked r ∷ ts) x = ⊥
Shown (Set r v ∷ ts) x = Shown ts (debug_written x (number_of r) v)

-- ---- one hart in the place of another

abbrev pub becomes : Hart → Hart → Hart
becomes y x = y

pub over_here : (h : ℕ) (y x : Hart) (hs : List Hart) → slice_get hs h ≡ Some x → set hs h y ≡ over h (becomes y) hs
over_here h y x hs is = set-over (becomes y) hs h x is

over_itself : (h : ℕ) (x : Hart) (hs : List Hart) → slice_get hs h ≡ Some x → over h (becomes x) hs ≡ hs
over_itself h x hs is = sym (over_here h x x hs is) ∙ set_same hs h x is

over_as : (h : ℕ) (y x : Hart) (f : Hart → Hart) (hs : List Hart) → slice_get hs h ≡ Some x → y ≡ f x → over h (becomes y) hs ≡ over h f hs
over_as h y x f hs is e = sym (over_here h y x hs is) ∙ ap (set hs h) e ∙ set-over f hs h x is

abbrev pub board_with : Board → List Hart → Board
board_with b hs = record { harts = hs; memory = b.memory }

pub frozen_at : (h : ℕ) (x : Hart) (b : Board) → slice_get b.harts h ≡ Some x → IsFrozen x.debug → IsFrozenAt h b
frozen_at h x b is f y at = subst (λ (z : Hart). IsFrozen z.debug) (same_Some x y (sym is ∙ at)) f

passed_wrote : (h : ℕ) (x : Hart) (s t : Site) → IsHartAt h s.board x → IsFrozen x.debug → TurnsPassed s t → Rewrote (becomes x) h (target_of s) (target_of t)
passed_wrote h x s t is f p = record {
  harts = p.harts;
  board = p.board ∙ ap (board_with (after_turns p.harts s.board))
      (sym (over_itself h x (after_turns p.harts s.board).harts (frozen_stays h x s.board p.harts is f)));
  journal = p.journal;
}

pub but_wrote : (h : ℕ) (x y : Hart) (s t : Site) → IsHartAt h s.board x → IsFrozen x.debug → TurnsPassedBut h y s t
    → Rewrote (becomes y) h (target_of s) (target_of t)
but_wrote h x y s t is f p = record {
  harts = p.harts;
  board = p.board ∙ ap (board_with (after_turns p.harts s.board)) (over_here h y x (after_turns p.harts s.board).harts (frozen_stays h x s.board p.harts is f));
  journal = p.journal;
}

-- the hart that stands there then
pub now_there : (h : ℕ) (x y : Hart) (old new : Target) → slice_get old.board.harts h ≡ Some x → IsFrozen x.debug → Rewrote (becomes y) h old new
    → slice_get new.board.harts h ≡ Some y
now_there h x y old new is f w =
    ap (λ (b : Board). slice_get b.harts h) w.board
    ∙ slice_get-over_same (becomes y) h (after_turns w.harts old.board).harts
    ∙ ap (option_map (becomes y)) (frozen_stays h x old.board w.harts is f)

pub wrote_as : (h : ℕ) (x y : Hart) (f : Hart → Hart) (old new : Target) → slice_get old.board.harts h ≡ Some x → IsFrozen x.debug → y ≡ f x
    → Rewrote (becomes y) h old new → Rewrote f h old new
wrote_as h x y f old new is frozen e w = record {
  harts = w.harts;
  board = w.board ∙ ap (board_with (after_turns w.harts old.board))
      (over_as h y x f (after_turns w.harts old.board).harts (frozen_stays h x old.board w.harts is frozen) e);
  journal = w.journal;
}

pub went_as : (h : ℕ) (x y : Hart) (old new : Target) → slice_get old.board.harts h ≡ Some x → IsFrozen x.debug → y ≡ x → Rewrote (becomes y) h old new
    → WentOn old new
went_as h x y old new is frozen e w =
    let at : slice_get (after_turns w.harts old.board).harts h ≡ Some x = frozen_stays h x old.board w.harts is frozen in
    record {
      harts = w.harts;
      board = w.board ∙ ap (board_with (after_turns w.harts old.board))
          (ap (λ (z : Hart). over h (becomes z) (after_turns w.harts old.board).harts) e ∙ over_itself h x (after_turns w.harts old.board).harts at);
      journal = w.journal;
    }

frozen_written : (x : Hart) (number v : ℕ) → IsFrozen x.debug → IsFrozen (debug_written x number v).debug
frozen_written x number v f =
    let k : WriteKeeps x (debug_written x number v) = writes_keep x number v in
    record { why = f.why; halted = k.requests.halted ∙ f.halted; not_asked = k.requests.resume_request ∙ f.not_asked }

pub frozen_played : (ts : List Transfer) (x : Hart) → IsFrozen x.debug → IsFrozen (played ts x).debug
frozen_played [] x f = f
frozen_played (Got r v ∷ ts) x f = frozen_played ts x f
frozen_played (Lacked r ∷ ts) x f = frozen_played ts x f
frozen_played (Set r v ∷ ts) x f = frozen_played ts (debug_written x (number_of r) v) (frozen_written x (number_of r) v f)

-- ---- a told link along the transfers

pub record Led (h : ℕ) (x : Hart) (ts : List Transfer) (s : Site) (told : Option Far) : Type 0 where
  pub far : Far
  pub is : told ≡ Some far
  pub shown : Shown ts x
  pub wrote : Rewrote (becomes (played ts x)) h (target_of s) (target_of (site_of far))
  pub bus : (site_of far).unit.bus ≡ s.unit.bus

stood_still : (h : ℕ) (x : Hart) (s : Site) → IsHartAt h s.board x → Rewrote (becomes x) h (target_of s) (target_of s)
stood_still h x s is = record { harts = []; board = ap (board_with s.board) (sym (over_itself h x s.board.harts is)); journal = sym (append-nil s.journal) }

-- a first transfer, which left this hart, and then others
led_then : (h : ℕ) (x y : Hart) (ts : List Transfer) (s mid : Site) (told : Option Far) → IsHartAt h s.board x → IsFrozen x.debug → IsFrozen y.debug
    → Rewrote (becomes y) h (target_of s) (target_of mid)
    → mid.unit.bus ≡ s.unit.bus → (l : Led h y ts mid told) → Rewrote (becomes (played ts y)) h (target_of s) (target_of (site_of l.far))
led_then h x y ts s mid told is fx fy w bus l =
    rewrote_then (becomes y) (becomes (played ts y)) h (target_of s) (target_of mid) (target_of (site_of l.far)) (frozen_at h x s.board is fx)
    (λ z f. fy) w l.wrote

pub made_led : (h : ℕ) (f : Far) (x : Hart) (ts : List Transfer) (old new : Tells) → IsHartAt h (site_of f).board x → IsFrozen x.debug → old.far ≡ Some f
    → Made h old ts new → Led h x ts (site_of f) new.far
made_led h f x ts old new is frozen at nothing = record { far = f; is = at; shown = tt; wrote = stood_still h x (site_of f) is; bus = refl }
made_led h f x ts old new is frozen at (first {mid = now} {t = Got r v} {ts = more} d rest) =
    let g : RegisterReadAt h (number_of r) v f.live.chip now.far = subst (λ o. WhereTold (RegisterReadAt h (number_of r) v) o now.far) at d.got in
    let same : g.hart ≡ x = same_Some g.hart x (sym g.here ∙ is) in
    let w : Rewrote (becomes x) h (target_of (site_of f)) (target_of (site_of g.far)) = passed_wrote h x (site_of f) (site_of g.far) is frozen g.passed in
    let l : Led h x more (site_of g.far) new.far =
    made_led h g.far x more now new (now_there h x x (target_of (site_of f)) (target_of (site_of g.far)) is frozen w) frozen g.is rest in
    record {
      far = l.far;
      is = l.is;
      shown = (ap (λ (y : Hart). debug_value y (number_of r)) (sym same) ∙ g.value_is, l.shown);
      wrote = led_then h x x more (site_of f) (site_of g.far) new.far is frozen frozen w g.passed.bus l;
      bus = l.bus ∙ g.passed.bus;
    }
made_led h f x ts old new is frozen at (first {mid = now} {t = Lacked r} {ts = more} d rest) = absurd (none-some f (sym d.untold ∙ at))
made_led h f x ts old new is frozen at (first {mid = now} {t = Set r v} {ts = more} d rest) =
    let g : RegisterWrittenAt h (number_of r) v f.live.chip now.far = subst (λ o. WhereTold (RegisterWrittenAt h (number_of r) v) o now.far) at d.set_to in
    let same : g.hart ≡ x = same_Some g.hart x (sym g.here ∙ is) in
    let y : Hart = debug_written x (number_of r) v in
    let fy : IsFrozen y.debug = frozen_written x (number_of r) v frozen in
    let p : TurnsPassedBut h y (site_of f) (site_of g.far) =
    subst (λ (z : Hart). TurnsPassedBut h (debug_written z (number_of r) v) (site_of f) (site_of g.far)) same g.passed in
    let w : Rewrote (becomes y) h (target_of (site_of f)) (target_of (site_of g.far)) = but_wrote h x y (site_of f) (site_of g.far) is frozen p in
    let l : Led h y more (site_of g.far) new.far =
    made_led h g.far y more now new (now_there h x y (target_of (site_of f)) (target_of (site_of g.far)) is frozen w) fy g.is rest in
    record {
      far = l.far;
      is = l.is;
      shown = l.shown;
      wrote = led_then h x y more (site_of f) (site_of g.far) new.far is frozen fy w p.bus l;
      bus = l.bus
          ∙ p.bus;
    }

-- ---- a whole call

pub frozen_halted : (h : ℕ) (f : Far) (ready : SiteReady (site_of f)) (halted : HartHalted h (site_of f).board) → IsFrozen halted.hart.debug
frozen_halted h f ready halted = frozen_by halted.hart.debug halted.hart.debug.halted refl halted.halted
    ((ready.harts h halted.hart halted.is).no_resume_request)
  where
    frozen_by : (d : DebugPart) (o : Option Cause) → d.halted ≡ o → is_some o ≡ true → d.resume_request ≡ false → IsFrozen d
    frozen_by d (Some why) e some quiet = record { why = why; halted = e; not_asked = quiet }
    frozen_by d None e some quiet = absurd (false≢true some)

-- what becomes of the harts, by what the transfers of such a call make of a whole hart
abbrev pub Makes : (List Transfer → Type 0) → ℕ → (Target → Target → Type 0) → Type 0
Makes Whole h R =
    (x : Hart) (ts : List Transfer) (old new : Target) → slice_get old.board.harts h ≡ Some x → IsHart h x → IsFrozen x.debug → Whole ts → Shown ts x
    → Rewrote (becomes (played ts x)) h old new → R old new

pub did_at : (Whole : List Transfer → Type 0) (R : Target → Target → Type 0) (h : ℕ) (far : Option Far) (coming : Option DmiComing) (new : Tells) → IsReady far
    → IsHalted h far → Makes Whole h R
    → Did Whole h (tells far coming) new → WhereTold (AtHarts R) far new.far
did_at Whole R h None coming new ready halted makes d = made_none h d.transfers (tells None coming) new d.made refl
did_at Whole R h (Some f) coming new ready halted makes d =
    let frozen : IsFrozen halted.hart.debug = frozen_halted h f ready halted in
    let l : Led h halted.hart d.transfers (site_of f) new.far = made_led h f halted.hart d.transfers (tells (Some f) coming) new halted.is frozen refl d.made in
    record {
      far = l.far;
      is = l.is;
      happened = makes halted.hart d.transfers (target_of (site_of f)) (target_of (site_of l.far)) halted.is
          ((ready.harts h halted.hart halted.is).whole) frozen d.whole l.shown l.wrote;
      bus = l.bus;
    }
