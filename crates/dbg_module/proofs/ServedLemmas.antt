-- While a command is under way its hart stays halted, with no resume asked of it.
use Rattle.std.proofs.Common.{◌≡◌, ℕ, Bool, true, false, cond, List, [], ◌∷◌, set, Option, Some, None, slice_get, refl, sym, ap, subst, ◌∙◌, inl, inr, not}
use Rattle.std.proofs.lemmas.Bool.{cases_eq}
use Rattle.std.proofs.lemmas.Option.{slice_get_within}
use Rattle.rv_model.specs.declared.cause.Cause.{Cause}
use Rattle.rv_model.specs.Board.{DebugPart, Hart}
use Rattle.rv_model.specs.DebugLaws.{SameRequests}
use Rattle.rv_model.specs.DebugRegisters.{debug_seen}
use Rattle.rv_model.specs.Memory.{Memory}
use Rattle.rv_model.specs.Touch.{touch_of}
use Rattle.rv_model.specs.Turn.{place_by, place_of, some_fires, stops_at_ebreak, turn_outcome}
use Rattle.rv_model.proofs.DebugLemmas.{writes_keep, words_keep}
use Rattle.rv_model.proofs.MapLemmas.{slice_get-set_same, slice_get-set_other}
use Rattle.debug_model.specs.declared.abstract_command.AbstractCommand.{AbstractCommand}
use Rattle.debug_model.specs.declared.cmderr.Cmderr.{Cmderr}
use Rattle.debug_model.specs.declared.cmderr.Cmderr.TheVariants.{Fine, Busy, NotSupported, Exception, HaltResume}
use Rattle.debug_model.specs.declared.command_word.CommandWord.{CommandWord}
use Rattle.debug_model.specs.declared.command_word.CommandWord.TheVariants.{Data0, Data1, Progbuf0, Progbuf1, Progbuf2, Progbuf3}
use Rattle.debug_model.specs.declared.dmcontrol.Dmcontrol.{Dmcontrol}
use Rattle.debug_model.specs.declared.dmi_op.DmiOp.{DmiOp}
use Rattle.debug_model.specs.declared.dmi_op.DmiOp.TheVariants.{Read, Write}
use Rattle.debug_model.specs.declared.micro.Micro.{Micro}
use Rattle.debug_model.specs.declared.micro.Micro.TheVariants.{Transfer, Run}
use Rattle.debug_model.specs.declared.module_register.ModuleRegister.{ModuleRegister}
use Rattle.debug_model.specs.declared.module_register.ModuleRegister.TheVariants.{Word, Dmcontrol as dmcontrol, Dmstatus as dmstatus, Abstractcs, Command}
use Rattle.debug_model.specs.declared.module_register.ModuleRegister.TheVariants.{Abstractauto, Sbcs, Sbaddress0, Sbaddress1, Sbdata0, Sbdata1, Haltsum0}
use Rattle.debug_model.specs.declared.module_register.ModuleRegister.TheVariants.{Nothing}
use Rattle.debug_model.specs.Commands.{CommandUnit, Stepped, auto_started, abstractauto_written, abstractcs_written, busy, can_transfer, command_kept}
use Rattle.debug_model.specs.Commands.{command_written, is_auto, is_held, is_supported, is_under_way, micro_step, refusal, serves, start, start_unless}
use Rattle.debug_model.specs.Commands.{started_by, step_by, transferred, with_word, word_read, word_written}
use Rattle.debug_model.specs.Deeds.{command_stepped, stepped_by, turned_by}
use Rattle.debug_model.specs.Module.{DebugModule, Site, controlled_by, operated, read_by, register_at, write_by, written_by}
use Rattle.debug_model.specs.ModuleWords.{dmcontrol_of}
use Rattle.debug_model.specs.declared.point.Point.{Point}
use Rattle.dbg_module.specs.Sites.{site_of, bare_site}
use Rattle.dbg_module.specs.Served.{BusStepsServe, CommandStepsServe, IsServed, IsServedBy, OperationsServe, ResetIsServed, TurnsServe}

-- the same as a function
abbrev Holds : Site → Type 0
Holds s = busy s.unit.commands ≡ true → serves (slice_get s.board.harts s.unit.hartsel) ≡ true

-- ---- the start of a command

-- a unit that is busy has a hart that serves it
abbrev Serves : Option Hart → CommandUnit → Type 0
Serves hart u = busy u ≡ true → serves hart ≡ true

is_not : (b : Bool) → b ≡ false → b ≡ true → ⊥
is_not b f t = let e : false ≡ true = sym f ∙ t in cc

idle_serves : (hart : Option Hart) (u : CommandUnit) → busy u ≡ false → Serves hart u
idle_serves hart u idle is = absurd (is_not (busy u) idle is)

refusal_by : (supported serving can : Bool) → cond (not supported) NotSupported (cond (not serving) HaltResume (cond (not can) Exception Fine)) ≡ Fine
    → serving ≡ true
refusal_by true true can is = refl
refusal_by true false can is = cc
refusal_by false serving can is = cc

refusal_serves : (hart : Option Hart) (k : AbstractCommand) → refusal hart k ≡ Fine → serves hart ≡ true
unfolding refusal
refusal_serves hart k is = refusal_by (is_supported k) (serves hart) (can_transfer hart k) is

started_serves : (e : Cmderr) (hart : Option Hart) (u : CommandUnit) → busy u ≡ false → refusal hart u.command ≡ e → Serves hart (started_by e u)
started_serves Fine hart u idle is = λ _. refusal_serves hart u.command is
started_serves Busy hart u idle is = idle_serves hart u idle
started_serves NotSupported hart u idle is = idle_serves hart u idle
started_serves Exception hart u idle is = idle_serves hart u idle
started_serves HaltResume hart u idle is = idle_serves hart u idle

start_by_serves : (e : Cmderr) (hart : Option Hart) (u : CommandUnit) → busy u ≡ false → Serves hart (start_unless e hart u)
start_by_serves Fine hart u idle = started_serves (refusal hart u.command) hart u idle refl
start_by_serves Busy hart u idle = idle_serves hart u idle
start_by_serves NotSupported hart u idle = idle_serves hart u idle
start_by_serves Exception hart u idle = idle_serves hart u idle
start_by_serves HaltResume hart u idle = idle_serves hart u idle

start_serves : (hart : Option Hart) (u : CommandUnit) → busy u ≡ false → Serves hart (start hart u)
start_serves hart u idle = start_by_serves u.error hart u idle

-- ---- accesses to the registers

-- of a branch, by each arm
by_arms : (b : Bool) (hart : Option Hart) (u v : CommandUnit) → (b ≡ true → Serves hart u) → (b ≡ false → Serves hart v) → Serves hart (cond b u v)
by_arms true hart u v h k = h refl
by_arms false hart u v h k = k refl

auto_serves : (w : CommandWord) (hart : Option Hart) (u : CommandUnit) → busy u ≡ false → Serves hart (auto_started w hart u)
auto_serves w hart u idle = by_arms (is_auto w u.auto) hart (start hart u) u (λ _. start_serves hart u idle) (λ _. idle_serves hart u idle)

with_word_busy : (w : CommandWord) (v : ℕ) (u : CommandUnit) → busy (with_word w v u) ≡ busy u
with_word_busy Data0 v u = refl
with_word_busy Data1 v u = refl
with_word_busy Progbuf0 v u = refl
with_word_busy Progbuf1 v u = refl
with_word_busy Progbuf2 v u = refl
with_word_busy Progbuf3 v u = refl

word_read_serves : (w : CommandWord) (hart : Option Hart) (u : CommandUnit) → Serves hart u → Serves hart (word_read w hart u)
word_read_serves w hart u h = by_arms (busy u) hart _ _ (λ _. h) (λ idle. auto_serves w hart u idle)

word_written_serves : (w : CommandWord) (v : ℕ) (hart : Option Hart) (u : CommandUnit) → Serves hart u → Serves hart (word_written w v hart u)
word_written_serves w v hart u h = by_arms (busy u) hart _ _ (λ _. h) (λ idle. auto_serves w hart (with_word w v u) (with_word_busy w v u ∙ idle))

abstractcs_serves : (v : ℕ) (hart : Option Hart) (u : CommandUnit) → Serves hart u → Serves hart (abstractcs_written v u)
abstractcs_serves v hart u h = by_arms (busy u) hart _ _ (λ _. h) (λ idle. h)

abstractauto_serves : (v : ℕ) (hart : Option Hart) (u : CommandUnit) → Serves hart u → Serves hart (abstractauto_written v u)
abstractauto_serves v hart u h = by_arms (busy u) hart _ _ (λ _. h) (λ idle. h)

kept_serves : (e : Cmderr) (k : AbstractCommand) (hart : Option Hart) (u : CommandUnit) → busy u ≡ false → Serves hart (command_kept e k hart u)
kept_serves Fine k hart u idle = start_serves hart (record u { command = k }) idle
kept_serves Busy k hart u idle = idle_serves hart u idle
kept_serves NotSupported k hart u idle = idle_serves hart u idle
kept_serves Exception k hart u idle = idle_serves hart u idle
kept_serves HaltResume k hart u idle = idle_serves hart u idle

command_serves : (v : ℕ) (hart : Option Hart) (u : CommandUnit) → Serves hart u → Serves hart (command_written v hart u)
command_serves v hart u h = by_arms (busy u) hart _ _ (λ _. h) (λ idle. kept_serves u.error _ hart u idle)

-- ---- operations

read_serves : (r : ModuleRegister) (s : Site) → Holds s → Holds (read_by r s)
read_serves (Word w) s h = word_read_serves w (slice_get s.board.harts s.unit.hartsel) s.unit.commands h
read_serves dmcontrol s h = h
read_serves dmstatus s h = h
read_serves Abstractcs s h = h
read_serves Command s h = h
read_serves Abstractauto s h = h
read_serves Sbcs s h = h
read_serves Sbaddress0 s h = h
read_serves Sbaddress1 s h = h
read_serves Sbdata0 s h = h
read_serves Sbdata1 s h = h
read_serves Haltsum0 s h = h
read_serves Nothing s h = h

written_serves : (r : ModuleRegister) (v : ℕ) (s : Site) → Holds s → Holds (written_by r v s)
written_serves (Word w) v s h = word_written_serves w v (slice_get s.board.harts s.unit.hartsel) s.unit.commands h
written_serves dmcontrol v s h = h
written_serves dmstatus v s h = h
written_serves Abstractcs v s h = abstractcs_serves v (slice_get s.board.harts s.unit.hartsel) s.unit.commands h
written_serves Command v s h = command_serves v (slice_get s.board.harts s.unit.hartsel) s.unit.commands h
written_serves Abstractauto v s h = abstractauto_serves v (slice_get s.board.harts s.unit.hartsel) s.unit.commands h
written_serves Sbcs v s h = h
written_serves Sbaddress0 v s h = h
written_serves Sbaddress1 v s h = h
written_serves Sbdata0 v s h = h
written_serves Sbdata1 v s h = h
written_serves Haltsum0 v s h = h
written_serves Nothing v s h = h

site_by : (b : Bool) (s t : Site) → (b ≡ true → Holds s) → (b ≡ false → Holds t) → Holds (cond b s t)
site_by true s t h k = h refl
site_by false s t h k = k refl

controlled_serves : (active : Bool) (k : Dmcontrol) (s : Site) → Holds s → Holds (controlled_by active k s)
controlled_serves true k s h = site_by (busy s.unit.commands) s _ (λ _. h) (λ idle is. absurd (is_not (busy s.unit.commands) idle is))
controlled_serves false k s h = λ is. cc

write_serves : (r : ModuleRegister) (v : ℕ) (s : Site) → Holds s → Holds (write_by r v s)
write_serves dmcontrol v s h = controlled_serves (dmcontrol_of v).dmactive (dmcontrol_of v) s h
write_serves (Word w) v s h = site_by s.unit.active _ s (λ _. written_serves (Word w) v s h) (λ _. h)
write_serves dmstatus v s h = site_by s.unit.active _ s (λ _. h) (λ _. h)
write_serves Abstractcs v s h = site_by s.unit.active _ s (λ _. written_serves Abstractcs v s h) (λ _. h)
write_serves Command v s h = site_by s.unit.active _ s (λ _. written_serves Command v s h) (λ _. h)
write_serves Abstractauto v s h = site_by s.unit.active _ s (λ _. written_serves Abstractauto v s h) (λ _. h)
write_serves Sbcs v s h = site_by s.unit.active _ s (λ _. h) (λ _. h)
write_serves Sbaddress0 v s h = site_by s.unit.active _ s (λ _. h) (λ _. h)
write_serves Sbaddress1 v s h = site_by s.unit.active _ s (λ _. h) (λ _. h)
write_serves Sbdata0 v s h = site_by s.unit.active _ s (λ _. h) (λ _. h)
write_serves Sbdata1 v s h = site_by s.unit.active _ s (λ _. h) (λ _. h)
write_serves Haltsum0 v s h = site_by s.unit.active _ s (λ _. h) (λ _. h)
write_serves Nothing v s h = site_by s.unit.active _ s (λ _. h) (λ _. h)

operations_hold : (op : DmiOp) (s : Site) → Holds s → Holds (operated op s)
operations_hold (Read a) s h = site_by s.unit.active _ s (λ _. read_serves (register_at a) s h) (λ _. h)
operations_hold (Write a v) s h = write_serves (register_at a) v s h

pub operations_serve : OperationsServe
operations_serve op s h = record { held = operations_hold op s h.held }

pub reset_is_served : ResetIsServed
reset_is_served version hs = record { held = λ is. cc }

-- ---- micro steps

-- a hart that is held is so by these two fields alone
held_as : (x y : Hart) → SameRequests x.debug y.debug → serves (Some x) ≡ true → serves (Some y) ≡ true
held_as x y same h =
    ap (λ (o : Option Cause). serves (Some (record y { debug = record y.debug { halted = o } }))) same.halted
    ∙ ap (λ (r : Bool). serves (Some (record y { debug = record y.debug { halted = x.debug.halted; resume_request = r } }))) same.resume_request
    ∙ h

same_requests : (d : DebugPart) → SameRequests d d
same_requests d = record { version = refl; halted = refl; halt_request = refl; resume_request = refl; resume_ack = refl; have_reset = refl }

hart_by : (b : Bool) (x : Hart) (s t : Stepped) → SameRequests x.debug s.hart.debug → SameRequests x.debug t.hart.debug
    → SameRequests x.debug (cond b s t).hart.debug
hart_by true x s t h k = h
hart_by false x s t h k = k

transferred_keeps : (o : Option ℕ) (k : AbstractCommand) (rest : List Micro) (x : Hart) (m : Memory) (u : CommandUnit)
    → SameRequests x.debug (transferred o k rest x m u).hart.debug
transferred_keeps (Some v) k rest x m u = hart_by k.write x _ _ (writes_keep x k.regno _).requests (same_requests x.debug)
transferred_keeps None k rest x m u = same_requests x.debug

step_keeps : (steps : List Micro) (x : Hart) (m : Memory) (u : CommandUnit) → SameRequests x.debug (step_by steps x m u).hart.debug
step_keeps [] x m u = same_requests x.debug
step_keeps (Transfer k ∷ rest) x m u = transferred_keeps (debug_seen x m k.regno) k rest x m u
step_keeps (Run w ∷ rest) x m u = (words_keep w x m).hart.requests

micro_keeps : (x : Hart) (m : Memory) (u : CommandUnit) → SameRequests x.debug (micro_step x m u).hart.debug
unfolding micro_step
micro_keeps x m u = step_keeps u.steps x m u

some_serves : (o : Option Hart) (x : Hart) → o ≡ Some x → serves o ≡ true → serves (Some x) ≡ true
some_serves o x is h = sym (ap serves is) ∙ h

command_by : (steps : List Micro) (o : Option Hart) (s : Site) → s.unit.commands.steps ≡ steps → slice_get s.board.harts s.unit.hartsel ≡ o
    → Holds s → Holds (stepped_by steps o s)
command_by [] o s steps here h = h
command_by (m ∷ ms) None s steps here h = h
command_by (m ∷ ms) (Some x) s steps here h =
    let after : Stepped = micro_step x s.board.memory s.unit.commands in
    let now : busy s.unit.commands ≡ true = ap is_under_way steps in
    let held : serves (Some after.hart) ≡ true = held_as x after.hart (micro_keeps x s.board.memory s.unit.commands) (some_serves _ x here (h now)) in
    λ _. ap serves (slice_get-set_same s.board.harts s.unit.hartsel after.hart (slice_get_within s.board.harts s.unit.hartsel x here)) ∙ held

pub command_steps_serve : CommandStepsServe
command_steps_serve s h = record { held = command_by s.unit.commands.steps (slice_get s.board.harts s.unit.hartsel) s refl refl h.held }

pub bus_steps_serve : BusStepsServe
bus_steps_serve s h = record { held = h.held }

-- ---- turns

-- a hart that is held stays as it is in its turn
turn_held : (why : Option Cause) (resume : Bool) (x : Hart) (m : Memory) → x.debug.halted ≡ why → x.debug.resume_request ≡ resume
    → is_held why resume ≡ true → (place_of x m).hart ≡ x
unfolding place_of
turn_held (Some why) true x m halted resumes held = cc
turn_held (Some why) false x m halted resumes held =
    ap (λ (o : Option Cause). (place_by o x.debug.resume_request x.debug.halt_request (some_fires (touch_of x.core m) x) (stops_at_ebreak x m)
    (touch_of x.core m) (turn_outcome x m) x).hart) halted
    ∙ ap (λ (r : Bool). (place_by (Some why) r x.debug.halt_request (some_fires (touch_of x.core m) x) (stops_at_ebreak x m) (touch_of x.core m)
    (turn_outcome x m) x).hart) resumes
turn_held None resume x m halted resumes held = cc

-- the selected hart behind the turn of any hart
turn_serves : (hs : List Hart) (m : Memory) (h selected : ℕ) (x : Hart) → slice_get hs h ≡ Some x → serves (slice_get hs selected) ≡ true
    → serves (slice_get (set hs h (place_of x m).hart) selected) ≡ true
turn_serves hs m h selected x here held = elim (cases_eq selected h) [
  | inl same ↦
      let mine : slice_get hs selected ≡ Some x = ap (slice_get hs) same ∙ here in
      let stays : (place_of x m).hart ≡ x = turn_held x.debug.halted x.debug.resume_request x m refl refl (some_serves _ x mine held) in
      ap (λ k. serves (slice_get (set hs h (place_of x m).hart) k)) same
      ∙ ap serves (slice_get-set_same hs h (place_of x m).hart (slice_get_within hs h x here))
      ∙ ap (λ y. serves (Some y)) stays
      ∙ some_serves _ x mine held
  | inr other ↦ ap serves (slice_get-set_other hs h selected (place_of x m).hart other) ∙ held
]

turned_serves : (o : Option Hart) (h : ℕ) (s : Site) → slice_get s.board.harts h ≡ o → Holds s → Holds (turned_by o h s)
turned_serves None h s here served = served
turned_serves (Some x) h s here served = λ now. turn_serves s.board.harts s.board.memory h s.unit.hartsel x here (served now)

pub turns_serve : TurnsServe
turns_serve h s served = record { held = turned_serves (slice_get s.board.harts h) h s refl served.held }

-- ---- by module and harts

-- behind an operation that changes them so
pub operated_served : (op : DmiOp) (u u' : DebugModule) (hs hs' : List Hart) (ps : List Point)
    → operated op (bare_site u hs []) ≡ bare_site u' hs' ps → IsServedBy u hs → IsServedBy u' hs'
operated_served op u u' hs hs' ps is h =
    let after : IsServed (operated op (bare_site u hs [])) = operations_serve op (bare_site u hs []) (record { held = h.held }) in
    let there : IsServed (bare_site u' hs' ps) = subst IsServed is after in
    record { held = there.held }

-- behind a read of the register that stands at an address
pub read_served : (a : ℕ) (r : ModuleRegister) (u u' : DebugModule) (hs : List Hart) (ps : List Point) → r ≡ register_at a
    → cond u.active (read_by r (bare_site u hs [])) (bare_site u hs []) ≡ bare_site u' hs ps → IsServedBy u hs → IsServedBy u' hs
read_served a r u u' hs ps at is =
    operated_served (Read a) u u' hs hs ps (ap (λ q. cond u.active (read_by q (bare_site u hs [])) (bare_site u hs [])) (sym at) ∙ is)

-- and behind a write of it
pub write_served : (a v : ℕ) (r : ModuleRegister) (u u' : DebugModule) (hs hs' : List Hart) (ps : List Point) → r ≡ register_at a
    → write_by r v (bare_site u hs []) ≡ bare_site u' hs' ps → IsServedBy u hs → IsServedBy u' hs'
write_served a v r u u' hs hs' ps at is =
    operated_served (Write a v) u u' hs hs' ps (ap (λ q. write_by q v (bare_site u hs [])) (sym at) ∙ is)

-- behind a micro step that changes them so
pub stepped_served : (u u' : DebugModule) (hs hs' : List Hart) (m m' : Memory) (ps : List Point)
    → command_stepped (site_of u hs m []) ≡ site_of u' hs' m' ps → IsServedBy u hs → IsServedBy u' hs'
stepped_served u u' hs hs' m m' ps is h =
    let after : IsServed (command_stepped (site_of u hs m [])) = command_steps_serve (site_of u hs m []) (record { held = h.held }) in
    let there : IsServed (site_of u' hs' m' ps) = subst IsServed is after in
    record { held = there.held }
