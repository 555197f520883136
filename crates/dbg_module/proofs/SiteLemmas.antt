-- An operation does the same whatever memory is and whatever the journal had: it changes module and harts, and appends to the journal.
use Rattle.std.proofs.Common.{◌≡◌, ℕ, ◌<◌, Bool, true, false, List, [], ◌∷◌, ◌++◌, length, set, set-set, Option, Some, None, slice_get, refl, sym, ap, ◌∙◌}
use Rattle.std.proofs.Common.{append-nil, cond, not}
use Rattle.std.proofs.lemmas.Option.{slice_get_within}
use Rattle.rv_model.specs.Board.{Board, DebugPart, Hart}
use Rattle.rv_model.specs.Memory.{Memory}
use Rattle.rv_model.proofs.MapLemmas.{slice_get-set_same, set_same}
use Rattle.debug_model.specs.declared.dmcontrol.Dmcontrol.{Dmcontrol}
use Rattle.debug_model.specs.declared.dmi_op.DmiOp.{DmiOp}
use Rattle.debug_model.specs.declared.dmi_op.DmiOp.TheVariants.{Read, Write}
use Rattle.debug_model.specs.declared.module_register.ModuleRegister.{ModuleRegister}
use Rattle.debug_model.specs.declared.module_register.ModuleRegister.TheVariants.{Word, Dmcontrol as dmcontrol, Dmstatus as dmstatus, Abstractcs, Command}
use Rattle.debug_model.specs.declared.module_register.ModuleRegister.TheVariants.{Abstractauto, Sbcs, Sbaddress0, Sbaddress1, Sbdata0, Sbdata1, Haltsum0}
use Rattle.debug_model.specs.declared.module_register.ModuleRegister.TheVariants.{Nothing}
use Rattle.debug_model.specs.declared.point.Point.{Point}
use Rattle.debug_model.specs.Commands.{busy}
use Rattle.debug_model.specs.Journal.{after_journal, after_point, debug_changed, debug_changed_by, halt_requested, resume_asked, with_debug}
use Rattle.debug_model.specs.Module.{DebugModule, Site, register_at, operated, operation_result, read_by, write_by, written_by, result_by, controlled_by}
use Rattle.debug_model.specs.Module.{acknowledged, asked, control_points, halt_points, resume_points, reset_known}
use Rattle.debug_model.specs.ModuleWords.{dmcontrol_of}
use Rattle.dbg_module.specs.Requests.{halt_asked, resume_asked_unless, harts_requested}
use Rattle.dbg_module.specs.Sites.{site_of, bare_site}

-- ---- what is asked of the selected hart

abbrev board_of : List Hart → Memory → Board
board_of hs m = record { harts = hs; memory = m }

-- a change of a hart that was just written
changed_again : (change : DebugPart → DebugPart) (h : ℕ) (hs : List Hart) (m : Memory) (x : Hart) → h < length hs
    → debug_changed change h (board_of (set hs h x) m) ≡ board_of (set hs h (with_debug change x)) m
changed_again change h hs m x inside =
    ap (λ o. debug_changed_by o change h (board_of (set hs h x) m)) (slice_get-set_same hs h x inside)
    ∙ ap (λ xs. board_of xs m) (set-set hs h x (with_debug change x))

halt_noted : (a w : Bool) (h : ℕ) (hs : List Hart) (m : Memory) (x : Hart) → h < length hs
    → after_journal (halt_points a w h) (board_of (set hs h x) m) ≡ board_of (set hs h (with_debug (halt_asked a w) x)) m
halt_noted true w h hs m x inside = changed_again (halt_requested true) h hs m x inside
halt_noted false true h hs m x inside = changed_again (halt_requested false) h hs m x inside
halt_noted false false h hs m x inside = refl

resume_noted : (a r : Bool) (h : ℕ) (hs : List Hart) (m : Memory) (x : Hart) → h < length hs
    → after_journal (resume_points a r h) (board_of (set hs h x) m) ≡ board_of (set hs h (with_debug (resume_asked_unless a r) x)) m
resume_noted true r h hs m x inside = refl
resume_noted false true h hs m x inside = changed_again resume_asked h hs m x inside
resume_noted false false h hs m x inside = refl

after_journal-append : (ps qs : List Point) (b : Board) → after_journal (ps ++ qs) b ≡ after_journal qs (after_journal ps b)
after_journal-append [] qs b = refl
after_journal-append (p ∷ ps) qs b = after_journal-append ps qs (after_point p b)

-- the harts behind a write of dmcontrol
pub harts_asked : (k : Dmcontrol) (hs : List Hart) (m : Memory) (o : Option Hart) → slice_get hs k.hartsello ≡ o
    → debug_changed (reset_known k.ackhavereset) k.hartsello (after_journal (control_points k o) (board_of hs m)) ≡ board_of (harts_requested k o hs) m
harts_asked k hs m None here = ap (λ o. debug_changed_by o (reset_known k.ackhavereset) k.hartsello (board_of hs m)) here
harts_asked k hs m (Some hart) here =
    let h : ℕ = k.hartsello in
    let inside : h < length hs = slice_get_within hs h hart here in
    let halts : List Point = halt_points k.haltreq hart.debug.halt_request h in
    let resumes : List Point = resume_points k.haltreq k.resumereq h in
    let known : Board → Board = debug_changed (reset_known k.ackhavereset) h in
    let first : Hart = with_debug (halt_asked k.haltreq hart.debug.halt_request) hart in
    let second : Hart = with_debug (resume_asked_unless k.haltreq k.resumereq) first in
    ap known (
    after_journal-append halts resumes (board_of hs m)
    ∙ ap (λ xs. after_journal resumes (after_journal halts (board_of xs m))) (sym (set_same hs h hart here))
    ∙ ap (after_journal resumes) (halt_noted k.haltreq hart.debug.halt_request h hs m hart inside)
    ∙ resume_noted k.haltreq k.resumereq h hs m first inside
    )
    ∙ changed_again (reset_known k.ackhavereset) h hs m second inside

-- ---- wherever it happens

-- the same with another memory, behind another journal
abbrev moved_to : Memory → List Point → Site → Site
moved_to m j s = site_of s.unit s.board.harts m (j ++ s.journal)

quiet : (u : DebugModule) (hs : List Hart) (m : Memory) (j : List Point) → site_of u hs m j ≡ site_of u hs m (j ++ [])
quiet u hs m j = ap (site_of u hs m) (sym (append-nil j))

read_anywhere : (r : ModuleRegister) (u : DebugModule) (hs : List Hart) (m : Memory) (j : List Point)
    → read_by r (site_of u hs m j) ≡ moved_to m j (read_by r (bare_site u hs []))
read_anywhere (Word w) u hs m j = quiet _ hs m j
read_anywhere dmcontrol u hs m j = quiet u hs m j
read_anywhere dmstatus u hs m j = refl
read_anywhere Abstractcs u hs m j = quiet u hs m j
read_anywhere Command u hs m j = quiet u hs m j
read_anywhere Abstractauto u hs m j = quiet u hs m j
read_anywhere Sbcs u hs m j = quiet u hs m j
read_anywhere Sbaddress0 u hs m j = quiet _ hs m j
read_anywhere Sbaddress1 u hs m j = quiet _ hs m j
read_anywhere Sbdata0 u hs m j = quiet _ hs m j
read_anywhere Sbdata1 u hs m j = quiet _ hs m j
read_anywhere Haltsum0 u hs m j = quiet u hs m j
read_anywhere Nothing u hs m j = quiet u hs m j

written_anywhere : (r : ModuleRegister) (v : ℕ) (u : DebugModule) (hs : List Hart) (m : Memory) (j : List Point)
    → written_by r v (site_of u hs m j) ≡ moved_to m j (written_by r v (bare_site u hs []))
written_anywhere (Word w) v u hs m j = quiet _ hs m j
written_anywhere dmcontrol v u hs m j = quiet u hs m j
written_anywhere dmstatus v u hs m j = quiet u hs m j
written_anywhere Abstractcs v u hs m j = quiet _ hs m j
written_anywhere Command v u hs m j = quiet _ hs m j
written_anywhere Abstractauto v u hs m j = quiet _ hs m j
written_anywhere Sbcs v u hs m j = quiet _ hs m j
written_anywhere Sbaddress0 v u hs m j = quiet _ hs m j
written_anywhere Sbaddress1 v u hs m j = quiet _ hs m j
written_anywhere Sbdata0 v u hs m j = quiet _ hs m j
written_anywhere Sbdata1 v u hs m j = quiet _ hs m j
written_anywhere Haltsum0 v u hs m j = quiet u hs m j
written_anywhere Nothing v u hs m j = quiet u hs m j

-- a branch of which each arm does the same wherever it happens
either : (b : Bool) (s t s' t' : Site) (m : Memory) (j : List Point) → s ≡ moved_to m j s' → t ≡ moved_to m j t'
    → cond b s t ≡ moved_to m j (cond b s' t')
either true s t s' t' m j here there = here
either false s t s' t' m j here there = there

-- a module that is told so works with this hart selected
abbrev pub selecting : Dmcontrol → DebugModule → DebugModule
selecting k u = record u { active = true; hartsel = k.hartsello }

pub asked_at : (k : Dmcontrol) (u : DebugModule) (hs : List Hart) (m : Memory) (j : List Point)
    → acknowledged k (asked k (site_of u hs m j)) ≡ site_of (selecting k u) (harts_requested k (slice_get hs k.hartsello) hs) m
    (j ++ control_points k (slice_get hs k.hartsello))
asked_at k u hs m j =
    ap (λ (b : Board). let s : Site = record { unit = selecting k u; board = b; journal = j ++ control_points k (slice_get hs k.hartsello) } in s)
    (harts_asked k hs m (slice_get hs k.hartsello) refl)

not_not : (b : Bool) → not b ≡ false → b ≡ true
not_not true is = refl
not_not false is = cc

-- a write of dmcontrol that keeps the module working
pub control_asked : (k : Dmcontrol) (u : DebugModule) (hs hs' : List Hart) (ps : List Point) → not k.dmactive ≡ false → busy u.commands ≡ false
    → hs' ≡ harts_requested k (slice_get hs k.hartsello) hs → ps ≡ control_points k (slice_get hs k.hartsello)
    → controlled_by k.dmactive k (bare_site u hs []) ≡ bare_site (selecting k u) hs' ps
control_asked k u hs hs' ps active idle harts points =
    ap (λ b. controlled_by b k (bare_site u hs [])) (not_not k.dmactive active)
    ∙ ap (λ b. cond b (bare_site u hs []) (acknowledged k (asked k (bare_site u hs [])))) idle
    ∙ asked_at k u hs _ []
    ∙ sym (ap (λ qs. bare_site (selecting k u) (harts_requested k (slice_get hs k.hartsello) hs) qs) points)
    ∙ sym (ap (λ xs. bare_site (selecting k u) xs ps) harts)

controlled_anywhere : (active : Bool) (k : Dmcontrol) (u : DebugModule) (hs : List Hart) (m : Memory) (j : List Point)
    → controlled_by active k (site_of u hs m j) ≡ moved_to m j (controlled_by active k (bare_site u hs []))
controlled_anywhere true k u hs m j =
    either (busy u.commands) _ _ _ _ m j (quiet u hs m j)
    (asked_at k u hs m j ∙ sym (ap (moved_to m j) (asked_at k u hs _ [])))
controlled_anywhere false k u hs m j = quiet _ hs m j

write_anywhere : (r : ModuleRegister) (v : ℕ) (u : DebugModule) (hs : List Hart) (m : Memory) (j : List Point)
    → write_by r v (site_of u hs m j) ≡ moved_to m j (write_by r v (bare_site u hs []))
write_anywhere dmcontrol v u hs m j = controlled_anywhere (dmcontrol_of v).dmactive (dmcontrol_of v) u hs m j
write_anywhere (Word w) v u hs m j = either u.active _ _ _ _ m j (written_anywhere (Word w) v u hs m j) (quiet u hs m j)
write_anywhere dmstatus v u hs m j = either u.active _ _ _ _ m j (quiet u hs m j) (quiet u hs m j)
write_anywhere Abstractcs v u hs m j = either u.active _ _ _ _ m j (written_anywhere Abstractcs v u hs m j) (quiet u hs m j)
write_anywhere Command v u hs m j = either u.active _ _ _ _ m j (written_anywhere Command v u hs m j) (quiet u hs m j)
write_anywhere Abstractauto v u hs m j = either u.active _ _ _ _ m j (written_anywhere Abstractauto v u hs m j) (quiet u hs m j)
write_anywhere Sbcs v u hs m j = either u.active _ _ _ _ m j (written_anywhere Sbcs v u hs m j) (quiet u hs m j)
write_anywhere Sbaddress0 v u hs m j = either u.active _ _ _ _ m j (written_anywhere Sbaddress0 v u hs m j) (quiet u hs m j)
write_anywhere Sbaddress1 v u hs m j = either u.active _ _ _ _ m j (written_anywhere Sbaddress1 v u hs m j) (quiet u hs m j)
write_anywhere Sbdata0 v u hs m j = either u.active _ _ _ _ m j (written_anywhere Sbdata0 v u hs m j) (quiet u hs m j)
write_anywhere Sbdata1 v u hs m j = either u.active _ _ _ _ m j (written_anywhere Sbdata1 v u hs m j) (quiet u hs m j)
write_anywhere Haltsum0 v u hs m j = either u.active _ _ _ _ m j (quiet u hs m j) (quiet u hs m j)
write_anywhere Nothing v u hs m j = either u.active _ _ _ _ m j (quiet u hs m j) (quiet u hs m j)

pub operated_anywhere : (op : DmiOp) (u : DebugModule) (hs : List Hart) (m : Memory) (j : List Point)
    → operated op (site_of u hs m j) ≡ moved_to m j (operated op (bare_site u hs []))
operated_anywhere (Read a) u hs m j = either u.active _ _ _ _ m j (read_anywhere (register_at a) u hs m j) (quiet u hs m j)
operated_anywhere (Write a v) u hs m j = write_anywhere (register_at a) v u hs m j

-- the same by what it does to module and harts
pub operated_from : (op : DmiOp) (u u' : DebugModule) (hs hs' : List Hart) (ps : List Point) (m : Memory) (j : List Point)
    → operated op (bare_site u hs []) ≡ bare_site u' hs' ps → operated op (site_of u hs m j) ≡ site_of u' hs' m (j ++ ps)
operated_from op u u' hs hs' ps m j is = operated_anywhere op u hs m j ∙ ap (moved_to m j) is

result_by_anywhere : (active : Bool) (r : ModuleRegister) (u : DebugModule) (hs : List Hart) (m : Memory) (j : List Point)
    → result_by active r (site_of u hs m j) ≡ result_by active r (bare_site u hs [])
result_by_anywhere true (Word w) u hs m j = refl
result_by_anywhere true dmcontrol u hs m j = refl
result_by_anywhere true dmstatus u hs m j = refl
result_by_anywhere true Abstractcs u hs m j = refl
result_by_anywhere true Command u hs m j = refl
result_by_anywhere true Abstractauto u hs m j = refl
result_by_anywhere true Sbcs u hs m j = refl
result_by_anywhere true Sbaddress0 u hs m j = refl
result_by_anywhere true Sbaddress1 u hs m j = refl
result_by_anywhere true Sbdata0 u hs m j = refl
result_by_anywhere true Sbdata1 u hs m j = refl
result_by_anywhere true Haltsum0 u hs m j = refl
result_by_anywhere true Nothing u hs m j = refl
result_by_anywhere false dmcontrol u hs m j = refl
result_by_anywhere false (Word w) u hs m j = refl
result_by_anywhere false dmstatus u hs m j = refl
result_by_anywhere false Abstractcs u hs m j = refl
result_by_anywhere false Command u hs m j = refl
result_by_anywhere false Abstractauto u hs m j = refl
result_by_anywhere false Sbcs u hs m j = refl
result_by_anywhere false Sbaddress0 u hs m j = refl
result_by_anywhere false Sbaddress1 u hs m j = refl
result_by_anywhere false Sbdata0 u hs m j = refl
result_by_anywhere false Sbdata1 u hs m j = refl
result_by_anywhere false Haltsum0 u hs m j = refl
result_by_anywhere false Nothing u hs m j = refl

pub result_anywhere : (op : DmiOp) (u : DebugModule) (hs : List Hart) (m : Memory) (j : List Point)
    → operation_result op (site_of u hs m j) ≡ operation_result op (bare_site u hs [])
result_anywhere (Read a) u hs m j = result_by_anywhere u.active (register_at a) u hs m j
result_anywhere (Write a v) u hs m j = refl
