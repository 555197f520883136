-- A chip between the operations of its opening: the unit of its debug module is a known one, and nothing is asked of its harts.
use Rattle.std.proofs.Common.{◌≡◌, ◌∙◌, ◌++◌, ℕ, List, [], ◌∷◌, None, refl, sym, ap, subst, append-nil, append_assoc}
use Rattle.debug_model.specs.declared.dmi_op.DmiOp.{DmiOp}
use Rattle.debug_model.specs.declared.point.Point.{Point}
use Rattle.debug_model.specs.declared.point.Point.TheVariants.{Look}
use Rattle.debug_model.specs.Course.{DeedsAlone, OneOperation}
use Rattle.debug_model.specs.Dmi.{SiteCut}
use Rattle.debug_model.specs.Dmi.SiteCut.{unperformed, was_performed}
use Rattle.debug_model.specs.Module.{DebugModule, Site, operated}
use Rattle.abstract_debugger.specs.Stands.{Cut, Pointed, WentOn}
use Rattle.abstract_debugger.specs.Turns.{after_turns, turns}
use Rattle.abstract_debugger.proofs.StandsLemmas.{after_turns-append, turns-append}
use Rattle.probe_run.specs.Happens.{target_of}
use Rattle.probe_run.specs.Sites.{IsQuiet, TurnsAlone, spun}
use Rattle.probe_run.proofs.Asking.{OnlyAt, Unasked, only_at_kept, unasked_kept}
use Rattle.probe_run.proofs.SiteLemmas.{AmidOperation, quiet_deeds, quiet_operation}
use Rattle.probe_run.proofs.Steps.{went_alone}
use Rattle.probe_run.proofs.Wide.{BoardWide, EachHart, each_turns, wide_turns}

pub record Fresh (u : DebugModule) (s : Site) : Type 0 where
  pub unit : s.unit ≡ u
  pub wide : BoardWide s.board
  pub harts : EachHart (OnlyAt 0 Unasked) s.board

abbrev pub QuietUnit : DebugModule → Type 0
QuietUnit u = (u.commands.steps ≡ []) × (u.bus.pending ≡ None)

fresh_quiet : (u : DebugModule) (s : Site) → QuietUnit u → s.unit ≡ u → IsQuiet s
fresh_quiet u s q is = record { no_command = ap (λ (m : DebugModule). m.commands.steps) is ∙ q.0; no_access = ap (λ (m : DebugModule). m.bus.pending) is ∙ q.1 }

fresh_spun : (u : DebugModule) (s : Site) (harts : List ℕ) → Fresh u s → Fresh u (spun harts s)
fresh_spun u s harts f = record {
  unit = f.unit;
  wide = wide_turns harts s.board f.wide;
  harts =
      each_turns (OnlyAt 0 Unasked) (only_at_kept 0 Unasked unasked_kept) harts s.board f.harts;
}

-- an operation that leaves this unit, and notes these points, which change no board
abbrev pub Turns : DmiOp → (u v : DebugModule) → List Point → Type 0
Turns op u v ps = (x : Site) → Fresh u x → operated op x ≡ record { unit = v; board = x.board; journal = x.journal ++ ps }

-- from one unit to the next
pub record Went (op : DmiOp) (result : ℕ) (v : DebugModule) (ps : List Point) (s t : Site) : Type 0 where
  pub fresh : Fresh v t
  pub amid : AmidOperation op result s t
  pub is : t ≡ spun amid.amid.behind (record { unit = v; board = after_turns amid.amid.before s.board; journal = (s.journal ++ turns amid.amid.before) ++ ps })

pub went : (op : DmiOp) (result : ℕ) (u v : DebugModule) (ps : List Point) (s t : Site) → QuietUnit u → QuietUnit v → Turns op u v ps → Fresh u s
    → OneOperation op result s t → Went op result v ps s t
went op result u v ps s t q q' leads f o =
    let a : AmidOperation op result s t = quiet_operation op result s t (fresh_quiet u s q f.unit)
    (λ harts. fresh_quiet v (operated op (spun harts s)) q' (ap (λ (x : Site). x.unit) (leads (spun harts s) (fresh_spun u s harts f)))) o in
    let now : Fresh u (spun a.amid.before s) = fresh_spun u s a.amid.before f in
    let m : Site = record { unit = v; board = after_turns a.amid.before s.board; journal = (s.journal ++ turns a.amid.before) ++ ps } in
    let at : Fresh v m = record { unit = refl; wide = now.wide; harts = now.harts } in
    let is : t ≡ spun a.amid.behind m = a.amid.is ∙ ap (spun a.amid.behind) (leads (spun a.amid.before s) now) in
    record { fresh = subst (λ x. Fresh v x) (sym is) (fresh_spun v m a.amid.behind at); amid = a; is = is }

-- no point: turns alone
pub went_on : (op : DmiOp) (result : ℕ) (v : DebugModule) (s t : Site) → Went op result v [] s t → WentOn (target_of s) (target_of t)
went_on op result v s t w = record {
  harts = w.amid.amid.before ++ w.amid.amid.behind;
  board = ap (λ (x : Site). x.board) w.is ∙ sym (after_turns-append w.amid.amid.before w.amid.amid.behind s.board);
  journal = ap (λ (x : Site). x.journal) w.is ∙ ap (λ (j : List Point). j ++ turns w.amid.amid.behind) (append-nil (s.journal ++ turns w.amid.amid.before))
      ∙ append_assoc s.journal (turns w.amid.amid.before) (turns w.amid.amid.behind)
      ∙ ap (λ (j : List Point). s.journal ++ j) (sym (turns-append w.amid.amid.before w.amid.amid.behind));
}

-- the Look
pub went_look : (op : DmiOp) (result : ℕ) (v : DebugModule) (s t : Site) → Went op result v (Look 0 ∷ []) s t → Pointed (Look 0) (target_of s) (target_of t)
went_look op result v s t w = record {
  before = w.amid.amid.before;
  behind = w.amid.amid.behind;
  board = ap (λ (x : Site). x.board) w.is;
  journal = ap (λ (x : Site). x.journal) w.is ∙ append_assoc (s.journal ++ turns w.amid.amid.before) (Look 0 ∷ []) (turns w.amid.amid.behind);
}

pub fresh_deeds : (u : DebugModule) (s t : Site) → QuietUnit u → Fresh u s → DeedsAlone s t → TurnsAlone s t
fresh_deeds u s t q f d = quiet_deeds s t (fresh_quiet u s q f.unit) d

pub fresh_along : (u : DebugModule) (s t : Site) → Fresh u s → TurnsAlone s t → Fresh u t
fresh_along u s t f a = subst (λ x. Fresh u x) (sym a.is) (fresh_spun u s a.harts f)

-- a fault in the course of an operation that notes nothing
pub cut_went : (op : DmiOp) (u v : DebugModule) (s t : Site) → QuietUnit u → QuietUnit v → Turns op u v [] → Fresh u s → SiteCut op s t
    → WentOn (target_of s) (target_of t)
cut_went op u v s t q q' leads f (unperformed d) = went_alone s t (fresh_deeds u s t q f d)
cut_went op u v s t q q' leads f (was_performed result o) = went_on op result v s t (went op result u v [] s t q q' leads f o)

pub cut_look : (op : DmiOp) (u v : DebugModule) (s t : Site) → QuietUnit u → QuietUnit v → Turns op u v (Look 0 ∷ []) → Fresh u s → SiteCut op s t
    → Cut (Look 0) (target_of s) (target_of t)
cut_look op u v s t q q' leads f (unperformed d) = Cut.before (went_alone s t (fresh_deeds u s t q f d))
cut_look op u v s t q q' leads f (was_performed result o) = Cut.behind (went_look op result v s t (went op result u v (Look 0 ∷ []) s t q q' leads f o))
