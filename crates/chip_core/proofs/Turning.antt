-- A hart's turn on a chip: what the code does to one hart of the list is the definition's turn, and the module stays served.
use Rattle.std.proofs.Common.{◌≡◌, ℕ, ◌≤◌, List, [], ◌∷◌, ◌++◌, length, set, Some, sym, ap, subst, ◌∙◌, slice_get}
use Rattle.std.proofs.lemmas.Option.{slice_get_past}
use Rattle.rv_model.specs.Board.{Hart}
use Rattle.rv_model.specs.Memory.{Memory}
use Rattle.rv_model.specs.Turn.{memory_after, place_of}
use Rattle.debug_model.specs.declared.point.Point.{Point}
use Rattle.debug_model.specs.declared.point.Point.TheVariants.{Turn}
use Rattle.debug_model.specs.Deeds.{turned, turned_by}
use Rattle.debug_model.specs.Module.{DebugModule}
use Rattle.dbg_module.specs.Served.{IsServed, IsServedBy, TurnsServe}
use Rattle.dbg_module.specs.Sites.{site_of}
use Rattle.chip_core.specs.Parts.{Parts, with_site}

-- of the hart that is there
pub turned_here : (u : DebugModule) (hs : List Hart) (m m' : Memory) (j j' : List Point) (h : ℕ) (hart hart' : Hart)
    → slice_get hs h ≡ Some hart → hart' ≡ (place_of hart m).hart → m' ≡ memory_after hart m → j' ≡ j ++ Turn h ∷ []
    → site_of u (set hs h hart') m' j' ≡ turned h (site_of u hs m j)
turned_here u hs m m' j j' h hart hart' here place memory points =
    ap (λ x. site_of u (set hs h x) m' j') place
    ∙ ap (λ x. site_of u (set hs h (place_of hart m).hart) x j') memory
    ∙ ap (λ x. site_of u (set hs h (place_of hart m).hart) (memory_after hart m) x) points
    ∙ ap (λ o. turned_by o h (site_of u hs m j)) (sym here)

pub turn_served : TurnsServe → (u : DebugModule) (hs : List Hart) (m : Memory) (h : ℕ) (hart hart' : Hart)
    → slice_get hs h ≡ Some hart → hart' ≡ (place_of hart m).hart → IsServedBy u hs → IsServedBy u (set hs h hart')
turn_served law u hs m h hart hart' here place served =
    let after : IsServed (turned h (site_of u hs m [])) = law h (site_of u hs m []) (record { held = served.held }) in
    let there : IsServed (turned_by (Some hart) h (site_of u hs m [])) = subst (λ o. IsServed (turned_by o h (site_of u hs m []))) here after in
    rw place (record { held = there.held })

-- where no such hart is there
pub turned_nowhere : (p : Parts) (h : ℕ) → length p.works.site.board.harts ≤ h → p ≡ with_site (turned h p.works.site) p
turned_nowhere p h past = ap (λ o. with_site (turned_by o h p.works.site) p) (sym (slice_get_past p.works.site.board.harts h past))
