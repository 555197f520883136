-- What loading an ELF file leaves, by its own words.
use Rattle.std.proofs.Common.{◌≡◌, ◌∙◌, true, List, [], ◌∷◌, ◌++◌, map, length, Option, Some, option_map, Ok, Err, slice_get, refl}
use Rattle.std.proofs.Common.{sym, ap, append_assoc, append-nil}
use Rattle.std.proofs.lemmas.Option.{slice_get-map}
use Rattle.rv_model.specs.Size.{count_of}
use Rattle.debug_model.specs.Module.{Site}
use Rattle.debug_model.specs.Scan.{WhereTold}
use Rattle.debug_model.specs.Told.{Far, site_of}
use Rattle.probe_run.specs.Happens.{target_of}
use Rattle.probe_access.specs.declared.fault.AccessFault.{AccessFault}
use Rattle.probe_access.specs.declared.fault.AccessFault.TheVariants as fault
use Rattle.probe_access.specs.Cuts.{BusLeftOff, IfCut, Leaves, StoreLeaves}
use Rattle.elf_load.specs.declared.element.Element.{Element}
use Rattle.elf_load.specs.Elf.{elements}
use Rattle.elf_load.specs.Stores.{RefusedAt, StoredAll, StoredAt, StoresCut, StoresLeft}
use Rattle.left_laws.specs.Left.{IsStored, Scope}
use Rattle.left_laws.specs.Left.Spared.{Nothing}
use Rattle.left_laws.specs.ElfLaws.{LoadElfLeaves, block_of, storing_each}
use Rattle.left_laws.proofs.AccessLemmas.{one_element}
use Rattle.left_laws.proofs.BusLemmas.{broke, read_led}
use Rattle.left_laws.proofs.Leads.{Led, led_stays, led_then, led_turns}
use Rattle.left_laws.proofs.Puts.{led_store}
use Rattle.left_laws.proofs.SiteLeads.{Left, behind_access, told_left, untold_left, whole}

-- ---- an element among the others

at_front : (done : List Element) (e : Element) (rest : List Element) → slice_get (done ++ e ∷ rest) (length done) ≡ Some e
at_front [] e rest = refl
at_front (x ∷ done) e rest = at_front done e rest

listed : (all done : List Element) (e : Element) (rest : List Element) → done ++ e ∷ rest ≡ all
    → IsStored (map block_of all) e.address (count_of e.size) e.value
listed all done e rest parts = record {
  place = length done;
  block = block_of e;
  listed = slice_get-map block_of all (length done)
      ∙ ap (option_map block_of) (ap (λ (es : List Element). slice_get es (length done)) (sym parts) ∙ at_front done e rest);
  element = one_element e.size e.address e.value;
}

each_led : (all : List Element) (a : Site) (done : List Element) (b : Site) (rest : List Element) → StoredAll a done b → done ++ rest ≡ all
    → Led (storing_each all) (target_of a) (target_of b)
each_led all a done b rest StoredAll.nothing parts = led_stays (storing_each all) (target_of a)
each_led all a done b rest (StoredAll.further es e m t each one) parts =
    let s : Scope = storing_each all in
    let front : es ++ e ∷ rest ≡ all = sym (append_assoc es (e ∷ []) rest) ∙ parts in
    led_then s (target_of a) (target_of m) (target_of t) (each_led all a es m (e ∷ rest) each front)
    (led_store s e.size e.address e.value one.before one.behind (target_of m) (target_of t) refl (listed all es e rest front) one.access.board
    one.access.journal)

off_led : (s : Scope) (e : Element) (a b : Site) → s.accesses ≡ true → IsStored s.stores e.address (count_of e.size) e.value
    → BusLeftOff (StoreLeaves e.size e.address e.value) a b → Led s (target_of a) (target_of b)
off_led s e a b may is (BusLeftOff.before_it l) = led_turns s l.harts (target_of a) (target_of b) l.board l.journal
off_led s e a b may is (BusLeftOff.behind_it l) =
    led_store s e.size e.address e.value l.before l.behind (target_of a) (target_of b) may is
    (l.board ∙ ap (λ n. (behind_access l.before l.behind n a).board) l.made) l.journal

-- ---- of a told chip

cut_led : (all : List Element) (a b : Site) → StoresCut all a b → Led (storing_each all) (target_of a) (target_of b)
cut_led all a b c =
    led_then (storing_each all) (target_of a) (target_of c.mid) (target_of b) (each_led all a c.done c.mid (c.next ∷ c.within.rest) c.each c.within.parts)
    (off_led (storing_each all) c.next c.mid b refl (listed all c.done c.next c.within.rest c.within.parts) c.left)

refused : (all done : List Element) (next : Element) (rest : List Element) (x y : Option Far) → done ++ next ∷ rest ≡ all
    → WhereTold (RefusedAt done next) x y → Left (storing_each all) Nothing x y
refused all done next rest x y parts w =
    told_left (storing_each all) Nothing (RefusedAt done next) x y
    (λ f is r. whole (storing_each all) f r.far y r.is
    (led_then (storing_each all) (target_of (site_of f)) (target_of r.mid) (target_of (site_of r.far))
    (each_led all (site_of f) done r.mid (next ∷ rest) r.each parts)
    (read_led (storing_each all) r.refused.before r.refused.behind r.mid (site_of r.far) refl r.refused.access))) w

kept : (all : List Element) (x y : Option Far) (e : AccessFault) → StoresLeft all x y e → IfCut (Leaves (StoresCut all) x y) e
    → Left (storing_each all) Nothing x y
kept all x y (fault.Dmi why) left cut = broke (storing_each all) (StoresCut all) x y (cut_led all) cut
kept all x y (fault.Memory at) left cut = refused all left.done left.next left.within.rest x y left.within.parts left.refused
kept all x y (fault.Register number) left cut = untold_left (storing_each all) Nothing x y left
kept all x y fault.StillBusy left cut = broke (storing_each all) (StoresCut all) x y (cut_led all) cut
kept all x y (fault.Run why) left cut = absurd left
kept all x y (fault.Odd shown) left cut = untold_left (storing_each all) Nothing x y left

pub load_elf_leaves : LoadElfLeaves
load_elf_leaves file old new (Ok size) stored left cut =
    let all : List Element = elements file in
    told_left (storing_each all) Nothing (StoredAt all) old.far new.far
    (λ f is r. whole (storing_each all) f r.far new.far r.is
    (each_led all (site_of f) all (site_of r.far) [] r.each (append-nil all))) stored
load_elf_leaves file old new (Err e) stored left cut = kept (elements file) old.far new.far e left cut
