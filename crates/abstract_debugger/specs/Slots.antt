-- What a debugger makes of a hart's trigger slots: arming and freeing one, and holding those with a hit while it steps over them.
-- RISC-V Debug Specification 1.0, "Sdtrig (ISA Extension)"; the values that arming writes and the choice of the lowest free slot are this project's own.
use Rattle.std.specs.Prelude.{ℕ, zero, suc, Bool, true, false, not, ◌&&◌, ◌||◌, List, [], ◌∷◌, map, Option, Some, None, option_map, slice_get, if◌then◌else◌}
use Rattle.std.specs.List.{list_any}
use Rattle.rv_model.specs.declared.slot.Comparison.{Comparison}
use Rattle.rv_model.specs.declared.slot.Comparison.TheVariants.{Equal, AtLeast, Below}
use Rattle.rv_model.specs.declared.slot.Mcontrol6.{Mcontrol6}
use Rattle.rv_model.specs.declared.slot.Slot.{Slot}
use Rattle.rv_model.specs.declared.slot.Trigger.{Trigger}
use Rattle.rv_model.specs.declared.slot.Trigger.TheVariants as kind
use Rattle.rv_model.specs.declared.version.Version.{Version}
use Rattle.rv_model.specs.Board.{Board, DebugPart, Hart}
use Rattle.rv_model.specs.TriggerWords.{tdata1_of}
use Rattle.debug_model.specs.declared.command.WatchKind.{WatchKind}
use Rattle.debug_model.specs.declared.command.WatchKind.TheVariants.{Load, Store, Access}
use Rattle.abstract_debugger.specs.Trace.{What}
use Rattle.abstract_debugger.specs.Trace.What.{Break, Watch, Count}

-- ---- one trigger

abbrev pub trigger_has_hit : Trigger → Bool
trigger_has_hit (kind.Mcontrol6 t) = t.hit
trigger_has_hit (kind.Icount t) = t.hit
trigger_has_hit kind.Disabled = false

-- off, where it has a hit
abbrev pub trigger_held : Trigger → Trigger
trigger_held (kind.Mcontrol6 t) = kind.Mcontrol6 (record t { m = t.m && not t.hit })
trigger_held (kind.Icount t) = kind.Icount (record t { m = t.m && not t.hit })
trigger_held kind.Disabled = kind.Disabled

-- on again, where it has a hit
abbrev pub trigger_back : Trigger → Trigger
trigger_back (kind.Mcontrol6 t) = kind.Mcontrol6 (record t { m = t.m || t.hit })
trigger_back (kind.Icount t) = kind.Icount (record t { m = t.m || t.hit })
trigger_back kind.Disabled = kind.Disabled

abbrev pub trigger_forgotten : Trigger → Trigger
trigger_forgotten (kind.Mcontrol6 t) = kind.Mcontrol6 (record t { hit = false })
trigger_forgotten (kind.Icount t) = kind.Icount (record t { hit = false })
trigger_forgotten kind.Disabled = kind.Disabled

abbrev pub is_free : Trigger → Bool
is_free (kind.Mcontrol6 t) = false
is_free (kind.Icount t) = false
is_free kind.Disabled = true

-- ---- one slot

abbrev pub with_trigger : (Trigger → Trigger) → Slot → Slot
with_trigger change s = record s { trigger = change s.trigger }

abbrev pub address_trigger : Bool → Bool → Bool → Trigger
address_trigger execute load store =
    kind.Mcontrol6 (record { hit = false; comparison = Equal; m = true; execute = execute; store = store; load = load })

abbrev pub watch_trigger : WatchKind → Trigger
watch_trigger Load = address_trigger false true false
watch_trigger Store = address_trigger false false true
watch_trigger Access = address_trigger false true true

abbrev pub count_trigger : ℕ → Trigger
count_trigger turns = kind.Icount (record { hit = false; count = turns; m = true; pending = false })

-- a slot armed; a count leaves tdata2 as it was
abbrev pub armed_for : What → Slot → Slot
armed_for (Break address) s = record { trigger = address_trigger true false false; tdata2 = address }
armed_for (Watch watched address) s = record { trigger = watch_trigger watched; tdata2 = address }
armed_for (Count turns) s = record s { trigger = count_trigger turns }

-- a slot freed; tdata2 stays as it was
abbrev pub freed : Slot → Slot
freed s = record s { trigger = kind.Disabled }

-- ---- the slots of a hart, by place

-- f at one place of a list, where it has that place
abbrev pub over : {A : Type 0} → ℕ → (A → A) → List A → List A
over place f [] = []
over zero f (x ∷ xs) = f x ∷ xs
over (suc place) f (x ∷ xs) = x ∷ over place f xs

abbrev pub slots_held : List Slot → List Slot
slots_held slots = map (with_trigger trigger_held) slots

abbrev pub slots_back : List Slot → List Slot
slots_back slots = map (with_trigger trigger_back) slots

abbrev pub hits_forgotten : List Slot → List Slot
hits_forgotten slots = map (with_trigger trigger_forgotten) slots

-- by place, whether the slot has a hit
abbrev pub hits_of : List Slot → List Bool
hits_of slots = map (λ (s : Slot). trigger_has_hit s.trigger) slots

abbrev pub any_hit : List Slot → Bool
any_hit slots = list_any (λ b. b) (hits_of slots)

abbrev pub first_free : List Slot → Option ℕ
first_free [] = None
first_free (s ∷ slots) = if is_free s.trigger then Some 0 else option_map suc (first_free slots)

abbrev pub slots_here : Option Hart → List Slot
slots_here (Some hart) = hart.debug.slots
slots_here None = []

-- the slots of hart h, none where there is no such hart
abbrev pub slots_at : ℕ → Board → List Slot
slots_at h b = slots_here (slice_get b.harts h)

abbrev pub with_slots : (List Slot → List Slot) → DebugPart → DebugPart
with_slots change d = record d { slots = change d.slots }

-- ---- what a slot is used for, as it is printed

pub data Use : Type 0 where
  Armed : (what : What) → Use  -- for a count: with the turns that are left
  Unused : Use
  Other : (tdata1 : ℕ) → Use  -- nothing that a script arms

-- by: m, execute, load, store of a comparison for equality
abbrev pub use_by : Bool → Bool → Bool → Bool → ℕ → ℕ → Use
use_by true true false false tdata1 address = Armed (Break address)
use_by true false true false tdata1 address = Armed (Watch Load address)
use_by true false false true tdata1 address = Armed (Watch Store address)
use_by true false true true tdata1 address = Armed (Watch Access address)
use_by _ _ _ _ tdata1 address = Other tdata1

abbrev pub address_use : Comparison → Mcontrol6 → ℕ → ℕ → Use
address_use Equal t tdata1 address = use_by t.m t.execute t.load t.store tdata1 address
address_use AtLeast t tdata1 address = Other tdata1
address_use Below t tdata1 address = Other tdata1

-- of a chip of a release: what no script arms is shown as tdata1 reads
abbrev pub trigger_use : Version → Trigger → ℕ → Use
trigger_use version (kind.Mcontrol6 t) tdata2 = address_use t.comparison t (tdata1_of version (kind.Mcontrol6 t)) tdata2
trigger_use version (kind.Icount t) tdata2 = if t.m then Armed (Count t.count) else Other (tdata1_of version (kind.Icount t))
trigger_use version kind.Disabled tdata2 = Unused

abbrev pub use_of : Version → Slot → Use
use_of version s = trigger_use version s.trigger s.tdata2

abbrev pub uses_here : Option Hart → List Use
uses_here (Some hart) = map (use_of hart.debug.version) hart.debug.slots
uses_here None = []

-- of the slots of hart h, by place
abbrev pub uses_at : ℕ → Board → List Use
uses_at h b = uses_here (slice_get b.harts h)
