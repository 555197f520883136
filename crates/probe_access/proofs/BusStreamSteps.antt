-- A run of loads by the system bus at a told chip, element by element: what was read is right as long as no error is set.
use Rattle.std.proofs.Common.{◌≡◌, ◌∙◌, ◌≤◌, ◌<◌, ◌+◌, ◌*◌, ◌++◌, ◌^◌, ℕ, List, [], ◌∷◌, length, Bool, true, false, None, refl, sym, ap, subst, append_assoc, append-nil, length-append, arith}
use Rattle.rv_model.specs.declared.size.Size.{Size}
use Rattle.rv_model.specs.declared.size.Size.TheVariants.{B1, B2, B4, B8}
use Rattle.rv_model.specs.Memory.{is_aligned}
use Rattle.rv_model.specs.Size.{count_of}
use Rattle.debug_model.specs.Addresses.{sbaddress0_address, sbaddress1_address, sbcs_address, sbdata0_address, sbdata1_address}
use Rattle.debug_model.specs.declared.bus_access.BusAccess.TheVariants as access
use Rattle.debug_model.specs.declared.dmi_op.DmiOp.TheVariants.{Read, Write}
use Rattle.debug_model.specs.declared.sberror.Sberror.TheVariants.{Fine}
use Rattle.debug_model.specs.Commands.{high_half, low_half}
use Rattle.debug_model.specs.Deeds.{Deed, ran}
use Rattle.debug_model.specs.Dmi.{value_of}
use Rattle.debug_model.specs.Module.{Site, operated, operation_result}
use Rattle.debug_model.specs.SystemBus.{BusUnit, bus_looked, bus_started, sbdata0_read}
use Rattle.debug_model.specs.Told.{SiteReady}
use Rattle.probe_run.specs.Acts.{Act}
use Rattle.probe_run.specs.Acts.Act.{Put}
use Rattle.probe_access.specs.Blocks.{element_at}
use Rattle.probe_access.specs.BusBlocks.BusLoadedEach.{nothing as none_loaded, further as loaded_further}
use Rattle.probe_access.specs.BusRuns.{cut_to}
use Rattle.probe_access.specs.BusStreams.{ElementsRead, IsNarrow, run_started, running}
use Rattle.probe_access.specs.BusStreams.ElementsRead.{none as none_read, narrow, double}
use Rattle.probe_access.specs.RegisterAccess.{joined}
use Rattle.probe_access.proofs.Along.{ReadAt, SiteActs}
use Rattle.probe_access.proofs.BusSites.{AtBus, put_bus}
use Rattle.probe_access.proofs.BusSites.Writes.{to_sbaddress0, to_sbaddress1, to_sbcs}
use Rattle.probe_access.proofs.BusStages.{BusStage, start_bus}
use Rattle.probe_access.proofs.BusStreamSites.{Resting, Waiting, at_read, at_write, resting_ran, shown_at, stage_stands}
use Rattle.probe_access.proofs.BusStreamSites.Reads.{of_sbdata0, of_sbdata1}
use Rattle.probe_access.proofs.BusStreamTold.{
  Bad,
  Done,
  Going,
  Last,
  bad_lower,
  bad_more,
  bad_ran,
  bad_upper,
  done_ran,
  element_aligned,
  first_at,
  going_ran,
  next_is,
  resting_read,
  waited,
  waiting_read,
}
use Rattle.probe_access.proofs.BusStreamTold.Going.{waits, rests, bad}
use Rattle.probe_access.proofs.BusStreamUnits.{next_of, read_bus, read_starts, reading, refused_bus, refused_stops}
use Rattle.probe_access.proofs.BusStreamUnits.{run_bus, run_high, run_low, run_pends, run_set, run_stops}
use Rattle.probe_access.proofs.BusTold.{at_start, works_ready}
use Rattle.probe_access.proofs.BusUnits.{upper_put}

-- ---- the value of an element

pub narrow_value : (size : Size) (v low : ℕ) → IsNarrow size → v < 256 ^ count_of size → low ≡ value_of (low_half v) → cut_to size low ≡ v
narrow_value B1 v low n small is = omega arith
narrow_value B2 v low n small is = omega arith
narrow_value B4 v low n small is = omega arith
narrow_value B8 v low n small is = absurd n

pub double_value : (v low high : ℕ) → v < 256 ^ count_of B8 → low ≡ value_of (low_half v) → high ≡ value_of (high_half v) → joined low high ≡ v
double_value v low high small is_low is_high = omega arith

-- ---- the start

pub start_set : (size : Size) (address : ℕ) (s t : Site) → SiteReady s
    → SiteActs (Put sbcs_address (running true size) ∷ Put sbaddress1_address (high_half address) ∷ []) s t
    → AtBus (run_bus true size (upper_put s.unit.bus.address address) s.unit.bus.value Fine false None) s t
start_set size address s t ready p =
    let u : BusUnit = s.unit.bus in
    let first : AtBus (run_bus true size u.address u.value Fine false None) s p.0 =
    put_bus sbcs_address (running true size) _ u (run_bus true size u.address u.value Fine false None) s s p.0 (to_sbcs (running true size))
    (works_ready s ready) ready.unit.bus.idle (run_set size u ready.unit.bus) refl (at_start s) (p.0, p.1, refl) in
    put_bus sbaddress1_address (high_half address) _ (run_bus true size u.address u.value Fine false None)
    (run_bus true size (upper_put u.address address) u.value Fine false None) s p.0 t (to_sbaddress1 (high_half address)) (works_ready s ready) refl
    (run_high size u.address u.value address) refl first p.2

pub start_stage : (size : Size) (address : ℕ) (s t : Site) → SiteReady s → is_aligned address size ≡ true → SiteActs (run_started size address) s t
    → BusStage (reading true size address s.unit.bus.value false) s t
start_stage size address s t ready aligned p =
    let u : BusUnit = s.unit.bus in
    start_bus sbaddress0_address (low_half address) _ (run_bus true size (upper_put u.address address) u.value Fine false None)
    (reading true size address u.value false) s p.2.0 t (to_sbaddress0 (low_half address)) (works_ready s ready) refl
    (run_low size u.address u.value address aligned) (run_pends true size address u.value false)
    (start_set size address s p.2.0 ready (p.0, p.1, (p.2.0, p.2.1, refl))) p.2.2

pub going_first : (size : Size) (address count : ℕ) (s t : Site) → SiteReady s → is_aligned address size ≡ true → 0 < count
    → SiteActs (run_started size address) s t → Going size address count s true [] t
going_first size address count s t ready aligned some p =
    waited size address count s true [] s.unit.bus.value t (Last.none s.unit.bus.value)
    (stage_stands size address count s true false [] s.unit.bus.value s t none_loaded ready some
    (subst (λ a. BusStage (reading true size a s.unit.bus.value false) s t) (sym (first_at size address))
    (start_stage size address s t ready aligned p)))

-- ---- the upper word

pub data Half (size : Size) (address count : ℕ) (s : Site) (on_data : Bool) (read : List ℕ) (high : ℕ) (t : Site) : Type 0 where
  right : (value : ℕ) → Resting size address count s on_data false read value t → high ≡ high_half value → Half size address count s on_data read high t
  wrong : Bad size address count s read t → Half size address count s on_data read high t

pub upper_read : (size : Size) (address count : ℕ) (s : Site) (on_data : Bool) (read : List ℕ) (x : Site) → Going size address count s on_data read x
    → Half size address count s on_data read (operation_result (Read sbdata1_address) x) (operated (Read sbdata1_address) x)
upper_read size address count s on_data read x (waits value w last) =
    Half.wrong (Bad.waiting on_data read [] value
    (waiting_read size address count s on_data false read value x sbdata1_address bus_looked _ of_sbdata1 refl w) last (sym (append-nil read)))
upper_read size address count s on_data read x (rests v r) =
    Half.right v (resting_read size address count s on_data false read v x sbdata1_address bus_looked _ of_sbdata1 refl r)
    (shown_at sbdata1_address bus_looked _ (read_bus on_data size (element_at size address (length read)) v false) r.mid x of_sbdata1 r.ready r.at)
upper_read size address count s on_data read x (bad b) = Half.wrong (bad_upper size address count s read x b)

half_ran : (size : Size) (address count : ℕ) (s : Site) (on_data : Bool) (read : List ℕ) (high : ℕ) (x : Site) (ds : List Deed)
    → Half size address count s on_data read high x → Half size address count s on_data read high (ran ds x)
half_ran size address count s on_data read high x ds (Half.right v r is) =
    Half.right v (resting_ran size address count s on_data false read v x ds r) is
half_ran size address count s on_data read high x ds (Half.wrong b) = Half.wrong (bad_ran size address count s read x ds b)

pub upper_at : (size : Size) (address count : ℕ) (s : Site) (on_data : Bool) (read : List ℕ) (high : ℕ) (x t : Site)
    → Going size address count s on_data read x → (r : ReadAt sbdata1_address high x t) → Half size address count s on_data read r.result t
upper_at size address count s on_data read high x t g r =
    let z : Site = ran r.one.before x in
    subst (λ (y : Site). Half size address count s on_data read r.result y) (sym r.one.is)
    (subst (λ n. Half size address count s on_data read n (ran r.one.behind (operated (Read sbdata1_address) z))) (sym r.one.result_is)
    (half_ran size address count s on_data read (operation_result (Read sbdata1_address) z) (operated (Read sbdata1_address) z) r.one.behind
    (upper_read size address count s on_data read z (going_ran size address count s on_data read x r.one.before g))))

-- ---- the lower word starts the next access

pub next_started : (size : Size) (address count : ℕ) (s : Site) (read : List ℕ) (v : ℕ) (x : Site) → is_aligned address size ≡ true
    → address + count * count_of size ≤ 2 ^ 64 → length read + 1 < count → Resting size address count s true false read v x
    → Waiting size address count s true false (read ++ v ∷ []) v (operated (Read sbdata0_address) x)
next_started size address count s read v x aligned ends below r =
    let a : ℕ = element_at size address (length read) in
    let next : ℕ = element_at size address (length (read ++ v ∷ [])) in
    let longer : length (read ++ v ∷ []) ≡ length read + 1 = length-append read (v ∷ []) in
    let there : next_of size a ≡ next = next_is size address count (length read) ends below ∙ sym (ap (element_at size address) longer) in
    record {
      mid = r.mid;
      each = loaded_further read v r.first r.mid r.each r.one;
      ready = r.ready;
      below = omega (arith, longer, below);
      at = at_read sbdata0_address sbdata0_read _ (read_bus true size a v false) (reading true size next v false) r.mid x of_sbdata0 r.ready
          (ap (λ b. bus_started access.Read (run_bus true size b v Fine false None)) there
          ∙ read_starts true size next v (element_aligned size address (length (read ++ v ∷ [])) aligned)) r.at;
    }

pub low_shown : (size : Size) (address count : ℕ) (s : Site) (on_data : Bool) (read : List ℕ) (v : ℕ) (x : Site)
    → Resting size address count s on_data false read v x → operation_result (Read sbdata0_address) x ≡ low_half v
low_shown size address count s on_data read v x r =
    shown_at sbdata0_address sbdata0_read _ (read_bus on_data size (element_at size address (length read)) v false) r.mid x of_sbdata0 r.ready r.at

-- ---- an element, with the next access started

started_with : (size : Size) (address count : ℕ) (s : Site) (read : List ℕ) (v w : ℕ) (t : Site) → w ≡ v → v < 256 ^ count_of size
    → Waiting size address count s true false (read ++ v ∷ []) v t → Going size address count s true (read ++ w ∷ []) t
started_with size address count s read v w t is small next =
    subst (λ n. Going size address count s true (read ++ n ∷ []) t) (sym is) (waits v next (Last.some read v small))

narrow_by : (size : Size) (address count : ℕ) (s : Site) (read : List ℕ) (low result : ℕ) (x : Site) → IsNarrow size → is_aligned address size ≡ true
    → address + count * count_of size ≤ 2 ^ 64 → length read + 1 < count → low ≡ value_of result → result ≡ operation_result (Read sbdata0_address) x
    → Going size address count s true read x → Going size address count s true (read ++ cut_to size low ∷ []) (operated (Read sbdata0_address) x)
narrow_by size address count s read low result x n aligned ends below is shows (waits value w last) =
    bad (Bad.waiting true read (cut_to size low ∷ []) value
    (waiting_read size address count s true false read value x sbdata0_address sbdata0_read _ of_sbdata0 refl w) last refl)
narrow_by size address count s read low result x n aligned ends below is shows (rests v r) =
    started_with size address count s read v (cut_to size low) (operated (Read sbdata0_address) x)
    (narrow_value size v low n r.small (is ∙ ap value_of (shows ∙ low_shown size address count s true read v x r))) r.small
    (next_started size address count s read v x aligned ends below r)
narrow_by size address count s read low result x n aligned ends below is shows (bad b) =
    bad (bad_more size address count s read (cut_to size low ∷ []) (operated (Read sbdata0_address) x) (bad_lower size address count s read x b))

narrow_at : (size : Size) (address count : ℕ) (s : Site) (read : List ℕ) (low : ℕ) (x t : Site) → IsNarrow size → is_aligned address size ≡ true
    → address + count * count_of size ≤ 2 ^ 64 → length read + 1 < count → Going size address count s true read x → ReadAt sbdata0_address low x t
    → Going size address count s true (read ++ cut_to size low ∷ []) t
narrow_at size address count s read low x t n aligned ends below g r =
    let z : Site = ran r.one.before x in
    subst (λ (y : Site). Going size address count s true (read ++ cut_to size low ∷ []) y) (sym r.one.is)
    (going_ran size address count s true (read ++ cut_to size low ∷ []) (operated (Read sbdata0_address) z) r.one.behind
    (narrow_by size address count s read low r.result z n aligned ends below r.value_is r.one.result_is
    (going_ran size address count s true read x r.one.before g)))

double_by : (size : Size) (address count : ℕ) (s : Site) (read : List ℕ) (low high result upper : ℕ) (x : Site) → size ≡ B8 → is_aligned address size ≡ true
    → address + count * count_of size ≤ 2 ^ 64 → length read + 1 < count → low ≡ value_of result → high ≡ value_of upper
    → result ≡ operation_result (Read sbdata0_address) x → Half size address count s true read upper x
    → Going size address count s true (read ++ joined low high ∷ []) (operated (Read sbdata0_address) x)
double_by size address count s read low high result upper x eight aligned ends below is is_high shows (Half.right v r high_is) =
    started_with size address count s read v (joined low high) (operated (Read sbdata0_address) x)
    (double_value v low high (subst (λ (z : Size). v < 256 ^ count_of z) eight r.small)
    (is ∙ ap value_of (shows ∙ low_shown size address count s true read v x r)) (is_high ∙ ap value_of high_is)) r.small
    (next_started size address count s read v x aligned ends below r)
double_by size address count s read low high result upper x eight aligned ends below is is_high shows (Half.wrong b) =
    bad (bad_more size address count s read (joined low high ∷ []) (operated (Read sbdata0_address) x) (bad_lower size address count s read x b))

double_at : (size : Size) (address count : ℕ) (s : Site) (read : List ℕ) (low high : ℕ) (x y t : Site) → size ≡ B8 → is_aligned address size ≡ true
    → address + count * count_of size ≤ 2 ^ 64 → length read + 1 < count → Going size address count s true read x → ReadAt sbdata1_address high x y
    → ReadAt sbdata0_address low y t → Going size address count s true (read ++ joined low high ∷ []) t
double_at size address count s read low high x y t eight aligned ends below g h r =
    let z : Site = ran r.one.before y in
    subst (λ (u : Site). Going size address count s true (read ++ joined low high ∷ []) u) (sym r.one.is)
    (going_ran size address count s true (read ++ joined low high ∷ []) (operated (Read sbdata0_address) z) r.one.behind
    (double_by size address count s read low high r.result h.result z eight aligned ends below r.value_is h.value_is r.one.result_is
    (half_ran size address count s true read h.result y r.one.before (upper_at size address count s true read high x y g h))))

pub elements_going : (size : Size) (address count : ℕ) (s : Site) (read values : List ℕ) (acts : List Act) (x t : Site) → is_aligned address size ≡ true
    → address + count * count_of size ≤ 2 ^ 64 → length read + length values < count → ElementsRead size values acts
    → Going size address count s true read x → SiteActs acts x t → Going size address count s true (read ++ values) t
elements_going size address count s read _ _ x t aligned ends below none_read g acts =
    subst (λ xs. Going size address count s true xs t) (sym (append-nil read)) (subst (λ (y : Site). Going size address count s true read y) (sym acts) g)
elements_going size address count s read _ _ x t aligned ends below (narrow low values more n e) g acts =
    let w : ℕ = cut_to size low in
    let longer : length (read ++ w ∷ []) ≡ length read + 1 = length-append read (w ∷ []) in
    subst (λ xs. Going size address count s true xs t) (append_assoc read (w ∷ []) values)
    (elements_going size address count s (read ++ w ∷ []) values more acts.0 t aligned ends (omega (arith, longer, below)) e
    (narrow_at size address count s read low x acts.0 n aligned ends (omega (arith, below)) g acts.1) acts.2)
elements_going size address count s read _ _ x t aligned ends below (double low high values more eight e) g acts =
    let w : ℕ = joined low high in
    let longer : length (read ++ w ∷ []) ≡ length read + 1 = length-append read (w ∷ []) in
    subst (λ xs. Going size address count s true xs t) (append_assoc read (w ∷ []) values)
    (elements_going size address count s (read ++ w ∷ []) values more acts.2.0 t aligned ends (omega (arith, longer, below)) e
    (double_at size address count s read low high x acts.0 acts.2.0 eight aligned ends (omega (arith, below)) g acts.1 acts.2.1) acts.2.2)

-- ---- sbreadondata ends

pub stop_by : (size : Size) (address count : ℕ) (s : Site) (read : List ℕ) (x : Site) → Going size address count s true read x
    → Going size address count s false read (operated (Write sbcs_address (running false size)) x)
stop_by size address count s read x (waits value w last) =
    bad (Bad.waiting true read [] value (record {
      mid = w.mid;
      each = w.each;
      ready = w.ready;
      below = w.below;
      at = at_write sbcs_address (running false size) _ (reading true size (element_at size address (length read)) value false)
          (reading true size (element_at size address (length read)) value true) w.mid x (to_sbcs (running false size)) w.ready refl w.at;
    }) last (sym (append-nil read)))
stop_by size address count s read x (rests v r) =
    let a : ℕ = element_at size address (length read) in
    rests v (record {
      first = r.first;
      each = r.each;
      mid = r.mid;
      one = r.one;
      small = r.small;
      ready = r.ready;
      below = r.below;
      at = at_write sbcs_address (running false size) _ (read_bus true size a v false) (read_bus false size a v false) r.mid x
          (to_sbcs (running false size)) r.ready (run_stops true size (next_of size a) v false) r.at;
    })
stop_by size address count s read x (bad (Bad.waiting on_data values rest value w last is)) =
    let a : ℕ = element_at size address (length values) in
    bad (Bad.waiting on_data values rest value (record {
      mid = w.mid;
      each = w.each;
      ready = w.ready;
      below = w.below;
      at = at_write sbcs_address (running false size) _ (reading on_data size a value true) (reading on_data size a value true) w.mid x
          (to_sbcs (running false size)) w.ready refl w.at;
    }) last is)
stop_by size address count s read x (bad (Bad.resting on_data values rest v r is)) =
    let a : ℕ = element_at size address (length values) in
    bad (Bad.resting false values rest v (record {
      first = r.first;
      each = r.each;
      mid = r.mid;
      one = r.one;
      small = r.small;
      ready = r.ready;
      below = r.below;
      at = at_write sbcs_address (running false size) _ (read_bus on_data size a v true) (read_bus false size a v true) r.mid x
          (to_sbcs (running false size)) r.ready (run_stops on_data size (next_of size a) v true) r.at;
    }) is)
stop_by size address count s read x (bad (Bad.refusing on_data collided values rest value r last is)) =
    let a : ℕ = element_at size address (length values) in
    bad (Bad.refusing false collided values rest value (record {
      first = r.first;
      each = r.each;
      mid = r.mid;
      refused = r.refused;
      ready = r.ready;
      below = r.below;
      at = at_write sbcs_address (running false size) _ (refused_bus on_data size a value collided) (refused_bus false size a value collided) r.mid x
          (to_sbcs (running false size)) r.ready (refused_stops on_data size a value collided) r.at;
    }) last is)

pub going_stops : (size : Size) (address count : ℕ) (s : Site) (read : List ℕ) (x t : Site) → Going size address count s true read x
    → SiteActs (Put sbcs_address (running false size) ∷ []) x t → Going size address count s false read t
going_stops size address count s read x t g p =
    let z : Site = ran p.1.before x in
    subst (λ (y : Site). Going size address count s false read y) (sym (p.2 ∙ p.1.is))
    (going_ran size address count s false read (operated (Write sbcs_address (running false size)) z) p.1.behind
    (stop_by size address count s read z (going_ran size address count s true read x p.1.before g)))

-- ---- the last element

last_with : (size : Size) (address count : ℕ) (s : Site) (read : List ℕ) (v w : ℕ) (x : Site) → w ≡ v → Resting size address count s false false read v x
    → Done size address count s (read ++ w ∷ []) (operated (Read sbdata0_address) x)
last_with size address count s read v w x is r =
    Done.right read v (resting_read size address count s false false read v x sbdata0_address sbdata0_read _ of_sbdata0 refl r) (ap (λ n. read ++ n ∷ []) is)

last_narrow_by : (size : Size) (address count : ℕ) (s : Site) (read : List ℕ) (low result : ℕ) (x : Site) → IsNarrow size → low ≡ value_of result
    → result ≡ operation_result (Read sbdata0_address) x → Going size address count s false read x
    → Done size address count s (read ++ cut_to size low ∷ []) (operated (Read sbdata0_address) x)
last_narrow_by size address count s read low result x n is shows (waits value w last) =
    Done.wrong (Bad.waiting false read (cut_to size low ∷ []) value
    (waiting_read size address count s false false read value x sbdata0_address sbdata0_read _ of_sbdata0 refl w) last refl)
last_narrow_by size address count s read low result x n is shows (rests v r) =
    last_with size address count s read v (cut_to size low) x
    (narrow_value size v low n r.small (is ∙ ap value_of (shows ∙ low_shown size address count s false read v x r))) r
last_narrow_by size address count s read low result x n is shows (bad b) =
    Done.wrong (bad_more size address count s read (cut_to size low ∷ []) (operated (Read sbdata0_address) x) (bad_lower size address count s read x b))

last_double_by : (size : Size) (address count : ℕ) (s : Site) (read : List ℕ) (low high result upper : ℕ) (x : Site) → size ≡ B8 → low ≡ value_of result
    → high ≡ value_of upper → result ≡ operation_result (Read sbdata0_address) x → Half size address count s false read upper x
    → Done size address count s (read ++ joined low high ∷ []) (operated (Read sbdata0_address) x)
last_double_by size address count s read low high result upper x eight is is_high shows (Half.right v r high_is) =
    last_with size address count s read v (joined low high) x
    (double_value v low high (subst (λ (z : Size). v < 256 ^ count_of z) eight r.small)
    (is ∙ ap value_of (shows ∙ low_shown size address count s false read v x r)) (is_high ∙ ap value_of high_is)) r
last_double_by size address count s read low high result upper x eight is is_high shows (Half.wrong b) =
    Done.wrong (bad_more size address count s read (joined low high ∷ []) (operated (Read sbdata0_address) x) (bad_lower size address count s read x b))

last_narrow_at : (size : Size) (address count : ℕ) (s : Site) (read : List ℕ) (low : ℕ) (x t : Site) → IsNarrow size
    → Going size address count s false read x → ReadAt sbdata0_address low x t → Done size address count s (read ++ cut_to size low ∷ []) t
last_narrow_at size address count s read low x t n g r =
    let z : Site = ran r.one.before x in
    subst (λ (y : Site). Done size address count s (read ++ cut_to size low ∷ []) y) (sym r.one.is)
    (done_ran size address count s (read ++ cut_to size low ∷ []) (operated (Read sbdata0_address) z) r.one.behind
    (last_narrow_by size address count s read low r.result z n r.value_is r.one.result_is (going_ran size address count s false read x r.one.before g)))

last_double_at : (size : Size) (address count : ℕ) (s : Site) (read : List ℕ) (low high : ℕ) (x y t : Site) → size ≡ B8
    → Going size address count s false read x → ReadAt sbdata1_address high x y → ReadAt sbdata0_address low y t
    → Done size address count s (read ++ joined low high ∷ []) t
last_double_at size address count s read low high x y t eight g h r =
    let z : Site = ran r.one.before y in
    subst (λ (u : Site). Done size address count s (read ++ joined low high ∷ []) u) (sym r.one.is)
    (done_ran size address count s (read ++ joined low high ∷ []) (operated (Read sbdata0_address) z) r.one.behind
    (last_double_by size address count s read low high r.result h.result z eight r.value_is h.value_is r.one.result_is
    (half_ran size address count s false read h.result y r.one.before (upper_at size address count s false read high x y g h))))

pub last_done : (size : Size) (address count : ℕ) (s : Site) (read values : List ℕ) (acts : List Act) (x t : Site) → length values ≡ 1
    → ElementsRead size values acts → Going size address count s false read x → SiteActs acts x t → Done size address count s (read ++ values) t
last_done size address count s read _ _ x t one none_read g acts = absurd (omega (arith, one))
last_done size address count s read _ _ x t one (narrow low _ _ n none_read) g acts =
    subst (λ (y : Site). Done size address count s (read ++ cut_to size low ∷ []) y) (sym acts.2)
    (last_narrow_at size address count s read low x acts.0 n g acts.1)
last_done size address count s read _ _ x t one (narrow low _ _ n (narrow other values more k e)) g acts = absurd (omega (arith, one))
last_done size address count s read _ _ x t one (narrow low _ _ n (double other high values more eight e)) g acts = absurd (omega (arith, one))
last_done size address count s read _ _ x t one (double low high _ _ eight none_read) g acts =
    subst (λ (y : Site). Done size address count s (read ++ joined low high ∷ []) y) (sym acts.2.2)
    (last_double_at size address count s read low high x acts.0 acts.2.0 eight g acts.1 acts.2.1)
last_done size address count s read _ _ x t one (double low high _ _ eight (narrow other values more k e)) g acts = absurd (omega (arith, one))
last_done size address count s read _ _ x t one (double low high _ _ eight (double other upper values more k e)) g acts = absurd (omega (arith, one))
