-- Scans of a chip that runs: the clocks that carry one, what comes out of the selected register, what stays in it, and the rounds that pass meanwhile.
-- IEEE 1149.1, the state diagram for the paths and the shifting of a register for the two cuts; OpenOCD, remote_bitbang, for the bytes of a clock.
use Rattle.std.specs.Prelude.{◌≡◌, ◌≢◌, ◌⊎◌, ◌++◌, ℕ, zero, suc, ◌+◌, ◌≤◌, List, [], ◌∷◌, length, map, take, drop, Bool, true, false, Option, Some, None}
use Rattle.std.specs.Prelude.{IfSome, replicate}
use Rattle.jt_base.specs.BitList.{bits_of}
use Rattle.jt_base.specs.Faults.{Rises}
use Rattle.debug_model.specs.declared.data_register.DataRegister.{DataRegister}
use Rattle.debug_model.specs.declared.data_register.DataRegister.TheVariants.{Idcode}
use Rattle.debug_model.specs.declared.tap_state.TapState.TheVariants.{RunTestIdle, TestLogicReset}
use Rattle.debug_model.specs.declared.wire.WireFault.{WireFault}
use Rattle.debug_model.specs.declared.wire.WireFault.TheVariants.{SendFailed, RecvFailed, Ended, BadAnswer}
use Rattle.debug_model.specs.Chip.{Chip, Inside, Works, answer_byte, busy_counted, tick}
use Rattle.debug_model.specs.Port.{Port, data_register_of, instruction_width}
use Rattle.debug_model.specs.Told.{Far, chip_of}
use Rattle.debug_model.specs.Transport.{Dtm, captured_bits, captured_dtm, sets_busy, updated_dtm, width_of}
use Rattle.debug_model.specs.Wire.{EndCause}

-- ---- bytes

-- the digit that sets TCK 0, and the one that sets TCK 1, with these levels of TMS and TDI
abbrev pub low : Bool → Bool → ℕ
low false false = 48
low false true = 49
low true false = 50
low true true = 51

abbrev pub high : Bool → Bool → ℕ
high false false = 52
high false true = 53
high true false = 54
high true true = 55

-- the sign that asks for TDO
abbrev pub ask : ℕ
ask = 82

-- one clock: TCK 0, where TDO is asked an `R`, and TCK 1
abbrev pub clock : Bool → Bool → List ℕ
clock tms tdi = low tms tdi ∷ high tms tdi ∷ []

abbrev pub asked_clock : Bool → Bool → List ℕ
asked_clock tms tdi = low tms tdi ∷ ask ∷ high tms tdi ∷ []

-- clocks with these levels of TMS, TDI 0
abbrev pub path : List Bool → List ℕ
path [] = []
path (tms ∷ rest) = clock tms false ++ path rest

-- from anywhere to Run-Test/Idle, through Test-Logic-Reset
abbrev pub reset_bytes : List ℕ
reset_bytes = path (true ∷ true ∷ true ∷ true ∷ true ∷ false ∷ [])

abbrev pub is_last : List Bool → Bool
is_last [] = true
is_last (b ∷ bs) = false

-- a clock for each bit, asked or not, the last of them with TMS 1
abbrev pub asked_bits : List Bool → List ℕ
asked_bits [] = []
asked_bits (b ∷ bs) = asked_clock (is_last bs) b ++ asked_bits bs

abbrev pub sent_bits : List Bool → List ℕ
sent_bits [] = []
sent_bits (b ∷ bs) = clock (is_last bs) b ++ sent_bits bs

abbrev pub to_shift_dr : List ℕ
to_shift_dr = path (true ∷ false ∷ false ∷ [])

abbrev pub to_shift_ir : List ℕ
to_shift_ir = path (true ∷ true ∷ false ∷ false ∷ [])

abbrev pub to_idle : List ℕ
to_idle = path (true ∷ false ∷ [])

-- a scan of the selected data register, from Run-Test/Idle and back
abbrev pub dr_bytes : List Bool → List ℕ
dr_bytes bits = to_shift_dr ++ (asked_bits bits ++ to_idle)

-- a scan of the instruction register
abbrev pub ir_bytes : ℕ → List ℕ
ir_bytes code = to_shift_ir ++ (sent_bits (bits_of instruction_width code) ++ to_idle)

-- so many clocks in Run-Test/Idle
abbrev pub idle_bytes : ℕ → List ℕ
idle_bytes clocks = path (replicate clocks false)

-- at most so many in one call
abbrev pub idle_most : ℕ
idle_most = 32

-- the clocks of each path
abbrev pub reset_clocks : ℕ
reset_clocks = 6

abbrev pub ir_clocks : ℕ
ir_clocks = 11

abbrev pub dr_clocks : List Bool → ℕ
dr_clocks bits = length bits + 5

-- ---- registers

-- of the captured bits and then the given ones, as many as were given come out
abbrev pub comes_out : List Bool → List Bool → List Bool
comes_out was bits = take (length bits) (was ++ bits)

-- and the others stay
abbrev pub stays : List Bool → List Bool → List Bool
stays was bits = drop (length bits) (was ++ bits)

-- as many bits as the selected register has
abbrev pub Fits : List Bool → Option Far → Type 0
Fits bits told = IfSome told (λ f. length bits ≡ width_of (chip_of f).port.selected)

-- ---- the inside of a chip during a scan

-- so many rounds pass
unfoldable pub ticks : ℕ → Inside → Inside
ticks zero i = i
ticks (suc n) i = ticks n (tick i)

abbrev pub dtm_of : Inside → Dtm
dtm_of i = i.works.dtm

-- a capture of the selected register
abbrev pub captured_works : DataRegister → Works → Works
captured_works r w = record w { dtm = captured_dtm r w.dtm; counts = busy_counted (sets_busy r w.dtm) w.counts }

abbrev pub capture : DataRegister → Inside → Inside
capture r i = record i { works = captured_works r i.works }

-- an update of it
abbrev pub update : DataRegister → List Bool → Inside → Inside
update r bits i = record i { works = record i.works { dtm = updated_dtm r bits i.works.dtm } }

-- what a scan of these bits takes out of a register that is captured then, and what it leaves there
abbrev pub dr_out : List Bool → DataRegister → Inside → List Bool
dr_out bits r i = comes_out (captured_bits r (dtm_of i)) bits

abbrev pub dr_stays : List Bool → DataRegister → Inside → List Bool
dr_stays bits r i = stays (captured_bits r (dtm_of i)) bits

-- a scan: rounds, the capture, rounds, the update, rounds
abbrev pub dr_inside : ℕ → ℕ → ℕ → List Bool → DataRegister → Inside → Inside
dr_inside before between behind bits r i =
    ticks behind (update r (dr_stays bits r (ticks before i)) (ticks between (capture r (ticks before i))))

-- ---- how often TCK rises

-- at most so much oftener than the path has clocks; where the slack is none, nothing is said
abbrev pub WithinSlack : Option ℕ → ℕ → ℕ → Type 0
WithinSlack slack clocks rises = IfSome slack (λ s. rises ≤ clocks + s)

-- ---- what a call did to a told chip

abbrev pub far_at : Bool → Port → Inside → Far
far_at tck port i = record { live = record { chip = record { tck = tck; port = port; inside = i }; ended = None }; unread = [] }

-- the port in Run-Test/Idle behind a scan
abbrev pub idle_port : DataRegister → List Bool → Port
idle_port r bits = record { state = RunTestIdle; selected = r; shift = bits; tdo = false; held = false }

-- a scan of these bits took these out, and `new` tells the chip behind it
pub record Scanned (slack : Option ℕ) (bits out : List Bool) (c : Chip) (new : Option Far) : Type 0 where
  pub before : ℕ
  pub between : ℕ
  pub behind : ℕ
  pub shifts : length bits ≤ between
  pub out_is : out ≡ dr_out bits c.port.selected (ticks before c.inside)
  pub is : new ≡ Some (far_at true (idle_port c.port.selected (dr_stays bits c.port.selected (ticks before c.inside)))
      (dr_inside before between behind bits c.port.selected c.inside))
  pub least : dr_clocks bits ≤ before + between + behind
  pub most : WithinSlack slack (dr_clocks bits) (before + between + behind)

-- the instruction is this code's register: rounds passed, and nothing else
pub record Selected (slack : Option ℕ) (code : ℕ) (c : Chip) (new : Option Far) : Type 0 where
  pub rises : ℕ
  pub tck : Bool
  pub shift : List Bool
  pub is : new ≡ Some (far_at tck (idle_port (data_register_of code) shift) (ticks rises c.inside))
  pub least : c.port.selected ≢ data_register_of code → ir_clocks ≤ rises
  pub most : WithinSlack slack ir_clocks rises

-- it stood in Run-Test/Idle for so many clocks: rounds passed, and nothing else
pub record StayedIdle (slack : Option ℕ) (clocks : ℕ) (c : Chip) (new : Option Far) : Type 0 where
  pub far : Far
  pub rises : ℕ
  pub is : new ≡ Some far
  pub passed : (chip_of far).inside ≡ ticks rises c.inside
  pub selected : (chip_of far).port.selected ≡ c.port.selected
  pub least : clocks ≤ rises
  pub most : WithinSlack slack clocks rises

-- behind a reset from these states rounds have passed, and nothing else: from others a register may have been updated on the way
abbrev pub StoodAtRest : Chip → Type 0
StoodAtRest c = (c.port.state ≡ TestLogicReset) ⊎ (c.port.state ≡ RunTestIdle)

-- a chip was reset: it stands in Run-Test/Idle and selects IDCODE
pub record WasReset (slack : Option ℕ) (c : Chip) (new : Option Far) : Type 0 where
  pub inside : Inside
  pub shift : List Bool
  pub rises : ℕ
  pub is : new ≡ Some (far_at true (idle_port Idcode shift) inside)
  pub passed : StoodAtRest c → inside ≡ ticks rises c.inside
  pub counted : inside.works.counts.rounds ≡ c.inside.works.counts.rounds + rises
  pub least : reset_clocks ≤ rises
  pub most : WithinSlack slack reset_clocks rises

-- ---- what a fault leaves behind

-- how far a scan came, with how many rises of TCK
pub data Stage (bits : List Bool) (r : DataRegister) (i : Inside) : ℕ → Inside → Type 0 where
  not_captured : (before : ℕ) → Stage bits r i before (ticks before i)
  captured : (before between : ℕ) → Stage bits r i (before + between) (ticks between (capture r (ticks before i)))
  updated : (before between behind : ℕ) → Stage bits r i (before + between + behind) (dr_inside before between behind bits r i)

-- a scan was cut: the register was updated by it at most once, and by nothing else
pub record ScanCut (slack : Option ℕ) (bits : List Bool) (c : Chip) (new : Option Far) : Type 0 where
  pub far : Far
  pub rises : ℕ
  pub is : new ≡ Some far
  pub stage : Stage bits c.port.selected c.inside rises far.live.chip.inside
  pub most : WithinSlack slack (dr_clocks bits) rises

-- rounds passed, at most so many, and nothing else
pub record RoundsPassed (slack : Option ℕ) (clocks : ℕ) (c : Chip) (new : Option Far) : Type 0 where
  pub far : Far
  pub rises : ℕ
  pub is : new ≡ Some far
  pub passed : far.live.chip.inside ≡ ticks rises c.inside
  pub most : WithinSlack slack clocks rises

-- a reset was cut
pub record ResetCut (slack : Option ℕ) (c : Chip) (new : Option Far) : Type 0 where
  pub far : Far
  pub rises : ℕ
  pub is : new ≡ Some far
  pub passed : StoodAtRest c → far.live.chip.inside ≡ ticks rises c.inside
  pub counted : far.live.chip.inside.works.counts.rounds ≡ c.inside.works.counts.rounds + rises
  pub most : WithinSlack slack reset_clocks rises

-- a clause on a told chip: what tells none goes on telling none
abbrev pub WhereTold : (Chip → Option Far → Type 0) → Option Far → Option Far → Type 0
WhereTold R None new = new ≡ None
WhereTold R (Some f) new = R f.live.chip new

-- ---- scripted scans: what comes out is given beforehand

pub data Coming : Type 0 where
  Numbers : (numbers : List ℕ) → Coming  -- each scan of n bits takes out the lowest n bits of the next number
  Answers : (bytes : List ℕ) → Coming  -- each asked bit is one answer byte

-- a scan took these bits out
abbrev pub TookOut : List Bool → Coming → Option Coming → Type 0
TookOut out (Numbers numbers) new =
    (number : ℕ) × (rest : List ℕ) × (numbers ≡ number ∷ rest) × (out ≡ bits_of (length out) number) × (new ≡ Some (Numbers rest))
TookOut out (Answers bytes) new = (rest : List ℕ) × (bytes ≡ map answer_byte out ++ rest) × (new ≡ Some (Answers rest))

abbrev pub ComesOut : List Bool → Option Coming → Option Coming → Type 0
ComesOut out None new = new ≡ None
ComesOut out (Some coming) new = TookOut out coming new

-- a scan that failed took nothing but answers that are bits
pub record TookBits (bytes : List ℕ) (new : Option Coming) : Type 0 where
  pub good : List Bool
  pub left : List ℕ
  pub are : bytes ≡ map answer_byte good ++ left
  pub is : new ≡ Some (Answers left)

-- a scan that failed judged all that it took: only the fault that keeps a bad answer may have taken one
abbrev pub Judged : Option Coming → Option Coming → WireFault → Type 0
Judged coming new (BadAnswer b) = Unit {0}
Judged None new fault = new ≡ None
Judged (Some (Numbers numbers)) new fault = new ≡ Some (Numbers numbers)
Judged (Some (Answers bytes)) new fault = TookBits bytes new

-- ---- why a scan failed

-- this byte came where an answer was wanted: behind answers that are bits
pub record CameWrong (b : ℕ) (bytes : List ℕ) : Type 0 where
  pub good : List Bool
  pub rest : List ℕ
  pub is : bytes ≡ map answer_byte good ++ b ∷ rest

abbrev pub WrongIn : ℕ → Coming → Type 0
WrongIn b (Numbers numbers) = ⊥
WrongIn b (Answers bytes) = CameWrong b bytes

-- an answer that is neither 0 nor 1, also one that came before the wire failed: no told chip gives one, and of a scripted object it is the first such
abbrev pub BadCause : ℕ → Option Far → Option Coming → Type 0
BadCause b told coming = (told ≡ None) × (b ≢ 48) × (b ≢ 49) × IfSome coming (WrongIn b)

abbrev pub ScanCause : ℕ → ℕ → Option Far → Option Coming → WireFault → Type 0
ScanCause old new told coming SendFailed = Rises old new
ScanCause old new told coming RecvFailed = Rises old new
ScanCause old new told coming Ended = EndCause old new told
ScanCause old new told coming (BadAnswer b) = BadCause b told coming
