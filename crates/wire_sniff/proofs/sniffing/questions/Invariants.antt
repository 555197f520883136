use Rattle.std.proofs.Common.{◌≡◌, ◌+◌, ◌≤◌, drop}
use Rattle.wire_sniff.specs.Ends.{asked_in, bad_sign_from}
use Rattle.wire_sniff.proofs.sniffing.questions.Given as goal

-- the signs behind are still to be looked at
abbrev pub invariant-loop-place : goal.invariant-loop-place
invariant-loop-place l = (l.asked ≤ l.place)
    × (l.asked + asked_in (drop l.place l.signs) ≡ asked_in l.signs)
    × (bad_sign_from 0 l.signs ≡ bad_sign_from l.place (drop l.place l.signs))
