use Rattle.wire_sniff.proofs.WaveLemmas.{no_sign_moment, no_sign_wave}
use Rattle.wire_sniff.proofs.waves.draw.Goals as goal

pub returns-in-Err-clause-state : goal.returns-in-Err-clause-state
returns-in-Err-clause-state g c = λ m is. no_sign_moment c.args.answers.now c.args.moment.now c.args.byte m c.in-Err.ensures.bad.1 is

pub returns-in-Err-clause-put : goal.returns-in-Err-clause-put
returns-in-Err-clause-put g c = λ m is.
    rw (no_sign_wave c.args.time c.args.byte m c.in-Err.ensures.bad.1, ← c.levels_at.ensures c.args.answers.now m is, ← c.deref.ensures.0) c.put.ensures.put

pub returns-in-Err-clause-front : goal.returns-in-Err-clause-front
returns-in-Err-clause-front g c = λ m is.
    rw (no_sign_wave c.args.time c.args.byte m c.in-Err.ensures.bad.1, ← c.levels_at.ensures c.args.answers.now m is, ← c.deref.ensures.0) c.put.ensures.front
