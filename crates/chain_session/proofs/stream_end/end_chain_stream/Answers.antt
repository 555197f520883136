use Rattle.std.proofs.Common.{◌≡◌, true, refl}
use Rattle.wire_session.specs.Closing.{sends_quit}
use Rattle.wire_session.specs.Closing.Closes.{quitted, unquitted}
use Rattle.chain_session.proofs.ChainEnds.{chip_quits, chip_quits_front}
use Rattle.chain_session.proofs.stream_end.end_chain_stream.Goals as goal

pub returns-in-Ok-clause-closes : goal.returns-in-Ok-clause-closes
returns-in-Ok-clause-closes g c =
    let sends : sends_quit c.args.ended ≡ true = cc in
    quitted sends refl
    (record { far = chip_quits _ _ c.in-Ok.ensures.sent; coming = c.in-Ok.ensures.coming; later = c.in-Ok.ensures.later })

pub returns-in-Err-clause-closes : goal.returns-in-Err-clause-closes
returns-in-Err-clause-closes g c =
    let sends : sends_quit c.args.ended ≡ true = cc in
    unquitted c.in-Err.fault sends c.unclosed.ensures
    (record {
      far = chip_quits_front _ _ c.in-Err.ensures.prefix;
      coming = c.in-Err.ensures.coming;
      cause = c.in-Err.ensures.cause;
      later = c.in-Err.ensures.later;
    })
