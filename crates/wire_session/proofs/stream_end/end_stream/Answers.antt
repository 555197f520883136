use Rattle.std.proofs.Common.{◌≡◌, true}
use Rattle.wire_session.specs.Closing.{sends_quit}
use Rattle.wire_session.specs.Closing.Closes.{unquitted}
use Rattle.wire_session.proofs.stream_end.end_stream.Goals as goal

pub returns-in-Err-clause-closes : goal.returns-in-Err-clause-closes
returns-in-Err-clause-closes g c =
    let sends : sends_quit c.args.ended ≡ true = cc in
    unquitted c.in-Err.fault sends c.unclosed.ensures
    (record { far = c.in-Err.ensures.prefix; coming = c.in-Err.ensures.coming; cause = c.in-Err.ensures.cause; later = c.in-Err.ensures.later })
