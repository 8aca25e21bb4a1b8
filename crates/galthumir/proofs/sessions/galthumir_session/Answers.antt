-- `galthumir::sessions::galthumir_session` meets its contract.
use Rattle.galthumir.proofs.Shapes.{on-first}
use Rattle.galthumir.proofs.sessions.galthumir_session.Goals as goal

pub returns : goal.returns
returns c = on-first _ _ _ _ _ c.session-written.ensures c.put_written.ensures
