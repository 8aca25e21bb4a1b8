-- `galthumir::sessions::galthumir_read_record` meets its contract.
use Rattle.galthumir.proofs.sessions.galthumir_read_record.Goals as goal

pub returns : goal.returns
returns c = rw c.read_record.ensures at c.put_record.ensures
