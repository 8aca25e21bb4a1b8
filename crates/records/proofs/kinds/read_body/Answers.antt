-- `records::kinds::read_body` meets its contract.
use Rattle.records.proofs.Headers.{whole-header}
use Rattle.records.proofs.kinds.read_body.Goals as goal

pub field-kind-requires : goal.field-kind-requires
field-kind-requires c =
    whole-header c.args.bytes.now c.requires

pub returns : goal.returns
returns c =
    rw (← c.field-kind.ensures, ← c.body_of.ensures) c.read_kind.ensures
