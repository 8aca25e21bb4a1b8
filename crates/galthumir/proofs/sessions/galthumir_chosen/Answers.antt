-- `galthumir::sessions::galthumir_chosen` meets its contract.
use Rattle.std.proofs.Common.{sym, ◌∙◌}
use Rattle.galthumir.proofs.Shapes.{chosen-unknown, chosen-refused, chosen-done}
use Rattle.galthumir.proofs.sessions.galthumir_chosen.Goals as goal

pub returns-then-kind-gt9 : goal.returns-then-kind-gt9
returns-then-kind-gt9 c = chosen-unknown c.args.answer.now c.args.kind c.args.left.now c.args.right.now c.if-kind-gt9.true

pub returns-in-Err : goal.returns-in-Err
returns-in-Err c =
    let e = sym c.chosen_number.ensures ∙ c.in-Err.is in
    rw c.from.ensures (chosen-refused c.args.answer.now c.args.kind c.args.left.now c.args.right.now c.in-Err.why (rw (c.short-small.ensures, c.wide.ensures) at e))

pub returns : goal.returns
returns c =
    let e = sym c.chosen_number.ensures ∙ c.in_default.is in
    rw (c.put_sizes.ensures, c.side_of.ensures, c.chosen-part.ensures, c.short-small.ensures, c.wide.ensures)
    (chosen-done c.args.answer.now c.args.kind c.args.left.now c.args.right.now (rw (c.short-small.ensures, c.wide.ensures) at e))
