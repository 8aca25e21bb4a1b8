-- `galthumir::expressions::galthumir_check_arena` meets its contract.
use Rattle.std.proofs.Common.{ap, ◌∙◌}
use Rattle.arena.specs.Refusals.{number_of}
use Rattle.arena.proofs.Lending.{checked-listed}
use Rattle.galthumir.proofs.expressions.galthumir_check_arena.Goals as goal

pub returns : goal.returns
returns c = c.number_of.ensures ∙ ap number_of c.check_arena.ensures ∙ checked-listed c.args.arena.now
