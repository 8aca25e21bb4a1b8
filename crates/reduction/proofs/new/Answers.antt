-- `reduction::new` meets its contract.
use mathlib.Core.Path.{ap, ◌∙◌}
use Rattle.reduction.specs.Calls.{add_answer}
use Rattle.orderings.specs.declared.Orderings.{Orderings}
use Rattle.reduction.proofs.new.Goals as goal

pub returns : goal.returns
returns c =
    let x = c.args in
    c.add_orderings.ensures ∙ ap (λ (g : Orderings). add_answer x.cells.now g x.numbers.now) c.no_orderings.ensures
