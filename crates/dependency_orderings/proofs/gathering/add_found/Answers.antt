-- `dependency_orderings::gathering::add_found` meets its contract.
use mathlib.Core.Path.{sym, ◌∙◌}
use Rattle.dependency_orderings.proofs.GatherLaws.{with_none, with-many, with-more}
use Rattle.dependency_orderings.proofs.gathering.add_found.Goals as goal

pub start_of-requires : goal.start_of-requires
start_of-requires c = c.requires.few

pub returns-then-found-start_of : goal.returns-then-found-start_of
returns-then-found-start_of c =
    sym (with_none c.args.g c.args.found (c.if-found-start_of.true ∙ c.start_of.ensures))

pub returns-then-n-ge6 : goal.returns-then-n-ge6
returns-then-n-ge6 c =
    sym (with-many c.args.g c.args.found (λ e. c.if-found-start_of.false (e ∙ sym c.start_of.ensures)) c.if-n-ge6.true)

pub returns : goal.returns
returns c =
    sym (with-more c.args.g c.args.found (λ e. c.if-found-start_of.false (e ∙ sym c.start_of.ensures)) c.if-n-ge6.false)
