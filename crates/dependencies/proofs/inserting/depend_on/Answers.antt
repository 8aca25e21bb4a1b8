-- `dependencies::inserting::depend_on` meets its contract.
use mathlib.Core.Path.{sym, ◌∙◌}
use Rattle.dependencies.proofs.MapInserts.{extended-there, extended-many, extended-new}
use borrow.Author.Rules.{rules}
use Rattle.dependencies.proofs.inserting.depend_on.Goals as goal

pub has_dependency-requires : goal.has_dependency-requires
has_dependency-requires c = c.requires.short

pub returns-then-has_dependency : goal.returns-then-has_dependency
returns-then-has_dependency c = extended-there c.args.r c.requires c.args.key (sym c.has_dependency.ensures ∙ c.if-has_dependency.true)

pub returns-then-r-ge16 : goal.returns-then-r-ge16
returns-then-r-ge16 c = extended-many c.args.r c.requires c.args.key (sym c.has_dependency.ensures ∙ c.if-has_dependency.false) (search rules)

pub returns : goal.returns
returns c = extended-new c.args.r c.requires c.args.key (sym c.has_dependency.ensures ∙ c.if-has_dependency.false) (search rules)
