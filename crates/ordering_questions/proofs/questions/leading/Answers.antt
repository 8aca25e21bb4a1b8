-- `ordering_questions::questions::leading` meets its contract.
use borrow.Author.Rules.{rules}
use Rattle.orderings.proofs.Codec.{count-few}
use Rattle.ordering_questions.proofs.Leads.{leading-read}
use Rattle.ordering_questions.proofs.questions.leading.Goals as goal

pub offset_bounds-g-i : goal.offset_bounds-g-i
offset_bounds-g-i c = let b = count-few c.args.g c.requires.0 in search rules

pub bounds-g-i : goal.bounds-g-i
bounds-g-i c = let b = count-few c.args.g c.requires.0 in search rules

pub returns : goal.returns
returns c = let e = leading-read c.args.g c.requires.0 c.args.i c.requires.1 in cc
