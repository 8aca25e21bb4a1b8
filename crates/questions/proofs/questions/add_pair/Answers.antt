-- `questions::questions::add_pair` meets its contract.
use Rattle.questions.proofs.Pairs.{pair-kept}
use Rattle.questions.proofs.questions.add_pair.Goals as goal

pub returns : goal.returns
returns c = λ x y lx ly h d. pair-kept c.args.seen.now c.args.a c.args.b c.requires.1 x y ly h d
