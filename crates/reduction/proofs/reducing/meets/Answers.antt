-- `reduction::reducing::meets` meets its contract.
use Rattle.std.proofs.Common.{rules, tests, ◌∙◌}
use Rattle.std.proofs.lemmas.Iterator.{serves_from_Range}
use Rattle.laws.proofs.Runs.{each-all}
use Rattle.orderings.proofs.Codec.{size_few}
use Rattle.reduction.proofs.Meeting.{Read, meets-read}
use Rattle.reduction.proofs.reducing.meets.Goals as goal

pub all-requires-clause-callable : goal.all-requires-clause-callable
all-requires-clause-callable c =
    let a = size_few c.args.a c.requires.0.0 in
    serves_from_Range (λ x q k. search rules) (λ x l b. search rules)

pub returns : goal.returns
returns c =
    each-all (Read c.args.a c.args.b c.args.n) c.args.n _ _ _ c.all.ensures.ran (λ x b q k. search (rules, tests))
    ∙ meets-read c.args.a c.args.b c.args.n c.requires.1.0 c.requires.1.1
