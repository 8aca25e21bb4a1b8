-- `shifted_classes::right_side::rights_move` meets its contract.
use Prim.Native.Nat.{◌+◌, ◌*◌, ◌/◌, ◌<◌}
use mathlib.Core.Bool.{false}
use mathlib.Core.Path.{◌∙◌}
use native.Mathlib.Omega.{arith}
use lib.ListN.{length, get_or}
use borrow.Author.Rules.{rules}
use borrow.Author.Tests.{tests}
use Rattle.laws.proofs.Each.{each_cong}
use Rattle.laws.proofs.Runs.{each-all}
use Rattle.laws.proofs.RunsC.{callable-below}
use Rattle.shifted_classes.specs.Inner.{rights_lent}
use Rattle.shifted_classes.proofs.PairPlaces.{length-rights, right-at, right-inside}
use Rattle.shifted_classes.proofs.right_side.rights_move.Goals as goal

pub all-requires-clause-callable : goal.all-requires-clause-callable
all-requires-clause-callable c =
    callable-below (length c.args.pairs.now / 2) (λ x q h. search rules)
    (λ k l. let b : get_or c.args.pairs.now (2 * k + 1) 0 < 1024 = omega (arith, right-at c.args.pairs.now k l, c.requires k (omega (arith, length-rights c.args.pairs.now))) in
    let i : 2 * k + 1 < length c.args.pairs.now = right-inside c.args.pairs.now k l in
    search rules)

pub returns : goal.returns
returns c =
    let ps = c.args.pairs.now in
    each-all (λ k. get_or c.args.table.now (get_or ps (2 * k + 1) 0) false) (length ps / 2) _ _ _ c.all.ensures.ran (λ x b q k. search (rules, tests))
    ∙ each_cong (λ k. get_or c.args.table.now (get_or ps (2 * k + 1) 0) false) (λ k. get_or c.args.table.now (get_or (rights_lent ps) k 0) false) (length ps / 2) (λ k l. rw (right-at ps k l))
    ∙ rw (length-rights ps)
