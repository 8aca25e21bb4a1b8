-- `shifted_classes::right_side::members_move` meets its contract.
use Prim.Native.Nat.{◌<◌}
use mathlib.Core.Bool.{false}
use native.Mathlib.Omega.{arith}
use lib.ListN.{get_or}
use borrow.Author.Rules.{rules}
use borrow.Author.Tests.{tests}
use Rattle.laws.proofs.Runs.{each-all}
use Rattle.laws.proofs.RunsC.{callable-below}
use Rattle.classes.specs.Good.{flat}
use Rattle.classes.specs.Layout.{decode}
use Rattle.shifted_classes.proofs.ShiftedParts.{member-flat, length-used}
use Rattle.shifted_classes.proofs.right_side.members_move.Goals as goal

pub all-requires-clause-callable : goal.all-requires-clause-callable
all-requires-clause-callable c =
    callable-below c.args.g.used (λ x q h. search rules)
    (λ k l. let b : get_or c.args.g.members k 0 < 1024 = omega (arith, member-flat c.args.g c.requires.0 k, c.requires.1 k (omega (arith, length-used c.args.g c.requires.0))) in
    let i : k < 256 = omega (arith, c.requires.0.small) in
    search rules)

pub returns : goal.returns
returns c =
    rw (length-used c.args.g c.requires.0)
    (each-all (λ k. get_or c.args.table.now (get_or (flat (decode c.args.g)) k 0) false) c.args.g.used _ _ _ c.all.ensures.ran (λ x b q k. let e = member-flat c.args.g c.requires.0 x in search (rules, tests)))
