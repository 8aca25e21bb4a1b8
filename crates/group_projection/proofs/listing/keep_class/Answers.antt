-- `group_projection::listing::keep_class` meets its contract.
use native.Mathlib.Omega.{arith}
use Rattle.group_projection.proofs.ListedLaws.{keep-not, keep-many, keep-full, keep-asks, keep-made}
use borrow.Author.Rules.{rules}
use Rattle.group_projection.proofs.listing.keep_class.Goals as goal
use Rattle.group_projection.proofs.listing.keep_class.Goals.{then-out-ge64-via-then-out-ge64, then-out-ge64-via-else-out-ge64+then-out-one-gt256}

pub is_trivial-requires : goal.is_trivial-requires
is_trivial-requires c = (c.requires.1.coded, omega (arith, c.requires.1.single))

pub returns-then-is_trivial : goal.returns-then-is_trivial
returns-then-is_trivial c = keep-not c.args.out c.args.one c.requires.0 c.requires.1 c.is_trivial.result c.is_trivial.ensures c.if-is_trivial.true

pub returns-then-out-ge64 : goal.returns-then-out-ge64
returns-then-out-ge64 c =
    elim c.then-out-ge64.branch [
      | then-out-ge64-via-then-out-ge64 w ↦
          keep-many c.args.out c.args.one c.requires.0 c.requires.1 c.is_trivial.result c.is_trivial.ensures c.if-is_trivial.false w.if-out-ge64.true
      | then-out-ge64-via-else-out-ge64+then-out-one-gt256 w ↦
          keep-full c.args.out c.args.one c.requires.0 c.requires.1 c.is_trivial.result c.is_trivial.ensures c.if-is_trivial.false w.if-out-one-gt256.true
    ]

pub overflow_add-out : goal.overflow_add-out
overflow_add-out c =
    search rules

pub add_class-requires : goal.add_class-requires
add_class-requires c = keep-asks c.args.out c.args.one c.requires.0 c.requires.1 c.is_trivial.result c.is_trivial.ensures (omega arith) (omega (arith, c.if-out-one-gt256.false))

pub returns : goal.returns
returns c = keep-made c.args.out c.args.one c.requires.0 c.requires.1 c.is_trivial.result c.is_trivial.ensures (omega arith) (omega (arith, c.if-out-one-gt256.false)) c.if-is_trivial.false c.add_class.result c.add_class.ensures
