-- `lent_classes::lent::add_lent` meets its contract.
use native.Mathlib.Omega.{arith}
use Rattle.lent_classes.proofs.LentBuild.{lent-made}
use Rattle.lent_classes.proofs.lent.add_lent.Goals as goal

pub size_at-size-requires : goal.size_at-size-requires
size_at-size-requires c = c.requires.1.0.begins

pub copy_numbers-members-requires : goal.copy_numbers-members-requires
copy_numbers-members-requires c =
    (omega (arith, c.requires.0.1.1, c.size_at-size.ensures.0), omega (arith, c.requires.1.0.ends, c.size_at-size.ensures.0))

pub returns : goal.returns
returns c =
    lent-made c.args.out c.args.numbers.now c.args.at c.requires.0.0 c.requires.0.1.1 c.requires.1.0 c.requires.1.1
    c.size_at-size.result c.number_at-flavour.result c.number_at-value.result c.copy_numbers-members.result c.requires.0.1.0
    c.size_at-size.ensures.0 c.number_at-flavour.ensures c.number_at-value.ensures c.copy_numbers-members.ensures
