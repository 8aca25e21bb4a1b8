-- `merging::extending::append_member` meets its contract.
use Rattle.classes.specs.declared.Constant.TheVariants.{NoConstant as no_constant}
use Rattle.merging.proofs.Missing.{member-asks, member_is}
use Rattle.merging.proofs.extending.append_member.Goals as goal

pub merge_last-requires : goal.merge_last-requires
merge_last-requires c =
    member-asks c.args.out c.requires.0 c.requires.1.0 c.requires.1.1 c.one_class-one.result c.args.e no_constant c.one_class-one.ensures

pub returns : goal.returns
returns c =
    member_is c.args.out c.requires.0 c.requires.1.0 c.requires.1.1 c.one_class-one.result c.args.e no_constant c.one_class-one.ensures c.merge_last.result c.merge_last.ensures
