-- `normal::normalizing::normalize_in` meets its contract.
use mathlib.Core.Path.{◌∙◌}
use native.Mathlib.Omega.{arith}
use Rattle.normal.proofs.Calling.{whole_ready, whole-settled}
use Rattle.normal.proofs.normalizing.normalize_in.Goals as goal

pub class_firsts-firsts-requires : goal.class_firsts-firsts-requires
class_firsts-firsts-requires c =
    (c.requires.1.coded, omega (arith, c.node_count-old.ensures, c.requires.0.holds.few))

pub normalize-answer-requires : goal.normalize-answer-requires
normalize-answer-requires c =
    whole_ready c.args.cells.now c.args.g c.node_count-old.result c.class_firsts-firsts.result c.requires.0.holds c.requires.1 c.node_count-old.ensures c.class_firsts-firsts.ensures c.args.expr c.requires.0.below 1024

pub returns : goal.returns
returns c =
    let x = c.normalize-answer in
    c.settled.ensures ∙ whole-settled c.args.cells.now c.args.g c.node_count-old.result c.class_firsts-firsts.result c.requires.0.holds c.requires.1 c.node_count-old.ensures c.class_firsts-firsts.ensures c.args.expr c.requires.0.below x.new.cells x.new.memo x.result x.ensures
