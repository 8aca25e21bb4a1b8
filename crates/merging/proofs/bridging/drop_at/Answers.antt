-- `merging::bridging::drop_at` meets its contract.
use Rattle.merging.proofs.Dropping.{drop-gone, drop-kept}
use Rattle.merging.proofs.bridging.drop_at.Goals as goal

pub returns-then-is_trivial : goal.returns-then-is_trivial
returns-then-is_trivial c =
    let t = c.is_trivial in
    drop-gone c.args.g c.requires.0 c.args.i t.result t.ensures c.if-is_trivial.true c.remove_class_at_idx.result c.remove_class_at_idx.ensures

pub returns-else-is_trivial : goal.returns-else-is_trivial
returns-else-is_trivial c =
    let t = c.is_trivial in
    drop-kept c.args.g c.requires.0 c.args.i t.result t.ensures c.if-is_trivial.false
