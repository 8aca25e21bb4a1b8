-- `dependency_orderings::gathering::gather` meets its contract.
use mathlib.Core.List.{map}
use mathlib.Core.Path.{sym, subst}
use Rattle.arena.proofs.Refusals.{handed-on}
use Rattle.sort_keys.specs.Layout.{keys_of, packed}
use Rattle.dependency_orderings.specs.Inner.{Gathers, stepped}
use Rattle.dependency_orderings.proofs.GatherLaws.{gone-none, gone-next, gone-stop, gone-all}
use Rattle.dependency_orderings.proofs.gathering.gather.Goals as goal

pub loop-k-init : goal.loop-k-init
loop-k-init c =
    gone-none c.args.m c.args.keys.now c.nothing_gathered-g.result c.nothing_gathered-g.ensures

pub key_at-requires : goal.key_at-requires
key_at-requires c = (c.requires.1, c.loop-k-test.true)

pub add_key-requires : goal.add_key-requires
add_key-requires c = (c.requires.0, c.loop-k.invariant.standing)

pub returns-in_err-add_key : goal.returns-in_err-add_key
unfolding stepped
returns-in_err-add_key c =
    let l = c.loop-k in
    subst (Gathers c.args.m (map packed (keys_of c.args.keys.now))) (sym (handed-on _ _ c.from_residual.ensures.1))
    (gone-stop c.args.m c.args.keys.now l.g l.k l.invariant c.loop-k-test.true c.key_at.result c.key_at.ensures _ c.in_err-add_key.ensures)

pub loop-k-preserved : goal.loop-k-preserved
unfolding stepped
loop-k-preserved c =
    let l = c.loop-k in
    gone-next c.args.m c.args.keys.now l.g l.k l.invariant c.loop-k-test.true c.key_at.result c.key_at.ensures _ c.in_ok-add_key.ensures

pub returns : goal.returns
returns c =
    let l = c.loop-k in
    gone-all c.args.m c.args.keys.now l.g l.k l.invariant c.loop-k-test.false
