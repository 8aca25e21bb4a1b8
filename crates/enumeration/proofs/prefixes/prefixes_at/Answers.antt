-- `enumeration::prefixes::prefixes_at` meets its contract.
use mathlib.Core.Path.{sym, subst}
use native.Mathlib.Omega.{arith}
use Rattle.arena.proofs.Refusals.{handed-on}
use Rattle.enumeration.specs.Inner.{Began}
use borrow.Author.Rules.{rules}
use lib.ListN.{get_or}
use Rattle.dependencies.proofs.MapChecks.{no_place}
use Rattle.enumeration.proofs.Turns.{node-is}
use Rattle.enumeration.proofs.Walks.{node-short, starts_first, starts-next, starts-stop, starts-last}
use Rattle.enumeration.proofs.prefixes.prefixes_at.Goals as goal

pub offset_bounds-m-place : goal.offset_bounds-m-place
offset_bounds-m-place c = search rules

pub bounds-m-place : goal.bounds-m-place
bounds-m-place c = omega (arith, c.requires.0.0.few, c.requires.0.1)

pub loop-k-init : goal.loop-k-init
loop-k-init c =
    starts_first c.args.m c.args.place c.args.found c.new_enumerator-walk.result c.new_enumerator-walk.ensures c.requires.0.0 c.requires.1

pub offset_bounds-node-k : goal.offset_bounds-node-k
offset_bounds-node-k c =
    let b = node-short c.args.m c.requires.0.0 c.args.place c.requires.0.1 in
    search rules

pub bounds-node-k : goal.bounds-node-k
bounds-node-k c =
    let b = node-short c.args.m c.requires.0.0 c.args.place c.requires.0.1 in
    search rules

pub construct_orderings-requires : goal.construct_orderings-requires
construct_orderings-requires c = let l = c.loop-k in ((l.invariant.walking, l.invariant.top), l.invariant.room)

pub returns-in_err-next : goal.returns-in_err-next
returns-in_err-next c =
    let e = node-is c.args.m c.requires.0.0 c.args.place c.requires.0.1 in
    let l = c.loop-k in
    subst (Began c.args.m c.args.place c.args.found) (sym (handed-on _ _ c.from_residual.ensures.1))
    (starts-stop c.args.m c.args.place (get_or c.args.m.list c.args.place no_place) c.requires.0.1 e c.args.found l.walk l.rows l.k l.invariant c.loop-k-test.true _ c.in_err-next.ensures)

pub loop-k-preserved : goal.loop-k-preserved
loop-k-preserved c =
    let e = node-is c.args.m c.requires.0.0 c.args.place c.requires.0.1 in
    let l = c.loop-k in
    starts-next c.args.m c.args.place (get_or c.args.m.list c.args.place no_place) c.requires.0.1 e c.args.found l.walk l.rows l.k l.invariant c.loop-k-test.true _ c.in_ok-next.ensures

pub returns : goal.returns
returns c =
    let e = node-is c.args.m c.requires.0.0 c.args.place c.requires.0.1 in
    let l = c.loop-k in
    starts-last c.args.m c.args.place (get_or c.args.m.list c.args.place no_place) c.requires.0.1 e c.args.found l.walk l.rows l.k l.invariant c.loop-k-test.false
