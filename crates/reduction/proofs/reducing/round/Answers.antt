-- `reduction::reducing::round` meets its contract.
use mathlib.Core.Path.{◌≡◌}
use borrow.Author.Rules.{rules}
use Rattle.orderings.proofs.Codec.{count-few}
use Rattle.reduction.proofs.Rounds.{next_of, round-begins, round-ends, round_room, round-cuts, round-low, round-stops, round-next, round-less}
use Rattle.reduction.proofs.reducing.round.Goals as goal

pub overflow_add-j : goal.overflow_add-j
overflow_add-j c = let b = count-few c.args.g c.requires.0.held in search rules

pub loop-j-init : goal.loop-j-init
loop-j-init c = round-begins c.args.g c.args.i c.args.cuts c.requires.0 c.requires.1

pub contest-c-requires : goal.contest-c-requires
contest-c-requires c =
    let l = c.loop-j in
    round_room c.args.g c.args.i c.args.cuts l.list l.done l.j l.invariant c.loop-j-test.true

pub overflow_add-done : goal.overflow_add-done
overflow_add-done c =
    let l = c.loop-j in
    let x = c.contest-c in
    let b = round-cuts c.args.g c.args.i c.args.cuts l.list l.done l.j l.invariant c.loop-j-test.true x.result x.ensures in
    search rules

pub returns-then-c-eq2 : goal.returns-then-c-eq2
returns-then-c-eq2 c =
    let l = c.loop-j in
    let x = c.contest-c in
    round-stops c.args.g c.args.i c.args.cuts l.list l.done l.j l.invariant c.loop-j-test.true x.result x.ensures c.if-c-eq2.true

pub next_place-j-requires : goal.next_place-j-requires
next_place-j-requires c =
    let l = c.loop-j in
    let x = c.contest-c in
    let b = round-low c.args.g c.args.i c.args.cuts l.list l.done l.j l.invariant c.loop-j-test.true x.result x.ensures in
    search rules

pub loop-j-smaller : goal.loop-j-smaller
loop-j-smaller c =
    let l = c.loop-j in
    let x = c.contest-c in
    let q : c.next_place-j.result ≡ next_of x.result.way l.j = rw c.next_place-j.ensures in
    round-less c.args.g c.args.i c.args.cuts l.list l.done l.j l.invariant c.loop-j-test.true x.result x.ensures c.if-c-eq2.false c.next_place-j.result q

pub loop-j-preserved : goal.loop-j-preserved
loop-j-preserved c =
    let l = c.loop-j in
    let x = c.contest-c in
    let q : c.next_place-j.result ≡ next_of x.result.way l.j = rw c.next_place-j.ensures in
    round-next c.args.g c.args.i c.args.cuts l.list l.done l.j l.invariant c.loop-j-test.true x.result x.ensures c.if-c-eq2.false c.next_place-j.result q

pub overflow_add-result : goal.overflow_add-result
overflow_add-result c = let b = count-few c.args.g c.requires.0.held in search rules

pub returns : goal.returns
returns c =
    let l = c.loop-j in
    round-ends c.args.g c.args.i c.args.cuts l.list l.done l.j l.invariant c.loop-j-test.false
