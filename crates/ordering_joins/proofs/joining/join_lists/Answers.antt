-- `ordering_joins::joining::join_lists` meets its contract.
use mathlib.Core.Path.{sym, subst, ◌∙◌}
use native.Mathlib.Nat.{mul-le-mul}
use native.Mathlib.Omega.{arith}
use borrow.Author.Rules.{rules}
use Rattle.arena.proofs.Refusals.{handed-on}
use Rattle.ordering_joins.specs.Inner.{Joined}
use Rattle.orderings.specs.declared.Orderings.{Orderings}
use Rattle.orderings.proofs.Codec.{count-few, place-held}
use Rattle.ordering_joins.proofs.JoinLoops.{join-none, join-many, joined-begins, joined-room, joined-on, joined-stops, joined-ends}
use Rattle.ordering_joins.proofs.joining.join_lists.Goals as goal

pub returns-then-m-eq0 : goal.returns-then-m-eq0
returns-then-m-eq0 c = join-none c.args.g c.args.h c.requires.0 c.requires.1 c.if-m-eq0.true

pub overflow_mul-n : goal.overflow_mul-n
overflow_mul-n c =
    let a = mul-le-mul (count-few c.args.g c.requires.0) (count-few c.args.h c.requires.1) in
    omega arith

pub returns-then-n-m-gt32 : goal.returns-then-n-m-gt32
returns-then-n-m-gt32 c = join-many c.args.g c.args.h c.requires.0 c.requires.1 c.if-m-eq0.false (omega (arith, c.if-n-m-gt32.true))

pub loop-j-init : goal.loop-j-init
loop-j-init c =
    subst (λ (y : Orderings). Joined c.args.g c.args.h 0 y) (sym c.no_orderings-list.ensures) (joined-begins c.args.g c.args.h c.requires.0 c.requires.1)

pub offset_bounds-h-j : goal.offset_bounds-h-j
offset_bounds-h-j c = let b = count-few c.args.h c.requires.1 in search rules

pub bounds-h-j : goal.bounds-h-j
bounds-h-j c = let b = count-few c.args.h c.requires.1 in search rules

pub suffix-requires : goal.suffix-requires
suffix-requires c =
    let l = c.loop-j in (
      (l.invariant.short, c.requires.0),
      (
        place-held c.args.h c.requires.1 l.j c.loop-j-test.true,
        joined-room c.args.g c.args.h c.requires.0 c.requires.1 c.if-m-eq0.false (omega arith) l.j l.list l.invariant c.loop-j-test.true,
      ),
    )

pub returns-in_err-list : goal.returns-in_err-list
returns-in_err-list c =
    let l = c.loop-j in
    handed-on _ _ c.from_residual.ensures.1
    ∙ joined-stops c.args.g c.args.h c.requires.0 c.requires.1 c.if-m-eq0.false (omega arith) l.j l.list l.invariant c.loop-j-test.true _ (sym c.in_err-list.was ∙ c.suffix.ensures)

pub loop-j-preserved : goal.loop-j-preserved
loop-j-preserved c =
    let l = c.loop-j in
    joined-on c.args.g c.args.h c.requires.0 c.requires.1 c.if-m-eq0.false (omega arith) l.j l.list l.invariant c.loop-j-test.true c.in_ok-list.list (sym c.in_ok-list.was ∙ c.suffix.ensures)

pub returns : goal.returns
returns c =
    let l = c.loop-j in
    joined-ends c.args.g c.args.h c.requires.0 c.requires.1 c.if-m-eq0.false (omega arith) l.j l.list l.invariant c.loop-j-test.false
