-- `reduction::lent::build` meets its contract.
use Rattle.std.proofs.Common.{◌<◌, ◌+◌, ◌*◌, [], sym, ap, ◌∙◌, arith, rules}
use Rattle.arena.proofs.Refusals.{handed-on}
use Rattle.orderings.specs.Ordering.{built}
use Rattle.reduction.specs.Lent.{key_count, keys_lent}
use Rattle.orderings.specs.Layout.{keys_of}
use Rattle.orderings.proofs.Codec.{keys-row}
use Rattle.orderings.proofs.Extending.{row-short, extending-begins, extending-on, extending-stops, extending-ends}
use Rattle.reduction.proofs.LentLaws.{length-keys, key-lent}
use Rattle.reduction.proofs.lent.build.Goals as goal

pub loop-k-init : goal.loop-k-init
loop-k-init c =
    let x = c.args in
    extending-begins [] (keys_lent x.numbers.now x.at) c.nothing-out.result (ap keys_of c.nothing-out.ensures ∙ keys-row []) (rw c.nothing-out.ensures (row-short [] (omega arith)))

pub overflow_cast-key : goal.overflow_cast-key
overflow_cast-key c =
    let l = c.loop-k in
    let ns = c.args.numbers.now in
    let at = c.args.at in
    let b : l.k < key_count ns at = omega (arith, c.number_at-k-end.ensures.0, c.loop-k-test.true) in
    let u = c.requires.exprs l.k b in
    let v = c.requires.options l.k b in
    search rules

pub push-requires : goal.push-requires
push-requires c = c.loop-k.invariant.short

pub returns-in_err-out : goal.returns-in_err-out
unfolding built
returns-in_err-out c =
    let l = c.loop-k in
    let ns = c.args.numbers.now in
    let at = c.args.at in
    let b : l.k < key_count ns at = omega (arith, c.number_at-k-end.ensures.0, c.loop-k-test.true) in
    handed-on _ _ c.from_residual.ensures.1
    ∙ extending-stops [] (keys_lent ns at) l.k l.out l.invariant (c.number_at.result * 4 + c.number_at-in-loop-k.result) (omega (arith, length-keys ns at)) (omega (arith, key-lent ns at l.k b)) _ (sym c.in_err-out.was ∙ c.push.ensures)

pub loop-k-preserved : goal.loop-k-preserved
loop-k-preserved c =
    let l = c.loop-k in
    let ns = c.args.numbers.now in
    let at = c.args.at in
    let b : l.k < key_count ns at = omega (arith, c.number_at-k-end.ensures.0, c.loop-k-test.true) in
    extending-on [] (keys_lent ns at) l.k l.out l.invariant (c.number_at.result * 4 + c.number_at-in-loop-k.result) (omega (arith, length-keys ns at)) (omega (arith, key-lent ns at l.k b)) c.in_ok-out.out (sym c.in_ok-out.was ∙ c.push.ensures)

pub returns : goal.returns
unfolding built
returns c =
    let l = c.loop-k in
    let ns = c.args.numbers.now in
    let at = c.args.at in
    extending-ends [] (keys_lent ns at) l.k l.out l.invariant (omega (arith, length-keys ns at, c.number_at-k-end.ensures.0, c.loop-k-test.false))
