-- `orderings::pushing::extend` meets its contract.
use Rattle.std.proofs.Common.{refl, sym, ◌∙◌, arith, get_or}
use Rattle.orderings.specs.Layout.{keys_of}
use Rattle.arena.proofs.Refusals.{handed-on}
use Rattle.orderings.proofs.Codec.{size_is, key-is}
use Rattle.orderings.proofs.Extending.{extending-begins, extending-on, extending-stops, extending-ends}
use Rattle.orderings.proofs.pushing.extend.Goals as goal

pub loop-k-init : goal.loop-k-init
loop-k-init c = extending-begins (keys_of c.args.o) (keys_of c.args.p) c.args.o refl c.requires.0

pub push-requires : goal.push-requires
push-requires c = c.loop-k.invariant.short

pub returns-in_err-out : goal.returns-in_err-out
returns-in_err-out c =
    let l = c.loop-k in
    handed-on _ _ c.from_residual.ensures.1
    ∙ extending-stops (keys_of c.args.o) (keys_of c.args.p) l.k l.out l.invariant (get_or c.args.p.keys l.k 0) (omega (arith, size_is c.args.p)) (key-is c.args.p l.k c.loop-k-test.true) _ (sym c.in_err-out.was ∙ c.push.ensures)

pub loop-k-preserved : goal.loop-k-preserved
loop-k-preserved c =
    let l = c.loop-k in
    extending-on (keys_of c.args.o) (keys_of c.args.p) l.k l.out l.invariant (get_or c.args.p.keys l.k 0) (omega (arith, size_is c.args.p)) (key-is c.args.p l.k c.loop-k-test.true) c.in_ok-out.out (sym (c.in_ok-out.was) ∙ c.push.ensures)

pub returns : goal.returns
returns c =
    let l = c.loop-k in
    extending-ends (keys_of c.args.o) (keys_of c.args.p) l.k l.out l.invariant (omega (arith, size_is c.args.p))
