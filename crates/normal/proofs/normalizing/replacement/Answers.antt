-- `normal::normalizing::replacement` meets its contract.
use native.Mathlib.Omega.{arith}
use Rattle.normal.proofs.Rewriting.{replacement-old, replacement-new}
use Rattle.normal.proofs.normalizing.replacement.Goals as goal

pub returns-then-e-old : goal.returns-then-e-old
returns-then-e-old c =
    rw c.wide-e.ensures (replacement-old c.args.old c.args.firsts.now c.args.i (omega (arith, c.if-e-old.true, c.wide-e.ensures)))

pub returns-else-e-old : goal.returns-else-e-old
returns-else-e-old c =
    replacement-new c.args.old c.args.firsts.now c.args.i (omega (arith, c.if-e-old.false, c.wide-e.ensures))
