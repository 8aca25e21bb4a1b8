-- `group_checks::checking::classes_uniform` meets its contract.
use mathlib.Core.Path.{sym, ◌∙◌}
use native.Mathlib.Omega.{arith}
use borrow.Author.Rules.{rules}
use Rattle.laws.proofs.Each.{each_none, each_more, each-stops, each-ends}
use Rattle.arena.specs.Layout.{decode as nodes}
use Rattle.classes.specs.Layout.{uniform_at}
use Rattle.classes.proofs.Numbers.{sum-none, sum-next, sum-holds}
use Rattle.group_checks.proofs.checking.classes_uniform.Goals as goal

pub loop-j-init : goal.loop-j-init
loop-j-init c =
    (search rules, (sym (sum-none c.args.g.sizes), each_none (λ j. uniform_at (nodes c.args.cells.now) c.args.g j)))

pub uniform_class-requires : goal.uniform_class-requires
uniform_class-requires c =
    ((c.requires.0, search rules), (c.loop-j.invariant.1.0, omega (arith, sum-holds c.args.g.sizes c.loop-j.j c.args.g.count (search rules))))

pub returns-then-not-uniform_class : goal.returns-then-not-uniform_class
returns-then-not-uniform_class c =
    let x = c.args in
    each-stops (λ j. uniform_at (nodes x.cells.now) x.g j) x.g.count c.loop-j.j (search rules) (sym c.uniform_class.ensures ∙ c.if-not-uniform_class.true)

pub overflow_add-start : goal.overflow_add-start
overflow_add-start c =
    omega (arith, sum-holds c.args.g.sizes c.loop-j.j c.args.g.count (search rules))

pub loop-j-preserved : goal.loop-j-preserved
loop-j-preserved c =
    let x = c.args in
    (search rules, (omega (arith, sum-next x.g.sizes c.loop-j.j), each_more (λ j. uniform_at (nodes x.cells.now) x.g j) c.loop-j.j c.loop-j.invariant.1.1 (sym c.uniform_class.ensures ∙ c.if-not-uniform_class.false)))

pub returns : goal.returns
returns c =
    let x = c.args in
    each-ends (λ j. uniform_at (nodes x.cells.now) x.g j) x.g.count c.loop-j.j (search rules) (search rules) c.loop-j.invariant.1.1
