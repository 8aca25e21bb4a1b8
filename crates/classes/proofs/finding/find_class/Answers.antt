-- `classes::finding::find_class` meets its contract.
use mathlib.Core.Path.{sym, ◌∙◌}
use native.Mathlib.Omega.{arith}
use Rattle.laws.proofs.First.{first-hit, first_on, first_ends}
use Rattle.classes.specs.Layout.{sum_to}
use Rattle.classes.proofs.Numbers.{sum-next}
use Rattle.classes.proofs.Codec.{class-inside}
use Rattle.classes.proofs.Members.{Holds, class-begins, part-holds}
use borrow.Author.Rules.{rules}
use Rattle.classes.proofs.finding.find_class.Goals as goal

pub loop-i-init : goal.loop-i-init
unfolding sum_to
loop-i-init c = (search rules, (search rules, class-begins c.args.g c.args.e))

pub among-requires : goal.among-requires
among-requires c =
    omega (arith, class-inside c.args.g c.requires c.loop-i.i)

pub returns-then-among : goal.returns-then-among
returns-then-among c =
    let l = c.loop-i in
    sym (l.invariant.1.1 ∙ first-hit (Holds c.args.g c.args.e) c.args.g.count l.i (search rules) (part-holds c.args.g c.args.e l.i l.start c.among.result c.requires l.invariant.1.0 c.among.ensures ∙ c.if-among.true))

pub overflow_add-start : goal.overflow_add-start
overflow_add-start c =
    omega (arith, class-inside c.args.g c.requires c.loop-i.i)

pub loop-i-preserved : goal.loop-i-preserved
loop-i-preserved c =
    let l = c.loop-i in
    (search rules, (rw l.invariant.1.0 (sym (sum-next c.args.g.sizes l.i)), l.invariant.1.1 ∙ first_on (Holds c.args.g c.args.e) c.args.g.count l.i (search rules) (part-holds c.args.g c.args.e l.i l.start c.among.result c.requires l.invariant.1.0 c.among.ensures ∙ c.if-among.false)))

pub returns : goal.returns
returns c =
    let l = c.loop-i in
    sym (l.invariant.1.1 ∙ first_ends (Holds c.args.g c.args.e) c.args.g.count l.i (search rules))
