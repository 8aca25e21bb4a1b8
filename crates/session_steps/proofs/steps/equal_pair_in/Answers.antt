-- `session_steps::steps::equal_pair_in` meets its contract.
use Rattle.arena.specs.declared.Refusal.TheVariants.{UnknownExpression}
use Rattle.arena.specs.Refusals.{refusal}
use Prim.Native.Nat.{◌<◌, ◌≤◌}
use mathlib.Core.Path.{refl, sym, ap, ◌∙◌}
use native.Mathlib.Omega.{arith}
use lib.ListN.{length}
use Rattle.arena.specs.Layout.{decode as nodes_in}
use Rattle.arena.proofs.Layouts.{length-decode}
use Rattle.classes.specs.Layout.{decode}
use Rattle.classes.specs.Calls.{changed}
use Rattle.conditions.proofs.Calling.{add_left, add_right, add-both}
use Rattle.classes.proofs.Judging.{refusal_is, handed_back_lem}
use Rattle.session_steps.proofs.steps.equal_pair_in.Goals as goal

pub returns-then-n-index : goal.returns-then-n-index
unfolding refusal
returns-then-n-index c =
    let l : length (nodes_in c.args.cells.now) ≤ c.args.a = omega (arith, length-decode c.args.cells.now, c.node_count-n.ensures, c.index.ensures.0, c.if-n-index.true) in
    refusal_is c.refusal.result UnknownExpression c.args.g c.refusal.ensures
    ∙ sym (ap (changed c.args.g.limit) (add_left c.args.g.limit (nodes_in c.args.cells.now) (decode c.args.g) c.args.a c.args.b l) ∙ handed_back_lem c.args.g 1 refl c.requires.1.coded)

pub returns-then-n-index-2 : goal.returns-then-n-index-2
unfolding refusal
returns-then-n-index-2 c =
    let l : length (nodes_in c.args.cells.now) ≤ c.args.b = omega (arith, length-decode c.args.cells.now, c.node_count-n.ensures, c.index-2.ensures.0, c.if-n-index-2.true) in
    refusal_is c.refusal-then-n-index-2.result UnknownExpression c.args.g c.refusal-then-n-index-2.ensures
    ∙ sym (ap (changed c.args.g.limit) (add_right c.args.g.limit (nodes_in c.args.cells.now) (decode c.args.g) c.args.a c.args.b l) ∙ handed_back_lem c.args.g 1 refl c.requires.1.coded)

pub equal_condition_in-requires : goal.equal_condition_in-requires
equal_condition_in-requires c = (
  c.requires.1,
  (record { holds = c.requires.0; below = omega (arith, c.node_count-n.ensures, c.index.ensures.0, c.if-n-index.false) }, record { holds = c.requires.0; below = omega (arith, c.node_count-n.ensures, c.index-2.ensures.0, c.if-n-index-2.false) }),
)

pub returns : goal.returns
returns c =
    let l : c.args.a < length (nodes_in c.args.cells.now) = omega (arith, length-decode c.args.cells.now, c.node_count-n.ensures, c.index.ensures.0, c.if-n-index.false) in
    let m : c.args.b < length (nodes_in c.args.cells.now) = omega (arith, length-decode c.args.cells.now, c.node_count-n.ensures, c.index-2.ensures.0, c.if-n-index-2.false) in
    rw (c.from.ensures, c.from-2.ensures) at c.equal_condition_in.ensures ∙ sym (ap (changed c.args.g.limit) (add-both c.args.g.limit (nodes_in c.args.cells.now) (decode c.args.g) c.args.a c.args.b l m))
