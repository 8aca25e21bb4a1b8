-- `session_steps::steps::equality_in` meets its contract.
use Prim.Native.Nat.{◌<◌, ◌≤◌}
use mathlib.Core.Path.{sym, ap}
use native.Mathlib.Omega.{arith}
use lib.ListN.{length}
use Rattle.arena.specs.Layout.{decode as nodes_in}
use Rattle.arena.proofs.Layouts.{length-decode}
use Rattle.classes.specs.Layout.{decode}
use Rattle.questions.proofs.Calling.{equal-left, equal-right}
use Rattle.session_steps.specs.State.{equality_reply}
use Rattle.session_steps.specs.Inner.{said_of}
use Rattle.session_steps.proofs.Deciding.{equality-said}
use Rattle.questions.specs.Calls.{Answer}
use Rattle.arena.specs.Refusals.{refusal}
use Rattle.session_steps.proofs.steps.equality_in.Goals as goal

pub returns-then-n-index : goal.returns-then-n-index
unfolding said_of equality_reply refusal
returns-then-n-index c =
    let l : length (nodes_in c.args.cells.now) ≤ c.args.a = omega (arith, length-decode c.args.cells.now, c.node_count-n.ensures, c.index.ensures.0, c.if-n-index.true) in
    sym (ap (λ (x : Answer). said_of (equality_reply c.args.a c.args.b x)) (equal-left (nodes_in c.args.cells.now) (decode c.args.g) c.args.a c.args.b l))

pub returns-then-n-index-2 : goal.returns-then-n-index-2
unfolding said_of equality_reply refusal
returns-then-n-index-2 c =
    let l : length (nodes_in c.args.cells.now) ≤ c.args.b = omega (arith, length-decode c.args.cells.now, c.node_count-n.ensures, c.index-2.ensures.0, c.if-n-index-2.true) in
    sym (ap (λ (x : Answer). said_of (equality_reply c.args.a c.args.b x)) (equal-right (nodes_in c.args.cells.now) (decode c.args.g) c.args.a c.args.b l))

pub equal_in-requires : goal.equal_in-requires
equal_in-requires c =
    ((record { holds = c.requires.0; below = omega (arith, c.node_count-n.ensures, c.index.ensures.0, c.if-n-index.false) }, record { holds = c.requires.0; below = omega (arith, c.node_count-n.ensures, c.index-2.ensures.0, c.if-n-index-2.false) }), c.requires.1.coded)

pub returns : goal.returns
returns c =
    let l : c.args.a < length (nodes_in c.args.cells.now) = omega (arith, length-decode c.args.cells.now, c.node_count-n.ensures, c.index.ensures.0, c.if-n-index.false) in
    let m : c.args.b < length (nodes_in c.args.cells.now) = omega (arith, length-decode c.args.cells.now, c.node_count-n.ensures, c.index-2.ensures.0, c.if-n-index-2.false) in
    rw (c.from-left.ensures, c.from-right.ensures) (equality-said (nodes_in c.args.cells.now) (decode c.args.g) c.args.a c.args.b l m c.equal_in.result (rw (c.from-left.ensures, c.from-right.ensures) at c.equal_in.ensures))
