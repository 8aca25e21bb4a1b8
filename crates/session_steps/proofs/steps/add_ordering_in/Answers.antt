-- `session_steps::steps::add_ordering_in` meets its contract.
use Prim.Native.Nat.{ℕ, ◌+◌, ◌*◌}
use mathlib.Core.Bool.{true, false}
use mathlib.Core.Path.{◌≡◌, sym, ap, ◌∙◌, subst}
use native.Mathlib.Omega.{arith}
use lib.Dec.{ltb, leb}
use lib.ListN.{length, take}
use lib.Seq.{length-take-le}
use Rattle.laws.specs.Tests.{each}
use Rattle.arena.specs.Layout.{decode as nodes_in}
use Rattle.arena.proofs.Layouts.{length-decode}
use Rattle.reduction.specs.Inner.{LentFit}
use Rattle.records.specs.Record.{keys_in}
use Rattle.session_steps.specs.State.{key_expr, key_options}
use Rattle.session_steps.proofs.Bodies.{count-keys}
use Rattle.session_steps.proofs.KeyNumbers.{lent-fit}
use Rattle.session_steps.proofs.Deciding.{ordering-options, ordering-unknown, ordering-added}
use Rattle.session_steps.proofs.steps.add_ordering_in.Goals as goal

pub returns-then-not-options_known : goal.returns-then-not-options_known
returns-then-not-options_known c =
    let m = count-keys c.args.body.now c.args.n c.requires.1.0 in
    let o : each (λ k. leb (key_options (keys_in c.args.body.now) k) 3) (length (keys_in c.args.body.now)) ≡ false = ap (λ (i : ℕ). each (λ k. leb (key_options (keys_in c.args.body.now) k) 3) i) m ∙ sym c.options_known.ensures ∙ c.if-not-options_known.true in
    ordering-options (keys_in c.args.body.now) (nodes_in c.args.cells.now) c.args.list c.requires.0.1 o

pub returns-then-not-exprs_below : goal.returns-then-not-exprs_below
returns-then-not-exprs_below c =
    let m = count-keys c.args.body.now c.args.n c.requires.1.0 in
    let o : each (λ k. leb (key_options (keys_in c.args.body.now) k) 3) (length (keys_in c.args.body.now)) ≡ true = ap (λ (i : ℕ). each (λ k. leb (key_options (keys_in c.args.body.now) k) 3) i) m ∙ sym c.options_known.ensures ∙ c.if-not-options_known.false in
    let e : length (nodes_in c.args.cells.now) ≡ c.node_count-count.result = length-decode c.args.cells.now ∙ sym c.node_count-count.ensures in
    let x : each (λ k. ltb (key_expr (keys_in c.args.body.now) k) (length (nodes_in c.args.cells.now))) (length (keys_in c.args.body.now)) ≡ false =
    ap (λ (i : ℕ). each (λ k. ltb (key_expr (keys_in c.args.body.now) k) (length (nodes_in c.args.cells.now))) i) m ∙ ap (λ (j : ℕ). each (λ k. ltb (key_expr (keys_in c.args.body.now) k) j) c.args.n) e ∙ sym c.exprs_below.ensures ∙ c.if-not-exprs_below.true in
    ordering-unknown (keys_in c.args.body.now) (nodes_in c.args.cells.now) c.args.list c.requires.0.1 o x

pub slice_bounds-add_in-end : goal.slice_bounds-add_in-end
slice_bounds-add_in-end c =
    sym (length-take-le (1 + 2 * c.args.n) c.lent_keys-numbers.result (omega (arith, c.lent_keys-numbers.ensures.0, c.requires.1.1)))

pub add_in-requires : goal.add_in-requires
add_in-requires c =
    let m = count-keys c.args.body.now c.args.n c.requires.1.0 in
    let o : each (λ k. leb (key_options (keys_in c.args.body.now) k) 3) (length (keys_in c.args.body.now)) ≡ true = ap (λ (i : ℕ). each (λ k. leb (key_options (keys_in c.args.body.now) k) 3) i) m ∙ sym c.options_known.ensures ∙ c.if-not-options_known.false in
    let e : length (nodes_in c.args.cells.now) ≡ c.node_count-count.result = length-decode c.args.cells.now ∙ sym c.node_count-count.ensures in
    let x : each (λ k. ltb (key_expr (keys_in c.args.body.now) k) (length (nodes_in c.args.cells.now))) (length (keys_in c.args.body.now)) ≡ true =
    ap (λ (i : ℕ). each (λ k. ltb (key_expr (keys_in c.args.body.now) k) (length (nodes_in c.args.cells.now))) i) m ∙ ap (λ (j : ℕ). each (λ k. ltb (key_expr (keys_in c.args.body.now) k) j) c.args.n) e ∙ sym c.exprs_below.ensures ∙ c.if-not-exprs_below.false in
    (c.requires.0.1, subst LentFit (sym c.lent_keys-numbers.ensures.1) (lent-fit (keys_in c.args.body.now) (length (nodes_in c.args.cells.now)) (omega (arith, length-decode c.args.cells.now, c.requires.0.0.few)) o x))

pub returns : goal.returns
returns c =
    let m = count-keys c.args.body.now c.args.n c.requires.1.0 in
    let o : each (λ k. leb (key_options (keys_in c.args.body.now) k) 3) (length (keys_in c.args.body.now)) ≡ true = ap (λ (i : ℕ). each (λ k. leb (key_options (keys_in c.args.body.now) k) 3) i) m ∙ sym c.options_known.ensures ∙ c.if-not-options_known.false in
    let e : length (nodes_in c.args.cells.now) ≡ c.node_count-count.result = length-decode c.args.cells.now ∙ sym c.node_count-count.ensures in
    let x : each (λ k. ltb (key_expr (keys_in c.args.body.now) k) (length (nodes_in c.args.cells.now))) (length (keys_in c.args.body.now)) ≡ true =
    ap (λ (i : ℕ). each (λ k. ltb (key_expr (keys_in c.args.body.now) k) (length (nodes_in c.args.cells.now))) i) m ∙ ap (λ (j : ℕ). each (λ k. ltb (key_expr (keys_in c.args.body.now) k) j) c.args.n) e ∙ sym c.exprs_below.ensures ∙ c.if-not-exprs_below.false in
    c.add_in.ensures ∙ ordering-added (keys_in c.args.body.now) (nodes_in c.args.cells.now) c.args.list c.requires.0.1 o x (take (1 + 2 * c.args.n) c.lent_keys-numbers.result) c.lent_keys-numbers.ensures.1
