-- `dependency_orderings::construct_prefix_orderings` meets its contract.
use mathlib.Core.Path.{sym, ap, ◌∙◌}
use native.Mathlib.Omega.{arith}
use Prim.Native.Nat.{ℕ}
use Rattle.std.specs.Prelude.{Result}
use Rattle.arena.specs.declared.Refusal.{Refusal}
use Rattle.arena.proofs.Refusals.{handed-on}
use Rattle.dependencies.specs.Layout.{decode}
use Rattle.dependencies.proofs.MapCodec.{arrays_sized}
use Rattle.enumeration.specs.Walk.{prefix_orderings}
use Rattle.dependency_orderings.specs.Calls.{Answer, walk_answer}
use Rattle.dependency_orderings.specs.declared.Enumerated.{Enumerated}
use Rattle.dependency_orderings.proofs.AnswerLaws.{prefix-zero, prefix-passes, prefix-refused, prefix-answered, map-held, nodes-few}
use Rattle.dependency_orderings.proofs.construct_prefix_orderings.Goals as goal

pub returns-in_err-prefix_number : goal.returns-in_err-prefix_number
returns-in_err-prefix_number c =
    ap {B = Answer} (λ (r : Result Enumerated Refusal). (r, c.args.out.now)) (handed-on _ _ c.from_residual.ensures.1)
    ∙ prefix-refused c.args.cells.now c.args.map c.args.expr c.args.options _ (sym c.in_err-prefix_number.ensures) c.args.out.now

pub packed-requires : goal.packed-requires
packed-requires c =
    let x = c.args in
    let p = prefix-passes x.cells.now x.map x.expr x.options (prefix-zero x.cells.now x.map x.expr x.options (sym c.in_ok-prefix_number.ensures)) in
    (omega (arith, p.below, nodes-few x.cells.now x.map p.map), p.known)

pub answer_prefixes-requires : goal.answer_prefixes-requires
answer_prefixes-requires c =
    let x = c.args in
    let p = prefix-passes x.cells.now x.map x.expr x.options (prefix-zero x.cells.now x.map x.expr x.options (sym c.in_ok-prefix_number.ensures)) in
    map-held x.cells.now x.map p.map (arrays_sized x.map _ c.well_formed.1.0)

pub returns : goal.returns
returns c =
    let x = c.args in
    c.answer_prefixes.ensures ∙ ap (λ (k : ℕ). walk_answer (prefix_orderings (decode x.map) k) x.out.now) c.packed.ensures
    ∙ prefix-answered x.cells.now x.map x.expr x.options (prefix-zero x.cells.now x.map x.expr x.options (sym c.in_ok-prefix_number.ensures)) x.out.now
