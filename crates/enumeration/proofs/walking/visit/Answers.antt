-- `enumeration::walking::visit` meets its contract.
use mathlib.Core.List.{[], ◌∷◌}
use mathlib.Core.Path.{sym, ap, ◌∙◌, subst}
use native.Mathlib.Omega.{arith}
use borrow.Author.Tests.{not-true, not-false}
use Rattle.orderings.specs.Inner.{extended_of}
use Rattle.dependencies.specs.declared.DependencyNode.{DependencyNode}
use Rattle.std.specs.Prelude.{None, Ok}
use Rattle.enumeration.specs.Inner.{up_all, way_of, turned, Visited}
use Rattle.enumeration.specs.declared.DependencyEnumerator.{DependencyEnumerator}
use Rattle.enumeration.proofs.Turns.{node-is, visited_bare, visited_leaf, visited_open}
use Rattle.enumeration.proofs.walking.visit.Goals as goal

pub offset_bounds-m-place : goal.offset_bounds-m-place
offset_bounds-m-place c = omega (arith, c.requires.1, c.requires.0.0.map.few)

pub bounds-m-place : goal.bounds-m-place
bounds-m-place c = omega (arith, c.requires.1, c.requires.0.0.map.few)

pub returns-then-not-node : goal.returns-then-not-node
unfolding turned
returns-then-not-node c =
    let m = c.args.m in
    let i = c.args.place in
    let w = c.requires.0.0 in
    let q = node-is m w.map i c.requires.1 in
    visited_bare m i c.requires.1 c.args.walk.now w (ap (λ (r : DependencyNode). r.projected) (sym q) ∙ not-true _ c.if-not-node.true)

pub way_up-requires : goal.way_up-requires
way_up-requires c = c.requires.0.0

pub returns-then-node-eq0 : goal.returns-then-node-eq0
unfolding turned
returns-then-node-eq0 c =
    let m = c.args.m in
    let i = c.args.place in
    let w = c.requires.0.0 in
    let q = node-is m w.map i c.requires.1 in
    visited_leaf m i c.requires.1 c.args.walk.now w c.way_up.result (ap (λ (r : DependencyNode). r.projected) (sym q) ∙ not-false _ c.if-not-node.false)
    (ap (λ (r : DependencyNode). r.size) (sym q) ∙ c.if-node-eq0.true)
    (c.way_up.ensures ∙ ap (λ (r : DependencyNode). extended_of (up_all (way_of m c.args.walk.now) (r.target ∷ []))) q)

pub go_down-requires : goal.go_down-requires
go_down-requires c = omega (arith, c.requires.0.1)

pub returns : goal.returns
unfolding turned
returns c =
    let m = c.args.m in
    let i = c.args.place in
    let w = c.requires.0.0 in
    let q = node-is m w.map i c.requires.1 in
    subst (λ (e : DependencyEnumerator). Visited m c.args.walk.now i (Ok (record { leaf = None; walk = e }))) (sym c.go_down.ensures)
    (visited_open m i c.requires.1 c.args.walk.now w c.requires.0.1 (ap (λ (r : DependencyNode). r.projected) (sym q) ∙ not-false _ c.if-not-node.false)
    (λ z. c.if-node-eq0.false (ap (λ (r : DependencyNode). r.size) q ∙ z)))
