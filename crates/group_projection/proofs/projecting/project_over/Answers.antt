-- `group_projection::projecting::project_over` meets its contract.
use mathlib.Core.Bool.{true, false}
use mathlib.Core.Path.{refl, sym}
use native.Mathlib.Omega.{arith}
use lib.ListN.{take}
use lib.Seq.{length-take-le}
use Rattle.classes.proofs.Codec.{length-members}
use Rattle.group_projection.proofs.ProjectLaws.{walk-ready, walk-full, forms-ready, forms-full, group-ready, group-made}
use Rattle.group_projection.proofs.projecting.project_over.Goals as goal

pub class_firsts-firsts-requires : goal.class_firsts-firsts-requires
class_firsts-firsts-requires c =
    let n = c.node_count-old in
    (c.requires.0.1.coded, omega (arith, n.ensures, c.requires.0.0.few))

pub slice_bounds-members-end : goal.slice_bounds-members-end
slice_bounds-members-end c =
    omega (arith, length-members c.args.g c.requires.0.1.coded, c.requires.0.1.coded.small)

pub slice_bounds-project_all-end : goal.slice_bounds-project_all-end
slice_bounds-project_all-end c =
    sym (length-take-le c.args.g.used c.args.g.members (omega (arith, length-members c.args.g c.requires.0.1.coded, c.requires.0.1.coded.small)))

pub project_all-requires : goal.project_all-requires
project_all-requires c =
    let p = c.projection_table-table in
    let f = c.class_firsts-firsts in
    let n = c.node_count-old in
    walk-ready c.args.cells.now c.args.g c.args.m c.requires n.result f.result p.result n.ensures f.ensures p.ensures

pub returns-then-not-project_all : goal.returns-then-not-project_all
returns-then-not-project_all c =
    let w = c.project_all in
    let p = c.projection_table-table in
    let f = c.class_firsts-firsts in
    let n = c.node_count-old in
    walk-full c.args.cells.now c.args.g c.args.m c.requires n.result f.result p.result n.ensures f.ensures p.ensures w.new.cells w.new.table w.result w.ensures c.if-not-project_all.true

pub source_forms-requires : goal.source_forms-requires
source_forms-requires c =
    let w = c.project_all in
    let p = c.projection_table-table in
    let f = c.class_firsts-firsts in
    let n = c.node_count-old in
    forms-ready c.args.cells.now c.args.g c.args.m c.requires n.result f.result p.result n.ensures f.ensures p.ensures w.new.cells w.new.table w.result w.ensures c.if-not-project_all.false

pub returns-in_default : goal.returns-in_default
returns-in_default c =
    let o = c.source_forms in
    let w = c.project_all in
    let p = c.projection_table-table in
    let f = c.class_firsts-firsts in
    let n = c.node_count-old in
    forms-full c.args.cells.now c.args.g c.args.m c.requires n.result f.result p.result n.ensures f.ensures p.ensures w.new.cells w.new.table w.result w.ensures c.if-not-project_all.false o.new.cells false _ (rw c.in_default.is at o.ensures.0) refl

pub projected_group-requires : goal.projected_group-requires
projected_group-requires c =
    let o = c.source_forms in
    let w = c.project_all in
    let p = c.projection_table-table in
    let f = c.class_firsts-firsts in
    let n = c.node_count-old in
    group-ready c.args.cells.now c.args.g c.args.m c.requires n.result f.result p.result n.ensures f.ensures p.ensures w.new.cells w.new.table w.result w.ensures c.if-not-project_all.false o.new.cells true (take c.args.m.count c.in-Ok.numbers) (rw c.in-Ok.is at o.ensures.0)

pub returns : goal.returns
returns c =
    let o = c.source_forms in
    let w = c.project_all in
    let p = c.projection_table-table in
    let f = c.class_firsts-firsts in
    let n = c.node_count-old in
    group-made c.args.cells.now c.args.g c.args.m c.requires n.result f.result p.result n.ensures f.ensures p.ensures w.new.cells w.new.table w.result w.ensures c.if-not-project_all.false o.new.cells true (take c.args.m.count c.in-Ok.numbers) (rw c.in-Ok.is at o.ensures.0) c.projected_group.result refl c.projected_group.ensures
