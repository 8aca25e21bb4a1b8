-- `dependencies::inserting::replace` meets its contract.
use mathlib.Core.Path.{sym, ap, ◌∙◌, subst}
use native.Mathlib.Omega.{arith}
use Rattle.dependencies.specs.Calls.{key_of}
use Rattle.dependencies.specs.Inner.{Coded, extended_by}
use Rattle.dependencies.specs.declared.DependencyNode.{DependencyNode}
use Rattle.dependencies.proofs.MapChecks.{sized, read_is}
use Rattle.dependencies.proofs.MapInserts.{replaced-full, replaced}
use Rattle.dependencies.proofs.inserting.replace.Goals as goal

pub offset_bounds-m-i : goal.offset_bounds-m-i
offset_bounds-m-i c = omega (arith, c.requires.0.1)

pub bounds-m-i : goal.bounds-m-i
bounds-m-i c = omega (arith, c.requires.0.1)

pub extend-requires : goal.extend-requires
extend-requires c =
    let m = c.args.m in
    let i = c.args.i in
    let h = c.requires.0.0 in
    let l = c.requires.0.1 in
    (subst Coded (sym (read_is m (sized m _ c.well_formed.0) i (omega (arith, h.few)))) (h.entries i l), c.requires.1)

pub returns-in-Err : goal.returns-in-Err
returns-in-Err c =
    let m = c.args.m in
    let i = c.args.i in
    let h = c.requires.0.0 in
    let d = key_of c.args.dependency in
    c.refusal.ensures
    ∙ replaced-full m h i c.requires.0.1 d c.in-Err.why (sym c.in-Err.is ∙ c.extend.ensures ∙ ap (λ (r : DependencyNode). extended_by r d) (read_is m (sized m _ c.well_formed.0) i (omega (arith, h.few))))

pub offset_bounds-next-i : goal.offset_bounds-next-i
offset_bounds-next-i c = omega (arith, c.requires.0.1)

pub bounds-next-i : goal.bounds-next-i
bounds-next-i c = omega (arith, c.requires.0.1)

pub returns-in-Ok : goal.returns-in-Ok
returns-in-Ok c =
    let m = c.args.m in
    let i = c.args.i in
    let h = c.requires.0.0 in
    let d = key_of c.args.dependency in
    replaced m h i c.requires.0.1 d c.in-Ok.node (sym c.in-Ok.is ∙ c.extend.ensures ∙ ap (λ (r : DependencyNode). extended_by r d) (read_is m (sized m _ c.well_formed.0) i (omega (arith, h.few))))
