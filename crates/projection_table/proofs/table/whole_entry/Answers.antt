-- `projection_table::table::whole_entry` meets its contract.
use mathlib.Core.Path.{sym, ap, ◌∙◌}
use native.Mathlib.Omega.{arith}
use borrow.Author.Tests.{eq-eqb, ne_eqb}
use Rattle.arena.specs.Layout.{count, decode as nodes}
use Rattle.classes.specs.Group.{same_class}
use Rattle.classes.specs.Layout.{decode as classes}
use Rattle.group_checks.proofs.Checks.{literal-cell}
use Rattle.questions.specs.Inner.{same_place}
use Rattle.questions.proofs.PlaceNumbers.{same-placed}
use Rattle.mappings.specs.Layout.{decode}
use Rattle.projection_table.specs.Inner.{entry_of}
use Rattle.projection_table.proofs.Sources.{checked-wider, target-same}
use Rattle.projection_table.proofs.Becoming.{becomes-own, becomes-literal, becomes-class}
use Rattle.projection_table.proofs.table.whole_entry.Goals as goal

pub source_entry-own-requires : goal.source_entry-own-requires
source_entry-own-requires c = checked-wider (count c.args.cells.now) 1024 c.args.m c.requires.0.1 c.requires.0.0.holds.few

pub returns-then-own-ne0 : goal.returns-then-own-ne0
returns-then-own-ne0 c =
    let s = c.args in
    becomes-own (nodes s.cells.now) (classes s.g) (decode s.m) s.e c.source_entry-own.result c.source_entry-own.ensures c.if-own-ne0.true

pub cell_of-requires : goal.cell_of-requires
cell_of-requires c =
    let k = c.requires.0.0 in
    (omega (arith, k.below, k.holds.few, c.wide.ensures), omega arith)

pub overflow_add-result : goal.overflow_add-result
overflow_add-result c =
    let k = c.requires.0.0 in
    omega (arith, k.below, k.holds.few)

pub returns-then-cell_of-eq2 : goal.returns-then-cell_of-eq2
returns-then-cell_of-eq2 c =
    let s = c.args in
    let k = c.requires.0.0 in
    let own = c.source_entry-own in
    let kind = rw c.wide.ensures at c.cell_of.ensures in
    becomes-literal (nodes s.cells.now) (classes s.g) (decode s.m) s.e own.result own.ensures c.if-own-ne0.false
    (literal-cell s.cells.now s.e k.below ∙ eq-eqb _ _ (sym kind ∙ c.if-cell_of-eq2.true))

pub class_entry-requires : goal.class_entry-requires
class_entry-requires c =
    let k = c.requires.0.0 in
    (checked-wider (count c.args.cells.now) 1024 c.args.m c.requires.0.1 k.holds.few, omega (arith, k.below, k.holds.few))

pub returns : goal.returns
returns c =
    let s = c.args in
    let p = c.requires in
    let own = c.source_entry-own in
    let kind = rw c.wide.ensures at c.cell_of.ensures in
    let n = count s.cells.now in
    becomes-class (nodes s.cells.now) (classes s.g) (decode s.m) s.e own.result own.ensures c.if-own-ne0.false
    (literal-cell s.cells.now s.e p.0.0.below ∙ ne_eqb _ _ (λ z. c.if-cell_of-eq2.false (kind ∙ z)))
    c.class_entry.result
    (c.class_entry.ensures
    ∙ ap entry_of (target-same (λ x. same_place s.places.now x s.e) (λ x. same_class (classes s.g) x s.e) n s.m p.0.1
    (λ x b. same-placed (classes s.g) n s.places.now p.1 x s.e b p.0.0.below)))
