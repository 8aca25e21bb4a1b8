-- `projection_table::table::node_entry` meets its contract.
use Prim.Native.Nat.{ℕ}
use mathlib.Core.Path.{sym, ◌∙◌, subst}
use native.Mathlib.Omega.{arith}
use Rattle.arena.specs.Layout.{decode as nodes}
use Rattle.arena.proofs.Layouts.{length-decode}
use Rattle.classes.specs.Layout.{decode as classes}
use Rattle.questions.proofs.Equality.{known-inside}
use Rattle.mappings.specs.Layout.{Checked}
use Rattle.projection_table.proofs.TableLaws.{says-whole, says_leaf, says_fails, says-open}
use Rattle.projection_table.proofs.table.node_entry.Goals as goal

pub narrow-requires : goal.narrow-requires
narrow-requires c =
    let k = c.requires.0.0.0 in
    omega (arith, k.below, k.holds.few)

pub whole_entry-whole-requires : goal.whole_entry-whole-requires
whole_entry-whole-requires c = rw c.narrow.ensures c.requires.0

pub returns-then-whole-ne0 : goal.returns-then-whole-ne0
returns-then-whole-ne0 c =
    let s = c.args in
    let p = c.requires in
    let q = rw c.narrow.ensures at c.whole_entry-whole.ensures in
    says-whole (nodes s.cells.now) (classes s.g) s.m p.0.0.0.holds.sound s.e (known-inside s.cells.now s.e p.0.0.0) c.whole_entry-whole.result q
    (subst (λ (n : ℕ). Checked n s.m) (sym (length-decode s.cells.now)) p.0.0.1) c.if-whole-ne0.true

pub child_count-requires : goal.child_count-requires
child_count-requires c = c.requires.0.0.0

pub returns-then-child_count-eq0 : goal.returns-then-child_count-eq0
returns-then-child_count-eq0 c =
    let s = c.args in
    let p = c.requires in
    let q = rw c.narrow.ensures at c.whole_entry-whole.ensures in
    says_leaf (nodes s.cells.now) (classes s.g) s.m p.0.0.0.holds.sound s.e (known-inside s.cells.now s.e p.0.0.0) c.whole_entry-whole.result q
    c.if-whole-ne0.false (sym c.child_count.ensures ∙ c.if-child_count-eq0.true)

pub children_project-requires : goal.children_project-requires
children_project-requires c = c.requires.0.0.0

pub returns-then-children_project : goal.returns-then-children_project
returns-then-children_project c =
    let s = c.args in
    let p = c.requires in
    let q = rw c.narrow.ensures at c.whole_entry-whole.ensures in
    says-open (nodes s.cells.now) (classes s.g) s.m p.0.0.0.holds.sound s.e (known-inside s.cells.now s.e p.0.0.0) c.whole_entry-whole.result q
    c.if-whole-ne0.false s.table.now p.1 (λ z. c.if-child_count-eq0.false (c.child_count.ensures ∙ z)) c.children_project.result c.children_project.ensures c.if-children_project.true

pub returns-else-children_project : goal.returns-else-children_project
returns-else-children_project c =
    let s = c.args in
    let p = c.requires in
    let q = rw c.narrow.ensures at c.whole_entry-whole.ensures in
    says_fails (nodes s.cells.now) (classes s.g) s.m p.0.0.0.holds.sound s.e (known-inside s.cells.now s.e p.0.0.0) c.whole_entry-whole.result q
    c.if-whole-ne0.false s.table.now p.1 c.children_project.result c.children_project.ensures c.if-children_project.false
