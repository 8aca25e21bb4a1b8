-- The public calls by their tests: what was lent has passed, and the outcome in each case.
use Prim.Native.Nat.{ℕ, ◌<◌, ◌≤◌}
use mathlib.Core.Bool.{Bool, true, false}
use mathlib.Core.List.{List}
use mathlib.Core.Path.{◌≡◌, sym, ap, ◌∙◌, subst}
use native.Mathlib.Omega.{arith}
use borrow.Author.Tests.{lt-ltb, le-ltb, ltb-true}
use lib.Dec.{ltb}
use lib.ListN.{length, get_or}
use Rattle.laws.specs.Tests.{each}
use Rattle.laws.proofs.Each.{each_holds}
use Rattle.std.specs.Prelude.{Err}
use Rattle.arena.specs.declared.Refusal.TheVariants.{UnknownExpression}
use Rattle.arena.specs.Refusals.{refusal}
use Rattle.arena.specs.Layout.{count, decode as nodes}
use Rattle.arena.specs.Calls.{in_cells}
use Rattle.arena.specs.Inner.{Holds}
use Rattle.arena.proofs.Layouts.{length-decode, coded-cells, lawful-holds}
use Rattle.classes.specs.Layout.{decode as classes}
use Rattle.classes.specs.declared.Group.{Group}
use Rattle.group_checks.proofs.HeldLaws.{number-lawful}
use Rattle.normal.proofs.Calling.{checked-done}
use Rattle.mappings.specs.Mapping.{Mapped}
use Rattle.mappings.specs.Lent.{mapping_lent}
use Rattle.mappings.specs.Layout.{decode, Checked}
use Rattle.mappings.specs.Calls.{project_number}
use Rattle.mappings.specs.declared.Mapping.{Mapping}
use Rattle.mappings.proofs.MappingChecked.{mapping-checked, group-passes}
use Rattle.projection_table.specs.Projecting.{projection, project_all}
use Rattle.projection.specs.Calls.{Projected, projected_answer, project_expr, projected_expr, written_answer, project_expressions, projected_expressions}

-- the expressions of a list are below n
abbrev pub all_below : List ℕ → ℕ → Bool
all_below es n = each (λ k. ltb (get_or es k 0) n) (length es)

-- each of them is
pub each_below : (es : List ℕ) (n : ℕ) → all_below es n ≡ true → (k : ℕ) → k < length es → get_or es k 0 < n
each_below es n t k l = ltb-true (get_or es k 0) n (each_holds (λ k. ltb (get_or es k 0) n) (length es) k t l)

-- what was lent passed
module _ (cells numbers : List ℕ) (g : Group) (z : project_number cells g numbers ≡ 0) where
  pub lent-holds : Holds cells
  lent-holds = lawful-holds cells (number-lawful cells g (group-passes cells numbers g z))

  pub lent-checked : (m : Mapping) → decode m ≡ mapping_lent numbers → m.count ≤ 64 → Checked (count cells) m
  lent-checked m q l = subst (λ (n : ℕ). Checked n m) (length-decode cells) (mapping-checked cells numbers g m z q l)

  -- the projection of an expression
  module _ (e : ℕ) where
    expr-done : projected_expr e numbers cells g ≡ in_cells (project_expr e (mapping_lent numbers) (nodes cells) (classes g))
    expr-done = checked-done (project_number cells g numbers) (λ k. Err (refusal k)) (project_expr e (mapping_lent numbers)) cells g z

    -- it is unknown
    pub expr-unknown : count cells ≤ e → ◌≡◌ {A = Projected × List ℕ} (Err UnknownExpression, cells) (projected_expr e numbers cells g)
    unfolding project_expr in_cells
    expr-unknown l =
        let m : length (nodes cells) ≤ e = omega (arith, length-decode cells) in
        sym (expr-done ∙ rw (le-ltb e (length (nodes cells)) m, coded-cells cells lent-holds))

    -- it is known
    pub expr-known : e < count cells → (m : Mapping) → decode m ≡ mapping_lent numbers → (o : Projected × List ℕ) → o ≡ in_cells (projected_answer (nodes cells) (projection (nodes cells) (classes g) (decode m) e)) → o ≡ projected_expr e numbers cells g
    unfolding project_expr
    expr-known l m q o is =
        let b : e < length (nodes cells) = omega (arith, length-decode cells) in
        is
        ∙ ap (λ (ps : List Mapped). in_cells (projected_answer (nodes cells) (projection (nodes cells) (classes g) ps e))) q
        ∙ sym (expr-done ∙ rw (lt-ltb e (length (nodes cells)) b))

  -- the projections of a list of expressions
  module _ (es out : List ℕ) where
    exprs-done : projected_expressions es out numbers cells g ≡ in_cells (project_expressions es out (mapping_lent numbers) (nodes cells) (classes g))
    exprs-done = checked-done (project_number cells g numbers) (λ k. (k, out)) (project_expressions es out (mapping_lent numbers)) cells g z

    test : all_below es (length (nodes cells)) ≡ all_below es (count cells)
    test = ap (all_below es) (length-decode cells)

    -- one is unknown
    pub exprs-unknown : all_below es (count cells) ≡ false → ◌≡◌ {A = (ℕ × List ℕ) × List ℕ} ((1, out), cells) (projected_expressions es out numbers cells g)
    unfolding project_expressions in_cells
    exprs-unknown b = sym (exprs-done ∙ rw (test ∙ b, coded-cells cells lent-holds))

    -- all are known
    pub exprs-known : all_below es (count cells) ≡ true → (m : Mapping) → decode m ≡ mapping_lent numbers → (o : (ℕ × List ℕ) × List ℕ)
        → o ≡ in_cells (written_answer out (nodes cells) (project_all (nodes cells) (classes g) (decode m) es)) → o ≡ projected_expressions es out numbers cells g
    unfolding project_expressions
    exprs-known b m q o is =
        is
        ∙ ap (λ (ps : List Mapped). in_cells (written_answer out (nodes cells) (project_all (nodes cells) (classes g) ps es))) q
        ∙ sym (exprs-done ∙ rw (test ∙ b))
