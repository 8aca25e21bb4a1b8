-- Which numbers the calls that project give.
use Prim.Native.Nat.{ℕ}
use mathlib.Core.Bool.{◌&&◌}
use mathlib.Core.List.{List, [], ◌∷◌}
use Rattle.std.specs.Prelude.{Option, None, Some, Err}
use mathlib.Core.Path.{refl}
use lib.Dec.{eqb, ltb, leb}
use lib.ListN.{length, get_or}
use Rattle.laws.specs.Tests.{each}
use Rattle.arena.specs.Refusals.{refusal}
use Rattle.arena.specs.Node.{Node}
use Rattle.arena.specs.Expression.{Expression}
use Rattle.arena.specs.Arena.{Placed, placed, full}
use Rattle.arena.specs.Layout.{decode as nodes}
use Rattle.arena.specs.Calls.{in_cells}
use Rattle.classes.specs.Group.{among}
use Rattle.classes.specs.Layout.{in_set}
use Rattle.classes.specs.Calls.{group_number, changed_number}
use Rattle.classes.specs.declared.Group.{Group}
use Rattle.merging.specs.Calls.{refused_group}
use Rattle.mappings.specs.Mapping.{Mapped, mapping_below}
use Rattle.mappings.specs.Lent.{targets_given, lawful_mapping, mapping_lent}
use Rattle.mappings.specs.Calls.{project_number}
use Rattle.mappings.proofs.ProjectNumbers.{project-listed}
use Rattle.projection.specs.Calls.{Projected, placed_answer, projected_answer, project_expr, projected_expr, written_answer, project_expressions, projected_expressions, projected_is_number}
use Rattle.group_projection.specs.Calls.{project_placed, project_by, project_answer}
use Rattle.group_states.specs.Groups.{stored_group}
use Rattle.answers.specs.Answers.{on_first}
use Rattle.group_answers.specs.Answers.{projected_in}
use Rattle.promises.proofs.Numbers.{OneOf, done, either, unless-zero, as-refusal, all_among, wider}
use Rattle.promises.proofs.NumbersOfAnswers.{told_number}
use Rattle.promises.proofs.NumbersOfGroups.{ChangesBeside, group-number, made-number, on_checked-number}

-- the check of what a projection is lent
project-check-number : (cells : List ℕ) (g : Group) (mapping : List ℕ) → OneOf (12 ∷ 11 ∷ 1 ∷ []) (project_number cells g mapping)
unfolding project_number among
project-check-number cells g mapping =
    let P : ℕ → Type 0 = OneOf (12 ∷ 11 ∷ 1 ∷ []) in
    either P (targets_given mapping && in_set g)
    (either P (lawful_mapping mapping)
    (either P (eqb (group_number cells g) 0) (either P (mapping_below (length (nodes cells)) (mapping_lent mapping)) done (record { is = refl })) (group-number cells g))
    (record { is = refl }))
    (record { is = refl })

-- the numbers of a projected group
abbrev project_numbers : List ℕ
project_numbers = 12 ∷ 11 ∷ 1 ∷ 3 ∷ 4 ∷ []

-- a projected group once the nodes are there
project_placed-number : (ps : List Mapped) (g : Group) (ns : List Node) (p : Placed (List (Option ℕ) × List ℕ)) → OneOf project_numbers (changed_number (project_placed ps g ns p).0)
unfolding project_placed refused_group refusal all_among among
project_placed-number ps g ns (placed kj os) = wider (made-number g ns os _) refl
project_placed-number ps g ns full = record { is = refl }

-- the projection of a group
pub project-number : (old cells : List ℕ) (g : Group) (mapping : List ℕ) → OneOf project_numbers (on_first (stored_group old) (project_answer cells g mapping)).0.0
unfolding on_first stored_group project_answer project_by in_cells all_among among
project-number old cells g mapping =
    told_number _ old (project_answer cells g mapping).0.answer
    (unless-zero (ChangesBeside project_numbers) (project_number cells g mapping) (project_placed-number (mapping_lent mapping) g (nodes cells) _)
    (as-refusal (project-listed cells g mapping) (wider (project-check-number cells g mapping) refl)))

-- the numbers of a projected expression
abbrev expr_numbers : List ℕ
expr_numbers = 12 ∷ 11 ∷ 1 ∷ 3 ∷ []

-- the number of a projection beside an arena
abbrev Projects : Projected × List Node → Type 0
Projects o = OneOf expr_numbers (projected_is_number o.0)

-- a projection that was placed
placed-number : (ns : List Node) (p : Placed ℕ) → Projects (placed_answer ns p)
unfolding placed_answer among
placed-number ns (placed i ms) = record { is = refl }
placed-number ns full = record { is = refl }

-- a projection, or that there is none
projected-number : (ns : List Node) (x : Option Expression) → Projects (projected_answer ns x)
unfolding projected_answer
projected-number ns None = done
projected-number ns (Some x) = placed-number ns _

-- the projection of an expression
pub project_expr-number : (old : List ℕ) (e : ℕ) (mapping cells : List ℕ) (g : Group) → OneOf expr_numbers (on_first (projected_in old) (projected_expr e mapping cells g)).0.0
unfolding on_first projected_in project_expr all_among among
project_expr-number old e mapping cells g =
    told_number _ old (projected_expr e mapping cells g).0
    (on_checked-number projected_is_number (project_number cells g mapping) (λ k. Err (refusal k)) (project_expr e (mapping_lent mapping)) cells g (as-refusal (project-listed cells g mapping) (wider (project-check-number cells g mapping) refl))
    (λ ns cs. either Projects (ltb e (length ns)) (projected-number ns _) (record { is = refl })))

-- the numbers of several
abbrev exprs_numbers : List ℕ
exprs_numbers = 12 ∷ 11 ∷ 1 ∷ 3 ∷ 8 ∷ []

-- the number beside an output and an arena
abbrev Writes : (ℕ × List ℕ) × List Node → Type 0
Writes o = OneOf exprs_numbers o.0.0

-- projections that were placed and are written
written-number : (out : List ℕ) (ns : List Node) (p : Placed (List (Option ℕ))) → Writes (written_answer out ns p)
unfolding written_answer among
written-number out ns (placed ks ms) = either Writes (leb (length ks) (length out)) done (record { is = refl })
written-number out ns full = record { is = refl }

-- the projections of some expressions
pub project_expressions-number : (es out mapping cells : List ℕ) (g : Group) → OneOf exprs_numbers (projected_expressions es out mapping cells g).0.0
unfolding project_expressions all_among among
project_expressions-number es out mapping cells g =
    on_checked-number (λ (r : ℕ × List ℕ). r.0) (project_number cells g mapping) (λ k. (k, out)) (project_expressions es out (mapping_lent mapping)) cells g (λ z. wider (project-check-number cells g mapping) refl)
    (λ ns cs. either Writes (each (λ k. ltb (get_or es k 0) (length ns)) (length es)) (written-number out ns _) (record { is = refl }))
