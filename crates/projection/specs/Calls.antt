-- What each public call answers and what it leaves in the arena and the output, over the lent cells and the struct, in document 01's order of refusals.
-- A refusal is a case that hands back what came in.
use Rattle.std.specs.Prelude.{ℕ, List, [], ◌∷◌, ◌++◌, map, ltb, leb, length, get_or, drop, if◌then◌else◌, Option, None, Some, Result, Ok, Err}
use Rattle.laws.specs.Tests.{each}
use Rattle.arena.specs.declared.Refusal.{Refusal}
use Rattle.arena.specs.declared.Refusal.TheVariants.{UnknownExpression, ArenaFull}
use Rattle.arena.specs.Refusals.{refusal, outcome, number_of}
use Rattle.arena.specs.Node.{Node}
use Rattle.arena.specs.Expression.{Expression}
use Rattle.arena.specs.Arena.{Placed, placed, full, add_expression}
use Rattle.classes.specs.Class.{Class}
use Rattle.classes.specs.declared.Group.{Group}
use Rattle.normal.specs.Calls.{on_checked}
use Rattle.mappings.specs.Mapping.{Mapped}
use Rattle.mappings.specs.Lent.{mapping_lent}
use Rattle.mappings.specs.Calls.{project_number}
use Rattle.projection_table.specs.Projecting.{projection, project_all}

-- what the projection of an expression answers: its number, that there is none, or why it is refused
abbrev pub Projected : Type 0
Projected = Result (Option ℕ) Refusal

-- a projection that was placed; 3 where there was no room, and then the arena is as it was
unfoldable pub placed_answer : List Node → Placed ℕ → Projected × List Node
placed_answer ns (placed i ms) = (Ok (Some i), ms)
placed_answer ns full = (Err ArenaFull, ns)

-- the answer for an expression: its projection, added, or that there is none
unfoldable pub projected_answer : List Node → Option Expression → Projected × List Node
projected_answer ns None = (Ok None, ns)
projected_answer ns (Some x) = placed_answer ns (add_expression x ns)

-- the projection of an expression: 1 where it is unknown, 3 where its missing nodes don't fit
unfoldable pub project_expr : ℕ → List Mapped → List Node → List Class → Projected × List Node
project_expr e ps ns cs = if ltb e (length ns) then projected_answer ns (projection ns cs ps e) else (Err UnknownExpression, ns)

-- the call on lent cells, a lent group and a lent mapping
abbrev pub projected_expr : ℕ → List ℕ → List ℕ → Group → Projected × List ℕ
projected_expr e numbers cells g = on_checked (project_number cells g numbers) (λ k. Err (refusal k)) (project_expr e (mapping_lent numbers)) cells g

-- a projection in the output: its number, or 4,294,967,295 where there is none, which no expression has
unfoldable pub output_of : Option ℕ → ℕ
output_of None = 4294967295
output_of (Some i) = i

-- projections that were placed, written from the output's first place on, one place each; 3 where there was no room, 8 where the output is too short
unfoldable pub written_answer : List ℕ → List Node → Placed (List (Option ℕ)) → (ℕ × List ℕ) × List Node
written_answer out ns (placed ks ms) = if leb (length ks) (length out) then ((0, map output_of ks ++ drop (length ks) out), ms) else ((8, out), ns)
written_answer out ns full = ((3, out), ns)

-- the projections of a list of expressions: 1 where one is unknown
unfoldable pub project_expressions : List ℕ → List ℕ → List Mapped → List Node → List Class → (ℕ × List ℕ) × List Node
project_expressions es out ps ns cs =
    if each (λ k. ltb (get_or es k 0) (length ns)) (length es) then written_answer out ns (project_all ns cs ps es)
    else ((1, out), ns)

-- the call on lent cells, a lent group, a lent mapping, a lent list and a lent output
abbrev pub projected_expressions : List ℕ → List ℕ → List ℕ → List ℕ → Group → (ℕ × List ℕ) × List ℕ
projected_expressions es out numbers cells g =
    on_checked (project_number cells g numbers) (λ k. (k, out)) (project_expressions es out (mapping_lent numbers)) cells g

-- an answer by its number, with the output and the arena
abbrev pub told_list : {A : Type 0} → (ℕ × List ℕ) × A → (Result (Unit {0}) Refusal × List ℕ) × A
told_list o = ((outcome o.0.0, o.0.1), o.1)

-- document 01's number of the answer: 0 is done
abbrev pub projected_is_number : Projected → ℕ
projected_is_number r = number_of r

-- its values: the number of the projection; that there is none and a refusal have none
abbrev pub projected_values : Projected → List ℕ
projected_values (Ok (Some i)) = i ∷ []
projected_values (Ok None) = []
projected_values (Err k) = []
