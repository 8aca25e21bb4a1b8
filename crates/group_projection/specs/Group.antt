-- Projecting a group: for each class the projections of its members, for each normal form of sources their targets; the classes that say nothing are filtered out, `new`, and then the constants of the sources for each of their targets.
use Rattle.std.specs.Prelude.{ℕ, zero, suc, Bool, true, List, [], ◌∷◌, ◌++◌, map, eqb, length, get_or, take, drop, if◌then◌else◌, Option, None, Some}
use Rattle.arena.specs.Node.{Node}
use Rattle.arena.specs.Expression.{expressions, those}
use Rattle.arena.specs.Arena.{Placed, placed, and_then, add_expressions}
use Rattle.classes.specs.declared.Constant.{Constant}
use Rattle.classes.specs.Class.{Class, is_constant}
use Rattle.classes.specs.Group.{with_constant}
use Rattle.classes.specs.Good.{flat}
use Rattle.classes.specs.Steps.{fits}
use Rattle.classes.specs.Layout.{fresh}
use Rattle.questions.specs.Questions.{expr_constant}
use Rattle.normal.specs.Normal.{normals}
use Rattle.merging.specs.Extending.{class_from, is_trivial}
use Rattle.merging.specs.Merging.{from_classes}
use Rattle.mappings.specs.Mapping.{Mapped, sources}
use Rattle.projection_table.specs.Projecting.{project_all}

-- the missing nodes of the members' projections are added in class order, then those of the sources' normal forms in mapping order: the numbers of both
unfoldable pub projected_numbers : List Node → List Class → List Mapped → Placed (List (Option ℕ) × List ℕ)
projected_numbers ns cs ps =
    and_then (project_all ns cs ps (flat cs))
    (λ ks ms. and_then (add_expressions (normals ns cs (those (expressions ns) (sources ps))) ms) (λ js os. placed (ks, js) os))

-- those that there are
unfoldable pub there : List (Option ℕ) → List ℕ
there [] = []
there (None ∷ ks) = there ks
there (Some k ∷ ks) = k ∷ there ks

-- for each class the class of its members' projections, from these in class order
unfoldable pub projected_classes : List Node → List Class → List (Option ℕ) → List Class
projected_classes ns [] ks = []
projected_classes ns (c ∷ cs) ks = class_from ns (there (take (length c.members) ks)) ∷ projected_classes ns cs (drop (length c.members) ks)

-- the targets of the sources with the normal form j, where js are the normal forms of the sources in their order
unfoldable pub targets_of : ℕ → List ℕ → List Mapped → List ℕ
targets_of j [] ps = []
targets_of j (i ∷ js) [] = []
targets_of j (i ∷ js) (p ∷ ps) = (if eqb i j then p.targets else []) ++ targets_of j js ps

-- for each of the first n normal forms that does not stand before its place, the class of the targets of the sources with it
unfoldable pub source_classes : List Node → List ℕ → List Mapped → ℕ → List Class
source_classes ns js ps zero = []
source_classes ns js ps (suc n) = source_classes ns js ps n ++ (if fresh js n then class_from ns (targets_of (get_or js n 0) js ps) ∷ [] else [])

-- the classes that say something
unfoldable pub telling : List Class → List Class
telling [] = []
telling (c ∷ cs) = if is_trivial c then telling cs else c ∷ telling cs

-- the list that reaches `new`
unfoldable pub projected_list : List Node → List Class → List Mapped → List (Option ℕ) → List ℕ → List Class
projected_list ns cs ps ks js = telling (projected_classes ns cs ks ++ source_classes ns js ps (length js))

-- each target of a source that is constant, with the source's constant
unfoldable pub new_constants : List Node → List Class → List Mapped → List (ℕ × Constant)
new_constants ns cs [] = []
new_constants ns cs (p ∷ ps) =
    (if is_constant (expr_constant ns cs p.source) then map (λ (t : ℕ). (t, expr_constant ns cs p.source)) p.targets else [])
    ++ new_constants ns cs ps

-- constants said one after the other, up to 256 members and 64 classes after each; none where one exceeds them. `two` says whether two unknown uniforms count as equal
unfoldable pub constants_said : Bool → List Node → List (ℕ × Constant) → List Class → Option (List Class)
constants_said two ns [] cs = Some cs
constants_said two ns (q ∷ qs) cs = if fits 256 (with_constant two ns cs q.0 q.1) then constants_said two ns qs (with_constant two ns cs q.0 q.1) else None

-- the projected group before the constants are added
abbrev pub before_constants : List Node → List Class → List Mapped → List (Option ℕ) → List ℕ → List Class
before_constants ns cs ps ks js = from_classes (projected_list ns cs ps ks js)

-- the projected group; none where the list or a step exceeds the bounds
unfoldable pub projected_group : List Node → List Class → List Mapped → List (Option ℕ) → List ℕ → Option (List Class)
projected_group ns cs ps ks js =
    if fits 256 (projected_list ns cs ps ks js) then constants_said true ns (new_constants ns cs ps) (before_constants ns cs ps ks js) else None
