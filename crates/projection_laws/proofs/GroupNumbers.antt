-- The numbers that projecting a group places: for each member that there is no projection or the number of one, then for each source the number of its normal form.
use Prim.Native.Nat.{ℕ, zero, suc, ◌<◌}
use mathlib.Core.List.{List, [], ◌∷◌}
use Rattle.std.specs.Prelude.{Option}
use mathlib.Core.Path.{◌≡◌, refl, ap, ◌∙◌, subst}
use native.Mathlib.Omega.{arith}
use lib.ListN.{length, get_or}
use Rattle.arena.specs.Node.{Node}
use Rattle.arena.specs.Expression.{Expression, Expressions, lit, ∅, ◌▹◌, size, those, expressions, expression_at}
use Rattle.arena.specs.Arena.{Sound, Extends, placed, and_then, add_expressions}
use Rattle.arena.proofs.Nodes.{extends-both}
use Rattle.arena.proofs.Trees.{size-those}
use Rattle.arena.proofs.Growing.{between, add-expressions}
use Rattle.classes.specs.Class.{Class}
use Rattle.classes.specs.Good.{flat, Good}
use Rattle.normal.specs.Normal.{first_of, normal_by, normals_by, normal, normals}
use Rattle.normal.proofs.NormalValue.{normal_forms-small}
use Rattle.merging.proofs.Reaching.{flat-below}
use Rattle.mappings.specs.Mapping.{Mapped, sources, mapped_at}
use Rattle.mappings.specs.Agree.{Over}
use Rattle.mappings.proofs.Targets.{length-sources, source-at}
use Rattle.projection_table.specs.Projecting.{project_all}
use Rattle.group_projection.specs.Group.{projected_numbers}
use Rattle.projection_laws.proofs.LentOver.{source-inside}
use Rattle.projection_laws.proofs.ProjectedList.{ProjectedAt, project_all-is}

-- ---- the numbers

-- numbers of normal forms in a row, each by itself
normal-at : (ns : List Node) (to : ℕ → ℕ) (xs ys : List Expression) (ks es : List ℕ) → those xs ks ≡ normals_by ns to (those ys es)
    → (i : ℕ) → i < length es → get_or xs (get_or ks i 0) (lit 0) ≡ normal_by ns to (get_or ys (get_or es i 0) (lit 0))
unfolding those normals_by
normal-at ns to xs ys ks [] q i l = absurd (omega arith)
normal-at ns to xs ys [] (e ∷ es) q i l = absurd (let z : ◌≡◌ {A = ℕ} 0 1 = cc in omega arith)
normal-at ns to xs ys (k ∷ ks) (e ∷ es) q zero l = cc
normal-at ns to xs ys (k ∷ ks) (e ∷ es) q (suc i) l = normal-at ns to xs ys ks es (cc) i (omega arith)

-- there are as many
size-normals : (ns : List Node) (to : ℕ → ℕ) (xs : Expressions) → size (normals_by ns to xs) ≡ size xs
unfolding size normals_by
size-normals ns to ∅ = refl
size-normals ns to (x ▹ xs) = ap suc (size-normals ns to xs)

-- what was placed: in an extension of the arena an answer for each member, and in a sound extension of that the number of each source's normal form
pub record NumbersPlaced (ns : List Node) (cs : List Class) (ps : List Mapped) (ks : List (Option ℕ)) (js : List ℕ) (os : List Node) : Type 0 where
  pub between : List Node
  pub projected : ProjectedAt ns cs ps (flat cs) ks between
  pub later : Extends between os
  pub extends : Extends ns os
  pub sound : Sound os
  pub counted : length js ≡ length ps
  pub below : (i : ℕ) → i < length ps → get_or js i 0 < length os
  pub is : (i : ℕ) → i < length ps → expression_at os (get_or js i 0) ≡ normal ns cs (expression_at ns (mapped_at ps i).source)

-- the numbers and the arena are those that were placed
numbers-same : (ns : List Node) (cs : List Class) (ps : List Mapped) (a b : List (Option ℕ) × List ℕ) (ms os : List Node)
    → placed a ms ≡ placed b os → NumbersPlaced ns cs ps a.0 a.1 ms → NumbersPlaced ns cs ps b.0 b.1 os
numbers-same ns cs ps a b ms os e h =
    let p : a ≡ b = cc in
    let q : ms ≡ os = cc in
    subst (λ (w : List (Option ℕ) × List ℕ). NumbersPlaced ns cs ps w.0 w.1 os) p (subst (λ (w : List Node). NumbersPlaced ns cs ps a.0 a.1 w) q h)

-- the numbers that are placed are those of the members' projections and of the sources' normal forms
pub numbers-placed : (ns : List Node) (cs : List Class) (ps : List Mapped) → Sound ns → Good ns cs → Over ns ps
    → (ks : List (Option ℕ)) (js : List ℕ) (os : List Node) → projected_numbers ns cs ps ≡ placed (ks, js) os → NumbersPlaced ns cs ps ks js os
unfolding projected_numbers
numbers-placed ns cs ps s g o ks js os e =
    let es = sources ps in
    let xs = normals ns cs (those (expressions ns) es) in
    let b = between (project_all ns cs ps (flat cs)) (λ ks ms. and_then (add_expressions xs ms) (λ js os. placed (ks, js) os)) (ks, js) os e in
    let c = between (add_expressions xs b.arena) (λ js os. placed (b.answer, js) os) (ks, js) os b.then in
    let p = project_all-is ns cs ps (flat cs) s o (flat-below ns cs g) b.answer b.arena b.first in
    let n = length-sources ps in
    let a = add-expressions xs b.arena p.sound
    (normal_forms-small es ns cs s g (λ k l. let h : k < length ps = omega arith in rw (source-at ps k) (source-inside ns ps o k h))) c.answer c.arena c.first in
    let t : length c.answer ≡ length ps = a.counted ∙ size-normals ns (first_of cs) (those (expressions ns) es) ∙ size-those (expressions ns) es ∙ n in
    numbers-same ns cs ps (b.answer, c.answer) (ks, js) c.arena os c.then (record {
      between = b.arena;
      projected = p;
      later = a.extends;
      extends = extends-both p.extends a.extends;
      sound = a.sound;
      counted = t;
      below = λ i l. a.below i (omega arith);
      is = λ i l.
          subst (λ (k : ℕ). expression_at c.arena (get_or c.answer i 0) ≡ normal ns cs (expression_at ns k)) (source-at ps i)
          (normal-at ns (first_of cs) (expressions c.arena) (expressions ns) c.answer es a.is i (omega arith));
    })
