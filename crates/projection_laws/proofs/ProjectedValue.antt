-- A projection has on the output row the value that the expression has on the input row, and it is small enough for an arena.
use Prim.Native.Nat.{ℕ, zero, suc, ◌<◌}
use mathlib.Core.Bool.{Bool, true}
use mathlib.Core.List.{List, [], ◌∷◌}
use Rattle.std.specs.Prelude.{Option, None, Some}
use mathlib.Core.Path.{◌≡◌, refl, sym, ap, ap₂, ◌∙◌, subst}
use native.Mathlib.Omega.{arith}
use borrow.Author.Tests.{eqb-true}
use lib.Dec.{eqb}
use lib.ListN.{length, get_or}
use Rattle.laws.proofs.Booleans.{true_not_false}
use Rattle.arena.specs.Node.{Node, column, literal, operation, node_at}
use Rattle.arena.specs.Expression.{Expression, Expressions, lit, op, ∅, ◌▹◌, those, over, expressions, expression_at}
use Rattle.arena.specs.Value.{Meaning, Row, value, values}
use Rattle.arena.specs.Arena.{Allowed, Sound, Small}
use Rattle.arena.proofs.Trees.{expression-is, expression-small}
use Rattle.classes.specs.Class.{Class}
use Rattle.classes.specs.Group.{same_class}
use Rattle.classes.specs.Layout.{is_literal}
use Rattle.classes.specs.Agree.{MembersAgree}
use Rattle.demands.proofs.Conditions.{same_together}
use Rattle.mappings.specs.Mapping.{Mapped, mapped_at}
use Rattle.mappings.specs.Agree.{TargetsAgree, Over}
use Rattle.projection_table.specs.Projecting.{becomes, by_children, whole_or, projections, projection}
use Rattle.projection_table.proofs.Becoming.{Found, Becomes, by-source, by-literal, by-class, becomes-is}
use Rattle.projection_table.proofs.TableLaws.{Pairwise, all-pairwise, pairwise-small, over-children, projection-at}
use Rattle.projection_laws.proofs.LentOver.{target-inside}

-- ---- induction over projections

module _ (ns : List Node) (cs : List Class) (ps : List Mapped) (s : Sound ns) where
  -- what holds where an expression becomes something as a whole, and for an operation if it holds for its children, holds for every projection
  module _ (P : ℕ → Expression → Type 0) (whole : (e i : ℕ) → e < length ns → Becomes ns cs ps e i → P e (expression_at ns i))
      (children : (e label : ℕ) (ks : List ℕ) (ys : Expressions) → e < length ns → node_at ns e ≡ operation label ks → Pairwise P ks ys → P e (op label ys)) where
    -- below a bound
    projects-below : (n e : ℕ) → e < n → e < length ns → (x : Expression) → projection ns cs ps e ≡ Some x → P e x
    unfolding whole_or Allowed
    projects-below zero e b l x q = absurd (omega arith)
    projects-below (suc n) e b l x q = go (becomes ns cs ps e) refl (λ k i y. projects-below n k (omega arith) (omega arith) y)
      where
        go : (o : Option ℕ) → becomes ns cs ps e ≡ o → ((k : ℕ) → k < e → (y : Expression) → projection ns cs ps k ≡ Some y → P k y) → P e x
        go (Some i) t r =
            let z : Some (expression_at ns i) ≡ Some x = sym (projection-at ns cs ps s e l ∙ rw t) ∙ q in
            let y : expression_at ns i ≡ x = cc in
            subst (P e) y (whole e i l (becomes-is ns cs ps e i t))
        go None t r =
            let z : by_children (projections ns cs ps) (node_at ns e) ≡ Some x = sym (projection-at ns cs ps s e l ∙ rw t) ∙ q in
            let c = over-children (projections ns cs ps) (node_at ns e) x z in
            let a : Allowed e (operation c.label c.children) = subst (Allowed e) c.node (s.allowed e l) in
            subst (P e) (sym c.is) (children e c.label c.children c.projected l c.node
            (all-pairwise P (projections ns cs ps) c.children (λ j b. r (get_or c.children j 0) (a.1 j b)) c.projected c.known))

    -- for all
    pub projects-by : (e : ℕ) → e < length ns → (x : Expression) → projection ns cs ps e ≡ Some x → P e x
    projects-by e l x q = projects-below (length ns) e l l x q

-- ---- values

module _ {A : Type 0} (m : Meaning A) (row out : Row A) where
  -- a literal has one value on all rows
  literal-value : (es : List Expression) (n : Node) → is_literal n ≡ true → value (over es n) m out ≡ value (over es n) m row
  unfolding is_literal over value
  literal-value es (column name index) t = absurd (true_not_false t refl)
  literal-value es (literal v) t = refl
  literal-value es (operation label ks) t = absurd (true_not_false t refl)

  -- expressions with the values of those with numbers have them together
  pairwise-values : (es : List Expression) (ks : List ℕ) (ys : Expressions) → Pairwise (λ k y. value y m out ≡ value (get_or es k (lit 0)) m row) ks ys → values ys m out ≡ values (those es ks) m row
  unfolding Pairwise values those
  pairwise-values es [] ∅ h = refl
  pairwise-values es [] (y ▹ ys) h = absurd h
  pairwise-values es (k ∷ ks) ∅ h = absurd h
  pairwise-values es (k ∷ ks) (y ▹ ys) h = ap₂ (λ v vs. v ∷ vs) h.0 (pairwise-values es ks ys h.1)

module _ {A : Type 0} (ns : List Node) (cs : List Class) (ps : List Mapped) (s : Sound ns) (o : Over ns ps)
    (m : Meaning A) (row out : Row A) (agree : MembersAgree ns cs m row) (targets : TargetsAgree ns ps m row out) where
  -- a first target has on the output row the value that its source has on the input row
  found-value : (test : ℕ → Bool) (i : ℕ) (f : Found test ps i) → value (expression_at ns i) m out ≡ value (expression_at ns (mapped_at ps f.place).source) m row
  found-value test i f =
      ap (λ (k : ℕ). value (expression_at ns k) m out) (sym f.is) ∙ targets f.place 0 f.below (o.some-target f.place f.below)

  -- what an expression becomes as a whole has its value
  becomes-value : (e i : ℕ) → e < length ns → Becomes ns cs ps e i → value (expression_at ns i) m out ≡ value (expression_at ns e) m row
  becomes-value e i l (by-source f) =
      found-value (λ s. eqb s e) i f ∙ ap (λ (k : ℕ). value (expression_at ns k) m row) (eqb-true (mapped_at ps f.place).source e f.passes)
  becomes-value e i l (by-literal t q) =
      ap (λ (k : ℕ). value (expression_at ns k) m out) (sym q)
      ∙ ap (λ (x : Expression). value x m out) (expression-is ns s e l)
      ∙ literal-value m row out (expressions ns) (node_at ns e) t
      ∙ sym (ap (λ (x : Expression). value x m row) (expression-is ns s e l))
  becomes-value e i l (by-class f) =
      let t = same_together cs (mapped_at ps f.place).source e f.passes in
      found-value (λ s. same_class cs s e) i f ∙ agree t.place (mapped_at ps f.place).source e t.below t.left t.right

  -- a projection has on the output row the value that the expression has on the input row
  pub projection-value : (e : ℕ) → e < length ns → (x : Expression) → projection ns cs ps e ≡ Some x → value x m out ≡ value (expression_at ns e) m row
  unfolding value over
  projection-value =
      projects-by ns cs ps s (λ e x. value x m out ≡ value (expression_at ns e) m row) becomes-value
      (λ e label ks ys l n h.
      ap (λ vs. m.operation label vs) (pairwise-values m row out (expressions ns) ks ys h)
      ∙ sym (ap (λ (x : Expression). value x m row) (expression-is ns s e l ∙ ap (λ (a : Node). over (expressions ns) a) n)))

-- ---- sizes

module _ (ns : List Node) (cs : List Class) (ps : List Mapped) (s : Sound ns) (o : Over ns ps) where
  -- a first target is in the arena
  found_below : (test : ℕ → Bool) (i : ℕ) → Found test ps i → i < length ns
  found_below test i f = subst (λ (k : ℕ). k < length ns) f.is (target-inside ns ps o f.place f.below 0 (o.some-target f.place f.below))

  -- what an expression becomes as a whole is in the arena
  becomes-below : (e i : ℕ) → e < length ns → Becomes ns cs ps e i → i < length ns
  becomes-below e i l (by-source f) = found_below (λ s. eqb s e) i f
  becomes-below e i l (by-literal t q) = omega arith
  becomes-below e i l (by-class f) = found_below (λ s. same_class cs s e) i f

  -- a projection is small enough for an arena
  pub projection-small : (e : ℕ) → e < length ns → (x : Expression) → projection ns cs ps e ≡ Some x → Small x
  unfolding Small Allowed
  projection-small =
      projects-by ns cs ps s (λ e x. Small x) (λ e i l b. expression-small ns s i (becomes-below e i l b))
      (λ e label ks ys l n h.
      let r = pairwise-small ks ys h in
      let a : Allowed e (operation label ks) = subst (Allowed e) n (s.allowed e l) in
      (omega (arith, r.0, a.0), r.1))
