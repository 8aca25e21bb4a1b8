-- The value of a normal form is the value of the expression, on every row where the members of each class agree.
use Rattle.arena.specs.declared.Refusal.TheVariants.{UnknownExpression}
use Rattle.std.specs.Prelude.{if◌then◌else◌, Option, None, Some, Err, Ok}
use Prim.Native.Nat.{ℕ, suc, ◌<◌}
use mathlib.Core.Bool.{Bool, true, false}
use mathlib.Core.List.{List, [], ◌∷◌}
use mathlib.Core.Path.{◌≡◌, refl, sym, ap, ap₂, ◌∙◌}
use native.Mathlib.Omega.{arith}
use borrow.Author.Tests.{ltb-true}
use lib.Dec.{ltb}
use lib.ListN.{length, get_or}
use Rattle.arena.specs.Node.{Node}
use Rattle.arena.specs.Expression.{Expression, Expressions, col, lit, op, ∅, ◌▹◌, those, expressions, expression_at}
use Rattle.arena.specs.Value.{Row, Meaning, value, values}
use Rattle.arena.specs.Arena.{Sound, Extends, Small, AllSmall, placed, add_expression}
use Rattle.arena.specs.Calls.{Outcome, answered}
use Rattle.arena.proofs.Nodes.{extends-both, extends-longer, extends-node}
use Rattle.arena.proofs.Trees.{expression-small}
use Rattle.arena.proofs.Growing.{AddedExpression, add-expression, add-expressions}
use Rattle.arena.proofs.Values.{value-kept}
use Rattle.arena.proofs.Promises.{not-number, was-placed}
use Rattle.classes.specs.Class.{Class}
use Rattle.classes.specs.Group.{among, class_at, class_of}
use Rattle.classes.specs.Good.{Good}
use Rattle.classes.proofs.Places.{get_or-among, class-flat, class_of-some}
use Rattle.normal.specs.Normal.{number_of, first_at, first_of, replaced_by, replaced, normal_by, normals_by, normal, normals}
use Rattle.classes.specs.Agree.{Same, MembersAgree}
use Rattle.normal.specs.Calls.{normal_forms, normalize_expr}
use Rattle.normal.proofs.Numbers.{number-some}
use Rattle.normal.proofs.FirstMembers.{first-inside}
use Rattle.normal.proofs.Rewriting.{normal-small, normals-small}

-- for any account of what replaces a number, where a number and its replacement have one value on a row
module _ {A : Type 0} (ns : List Node) (s : Sound ns) (to : ℕ → ℕ) (m : Meaning A) (row : Row A) (same : (k : ℕ) → k < length ns → Same ns m row (to k) k) where
  -- what is looked up keeps its value
  replaced-value : (x : Expression) → value (replaced ns to x) m row ≡ value x m row
  unfolding replaced replaced_by
  replaced-value x = go (number_of ns x) refl
    where
      go : (o : Option ℕ) → number_of ns x ≡ o → value (replaced_by ns to x o) m row ≡ value x m row
      go None e = refl
      go (Some k) e = let n = number-some ns s x k e in same k n.below ∙ ap (λ (y : Expression). value y m row) n.is

  mutual
    unfolding normal_by normals_by value values

    -- and so does the whole expression
    pub normal_by-value : (x : Expression) → value (normal_by ns to x) m row ≡ value x m row
    normal_by-value (col name index) = replaced-value (col name index)
    normal_by-value (lit v) = replaced-value (lit v)
    normal_by-value (op label es) = replaced-value (op label (normals_by ns to es)) ∙ ap (λ vs. m.operation label vs) (normals_by-values es)

    -- the same for expressions in a row
    pub normals_by-values : (es : Expressions) → values (normals_by ns to es) m row ≡ values es m row
    normals_by-values ∅ = refl
    normals_by-values (x ▹ es) = ap₂ (λ v vs. v ∷ vs) (normal_by-value x) (normals_by-values es)

-- the first member of an expression's class is in it too, so the two agree where all members do
pub first-same : {A : Type 0} (ns : List Node) (cs : List Class) (m : Meaning A) (row : Row A) → Good ns cs → MembersAgree ns cs m row → (k : ℕ) → Same ns m row (first_of cs k) k
unfolding first_of first_at
first-same ns cs m row g h k = go (class_of cs k) refl
  where
    go : (o : Option ℕ) → class_of cs k ≡ o → Same ns m row (first_at cs k o) k
    go None e = refl
    go (Some i) e =
        let c = class_of-some cs k i e in
        h i (get_or (class_at cs i).members 0 0) k c.0 (get_or-among (class_at cs i).members 0 (g.filled i c.0)) c.1

module _ {A : Type 0} (ns : List Node) (cs : List Class) (m : Meaning A) (row : Row A) (s : Sound ns) (g : Good ns cs) (h : MembersAgree ns cs m row) where
  -- the normal form of an expression has the expression's value
  pub normal-value : (x : Expression) → value (normal ns cs x) m row ≡ value x m row
  normal-value x = normal_by-value ns s (first_of cs) m row (λ k l. first-same ns cs m row g h k) x

  -- the same for expressions in a row
  pub normals-values : (xs : Expressions) → values (normals ns cs xs) m row ≡ values xs m row
  normals-values xs = normals_by-values ns s (first_of cs) m row (λ k l. first-same ns cs m row g h k) xs

  -- expressions with one normal form have one value
  pub same-normal_form : (x y : Expression) → normal ns cs x ≡ normal ns cs y → value x m row ≡ value y m row
  same-normal_form x y e = sym (normal-value x) ∙ ap (λ (z : Expression). value z m row) e ∙ normal-value y

-- where the call answers a number, the expression is known and its normal form was placed
pub normalized-placed : (e : ℕ) (ns : List Node) (cs : List Class) (i : ℕ) (ms : List Node) → normalize_expr e ns cs ≡ (Ok i, ms)
    → (e < length ns) × (add_expression (normal ns cs (expression_at ns e)) ns ≡ placed i ms)
unfolding normalize_expr
normalized-placed e ns cs i ms q = go (ltb e (length ns)) refl q
  where
    x : Expression
    x = normal ns cs (expression_at ns e)

    go : (b : Bool) → ltb e (length ns) ≡ b → ◌≡◌ {A = Outcome} (if b then answered ns (add_expression x ns) else (Err UnknownExpression, ns)) (Ok i, ms)
        → (e < length ns) × (add_expression x ns ≡ placed i ms)
    go true t r = (ltb-true e (length ns) t, was-placed ns (add_expression x ns) i ms r)
    go false t r = absurd (not-number UnknownExpression i ns ms r)

-- the normal form of a known expression is small
pub normal_form-small : (e : ℕ) (ns : List Node) (cs : List Class) → Sound ns → Good ns cs → e < length ns → Small (normal ns cs (expression_at ns e))
normal_form-small e ns cs s g l = normal-small ns (first_of cs) s (first-inside ns cs g) (expression_at ns e) (expression-small ns s e l)

-- and the number answered is the normal form's, in a sound extension of the arena
pub normal_form-is : (e : ℕ) (ns : List Node) (cs : List Class) (i : ℕ) (ms : List Node) → Sound ns → Good ns cs → normalize_expr e ns cs ≡ (Ok i, ms)
    → AddedExpression (normal ns cs (expression_at ns e)) ns i ms
normal_form-is e ns cs i ms s g q =
    let p = normalized-placed e ns cs i ms q in
    add-expression (normal ns cs (expression_at ns e)) ns s (normal_form-small e ns cs s g p.0) i ms p.1

-- the number that the call answers has the expression's value, also where nodes were added
pub normal_form-value : {A : Type 0} (e : ℕ) (ns : List Node) (cs : List Class) (i : ℕ) (ms : List Node) (m : Meaning A) (row : Row A)
    → Sound ns → Good ns cs → MembersAgree ns cs m row → normalize_expr e ns cs ≡ (Ok i, ms) → value (expression_at ms i) m row ≡ value (expression_at ns e) m row
normal_form-value e ns cs i ms m row s g h q =
    ap (λ (x : Expression). value x m row) (normal_form-is e ns cs i ms s g q).is ∙ normal-value ns cs m row s g h (expression_at ns e)

-- expressions of an arena are small
those-small : (ns : List Node) → Sound ns → (es : List ℕ) → ((k : ℕ) → k < length es → get_or es k 0 < length ns) → AllSmall (those (expressions ns) es)
unfolding those AllSmall
those-small ns s [] b = tt
those-small ns s (e ∷ es) b = (expression-small ns s e (b 0 (omega arith)), those-small ns s es (λ k l. b (suc k) (omega arith)))

-- and so are their normal forms
pub normal_forms-small : (es : List ℕ) (ns : List Node) (cs : List Class) → Sound ns → Good ns cs → ((k : ℕ) → k < length es → get_or es k 0 < length ns) → AllSmall (normals ns cs (those (expressions ns) es))
normal_forms-small es ns cs s g b = normals-small ns (first_of cs) s (first-inside ns cs g) (those (expressions ns) es) (those-small ns s es b)

-- the normal forms of known expressions, added one after the other, have the expressions' values
pub normal_forms-values : {A : Type 0} (es : List ℕ) (ns : List Node) (cs : List Class) (ks : List ℕ) (ms : List Node) (m : Meaning A) (row : Row A)
    → Sound ns → Good ns cs → MembersAgree ns cs m row → ((k : ℕ) → k < length es → get_or es k 0 < length ns) → normal_forms ns cs es ≡ placed ks ms
    → values (those (expressions ms) ks) m row ≡ values (those (expressions ns) es) m row
unfolding normal_forms
normal_forms-values es ns cs ks ms m row s g h b q =
    let xs = those (expressions ns) es in
    ap (λ (ys : Expressions). values ys m row) (add-expressions (normals ns cs xs) ns s (normal_forms-small es ns cs s g b) ks ms q).is ∙ normals-values ns cs m row s g h xs

-- a group over an arena is one over its extensions
pub good-extended : {ns ms : List Node} (cs : List Class) → Extends ns ms → Good ns cs → Good ms cs
good-extended cs x g = record {
  distinct = g.distinct;
  filled = g.filled;
  uniform = λ i e v l a q. g.uniform i e v l a (sym (extends-node x e (g.inside e (class-flat cs e i l a))) ∙ q);
  inside = λ e a. omega (arith, g.inside e a, extends-longer x);
}

-- and its members agree on the same rows
pub agree-extended : {A : Type 0} {ns ms : List Node} (cs : List Class) (m : Meaning A) (row : Row A) → Extends ns ms → Good ns cs → MembersAgree ns cs m row → MembersAgree ms cs m row
agree-extended {ns = ns} {ms = ms} cs m row x g h i a b l p q = kept a p ∙ h i a b l p q ∙ sym (kept b q)
  where
    kept : (e : ℕ) → among e (class_at cs i).members ≡ true → value (expression_at ms e) m row ≡ value (expression_at ns e) m row
    kept e r = value-kept x e (g.inside e (class-flat cs e i l r)) m row

-- two calls that answer one number, the second on the arena that the first left or on any sound extension of it: the two expressions have one value
pub same_number-value : {A : Type 0} (a b : ℕ) (ns : List Node) (cs : List Class) (i : ℕ) (ms os ps : List Node) (m : Meaning A) (row : Row A)
    → Sound ns → Good ns cs → MembersAgree ns cs m row → normalize_expr a ns cs ≡ (Ok i, ms)
    → Sound os → Extends ms os → normalize_expr b os cs ≡ (Ok i, ps)
    → Same os m row a b
same_number-value a b ns cs i ms os ps m row s g h q t y r =
    let c = normal_form-is a ns cs i ms s g q in
    let x = extends-both c.extends y in
    let d = good-extended cs x g in
    let p = normal_form-is b os cs i ps t d r in
    value-kept x a (normalized-placed a ns cs i ms q).0 m row
    ∙ sym (normal_form-value a ns cs i ms m row s g h q)
    ∙ sym (value-kept (extends-both y p.extends) i c.below m row)
    ∙ normal_form-value b os cs i ps m row t d (agree-extended cs m row x g h) r
