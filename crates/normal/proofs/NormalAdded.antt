-- What the call for a normal form adds to the arena, when there is no room, and that it answers one number for one normal form.
use Rattle.arena.specs.declared.Refusal.TheVariants.{ArenaFull}
use Prim.Native.Nat.{ℕ, ◌<◌}
use mathlib.Core.List.{List}
use mathlib.Core.Logic.{◌↔◌}
use Rattle.std.specs.Prelude.{Option, None, Some, Err, Ok}
use mathlib.Core.Path.{◌≡◌, refl, sym, ap, ap₂, ◌∙◌}
use native.Mathlib.Omega.{arith}
use borrow.Author.Tests.{lt-ltb}
use lib.ListN.{length, get_or}
use Rattle.arena.specs.Node.{Node}
use Rattle.arena.specs.Expression.{Expression, Expressions, col, lit, op, ∅, ◌▹◌, those, expressions, expression_at}
use Rattle.arena.specs.Arena.{Sound, Extends, Placed, placed, full, add_expression}
use Rattle.arena.specs.Calls.{answered}
use Rattle.arena.proofs.Nodes.{extends-both, extends-longer}
use Rattle.arena.proofs.Trees.{expression-kept}
use Rattle.arena.proofs.Growing.{add_expression-old}
use Rattle.classes.specs.Class.{Class}
use Rattle.classes.specs.Group.{class_of}
use Rattle.classes.specs.Good.{Good}
use Rattle.classes.proofs.Places.{class_of-some, class-flat}
use Rattle.normal.specs.Normal.{number_of, first_at, first_of, replaced_by, replaced, normal_by, normals_by, normal, normals}
use Rattle.normal.specs.Missing.{parts, all_parts, with_missing}
use Rattle.normal.specs.Calls.{normal_forms, normalize_expr}
use Rattle.normal.proofs.Numbers.{number-some, number-old, number-none}
use Rattle.normal.proofs.Missing.{added_exactly, no_room_exactly, all_added_exactly}
use Rattle.normal.proofs.FirstMembers.{first-inside}
use Rattle.normal.proofs.NormalValue.{normalized-placed, normal_form-small, normal_form-is, normal_forms-small}

-- the nodes added are exactly the missing nodes of the normal form, children before parents, left to right
pub normal_form-added : (e : ℕ) (ns : List Node) (cs : List Class) (i : ℕ) (ms : List Node) → Sound ns → Good ns cs → normalize_expr e ns cs ≡ (Ok i, ms)
    → expressions ms ≡ with_missing (expressions ns) (parts (normal ns cs (expression_at ns e)))
normal_form-added e ns cs i ms s g q =
    let p = normalized-placed e ns cs i ms q in
    added_exactly (normal ns cs (expression_at ns e)) ns s (normal_form-small e ns cs s g p.0) i ms p.1

-- the same for normal forms that are added one after the other
pub normal_forms-added : (es : List ℕ) (ns : List Node) (cs : List Class) (ks : List ℕ) (ms : List Node) → Sound ns → Good ns cs → ((k : ℕ) → k < length es → get_or es k 0 < length ns)
    → normal_forms ns cs es ≡ placed ks ms → expressions ms ≡ with_missing (expressions ns) (all_parts (normals ns cs (those (expressions ns) es)))
unfolding normal_forms
normal_forms-added es ns cs ks ms s g b q = all_added_exactly (normals ns cs (those (expressions ns) es)) ns s (normal_forms-small es ns cs s g b) ks ms q

-- where the refusal is 3, there was no room
refused_full : (ns : List Node) (p : Placed ℕ) → (answered ns p).0 ≡ Err ArenaFull → p ≡ full
unfolding answered
refused_full ns (placed i ms) e = absurd (let z : ◌≡◌ {A = ℕ} 0 1 = cc in omega arith)
refused_full ns full e = refl

-- a known expression is refused, by 3, exactly where the arena would have more than 1,024 nodes
pub normal_form_no_room : (e : ℕ) (ns : List Node) (cs : List Class) → Sound ns → Good ns cs → e < length ns
    → ((normalize_expr e ns cs).0 ≡ Err ArenaFull) ↔ (1024 < length (with_missing (expressions ns) (parts (normal ns cs (expression_at ns e)))))
unfolding normalize_expr answered
normal_form_no_room e ns cs s g l =
    let x = normal ns cs (expression_at ns e) in
    let n = no_room_exactly x ns s (normal_form-small e ns cs s g l) in
    rw (lt-ltb e (length ns) l) ((λ q. n.0 (refused_full ns (add_expression x ns) q)), λ h. rw (n.1 h))

-- a number outside the arena of a group is in no class
outside-itself : (ns : List Node) (cs : List Class) → Good ns cs → (k : ℕ) → (k < length ns → ⊥) → first_of cs k ≡ k
unfolding first_of first_at
outside-itself ns cs g k n = go (class_of cs k) refl
  where
    go : (o : Option ℕ) → class_of cs k ≡ o → first_at cs k o ≡ k
    go None e = refl
    go (Some i) e = let c = class_of-some cs k i e in absurd (n (g.inside k (class-flat cs k i c.0 c.1)))

module _ (ns ms : List Node) (cs : List Class) (s : Sound ns) (t : Sound ms) (g : Good ns cs) (y : Extends ns ms) where
  -- what is looked up in a grown arena is what was found before
  replaced-extended : (x : Expression) → replaced ms (first_of cs) x ≡ replaced ns (first_of cs) x
  unfolding replaced replaced_by
  replaced-extended x = go (number_of ns x) refl
    where
      new : number_of ns x ≡ None → (o : Option ℕ) → number_of ms x ≡ o → replaced_by ms (first_of cs) x o ≡ x
      new e None f = refl
      new e (Some k) f =
          let w = number-some ms t x k f in
          ap (expression_at ms) (outside-itself ns cs g k (λ l. number-none ns s x e k l (sym (expression-kept y k l) ∙ w.is))) ∙ w.is

      go : (o : Option ℕ) → number_of ns x ≡ o → replaced_by ms (first_of cs) x (number_of ms x) ≡ replaced_by ns (first_of cs) x o
      go None e = new e (number_of ms x) refl
      go (Some k) e =
          let w = number-some ns s x k e in
          ap (replaced_by ms (first_of cs) x) (number-old ms t x k (omega (arith, w.below, extends-longer y)) (expression-kept y k w.below ∙ w.is))
          ∙ expression-kept y (first_of cs k) (first-inside ns cs g k w.below)

  mutual
    unfolding normal_by normals_by

    -- an expression's normal form is the same in a grown arena
    pub normal-extended : (x : Expression) → normal ms cs x ≡ normal ns cs x
    normal-extended (col name index) = replaced-extended (col name index)
    normal-extended (lit v) = replaced-extended (lit v)
    normal-extended (op label es) =
        ap (λ (c : Expressions). replaced ms (first_of cs) (op label c)) (normals-extended es) ∙ replaced-extended (op label (normals ns cs es))

    -- the same for expressions in a row
    pub normals-extended : (es : Expressions) → normals ms cs es ≡ normals ns cs es
    normals-extended ∅ = refl
    normals-extended (x ▹ es) = ap₂ {C = Expressions} (λ a b. a ▹ b) (normal-extended x) (normals-extended es)

-- expressions with one normal form are answered one number, whatever was added in between
pub normal_form-again : (a b : ℕ) (ns : List Node) (cs : List Class) (i : ℕ) (ms os : List Node) → Sound ns → Good ns cs → normalize_expr a ns cs ≡ (Ok i, ms)
    → b < length ns → normal ns cs (expression_at ns a) ≡ normal ns cs (expression_at ns b) → Sound os → Extends ms os → normalize_expr b os cs ≡ (Ok i, os)
unfolding normalize_expr answered
normal_form-again a b ns cs i ms os s g q l e t y =
    let c = normal_form-is a ns cs i ms s g q in
    let x = extends-both c.extends y in
    rw (
      lt-ltb b (length os) (omega (arith, l, extends-longer x)),
      add_expression-old (normal os cs (expression_at os b)) os t i (omega (arith, c.below, extends-longer y))
          (expression-kept y i c.below ∙ c.is ∙ e ∙ sym (normal-extended ns os cs s t g x (expression_at ns b)) ∙ ap (normal os cs) (sym (expression-kept x b l))),
    )
