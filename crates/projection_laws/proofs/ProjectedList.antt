-- The projections of a list of expressions, added one after the other: each answer says that there is none, or is the number of one.
use Prim.Native.Nat.{ℕ, zero, suc, ◌<◌}
use mathlib.Core.List.{List, [], ◌∷◌, map}
use Rattle.std.specs.Prelude.{Option, None, Some}
use mathlib.Core.Path.{◌≡◌, refl, sym, ap, ◌∙◌, subst, subst₂}
use native.Mathlib.Omega.{arith}
use lib.ListN.{length, get_or, length-map}
use Rattle.arena.specs.Node.{Node}
use Rattle.arena.specs.Expression.{Expression, expression_at}
use Rattle.arena.specs.Arena.{Sound, Extends, Small, placed, and_then, add_expression}
use Rattle.arena.proofs.Nodes.{extends-none, extends-both, extends-longer}
use Rattle.arena.proofs.Trees.{expression-kept}
use Rattle.arena.proofs.Growing.{AddedExpression, between, add-expression}
use Rattle.classes.specs.Class.{Class}
use Rattle.mappings.specs.Mapping.{Mapped}
use Rattle.mappings.specs.Agree.{Over}
use Rattle.projection_table.specs.Projecting.{projection, add_projections, project_all}
use Rattle.projection_laws.proofs.ProjectedValue.{projection-small}

-- an answer for what may have a projection: that there is none, or the number of one
unfoldable pub Answers : List Node → Option Expression → Option ℕ → Type 0
Answers ms x None = x ≡ None
Answers ms x (Some k) = (k < length ms) × (x ≡ Some (expression_at ms k))

-- an answer that is a number
pub answers-some : (ms : List Node) (x : Option Expression) (answer : Option ℕ) → Answers ms x answer → (k : ℕ) → answer ≡ Some k → (k < length ms) × (x ≡ Some (expression_at ms k))
unfolding Answers
answers-some ms x answer h k e = subst (Answers ms x) e h

-- an answer stays one when the arena grows
pub answers-kept : {ns ms : List Node} → Extends ns ms → (x : Option Expression) (answer : Option ℕ) → Answers ns x answer → Answers ms x answer
unfolding Answers
answers-kept g x None h = h
answers-kept g x (Some k) h = (omega (arith, extends-longer g, h.0), h.1 ∙ ap (λ (y : Expression). Some y) (sym (expression-kept g k h.0)))

-- projections that were added: an answer for each, in a sound extension of the arena
pub record AddedProjections (xs : List (Option Expression)) (ns : List Node) (ks : List (Option ℕ)) (ms : List Node) : Type 0 where
  pub counted : length ks ≡ length xs
  pub sound : Sound ms
  pub extends : Extends ns ms
  pub answers : (j : ℕ) → j < length xs → Answers ms (get_or xs j None) (get_or ks j None)

-- the answers and the arena are those that were placed
placed-added : (xs : List (Option Expression)) (ns : List Node) (ks js : List (Option ℕ)) (ms os : List Node) → placed ks ms ≡ placed js os → AddedProjections xs ns ks ms → AddedProjections xs ns js os
placed-added xs ns ks js ms os e a = subst₂ (λ (l : List (Option ℕ)) (m : List Node). AddedProjections xs ns l m) (cc) (cc) a

-- where there is no projection, nothing is added
none-added : (xs : List (Option Expression)) (ns : List Node) (ks : List (Option ℕ)) (ms : List Node) → AddedProjections xs ns ks ms → AddedProjections (None ∷ xs) ns (None ∷ ks) ms
unfolding Answers
none-added xs ns ks ms a = record { counted = ap suc a.counted; sound = a.sound; extends = a.extends; answers = answers }
  where
    answers : (j : ℕ) → j < length (None ∷ xs) → Answers ms (get_or (None ∷ xs) j None) (get_or (None ∷ ks) j None)
    answers zero l = refl
    answers (suc j) l = a.answers j (omega arith)

-- one projection, and then the others
some-added : (x : Expression) (xs : List (Option Expression)) (ns : List Node) (k : ℕ) (ms : List Node) (ks : List (Option ℕ)) (os : List Node)
    → AddedExpression x ns k ms → AddedProjections xs ms ks os → AddedProjections (Some x ∷ xs) ns (Some k ∷ ks) os
unfolding Answers
some-added x xs ns k ms ks os a b = record { counted = ap suc b.counted; sound = b.sound; extends = extends-both a.extends b.extends; answers = answers }
  where
    answers : (j : ℕ) → j < length (Some x ∷ xs) → Answers os (get_or (Some x ∷ xs) j None) (get_or (Some k ∷ ks) j None)
    answers zero l = answers-kept b.extends (Some x) (Some k) (a.below, ap (λ (y : Expression). Some y) (sym a.is))
    answers (suc j) l = b.answers j (omega arith)

-- small projections that are added have the answers' numbers
pub add-projections : (xs : List (Option Expression)) (ns : List Node) → Sound ns → ((j : ℕ) → j < length xs → (x : Expression) → get_or xs j None ≡ Some x → Small x)
    → (ks : List (Option ℕ)) (ms : List Node) → add_projections xs ns ≡ placed ks ms → AddedProjections xs ns ks ms
unfolding add_projections
add-projections [] ns s h ks ms e = placed-added [] ns [] ks ns ms e (record { counted = refl; sound = s; extends = extends-none ns; answers = λ j l. absurd (omega arith) })
add-projections (None ∷ xs) ns s h ks ms e =
    let b = between (add_projections xs ns) (λ js os. placed (None ∷ js) os) ks ms e in
    placed-added (None ∷ xs) ns (None ∷ b.answer) ks b.arena ms b.then
    (none-added xs ns b.answer b.arena (add-projections xs ns s (λ j l. h (suc j) (omega arith)) b.answer b.arena b.first))
add-projections (Some x ∷ xs) ns s h ks ms e =
    let b = between (add_expression x ns) (λ k os. and_then (add_projections xs os) (λ js qs. placed (Some k ∷ js) qs)) ks ms e in
    let c = between (add_projections xs b.arena) (λ js qs. placed (Some b.answer ∷ js) qs) ks ms b.then in
    let p = add-expression x ns s (h 0 (omega arith) x refl) b.answer b.arena b.first in
    placed-added (Some x ∷ xs) ns (Some b.answer ∷ c.answer) ks c.arena ms c.then
    (some-added x xs ns b.answer b.arena c.answer c.arena p (add-projections xs b.arena p.sound (λ j l. h (suc j) (omega arith)) c.answer c.arena c.first))

-- what the projections of a list come to: for each expression that there is none, or its number, in a sound extension of the arena
pub record ProjectedAt (ns : List Node) (cs : List Class) (ps : List Mapped) (es : List ℕ) (ks : List (Option ℕ)) (ms : List Node) : Type 0 where
  pub counted : length ks ≡ length es
  pub sound : Sound ms
  pub extends : Extends ns ms
  pub answers : (j : ℕ) → j < length es → Answers ms (projection ns cs ps (get_or es j 0)) (get_or ks j None)

-- place j of a list that was mapped
pub mapped_at_lem : {A B : Type 0} (f : A → B) (xs : List A) (j : ℕ) (a : A) (b : B) → j < length xs → get_or (map f xs) j b ≡ f (get_or xs j a)
mapped_at_lem f [] j a b l = absurd (omega arith)
mapped_at_lem f (x ∷ xs) zero a b l = refl
mapped_at_lem f (x ∷ xs) (suc j) a b l = mapped_at_lem f xs j a b (omega arith)

-- the projections of known expressions that are added have the answers' numbers
pub project_all-is : (ns : List Node) (cs : List Class) (ps : List Mapped) (es : List ℕ) → Sound ns → Over ns ps → ((j : ℕ) → j < length es → get_or es j 0 < length ns)
    → (ks : List (Option ℕ)) (ms : List Node) → project_all ns cs ps es ≡ placed ks ms → ProjectedAt ns cs ps es ks ms
unfolding project_all
project_all-is ns cs ps es s o b ks ms e =
    let xs : List (Option Expression) = map (projection ns cs ps) es in
    let n : length xs ≡ length es = length-map es (projection ns cs ps) in
    let at : (j : ℕ) → j < length es → get_or xs j None ≡ projection ns cs ps (get_or es j 0) = λ j l. mapped_at_lem (projection ns cs ps) es j 0 None l in
    let a = add-projections xs ns s
    (λ j l x q. let k : j < length es = omega arith in projection-small ns cs ps s o (get_or es j 0) (b j k) x (sym (at j k) ∙ q)) ks ms e in
    record {
      counted = a.counted ∙ n;
      sound = a.sound;
      extends = a.extends;
      answers = λ j l. subst (λ (x : Option Expression). Answers ms x (get_or ks j None)) (at j l) (a.answers j (omega arith));
    }
