-- The number of an expression in a sound arena: it stands for the expression, and every expression of the arena has its own.
use Prim.Native.Nat.{ℕ, zero, suc, ◌<◌}
use mathlib.Core.List.{List, [], ◌∷◌}
use Rattle.std.specs.Prelude.{Option, None, Some}
use mathlib.Core.Path.{◌≡◌, refl, sym, ap, ap₂, ◌∙◌}
use native.Mathlib.Omega.{arith}
use lib.ListN.{length, get_or}
use Rattle.arena.specs.Node.{Node, column, literal, operation, node_at}
use Rattle.arena.specs.Expression.{Expression, Expressions, col, lit, op, ∅, ◌▹◌, those, over, expressions, expression_at}
use Rattle.arena.specs.Arena.{Allowed, Sound, find}
use Rattle.arena.proofs.Nodes.{find-some, find-old}
use Rattle.arena.proofs.Trees.{expression-is}
use Rattle.normal.specs.Normal.{operation_over, both_found, number_of, numbers_of}

-- two findings that were made, one by one
record Both (o : Option ℕ) (p : Option (List ℕ)) (ks : List ℕ) : Type 0 where
  head : ℕ
  tail : List ℕ
  first : o ≡ Some head
  then : p ≡ Some tail
  is : head ∷ tail ≡ ks

both : (o : Option ℕ) (p : Option (List ℕ)) (ks : List ℕ) → both_found o p ≡ Some ks → Both o p ks
unfolding both_found
both None p ks e = absurd (let z : ◌≡◌ {A = ℕ} 0 1 = cc in omega arith)
both (Some k) None ks e = absurd (let z : ◌≡◌ {A = ℕ} 0 1 = cc in omega arith)
both (Some k) (Some js) ks e = record { head = k; tail = js; first = refl; then = refl; is = cc }

-- an operation that was found over children that were
record OperationFound (ns : List Node) (label : ℕ) (p : Option (List ℕ)) (k : ℕ) : Type 0 where
  children : List ℕ
  first : p ≡ Some children
  then : find (operation label children) ns ≡ Some k

operation-found : (ns : List Node) (label : ℕ) (p : Option (List ℕ)) (k : ℕ) → operation_over ns label p ≡ Some k → OperationFound ns label p k
unfolding operation_over
operation-found ns label None k e = absurd (let z : ◌≡◌ {A = ℕ} 0 1 = cc in omega arith)
operation-found ns label (Some ks) k e = record { children = ks; first = refl; then = e }

-- a number that was found is one of the arena and stands for the expression
pub record Stands (ns : List Node) (x : Expression) (k : ℕ) : Type 0 where
  pub below : k < length ns
  pub is : expression_at ns k ≡ x

-- a node that was found stands for its expression
node-stands : (ns : List Node) → Sound ns → (n : Node) (k : ℕ) → find n ns ≡ Some k → Stands ns (over (expressions ns) n) k
node-stands ns s n k e =
    let f = find-some n ns k e in
    record { below = f.0; is = expression-is ns s k f.0 ∙ ap (over (expressions ns)) f.1 }

mutual
  unfolding number_of numbers_of over those

  -- the number found stands for the expression
  pub number-some : (ns : List Node) → Sound ns → (x : Expression) (k : ℕ) → number_of ns x ≡ Some k → Stands ns x k
  number-some ns s (col name index) k e = node-stands ns s (column name index) k e
  number-some ns s (lit v) k e = node-stands ns s (literal v) k e
  number-some ns s (op label children) k e =
      let f = operation-found ns label (numbers_of ns children) k e in
      let w = node-stands ns s (operation label f.children) k f.then in
      record { below = w.below; is = w.is ∙ ap (λ (c : Expressions). op label c) (numbers-some ns s children f.children f.first) }

  -- so do the numbers of expressions in a row
  pub numbers-some : (ns : List Node) → Sound ns → (xs : Expressions) (ks : List ℕ) → numbers_of ns xs ≡ Some ks → those (expressions ns) ks ≡ xs
  numbers-some ns s ∅ ks e = let z : [] ≡ ks = cc in ap (those (expressions ns)) (sym z)
  numbers-some ns s (x ▹ xs) ks e =
      let b = both (number_of ns x) (numbers_of ns xs) ks e in
      ap (those (expressions ns)) (sym b.is)
      ∙ ap₂ {C = Expressions} (λ a c. a ▹ c) (number-some ns s x b.head b.first).is (numbers-some ns s xs b.tail b.then)

-- expressions that are found at the numbers named
pub numbers-those : (ns : List Node) (ks : List ℕ) → ((k : ℕ) → k < length ks → number_of ns (expression_at ns (get_or ks k 0)) ≡ Some (get_or ks k 0)) → numbers_of ns (those (expressions ns) ks) ≡ Some ks
unfolding numbers_of those both_found
numbers-those ns [] h = refl
numbers-those ns (k ∷ ks) h = rw (h 0 (omega arith), numbers-those ns ks (λ j l. h (suc j) (omega arith)))

module _ (ns : List Node) (s : Sound ns) where
  -- a node whose children are found at their numbers is found at its own
  node-number : (k : ℕ) → k < length ns → (n : Node) → node_at ns k ≡ n → Allowed k n
      → ((j : ℕ) → j < k → number_of ns (expression_at ns j) ≡ Some j) → number_of ns (over (expressions ns) n) ≡ Some k
  unfolding number_of over Allowed operation_over
  node-number k l (column name index) q a h = find-old ns s k (column name index) l q
  node-number k l (literal v) q a h = find-old ns s k (literal v) l q
  node-number k l (operation label ks) q a h =
      rw (numbers-those ns ks (λ j b. h (get_or ks j 0) (a.1 j b))) (find-old ns s k (operation label ks) l q)

  -- below a bound, every expression is found at its number
  number-below : (n k : ℕ) → k < n → k < length ns → number_of ns (expression_at ns k) ≡ Some k
  number-below zero k b l = absurd (omega arith)
  number-below (suc n) k b l =
      rw (expression-is ns s k l) (node-number k l (node_at ns k) refl (s.allowed k l) (λ j c. number-below n j (omega arith) (omega arith)))

  -- an expression of the arena is found at its number
  pub number-old : (x : Expression) (k : ℕ) → k < length ns → expression_at ns k ≡ x → number_of ns x ≡ Some k
  number-old x k l e = ap (number_of ns) (sym e) ∙ number-below (length ns) k l l

  -- an expression that is not found is not there
  pub number-none : (x : Expression) → number_of ns x ≡ None → (k : ℕ) → k < length ns → expression_at ns k ≡ x → ⊥
  number-none x e k l q =
      let w : Some k ≡ None = sym (number-old x k l q) ∙ e in
      let z : ◌≡◌ {A = ℕ} 0 1 = cc in omega arith
