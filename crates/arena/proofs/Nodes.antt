-- Nodes: their equality is the test's, finding, arenas that extend others, and adding a node.
use Rattle.std.specs.Prelude.{if◌then◌else◌, Option, None, Some}
use Prim.Native.Nat.{ℕ, ◌+◌, ◌<◌, ◌≤◌}
use mathlib.Core.Bool.{Bool, true, false, ◌&&◌}
use mathlib.Core.List.{List, [], ◌∷◌, ◌++◌, append_assoc, append-nil}
use mathlib.Core.Path.{◌≡◌, refl, sym, ap, ◌∙◌, subst, subst₂}
use native.Mathlib.Decide.{ℕ_discrete, dec_lt}
use native.Mathlib.Omega.{arith}
use borrow.Author.Tests.{eqb-true, eq-eqb, ltb-true}
use lib.Dec.{eqb, ltb}
use lib.ListN.{length, length-append, get_or-append}
use lib.Seq.{get_or-append_seam}
use Rattle.laws.specs.Lists.{same_numbers}
use Rattle.laws.proofs.Booleans.{true_not_false, and_left, and_right, and_both}
use Rattle.laws.proofs.First.{first_some, first-none, first-only}
use Rattle.laws.proofs.Table.{same-numbers, numbers-same}
use Rattle.arena.specs.Node.{Node, column, literal, operation, node_at, same_node}
use Rattle.arena.specs.Arena.{Allowed, Sound, Extends, placed, full, find, placed_at, add}

-- two numbers that pass, one after the other
both : (a b x y : ℕ) → (eqb a b && eqb x y) ≡ true → (a ≡ b) × (x ≡ y)
both a b x y e = (eqb-true a b (and_left (eqb a b) (eqb x y) e), eqb-true x y (and_right (eqb a b) (eqb x y) e))

-- nodes that pass the test are equal
pub same-node : (a b : Node) → same_node a b ≡ true → a ≡ b
unfolding same_node
same-node (column a x) (column b y) e = let p = both a b x y e in rw (p.0, p.1)
same-node (column a x) (literal w) e = absurd (true_not_false e refl)
same-node (column a x) (operation m ks) e = absurd (true_not_false e refl)
same-node (literal v) (column b y) e = absurd (true_not_false e refl)
same-node (literal v) (literal w) e = rw (eqb-true v w e)
same-node (literal v) (operation m ks) e = absurd (true_not_false e refl)
same-node (operation l js) (column b y) e = absurd (true_not_false e refl)
same-node (operation l js) (literal w) e = absurd (true_not_false e refl)
same-node (operation l js) (operation m ks) e =
    rw (eqb-true l m (and_left (eqb l m) (same_numbers js ks) e), same-numbers js ks (and_right (eqb l m) (same_numbers js ks) e))

-- a node passes the test with itself
pub node-same : (a : Node) → same_node a a ≡ true
unfolding same_node
node-same (column a x) = and_both (eq-eqb a a refl) (eq-eqb x x refl)
node-same (literal v) = eq-eqb v v refl
node-same (operation l js) = and_both (eq-eqb l l refl) (numbers-same js)

-- equal nodes pass the test
is_same : {a b : Node} → a ≡ b → same_node b a ≡ true
is_same {a} e = subst (λ (n : Node). same_node n a ≡ true) e (node-same a)

-- a number that is found is one of the arena, and its node is the one looked for
pub find-some : (n : Node) (ns : List Node) (i : ℕ) → find n ns ≡ Some i → (i < length ns) × (node_at ns i ≡ n)
unfolding find
find-some n ns i e =
    let f = first_some (λ (j : ℕ). same_node n (node_at ns j)) (length ns) i e in
    (f.below, sym (same-node n (node_at ns i) f.passes))

-- where nothing is found, no node is the one looked for
pub find_none : (n : Node) (ns : List Node) → find n ns ≡ None → (i : ℕ) → i < length ns → node_at ns i ≡ n → ⊥
unfolding find
find_none n ns e i l q = true_not_false (is_same q) (first-none (λ (j : ℕ). same_node n (node_at ns j)) (length ns) e i l)

-- the numbers of equal nodes of a sound arena are equal
pub same_number : (ns : List Node) → Sound ns → (i j : ℕ) → i < length ns → j < length ns → node_at ns i ≡ node_at ns j → i ≡ j
same_number ns s i j li lj e = at (ℕ_discrete i j) (dec_lt i j)
  where
    at : Dec (i ≡ j) → Dec (i < j) → i ≡ j
    at (yes q) d = q
    at (no q) (yes b) = absurd (s.distinct i j b lj e)
    at (no q) (no b) = absurd (s.distinct j i (omega arith) li (sym e))

-- a node of a sound arena is found at its number
pub find-old : (ns : List Node) → Sound ns → (i : ℕ) (n : Node) → i < length ns → node_at ns i ≡ n → find n ns ≡ Some i
unfolding find
find-old ns s i n l q =
    first-only (λ (j : ℕ). same_node n (node_at ns j)) (length ns) i l (is_same q)
    (λ j b t. same_number ns s j i b l (sym (same-node n (node_at ns j) t) ∙ sym q))

-- what may have a number may have a higher one
pub allowed-more : (i j : ℕ) (n : Node) → i ≤ j → Allowed i n → Allowed j n
unfolding Allowed
allowed-more i j (column name index) l a = a
allowed-more i j (literal value) l a = a
allowed-more i j (operation label children) l a = (a.0, λ k b. let c = a.1 k b in omega arith)

-- an arena extends itself
pub extends-none : (ns : List Node) → Extends ns ns
extends-none ns = record { more = []; is = sym (append-nil ns) }

-- one extension after another is an extension
pub extends-both : {ns ms os : List Node} → Extends ns ms → Extends ms os → Extends ns os
extends-both {ns} x y = record {
  more = x.more ++ y.more;
  is = y.is ∙ ap (λ (l : List Node). l ++ y.more) x.is ∙ append_assoc ns x.more y.more;
}

-- an extension has at least as many nodes
pub extends-longer : {ns ms : List Node} → Extends ns ms → length ns ≤ length ms
extends-longer {ns} x = omega (arith, ap length x.is, length-append ns x.more)

-- old nodes keep number and content
pub extends-node : {ns ms : List Node} → Extends ns ms → (i : ℕ) → i < length ns → node_at ms i ≡ node_at ns i
extends-node {ns} x i l = ap (λ (ms : List Node). node_at ms i) x.is ∙ get_or-append ns x.more (literal 0) i l

-- what adding a node comes to: the arena is extended, it is sound, and the node stands at the number answered
pub record AddedNode (n : Node) (ns : List Node) (i : ℕ) (ms : List Node) : Type 0 where
  pub extends : Extends ns ms
  pub sound : Sound ms
  pub below : i < length ms
  pub is : node_at ms i ≡ n

module _ (n : Node) (ns : List Node) where
  -- an arena with one node more
  abbrev one : List Node
  one = ns ++ (n ∷ [])

  -- it extends the arena
  extends-one : Extends ns one
  extends-one = record { more = n ∷ []; is = refl }

  -- it is longer by one
  length-one : length one ≡ length ns + 1
  length-one = length-append ns (n ∷ [])

  -- the new node is the last
  last_one : node_at one (length ns) ≡ n
  last_one = get_or-append_seam ns n [] (literal 0)

  -- it is sound where the node is allowed, new, and finds room
  sound-one : Sound ns → Allowed (length ns) n → find n ns ≡ None → length ns < 1024 → Sound one
  sound-one s a f l = record {
    few = omega (arith, length-one);
    allowed = λ i b. allowed i b (ℕ_discrete i (length ns));
    distinct = λ i j b c. distinct i j b c (ℕ_discrete j (length ns));
  }
    where
      allowed : (i : ℕ) → i < length one → Dec (i ≡ length ns) → Allowed i (node_at one i)
      allowed i b (yes q) = rw (q, last_one) a
      allowed i b (no q) =
          let c : i < length ns = omega (arith, length-one) in
          rw (extends-node extends-one i c) (s.allowed i c)

      distinct : (i j : ℕ) → i < j → j < length one → Dec (j ≡ length ns) → node_at one i ≡ node_at one j → ⊥
      distinct i j b c (yes q) e =
          let d : i < length ns = omega arith in
          find_none n ns f i d (sym (extends-node extends-one i d) ∙ e ∙ ap (λ (k : ℕ). node_at one k) q ∙ last_one)
      distinct i j b c (no q) e =
          let d : j < length ns = omega (arith, length-one) in
          s.distinct i j b d (sym (extends-node extends-one i (omega arith)) ∙ e ∙ extends-node extends-one j d)

  -- so the node is added
  added-one : Sound ns → Allowed (length ns) n → find n ns ≡ None → length ns < 1024 → AddedNode n ns (length ns) one
  added-one s a f l = record { extends = extends-one; sound = sound-one s a f l; below = omega (arith, length-one); is = last_one }

-- a node that is added stands at the number answered, in a sound extension of the arena
pub add-node : (n : Node) (ns : List Node) → Sound ns → Allowed (length ns) n → (i : ℕ) (ms : List Node) → add n ns ≡ placed i ms → AddedNode n ns i ms
unfolding add placed_at
add-node n ns s a i ms e = go (find n ns) refl e
  where
    new : find n ns ≡ None → (b : Bool) → ltb (length ns) 1024 ≡ b → (if b then placed (length ns) (ns ++ (n ∷ [])) else full) ≡ placed i ms → AddedNode n ns i ms
    new f true t e = subst₂ (λ (j : ℕ) (l : List Node). AddedNode n ns j l) (cc) (cc) (added-one n ns s a f (ltb-true (length ns) 1024 t))
    new f false t e = absurd (let z : ◌≡◌ {A = ℕ} 0 1 = cc in omega arith)

    go : (o : Option ℕ) → find n ns ≡ o → placed_at o n ns ≡ placed i ms → AddedNode n ns i ms
    go (Some j) f e =
        subst₂ (λ (j : ℕ) (l : List Node). AddedNode n ns j l) (cc) (cc)
        (record { extends = extends-none ns; sound = s; below = (find-some n ns j f).0; is = (find-some n ns j f).1 })
    go None f e = new f (ltb (length ns) 1024) refl e

-- a node once added is found again
pub add-old : (n : Node) (ns : List Node) → Sound ns → (i : ℕ) → i < length ns → node_at ns i ≡ n → add n ns ≡ placed i ns
unfolding add placed_at
add-old n ns s i l q = rw (find-old ns s i n l q)
