-- Laws for the check of a lent group: the counts, the unused places of a table, and the cells of a literal.
use Prim.Native.Nat.{ℕ, ◌+◌, ◌-◌, ◌<◌, ◌≤◌}
use mathlib.Core.Bool.{Bool, true, false, not, ◌&&◌, ◌||◌}
use mathlib.Core.List.{List}
use mathlib.Core.Path.{◌≡◌, sym, ap, ◌∙◌}
use native.Mathlib.Decide.{ℕ_discrete}
use native.Mathlib.Omega.{arith}
use borrow.Author.Tests.{eqb-true, eq-eqb, ne_eqb, leb-true}
use lib.Dec.{eqb, ltb, leb}
use lib.ListN.{get_or}
use Rattle.laws.specs.Tests.{each}
use Rattle.laws.proofs.Booleans.{and_left, and_right}
use Rattle.laws.proofs.Each.{each_none, each_more, each-stops, each-ends}
use Rattle.arena.specs.Node.{Node, node_at}
use Rattle.arena.specs.Layout.{count, cell_of, row_of, node_of, decode as nodes}
use Rattle.arena.proofs.NodeCells.{node-column, node-literal, node-operation}
use Rattle.arena.proofs.Layouts.{node-decode, at-row_of}
use Rattle.classes.specs.Layout.{sum_to, known_flavour, in_set, fresh, is_literal, uniform_at, unused_from, lawful_counts, lawful_group}
use Rattle.classes.specs.declared.Group.{Group}

-- what passed counts say
pub record Counts (g : Group) : Type 0 where
  pub few : g.count ≤ 64
  pub within : g.used ≤ g.limit
  pub agree : sum_to g.sizes g.count ≡ g.used

pub counts : (g : Group) → lawful_counts g ≡ true → Counts g
unfolding lawful_counts
counts g e = record {
  few = leb-true g.count 64 (and_left few? within? bounds);
  within = leb-true g.used g.limit (and_right few? within? bounds);
  agree = eqb-true (sum_to g.sizes g.count) g.used (and_right (few? && within? && filled?) agree? e);
}
  where
    few? : Bool
    few? = leb g.count 64

    within? : Bool
    within? = leb g.used g.limit

    filled? : Bool
    filled? = each (λ j. ltb 0 (get_or g.sizes j 0)) g.count

    agree? : Bool
    agree? = eqb (sum_to g.sizes g.count) g.used

    bounds : (few? && within?) ≡ true
    bounds = and_left (few? && within?) filled? (and_left (few? && within? && filled?) agree? e)

-- numbers in their sets: the limit is at most 256
pub limit-few : (g : Group) → in_set g ≡ true → g.limit ≤ 256
unfolding in_set
limit-few g e =
    leb-true g.limit 256
    (and_right (ltb 0 g.limit) (leb g.limit 256)
    (and_left (ltb 0 g.limit && leb g.limit 256) (each (λ j. not (ltb j g.count) || known_flavour (get_or g.flavours j 0) (get_or g.values j 0)) 64) e))

-- a lawful group's counts passed
pub group-counts : (ns : List Node) (g : Group) → lawful_group ns g ≡ true → Counts g
unfolding lawful_group
group-counts ns g e =
    counts g
    (and_left (lawful_counts g) (each (λ k. fresh g.members k) g.used)
    (and_left (lawful_counts g && each (λ k. fresh g.members k) g.used) (each (λ j. uniform_at ns g j) g.count)
    (and_left (lawful_counts g && each (λ k. fresh g.members k) g.used && each (λ j. uniform_at ns g j) g.count)
    (unused_from g.count 64 g.sizes && unused_from g.count 64 g.flavours && unused_from g.count 64 g.values && unused_from g.used 256 g.members)
    e)))

-- the first k places of a table after its first n, of those below its room, are 0
abbrev pub UnusedTo : ℕ → ℕ → List ℕ → ℕ → Type 0
UnusedTo n room xs k = (k ≤ room - n) × (each (λ i. eqb (get_or xs (n + i) 0) 0) k ≡ true)

module _ (n room : ℕ) (xs : List ℕ) where
  -- place k after the first n is 0
  abbrev zero? : ℕ → Bool
  zero? k = eqb (get_or xs (n + k) 0) 0

  -- a walk over the unused places begins
  pub unused-none : UnusedTo n room xs 0
  unused-none = (omega arith, each_none zero?)

  -- it goes on past a 0
  pub unused-more : (k : ℕ) → k < room - n → UnusedTo n room xs k → get_or xs (n + k) 0 ≡ 0 → UnusedTo n room xs (k + 1)
  unused-more k l u e = (omega arith, each_more zero? k u.1 (eq-eqb (get_or xs (n + k) 0) 0 e))

  -- it stops at another number
  pub unused-stops : (k : ℕ) → k < room - n → (get_or xs (n + k) 0 ≡ 0 → ⊥) → false ≡ unused_from n room xs
  unfolding unused_from
  unused-stops k l e = each-stops zero? (room - n) k l (ne_eqb (get_or xs (n + k) 0) 0 e)

  -- it passes the last place
  pub unused-ends : (k : ℕ) → room - n ≤ k → UnusedTo n room xs k → true ≡ unused_from n room xs
  unfolding unused_from
  unused-ends k l u = each-ends zero? (room - n) k u.0 l u.1

-- a row is a literal's exactly where its kind is 2
literal-row : (r : List ℕ) → is_literal (node_of r) ≡ eqb (get_or r 0 0) 2
unfolding is_literal
literal-row r = at (ℕ_discrete (get_or r 0 0) 1) (ℕ_discrete (get_or r 0 0) 2)
  where
    at : Dec (get_or r 0 0 ≡ 1) → Dec (get_or r 0 0 ≡ 2) → is_literal (node_of r) ≡ eqb (get_or r 0 0) 2
    at (yes p) d = ap is_literal (node-column r p) ∙ sym (ne_eqb (get_or r 0 0) 2 (λ q. omega arith))
    at (no p) (yes q) = ap is_literal (node-literal r q) ∙ sym (eq-eqb (get_or r 0 0) 2 q)
    at (no p) (no q) = ap is_literal (node-operation r p q) ∙ sym (ne_eqb (get_or r 0 0) 2 q)

-- a node is a literal exactly where its cell 0 is 2
pub literal-cell : (cells : List ℕ) (e : ℕ) → e < count cells → is_literal (node_at (nodes cells) e) ≡ eqb (cell_of cells e 0) 2
literal-cell cells e l =
    ap is_literal (node-decode cells e l) ∙ literal-row (row_of cells e) ∙ ap (λ (k : ℕ). eqb k 2) (at-row_of cells e 0 (omega arith))
