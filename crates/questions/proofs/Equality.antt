-- The equality walk: what it answers at each of its returns, and the loop over the children, from what the table of pairs says.
use Prim.Native.Nat.{ℕ, ◌+◌, ◌<◌, ◌≤◌}
use mathlib.Core.Bool.{Bool, true, false, ◌&&◌, ◌||◌}
use mathlib.Core.List.{List}
use mathlib.Core.Path.{◌≡◌, refl, sym, ap, ◌∙◌}
use native.Mathlib.Decide.{ℕ_discrete}
use native.Mathlib.Omega.{arith}
use borrow.Author.Tests.{eq-eqb, ne_eqb, eqb-true}
use lib.Dec.{eqb, ltb}
use lib.ListN.{length, get_or, replicate}
use Rattle.laws.specs.Tests.{each}
use Rattle.laws.proofs.Booleans.{true_not_false, and_right}
use Rattle.laws.proofs.Each.{each_none, each_more, each-stops, each-ends}
use Rattle.arena.specs.Node.{Node, node_at, child_numbers}
use Rattle.arena.specs.Layout.{count, decode as nodes}
use Rattle.arena.specs.Inner.{Known}
use Rattle.arena.proofs.Layouts.{length-decode}
use Rattle.arena.proofs.Children.{child-below, known-lower}
use Rattle.classes.specs.Class.{Class}
use Rattle.classes.specs.Group.{same_class}
use Rattle.questions.specs.Questions.{equal_by, exprs_equal}
use Rattle.questions.specs.Inner.{Placed, same_place, told_pair, Told, Asked, Answered, AskedAll, AnsweredAll, pair_up}
use Rattle.questions.proofs.Asking.{equal_by-is, equal_by_cong}
use Rattle.questions.proofs.PlaceNumbers.{same-placed}
use Rattle.questions.proofs.Pairs.{none_told}

-- a known number is one of the arena's, and a place of the tables
pub known-inside : (s : List ℕ) (e : ℕ) → Known s e → e < length (nodes s)
known-inside s e k = omega (arith, length-decode s, k.below)

pub known-place : (s : List ℕ) (e : ℕ) → Known s e → e < 1024
known-place s e k = omega (arith, k.below, k.holds.few)

-- the children of a node
abbrev pub Children : List ℕ → ℕ → List ℕ
Children s e = child_numbers (node_at (nodes s) e)

-- child k of a and child k of b are equal
abbrev pub Pair : List ℕ → List ℕ → ℕ → ℕ → ℕ → Bool
Pair s places a b k = equal_by (nodes s) (same_place places) (get_or (Children s a) k 0) (get_or (Children s b) k 0)

-- both have children, equally many, and each two are equal
abbrev Both : List ℕ → List ℕ → ℕ → ℕ → Bool
Both s places a b = ltb 0 (length (Children s a)) && eqb (length (Children s a)) (length (Children s b)) && each (Pair s places a b) (length (Children s a))

-- an `||` of three whose first two fail
or-last : (p q r : Bool) → p ≡ false → q ≡ false → (p || q || r) ≡ r
or-last p q r e f = rw (e, f)

or-second : (p q r : Bool) → q ≡ true → (p || q || r) ≡ true
or-second true q r e = refl
or-second false q r e = rw e

-- an `&&` of three whose first two fail, or pass
and-stops : (p q r : Bool) → (p && q) ≡ false → (p && q && r) ≡ false
and-stops true q r e = rw e
and-stops false q r e = refl

and_last : (p q r : Bool) → (p && q) ≡ true → (p && q && r) ≡ r
and_last true q r e = rw e
and_last false q r e = absurd (true_not_false e refl)

module _ (s places seen : List ℕ) (a b : ℕ) (q : Asked s places seen a b) where
  rule : equal_by (nodes s) (same_place places) a b ≡ (eqb a b || same_place places a b || Both s places a b)
  rule = equal_by-is (nodes s) q.left.holds.sound (same_place places) a b (known-inside s a q.left)

  -- the same number
  pub self-answered : a ≡ b → Answered s places seen a b true
  self-answered e = record { is = sym (rule ∙ rw (eq-eqb a b e)); told = q.told }

  -- one class
  pub class-answered : same_place places a b ≡ true → Answered s places seen a b true
  class-answered e = record { is = sym (rule ∙ or-second (eqb a b) (same_place places a b) (Both s places a b) e); told = q.told }

  -- the pair is in the table
  pub pair-answered : told_pair seen a b ≡ true → Answered s places seen a b true
  pair-answered e = record { is = sym (q.told a b (known-place s a q.left) (known-place s b q.right) e); told = q.told }

  module _ (d : a ≡ b → ⊥) (p : same_place places a b ≡ false) where
    -- it hangs on the children
    by-children : equal_by (nodes s) (same_place places) a b ≡ Both s places a b
    by-children = rule ∙ or-last (eqb a b) (same_place places a b) (Both s places a b) (ne_eqb a b d) p

    -- no children, or another number of them
    pub unpaired_answered : pair_up (Children s a) (Children s b) ≡ false → Answered s places seen a b false
    unpaired_answered e = record { is = sym (by-children ∙ and-stops (ltb 0 (length (Children s a))) (eqb (length (Children s a)) (length (Children s b))) (each (Pair s places a b) (length (Children s a))) e); told = q.told }

    module _ (n : ℕ) (c : n ≡ length (Children s a)) (k : pair_up (Children s a) (Children s b) ≡ true) where
      equally_many : length (Children s a) ≡ length (Children s b)
      equally_many = eqb-true (length (Children s a)) (length (Children s b)) (and_right (ltb 0 (length (Children s a))) (eqb (length (Children s a)) (length (Children s b))) k)

      -- what the walk over the children asks
      pub children-asked : AskedAll s places seen a b n
      children-asked = record { asked = q; left = sym c; right = sym equally_many ∙ sym c }

      walked : equal_by (nodes s) (same_place places) a b ≡ each (Pair s places a b) n
      walked =
          by-children
          ∙ and_last (ltb 0 (length (Children s a))) (eqb (length (Children s a)) (length (Children s b))) (each (Pair s places a b) (length (Children s a))) k
          ∙ ap (each (Pair s places a b)) (sym c)

      -- two children differ
      pub children-answered : (t : List ℕ) → AnsweredAll s places t a b n false → Answered s places t a b false
      children-answered t w = record { is = w.is ∙ sym walked; told = w.told }

      -- all are equal, and the pair was put into the table
      pub children-noted : (t u : List ℕ) → AnsweredAll s places t a b n true
          → ((x y : ℕ) → x < 1024 → y < 1024 → told_pair u x y ≡ true → ((x ≡ a) × (y ≡ b) → ⊥) → told_pair t x y ≡ true)
          → Answered s places u a b true
      children-noted t u w h = record { is = yes'; told = λ x y lx ly m. at x y lx ly m (ℕ_discrete x a) (ℕ_discrete y b) }
        where
          yes' : true ≡ equal_by (nodes s) (same_place places) a b
          yes' = w.is ∙ sym walked

          at : (x y : ℕ) → x < 1024 → y < 1024 → told_pair u x y ≡ true → Dec (x ≡ a) → Dec (y ≡ b) → equal_by (nodes s) (same_place places) x y ≡ true
          at x y lx ly m (yes e) (yes f) = rw (e, f) (sym yes')
          at x y lx ly m (yes e) (no f) = w.told x y lx ly (h x y lx ly m (λ v. f v.1))
          at x y lx ly m (no e) f = w.told x y lx ly (h x y lx ly m (λ v. e v.0))

-- the first k children are pairwise equal
pub record Going (s places : List ℕ) (a b : ℕ) (seen : List ℕ) (k : ℕ) : Type 0 where
  pub equal : each (Pair s places a b) k ≡ true
  pub told : Told (nodes s) places seen

module _ (s places seen₀ : List ℕ) (a b n : ℕ) (q : AskedAll s places seen₀ a b n) where
  pub going-begins : Going s places a b seen₀ 0
  going-begins = record { equal = each_none (Pair s places a b); told = q.asked.told }

  module _ (seen : List ℕ) (k : ℕ) (g : Going s places a b seen k) where
    -- the loop ends
    pub going-ends : k ≤ n → n ≤ k → AnsweredAll s places seen a b n true
    going-ends w l = record { is = each-ends (Pair s places a b) n k w l g.equal; told = g.told }

    module _ (l : k < n) where
      pub left_there : k < length (Children s a)
      left_there = omega (arith, q.left)

      pub right_there : k < length (Children s b)
      right_there = omega (arith, q.right)

      -- the children are lower
      pub left-lower : get_or (Children s a) k 0 < a
      left-lower = child-below s a q.asked.left k left_there

      right-lower : get_or (Children s b) k 0 < b
      right-lower = child-below s b q.asked.right k right_there

      module _ (x y : ℕ) (ex : x ≡ get_or (Children s a) k 0) (ey : y ≡ get_or (Children s b) k 0) where
        -- what the walk asks of the next two
        pub pair-asked : Asked s places seen x y
        pair-asked =
            record {
              left = known-lower s a x q.asked.left (omega (arith, left-lower));
              right = known-lower s b y q.asked.right (omega (arith, right-lower));
              told = g.told;
            }

        -- its answer is that of the pair
        pair_is : (t : List ℕ) (r : Bool) → Answered s places t x y r → Pair s places a b k ≡ r
        pair_is t r w = sym (w.is ∙ rw (ex, ey))

        pub going_on : (t : List ℕ) → Answered s places t x y true → Going s places a b t (k + 1)
        going_on t w = record { equal = each_more (Pair s places a b) k g.equal (pair_is t true w); told = w.told }

        pub going-stops : (t : List ℕ) → Answered s places t x y false → AnsweredAll s places t a b n false
        going-stops t w = record { is = each-stops (Pair s places a b) n k l (pair_is t false w); told = w.told }

-- the answer by a table of the classes' places is the group's
pub by-places : (s places : List ℕ) (cs : List Class) (a b : ℕ) → Known s a → Known s b → Placed cs (count s) places
    → equal_by (nodes s) (same_place places) a b ≡ exprs_equal (nodes s) cs a b
by-places s places cs a b j k h =
    equal_by_cong (nodes s) j.holds.sound (same_place places) (same_class cs)
    (λ x y lx ly. same-placed cs (count s) places h x y (rw (length-decode s) at lx) (rw (length-decode s) at ly)) a b (known-inside s a j) (known-inside s b k)

-- a fresh table says nothing
pub fresh-told : (ns : List Node) (places : List ℕ) (n : ℕ) → Told ns places (replicate n 0)
fresh-told ns places n a b la lb h = absurd (true_not_false h (none_told n a b))
