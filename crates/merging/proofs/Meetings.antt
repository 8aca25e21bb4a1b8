-- Whether an expression is in a class, whether two classes have one in common, and the search for such a class from the back.
use Rattle.std.specs.Prelude.{if◌then◌else◌, None, Some}
use Prim.Native.Nat.{ℕ, zero, suc, ◌+◌, ◌-◌, ◌<◌, ◌≤◌}
use mathlib.Core.Bool.{Bool, true, false, ◌&&◌}
use mathlib.Core.List.{List, [], ◌∷◌}
use mathlib.Core.Path.{◌≡◌, refl, sym, ap, ◌∙◌, subst}
use native.Mathlib.Decide.{dec_lt}
use native.Mathlib.Omega.{arith}
use borrow.Author.Tests.{lt-ltb, le-ltb}
use lib.Dec.{eqb, ltb}
use lib.ListN.{length, get_or, take, drop}
use Rattle.std.specs.List.{list_any}
use Rattle.classes.specs.Class.{Class}
use Rattle.classes.specs.Group.{among, class_at}
use Rattle.classes.specs.Layout.{sum_to, decode}
use Rattle.classes.specs.Inner.{Coded}
use Rattle.classes.specs.declared.Group.{Group}
use Rattle.classes.proofs.Codec.{length-decode, class-inside, size_is, members-cut}
use Rattle.merging.specs.Extending.{any_among, contains_any}
use Rattle.merging.specs.Merging.{meeting_below, last_meeting}

-- an expression is among these: some of them is that expression
pub among-any : (e : ℕ) (xs : List ℕ) → list_any (λ m. eqb m e) xs ≡ among e xs
unfolding among
among-any e [] = refl
among-any e (x ∷ xs) = rw (among-any e xs)

-- two lists have a number in common: some number of the first is among the second
pub meets-any : (ms xs : List ℕ) → list_any (λ e. among e ms) xs ≡ any_among xs ms
unfolding any_among
meets-any ms [] = refl
meets-any ms (x ∷ xs) = rw (meets-any ms xs)

-- the members of a class, as they stand in the table
module _ (g : Group) (v : Coded g) (i start : ℕ) (p : start ≡ sum_to g.sizes i) where
  pub cut-inside : start + get_or g.sizes i 0 ≤ 256
  cut-inside = omega (arith, p, class-inside g v i)

  pub cut-is : take (start + get_or g.sizes i 0 - start) (drop start g.members) ≡ (class_at (decode g) i).members
  cut-is =
      let n : start + get_or g.sizes i 0 - start ≡ length (class_at (decode g) i).members = omega (arith, size_is g v i) in
      rw (n, p) (members-cut g v i)

-- the search from the back
module _ (cs : List Class) (i : ℕ) where
  -- the class before the place meets
  meeting_hit : (j : ℕ) → i < j → contains_any (class_at cs i) (class_at cs j) ≡ true → meeting_below cs i (suc j) ≡ Some j
  unfolding meeting_below
  meeting_hit j l q = rw (lt-ltb i j l, q)

  -- it doesn't
  meeting_on : (j : ℕ) → contains_any (class_at cs i) (class_at cs j) ≡ false → meeting_below cs i (suc j) ≡ meeting_below cs i j
  unfolding meeting_below
  meeting_on j q = go (ltb i j)
    where
      go : (b : Bool) → (if b && contains_any (class_at cs i) (class_at cs j) then Some j else meeting_below cs i j) ≡ meeting_below cs i j
      go true = rw q
      go false = refl

  -- no class after i is left
  pub meeting_ends : (j : ℕ) → j ≤ i + 1 → meeting_below cs i j ≡ None
  unfolding meeting_below
  meeting_ends zero l = refl
  meeting_ends (suc j) l = rw (le-ltb i j (omega arith)) (meeting_ends j (omega arith))

  -- what it finds
  meeting_some : (n j : ℕ) → meeting_below cs i n ≡ Some j → (i < j) × ((j < n) × (contains_any (class_at cs i) (class_at cs j) ≡ true))
  unfolding meeting_below
  meeting_some zero j e = absurd (let z : ◌≡◌ {A = ℕ} 0 1 = cc in omega arith)
  meeting_some (suc n) j e = go (dec_lt i n) (contains_any (class_at cs i) (class_at cs n)) refl e (meeting_some n j)
    where
      go : Dec (i < n) → (b : Bool) → contains_any (class_at cs i) (class_at cs n) ≡ b → meeting_below cs i (suc n) ≡ Some j
          → (meeting_below cs i n ≡ Some j → (i < j) × ((j < n) × (contains_any (class_at cs i) (class_at cs j) ≡ true)))
          → (i < j) × ((j < suc n) × (contains_any (class_at cs i) (class_at cs j) ≡ true))
      go (yes l) true q h r =
          let s : Some n ≡ Some j = sym (meeting_hit n l q) ∙ h in
          let t : n ≡ j = cc in
          (omega arith, (omega arith, subst (λ (k : ℕ). contains_any (class_at cs i) (class_at cs k) ≡ true) t q))
      go (yes l) false q h r = let s = r (sym (meeting_on n q) ∙ h) in (s.0, (omega (arith, s.1.0), s.1.1))
      go (no l) b q h r = absurd (let s : None ≡ Some j = sym (meeting_ends (suc n) (omega arith)) ∙ h in let z : ◌≡◌ {A = ℕ} 0 1 = cc in omega arith)

  -- the search over all classes
  pub meeting_is : (j : ℕ) → last_meeting cs i ≡ Some j → (i < j) × ((j < length cs) × (contains_any (class_at cs i) (class_at cs j) ≡ true))
  unfolding last_meeting
  meeting_is j e = meeting_some (length cs) j e

-- the same over the struct
module _ (g : Group) (i : ℕ) where
  pub search_begins : last_meeting (decode g) i ≡ meeting_below (decode g) i g.count
  unfolding last_meeting
  search_begins = rw (length-decode g)

  -- a turn that finds
  pub search_hit : (j : ℕ) (b : Bool) → i + 1 < j → b ≡ contains_any (class_at (decode g) i) (class_at (decode g) (j - 1)) → b ≡ true → last_meeting (decode g) i ≡ meeting_below (decode g) i j → Some (j - 1) ≡ last_meeting (decode g) i
  search_hit j b l q h p =
      let s : j ≡ suc (j - 1) = omega arith in
      sym (p ∙ ap (λ (n : ℕ). meeting_below (decode g) i n) s ∙ meeting_hit (decode g) i (j - 1) (omega arith) (sym q ∙ h))

  -- a turn that goes on
  pub search_on : (j : ℕ) (b : Bool) → i + 1 < j → b ≡ contains_any (class_at (decode g) i) (class_at (decode g) (j - 1)) → b ≡ false → last_meeting (decode g) i ≡ meeting_below (decode g) i j → last_meeting (decode g) i ≡ meeting_below (decode g) i (j - 1)
  search_on j b l q h p =
      let s : j ≡ suc (j - 1) = omega arith in
      p ∙ ap (λ (n : ℕ). meeting_below (decode g) i n) s ∙ meeting_on (decode g) i (j - 1) (sym q ∙ h)

  -- the end
  pub search_ends : (j : ℕ) → j ≤ i + 1 → last_meeting (decode g) i ≡ meeting_below (decode g) i j → None ≡ last_meeting (decode g) i
  search_ends j l p = sym (p ∙ meeting_ends (decode g) i j l)
