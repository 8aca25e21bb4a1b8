-- What an insert makes of a map, by whether its key is there: where the key stands then, what its entry is, and what the others are.
use Prim.Native.Nat.{ℕ, ◌+◌, ◌<◌}
use mathlib.Core.Bool.{Bool}
use mathlib.Core.List.{List, [], ◌∷◌, ◌++◌}
use Rattle.std.specs.Prelude.{Option, None, Some}
use mathlib.Core.Path.{◌≡◌, refl, sym, ap, ◌∙◌}
use native.Mathlib.Decide.{ℕ_discrete, dec_lt}
use native.Mathlib.Omega.{arith}
use borrow.Author.Tests.{eqb-true, eq-eqb}
use lib.Dec.{eqb}
use lib.ListN.{length, set, length-append, length-set, get_or-append}
use lib.Seq.{get_or_at, get_or-set_same, get_or-set_other}
use Rattle.laws.proofs.Booleans.{true_not_false}
use Rattle.laws.proofs.First.{first_some, first-none}
use Rattle.dependencies.specs.Map.{Dependent, entry_at, place_of, with_dependency, inserted_at, inserted}

-- what stands past the end
abbrev pub nothing : Dependent
nothing = record { key = 0; target = None; dependencies = [] }

-- an entry with the dependency that is given
abbrev pub more : Dependent → Option ℕ → Dependent
more x d = record { key = x.key; target = x.target; dependencies = with_dependency x.dependencies d }

-- the place of a key
module _ (ds : List Dependent) (k : ℕ) where
  abbrev Hit : ℕ → Bool
  Hit i = eqb (entry_at ds i).key k

  -- it is one of the map
  pub place-below : (i : ℕ) → place_of ds k ≡ Some i → i < length ds
  unfolding place_of
  place-below i e = (first_some Hit (length ds) i e).below

  -- the key stands there
  pub place-key : (i : ℕ) → place_of ds k ≡ Some i → (entry_at ds i).key ≡ k
  unfolding place_of
  place-key i e = eqb-true (entry_at ds i).key k (first_some Hit (length ds) i e).passes

  -- and not before
  pub place-first : (i : ℕ) → place_of ds k ≡ Some i → (j : ℕ) → j < i → (entry_at ds j).key ≡ k → ⊥
  unfolding place_of
  place-first i e j l q = true_not_false (eq-eqb (entry_at ds j).key k q) ((first_some Hit (length ds) i e).fresh j l)

  -- a key without a place stands nowhere
  pub place_none : place_of ds k ≡ None → (j : ℕ) → j < length ds → (entry_at ds j).key ≡ k → ⊥
  unfolding place_of
  place_none e j l q = true_not_false (eq-eqb (entry_at ds j).key k q) (first-none Hit (length ds) e j l)

  -- where a key stands and not before, there is its place
  pub place_is : (i : ℕ) → i < length ds → (entry_at ds i).key ≡ k → ((j : ℕ) → j < i → (entry_at ds j).key ≡ k → ⊥) → place_of ds k ≡ Some i
  place_is i l q f = go (place_of ds k) refl
    where
      go : (o : Option ℕ) → place_of ds k ≡ o → place_of ds k ≡ Some i
      go None e = absurd (place_none e i l q)
      go (Some r) e = e ∙ ap {B = Option ℕ} Some (at (dec_lt r i) (dec_lt i r))
        where
          at : Dec (r < i) → Dec (i < r) → r ≡ i
          at (yes p) s = absurd (f r p (place-key r e))
          at (no p) (yes s) = absurd (place-first r e i s q)
          at (no p) (no s) = omega arith

module _ (ds : List Dependent) (k : ℕ) (t d : Option ℕ) where
  -- the entry of a new key
  abbrev pub last : Dependent
  last = record { key = k; target = t; dependencies = with_dependency [] d }

  -- a key that is there
  module _ (i : ℕ) (e : place_of ds k ≡ Some i) where
    pub there-is : inserted ds k t d ≡ set ds i (more (entry_at ds i) d)
    unfolding inserted inserted_at
    there-is = rw e

    pub there-length : length (inserted ds k t d) ≡ length ds
    there-length = ap (λ (x : List Dependent). length x) there-is ∙ length-set ds i (more (entry_at ds i) d)

    pub there-entry : entry_at (inserted ds k t d) i ≡ more (entry_at ds i) d
    there-entry = ap (λ (x : List Dependent). entry_at x i) there-is ∙ get_or-set_same ds i (more (entry_at ds i) d) nothing (place-below ds k i e)

    pub there-other : (j : ℕ) → (j ≡ i → ⊥) → entry_at (inserted ds k t d) j ≡ entry_at ds j
    there-other j n = ap (λ (x : List Dependent). entry_at x j) there-is ∙ get_or-set_other ds i j (more (entry_at ds i) d) nothing n

  -- a key that is new
  module _ (e : place_of ds k ≡ None) where
    pub new_is : inserted ds k t d ≡ ds ++ (last ∷ [])
    unfolding inserted inserted_at
    new_is = rw e

    pub new-length : length (inserted ds k t d) ≡ length ds + 1
    new-length = ap (λ (x : List Dependent). length x) new_is ∙ length-append ds (last ∷ [])

    pub new-entry : entry_at (inserted ds k t d) (length ds) ≡ last
    new-entry = ap (λ (x : List Dependent). entry_at x (length ds)) new_is ∙ get_or_at ds last [] nothing (length ds) refl

    pub new-other : (j : ℕ) → j < length ds → entry_at (inserted ds k t d) j ≡ entry_at ds j
    new-other j l = ap (λ (x : List Dependent). entry_at x j) new_is ∙ get_or-append ds (last ∷ []) nothing j l

  -- every key that was there is kept
  pub keys_kept : (j : ℕ) → j < length ds → (entry_at (inserted ds k t d) j).key ≡ (entry_at ds j).key
  keys_kept j l = go (place_of ds k) refl
    where
      go : (o : Option ℕ) → place_of ds k ≡ o → (entry_at (inserted ds k t d) j).key ≡ (entry_at ds j).key
      go None e = ap (λ (x : Dependent). x.key) (new-other e j l)
      go (Some i) e = at (ℕ_discrete j i)
        where
          at : Dec (j ≡ i) → (entry_at (inserted ds k t d) j).key ≡ (entry_at ds j).key
          at (yes q) = rw q (ap (λ (x : Dependent). x.key) (there-entry i e))
          at (no q) = ap (λ (x : Dependent). x.key) (there-other i e j q)

  -- a key that is there keeps its place
  pub place_kept : (i : ℕ) → place_of ds k ≡ Some i → place_of (inserted ds k t d) k ≡ Some i
  place_kept i e =
      let l = place-below ds k i e in
      place_is (inserted ds k t d) k i (omega (arith, there-length i e)) (keys_kept i l ∙ place-key ds k i e)
      (λ j b q. place-first ds k i e j b (sym (keys_kept j (omega arith)) ∙ q))

  -- a new key comes to the end
  pub place-new : place_of ds k ≡ None → place_of (inserted ds k t d) k ≡ Some (length ds)
  place-new e =
      place_is (inserted ds k t d) k (length ds) (omega (arith, new-length e)) (ap (λ (x : Dependent). x.key) (new-entry e))
      (λ j b q. place_none ds k e j b (sym (keys_kept j b) ∙ q))
