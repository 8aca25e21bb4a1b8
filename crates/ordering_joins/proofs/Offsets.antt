-- Shifting the keys of one ordering and of a list: the tests and the walks from a place on, over an arena that has grown, and by other moves that agree.
use Prim.Native.Nat.{ℕ, zero, suc, ◌+◌, ◌*◌, ◌<◌, ◌≤◌}
use mathlib.Core.Bool.{Bool, true, false, ◌&&◌}
use mathlib.Core.List.{List, [], ◌∷◌, ◌++◌}
use Rattle.std.specs.Prelude.{Option}
use mathlib.Core.Path.{◌≡◌, refl, sym, ap, ap₂, ◌∙◌}
use native.Mathlib.Numerals.{add-one}
use native.Mathlib.Omega.{arith}
use lib.ListN.{length, get_or, drop, drop_of_length-le}
use lib.Seq.{drop-cons, append_snoc}
use Rattle.laws.proofs.Booleans.{and_left, and_right}
use Rattle.arena.specs.Node.{Node}
use Rattle.arena.specs.Expression.{Expression, expression_at}
use Rattle.arena.specs.Arena.{Sound, Extends, Placed, placed, full, and_then, add_expression}
use Rattle.shifting.specs.Shift.{can_move, shifted}
use Rattle.arena.proofs.Trees.{expression-kept, expression-small}
use Rattle.shifting.proofs.Values.{can_move_cong, shifted_cong}
use Rattle.orderings.specs.Ordering.{expr_of, options_of, built}
use Rattle.orderings.specs.Lists.{ordering_at}
use Rattle.ordering_joins.specs.Offset.{keys_move, lists_move, shifted_keys, shifted_lists}
use Rattle.ordering_joins.specs.Inner.{keys_tabled, lists_tabled}

-- ---- a test of all elements of a list

module _ {A : Type 0} (d : A) (p : A → Bool) (f : List A → Bool) (nil : f [] ≡ true) (cons : (x : A) (xs : List A) → f (x ∷ xs) ≡ (p x && f xs)) where
  -- where all pass, each does
  pub all-each : (xs : List A) → f xs ≡ true → (i : ℕ) → i < length xs → p (get_or xs i d) ≡ true
  all-each [] e i l = absurd (omega arith)
  all-each (x ∷ xs) e zero l = and_left (p x) (f xs) (sym (cons x xs) ∙ e)
  all-each (x ∷ xs) e (suc i) l = all-each xs (and_right (p x) (f xs) (sym (cons x xs) ∙ e)) i (omega arith)

  -- another test that agrees
  pub all_cong : (q : A → Bool) (g : List A → Bool) → g [] ≡ true → ((x : A) (xs : List A) → g (x ∷ xs) ≡ (q x && g xs))
      → (xs : List A) → ((i : ℕ) → i < length xs → p (get_or xs i d) ≡ q (get_or xs i d)) → f xs ≡ g xs
  all_cong q g a c [] h = nil ∙ sym a
  all_cong q g a c (x ∷ xs) h =
      cons x xs ∙ ap₂ {C = Bool} (λ (y z : Bool). y && z) (h 0 (omega arith)) (all_cong q g a c xs (λ i l. h (suc i) (omega arith))) ∙ sym (c x xs)

-- a key can move
abbrev pub key_moves : (ℕ → Option ℕ) → List Node → ℕ → Bool
key_moves to ns k = can_move to (expression_at ns (expr_of k))

module _ (to : ℕ → Option ℕ) (ns : List Node) where
  keys-nil : keys_move to ns [] ≡ true
  unfolding keys_move
  keys-nil = refl

  keys-cons : (k : ℕ) (ks : List ℕ) → keys_move to ns (k ∷ ks) ≡ (key_moves to ns k && keys_move to ns ks)
  unfolding keys_move
  keys-cons k ks = refl

  lists-nil : lists_move to ns [] ≡ true
  unfolding lists_move
  lists-nil = refl

  lists-cons : (o : List ℕ) (os : List (List ℕ)) → lists_move to ns (o ∷ os) ≡ (keys_move to ns o && lists_move to ns os)
  unfolding lists_move
  lists-cons o os = refl

  -- where all can move, each can
  pub keys-each : (ks : List ℕ) → keys_move to ns ks ≡ true → (k : ℕ) → k < length ks → key_moves to ns (get_or ks k 0) ≡ true
  keys-each = all-each 0 (key_moves to ns) (keys_move to ns) keys-nil keys-cons

  pub lists-each : (os : List (List ℕ)) → lists_move to ns os ≡ true → (i : ℕ) → i < length os → keys_move to ns (ordering_at os i) ≡ true
  lists-each = all-each [] (keys_move to ns) (lists_move to ns) lists-nil lists-cons

-- a key can move, by the table
abbrev key_tabled : List Bool → ℕ → Bool
key_tabled table k = get_or table (expr_of k) false

module _ (table : List Bool) where
  tabled-nil : keys_tabled table [] ≡ true
  unfolding keys_tabled
  tabled-nil = refl

  tabled-cons : (k : ℕ) (ks : List ℕ) → keys_tabled table (k ∷ ks) ≡ (key_tabled table k && keys_tabled table ks)
  unfolding keys_tabled
  tabled-cons k ks = refl

  all_nil : lists_tabled table [] ≡ true
  unfolding lists_tabled
  all_nil = refl

  all_cons : (o : List ℕ) (os : List (List ℕ)) → lists_tabled table (o ∷ os) ≡ (keys_tabled table o && lists_tabled table os)
  unfolding lists_tabled
  all_cons o os = refl

-- a table that says which of the first n nodes can move says it of keys that are among them
module _ (to : ℕ → Option ℕ) (ns : List Node) (table : List Bool) (n : ℕ) (says : (j : ℕ) → j < n → get_or table j false ≡ can_move to (expression_at ns j)) where
  keys-tabled : (ks : List ℕ) → ((k : ℕ) → k < length ks → expr_of (get_or ks k 0) < n) → keys_tabled table ks ≡ keys_move to ns ks
  keys-tabled ks h = all_cong 0 (key_tabled table) (keys_tabled table) (tabled-nil table) (tabled-cons table) (key_moves to ns) (keys_move to ns) (keys-nil to ns) (keys-cons to ns) ks (λ k l. says (expr_of (get_or ks k 0)) (h k l))

  pub lists-tabled : (os : List (List ℕ)) → ((i k : ℕ) → i < length os → k < length (ordering_at os i) → expr_of (get_or (ordering_at os i) k 0) < n) → lists_tabled table os ≡ lists_move to ns os
  lists-tabled os h = all_cong [] (keys_tabled table) (lists_tabled table) (all_nil table) (all_cons table) (keys_move to ns) (lists_move to ns) (lists-nil to ns) (lists-cons to ns) os (λ i l. keys-tabled (ordering_at os i) (λ k b. h i k l b))

-- ---- what is added after what was added

-- what was placed, after what was placed before
unfoldable pub following : {A : Type 0} → List A → Placed (List A) → Placed (List A)
following done (placed xs ms) = placed (done ++ xs) ms
following done full = full

pub following-none : {A : Type 0} (o : Placed (List A)) → o ≡ following [] o
unfolding following
following-none (placed xs ms) = refl
following-none full = refl

pub following-more : {A : Type 0} (done : List A) (x : A) (o : Placed (List A)) → following done (and_then o (λ xs ms. placed (x ∷ xs) ms)) ≡ following (done ++ (x ∷ [])) o
unfolding following and_then
following-more done x (placed xs ms) = ap (λ (l : List _). placed l ms) (sym (append_snoc done x xs))
following-more done x full = refl

-- the same is done with what was placed
and_then_cong : {A B : Type 0} (p : Placed A) (f g : A → List Node → Placed B) → ((a : A) (ns : List Node) → f a ns ≡ g a ns) → and_then p f ≡ and_then p g
unfolding and_then
and_then_cong (placed a ns) f g h = h a ns
and_then_cong full f g h = refl

-- ---- the walks from a place on

-- what is done after a key's expression was added
abbrev pub after_key : (ℕ → Option ℕ) → List Node → ℕ → List ℕ → ℕ → List Node → Placed (List ℕ)
after_key to ns k ks e os = and_then (shifted_keys to ns ks os) (λ rest ps. placed ((e * 4 + options_of k) ∷ rest) ps)

-- an ordering is built from the keys that were placed
abbrev pub build_of : Placed (List ℕ) → Placed (List ℕ)
build_of p = and_then p (λ ks ps. placed (built ks) ps)

-- what is done after an ordering was built
abbrev pub after_ordering : (ℕ → Option ℕ) → List Node → List (List ℕ) → List ℕ → List Node → Placed (List (List ℕ))
after_ordering to ns os o ps = and_then (shifted_lists to ns os ps) (λ rest qs. placed (o ∷ rest) qs)

-- what is handed on in two steps
and_then_twice : {A B C : Type 0} (p : Placed A) (f : A → B) (h : B → List Node → Placed C) → and_then p (λ a ns. h (f a) ns) ≡ and_then (and_then p (λ a ns. placed (f a) ns)) h
unfolding and_then
and_then_twice (placed a ns) f h = refl
and_then_twice full f h = refl

module _ (to : ℕ → Option ℕ) (ns : List Node) where
  -- the key at a place, and then the others
  pub keys_step : (ks : List ℕ) (k : ℕ) (ms : List Node) → k < length ks
      → shifted_keys to ns (drop k ks) ms ≡ and_then (add_expression (shifted to (expression_at ns (expr_of (get_or ks k 0)))) ms) (after_key to ns (get_or ks k 0) (drop (k + 1) ks))
  unfolding shifted_keys
  keys_step ks k ms l = rw (drop-cons ks k 0 l, add-one k)

  pub keys-done : (ks : List ℕ) (k : ℕ) (ms : List Node) → length ks ≤ k → shifted_keys to ns (drop k ks) ms ≡ placed [] ms
  unfolding shifted_keys
  keys-done ks k ms l = rw (drop_of_length-le ks l)

  -- the ordering at a place, and then the others
  pub lists-step : (os : List (List ℕ)) (i : ℕ) (ms : List Node) → i < length os
      → shifted_lists to ns (drop i os) ms ≡ and_then (build_of (shifted_keys to ns (ordering_at os i) ms)) (after_ordering to ns (drop (i + 1) os))
  unfolding shifted_lists
  lists-step os i ms l =
      let e : drop i os ≡ ordering_at os i ∷ drop (i + 1) os = drop-cons os i [] l ∙ rw add-one in
      ap (λ (l : List (List ℕ)). shifted_lists to ns l ms) e
      ∙ and_then_twice (shifted_keys to ns (ordering_at os i) ms) built (after_ordering to ns (drop (i + 1) os))

  pub lists-done : (os : List (List ℕ)) (i : ℕ) (ms : List Node) → length os ≤ i → shifted_lists to ns (drop i os) ms ≡ placed [] ms
  unfolding shifted_lists
  lists-done os i ms l = rw (drop_of_length-le os l)

-- ---- other moves, and another arena

module _ (to to' : ℕ → Option ℕ) (ns ns' : List Node) where
  -- that make the same of each key's expression
  abbrev pub SameShift : List ℕ → Type 0
  SameShift ks = (k : ℕ) → k < length ks → shifted to (expression_at ns (expr_of (get_or ks k 0))) ≡ shifted to' (expression_at ns' (expr_of (get_or ks k 0)))

  abbrev pub SameMoves : List ℕ → Type 0
  SameMoves ks = (k : ℕ) → k < length ks → key_moves to ns (get_or ks k 0) ≡ key_moves to' ns' (get_or ks k 0)

  pub shifted_keys_cong : (ks : List ℕ) → SameShift ks → (ms : List Node) → shifted_keys to ns ks ms ≡ shifted_keys to' ns' ks ms
  unfolding shifted_keys
  shifted_keys_cong [] h ms = refl
  shifted_keys_cong (k ∷ ks) h ms =
      ap (λ (x : Expression). and_then (add_expression x ms) (after_key to ns k ks)) (h 0 (omega arith))
      ∙ and_then_cong (add_expression (shifted to' (expression_at ns' (expr_of k))) ms) (after_key to ns k ks) (after_key to' ns' k ks)
      (λ e os. ap (λ (o : Placed (List ℕ)). and_then o (λ rest ps. placed ((e * 4 + options_of k) ∷ rest) ps)) (shifted_keys_cong ks (λ j l. h (suc j) (omega arith)) os))

  pub shifted_lists_cong : (os : List (List ℕ)) → ((i : ℕ) → i < length os → SameShift (ordering_at os i)) → (ms : List Node) → shifted_lists to ns os ms ≡ shifted_lists to' ns' os ms
  unfolding shifted_lists
  shifted_lists_cong [] h ms = refl
  shifted_lists_cong (o ∷ os) h ms =
      ap (λ (x : Placed (List ℕ)). and_then x (λ ks ps. after_ordering to ns os (built ks) ps)) (shifted_keys_cong o (h 0 (omega arith)) ms)
      ∙ and_then_cong (shifted_keys to' ns' o ms) (λ ks ps. after_ordering to ns os (built ks) ps) (λ ks ps. after_ordering to' ns' os (built ks) ps)
      (λ ks ps. ap (λ (x : Placed (List (List ℕ))). and_then x (λ rest qs. placed (built ks ∷ rest) qs)) (shifted_lists_cong os (λ j l. h (suc j) (omega arith)) ps))

  pub keys_move_cong : (ks : List ℕ) → SameMoves ks → keys_move to ns ks ≡ keys_move to' ns' ks
  keys_move_cong ks h = all_cong 0 (key_moves to ns) (keys_move to ns) (keys-nil to ns) (keys-cons to ns) (key_moves to' ns') (keys_move to' ns') (keys-nil to' ns') (keys-cons to' ns') ks h

  pub lists_move_cong : (os : List (List ℕ)) → ((i : ℕ) → i < length os → SameMoves (ordering_at os i)) → lists_move to ns os ≡ lists_move to' ns' os
  lists_move_cong os h =
      all_cong [] (keys_move to ns) (lists_move to ns) (lists-nil to ns) (lists-cons to ns) (keys_move to' ns') (lists_move to' ns') (lists-nil to' ns') (lists-cons to' ns') os
      (λ i l. keys_move_cong (ordering_at os i) (h i l))

-- keys whose expressions are there
abbrev pub Inside : List Node → List ℕ → Type 0
Inside ns ks = (k : ℕ) → k < length ks → expr_of (get_or ks k 0) < length ns

-- the arena has grown
module _ (to : ℕ → Option ℕ) {ns ms : List Node} (x : Extends ns ms) (ks : List ℕ) (h : Inside ns ks) where
  pub grown-shift : SameShift to to ms ns ks
  grown-shift k l = ap (shifted to) (expression-kept x (expr_of (get_or ks k 0)) (h k l))

  pub grown-moves : SameMoves to to ms ns ks
  grown-moves k l = ap (can_move to) (expression-kept x (expr_of (get_or ks k 0)) (h k l))

-- moves that agree on 16 bits
module _ (to to' : ℕ → Option ℕ) (agree : (i : ℕ) → i < 65536 → to i ≡ to' i) (ns : List Node) (s : Sound ns) (ks : List ℕ) (h : Inside ns ks) where
  pub agree-shift : SameShift to to' ns ns ks
  agree-shift k l = shifted_cong to to' agree (expression_at ns (expr_of (get_or ks k 0))) (expression-small ns s (expr_of (get_or ks k 0)) (h k l))

  pub agree-moves : SameMoves to to' ns ns ks
  agree-moves k l = can_move_cong to to' agree (expression_at ns (expr_of (get_or ks k 0))) (expression-small ns s (expr_of (get_or ks k 0)) (h k l))
