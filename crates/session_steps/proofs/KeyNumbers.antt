-- The keys of a record as a list that is lent: read back they are the keys as numbers.
use Prim.Native.Nat.{ℕ, zero, suc, ◌+◌, ◌*◌, ◌<◌, ◌≤◌}
use mathlib.Core.Bool.{Bool, true, false, ◌&&◌}
use mathlib.Core.List.{List, [], ◌∷◌, map}
use mathlib.Core.Path.{◌≡◌, refl, sym, ap, ap₂, ◌∙◌}
use native.Mathlib.Omega.{arith}
use borrow.Author.Tests.{lt-ltb, le-leb, ltb-true, leb-true}
use lib.Dec.{ltb, leb}
use lib.ListN.{length, get_or, take, length-map, get_or-map}
use Rattle.laws.specs.Tests.{each}
use Rattle.laws.proofs.Each.{each_all, each_holds, each_cong}
use Rattle.laws.proofs.Table.{table_is}
use Rattle.reduction.specs.Lent.{key_count, expr_lent, options_lent, next_list, each_list, each_next, each_end, options_known, whole, exprs_inside, keys_lent, lists-next, lists_end, lists_lent}
use Rattle.reduction.specs.Inner.{LentFit}
use Rattle.reduction.proofs.LentLaws.{OptionsOk, OptionsAt, WholeAt, ExprOk, ExprsAt}
use Rattle.session_steps.specs.State.{key_expr, key_options, key_number}
use Rattle.session_steps.specs.Inner.{pairs_of, lent_keys}

-- two places for each key
pub length_pairs : (keys : List (ℕ × ℕ)) → length (pairs_of keys) ≡ 2 * length keys
unfolding pairs_of
length_pairs [] = refl
length_pairs (p ∷ ps) = omega (arith, length_pairs ps)

-- a list with expression and options of each key at their places begins with the pairs
pub pairs-are : (keys : List (ℕ × ℕ)) (l : List ℕ) → 2 * length keys ≤ length l
    → ((k : ℕ) → k < length keys → (get_or l (2 * k) 0 ≡ key_expr keys k) × (get_or l (1 + 2 * k) 0 ≡ key_options keys k))
    → take (2 * length keys) l ≡ pairs_of keys
unfolding pairs_of
pairs-are [] l b h = refl
pairs-are (p ∷ ps) [] b h = absurd (omega arith)
pairs-are (p ∷ ps) (x ∷ []) b h = absurd (omega arith)
pairs-are (p ∷ ps) (x ∷ y ∷ l) b h =
    let e : 2 * suc (length ps) ≡ suc (suc (2 * length ps)) = omega arith in
    let first = h 0 (omega arith) in
    let rest : take (2 * length ps) l ≡ pairs_of ps = pairs-are ps l (omega arith)
    (λ k b. let n : 2 * suc k ≡ suc (suc (2 * k)) = omega arith in
    let m : 1 + 2 * suc k ≡ suc (suc (1 + 2 * k)) = omega arith in
    let w = h (suc k) (omega arith) in
    (rw n at w.0, rw m at w.1)) in
    ap (λ (n : ℕ). take n (x ∷ y ∷ l)) e ∙ ap₂ {C = List ℕ} (λ a t. a ∷ t) first.0 (ap₂ {C = List ℕ} (λ a t. a ∷ t) first.1 rest)

-- the other way round
pub pairs-at : (keys : List (ℕ × ℕ)) (k : ℕ) → k < length keys → (get_or (pairs_of keys) (2 * k) 0 ≡ key_expr keys k) × (get_or (pairs_of keys) (1 + 2 * k) 0 ≡ key_options keys k)
unfolding pairs_of
pairs-at [] k b = absurd (omega arith)
pairs-at (p ∷ ps) zero b = (refl, refl)
pairs-at (p ∷ ps) (suc k) b =
    let n : 2 * suc k ≡ suc (suc (2 * k)) = omega arith in
    let m : 1 + 2 * suc k ≡ suc (suc (1 + 2 * k)) = omega arith in
    let w = pairs-at ps k (omega arith) in
    (ap (λ (i : ℕ). get_or (p.0 ∷ p.1 ∷ pairs_of ps) i 0) n ∙ w.0, ap (λ (i : ℕ). get_or (p.0 ∷ p.1 ∷ pairs_of ps) i 0) m ∙ w.1)

and_true : (b : Bool) → (b && true) ≡ b
and_true true = refl
and_true false = refl

module _ (keys : List (ℕ × ℕ)) where
  length-lent : length (lent_keys keys) ≡ 1 + 2 * length keys
  unfolding lent_keys
  length-lent = omega (arith, length_pairs keys)

  lent-count : key_count (lent_keys keys) 0 ≡ length keys
  unfolding lent_keys
  lent-count = refl

  lent-expr : (k : ℕ) → k < length keys → expr_lent (lent_keys keys) 0 k ≡ key_expr keys k
  unfolding lent_keys
  lent-expr k b =
      let n : 0 + 1 + 2 * k ≡ suc (2 * k) = omega arith in
      ap (λ (i : ℕ). get_or (length keys ∷ pairs_of keys) i 0) n ∙ (pairs-at keys k b).0

  lent-options : (k : ℕ) → k < length keys → options_lent (lent_keys keys) 0 k ≡ key_options keys k
  unfolding lent_keys
  lent-options k b =
      let n : 0 + 2 + 2 * k ≡ suc (1 + 2 * k) = omega arith in
      ap (λ (i : ℕ). get_or (length keys ∷ pairs_of keys) i 0) n ∙ (pairs-at keys k b).1

  lent-next : next_list (lent_keys keys) 0 ≡ length (lent_keys keys)
  unfolding next_list
  lent-next = omega (arith, lent-count, length-lent)

  -- the keys of the only list
  lent-keys : keys_lent (lent_keys keys) 0 ≡ map key_number keys
  unfolding keys_lent key_number
  lent-keys =
      sym (table_is (λ k. expr_lent (lent_keys keys) 0 k * 4 + options_lent (lent_keys keys) 0 k) (key_count (lent_keys keys) 0) (map key_number keys) 0
      (length-map keys key_number ∙ sym lent-count)
      (λ k b. let c : k < length keys = omega (arith, lent-count) in
      get_or-map key_number keys k (0, 0) ∙ ap₂ {C = ℕ} (λ e o. e * 4 + o) (sym (lent-expr k c)) (sym (lent-options k c))))

  pub lent-lists : lists_lent (lent_keys keys) ≡ map key_number keys ∷ []
  unfolding lists_lent
  lent-lists =
      lists-next (lent_keys keys) 0 (omega (arith, length-lent))
      ∙ ap₂ {C = List (List ℕ)} (λ a t. a ∷ t) lent-keys (lists_end (lent_keys keys) (next_list (lent_keys keys) 0) (omega (arith, lent-next)))

  -- a test of each list is the test of the only one
  lent-each : (p : ℕ → Bool) → each_list p (lent_keys keys) ≡ p 0
  unfolding each_list
  lent-each p =
      each_next p (lent_keys keys) 0 (omega (arith, length-lent))
      ∙ ap (λ (t : Bool). p 0 && t) (each_end p (lent_keys keys) (next_list (lent_keys keys) 0) (omega (arith, lent-next)))
      ∙ and_true (p 0)

  lent-test : (p : ℕ → Bool) → p 0 ≡ true → each_list p (lent_keys keys) ≡ true
  lent-test p h = lent-each p ∙ h

  -- what the tests of lent lists say of the keys; no count runs past what is lent
  pub lent-options_known : options_known (lent_keys keys) ≡ each (λ k. leb (key_options keys k) 3) (length keys)
  unfolding options_known
  lent-options_known =
      lent-each (OptionsAt (lent_keys keys))
      ∙ ap (each (OptionsOk (lent_keys keys) 0)) lent-count
      ∙ each_cong (OptionsOk (lent_keys keys) 0) (λ k. leb (key_options keys k) 3) (length keys) (λ k l. ap (λ (x : ℕ). leb x 3) (lent-options k l))

  pub lent-exprs_inside : (n : ℕ) → exprs_inside n (lent_keys keys) ≡ each (λ k. ltb (key_expr keys k) n) (length keys)
  unfolding exprs_inside
  lent-exprs_inside n =
      lent-each (ExprsAt n (lent_keys keys))
      ∙ ap (each (ExprOk n (lent_keys keys) 0)) lent-count
      ∙ each_cong (ExprOk n (lent_keys keys) 0) (λ k. ltb (key_expr keys k) n) (length keys) (λ k l. ap (λ (x : ℕ). ltb x n) (lent-expr k l))

  pub lent-whole : whole (lent_keys keys) ≡ true
  unfolding whole
  lent-whole = lent-test (WholeAt (lent_keys keys)) (le-leb (next_list (lent_keys keys) 0) (length (lent_keys keys)) (omega (arith, lent-next)))

  -- keys that passed both tests fit
  pub lent-fit : (n : ℕ) → n ≤ 1024 → each (λ k. leb (key_options keys k) 3) (length keys) ≡ true → each (λ k. ltb (key_expr keys k) n) (length keys) ≡ true → LentFit (lent_keys keys)
  unfolding exprs_inside options_known
  lent-fit n few o x =
      record {
        exprs =
            lent-test (ExprsAt 1024 (lent_keys keys))
            (each_all (ExprOk 1024 (lent_keys keys) 0) (key_count (lent_keys keys) 0)
            (λ k b. let c : k < length keys = omega (arith, lent-count) in
            lt-ltb (expr_lent (lent_keys keys) 0 k) 1024 (omega (arith, lent-expr k c, few, ltb-true (key_expr keys k) n (each_holds (λ k. ltb (key_expr keys k) n) (length keys) k x c)))));
        options =
            lent-test (OptionsAt (lent_keys keys))
            (each_all (OptionsOk (lent_keys keys) 0) (key_count (lent_keys keys) 0)
            (λ k b. let c : k < length keys = omega (arith, lent-count) in
            le-leb (options_lent (lent_keys keys) 0 k) 3 (omega (arith, lent-options k c, leb-true (key_options keys k) 3 (each_holds (λ k. leb (key_options keys k) 3) (length keys) k o c)))));
      }
