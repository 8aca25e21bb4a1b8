-- Lists of keys lent as numbers, as the code reads them: a test of each list from a place on, the loops, and what the tests say of the keys.
use Rattle.std.specs.Prelude.{if◌then◌else◌}
use Prim.Native.Nat.{ℕ, zero, suc, ◌+◌, ◌*◌, ◌<◌, ◌≤◌}
use mathlib.Core.Bool.{Bool, true, false, not, ◌&&◌}
use mathlib.Core.List.{List, ◌∷◌}
use mathlib.Core.Path.{◌≡◌, refl, sym, ap, ◌∙◌}
use native.Mathlib.Decide.{dec_lt}
use native.Mathlib.Omega.{arith}
use borrow.Author.Tests.{eq-eqb, lt-ltb, ltb-true, leb-true, not-true}
use lib.Arith.{digits_div}
use lib.Dec.{eqb, ltb, leb}
use lib.ListN.{length, get_or}
use Rattle.laws.specs.Tests.{each}
use Rattle.laws.proofs.Booleans.{true_not_false, and_left, and_right, and_both}
use Rattle.laws.proofs.Each.{each_all, each_holds}
use Rattle.laws.proofs.Table.{length-table, get_or-table}
use Rattle.arena.specs.Layout.{count, lawful}
use Rattle.arena.proofs.Layouts.{lawful-holds}
use Rattle.orderings.specs.Ordering.{expr_of}
use Rattle.orderings.specs.Lists.{ordering_at}
use Rattle.reduction.specs.Lent.{key_count, expr_lent, options_lent, next_list, next-after, each_rest, each_end, each_next, each_list, options_known, whole, exprs_inside, keys_lent, lists_rest, lists_end, lists-next, lists_lent, fresh_lent, orderings_lent}
use Rattle.orderings.specs.Layout.{lawful_list, keys_inside}
use Rattle.orderings.specs.Calls.{list_number}
use Rattle.reduction.specs.Calls.{lent_number, extend_number}
use Rattle.reduction.specs.Inner.{KeysFit, LentFit}
use Rattle.orderings.specs.declared.Orderings.{Orderings}
use Rattle.orderings.proofs.ListChecks.{three}
use Rattle.orderings.proofs.OneOrdering.{NoneTwice}

-- the tests of key k of the list at a place, and of the list
abbrev pub OptionsOk : List ℕ → ℕ → ℕ → Bool
OptionsOk numbers at k = leb (options_lent numbers at k) 3

abbrev pub OptionsAt : List ℕ → ℕ → Bool
OptionsAt numbers at = each (OptionsOk numbers at) (key_count numbers at)

abbrev pub WholeAt : List ℕ → ℕ → Bool
WholeAt numbers at = leb (next_list numbers at) (length numbers)

abbrev pub ExprOk : ℕ → List ℕ → ℕ → ℕ → Bool
ExprOk n numbers at k = ltb (expr_lent numbers at k) n

abbrev pub ExprsAt : ℕ → List ℕ → ℕ → Bool
ExprsAt n numbers at = each (ExprOk n numbers at) (key_count numbers at)

abbrev pub Unlike : List ℕ → ℕ → ℕ → ℕ → Bool
Unlike numbers at k i = not (eqb (expr_lent numbers at i) (expr_lent numbers at k))

abbrev pub FreshAt : List ℕ → ℕ → ℕ → Bool
FreshAt numbers at k = fresh_lent numbers at k

abbrev pub OrderingAt : List ℕ → ℕ → Bool
OrderingAt numbers at = ltb 0 (key_count numbers at) && each (FreshAt numbers at) (key_count numbers at)

-- the loop over all lists: what is left of the answer is the answer from here; it begins, goes on, stops, and ends
module _ (p : ℕ → Bool) (numbers : List ℕ) where
  abbrev pub Going : ℕ → Type 0
  Going at = each_list p numbers ≡ each_rest p numbers at

  pub going-begins : Going 0
  unfolding each_list
  going-begins = refl

  pub going_on : (at n : ℕ) → at < length numbers → n ≡ key_count numbers at → Going at → p at ≡ true → Going (at + (1 + 2 * n))
  unfolding next_list
  going_on at n l e g h =
      let s : at + 1 + 2 * key_count numbers at ≡ at + (1 + 2 * n) = omega arith in
      g ∙ each_next p numbers at l ∙ ap (λ (t : Bool). t && each_rest p numbers (next_list numbers at)) h ∙ ap (each_rest p numbers) s

  pub going-stops : (at : ℕ) → at < length numbers → Going at → p at ≡ false → false ≡ each_list p numbers
  going-stops at l g h = sym (g ∙ each_next p numbers at l ∙ ap (λ (t : Bool). t && each_rest p numbers (next_list numbers at)) h)

  pub going-ends : (at : ℕ) → length numbers ≤ at → Going at → true ≡ each_list p numbers
  going-ends at l g = sym (g ∙ each_end p numbers at l)

-- a test that passes wherever another does
module _ (p q : ℕ → Bool) (numbers : List ℕ) (h : (at : ℕ) → p at ≡ true → q at ≡ true) where
  rest_weaker : (n at : ℕ) → length numbers ≤ n + at → each_rest p numbers at ≡ true → each_rest q numbers at ≡ true
  rest_weaker zero at l e = each_end q numbers at (omega arith)
  rest_weaker (suc n) at l e = go (dec_lt at (length numbers)) (rest_weaker n (next_list numbers at) (omega (arith, next-after numbers at)))
    where
      more : Bool
      more = each_rest p numbers (next_list numbers at)

      go : Dec (at < length numbers) → (each_rest p numbers (next_list numbers at) ≡ true → each_rest q numbers (next_list numbers at) ≡ true) → each_rest q numbers at ≡ true
      go (yes b) r =
          let s = sym (each_next p numbers at b) ∙ e in
          each_next q numbers at b ∙ and_both (h at (and_left (p at) more s)) (r (and_right (p at) more s))
      go (no b) r = each_end q numbers at (omega arith)

  pub list_weaker : each_list p numbers ≡ true → each_list q numbers ≡ true
  unfolding each_list
  list_weaker e = rest_weaker (length numbers) 0 (omega arith) e

-- the keys of a list
module _ (numbers : List ℕ) (at : ℕ) where
  pub length-keys : length (keys_lent numbers at) ≡ key_count numbers at
  unfolding keys_lent
  length-keys = length-table (λ k. expr_lent numbers at k * 4 + options_lent numbers at k) (key_count numbers at)

  pub key-lent : (k : ℕ) → k < key_count numbers at → get_or (keys_lent numbers at) k 0 ≡ expr_lent numbers at k * 4 + options_lent numbers at k
  unfolding keys_lent
  key-lent k l = get_or-table (λ k. expr_lent numbers at k * 4 + options_lent numbers at k) (key_count numbers at) k 0 l

  pub options-of : OptionsAt numbers at ≡ true → (k : ℕ) → k < key_count numbers at → options_lent numbers at k ≤ 3
  options-of h k l = leb-true (options_lent numbers at k) 3 (each_holds (OptionsOk numbers at) (key_count numbers at) k h l)

  pub exprs-of : (n : ℕ) → ExprsAt n numbers at ≡ true → (k : ℕ) → k < key_count numbers at → expr_lent numbers at k < n
  exprs-of n h k l = ltb-true (expr_lent numbers at k) n (each_holds (ExprOk n numbers at) (key_count numbers at) k h l)

  -- a key's expression is the one that is lent
  pub expr-lent : OptionsAt numbers at ≡ true → (k : ℕ) → k < key_count numbers at → expr_of (get_or (keys_lent numbers at) k 0) ≡ expr_lent numbers at k
  unfolding expr_of
  expr-lent h k l = ap expr_of (key-lent k l) ∙ digits_div (expr_lent numbers at k) {m = 4} {r = options_lent numbers at k} (omega (arith, options-of h k l))

  -- a list that is an ordering repeats no expression
  pub keys-distinct : OptionsAt numbers at ≡ true → each (FreshAt numbers at) (key_count numbers at) ≡ true → NoneTwice (keys_lent numbers at)
  unfolding fresh_lent
  keys-distinct h f i j a b q =
      let l : j < key_count numbers at = omega (arith, length-keys) in
      let e : expr_lent numbers at i ≡ expr_lent numbers at j = sym (expr-lent h i (omega arith)) ∙ q ∙ expr-lent h j l in
      true_not_false (eq-eqb (expr_lent numbers at i) (expr_lent numbers at j) e)
      (not-true (eqb (expr_lent numbers at i) (expr_lent numbers at j)) (each_holds (Unlike numbers at j) j i (each_holds (FreshAt numbers at) (key_count numbers at) j f l) a))

-- what holds of each list whose place passes two tests holds of each that is lent
module _ (numbers : List ℕ) (P : List ℕ → Type 0) (p q : ℕ → Bool) (h : (at : ℕ) → p at ≡ true → q at ≡ true → P (keys_lent numbers at)) where
  lists-each : (n at : ℕ) → length numbers ≤ n + at → each_rest p numbers at ≡ true → each_rest q numbers at ≡ true
      → (i : ℕ) → i < length (lists_rest numbers at) → P (ordering_at (lists_rest numbers at) i)
  lists-each zero at l a b = rw (lists_end numbers at (omega arith)) (λ i d. absurd (omega arith))
  lists-each (suc n) at l a b = go (dec_lt at (length numbers)) (lists-each n (next_list numbers at) (omega (arith, next-after numbers at)))
    where
      next : ℕ
      next = next_list numbers at

      one : (ks : List ℕ) (os : List (List ℕ)) → P ks → ((i : ℕ) → i < length os → P (ordering_at os i)) → (i : ℕ) → i < length (ks ∷ os) → P (ordering_at (ks ∷ os) i)
      one ks os u r zero d = u
      one ks os u r (suc i) d = r i (omega arith)

      go : Dec (at < length numbers)
          → (each_rest p numbers next ≡ true → each_rest q numbers next ≡ true → (i : ℕ) → i < length (lists_rest numbers next) → P (ordering_at (lists_rest numbers next) i))
          → (i : ℕ) → i < length (lists_rest numbers at) → P (ordering_at (lists_rest numbers at) i)
      go (yes c) r =
          let s = sym (each_next p numbers at c) ∙ a in
          let t = sym (each_next q numbers at c) ∙ b in
          rw (lists-next numbers at c)
          (one (keys_lent numbers at) (lists_rest numbers next) (h at (and_left (p at) (each_rest p numbers next) s) (and_left (q at) (each_rest q numbers next) t))
          (r (and_right (p at) (each_rest p numbers next) s) (and_right (q at) (each_rest q numbers next) t)))
      go (no c) r = rw (lists_end numbers at (omega arith)) (λ i d. absurd (omega arith))

  pub lent-each : each_list p numbers ≡ true → each_list q numbers ≡ true → (i : ℕ) → i < length (lists_lent numbers) → P (ordering_at (lists_lent numbers) i)
  unfolding each_list lists_lent
  lent-each a b = lists-each (length numbers) 0 (omega arith) a b

-- the number of a check, by its three tests
abbrev number_by : Bool → Bool → Bool → ℕ
number_by a b c = if a then (if b then (if c then 0 else 1) else 11) else 12

-- one test more for 11
more-12 : (a b c d : Bool) → number_by a b c ≡ 12 → 12 ≡ number_by a (b && d) c
more-12 false b c d e = refl
more-12 true false c d e = absurd (omega arith)
more-12 true true false d e = absurd (omega arith)
more-12 true true true d e = absurd (omega arith)

more-11 : (a b c d : Bool) → number_by a b c ≡ 11 → 11 ≡ number_by a (b && d) c
more-11 false b c d e = absurd (omega arith)
more-11 true false c d e = refl
more-11 true true false d e = absurd (omega arith)
more-11 true true true d e = absurd (omega arith)

more_fails : (a b c d : Bool) → (number_by a b c ≡ 12 → ⊥) → d ≡ false → 11 ≡ number_by a (b && d) c
more_fails false b c d e f = absurd (e refl)
more_fails true false c d e f = refl
more_fails true true c d e f = rw f

more-holds : (a b c d : Bool) → d ≡ true → number_by a b c ≡ number_by a (b && d) c
more-holds a true c d f = rw f
more-holds a false c d f = refl

-- what passes it passes all three
by_three : (a b c : Bool) → number_by a b c ≡ 0 → (a ≡ true) × ((b ≡ true) × (c ≡ true))
by_three false b c e = absurd (omega arith)
by_three true false c e = absurd (omega arith)
by_three true true false e = absurd (omega arith)
by_three true true true e = (refl, (refl, refl))

and_last : (a b c d : Bool) → (a && b && (c && d)) ≡ ((a && b && c) && d)
and_last false b c d = refl
and_last true false c d = refl
and_last true true c d = refl

module _ (cells : List ℕ) (g : Orderings) (numbers : List ℕ) where
  abbrev Lawfuls : Bool
  Lawfuls = lawful cells && lawful_list g && whole numbers

  abbrev Insides : Bool
  Insides = keys_inside (count cells) g && exprs_inside (count cells) numbers

  by-lent : lent_number cells g numbers ≡ number_by (options_known numbers) Lawfuls Insides
  unfolding lent_number
  by-lent = refl

  by-extend : extend_number cells g numbers ≡ number_by (options_known numbers) (Lawfuls && orderings_lent numbers) Insides
  unfolding extend_number
  by-extend = ap (λ (b : Bool). number_by (options_known numbers) b Insides) (and_last (lawful cells) (lawful_list g) (whole numbers) (orderings_lent numbers))

  -- the check of orderings, by the check of lists
  pub extend-12 : lent_number cells g numbers ≡ 12 → 12 ≡ extend_number cells g numbers
  extend-12 e = more-12 (options_known numbers) Lawfuls Insides (orderings_lent numbers) (sym by-lent ∙ e) ∙ sym by-extend

  pub extend-11 : lent_number cells g numbers ≡ 11 → 11 ≡ extend_number cells g numbers
  extend-11 e = more-11 (options_known numbers) Lawfuls Insides (orderings_lent numbers) (sym by-lent ∙ e) ∙ sym by-extend

  pub extend_fails : (lent_number cells g numbers ≡ 12 → ⊥) → orderings_lent numbers ≡ false → 11 ≡ extend_number cells g numbers
  extend_fails e f = more_fails (options_known numbers) Lawfuls Insides (orderings_lent numbers) (λ q. e (by-lent ∙ q)) f ∙ sym by-extend

  pub extend-holds : orderings_lent numbers ≡ true → lent_number cells g numbers ≡ extend_number cells g numbers
  extend-holds f = by-lent ∙ more-holds (options_known numbers) Lawfuls Insides (orderings_lent numbers) f ∙ sym by-extend

  pub extend-orderings : extend_number cells g numbers ≡ 0 → orderings_lent numbers ≡ true
  extend-orderings e = and_right Lawfuls (orderings_lent numbers) (by_three (options_known numbers) (Lawfuls && orderings_lent numbers) Insides (sym by-extend ∙ e)).1.0

  pub extend-lent : extend_number cells g numbers ≡ 0 → lent_number cells g numbers ≡ 0
  extend-lent e = extend-holds (extend-orderings e) ∙ e

  -- what passes the check of lists: the arena, the list, and the keys
  pub lent-options : lent_number cells g numbers ≡ 0 → options_known numbers ≡ true
  lent-options e = (by_three (options_known numbers) Lawfuls Insides (sym by-lent ∙ e)).0

  pub lent-lawful : lent_number cells g numbers ≡ 0 → lawful cells ≡ true
  lent-lawful e = (three (lawful cells) (lawful_list g) (whole numbers) (by_three (options_known numbers) Lawfuls Insides (sym by-lent ∙ e)).1.0).0

  pub lent-exprs : lent_number cells g numbers ≡ 0 → exprs_inside (count cells) numbers ≡ true
  lent-exprs e = and_right (keys_inside (count cells) g) (exprs_inside (count cells) numbers) (by_three (options_known numbers) Lawfuls Insides (sym by-lent ∙ e)).1.1

  pub lent-list : lent_number cells g numbers ≡ 0 → list_number cells g ≡ 0
  unfolding list_number
  lent-list e =
      let p = by_three (options_known numbers) Lawfuls Insides (sym by-lent ∙ e) in
      let t = three (lawful cells) (lawful_list g) (whole numbers) p.1.0 in
      rw (t.0, t.1, and_left (keys_inside (count cells) g) (exprs_inside (count cells) numbers) p.1.1)

  pub lent-fit : lent_number cells g numbers ≡ 0 → LentFit numbers
  unfolding exprs_inside
  lent-fit e = record {
    exprs = list_weaker (ExprsAt (count cells) numbers) (ExprsAt 1024 numbers) numbers
        (λ at h. each_all (ExprOk 1024 numbers at) (key_count numbers at) (λ k l. lt-ltb (expr_lent numbers at k) 1024 (omega (arith, exprs-of numbers at (count cells) h k l, (lawful-holds cells (lent-lawful e)).few))))
        (lent-exprs e);
    options = lent-options e;
  }

-- the keys of a list from which on all are fit
pub keys-fit : (numbers : List ℕ) (at : ℕ) → at < length numbers → each_rest (ExprsAt 1024 numbers) numbers at ≡ true → each_rest (OptionsAt numbers) numbers at ≡ true → KeysFit numbers at
keys-fit numbers at l e o = record {
  there = l;
  exprs = exprs-of numbers at 1024 (and_left (ExprsAt 1024 numbers at) (each_rest (ExprsAt 1024 numbers) numbers (next_list numbers at)) (sym (each_next (ExprsAt 1024 numbers) numbers at l) ∙ e));
  options = options-of numbers at (and_left (OptionsAt numbers at) (each_rest (OptionsAt numbers) numbers (next_list numbers at)) (sym (each_next (OptionsAt numbers) numbers at l) ∙ o));
}
