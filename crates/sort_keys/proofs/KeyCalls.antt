-- The two public calls on sort keys, by their tests.
use Rattle.arena.specs.declared.Refusal.TheVariants.{BadNumber, UnknownExpression}
use Rattle.arena.specs.Refusals.{refusal, outcome}
use Rattle.arena.proofs.Refusals.{Listed, listed-if}
use Rattle.group_checks.proofs.Calling.{group-listed}
use Rattle.std.specs.Prelude.{if◌then◌else◌, Err}
use Prim.Native.Nat.{ℕ, ◌+◌, ◌*◌, ◌/◌, ◌%◌, ◌<◌, ◌≤◌}
use mathlib.Core.Bool.{Bool, true, false, ◌&&◌, and-false}
use mathlib.Core.List.{List}
use mathlib.Core.Path.{◌≡◌, refl, sym, ◌∙◌, subst}
use borrow.Author.Tests.{eq-eqb, ne_eqb, le-leb, lt-leb, ltb-true, leb-true}
use lib.Dec.{eqb, ltb, leb}
use lib.ListN.{length, get_or}
use Rattle.laws.specs.Tests.{each}
use Rattle.laws.proofs.Each.{each_holds, each_cong}
use Rattle.arena.specs.Layout.{count, decode as nodes}
use Rattle.arena.specs.Calls.{in_cells}
use Rattle.arena.specs.Inner.{Holds}
use Rattle.arena.proofs.Layouts.{length-decode, coded-cells}
use Rattle.classes.specs.Layout.{decode, in_set}
use Rattle.classes.specs.Calls.{group_number}
use Rattle.classes.specs.declared.Group.{Group}
use Rattle.sort_keys.specs.Keys.{exprs_of}
use Rattle.normal.specs.Calls.{on_checked, normalize_expr, normalized, normal_forms}
use Rattle.sort_keys.specs.Layout.{keys_of, options_known}
use Rattle.sort_keys.specs.Calls.{KeyIs, SortedIs, key_is, normalize_sort_expr, key_number, normalized_key, sorted_by, normalize_sort_exprs, keys_number, normalized_keys}
use Rattle.sort_keys.specs.Inner.{KeysKnown}
use Rattle.normal.proofs.Calling.{checked-done, checked_refused}
use Rattle.sort_keys.proofs.KeyLaws.{keys-count, expr-at}

-- the expressions of the keys are in the arena
abbrev pub Below : List ℕ → ℕ → Bool
Below numbers n = each (λ k. ltb (get_or numbers (2 * k) 0) n) (length numbers / 2)

-- keys that passed both tests
pub keys-known : (numbers : List ℕ) (n : ℕ) → options_known numbers ≡ true → Below numbers n ≡ true → KeysKnown n numbers
unfolding options_known
keys-known numbers n p q =
    record {
      below = λ k l. ltb-true (get_or numbers (2 * k) 0) n (each_holds (λ k. ltb (get_or numbers (2 * k) 0) n) (length numbers / 2) k q l);
      options = λ k l. leb-true (get_or numbers (2 * k + 1) 0) 3 (each_holds (λ k. leb (get_or numbers (2 * k + 1) 0) 3) (length numbers / 2) k p l);
    }

module _ (numbers cells : List ℕ) (g : Group) where
  -- the numbers of what is lent with keys stand in the table
  pub keys-listed : Listed (keys_number numbers cells g)
  unfolding keys_number outcome refusal
  keys-listed = listed-if (options_known numbers && in_set g) _ 12 (listed-if (eqb (length numbers % 2) 0) _ 11 (group-listed cells g) refl) refl

  -- the refusals of the check
  pub keys-refused : (k : ℕ) → keys_number numbers cells g ≡ k → (k ≡ 0 → ⊥) → ◌≡◌ {A = SortedIs × List ℕ} (Err (refusal k), cells) (normalized_keys numbers cells g)
  keys-refused k e z =
      subst (λ (n : ℕ). ◌≡◌ {A = SortedIs × List ℕ} (Err (refusal n), cells) (normalized_keys numbers cells g)) e
      (checked_refused (keys_number numbers cells g) (λ k. Err (refusal k)) (normalize_sort_exprs (keys_of numbers)) cells g (λ w. z (sym e ∙ w)))

  pub options-unknown : options_known numbers ≡ false → keys_number numbers cells g ≡ 12
  unfolding keys_number
  options-unknown p = rw p

  pub group-outside : in_set g ≡ false → keys_number numbers cells g ≡ 12
  unfolding keys_number
  group-outside q = rw (q, and-false)

  module _ (p : options_known numbers ≡ true) (q : in_set g ≡ true) where
    pub key-cut : (length numbers % 2 ≡ 0 → ⊥) → keys_number numbers cells g ≡ 11
    unfolding keys_number
    key-cut r = rw (p, q, ne_eqb (length numbers % 2) 0 r)

    pub keys-whole : length numbers % 2 ≡ 0 → keys_number numbers cells g ≡ group_number cells g
    unfolding keys_number
    keys-whole r = rw (p, q, eq-eqb (length numbers % 2) 0 r)

  -- what was lent passed
  module _ (z : keys_number numbers cells g ≡ 0) (h : Holds cells) where
    -- the test on the expressions, as the call has it
    test : each (λ k. ltb (get_or (exprs_of (keys_of numbers)) k 0) (length (nodes cells))) (length (keys_of numbers)) ≡ Below numbers (count cells)
    test =
        rw (keys-count numbers)
        (each_cong (λ k. ltb (get_or (exprs_of (keys_of numbers)) k 0) (length (nodes cells))) (λ k. ltb (get_or numbers (2 * k) 0) (count cells)) (length numbers / 2)
        (λ k l. rw (expr-at numbers k l, length-decode cells)))

    done : normalized_keys numbers cells g ≡ in_cells (normalize_sort_exprs (keys_of numbers) (nodes cells) (decode g))
    done = checked-done (keys_number numbers cells g) (λ k. Err (refusal k)) (normalize_sort_exprs (keys_of numbers)) cells g z

    -- an expression is unknown
    pub keys-unknown : Below numbers (count cells) ≡ false → ◌≡◌ {A = SortedIs × List ℕ} (Err UnknownExpression, cells) (normalized_keys numbers cells g)
    unfolding normalize_sort_exprs in_cells
    keys-unknown b = sym (done ∙ rw (test, b, coded-cells cells h))

    -- all are known
    pub keys-sorted : Below numbers (count cells) ≡ true → (o : SortedIs × List ℕ)
        → o ≡ in_cells (sorted_by (keys_of numbers) (nodes cells) (decode g) (normal_forms (nodes cells) (decode g) (exprs_of (keys_of numbers)))) → o ≡ normalized_keys numbers cells g
    unfolding normalize_sort_exprs
    keys-sorted b o e = e ∙ sym (done ∙ rw (test, b))

-- the normal form of a sort key, by its test
module _ (e options : ℕ) (cells : List ℕ) (g : Group) where
  -- the numbers of what is lent with a key stand in the table
  pub key-listed : Listed (key_number options cells g)
  unfolding key_number outcome refusal
  key-listed = listed-if (leb options 3) _ 12 (group-listed cells g) refl

  pub options-refused : 3 < options → ◌≡◌ {A = KeyIs × List ℕ} (Err BadNumber, cells) (normalized_key e options cells g)
  unfolding key_number on_checked refusal
  options-refused l = rw (lt-leb options 3 l)

  pub key-normalized : options ≤ 3 → ◌≡◌ {A = KeyIs × List ℕ} (key_is options (normalized e cells g).0, (normalized e cells g).1) (normalized_key e options cells g)
  unfolding key_number on_checked key_is normalize_sort_expr in_cells
  key-normalized l = rw (le-leb options 3 l) (go (eqb (group_number cells g) 0))
    where
      go : (b : Bool)
          → ◌≡◌ {A = KeyIs × List ℕ}
          (key_is options (if b then in_cells (normalize_expr e (nodes cells) (decode g)) else (Err (refusal (group_number cells g)), cells)).0, (if b then in_cells (normalize_expr e (nodes cells) (decode g)) else (Err (refusal (group_number cells g)), cells)).1)
          (if b then in_cells (normalize_sort_expr e options (nodes cells) (decode g)) else (Err (refusal (group_number cells g)), cells))
      go true = refl
      go false = refl
