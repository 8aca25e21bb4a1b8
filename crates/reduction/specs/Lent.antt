-- Lists of keys lent as numbers, in the form of an enumeration's output: for each list its key count, then expression and options of each key, directly after the list before.
-- They are parts of what is lent, each with a place at least, and are walked as such (Parts, in the crate laws); what the walk comes to stands, proved, under each definition.
use Rattle.std.specs.Prelude.{ℕ, ◌+◌, ◌*◌, ◌<◌, ◌≤◌, Bool, true, not, ◌&&◌, List, [], ◌∷◌, ◌≡◌, eqb, ltb, leb, length, get_or}
use Rattle.std.proofs.Common.{arith}
use Rattle.laws.specs.Tests.{each}
use Rattle.laws.specs.Lists.{table}
use Rattle.laws.specs.Parts.{parts, parts_end, parts_next, each_part, each_end as part_end, each_next as part-next}

-- how many keys the list at a place has
abbrev pub key_count : List ℕ → ℕ → ℕ
key_count numbers at = get_or numbers at 0

-- the expression of key k of the list at a place; past the end, 0
abbrev pub expr_lent : List ℕ → ℕ → ℕ → ℕ
expr_lent numbers at k = get_or numbers (at + 1 + 2 * k) 0

-- the options of key k likewise
abbrev pub options_lent : List ℕ → ℕ → ℕ → ℕ
options_lent numbers at k = get_or numbers (at + 2 + 2 * k) 0

-- where the list after the one at a place begins
unfoldable pub next_list : List ℕ → ℕ → ℕ
next_list numbers at = at + 1 + 2 * key_count numbers at

-- it begins after that place
pub next-after : (numbers : List ℕ) (at : ℕ) → at < next_list numbers at
unfolding next_list
next-after numbers at = omega arith

-- a test holds for each list from a place to the end
unfoldable pub each_rest : (ℕ → Bool) → List ℕ → ℕ → Bool
each_rest p numbers at = each_part p (next_list numbers) (length numbers) at

-- what it comes to: at the end of the numbers, and by one list
module _ (p : ℕ → Bool) (numbers : List ℕ) where
  pub each_end : (at : ℕ) → length numbers ≤ at → each_rest p numbers at ≡ true
  unfolding each_rest
  each_end at l = part_end p (next_list numbers) (length numbers) (next-after numbers) at l

  pub each_next : (at : ℕ) → at < length numbers → each_rest p numbers at ≡ (p at && each_rest p numbers (next_list numbers at))
  unfolding each_rest
  each_next at l = part-next p (next_list numbers) (length numbers) (next-after numbers) at l

-- a test holds for each list that is lent, told by its place
unfoldable pub each_list : (ℕ → Bool) → List ℕ → Bool
each_list p numbers = each_rest p numbers 0

-- the options of the keys are 0 to 3 (else 12)
unfoldable pub options_known : List ℕ → Bool
options_known numbers = each_list (λ at. each (λ k. leb (options_lent numbers at k) 3) (key_count numbers at)) numbers

-- no count runs past what is lent (else 11)
unfoldable pub whole : List ℕ → Bool
whole numbers = each_list (λ at. leb (next_list numbers at) (length numbers)) numbers

-- the expressions of the keys are among the first n (else 1)
unfoldable pub exprs_inside : ℕ → List ℕ → Bool
exprs_inside n numbers = each_list (λ at. each (λ k. ltb (expr_lent numbers at k) n) (key_count numbers at)) numbers

-- the keys of the list at a place
unfoldable pub keys_lent : List ℕ → ℕ → List ℕ
keys_lent numbers at = table (λ k. expr_lent numbers at k * 4 + options_lent numbers at k) (key_count numbers at)

-- the lists of keys from a place to the end
unfoldable pub lists_rest : List ℕ → ℕ → List (List ℕ)
lists_rest numbers at = parts (keys_lent numbers) (next_list numbers) (length numbers) at

-- what they come to: at the end of the numbers, and by one list
module _ (numbers : List ℕ) where
  pub lists_end : (at : ℕ) → length numbers ≤ at → lists_rest numbers at ≡ []
  unfolding lists_rest
  lists_end at l = parts_end (keys_lent numbers) (next_list numbers) (length numbers) (next-after numbers) at l

  pub lists-next : (at : ℕ) → at < length numbers → lists_rest numbers at ≡ keys_lent numbers at ∷ lists_rest numbers (next_list numbers at)
  unfolding lists_rest
  lists-next at l = parts_next (keys_lent numbers) (next_list numbers) (length numbers) (next-after numbers) at l

-- the lists of keys that are lent
unfoldable pub lists_lent : List ℕ → List (List ℕ)
lists_lent numbers = lists_rest numbers 0

-- the expression of key k does not stand before it in its list
unfoldable pub fresh_lent : List ℕ → ℕ → ℕ → Bool
fresh_lent numbers at k = each (λ i. not (eqb (expr_lent numbers at i) (expr_lent numbers at k))) k

-- each list is an ordering: it has keys, and no expression twice (else 11)
unfoldable pub orderings_lent : List ℕ → Bool
orderings_lent numbers = each_list (λ at. ltb 0 (key_count numbers at) && each (λ k. fresh_lent numbers at k) (key_count numbers at)) numbers
