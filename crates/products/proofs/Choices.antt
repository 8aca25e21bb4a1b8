-- Where lists begin and how many orderings they have, the number of choices from a list on, and a choice as it is made, list after list.
use Prim.Native.Nat.{ℕ, zero, suc, ◌+◌, ◌-◌, ◌*◌, ◌<◌, ◌≤◌, ◌/◌, ◌%◌}
use mathlib.Core.List.{List, [], ◌∷◌, ◌++◌, map, map-append}
use mathlib.Core.Path.{◌≡◌, refl, sym, ap, ap₂, ◌∙◌, subst}
use native.Mathlib.Decide.{ℕ_discrete}
use native.Mathlib.Nat.{mul-le-mul_left, mul-le-mul_right, mod-lt, div-lt_iff_lt-mul, add-zero}
use native.Mathlib.Numerals.{add-one}
use native.Mathlib.Omega.{arith}
use borrow.Author.Tests.{le-leb, lt-leb}
use denote.Laws.{Is}
use mir.Val.{Val}
use lib.ListN.{length, get_or, take, drop, set, replicate, length-map, drop_of_length-le}
use lib.Seq.{length-take-le, take_all, take-suc, drop-cons, append_snoc, set_at, get_or-drop, drop-drop}
use Rattle.laws.proofs.Table.{length-table, get_or-table}
use Rattle.orderings.specs.Layout.{row, keys_of}
use Rattle.orderings.specs.declared.Ordering.{Ordering}
use Rattle.orderings.proofs.Codec.{get_d_any, no_place}
use Rattle.products.specs.Orders.{product}
use Rattle.products.specs.Inner.{start_of, length_of, lengths_of, list_of, lists_of, Shaped, Laid, choice_row, factorial, times_all, choices, counted}
use Rattle.products.specs.declared.Shape.{Shape}
use Rattle.products.specs.declared.Lists.{Lists}
use Rattle.products.specs.declared.Choice.{Choice}
use Rattle.std.specs.Prelude.{Ok, Err}
use Rattle.arena.specs.declared.Refusal.TheVariants.{TooLarge}
use Rattle.products.proofs.ProductLaws.{product_at, choice_length, factor_some}
use Rattle.products.proofs.ListLaws.{lists_length, lists_at, lists_lengths}
use Rattle.products.specs.contracts.Lists.{the_row}

-- Where lists begin, and their lengths

-- the first list begins at 0
pub start_first : (s : Shape) (j : ℕ) → j ≡ 0 → 0 ≡ start_of s j
unfolding start_of
start_first s zero e = refl
start_first s (suc j) e = absurd (omega arith)

-- each other one where the one before it ends
pub start-later : (s : Shape) (j : ℕ) → (j ≡ 0 → ⊥) → get_or s.ends (j - 1) 0 ≡ start_of s j
unfolding start_of
start-later s zero e = absurd (e refl)
start-later s (suc j) e = let i : suc j - 1 ≡ j = omega arith in ap (λ (n : ℕ). get_or s.ends n 0) i

-- what stands between a list's beginning and its end
pub length-is : (s : Shape) (j r : ℕ) → r ≡ start_of s j → get_or s.ends j 0 - r ≡ length_of s j
unfolding length_of
length-is s j r e = ap (λ (n : ℕ). get_or s.ends j 0 - n) e

-- lists within the bounds
module _ (s : Shape) (h : Shaped s) where
  -- no list is empty
  pub length_some : (j : ℕ) → j < s.size → 0 < length_of s j
  unfolding length_of
  length_some j l = omega (arith, h.rise j l)

  -- nor longer than all of them may be
  pub length-few : (j : ℕ) → j < s.size → length_of s j ≤ 1024
  unfolding length_of
  length-few j l = omega (arith, h.within j l)

  -- a place of a list stands before the list's end
  pub place-below : (j i : ℕ) → j < s.size → i < length_of s j → start_of s j + i < get_or s.ends j 0
  unfolding length_of
  place-below j i l b = omega (arith, h.rise j l)

  -- a list before another ends where that begins or earlier
  ends-before : (j k : ℕ) → j < k → k ≤ s.size → get_or s.ends j 0 ≤ start_of s k
  unfolding start_of
  ends-before j zero l b = absurd (omega arith)
  ends-before j (suc k) l b = at (ℕ_discrete j k) (λ l'. ends-before j k l' (omega arith))
    where
      at : Dec (j ≡ k) → (j < k → get_or s.ends j 0 ≤ start_of s k) → get_or s.ends j 0 ≤ get_or s.ends k 0
      at (yes e) r = omega (arith, ap (λ (n : ℕ). get_or s.ends n 0) e)
      at (no e) r = omega (arith, r (omega arith), h.rise k b)

  -- so a place of a list is a place of all of them
  pub place-there : (j i : ℕ) → j < s.size → i < length_of s j → start_of s j + i < start_of s s.size
  place-there j i l b = omega (arith, place-below j i l b, ends-before j s.size l (omega arith))

  -- and one that the struct has
  pub place-within : (j i : ℕ) → j < s.size → i < length_of s j → start_of s j + i < 1024
  place-within j i l b = omega (arith, place-below j i l b, h.within j l)

-- The number of choices from a list on

-- numbers of which none is 0 have no smaller product than those from one on
times_drop : (ns : List ℕ) (j : ℕ) → ((i : ℕ) → i < length ns → 0 < get_or ns i 0) → times_all (drop j ns) ≤ times_all ns
unfolding times_all
times_drop [] zero h = omega arith
times_drop [] (suc j) h = omega arith
times_drop (n ∷ ns) zero h = omega arith
times_drop (n ∷ ns) (suc j) h =
    let some : 1 ≤ n = h 0 (omega arith) in
    omega (arith, times_drop ns j (λ i l. h (suc i) (omega arith)), mul-le-mul_right (times_all ns) some)

module _ (s : Shape) where
  -- how many lists there are
  pub lengths_count : length (lengths_of s) ≡ s.size
  unfolding lengths_of
  lengths_count = length-table (length_of s) s.size

  -- how many choices the lists from one on give
  abbrev pub choices_from : ℕ → ℕ
  choices_from j = times_all (drop j (lengths_of s))

  -- after the last list nothing is to be chosen
  pub times_none : 1 ≡ choices_from s.size
  unfolding times_all
  times_none = ap times_all (sym (drop_of_length-le (lengths_of s) {i = s.size} (omega (arith, lengths_count))))

  -- one list more
  pub times_next : (j : ℕ) → j < s.size → length_of s j * choices_from (j + 1) ≡ choices_from j
  unfolding times_all lengths_of
  times_next j l =
      ap₂ {C = ℕ} (λ a b. a * times_all (drop b (lengths_of s))) (sym (get_or-table (length_of s) s.size j 0 l)) (add-one j)
      ∙ sym (ap times_all (drop-cons (lengths_of s) j 0 (omega (arith, lengths_count))))

  -- the same for a loop that goes down from the last list
  pub times_step : (i r t : ℕ) → 0 < i → i ≤ s.size → r ≡ length_of s (i - 1) → t ≡ choices_from i → r * t ≡ choices_from (i - 1)
  times_step i r t l b e f =
      let n : i ≡ i - 1 + 1 = omega arith in
      ap₂ {C = ℕ} (λ x y. x * y) e (f ∙ ap choices_from n) ∙ times_next (i - 1) (omega arith)

module _ (s : Shape) (h : Shaped s) where
  -- the lists from one on give no more choices than all of them
  pub times_below : (j : ℕ) → choices_from s j ≤ times_all (lengths_of s)
  unfolding lengths_of
  times_below j =
      times_drop (lengths_of s) j
      (λ i l. let b : i < s.size = omega (arith, lengths_count s) in rw (get_or-table (length_of s) s.size i 0 b) (length_some s h i b))

-- Whether the orders of all choices are at most 1,024

-- a product without factor 0 is not below the other factor
pub factor_few : (a b n : ℕ) → 0 < a → a * b ≤ n → b ≤ n
factor_few zero b n l e = absurd (omega arith)
factor_few (suc a) b n l e = omega arith

-- at most 6 places have at most 720
pub factorial-few : (n : ℕ) → n ≤ 6 → factorial n ≤ 720
unfolding factorial
factorial-few zero l = omega arith
factorial-few (suc zero) l = omega arith
factorial-few (suc (suc zero)) l = omega arith
factorial-few (suc (suc (suc zero))) l = omega arith
factorial-few (suc (suc (suc (suc zero)))) l = omega arith
factorial-few (suc (suc (suc (suc (suc zero))))) l = omega arith
factorial-few (suc (suc (suc (suc (suc (suc zero)))))) l = omega arith
factorial-few (suc (suc (suc (suc (suc (suc (suc n))))))) l = absurd (omega arith)

module _ (s : Shape) (h : Shaped s) where
  -- where they are, the number of choices is told
  pub count_fits : (total : ℕ) → total ≡ choices_from s 0 → factorial s.size * total ≤ 1024 → Ok total ≡ counted (lengths_of s)
  unfolding counted
  count_fits total e b =
      let k : factorial (length (lengths_of s)) * times_all (lengths_of s) ≤ 1024 =
      rw (lengths_count s) (omega (arith, ap (λ (n : ℕ). factorial s.size * n) e)) in
      rw (le-leb (factorial (length (lengths_of s)) * times_all (lengths_of s)) 1024 k) (ap Ok e)

  -- where those from a list on are more already, that they are more
  pub count-over : (j total : ℕ) → total ≡ choices_from s j → 1024 < factorial s.size * total → Err TooLarge ≡ counted (lengths_of s)
  unfolding counted
  count-over j total e b =
      let k : 1024 < factorial (length (lengths_of s)) * times_all (lengths_of s) =
      rw (lengths_count s) (omega (arith, ap (λ (n : ℕ). factorial s.size * n) e, mul-le-mul_left (factorial s.size) (times_below s h j))) in
      rw (lt-leb (factorial (length (lengths_of s)) * times_all (lengths_of s)) 1024 k)

-- A choice as it is made

-- the choice with a number
abbrev pub chosen : Lists → ℕ → List (List ℕ)
chosen l number = get_or (product (lists_of l)) number []

-- the orderings of the first j lists are chosen, and those of the others are the choice with the number that is left
pub record Choosing (l : Lists) (number j rest : ℕ) (out : Choice) : Type 0 where
  pub below : j ≤ l.shape.size
  pub in_it : rest < choices_from l.shape j
  pub size : out.size ≡ l.shape.size
  pub rows : out.rows ≡ map row (take j (chosen l number)) ++ replicate (6 - j) (row [])
  pub goes : drop j (chosen l number) ≡ get_or (product (drop j (lists_of l))) rest []

-- a function over what is left of a list
map-drop : {A B : Type 0} (f : A → B) (n : ℕ) (xs : List A) → map f (drop n xs) ≡ drop n (map f xs)
map-drop f zero xs = refl
map-drop f (suc n) [] = refl
map-drop f (suc n) (x ∷ xs) = map-drop f n xs

-- one ordering more is written
rows_next : (os : List (List ℕ)) (j : ℕ) → j < length os → j < 6
    → set (map row (take j os) ++ replicate (6 - j) (row [])) j (row (get_or os j [])) ≡ map row (take (j + 1) os) ++ replicate (6 - (j + 1)) (row [])
rows_next os j l b =
    let e : 6 - j ≡ suc (6 - (j + 1)) = omega arith in
    let rest : List Ordering = replicate (6 - (j + 1)) (row []) in
    let n : length (map row (take j os)) ≡ j = length-map (take j os) row ∙ length-take-le j os (omega arith) in
    rw e (set_at (map row (take j os)) (row []) rest (row (get_or os j [])) j n ∙ sym (append_snoc (map row (take j os)) (row (get_or os j [])) rest))
    ∙ ap (λ (t : List Ordering). t ++ rest) (sym (map-append row (take j os) (get_or os j [] ∷ []))
    ∙ ap (map row) (sym (take-suc os j [] l) ∙ ap (λ (n : ℕ). take n os) (sym (add-one j))))

-- the struct has 1,024 places for orderings: its type says so
pub found-sized : (l : Lists) (vs : List Val) → Is the_row l vs → length l.found.rows ≡ 1024
found-sized l vs p = p.1.1.1.0.1.1.1.1.0.1.0.1

module _ (l : Lists) where
  -- the lists from one on give the choices that their lengths say
  pub choices-drop : (j : ℕ) → choices (drop j (lists_of l)) ≡ choices_from l.shape j
  choices-drop j = ap times_all (map-drop length j (lists_of l) ∙ ap (drop j) (lists_lengths l))

  -- nothing is chosen
  pub choosing-begins : (number : ℕ) (r : Ordering) → number < choices (lists_of l) → r ≡ row [] → Choosing l number 0 number (record { size = l.shape.size; rows = r ∷ r ∷ r ∷ r ∷ r ∷ r ∷ [] })
  choosing-begins number r b e = record {
    below = omega arith;
    in_it = omega (arith, choices-drop 0);
    size = refl;
    rows = ap (λ (x : Ordering). x ∷ x ∷ x ∷ x ∷ x ∷ x ∷ []) e;
    goes = refl;
  }

module _ (l : Lists) (v : Laid l) (number j rest : ℕ) (out : Choice) (c : Choosing l number j rest out) where
  -- all are chosen
  pub choosing-ends : l.shape.size ≤ j → number < choices (lists_of l) → out ≡ choice_row (chosen l number)
  unfolding choice_row
  choosing-ends e b =
      let long : length (chosen l number) ≡ l.shape.size = choice_length (lists_of l) number b ∙ lists_length l in
      let whole : j ≡ length (chosen l number) = omega (arith, c.below) in
      let filled : out.rows ≡ map row (chosen l number) ++ replicate (6 - length (chosen l number)) (row []) =
      c.rows ∙ ap₂ {C = List Ordering} (λ (x : List (List ℕ)) (n : ℕ). map row x ++ replicate (6 - n) (row [])) (take_all j (chosen l number) (omega arith)) whole in
      λ t. record { size = (c.size ∙ sym long) t; rows = filled t }

  -- where the lists after the next give so many choices
  module _ (after : ℕ) (f : after ≡ choices_from l.shape (j + 1)) (b : j < l.shape.size) where
    -- what is left is a number of a choice from the next list on
    over : rest < length_of l.shape j * after
    over = omega (arith, c.in_it, times_next l.shape j b, ap (λ (n : ℕ). length_of l.shape j * n) f)

    -- they give one at least
    pub after-some : 0 < after
    after-some = factor_some (length_of l.shape j) after rest over

    -- the quotient is a place of the next list
    pub quotient_in : rest / after < length_of l.shape j
    quotient_in = (div-lt_iff_lt-mul {k = after} {x = rest} {y = length_of l.shape j} after-some).1 over

    -- so what is read there is one of the places that the struct has
    pub read_in_lem : (start : ℕ) → start ≡ start_of l.shape j → start + rest / after < 1024
    read_in_lem start g = omega (arith, place-within l.shape v.shaped j (rest / after) b quotient_in)

    -- the lists from here on are the next and those after it
    split : drop j (lists_of l) ≡ list_of l j ∷ drop (j + 1) (lists_of l)
    split =
        drop-cons (lists_of l) j [] (omega (arith, lists_length l))
        ∙ ap₂ {C = List (List (List ℕ))} (λ x n. x ∷ drop n (lists_of l)) (lists_at l j b) (sym (add-one j))

    -- of the next the ordering with the quotient is chosen, of those after it the choice with the remainder
    next : drop j (chosen l number) ≡ get_or (list_of l j) (rest / after) [] ∷ get_or (product (drop (j + 1) (lists_of l))) (rest % after) []
    next =
        let here : rest < choices (drop j (lists_of l)) = omega (arith, c.in_it, choices-drop l j) in
        c.goes ∙ ap (λ (x : List (List (List ℕ))). get_or (product x) rest []) split
        ∙ product_at (list_of l j) (drop (j + 1) (lists_of l)) rest (subst (λ (x : List (List (List ℕ))). rest < choices x) split here)
        ∙ ap (λ (n : ℕ). get_or (list_of l j) (rest / n) [] ∷ get_or (product (drop (j + 1) (lists_of l))) (rest % n) []) (choices-drop l (j + 1) ∙ sym f)

    -- what the code reads is the layout of that ordering
    read-row : (start : ℕ) → length l.found.rows ≡ 1024 → start ≡ start_of l.shape j → get_or l.found.rows (start + rest / after) no_place ≡ row (get_or (chosen l number) j [])
    unfolding list_of
    read-row start z g =
        let place = start_of l.shape j + rest / after in
        ap (λ (n : ℕ). get_or l.found.rows (n + rest / after) no_place) g
        ∙ get_d_any l.found.rows place no_place (row []) (omega (arith, place-within l.shape v.shaped j (rest / after) b quotient_in))
        ∙ sym (v.short place (place-there l.shape v.shaped j (rest / after) b quotient_in)).coded
        ∙ ap row (sym (get_or-table (λ i. keys_of (get_or l.found.rows (start_of l.shape j + i) (row []))) (length_of l.shape j) (rest / after) [] quotient_in)
        ∙ ap (λ (x : List (List ℕ)). get_or x 0 []) (sym next) ∙ get_or-drop j (chosen l number) 0 [] ∙ ap (λ (n : ℕ). get_or (chosen l number) n []) (add-zero j))

    -- one more is chosen
    pub choosing-on : (start : ℕ) → length l.found.rows ≡ 1024 → number < choices (lists_of l) → start ≡ start_of l.shape j
        → Choosing l number (j + 1) (rest % after) (record { size = out.size; rows = set out.rows j (get_or l.found.rows (start + rest / after) no_place) })
    choosing-on start z w g = record {
      below = omega arith;
      in_it = omega (arith, mod-lt rest after-some);
      size = c.size;
      rows =
          ap₂ {C = List Ordering} (λ (x : List Ordering) (r : Ordering). set x j r) c.rows (read-row start z g)
          ∙ rows_next (chosen l number) j (omega (arith, choice_length (lists_of l) number w, lists_length l)) (omega (arith, v.shaped.few));
      goes = sym (drop-drop 1 j (chosen l number)) ∙ ap (λ (x : List (List ℕ)). drop 1 x) next;
    }
