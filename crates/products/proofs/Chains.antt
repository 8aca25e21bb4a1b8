-- The functions that make an order and a choice in it: the table of factorials, the layout of an order, and orderings one behind the other.
use Prim.Native.Nat.{ℕ, zero, suc, ◌+◌, ◌-◌, ◌<◌, ◌≤◌, ◌/◌, ◌%◌}
use mathlib.Core.Bool.{Bool, true}
use mathlib.Core.List.{List, [], ◌∷◌, ◌++◌, map}
use mathlib.Core.Path.{◌≡◌, refl, sym, ap, ap₂, ◌∙◌, subst}
use native.Mathlib.Nat.{mod-lt}
use native.Mathlib.Numerals.{add-one}
use native.Mathlib.Omega.{arith}
use borrow.Author.Tests.{eqb-true}
use lib.Dec.{eqb}
use lib.ListN.{length, get_or, set, drop, replicate, length-append, length-replicate, length-map, drop_of_length-le}
use lib.Seq.{set_at, append_snoc, drop-cons}
use Rattle.laws.specs.Lists.{table}
use Rattle.laws.specs.Tests.{each}
use Rattle.laws.proofs.Each.{each_holds}
use Rattle.laws.proofs.Table.{length-table, get_or-table, table_is}
use Rattle.orderings.specs.Ordering.{extended}
use Rattle.orderings.specs.Lists.{ordering_at}
use Rattle.orderings.specs.Layout.{row, keys_of}
use Rattle.orderings.specs.Inner.{ShortOrdering, extended_of}
use Rattle.orderings.specs.declared.Ordering.{Ordering}
use Rattle.std.specs.Prelude.{Ok, Err}
use Rattle.arena.specs.declared.Refusal.{Refusal}
use Rattle.orderings.proofs.Codec.{fill_after, get_d_any, no_place, keys-row}
use Rattle.orderings.proofs.Extending.{fits-here, fits_not, fitting, unfitting, short-size, row-short, extended-grows}
use Rattle.products.specs.Orders.{passing, orders}
use Rattle.products.specs.Generate.{chained, in_all_orders}
use Rattle.products.specs.Inner.{choice_row, choice_of, Chosen, order_row, places_of, Placed, factorial}
use Rattle.products.specs.declared.Choice.{Choice}
use Rattle.products.specs.declared.Order.{Order}
use Rattle.products.proofs.ListLaws.{map-table}
use Rattle.products.proofs.OrderLaws.{mapped_at_lem, factorial-some, orders-length, orders-at, order_length, order_below}

-- the code's table of factorials
abbrev factorials : List ℕ
factorials = 1 ∷ 1 ∷ 2 ∷ 6 ∷ 24 ∷ 120 ∷ 720 ∷ []

-- the test of an entry: it is the factorial of its place
abbrev right : ℕ → Bool
right n = eqb (get_or factorials n 0) (factorial n)

-- each of the seven passes it
all_right : each right 7 ≡ true
unfolding each factorial
all_right = refl

-- so each entry is the factorial of its place
pub factorial-is : (n : ℕ) → n ≤ 6 → get_or factorials n 0 ≡ factorial n
factorial-is n l = eqb-true (get_or factorials n 0) (factorial n) (each_holds right 7 n all_right (omega arith))

-- place i of an order, where another place is passed over
abbrev passed : Order → ℕ → ℕ → ℕ
passed o place i = passing place (get_or o.places i 0)

-- an order of one place more that begins with a place, where the first k others are written
unfoldable pub writing : Order → ℕ → ℕ → Order
writing o place k = record { size = o.size + 1; places = place ∷ (table (passed o place) k ++ replicate {A = ℕ} (5 - k) 0) }

-- none is written
pub writing_begins : (o : Order) (place : ℕ) → ◌≡◌ {A = Order} (record { size = o.size + 1; places = place ∷ 0 ∷ 0 ∷ 0 ∷ 0 ∷ 0 ∷ [] }) (writing o place 0)
unfolding writing table
writing_begins o place = refl

-- one more, as the layout has it
writing_more : (o : Order) (place k : ℕ) → k < 5
    → ◌≡◌ {A = Order} (record { size = (writing o place k).size; places = set (writing o place k).places (k + 1) (passed o place k) }) (writing o place (k + 1))
unfolding writing table
writing_more o place k l = λ t. record { size = o.size + 1; places = moved t }
  where
    others : ℕ → List ℕ
    others n = table (passed o place) n

    moved : set (place ∷ (others k ++ replicate {A = ℕ} (5 - k) 0)) (k + 1) (passed o place k) ≡ place ∷ (others (k + 1) ++ replicate {A = ℕ} (5 - (k + 1)) 0)
    moved =
        let e : 5 - k ≡ suc (5 - (k + 1)) = omega arith in
        let rest : List ℕ = replicate (5 - suc k) 0 in
        rw (e, add-one k)
        (ap (λ (t : List ℕ). place ∷ t) (set_at (others k) 0 rest (passed o place k) k (length-table (passed o place) k) ∙ sym (append_snoc (others k) (passed o place k) rest)))

-- one more, as the code writes it
pub writing-next : (o : Order) (place k : ℕ) (out : Order) (r : ℕ) → k < 5 → out ≡ writing o place k → r ≡ passed o place k
    → ◌≡◌ {A = Order} (record { size = out.size; places = set out.places (k + 1) r }) (writing o place (k + 1))
writing-next o place k out r l e q =
    ap₂ {C = Order} (λ (x : Order) (y : ℕ). record { size = x.size; places = set x.places (k + 1) y }) e q ∙ writing_more o place k l

-- all of them, as the layout has it
writing-all : (o : Order) (place : ℕ) → o.size < 6 → writing o place o.size ≡ order_row (place ∷ map (passing place) (places_of o))
unfolding writing order_row places_of
writing-all o place l = λ t. record { size = same t; places = moved t }
  where
    others : List ℕ
    others = map (passing place) (places_of o)

    same : o.size + 1 ≡ suc (length others)
    same = omega (arith, length-map (places_of o) (passing place), length-table (λ i. get_or o.places i 0) o.size)

    moved : place ∷ (table (passed o place) o.size ++ replicate {A = ℕ} (5 - o.size) 0) ≡ place ∷ (others ++ replicate {A = ℕ} (6 - suc (length others)) 0)
    moved =
        let e : 5 - o.size ≡ 6 - suc (length others) = omega (arith, same) in
        ap (λ (t : List ℕ). place ∷ (t ++ replicate {A = ℕ} (5 - o.size) 0)) (sym (map-table (passing place) (λ i. get_or o.places i 0) o.size))
        ∙ ap (λ (k : ℕ). place ∷ (others ++ replicate {A = ℕ} k 0)) e

-- all of them, as the code leaves them
pub writing-ends : (o : Order) (place k : ℕ) (out : Order) → o.size < 6 → k ≤ o.size → o.size ≤ k → out ≡ writing o place k → out ≡ order_row (place ∷ map (passing place) (places_of o))
writing-ends o place k out l a b e =
    let s : k ≡ o.size = omega arith in
    e ∙ ap (writing o place) s ∙ writing-all o place l

-- one order: nothing is lost
pub places_row : (o : List ℕ) → places_of (order_row o) ≡ o
unfolding places_of order_row
places_row o =
    sym (table_is (λ i. get_or (o ++ replicate (6 - length o) 0) i 0) (length o) o 0 refl (λ i l. sym (fill_after 0 o (6 - length o) i)))

-- the order of n places with a number, as its struct
abbrev numbered : ℕ → ℕ → Order
numbered n number = order_row (get_or (orders n) number [])

module _ (n number : ℕ) (in_it : number < factorial n) where
  -- it has n places
  order_size : (numbered n number).size ≡ n
  unfolding order_row
  order_size = order_length n number in_it

  -- it is the layout of an order
  order_placed : n ≤ 6 → Placed (numbered n number)
  order_placed few = record { coded = ap order_row (places_row (get_or (orders n) number [])); few = omega (arith, order_size) }

  -- its places are below n
  order_places : (i : ℕ) → i < (numbered n number).size → get_or (numbered n number).places i 0 < n
  unfolding order_row
  order_places i l =
      rw (fill_after 0 (get_or (orders n) number []) (6 - length (get_or (orders n) number [])) i)
      (order_below n number i in_it (omega (arith, order_length n number in_it)))

-- the order of no places
pub order_none : (n number : ℕ) → n ≡ 0 → ◌≡◌ {A = Order} (record { size = 0; places = 0 ∷ 0 ∷ 0 ∷ 0 ∷ 0 ∷ 0 ∷ [] }) (numbered n number)
unfolding order_row orders
order_none n zero e = rw e
order_none n (suc number) e = rw e

-- what the code asks of an order that gets one place more
abbrev pub Open : Order → Type 0
Open o = (Placed o × (o.size < 6)) × ((i : ℕ) → i < o.size → get_or o.places i 0 < 6)

-- the first place of an order from the quotient, the others from the remainder
module _ (n number others : ℕ) (few : n ≤ 6) (some : 1 ≤ n) (in_it : number < factorial n) (are : others ≡ factorial (n - 1)) where
  -- the divisor is not 0
  pub others-some : 0 < others
  others-some = omega (arith, are, factorial-some (n - 1))

  -- the remainder is the number of an order of the others
  pub rest_below : number % others < factorial (n - 1)
  rest_below = omega (arith, are, mod-lt number others-some)

  module _ (order : Order) (is : order ≡ numbered (n - 1) (number % others)) where
    -- the order of the others may get one place more
    pub others-open : Open order
    others-open =
        let r : ℕ = number % others in
        let b = rest_below in
        subst Open (sym is)
        ((order_placed (n - 1) r b (omega arith), omega (arith, order_size (n - 1) r b)), λ i l. omega (arith, order_places (n - 1) r b i l))

    -- with the quotient before it, it is the order with the number
    pub order_begins : order_row ((number / others) ∷ map (passing (number / others)) (places_of order)) ≡ numbered n number
    order_begins =
        let m : ℕ = n - 1 in
        let s : n ≡ suc m = omega arith in
        let of : ℕ → List ℕ → List ℕ = λ (k : ℕ) (o : List ℕ). (number / k) ∷ map (passing (number / k)) o in
        ap (λ (o : List ℕ). order_row (of others o)) (ap places_of is ∙ places_row (get_or (orders m) (number % others) []))
        ∙ ap (λ (k : ℕ). order_row (of k (get_or (orders m) (number % k) []))) are
        ∙ ap order_row (sym (orders-at m number (subst (λ (k : ℕ). number < factorial k) s in_it)))
        ∙ ap (λ (k : ℕ). numbered k number) (sym s)

-- more orderings behind one make it no shorter
pub chained-grows : (o : List ℕ) (os : List (List ℕ)) → length o ≤ length (chained (o ∷ os))
unfolding chained
chained-grows o [] = omega arith
chained-grows o (p ∷ os) = omega (arith, extended-grows o p, chained-grows (extended o p) os)

-- orderings one behind the other from a place on: one more
chained-step : (o : List ℕ) (os : List (List ℕ)) (k : ℕ) → k < length os → chained (o ∷ drop k os) ≡ chained (extended o (get_or os k []) ∷ drop (k + 1) os)
unfolding chained
chained-step o os k l = rw (drop-cons os k [] l, add-one k)

-- and none
chained-done : (o : List ℕ) (os : List (List ℕ)) (k : ℕ) → length os ≤ k → chained (o ∷ drop k os) ≡ o
unfolding chained
chained-done o os k l = rw (drop_of_length-le os l)

-- orderings one behind the other: the first k of them are, and the others are to be
pub record Chaining (os : List (List ℕ)) (k : ℕ) (out : Ordering) : Type 0 where
  pub below : k ≤ length os
  pub short : ShortOrdering out
  pub goes : chained os ≡ chained (keys_of out ∷ drop k os)

module _ (os : List (List ℕ)) where
  -- the loop begins with the first
  pub chaining_begins : (r : Ordering) → 0 < length os → ShortOrdering r → get_or os 0 [] ≡ keys_of r → Chaining os 1 r
  chaining_begins r l h e = record {
    below = l;
    short = h;
    goes = ap chained (drop-cons os 0 [] l) ∙ ap (λ (o : List ℕ). chained (o ∷ drop 1 os)) e;
  }

  module _ (k : ℕ) (out : Ordering) (x : Chaining os k out) where
    module _ (p : Ordering) (l : k < length os) (s : get_or os k [] ≡ keys_of p) where
      -- one more
      next : chained os ≡ chained (extended (keys_of out) (keys_of p) ∷ drop (k + 1) os)
      next = x.goes ∙ chained-step (keys_of out) os k l ∙ ap (λ (z : List ℕ). chained (extended (keys_of out) z ∷ drop (k + 1) os)) s

      -- the loop goes on
      pub chaining_on : (more : Ordering) → Ok more ≡ extended_of (extended (keys_of out) (keys_of p)) → Chaining os (k + 1) more
      chaining_on more q =
          let ks : List ℕ = extended (keys_of out) (keys_of p) in
          let f = fitting ks more q in
          record {
            below = omega arith;
            short = subst ShortOrdering (sym f.is) (row-short ks f.few);
            goes = next ∙ ap (λ (z : List ℕ). chained (z ∷ drop (k + 1) os)) (sym (ap keys_of f.is ∙ keys-row ks));
          }

      -- the loop stops where there are more than 16 keys: those behind make them no fewer
      pub chaining_stops : (why : Refusal) → Err why ≡ extended_of (extended (keys_of out) (keys_of p)) → Err why ≡ extended_of (chained os)
      chaining_stops why q =
          let ks : List ℕ = extended (keys_of out) (keys_of p) in
          let a = unfitting ks why q in
          let b = ap (λ (z : List ℕ). length z) next in
          ap Err a.1 ∙ sym (fits_not (chained os) (omega (arith, a.0, chained-grows ks (drop (k + 1) os))))

    -- the loop ends
    pub chaining_ends : length os ≤ k → Ok out ≡ extended_of (chained os)
    chaining_ends l =
        sym (ap extended_of (x.goes ∙ chained-done (keys_of out) os k l)
        ∙ fits-here (keys_of out) (short-size out x.short) ∙ ap Ok x.short.coded)

-- the orderings of a choice in an order
abbrev pub in_order : Choice → Order → List (List ℕ)
in_order c o = map (λ (i : ℕ). get_or (choice_of c) i []) (places_of o)

-- there are as many orderings as the choice says
choice_size : (c : Choice) → length (choice_of c) ≡ c.size
unfolding choice_of
choice_size c = length-table (λ i. keys_of (get_or c.rows i (row []))) c.size

-- the layout of a choice has 6 places
laid-length : (os : List (List ℕ)) → length os ≤ 6 → length (choice_row os).rows ≡ 6
unfolding choice_row
laid-length os l = omega (arith, length-append (map row os) (replicate (6 - length os) (row [])), length-map os row, length-replicate {A = Ordering} (6 - length os) (row []))

-- so a choice has 6 places
rows-length : (c : Choice) → Chosen c → length c.rows ≡ 6
rows-length c h = subst (λ (x : Choice). length x.rows ≡ 6) h.coded (laid-length (choice_of c) (omega (arith, choice_size c, h.few)))

-- what the code reads at a place of the order
abbrev pub read_at : Choice → Order → ℕ → Ordering
read_at c o i = get_or c.rows (get_or o.places i 0) no_place

module _ (c : Choice) (o : Order) where
  -- the order has as many orderings as places
  pub in_order-length : length (in_order c o) ≡ o.size
  unfolding places_of
  in_order-length = length-map (places_of o) (λ (i : ℕ). get_or (choice_of c) i []) ∙ length-table (λ i. get_or o.places i 0) o.size

  module _ (h : Chosen c) (i : ℕ) (l : i < o.size) (b : get_or o.places i 0 < c.size) where
    -- it is what stands at that place of the choice
    read_same : read_at c o i ≡ get_or c.rows (get_or o.places i 0) (row [])
    read_same = get_d_any c.rows (get_or o.places i 0) no_place (row []) (omega (arith, rows-length c h, h.few))

    -- it has at most 16 keys
    pub read_short : ShortOrdering (read_at c o i)
    read_short = subst ShortOrdering (sym read_same) (h.short (get_or o.places i 0) b)

    -- its keys are the ordering at that place
    pub read_is : get_or (in_order c o) i [] ≡ keys_of (read_at c o i)
    unfolding places_of choice_of
    read_is =
        mapped_at_lem (λ (j : ℕ). get_or (choice_of c) j []) (places_of o) i 0 [] (omega (arith, length-table (λ i. get_or o.places i 0) o.size))
        ∙ ap (λ (j : ℕ). get_or (choice_of c) j []) (get_or-table (λ i. get_or o.places i 0) o.size i 0 l)
        ∙ get_or-table (λ i. keys_of (get_or c.rows i (row []))) c.size (get_or o.places i 0) [] b
        ∙ ap keys_of (sym read_same)

-- a choice in the order with a number is the ordering with that number
numbered_is : (c : Choice) (number : ℕ) → number < factorial c.size → chained (in_order c (numbered c.size number)) ≡ ordering_at (in_all_orders (choice_of c)) number
unfolding in_all_orders
numbered_is c number l =
    let os : List (List ℕ) = choice_of c in
    let run : List ℕ → List ℕ = λ (o : List ℕ). chained (map (λ (i : ℕ). get_or os i []) o) in
    let b : number < length (orders (length os)) = rw (choice_size c, orders-length c.size) l in
    ap run (places_row (get_or (orders c.size) number []))
    ∙ ap (λ (n : ℕ). run (get_or (orders n) number [])) (sym (choice_size c))
    ∙ sym (mapped_at_lem run (orders (length os)) number [] [] b)

-- what the code asks of a choice and an order of it
abbrev pub Ordered : Choice → Order → Type 0
Ordered c o = (Chosen c × (o.size ≡ c.size)) × ((i : ℕ) → i < o.size → get_or o.places i 0 < c.size)

-- the order with a number, as the code has it
module _ (c : Choice) (number : ℕ) (h : Chosen c) (l : number < factorial c.size) (o : Order) (is : o ≡ numbered c.size number) where
  -- it is an order of the choice
  pub choice_ordered : Ordered c o
  choice_ordered = subst (Ordered c) (sym is) ((h, order_size c.size number l), order_places c.size number l)

  -- the choice in it is the ordering with the number
  pub ordering-is : chained (in_order c o) ≡ ordering_at (in_all_orders (choice_of c)) number
  ordering-is = ap (λ (x : Order). chained (in_order c x)) is ∙ numbered_is c number l
