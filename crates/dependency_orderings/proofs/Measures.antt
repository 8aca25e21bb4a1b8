-- How many places orderings take, counted part by part, and the choices of lists.
use Prim.Native.Nat.{ℕ, zero, suc, ◌+◌, ◌-◌, ◌*◌, ◌<◌, ◌≤◌, ◌/◌, ◌%◌}
use mathlib.Core.Bool.{Bool, true, false}
use mathlib.Core.List.{List, [], ◌∷◌, ◌++◌, map}
use mathlib.Core.Path.{◌≡◌, refl, sym, ap, ◌∙◌, subst}
use native.Mathlib.Nat.{mod-lt, div-lt_iff_lt-mul}
use native.Mathlib.Numerals.{add-one}
use native.Mathlib.Omega.{arith}
use lib.ListN.{length, get_or, take, drop, length-append, length-map, drop_of_length-le, get_or-map}
use lib.Seq.{drop-cons}
use Rattle.laws.proofs.Table.{length-table, get_or-table, table_is}
use Rattle.orderings.specs.Lists.{ordering_at}
use Rattle.orderings.specs.Layout.{row, keys_of}
use Rattle.orderings.specs.Inner.{ShortOrdering, extended_of, all_short}
use Rattle.orderings.specs.declared.Ordering.{Ordering}
use Rattle.std.specs.Prelude.{Ok, Err}
use Rattle.arena.specs.declared.Refusal.{Refusal}
use Rattle.arena.specs.declared.Refusal.TheVariants.{TooLarge}
use Rattle.arena.proofs.Refusals.{ok-not-err}
use Rattle.orderings.proofs.Codec.{fill_after, keys-row}
use Rattle.orderings.proofs.Extending.{fits-here, fitting, unfitting, short-size, row-short}
use Rattle.orderings.proofs.Appending.{AllShort, short-test, test_short, short-more, long-test, long-append}
use Rattle.products.specs.Orders.{orders, product}
use Rattle.products.specs.Generate.{chained, in_all_orders, all_orders}
use Rattle.products.specs.Inner.{start_of, length_of, list_of, lists_of, Laid, choice_row, choice_of, Chosen, factorial, times_all, choices}
use Rattle.products.specs.declared.Lists.{Lists}
use Rattle.products.specs.declared.Choice.{Choice}
use Rattle.products.proofs.OrderLaws.{factorial-some, orders-length}
use Rattle.products.proofs.ProductLaws.{product-length, product_at, choice_length, factor_some}
use Rattle.products.proofs.ListLaws.{lists_length, lists_at, list_length}
use Rattle.products.proofs.Choices.{place-there, factor_few}
use Rattle.dependency_orderings.specs.Output.{written, written_all}
use Rattle.dependency_orderings.specs.Inner.{measured, Ready}
use Rattle.dependency_orderings.proofs.WrittenLaws.{written-length, written-append, written_one, short-after, WritingOrders, part-short, part_room, out-on}

-- Places, counted part by part

-- what a count says of the orderings
pub record Fits (n : ℕ) (os : List (List ℕ)) : Type 0 where
  pub short : all_short os ≡ true
  pub places : n ≡ length (written_all os)

-- the answer where each has at most 16 keys
measured-short : (os : List (List ℕ)) → all_short os ≡ true → measured os ≡ Ok (length (written_all os))
unfolding measured
measured-short os e = rw e

-- and where one has more
measured-long : (os : List (List ℕ)) → all_short os ≡ false → measured os ≡ Err TooLarge
unfolding measured
measured-long os e = rw e

module _ (os : List (List ℕ)) where
  -- where they fit, the answer is the number of their places
  pub measured-fits : (n : ℕ) → Ok n ≡ measured os → Fits n os
  measured-fits n q = go (all_short os) refl
    where
      go : (b : Bool) → all_short os ≡ b → Fits n os
      go true e = let p : Ok n ≡ Ok (length (written_all os)) = q ∙ measured-short os e in record { short = e; places = cc }
      go false e = absurd (ok-not-err (q ∙ measured-long os e))

  -- where they do not, one has more than 16 keys
  pub measured-not : (why : Refusal) → Err why ≡ measured os → (all_short os ≡ false) × (why ≡ TooLarge)
  measured-not why q = go (all_short os) refl
    where
      go : (b : Bool) → all_short os ≡ b → (all_short os ≡ false) × (why ≡ TooLarge)
      go true e = absurd (ok-not-err (sym (q ∙ measured-short os e)))
      go false e = let p : Err why ≡ Err TooLarge = q ∙ measured-long os e in (e, cc)

-- the orderings before some are counted, and all hang on those that are left
pub record Measuring (all left : List (List ℕ)) (total : ℕ) : Type 0 where
  pub short : all_short all ≡ all_short left
  pub places : total + length (written_all left) ≡ length (written_all all)

module _ (all : List (List ℕ)) where
  -- none is counted
  pub measuring_begins : Measuring all all 0
  measuring_begins = record { short = refl; places = omega arith }

  -- one part more
  module _ (now part left : List (List ℕ)) (total : ℕ) (x : Measuring all now total) (s : now ≡ part ++ left) where
    -- the loop goes on
    pub measuring_on : (n : ℕ) → Ok n ≡ measured part → Measuring all left (total + n)
    measuring_on n q =
        let f = measured-fits part n q in
        record {
          short = x.short ∙ ap all_short s ∙ short-after part left f.short;
          places = omega (arith, f.places, x.places, ap (λ (w : List ℕ). length w) (ap written_all s ∙ written-append part left), length-append (written_all part) (written_all left));
        }

    -- the loop stops where one has more than 16 keys
    pub measuring_stops : (why : Refusal) → Err why ≡ measured part → Err why ≡ measured all
    measuring_stops why q =
        let e = measured-not part why q in
        ap Err e.1 ∙ sym (measured-long all (x.short ∙ ap all_short s ∙ long-append part left e.0))

  -- the loop ends
  pub measuring_ends : (left : List (List ℕ)) (total : ℕ) → Measuring all left total → left ≡ [] → Ok total ≡ measured all
  unfolding written_all
  measuring_ends left total x e =
      let n : total ≡ length (written_all all) = omega (arith, x.places, ap (λ (os : List (List ℕ)). length (written_all os)) e) in
      ap Ok n ∙ sym (measured-short all (x.short ∙ ap all_short e ∙ short-test [] (λ i l. absurd (omega arith))))

-- One ordering, as it comes

-- one of at most 16 keys
short-one : (o : List ℕ) → length o ≤ 16 → all_short (o ∷ []) ≡ true
short-one o b = short-test (o ∷ []) (short-more [] o (λ i l. absurd (omega arith)) b)

module _ (e : Ordering) (o : List ℕ) (q : Ok e ≡ extended_of o) where
  -- an ordering that is there has at most 16 keys
  one-few : length o ≤ 16
  one-few = (fitting o e q).few

  -- its struct is there
  one-is : e ≡ row o
  one-is = (fitting o e q).is

  -- and it is one of at most 16 keys
  one_struct : ShortOrdering e
  one_struct = subst ShortOrdering (sym one-is) (row-short o one-few)

  pub one_size : e.size ≤ 16
  one_size = one_struct.short

  -- it takes so many places
  one-places : 1 + 2 * e.size ≡ length (written_all (o ∷ []))
  unfolding row
  one-places = omega (arith, ap (λ (r : Ordering). r.size) one-is, written-length o, ap (λ (w : List ℕ). length w) (written_one o))

  -- what is written of its struct is what is written of it
  one-new : (new rest : List ℕ) → new ≡ written (keys_of e) ++ rest → new ≡ written_all (o ∷ []) ++ rest
  one-new new rest p = p ∙ ap (λ (w : List ℕ). w ++ rest) (ap written (ap keys_of one-is ∙ keys-row o) ∙ sym (written_one o))

  -- that is its measure
  one-fits : Ok (1 + 2 * e.size) ≡ measured (o ∷ [])
  one-fits = ap Ok one-places ∙ sym (measured-short (o ∷ []) (short-one o one-few))

-- the measure of one that is not there is that it is too long
one-not : (why : Refusal) (o : List ℕ) → Err why ≡ extended_of o → Err why ≡ measured (o ∷ [])
one-not why o q = let u = unfitting o why q in ap Err u.1 ∙ sym (measured-long (o ∷ []) (long-test (o ∷ []) 0 (omega arith) u.0))

-- A choice in all orders

-- a choice of so many orderings has as many orders as the factorial says
in_all_length : (c : Choice) → length (in_all_orders (choice_of c)) ≡ factorial c.size
unfolding in_all_orders choice_of
in_all_length c =
    let os : List (List ℕ) = choice_of c in
    length-map (orders (length os)) (λ (o : List ℕ). chained (map (λ (i : ℕ). get_or os i []) o)) ∙ orders-length (length os)
    ∙ ap factorial (length-table (λ i. keys_of (get_or c.rows i (row []))) c.size)

-- the orderings from one on are that one and those after it
left-next : (os : List (List ℕ)) (k : ℕ) → k < length os → drop k os ≡ (ordering_at os k ∷ []) ++ drop (k + 1) os
left-next os k l = drop-cons os k [] l ∙ ap (λ (i : ℕ). ordering_at os k ∷ drop i os) (sym (add-one k))

-- the order with a number, as it comes from a choice
module _ (c : Choice) (k : ℕ) (b : k < factorial c.size) where
  abbrev all : List (List ℕ)
  all = in_all_orders (choice_of c)

  -- it is one of the choice in all orders
  order_in : k < length all
  order_in = omega (arith, in_all_length c)

  -- while the choice is measured
  module _ (total : ℕ) (x : Measuring all (drop k all) total) where
    -- where it fits, its places are counted
    pub choice_on : (e : Ordering) → Ok e ≡ extended_of (ordering_at all k) → Measuring all (drop (k + 1) all) (total + (1 + 2 * e.size))
    choice_on e q = measuring_on all (drop k all) (ordering_at all k ∷ []) (drop (k + 1) all) total x (left-next all k order_in) (1 + 2 * e.size) (one-fits e (ordering_at all k) q)

    -- where it does not, the choice is too long
    pub choice_stops : (why : Refusal) → Err why ≡ extended_of (ordering_at all k) → Err why ≡ measured all
    choice_stops why q = measuring_stops all (drop k all) (ordering_at all k ∷ []) (drop (k + 1) all) total x (left-next all k order_in) why (one-not why (ordering_at all k) q)

  -- while the choice is written
  module _ (first : List ℕ) (room : length (written_all all) ≤ length first) (out : List ℕ) (at : ℕ) (x : WritingOrders all (drop k all) first out at) where
    -- it has at most 16 keys
    order_few : length (ordering_at all k) ≤ 16
    order_few = test_short (ordering_at all k ∷ []) (part-short all first room (drop k all) out at x (ordering_at all k ∷ []) (drop (k + 1) all) (left-next all k order_in)) 0 (omega arith)

    -- so it is there
    pub order-there : extended_of (ordering_at all k) ≡ Ok (row (ordering_at all k))
    order-there = fits-here (ordering_at all k) order_few

    module _ (e : Ordering) (q : Ok e ≡ extended_of (ordering_at all k)) where
      -- and its struct has at most 16 keys
      pub order_short : ShortOrdering e
      order_short = one_struct e (ordering_at all k) q

      -- the rest of the output has room for it
      pub order_room : 1 + 2 * e.size ≤ length (take (length out - at) (drop at out))
      order_room = omega (arith, one-places e (ordering_at all k) q, part_room all first room (drop k all) out at x (ordering_at all k ∷ []) (drop (k + 1) all) (left-next all k order_in))

      -- it is written
      pub order_on : (new : List ℕ) → new ≡ written (keys_of e) ++ drop (1 + 2 * e.size) (take (length out - at) (drop at out))
          → WritingOrders all (drop (k + 1) all) first (take at out ++ (new ++ drop (length out - at) (drop at out))) (at + (1 + 2 * e.size))
      order_on new p =
          out-on all first room (drop k all) out at x (ordering_at all k ∷ []) (drop (k + 1) all) (left-next all k order_in) new (1 + 2 * e.size) (one-places e (ordering_at all k) q)
          (one-new e (ordering_at all k) q new (drop (1 + 2 * e.size) (take (length out - at) (drop at out))) p)

-- the orders of a choice end
pub orders-done : (c : Choice) (k : ℕ) → factorial c.size ≤ k → drop k (in_all_orders (choice_of c)) ≡ []
orders-done c k b = drop_of_length-le (in_all_orders (choice_of c)) {i = k} (omega (arith, in_all_length c))

-- The choices of lists

-- what stands at a place of its struct
choice_place : (os : List (List ℕ)) (i : ℕ) → get_or (choice_row os).rows i (row []) ≡ row (ordering_at os i)
unfolding choice_row
choice_place os i = fill_after (row []) (map row os) (6 - length os) i ∙ get_or-map row os i []

-- a choice comes back from its struct
pub choice_back : (os : List (List ℕ)) → choice_of (choice_row os) ≡ os
unfolding choice_of choice_row
choice_back os =
    sym (table_is (λ i. keys_of (get_or (choice_row os).rows i (row []))) (length os) os [] refl
    (λ i l. sym (ap keys_of (choice_place os i) ∙ keys-row (ordering_at os i))))

-- the struct of 1 to 6 orderings of at most 16 keys
chosen-row : (os : List (List ℕ)) → 0 < length os → length os ≤ 6 → AllShort os → Chosen (choice_row os)
unfolding choice_row
chosen-row os a b h = record {
  coded = ap choice_row (choice_back os);
  some = a;
  few = b;
  short = λ i l. subst ShortOrdering (sym (choice_place os i)) (row-short (ordering_at os i) (h i l));
}

-- an ordering of at most 16 keys before such orderings
short-before : (o : List ℕ) (os : List (List ℕ)) → length o ≤ 16 → AllShort os → AllShort (o ∷ os)
short-before o os b h zero l = b
short-before o os b h (suc i) l = h i (omega arith)

-- where the orderings of each list have at most 16 keys, those of a choice have
product-short : (ls : List (List (List ℕ))) → ((j : ℕ) → j < length ls → AllShort (get_or ls j [])) → (number : ℕ) → number < choices ls → AllShort (get_or (product ls) number [])
unfolding product times_all
product-short [] h zero b = λ i l. absurd (omega arith)
product-short [] h (suc number) b = λ i l. absurd (omega arith)
product-short (os ∷ ls) h number b =
    let some : 0 < choices ls = factor_some (length os) (choices ls) number b in
    let q : number / choices ls < length os = (div-lt_iff_lt-mul {k = choices ls} {x = number} {y = length os} some).1 b in
    let r = product-short ls (λ j l. h (suc j) (omega arith)) (number % choices ls) (mod-lt number some) in
    subst AllShort (sym (product_at os ls number b)) (short-before (ordering_at os (number / choices ls)) (get_or (product ls) (number % choices ls) []) (h 0 (omega arith) (number / choices ls) q) r)

module _ (l : Lists) where
  -- the orderings of a list in a struct have at most 16 keys
  list-short : Laid l → (j : ℕ) → j < l.shape.size → AllShort (list_of l j)
  unfolding list_of
  list-short v j b i a =
      let c : i < length_of l.shape j = omega (arith, list_length l j) in
      let place : ℕ = start_of l.shape j + i in
      let e = ap (λ (o : List ℕ). length o) (get_or-table (λ i. keys_of (get_or l.found.rows (start_of l.shape j + i) (row []))) (length_of l.shape j) i [] c) in
      omega (arith, short-size (get_or l.found.rows place (row [])) (v.short place (place-there l.shape v.shaped j i b c)))

  module _ (n : ℕ) (h : Ready l n) where
    -- there are at most 1,024 choices
    pub ready-few : n ≤ 1024
    ready-few = factor_few (factorial l.shape.size) n 1024 (factorial-some l.shape.size) h.few

    module _ (k : ℕ) (b : k < n) where
      -- choice k is one of them
      pub ready_in : k < choices (lists_of l)
      ready_in = omega (arith, h.number)

      -- and is one of 1 to 6 orderings of at most 16 keys
      pub ready-chosen : (x : Choice) → x ≡ choice_row (get_or (product (lists_of l)) k []) → Chosen x
      ready-chosen x e =
          let os : List (List ℕ) = get_or (product (lists_of l)) k [] in
          let long : length os ≡ l.shape.size = choice_length (lists_of l) k ready_in ∙ lists_length l in
          subst Chosen (sym e)
          (chosen-row os (omega (arith, h.some)) (omega (arith, h.laid.shaped.few))
          (product-short (lists_of l) (λ j a. let d : j < l.shape.size = omega (arith, lists_length l) in subst AllShort (sym (lists_at l j d)) (list-short h.laid j d)) k ready_in))

      -- the orders of the choices from it on are its orders and those of the choices after it
      pub ready-next : (x : Choice) → x ≡ choice_row (get_or (product (lists_of l)) k []) → all_orders (drop k (product (lists_of l))) ≡ in_all_orders (choice_of x) ++ all_orders (drop (k + 1) (product (lists_of l)))
      unfolding all_orders
      ready-next x e =
          let cs : List (List (List ℕ)) = product (lists_of l) in
          let os : List (List ℕ) = get_or cs k [] in
          ap all_orders (drop-cons cs k [] (omega (arith, product-length (lists_of l), ready_in)))
          ∙ ap (λ (i : ℕ). in_all_orders os ++ all_orders (drop i cs)) (sym (add-one k))
          ∙ ap (λ (t : List (List ℕ)). in_all_orders t ++ all_orders (drop (k + 1) cs)) (sym (ap choice_of e ∙ choice_back os))

    -- after the last there are none
    pub ready-done : (k : ℕ) → n ≤ k → all_orders (drop k (product (lists_of l))) ≡ []
    unfolding all_orders
    ready-done k b = ap all_orders (drop_of_length-le (product (lists_of l)) {i = k} (omega (arith, product-length (lists_of l), h.number)))
