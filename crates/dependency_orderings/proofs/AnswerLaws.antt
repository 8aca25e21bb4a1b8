-- The answers: orderings against their bounds and the output, lists as they lie in their struct, what was gathered, and the checks of what is given.
use Rattle.std.specs.Prelude.{if◌then◌else◌, None, Ok, Err}
use Prim.Native.Nat.{ℕ, zero, suc, ◌+◌, ◌-◌, ◌*◌, ◌<◌, ◌≤◌}
use mathlib.Core.Bool.{Bool, true, false, ◌||◌}
use mathlib.Core.List.{List, [], ◌∷◌, ◌++◌, append-nil}
use mathlib.Core.Path.{◌≡◌, refl, sym, ap, ap₂, ◌∙◌, subst}
use native.Mathlib.Nat.{zero-add, mul_comm}
use native.Mathlib.Numerals.{add-one}
use native.Mathlib.Omega.{arith}
use borrow.Author.Tests.{eqb-true, eq-eqb, ne_eqb, ltb-true, ltb-false, le-ltb, leb-true, leb-false, le-leb, lt-leb, not-true, not-false}
use lib.Dec.{eqb, ltb, leb}
use lib.ListN.{length, get_or, take, drop, set, replicate, length-append, get_or-append}
use lib.Seq.{take_all, get_or-append-add}
use Rattle.laws.specs.Tests.{each}
use Rattle.laws.proofs.Booleans.{true_not_false, and_both, and_fails_left, and_fails_right}
use Rattle.laws.proofs.Table.{table_is}
use Rattle.arena.specs.Layout.{count}
use Rattle.arena.proofs.Layouts.{lawful-holds}
use Rattle.sort_keys.specs.Layout.{options_known, none_cut}
use Rattle.sort_keys.proofs.KeyCalls.{Below, keys-known}
use Rattle.orderings.specs.Lists.{ordering_at}
use Rattle.orderings.specs.Layout.{row, keys_of}
use Rattle.orderings.specs.Inner.{ShortOrdering, all_short}
use Rattle.orderings.proofs.Codec.{keys-row}
use Rattle.orderings.proofs.Extending.{row-short}
use Rattle.dependencies.specs.Map.{Dependent, place_of}
use Rattle.dependencies.specs.Layout.{decode}
use Rattle.dependencies.specs.Calls.{map_number}
use Rattle.dependencies.specs.Inner.{Held}
use Rattle.dependencies.specs.declared.DependencyMap.{DependencyMap}
use Rattle.dependencies.proofs.MapChecks.{number-lawful, number-arena}
use Rattle.dependencies.proofs.MapCodec.{Sized, held-lawful}
use Rattle.enumeration.specs.Walk.{Walk, stopped, prefix_orderings}
use Rattle.enumeration.specs.Bounds.{fitting}
use Rattle.enumeration.specs.Inner.{Rows, Came}
use Rattle.enumeration.specs.declared.Found.{Found}
use Rattle.enumeration.proofs.Keeps.{fitting-few, fitting-short}
use Rattle.enumeration.proofs.WalkLaws.{prefix-missing}
use Rattle.products.proofs.BoundLaws.{Full, lists-full, prefix_bounds_follow}
use Rattle.products.specs.Orders.{product}
use Rattle.products.specs.Generate.{once_each, contributing, all_orders, generated}
use Rattle.products.specs.Inner.{joined, start_of, length_of, lengths_of, list_of, lists_of, Laid, factorial, times_all, choices, counted}
use Rattle.products.specs.declared.Shape.{Shape}
use Rattle.products.specs.declared.Lists.{Lists}
use Rattle.arena.specs.declared.Refusal.{Refusal}
use Rattle.arena.specs.declared.Refusal.TheVariants.{TooLarge, UnknownKey, OutputShort}
use Rattle.arena.specs.Refusals.{refusal_number, refusal, outcome}
use Rattle.arena.proofs.Refusals.{ok-not-err, ok-zero, err-refusal, Listed, listed-if}
use Rattle.classes.proofs.Judging.{refusal-of}
use Rattle.dependencies.proofs.MapCalls.{map_number-listed}
use Rattle.dependency_orderings.proofs.Measures.{measured-fits, measured-not}
use Rattle.products.proofs.ProductLaws.{generated-one, generated-length}
use Rattle.products.proofs.ListLaws.{lists_length, lists_lengths}
use Rattle.products.proofs.Choices.{lengths_count}
use Rattle.dependency_orderings.specs.Output.{written_all}
use Rattle.dependency_orderings.specs.Calls.{Answer, writes, answered, walk_answer, prefix_number, prefix_answer, generate_number, gathered_answer, different, generate_answer}
use Rattle.dependency_orderings.specs.Inner.{measured, Ready, one_list, up_to17, Shapes, Gathering, GathersOn, Gathers, GatheredBy, over_bound, KeysFit}
use Rattle.dependency_orderings.specs.declared.Gathered.{Gathered}

-- Orderings against their bounds and the output

-- no orderings: nothing is written
answered-none : (out : List ℕ) → ◌≡◌ {A = Answer} (Ok (record { count = 0; used = 0 }), out) (answered [] out)
unfolding answered writes written_all fitting each
answered-none out = rw (le-leb 0 (length out) (omega arith))

module _ (os : List (List ℕ)) (out : List ℕ) where
  -- orderings over a bound
  pub answered-over : fitting os ≡ false → ◌≡◌ {A = Answer} (Err TooLarge, out) (answered os out)
  unfolding answered
  answered-over f = rw f

  -- orderings within the bounds
  module _ (f : fitting os ≡ true) where
    -- that the output is too short for
    answered-short : length out < length (written_all os) → ◌≡◌ {A = Answer} (Err OutputShort, out) (answered os out)
    unfolding answered
    answered-short l = rw (f, lt-leb (length (written_all os)) (length out) l)

    -- that are written
    answered-written : length (written_all os) ≤ length out → writes os out ≡ answered os out
    unfolding answered
    answered-written l = rw (f, le-leb (length (written_all os)) (length out) l)

-- more than 1,024 orderings are over a bound
many-over : (os : List (List ℕ)) → 1024 < length os → fitting os ≡ false
unfolding fitting all_short
many-over os l = and_fails_left (leb (length os) 1024) (all_short os) (lt-leb (length os) 1024 l)

-- so are orderings of which one is too long
long-over : (os : List (List ℕ)) → all_short os ≡ false → fitting os ≡ false
unfolding fitting all_short
long-over os f = and_fails_right (leb (length os) 1024) (all_short os) f

-- others are within them
few-fitting : (os : List (List ℕ)) → length os ≤ 1024 → all_short os ≡ true → fitting os ≡ true
unfolding fitting all_short
few-fitting os l h = and_both (le-leb (length os) 1024 l) h

-- How many orderings lists give, and how many places they take

-- how many choices lists of some lengths give
module _ (ns : List ℕ) where
  -- how many orders they have
  abbrev ways : ℕ
  ways = factorial (length ns) * times_all ns

  counted-by : (b : Bool) → leb ways 1024 ≡ b → counted ns ≡ (if b then Ok (times_all ns) else Err TooLarge)
  unfolding counted
  counted-by b e = rw e

  -- where the number is told, at most 1,024
  counted_is : (n : ℕ) → Ok n ≡ counted ns → (ways ≤ 1024) × (n ≡ times_all ns)
  counted_is n q = go (leb ways 1024) refl
    where
      go : (b : Bool) → leb ways 1024 ≡ b → (ways ≤ 1024) × (n ≡ times_all ns)
      go true e = let p : Ok n ≡ Ok (times_all ns) = q ∙ counted-by true e in (leb-true ways 1024 e, cc)
      go false e = absurd (ok-not-err (q ∙ counted-by false e))

  -- where it is not, more
  counted-over : (why : Refusal) → Err why ≡ counted ns → (1024 < ways) × (why ≡ TooLarge)
  counted-over why q = go (leb ways 1024) refl
    where
      go : (b : Bool) → leb ways 1024 ≡ b → (1024 < ways) × (why ≡ TooLarge)
      go true e = absurd (ok-not-err (sym (q ∙ counted-by true e)))
      go false e = let p : Err why ≡ Err TooLarge = q ∙ counted-by false e in (leb-false ways 1024 e, cc)

-- where there are lists, their orderings are those of the choices
generated-some : (ls : List (List (List ℕ))) → 0 < length ls → generated ls ≡ all_orders (product ls)
unfolding generated
generated-some [] l = absurd (omega arith)
generated-some (x ∷ ls) l = refl

-- so many
generated-count : (ls : List (List (List ℕ))) → 0 < length ls → length (generated ls) ≡ choices ls * factorial (length ls)
generated-count [] l = absurd (omega arith)
generated-count (x ∷ ls) l = generated-length x ls

-- no lists have no orderings
pub answer-none : (l : Lists) (out : List ℕ) → l.shape.size ≡ 0 → ◌≡◌ {A = Answer} (Ok (record { count = 0; used = 0 }), out) (answered (generated (lists_of l)) out)
unfolding generated
answer-none l out z = go (lists_of l) (lists_length l ∙ z)
  where
    go : (ls : List (List (List ℕ))) → length ls ≡ 0 → ◌≡◌ {A = Answer} (Ok (record { count = 0; used = 0 }), out) (answered (generated ls) out)
    go [] e = answered-none out
    go (x ∷ ls) e = absurd (omega arith)

-- the answer with lists of which at least one is there, by the number of choices
module _ (l : Lists) (v : Laid l) (z : l.shape.size ≡ 0 → ⊥) where
  -- at least one is there
  there : 0 < length (lists_of l)
  there = omega (arith, lists_length l)

  -- the orderings of all choices
  abbrev all : List (List ℕ)
  all = all_orders (product (lists_of l))

  -- they are what the lists give
  all-is : generated (lists_of l) ≡ all
  all-is = generated-some (lists_of l) there

  -- how many they are
  all-count : length (generated (lists_of l)) ≡ times_all (lengths_of l.shape) * factorial l.shape.size
  all-count =
      generated-count (lists_of l) there
      ∙ ap₂ {C = ℕ} (λ a b. times_all a * factorial b) (lists_lengths l) (lists_length l)

  -- too many
  pub answer-many : (why : Refusal) → Err why ≡ counted (lengths_of l.shape) → (out : List ℕ) → ◌≡◌ {A = Answer} (Err why, out) (answered (generated (lists_of l)) out)
  answer-many why q out =
      let over = counted-over (lengths_of l.shape) why q in
      let same = ap (λ (n : ℕ). factorial n * times_all (lengths_of l.shape)) (lengths_count l.shape) in
      ap {B = Answer} (λ (x : Refusal). (Err x, out)) over.1
      ∙ answered-over (generated (lists_of l)) out (many-over (generated (lists_of l))
      (omega (arith, over.0, same, all-count, mul_comm (factorial l.shape.size) (times_all (lengths_of l.shape)))))

  -- not too many
  module _ (r : ℕ) (q : Ok r ≡ counted (lengths_of l.shape)) where
    -- their orders are at most 1,024
    few-orders : factorial l.shape.size * r ≤ 1024
    few-orders =
        let c = counted_is (lengths_of l.shape) r q in
        let same = ap₂ {C = ℕ} (λ a b. factorial a * b) (lengths_count l.shape) (sym c.1) in
        omega (arith, c.0, same)

    -- what the functions that measure and write ask
    pub answer-ready : Ready l r
    answer-ready = record {
      laid = v;
      some = omega arith;
      number = (counted_is (lengths_of l.shape) r q).1 ∙ ap times_all (sym (lists_lengths l));
      few = few-orders;
    }

    -- the count that is answered is small
    pub count-few : (n : ℕ) → n ≡ factorial l.shape.size → r * n ≤ 1024
    count-few n e = omega (arith, few-orders, mul_comm (factorial l.shape.size) r, ap (λ (k : ℕ). r * k) e)

    -- and it is how many orderings there are
    count-is : (n : ℕ) → n ≡ factorial l.shape.size → r * n ≡ length (generated (lists_of l))
    count-is n e = ap₂ {C = ℕ} (λ a b. a * b) ((counted_is (lengths_of l.shape) r q).1) e ∙ sym all-count

    -- so there are at most 1,024
    all-few : length (generated (lists_of l)) ≤ 1024
    all-few = omega (arith, count-is (factorial l.shape.size) refl, count-few (factorial l.shape.size) refl)

    -- by how many places they take
    module _ (out : List ℕ) where
      -- one is too long
      pub answer-long : (why : Refusal) → Err why ≡ measured all → ◌≡◌ {A = Answer} (Err why, out) (answered (generated (lists_of l)) out)
      answer-long why w =
          let n = measured-not all why w in
          ap {B = Answer} (λ (x : Refusal). (Err x, out)) n.1 ∙ answered-over (generated (lists_of l)) out (rw all-is (long-over all n.0))

      -- none is
      module _ (p : ℕ) (w : Ok p ≡ measured all) where
        -- they are within the bounds
        all-fitting : fitting all ≡ true
        all-fitting = few-fitting all (omega (arith, all-few, ap (λ (x : List (List ℕ)). length x) all-is)) (measured-fits all p w).short

        -- the output is too short
        pub answer-short : length out < p → ◌≡◌ {A = Answer} (Err OutputShort, out) (answered (generated (lists_of l)) out)
        answer-short b = rw all-is (answered-short all out all-fitting (omega (arith, (measured-fits all p w).places)))

        -- it has room
        module _ (b : p ≤ length out) where
          -- as the function that writes asks
          pub answer-room : (all_short all ≡ true) × (length (written_all all) ≤ length out)
          answer-room = let m = measured-fits all p w in (m.short, omega (arith, m.places))

          -- they are written
          pub answer-written : (n used : ℕ) (e : List ℕ) → n ≡ factorial l.shape.size → (used ≡ length (written_all all)) × (e ≡ written_all all ++ drop (length (written_all all)) out)
              → ◌≡◌ {A = Answer} (Ok (record { count = r * n; used = used }), e) (answered (generated (lists_of l)) out)
          unfolding writes
          answer-written n used e a h =
              let c : r * n ≡ length all = count-is n a ∙ ap (λ (x : List (List ℕ)). length x) all-is in
              rw all-is ((λ t. (Ok (record { count = c t; used = h.0 t }), h.1 t)) ∙ answered-written all out all-fitting answer-room.1)

-- Lists as they lie in their struct

-- one list more has so many orderings more
joined-more : (ls : List (List (List ℕ))) (j : ℕ) → j < length ls → length (joined (take (suc j) ls)) ≡ length (joined (take j ls)) + length (get_or ls j [])
unfolding joined
joined-more [] j l = absurd (omega arith)
joined-more (x ∷ ls) zero l = omega (arith, length-append x [])
joined-more (x ∷ ls) (suc j) l = omega (arith, length-append x (joined (take (suc j) ls)), length-append x (joined (take j ls)), joined-more ls j (omega arith))

-- the first lists have no more than all of them
joined-few : (ls : List (List (List ℕ))) (j : ℕ) → length (joined (take j ls)) ≤ length (joined ls)
unfolding joined
joined-few ls zero = omega arith
joined-few [] (suc j) = omega arith
joined-few (x ∷ ls) (suc j) = omega (arith, length-append x (joined (take j ls)), length-append x (joined ls), joined-few ls j)

-- an ordering of a list stands behind those of the lists before it
joined_at : (ls : List (List (List ℕ))) (j i : ℕ) → j < length ls → i < length (get_or ls j []) → get_or (joined ls) (length (joined (take j ls)) + i) [] ≡ get_or (get_or ls j []) i []
unfolding joined
joined_at [] j i l b = absurd (omega arith)
joined_at (x ∷ ls) zero i l b = ap (λ (n : ℕ). get_or (x ++ joined ls) n []) (zero-add i) ∙ get_or-append x (joined ls) [] i b
joined_at (x ∷ ls) (suc j) i l b =
    let e : length (x ++ joined (take j ls)) + i ≡ length x + (length (joined (take j ls)) + i) = omega (arith, length-append x (joined (take j ls))) in
    ap (λ (n : ℕ). get_or (x ++ joined ls) n []) e ∙ get_or-append-add x (joined ls) (length (joined (take j ls)) + i) [] ∙ joined_at ls j i (omega arith) b

-- lists whose ends and orderings stand in a struct, within the bounds
module _ (l : Lists) (ls : List (List (List ℕ))) (shapes : Shapes l.shape ls) (rows : Rows l.found (joined ls)) (f : fitting (joined ls) ≡ true) (few : length ls ≤ 6) (full : Full ls) where
  -- a list begins behind those before it
  start_is : (j : ℕ) → j ≤ length ls → start_of l.shape j ≡ length (joined (take j ls))
  unfolding start_of joined
  start_is zero b = refl
  start_is (suc j) b = shapes.ends j b ∙ ap (λ (n : ℕ). length (joined (take n ls))) (add-one j)

  -- and ends behind its own
  end_is : (j : ℕ) → j < length ls → get_or l.shape.ends j 0 ≡ length (joined (take j ls)) + length (get_or ls j [])
  end_is j b = shapes.ends j b ∙ ap (λ (n : ℕ). length (joined (take n ls))) (add-one j) ∙ joined-more ls j b

  -- an ordering as it lies in the struct
  row_is : (i : ℕ) → i < length (joined ls) → get_or l.found.rows i (row []) ≡ row (ordering_at (joined ls) i)
  row_is i b = rows.rows f i b

  -- the struct has them within its bounds
  pub lists-laid : Laid l
  lists-laid = record {
    shaped = record {
      few = omega (arith, shapes.size);
      rise = λ j b. let k : j < length ls = omega (arith, shapes.size) in omega (arith, start_is j (omega arith), end_is j k, full j k);
      within = λ j b. let k : j < length ls = omega (arith, shapes.size) in omega (arith, end_is j k, joined-more ls j k, joined-few ls (suc j), fitting-few (joined ls) f);
    };
    short = λ i b.
        let e : start_of l.shape l.shape.size ≡ length (joined ls) =
        ap (start_of l.shape) shapes.size ∙ start_is (length ls) (omega arith) ∙ ap (λ (x : List (List (List ℕ))). length (joined x)) (take_all (length ls) ls (omega arith)) in
        let k : i < length (joined ls) = omega arith in
        subst ShortOrdering (sym (row_is i k)) (row-short (ordering_at (joined ls) i) (fitting-short (joined ls) f i k));
  }

  -- each list is the one in the struct
  list-is : (j : ℕ) → j < length ls → get_or ls j [] ≡ list_of l j
  unfolding list_of length_of
  list-is j b =
      let start = start_is j (omega arith) in
      let n : length (get_or ls j []) ≡ get_or l.shape.ends j 0 - start_of l.shape j = omega (arith, end_is j b) in
      table_is (λ i. keys_of (get_or l.found.rows (start_of l.shape j + i) (row []))) (get_or l.shape.ends j 0 - start_of l.shape j) (get_or ls j []) [] n
      (λ i k.
      let inside : i < length (get_or ls j []) = omega arith in
      let place : length (joined (take j ls)) + i < length (joined ls) = omega (arith, joined-more ls j b, joined-few ls (suc j)) in
      sym (ap (λ (s : ℕ). keys_of (get_or l.found.rows (s + i) (row []))) start
      ∙ ap keys_of (row_is (length (joined (take j ls)) + i) place) ∙ keys-row (ordering_at (joined ls) (length (joined (take j ls)) + i))
      ∙ joined_at ls j i b inside))

  -- and they are the lists in it
  pub lists-are : lists_of l ≡ ls
  unfolding lists_of
  lists-are = sym (table_is (list_of l) l.shape.size ls [] (sym shapes.size) (λ j b. list-is j (omega (arith, shapes.size))))

-- Orderings that were found

-- the struct says whether they are over a bound
module _ (f : Found) (os : List (List ℕ)) (rows : Rows f os) where
  -- they are
  pub found-over : f.over ≡ true → fitting os ≡ false
  found-over t = not-true (fitting os) (sym rows.over ∙ t)

  -- they are not
  pub found-fits : f.over ≡ false → fitting os ≡ true
  found-fits t = not-false (fitting os) (sym rows.over ∙ t)

-- the struct of one list, by the tests of the code
module _ (f : Found) where
  -- nothing was found: none
  pub one_none : f.count ≡ 0 → ◌≡◌ {A = Lists} (record { shape = record { size = 0; ends = replicate {A = ℕ} 6 0 }; found = f }) (one_list f)
  unfolding one_list
  one_none z = rw (eq-eqb f.count 0 z)

  -- something was: one
  pub one-some : (f.count ≡ 0 → ⊥) → ◌≡◌ {A = Lists} (record { shape = record { size = 1; ends = set (replicate {A = ℕ} 6 0) 0 f.count }; found = f }) (one_list f)
  unfolding one_list
  one-some z = rw (ne_eqb f.count 0 z)

-- a list without elements
none-there : {A : Type 0} (xs : List A) → length xs ≡ 0 → xs ≡ []
none-there [] e = refl
none-there (x ∷ xs) e = absurd (omega arith)

-- orderings within the bounds, as one list
module _ (f : Found) (os : List (List ℕ)) (rows : Rows f os) (fits : fitting os ≡ true) where
  -- lists that give these orderings
  abbrev Gives : Lists → Type 0
  Gives l = Laid l × (generated (lists_of l) ≡ os)

  -- some lists with them in their struct
  gives-lists : (s : Shape) (ls : List (List (List ℕ))) → Shapes s ls → joined ls ≡ os → generated ls ≡ os → length ls ≤ 6 → Full ls → Gives (record { shape = s; found = f })
  gives-lists s ls shapes j g few full =
      let l : Lists = record { shape = s; found = f } in
      let inside : Rows f (joined ls) = subst (Rows f) (sym j) rows in
      let within : fitting (joined ls) ≡ true = ap fitting j ∙ fits in
      (lists-laid l ls shapes inside within few full, ap generated (lists-are l ls shapes inside within few full) ∙ g)

  -- none, or one
  one-gives : Gives (one_list f)
  unfolding one_list joined generated
  one-gives = go (eqb f.count 0) refl
    where
      go : (b : Bool) → eqb f.count 0 ≡ b
          → Gives (if b then record { shape = record { size = 0; ends = replicate {A = ℕ} 6 0 }; found = f } else record { shape = record { size = 1; ends = set (replicate {A = ℕ} 6 0) 0 f.count }; found = f })
      go true e =
          let no : os ≡ [] = none-there os (sym (rows.count fits) ∙ eqb-true f.count 0 e) in
          gives-lists (record { size = 0; ends = replicate {A = ℕ} 6 0 }) [] (record { size = refl; ends = λ j l. absurd (omega arith) }) (sym no) (sym no) (omega arith) (λ j l. absurd (omega arith))
      go false e =
          gives-lists (record { size = 1; ends = set (replicate {A = ℕ} 6 0) 0 f.count }) (os ∷ []) (record { size = refl; ends = at }) (append-nil os) (generated-one os) (omega arith) full
        where
          at : (j : ℕ) → j < 1 → get_or (set (replicate {A = ℕ} 6 0) 0 f.count) j 0 ≡ length (joined (take (j + 1) (os ∷ [])))
          at zero l = rows.count fits ∙ ap (λ (x : List (List ℕ)). length x) (sym (append-nil os))
          at (suc j) l = absurd (omega arith)

          full : Full (os ∷ [])
          full zero l = let z : f.count ≡ 0 → ⊥ = λ q. true_not_false (eq-eqb f.count 0 q) e in omega (arith, rows.count fits)
          full (suc j) l = absurd (omega arith)

  -- the struct has it within its bounds
  pub one-laid : Laid (one_list f)
  one-laid = one-gives.0

  -- and it gives these orderings
  pub one-generated : generated (lists_of (one_list f)) ≡ os
  one-generated = one-gives.1

-- what the walk of a key came to
module _ (w : Walk) (out : List ℕ) where
  -- it stopped
  pub walk-stopped : (why : Refusal) → w ≡ stopped (refusal_number why) → ◌≡◌ {A = Answer} (Err why, out) (walk_answer w out)
  unfolding walk_answer
  walk-stopped why z = ap {B = Answer} (λ (x : Refusal). (Err x, out)) (sym (refusal-of why)) ∙ sym (ap (λ (x : Walk). walk_answer x out) z)

  module _ (f : Found) (c : Came w [] f (λ u. Unit {0})) where
    -- the struct holds its orderings
    pub walk_rows : (os : List (List ℕ)) × Rows f os
    walk_rows = (c.ps, c.rows)

    -- the answer with them
    pub walk-answered : (a : Answer) → ((os : List (List ℕ)) → Rows f os → a ≡ answered os out) → a ≡ walk_answer w out
    unfolding walk_answer
    walk-answered a h = h c.ps c.rows ∙ sym (ap (λ (x : Walk). walk_answer x out) c.is)

-- the answer for a key that is not in the map
pub nowhere-answered : (ds : List Dependent) (k : ℕ) (out : List ℕ) → place_of ds k ≡ None → ◌≡◌ {A = Answer} (Err UnknownKey, out) (walk_answer (prefix_orderings ds k) out)
unfolding walk_answer refusal
nowhere-answered ds k out e = sym (ap (λ (x : Walk). walk_answer x out) (prefix-missing ds k e))

-- What was gathered

-- up to 16 a number stands for itself; 17 stands for more
up-low : (n : ℕ) → n ≤ 16 → up_to17 n ≤ 16
unfolding up_to17
up-low n l = rw (lt-leb 17 n (omega arith)) l

-- so a number up to 16 stands for one up to 16
up-within : (n : ℕ) → up_to17 n ≤ 16 → n ≤ 16
unfolding up_to17
up-within n l = go (leb 17 n) refl l
  where
    go : (b : Bool) → leb 17 n ≡ b → (if b then 17 else n) ≤ 16 → n ≤ 16
    go true e w = absurd (omega arith)
    go false e w = w

-- where an "or" fails, so does its first half
or_left : (a b : Bool) → (a || b) ≡ false → a ≡ false
or_left true b e = e
or_left false b e = refl

-- and its second half
or_right : (a b : Bool) → (a || b) ≡ false → b ≡ false
or_right true b e = absurd (true_not_false refl e)
or_right false b e = e

-- what is gathered of some different keys
module _ (m : DependencyMap) (ks : List ℕ) (ls : List (List (List ℕ))) (g : Gathered) (h : Gathering m ks ls g) where
  -- what is over no bound: at most 16 keys, at most 6 lists, and orderings within the bounds
  gathered_passes : over_bound g ≡ false → (length ks ≤ 16) × ((leb (length ls) 6 ≡ true) × (fitting (joined ls) ≡ true))
  unfolding over_bound
  gathered_passes e =
      let a : (ltb 16 g.different || g.many) ≡ false = or_left (ltb 16 g.different || g.many) g.lists.found.over e in
      let f : fitting (joined ls) ≡ true = found-fits g.lists.found (joined ls) h.rows (or_right (ltb 16 g.different || g.many) g.lists.found.over e) in
      let d : g.different ≤ 16 = ltb-false 16 g.different (or_left (ltb 16 g.different) g.many a) in
      let t : leb (length ls) 6 ≡ true = not-false (leb (length ls) 6) (sym (h.many f) ∙ or_right (ltb 16 g.different) g.many a) in
      (up-within (length ks) (subst (λ (n : ℕ). n ≤ 16) h.different d), (t, f))

  -- what is over a bound, with at most 16 keys and at most 6 lists: their orderings
  gathered_over : over_bound g ≡ true → leb (length ks) 16 ≡ true → leb (length ls) 6 ≡ true → fitting (generated ls) ≡ false
  unfolding over_bound
  gathered_over e p q = go (fitting (generated ls)) refl
    where
      go : (c : Bool) → fitting (generated ls) ≡ c → fitting (generated ls) ≡ false
      go false r = r
      go true r =
          let d : g.different ≤ 16 = rw h.different (up-low (length ks) (leb-true (length ks) 16 p)) in
          let f : fitting (joined ls) ≡ true = prefix_bounds_follow ls (lists-full (decode m) ks ls h.is) r in
          absurd (true_not_false e (rw (le-ltb 16 g.different d, h.many f, q, h.rows.over, f)))

  -- within the bounds of a list, and at most 6
  module _ (f : fitting (joined ls) ≡ true) (few : leb (length ls) 6 ≡ true) where
    -- the struct has the lists within its bounds
    pub gathered_laid : Laid g.lists
    gathered_laid = lists-laid g.lists ls (h.shapes f few) h.rows f (leb-true (length ls) 6 few) (lists-full (decode m) ks ls h.is)

    -- and they are the lists in it
    pub gathered_lists : lists_of g.lists ≡ ls
    gathered_lists = lists-are g.lists ls (h.shapes f few) h.rows f (leb-true (length ls) 6 few) (lists-full (decode m) ks ls h.is)

  -- what is over no bound is answered with them
  gathered_done : (out : List ℕ) → over_bound g ≡ false → answered (generated (lists_of g.lists)) out ≡ gathered_answer (contributing (decode m) ks) (length ks) out
  unfolding gathered_answer
  gathered_done out e =
      let p = gathered_passes e in
      ap (λ (x : List (List (List ℕ))). answered (generated x) out) (gathered_lists p.1.1 p.1.0)
      ∙ rw (h.is, le-leb (length ks) 16 p.0, p.1.0)

  -- what is over a bound is refused
  gathered_refused : (out : List ℕ) → over_bound g ≡ true → ◌≡◌ {A = Answer} (Err TooLarge, out) (gathered_answer (contributing (decode m) ks) (length ks) out)
  unfolding gathered_answer
  gathered_refused out e = go (leb (length ks) 16) refl (leb (length ls) 6) refl
    where
      go : (a : Bool) → leb (length ks) 16 ≡ a → (b : Bool) → leb (length ls) 6 ≡ b → ◌≡◌ {A = Answer} (Err TooLarge, out) (gathered_answer (contributing (decode m) ks) (length ks) out)
      go false p b q = rw (h.is, p)
      go true p false q = rw (h.is, p, q)
      go true p true q = rw (h.is, p, q) (answered-over (generated ls) out (gathered_over e p q))

-- what was gathered of all given keys
module _ (m : DependencyMap) (ks : List ℕ) (out : List ℕ) where
  -- the answer that is due
  abbrev due : Answer
  due = gathered_answer (contributing (decode m) (once_each [] ks)) (length (once_each [] ks)) out

  -- a walk stopped
  pub gathers-stopped : (why : Refusal) → Gathers m ks (Err why) → ◌≡◌ {A = Answer} (Err why, out) due
  unfolding gathered_answer
  gathers-stopped why h = rw h (ap {B = Answer} (λ (x : Refusal). (Err x, out)) (sym (refusal-of why)))

  module _ (g : Gathered) (h : GathersOn m ks g) where
    -- it is over a bound
    pub gathers-over : over_bound g ≡ true → ◌≡◌ {A = Answer} (Err TooLarge, out) due
    gathers-over e = gathered_refused m (once_each [] ks) h.all-lists g h.gathering out e

    -- it is not
    pub gathers-done : over_bound g ≡ false → answered (generated (lists_of g.lists)) out ≡ due
    gathers-done e = gathered_done m (once_each [] ks) h.all-lists g h.gathering out e

-- then the lists lie in their struct
pub gathers-laid : (g : Gathered) → GatheredBy (Ok g) → over_bound g ≡ false → Laid g.lists
gathers-laid g h e =
    let w : GathersOn h.map h.keys g = h.gathers in
    let p = gathered_passes h.map (once_each [] h.keys) w.all-lists g w.gathering e in
    gathered_laid h.map (once_each [] h.keys) w.all-lists g w.gathering p.1.1 p.1.0

-- The checks of what is given

-- the number of the tests that both calls end with, where it is 0: the map passed, and so did the test of the expressions
last-zero : (n : ℕ) (c : Bool) → (if eqb n 0 then (if c then 0 else 1) else n) ≡ 0 → (n ≡ 0) × (c ≡ true)
last-zero n c e = go (eqb n 0) refl c e
  where
    go : (b : Bool) → eqb n 0 ≡ b → (c : Bool) → (if b then (if c then 0 else 1) else n) ≡ 0 → (n ≡ 0) × (c ≡ true)
    go true q true w = (eqb-true n 0 q, refl)
    go true q false w = absurd (omega arith)
    go false q c w = absurd (true_not_false (eq-eqb n 0 w) q)

-- a test before them
test_zero : (a : Bool) (n k : ℕ) → (k ≡ 0 → ⊥) → (if a then n else k) ≡ 0 → (a ≡ true) × (n ≡ 0)
test_zero true n k z e = (refl, e)
test_zero false n k z e = absurd (z e)

-- a map and a key
module _ (cells : List ℕ) (m : DependencyMap) (e options : ℕ) where
  -- a map and a key that pass
  pub record PrefixPasses : Type 0 where
    pub known : options ≤ 3
    pub map : map_number cells m ≡ 0
    pub below : e < count cells

  -- 0 is the number of such alone
  pub prefix-passes : prefix_number cells m e options ≡ 0 → PrefixPasses
  unfolding prefix_number
  prefix-passes q =
      let a = test_zero (leb options 3) (if eqb (map_number cells m) 0 then (if ltb e (count cells) then 0 else 1) else map_number cells m) 12 (λ x. omega arith) q in
      let b = last-zero (map_number cells m) (ltb e (count cells)) a.1 in
      record { known = leb-true options 3 a.0; map = b.0; below = ltb-true e (count cells) b.1 }

  -- the call refuses with another number
  pub prefix-refused : (why : Refusal) → outcome (prefix_number cells m e options) ≡ Err why → (out : List ℕ) → ◌≡◌ {A = Answer} (Err why, out) (prefix_answer cells m e options out)
  unfolding prefix_answer
  prefix-refused why q out = let p = err-refusal (prefix_number cells m e options) why q in rw (p.0) (ap {B = Answer} (λ (x : Refusal). (Err x, out)) p.1)

  -- a check that is done has number 0
  pub prefix-zero : outcome (prefix_number cells m e options) ≡ Ok tt → prefix_number cells m e options ≡ 0
  prefix-zero q = eqb-true (prefix_number cells m e options) 0 (ok-zero (prefix_number cells m e options) q)

  -- its number stands in the table
  pub prefix_number-listed : Listed (prefix_number cells m e options)
  unfolding prefix_number outcome refusal
  prefix_number-listed =
      listed-if (leb options 3) (if eqb (map_number cells m) 0 then (if ltb e (count cells) then 0 else 1) else map_number cells m) 12
      (listed-if (eqb (map_number cells m) 0) (if ltb e (count cells) then 0 else 1) (map_number cells m) (listed-if (ltb e (count cells)) 0 1 refl refl) (map_number-listed cells m)) refl

  -- and answers where it is 0
  pub prefix-answered : prefix_number cells m e options ≡ 0 → (out : List ℕ) → walk_answer (prefix_orderings (decode m) (e * 4 + options)) out ≡ prefix_answer cells m e options out
  unfolding prefix_answer
  prefix-answered q out = rw q

-- a map and keys
module _ (cells : List ℕ) (m : DependencyMap) (numbers : List ℕ) where
  -- a map and keys that pass
  pub record GeneratePasses : Type 0 where
    pub known : options_known numbers ≡ true
    pub map : map_number cells m ≡ 0
    pub below : Below numbers (count cells) ≡ true

  -- 0 is the number of such alone
  pub generate_passes : generate_number cells m numbers ≡ 0 → GeneratePasses
  unfolding generate_number
  generate_passes q =
      let tail : ℕ = if eqb (map_number cells m) 0 then (if Below numbers (count cells) then 0 else 1) else map_number cells m in
      let a = test_zero (options_known numbers) (if none_cut numbers then tail else 11) 12 (λ x. omega arith) q in
      let b = test_zero (none_cut numbers) tail 11 (λ x. omega arith) a.1 in
      let c = last-zero (map_number cells m) (Below numbers (count cells)) b.1 in
      record { known = a.0; map = c.0; below = c.1 }

  -- the call refuses with another number
  pub generate_refused : (why : Refusal) → outcome (generate_number cells m numbers) ≡ Err why → (out : List ℕ) → ◌≡◌ {A = Answer} (Err why, out) (generate_answer cells m numbers out)
  unfolding generate_answer
  generate_refused why q out = let p = err-refusal (generate_number cells m numbers) why q in rw (p.0) (ap {B = Answer} (λ (x : Refusal). (Err x, out)) p.1)

  -- a check that is done has number 0
  pub generate_zero : outcome (generate_number cells m numbers) ≡ Ok tt → generate_number cells m numbers ≡ 0
  generate_zero q = eqb-true (generate_number cells m numbers) 0 (ok-zero (generate_number cells m numbers) q)

  -- its number stands in the table
  pub generate_number-listed : Listed (generate_number cells m numbers)
  unfolding generate_number outcome refusal
  generate_number-listed =
      let tail : ℕ = if eqb (map_number cells m) 0 then (if Below numbers (count cells) then 0 else 1) else map_number cells m in
      listed-if (options_known numbers) (if none_cut numbers then tail else 11) 12
      (listed-if (none_cut numbers) tail 11
      (listed-if (eqb (map_number cells m) 0) (if Below numbers (count cells) then 0 else 1) (map_number cells m) (listed-if (Below numbers (count cells)) 0 1 refl refl) (map_number-listed cells m)) refl) refl

  -- and answers where it is 0
  pub generate_answered : generate_number cells m numbers ≡ 0 → (out : List ℕ) → gathered_answer (contributing (decode m) (different numbers)) (length (different numbers)) out ≡ generate_answer cells m numbers out
  unfolding generate_answer
  generate_answered q out = rw q

-- a map and an arena that pass
module _ (cells : List ℕ) (m : DependencyMap) (z : map_number cells m ≡ 0) where
  -- the map is held
  pub map-held : Sized m → Held m
  map-held s = held-lawful m s (number-lawful cells m z)

  -- the arena has at most 1,024 nodes
  pub nodes-few : count cells ≤ 1024
  nodes-few = (lawful-holds cells (number-arena cells m z)).few

  -- keys that pass fit
  pub keys-fit : (numbers : List ℕ) → GeneratePasses cells m numbers → KeysFit numbers
  keys-fit numbers p =
      let k = keys-known numbers (count cells) p.known p.below in
      record { exprs = λ i l. omega (arith, k.below i l, nodes-few); options = k.options }
