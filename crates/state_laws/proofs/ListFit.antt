-- A list of orderings that a call hands back, unless it is refused, fits its cells; so do a joined ordering and sorted keys.
use Rattle.std.specs.Prelude.{if◌then◌else◌, Option, Ok, Err}
use Prim.Native.Nat.{ℕ, zero, suc, ◌+◌, ◌*◌, ◌<◌, ◌≤◌}
use mathlib.Core.Bool.{Bool, true, false, ◌&&◌}
use mathlib.Core.List.{List, [], ◌∷◌, ◌++◌}
use mathlib.Core.Path.{◌≡◌, refl, sym, ap, ◌∙◌, subst}
use native.Mathlib.Decide.{dec_lt}
use native.Mathlib.Omega.{arith}
use borrow.Author.Tests.{eqb-true, leb-true}
use lib.Dec.{eqb, ltb, leb}
use lib.IntN.{ℤ}
use lib.ListN.{length, get_or, get_or-eq_default}
use lib.Seq.{length-take-le}
use Rattle.laws.specs.Tests.{each}
use Rattle.laws.proofs.Booleans.{and_right}
use Rattle.laws.proofs.Table.{get_or-table}
use Rattle.arena.specs.Node.{Node}
use Rattle.arena.specs.declared.Refusal.{Refusal}
use Rattle.arena.specs.declared.Refusal.TheVariants.{UnknownExpression, ArenaFull, TooLarge, IndexOutOfRange}
use Rattle.arena.specs.Refusals.{refusal}
use Rattle.arena.proofs.Refusals.{ok-not-err}
use Rattle.arena.specs.Expression.{expression_at}
use Rattle.arena.specs.Arena.{Placed, placed, full, add_expression}
use Rattle.shifting.specs.Shift.{moved, shifted}
use Rattle.arena.specs.Layout.{count, lawful, decode as nodes}
use Rattle.arena.specs.Calls.{in_cells}
use Rattle.arena.proofs.Growing.{between}
use Rattle.classes.specs.Class.{Class}
use Rattle.classes.specs.Layout.{decode as classes}
use Rattle.classes.specs.declared.Group.{Group}
use Rattle.merging_laws.proofs.JoinLaws.{number-positive}
use Rattle.orderings.specs.Ordering.{expr_of, options_of, same_key, built}
use Rattle.orderings.specs.Lists.{ordering_at, output_ordering, built_all, join_suffix}
use Rattle.orderings.specs.Layout.{row, keys_of as keys_in, encode, decode, place_in, lawful_list, keys_inside}
use Rattle.orderings.specs.Calls.{list_number, two_number, fits, ask_list, listed, clear_answer}
use Rattle.orderings.specs.declared.Ordering.{Ordering}
use Rattle.orderings.specs.declared.Orderings.{Orderings}
use Rattle.orderings.specs.declared.Listed.{Listed}
use Rattle.orderings.proofs.Codec.{size_is, place-encode, length-decode}
use Rattle.orderings.proofs.OneOrdering.{built-fewer}
use Rattle.orderings.proofs.Appending.{AllShort, told}
use Rattle.orderings.proofs.ListChecks.{lawful-count, lawful-size}
use Rattle.reduction.specs.Fewer.{length-shortened, length_removed}
use Rattle.reduction.specs.Reduction.{reduced}
use Rattle.reduction.specs.Lent.{lists_lent}
use Rattle.reduction.specs.Calls.{reduced_list, lent_number, add_answer, new_answer, extend_number, extend_answer}
use Rattle.reduction.proofs.Kept.{Cuts, begun, cut, gone, reduced-cuts}
use Rattle.reduction.proofs.Adding.{fits-few, fits-short}
use Rattle.ordering_joins.specs.Offset.{lists_move, shifted_keys, shifted_lists}
use Rattle.ordering_joins.specs.Calls.{output_of, output_answer, join_answer, offset_by, offset_list, offset_answer}
use Rattle.ordering_joins.proofs.Offsets.{after_key, after_ordering}
use Rattle.ordering_laws.proofs.Reduces.{cuts-each}
use Rattle.normal.specs.Calls.{normal_forms, on_checked}
use Rattle.sort_keys.specs.Keys.{Key, exprs_of, with_exprs, orders_nothing, sorting}
use Rattle.sort_keys.specs.Layout.{keys_of, sorted}
use Rattle.sort_keys.specs.Calls.{SortedIs, sorted_by, normalize_sort_exprs, keys_number, normalized_keys}
use Rattle.sort_keys.specs.declared.Sorted.{Sorted}
use Rattle.sort_keys.proofs.KeyLaws.{with-fewer}
use Rattle.states.specs.Inner.{ListFits, ListFitsIfDone}

-- an ordering of at most 16 keys fits
row_fits : (o : List ℕ) → length o ≤ 16 → (row o).size < 65536
unfolding row
row_fits o l = omega arith

-- as many orderings as there are
count-encode : (os : List (List ℕ)) → (encode os).count ≡ length os
unfolding encode
count-encode os = refl

-- the layout of at most 32 orderings of at most 16 keys fits
pub encode-fits : (os : List (List ℕ)) → length os ≤ 32 → ((i : ℕ) → i < length os → length (ordering_at os i) ≤ 16) → ListFits (encode os)
encode-fits os few short = record { count = counted; sizes = λ i. size i (dec_lt i (length os)) }
  where
    counted : (encode os).count < 65536
    counted = omega (arith, count-encode os)

    at : (i : ℕ) → length (ordering_at os i) ≤ 16 → (place_in (encode os) i).size < 65536
    at i b = subst (λ (r : Ordering). r.size < 65536) (sym (place-encode os i)) (row_fits (ordering_at os i) b)

    size : (i : ℕ) → Dec (i < length os) → (place_in (encode os) i).size < 65536
    size i (yes l) = at i (short i l)
    size i (no l) = at i (subst (λ (o : List ℕ). length o ≤ 16) (sym (get_or-eq_default os [] {n = i} (omega arith))) (omega arith))

-- no orderings fit
none-fits : ListFits (encode [])
none-fits = encode-fits [] (omega arith) (λ i l. absurd (omega arith))

-- a list that is handed back after a test, else 5
tested-fits : (b : Bool) (os : List (List ℕ)) (g : Orderings) → (b ≡ true → ListFits (encode os)) → ListFitsIfDone (if b then told (Ok tt) (encode os) else told (Err TooLarge) g)
tested-fits true os g f e = f refl
tested-fits false os g f e = absurd (omega arith)

-- the answer of a call after a check that told k
checked-fits : (k : ℕ) (r : Listed) (g : Orderings) → (k ≡ 0 → ListFitsIfDone r) → ListFitsIfDone (if eqb k 0 then r else told (Err (refusal k)) g)
checked-fits k r g f = go (eqb k 0) refl
  where
    go : (b : Bool) → eqb k 0 ≡ b → ListFitsIfDone (if b then r else told (Err (refusal k)) g)
    go true q = f (eqb-true k 0 q)
    go false q = λ e. absurd (omega (arith, number-positive (refusal k)))

-- clearing
pub clear-fits : (cells : List ℕ) (g : Orderings) → ListFitsIfDone (clear_answer cells g)
unfolding clear_answer ask_list
clear-fits cells g = checked-fits (list_number cells g) (told (Ok tt) (encode [])) g (λ z e. none-fits)

-- a list that was made and is not too large
listed-fits : (g : Orderings) (os : List (List ℕ)) → ListFitsIfDone (listed g os)
unfolding listed
listed-fits g os = tested-fits (fits os) os g (λ f. encode-fits os (fits-few os f) (fits-short os f))

-- cuts leave no more orderings
cuts-fewer : {m : ℕ → ℕ → Bool} {os ps : List (List ℕ)} {c : ℕ} → Cuts m os ps c → length ps ≤ length os
cuts-fewer begun = omega arith
cuts-fewer (cut {ps} t i j n o l) = omega (arith, cuts-fewer t, length-shortened ps i n)
cuts-fewer (gone {ps} t i j n o e) = omega (arith, cuts-fewer t, length_removed ps i)

-- a list that fits, reduced
reduced-fits : (os : List (List ℕ)) → fits os ≡ true → ListFits (encode (reduced same_key os).orderings)
reduced-fits os f =
    let t = reduced-cuts same_key os in
    encode-fits (reduced same_key os).orderings (omega (arith, cuts-fewer t, fits-few os f))
    (cuts-each same_key (λ (o : List ℕ). length o ≤ 16) (λ o n h a b. omega (arith, length-take-le n o b)) t (fits-short os f))

-- a list that was made and reduced
pub reduced_list-fits : (g : Orderings) (os : List (List ℕ)) → ListFitsIfDone (reduced_list g os)
unfolding reduced_list
reduced_list-fits g os = tested-fits (fits os) (reduced same_key os).orderings g (reduced-fits os)

-- adding
pub add-fits : (cells : List ℕ) (g : Orderings) (numbers : List ℕ) → ListFitsIfDone (add_answer cells g numbers)
unfolding add_answer
add-fits cells g numbers =
    let os = decode g ++ built_all (lists_lent numbers) in
    checked-fits (lent_number cells g numbers) (reduced_list g os) g (λ z. reduced_list-fits g os)

-- a new list
pub new-fits : (cells numbers : List ℕ) → ListFitsIfDone (new_answer cells numbers)
new-fits cells numbers = add-fits cells (encode []) numbers

-- extending
pub extend_fits : (cells : List ℕ) (g : Orderings) (numbers : List ℕ) → ListFitsIfDone (extend_answer cells g numbers)
unfolding extend_answer
extend_fits cells g numbers =
    let os = decode g ++ lists_lent numbers in
    checked-fits (extend_number cells g numbers) (reduced_list g os) g (λ z. reduced_list-fits g os)

-- joining
pub suffix-fits : (cells : List ℕ) (g h : Orderings) → ListFitsIfDone (join_answer cells g h)
unfolding join_answer
suffix-fits cells g h =
    let os = join_suffix (decode g) (decode h) in
    checked-fits (two_number cells g h) (listed g os) g (λ z. listed-fits g os)

-- one ordering before others
cons-short : (o : List ℕ) (os : List (List ℕ)) → length o ≤ 16 → AllShort os → AllShort (o ∷ os)
cons-short o os b h zero l = b
cons-short o os b h (suc i) l = h i (omega arith)

-- shifting keeps how many keys and orderings there are, but for keys that become the same
module _ (to : ℕ → Option ℕ) (ns : List Node) where
  -- as many keys
  keys-counted : (ks : List ℕ) (ms : List Node) (js : List ℕ) (ps : List Node) → shifted_keys to ns ks ms ≡ placed js ps → length js ≡ length ks
  unfolding shifted_keys
  keys-counted [] ms js ps e = let p : ◌≡◌ {A = List ℕ} [] js = cc in ap (λ (l : List ℕ). length l) (sym p)
  keys-counted (k ∷ ks) ms js ps e =
      let b = between (add_expression (shifted to (expression_at ns (expr_of k))) ms) (after_key to ns k ks) js ps e in
      let c = between (shifted_keys to ns ks b.arena) (λ rest qs. placed ((b.answer * 4 + options_of k) ∷ rest) qs) js ps b.then in
      let t : placed ((b.answer * 4 + options_of k) ∷ c.answer) c.arena ≡ placed js ps = c.then in
      let p : (b.answer * 4 + options_of k) ∷ c.answer ≡ js = cc t in
      ap (λ (l : List ℕ). length l) (sym p) ∙ ap suc (keys-counted ks b.arena c.answer c.arena c.first)

  -- as many orderings, none of which is longer
  lists-fit : (os : List (List ℕ)) → AllShort os → (ms : List Node) (qs : List (List ℕ)) (ps : List Node) → shifted_lists to ns os ms ≡ placed qs ps → (length qs ≡ length os) × AllShort qs
  unfolding shifted_lists
  lists-fit [] h ms qs ps e =
      let p : ◌≡◌ {A = List (List ℕ)} [] qs = cc in
      subst (λ (l : List (List ℕ)). (length l ≡ 0) × AllShort l) p (refl, λ i l. absurd (omega arith))
  lists-fit (o ∷ os) h ms qs ps e =
      let b = between (shifted_keys to ns o ms) (λ ks ts. after_ordering to ns os (built ks) ts) qs ps e in
      let c = between (shifted_lists to ns os b.arena) (λ rest ts. placed (built b.answer ∷ rest) ts) qs ps b.then in
      let t : placed (built b.answer ∷ c.answer) c.arena ≡ placed qs ps = c.then in
      let p : built b.answer ∷ c.answer ≡ qs = cc t in
      let r = lists-fit os (λ i l. h (suc i) (omega arith)) b.arena c.answer c.arena c.first in
      let n = keys-counted o ms b.answer b.arena b.first in
      subst (λ (l : List (List ℕ)). (length l ≡ length (o ∷ os)) × AllShort l) p
      (ap suc r.0, cons-short (built b.answer) c.answer (omega (arith, n, h 0 (omega arith), built-fewer b.answer)) r.1)

-- a number that is 0 comes after a test that passed
passed_first : (a b : Bool) → ◌≡◌ {A = ℕ} (if a then (if b then 0 else 1) else 11) 0 → a ≡ true
passed_first true b e = refl
passed_first false b e = absurd (omega arith)

-- a list that passes the check has at most 32 orderings of at most 16 keys
module _ (cells : List ℕ) (g : Orderings) (z : list_number cells g ≡ 0) where
  -- it is lawful
  passed-lawful : lawful_list g ≡ true
  unfolding list_number
  passed-lawful = and_right (lawful cells) (lawful_list g) (passed_first (lawful cells && lawful_list g) (keys_inside (count cells) g) z)

  -- so none of its orderings has more than 16 keys
  passed-short : AllShort (decode g)
  unfolding decode
  passed-short i l =
      let b : i < g.count = omega (arith, length-decode g) in
      let e = get_or-table (λ j. keys_in (place_in g j)) g.count i [] b in
      let n = ap (λ (o : List ℕ). length o) e ∙ size_is (place_in g i) in
      omega (arith, n, lawful-size g passed-lawful i b)

-- shifting
pub offset_fits : (offset : ℤ) (cells : List ℕ) (g : Orderings) → ListFitsIfDone (offset_answer offset cells g).0
unfolding offset_answer in_cells offset_list offset_by
offset_fits offset cells g = go (eqb (list_number cells g) 0) refl (lists_move (moved offset) (nodes cells) (decode g))
  where
    made : Placed (List (List ℕ))
    made = shifted_lists (moved offset) (nodes cells) (decode g) (nodes cells)

    by : list_number cells g ≡ 0 → (p : Placed (List (List ℕ))) → made ≡ p → ListFitsIfDone (offset_by g (nodes cells) p).0
    by z (placed os ms) q e =
        let w = lists-fit (moved offset) (nodes cells) (decode g) (passed-short cells g z) (nodes cells) os ms q in
        encode-fits os (omega (arith, w.0, length-decode g, lawful-count g (passed-lawful cells g z))) w.1
    by z full q e = absurd (omega arith)

    go : (p : Bool) → eqb (list_number cells g) 0 ≡ p → (b : Bool)
        → ListFitsIfDone (if p then in_cells (if b then offset_by g (nodes cells) made else (told (Err IndexOutOfRange) g, nodes cells)) else (told (Err (refusal (list_number cells g))) g, cells)).0
    go true q true = by (eqb-true (list_number cells g) 0 q) made refl
    go true q false = λ e. absurd (omega arith)
    go false q b = λ e. absurd (omega (arith, number-positive (refusal (list_number cells g))))

-- a joined ordering fits
pub output-fits : (cells : List ℕ) (g : Orderings) (o : Ordering) → output_answer cells g ≡ Ok o → o.size < 65536
unfolding ask_list output_of
output-fits cells g = go (eqb (list_number cells g) 0) (leb (length joined) 16) refl
  where
    joined : List ℕ
    joined = output_ordering (decode g)

    go : (p q : Bool) → leb (length joined) 16 ≡ q → (o : Ordering) → (if p then (if q then Ok (row joined) else Err TooLarge) else Err (refusal (list_number cells g))) ≡ Ok o → o.size < 65536
    go true true t o e = let z : row joined ≡ o = cc in subst (λ (x : Ordering). x.size < 65536) z (row_fits joined (leb-true (length joined) 16 t))
    go true false t o e = absurd (ok-not-err (sym e))
    go false q t o e = absurd (ok-not-err (sym e))

-- keys that are handed back have the size of their list
sorted-size : (ks : List Key) → length ks ≤ 16 → (sorted ks).size < 65536
unfolding sorted
sorted-size ks l = omega arith

-- sorting keeps at most as many keys
sorting-fewer : (ns : List Node) (cs : List Class) (ks : List Key) → length (sorting ns cs ks) ≤ length ks
unfolding sorting
sorting-fewer ns cs [] = omega arith
sorting-fewer ns cs (k ∷ ks) = go (orders_nothing ns cs k) (sorting-fewer ns cs ks)
  where
    go : (b : Bool) → length (sorting ns cs ks) ≤ length ks → length (if b then sorting ns cs ks else k ∷ sorting ns cs ks) ≤ length (k ∷ ks)
    go true h = omega arith
    go false h = omega arith

-- keys fit, where there are any
abbrev KeysFit : SortedIs → Type 0
KeysFit a = (s : Sorted) → a ≡ Ok s → s.size < 65536

none-sorted : (r : Refusal) → KeysFit (Err r)
none-sorted r s e = absurd (ok-not-err (sym e))

-- sorted keys fit
module _ (ks : List Key) (ns : List Node) (cs : List Class) where
  -- after their normal forms were placed
  sorted_by-fits : (p : Placed (List ℕ)) → KeysFit (sorted_by ks ns cs p).0
  unfolding sorted_by
  sorted_by-fits (placed es ms) = go (leb (length ks) 16) refl
    where
      made : List Key
      made = sorting ms cs (with_exprs es ks)

      by : Bool → SortedIs × List Node
      by b = if b then (Ok (sorted made), ms) else (Err TooLarge, ns)

      go : (b : Bool) → leb (length ks) 16 ≡ b → KeysFit (by b).0
      go true t s e =
          let z : sorted made ≡ s = cc in
          subst (λ (x : Sorted). x.size < 65536) z
          (sorted-size made (omega (arith, sorting-fewer ms cs (with_exprs es ks), with-fewer es ks, leb-true (length ks) 16 t)))
      go false t s e = none-sorted TooLarge s e
  sorted_by-fits full = none-sorted ArenaFull

  -- after their expressions were looked at
  sort_fits : KeysFit (normalize_sort_exprs ks ns cs).0
  unfolding normalize_sort_exprs
  sort_fits = go (each (λ k. ltb (get_or (exprs_of ks) k 0) (length ns)) (length ks))
    where
      go : (b : Bool) → KeysFit (if b then sorted_by ks ns cs (normal_forms ns cs (exprs_of ks)) else (Err UnknownExpression, ns)).0
      go true = sorted_by-fits (normal_forms ns cs (exprs_of ks))
      go false = none-sorted UnknownExpression

-- on lent cells and a lent group
pub sorted-fits : (numbers cells : List ℕ) (g : Group) (s : Sorted) → (normalized_keys numbers cells g).0 ≡ Ok s → s.size < 65536
unfolding on_checked in_cells
sorted-fits numbers cells g = go (eqb (keys_number numbers cells g) 0)
  where
    go : (b : Bool) → KeysFit (if b then in_cells (normalize_sort_exprs (keys_of numbers) (nodes cells) (classes g)) else (Err (refusal (keys_number numbers cells g)), cells)).0
    go true = sort_fits (keys_of numbers) (nodes cells) (classes g)
    go false = none-sorted (refusal (keys_number numbers cells g))
