-- The joined ordering of all orderings, as the code makes it: what only grows, the answer, and the loop.
use Prim.Native.Nat.{ℕ, ◌+◌, ◌<◌, ◌≤◌}
use mathlib.Core.List.{List, [], ◌∷◌}
use mathlib.Core.Path.{◌≡◌, sym, ap, ◌∙◌, subst}
use native.Mathlib.Numerals.{add-one}
use native.Mathlib.Omega.{arith}
use borrow.Author.Tests.{le-leb, lt-leb}
use lib.ListN.{length, drop, drop_of_length-le}
use lib.Seq.{drop-cons}
use Rattle.orderings.specs.Ordering.{extended}
use Rattle.orderings.specs.Lists.{ordering_at, extended_all, output_ordering}
use Rattle.orderings.specs.Layout.{row, keys_of, decode}
use Rattle.ordering_joins.specs.Calls.{output_of}
use Rattle.orderings.specs.Inner.{Held, ShortOrdering, extended_of}
use Rattle.ordering_joins.specs.Inner.{Collecting}
use Rattle.orderings.specs.declared.Ordering.{Ordering}
use Rattle.orderings.specs.declared.Orderings.{Orderings}
use Rattle.std.specs.Prelude.{Ok, Err}
use Rattle.arena.specs.declared.Refusal.{Refusal}
use Rattle.arena.specs.declared.Refusal.TheVariants.{TooLarge}
use Rattle.orderings.proofs.Codec.{keys-row, length-decode, place_in, place-keys}
use Rattle.orderings.proofs.Extending.{extended-grows, short-size, row-short, fitting, unfitting}

-- extending by all of a list only grows
pub extended_all-grows : (o : List ℕ) (ps : List (List ℕ)) → length o ≤ length (extended_all o ps)
unfolding extended_all
extended_all-grows o [] = omega arith
extended_all-grows o (p ∷ ps) = omega (arith, extended-grows o p, extended_all-grows (extended o p) ps)

-- extending by each of a list, from a place on
all-step : (o : List ℕ) (ps : List (List ℕ)) (i : ℕ) → i < length ps → extended_all o (drop i ps) ≡ extended_all (extended o (ordering_at ps i)) (drop (i + 1) ps)
unfolding extended_all
all-step o ps i l = rw (drop-cons ps i [] l, add-one i)

all_done : (o : List ℕ) (ps : List (List ℕ)) (i : ℕ) → length ps ≤ i → extended_all o (drop i ps) ≡ o
unfolding extended_all
all_done o ps i l = rw (drop_of_length-le ps l)

-- the answer where the joined ordering fits, and where it does not
output-here : (ks : List ℕ) → length ks ≤ 16 → output_of ks ≡ Ok (row ks)
unfolding output_of
output-here ks l = rw (le-leb (length ks) 16 l)

output-not : (ks : List ℕ) → 16 < length ks → output_of ks ≡ Err TooLarge
unfolding output_of
output-not ks l = rw (lt-leb (length ks) 16 l)

-- the joined ordering of all: the loop begins, goes on, stops, and ends
module _ (g : Orderings) (h : Held g) where
  pub collecting_begins : Collecting g 0 (row [])
  unfolding output_ordering
  collecting_begins = record { below = omega arith; short = row-short [] (omega arith); goes = ap (λ (z : List ℕ). extended_all z (decode g)) (sym (keys-row [])) }

  module _ (i : ℕ) (out : Ordering) (x : Collecting g i out) where
    module _ (l : i < g.count) where
      abbrev new : List ℕ
      new = extended (keys_of out) (keys_of (place_in g i))

      joined : output_ordering (decode g) ≡ extended_all new (drop (i + 1) (decode g))
      joined =
          x.goes ∙ all-step (keys_of out) (decode g) i (omega (arith, length-decode g))
          ∙ ap (λ (z : List ℕ). extended_all (extended (keys_of out) z) (drop (i + 1) (decode g))) (sym (place-keys g h i l))

      pub collecting_on : (more : Ordering) → Ok more ≡ extended_of new → Collecting g (i + 1) more
      collecting_on more q =
          let f = fitting new more q in
          record {
            below = omega arith;
            short = subst ShortOrdering (sym f.is) (row-short new f.few);
            goes = joined ∙ ap (λ (z : List ℕ). extended_all z (drop (i + 1) (decode g))) (sym (ap keys_of f.is ∙ keys-row new));
          }

      pub collecting_stops : (e : Refusal) → Err e ≡ extended_of new → Err e ≡ output_of (output_ordering (decode g))
      collecting_stops e q =
          let a = unfitting new e q in
          let b = ap (λ (z : List ℕ). length z) joined in
          ap Err a.1 ∙ sym (output-not (output_ordering (decode g)) (omega (arith, a.0, extended_all-grows new (drop (i + 1) (decode g)))))

    pub collecting_ends : g.count ≤ i → Ok out ≡ output_of (output_ordering (decode g))
    collecting_ends l =
        sym (ap output_of (x.goes ∙ all_done (keys_of out) (decode g) i (omega (arith, length-decode g)))
        ∙ output-here (keys_of out) (short-size out x.short) ∙ ap Ok x.short.coded)
