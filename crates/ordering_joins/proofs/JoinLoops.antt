-- Joining as the code does it: the two loops.
use Prim.Native.Nat.{ℕ, ◌+◌, ◌*◌, ◌<◌, ◌≤◌}
use mathlib.Core.Bool.{Bool, true, false}
use mathlib.Core.List.{List, [], ◌∷◌, ◌++◌, append-nil, append_assoc}
use mathlib.Core.Path.{◌≡◌, refl, sym, ap, ◌∙◌, subst}
use native.Mathlib.Nat.{mul-le-mul_right}
use native.Mathlib.Omega.{arith}
use lib.ListN.{length, take, drop, length-append}
use lib.Seq.{length-take-le, take_all, get_or-append-add}
use Rattle.orderings.specs.Ordering.{extended}
use Rattle.orderings.specs.Lists.{ordering_at, suffixed, suffixed_all, join_suffix}
use Rattle.orderings.specs.Layout.{keys_of, encode, decode}
use Rattle.orderings.specs.Inner.{Held, Short, extended_of, empties, appended, all_short, made}
use Rattle.ordering_joins.specs.Inner.{made_short, Suffixing, Joined}
use Rattle.orderings.specs.declared.Ordering.{Ordering}
use Rattle.orderings.specs.declared.Orderings.{Orderings}
use Rattle.std.specs.Prelude.{Ok, Err}
use Rattle.arena.specs.declared.Refusal.{Refusal}
use Rattle.arena.specs.declared.Refusal.TheVariants.{TooLarge}
use Rattle.arena.proofs.Refusals.{ok-not-err}
use Rattle.orderings.proofs.Codec.{decode-encode, length-decode, place_in, place-keys}
use Rattle.orderings.proofs.Extending.{fitting, unfitting}
use Rattle.ordering_joins.proofs.Suffixes.{length-suffixed, suffixed-at, suffixed-next, length-suffixed_all, suffixed_all-next, suffixed_all-split, join_suffix-none, join_suffix-some}
use Rattle.orderings.proofs.Appending.{short-test, test_short, long-test, long-append, short-more, appended-is, short-encode, short-all, held_all, made-fits, made-many, made-long}

-- the answers of the function that makes a part of it
module _ (os : List (List ℕ)) where
  short-made : all_short os ≡ true → made_short os ≡ Ok (encode os)
  unfolding made_short
  short-made e = rw e

  short-not : all_short os ≡ false → made_short os ≡ Err TooLarge
  unfolding made_short
  short-not e = rw e

  -- what an answer says of the list
  some_made : (list : Orderings) → Ok list ≡ made_short os → (all_short os ≡ true) × (list ≡ encode os)
  some_made list q = go (all_short os) refl
    where
      go : (b : Bool) → all_short os ≡ b → (all_short os ≡ true) × (list ≡ encode os)
      go true s = let e : Ok list ≡ Ok (encode os) = q ∙ short-made s in (s, cc)
      go false s = absurd (ok-not-err (q ∙ short-not s))

  none_made : (e : Refusal) → Err e ≡ made_short os → (all_short os ≡ false) × (e ≡ TooLarge)
  none_made e q = go (all_short os) refl
    where
      go : (b : Bool) → all_short os ≡ b → (all_short os ≡ false) × (e ≡ TooLarge)
      go true s = absurd (ok-not-err (sym (q ∙ short-made s)))
      go false s = let p : Err e ≡ Err TooLarge = q ∙ short-not s in (s, cc)

-- all orderings of a list, each extended by one, at the end of another list: the loop begins, goes on, stops, and ends
module _ (out g : Orderings) (p : Ordering) (o : Short out) (h : Held g) where
  pub suffixing_begins : Suffixing out g p 0 out
  unfolding suffixed
  suffixing_begins = record { below = omega arith; short = o; made = sym (append-nil (decode out)) }

  module _ (i : ℕ) (list : Orderings) (x : Suffixing out g p i list) where
    count-is : list.count ≡ out.count + i
    count-is =
        let e = ap (λ (t : List (List ℕ)). length t) x.made in
        let t = length-take-le i (decode g) (omega (arith, length-decode g, x.below)) in
        omega (arith, length-decode list, length-decode out, length-append (decode out) (suffixed (take i (decode g)) (keys_of p)), length-suffixed (take i (decode g)) (keys_of p))

    pub suffixing_room : i < g.count → out.count + g.count ≤ 32 → list.count < 32
    suffixing_room l b = omega (arith, count-is)

    module _ (l : i < g.count) where
      by_place : extended_of (extended (keys_of (place_in g i)) (keys_of p)) ≡ extended_of (extended (ordering_at (decode g) i) (keys_of p))
      by_place = ap (λ (t : List ℕ). extended_of (extended t (keys_of p))) (place-keys g h i l)

      pub suffixing_on : out.count + g.count ≤ 32 → (one : Ordering) → Ok one ≡ extended_of (extended (keys_of (place_in g i)) (keys_of p)) → (r : Orderings) → r ≡ appended list one → Suffixing out g p (i + 1) r
      suffixing_on b one q r z =
          let f = fitting (extended (ordering_at (decode g) i) (keys_of p)) one (q ∙ by_place) in
          let new = extended (ordering_at (decode g) i) (keys_of p) in
          let more : List (List ℕ) = decode list ++ (new ∷ []) in
          let c = suffixing_room l b in
          subst (λ (y : Orderings). Suffixing out g p (i + 1) y)
          (sym (z ∙ ap (appended list) f.is ∙ appended-is list new x.short c)) (record {
            below = omega arith;
            short = short-encode more (omega (arith, length-append (decode list) (new ∷ []), length-decode list)) (short-more (decode list) new (short-all list x.short) f.few);
            made =
                decode-encode more ∙ ap (λ (y : List (List ℕ)). y ++ (new ∷ [])) x.made
                ∙ append_assoc (decode out) (suffixed (take i (decode g)) (keys_of p)) (new ∷ [])
                ∙ ap (λ (y : List (List ℕ)). decode out ++ y) (sym (suffixed-next (decode g) (keys_of p) i (omega (arith, length-decode g))));
          })

      pub suffixing_stops : (e : Refusal) → Err e ≡ extended_of (extended (keys_of (place_in g i)) (keys_of p)) → Err e ≡ made_short (decode out ++ suffixed (decode g) (keys_of p))
      suffixing_stops e q =
          let os : List (List ℕ) = suffixed (decode g) (keys_of p) in
          let a = unfitting (extended (ordering_at (decode g) i) (keys_of p)) e (q ∙ by_place) in
          let here = get_or-append-add (decode out) os i [] ∙ suffixed-at (decode g) (keys_of p) i (omega (arith, length-decode g)) in
          let size = ap (λ (y : List ℕ). length y) here in
          ap Err a.1 ∙ sym (short-not (decode out ++ os) (long-test (decode out ++ os) (length (decode out) + i)
          (omega (arith, length-append (decode out) os, length-suffixed (decode g) (keys_of p), length-decode g)) (omega (arith, a.0))))

    pub suffixing_ends : g.count ≤ i → Ok list ≡ made_short (decode out ++ suffixed (decode g) (keys_of p))
    suffixing_ends l =
        let e : decode list ≡ decode out ++ suffixed (decode g) (keys_of p) =
        x.made ∙ ap (λ (y : List (List ℕ)). decode out ++ suffixed y (keys_of p)) (take_all i (decode g) (omega (arith, length-decode g))) in
        sym (ap made_short (sym e) ∙ short-made (decode list) (short-test (decode list) (short-all list x.short)) ∙ ap Ok x.short.coded)

-- joining: an empty other side, too many orderings, and the loop
module _ (g h : Orderings) (a : Held g) (b : Held h) where
  pub join-none : h.count ≡ 0 → Ok g ≡ made (join_suffix (decode g) (decode h))
  join-none z =
      sym (ap made (join_suffix-none (decode g) (decode h) (length-decode h ∙ z))
      ∙ made-fits (decode g) a.good.few (short-test (decode g) (held_all g a)) ∙ ap Ok a.coded)

  pub join-many : (h.count ≡ 0 → ⊥) → 32 < g.count * h.count → Err TooLarge ≡ made (join_suffix (decode g) (decode h))
  join-many n l =
      sym (ap made (join_suffix-some (decode g) (decode h) (omega (arith, length-decode h)))
      ∙ made-many (suffixed_all (decode g) (decode h)) (rw (length-suffixed_all (decode g) (decode h), length-decode g, length-decode h) (omega arith)))

  pub joined-begins : Joined g h 0 empties
  unfolding suffixed_all
  joined-begins = record { below = omega arith; short = short-encode [] (omega arith) (λ i l. absurd (omega arith)); made = decode-encode [] }

  module _ (n : h.count ≡ 0 → ⊥) (m : g.count * h.count ≤ 32) (j : ℕ) (list : Orderings) (x : Joined g h j list) where
    joined-count : list.count ≡ j * g.count
    joined-count =
        sym (length-decode list) ∙ ap (λ (t : List (List ℕ)). length t) x.made ∙ length-suffixed_all (decode g) (take j (decode h))
        ∙ rw (length-take-le j (decode h) (omega (arith, length-decode h, x.below)), length-decode g)

    pub joined-room : j < h.count → list.count + g.count ≤ 32
    joined-room l = let k : j + 1 ≤ h.count = omega arith in omega (arith, joined-count, mul-le-mul_right g.count k)

    module _ (l : j < h.count) where
      more : decode list ++ suffixed (decode g) (keys_of (place_in h j)) ≡ suffixed_all (decode g) (take (j + 1) (decode h))
      more =
          ap (λ (t : List ℕ). decode list ++ suffixed (decode g) t) (place-keys h b j l)
          ∙ ap (λ (t : List (List ℕ)). t ++ suffixed (decode g) (ordering_at (decode h) j)) x.made
          ∙ sym (suffixed_all-next (decode g) (decode h) j (omega (arith, length-decode h)))

      by_next : made_short (decode list ++ suffixed (decode g) (keys_of (place_in h j))) ≡ made_short (suffixed_all (decode g) (take (j + 1) (decode h)))
      by_next = ap made_short more

      pub joined-on : (r : Orderings) → Ok r ≡ made_short (decode list ++ suffixed (decode g) (keys_of (place_in h j))) → Joined g h (j + 1) r
      joined-on r q =
          let os : List (List ℕ) = suffixed_all (decode g) (take (j + 1) (decode h)) in
          let t = some_made os r (q ∙ by_next) in
          let c = ap (λ (y : List (List ℕ)). length y) more in
          subst (λ (y : Orderings). Joined g h (j + 1) y) (sym t.1) (record {
            below = omega arith;
            short = short-encode os (omega (arith, joined-room l, length-decode list, length-decode g, length-append (decode list) (suffixed (decode g) (keys_of (place_in h j))), length-suffixed (decode g) (keys_of (place_in h j)))) (test_short os t.0);
            made = decode-encode os;
          })

      pub joined-stops : (e : Refusal) → Err e ≡ made_short (decode list ++ suffixed (decode g) (keys_of (place_in h j))) → Err e ≡ made (join_suffix (decode g) (decode h))
      joined-stops e q =
          let f = none_made (suffixed_all (decode g) (take (j + 1) (decode h))) e (q ∙ by_next) in
          let w = join_suffix-some (decode g) (decode h) (omega (arith, length-decode h)) ∙ suffixed_all-split (decode g) (decode h) (j + 1) in
          ap Err f.1 ∙ sym (ap made w ∙ made-long (suffixed_all (decode g) (take (j + 1) (decode h)) ++ suffixed_all (decode g) (drop (j + 1) (decode h)))
          (long-append (suffixed_all (decode g) (take (j + 1) (decode h))) (suffixed_all (decode g) (drop (j + 1) (decode h))) f.0))

    pub joined-ends : h.count ≤ j → Ok list ≡ made (join_suffix (decode g) (decode h))
    joined-ends l =
        let e : decode list ≡ join_suffix (decode g) (decode h) =
        x.made ∙ ap (suffixed_all (decode g)) (take_all j (decode h) (omega (arith, length-decode h)))
        ∙ sym (join_suffix-some (decode g) (decode h) (omega (arith, length-decode h))) in
        sym (ap made (sym e) ∙ made-fits (decode list) (omega (arith, length-decode list, x.short.few)) (short-test (decode list) (short-all list x.short)) ∙ ap Ok x.short.coded)
