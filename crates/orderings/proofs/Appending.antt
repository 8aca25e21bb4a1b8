-- Lists with more orderings at their end: what holds of each, orderings of at most 16 keys, the struct with one more, and what a call that makes a list answers.
use Rattle.std.specs.Prelude.{if◌then◌else◌, Result, Ok, Err}
use Rattle.arena.specs.declared.Refusal.{Refusal}
use Rattle.arena.specs.declared.Refusal.TheVariants.{TooLarge}
use Prim.Native.Nat.{ℕ, suc, ◌+◌, ◌-◌, ◌<◌, ◌≤◌, zero}
use mathlib.Core.Bool.{Bool, true, false, ◌&&◌}
use mathlib.Core.List.{List, [], ◌∷◌, ◌++◌, map, map-append}
use mathlib.Core.Path.{◌≡◌, refl, sym, ap, ◌∙◌, subst}
use native.Mathlib.Omega.{arith}
use borrow.Author.Tests.{le-leb, lt-leb, leb-true}
use lib.Dec.{leb}
use lib.ListN.{length, set, replicate, length-append, length-map, get_or-append}
use lib.Seq.{set_at, append_snoc, get_or_at}
use Rattle.laws.specs.Tests.{each}
use Rattle.orderings.specs.Lists.{ordering_at}
use Rattle.orderings.specs.Layout.{row, encode, decode}
use Rattle.orderings.specs.Calls.{fits, listed}
use Rattle.orderings.specs.Inner.{Held, Short, appended, all_short, made}
use Rattle.orderings.specs.declared.Ordering.{Ordering}
use Rattle.orderings.specs.declared.Orderings.{Orderings}
use Rattle.orderings.specs.declared.Listed.{Listed}
use Rattle.orderings.proofs.Codec.{decode-encode, length-decode}
use native.Mathlib.Decide.{ℕ_discrete}
use Rattle.laws.proofs.Booleans.{true_not_false}
use Rattle.arena.proofs.Refusals.{ok-not-err}
use Rattle.laws.proofs.Each.{each_all, each_holds, each_fails}

-- what holds of each of two lists holds of each of both
pub append-all : (P : List ℕ → Type 0) (ps qs : List (List ℕ)) → ((i : ℕ) → i < length ps → P (ordering_at ps i)) → ((i : ℕ) → i < length qs → P (ordering_at qs i))
    → (i : ℕ) → i < length (ps ++ qs) → P (ordering_at (ps ++ qs) i)
append-all P [] qs v w i l = w i l
append-all P (p ∷ ps) qs v w zero l = v 0 (omega arith)
append-all P (p ∷ ps) qs v w (suc i) l = append-all P ps qs (λ j b. v (suc j) (omega arith)) w i (omega arith)

-- each of a list has at most 16 keys
abbrev pub AllShort : List (List ℕ) → Type 0
AllShort os = (i : ℕ) → i < length os → length (ordering_at os i) ≤ 16

pub short-test : (os : List (List ℕ)) → AllShort os → all_short os ≡ true
unfolding all_short
short-test os h = each_all (λ i. leb (length (ordering_at os i)) 16) (length os) (λ i l. le-leb (length (ordering_at os i)) 16 (h i l))

pub test_short : (os : List (List ℕ)) → all_short os ≡ true → AllShort os
unfolding all_short
test_short os e i l = leb-true (length (ordering_at os i)) 16 (each_holds (λ i. leb (length (ordering_at os i)) 16) (length os) i e l)

-- one that has more
pub long-test : (os : List (List ℕ)) (i : ℕ) → i < length os → 16 < length (ordering_at os i) → all_short os ≡ false
unfolding all_short
long-test os i l b = each_fails (λ i. leb (length (ordering_at os i)) 16) (length os) i l (lt-leb (length (ordering_at os i)) 16 b)

-- what is too long stays so where more is put after it
pub long-append : (os ps : List (List ℕ)) → all_short os ≡ false → all_short (os ++ ps) ≡ false
long-append os ps f = go (all_short (os ++ ps)) refl
  where
    left : AllShort (os ++ ps) → AllShort os
    left h i l =
        let e = ap (λ (o : List ℕ). length o) (get_or-append os ps [] i l) in
        omega (arith, h i (omega (arith, length-append os ps)))

    go : (b : Bool) → all_short (os ++ ps) ≡ b → all_short (os ++ ps) ≡ false
    go true e = absurd (true_not_false (short-test os (left (test_short (os ++ ps) e))) f)
    go false e = e

-- one ordering more
pub short-more : (os : List (List ℕ)) (o : List ℕ) → AllShort os → length o ≤ 16 → AllShort (os ++ (o ∷ []))
short-more os o h b i l = at (ℕ_discrete i (length os))
  where
    at : Dec (i ≡ length os) → length (ordering_at (os ++ (o ∷ [])) i) ≤ 16
    at (yes e) = rw (get_or_at os o [] [] i (sym e)) b
    at (no e) = let k : i < length os = omega (arith, length-append os (o ∷ [])) in rw (get_or-append os (o ∷ []) [] i k) (h i k)

-- one ordering more
encode-more : (os : List (List ℕ)) (o : List ℕ) → length os < 32 → appended (encode os) (row o) ≡ encode (os ++ (o ∷ []))
unfolding appended encode
encode-more os o l = λ t. record { count = same t; list = moved t }
  where
    same : length os + 1 ≡ length (os ++ (o ∷ []))
    same = omega (arith, length-append os (o ∷ []))

    rest : List Ordering
    rest = replicate (32 - length (os ++ (o ∷ []))) (row [])

    moved : set (map row os ++ replicate (32 - length os) (row [])) (length os) (row o) ≡ map row (os ++ (o ∷ [])) ++ replicate (32 - length (os ++ (o ∷ []))) (row [])
    moved =
        let e : 32 - length os ≡ suc (32 - length (os ++ (o ∷ []))) = omega (arith, length-append os (o ∷ [])) in
        rw e (set_at (map row os) (row []) rest (row o) (length os) (length-map os row) ∙ sym (append_snoc (map row os) (row o) rest)
        ∙ ap (λ (t : List Ordering). t ++ rest) (sym (map-append row os (o ∷ []))))

pub appended-is : (g : Orderings) (o : List ℕ) → Short g → g.count < 32 → appended g (row o) ≡ encode (decode g ++ (o ∷ []))
appended-is g o s l =
    subst (λ (x : Orderings). appended x (row o) ≡ encode (decode g ++ (o ∷ []))) s.coded (encode-more (decode g) o (omega (arith, length-decode g)))

-- a list of orderings of at most 16 keys and its struct
pub short-encode : (os : List (List ℕ)) → length os ≤ 32 → AllShort os → Short (encode os)
unfolding encode
short-encode os b h = record {
  coded = ap encode (decode-encode os);
  few = b;
  short = λ i l. subst (λ (t : List (List ℕ)). length (ordering_at t i) ≤ 16) (sym (decode-encode os)) (h i l);
}

pub short-all : (g : Orderings) → Short g → AllShort (decode g)
short-all g s i l = s.short i (omega (arith, length-decode g))

pub held_all : (g : Orderings) → Held g → AllShort (decode g)
held_all g h i l = (h.good.each i l).few

abbrev pub told : Result (Unit {0}) Refusal → Orderings → Listed
told d g = record { done = d; list = g }

-- the answers of a function that makes a list
pub listed-made : (g : Orderings) (os : List (List ℕ)) → length os ≤ 32 → all_short os ≡ true → listed g os ≡ told (Ok tt) (encode os)
unfolding listed fits all_short
listed-made g os l e = rw (le-leb (length os) 32 l, e)

pub listed-many : (g : Orderings) (os : List (List ℕ)) → 32 < length os → listed g os ≡ told (Err TooLarge) g
unfolding listed fits
listed-many g os l = rw (lt-leb (length os) 32 l)

pub listed-long : (g : Orderings) (os : List (List ℕ)) → all_short os ≡ false → listed g os ≡ told (Err TooLarge) g
unfolding listed fits all_short
listed-long g os e = go (leb (length os) 32)
  where
    go : (b : Bool) → (if b && each (λ i. leb (length (ordering_at os i)) 16) (length os) then told (Ok tt) (encode os) else told (Err TooLarge) g) ≡ told (Err TooLarge) g
    go true = rw e
    go false = refl

and_false : (b : Bool) → (b && false) ≡ false
and_false true = refl
and_false false = refl

-- what a refused list says of a call
abbrev pub void : Result Orderings Refusal → Result (Unit {0}) Refusal
void (Ok list) = Ok tt
void (Err e) = Err e

-- a list that was made: it fits, it has too many orderings, or one that is too long
module _ (os : List (List ℕ)) where
  pub made-fits : length os ≤ 32 → all_short os ≡ true → made os ≡ Ok (encode os)
  unfolding made fits all_short
  made-fits l e = rw (le-leb (length os) 32 l, e)

  pub made-many : 32 < length os → made os ≡ Err TooLarge
  unfolding made fits
  made-many l = rw (lt-leb (length os) 32 l)

  pub made-long : all_short os ≡ false → made os ≡ Err TooLarge
  unfolding made fits all_short
  made-long e = rw (e, and_false (leb (length os) 32))

  pub made-yes : fits os ≡ true → made os ≡ Ok (encode os)
  unfolding made
  made-yes f = rw f

  pub made-no : fits os ≡ false → made os ≡ Err TooLarge
  unfolding made
  made-no f = rw f

  pub made-done : (list : Orderings) → Ok list ≡ made os → (fits os ≡ true) × (list ≡ encode os)
  made-done list q = go (fits os) refl
    where
      go : (b : Bool) → fits os ≡ b → (fits os ≡ true) × (list ≡ encode os)
      go true f = let e : Ok list ≡ Ok (encode os) = q ∙ made-yes f in (f, cc)
      go false f = absurd (ok-not-err (q ∙ made-no f))

-- and so does the call that answers it
module _ (g : Orderings) (os : List (List ℕ)) where
  pub listed-refused : (e : Refusal) → Err e ≡ made os → told (Err e) g ≡ listed g os
  unfolding listed
  listed-refused e q = go (fits os) refl
    where
      go : (b : Bool) → fits os ≡ b → told (Err e) g ≡ listed g os
      go true f = absurd (ok-not-err (sym (q ∙ made-yes os f)))
      go false f = ap (λ (x : Result Orderings Refusal). told (void x) g) (q ∙ made-no os f) ∙ sym (rw f)

  pub listed-done : (list : Orderings) → Ok list ≡ made os → told (Ok tt) list ≡ listed g os
  unfolding listed
  listed-done list q = let w = made-done os list q in ap (told (Ok tt)) w.1 ∙ sym (rw w.0)
