-- What joining makes: how many orderings, in which order, and that they are good where they fit. The same for the joined ordering of all.
use Rattle.std.specs.Prelude.{if◌then◌else◌, Result, Ok, Err}
use Prim.Native.Nat.{ℕ, zero, suc, ◌+◌, ◌*◌, ◌<◌, ◌≤◌, max}
use mathlib.Core.Bool.{Bool, true, false}
use mathlib.Core.List.{List, [], ◌∷◌, ◌++◌}
use mathlib.Core.Path.{◌≡◌, refl, sym, ap, ◌∙◌, subst}
use native.Mathlib.Omega.{arith}
use borrow.Author.Tests.{leb-true}
use lib.Dec.{leb}
use lib.ListN.{length, get_or-append}
use lib.Seq.{get_or-append-add}
use Rattle.laws.proofs.Booleans.{and_left, and_right}
use Rattle.orderings.specs.Ordering.{extended, built}
use Rattle.orderings.specs.Lists.{ordering_at, extended_all, output_ordering, suffixed, suffixed_all, join_suffix}
use Rattle.orderings.specs.Good.{GoodOrdering, Good}
use Rattle.orderings.specs.Layout.{row, encode, decode}
use Rattle.orderings.specs.Calls.{fits, listed}
use Rattle.ordering_joins.specs.Calls.{output_of}
use Rattle.orderings.specs.Inner.{HeldOrdering, Held, all_short}
use Rattle.orderings.specs.declared.Orderings.{Orderings}
use Rattle.orderings.specs.declared.Ordering.{Ordering}
use Rattle.arena.specs.declared.Refusal.{Refusal}
use Rattle.arena.specs.declared.Refusal.TheVariants.{TooLarge}
use Rattle.arena.proofs.Refusals.{ok-not-err}
use Rattle.orderings.proofs.Codec.{row-held, good-held, length-decode}
use Rattle.orderings.proofs.OneOrdering.{built-same, extended-good}
use Rattle.ordering_joins.proofs.Collecting.{extended_all-grows}
use Rattle.orderings.proofs.Appending.{told, test_short}
use Rattle.ordering_joins.proofs.Suffixes.{length-suffixed, suffixed-at, length-suffixed_all, join_suffix-none, join_suffix-some, join_suffix-all}

-- an empty other side keeps all
pub join_suffix-keeps : (os : List (List ℕ)) → join_suffix os [] ≡ os
join_suffix-keeps os = join_suffix-none os [] refl

-- n orderings joined with m make max(n, n·m)
pub join_suffix-length : (os ps : List (List ℕ)) → length (join_suffix os ps) ≡ max (length os) (length os * length ps)
join_suffix-length os [] = ap (λ (t : List (List ℕ)). length t) (join_suffix-keeps os) ∙ omega arith
join_suffix-length os (p ∷ ps) =
    ap (λ (t : List (List ℕ)). length t) (join_suffix-some os (p ∷ ps) (omega arith)) ∙ length-suffixed_all os (p ∷ ps) ∙ omega arith

-- all of the one side by the first of the other, then all by the next: ordering i by ordering j stands at j · n + i
suffixed_all-at : (os ps : List (List ℕ)) (i j : ℕ) → i < length os → j < length ps → ordering_at (suffixed_all os ps) (j * length os + i) ≡ extended (ordering_at os i) (ordering_at ps j)
unfolding suffixed_all
suffixed_all-at os [] i j a b = absurd (omega arith)
suffixed_all-at os (p ∷ ps) i zero a b =
    let e : 0 * length os + i ≡ i = omega arith in
    ap (λ (k : ℕ). ordering_at (suffixed os p ++ suffixed_all os ps) k) e
    ∙ get_or-append (suffixed os p) (suffixed_all os ps) [] i (omega (arith, length-suffixed os p)) ∙ suffixed-at os p i a
suffixed_all-at os (p ∷ ps) i (suc j) a b =
    let e : suc j * length os + i ≡ length (suffixed os p) + (j * length os + i) = omega (arith, length-suffixed os p) in
    ap (λ (k : ℕ). ordering_at (suffixed os p ++ suffixed_all os ps) k) e
    ∙ get_or-append-add (suffixed os p) (suffixed_all os ps) (j * length os + i) [] ∙ suffixed_all-at os ps i j a (omega arith)

pub join_suffix-at : (os ps : List (List ℕ)) (i j : ℕ) → i < length os → j < length ps → ordering_at (join_suffix os ps) (j * length os + i) ≡ extended (ordering_at os i) (ordering_at ps j)
join_suffix-at os ps i j a b =
    ap (λ (t : List (List ℕ)). ordering_at t (j * length os + i)) (join_suffix-some os ps (omega arith)) ∙ suffixed_all-at os ps i j a b

-- the joined list is good where it fits
pub join_suffix-good : (os ps : List (List ℕ)) → Good os → fits (join_suffix os ps) ≡ true → Good (join_suffix os ps)
unfolding fits all_short
join_suffix-good os ps g f =
    let qs = join_suffix os ps in
    let short = test_short qs (and_right (leb (length qs) 32) (all_short qs) f) in
    record {
      few = leb-true (length qs) 32 (and_left (leb (length qs) 32) (all_short qs) f);
      each = λ k l.
          join_suffix-all (λ (o : List ℕ). length o ≤ 16 → GoodOrdering o) os ps (λ i b h. g.each i b)
          (λ i j b c. extended-good (ordering_at os i) (ordering_at ps j) (g.each i b)) k l (short k l);
    }

-- an ordering extended by each of a list is good where it fits
pub extended_all-good : (o : List ℕ) (ps : List (List ℕ)) → GoodOrdering o → length (extended_all o ps) ≤ 16 → GoodOrdering (extended_all o ps)
unfolding extended_all
extended_all-good o [] g l = g
extended_all-good o (p ∷ ps) g l = extended_all-good (extended o p) ps (extended-good o p g (omega (arith, extended_all-grows (extended o p) ps))) l

-- so the joined ordering of all is good where it fits and there is one
pub output_ordering-good : (os : List (List ℕ)) → Good os → 0 < length os → length (output_ordering os) ≤ 16 → GoodOrdering (output_ordering os)
unfolding output_ordering extended_all built
output_ordering-good [] g n l = absurd (omega arith)
output_ordering-good (o ∷ os) g n l =
    let b = g.each 0 (omega arith) in
    extended_all-good (extended [] o) os (subst GoodOrdering (sym (built-same o b.distinct)) b) l

-- what joining answers, made or refused, is a list that is held
pub join-held : (g h : Orderings) → Held g → Held (listed g (join_suffix (decode g) (decode h))).list
unfolding listed
join-held g h a = go (fits (join_suffix (decode g) (decode h))) refl
  where
    go : (b : Bool) → fits (join_suffix (decode g) (decode h)) ≡ b → Held (if b then told (Ok tt) (encode (join_suffix (decode g) (decode h))) else told (Err TooLarge) g).list
    go true e = good-held (join_suffix (decode g) (decode h)) (join_suffix-good (decode g) (decode h) a.good e)
    go false e = a

-- the joined ordering of all, where there is one and it fits, is held; of an empty list it is no ordering
pub output-held : (g : Orderings) → Held g → 0 < g.count → (o : Ordering) → output_of (output_ordering (decode g)) ≡ Ok o → HeldOrdering o
unfolding output_of
output-held g a n o = go (leb (length (output_ordering (decode g))) 16) refl
  where
    out : Bool → Result Ordering Refusal
    out b = if b then Ok (row (output_ordering (decode g))) else Err TooLarge

    go : (b : Bool) → leb (length (output_ordering (decode g))) 16 ≡ b → out b ≡ Ok o → HeldOrdering o
    go true e z = let q : row (output_ordering (decode g)) ≡ o = cc in subst HeldOrdering q (row-held (output_ordering (decode g)) (output_ordering-good (decode g) a.good (omega (arith, length-decode g)) (leb-true (length (output_ordering (decode g))) 16 e)))
    go false e z = absurd (ok-not-err (sym z))

pub output-none : output_of (output_ordering []) ≡ Ok (row [])
unfolding output_of output_ordering extended_all
output-none = refl
