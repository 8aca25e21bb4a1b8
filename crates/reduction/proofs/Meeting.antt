-- The keys at the end of one ordering and at the start of another, as the code reads them.
use Prim.Native.Nat.{ℕ, ◌+◌, ◌-◌, ◌<◌, ◌≤◌, min}
use mathlib.Core.Bool.{Bool}
use mathlib.Core.Path.{◌≡◌, ◌∙◌, sym, ap}
use Rattle.std.proofs.lemmas.List.{take-append-le}
use Rattle.orderings.specs.Inner.{HeldOrdering}
use native.Mathlib.Omega.{arith}
use lib.Dec.{eqb}
use lib.ListN.{length, get_or, take}
use Rattle.laws.specs.Tests.{each, first}
use Rattle.laws.proofs.Each.{each_cong}
use Rattle.orderings.specs.Ordering.{same_key}
use Rattle.reduction.specs.Reduction.{meets, overlap}
use Rattle.orderings.specs.Layout.{row, keys_of}
use Rattle.orderings.specs.declared.Ordering.{Ordering}
use Rattle.orderings.proofs.Codec.{size_is, key-is}

-- key k of the last n of a is key k of b
abbrev pub Same : Ordering → Ordering → ℕ → ℕ → Bool
Same a b n k = same_key (get_or (keys_of a) (length (keys_of a) - n + k) 0) (get_or (keys_of b) k 0)

-- what is read of the keys
abbrev pub Read : Ordering → Ordering → ℕ → ℕ → Bool
Read a b n k = eqb (get_or a.keys (a.size - n + k) 0) (get_or b.keys k 0)

-- the same, as it is read
same_read : (a b : Ordering) (n k : ℕ) → n ≤ a.size → n ≤ b.size → k < n → Read a b n k ≡ Same a b n k
unfolding same_key
same_read a b n k p q l =
    let e = size_is a in
    rw (e, key-is a (a.size - n + k) (omega arith), key-is b k (omega arith))

-- the keys meet where all that is read agrees
pub meets-read : (a b : Ordering) (n : ℕ) → n ≤ a.size → n ≤ b.size → each (Read a b n) n ≡ meets same_key (keys_of a) (keys_of b) n
unfolding meets
meets-read a b n p q = each_cong (Read a b n) (Same a b n) n (λ k l. same_read a b n k p q l)

-- the last n + 1 keys of a begin b
abbrev pub Meets : Ordering → Ordering → ℕ → Bool
Meets a b n = meets same_key (keys_of a) (keys_of b) (n + 1)

-- the search of an overlap
pub overlap-first : (a b : Ordering) → first (Meets a b) (min a.size b.size) ≡ overlap same_key (keys_of a) (keys_of b)
unfolding overlap
overlap-first a b = rw (size_is a, size_is b)

-- the first keys of an ordering, as they are read
pub take-read : (r : Ordering) (n : ℕ) → HeldOrdering r → n ≤ r.size → take n r.keys ≡ take n (keys_of r)
unfolding row
take-read r n h l =
    let b : n ≤ length (keys_of r) = omega (arith, size_is r) in
    ap (λ (x : Ordering). take n x.keys) (sym h.coded) ∙ take-append-le n (keys_of r) _ b
