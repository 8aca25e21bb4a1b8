-- The table of the ten kinds of join: its rule is one test over the whole table, and what it says of each entry.
use Prim.Native.Nat.{ℕ, ◌<◌}
use mathlib.Core.Bool.{Bool, true, false, ◌&&◌}
use mathlib.Core.List.{List, [], ◌∷◌}
use mathlib.Core.Path.{◌≡◌, refl}
use lib.ListN.{get_or}
use Rattle.laws.specs.Tests.{each}
use Rattle.laws.proofs.Booleans.{true_not_false, and_left, and_right}
use Rattle.laws.proofs.Each.{each_holds}
use Rattle.joins.specs.Kinds.{join_kind}
use Rattle.joins.specs.declared.JoinKind.{JoinKind}

-- two tests are equal
abbrev same : Bool → Bool → Bool
same true true = true
same true false = false
same false true = false
same false false = true

same-is : (a b : Bool) → same a b ≡ true → a ≡ b
same-is true true h = refl
same-is true false h = absurd (true_not_false h refl)
same-is false true h = absurd (true_not_false h refl)
same-is false false h = refl

-- two entries are equal
abbrev same_kind : JoinKind → JoinKind → Bool
same_kind a b = same a.left b.left && (same a.right b.right && (same a.shifted b.shifted && same a.pairs b.pairs))

same_kind_lem : (a b : JoinKind) → same_kind a b ≡ true → a ≡ b
same_kind_lem a b h =
    let l = same-is a.left b.left (and_left _ (same a.right b.right && (same a.shifted b.shifted && same a.pairs b.pairs)) h) in
    let h₁ = and_right (same a.left b.left) (same a.right b.right && (same a.shifted b.shifted && same a.pairs b.pairs)) h in
    let r = same-is a.right b.right (and_left _ (same a.shifted b.shifted && same a.pairs b.pairs) h₁) in
    let h₂ = and_right (same a.right b.right) (same a.shifted b.shifted && same a.pairs b.pairs) h₁ in
    let s = same-is a.shifted b.shifted (and_left _ (same a.pairs b.pairs) h₂) in
    let p = same-is a.pairs b.pairs (and_right (same a.shifted b.shifted) (same a.pairs b.pairs) h₂) in
    λ i. record { left = l i; right = r i; shifted = s i; pairs = p i }

-- an entry: left kept, right kept, shifted, pairs used
abbrev entry : Bool → Bool → Bool → Bool → JoinKind
entry l r s p = record { left = l; right = r; shifted = s; pairs = p }

-- what is read past the end
abbrev pub no_kind : JoinKind
no_kind = entry false false false false

-- the code's table
abbrev pub kinds : List JoinKind
kinds =
    entry true true true true
    ∷ entry true true true false
    ∷ entry true true true false
    ∷ entry true true true false
    ∷ entry true false false false
    ∷ entry true false false false
    ∷ entry true false false false
    ∷ entry false true false false
    ∷ entry false true false false
    ∷ entry false true false false
    ∷ []

-- the test of an entry: it is what its kind keeps
abbrev right : ℕ → Bool
right k = same_kind (get_or kinds k no_kind) (join_kind k)

-- each of the ten passes it
all_right : each right 10 ≡ true
unfolding each join_kind
all_right = refl

-- so each entry is what its kind keeps
pub kind-is : (k : ℕ) → k < 10 → get_or kinds k no_kind ≡ join_kind k
kind-is k l = same_kind_lem (get_or kinds k no_kind) (join_kind k) (each_holds right 10 k all_right l)
