-- A list of classes lent as numbers: for each class its flavour (0 none, 1 heterogeneous, 2 uniform unknown, 3 uniform with a value), its value, its member count and its members, directly after the class before.
use Rattle.std.specs.Prelude.{ℕ, ◌+◌, ◌<◌, Bool, not, ◌&&◌, ◌||◌, List, eqb, ltb, leb, length, get_or}
use Rattle.std.proofs.Common.{arith}
use Rattle.laws.specs.Tests.{each}
use Rattle.laws.specs.Lists.{table}
use Rattle.laws.specs.Parts.{parts, each_part}
use Rattle.arena.specs.Node.{Node, node_at}
use Rattle.classes.specs.Class.{Class}
use Rattle.classes.specs.Layout.{constant_from, known_flavour, is_literal}

-- the flavour of the class at a place; past the end, 0
abbrev pub flavour_lent : List ℕ → ℕ → ℕ
flavour_lent numbers at = get_or numbers at 0

-- its value likewise
abbrev pub value_lent : List ℕ → ℕ → ℕ
value_lent numbers at = get_or numbers (at + 1) 0

-- how many members it has
abbrev pub size_lent : List ℕ → ℕ → ℕ
size_lent numbers at = get_or numbers (at + 2) 0

-- its member k
abbrev pub member_lent : List ℕ → ℕ → ℕ → ℕ
member_lent numbers at k = get_or numbers (at + 3 + k) 0

-- where the class after the one at a place begins
unfoldable pub next_class : List ℕ → ℕ → ℕ
next_class numbers at = at + 3 + size_lent numbers at

-- it begins after that place
pub next-after : (numbers : List ℕ) (at : ℕ) → at < next_class numbers at
unfolding next_class
next-after numbers at = omega arith

-- a test holds for each class from a place on, told by its place
abbrev pub each_from : (ℕ → Bool) → List ℕ → ℕ → Bool
each_from p numbers at = each_part p (next_class numbers) (length numbers) at

-- the class at a place has a flavour and a value in their sets
unfoldable pub known_at : List ℕ → ℕ → Bool
known_at numbers at = known_flavour (flavour_lent numbers at) (value_lent numbers at)

-- so has each (else 12)
unfoldable pub flavours_known : List ℕ → Bool
flavours_known numbers = each_from (known_at numbers) numbers 0

-- no count runs past what is lent (else 11)
unfoldable pub whole : List ℕ → Bool
whole numbers = each_from (λ at. leb (next_class numbers at) (length numbers)) numbers 0

-- member k of the class at a place does not stand before it there
unfoldable pub fresh_lent : List ℕ → ℕ → ℕ → Bool
fresh_lent numbers at k = each (λ i. not (eqb (member_lent numbers at i) (member_lent numbers at k))) k

-- no member of the class at a place stands twice
unfoldable pub apart_at : List ℕ → ℕ → Bool
apart_at numbers at = each (λ k. fresh_lent numbers at k) (size_lent numbers at)

-- no class has a member twice (else 11)
unfoldable pub members_apart : List ℕ → Bool
members_apart numbers = each_from (apart_at numbers) numbers 0

-- a literal among the members of the class at a place makes it uniform. A number that is not below the node count is no literal
unfoldable pub uniform_lent : List Node → List ℕ → ℕ → Bool
uniform_lent ns numbers at =
    each (λ k. not (ltb (member_lent numbers at k) (length ns) && is_literal (node_at ns (member_lent numbers at k))) || leb 2 (flavour_lent numbers at)) (size_lent numbers at)

-- a literal's class is uniform (else 11)
unfoldable pub literals_uniform : List Node → List ℕ → Bool
literals_uniform ns numbers = each_from (uniform_lent ns numbers) numbers 0

-- the members of the class at a place are among the first n
unfoldable pub below_at : ℕ → List ℕ → ℕ → Bool
below_at n numbers at = each (λ k. ltb (member_lent numbers at k) n) (size_lent numbers at)

-- every member is among the first n (else 1)
unfoldable pub members_below : ℕ → List ℕ → Bool
members_below n numbers = each_from (below_at n numbers) numbers 0

-- the class at a place
unfoldable pub class_lent : List ℕ → ℕ → Class
class_lent numbers at =
    record {
      members = table (λ k. member_lent numbers at k) (size_lent numbers at);
      constant = constant_from (flavour_lent numbers at) (value_lent numbers at);
    }

-- the classes from a place on
abbrev pub classes_from : List ℕ → ℕ → List Class
classes_from numbers at = parts (class_lent numbers) (next_class numbers) (length numbers) at

-- the classes that are lent
unfoldable pub classes_lent : List ℕ → List Class
classes_lent numbers = classes_from numbers 0
