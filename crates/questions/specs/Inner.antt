-- What the inner functions ask and promise each other. The public contracts cite nothing of this file.
use Rattle.std.specs.Prelude.{ℕ, ◌+◌, ◌*◌, ◌/◌, ◌%◌, ◌^◌, ◌<◌, Bool, true, false, ◌&&◌, List, ◌≡◌, eqb, ltb, length, get_or, if◌then◌else◌, Option, None, Some}
use Rattle.laws.specs.Tests.{each}
use Rattle.arena.specs.Node.{Node, node_at, child_numbers}
use Rattle.arena.specs.Layout.{decode as nodes}
use Rattle.arena.specs.Inner.{Known}
use Rattle.classes.specs.declared.Constant.{Constant}
use Rattle.classes.specs.declared.Constant.TheVariants.{NoConstant as no_constant, Heterogeneous as heterogeneous}
use Rattle.classes.specs.Class.{Class, is_constant}
use Rattle.classes.specs.Group.{class_of}
use Rattle.classes.specs.Layout.{flavour_of}
use Rattle.questions.specs.Questions.{equal_by, class_constant, constant_by}

-- the place of a class as a number: 0 where there is none
unfoldable pub place_number : Option ℕ → ℕ
place_number None = 0
place_number (Some i) = i + 1

-- a table holds the place of each node's class
abbrev pub Placed : List Class → ℕ → List ℕ → Type 0
Placed cs n places = (e : ℕ) → e < n → get_or places e 0 ≡ place_number (class_of cs e)

-- two expressions are in one class, by such a table
unfoldable pub same_place : List ℕ → ℕ → ℕ → Bool
same_place places a b = if eqb (get_or places a 0) 0 then false else eqb (get_or places a 0) (get_or places b 0)

-- the bit for the pair a, b in a table of words
unfoldable pub told_pair : List ℕ → ℕ → ℕ → Bool
told_pair seen a b = eqb (get_or seen (a * 16 + b / 64) 0 / 2 ^ (b % 64) % 2) 1

-- what a table of pairs says is true: each pair in it is equal
abbrev pub Told : List Node → List ℕ → List ℕ → Type 0
Told ns places seen = (a b : ℕ) → a < 1024 → b < 1024 → told_pair seen a b ≡ true → equal_by ns (same_place places) a b ≡ true

-- what the equality walk asks
pub record Asked (cells places seen : List ℕ) (a b : ℕ) : Type 0 where
  pub left : Known cells a
  pub right : Known cells b
  pub told : Told (nodes cells) places seen

-- what it promises
pub record Answered (cells places seen : List ℕ) (a b : ℕ) (answer : Bool) : Type 0 where
  pub is : answer ≡ equal_by (nodes cells) (same_place places) a b
  pub told : Told (nodes cells) places seen

-- two lists of children pair up: there are some, equally many
abbrev pub pair_up : List ℕ → List ℕ → Bool
pair_up js ks = ltb 0 (length js) && eqb (length js) (length ks)

-- what the walk over the n children of a and of b asks
pub record AskedAll (cells places seen : List ℕ) (a b n : ℕ) : Type 0 where
  pub asked : Asked cells places seen a b
  pub left : length (child_numbers (node_at (nodes cells) a)) ≡ n
  pub right : length (child_numbers (node_at (nodes cells) b)) ≡ n

-- what it promises
pub record AnsweredAll (cells places seen : List ℕ) (a b n : ℕ) (answer : Bool) : Type 0 where
  pub is : answer ≡ each (λ k. equal_by (nodes cells) (same_place places) (get_or (child_numbers (node_at (nodes cells) a)) k 0) (get_or (child_numbers (node_at (nodes cells) b)) k 0)) n
  pub told : Told (nodes cells) places seen

-- a table holds the flavour of the constant of each node's class
abbrev pub Marked : List Class → ℕ → List ℕ → Type 0
Marked cs n marks = (e : ℕ) → e < n → get_or marks e 0 ≡ flavour_of (class_constant cs e)

-- whether an expression's class has a constant, by such a table
unfoldable pub marked_by : List ℕ → ℕ → Constant
marked_by marks e = if eqb (get_or marks e 0) 0 then no_constant else heterogeneous

-- what a table of constant nodes says is true: each node with a 1 in it is constant
abbrev pub ToldConstant : List Node → List ℕ → List ℕ → Type 0
ToldConstant ns marks seen = (e : ℕ) → get_or seen e 0 ≡ 1 → is_constant (constant_by ns (marked_by marks) e) ≡ true

-- what the walk of the constant question asks
pub record AskedConstant (cells marks seen : List ℕ) (e : ℕ) : Type 0 where
  pub known : Known cells e
  pub told : ToldConstant (nodes cells) marks seen

-- what it promises
pub record AnsweredConstant (cells marks seen : List ℕ) (e : ℕ) (answer : Bool) : Type 0 where
  pub is : answer ≡ is_constant (constant_by (nodes cells) (marked_by marks) e)
  pub told : ToldConstant (nodes cells) marks seen

-- what the walk over the n children of e asks
pub record AskedConstants (cells marks seen : List ℕ) (e n : ℕ) : Type 0 where
  pub asked : AskedConstant cells marks seen e
  pub children : length (child_numbers (node_at (nodes cells) e)) ≡ n

-- what it promises
pub record AnsweredConstants (cells marks seen : List ℕ) (e n : ℕ) (answer : Bool) : Type 0 where
  pub is : answer ≡ each (λ k. is_constant (constant_by (nodes cells) (marked_by marks) (get_or (child_numbers (node_at (nodes cells) e)) k 0))) n
  pub told : ToldConstant (nodes cells) marks seen
