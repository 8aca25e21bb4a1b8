-- The rows that the promises on values speak of. Theorems cite them, and no contract.
use Rattle.std.specs.Prelude.{ℕ, ◌<◌, true, ◌≡◌, length}
use mathlib.Core.List.{List}
use Rattle.arena.specs.Node.{Node}
use Rattle.arena.specs.Expression.{expression_at}
use Rattle.arena.specs.Value.{Meaning, Row, value}
use Rattle.classes.specs.Class.{Class}
use Rattle.classes.specs.Group.{among, class_at}

-- two expressions of an arena have one value on a row
abbrev pub Same : {A : Type 0} → List Node → Meaning A → Row A → ℕ → ℕ → Type 0
Same ns m row a b = value (expression_at ns a) m row ≡ value (expression_at ns b) m row

-- the members of each class have one value on the row
abbrev pub MembersAgree : {A : Type 0} → List Node → List Class → Meaning A → Row A → Type 0
MembersAgree ns cs m row = (i a b : ℕ) → i < length cs → among a (class_at cs i).members ≡ true → among b (class_at cs i).members ≡ true → Same ns m row a b

-- both sides of each pair have one value on the row
abbrev pub PairsAgree : {A : Type 0} → List Node → List (ℕ × ℕ) → Meaning A → Row A → Type 0
PairsAgree ns ps m row = (a b : ℕ) → mathlib.Core.List.Memᴰ (a, b) ps → Same ns m row a b
