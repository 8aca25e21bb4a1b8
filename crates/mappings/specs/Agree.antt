-- The rows that the promises on projected values speak of. Theorems cite them, and no contract.
use Rattle.std.specs.Prelude.{ℕ, ◌<◌, true, List, ◌≡◌, length, get_or}
use Rattle.arena.specs.Node.{Node}
use Rattle.arena.specs.Expression.{expression_at}
use Rattle.arena.specs.Value.{Meaning, Row, value}
use Rattle.mappings.specs.Mapping.{Mapped, mapped_at, mapping_below}

-- each target has on an output row the value that its source has on an input row
abbrev pub TargetsAgree : {A : Type 0} → List Node → List Mapped → Meaning A → Row A → Row A → Type 0
TargetsAgree ns ps m row out =
    (i k : ℕ) → i < length ps → k < length (mapped_at ps i).targets
    → value (expression_at ns (get_or (mapped_at ps i).targets k 0)) m out ≡ value (expression_at ns (mapped_at ps i).source) m row

-- a mapping over an arena: each source has a target, and sources and targets are in the arena
pub record Over (ns : List Node) (ps : List Mapped) : Type 0 where
  pub some-target : (i : ℕ) → i < length ps → 0 < length (mapped_at ps i).targets
  pub inside : mapping_below (length ns) ps ≡ true
