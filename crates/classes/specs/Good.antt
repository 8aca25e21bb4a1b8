-- Which lists of classes are a group: document 01's rule 11.
use Rattle.std.specs.Prelude.{ℕ, ◌<◌, true, List, [], ◌∷◌, ◌++◌, ◌≡◌, length, get_or}
use Rattle.arena.specs.Node.{Node, literal, node_at}
use Rattle.classes.specs.Class.{Class, is_uniform}
use Rattle.classes.specs.Group.{among, class_at}

-- the members of all classes, one after the other
unfoldable pub flat : List Class → List ℕ
flat [] = []
flat (c ∷ cs) = c.members ++ flat cs

-- no number twice
pub record Distinct (xs : List ℕ) : Type 0 where
  pub apart : (i j : ℕ) → i < j → j < length xs → get_or xs i 0 ≡ get_or xs j 0 → ⊥

-- no expression in two classes or twice in one, no empty class, a literal's class uniform, every member in the arena
pub record Good (ns : List Node) (cs : List Class) : Type 0 where
  pub distinct : Distinct (flat cs)
  pub filled : (i : ℕ) → i < length cs → 0 < length (class_at cs i).members
  pub uniform : (i e v : ℕ) → i < length cs → among e (class_at cs i).members ≡ true → node_at ns e ≡ literal v → is_uniform (class_at cs i).constant ≡ true
  pub inside : (e : ℕ) → among e (flat cs) ≡ true → e < length ns
