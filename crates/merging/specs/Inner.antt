-- What the inner functions ask and promise each other. The public contract cites nothing of this file.
use Rattle.std.specs.Prelude.{ℕ, ◌-◌, ◌<◌, true, List, ◌≡◌, length, get_or, take}
use Rattle.arena.specs.Node.{Node, node_at, literal}
use Rattle.classes.specs.Class.{Class, is_uniform}
use Rattle.classes.specs.Group.{among, class_at}
use Rattle.classes.specs.Good.{flat, Distinct}
use Rattle.classes.specs.Layout.{decode}
use Rattle.classes.specs.Inner.{Coded}
use Rattle.classes.specs.declared.Group.{Group}
use Rattle.merging.specs.Extending.{without}
use Rattle.merging.specs.Merging.{bridge_rest}

-- what the first k members of class d bring to class c, and its constant
unfoldable pub missing_some : ℕ → Class → Class → Class
missing_some k c d = record { members = without c.members (take k d.members); constant = d.constant }

-- one step of bridging from a group and a place to a group and a place: what bridging comes to from there is the same, and what is ahead is less
pub record Stepped (g : Group) (i : ℕ) (h : Group) (k : ℕ) : Type 0 where
  pub coded : Coded h
  pub limit : h.limit ≡ g.limit
  pub goes : bridge_rest k (decode h) ≡ bridge_rest i (decode g)
  pub less : h.count - k < g.count - i

-- a list of classes that may reach `new`: no expression twice in a class, a literal's class uniform, every member in the arena
pub record Fair (ns : List Node) (cs : List Class) : Type 0 where
  pub apart : (i : ℕ) → i < length cs → Distinct (class_at cs i).members
  pub uniform : (i e v : ℕ) → i < length cs → among e (class_at cs i).members ≡ true → node_at ns e ≡ literal v → is_uniform (class_at cs i).constant ≡ true
  pub inside : (e : ℕ) → among e (flat cs) ≡ true → e < length ns

-- every number of a list is below n
abbrev pub AllBelow : ℕ → List ℕ → Type 0
AllBelow n es = (k : ℕ) → k < length es → get_or es k 0 < n
