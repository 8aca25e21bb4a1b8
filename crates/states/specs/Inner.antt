-- What the functions that write a state ask: every number fits its cell.
use Rattle.arena.specs.Refusals.{number_of}
use Rattle.std.specs.Prelude.{ℕ, ◌<◌, true, ◌≡◌}
use Rattle.orderings.specs.Layout.{place_in}
use Rattle.orderings.specs.declared.Orderings.{Orderings}
use Rattle.orderings.specs.declared.Listed.{Listed}
use Rattle.dependencies.specs.Layout.{place_in as entry_in}
use Rattle.dependencies.specs.declared.DependencyNode.{DependencyNode}
use Rattle.dependencies.specs.declared.DependencyMap.{DependencyMap}
use Rattle.dependencies.specs.declared.Inserted.{Inserted}

-- a list's count and sizes fit 16 bits
pub record ListFits (g : Orderings) : Type 0 where
  pub count : g.count < 65536
  pub sizes : (i : ℕ) → (place_in g i).size < 65536

-- so do those of a list that is handed back, unless it is refused
abbrev pub ListFitsIfDone : Listed → Type 0
ListFitsIfDone l = number_of l.done ≡ 0 → ListFits l.list

-- a key's target leaves room for one more, and its count fits 16 bits
pub record NodeFits (n : DependencyNode) : Type 0 where
  pub target : n.projected ≡ true → n.target < 65535
  pub size : n.size < 65536

-- a map's count and all its keys fit
pub record MapFits (m : DependencyMap) : Type 0 where
  pub count : m.count < 65536
  pub nodes : (i : ℕ) → NodeFits (entry_in m i)

-- so do those of a map that is handed back, unless it is refused
abbrev pub MapFitsIfDone : Inserted → Type 0
MapFitsIfDone i = number_of i.done ≡ 0 → MapFits i.map
