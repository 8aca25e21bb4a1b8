-- What the inner functions ask and promise each other. The public contract cites nothing of this file.
use Rattle.std.specs.Prelude.{ℕ, ◌+◌, ◌<◌, ◌≤◌, Bool, true, List, [], ◌≡◌, length, get_or, if◌then◌else◌, Option, None, Some, Result, Ok, Err}
use Rattle.arena.specs.declared.Refusal.{Refusal}
use Rattle.arena.specs.declared.Refusal.TheVariants.{GroupFull}
use Rattle.arena.specs.Node.{Node}
use Rattle.arena.specs.Expression.{those, expressions}
use Rattle.arena.specs.Arena.{Extends, placed, full, add_expressions}
use Rattle.arena.specs.Layout.{count, decode as nodes}
use Rattle.arena.specs.Inner.{Holds, map_all}
use Rattle.classes.specs.Class.{Class}
use Rattle.classes.specs.Steps.{fits}
use Rattle.classes.specs.Layout.{encode}
use Rattle.classes.specs.Inner.{Coded, Held}
use Rattle.classes.specs.declared.Group.{Group}
use Rattle.normal.specs.Inner.{rewriting}
use Rattle.mappings.specs.Mapping.{Mapped, sources}
use Rattle.mappings.specs.Layout.{decode as mapping}
use Rattle.mappings.specs.declared.Mapping.{Mapping}
use Rattle.group_projection.specs.Calls.{project_by}

-- what a step answers: the group that it made, or why there is none
abbrev pub Grouped : Type 0
Grouped = Result Group Refusal

-- a list of classes as a group of limit 256, or 4 where it exceeds the bounds
unfoldable pub listed : List Class → Grouped
listed cs = if fits 256 cs then Ok (encode 256 cs) else Err GroupFull

-- the classes as a group of limit 256, or 4
unfoldable pub made_or_none : Option (List Class) → Grouped
made_or_none (Some cs) = Ok (encode 256 cs)
made_or_none None = Err GroupFull

-- a group of one class
pub record One (g : Group) : Type 0 where
  pub coded : Coded g
  pub limit : g.limit ≡ 256
  pub single : g.count ≡ 1

-- a group that is a list of classes of limit 256
pub record List256 (g : Group) : Type 0 where
  pub coded : Coded g
  pub limit : g.limit ≡ 256

-- a group that was made: checked, and of limit 256
pub record Made (ns : List Node) (g : Group) : Type 0 where
  pub held : Held ns g
  pub limit : g.limit ≡ 256

-- the first members of a table are old nodes, and what a table of projections has for each of them is 0, 1, or one of the first n numbers and 2
abbrev pub Entries : ℕ → List ℕ → List ℕ → ℕ → Type 0
Entries n table members used = (k : ℕ) → k < used → (get_or members k 0 < 1024) × (get_or table (get_or members k 0) 0 < n + 2)

-- what the walk over the sources' normal forms asks
pub record FormsReady (old : ℕ) (firsts s : List ℕ) (m : Mapping) : Type 0 where
  pub holds : Holds s
  pub there : old ≤ count s
  pub inside : (k : ℕ) → k < old → get_or firsts k 0 < old
  pub few : m.count ≤ 64
  pub below : (k : ℕ) → k < length (sources (mapping m)) → get_or (sources (mapping m)) k 0 < old

-- the numbers of an answer; none where there is no room
abbrev pub members_of : Result (List ℕ) Refusal → List ℕ
members_of (Ok js) = js
members_of (Err k) = []

-- what it promises: the normal forms of the sources were added, and their numbers are the first of the table; or there was no room
pub record Formed (old : ℕ) (firsts s t : List ℕ) (es : List ℕ) (fits : Bool) (js : List ℕ) : Type 0 where
  pub holds : Holds t
  pub extends : Extends (nodes s) (nodes t)
  pub is : (if fits then placed js (nodes t) else full) ≡ add_expressions (map_all (rewriting old firsts s) (those (expressions (nodes s)) es)) (nodes s)

-- what a projection promises: what document 01 says of it; after a refusal the arena may have grown
pub record ProjectedOver (s t : List ℕ) (g : Group) (ps : List Mapped) (r : Grouped) : Type 0 where
  pub holds : Holds t
  pub done : (h : Group) → r ≡ Ok h → (record { answer = Ok true; group = h }, nodes t) ≡ project_by ps g (nodes s)
  pub refused : (why : Refusal) → r ≡ Err why → (record { answer = Err why; group = g }, nodes s) ≡ project_by ps g (nodes s)
