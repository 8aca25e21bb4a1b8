-- What the inner functions ask and promise each other, here and in the crates above. The public contracts cite nothing of this file.
use Rattle.std.specs.Prelude.{ℕ, ◌+◌, ◌<◌, ◌≤◌, List, ◌≡◌, get_or}
use Rattle.arena.specs.Node.{Node}
use Rattle.classes.specs.Good.{Good}
use Rattle.classes.specs.Layout.{encode, decode}
use Rattle.classes.specs.declared.Group.{Group}

-- the struct is the layout of its classes, which are few
pub record Coded (g : Group) : Type 0 where
  pub coded : encode g.limit (decode g) ≡ g
  pub few : g.count ≤ 64
  pub small : g.used ≤ 256

-- class j can be put at the end of a group
pub record Room (out src : Group) (j : ℕ) : Type 0 where
  pub out-coded : Coded out
  pub src_coded : Coded src
  pub there : j < src.count
  pub members : out.used + get_or src.sizes j 0 ≤ 256

-- a group that is checked: it is the layout of a good list of classes
pub record Held (ns : List Node) (g : Group) : Type 0 where
  pub coded : Coded g
  pub low : 0 < g.limit
  pub high : g.limit ≤ 256
  pub within : g.used ≤ g.limit
  pub good : Good ns (decode g)
