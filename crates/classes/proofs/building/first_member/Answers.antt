-- `classes::building::first_member` meets its contract.
use Prim.Native.Nat.{ℕ, ◌+◌}
use mathlib.Core.List.{List}
use mathlib.Core.Path.{◌≡◌, sym, ap, ◌∙◌}
use native.Mathlib.Omega.{arith}
use lib.ListN.{get_or}
use Rattle.laws.specs.Lists.{table}
use Rattle.laws.proofs.Table.{get_or-table}
use Rattle.classes.specs.Layout.{sum_to}
use Rattle.classes.proofs.Codec.{class-inside, members-part}
use Rattle.classes.proofs.building.first_member.Goals as goal

pub class_start-at-requires : goal.class_start-at-requires
class_start-at-requires c =
    (omega (arith, c.requires.0.few, c.requires.1.0), omega (arith, class-inside c.args.g c.requires.0 c.args.i))

pub offset_bounds-g-at : goal.offset_bounds-g-at
offset_bounds-g-at c =
    omega (arith, c.class_start-at.ensures, class-inside c.args.g c.requires.0 c.args.i, c.requires.1.1, c.requires.1.0, c.requires.0.few)

pub bounds-g-at : goal.bounds-g-at
bounds-g-at c =
    omega (arith, c.class_start-at.ensures, class-inside c.args.g c.requires.0 c.args.i, c.requires.1.1, c.requires.1.0, c.requires.0.few)

pub returns : goal.returns
returns c =
    let g = c.args.g in
    let i = c.args.i in
    let t : get_or (table (λ k. get_or g.members (sum_to g.sizes i + k) 0) (get_or g.sizes i 0)) 0 0 ≡ get_or g.members (sum_to g.sizes i + 0) 0 = get_or-table (λ k. get_or g.members (sum_to g.sizes i + k) 0) (get_or g.sizes i 0) 0 0 c.requires.1.1 in
    let a : c.class_start-at.result ≡ sum_to g.sizes i + 0 = omega (arith, c.class_start-at.ensures) in
    ◌∙◌ {b = get_or g.members (sum_to g.sizes i + 0) 0} (search a) (sym t ∙ ap (λ (l : List ℕ). get_or l 0 0) (members-part g c.requires.0 i))
