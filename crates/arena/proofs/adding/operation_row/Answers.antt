-- `arena::adding::operation_row` meets its contract.
use Rattle.std.proofs.Common.{◌+◌, ◌-◌, ◌≡◌, ℕ, List, ◌∷◌, ◌++◌, length, ap, arith}
use Rattle.std.proofs.lemmas.List.{drop-replicate}
use Rattle.arena.specs.Layout.{row}
use Rattle.arena.proofs.adding.operation_row.Goals as goal

pub returns : goal.returns
unfolding row
returns c =
    let e : 3 + length c.args.children.now - 3 ≡ length c.args.children.now = omega arith in
    rw (e, c.copy_from_slice.ensures.after) (ap {B = List ℕ} (λ (t : List ℕ). 3 ∷ c.args.label ∷ length c.args.children.now ∷ (c.args.children.now ++ t)) (drop-replicate (length c.args.children.now) 8 0))
