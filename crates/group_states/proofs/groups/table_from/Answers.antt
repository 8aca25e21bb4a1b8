-- `group_states::groups::table_from` meets its contract.
use Rattle.std.proofs.Common.{◌+◌, ◌-◌, ◌≡◌, ℕ, take, drop, ap, ◌∙◌, arith}
use Rattle.states.proofs.Taken.{part-taken}
use Rattle.group_states.proofs.groups.table_from.Goals as goal

pub returns : goal.returns
returns g c =
    let x = c.args in
    let n : x.at + g.row.N - x.at ≡ g.row.N = omega arith in
    c.copy_from_slice.ensures.after ∙ ap (λ (k : ℕ). take k (drop x.at x.cells.now)) n ∙ part-taken x.cells.now x.at g.row.N (omega (arith, c.requires))
