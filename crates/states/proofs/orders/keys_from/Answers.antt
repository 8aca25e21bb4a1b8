-- `states::orders::keys_from` meets its contract.
use Rattle.std.proofs.Common.{◌+◌, ◌-◌, ◌≡◌, ℕ, take, drop, ap, ◌∙◌, arith}
use Rattle.states.proofs.Taken.{part-taken}
use Rattle.states.proofs.orders.keys_from.Goals as goal

pub returns : goal.returns
returns c =
    let x = c.args in
    let n : x.at + 16 - x.at ≡ 16 = omega arith in
    c.copy_from_slice.ensures.after ∙ ap (λ (k : ℕ). take k (drop x.at x.cells.now)) n ∙ part-taken x.cells.now x.at 16 (omega (arith, c.requires))
