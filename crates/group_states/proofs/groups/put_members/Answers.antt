-- `group_states::groups::put_members` meets its contract.
use mathlib.Core.List.{◌++◌}
use mathlib.Core.Path.{◌≡◌, sym, ◌∙◌}
use native.Mathlib.Omega.{arith}
use lib.ListN.{length, take}
use Rattle.states.proofs.Taken.{taken-all}
use borrow.Author.Rules.{rules}
use Rattle.group_states.proofs.groups.put_members.Goals as goal

pub returns : goal.returns
returns c =
    let n : length c.args.members ≡ 256 = c.well_formed.0.1.0.1 in
    let l : length c.args.cells.now ≡ 451 = search rules in
    let m : length c.put_numbers.new.cells ≡ length c.args.cells.now = search rules in
    let e : take 451 c.put_numbers.new.cells ≡ take 195 c.args.cells.now ++ c.args.members = rw n at c.put_numbers.ensures in
    sym (taken-all c.put_numbers.new.cells 451 (omega (arith, l, m))) ∙ e
