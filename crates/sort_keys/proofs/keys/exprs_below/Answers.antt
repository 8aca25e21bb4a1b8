-- `sort_keys::keys::exprs_below` meets its contract.
use Rattle.std.proofs.Common.{◌*◌, ◌/◌, rules, tests, ltb, length, get_or}
use Rattle.laws.proofs.Runs.{each-all}
use Rattle.sort_keys.proofs.keys.exprs_below.Goals as goal

pub returns : goal.returns
returns c =
    each-all (λ k. ltb (get_or c.args.keys.now (2 * k) 0) c.args.n) (length c.args.keys.now / 2) _ _ _ c.all.ensures.ran (λ x b q k. search (rules, tests))
