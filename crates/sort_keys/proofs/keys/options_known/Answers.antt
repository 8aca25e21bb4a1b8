-- `sort_keys::keys::options_known` meets its contract.
use Rattle.std.proofs.Common.{◌+◌, ◌*◌, ◌/◌, rules, tests, leb, length, get_or}
use Rattle.laws.proofs.Runs.{each-all}
use Rattle.sort_keys.specs.Layout.{options_known}
use Rattle.sort_keys.proofs.keys.options_known.Goals as goal

pub returns : goal.returns
unfolding options_known
returns c =
    each-all (λ k. leb (get_or c.args.keys.now (2 * k + 1) 0) 3) (length c.args.keys.now / 2) _ _ _ c.all.ensures.ran (λ x b q k. search (rules, tests))
