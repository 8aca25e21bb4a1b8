-- `group_records::group::members_fit` meets its contract.
use Rattle.std.proofs.Common.{◌+◌, ◌*◌, not, ◌&&◌, ◌||◌, ltb, leb, length, rules, tests, refl, sym, ◌∙◌}
use Rattle.laws.proofs.Each.{each_cong}
use Rattle.laws.proofs.Runs.{each-all}
use Rattle.arena.specs.Node.{node_at}
use Rattle.arena.specs.Layout.{decode as nodes}
use Rattle.classes.specs.Layout.{is_literal}
use Rattle.records.specs.Fields.{field}
use Rattle.group_records.proofs.GroupWalk.{fits-at}
use Rattle.group_records.proofs.group.members_fit.Goals as goal

pub returns : goal.returns
returns c =
    let x = c.args in
    let ns = nodes x.cells.now in
    each-all (λ k. not (ltb (field x.body.now (x.at + 2 * k)) (length ns) && is_literal (node_at ns (field x.body.now (x.at + 2 * k)))) || leb 2 x.flavour) x.m _ _ _ c.all.ensures.ran (λ x b q k. search (rules, tests))
    ∙ each_cong _ _ x.m (λ k l. sym (fits-at ns x.body.now x.at x.m x.flavour k _ l refl))
