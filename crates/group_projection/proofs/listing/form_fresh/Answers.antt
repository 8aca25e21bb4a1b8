-- `group_projection::listing::form_fresh` meets its contract.
use mathlib.Core.Bool.{not}
use mathlib.Core.Path.{◌∙◌}
use borrow.Author.Rules.{rules}
use borrow.Author.Tests.{tests}
use lib.Dec.{eqb}
use lib.ListN.{get_or}
use Rattle.laws.proofs.Runs.{each-all}
use Rattle.group_projection.proofs.SourceLaws.{fresh-front}
use Rattle.group_projection.proofs.listing.form_fresh.Goals as goal

pub returns : goal.returns
returns c =
    let x = c.args in
    each-all (λ k. not (eqb (get_or x.numbers k 0) (get_or x.numbers x.i 0))) x.i _ _ _ c.all.ensures.ran (λ k b q h. search (rules, tests)) ∙ fresh-front x.numbers x.n x.i c.requires.0
