-- `reduction::reducing::overlap` meets its contract.
use Rattle.std.proofs.Common.{◌≡◌, rules, tests, ap, ◌∙◌}
use Rattle.laws.specs.Tests.{first}
use Rattle.laws.proofs.Runs.{first-find}
use Rattle.reduction.specs.Inner.{overlap_number}
use Rattle.reduction.proofs.Meeting.{Meets, overlap-first}
use Rattle.reduction.proofs.reducing.overlap.Goals as goal

pub returns : goal.returns
unfolding overlap_number
returns c =
    let f : c.find.result ≡ first (Meets c.args.a c.args.b) c.min-most.result = first-find (Meets c.args.a c.args.b) c.min-most.result _ _ _ c.find.ensures.ran (λ x b q k. search (rules, tests)) in
    let m : c.map_or.result ≡ overlap_number c.find.result = search (rules, tests) in
    m ∙ ap overlap_number (f ∙ ap (first (Meets c.args.a c.args.b)) c.min-most.ensures ∙ overlap-first c.args.a c.args.b)
