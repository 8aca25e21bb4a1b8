-- `enumeration::marking::next_open` meets its contract.
use Rattle.std.proofs.Common.{◌≡◌, rules, tests, true, false, get_or, subst, sym}
use Rattle.std.proofs.lemmas.Iterator.{first_from_Range}
use Rattle.enumeration.specs.Inner.{Opened}
use Rattle.enumeration.proofs.Marks.{opened-first}
use Rattle.enumeration.proofs.marking.next_open.Goals as goal

pub returns : goal.returns
returns c =
    let x = c.args in
    subst (Opened x.seen x.from x.size) (sym c.unwrap_or.ensures)
    (opened-first x.seen x.from x.size c.find.result c.requires.0
    (first_from_Range _ _ _ c.find.result (λ k. get_or x.seen.told k false ≡ false) (λ k. get_or x.seen.told k false ≡ true) c.find.ensures.ran (λ k q w. search (rules, tests)) (λ k q w. search (rules, tests))))
