-- `unchecked::unchecked_generate_dependency_orderings` meets its contract.
use Rattle.std.proofs.Common.{length, map, sym, ap, subst, ◌∙◌}
use Rattle.sort_keys.specs.Layout.{keys_of, packed}
use Rattle.dependencies.specs.Inner.{Held}
use Rattle.dependencies.specs.Layout.{decode}
use Rattle.dependencies.specs.declared.DependencyMap.{DependencyMap}
use Rattle.products.specs.Generate.{contributing}
use Rattle.dependency_orderings.specs.Calls.{Answer, gathered_answer, different}
use Rattle.answers.specs.Answers.{enumerated_in}
use Rattle.unchecked.proofs.Carried.{put_first}
use Rattle.unchecked.proofs.unchecked_generate_dependency_orderings.Goals as goal

pub gather-requires : goal.gather-requires
gather-requires c =
    (subst Held (sym c.load_map.ensures) c.requires.0, c.requires.1)

pub answer_gathered-enumerated-requires : goal.answer_gathered-enumerated-requires
answer_gathered-enumerated-requires c =
    record { map = c.load_map.result; keys = map packed (keys_of c.args.keys.now); gathers = c.gather.ensures }

pub returns : goal.returns
returns c =
    let x = c.args in
    let ks = x.keys.now in
    let a = c.answer_gathered-enumerated in
    let m = c.load_map in
    let p = c.put_enumerated in
    let is : DependencyMap → Answer = λ d. gathered_answer (contributing (decode d) (different ks)) (length (different ks)) x.output.now in
    put_first (enumerated_in x.answer.now) a.result (p.result, p.new.answer) a.new.out _ p.ensures (a.ensures m.result (map packed (keys_of ks)) c.gather.ensures ∙ ap is m.ensures)
