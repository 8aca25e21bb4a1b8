-- `mappings::lent::read_mapping` meets its contract.
use Prim.Native.Nat.{◌+◌}
use Rattle.mappings.proofs.LentSources.{next_place}
use Rattle.mappings.proofs.MappingBuild.{building-begins, building-room, building-whole, building-on, building-ends, count_of}
use borrow.Author.Rules.{rules}
use Rattle.mappings.proofs.lent.read_mapping.Goals as goal

pub loop-at-init : goal.loop-at-init
loop-at-init c =
    (search rules, building-begins c.args.numbers.now c.nothing.result c.requires.0)

pub source_at-requires : goal.source_at-requires
source_at-requires c =
    let l = c.loop-at in
    (search rules, building-whole c.args.numbers.now l.out l.at l.invariant.1 (search rules))

pub offset_bounds-out-end : goal.offset_bounds-out-end
offset_bounds-out-end c =
    let l = c.loop-at in
    let r = building-room c.args.numbers.now l.out l.at l.invariant.1 c.requires.1 (search rules) in search rules

pub bounds-out-end : goal.bounds-out-end
bounds-out-end c =
    let l = c.loop-at in
    building-room c.args.numbers.now l.out l.at l.invariant.1 c.requires.1 (search rules)

pub overflow_add-out : goal.overflow_add-out
overflow_add-out c =
    let l = c.loop-at in
    let r = building-room c.args.numbers.now l.out l.at l.invariant.1 c.requires.1 (search rules) in search rules

pub loop-at-preserved : goal.loop-at-preserved
loop-at-preserved c =
    let ns = c.args.numbers.now in
    let l = c.loop-at in (
      l.invariant.0,
      building-on ns l.out l.at l.invariant.1 c.source_at.result (l.at + (2 + c.count_at.result)) (search rules)
          (building-room ns l.out l.at l.invariant.1 c.requires.1 (search rules)) (next_place ns l.at c.count_at.result c.count_at.ensures.0) c.source_at.ensures.0,
    )

pub returns : goal.returns
returns c =
    let ns = c.args.numbers.now in
    let l = c.loop-at in
    let e = building-ends ns l.out l.at l.invariant.1 (search rules) in
    (e, count_of ns l.out e c.requires.1)
