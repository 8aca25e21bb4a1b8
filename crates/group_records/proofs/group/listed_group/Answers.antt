-- `group_records::group::listed_group` meets its contract.
use mathlib.Core.Bool.{true, false}
use mathlib.Core.Path.{◌≡◌, sym, ◌∙◌}
use Rattle.arena.specs.Layout.{decode as nodes}
use Rattle.arena.proofs.Layouts.{lawful-holds}
use Rattle.group_records.specs.GroupRecord.{members_apart, literals_uniform, members_known}
use Rattle.group_records.specs.Inner.{given_of}
use Rattle.group_records.proofs.GroupBuild.{apart-is, known_is, refuse_twice, refuse_literal, refuse_unknown, built-read}
use Rattle.group_records.proofs.group.listed_group.Goals as goal
use Rattle.group_records.proofs.group.listed_group.Goals.{then-not-numbers_apart-via-then-not-numbers_apart, then-not-numbers_apart-via-else-not-numbers_apart+then-not-literals_uniform}

pub numbers_apart-requires : goal.numbers_apart-requires
numbers_apart-requires c =
    c.requires.low

pub returns-then-not-numbers_apart : goal.returns-then-not-numbers_apart
returns-then-not-numbers_apart c =
    let x = c.args in
    let h = c.requires in
    elim c.then-not-numbers_apart.branch [
      | then-not-numbers_apart-via-then-not-numbers_apart w ↦ refuse_twice x.cells.now x.body.now h.shaped c.no_group.result h.known c.no_group.ensures (sym (apart-is x.cells.now x.body.now x.numbers.now h) ∙ sym c.numbers_apart.ensures ∙ w.if-not-numbers_apart.true)
      | then-not-numbers_apart-via-else-not-numbers_apart+then-not-literals_uniform w ↦ refuse_literal x.cells.now x.body.now h.shaped c.no_group.result h.known c.no_group.ensures (sym w.literals_uniform.ensures ∙ w.if-not-literals_uniform.true)
    ]

pub literals_uniform-requires : goal.literals_uniform-requires
literals_uniform-requires c =
    (lawful-holds c.args.cells.now c.requires.arena, c.requires.shaped)

pub returns-then-not-all_below : goal.returns-then-not-all_below
returns-then-not-all_below c =
    let x = c.args in
    let h = c.requires in
    let d : members_apart (given_of x.body.now) ≡ true = sym (apart-is x.cells.now x.body.now x.numbers.now h) ∙ sym c.numbers_apart.ensures ∙ c.if-not-numbers_apart.false in
    let u : literals_uniform (nodes x.cells.now) (given_of x.body.now) ≡ true = sym c.literals_uniform.ensures ∙ c.if-not-literals_uniform.false in
    let m : members_known (nodes x.cells.now) (given_of x.body.now) ≡ false = sym (known_is x.cells.now x.body.now x.numbers.now h c.node_count.result c.node_count.ensures) ∙ sym c.all_below.ensures ∙ c.if-not-all_below.true in
    refuse_unknown x.cells.now x.body.now h.shaped c.no_group-then-not-all_below.result h.known h.arena h.filled d u c.no_group-then-not-all_below.ensures m

pub build-requires : goal.build-requires
build-requires c =
    (c.requires.shaped, (c.requires.known, c.requires.members))

pub returns : goal.returns
returns c =
    let x = c.args in
    let h = c.requires in
    let d : members_apart (given_of x.body.now) ≡ true = sym (apart-is x.cells.now x.body.now x.numbers.now h) ∙ sym c.numbers_apart.ensures ∙ c.if-not-numbers_apart.false in
    let u : literals_uniform (nodes x.cells.now) (given_of x.body.now) ≡ true = sym c.literals_uniform.ensures ∙ c.if-not-literals_uniform.false in
    let m : members_known (nodes x.cells.now) (given_of x.body.now) ≡ true = sym (known_is x.cells.now x.body.now x.numbers.now h c.node_count.result c.node_count.ensures) ∙ sym c.all_below.ensures ∙ c.if-not-all_below.false in
    built-read x.cells.now x.body.now h.shaped c.build.result h.known h.arena h.filled d u c.build.ensures m
