-- `lent_classes::lent::new_number` meets its contract.
use mathlib.Core.Bool.{true, false}
use mathlib.Core.Path.{sym, ap, ◌∙◌}
use Rattle.arena.specs.Refusals.{outcome, refusal}
use Rattle.arena.proofs.Layouts.{lawful-holds}
use Rattle.lent_classes.proofs.NumberLaws.{new-flavours, new-arena, new-whole, new_apart, new-uniform, new-below, new-fits}
use Rattle.lent_classes.proofs.lent.new_number.Goals as goal

pub returns-then-not-flavours_known : goal.returns-then-not-flavours_known
unfolding outcome refusal
returns-then-not-flavours_known c =
    let x = c.args in
    ap outcome (new-flavours x.cells.now x.numbers.now (sym c.flavours_known.ensures ∙ c.if-not-flavours_known.true))

pub returns-then-not-lawful_arena : goal.returns-then-not-lawful_arena
unfolding outcome refusal
returns-then-not-lawful_arena c =
    let x = c.args in
    ap outcome (new-arena x.cells.now x.numbers.now (sym c.flavours_known.ensures ∙ c.if-not-flavours_known.false) (sym c.lawful_arena.ensures ∙ c.if-not-lawful_arena.true))

pub returns-then-not-is_whole : goal.returns-then-not-is_whole
unfolding outcome refusal
returns-then-not-is_whole c =
    let x = c.args in
    ap outcome (new-whole x.cells.now x.numbers.now (sym c.flavours_known.ensures ∙ c.if-not-flavours_known.false) (sym c.lawful_arena.ensures ∙ c.if-not-lawful_arena.false) (sym c.is_whole.ensures ∙ c.if-not-is_whole.true))

pub members_apart-requires : goal.members_apart-requires
members_apart-requires c = sym c.is_whole.ensures ∙ c.if-not-is_whole.false

pub returns-then-not-members_apart : goal.returns-then-not-members_apart
unfolding outcome refusal
returns-then-not-members_apart c =
    let x = c.args in
    ap outcome (new_apart x.cells.now x.numbers.now (sym c.flavours_known.ensures ∙ c.if-not-flavours_known.false) (sym c.lawful_arena.ensures ∙ c.if-not-lawful_arena.false) (sym c.is_whole.ensures ∙ c.if-not-is_whole.false) (sym c.members_apart.ensures ∙ c.if-not-members_apart.true))

pub literals_uniform-requires : goal.literals_uniform-requires
literals_uniform-requires c =
    let x = c.args in
    (lawful-holds x.cells.now (sym c.lawful_arena.ensures ∙ c.if-not-lawful_arena.false), sym c.is_whole.ensures ∙ c.if-not-is_whole.false)

pub returns-then-not-literals_uniform : goal.returns-then-not-literals_uniform
unfolding outcome refusal
returns-then-not-literals_uniform c =
    let x = c.args in
    ap outcome (new-uniform x.cells.now x.numbers.now (sym c.flavours_known.ensures ∙ c.if-not-flavours_known.false) (sym c.lawful_arena.ensures ∙ c.if-not-lawful_arena.false) (sym c.is_whole.ensures ∙ c.if-not-is_whole.false) (sym c.members_apart.ensures ∙ c.if-not-members_apart.false) (sym c.literals_uniform.ensures ∙ c.if-not-literals_uniform.true))

pub members_below-requires : goal.members_below-requires
members_below-requires c = sym c.is_whole.ensures ∙ c.if-not-is_whole.false

pub returns-then-not-members_below : goal.returns-then-not-members_below
unfolding outcome refusal
returns-then-not-members_below c =
    let x = c.args in
    ap outcome (new-below x.cells.now x.numbers.now (sym c.flavours_known.ensures ∙ c.if-not-flavours_known.false) (sym c.lawful_arena.ensures ∙ c.if-not-lawful_arena.false) (sym c.is_whole.ensures ∙ c.if-not-is_whole.false) (sym c.members_apart.ensures ∙ c.if-not-members_apart.false) (sym c.literals_uniform.ensures ∙ c.if-not-literals_uniform.false) c.node_count.result c.node_count.ensures (sym c.members_below.ensures ∙ c.if-not-members_below.true))

pub list_fits-requires : goal.list_fits-requires
list_fits-requires c = sym c.is_whole.ensures ∙ c.if-not-is_whole.false

pub returns-then-not-list_fits : goal.returns-then-not-list_fits
unfolding outcome refusal
returns-then-not-list_fits c =
    let x = c.args in
    ap outcome (new-fits x.cells.now x.numbers.now (sym c.flavours_known.ensures ∙ c.if-not-flavours_known.false) (sym c.lawful_arena.ensures ∙ c.if-not-lawful_arena.false) (sym c.is_whole.ensures ∙ c.if-not-is_whole.false) (sym c.members_apart.ensures ∙ c.if-not-members_apart.false) (sym c.literals_uniform.ensures ∙ c.if-not-literals_uniform.false) c.node_count.result c.node_count.ensures (sym c.members_below.ensures ∙ c.if-not-members_below.false) false (sym c.list_fits.ensures ∙ c.if-not-list_fits.true))

pub returns : goal.returns
unfolding outcome refusal
returns c =
    let x = c.args in
    ap outcome (new-fits x.cells.now x.numbers.now (sym c.flavours_known.ensures ∙ c.if-not-flavours_known.false) (sym c.lawful_arena.ensures ∙ c.if-not-lawful_arena.false) (sym c.is_whole.ensures ∙ c.if-not-is_whole.false) (sym c.members_apart.ensures ∙ c.if-not-members_apart.false) (sym c.literals_uniform.ensures ∙ c.if-not-literals_uniform.false) c.node_count.result c.node_count.ensures (sym c.members_below.ensures ∙ c.if-not-members_below.false) true (sym c.list_fits.ensures ∙ c.if-not-list_fits.false))
