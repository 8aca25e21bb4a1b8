-- `group_projection::listing::add_source_class` meets its contract.
use mathlib.Core.Path.{sym}
use native.Mathlib.Omega.{arith}
use lib.ListN.{take}
use lib.Seq.{get_or-take}
use Rattle.arena.specs.Layout.{decode as nodes}
use Rattle.arena.proofs.Refusals.{handed-on}
use Rattle.group_projection.proofs.SourceLaws.{form-not, form-over, form-asks, form-kept}
use borrow.Author.Rules.{rules}
use Rattle.group_projection.proofs.listing.add_source_class.Goals as goal

pub form_fresh-requires : goal.form_fresh-requires
form_fresh-requires c = (c.requires.0.1, c.requires.1.1.bounded.few)

pub returns-then-not-form_fresh : goal.returns-then-not-form_fresh
returns-then-not-form_fresh c =
    form-not (nodes c.args.cells.now) c.args.out c.requires.0.0 c.args.m (take c.args.m.count c.args.numbers) c.args.i c.form_fresh.result c.form_fresh.ensures c.if-not-form_fresh.true

pub offset_bounds-numbers-i : goal.offset_bounds-numbers-i
offset_bounds-numbers-i c =
    search rules

pub bounds-numbers-i : goal.bounds-numbers-i
bounds-numbers-i c = omega (arith, c.requires.0.1, c.requires.1.1.bounded.few)

pub source_class-requires : goal.source_class-requires
source_class-requires c = c.requires.1

pub returns-in_err-source_class : goal.returns-in_err-source_class
returns-in_err-source_class c =
    rw (handed-on _ _ c.from_residual.ensures.1) (form-over (nodes c.args.cells.now) c.args.out c.requires.0.0 c.args.m (take c.args.m.count c.args.numbers) c.args.i c.form_fresh.result c.form_fresh.ensures c.if-not-form_fresh.false
    _ (sym (get_or-take c.args.m.count c.args.numbers c.args.i 0 c.requires.0.1)) c.source_class.result c.source_class.ensures _ c.in_err-source_class.was)

pub keep_class-requires : goal.keep_class-requires
keep_class-requires c =
    form-asks (nodes c.args.cells.now) c.args.out c.requires.0.0 c.args.m (take c.args.m.count c.args.numbers) c.args.i c.form_fresh.result c.form_fresh.ensures c.if-not-form_fresh.false
    _ (sym (get_or-take c.args.m.count c.args.numbers c.args.i 0 c.requires.0.1)) c.source_class.result c.source_class.ensures c.in_ok-source_class.field-0 c.in_ok-source_class.was

pub returns : goal.returns
returns c =
    form-kept (nodes c.args.cells.now) c.args.out c.requires.0.0 c.args.m (take c.args.m.count c.args.numbers) c.args.i c.form_fresh.result c.form_fresh.ensures c.if-not-form_fresh.false
    _ (sym (get_or-take c.args.m.count c.args.numbers c.args.i 0 c.requires.0.1)) c.source_class.result c.source_class.ensures c.in_ok-source_class.field-0 c.in_ok-source_class.was c.keep_class.result c.keep_class.ensures
