-- `sort_keys::keys::keep` meets its contract.
use Rattle.sort_keys.proofs.KeyLaws.{kept-not, kept-one}
use mathlib.Core.Path.{sym, ◌∙◌}
use native.Mathlib.Omega.{arith}
use Rattle.arena.specs.Layout.{decode as nodes}
use Rattle.sort_keys.proofs.keys.keep.Goals as goal

pub is_uniform_constant-requires : goal.is_uniform_constant-requires
is_uniform_constant-requires c =
    c.requires.0

pub returns-then-is_uniform_constant : goal.returns-then-is_uniform_constant
returns-then-is_uniform_constant c =
    kept-not c.args.out c.args.e c.args.options (nodes c.args.cells.now) c.args.old c.args.marks.now (sym c.if-is_uniform_constant.true ∙ c.is_uniform_constant.ensures)

pub push-requires : goal.push-requires
push-requires c =
    (omega (arith, c.requires.0.0.below, c.requires.0.0.holds.few), c.requires.1)

pub returns : goal.returns
returns c =
    c.push.ensures ∙ kept-one c.args.out c.args.e c.args.options (nodes c.args.cells.now) c.args.old c.args.marks.now (sym c.if-is_uniform_constant.false ∙ c.is_uniform_constant.ensures)
