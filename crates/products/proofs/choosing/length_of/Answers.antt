-- `products::choosing::length_of` meets its contract.
use native.Mathlib.Omega.{arith}
use Rattle.products.proofs.Choices.{length-is}
use Rattle.products.proofs.choosing.length_of.Goals as goal

pub offset_bounds-s-j : goal.offset_bounds-s-j
offset_bounds-s-j c = omega (arith, c.requires.0.few, c.requires.1)

pub bounds-s-j : goal.bounds-s-j
bounds-s-j c = omega (arith, c.requires.0.few, c.requires.1)

pub start_of-requires : goal.start_of-requires
start_of-requires c = omega (arith, c.requires.0.few, c.requires.1)

pub overflow_sub-result : goal.overflow_sub-result
overflow_sub-result c = omega (arith, c.requires.0.rise c.args.j c.requires.1, c.start_of.ensures)

pub returns : goal.returns
returns c = length-is c.args.s c.args.j c.start_of.result c.start_of.ensures
