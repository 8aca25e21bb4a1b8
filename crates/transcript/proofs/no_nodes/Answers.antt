-- `transcript::no_nodes` meets its contract.
use mathlib.Core.Path.{refl}
use Rattle.arena.specs.Layout.{rows, encode}
use Rattle.transcript.proofs.no_nodes.Goals as goal

pub returns : goal.returns
unfolding encode rows
returns c = refl
