-- `projection::listing::output_of` meets its contract.
use native.Mathlib.Omega.{arith}
use Rattle.projection.proofs.Written.{output-none, output-some}
use Rattle.projection.proofs.listing.output_of.Goals as goal

pub returns-then-entry-lt2 : goal.returns-then-entry-lt2
returns-then-entry-lt2 c = output-none c.args.entry c.if-entry-lt2.true

pub returns-else-entry-lt2 : goal.returns-else-entry-lt2
returns-else-entry-lt2 c = output-some c.args.entry (omega (arith, c.if-entry-lt2.false))
