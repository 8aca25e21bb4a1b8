-- `group_projection::listing::push_entry` meets its contract.
use Prim.Native.Nat.{◌-◌}
use native.Mathlib.Omega.{arith}
use Rattle.arena.specs.Layout.{decode as nodes}
use Rattle.group_projection.proofs.OneLaws.{push-asks}
use Rattle.group_projection.proofs.ProjectedParts.{entry-keeps, entry_pushes}
use Rattle.group_projection.proofs.listing.push_entry.Goals as goal

pub returns-then-entry-lt2 : goal.returns-then-entry-lt2
returns-then-entry-lt2 c = entry-keeps (nodes c.args.cells.now) c.args.one c.requires.0.0 c.args.entry c.if-entry-lt2.true

pub push-requires : goal.push-requires
push-requires c = (push-asks (nodes c.args.cells.now) c.args.one c.requires.0.0 (c.args.entry - 2) c.requires.0.1, record { holds = c.requires.1.0; below = omega (arith, c.if-entry-lt2.false, c.requires.1.1) })

pub returns : goal.returns
returns c = entry_pushes (nodes c.args.cells.now) c.args.one c.requires.0.0 c.args.entry c.if-entry-lt2.false c.push.result c.push.ensures
