-- `lines::put_byte` meets its contract.
use native.Mathlib.Omega.{arith}
use Rattle.lines.proofs.Puts.{put_one}
use Rattle.lines.proofs.put_byte.Goals as goal

pub returns : goal.returns
returns c = put_one c.args.out.now c.args.at c.args.byte (omega (arith, c.requires))
