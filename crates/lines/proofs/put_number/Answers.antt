-- `lines::put_number` meets its contract.
use mathlib.Core.List.{◌∷◌, []}
use Rattle.lines.specs.Text.{decimal}
use Rattle.lines.proofs.Puts.{put-fits, put_both}
use Rattle.lines.proofs.put_number.Goals as goal

pub returns : goal.returns
returns c =
    put_both c.args.out.now c.args.at (32 ∷ []) c.put_byte-next.new.out c.put_byte-next.result (put-fits c.args.out.now c.args.at (32 ∷ []) (decimal c.args.x) c.requires) c.put_byte-next.ensures (decimal c.args.x) c.put_decimal.new.out c.put_decimal.result c.put_decimal.ensures
