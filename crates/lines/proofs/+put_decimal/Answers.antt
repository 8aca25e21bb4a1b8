-- `lines::put_decimal` meets its contract: it calls itself.
use native.Mathlib.Omega.{arith}
use Prim.Native.Nat.{◌+◌, ◌%◌}
use mathlib.Core.List.{◌∷◌, []}
use Rattle.lines.proofs.Puts.{put-length}
use Rattle.lines.proofs.Digits.{digit_room, digit_put, more_room, last-room, more-length, more-put}
use Rattle.lines.proofs.+put_decimal.Goals as goal

pub put_byte-requires : goal.put_byte-requires
put_byte-requires t c = digit_room c.args.out.now c.args.at c.args.x c.requires c.if-x-lt10.true

pub shape_of-out-then-x-lt10 : goal.shape_of-out-then-x-lt10
shape_of-out-then-x-lt10 t c = put-length c.args.out.now c.args.at ((48 + c.args.x % 10) ∷ []) c.put_byte.new.out c.put_byte.result (digit_room c.args.out.now c.args.at c.args.x c.requires c.if-x-lt10.true) c.put_byte.ensures

pub returns-then-x-lt10 : goal.returns-then-x-lt10
returns-then-x-lt10 t c = digit_put c.args.out.now c.args.at c.args.x c.put_byte.new.out c.put_byte.result c.if-x-lt10.true c.put_byte.ensures

pub put_decimal-next-requires : goal.put_decimal-next-requires
put_decimal-next-requires t c = (omega (arith, c.decreases, c.if-x-lt10.false), more_room c.args.out.now c.args.at c.args.x c.if-x-lt10.false c.requires)

pub put_byte-requires-2 : goal.put_byte-requires-2
put_byte-requires-2 t c = last-room c.args.out.now c.args.at c.args.x c.if-x-lt10.false c.requires c.put_decimal-next.new.out c.put_decimal-next.result c.put_decimal-next.ensures

pub shape_of-out : goal.shape_of-out
shape_of-out t c = more-length c.args.out.now c.args.at c.args.x c.if-x-lt10.false c.requires c.put_decimal-next.new.out c.put_decimal-next.result c.put_decimal-next.ensures c.put_byte-2.new.out c.put_byte-2.result c.put_byte-2.ensures

pub returns : goal.returns
returns t c = more-put c.args.out.now c.args.at c.args.x c.if-x-lt10.false c.requires c.put_decimal-next.new.out c.put_decimal-next.result c.put_decimal-next.ensures c.put_byte-2.new.out c.put_byte-2.result c.put_byte-2.ensures
