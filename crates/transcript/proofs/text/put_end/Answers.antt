-- `transcript::text::put_end` meets its contract.
use mathlib.Core.List.{◌∷◌, [], ◌++◌}
use Rattle.lines.specs.Text.{spaced, line}
use Rattle.lines.proofs.Chains.{room-1, room-2, room-3, room-4, put_four}
use Rattle.transcript.proofs.text.put_end.Goals as goal

pub put_byte-one-requires : goal.put_byte-one-requires
unfolding line
put_byte-one-requires c =
    room-1 c.args.out.now c.args.at (101 ∷ []) (110 ∷ []) (100 ∷ []) (spaced (c.args.h.group.count ∷ c.args.h.group.used ∷ c.args.h.list.count ∷ []) ++ (10 ∷ [])) c.requires

pub put_byte-two-requires : goal.put_byte-two-requires
unfolding line
put_byte-two-requires c =
    room-2 c.args.out.now c.args.at (101 ∷ []) (110 ∷ []) (100 ∷ []) (spaced (c.args.h.group.count ∷ c.args.h.group.used ∷ c.args.h.list.count ∷ []) ++ (10 ∷ [])) c.requires c.put_byte-one.new.out c.put_byte-one.result c.put_byte-one.ensures

pub put_byte-three-requires : goal.put_byte-three-requires
unfolding line
put_byte-three-requires c =
    room-3 c.args.out.now c.args.at (101 ∷ []) (110 ∷ []) (100 ∷ []) (spaced (c.args.h.group.count ∷ c.args.h.group.used ∷ c.args.h.list.count ∷ []) ++ (10 ∷ [])) c.requires c.put_byte-one.new.out c.put_byte-one.result c.put_byte-one.ensures c.put_byte-two.new.out c.put_byte-two.result c.put_byte-two.ensures

pub put_three-requires : goal.put_three-requires
unfolding line
put_three-requires c =
    room-4 c.args.out.now c.args.at (101 ∷ []) (110 ∷ []) (100 ∷ []) (spaced (c.args.h.group.count ∷ c.args.h.group.used ∷ c.args.h.list.count ∷ []) ++ (10 ∷ [])) c.requires c.put_byte-one.new.out c.put_byte-one.result c.put_byte-one.ensures c.put_byte-two.new.out c.put_byte-two.result c.put_byte-two.ensures c.put_byte-three.new.out c.put_byte-three.result c.put_byte-three.ensures

pub returns : goal.returns
unfolding line
returns c =
    put_four c.args.out.now c.args.at (101 ∷ []) (110 ∷ []) (100 ∷ []) (spaced (c.args.h.group.count ∷ c.args.h.group.used ∷ c.args.h.list.count ∷ []) ++ (10 ∷ [])) c.requires c.put_byte-one.new.out c.put_byte-one.result c.put_byte-one.ensures c.put_byte-two.new.out c.put_byte-two.result c.put_byte-two.ensures c.put_byte-three.new.out c.put_byte-three.result c.put_byte-three.ensures c.put_three.new.out c.put_three.result c.put_three.ensures
