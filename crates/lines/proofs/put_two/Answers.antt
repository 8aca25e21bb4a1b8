-- `lines::put_two` meets its contract.
use Prim.Native.Nat.{ℕ}
use mathlib.Core.List.{List, ◌∷◌, []}
use mathlib.Core.Path.{sym, subst}
use Rattle.lines.specs.Text.{decimal}
use Rattle.lines.specs.Writing.{Put, RoomFor}
use Rattle.lines.proofs.Chains.{room-1, room-2, room-3, room-4, put_four, two-text}
use Rattle.lines.proofs.put_two.Goals as goal

pub put_byte-one-requires : goal.put_byte-one-requires
put_byte-one-requires c =
    room-1 c.args.out.now c.args.at (c.args.letter ∷ []) (32 ∷ decimal c.args.a) (32 ∷ decimal c.args.b) (10 ∷ []) (subst (λ (t : List ℕ). RoomFor c.args.out.now c.args.at t) (two-text c.args.letter c.args.a c.args.b) c.requires)

pub put_number-two-requires : goal.put_number-two-requires
put_number-two-requires c =
    room-2 c.args.out.now c.args.at (c.args.letter ∷ []) (32 ∷ decimal c.args.a) (32 ∷ decimal c.args.b) (10 ∷ []) (subst (λ (t : List ℕ). RoomFor c.args.out.now c.args.at t) (two-text c.args.letter c.args.a c.args.b) c.requires) c.put_byte-one.new.out c.put_byte-one.result c.put_byte-one.ensures

pub put_number-three-requires : goal.put_number-three-requires
put_number-three-requires c =
    room-3 c.args.out.now c.args.at (c.args.letter ∷ []) (32 ∷ decimal c.args.a) (32 ∷ decimal c.args.b) (10 ∷ []) (subst (λ (t : List ℕ). RoomFor c.args.out.now c.args.at t) (two-text c.args.letter c.args.a c.args.b) c.requires) c.put_byte-one.new.out c.put_byte-one.result c.put_byte-one.ensures c.put_number-two.new.out c.put_number-two.result c.put_number-two.ensures

pub put_byte-requires : goal.put_byte-requires
put_byte-requires c =
    room-4 c.args.out.now c.args.at (c.args.letter ∷ []) (32 ∷ decimal c.args.a) (32 ∷ decimal c.args.b) (10 ∷ []) (subst (λ (t : List ℕ). RoomFor c.args.out.now c.args.at t) (two-text c.args.letter c.args.a c.args.b) c.requires) c.put_byte-one.new.out c.put_byte-one.result c.put_byte-one.ensures c.put_number-two.new.out c.put_number-two.result c.put_number-two.ensures c.put_number-three.new.out c.put_number-three.result c.put_number-three.ensures

pub returns : goal.returns
returns c =
    subst (λ (t : List ℕ). Put c.args.out.now c.args.at t c.put_byte.new.out c.put_byte.result) (sym (two-text c.args.letter c.args.a c.args.b)) (put_four c.args.out.now c.args.at (c.args.letter ∷ []) (32 ∷ decimal c.args.a) (32 ∷ decimal c.args.b) (10 ∷ []) (subst (λ (t : List ℕ). RoomFor c.args.out.now c.args.at t) (two-text c.args.letter c.args.a c.args.b) c.requires) c.put_byte-one.new.out c.put_byte-one.result c.put_byte-one.ensures c.put_number-two.new.out c.put_number-two.result c.put_number-two.ensures c.put_number-three.new.out c.put_number-three.result c.put_number-three.ensures c.put_byte.new.out c.put_byte.result c.put_byte.ensures)
