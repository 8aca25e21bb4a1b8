-- `lines::put_three` meets its contract.
use Prim.Native.Nat.{ℕ}
use mathlib.Core.List.{List, ◌∷◌, []}
use mathlib.Core.Path.{sym, subst}
use Rattle.lines.specs.Text.{decimal}
use Rattle.lines.specs.Writing.{Put, RoomFor}
use Rattle.lines.proofs.Chains.{room-1, room-2, room-3, room-4, put_four, three-text}
use Rattle.lines.proofs.put_three.Goals as goal

pub put_number-one-requires : goal.put_number-one-requires
put_number-one-requires c =
    room-1 c.args.out.now c.args.at (32 ∷ decimal c.args.a) (32 ∷ decimal c.args.b) (32 ∷ decimal c.args.c) (10 ∷ []) (subst (λ (t : List ℕ). RoomFor c.args.out.now c.args.at t) (three-text c.args.a c.args.b c.args.c) c.requires)

pub put_number-two-requires : goal.put_number-two-requires
put_number-two-requires c =
    room-2 c.args.out.now c.args.at (32 ∷ decimal c.args.a) (32 ∷ decimal c.args.b) (32 ∷ decimal c.args.c) (10 ∷ []) (subst (λ (t : List ℕ). RoomFor c.args.out.now c.args.at t) (three-text c.args.a c.args.b c.args.c) c.requires) c.put_number-one.new.out c.put_number-one.result c.put_number-one.ensures

pub put_number-past-requires : goal.put_number-past-requires
put_number-past-requires c =
    room-3 c.args.out.now c.args.at (32 ∷ decimal c.args.a) (32 ∷ decimal c.args.b) (32 ∷ decimal c.args.c) (10 ∷ []) (subst (λ (t : List ℕ). RoomFor c.args.out.now c.args.at t) (three-text c.args.a c.args.b c.args.c) c.requires) c.put_number-one.new.out c.put_number-one.result c.put_number-one.ensures c.put_number-two.new.out c.put_number-two.result c.put_number-two.ensures

pub put_byte-requires : goal.put_byte-requires
put_byte-requires c =
    room-4 c.args.out.now c.args.at (32 ∷ decimal c.args.a) (32 ∷ decimal c.args.b) (32 ∷ decimal c.args.c) (10 ∷ []) (subst (λ (t : List ℕ). RoomFor c.args.out.now c.args.at t) (three-text c.args.a c.args.b c.args.c) c.requires) c.put_number-one.new.out c.put_number-one.result c.put_number-one.ensures c.put_number-two.new.out c.put_number-two.result c.put_number-two.ensures c.put_number-past.new.out c.put_number-past.result c.put_number-past.ensures

pub returns : goal.returns
returns c =
    subst (λ (t : List ℕ). Put c.args.out.now c.args.at t c.put_byte.new.out c.put_byte.result) (sym (three-text c.args.a c.args.b c.args.c)) (put_four c.args.out.now c.args.at (32 ∷ decimal c.args.a) (32 ∷ decimal c.args.b) (32 ∷ decimal c.args.c) (10 ∷ []) (subst (λ (t : List ℕ). RoomFor c.args.out.now c.args.at t) (three-text c.args.a c.args.b c.args.c) c.requires) c.put_number-one.new.out c.put_number-one.result c.put_number-one.ensures c.put_number-two.new.out c.put_number-two.result c.put_number-two.ensures c.put_number-past.new.out c.put_number-past.result c.put_number-past.ensures c.put_byte.new.out c.put_byte.result c.put_byte.ensures)
