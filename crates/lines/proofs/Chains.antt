-- Four texts that are put one after the other into room for all of them.
use Prim.Native.Nat.{ℕ}
use mathlib.Core.List.{List, [], ◌∷◌, ◌++◌, append_assoc}
use mathlib.Core.Path.{◌≡◌}
use lib.ListN.{length}
use Rattle.lines.specs.Text.{decimal, spaced, line}
use Rattle.lines.specs.Writing.{Put, RoomFor}
use Rattle.lines.proofs.Puts.{put-fits, put_both, put-room, put-length}

module _ (old : List ℕ) (at : ℕ) (u v w x : List ℕ) (room : RoomFor old at (u ++ (v ++ (w ++ x)))) where
  -- room for the first
  pub room-1 : RoomFor old at u
  room-1 = put-fits old at u (v ++ (w ++ x)) room

  module _ (new1 : List ℕ) (next1 : ℕ) (p1 : Put old at u new1 next1) where
    rest-2 : RoomFor new1 next1 (v ++ (w ++ x))
    rest-2 = put-room old at u new1 next1 room-1 p1 (v ++ (w ++ x)) room

    -- for the second after it
    pub room-2 : RoomFor new1 next1 v
    room-2 = put-fits new1 next1 v (w ++ x) rest-2

    module _ (new2 : List ℕ) (next2 : ℕ) (p2 : Put new1 next1 v new2 next2) where
      rest-3 : RoomFor new2 next2 (w ++ x)
      rest-3 = put-room new1 next1 v new2 next2 room-2 p2 (w ++ x) rest-2

      -- for the third
      pub room-3 : RoomFor new2 next2 w
      room-3 = put-fits new2 next2 w x rest-3

      module _ (new3 : List ℕ) (next3 : ℕ) (p3 : Put new2 next2 w new3 next3) where
        -- for the last
        pub room-4 : RoomFor new3 next3 x
        room-4 = put-room new2 next2 w new3 next3 room-3 p3 x rest-3

        module _ (new4 : List ℕ) (next4 : ℕ) (p4 : Put new3 next3 x new4 next4) where
          -- all four are one text
          pub put_four : Put old at (u ++ (v ++ (w ++ x))) new4 next4
          put_four =
              put_both old at u new1 next1 room-1 p1 (v ++ (w ++ x)) new4 next4
              (put_both new1 next1 v new2 next2 room-2 p2 (w ++ x) new4 next4 (put_both new2 next2 w new3 next3 room-3 p3 x new4 next4 p4))

          -- and the length stays
          pub four-length : length new4 ≡ length old
          four-length = put-length old at (u ++ (v ++ (w ++ x))) new4 next4 room put_four

-- a line of a letter and two numbers, and three numbers and a line end, in four texts
pub two-text : (letter a b : ℕ) → line (letter ∷ []) (a ∷ b ∷ []) ≡ (letter ∷ []) ++ ((32 ∷ decimal a) ++ ((32 ∷ decimal b) ++ (10 ∷ [])))
unfolding line spaced
two-text letter a b = simp (append_assoc)

pub three-text : (a b c : ℕ) → spaced (a ∷ b ∷ c ∷ []) ++ (10 ∷ []) ≡ (32 ∷ decimal a) ++ ((32 ∷ decimal b) ++ ((32 ∷ decimal c) ++ (10 ∷ [])))
unfolding spaced
three-text a b c = simp (append_assoc)
