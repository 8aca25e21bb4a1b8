-- A number that is put digit by digit: the number without its last digit first, then that digit.
use Prim.Native.Nat.{ℕ, ◌+◌, ◌/◌, ◌%◌, ◌<◌, ◌≤◌}
use mathlib.Core.List.{List, [], ◌∷◌, ◌++◌}
use mathlib.Core.Path.{◌≡◌, sym, ap, ◌∙◌, subst}
use native.Mathlib.Omega.{arith}
use lib.ListN.{length}
use Rattle.lines.specs.Text.{decimal, decimal_digit, decimal-more}
use Rattle.lines.specs.Writing.{Put, RoomFor}
use Rattle.lines.proofs.Lengths.{length_digit, length_more}
use Rattle.lines.proofs.Puts.{put_both, put-room, put-length}

-- the last digit
abbrev pub last_of : ℕ → List ℕ
last_of x = (48 + x % 10) ∷ []

module _ (old : List ℕ) (at x : ℕ) where
  -- a number below ten is its last digit
  pub digit_room : RoomFor old at (decimal x) → x < 10 → RoomFor old at (last_of x)
  digit_room room l = omega (arith, room, length_digit x l)

  pub digit_put : (new : List ℕ) (next : ℕ) → x < 10 → Put old at (last_of x) new next → Put old at (decimal x) new next
  digit_put new next l p =
      let e : 48 + x % 10 ≡ 48 + x = omega arith in
      subst (λ (t : List ℕ). Put old at t new next) (ap (λ (d : ℕ). d ∷ []) e ∙ sym (decimal_digit x l)) p

  module _ (l : 10 ≤ x) (room : RoomFor old at (decimal x)) where
    both-room : RoomFor old at (decimal (x / 10) ++ last_of x)
    both-room = subst (λ (t : List ℕ). RoomFor old at t) (decimal-more x l) room

    -- there is room for the number without its last digit
    pub more_room : RoomFor old at (decimal (x / 10))
    more_room = omega (arith, room, length_more x l)

    module _ (new : List ℕ) (next : ℕ) (p : Put old at (decimal (x / 10)) new next) where
      -- then for that digit
      pub last-room : RoomFor new next (last_of x)
      last-room = put-room old at (decimal (x / 10)) new next more_room p (last_of x) both-room

      module _ (new' : List ℕ) (next' : ℕ) (q : Put new next (last_of x) new' next') where
        pub more-length : length new' ≡ length old
        more-length = put-length new next (last_of x) new' next' last-room q ∙ put-length old at (decimal (x / 10)) new next more_room p

        -- both are the number
        pub more-put : Put old at (decimal x) new' next'
        more-put = subst (λ (t : List ℕ). Put old at t new' next') (sym (decimal-more x l)) (put_both old at (decimal (x / 10)) new next more_room p (last_of x) new' next' q)
