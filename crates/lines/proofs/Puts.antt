-- Texts that are put one after the other.
use Prim.Native.Nat.{ℕ, ◌+◌, ◌<◌}
use mathlib.Core.List.{List, [], ◌∷◌, ◌++◌, append_assoc}
use mathlib.Core.Path.{◌≡◌, refl, sym, ap, ◌∙◌, subst}
use native.Mathlib.Numerals.{add-one}
use native.Mathlib.Omega.{arith}
use lib.ListN.{length, take, drop, set, length-append, length-drop, take-append-drop}
use lib.Seq.{set_split, length-take-le, take_at, drop-append-add, drop-drop}
use Rattle.lines.specs.Writing.{Put, RoomFor}

-- one byte that is set is put
pub put_one : (old : List ℕ) (at byte : ℕ) → at < length old → Put old at (byte ∷ []) (set old at byte) (at + 1)
put_one old at byte l = record { is = set_split old at byte l ∙ rw add-one; past = refl }

-- nothing that is put is put
pub put-none : (old : List ℕ) (at : ℕ) → Put old at [] old at
put-none old at = record { is = let e : at + 0 ≡ at = omega arith in rw e (sym (take-append-drop at old)); past = omega arith }

-- room for two texts is room for the first
pub put-fits : (old : List ℕ) (at : ℕ) (u v : List ℕ) → RoomFor old at (u ++ v) → RoomFor old at u
put-fits old at u v room = omega (arith, length-append u v, room)

module _ (old : List ℕ) (at : ℕ) (u new : List ℕ) (next : ℕ) (room : RoomFor old at u) (p : Put old at u new next) where
  -- the place after what was put
  head-length : length (take at old ++ u) ≡ next
  head-length = length-append (take at old) u ∙ omega (arith, length-take-le at old (omega arith), p.past)

  new_is : new ≡ (take at old ++ u) ++ drop (at + length u) old
  new_is = p.is ∙ sym (append_assoc (take at old) u (drop (at + length u) old))

  -- up to it stands what stood before, then the text
  pub put_front : take next new ≡ take at old ++ u
  put_front = ap (λ (l : List ℕ). take next l) new_is ∙ take_at (take at old ++ u) (drop (at + length u) old) next head-length

  -- from it on stands what stood there
  pub put_rest : (n : ℕ) → drop (next + n) new ≡ drop (at + length u + n) old
  put_rest n =
      ap (λ (l : List ℕ). drop (next + n) l) new_is
      ∙ subst (λ (k : ℕ). drop (k + n) ((take at old ++ u) ++ drop (at + length u) old) ≡ drop (at + length u + n) old) head-length
      (drop-append-add (take at old ++ u) (drop (at + length u) old) n ∙ drop-drop n (at + length u) old)

  -- the length stays
  pub put-length : length new ≡ length old
  put-length =
      ap (λ (l : List ℕ). length l) new_is ∙ length-append (take at old ++ u) (drop (at + length u) old)
      ∙ omega (arith, head-length, p.past, length-drop (at + length u) old)

  -- room for two texts is room for the second after the first
  pub put-room : (v : List ℕ) → RoomFor old at (u ++ v) → RoomFor new next v
  put-room v l = omega (arith, put-length, p.past, length-append u v)

  -- a text and the text after it are one
  pub put_both : (v new' : List ℕ) (next' : ℕ) → Put new next v new' next' → Put old at (u ++ v) new' next'
  put_both v new' next' q =
      record {
        is =
            q.is ∙ ap (λ (l : List ℕ). l ++ (v ++ drop (next + length v) new)) put_front
            ∙ ap (λ (l : List ℕ). (take at old ++ u) ++ (v ++ l)) (put_rest (length v))
            ∙ append_assoc (take at old) u (v ++ drop (at + length u + length v) old)
            ∙ ap (λ (l : List ℕ). take at old ++ l) (sym (append_assoc u v (drop (at + length u + length v) old)))
            ∙ let e : at + length u + length v ≡ at + length (u ++ v) = omega (arith, length-append u v) in
            ap (λ (k : ℕ). take at old ++ ((u ++ v) ++ drop k old)) e;
        past = omega (arith, p.past, q.past, length-append u v);
      }
