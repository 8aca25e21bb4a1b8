-- What the functions on the right side of a join ask and promise. The public contract of a join cites nothing of this file.
use Rattle.std.specs.Prelude.{ℕ, ◌≤◌, Bool, true, false, List, [], map, ◌≡◌, length, Result, Ok, Err}
use Rattle.arena.specs.declared.Refusal.{Refusal}
use Rattle.arena.specs.Node.{Node}
use Rattle.arena.specs.Arena.{Extends, Placed, placed, full}
use Rattle.arena.specs.Layout.{decode as nodes}
use Rattle.arena.specs.Inner.{Holds, Memo}
use Rattle.shifting.specs.Inner.{lifted, shifted_by}
use Rattle.merging.specs.Inner.{AllBelow}
use Rattle.shifted_classes.specs.Lent.{pairs_lent}
use Rattle.shifted_classes.specs.Shifting.{all_move, shifted_numbers}

-- the right sides of lent pairs
unfoldable pub rights_lent : List ℕ → List ℕ
rights_lent numbers = map (λ (p : ℕ × ℕ). p.1) (pairs_lent numbers)

-- the numbers of an answer; none where there is no room
abbrev pub members_of : Result (List ℕ) Refusal → List ℕ
members_of (Ok ks) = ks
members_of (Err k) = []

-- expressions that can be shifted by a lift, with a memo that is true
pub record ReadyAll (lift : ℕ) (s memo es : List ℕ) : Type 0 where
  pub holds : Holds s
  pub small : lift ≤ 200000
  pub known : AllBelow (length (nodes s)) es
  pub moves : all_move (lifted lift) (nodes s) es ≡ true
  pub memo_true : Memo (shifted_by lift) (nodes s) memo

-- the numbers of what was shifted as a placing
unfoldable pub told_numbers : Bool → List ℕ → List Node → Placed (List ℕ)
told_numbers true ks ns = placed ks ns
told_numbers false ks ns = full

-- from the cells s to the cells t the expressions es were shifted and added, or there was no room
pub record ShiftedAll (lift : ℕ) (s t memo es : List ℕ) (all : Bool) (ks : List ℕ) : Type 0 where
  pub holds : Holds t
  pub extends : Extends (nodes s) (nodes t)
  pub memo_true : Memo (shifted_by lift) (nodes t) memo
  pub is : told_numbers all ks (nodes t) ≡ shifted_numbers (lifted lift) (nodes s) es (nodes s)
