-- A call on lent cells, by the check's answer; and a row that a public call adds.
use Rattle.std.specs.Prelude.{if◌then◌else◌, Result, Ok, Err, eqb}
use Prim.Native.Nat.{ℕ, ◌<◌, ◌≤◌}
use mathlib.Core.Bool.{Bool, true, false}
use mathlib.Core.List.{List}
use mathlib.Core.Path.{◌≡◌, refl, sym, ap, ◌∙◌, subst}
use lib.Dec.{ltb}
use lib.ListN.{length, get_or}
use borrow.Author.Tests.{ltb-true}
use Rattle.laws.specs.Tests.{each}
use Rattle.laws.proofs.Booleans.{true_not_false}
use Rattle.laws.proofs.Each.{each_holds}
use Rattle.arena.specs.Node.{Node, operation}
use Rattle.arena.specs.Arena.{Allowed}
use Rattle.arena.specs.Layout.{row, node_of, count, decode, lawful}
use Rattle.arena.specs.declared.Refusal.{Refusal}
use Rattle.arena.specs.declared.Refusal.TheVariants.{BadState}
use Rattle.arena.specs.Refusals.{refusal, outcome}
use Rattle.arena.specs.Calls.{on_lent, checked}
use Rattle.arena.specs.Inner.{Known, Placeable}
use Rattle.arena.proofs.Refusals.{ok-zero, err-refusal, Listed, listed-if}
use Rattle.arena.proofs.Rows.{node_row}
use Rattle.arena.proofs.Layouts.{length-decode, lawful-holds}

module _ {A : Type 0} (refused : A) (call : List Node → A) (s : List ℕ) where
  -- no arena
  pub on_none : lawful s ≡ false → on_lent refused call s ≡ refused
  unfolding on_lent
  on_none e = rw e

  -- an arena
  pub on-arena : lawful s ≡ true → on_lent refused call s ≡ call (decode s)
  unfolding on_lent
  on-arena e = rw e

module _ (s r : List ℕ) (n : Node) (l : lawful s ≡ true) (q : r ≡ row n) (a : Allowed (count s) n) where
  -- the node of the row
  pub node-of : node_of r ≡ n
  node-of = ap node_of q ∙ node_row (count s) n a

  -- a node that is allowed next can be placed
  pub placeable : Placeable s r
  placeable =
      record {
        holds = lawful-holds s l;
        coded = ap row node-of ∙ sym q;
        allowed = subst (Allowed (count s)) (sym node-of) a;
      }

-- a number below the count is a node's
pub known : (s : List ℕ) (e : ℕ) → lawful s ≡ true → e < count s → Known s e
known s e l b = record { holds = lawful-holds s l; below = b }

-- an operation is allowed next: at most 8 children, each below the count
pub operation-allowed : (label : ℕ) (children s : List ℕ) → each (λ k. ltb (get_or children k 0) (length (decode s))) (length children) ≡ true → length children ≤ 8 → Allowed (count s) (operation label children)
unfolding Allowed
operation-allowed label children s a m =
    (m, λ k b. rw (length-decode s) at (ltb-true (get_or children k 0) (length (decode s)) (each_holds (λ k. ltb (get_or children k 0) (length (decode s))) (length children) k a b)))

number : (s : List ℕ) (b : Bool) → lawful s ≡ b → checked s ≡ (if b then 0 else 11)
unfolding on_lent
number s b e = rw e

-- its number stands in the table
pub checked-listed : (s : List ℕ) → Listed (checked s)
unfolding on_lent outcome refusal
checked-listed s = listed-if (lawful s) 0 11 refl refl

-- the check is done where there is an arena
pub checked-ok : (s : List ℕ) → outcome (checked s) ≡ Ok tt → lawful s ≡ true
checked-ok s h = go (lawful s) refl
  where
    go : (b : Bool) → lawful s ≡ b → lawful s ≡ true
    go true e = e
    go false e = absurd (true_not_false (ok-zero (checked s) h) (ap (λ (k : ℕ). eqb k 0) (number s false e)))

-- and refuses where there is none
pub checked-err : (s : List ℕ) (r : Refusal) → outcome (checked s) ≡ Err r → (lawful s ≡ false) × (r ≡ BadState)
unfolding refusal
checked-err s r h = go (lawful s) refl
  where
    go : (b : Bool) → lawful s ≡ b → (lawful s ≡ false) × (r ≡ BadState)
    go true e = absurd (true_not_false (ap (λ (k : ℕ). eqb k 0) (number s true e)) (err-refusal (checked s) r h).0)
    go false e = (e, (err-refusal (checked s) r h).1 ∙ ap refusal (number s false e))

module _ {A : Type 0} (s : List ℕ) (r : Result A Refusal) (e : Refusal) (h : outcome (checked s) ≡ Err e) (p : r ≡ Err e) where
  -- a call that only reads hands the refusal of the check on
  pub read-refused : (call : List Node → Result A Refusal) → r ≡ on_lent (Err BadState) call s
  read-refused call = let c = checked-err s e h in p ∙ ap Err c.1 ∙ sym (on_none (Err BadState) call s c.0)

  -- and so does one that changes the arena, which is then as it was
  pub lent-refused : (call : List Node → Result A Refusal × List ℕ) → (r, s) ≡ on_lent (Err BadState, s) call s
  lent-refused call = let c = checked-err s e h in ap (λ (x : Result A Refusal). (x, s)) (p ∙ ap Err c.1) ∙ sym (on_none (Err BadState, s) call s c.0)
