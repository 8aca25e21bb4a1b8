-- What adding a node comes to: the arena stays sound and only grows, and a refusal leaves it as it was.
use Rattle.arena.specs.declared.Refusal.{Refusal}
use Rattle.arena.specs.declared.Refusal.TheVariants.{ArenaFull, TooManyChildren, UnknownExpression}
use Rattle.std.specs.Prelude.{if◌then◌else◌, Err}
use Prim.Native.Nat.{ℕ, ◌<◌}
use mathlib.Core.Bool.{Bool, true, false}
use mathlib.Core.List.{List}
use mathlib.Core.Path.{◌≡◌, refl}
use borrow.Author.Tests.{ltb-true, leb-true}
use lib.Dec.{ltb, leb}
use lib.ListN.{length, get_or}
use Rattle.laws.specs.Tests.{each}
use Rattle.laws.proofs.Each.{each_holds}
use Rattle.arena.specs.Node.{Node, column, literal, operation}
use Rattle.arena.specs.Arena.{Allowed, Sound, Placed, placed, full, add}
use Rattle.arena.specs.Calls.{answered, add_column, add_literal, add_operation, added_number}
use Rattle.arena.proofs.Nodes.{extends-none, add-node}
use Rattle.normal.proofs.NormalKept.{Kept}

-- a call that hands the arena back
same_kept : (k : Refusal) (ns : List Node) → Sound ns → Kept added_number ns (Err k, ns)
same_kept k ns s = record { sound = s; extends = extends-none ns; refused = λ h. refl }

-- a node that is allowed next
add_kept : (n : Node) (ns : List Node) → Sound ns → Allowed (length ns) n → Kept added_number ns (answered ns (add n ns))
unfolding answered
add_kept n ns s a = go (add n ns) refl
  where
    go : (p : Placed ℕ) → add n ns ≡ p → Kept added_number ns (answered ns p)
    go (placed i ms) q = let m = add-node n ns s a i ms q in record { sound = m.sound; extends = m.extends; refused = λ h. absurd (h refl) }
    go full q = same_kept ArenaFull ns s

-- a column, a literal, an operation
pub column-kept : (name index : ℕ) (ns : List Node) → Sound ns → index < 65536 → Kept added_number ns (add_column name index ns)
unfolding add_column Allowed
column-kept name index ns s l = add_kept (column name index) ns s l

pub literal-kept : (value : ℕ) (ns : List Node) → Sound ns → Kept added_number ns (add_literal value ns)
unfolding add_literal Allowed
literal-kept value ns s = add_kept (literal value) ns s tt

pub operation-kept : (label : ℕ) (children : List ℕ) (ns : List Node) → Sound ns → Kept added_number ns (add_operation label children ns)
unfolding add_operation Allowed
operation-kept label children ns s = go (each (λ k. ltb (get_or children k 0) (length ns)) (length children)) refl (leb (length children) 8) refl
  where
    go : (b : Bool) → each (λ k. ltb (get_or children k 0) (length ns)) (length children) ≡ b → (c : Bool) → leb (length children) 8 ≡ c
        → Kept added_number ns (if b then (if c then answered ns (add (operation label children) ns) else (Err TooManyChildren, ns)) else (Err UnknownExpression, ns))
    go true p true q =
        add_kept (operation label children) ns s
        (leb-true (length children) 8 q, λ k l. ltb-true (get_or children k 0) (length ns) (each_holds (λ k. ltb (get_or children k 0) (length ns)) (length children) k p l))
    go true p false q = same_kept TooManyChildren ns s
    go false p c q = same_kept UnknownExpression ns s
