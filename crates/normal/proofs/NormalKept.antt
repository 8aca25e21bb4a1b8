-- A refusal leaves every cell as it was, and the arena stays sound: over the functions that the contract cites.
use Rattle.arena.specs.declared.Refusal.TheVariants.{ArenaFull, UnknownExpression}
use Rattle.arena.specs.Refusals.{refusal}
use Rattle.std.specs.Prelude.{if◌then◌else◌, Err, Ok}
use Prim.Native.Nat.{ℕ}
use mathlib.Core.Bool.{Bool, true, false}
use mathlib.Core.List.{List}
use mathlib.Core.Path.{◌≡◌, refl, sym, ap, ◌∙◌}
use native.Mathlib.Decide.{ℕ_discrete}
use borrow.Author.Tests.{ltb-true}
use lib.Dec.{ltb}
use lib.ListN.{length}
use Rattle.arena.specs.Node.{Node}
use Rattle.arena.specs.Expression.{Expression, expression_at}
use Rattle.arena.specs.Arena.{Sound, Extends, Placed, placed, full, add_expression}
use Rattle.arena.specs.Layout.{encode, lawful, decode as nodes}
use Rattle.arena.specs.Calls.{answered, in_cells, added_number}
use Rattle.arena.proofs.Nodes.{extends-none}
use Rattle.arena.proofs.Growing.{add-expression}
use Rattle.arena.proofs.Layouts.{encode-holds, coded-cells, holds-lawful, lawful-holds}
use Rattle.classes.specs.Class.{Class}
use Rattle.classes.specs.Good.{Good}
use Rattle.classes.specs.Layout.{decode}
use Rattle.classes.specs.Calls.{group_number}
use Rattle.classes.specs.declared.Group.{Group}
use Rattle.group_checks.proofs.HeldLaws.{number-lawful, number-fit}
use Rattle.normal.specs.Normal.{normal}
use Rattle.normal.specs.Calls.{on_checked, normalize_expr, normalized}
use Rattle.normal.proofs.Calling.{checked-done, checked_refused}
use Rattle.normal.proofs.NormalValue.{normal_form-small}

-- a call on a sound arena, by the number of its answer: the arena stays sound, old nodes keep number and content, a refusal leaves it as it was
pub record Kept {A : Type 0} (number : A → ℕ) (ns : List Node) (o : A × List Node) : Type 0 where
  pub sound : Sound o.1
  pub extends : Extends ns o.1
  pub refused : (number o.0 ≡ 0 → ⊥) → o.1 ≡ ns

module _ {A : Type 0} (number : A → ℕ) (a : A) (ns : List Node) where
  -- a call that adds nothing keeps the arena
  pub kept-none : Sound ns → Kept number ns (a, ns)
  kept-none s = record { sound = s; extends = extends-none ns; refused = λ h. refl }

  -- so does one that is done, in a sound extension
  pub kept-done : number a ≡ 0 → (ms : List Node) → Sound ms → Extends ns ms → Kept number ns (a, ms)
  kept-done z ms s x = record { sound = s; extends = x; refused = λ h. absurd (h z) }

-- the normal form of an expression keeps the arena
pub form-kept : (e : ℕ) (ns : List Node) (cs : List Class) → Sound ns → Good ns cs → Kept added_number ns (normalize_expr e ns cs)
unfolding normalize_expr answered
form-kept e ns cs s g = go (ltb e (length ns)) refl (add_expression x ns) refl
  where
    x : Expression
    x = normal ns cs (expression_at ns e)

    go : (b : Bool) → ltb e (length ns) ≡ b → (p : Placed ℕ) → add_expression x ns ≡ p → Kept added_number ns (if b then answered ns p else (Err UnknownExpression, ns))
    go true t (placed i ms) q =
        let m = add-expression x ns s (normal_form-small e ns cs s g (ltb-true e (length ns) t)) i ms q in
        kept-done added_number (Ok i) ns refl ms m.sound m.extends
    go true t full q = kept-none added_number (Err ArenaFull) ns s
    go false t p q = kept-none added_number (Err UnknownExpression) ns s

-- a call on lent cells and a lent group, after the check's number
module _ {A : Type 0} (number_of : A → ℕ) (number : ℕ) (refused_by : ℕ → A) (call : List Node → List Class → A × List Node) (cells : List ℕ) (g : Group)
    (passed : number ≡ 0 → group_number cells g ≡ 0) (keeps : Sound (nodes cells) → Good (nodes cells) (decode g) → Kept number_of (nodes cells) (call (nodes cells) (decode g))) where
  -- where the check passed, the call keeps the arena
  checked-kept : number ≡ 0 → Kept number_of (nodes cells) (call (nodes cells) (decode g))
  checked-kept z = keeps (lawful-holds cells (number-lawful cells g (passed z))).sound (number-fit cells g (passed z)).good

  -- a refusal leaves every cell as it was
  pub checked-refusal : (number_of (on_checked number refused_by call cells g).0 ≡ 0 → ⊥) → (on_checked number refused_by call cells g).1 ≡ cells
  unfolding in_cells
  checked-refusal q = go (ℕ_discrete number 0)
    where
      go : Dec (number ≡ 0) → (on_checked number refused_by call cells g).1 ≡ cells
      go (yes z) =
          let o = checked-done number refused_by call cells g z in
          ap (λ (r : A × List ℕ). r.1) o
          ∙ ap encode ((checked-kept z).refused (λ w. q (ap (λ (r : A × List ℕ). number_of r.0) o ∙ w)))
          ∙ coded-cells cells (lawful-holds cells (number-lawful cells g (passed z)))
      go (no z) = sym (ap (λ (r : A × List ℕ). r.1) (checked_refused number refused_by call cells g z))

  -- cells that are an arena stay one, done or refused
  pub checked-lawful : lawful cells ≡ true → lawful (on_checked number refused_by call cells g).1 ≡ true
  unfolding in_cells
  checked-lawful l = go (ℕ_discrete number 0)
    where
      go : Dec (number ≡ 0) → lawful (on_checked number refused_by call cells g).1 ≡ true
      go (yes z) =
          ap (λ (r : A × List ℕ). lawful r.1) (checked-done number refused_by call cells g z)
          ∙ holds-lawful (encode (call (nodes cells) (decode g)).1) (encode-holds (call (nodes cells) (decode g)).1 (checked-kept z).sound)
      go (no z) = ap (λ (r : A × List ℕ). lawful r.1) (sym (checked_refused number refused_by call cells g z)) ∙ l

module _ (cells : List ℕ) (g : Group) where
  -- a refusal of a normal form leaves every cell as it was
  pub form-refused : (e : ℕ) → (added_number (normalized e cells g).0 ≡ 0 → ⊥) → (normalized e cells g).1 ≡ cells
  form-refused e =
      checked-refusal added_number (group_number cells g) (λ k. Err (refusal k)) (normalize_expr e) cells g (λ z. z) (form-kept e (nodes cells) (decode g))

  -- and an arena stays one
  pub form-lawful : (e : ℕ) → lawful cells ≡ true → lawful (normalized e cells g).1 ≡ true
  form-lawful e =
      checked-lawful added_number (group_number cells g) (λ k. Err (refusal k)) (normalize_expr e) cells g (λ z. z) (form-kept e (nodes cells) (decode g))
