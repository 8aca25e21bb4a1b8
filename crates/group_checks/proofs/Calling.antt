-- A public call on a lent group, by the check's number.
use Prim.Native.Nat.{ℕ, ◌<◌, ◌≤◌}
use mathlib.Core.Bool.{true, ◌&&◌, and-false}
use mathlib.Core.List.{List, []}
use Rattle.std.specs.Prelude.{None, Some, Result, Ok, Err}
use mathlib.Core.Path.{◌≡◌, refl, ◌∙◌}
use native.Mathlib.Omega.{arith}
use borrow.Author.Tests.{lt-ltb, le-ltb, le-leb, lt-leb}
use lib.ListN.{length, get_or}
use Rattle.arena.specs.Node.{Node}
use Rattle.arena.specs.Layout.{count, lawful, decode as nodes}
use Rattle.arena.specs.Inner.{Known}
use Rattle.arena.proofs.Layouts.{lawful-holds}
use Rattle.classes.specs.Class.{Class}
use Rattle.classes.specs.Group.{class_at, class_of}
use Rattle.classes.specs.Steps.{Outcome}
use Rattle.classes.specs.Layout.{encode, decode, in_set, lawful_group, members_inside}
use Rattle.classes.specs.Calls.{group_number, changed, on_group, ask_group}
use Rattle.group_checks.specs.Calls.{opened, class_answer, class_is}
use Rattle.classes.specs.declared.Group.{Group}
use Rattle.arena.specs.declared.Refusal.TheVariants.{BadNumber, UnknownExpression}
use Rattle.arena.specs.declared.Refusal.{Refusal}
use Rattle.arena.specs.Refusals.{refusal, outcome}
use Rattle.arena.proofs.Refusals.{ok-zero, done-zero, err-refusal, Listed, listed-if}
use Rattle.group_checks.proofs.HeldLaws.{number-lawful}
use Rattle.classes.proofs.Judging.{handed_back}

module _ (cells : List ℕ) (g : Group) where
  -- the check's number stands in the table
  pub group-listed : Listed (group_number cells g)
  unfolding group_number outcome refusal
  group-listed = listed-if (in_set g) _ 12 (listed-if (lawful cells && lawful_group (nodes cells) g) _ 11 (listed-if (members_inside (nodes cells) g) 0 1 refl refl) refl) refl

  -- a group that the check lets pass
  pub group-done : (call : List Node → List Class → Outcome) → outcome (group_number cells g) ≡ Ok tt → on_group call cells g ≡ changed g.limit (call (nodes cells) (decode g))
  unfolding on_group
  group-done call e = rw (ok-zero _ e)

  -- one that it refuses
  pub group-refused : (call : List Node → List Class → Outcome) (k : Refusal) → outcome (group_number cells g) ≡ Err k → handed_back k g ≡ on_group call cells g
  unfolding on_group
  group-refused call k e = let r = err-refusal _ k e in rw (r.0, r.1)

  -- the same for a question
  pub ask_done : {A : Type 0} (f : ℕ → A) (call : List Node → List Class → A) → outcome (group_number cells g) ≡ Ok tt → ask_group f call cells g ≡ call (nodes cells) (decode g)
  unfolding ask_group
  ask_done f call e = rw (ok-zero _ e)

  pub ask_refused : {A : Type 0} (call : List Node → List Class → Result A Refusal) (r : Result A Refusal) (k : Refusal) → outcome (group_number cells g) ≡ Err k → r ≡ Err k → r ≡ ask_group (λ k. Err (refusal k)) call cells g
  unfolding ask_group
  ask_refused call r k e q = let p = err-refusal _ k e in q ∙ rw (p.0, p.1)

  -- a number below the count is a node's
  pub number-known : (e : ℕ) → outcome (group_number cells g) ≡ Ok tt → e < count cells → Known cells e
  number-known e z b = record { holds = lawful-holds cells (number-lawful cells g (done-zero _ z)); below = b }

-- opening a group, by its tests
pub opened-none : (limit : ℕ) → limit ≡ 0 → opened limit ≡ handed_back BadNumber (encode 0 [])
unfolding opened
opened-none limit e = let h : limit ≤ 0 = omega arith in rw (le-ltb 0 limit h)

pub opened-over : (limit : ℕ) → 256 < limit → opened limit ≡ handed_back BadNumber (encode 0 [])
unfolding opened
opened-over limit l = rw (lt-leb limit 256 l, and-false)

pub opened_in : (limit : ℕ) → (limit ≡ 0 → ⊥) → limit ≤ 256 → opened limit ≡ record { answer = Ok true; group = encode limit [] }
unfolding opened
opened_in limit z l = let h : 0 < limit = omega arith in rw (lt-ltb 0 limit h, le-leb limit 256 l)

-- the class of an expression, by its tests
module _ (ns : List Node) (cs : List Class) (e : ℕ) where
  pub class-unknown : length ns ≤ e → class_answer e ns cs ≡ Err UnknownExpression
  unfolding class_answer
  class-unknown l = rw (le-ltb _ _ l)

  pub class-nowhere : e < length ns → class_of cs e ≡ None → class_answer e ns cs ≡ Ok None
  unfolding class_answer class_is
  class-nowhere l o = rw (lt-ltb _ _ l, o)

  pub class-at : e < length ns → (i : ℕ) → class_of cs e ≡ Some i → class_answer e ns cs ≡ Ok (Some (record { place = i; size = length (class_at cs i).members; first = get_or (class_at cs i).members 0 0; constant = (class_at cs i).constant }))
  unfolding class_answer class_is
  class-at l i o = rw (lt-ltb _ _ l, o)
