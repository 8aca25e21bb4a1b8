-- What each public call answers, over the lent cells and the struct, in document 01's order of refusals.
-- A refusal is a case that hands back what came in.
use Rattle.std.specs.Prelude.{ℕ, Bool, ◌&&◌, List, [], eqb, leb, length, if◌then◌else◌, Ok, Err}
use Rattle.laws.specs.Tests.{each}
use Rattle.arena.specs.Layout.{count, lawful}
use Rattle.arena.specs.Refusals.{refusal}
use Rattle.arena.specs.declared.Refusal.TheVariants.{TooLarge}
use Rattle.orderings.specs.Lists.{ordering_at}
use Rattle.orderings.specs.Layout.{encode, decode, lawful_list, keys_inside}
use Rattle.orderings.specs.declared.Orderings.{Orderings}
use Rattle.orderings.specs.declared.Listed.{Listed}

-- the check of a lent list over a lent arena: 11 for the arena or the list, then 1, else 0
unfoldable pub list_number : List ℕ → Orderings → ℕ
list_number cells g =
    if lawful cells && lawful_list g then
    (if keys_inside (count cells) g then 0 else 1)
    else 11

-- at most 32 orderings of at most 16 keys (else 5)
unfoldable pub fits : List (List ℕ) → Bool
fits os = leb (length os) 32 && each (λ i. leb (length (ordering_at os i)) 16) (length os)

-- a call that only asks: its refusal, or its answer on the orderings
unfoldable pub ask_list : {A : Type 0} → (ℕ → A) → (List (List ℕ) → A) → List ℕ → Orderings → A
ask_list refused_by call cells g = if eqb (list_number cells g) 0 then call (decode g) else refused_by (list_number cells g)

-- the check of two lent lists: 11 for the arena or either list, then 1 for a key of either, else 0
unfoldable pub two_number : List ℕ → Orderings → Orderings → ℕ
two_number cells g h =
    if lawful cells && lawful_list g && lawful_list h then
    (if keys_inside (count cells) g && keys_inside (count cells) h then 0 else 1)
    else 11

-- a list that was made, or 5 where it is too large, and then the list that was given
unfoldable pub listed : Orderings → List (List ℕ) → Listed
listed g os = if fits os then record { done = Ok tt; list = encode os } else record { done = Err TooLarge; list = g }

-- an empty list
unfoldable pub clear_answer : List ℕ → Orderings → Listed
clear_answer cells g = ask_list (λ k. record { done = Err (refusal k); list = g }) (λ os. record { done = Ok tt; list = encode [] }) cells g
