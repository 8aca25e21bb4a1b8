-- Which numbers the calls on expressions give.
use Rattle.arena.specs.declared.Read.{Read}
use Rattle.arena.specs.declared.Refusal.TheVariants.{BadState}
use Rattle.std.specs.Prelude.{Option, Result, Err}
use Rattle.arena.specs.declared.Refusal.{Refusal}
use Rattle.arena.specs.Refusals.{Added}
use Prim.Native.Nat.{ℕ}
use mathlib.Core.Bool.{true}
use mathlib.Core.List.{List, [], ◌∷◌}
use mathlib.Core.Path.{◌≡◌, refl}
use lib.Dec.{ltb, leb}
use lib.IntN.{ℤ}
use lib.ListN.{length, get_or}
use Rattle.laws.specs.Tests.{each}
use Rattle.arena.specs.Node.{Node, node_at, child_numbers}
use Rattle.arena.specs.Expression.{expression_at}
use Rattle.arena.specs.Arena.{Placed, placed, full}
use Rattle.arena.specs.Layout.{decode as nodes, lawful}
use Rattle.arena.specs.Calls.{Outcome, answered, add_column, add_literal, add_operation, read_node, read_child, on_lent, in_cells, lent, checked, added_number, read_number, child_number}
use Rattle.shifting.specs.Shift.{moved, can_move}
use Rattle.shifting.specs.Calls.{shifted_outcome, add_offset}
use Rattle.classes.specs.Group.{among}
use Rattle.answers.specs.Answers.{on_first}
use Rattle.group_answers.specs.Answers.{added_in, read_in, child_in}
use Rattle.promises.proofs.Numbers.{OneOf, done, either, all_among, wider}
use Rattle.promises.proofs.NumbersOfAnswers.{told_number}

-- the number of an addition beside an arena
abbrev pub Adds : {B : Type 0} → List ℕ → Added × B → Type 0
Adds numbers o = OneOf numbers (added_number o.0)

-- of a node that is read
abbrev Reads : Result Read Refusal → Type 0
Reads a = OneOf (11 ∷ 1 ∷ []) (read_number a)

-- of a child that is read
abbrev ReadsChild : Result (Option ℕ) Refusal → Type 0
ReadsChild a = OneOf (11 ∷ 1 ∷ []) (child_number a)

-- the check of an arena
pub arena-number : (cells : List ℕ) → OneOf (11 ∷ []) (checked cells)
unfolding on_lent among
arena-number cells = either (OneOf (11 ∷ [])) (lawful cells) done (record { is = refl })

-- what was added, or no room
pub answered-number : (ns : List Node) (p : Placed ℕ) → OneOf (3 ∷ []) (added_number (answered ns p).0)
unfolding answered among
answered-number ns (placed i ms) = record { is = refl }
answered-number ns full = record { is = refl }

-- a call that adds to the arena in lent cells
lent-number : {numbers : List ℕ} (old : List ℕ) (call : List Node → Outcome) (cells : List ℕ) → all_among (11 ∷ []) (0 ∷ numbers) ≡ true → ((ns : List Node) → OneOf numbers (added_number (call ns).0))
    → OneOf numbers (on_first (added_in old) (lent call cells)).0.0
unfolding on_first added_in on_lent in_cells among
lent-number {numbers} old call cells a h =
    told_number _ old (lent call cells).0
    (either (Adds numbers) (lawful cells) (h (nodes cells)) (wider {ms = 11 ∷ []} {r = 11} (record { is = refl }) a))

-- a column
pub column-number : (old : List ℕ) (name index : ℕ) (cells : List ℕ) → OneOf (11 ∷ 3 ∷ []) (on_first (added_in old) (lent (add_column name index) cells)).0.0
unfolding add_column all_among among
column-number old name index cells = lent-number old (add_column name index) cells refl (λ ns. wider (answered-number ns _) refl)

-- a literal
pub literal-number : (old : List ℕ) (value : ℕ) (cells : List ℕ) → OneOf (11 ∷ 3 ∷ []) (on_first (added_in old) (lent (add_literal value) cells)).0.0
unfolding add_literal all_among among
literal-number old value cells = lent-number old (add_literal value) cells refl (λ ns. wider (answered-number ns _) refl)

-- the numbers of an operation
abbrev operation_numbers : List ℕ
operation_numbers = 11 ∷ 1 ∷ 2 ∷ 3 ∷ []

-- an operation
pub operation-number : (old : List ℕ) (label : ℕ) (children cells : List ℕ) → OneOf operation_numbers (on_first (added_in old) (lent (add_operation label children) cells)).0.0
unfolding add_operation all_among among
operation-number old label children cells =
    lent-number old (add_operation label children) cells refl
    (λ ns.
    either (Adds operation_numbers) (each (λ k. ltb (get_or children k 0) (length ns)) (length children))
    (either (Adds operation_numbers) (leb (length children) 8) (wider (answered-number ns _) refl) (record { is = refl }))
    (record { is = refl }))

-- the numbers of a shift
abbrev shift_numbers : List ℕ
shift_numbers = 11 ∷ 1 ∷ 10 ∷ 3 ∷ []

-- a shifted expression
pub shifted-number : (old : List ℕ) (e : ℕ) (offset : ℤ) (cells : List ℕ) → OneOf shift_numbers (on_first (added_in old) (lent (add_offset e offset) cells)).0.0
unfolding add_offset shifted_outcome all_among among
shifted-number old e offset cells =
    lent-number old (add_offset e offset) cells refl
    (λ ns.
    either (Adds shift_numbers) (ltb e (length ns))
    (either (Adds shift_numbers) (can_move (moved offset) (expression_at ns e)) (wider (answered-number ns _) refl) (record { is = refl }))
    (record { is = refl }))

-- a node
pub read_number_lem : (old : List ℕ) (e : ℕ) (cells : List ℕ) → OneOf (11 ∷ 1 ∷ []) (read_in old (on_lent (Err BadState) (read_node e) cells)).0
unfolding read_in on_lent read_node among
read_number_lem old e cells =
    told_number _ old (on_lent (Err BadState) (read_node e) cells) (either Reads (lawful cells) (either Reads (ltb e (length (nodes cells))) done (record { is = refl })) (record { is = refl }))

-- a child
pub child-number : (old : List ℕ) (e k : ℕ) (cells : List ℕ) → OneOf (11 ∷ 1 ∷ []) (child_in old (on_lent (Err BadState) (read_child e k) cells)).0
unfolding child_in on_lent read_child among
child-number old e k cells =
    told_number _ old (on_lent (Err BadState) (read_child e k) cells)
    (either ReadsChild (lawful cells)
    (either ReadsChild (ltb e (length (nodes cells))) (either ReadsChild (ltb k (length (child_numbers (node_at (nodes cells) e)))) done done) (record { is = refl }))
    (record { is = refl }))
