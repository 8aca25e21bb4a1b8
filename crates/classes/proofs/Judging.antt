-- A refusal as the struct that is handed back.
use Rattle.std.specs.Prelude.{Ok, Err, eqb}
use Prim.Native.Nat.{ℕ}
use mathlib.Core.Bool.{false}
use mathlib.Core.List.{List, []}
use mathlib.Core.Path.{◌≡◌, refl, sym, ap, ◌∙◌}
use Rattle.arena.specs.declared.Refusal.{Refusal}
use Rattle.arena.specs.declared.Refusal.TheVariants.{UnknownExpression, TooManyChildren, ArenaFull, GroupFull, TooLarge, UnknownKey, NoTarget, OutputShort, Malformed, IndexOutOfRange, BadState, BadNumber}
use Rattle.arena.specs.Refusals.{refusal, refusal_number}
use Rattle.classes.specs.Class.{Class}
use Rattle.classes.specs.Steps.{Outcome, refused}
use Rattle.classes.specs.Layout.{encode, decode}
use Rattle.classes.specs.Calls.{no_group, answer_of, changed}
use Rattle.classes.specs.Inner.{Coded}
use Rattle.classes.specs.declared.Group.{Group}
use Rattle.classes.specs.declared.Changed.{Changed}

abbrev pub handed_back : Refusal → Group → Changed
handed_back k g = record { answer = Err k; group = g }

-- by its fields
pub refusal_is : (r : Changed) (k : Refusal) (g : Group) → (r.answer ≡ Err k) × (r.group ≡ g) → r ≡ handed_back k g
refusal_is r k g p = λ i. record { answer = p.0 i; group = p.1 i }

-- the answer of an outcome that is refused, and of one that is done
pub answer-refused : (k : ℕ) (cs : List Class) → eqb k 0 ≡ false → answer_of (refused k cs) ≡ Err (refusal k)
unfolding answer_of refused
answer-refused k cs e = rw e

pub answer-done : (o : Outcome) → o.number ≡ 0 → answer_of o ≡ Ok o.answer
unfolding answer_of
answer-done o e = rw e

-- of a coded group, from the outcome that keeps its classes
pub handed_back_lem : (g : Group) (k : ℕ) → eqb k 0 ≡ false → Coded g → changed g.limit (refused k (decode g)) ≡ handed_back (refusal k) g
unfolding changed refused
handed_back_lem g k e c = λ i. record { answer = answer-refused k (decode g) e i; group = c.coded i }

-- the refusal of a number
pub refusal-of : (why : Refusal) → refusal (refusal_number why) ≡ why
unfolding refusal
refusal-of UnknownExpression = refl
refusal-of TooManyChildren = refl
refusal-of ArenaFull = refl
refusal-of GroupFull = refl
refusal-of TooLarge = refl
refusal-of UnknownKey = refl
refusal-of NoTarget = refl
refusal-of OutputShort = refl
refusal-of Malformed = refl
refusal-of IndexOutOfRange = refl
refusal-of BadState = refl
refusal-of BadNumber = refl

-- no group, by its fields
pub no_group-is : (k : Refusal) (r : Changed) (g : Group) → g ≡ encode 0 [] → (r.answer ≡ Err k) × (r.group ≡ g) → r ≡ no_group (refusal_number k)
unfolding no_group
no_group-is k r g e p = λ i. record { answer = (p.0 ∙ ap Err (sym (refusal-of k))) i; group = (p.1 ∙ e) i }
