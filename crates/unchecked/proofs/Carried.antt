-- What an inner function asks and answers, carried from the struct that was read to the cells and back.
use Rattle.std.specs.Prelude.{if◌then◌else◌}
use Prim.Native.Nat.{ℕ, ◌≤◌}
use mathlib.Core.Bool.{Bool, true, false}
use mathlib.Core.List.{List}
use mathlib.Core.Path.{◌≡◌, refl, sym, ap, ◌∙◌, subst}
use native.Mathlib.Omega.{arith}
use borrow.Author.Tests.{leb-true}
use lib.Dec.{leb}
use lib.ListN.{length}
use Rattle.laws.proofs.Booleans.{and_left, and_right}
use Rattle.arena.specs.Refusals.{refusal}
use Rattle.classes.specs.Class.{Class}
use Rattle.classes.specs.Group.{total}
use Rattle.classes.specs.Steps.{Outcome, fits, judged, refused}
use Rattle.classes.specs.Layout.{encode, decode}
use Rattle.classes.specs.Calls.{changed, answer_of}
use Rattle.classes.specs.Inner.{Coded}
use Rattle.classes.specs.declared.Group.{Group}
use Rattle.classes.specs.declared.Changed.{Changed}
use Rattle.classes.proofs.Codec.{built-classes, built-coded}
use Rattle.merging.specs.Merging.{from_classes}
use Rattle.merging.specs.Calls.{made_group}
use Rattle.merging.proofs.Smaller.{from-few, from-small}
use Rattle.lent_classes.proofs.ListCounts.{fits-few, fits-small}
use Rattle.group_states.specs.Inner.{GroupFits, FitsIfDone}
use Rattle.state_laws.proofs.GroupFit.{encode-fits}
use Rattle.answers.specs.Answers.{on_first}

-- an answer that is put into numbers, beside what its call left in memory
pub put_first : {A B : Type 0} (f : A → B) (a : A) (b : B) (s : List ℕ) (o : A × List ℕ) → b ≡ f a → (a, s) ≡ o → (b, s) ≡ on_first f o
unfolding on_first
put_first {A} {B} f a b s o e q = ap (λ (x : B). (x, s)) e ∙ ap (on_first f) q

-- a step that is judged fits its cells, unless it is refused
pub judged-fits : (limit : ℕ) (cs : List Class) (o : Bool × List Class) → limit ≤ 256 → FitsIfDone (changed limit (judged limit cs o))
unfolding changed answer_of judged refused fits refusal
judged-fits limit cs o high = go (fits limit o.1) refl
  where
    out : Bool → Outcome
    out b = if b then record { number = 0; answer = o.0; classes = o.1 } else refused 4 cs

    go : (b : Bool) → fits limit o.1 ≡ b → FitsIfDone (changed limit (out b))
    go true q z =
        let few = leb-true (length o.1) 64 (and_right (leb (total o.1) limit) (leb (length o.1) 64) q) in
        let small = leb-true (total o.1) limit (and_left (leb (total o.1) limit) (leb (length o.1) 64) q) in
        encode-fits limit o.1 high few (omega (arith, small, high))
    go false q z = absurd (omega arith)

-- a list of classes that fits
module _ (cs : List Class) (f : fits 256 cs ≡ true) where
  -- as a struct it is a group's
  pub list-coded : (list : Group) → list ≡ encode 256 cs → Coded list
  list-coded list l = built-coded 256 cs list l (fits-few cs f) (fits-small cs f)

  -- what is made of it has no more classes and members
  from-count : length (from_classes cs) ≤ 64
  from-count = omega (arith, from-few cs, fits-few cs f)

  from-total : total (from_classes cs) ≤ 256
  from-total = omega (arith, from-small cs, fits-small cs f)

  -- so it fits its cells
  pub made-fits : (r : Changed) → r ≡ made_group (from_classes cs) → FitsIfDone r
  unfolding made_group
  made-fits r e z = subst (λ (c : Changed). GroupFits c.group) (sym e) (encode-fits 256 (from_classes cs) (omega arith) from-count from-total)

  -- the group that is made of the struct is that of the list
  module _ (list : Group) (l : list ≡ encode 256 cs) (g : Group) (p : g ≡ encode list.limit (from_classes (decode list))) where
    made-is : g ≡ encode list.limit (from_classes cs)
    made-is = p ∙ ap (λ (ds : List Class). encode list.limit (from_classes ds)) (built-classes 256 cs list l)

    pub group-coded : Coded g
    group-coded = built-coded list.limit (from_classes cs) g made-is from-count from-total

    pub made_of : (r : Changed) → r ≡ made_group (decode g) → r ≡ made_group (from_classes cs)
    made_of r q = q ∙ ap made_group (built-classes list.limit (from_classes cs) g made-is)
