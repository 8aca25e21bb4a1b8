-- Demand 3 over the calls: the theorems on the list of classes, carried to the lent cells and the struct.
use Rattle.arena.specs.declared.Refusal.TheVariants.{BadNumber, UnknownExpression}
use Rattle.arena.specs.Refusals.{refusal, Added}
use Rattle.std.specs.Prelude.{if◌then◌else◌, Err, Ok}
use Prim.Native.Nat.{ℕ, ◌≤◌, ◌<◌}
use mathlib.Core.Bool.{Bool, true, false, ◌&&◌}
use mathlib.Core.List.{List, [], map}
use mathlib.Core.Logic.{◌↔◌}
use mathlib.Core.Path.{◌≡◌, refl, sym, ap, ◌∙◌, subst}
use native.Mathlib.Omega.{arith}
use borrow.Author.Tests.{ltb-true}
use lib.Dec.{eqb, ltb, leb}
use lib.ListN.{length, get_or, take}
use Rattle.laws.proofs.Booleans.{and_left}
use Rattle.arena.specs.Node.{Node}
use Rattle.arena.specs.Arena.{Sound}
use Rattle.arena.specs.Expression.{expression_at}
use Rattle.arena.specs.Value.{Row, Meaning, value}
use Rattle.arena.specs.Layout.{lawful, decode as nodes}
use Rattle.classes.specs.Agree.{PairsAgree}
use Rattle.classes.specs.Class.{Class}
use Rattle.classes.specs.Group.{same_class}
use Rattle.classes.specs.Layout.{encode, decode}
use Rattle.classes.specs.Steps.{Outcome, refused}
use Rattle.classes.specs.Calls.{group_number, ask_group, changed_number}
use Rattle.group_checks.specs.Calls.{opened}
use Rattle.classes.specs.declared.Group.{Group}
use Rattle.classes.specs.declared.Changed.{Changed}
use Rattle.arena.proofs.Layouts.{lawful_exactly, decode-encode as nodes-of-cells}
use Rattle.arena.specs.Calls.{in_cells}
use Rattle.classes.proofs.Codec.{decode-encode}
use Rattle.group_checks.proofs.HeldLaws.{number-fit}
use Rattle.conditions.specs.Steps.{Chain, after, accepted, outcomes}
use Rattle.questions.specs.Questions.{exprs_equal}
use Rattle.questions.specs.Calls.{equal_answer}
use Rattle.normal.specs.Calls.{on_checked, normalized, normalize_expr}
use Rattle.demands.proofs.Valid.{valid_opened}
use Rattle.demands.proofs.Demands as Lists
use Rattle.demands.proofs.Limits.{limit-more-first}
use Rattle.normal.proofs.NormalDemand.{normal_form-keeps-value}
use Rattle.normal.proofs.NormalKept.{form-kept}
use Rattle.promises.specs.Sequence.{calls, group_after, accepted_pairs, seen}
use Rattle.promises.proofs.Sequences.{after_is, calls_are, accepted-are, after-checked}

-- an opened group has the limit and no class
opened-is : (limit : ℕ) → changed_number (opened limit) ≡ 0 → (opened limit).group ≡ encode limit []
unfolding opened
opened-is limit = go (ltb 0 limit && leb limit 256)
  where
    go : (b : Bool) → let r : Changed = if b then record { answer = Ok true; group = encode limit [] } else record { answer = Err BadNumber; group = encode 0 [] } in changed_number r ≡ 0 → r.group ≡ encode limit []
    go true z = refl
    go false z = absurd (omega arith)

-- the nodes in lawful cells are a sound arena
nodes-sound : (cells : List ℕ) → lawful cells ≡ true → Sound (nodes cells)
nodes-sound cells w =
    let a = (lawful_exactly cells).0 w in
    subst (λ (ns : List Node). Sound ns) (sym (ap nodes a.1.1 ∙ nodes-of-cells a.0 a.1.0)) a.1.0

-- what the definitions say of an opened group, over its limit and no class
from-opened : {A : Type 0} (f : ℕ → List Class → A) (limit : ℕ) → changed_number (opened limit) ≡ 0 → f (opened limit).group.limit (decode (opened limit).group) ≡ f limit []
unfolding encode
from-opened f limit z =
    ap (λ (g : Group). f g.limit (decode g)) (opened-is limit z) ∙ ap (λ (cs : List Class). f limit cs) (decode-encode limit [])

-- the answer to the equality question, where the group passes the check
asked_is : (cells : List ℕ) (g : Group) → group_number cells g ≡ 0 → (x y : ℕ) → ask_group (λ k. Err (refusal k)) (equal_answer x y) cells g ≡ equal_answer x y (nodes cells) (decode g)
unfolding ask_group
asked_is cells g z x y = ap (λ (k : ℕ). if eqb k 0 then equal_answer x y (nodes cells) (decode g) else Err (refusal k)) z

-- a yes, and what it says
yes_said : (x y : ℕ) (ns : List Node) (cs : List Class) → equal_answer x y ns cs ≡ Ok true → ((ltb x (length ns) && ltb y (length ns)) ≡ true) × (exprs_equal ns cs x y ≡ true)
unfolding equal_answer
yes_said x y ns cs = go (ltb x (length ns) && ltb y (length ns)) (exprs_equal ns cs x y)
  where
    go : (b c : Bool) → (if b then Ok c else Err UnknownExpression) ≡ Ok true → (b ≡ true) × (c ≡ true)
    go true c e = (refl, cc)
    go false c e = absurd (let z : ◌≡◌ {A = ℕ} 0 1 = cc in omega arith)

said_yes : (x y : ℕ) (ns : List Node) (cs : List Class) → (ltb x (length ns) && ltb y (length ns)) ≡ true → exprs_equal ns cs x y ≡ true → equal_answer x y ns cs ≡ Ok true
unfolding equal_answer
said_yes x y ns cs p q = rw (p, q) refl

module _ (cells : List ℕ) (arena : lawful cells ≡ true) (limit : ℕ) (opens : changed_number (opened limit) ≡ 0) (pairs : List (ℕ × ℕ)) where
  abbrev start : Group
  start = (opened limit).group

  abbrev group : Group
  group = group_after cells pairs start

  start-checked : group_number cells start ≡ 0
  start-checked = valid_opened cells arena limit opens

  group-checked : group_number cells group ≡ 0
  group-checked = after-checked cells pairs start start-checked

  -- the classes are those of the sequence
  classes-are : decode group ≡ after limit (nodes cells) [] pairs
  classes-are = after_is cells pairs start start-checked ∙ from-opened (λ l cs. after l (nodes cells) cs pairs) limit opens

  -- and so are the accepted pairs
  joining-are : accepted_pairs cells pairs start ≡ accepted limit (nodes cells) [] pairs
  joining-are = accepted-are cells pairs start start-checked ∙ from-opened (λ l cs. accepted l (nodes cells) cs pairs) limit opens

  pub share_a_class_exactly : (x y : ℕ) → (x ≡ y → ⊥) → (same_class (decode group) x y ≡ true) ↔ Chain (accepted_pairs cells pairs start) x y
  share_a_class_exactly x y d = rw (classes-are, joining-are) (Lists.same_class_exactly (nodes cells) limit pairs x y d)

  pub yes_stays_yes : (further : List (ℕ × ℕ)) (x y : ℕ) → ask_group (λ k. Err (refusal k)) (equal_answer x y) cells group ≡ Ok true
      → ask_group (λ k. Err (refusal k)) (equal_answer x y) cells (group_after cells further group) ≡ Ok true
  yes_stays_yes further x y e =
      let said = yes_said x y (nodes cells) (decode group) (sym (asked_is cells group group-checked x y) ∙ e) in
      let stays =
      Lists.yes_stays (nodes cells) (nodes-sound cells arena) group.limit (decode group) (number-fit cells group group-checked).good.distinct further x y
      (ltb-true x (length (nodes cells)) (and_left (ltb x (length (nodes cells))) (ltb y (length (nodes cells))) said.0)) said.1 in
      asked_is cells (group_after cells further group) (after-checked cells further group group-checked) x y
      ∙ said_yes x y (nodes cells) (decode (group_after cells further group)) said.0 (rw (after_is cells further group group-checked) stays)

  -- what was seen of the calls, for any limit
  seen_are : (l : ℕ) → changed_number (opened l) ≡ 0 → map seen (calls cells pairs (opened l).group) ≡ outcomes l (nodes cells) [] pairs
  seen_are l z = calls_are cells pairs (opened l).group (valid_opened cells arena l z) ∙ from-opened (λ k cs. outcomes k (nodes cells) cs pairs) l z

  pub larger-limit-same : (larger : ℕ) → limit ≤ larger → changed_number (opened larger) ≡ 0
      → (k : ℕ) → ((i : ℕ) → i < k → i < length pairs → (get_or (map seen (calls cells pairs start)) i (refused 0 [])).number ≡ 0)
      → take k (map seen (calls cells pairs (opened larger).group)) ≡ take k (map seen (calls cells pairs start))
  larger-limit-same larger le z k h =
      rw (seen_are larger z, seen_are limit opens)
      (limit-more-first limit larger le (nodes cells) [] pairs k (subst (λ (os : List Outcome). (i : ℕ) → i < k → i < length pairs → (get_or os i (refused 0 [])).number ≡ 0) (seen_are limit opens) h))

  -- what the call of a normal form comes to
  normalized-is : (e : ℕ) → normalized e cells group ≡ in_cells (normalize_expr e (nodes cells) (decode group))
  unfolding on_checked
  normalized-is e = ap {B = Added × List ℕ} (λ (k : ℕ). if eqb k 0 then in_cells (normalize_expr e (nodes cells) (decode group)) else (Err (refusal k), cells)) group-checked

  pub normal_form_has_the_value : {A : Type 0} (m : Meaning A) (row : Row A) → PairsAgree (nodes cells) (accepted_pairs cells pairs start) m row
      → (e i : ℕ) (cells' : List ℕ) → normalized e cells group ≡ (Ok i, cells') → value (expression_at (nodes cells') i) m row ≡ value (expression_at (nodes cells) e) m row
  unfolding in_cells
  normal_form_has_the_value m row agree e i cells' q =
      let ns = nodes cells in
      let o = normalize_expr e ns (decode group) in
      let r = sym (normalized-is e) ∙ q in
      let sound = nodes-sound cells arena in
      let kept = form-kept e ns (decode group) sound (number-fit cells group group-checked).good in
      let number : o.0 ≡ Ok i = ap (λ (p : Added × List ℕ). p.0) r in
      let same : nodes cells' ≡ o.1 = ap (λ (p : Added × List ℕ). nodes p.1) (sym r) ∙ nodes-of-cells o.1 kept.sound in
      let done : normalize_expr e ns (after limit ns [] pairs) ≡ (Ok i, o.1) =
      ap (λ (cs : List Class). normalize_expr e ns cs) (sym classes-are) ∙ (λ j. (number j, o.1)) in
      ap (λ (ms : List Node). value (expression_at ms i) m row) same
      ∙ normal_form-keeps-value limit ns pairs m row (subst (λ (ps : List (ℕ × ℕ)). PairsAgree ns ps m row) joining-are agree) sound e i o.1 done
