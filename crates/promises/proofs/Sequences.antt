-- A sequence of calls comes to what the definitions say of the list of classes.
use Rattle.std.specs.Prelude.{if◌then◌else◌, Err}
use Prim.Native.Nat.{ℕ}
use mathlib.Core.Bool.{Bool, true, false, ◌&&◌}
use mathlib.Core.List.{List, [], ◌∷◌, ◌++◌, map}
use mathlib.Core.Path.{◌≡◌, refl, ap, ap₂, ◌∙◌}
use lib.Dec.{eqb, ltb}
use lib.ListN.{length}
use Rattle.arena.specs.Refusals.{refusal, number_of}
use Rattle.arena.specs.Node.{Node}
use Rattle.arena.specs.Layout.{decode as nodes}
use Rattle.classes.specs.Class.{Class}
use Rattle.classes.specs.Group.{equal_condition}
use Rattle.classes.specs.Layout.{encode, decode}
use Rattle.classes.specs.Steps.{Outcome, fits, judged, refused}
use Rattle.classes.specs.Calls.{group_number, answer_of, changed, changed_number, on_group}
use Rattle.classes.specs.declared.Group.{Group}
use Rattle.classes.specs.declared.Changed.{Changed}
use Rattle.classes.proofs.Codec.{decode-encode}
use Rattle.conditions.specs.Steps.{add_equal, outcomes, after, accepted}
use Rattle.demands.proofs.Valid.{valid_equal}
use Rattle.promises.specs.Sequence.{equal_call, calls, group_after, accepted_pairs, said, seen}

-- what is told of an outcome of an equal condition is the outcome
told-is : (limit : ℕ) (ns : List Node) (a b : ℕ) (cs : List Class) → let o : Outcome = add_equal limit ns a b cs in
    ◌≡◌ {A = Outcome} (record { number = number_of (answer_of o); answer = said (answer_of o); classes = o.classes }) o
unfolding add_equal judged refused answer_of refusal
told-is limit ns a b cs = by (ltb a (length ns) && ltb b (length ns)) (fits limit (equal_condition ns cs a b).1)
  where
    told : Outcome → Outcome
    told o = record { number = number_of (answer_of o); answer = said (answer_of o); classes = o.classes }

    by : (p q : Bool) → let o : Outcome = if p then (if q then record { number = 0; answer = (equal_condition ns cs a b).0; classes = (equal_condition ns cs a b).1 } else refused 4 cs) else refused 1 cs in told o ≡ o
    by true true = refl
    by true false = refl
    by false q = refl

module _ (cells : List ℕ) where
  -- the outcome of one pair, over the list of classes
  abbrev pub outcome_of : ℕ × ℕ → Group → Outcome
  outcome_of p g = add_equal g.limit (nodes cells) p.0 p.1 (decode g)

  -- a call on a checked group comes to it
  call-is : (p : ℕ × ℕ) (g : Group) → group_number cells g ≡ 0 → equal_call cells p g ≡ changed g.limit (outcome_of p g)
  unfolding on_group
  call-is p g z = ap (λ (k : ℕ). if eqb k 0 then changed g.limit (outcome_of p g) else record { answer = Err (refusal k); group = g }) z

  -- so what is seen of the call is the outcome
  seen-is : (p : ℕ × ℕ) (g : Group) → group_number cells g ≡ 0 → seen (equal_call cells p g) ≡ outcome_of p g
  unfolding changed
  seen-is p g z =
      ap seen (call-is p g z)
      ∙ ap {B = Outcome} (λ (cs : List Class). record { number = changed_number (changed g.limit (outcome_of p g)); answer = said (answer_of (outcome_of p g)); classes = cs }) (decode-encode g.limit (outcome_of p g).classes)
      ∙ told-is g.limit (nodes cells) p.0 p.1 (decode g)

  -- and the limit stays
  limit_is : (p : ℕ × ℕ) (g : Group) → group_number cells g ≡ 0 → (equal_call cells p g).group.limit ≡ g.limit
  unfolding changed encode
  limit_is p g z = ap (λ (c : Changed). c.group.limit) (call-is p g z)

  -- what follows a call follows its outcome
  onward : {A : Type 0} (f : ℕ → List Class → A) (p : ℕ × ℕ) (g : Group) → group_number cells g ≡ 0
      → f (equal_call cells p g).group.limit (decode (equal_call cells p g).group) ≡ f g.limit (outcome_of p g).classes
  onward f p g z = ap₂ f (limit_is p g z) (ap (λ (o : Outcome). o.classes) (seen-is p g z))

  -- the classes afterwards
  pub after_is : (ps : List (ℕ × ℕ)) (g : Group) → group_number cells g ≡ 0 → decode (group_after cells ps g) ≡ after g.limit (nodes cells) (decode g) ps
  unfolding group_after after
  after_is [] g z = refl
  after_is (p ∷ ps) g z =
      after_is ps (equal_call cells p g).group (valid_equal cells g p.0 p.1 z) ∙ onward (λ l cs. after l (nodes cells) cs ps) p g z

  -- what each call answered
  pub calls_are : (ps : List (ℕ × ℕ)) (g : Group) → group_number cells g ≡ 0 → map seen (calls cells ps g) ≡ outcomes g.limit (nodes cells) (decode g) ps
  unfolding calls outcomes
  calls_are [] g z = refl
  calls_are (p ∷ ps) g z =
      ap₂ (λ (o : Outcome) (os : List Outcome). o ∷ os) (seen-is p g z)
      (calls_are ps (equal_call cells p g).group (valid_equal cells g p.0 p.1 z) ∙ onward (λ l cs. outcomes l (nodes cells) cs ps) p g z)

  -- the pairs that were accepted
  pub accepted-are : (ps : List (ℕ × ℕ)) (g : Group) → group_number cells g ≡ 0 → accepted_pairs cells ps g ≡ accepted g.limit (nodes cells) (decode g) ps
  unfolding accepted_pairs accepted
  accepted-are [] g z = refl
  accepted-are (p ∷ ps) g z =
      ap₂ (λ (n : ℕ) (qs : List (ℕ × ℕ)). (if eqb n 0 then p ∷ [] else []) ++ qs) (ap (λ (o : Outcome). o.number) (seen-is p g z))
      (accepted-are ps (equal_call cells p g).group (valid_equal cells g p.0 p.1 z) ∙ onward (λ l cs. accepted l (nodes cells) cs ps) p g z)

  -- the group stays one that passes the check
  pub after-checked : (ps : List (ℕ × ℕ)) (g : Group) → group_number cells g ≡ 0 → group_number cells (group_after cells ps g) ≡ 0
  unfolding group_after
  after-checked [] g z = z
  after-checked (p ∷ ps) g z = after-checked ps (equal_call cells p g).group (valid_equal cells g p.0 p.1 z)

  -- and its limit is the one that it was opened with
  pub after-limit : (ps : List (ℕ × ℕ)) (g : Group) → group_number cells g ≡ 0 → (group_after cells ps g).limit ≡ g.limit
  unfolding group_after
  after-limit [] g z = refl
  after-limit (p ∷ ps) g z = after-limit ps (equal_call cells p g).group (valid_equal cells g p.0 p.1 z) ∙ limit_is p g z
