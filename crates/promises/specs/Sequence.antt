-- A sequence of equal conditions, call by call: each call is lent the group that the one before it handed back, refused or not. The arena is lent to all of them.
use Rattle.std.specs.Prelude.{ℕ, Bool, false, List, [], ◌∷◌, ◌++◌, eqb, if◌then◌else◌, Result, Ok, Err}
use Rattle.arena.specs.declared.Refusal.{Refusal}
use Rattle.classes.specs.Layout.{decode}
use Rattle.classes.specs.Steps.{Outcome}
use Rattle.classes.specs.Calls.{on_group, changed_number}
use Rattle.classes.specs.declared.Group.{Group}
use Rattle.classes.specs.declared.Changed.{Changed}
use Rattle.conditions.specs.Steps.{add_equal}

-- what the contract of `add_equal_conditions` says of one pair
abbrev pub equal_call : List ℕ → ℕ × ℕ → Group → Changed
equal_call cells p g = on_group (λ ns cs. add_equal g.limit ns p.0 p.1 cs) cells g

-- what each call hands back
unfoldable pub calls : List ℕ → List (ℕ × ℕ) → Group → List Changed
calls cells [] g = []
calls cells (p ∷ ps) g = equal_call cells p g ∷ calls cells ps (equal_call cells p g).group

-- the group afterwards
unfoldable pub group_after : List ℕ → List (ℕ × ℕ) → Group → Group
group_after cells [] g = g
group_after cells (p ∷ ps) g = group_after cells ps (equal_call cells p g).group

-- the pairs that were accepted: the number of their call is 0
unfoldable pub accepted_pairs : List ℕ → List (ℕ × ℕ) → Group → List (ℕ × ℕ)
accepted_pairs cells [] g = []
accepted_pairs cells (p ∷ ps) g = (if eqb (changed_number (equal_call cells p g)) 0 then p ∷ [] else []) ++ accepted_pairs cells ps (equal_call cells p g).group

-- the answer of a call: a refused one says no
abbrev pub said : Result Bool Refusal → Bool
said (Ok b) = b
said (Err why) = false

-- what a call answers, and the classes of the group that it hands back
abbrev pub seen : Changed → Outcome
seen c = record { number = changed_number c; answer = said c.answer; classes = decode c.group }
