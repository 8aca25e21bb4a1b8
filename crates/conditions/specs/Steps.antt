-- The calls that change a group, over the list of classes: what they answer and the classes afterwards, in document 01's order of refusals.
use Rattle.std.specs.Prelude.{ℕ, Bool, false, ◌&&◌, eqb, ltb, length, if◌then◌else◌}
use mathlib.Core.List.{List, [], ◌∷◌, ◌++◌}
use Rattle.arena.specs.Node.{Node}
use Rattle.classes.specs.declared.Constant.{Constant}
use Rattle.classes.specs.Class.{Class}
use Rattle.classes.specs.Group.{equal_condition, with_constant, cleared}
use Rattle.classes.specs.Steps.{Outcome, judged, refused}

-- an equal condition: the answer says whether a new class was made
unfoldable pub add_equal : ℕ → List Node → ℕ → ℕ → List Class → Outcome
add_equal limit ns a b cs = if ltb a (length ns) && ltb b (length ns) then judged limit cs (equal_condition ns cs a b) else refused 1 cs

-- a constant; `two` says whether two unknown uniforms count as equal
unfoldable pub add_constant : Bool → ℕ → List Node → ℕ → Constant → List Class → Outcome
add_constant two limit ns e said cs = if ltb e (length ns) then judged limit cs (false, with_constant two ns cs e said) else refused 1 cs

-- clearing: the answer says whether anything changed
unfoldable pub clear : List Class → Outcome
clear cs = record { number = 0; answer = (cleared cs).0; classes = (cleared cs).1 }

-- a sequence of equal conditions, refused ones included: what each came to
unfoldable pub outcomes : ℕ → List Node → List Class → List (ℕ × ℕ) → List Outcome
outcomes limit ns cs [] = []
outcomes limit ns cs (p ∷ ps) = add_equal limit ns p.0 p.1 cs ∷ outcomes limit ns (add_equal limit ns p.0 p.1 cs).classes ps

-- the classes after the sequence
unfoldable pub after : ℕ → List Node → List Class → List (ℕ × ℕ) → List Class
after limit ns cs [] = cs
after limit ns cs (p ∷ ps) = after limit ns (add_equal limit ns p.0 p.1 cs).classes ps

-- the pairs that were accepted
unfoldable pub accepted : ℕ → List Node → List Class → List (ℕ × ℕ) → List (ℕ × ℕ)
accepted limit ns cs [] = []
accepted limit ns cs (p ∷ ps) =
    (if eqb (add_equal limit ns p.0 p.1 cs).number 0 then p ∷ [] else []) ++ accepted limit ns (add_equal limit ns p.0 p.1 cs).classes ps

-- a chain of pairs joins two expressions
pub data Chain (ps : List (ℕ × ℕ)) : ℕ → ℕ → Type 0 where
  here : {a : ℕ} → Chain ps a a
  on : {a b c : ℕ} → mathlib.Core.List.Memᴰ (a, b) ps → Chain ps b c → Chain ps a c
  back : {a b c : ℕ} → mathlib.Core.List.Memᴰ (b, a) ps → Chain ps b c → Chain ps a c
