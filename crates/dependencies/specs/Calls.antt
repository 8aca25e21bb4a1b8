-- What each public call answers, over the lent cells and the struct, in document 01's order of refusals.
-- A refusal is a case that hands back what came in.
use Rattle.std.specs.Prelude.{ℕ, ◌+◌, ◌*◌, Bool, true, ◌&&◌, List, eqb, ltb, leb, if◌then◌else◌, Option, None, Some, Ok, Err}
use Rattle.arena.specs.Layout.{count, lawful}
use Rattle.arena.specs.Refusals.{refusal}
use Rattle.arena.specs.declared.Refusal.TheVariants.{TooLarge}
use Rattle.dependencies.specs.Map.{Dependent, inserted, fits}
use Rattle.dependencies.specs.Layout.{encode, decode, lawful_map, keys_inside}
use Rattle.dependencies.specs.declared.DependencyMap.{DependencyMap}
use Rattle.dependencies.specs.declared.Inserted.{Inserted}
use Rattle.dependencies.specs.declared.Key.{Key}

-- the check of a lent map over a lent arena: 11 for the arena or the map, then 1, else 0
unfoldable pub map_number : List ℕ → DependencyMap → ℕ
map_number cells m =
    if lawful cells && lawful_map m then
    (if keys_inside (count cells) m then 0 else 1)
    else 11

-- a key that is given has options 0 to 3 (else 12)
unfoldable pub options_known : Option Key → Bool
options_known (Some k) = leb k.options 3
options_known None = true

-- and an expression among the first n (else 1)
unfoldable pub given_below : ℕ → Option Key → Bool
given_below n (Some k) = ltb k.expr n
given_below n None = true

-- the key that is given, as one number
unfoldable pub key_of : Option Key → Option ℕ
key_of (Some k) = Some (k.expr * 4 + k.options)
key_of None = None

-- the check of what an insert is lent and given: 12 for options, 11 for the arena or the map, 1 for an expression, else 0
unfoldable pub insert_number : List ℕ → DependencyMap → ℕ → ℕ → Option Key → Option Key → ℕ
insert_number cells m e options target dependency =
    if leb options 3 && options_known target && options_known dependency then
    (if eqb (map_number cells m) 0 then
    (if ltb e (count cells) && given_below (count cells) target && given_below (count cells) dependency then 0 else 1)
    else map_number cells m)
    else 12

-- a map that was made, or 5 where it is too large, and then the map that was given
unfoldable pub judged : DependencyMap → List Dependent → Inserted
judged m ds = if fits ds then record { done = Ok tt; map = encode ds } else record { done = Err TooLarge; map = m }

-- the call on lent cells and a lent map
unfoldable pub insert_answer : List ℕ → DependencyMap → ℕ → ℕ → Option Key → Option Key → Inserted
insert_answer cells m e options target dependency =
    if eqb (insert_number cells m e options target dependency) 0 then judged m (inserted (decode m) (e * 4 + options) (key_of target) (key_of dependency))
    else record { done = Err (refusal (insert_number cells m e options target dependency)); map = m }
