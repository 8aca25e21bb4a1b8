-- What the inner functions ask and promise each other. The public contracts cite nothing of this file.
use Rattle.std.specs.Prelude.{ℕ, ◌+◌, ◌*◌, ◌<◌, ◌≤◌, ◌/◌, Bool, true, false, not, ◌||◌, List, [], ◌≡◌, eqb, ltb, leb, length, get_or, set, take, replicate, if◌then◌else◌, Some, Result, Ok, Err}
use Rattle.classes.specs.Group.{among}
use Rattle.orderings.specs.Inner.{all_short}
use Rattle.dependencies.specs.Map.{place_of, with_dependency}
use Rattle.dependencies.specs.Layout.{decode}
use Rattle.dependencies.specs.declared.DependencyMap.{DependencyMap}
use Rattle.enumeration.specs.Bounds.{fitting}
use Rattle.enumeration.specs.Inner.{none_found, Room, Rows}
use Rattle.enumeration.specs.declared.Found.{Found}
use Rattle.products.specs.Generate.{once_each, lists, stops, contributing}
use Rattle.products.specs.Inner.{joined, start_of, lists_of, Laid, choices, factorial}
use Rattle.products.specs.declared.Shape.{Shape}
use Rattle.products.specs.declared.Lists.{Lists}
use Rattle.arena.specs.declared.Refusal.{Refusal}
use Rattle.arena.specs.declared.Refusal.TheVariants.{TooLarge}
use Rattle.arena.specs.Refusals.{refusal_number}
use Rattle.dependency_orderings.specs.Output.{written_all}
use Rattle.dependency_orderings.specs.declared.Gathered.{Gathered}

-- Places of the output

-- how many places orderings take: none where one has more than 16 keys
unfoldable pub measured : List (List ℕ) → Result ℕ Refusal
measured os = if all_short os then Ok (length (written_all os)) else Err TooLarge

-- lists of which at least one is there, with n choices, whose orders are at most 1,024
pub record Ready (l : Lists) (n : ℕ) : Type 0 where
  pub laid : Laid l
  pub some : 0 < l.shape.size
  pub number : n ≡ choices (lists_of l)
  pub few : factorial l.shape.size * n ≤ 1024

-- Lists as structs

-- no lists
abbrev pub no_lists : Lists
no_lists = record { shape = record { size = 0; ends = replicate {A = ℕ} 6 0 }; found = none_found }

-- the orderings that were found as one list, or as none where there are none
unfoldable pub one_list : Found → Lists
one_list f =
    if eqb f.count 0 then record { shape = record { size = 0; ends = replicate {A = ℕ} 6 0 }; found = f }
    else record { shape = record { size = 1; ends = set (replicate {A = ℕ} 6 0) 0 f.count }; found = f }

-- Gathering

-- nothing is gathered
abbrev pub ungathered : Gathered
ungathered = record { different = 0; walked = replicate {A = Bool} 64 false; many = false; lists = no_lists }

-- one more of the different keys; 17 stands for more than 16
unfoldable pub counting : ℕ → ℕ
counting n = if leb 17 n then 17 else n + 1

-- a number up to 17
unfoldable pub up_to17 : ℕ → ℕ
up_to17 n = if leb 17 n then 17 else n

-- where the lists end
abbrev pub end_of : Gathered → ℕ
end_of g = start_of g.lists.shape g.lists.shape.size

-- what is gathered with the orderings after one more walk: a list more where some were found, and no seventh
unfoldable pub with_found : Gathered → Found → Gathered
with_found g f =
    if eqb f.count (end_of g) then record { different = g.different; walked = g.walked; many = g.many; lists = record { shape = g.lists.shape; found = f } }
    else if leb 6 g.lists.shape.size then record { different = g.different; walked = g.walked; many = true; lists = record { shape = g.lists.shape; found = f } }
    else record { different = g.different; walked = g.walked; many = g.many; lists = record { shape = record { size = g.lists.shape.size + 1; ends = set g.lists.shape.ends g.lists.shape.size f.count }; found = f } }

-- what is gathered, and the key at a place more that is walked
unfoldable pub with_key : Gathered → ℕ → Gathered
with_key g i = record { different = counting g.different; walked = set g.walked i true; many = g.many; lists = g.lists }

-- what is gathered has room for more
pub record Standing (g : Gathered) : Type 0 where
  pub room : Room g.lists.found
  pub wide : length g.walked ≡ 64
  pub long : length g.lists.shape.ends ≡ 6
  pub few : g.lists.shape.size ≤ 6

-- the struct says where each of some lists ends
pub record Shapes (s : Shape) (ls : List (List (List ℕ))) : Type 0 where
  pub size : s.size ≡ length ls
  pub ends : (j : ℕ) → j < length ls → get_or s.ends j 0 ≡ length (joined (take (j + 1) ls))

-- what is gathered is that of some different keys
pub record Gathering (m : DependencyMap) (ks : List ℕ) (ls : List (List (List ℕ))) (g : Gathered) : Type 0 where
  pub is : contributing (decode m) ks ≡ lists ls
  pub walked : (k i : ℕ) → place_of (decode m) k ≡ Some i → get_or g.walked i false ≡ among k ks
  pub different : g.different ≡ up_to17 (length ks)
  pub rows : Rows g.lists.found (joined ls)
  pub many : fitting (joined ls) ≡ true → g.many ≡ not (leb (length ls) 6)
  pub shapes : fitting (joined ls) ≡ true → leb (length ls) 6 ≡ true → Shapes g.lists.shape ls

-- what one key more comes to, where its walk does not stop
pub record StepsOn (m : DependencyMap) (g : Gathered) (k : ℕ) (r : Gathered) : Type 0 where
  pub standing : Standing r
  pub goes : (ks : List ℕ) (ls : List (List (List ℕ))) → Gathering m ks ls g → (qs : List (List (List ℕ))) × Gathering m (with_dependency ks (Some k)) qs r

-- what one key more comes to
abbrev pub Steps : DependencyMap → Gathered → ℕ → Result Gathered Refusal → Type 0
Steps m g k (Ok r) = StepsOn m g k r
Steps m g k (Err why) = (ks : List ℕ) (ls : List (List (List ℕ))) → Gathering m ks ls g → contributing (decode m) (with_dependency ks (Some k)) ≡ stops (refusal_number why)

-- what a function that changes what is gathered answers, with what is gathered after it
unfoldable pub stepped : Gathered → Result (Unit {0}) Refusal → Result Gathered Refusal
stepped g (Ok u) = Ok g
stepped g (Err why) = Err why

-- what all given keys come to, where no walk stops
pub record GathersOn (m : DependencyMap) (ks : List ℕ) (r : Gathered) : Type 0 where
  pub standing : Standing r
  pub all-lists : List (List (List ℕ))
  pub gathering : Gathering m (once_each [] ks) all-lists r

-- what all given keys come to
abbrev pub Gathers : DependencyMap → List ℕ → Result Gathered Refusal → Type 0
Gathers m ks (Ok r) = GathersOn m ks r
Gathers m ks (Err why) = contributing (decode m) (once_each [] ks) ≡ stops (refusal_number why)

-- what was gathered, of some map and some keys
pub record GatheredBy (r : Result Gathered Refusal) : Type 0 where
  pub map : DependencyMap
  pub keys : List ℕ
  pub gathers : Gathers map keys r

-- what is gathered is over a bound
unfoldable pub over_bound : Gathered → Bool
over_bound g = ltb 16 g.different || g.many || g.lists.found.over

-- given key k as one number
unfoldable pub key_at : List ℕ → ℕ → ℕ
key_at numbers k = get_or numbers (2 * k) 0 * 4 + get_or numbers (2 * k + 1) 0

-- the given keys have expressions below 1,024 and options 0 to 3
pub record KeysFit (numbers : List ℕ) : Type 0 where
  pub exprs : (k : ℕ) → k < length numbers / 2 → get_or numbers (2 * k) 0 < 1024
  pub options : (k : ℕ) → k < length numbers / 2 → get_or numbers (2 * k + 1) 0 ≤ 3
