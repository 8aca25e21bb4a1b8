-- What the inner functions ask and promise each other, here and in the crates above. The public contracts cite nothing of this file.
use Rattle.std.specs.Prelude.{ℕ, zero, suc, ◌+◌, ◌*◌, ◌<◌, ◌≤◌, Bool, true, false, not, ◌&&◌, ◌||◌, List, [], ◌∷◌, ◌++◌, map, ◌≡◌, eqb, ltb, length, get_or, drop, set, replicate, if◌then◌else◌, Option, None, Some, Result, Ok, Err}
use Rattle.laws.specs.Lists.{table}
use Rattle.orderings.specs.Ordering.{pushed}
use Rattle.orderings.specs.Lists.{ordering_at}
use Rattle.orderings.specs.Layout.{row}
use Rattle.orderings.specs.Inner.{extended_of}
use Rattle.orderings.specs.declared.Ordering.{Ordering}
use Rattle.arena.specs.declared.Refusal.{Refusal}
use Rattle.arena.specs.Refusals.{refusal_number}
use Rattle.dependencies.specs.Map.{entry_at}
use Rattle.dependencies.specs.Layout.{decode, place_in}
use Rattle.dependencies.specs.Inner.{Held}
use Rattle.dependencies.specs.declared.DependencyNode.{DependencyNode}
use Rattle.dependencies.specs.declared.DependencyMap.{DependencyMap}
use Rattle.enumeration.specs.Walk.{Walk, found, stopped, go_on, is_seen, over_dependencies, at_entry, construct_orderings, over_start}
use Rattle.enumeration.specs.Bounds.{fitting}
use Rattle.enumeration.specs.declared.Frame.{Frame}
use Rattle.enumeration.specs.declared.Seen.{Seen}
use Rattle.enumeration.specs.declared.DependencyEnumerator.{DependencyEnumerator}
use Rattle.enumeration.specs.declared.Turned.{Turned}
use Rattle.enumeration.specs.declared.Found.{Found}
use Rattle.enumeration.specs.declared.Constructed.{Constructed}

-- The account of pairs

-- no dependency of a key is marked
abbrev pub unmarked : Seen
unmarked = record { told = replicate {A = Bool} 16 false }

-- the marks of the key at place i
abbrev pub seen_at : DependencyEnumerator → ℕ → Seen
seen_at e i = get_or e.seen i unmarked

-- dependency k of the key at place i is marked
unfoldable pub told : DependencyEnumerator → ℕ → ℕ → Bool
told e i k = get_or (seen_at e i).told k false

-- frame i of the way down
abbrev pub frame_at : DependencyEnumerator → ℕ → Frame
frame_at e i = get_or e.frames i (record { place = 0; next = 0 })

-- an account without a way down and without pairs
abbrev pub fresh : DependencyEnumerator
fresh = record { depth = 0; frames = replicate 1025 (record { place = 0; next = 0 }); seen = replicate 64 unmarked }

-- dependency k of an entry and the entry's target are the pair of t and d
unfoldable pub hits : DependencyNode → ℕ → ℕ → ℕ → Bool
hits r k t d = r.projected && eqb r.target t && eqb (get_or r.dependencies k 0) d

-- the marks of an entry after the pair of t and d is marked
unfoldable pub marked_node : DependencyNode → Seen → ℕ → ℕ → Seen
marked_node r s t d = record { told = table (λ k. get_or s.told k false || hits r k t d) 16 }

-- the account after the pair is marked wherever it stands
unfoldable pub marked : DependencyMap → DependencyEnumerator → ℕ → ℕ → DependencyEnumerator
marked m e t d = record { depth = e.depth; frames = e.frames; seen = table (λ i. marked_node (place_in m i) (seen_at e i) t d) 64 }

-- an account whose way down goes on to the key at a place
unfoldable pub deeper : DependencyEnumerator → ℕ → DependencyEnumerator
deeper e i = record { depth = e.depth + 1; frames = set e.frames e.depth (record { place = i; next = 0 }); seen = e.seen }

-- how many of the first n places of marks are not marked
unfoldable pub open_of : List Bool → ℕ → ℕ
open_of ts zero = 0
open_of ts (suc n) = open_of ts n + (if get_or ts n false then 0 else 1)

-- how many places of the first n keys are not marked
unfoldable pub open_in : List Seen → ℕ → ℕ
open_in ss zero = 0
open_in ss (suc n) = open_in ss n + open_of (get_or ss n unmarked).told 16

-- how many places are not marked, of all 1,024
unfoldable pub left : DependencyEnumerator → ℕ
left e = open_in e.seen 64

-- r is the first dependency that is not marked, from one on, or the number of dependencies
pub record Opened (s : Seen) (from size r : ℕ) : Type 0 where
  pub low : from ≤ r
  pub high : r ≤ size
  pub before : (k : ℕ) → from ≤ k → k < r → get_or s.told k false ≡ true
  pub here : r < size → get_or s.told r false ≡ false

-- a frame stands at a key with a target, and before one of its dependencies or after the last
pub record Framed (m : DependencyMap) (f : Frame) : Type 0 where
  pub there : f.place < m.count
  pub target : (place_in m f.place).projected ≡ true
  pub next : f.next ≤ (place_in m f.place).size

-- an account over a map that is checked: its way down has room for as many keys as there are places that are not marked, and its frames stand at keys
pub record Walking (m : DependencyMap) (e : DependencyEnumerator) : Type 0 where
  pub map : Held m
  pub room : e.depth + left e ≤ 1025
  pub long : length e.frames ≡ 1025
  pub wide : length e.seen ≡ 64
  pub framed : (i : ℕ) → i < e.depth → Framed m (frame_at e i)

-- the marks say which pairs were expanded
pub record Told (m : DependencyMap) (e : DependencyEnumerator) (s : List (ℕ × ℕ)) : Type 0 where
  pub is : (i k : ℕ) → i < m.count → k < (place_in m i).size → (place_in m i).projected ≡ true → told e i k ≡ is_seen (place_in m i).target (get_or (place_in m i).dependencies k 0) s

-- The way down

-- a key on the way down: its target, and the dependencies that are to come
abbrev pub frame_of : DependencyMap → Frame → ℕ × List ℕ
frame_of m f = ((place_in m f.place).target, drop f.next (entry_at (decode m) f.place).dependencies)

-- the first n keys of the way down, the lowest first
unfoldable pub frames_of : DependencyMap → DependencyEnumerator → ℕ → List (ℕ × List ℕ)
frames_of m e zero = []
frames_of m e (suc n) = frame_of m (frame_at e n) ∷ frames_of m e n

-- an ordering with the targets on the way up
unfoldable pub up_all : List (ℕ × List ℕ) → List ℕ → List ℕ
up_all [] o = o
up_all (f ∷ fs) o = up_all fs (pushed o f.0)

-- orderings before those of a walk
unfoldable pub before : List (List ℕ) → Walk → Walk
before os w = go_on w (λ qs v. found (os ++ qs) v)

-- what is left of a walk whose way down is fs, by an account `at` of the walk from each key
unfoldable pub resume : (ℕ → List (ℕ × ℕ) → Walk) → List (ℕ × List ℕ) → List (ℕ × ℕ) → Walk
resume at [] s = found [] s
resume at (f ∷ fs) s = go_on (over_dependencies at f.0 f.1 s) (λ ps u. before (map (up_all fs) ps) (resume at fs u))

-- a walk whose orderings go up a way down, and what is left after it
unfoldable pub upward : (ℕ → List (ℕ × ℕ) → Walk) → List (ℕ × List ℕ) → Walk → Walk
upward at fs w = go_on w (λ ps u. before (map (up_all fs) ps) (resume at fs u))

-- the way down of an account
abbrev pub way_of : DependencyMap → DependencyEnumerator → List (ℕ × List ℕ)
way_of m e = frames_of m e e.depth

-- the walk from each key of a map
abbrev pub walk_from : DependencyMap → ℕ → List (ℕ × ℕ) → Walk
walk_from m = construct_orderings (decode m)

-- Turns

-- the orderings that a turn found
pub record Emits (leaf : Option (Result Ordering Refusal)) (os : List (List ℕ)) : Type 0 where
  pub nothing : leaf ≡ None → os ≡ []
  pub one : (r : Result Ordering Refusal) → leaf ≡ Some r → (o : List ℕ) × (os ≡ o ∷ []) × (r ≡ extended_of o)

-- a turn begins a walk w: what it found comes before what is left
pub record Goes (m : DependencyMap) (w : Walk) (t : Turned) : Type 0 where
  pub os : List (List ℕ)
  pub emits : Emits t.leaf os
  pub s : List (ℕ × ℕ)
  pub say : Told m t.walk s
  pub is : w ≡ before os (resume (walk_from m) (way_of m t.walk) s)

-- what coming to a place or a key comes to, where it does not stop the walk; w is the walk by each account of pairs
pub record CameOn (m : DependencyMap) (e : DependencyEnumerator) (w : List (ℕ × ℕ) → Walk) (t : Turned) : Type 0 where
  pub walking : Walking m t.walk
  pub seen : t.walk.seen ≡ e.seen
  pub deep : t.walk.depth ≤ e.depth + 1
  pub goes : (s : List (ℕ × ℕ)) → Told m e s → Goes m (w s) t

-- a walk is stopped by a refusal
abbrev pub Stops : DependencyMap → DependencyEnumerator → (List (ℕ × ℕ) → Walk) → Refusal → Type 0
Stops m e w why = (s : List (ℕ × ℕ)) → Told m e s → w s ≡ stopped (refusal_number why)

-- it is stopped, or it goes on
abbrev pub Comes : DependencyMap → DependencyEnumerator → (List (ℕ × ℕ) → Walk) → Result Turned Refusal → Type 0
Comes m e w (Ok t) = CameOn m e w t
Comes m e w (Err why) = Stops m e w why

-- what a function that changes its account answers, with the account after it
unfoldable pub turned : DependencyEnumerator → Result (Option (Result Ordering Refusal)) Refusal → Result Turned Refusal
turned w (Ok leaf) = Ok (record { leaf = leaf; walk = w })
turned w (Err why) = Err why

-- what visiting a place comes to
abbrev pub Visited : DependencyMap → DependencyEnumerator → ℕ → Result Turned Refusal → Type 0
Visited m e i r = Comes m e (λ s. upward (walk_from m) (way_of m e) (at_entry (walk_from m) (entry_at (decode m) i).target (entry_at (decode m) i).dependencies s)) r

-- what coming to a key comes to
abbrev pub Entered : DependencyMap → DependencyEnumerator → ℕ → Result Turned Refusal → Type 0
Entered m e k r = Comes m e (λ s. upward (walk_from m) (way_of m e) (walk_from m k s)) r

-- what one turn comes to, where it does not stop the walk
pub record WentOn (m : DependencyMap) (e : DependencyEnumerator) (t : Turned) : Type 0 where
  pub walking : Walking m t.walk
  pub less : 2 * left t.walk + t.walk.depth < 2 * left e + e.depth
  pub goes : (s : List (ℕ × ℕ)) → Told m e s → Goes m (resume (walk_from m) (way_of m e) s) t

-- what one turn comes to
abbrev pub Went : DependencyMap → DependencyEnumerator → Result Turned Refusal → Type 0
Went m e (Ok t) = WentOn m e t
Went m e (Err why) = Stops m e (λ s. resume (walk_from m) (way_of m e) s) why

-- Orderings that are found

-- no orderings
abbrev pub none_found : Found
none_found = record { over = false; count = 0; rows = replicate 1024 (row []) }

-- the struct has room for its orderings
pub record Room (f : Found) : Type 0 where
  pub few : f.count ≤ 1024
  pub long : length f.rows ≡ 1024

-- the orderings with one more, if there is one
unfoldable pub kept : Found → Option (Result Ordering Refusal) → Found
kept f None = f
kept f (Some (Ok o)) =
    if ltb f.count 1024 then record { over = f.over; count = f.count + 1; rows = set f.rows f.count o }
    else record { over = true; count = f.count; rows = f.rows }
kept f (Some (Err why)) = record { over = true; count = f.count; rows = f.rows }

-- the struct holds some orderings, or says that they pass the bounds
pub record Rows (f : Found) (os : List (List ℕ)) : Type 0 where
  pub over : f.over ≡ not (fitting os)
  pub count : fitting os ≡ true → f.count ≡ length os
  pub rows : fitting os ≡ true → (i : ℕ) → i < length os → get_or f.rows i (row []) ≡ row (ordering_at os i)

-- a walk w came to its end: its orderings stand behind those before
pub record Came (w : Walk) (os : List (List ℕ)) (f : Found) (P : List (ℕ × ℕ) → Type 0) : Type 0 where
  pub ps : List (List ℕ)
  pub s : List (ℕ × ℕ)
  pub is : w ≡ found ps s
  pub rows : Rows f (os ++ ps)
  pub holds : P s

-- what the walk from a key comes to, where it does not stop
pub record WalkedOn (m : DependencyMap) (e : DependencyEnumerator) (f : Found) (k : ℕ) (r : Constructed) : Type 0 where
  pub walking : Walking m r.walk
  pub ended : r.walk.depth ≡ 0
  pub room : Room r.found
  pub came : (s : List (ℕ × ℕ)) (os : List (List ℕ)) → Told m e s → Rows f os → Came (walk_from m k s) os r.found (λ u. Told m r.walk u)

-- what the walk from a key comes to
abbrev pub Walked : DependencyMap → DependencyEnumerator → Found → ℕ → Result Constructed Refusal → Type 0
Walked m e f k (Ok r) = WalkedOn m e f k r
Walked m e f k (Err why) = (s : List (ℕ × ℕ)) (os : List (List ℕ)) → Told m e s → Rows f os → walk_from m k s ≡ stopped (refusal_number why)

-- what the walks from a key's dependencies come to, where none stops
pub record BeganOn (m : DependencyMap) (i : ℕ) (f g : Found) : Type 0 where
  pub room : Room g
  pub came : (os : List (List ℕ)) → Rows f os → Came (over_start (decode m) (entry_at (decode m) i).dependencies []) os g (λ u. Unit {0})

-- what the walks from a key's dependencies come to
abbrev pub Began : DependencyMap → ℕ → Found → Result Found Refusal → Type 0
Began m i f (Ok g) = BeganOn m i f g
Began m i f (Err why) = (os : List (List ℕ)) → Rows f os → over_start (decode m) (entry_at (decode m) i).dependencies [] ≡ stopped (refusal_number why)
