-- The loops over turns and over dependencies: what they found, and what is left of their walk.
use Prim.Native.Nat.{ℕ, ◌+◌, ◌<◌, ◌≤◌}
use mathlib.Core.List.{List, [], ◌++◌, append-nil, append_assoc}
use mathlib.Core.Path.{◌≡◌, refl, sym, ap, ◌∙◌, subst}
use native.Mathlib.Numerals.{add-one}
use native.Mathlib.Omega.{arith}
use lib.ListN.{length, get_or, drop, drop_of_length-le}
use lib.Seq.{drop-cons}
use Rattle.dependencies.specs.Map.{Dependent, entry_at}
use Rattle.dependencies.specs.Layout.{decode, place_in}
use Rattle.dependencies.specs.Inner.{Held}
use Rattle.dependencies.specs.declared.DependencyNode.{DependencyNode}
use Rattle.dependencies.specs.declared.DependencyMap.{DependencyMap}
use Rattle.dependencies.proofs.MapChecks.{no_place}
use Rattle.enumeration.specs.Walk.{Walk, found, stopped, go_on, construct_orderings, over_start}
use Rattle.enumeration.specs.Inner.{fresh, Walking, Told, frames_of, before, resume, upward, way_of, walk_from, Goes, CameOn, Stops, WentOn, Room, kept, Rows, Came, WalkedOn, Walked, Began}
use Rattle.enumeration.specs.declared.DependencyEnumerator.{DependencyEnumerator}
use Rattle.std.specs.Prelude.{Ok, Err}
use Rattle.arena.specs.declared.Refusal.{Refusal}
use Rattle.arena.specs.Refusals.{refusal_number}
use Rattle.enumeration.specs.declared.Turned.{Turned}
use Rattle.enumeration.specs.declared.Found.{Found}
use Rattle.enumeration.specs.declared.Constructed.{Constructed}
use Rattle.enumeration.proofs.WayLaws.{before-none, before-before, upward-start}
use Rattle.enumeration.proofs.Marks.{told_fresh, walking-fresh}
use Rattle.enumeration.proofs.Keeps.{room-kept, rows-kept}
use Rattle.enumeration.proofs.Turns.{node-is, entry-size, entry-dependency}

-- A walk that is done in part

-- some orderings of a walk w were found and stand behind those before; `rest`, from the account of pairs on, is left of it
pub record Partly (m : DependencyMap) (w : Walk) (os : List (List ℕ)) (way : DependencyEnumerator) (rows : Found) (rest : List (ℕ × ℕ) → Walk) : Type 0 where
  pub ps : List (List ℕ)
  pub u : List (ℕ × ℕ)
  pub is : w ≡ before ps (rest u)
  pub hold : Rows rows (os ++ ps)
  pub say : Told m way u

-- nothing was found yet
partly_none : (m : DependencyMap) (os : List (List ℕ)) (way : DependencyEnumerator) (rows : Found) (rest : List (ℕ × ℕ) → Walk) (s : List (ℕ × ℕ)) → Rows rows os → Told m way s → Partly m (rest s) os way rows rest
partly_none m os way rows rest s hold say = record { ps = []; u = s; is = sym (before-none (rest s)); hold = subst (Rows rows) (sym (append-nil os)) hold; say = say }

module _ (m : DependencyMap) (w : Walk) (os : List (List ℕ)) (way : DependencyEnumerator) (rows : Found) (rest : List (ℕ × ℕ) → Walk) (p : Partly m w os way rows rest) where
  -- more was found
  partly_on : (way' : DependencyEnumerator) (rows' : Found) (rest' : List (ℕ × ℕ) → Walk) (qs : List (List ℕ)) (v : List (ℕ × ℕ)) → rest p.u ≡ before qs (rest' v) → Rows rows' ((os ++ p.ps) ++ qs) → Told m way' v
      → Partly m w os way' rows' rest'
  partly_on way' rows' rest' qs v e hold say = record {
    ps = p.ps ++ qs;
    u = v;
    is = p.is ∙ ap (before p.ps) e ∙ before-before p.ps qs (rest' v);
    hold = subst (Rows rows') (append_assoc os p.ps qs) hold;
    say = say;
  }

  -- what is left stops the walk
  partly_stops : (k : ℕ) → rest p.u ≡ stopped k → w ≡ stopped k
  unfolding before go_on
  partly_stops k e = p.is ∙ ap (before p.ps) e

  -- nothing is left
  partly_done : rest p.u ≡ found [] p.u → w ≡ found p.ps p.u
  unfolding before go_on
  partly_done e = p.is ∙ ap (before p.ps) e ∙ ap (λ (qs : List (List ℕ)). found qs p.u) (append-nil p.ps)

-- Turn by turn

-- the loop came from its first turn, with way₀ and rows₀, to a later one: a walk that was done in part then, is so now
pub record Looped (m : DependencyMap) (way₀ : DependencyEnumerator) (rows₀ : Found) (way : DependencyEnumerator) (rows : Found) : Type 0 where
  pub walking : Walking m way
  pub room : Room rows
  pub far : (w : Walk) (os : List (List ℕ)) → Partly m w os way₀ rows₀ (resume (walk_from m) (way_of m way₀)) → Partly m w os way rows (resume (walk_from m) (way_of m way))

-- a turn brings a walk further
far-turn : (m : DependencyMap) (w : Walk) (os : List (List ℕ)) (way : DependencyEnumerator) (rows : Found) (rest : List (ℕ × ℕ) → Walk) (p : Partly m w os way rows rest) (t : Turned) → Room rows → Goes m (rest p.u) t
    → Partly m w os t.walk (kept rows t.leaf) (resume (walk_from m) (way_of m t.walk))
far-turn m w os way rows rest p t room x =
    partly_on m w os way rows rest p t.walk (kept rows t.leaf) (resume (walk_from m) (way_of m t.walk)) x.os x.s x.is (rows-kept rows t.leaf (os ++ p.ps) x.os room p.hold x.emits) x.say

-- the walk from a key, where the way down has none
module _ (m : DependencyMap) (e : DependencyEnumerator) (f : Found) (k : ℕ) (top : e.depth ≡ 0) where
  start-is : (s : List (ℕ × ℕ)) → upward (walk_from m) (way_of m e) (walk_from m k s) ≡ walk_from m k s
  unfolding frames_of
  start-is s = rw top (upward-start (walk_from m) (walk_from m k s))

  -- its first turn stops it
  pub first-stops : (why : Refusal) → Stops m e (λ s. upward (walk_from m) (way_of m e) (walk_from m k s)) why → Walked m e f k (Err why)
  first-stops why x s os say hold = sym (start-is s) ∙ x s say

  -- or it came as far as this turn
  module _ (t : Turned) (room : Room f) (x : CameOn m e (λ s. upward (walk_from m) (way_of m e) (walk_from m k s)) t) where
    far-first : (s : List (ℕ × ℕ)) (os : List (List ℕ)) → Told m e s → Rows f os → Partly m (walk_from m k s) os t.walk (kept f t.leaf) (resume (walk_from m) (way_of m t.walk))
    unfolding partly_none
    far-first s os say hold =
        far-turn m (walk_from m k s) os e f (walk_from m k) (partly_none m os e f (walk_from m k) s hold say) t room (subst (λ (v : Walk). Goes m v t) (start-is s) (x.goes s say))

-- the loop begins with the first turn
pub goes_first : (m : DependencyMap) (e : DependencyEnumerator) (f : Found) (k : ℕ) (t : Turned) → Room f → CameOn m e (λ s. upward (walk_from m) (way_of m e) (walk_from m k s)) t → Looped m t.walk (kept f t.leaf) t.walk (kept f t.leaf)
goes_first m e f k t room x = record { walking = x.walking; room = room-kept f t.leaf room; far = λ w os y. y }

-- nothing is left where the way down has no key
resume-top : (m : DependencyMap) (way : DependencyEnumerator) (u : List (ℕ × ℕ)) → way.depth ≡ 0 → resume (walk_from m) (way_of m way) u ≡ found [] u
unfolding resume frames_of
resume-top m way u top = rw top

-- the loop over turns
module _ (m : DependencyMap) (way₀ : DependencyEnumerator) (rows₀ : Found) (way : DependencyEnumerator) (rows : Found) (g : Looped m way₀ rows₀ way rows) where
  -- one turn more
  pub goes-next : (t : Turned) → WentOn m way t → Looped m way₀ rows₀ t.walk (kept rows t.leaf)
  goes-next t x = record {
    walking = x.walking;
    room = room-kept rows t.leaf g.room;
    far = λ w os y.
        let p = g.far w os y in
        far-turn m w os way rows (resume (walk_from m) (way_of m way)) p t g.room (x.goes p.u p.say);
  }

  -- a turn that stops the walk
  turn-stops : (why : Refusal) → Stops m way (λ s. resume (walk_from m) (way_of m way) s) why → (w : Walk) (os : List (List ℕ)) → Partly m w os way₀ rows₀ (resume (walk_from m) (way_of m way₀)) → w ≡ stopped (refusal_number why)
  turn-stops why x w os y = let p = g.far w os y in partly_stops m w os way rows (resume (walk_from m) (way_of m way)) p (refusal_number why) (x p.u p.say)

  -- after the last turn
  far-last : way.depth ≡ 0 → (w : Walk) (os : List (List ℕ)) → Partly m w os way₀ rows₀ (resume (walk_from m) (way_of m way₀)) → Came w os rows (λ u. Told m way u)
  far-last top w os y =
      let p = g.far w os y in
      record { ps = p.ps; s = p.u; is = partly_done m w os way rows (resume (walk_from m) (way_of m way)) p (resume-top m way p.u top); rows = p.hold; holds = p.say }

-- what the walk from a key comes to, after the first turn and the loop
module _ (m : DependencyMap) (e : DependencyEnumerator) (f : Found) (k : ℕ) (t : Turned) (rows₀ : Found) (way : DependencyEnumerator) (rows : Found) (begin : e.depth ≡ 0) (room : Room f) (x : CameOn m e (λ s. upward (walk_from m) (way_of m e) (walk_from m k s)) t) (is : rows₀ ≡ kept f t.leaf) (g : Looped m t.walk rows₀ way rows) where
  then-far : (s : List (ℕ × ℕ)) (os : List (List ℕ)) → Told m e s → Rows f os → Partly m (walk_from m k s) os t.walk rows₀ (resume (walk_from m) (way_of m t.walk))
  then-far s os say hold = subst (λ (y : Found). Partly m (walk_from m k s) os t.walk y (resume (walk_from m) (way_of m t.walk))) (sym is) (far-first m e f k begin t room x s os say hold)

  -- a turn stopped it
  pub walked-stops : (why : Refusal) → Stops m way (λ s. resume (walk_from m) (way_of m way) s) why → Walked m e f k (Err why)
  walked-stops why y s os say hold = turn-stops m t.walk rows₀ way rows g why y (walk_from m k s) os (then-far s os say hold)

  -- all turns are done
  pub walked_all : way.depth ≡ 0 → Walked m e f k (Ok (record { walk = way; found = rows }))
  walked_all top = record {
    walking = g.walking;
    ended = top;
    room = g.room;
    came = λ s os say hold. far-last m t.walk rows₀ way rows g top (walk_from m k s) os (then-far s os say hold);
  }

-- Dependency by dependency

-- from each of some keys, from place k on
module _ (m : List Dependent) (ds : List ℕ) (s : List (ℕ × ℕ)) (k : ℕ) where
  -- the walk from the next key stops all
  start-stops : (number : ℕ) → k < length ds → construct_orderings m (get_or ds k 0) s ≡ stopped number → over_start m (drop k ds) s ≡ stopped number
  unfolding over_start go_on
  start-stops number l e = rw (drop-cons ds k 0 l, e)

  -- the walk from the next key found something
  start-on : (ps : List (List ℕ)) (u : List (ℕ × ℕ)) → k < length ds → construct_orderings m (get_or ds k 0) s ≡ found ps u → over_start m (drop k ds) s ≡ before ps (over_start m (drop (k + 1) ds) u)
  unfolding over_start go_on before
  start-on ps u l e = rw (drop-cons ds k 0 l, e, add-one k)

  -- no key is left
  start-ends : length ds ≤ k → over_start m (drop k ds) s ≡ found [] s
  unfolding over_start
  start-ends l = rw (drop_of_length-le ds l)

-- the dependencies of the key at a place
abbrev keys_at : DependencyMap → ℕ → List ℕ
keys_at m i = (entry_at (decode m) i).dependencies

-- what the code reads at a place of the map has at most 16 dependencies
pub node-short : (m : DependencyMap) → Held m → (i : ℕ) → i < m.count → (get_or m.list i no_place).size ≤ 16
node-short m h i inside = rw (node-is m h i inside) (h.entries i inside).short

-- the walks from the first k dependencies of a key are done, and those from the others are left
pub record Starts (m : DependencyMap) (i : ℕ) (f : Found) (walk : DependencyEnumerator) (rows : Found) (k : ℕ) : Type 0 where
  pub walking : Walking m walk
  pub top : walk.depth ≡ 0
  pub room : Room rows
  pub goes : (os : List (List ℕ)) → Rows f os → Partly m (over_start (decode m) (keys_at m i) []) os walk rows (over_start (decode m) (drop k (keys_at m i)))

-- none is done
pub starts_first : (m : DependencyMap) (i : ℕ) (f : Found) (walk : DependencyEnumerator) → walk ≡ fresh → Held m → Room f → Starts m i f walk f 0
starts_first m i f walk is h room = rw is (record {
  walking = walking-fresh m h;
  top = refl;
  room = room;
  goes = λ os hold. partly_none m os fresh f (over_start (decode m) (keys_at m i)) [] hold (told_fresh m);
})

-- the loop over the dependencies of the key at a place, which is read as a node
module _ (m : DependencyMap) (i : ℕ) (node : DependencyNode) (inside : i < m.count) (is : node ≡ place_in m i) where
  -- it has as many dependencies as the node says
  size-read : length (keys_at m i) ≡ node.size
  size-read = entry-size m i inside ∙ ap (λ (r : DependencyNode). r.size) (sym is)

  -- and those that stand there
  key-read : (k : ℕ) → k < node.size → get_or (keys_at m i) k 0 ≡ get_or node.dependencies k 0
  key-read k l =
      entry-dependency m i inside k (subst (λ (r : DependencyNode). k < r.size) is l)
      ∙ ap (λ (r : DependencyNode). get_or r.dependencies k 0) (sym is)

  module _ (f : Found) (walk : DependencyEnumerator) (rows : Found) (k : ℕ) (g : Starts m i f walk rows k) where
    module _ (l : k < node.size) where
      -- the walk from the next dependency is done
      pub starts-next : (r : Constructed) → WalkedOn m walk rows (get_or node.dependencies k 0) r → Starts m i f r.walk r.found (k + 1)
      starts-next r x = record {
        walking = x.walking;
        top = x.ended;
        room = x.room;
        goes = λ os hold.
            let p = g.goes os hold in
            let y : Came (walk_from m (get_or (keys_at m i) k 0) p.u) (os ++ p.ps) r.found (λ u. Told m r.walk u) = rw (key-read k l) (x.came p.u (os ++ p.ps) p.say p.hold) in
            partly_on m (over_start (decode m) (keys_at m i) []) os walk rows (over_start (decode m) (drop k (keys_at m i))) p r.walk r.found (over_start (decode m) (drop (k + 1) (keys_at m i))) y.ps y.s
            (start-on (decode m) (keys_at m i) p.u k y.ps y.s (omega (arith, size-read)) y.is) y.rows y.holds;
      }

      -- it stops all
      pub starts-stop : (why : Refusal) → Walked m walk rows (get_or node.dependencies k 0) (Err why) → Began m i f (Err why)
      starts-stop why x os hold =
          let p = g.goes os hold in
          partly_stops m (over_start (decode m) (keys_at m i) []) os walk rows (over_start (decode m) (drop k (keys_at m i))) p (refusal_number why)
          (start-stops (decode m) (keys_at m i) p.u k (refusal_number why) (omega (arith, size-read)) (rw (key-read k l) (x p.u (os ++ p.ps) p.say p.hold)))

    -- all are done
    pub starts-last : node.size ≤ k → Began m i f (Ok rows)
    starts-last l = record {
      room = g.room;
      came = λ os hold.
          let p = g.goes os hold in
          record {
            ps = p.ps;
            s = p.u;
            is = partly_done m (over_start (decode m) (keys_at m i) []) os walk rows (over_start (decode m) (drop k (keys_at m i))) p (start-ends (decode m) (keys_at m i) p.u k (omega (arith, size-read)));
            rows = p.hold;
            holds = tt;
          };
    }
