-- The turns of a walk: what the code reads, the way up, a stop, a step down, and a turn at the lowest key of the way down.
use Prim.Native.Nat.{ℕ, suc, ◌+◌, ◌-◌, ◌<◌, ◌≤◌}
use mathlib.Core.Bool.{true, false}
use mathlib.Core.List.{List, [], ◌∷◌, ◌++◌, map}
use Rattle.std.specs.Prelude.{Option, None, Some, Result, Ok, Err}
use mathlib.Core.Path.{◌≡◌, refl, sym, ap, ◌∙◌, subst}
use native.Mathlib.Decide.{ℕ_discrete}
use native.Mathlib.Omega.{arith}
use borrow.Author.Tests.{eq-eqb}
use lib.ListN.{length, get_or, drop, set, replicate, length-append, length-replicate, length-set, length-map, drop_of_length-le}
use lib.Seq.{get_or-set_same, get_or-set_other}
use Rattle.laws.proofs.Booleans.{and_both}
use Rattle.laws.proofs.Table.{get_or-table}
use Rattle.orderings.specs.Ordering.{has_expr, pushed, extended}
use Rattle.orderings.specs.Layout.{row, keys_of}
use Rattle.orderings.specs.Inner.{ShortOrdering, extended_of}
use Rattle.orderings.specs.declared.Ordering.{Ordering}
use Rattle.arena.specs.declared.Refusal.{Refusal}
use Rattle.arena.specs.declared.Refusal.TheVariants.{UnknownKey, NoTarget}
use Rattle.orderings.proofs.Codec.{keys-row, get_d_any}
use Rattle.orderings.proofs.Extending.{extended-grows, short-size, row-short, fits-here, fits_not, fitting, unfitting}
use Rattle.dependencies.specs.Map.{Dependent, entry_at, place_of}
use Rattle.dependencies.specs.Layout.{row as row_of, entry_of, unused, encode, decode, place_in}
use Rattle.dependencies.specs.Inner.{Held}
use Rattle.dependencies.specs.declared.DependencyNode.{DependencyNode}
use Rattle.dependencies.specs.declared.DependencyMap.{DependencyMap}
use Rattle.dependencies.proofs.MapChecks.{no_place, read_is}
use Rattle.dependencies.proofs.MapCodec.{length-decode, place-decode, size_is}
use Rattle.enumeration.specs.Walk.{Walk, found, is_seen, over_dependencies, at_target, at_entry, at_place}
use Rattle.enumeration.specs.Inner.{seen_at, told, frame_at, unmarked, hits, marked, deeper, left, Opened, Framed, Walking, Told, frame_of, frames_of, up_all, before, resume, upward, way_of, walk_from, Emits, Goes, Visited, Entered, Went}
use Rattle.enumeration.specs.declared.Frame.{Frame}
use Rattle.enumeration.specs.declared.Seen.{Seen}
use Rattle.enumeration.specs.declared.DependencyEnumerator.{DependencyEnumerator}
use Rattle.enumeration.specs.declared.Turned.{Turned}
use Rattle.enumeration.proofs.WalkLaws.{walk_from_lem}
use Rattle.enumeration.proofs.WayLaws.{before-none, resume-leaves, resume-skips, resume_expands, upward-stopped, upward-one, upward-down}
use Rattle.enumeration.proofs.Marks.{told-marked, left-marked, walking-marked}
use Rattle.enumeration.proofs.Frames.{frames_kept, frames_deeper}

-- What the code reads

-- a map that is checked has 64 places
pub places : (m : DependencyMap) → Held m → length m.list ≡ 64
unfolding encode
places m h = subst (λ (x : DependencyMap). length x.list ≡ 64) h.coded all
  where
    all : length (map row_of (decode m) ++ replicate (64 - length (decode m)) unused) ≡ 64
    all = omega (arith, length-append (map row_of (decode m)) (replicate (64 - length (decode m)) unused), length-map (decode m) row_of, length-replicate {A = DependencyNode} (64 - length (decode m)) unused, length-decode m, h.few)

-- an entry that the code reads is the one at its place
pub node-is : (m : DependencyMap) → Held m → (i : ℕ) → i < m.count → get_or m.list i no_place ≡ place_in m i
node-is m h i l = read_is m (places m h) i (omega (arith, h.few))

-- a frame of the way down stands at a key of the map
pub frame_below : (m : DependencyMap) (e : DependencyEnumerator) → Walking m e → (i : ℕ) → i < e.depth → (frame_at e i).place < 64
frame_below m e w i l = omega (arith, (w.framed i l).there, w.map.few)

-- the way down has at most 1,025 keys
pub depth_few : (m : DependencyMap) (e : DependencyEnumerator) → Walking m e → e.depth ≤ 1025
depth_few m e w = omega (arith, w.room)

-- The way up

-- the way down with its lowest key taken off
frames_last : (m : DependencyMap) (e : DependencyEnumerator) (i : ℕ) → 0 < i → frames_of m e i ≡ frame_of m (frame_at e (i - 1)) ∷ frames_of m e (i - 1)
unfolding frames_of
frames_last m e i l = let s : i ≡ suc (i - 1) = omega arith in ap (frames_of m e) s

-- an ordering with the targets on the way up is that ordering extended by them
up-extends : (fs : List (ℕ × List ℕ)) (o : List ℕ) → up_all fs o ≡ extended o (map (λ (f : ℕ × List ℕ). f.0) fs)
unfolding up_all extended
up-extends [] o = refl
up-extends (f ∷ fs) o = up-extends fs (pushed o f.0)

-- so it only grows
up-grows : (fs : List (ℕ × List ℕ)) (o : List ℕ) → length o ≤ length (up_all fs o)
up-grows fs o = omega (arith, ap (λ (p : List ℕ). length p) (up-extends fs o), extended-grows o (map (λ (f : ℕ × List ℕ). f.0) fs))

-- the way up of a target: the first i keys of the way down are to come
pub record Climbing (m : DependencyMap) (e : DependencyEnumerator) (t i : ℕ) (out : Ordering) : Type 0 where
  pub below : i ≤ e.depth
  pub short : ShortOrdering out
  pub goes : up_all (frames_of m e e.depth) (t ∷ []) ≡ up_all (frames_of m e i) (keys_of out)

module _ (m : DependencyMap) (e : DependencyEnumerator) (t : ℕ) where
  -- it begins with the target alone
  module _ (o : Ordering) (p : o ≡ row []) where
    one : pushed (keys_of o) t ≡ t ∷ []
    unfolding pushed has_expr
    one = ap (λ (r : Ordering). pushed (keys_of r) t) p ∙ ap (λ (z : List ℕ). pushed z t) (keys-row [])

    pub climbing_begins : (x : Ordering) → Ok x ≡ extended_of (pushed (keys_of o) t) → Climbing m e t e.depth x
    climbing_begins x q =
        let is : x ≡ row (t ∷ []) = (fitting (t ∷ []) x (q ∙ ap extended_of one)).is in
        record {
          below = omega arith;
          short = subst ShortOrdering (sym is) (row-short (t ∷ []) (omega arith));
          goes = ap (up_all (frames_of m e e.depth)) (sym (ap keys_of is ∙ keys-row (t ∷ [])));
        }

    -- for which there is room
    pub climbing-room : (A : Type 0) (x : Refusal) → Err x ≡ extended_of (pushed (keys_of o) t) → A
    climbing-room A x q = let u = (unfitting (t ∷ []) x (q ∙ ap extended_of one)).0 in absurd (omega arith)

  module _ (i : ℕ) (out : Ordering) (c : Climbing m e t i out) where
    module _ (l : 0 < i) (key : ℕ) (s : (place_in m (frame_at e (i - 1)).place).target ≡ key) where
      -- the lowest key of the way down is pushed
      climbed : up_all (frames_of m e e.depth) (t ∷ []) ≡ up_all (frames_of m e (i - 1)) (pushed (keys_of out) key)
      unfolding up_all
      climbed = c.goes ∙ ap (λ (fs : List (ℕ × List ℕ)). up_all fs (keys_of out)) (frames_last m e i l) ∙ ap (λ (z : ℕ). up_all (frames_of m e (i - 1)) (pushed (keys_of out) z)) s

      -- one key more
      pub climbing_on : (x : Ordering) → Ok x ≡ extended_of (pushed (keys_of out) key) → Climbing m e t (i - 1) x
      climbing_on x q =
          let p = fitting (pushed (keys_of out) key) x q in
          record {
            below = omega (arith, c.below);
            short = subst ShortOrdering (sym p.is) (row-short (pushed (keys_of out) key) p.few);
            goes = climbed ∙ ap (up_all (frames_of m e (i - 1))) (sym (ap keys_of p.is ∙ keys-row (pushed (keys_of out) key)));
          }

      -- over 16 keys, and more keys don't make it fewer
      pub climbing_stops : (x : Refusal) → Err x ≡ extended_of (pushed (keys_of out) key) → Err x ≡ extended_of (up_all (frames_of m e e.depth) (t ∷ []))
      climbing_stops x q =
          let ps : List ℕ = pushed (keys_of out) key in
          let a = unfitting ps x q in
          let b = ap (λ (z : List ℕ). length z) climbed in
          ap Err a.1 ∙ sym (fits_not (up_all (frames_of m e e.depth) (t ∷ [])) (omega (arith, a.0, up-grows (frames_of m e (i - 1)) ps)))

    -- the top is reached
    pub climbing_ends : i ≤ 0 → Ok out ≡ extended_of (up_all (frames_of m e e.depth) (t ∷ []))
    unfolding frames_of up_all
    climbing_ends l =
        let z : i ≡ 0 = omega arith in
        sym (ap extended_of (c.goes ∙ ap (λ (n : ℕ). up_all (frames_of m e n) (keys_of out)) z)
        ∙ fits-here (keys_of out) (short-size out c.short) ∙ ap Ok c.short.coded)

-- What a turn finds

-- the places that are left are those of the marks
pub left-seen : (e f : DependencyEnumerator) → e.seen ≡ f.seen → left e ≡ left f
unfolding left
left-seen e f p = rw p

-- accounts with the same marks say the same
pub told-seen : (m : DependencyMap) (e f : DependencyEnumerator) (s : List (ℕ × ℕ)) → f.seen ≡ e.seen → Told m e s → Told m f s
unfolding told
told-seen m e f s p t = record { is = λ i k a b c. ap (λ (x : List Seen). get_or (get_or x i unmarked).told k false) p ∙ t.is i k a b c }

-- nothing is found by a turn without an ordering
emits_none : Emits None []
emits_none = record { nothing = λ q. refl; one = λ r q. cc }

-- one ordering is found by a turn with one
emits_one : (r : Result Ordering Refusal) (o : List ℕ) → r ≡ extended_of o → Emits (Some r) (o ∷ [])
emits_one r o p = record { nothing = λ q. cc; one = λ x g. (o, refl, let e : r ≡ x = cc in sym e ∙ p) }

-- a turn that goes on with an account and finds nothing
abbrev on : DependencyEnumerator → Turned
on e = record { leaf = None; walk = e }

-- it leaves all of the walk
turns-none : (m : DependencyMap) (w : Walk) (e : DependencyEnumerator) (s : List (ℕ × ℕ)) → Told m e s → w ≡ resume (walk_from m) (way_of m e) s → Goes m w (on e)
turns-none m w e s say q = record { os = []; emits = emits_none; s = s; say = say; is = q ∙ sym (before-none (resume (walk_from m) (way_of m e) s)) }

-- a turn that finds one leaves the rest
turns-one : (m : DependencyMap) (w : Walk) (e : DependencyEnumerator) (r : Result Ordering Refusal) (o : List ℕ) (s : List (ℕ × ℕ)) → r ≡ extended_of o → Told m e s → w ≡ before (o ∷ []) (resume (walk_from m) (way_of m e) s) → Goes m w (record { leaf = Some r; walk = e })
turns-one m w e r o s p say q = record { os = o ∷ []; emits = emits_one r o p; s = s; say = say; is = q }

-- Frames

-- the frame that is read past the end
abbrev no_frame : Frame
no_frame = record { place = 0; next = 0 }

-- the frame of a key before its first dependency
abbrev first_of : ℕ → Frame
first_of i = record { place = i; next = 0 }

-- A place of the map

-- the target of an entry with one
target-there : (r : DependencyNode) → r.projected ≡ true → (entry_of r).target ≡ Some r.target
unfolding entry_of
target-there r p = rw p

-- and of an entry without one
target_none : (r : DependencyNode) → r.projected ≡ false → (entry_of r).target ≡ None
unfolding entry_of
target_none r p = rw p

module _ (at : ℕ → List (ℕ × ℕ) → Walk) (t : ℕ) (s : List (ℕ × ℕ)) where
  -- the walk at an entry with a target and no dependencies
  leaf_entry : (o : Option ℕ) (ds : List ℕ) → o ≡ Some t → length ds ≡ 0 → at_entry at o ds s ≡ found ((t ∷ []) ∷ []) s
  unfolding at_entry at_target
  leaf_entry o [] p q = rw p
  leaf_entry o (d ∷ ds) p q = absurd (omega arith)

  -- and with dependencies
  open-entry : (o : Option ℕ) (ds : List ℕ) → o ≡ Some t → (length ds ≡ 0 → ⊥) → at_entry at o ds s ≡ over_dependencies at t ds s
  unfolding at_entry at_target
  open-entry o [] p q = absurd (q refl)
  open-entry o (d ∷ ds) p q = rw p

module _ (m : DependencyMap) (i : ℕ) (l : i < m.count) where
  -- an entry has as many dependencies as its struct says
  pub entry-size : length (entry_at (decode m) i).dependencies ≡ (place_in m i).size
  entry-size = ap (λ (d : Dependent). length d.dependencies) (place-decode m i l) ∙ size_is (place_in m i)

  -- and these
  pub entry-dependency : (k : ℕ) → k < (place_in m i).size → get_or (entry_at (decode m) i).dependencies k 0 ≡ get_or (place_in m i).dependencies k 0
  unfolding entry_of
  entry-dependency k b =
      ap (λ (d : Dependent). get_or d.dependencies k 0) (place-decode m i l)
      ∙ get_or-table (λ (j : ℕ). get_or (place_in m i).dependencies j 0) (place_in m i).size k 0 b

  -- its target, where the struct has one
  entry-target : (place_in m i).projected ≡ true → (entry_at (decode m) i).target ≡ Some (place_in m i).target
  entry-target p = ap (λ (d : Dependent). d.target) (place-decode m i l) ∙ target-there (place_in m i) p

  -- none, where it has none
  entry-bare : (place_in m i).projected ≡ false → (entry_at (decode m) i).target ≡ None
  entry-bare p = ap (λ (d : Dependent). d.target) (place-decode m i l) ∙ target_none (place_in m i) p

  module _ (e : DependencyEnumerator) (w : Walking m e) where
    -- the walk at the entry
    abbrev At : List (ℕ × ℕ) → Walk
    At s = at_entry (walk_from m) (entry_at (decode m) i).target (entry_at (decode m) i).dependencies s

    -- without a target the walk stops with 7
    pub visited_bare : (place_in m i).projected ≡ false → Visited m e i (Err NoTarget)
    unfolding at_entry
    visited_bare p s say =
        ap (λ (o : Option ℕ). upward (walk_from m) (way_of m e) (at_entry (walk_from m) o (entry_at (decode m) i).dependencies s)) (entry-bare p)
        ∙ upward-stopped (walk_from m) (way_of m e) 7

    -- with a target and nothing that it depends on there is an ordering
    pub visited_leaf : (x : Result Ordering Refusal) → (place_in m i).projected ≡ true → (place_in m i).size ≡ 0 → x ≡ extended_of (up_all (way_of m e) ((place_in m i).target ∷ []))
        → Visited m e i (Ok (record { leaf = Some x; walk = e }))
    visited_leaf x p z q =
        record {
          walking = w;
          seen = refl;
          deep = omega arith;
          goes = λ s say.
              turns-one m (upward (walk_from m) (way_of m e) (At s)) e x (up_all (way_of m e) ((place_in m i).target ∷ [])) s q say
              (ap (upward (walk_from m) (way_of m e)) (leaf_entry (walk_from m) (place_in m i).target s (entry_at (decode m) i).target (entry_at (decode m) i).dependencies (entry-target p) (entry-size ∙ z))
              ∙ upward-one (walk_from m) (way_of m e) ((place_in m i).target ∷ []) s);
        }

    -- an account whose way down goes on is one
    walking-deeper : e.depth + left e ≤ 1024 → (place_in m i).projected ≡ true → Walking m (deeper e i)
    unfolding deeper
    walking-deeper b p =
        record {
          map = w.map;
          room = omega (arith, left-seen (deeper e i) e refl);
          long = length-set e.frames e.depth (first_of i) ∙ w.long;
          wide = w.wide;
          framed = λ j u. at j u (ℕ_discrete j e.depth);
        }
      where
        at : (j : ℕ) → j < e.depth + 1 → Dec (j ≡ e.depth) → Framed m (frame_at (deeper e i) j)
        at j u (yes q) =
            subst (Framed m) (sym (ap (λ (n : ℕ). frame_at (deeper e i) n) q ∙ get_or-set_same e.frames e.depth (first_of i) no_frame (omega (arith, w.long, b))))
            (record { there = l; target = p; next = omega arith })
        at j u (no q) = subst (Framed m) (sym (get_or-set_other e.frames e.depth j (first_of i) no_frame q)) (w.framed j (omega arith))

    -- with dependencies the walk goes one key down
    pub visited_open : e.depth + left e ≤ 1024 → (place_in m i).projected ≡ true → ((place_in m i).size ≡ 0 → ⊥) → Visited m e i (Ok (on (deeper e i)))
    unfolding deeper
    visited_open b p z =
        record {
          walking = walking-deeper b p;
          seen = refl;
          deep = omega arith;
          goes = λ s say. turns-none m (upward (walk_from m) (way_of m e) (At s)) (deeper e i) s (told-seen m e (deeper e i) s refl say) (whole s);
        }
      where
        whole : (s : List (ℕ × ℕ)) → upward (walk_from m) (way_of m e) (At s) ≡ resume (walk_from m) (frames_of m (deeper e i) (e.depth + 1)) s
        whole s =
            ap (upward (walk_from m) (way_of m e)) (open-entry (walk_from m) (place_in m i).target s (entry_at (decode m) i).target (entry_at (decode m) i).dependencies (entry-target p) (λ y. z (sym entry-size ∙ y)))
            ∙ upward-down (walk_from m) (place_in m i).target (entry_at (decode m) i).dependencies (way_of m e) s
            ∙ ap (λ (fs : List (ℕ × List ℕ)). resume (walk_from m) fs s) (sym (frames_deeper m e i (omega (arith, w.long, b))))

-- A key

-- the walk from a key, by its place
from_place : (m : DependencyMap) (e : DependencyEnumerator) (k : ℕ) (o : Option ℕ) (s : List (ℕ × ℕ)) → place_of (decode m) k ≡ o
    → upward (walk_from m) (way_of m e) (walk_from m k s) ≡ upward (walk_from m) (way_of m e) (at_place (walk_from m) (decode m) o s)
from_place m e k o s p =
    ap (upward (walk_from m) (way_of m e)) (walk_from_lem (decode m) k s ∙ ap (λ (x : Option ℕ). at_place (walk_from m) (decode m) x s) p)

module _ (m : DependencyMap) (e : DependencyEnumerator) (k : ℕ) where
  -- a key that is in the map: its place is visited
  pub entered_there : (i : ℕ) (r : Result Turned Refusal) → place_of (decode m) k ≡ Some i → Visited m e i r → Entered m e k r
  unfolding at_place
  entered_there i (Ok t) p v =
      record {
        walking = v.walking;
        seen = v.seen;
        deep = v.deep;
        goes = λ s say. subst (λ (w : Walk). Goes m w t) (sym (from_place m e k (Some i) s p)) (v.goes s say);
      }
  entered_there i (Err why) p v = λ s say. from_place m e k (Some i) s p ∙ v s say

  -- a key that is not: the walk stops with 6
  pub entered_nowhere : place_of (decode m) k ≡ None → Entered m e k (Err UnknownKey)
  unfolding at_place
  entered_nowhere p s say = from_place m e k None s p ∙ upward-stopped (walk_from m) (way_of m e) 6

-- The lowest key of the way down

-- the marks that the code reads past the end
abbrev pub no_marks : Seen
no_marks = record { told = [] }

-- the account with the lowest key left
abbrev pub shorter : DependencyEnumerator → DependencyEnumerator
shorter e = record { depth = e.depth - 1; frames = e.frames; seen = e.seen }

-- the account with another frame at a place of the way down
abbrev pub framed_at : DependencyEnumerator → ℕ → Frame → DependencyEnumerator
framed_at e n f = record { depth = e.depth; frames = set e.frames n f; seen = e.seen }

module _ (m : DependencyMap) (e : DependencyEnumerator) (w : Walking m e) (up : 0 < e.depth) where
  -- the lowest frame
  abbrev pub top : Frame
  top = frame_at e (e.depth - 1)

  -- it stands at a key with a target
  pub top-framed : Framed m top
  top-framed = w.framed (e.depth - 1) (omega arith)

  -- the entry there
  abbrev pub top_node : DependencyNode
  top_node = place_in m top.place

  -- what it depends on
  abbrev top_dependencies : List ℕ
  top_dependencies = (entry_at (decode m) top.place).dependencies

  -- the entry that the code reads is the one there
  pub top-node : get_or m.list top.place no_place ≡ top_node
  top-node = node-is m w.map top.place top-framed.there

  -- the marks that the code reads are those at the place
  pub marks-are : get_or e.seen top.place no_marks ≡ seen_at e top.place
  marks-are = get_d_any e.seen top.place no_marks unmarked (omega (arith, top-framed.there, w.map.few, w.wide))

  -- what the code found open is so for the entry and the marks at the place
  pub opened-is : (k : ℕ) (r : DependencyNode) (ms : Seen) → r ≡ top_node → ms ≡ seen_at e top.place → Opened ms top.next r.size k → Opened (seen_at e top.place) top.next top_node.size k
  opened-is k r ms p q o =
      subst (λ (n : ℕ). Opened (seen_at e top.place) top.next n k) (ap (λ (x : DependencyNode). x.size) p)
      (subst (λ (x : Seen). Opened x top.next r.size k) q o)

  module _ (k : ℕ) (o : Opened (seen_at e top.place) top.next top_node.size k) where
    -- the pairs before k were expanded, so what is left begins at k
    skipped : (s : List (ℕ × ℕ)) → Told m e s → resume (walk_from m) (way_of m e) s ≡ resume (walk_from m) ((top_node.target, drop k top_dependencies) ∷ frames_of m e (e.depth - 1)) s
    unfolding told
    skipped s say =
        ap (λ (fs : List (ℕ × List ℕ)). resume (walk_from m) fs s) (frames_last m e e.depth up)
        ∙ resume-skips (walk_from m) top_node.target top_dependencies (frames_of m e (e.depth - 1)) s top.next k o.low (omega (arith, o.high, entry-size m top.place top-framed.there))
        (λ j a b.
        ap (λ (d : ℕ). is_seen top_node.target d s) (entry-dependency m top.place top-framed.there j (omega (arith, o.high)))
        ∙ sym (say.is top.place j top-framed.there (omega (arith, o.high)) top-framed.target) ∙ o.before j a b)

    -- the frame after dependency k
    abbrev pub next_frame : Frame
    next_frame = record { place = top.place; next = k + 1 }

    -- all were: the walk leaves the key
    pub went_up : top_node.size ≤ k → Went m e (Ok (on (shorter e)))
    went_up l =
        record {
          walking = walking;
          less = omega (arith, left-seen (shorter e) e refl);
          goes = λ s say. turns-none m (resume (walk_from m) (way_of m e) s) (shorter e) s (told-seen m e (shorter e) s refl say) (whole s say);
        }
      where
        walking : Walking m (shorter e)
        walking =
            record {
              map = w.map;
              room = omega (arith, left-seen (shorter e) e refl, w.room);
              long = w.long;
              wide = w.wide;
              framed = λ i b. w.framed i (omega arith);
            }

        whole : (s : List (ℕ × ℕ)) → Told m e s → resume (walk_from m) (way_of m e) s ≡ resume (walk_from m) (frames_of m (shorter e) (e.depth - 1)) s
        whole s say =
            skipped s say
            ∙ ap (λ (ds : List ℕ). resume (walk_from m) ((top_node.target, ds) ∷ frames_of m e (e.depth - 1)) s) (drop_of_length-le top_dependencies {i = k} (omega (arith, entry-size m top.place top-framed.there)))
            ∙ resume-leaves (walk_from m) top_node.target (frames_of m e (e.depth - 1)) s
            ∙ ap (λ (fs : List (ℕ × List ℕ)). resume (walk_from m) fs s) (frames_kept m e (shorter e) (e.depth - 1) (λ i b. refl))

    module _ (l : k < top_node.size) where
      -- dependency k, the other half of the next pair
      abbrev next_key : ℕ
      next_key = get_or top_node.dependencies k 0

      -- the account after the pair is marked, with the dependency after k next
      abbrev next_walk : DependencyEnumerator
      next_walk = framed_at (marked m e top_node.target next_key) (e.depth - 1) next_frame

      -- an entry has 16 places for dependencies
      low : k < 16
      low = omega (arith, (w.map.entries top.place top-framed.there).short)

      -- and a map 64 for entries
      inside : top.place < 64
      inside = frame_below m e w (e.depth - 1) (omega arith)

      -- the pair is not marked
      not_yet : told e top.place k ≡ false
      unfolding told
      not_yet = o.here l

      -- it stands at dependency k
      here : hits top_node k top_node.target next_key ≡ true
      unfolding hits
      here = and_both (and_both top-framed.target (eq-eqb top_node.target top_node.target refl)) (eq-eqb next_key next_key refl)

      -- so marking it leaves fewer places
      fewer : left next_walk < left e
      fewer = omega (arith, left-seen next_walk (marked m e top_node.target next_key) refl, left-marked m e top_node.target next_key top.place k inside low not_yet here)

      -- the account stays one
      walking-next : Walking m next_walk
      unfolding marked
      walking-next =
          let v = walking-marked m e top_node.target next_key top.place k inside low not_yet here w in
          record {
            map = v.map;
            room = omega (arith, w.room, fewer);
            long = length-set e.frames (e.depth - 1) next_frame ∙ w.long;
            wide = v.wide;
            framed = λ j u. at j u (ℕ_discrete j (e.depth - 1));
          }
        where
          at : (j : ℕ) → j < e.depth → Dec (j ≡ e.depth - 1) → Framed m (frame_at next_walk j)
          at j u (yes q) =
              subst (Framed m) (sym (ap (λ (n : ℕ). frame_at next_walk n) q ∙ get_or-set_same e.frames (e.depth - 1) next_frame no_frame (omega (arith, w.long, w.room))))
              (record { there = top-framed.there; target = top-framed.target; next = omega arith })
          at j u (no q) = subst (Framed m) (sym (get_or-set_other e.frames (e.depth - 1) j next_frame no_frame q)) (w.framed j u)

      -- it has room for one key more
      next-asks : Walking m next_walk × (next_walk.depth + left next_walk ≤ 1024)
      unfolding marked
      next-asks = (walking-next, omega (arith, w.room, fewer))

      -- its way down: the lowest key with the dependencies after k, and the others as they were
      way_next : way_of m next_walk ≡ (top_node.target, drop (k + 1) top_dependencies) ∷ frames_of m e (e.depth - 1)
      unfolding marked
      way_next =
          frames_last m next_walk e.depth up
          ∙ ap (λ (f : Frame). frame_of m f ∷ frames_of m next_walk (e.depth - 1)) (get_or-set_same e.frames (e.depth - 1) next_frame no_frame (omega (arith, w.long, w.room)))
          ∙ ap (λ (fs : List (ℕ × List ℕ)). (top_node.target, drop (k + 1) top_dependencies) ∷ fs)
          (frames_kept m next_walk e (e.depth - 1) (λ i b. get_or-set_other e.frames (e.depth - 1) i next_frame no_frame (λ q. omega arith)))

      -- what is left of the walk is the walk from the pair's dependency, and what is left after it
      unfolded : (s : List (ℕ × ℕ)) → Told m e s → resume (walk_from m) (way_of m e) s ≡ upward (walk_from m) (way_of m next_walk) (walk_from m next_key (s ++ ((top_node.target, next_key) ∷ [])))
      unfolding told
      unfolded s say =
          let d = entry-dependency m top.place top-framed.there k l in
          skipped s say
          ∙ resume_expands (walk_from m) top_node.target top_dependencies (frames_of m e (e.depth - 1)) s k (omega (arith, entry-size m top.place top-framed.there))
          (ap (λ (x : ℕ). is_seen top_node.target x s) d ∙ sym (say.is top.place k top-framed.there l top-framed.target) ∙ o.here l)
          ∙ ap (λ (x : ℕ). upward (walk_from m) ((top_node.target, drop (k + 1) top_dependencies) ∷ frames_of m e (e.depth - 1)) (walk_from m x (s ++ ((top_node.target, x) ∷ [])))) d
          ∙ ap (λ (fs : List (ℕ × List ℕ)). upward (walk_from m) fs (walk_from m next_key (s ++ ((top_node.target, next_key) ∷ [])))) (sym way_next)

      -- the account says so with the pair more
      told_then : (s : List (ℕ × ℕ)) → Told m e s → Told m next_walk (s ++ ((top_node.target, next_key) ∷ []))
      unfolding marked
      told_then s say = told-seen m (marked m e top_node.target next_key) next_walk (s ++ ((top_node.target, next_key) ∷ [])) refl (told-marked m e top_node.target next_key s w.map say)

      -- so a turn that comes to the dependency is a turn of the walk
      went_on : (r : Result Turned Refusal) → Entered m next_walk next_key r → Went m e r
      unfolding marked
      went_on (Ok t) v =
          record {
            walking = v.walking;
            less = omega (arith, left-seen t.walk next_walk v.seen, fewer, v.deep);
            goes = λ s say. subst (λ (x : Walk). Goes m x t) (sym (unfolded s say)) (v.goes (s ++ ((top_node.target, next_key) ∷ [])) (told_then s say));
          }
      went_on (Err why) v = λ s say. unfolded s say ∙ v (s ++ ((top_node.target, next_key) ∷ [])) (told_then s say)

      module _ (r : DependencyNode) (q : r ≡ top_node) (x : DependencyEnumerator) (p : x ≡ marked m e r.target (get_or r.dependencies k 0)) where
        -- the account as the code makes it, from the entry and the marked account that it has
        abbrev pub read_walk : DependencyEnumerator
        read_walk = framed_at x (e.depth - 1) next_frame

        -- it is the same
        same-walk : read_walk ≡ next_walk
        same-walk =
            ap (λ (y : DependencyEnumerator). framed_at y (e.depth - 1) next_frame)
            (p ∙ ap (λ (n : DependencyNode). marked m e n.target (get_or n.dependencies k 0)) q)

        -- it has room for one key more
        pub read-asks : Walking m read_walk × (read_walk.depth + left read_walk ≤ 1024)
        read-asks = subst (λ (y : DependencyEnumerator). Walking m y × (y.depth + left y ≤ 1024)) (sym same-walk) next-asks

        -- and a turn that comes to the dependency from it is a turn of the walk
        pub went-read : (t : Result Turned Refusal) → Entered m read_walk (get_or r.dependencies k 0) t → Went m e t
        went-read t v =
            went_on t
            (subst (λ (d : ℕ). Entered m next_walk d t) (ap (λ (n : DependencyNode). get_or n.dependencies k 0) q)
            (subst (λ (y : DependencyEnumerator). Entered m y (get_or r.dependencies k 0) t) same-walk v))
