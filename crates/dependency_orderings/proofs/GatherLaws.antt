-- What the walks of the given keys come to, key by key.
use Rattle.std.specs.Prelude.{if◌then◌else◌, None, Some, Ok, Err}
use Prim.Native.Nat.{ℕ, ◌+◌, ◌/◌, ◌<◌, ◌≤◌}
use mathlib.Core.Bool.{Bool, true, false, not, ◌||◌}
use mathlib.Core.List.{List, [], ◌∷◌, ◌++◌, map, append-nil, append_assoc}
use mathlib.Core.Logic.{⊎_elim}
use mathlib.Core.Path.{◌≡◌, refl, sym, ap, ◌∙◌, subst}
use native.Mathlib.Decide.{ℕ_discrete, dec_lt}
use native.Mathlib.Numerals.{add-one}
use native.Mathlib.Omega.{arith}
use borrow.Author.Tests.{leb-true, leb-false, le-leb, lt-leb, eqb-true, eq-eqb, ne_eqb}
use lib.Dec.{eqb, leb}
use lib.ListN.{length, get_or, set, take, drop, length-append, length-set, length-map, length-replicate, take-append-drop, get_or-map}
use lib.Seq.{take_all, take-suc, take-append-le, get_or-set_same, get_or-set_other}
use Rattle.laws.proofs.Booleans.{true_not_false, and_left, and_right, and_both, same_test}
use Rattle.laws.proofs.First.{first_some}
use Rattle.classes.specs.Group.{among}
use Rattle.classes.proofs.Places.{among-left, among-right, among-either, among_one, one-among}
use Rattle.sort_keys.specs.Layout.{keys_of, packed}
use Rattle.sort_keys.proofs.KeyLaws.{keys-count, key-at}
use Rattle.orderings.specs.Inner.{all_short}
use Rattle.orderings.proofs.Appending.{long-append}
use Rattle.orderings.proofs.Codec.{fill_after}
use Rattle.dependencies.specs.Map.{Dependent, entry_at, place_of, with_dependency}
use Rattle.dependencies.specs.Layout.{decode}
use Rattle.dependencies.specs.declared.DependencyMap.{DependencyMap}
use Rattle.enumeration.specs.Walk.{Walk, found, stopped, over_start, prefix_orderings}
use Rattle.enumeration.specs.Bounds.{fitting}
use Rattle.enumeration.specs.Inner.{Room, Rows, BeganOn, Began}
use Rattle.enumeration.specs.declared.Found.{Found}
use Rattle.arena.specs.declared.Refusal.{Refusal}
use Rattle.arena.specs.declared.Refusal.TheVariants.{UnknownKey}
use Rattle.arena.specs.Refusals.{refusal_number}
use Rattle.enumeration.proofs.WalkLaws.{prefix-there, prefix-missing}
use Rattle.enumeration.proofs.Keeps.{room-none, rows_none}
use Rattle.products.specs.Generate.{once_each, Lists, lists, stops, with_list, contributing}
use Rattle.products.specs.Inner.{joined, start_of}
use Rattle.products.specs.declared.Shape.{Shape}
use Rattle.dependency_orderings.specs.Inner.{ungathered, counting, up_to17, end_of, with_found, with_key, Standing, Shapes, Gathering, Steps, Gathers, key_at}
use Rattle.dependency_orderings.specs.declared.Gathered.{Gathered}

-- the key at the place of a key is that key
key-there : (ds : List Dependent) (k i : ℕ) → place_of ds k ≡ Some i → (entry_at ds i).key ≡ k
unfolding place_of
key-there ds k i e = eqb-true (entry_at ds i).key k (first_some (λ (j : ℕ). eqb (entry_at ds j).key k) (length ds) i e).passes

-- What one key more contributes

-- lists, and lists after them
behind : Lists → Lists → Lists
behind (stops k) c = stops k
behind (lists ls) (stops k) = stops k
behind (lists ls) (lists qs) = lists (ls ++ qs)

-- orderings as one list, or as none where there are none
listed : List (List ℕ) → List (List (List ℕ))
listed [] = []
listed (o ∷ os) = (o ∷ os) ∷ []

-- a walk stopped
is_stop : Lists → Bool
is_stop (stops k) = true
is_stop (lists ls) = false

-- nothing before some lists
behind-none : (c : Lists) → behind (lists []) c ≡ c
unfolding behind
behind-none (stops k) = refl
behind-none (lists qs) = refl

-- one list more at the front of both
behind-list : (w : Walk) (a b : Lists) → with_list w (behind a b) ≡ behind (with_list w a) b
unfolding behind with_list
behind-list (stopped k) a b = refl
behind-list (found [] s) a b = refl
behind-list (found (o ∷ os) s) (stops k) b = refl
behind-list (found (o ∷ os) s) (lists ls) (stops k) = refl
behind-list (found (o ∷ os) s) (lists ls) (lists qs) = refl

-- a stop stays one with a list more at the front
stop-list : (w : Walk) (c : Lists) → is_stop c ≡ true → is_stop (with_list w c) ≡ true
unfolding with_list is_stop
stop-list (stopped k) c e = refl
stop-list (found [] s) c e = e
stop-list (found (o ∷ os) s) (stops k) e = refl
stop-list (found (o ∷ os) s) (lists ls) e = e

module _ (m : List Dependent) where
  -- keys, and keys after them
  contributing-append : (ks qs : List ℕ) → contributing m (ks ++ qs) ≡ behind (contributing m ks) (contributing m qs)
  unfolding contributing
  contributing-append [] qs = sym (behind-none (contributing m qs))
  contributing-append (k ∷ ks) qs = ap (with_list (prefix_orderings m k)) (contributing-append ks qs) ∙ behind-list (prefix_orderings m k) (contributing m ks) (contributing m qs)

  -- a stop stays one when more keys follow
  stops-append : (ks qs : List ℕ) (n : ℕ) → contributing m ks ≡ stops n → contributing m (ks ++ qs) ≡ stops n
  unfolding behind
  stops-append ks qs n e = contributing-append ks qs ∙ ap (λ (c : Lists). behind c (contributing m qs)) e

  -- one key whose walk stops
  one-stops : (k n : ℕ) → prefix_orderings m k ≡ stopped n → contributing m (k ∷ []) ≡ stops n
  unfolding contributing with_list
  one-stops k n e = ap (λ (w : Walk). with_list w (lists [])) e

  -- one key
  one_found : (k : ℕ) (ps : List (List ℕ)) (s : List (ℕ × ℕ)) → prefix_orderings m k ≡ found ps s → contributing m (k ∷ []) ≡ lists (listed ps)
  unfolding contributing with_list listed
  one_found k [] s e = ap (λ (w : Walk). with_list w (lists [])) e
  one_found k (o ∷ os) s e = ap (λ (w : Walk). with_list w (lists [])) e

  -- keys of which the walk of one stops
  stops-among : (ks : List ℕ) (k n : ℕ) → among k ks ≡ true → prefix_orderings m k ≡ stopped n → is_stop (contributing m ks) ≡ true
  unfolding contributing with_list is_stop among
  stops-among [] k n e p = absurd (true_not_false e refl)
  stops-among (d ∷ ds) k n e p = go (eqb d k) refl e (λ q. stops-among ds k n q p)
    where
      go : (b : Bool) → eqb d k ≡ b → (b || among k ds) ≡ true → (among k ds ≡ true → is_stop (contributing m ds) ≡ true) → is_stop (with_list (prefix_orderings m d) (contributing m ds)) ≡ true
      go true q t r = ap (λ (w : Walk). is_stop (with_list w (contributing m ds))) (ap (prefix_orderings m) (eqb-true d k q) ∙ p)
      go false q t r = stop-list (prefix_orderings m d) (contributing m ds) (r t)

  module _ (ks : List ℕ) (ls : List (List (List ℕ))) (k : ℕ) (e : contributing m ks ≡ lists ls) where
    -- the walk of one key more stops
    stops-more : (n : ℕ) → prefix_orderings m k ≡ stopped n → contributing m (with_dependency ks (Some k)) ≡ stops n
    unfolding with_dependency behind is_stop
    stops-more n p = go (among k ks) refl
      where
        go : (b : Bool) → among k ks ≡ b → contributing m (if b then ks else ks ++ (k ∷ [])) ≡ stops n
        go true q = absurd (true_not_false (stops-among ks k n q p) (ap is_stop e))
        go false q = contributing-append ks (k ∷ []) ∙ ap (λ (c : Lists). behind c (contributing m (k ∷ []))) e ∙ ap (behind (lists ls)) (one-stops k n p)

    -- a new key
    found-more : (ps : List (List ℕ)) (s : List (ℕ × ℕ)) → prefix_orderings m k ≡ found ps s → contributing m (ks ++ (k ∷ [])) ≡ lists (ls ++ listed ps)
    unfolding behind
    found-more ps s p = contributing-append ks (k ∷ []) ∙ ap (λ (c : Lists). behind c (contributing m (k ∷ []))) e ∙ ap (behind (lists ls)) (one_found k ps s p)

-- the orderings of lists, and of lists after them
joined-append : (ls qs : List (List (List ℕ))) → joined (ls ++ qs) ≡ joined ls ++ joined qs
unfolding joined
joined-append [] qs = refl
joined-append (l ∷ ls) qs = ap (λ (t : List (List ℕ)). l ++ t) (joined-append ls qs) ∙ sym (append_assoc l (joined ls) (joined qs))

-- the orderings of one list
joined-one : (ps : List (List ℕ)) → joined (listed ps) ≡ ps
unfolding joined listed
joined-one [] = refl
joined-one (o ∷ os) = append-nil (o ∷ os)

-- the orderings with those of one list more
joined-more : (ls : List (List (List ℕ))) (ps : List (List ℕ)) → joined (ls ++ listed ps) ≡ joined ls ++ ps
joined-more ls ps = joined-append ls (listed ps) ∙ ap (λ (t : List (List ℕ)). joined ls ++ t) (joined-one ps)

-- the beginning of orderings within the bounds is within them
fitting-front : (os ps : List (List ℕ)) → fitting (os ++ ps) ≡ true → fitting os ≡ true
unfolding fitting all_short
fitting-front os ps e =
    and_both
    (le-leb (length os) 1024 (omega (arith, leb-true (length (os ++ ps)) 1024 (and_left (leb (length (os ++ ps)) 1024) (all_short (os ++ ps)) e), length-append os ps)))
    (go (all_short os) refl)
  where
    go : (b : Bool) → all_short os ≡ b → all_short os ≡ true
    go true q = q
    go false q = absurd (true_not_false (and_right (leb (length (os ++ ps)) 1024) (all_short (os ++ ps)) e) (long-append os ps q))

-- Each key once

-- keys after others
once-append : (ks es fs : List ℕ) → once_each ks (es ++ fs) ≡ once_each (once_each ks es) fs
unfolding once_each
once-append ks [] fs = refl
once-append ks (e ∷ es) fs = once-append (with_dependency ks (Some e)) es fs

-- one key more
once_more : (ks es : List ℕ) (e : ℕ) → once_each ks (es ++ (e ∷ [])) ≡ with_dependency (once_each ks es) (Some e)
unfolding once_each
once_more ks es e = once-append ks es (e ∷ [])

-- the keys that were there come first
once-front : (ks es : List ℕ) → (rest : List ℕ) × (once_each ks es ≡ ks ++ rest)
unfolding once_each with_dependency
once-front ks [] = ([], sym (append-nil ks))
once-front ks (e ∷ es) = go (among e ks) (once-front (with_dependency ks (Some e)) es)
  where
    go : (b : Bool) → ((rest : List ℕ) × (once_each (if b then ks else ks ++ (e ∷ [])) es ≡ (if b then ks else ks ++ (e ∷ [])) ++ rest)) → (rest : List ℕ) × (once_each (if b then ks else ks ++ (e ∷ [])) es ≡ ks ++ rest)
    go true r = r
    go false r = ((e ∷ []) ++ r.0, r.1 ∙ append_assoc ks (e ∷ []) r.0)

-- How many different keys

-- from 17 on it is 17
up-many : (n : ℕ) → 17 ≤ n → up_to17 n ≡ 17
unfolding up_to17
up-many n l = rw (le-leb 17 n l)

-- below, the number itself
up-few : (n : ℕ) → n < 17 → up_to17 n ≡ n
unfolding up_to17
up-few n l = rw (lt-leb 17 n l)

-- one more from 17 on
pub counting-many : (n : ℕ) → 17 ≤ n → counting n ≡ 17
unfolding counting
counting-many n l = rw (le-leb 17 n l)

-- one more below
pub counting-few : (n : ℕ) → n < 17 → counting n ≡ n + 1
unfolding counting
counting-few n l = rw (lt-leb 17 n l)

-- one key more
counting-up : (n : ℕ) → counting (up_to17 n) ≡ up_to17 (n + 1)
counting-up n = go (dec_lt n 17) (dec_lt (n + 1) 17)
  where
    go : Dec (n < 17) → Dec (n + 1 < 17) → counting (up_to17 n) ≡ up_to17 (n + 1)
    go (yes l) (yes b) = ap counting (up-few n l) ∙ counting-few n l ∙ sym (up-few (n + 1) b)
    go (yes l) (no b) = ap counting (up-few n l) ∙ counting-few n l ∙ (let e : n + 1 ≡ 17 = omega arith in e) ∙ sym (up-many (n + 1) (omega arith))
    go (no l) b = ap counting (up-many n (omega arith)) ∙ counting-many 17 (omega arith) ∙ sym (up-many (n + 1) (omega arith))

-- Places that were walked

-- a key that is not among some is among them and others as it is among the others
among-other : (e : ℕ) (xs ys : List ℕ) → among e ys ≡ false → among e (xs ++ ys) ≡ among e xs
among-other e xs ys q = same_test (among e (xs ++ ys)) (among e xs) (λ t. ⊎_elim (λ w. w) (λ w. absurd (true_not_false w q)) (among-either e xs ys t)) (among-left e xs ys)

-- the places of a map tell which keys were walked
abbrev Tells : List Dependent → List Bool → List ℕ → Type 0
Tells ds ws ks = (k i : ℕ) → place_of ds k ≡ Some i → get_or ws i false ≡ among k ks

-- with one key more
tells_more : (ds : List Dependent) (ws : List Bool) (ks : List ℕ) (k i : ℕ) → place_of ds k ≡ Some i → i < length ws → Tells ds ws ks → Tells ds (set ws i true) (ks ++ (k ∷ []))
tells_more ds ws ks k i p l h d j q = go (ℕ_discrete j i)
  where
    apart : (j ≡ i → ⊥) → (b : Bool) → among d (k ∷ []) ≡ b → among d (k ∷ []) ≡ false
    apart n true e =
        let same : Some j ≡ Some i = sym q ∙ ap (place_of ds) (sym (among_one d k e)) ∙ p in
        absurd (n (cc))
    apart n false e = e

    go : Dec (j ≡ i) → get_or (set ws i true) j false ≡ among d (ks ++ (k ∷ []))
    go (yes e) =
        let same : k ≡ d = sym (key-there ds k i p) ∙ ap (λ (x : ℕ). (entry_at ds x).key) (sym e) ∙ key-there ds d j q in
        ap (λ (x : ℕ). get_or (set ws i true) x false) e
        ∙ get_or-set_same ws i true false l
        ∙ sym (among-right d ks (k ∷ []) (subst (λ (x : ℕ). among d (x ∷ []) ≡ true) (sym same) (one-among d)))
    go (no n) = get_or-set_other ws i j true false n ∙ h d j q ∙ sym (among-other d ks (k ∷ []) (apart n (among d (k ∷ [])) refl))

-- Where the lists end

-- the last list ends where all end
shapes_end : (s : Shape) (ls : List (List (List ℕ))) → Shapes s ls → start_of s s.size ≡ length (joined ls)
unfolding start_of joined
shapes_end s [] h = ap (start_of s) h.size
shapes_end s (l ∷ ls) h =
    ap (start_of s) h.size
    ∙ h.ends (length ls) (omega arith)
    ∙ ap (λ (t : List (List (List ℕ))). length (joined t)) (take_all (length ls + 1) (l ∷ ls) (omega arith))

-- one list more
shapes-more : (s : Shape) (ls : List (List (List ℕ))) (l : List (List ℕ)) (n : ℕ) → Shapes s ls → length ls < length s.ends → n ≡ length (joined (ls ++ (l ∷ [])))
    → Shapes (record { size = s.size + 1; ends = set s.ends s.size n }) (ls ++ (l ∷ []))
shapes-more s ls l n h b q = record {
  size = omega (arith, h.size, length-append ls (l ∷ []));
  ends = λ j i. at j i (ℕ_discrete j s.size);
}
  where
    at : (j : ℕ) → j < length (ls ++ (l ∷ [])) → Dec (j ≡ s.size) → get_or (set s.ends s.size n) j 0 ≡ length (joined (take (j + 1) (ls ++ (l ∷ []))))
    at j i (yes e) =
        ap (λ (x : ℕ). get_or (set s.ends s.size n) x 0) e
        ∙ get_or-set_same s.ends s.size n 0 (omega (arith, h.size))
        ∙ q
        ∙ sym (ap (λ (t : List (List (List ℕ))). length (joined t)) (take_all (j + 1) (ls ++ (l ∷ [])) (omega (arith, h.size, length-append ls (l ∷ [])))))
    at j i (no e) =
        let c : j < length ls = omega (arith, h.size, length-append ls (l ∷ [])) in
        get_or-set_other s.ends s.size j n 0 e
        ∙ h.ends j c
        ∙ sym (ap (λ (t : List (List (List ℕ))). length (joined t)) (take-append-le (j + 1) ls (l ∷ []) (omega arith)))

-- One walk more

module _ (g : Gathered) (f : Found) where
  -- what is gathered with other lists
  abbrev pub keeping : Bool → Shape → Gathered
  keeping many s = record { different = g.different; walked = g.walked; many = many; lists = record { shape = s; found = f } }

  -- the lists with one more
  abbrev pub longer : Shape
  longer = record { size = g.lists.shape.size + 1; ends = set g.lists.shape.ends g.lists.shape.size f.count }

  -- nothing was found
  pub with_none : f.count ≡ end_of g → with_found g f ≡ keeping g.many g.lists.shape
  unfolding with_found
  with_none e = rw (eq-eqb f.count (end_of g) e)

  -- some were found, after 6 lists
  pub with-many : (f.count ≡ end_of g → ⊥) → 6 ≤ g.lists.shape.size → with_found g f ≡ keeping true g.lists.shape
  unfolding with_found
  with-many n l = rw (ne_eqb f.count (end_of g) n, le-leb 6 g.lists.shape.size l)

  -- some were found, after fewer
  pub with-more : (f.count ≡ end_of g → ⊥) → g.lists.shape.size < 6 → with_found g f ≡ keeping g.many longer
  unfolding with_found
  with-more n l = rw (ne_eqb f.count (end_of g) n, lt-leb 6 g.lists.shape.size l)

  -- the three ways in which the lists go on
  data Fate : Type 0 where
    nothing : with_found g f ≡ keeping g.many g.lists.shape → Fate
    many : with_found g f ≡ keeping true g.lists.shape → Fate
    more : g.lists.shape.size < 6 → with_found g f ≡ keeping g.many longer → Fate

  -- one of them is there
  fate : Fate
  fate = go (ℕ_discrete f.count (end_of g)) (dec_lt g.lists.shape.size 6)
    where
      go : Dec (f.count ≡ end_of g) → Dec (g.lists.shape.size < 6) → Fate
      go (yes e) b = nothing (with_none e)
      go (no n) (yes l) = more l (with-more n l)
      go (no n) (no l) = many (with-many n (omega arith))

  -- what all three have holds of what is gathered then
  by-fate : (P : Gathered → Type 0) → ((b : Bool) (s : Shape) → P (keeping b s)) → P (with_found g f)
  by-fate P h = go fate
    where
      go : Fate → P (with_found g f)
      go (nothing e) = subst P (sym e) (h g.many g.lists.shape)
      go (many e) = subst P (sym e) (h true g.lists.shape)
      go (more l e) = subst P (sym e) (h g.many longer)

  -- there is room for more
  standing-found : Standing g → Room f → Standing (with_found g f)
  standing-found st room = go fate
    where
      go : Fate → Standing (with_found g f)
      go (nothing e) = subst Standing (sym e) (record { room = room; wide = st.wide; long = st.long; few = st.few })
      go (many e) = subst Standing (sym e) (record { room = room; wide = st.wide; long = st.long; few = st.few })
      go (more l e) =
          subst Standing (sym e)
          (record { room = room; wide = st.wide; long = length-set g.lists.shape.ends g.lists.shape.size f.count ∙ st.long; few = omega arith })

  -- more than 6 contributed before
  still_many : g.many ≡ true → (with_found g f).many ≡ true
  still_many e = go fate
    where
      go : Fate → (with_found g f).many ≡ true
      go (nothing p) = ap (λ (r : Gathered). r.many) p ∙ e
      go (many p) = ap (λ (r : Gathered). r.many) p
      go (more l p) = ap (λ (r : Gathered). r.many) p ∙ e

  module _ (ls : List (List (List ℕ))) (st : Standing g) where
    module _ (rows : Rows f (joined ls ++ [])) (fit : fitting (joined ls ++ []) ≡ true) (h : Shapes g.lists.shape ls) where
      -- nothing was found: the lists are as they were
      same_none : with_found g f ≡ keeping g.many g.lists.shape
      same_none = with_none (rows.count fit ∙ ap length (append-nil (joined ls)) ∙ sym (shapes_end g.lists.shape ls h))

    module _ (o : List ℕ) (os : List (List ℕ)) (rows : Rows f (joined ls ++ o ∷ os)) (fit : fitting (joined ls ++ o ∷ os) ≡ true) (h : Shapes g.lists.shape ls) where
      -- some were found: the orderings end further on
      other : f.count ≡ end_of g → ⊥
      other e = omega (arith, rows.count fit, length-append (joined ls) (o ∷ os), shapes_end g.lists.shape ls h)

      -- there is no seventh list
      same-many : 6 ≤ length ls → with_found g f ≡ keeping true g.lists.shape
      same-many l = with-many other (omega (arith, h.size))

      -- there is one list more
      same_more : length ls < 6 → with_found g f ≡ keeping g.many longer
      same_more l = with-more other (omega (arith, h.size))

      -- and the struct says where it ends
      shapes-longer : length ls < 6 → Shapes longer (ls ++ listed (o ∷ os))
      unfolding listed
      shapes-longer l = shapes-more g.lists.shape ls (o ∷ os) f.count h (omega (arith, st.long)) (rows.count fit ∙ sym (ap length (joined-more ls (o ∷ os))))

-- the struct tells whether more than 6 contributed, and where the lists end
record Formed (g : Gathered) (ls : List (List (List ℕ))) : Type 0 where
  many : fitting (joined ls) ≡ true → g.many ≡ not (leb (length ls) 6)
  shapes : fitting (joined ls) ≡ true → leb (length ls) 6 ≡ true → Shapes g.lists.shape ls

-- so it does after one walk more
formed-found : (g : Gathered) (f : Found) (ls : List (List (List ℕ))) (ps : List (List ℕ)) → Standing g → Rows f (joined ls ++ ps) → Formed g ls → Formed (with_found g f) (ls ++ listed ps)
unfolding listed
formed-found g f ls [] st rows h = subst (Formed (with_found g f)) (sym (append-nil ls)) (record {
  many = λ e. go e (leb (length ls) 6) refl;
  shapes = λ e b. rw (same e b) (h.shapes e b);
})
  where
    fit : fitting (joined ls) ≡ true → fitting (joined ls ++ []) ≡ true
    fit e = ap fitting (append-nil (joined ls)) ∙ e

    same : fitting (joined ls) ≡ true → leb (length ls) 6 ≡ true → with_found g f ≡ keeping g f g.many g.lists.shape
    same e b = same_none g f ls st rows (fit e) (h.shapes e b)

    go : fitting (joined ls) ≡ true → (b : Bool) → leb (length ls) 6 ≡ b → (with_found g f).many ≡ not (leb (length ls) 6)
    go e true b = ap (λ (r : Gathered). r.many) (same e b) ∙ h.many e
    go e false b = still_many g f (h.many e ∙ ap not b) ∙ sym (ap not b)
formed-found g f ls (o ∷ os) st rows h = record {
  many = λ e. go e (leb (length ls) 6) refl (dec_lt (length ls) 6);
  shapes = λ e b. at e (leb-true (length (ls ++ listed (o ∷ os))) 6 b);
}
  where
    more : length (ls ++ listed (o ∷ os)) ≡ length ls + 1
    more = length-append ls (listed (o ∷ os))

    fit : fitting (joined (ls ++ listed (o ∷ os))) ≡ true → fitting (joined ls ++ o ∷ os) ≡ true
    fit e = sym (ap fitting (joined-more ls (o ∷ os))) ∙ e

    front : fitting (joined (ls ++ listed (o ∷ os))) ≡ true → fitting (joined ls) ≡ true
    front e = fitting-front (joined ls) (o ∷ os) (fit e)

    go : fitting (joined (ls ++ listed (o ∷ os))) ≡ true → (b : Bool) → leb (length ls) 6 ≡ b → Dec (length ls < 6) → (with_found g f).many ≡ not (leb (length (ls ++ listed (o ∷ os))) 6)
    go e false b l = still_many g f (h.many (front e) ∙ ap not b) ∙ sym (ap not (lt-leb (length (ls ++ listed (o ∷ os))) 6 (omega (arith, leb-false (length ls) 6 b, more))))
    go e true b (yes l) =
        ap (λ (r : Gathered). r.many) (same_more g f ls st o os rows (fit e) (h.shapes (front e) b) l)
        ∙ h.many (front e)
        ∙ ap not (b ∙ sym (le-leb (length (ls ++ listed (o ∷ os))) 6 (omega (arith, more))))
    go e true b (no l) =
        ap (λ (r : Gathered). r.many) (same-many g f ls st o os rows (fit e) (h.shapes (front e) b) (omega arith))
        ∙ sym (ap not (lt-leb (length (ls ++ listed (o ∷ os))) 6 (omega (arith, more))))

    at : fitting (joined (ls ++ listed (o ∷ os))) ≡ true → length (ls ++ listed (o ∷ os)) ≤ 6 → Shapes (with_found g f).lists.shape (ls ++ listed (o ∷ os))
    at e b =
        let s = h.shapes (front e) (le-leb (length ls) 6 (omega (arith, more))) in
        rw (same_more g f ls st o os rows (fit e) s (omega (arith, more))) (shapes-longer g f ls st o os rows (fit e) s (omega (arith, more)))

-- One key more

-- there is room for more after a key is noted
pub standing-key : (g : Gathered) (i : ℕ) → Standing g → Standing (with_key g i)
unfolding with_key
standing-key g i st = record { room = st.room; wide = length-set g.walked i true ∙ st.wide; long = st.long; few = st.few }

module _ (m : DependencyMap) (g : Gathered) (k : ℕ) (st : Standing g) where
  -- the walk of a key stops
  steps-stop : (why : Refusal) → ((ks : List ℕ) (ls : List (List (List ℕ))) → Gathering m ks ls g → prefix_orderings (decode m) k ≡ stopped (refusal_number why)) → Steps m g k (Err why)
  steps-stop why h ks ls x = stops-more (decode m) ks ls k x.is (refusal_number why) (h ks ls x)

  -- a key that is not in the map
  pub steps-missing : place_of (decode m) k ≡ None → Steps m g k (Err UnknownKey)
  steps-missing p = steps-stop UnknownKey (λ ks ls x. prefix-missing (decode m) k p)

  module _ (i : ℕ) (p : place_of (decode m) k ≡ Some i) where
    -- a key that was walked
    pub steps-walked : get_or g.walked i false ≡ true → Steps m g k (Ok g)
    unfolding with_dependency
    steps-walked w = record {
      standing = st;
      goes = λ ks ls x. (ls, subst (λ (b : Bool). Gathering m (if b then ks else ks ++ (k ∷ [])) ls g) (sym w ∙ x.walked k i p) x);
    }

    -- a key whose walk stops
    pub steps_halt : (why : Refusal) → Began m i g.lists.found (Err why) → Steps m g k (Err why)
    steps_halt why began = steps-stop why (λ ks ls y. prefix-there (decode m) k i p ∙ began (joined ls) y.rows)

    module _ (f : Found) (began : BeganOn m i g.lists.found f) where
      module _ (new : get_or g.walked i false ≡ false) (b : i < 64) where
        -- what is gathered after a key whose walk is done
        next : Gathered
        next = with_found (with_key g i) f

        -- it is that of one key more
        gathering-next : (ks : List ℕ) (ls : List (List (List ℕ))) → Gathering m ks ls g → (ps : List (List ℕ)) (s : List (ℕ × ℕ)) → over_start (decode m) (entry_at (decode m) i).dependencies [] ≡ found ps s
            → Rows f (joined ls ++ ps) → Gathering m (ks ++ (k ∷ [])) (ls ++ listed ps) next
        unfolding next with_key
        gathering-next ks ls y ps s e rows = record {
          is = found-more (decode m) ks ls k y.is ps s (prefix-there (decode m) k i p ∙ e);
          walked = by-fate (with_key g i) f (λ (r : Gathered). Tells (decode m) r.walked (ks ++ (k ∷ []))) (λ c t. tells_more (decode m) g.walked ks k i p (omega (arith, st.wide)) y.walked);
          different = by-fate (with_key g i) f (λ (r : Gathered). r.different ≡ up_to17 (length (ks ++ (k ∷ [])))) (λ c t. ap counting y.different ∙ counting-up (length ks) ∙ ap up_to17 (sym (length-append ks (k ∷ []))));
          rows = by-fate (with_key g i) f (λ (r : Gathered). Rows r.lists.found (joined (ls ++ listed ps))) (λ c t. subst (Rows f) (sym (joined-more ls ps)) rows);
          many = formed.many;
          shapes = formed.shapes;
        }
          where
            formed : Formed next (ls ++ listed ps)
            formed = formed-found (with_key g i) f ls ps (standing-key g i st) rows (record { many = y.many; shapes = y.shapes })

        -- a key whose walk is done
        pub steps-found : Steps m g k (Ok (with_found (with_key g i) f))
        unfolding next with_dependency
        steps-found = record {
          standing = standing-found (with_key g i) f (standing-key g i st) began.room;
          goes = λ ks ls y.
              let w = began.came (joined ls) y.rows in (
                ls ++ listed w.ps,
                subst (λ (c : Bool). Gathering m (if c then ks else ks ++ (k ∷ [])) (ls ++ listed w.ps) next) (sym new ∙ y.walked k i p) (gathering-next ks ls y w.ps w.s w.is w.rows),
              );
        }

-- All given keys

-- the given keys, each as one number
abbrev given : List ℕ → List ℕ
given numbers = map packed (keys_of numbers)

-- how many they are
given-count : (numbers : List ℕ) → length (given numbers) ≡ length numbers / 2
given-count numbers = length-map (keys_of numbers) packed ∙ keys-count numbers

-- and which
given-at : (numbers : List ℕ) (k : ℕ) → k < length numbers / 2 → get_or (given numbers) k 0 ≡ key_at numbers k
unfolding packed key_at
given-at numbers k l = get_or-map packed (keys_of numbers) k (record { expr = 0; options = 0 }) ∙ ap packed (key-at numbers k l)

-- the first k of the given keys are walked
pub record Gone (m : DependencyMap) (numbers : List ℕ) (g : Gathered) (k : ℕ) : Type 0 where
  pub below : k ≤ length numbers / 2
  pub standing : Standing g
  pub all-lists : List (List (List ℕ))
  pub gathering : Gathering m (once_each [] (take k (given numbers))) all-lists g

-- none is
pub gone-none : (m : DependencyMap) (numbers : List ℕ) (g : Gathered) → g ≡ ungathered → Gone m numbers g 0
unfolding contributing once_each joined among up_to17
gone-none m numbers g e = rw e (record {
  below = omega arith;
  standing = record { room = room-none; wide = length-replicate 64 false; long = length-replicate {A = ℕ} 6 0; few = omega arith };
  all-lists = [];
  gathering = record {
    is = refl;
    walked = λ k i p. fill_after false [] 64 i;
    different = refl;
    rows = rows_none;
    many = λ q. refl;
    shapes = λ q b. record { size = refl; ends = λ j l. absurd (omega arith) };
  };
})

module _ (m : DependencyMap) (numbers : List ℕ) (g : Gathered) (k : ℕ) (h : Gone m numbers g k) where
  module _ (l : k < length numbers / 2) where
    -- the keys with the next
    next-once : once_each [] (take (k + 1) (given numbers)) ≡ with_dependency (once_each [] (take k (given numbers))) (Some (key_at numbers k))
    next-once =
        ap (λ (n : ℕ). once_each [] (take n (given numbers))) (add-one k)
        ∙ ap (once_each []) (take-suc (given numbers) k 0 (omega (arith, given-count numbers)))
        ∙ once_more [] (take k (given numbers)) (get_or (given numbers) k 0)
        ∙ ap (λ (d : ℕ). with_dependency (once_each [] (take k (given numbers))) (Some d)) (given-at numbers k l)

    -- the next is walked
    pub gone-next : (d : ℕ) → d ≡ key_at numbers k → (r : Gathered) → Steps m g d (Ok r) → Gone m numbers r (k + 1)
    gone-next d e r z =
        let x = subst (λ (n : ℕ). Steps m g n (Ok r)) e z in
        let y = x.goes (once_each [] (take k (given numbers))) h.all-lists h.gathering in
        record {
          below = omega arith;
          standing = x.standing;
          all-lists = y.0;
          gathering = subst (λ (ks : List ℕ). Gathering m ks y.0 r) (sym next-once) y.1;
        }

    -- the next stops all
    pub gone-stop : (d : ℕ) → d ≡ key_at numbers k → (why : Refusal) → Steps m g d (Err why) → Gathers m (given numbers) (Err why)
    gone-stop d e why y =
        let x = subst (λ (n : ℕ). Steps m g n (Err why)) e y in
        let w = once-front (once_each [] (take (k + 1) (given numbers))) (drop (k + 1) (given numbers)) in
        ap (λ (ks : List ℕ). contributing (decode m) (once_each [] ks)) (sym (take-append-drop (k + 1) (given numbers)))
        ∙ ap (contributing (decode m)) (once-append [] (take (k + 1) (given numbers)) (drop (k + 1) (given numbers)) ∙ w.1)
        ∙ stops-append (decode m) (once_each [] (take (k + 1) (given numbers))) w.0 (refusal_number why)
        (ap (contributing (decode m)) next-once ∙ x (once_each [] (take k (given numbers))) h.all-lists h.gathering)

  -- all are walked
  pub gone-all : length numbers / 2 ≤ k → Gathers m (given numbers) (Ok g)
  gone-all l = record {
    standing = h.standing;
    all-lists = h.all-lists;
    gathering = subst (λ (ks : List ℕ). Gathering m (once_each [] ks) h.all-lists g) (take_all k (given numbers) (omega (arith, given-count numbers))) h.gathering;
  }
