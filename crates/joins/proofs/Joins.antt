-- A join, step by step: the pairs, the nodes and the list by a lift, the shift by a number of columns, the kinds, and the call.
use Rattle.arena.specs.declared.Refusal.{Refusal}
use Rattle.arena.specs.declared.Refusal.TheVariants.{ArenaFull, GroupFull, IndexOutOfRange}
use Rattle.arena.specs.Refusals.{Added, refusal, outcome}
use Rattle.arena.proofs.Refusals.{ok-not-err, ok-zero, err-refusal, Listed, listed-if}
use Rattle.std.specs.Prelude.{if◌then◌else◌, Option, None, Some, Result, Err, Ok}
use Prim.Native.Nat.{ℕ, zero, suc, ◌+◌, ◌*◌, ◌/◌, ◌<◌, ◌≤◌}
use mathlib.Core.Bool.{Bool, true, false, ◌&&◌}
use mathlib.Core.List.{List, [], ◌∷◌, ◌++◌, append-nil}
use mathlib.Core.Path.{◌≡◌, refl, sym, ap, ap₂, ◌∙◌, subst}
use native.Mathlib.Omega.{arith}
use borrow.Author.Tests.{ltb-true, leb-true, le-leb, lt-leb}
use denote.Laws.{Is}
use mir.Val.{Val}
use lib.Dec.{ltb, leb}
use lib.IntN.{pos}
use lib.ListN.{length, get_or, drop, replicate, length-append}
use lib.Seq.{drop_at}
use Rattle.laws.specs.Tests.{each}
use Rattle.laws.specs.Lists.{table}
use Rattle.laws.proofs.Booleans.{and_left, and_right, and_both, and_fails_left, and_fails_right}
use Rattle.laws.proofs.Each.{each_holds}
use Rattle.arena.specs.Node.{Node}
use Rattle.arena.specs.Expression.{expression_at}
use Rattle.arena.specs.Arena.{Sound, Placed, placed, full, and_then, add_expression}
use Rattle.shifting.specs.Shift.{moved, can_move}
use Rattle.arena.specs.Layout.{lawful, encode as encode_nodes, decode as nodes}
use Rattle.arena.specs.Calls.{in_cells}
use Rattle.arena.specs.Inner.{Holds, Known, Memo, Walked, told}
use Rattle.shifting.specs.Inner.{Ready, lifted, shifted_by}
use Rattle.arena.proofs.Nodes.{extends-none, extends-both, extends-longer}
use Rattle.arena.proofs.Layouts.{length-decode as nodes-count, coded-cells, lawful-holds}
use Rattle.arena.proofs.Walking.{memo-none, prefixed}
use Rattle.classes.specs.Class.{Class}
use Rattle.classes.specs.Group.{total, equal_condition}
use Rattle.classes.specs.Good.{flat, Good}
use Rattle.classes.specs.Steps.{fits, judged, refused}
use Rattle.classes.specs.Layout.{encode, decode, in_set, lawful_group, members_inside}
use Rattle.classes.specs.Calls.{group_number, answer_of, changed}
use Rattle.classes.specs.Inner.{Coded, Held}
use Rattle.classes.specs.declared.Group.{Group}
use Rattle.classes.specs.declared.Changed.{Changed}
use Rattle.classes.proofs.Places.{get_or-among, length-flat}
use Rattle.classes.proofs.Codec.{built-used, built-limit, built-classes, built-coded, length-decode, used-is}
use Rattle.demands.proofs.GoodKept.{condition_good}
use Rattle.group_checks.proofs.HeldLaws.{number-held}
use Rattle.classes.proofs.Judging.{handed_back}
use Rattle.demands.proofs.Valid.{Tables}
use Rattle.classes.specs.contracts.Group.{the_row}
use Rattle.merging.specs.Merging.{from_classes}
use Rattle.merging.specs.Calls.{made_group, refused_group, made_or_refused}
use Rattle.merging.specs.Inner.{AllBelow}
use Rattle.merging.proofs.Smaller.{from-few, from-small}
use Rattle.merging.proofs.Reaching.{from-good}
use Rattle.lent_classes.proofs.ListCounts.{total-append}
use Rattle.shifted_classes.specs.Lent.{paired, sides_below, pairs_lent}
use Rattle.joins.specs.Kinds.{join_kind}
use Rattle.shifted_classes.specs.Shifting.{all_move, shifted_numbers, shifted_classes}
use Rattle.joins.specs.Joining.{with_rights, equated_all, joined_classes, to_shift, joined_over}
use Rattle.joins.specs.Calls.{join_number, join_placed, join_shifted, join_by, join_answer}
use Rattle.shifted_classes.specs.Inner.{rights_lent, ReadyAll, told_numbers, ShiftedAll}
use Rattle.joins.specs.Inner.{numbers_of, rights_in, There, made_or, equated_of, BothHeld, JoinReady, Joined}
use Rattle.joins.specs.declared.JoinKind.{JoinKind}
use Rattle.shifted_classes.proofs.Reaching.{shifted-total, list_fair}
use Rattle.shifted_classes.proofs.Placings.{moves_each, moves-append, moves-table, after_list, numbers-append, grown-numbers, grown-moves, agree-numbers, agree-moves, numbers-added, numbers-again, numbers-there}
use Rattle.shifted_classes.proofs.PairPlaces.{nowhere, length_pairs, pair-at, length-rights, right-at, right-inside, rights-below}
use Rattle.joins.proofs.EquatedPairs.{length-with, with_at, equated-next, equated-over, equated_end}
use Rattle.shifted_classes.proofs.ShiftedParts.{length-shifted, shifted-front}

-- ---- the pairs

-- an answer beside a group
abbrev handed : Result Bool Refusal → Group → Changed
handed a g = record { answer = a; group = g }

-- the layout of good classes, few of them, is a group of limit 256
held-made : (ns : List Node) (g : Group) (cs : List Class) → g ≡ encode 256 cs → length cs ≤ 64 → total cs ≤ 256 → Good ns cs → Held ns g
held-made ns g cs p few small good =
    let l = built-limit 256 cs g p in
    record {
      coded = built-coded 256 cs g p few small;
      low = omega (arith, l);
      high = omega (arith, l);
      within = omega (arith, l, built-used 256 cs g p);
      good = subst (Good ns) (sym (built-classes 256 cs g p)) good;
    }

-- what fits is few and small
fits-parts : (cs : List Class) → fits 256 cs ≡ true → (length cs ≤ 64) × (total cs ≤ 256)
unfolding fits
fits-parts cs e =
    (leb-true (length cs) 64 (and_right (leb (total cs) 256) (leb (length cs) 64) e), leb-true (total cs) 256 (and_left (leb (total cs) 256) (leb (length cs) 64) e))

-- k pairs are done: nothing was added, and the rest is to be equated
pub record EquatedTo (lift : ℕ) (s : List ℕ) (g : Group) (numbers t memo : List ℕ) (out : Group) (k : ℕ) : Type 0 where
  pub below : k ≤ length numbers / 2
  pub same : t ≡ s
  pub memo_true : Memo (shifted_by lift) (nodes s) memo
  pub held : Held (nodes s) out
  pub limit : out.limit ≡ 256
  pub goes : equated_all (nodes s) (with_rights (pairs_lent numbers) (rights_in lift s (rights_lent numbers))) (decode g)
      ≡ equated_all (nodes s) (drop k (with_rights (pairs_lent numbers) (rights_in lift s (rights_lent numbers)))) (decode out)

-- what the pairs ask: a group, sides in the arena, and right sides whose shifted expressions the arena has
abbrev pub Equatable : ℕ → List ℕ → List ℕ → Group → List ℕ → Type 0
Equatable lift s memo g numbers = (Held (nodes s) g × (g.limit ≡ 256)) × (AllBelow (length (nodes s)) numbers × (ReadyAll lift s memo (rights_lent numbers) × There lift s (rights_lent numbers)))

module _ (lift : ℕ) (s memo : List ℕ) (g : Group) (numbers : List ℕ) (pre : Equatable lift s memo g numbers) where
  -- its parts
  sides : AllBelow (length (nodes s)) numbers
  sides = pre.1.0

  -- the right sides can be shifted
  d : ReadyAll lift s memo (rights_lent numbers)
  d = pre.1.1.0

  -- and the arena has them
  has : There lift s (rights_lent numbers)
  has = pre.1.1.1

  -- the right sides shifted
  abbrev rights : List ℕ
  rights = rights_in lift s (rights_lent numbers)

  -- the pairs with them
  abbrev pairs : List (ℕ × ℕ)
  pairs = with_rights (pairs_lent numbers) rights

  -- as many as pairs
  rights-many : length rights ≡ length (pairs_lent numbers)
  rights-many =
      (numbers-added lift (nodes s) d.holds.sound (rights_lent numbers) d.known d.moves (nodes s) d.holds.sound rights (nodes s) has).counted
      ∙ length-rights numbers ∙ sym (length_pairs numbers)

  -- half as many pairs as numbers
  pairs-many : length pairs ≡ length numbers / 2
  pairs-many = length-with (pairs_lent numbers) rights rights-many ∙ length_pairs numbers

  -- nothing done
  pub equate-begins : EquatedTo lift s g numbers s memo g 0
  equate-begins = record { below = omega arith; same = refl; memo_true = d.memo_true; held = pre.0.0; limit = pre.0.1; goes = refl }

  module _ (t memo₁ : List ℕ) (out : Group) (k : ℕ) (h : EquatedTo lift s g numbers t memo₁ out k) where
    -- no pair is left
    pub equate-ends : length numbers / 2 ≤ k → made_group (decode out) ≡ equated_of lift s g numbers
    unfolding equated_of made_or
    equate-ends l = sym (ap (made_or g) (h.goes ∙ equated_end (nodes s) pairs (decode out) k (omega (arith, pairs-many))))

    module _ (l : k < length numbers / 2) where
      -- right side k is one of them
      place : k < length (rights_lent numbers)
      place = omega (arith, length-rights numbers)

      -- over the cells as they came in
      ready : Ready lift s memo₁ (get_or numbers (2 * k + 1) 0)
      ready = record {
        known = record { holds = d.holds; below = omega (arith, sides (2 * k + 1) (right-inside numbers k l), nodes-count s) };
        small = d.small;
        moves = subst (λ (x : ℕ). can_move (lifted lift) (expression_at (nodes s) x) ≡ true) (right-at numbers k l) (moves_each (lifted lift) (nodes s) (rights_lent numbers) d.moves k place);
        memo_true = h.memo_true;
      }

      -- the right side can be walked
      pub equate-ready : Ready lift t memo₁ (get_or numbers (2 * k + 1) 0)
      equate-ready = subst (λ (u : List ℕ). Ready lift u memo₁ (get_or numbers (2 * k + 1) 0)) (sym h.same) ready

      -- the pair
      pair_is : get_or pairs k nowhere ≡ (get_or numbers (2 * k) 0, get_or rights k 0)
      pair_is = with_at (pairs_lent numbers) rights k rights-many (omega (arith, length_pairs numbers)) ∙ ap (λ (p : ℕ × ℕ). (p.0, get_or rights k 0)) (pair-at numbers k l)

      module _ (u memo₂ : List ℕ) (a : Added) (w : Walked (shifted_by lift) t u memo₂ (get_or numbers (2 * k + 1) 0) a) where
        -- what was answered
        answer : told a (nodes u) ≡ placed (get_or rights k 0) (nodes s)
        answer =
            w.grew.is
            ∙ ap (λ (m : List ℕ). add_expression (shifted_by lift (expression_at (nodes m) (get_or numbers (2 * k + 1) 0))) (nodes m)) h.same
            ∙ ap (λ (x : ℕ). add_expression (shifted_by lift (expression_at (nodes s) x)) (nodes s)) (sym (right-at numbers k l))
            ∙ numbers-there lift (nodes s) d.holds.sound (rights_lent numbers) d.known d.moves (nodes s) d.holds.sound rights has k place

        -- it is no refusal
        pub equate-never : (j : Refusal) → a ≡ Err j → ⊥
        unfolding told
        equate-never j q = let e : full ≡ placed (get_or rights k 0) (nodes s) = ap (λ (b : Added). told b (nodes u)) (sym q) ∙ answer in let y : ◌≡◌ {A = ℕ} 0 1 = cc in omega arith

        module _ (e : ℕ) (q : a ≡ Ok e) where
          -- the number and the arena
          found : placed e (nodes u) ≡ placed (get_or rights k 0) (nodes s)
          unfolding told
          found = ap (λ (b : Added). told b (nodes u)) (sym q) ∙ answer

          -- the number is the one that stands there already
          number_is : e ≡ get_or rights k 0
          number_is = cc found

          -- and the arena stays
          nodes-same : nodes u ≡ nodes s
          nodes-same = cc found

          -- nothing was added
          pub equate-same : u ≡ s
          equate-same = sym (coded-cells u w.grew.holds) ∙ ap encode_nodes nodes-same ∙ coded-cells s d.holds

          -- the left side is in the arena
          left_below : get_or numbers (2 * k) 0 < length (nodes s)
          left_below = sides (2 * k) (omega (arith, right-inside numbers k l))

          -- so is the right side shifted
          right-below : e < length (nodes s)
          right-below =
              let b = numbers-added lift (nodes s) d.holds.sound (rights_lent numbers) d.known d.moves (nodes s) d.holds.sound rights (nodes s) has in
              omega (arith, number_is, b.below k (omega (arith, b.counted, length-rights numbers)))

          -- both are known in the cells that came in
          asks : Held (nodes s) out × (Known s (get_or numbers (2 * k) 0) × Known s e)
          asks = (h.held, (record { holds = d.holds; below = omega (arith, left_below, nodes-count s) }, record { holds = d.holds; below = omega (arith, right-below, nodes-count s) }))

          -- both sides are known
          pub equate-asks : Held (nodes u) out × (Known u (get_or numbers (2 * k) 0) × Known u e)
          equate-asks = subst (λ (m : List ℕ). Held (nodes m) out × (Known m (get_or numbers (2 * k) 0) × Known m e)) (sym equate-same) asks

          module _ (next : Changed) (z : next ≡ changed out.limit (judged out.limit (decode out) (equal_condition (nodes u) (decode out) (get_or numbers (2 * k) 0) e))) where
            -- the classes after the pair
            abbrev after : List Class
            after = (equal_condition (nodes s) (decode out) (get_or numbers (2 * k) 0) e).1

            -- what the step comes to
            abbrev step : Changed
            step = changed 256 (judged 256 (decode out) (equal_condition (nodes s) (decode out) (get_or numbers (2 * k) 0) e))

            -- the code makes the same
            next-is : next ≡ step
            next-is = z ∙ ap₂ {C = Changed} (λ (m : ℕ) (ns : List Node). changed m (judged m (decode out) (equal_condition ns (decode out) (get_or numbers (2 * k) 0) e))) h.limit nodes-same

            -- the pair, with the number that was answered
            pair-here : get_or pairs k nowhere ≡ (get_or numbers (2 * k) 0, e)
            pair-here = pair_is ∙ ap (λ (x : ℕ). (get_or numbers (2 * k) 0, x)) (sym number_is)

            -- it exceeds the bounds
            pub equate-over : (why : Refusal) → next.answer ≡ Err why → handed_back why g ≡ equated_of lift s g numbers
            unfolding equated_of made_or changed answer_of judged refused refusal
            equate-over why n = go (fits 256 after) refl
              where
                go : (b : Bool) → fits 256 after ≡ b → handed_back why g ≡ equated_of lift s g numbers
                go true f = absurd (let y : step.answer ≡ Ok (equal_condition (nodes s) (decode out) (get_or numbers (2 * k) 0) e).0 = rw f in ok-not-err (sym y ∙ sym (ap (λ (c : Changed). c.answer) next-is) ∙ n))
                go false f = (let y : step.answer ≡ Err GroupFull = rw f in ap (λ (a : Result Bool Refusal). handed a g) (sym n ∙ ap (λ (c : Changed). c.answer) next-is ∙ y)) ∙ sym (ap (made_or g) (h.goes ∙ equated-over (nodes s) pairs (decode out) k (get_or numbers (2 * k) 0) e (omega (arith, pairs-many)) pair-here f))

            -- one more is done
            pub equate-more : (done : Bool) → next.answer ≡ Ok done → EquatedTo lift s g numbers u memo₂ next.group (k + 1)
            unfolding changed answer_of judged refused refusal
            equate-more done n = go (fits 256 after) refl
              where
                go : (b : Bool) → fits 256 after ≡ b → EquatedTo lift s g numbers u memo₂ next.group (k + 1)
                go false f = absurd (let y : step.answer ≡ Err GroupFull = rw f in ok-not-err (sym n ∙ ap (λ (c : Changed). c.answer) next-is ∙ y))
                go true f =
                    let y : step.group ≡ encode 256 after = rw f in
                    let x : next.group ≡ encode 256 after = ap (λ (c : Changed). c.group) next-is ∙ y in
                    let p = fits-parts after f in
                    record {
                      below = omega arith;
                      same = equate-same;
                      memo_true = subst (λ (ns : List Node). Memo (shifted_by lift) ns memo₂) nodes-same w.memo_true;
                      held = held-made (nodes s) next.group after x p.0 p.1 (condition_good (nodes s) (decode out) (get_or numbers (2 * k) 0) e h.held.good left_below right-below);
                      limit = built-limit 256 after next.group x;
                      goes =
                          h.goes ∙ equated-next (nodes s) pairs (decode out) k (get_or numbers (2 * k) 0) e (omega (arith, pairs-many)) pair-here f
                          ∙ ap (λ (cs : List Class). equated_all (nodes s) (drop (k + 1) pairs) cs) (sym (built-classes 256 after next.group x));
                    }

-- ---- the nodes, the list and the pairs, by a lift

-- a list and another after it
below-append : (n : ℕ) (xs ys : List ℕ) → AllBelow n xs → AllBelow n ys → AllBelow n (xs ++ ys)
below-append n [] ys a b k l = b k l
below-append n (x ∷ xs) ys a b zero l = a 0 (omega arith)
below-append n (x ∷ xs) ys a b (suc k) l = below-append n xs ys (λ j m. a (suc j) (omega arith)) b k (omega arith)

-- the members of a group are in the arena
members-below : (ns : List Node) (g : Group) → Held ns g → AllBelow (length ns) (flat (decode g))
members-below ns g h k l = h.good.inside (get_or (flat (decode g)) k 0) (get_or-among (flat (decode g)) k l)

-- what is shifted: members, then right sides
to-shift : (rs : List Class) (numbers : List ℕ) → to_shift rs (pairs_lent numbers) ≡ flat rs ++ rights_lent numbers
unfolding to_shift rights_lent
to-shift rs numbers = refl

-- what was made of the pairs, as the promise
joined_case : (lift : ℕ) (s u : List ℕ) (left right : Group) (numbers : List ℕ) (f : Group) (o : Changed) → Holds u → (m : Option (List Class)) → o ≡ made_or f m
    → join_placed left (decode right) (pairs_lent numbers) (nodes s) (shifted_numbers (lifted lift) (nodes s) (to_shift (decode right) (pairs_lent numbers)) (nodes s)) ≡ made_or_refused left (nodes s) (nodes u) m
    → Joined lift s u left right numbers o
unfolding made_or made_or_refused refused_group made_group refusal
joined_case lift s u left right numbers f o h (Some cs) x y = record {
  holds = h;
  done = λ b z. ap (λ (c : Changed). (c, nodes u)) x ∙ sym y;
  refused = λ why z. absurd (ok-not-err (sym (ap (λ (c : Changed). c.answer) x) ∙ z));
}
joined_case lift s u left right numbers f o h None x y = record {
  holds = h;
  done = λ b z. absurd (ok-not-err (sym z ∙ ap (λ (c : Changed). c.answer) x));
  refused = λ why z. ap (λ (a : Result Bool Refusal). (handed a left, nodes s)) (sym z ∙ ap (λ (c : Changed). c.answer) x) ∙ sym y;
}

module _ (lift : ℕ) (s : List ℕ) (left right : Group) (numbers : List ℕ) (d : JoinReady lift s left right numbers) where
  -- all that is shifted, as a placing
  abbrev whole : Placed (List ℕ)
  whole = shifted_numbers (lifted lift) (nodes s) (to_shift (decode right) (pairs_lent numbers)) (nodes s)

  -- the arena is sound
  sound : Sound (nodes s)
  sound = d.held.holds.sound

  -- the right members are in it
  known : AllBelow (length (nodes s)) (flat (decode right))
  known = members-below (nodes s) right d.held.right-held

  -- so are the right sides
  rights-known : AllBelow (length (nodes s)) (rights_lent numbers)
  rights-known = rights-below numbers (length (nodes s)) d.held.sides

  -- members and right sides can move
  moves_both : (all_move (lifted lift) (nodes s) (flat (decode right)) && all_move (lifted lift) (nodes s) (rights_lent numbers)) ≡ true
  moves_both = sym (ap (all_move (lifted lift) (nodes s)) (to-shift (decode right) numbers) ∙ moves-append (lifted lift) (nodes s) (flat (decode right)) (rights_lent numbers)) ∙ d.moves

  -- the members can
  members_move_lem : all_move (lifted lift) (nodes s) (flat (decode right)) ≡ true
  members_move_lem = and_left (all_move (lifted lift) (nodes s) (flat (decode right))) (all_move (lifted lift) (nodes s) (rights_lent numbers)) moves_both

  -- and the right sides
  rights_move_lem : all_move (lifted lift) (nodes s) (rights_lent numbers) ≡ true
  rights_move_lem = and_right (all_move (lifted lift) (nodes s) (flat (decode right))) (all_move (lifted lift) (nodes s) (rights_lent numbers)) moves_both

  -- the walk over the members can begin, with an empty memo
  pub members-ready : (n : ℕ) → ReadyAll lift s (replicate {A = ℕ} n 0) (flat (decode right))
  members-ready n = record { holds = d.held.holds; small = d.small; known = known; moves = members_move_lem; memo_true = memo-none (shifted_by lift) (nodes s) n }

  -- members, and then the right sides
  whole_is : whole ≡ and_then (shifted_numbers (lifted lift) (nodes s) (flat (decode right)) (nodes s)) (after_list (lifted lift) (nodes s) (rights_lent numbers))
  whole_is =
      ap (λ (l : List ℕ). shifted_numbers (lifted lift) (nodes s) l (nodes s)) (to-shift (decode right) numbers)
      ∙ numbers-append (lifted lift) (nodes s) (flat (decode right)) (rights_lent numbers) (nodes s)

  -- there was no room
  refused_full : (t : List ℕ) → Holds t → whole ≡ full → Joined lift s t left right numbers (handed_back ArenaFull left)
  unfolding join_placed refused_group refusal
  refused_full t h e = record {
    holds = h;
    done = λ b z. absurd (ok-not-err (sym z));
    refused = λ why z. ap (λ (a : Result Bool Refusal). (handed a left, nodes s)) (sym z) ∙ sym (ap (join_placed left (decode right) (pairs_lent numbers) (nodes s)) e);
  }

  module _ (t memo₁ : List ℕ) (all : Bool) (ks : List ℕ) (a : ShiftedAll lift s t memo₁ (flat (decode right)) all ks) where
    -- for the members
    pub members-full : all ≡ false → Joined lift s t left right numbers (handed_back ArenaFull left)
    unfolding told_numbers and_then
    members-full f =
        refused_full t a.holds
        (whole_is ∙ ap (λ (o : Placed (List ℕ)). and_then o (after_list (lifted lift) (nodes s) (rights_lent numbers))) (sym a.is ∙ ap (λ (b : Bool). told_numbers b ks (nodes t)) f))

    module _ (f : all ≡ true) where
      -- the numbers of the members
      members-are : shifted_numbers (lifted lift) (nodes s) (flat (decode right)) (nodes s) ≡ placed ks (nodes t)
      unfolding told_numbers
      members-are = sym a.is ∙ ap (λ (b : Bool). told_numbers b ks (nodes t)) f

      -- the walk over the right sides can go on
      pub rights-ready : ReadyAll lift t memo₁ (rights_lent numbers)
      rights-ready = record {
        holds = a.holds;
        small = d.small;
        known = λ k l. let b = rights-known k l in omega (arith, b, extends-longer a.extends);
        moves = grown-moves (lifted lift) a.extends (rights_lent numbers) rights-known ∙ rights_move_lem;
        memo_true = a.memo_true;
      }

      -- what is left to shift are the right sides
      rest-is : whole ≡ after_list (lifted lift) (nodes s) (rights_lent numbers) ks (nodes t)
      unfolding and_then
      rest-is = whole_is ∙ ap (λ (o : Placed (List ℕ)). and_then o (after_list (lifted lift) (nodes s) (rights_lent numbers))) members-are

      module _ (u memo₂ : List ℕ) (both : Bool) (js : List ℕ) (b : ShiftedAll lift t u memo₂ (rights_lent numbers) both js) where
        -- by what the walk over them answered
        told_is : whole ≡ prefixed ks (told_numbers both js (nodes u))
        told_is = rest-is ∙ ap (prefixed ks) (sym (grown-numbers (lifted lift) a.extends (rights_lent numbers) rights-known (nodes t)) ∙ sym b.is)

        -- for the right sides
        pub rights-full : both ≡ false → Joined lift s u left right numbers (handed_back ArenaFull left)
        unfolding told_numbers prefixed
        rights-full g = refused_full u b.holds (told_is ∙ ap (λ (x : Bool). prefixed ks (told_numbers x js (nodes u))) g)

        module _ (g : both ≡ true) where
          -- all is placed
          whole-placed : whole ≡ placed (ks ++ js) (nodes u)
          unfolding told_numbers prefixed
          whole-placed = told_is ∙ ap (λ (x : Bool). prefixed ks (told_numbers x js (nodes u))) g

          -- the numbers of the right sides, over the arena as it is now
          rights-are : shifted_numbers (lifted lift) (nodes t) (rights_lent numbers) (nodes t) ≡ placed js (nodes u)
          unfolding told_numbers
          rights-are = sym b.is ∙ ap (λ (x : Bool). told_numbers x js (nodes u)) g

          -- the right sides are in the grown arena
          known-t : AllBelow (length (nodes t)) (rights_lent numbers)
          known-t = rights-ready.known

          -- once they are there, they are found again
          rights-again : shifted_numbers (lifted lift) (nodes u) (rights_lent numbers) (nodes u) ≡ placed js (nodes u)
          rights-again =
              grown-numbers (lifted lift) b.extends (rights_lent numbers) known-t (nodes u)
              ∙ numbers-again lift (nodes t) a.holds.sound (rights_lent numbers) known-t rights-ready.moves (nodes t) a.holds.sound js (nodes u) rights-are (nodes u) (extends-none (nodes u)) b.holds.sound

          -- their numbers are those that were placed
          rights_in_lem : rights_in lift u (rights_lent numbers) ≡ js
          unfolding numbers_of
          rights_in_lem = ap numbers_of rights-again

          -- the arena has them
          there : There lift u (rights_lent numbers)
          there = rights-again ∙ ap (λ (l : List ℕ). placed l (nodes u)) (sym rights_in_lem)

          -- a number for each member
          numbered : length ks ≡ length (flat (decode right))
          numbered = (numbers-added lift (nodes s) sound (flat (decode right)) known members_move_lem (nodes s) sound ks (nodes t) members-are).counted

          -- the list that reaches `new`
          abbrev list : List Class
          list = decode left ++ shifted_classes (nodes u) (decode right) ks

          -- the pairs with their right sides shifted
          abbrev shifted-pairs : List (ℕ × ℕ)
          shifted-pairs = with_rights (pairs_lent numbers) js

          -- what is joined, over the numbers of the members and of the right sides
          joined_is : joined_over (nodes u) (decode left) (decode right) (pairs_lent numbers) (ks ++ js) ≡ joined_classes (nodes u) list shifted-pairs
          unfolding joined_over
          joined_is =
              ap₂ {C = Option (List Class)} (λ (x : List Class) (y : List ℕ). joined_classes (nodes u) (decode left ++ x) (with_rights (pairs_lent numbers) y))
              (shifted-front (nodes u) (decode right) ks js (omega (arith, numbered, length-flat (decode right)))) (drop_at ks js (length (flat (decode right))) numbered)

          -- what document 01 says of it
          outcome-is : join_placed left (decode right) (pairs_lent numbers) (nodes s) whole ≡ made_or_refused left (nodes s) (nodes u) (joined_classes (nodes u) list shifted-pairs)
          unfolding join_placed
          outcome-is = ap (join_placed left (decode right) (pairs_lent numbers) (nodes s)) whole-placed ∙ ap (made_or_refused left (nodes s) (nodes u)) joined_is

          -- how many classes the list has
          list-many : length list ≡ left.count + right.count
          list-many =
              length-append (decode left) (shifted_classes (nodes u) (decode right) ks)
              ∙ ap₂ {C = ℕ} (λ (x y : ℕ). x + y) (length-decode left) (length-shifted (nodes u) (decode right) ks ∙ length-decode right)

          -- how many members
          list-total : total list ≡ left.used + right.used
          list-total =
              total-append (decode left) (shifted_classes (nodes u) (decode right) ks)
              ∙ ap₂ {C = ℕ} (λ (x y : ℕ). x + y) (used-is left d.held.left-held.coded)
              (shifted-total lift (nodes s) (nodes t) (nodes u) (decode right) ks sound d.held.right-held.good members_move_lem members-are ∙ used-is right d.held.right-held.coded)

          -- the list exceeds the bounds
          refused_over : fits 256 list ≡ false → Joined lift s u left right numbers (handed_back GroupFull left)
          unfolding joined_classes made_or_refused refused_group refusal
          refused_over f = record {
            holds = b.holds;
            done = λ c z. absurd (ok-not-err (sym z));
            refused = λ why z. ap (λ (a : Result Bool Refusal). (handed a left, nodes s)) (sym z) ∙ sym (outcome-is ∙ ap (λ (x : Bool). made_or_refused left (nodes s) (nodes u) (if x then equated_all (nodes u) shifted-pairs (from_classes list) else None)) f);
          }

          -- too many classes
          pub classes-over : 64 < left.count + right.count → Joined lift s u left right numbers (handed_back GroupFull left)
          unfolding fits
          classes-over l = refused_over (and_fails_right (leb (total list) 256) (leb (length list) 64) (lt-leb (length list) 64 (omega (arith, list-many))))

          -- too many members
          pub members-over : 256 < left.used + right.used → Joined lift s u left right numbers (handed_back GroupFull left)
          unfolding fits
          members-over l = refused_over (and_fails_left (leb (total list) 256) (leb (length list) 64) (lt-leb (total list) 256 (omega (arith, list-total))))

          module _ (few : left.count + right.count ≤ 64) (small : left.used + right.used ≤ 256) where
            -- the classes can be added
            pub list-asks : ((Coded left × Coded right) × ((left.count + right.count ≤ 64) × (left.used + right.used ≤ 256))) × (Holds u × AllBelow (length (nodes u)) ks)
            list-asks =
                let n = numbers-added lift (nodes s) sound (flat (decode right)) known members_move_lem (nodes s) sound ks (nodes t) members-are in
                (((d.held.left-held.coded, d.held.right-held.coded), (few, small)), (b.holds, (λ k l. let e = n.below k l in omega (arith, e, extends-longer b.extends))))

            -- the list is within the bounds
            list-fits : fits 256 list ≡ true
            unfolding fits
            list-fits = and_both (le-leb (total list) 256 (omega (arith, list-total))) (le-leb (length list) 64 (omega (arith, list-many)))

            module _ (h : Group) (p : h ≡ encode left.limit list) where
              -- they are a group's
              pub list-coded : Coded h
              list-coded = built-coded left.limit list h p (omega (arith, list-many)) (omega (arith, list-total))

              module _ (c : Changed) (q : c ≡ made_group (decode h)) where
                -- the list with limit 256
                group-is : c.group ≡ encode 256 list
                unfolding made_group
                group-is = ap (λ (x : Changed). x.group) q ∙ ap (encode 256) (built-classes left.limit list h p)

                -- with the limit of a new group
                pub all_coded : Coded c.group
                all_coded = built-coded 256 list c.group group-is (omega (arith, list-many)) (omega (arith, list-total))

                module _ (made : Group) (r : made ≡ encode c.group.limit (from_classes (decode c.group))) where
                  -- what `new` makes of it
                  from_is : made ≡ encode 256 (from_classes list)
                  from_is = r ∙ ap₂ {C = Group} (λ (l : ℕ) (cs : List Class). encode l (from_classes cs)) (built-limit 256 list c.group group-is) (built-classes 256 list c.group group-is)

                  -- what the pairs ask
                  pub pairs_ask : Equatable lift u memo₂ made numbers
                  pairs_ask =
                      let x = extends-both a.extends b.extends in
                      let fair = list_fair lift (nodes s) (nodes t) (nodes u) (decode right) ks sound d.held.right-held.good members_move_lem members-are b.extends (decode left) d.held.left-held.good in (
                        (
                          held-made (nodes u) made (from_classes list) from_is (omega (arith, from-few list, list-many)) (omega (arith, from-small list, list-total)) (from-good (nodes u) list fair),
                          built-limit 256 (from_classes list) made from_is,
                        ),
                        (
                          (λ k l. let e = d.held.sides k l in omega (arith, e, extends-longer x)),
                          (
                            record {
                              holds = b.holds;
                              small = d.small;
                              known = λ k l. let e = known-t k l in omega (arith, e, extends-longer b.extends);
                              moves = grown-moves (lifted lift) b.extends (rights_lent numbers) known-t ∙ rights-ready.moves;
                              memo_true = b.memo_true;
                            },
                            there,
                          ),
                        ),
                      )

                  -- what comes of the pairs
                  abbrev equated-pairs : Option (List Class)
                  equated-pairs = equated_all (nodes u) shifted-pairs (from_classes list)

                  -- what document 01 says, once the list fits
                  result-is : join_placed left (decode right) (pairs_lent numbers) (nodes s) whole ≡ made_or_refused left (nodes s) (nodes u) equated-pairs
                  unfolding joined_classes
                  result-is = outcome-is ∙ ap (λ (x : Bool). made_or_refused left (nodes s) (nodes u) (if x then equated_all (nodes u) shifted-pairs (from_classes list) else None)) list-fits

                  -- the join
                  pub join-done : (v : List ℕ) → v ≡ u → (o : Changed) → o ≡ equated_of lift u made numbers → Joined lift s v left right numbers o
                  unfolding equated_of
                  join-done v e o z =
                      subst (λ (w : List ℕ). Joined lift s w left right numbers o) (sym e)
                      (joined_case lift s u left right numbers made o b.holds equated-pairs
                      (z ∙ ap₂ {C = Changed} (λ (x : List ℕ) (y : List Class). made_or made (equated_all (nodes u) (with_rights (pairs_lent numbers) x) y)) rights_in_lem (built-classes 256 (from_classes list) made from_is))
                      result-is)

-- ---- a shift by a number of columns

-- an answer and the cells
abbrev pub Outcome : Type 0
Outcome = Changed × List ℕ

module _ (s : List ℕ) (left right : Group) (numbers : List ℕ) (size lift : ℕ) (h : BothHeld s left right numbers) (agree : (i : ℕ) → i < 65536 → moved (pos size) i ≡ lifted lift i) where
  -- what is to be shifted is in the arena
  all_known_lem : AllBelow (length (nodes s)) (to_shift (decode right) (pairs_lent numbers))
  all_known_lem =
      subst (AllBelow (length (nodes s))) (sym (to-shift (decode right) numbers))
      (below-append (length (nodes s)) (flat (decode right)) (rights_lent numbers) (members-below (nodes s) right h.right-held) (rights-below numbers (length (nodes s)) h.sides))

  -- the test is that of the members and that of the right sides
  test-is : all_move (moved (pos size)) (nodes s) (to_shift (decode right) (pairs_lent numbers)) ≡ (all_move (lifted lift) (nodes s) (flat (decode right)) && all_move (lifted lift) (nodes s) (rights_lent numbers))
  test-is =
      agree-moves (moved (pos size)) (lifted lift) agree (nodes s) h.holds.sound (to_shift (decode right) (pairs_lent numbers)) all_known_lem
      ∙ ap (all_move (lifted lift) (nodes s)) (to-shift (decode right) numbers)
      ∙ moves-append (lifted lift) (nodes s) (flat (decode right)) (rights_lent numbers)

  -- something can't move
  shift-out : (all_move (lifted lift) (nodes s) (flat (decode right)) && all_move (lifted lift) (nodes s) (rights_lent numbers)) ≡ false
      → ◌≡◌ {A = Outcome} (handed_back IndexOutOfRange left, s) (in_cells (join_shifted left (decode right) size (pairs_lent numbers) (nodes s)))
  unfolding join_shifted refused_group in_cells refusal
  shift-out e = rw (test-is ∙ e) (ap (λ (c : List ℕ). (handed_back IndexOutOfRange left, c)) (sym (coded-cells s h.holds)))

  -- a member
  pub members-out : all_move (lifted lift) (nodes s) (flat (decode right)) ≡ false → ◌≡◌ {A = Outcome} (handed_back IndexOutOfRange left, s) (in_cells (join_shifted left (decode right) size (pairs_lent numbers) (nodes s)))
  members-out e = shift-out (and_fails_left (all_move (lifted lift) (nodes s) (flat (decode right))) (all_move (lifted lift) (nodes s) (rights_lent numbers)) e)

  -- a right side
  pub rights-out : all_move (lifted lift) (nodes s) (rights_lent numbers) ≡ false → ◌≡◌ {A = Outcome} (handed_back IndexOutOfRange left, s) (in_cells (join_shifted left (decode right) size (pairs_lent numbers) (nodes s)))
  rights-out e = shift-out (and_fails_right (all_move (lifted lift) (nodes s) (flat (decode right))) (all_move (lifted lift) (nodes s) (rights_lent numbers)) e)

  -- all can
  module _ (a : all_move (lifted lift) (nodes s) (flat (decode right)) ≡ true) (b : all_move (lifted lift) (nodes s) (rights_lent numbers) ≡ true) where
    -- the join by the lift can begin
    pub shift-ready : lift ≤ 200000 → JoinReady lift s left right numbers
    shift-ready l = record {
      held = h;
      small = l;
      moves =
          ap (all_move (lifted lift) (nodes s)) (to-shift (decode right) numbers) ∙ moves-append (lifted lift) (nodes s) (flat (decode right)) (rights_lent numbers)
          ∙ and_both a b;
    }

    -- the join is the one by the lift
    shift_in : join_shifted left (decode right) size (pairs_lent numbers) (nodes s)
        ≡ join_placed left (decode right) (pairs_lent numbers) (nodes s) (shifted_numbers (lifted lift) (nodes s) (to_shift (decode right) (pairs_lent numbers)) (nodes s))
    unfolding join_shifted
    shift_in =
        rw (test-is ∙ and_both a b)
        (ap (join_placed left (decode right) (pairs_lent numbers) (nodes s)) (agree-numbers (moved (pos size)) (lifted lift) agree (nodes s) h.holds.sound (to_shift (decode right) (pairs_lent numbers)) all_known_lem (nodes s)))

    module _ (t : List ℕ) (r : Changed) (j : Joined lift s t left right numbers r) where
      -- it is done
      pub shift-done : (b : Bool) → r.answer ≡ Ok b → ◌≡◌ {A = Outcome} (r, t) (in_cells (join_shifted left (decode right) size (pairs_lent numbers) (nodes s)))
      unfolding in_cells
      shift-done b z = ap (λ (c : List ℕ). (r, c)) (sym (coded-cells t j.holds)) ∙ ap in_cells (j.done b z ∙ sym shift_in)

      -- it is refused
      pub shift-refused : (why : Refusal) → r.answer ≡ Err why → ◌≡◌ {A = Outcome} (handed_back why left, s) (in_cells (join_shifted left (decode right) size (pairs_lent numbers) (nodes s)))
      unfolding in_cells
      shift-refused why z = ap (λ (c : List ℕ). (handed_back why left, c)) (sym (coded-cells s h.holds)) ∙ ap in_cells (j.refused why z ∙ sym shift_in)

-- the tests of members and right sides, by a table of the nodes that can move
module _ (s : List ℕ) (left right : Group) (numbers : List ℕ) (lift n : ℕ) (h : BothHeld s left right numbers) (count : n ≡ length (nodes s)) (table : List Bool)
    (is : (j : ℕ) → j < n → get_or table j false ≡ can_move (lifted lift) (expression_at (nodes s) j)) where
  -- the table, for each node
  at : (j : ℕ) → j < length (nodes s) → get_or table j false ≡ can_move (lifted lift) (expression_at (nodes s) j)
  at j l = is j (omega arith)

  -- of the members
  pub members-test : each (λ k. get_or table (get_or (flat (decode right)) k 0) false) (length (flat (decode right))) ≡ all_move (lifted lift) (nodes s) (flat (decode right))
  members-test = moves-table (lifted lift) (nodes s) table at (flat (decode right)) (members-below (nodes s) right h.right-held)

  -- of the right sides
  pub rights-test : each (λ k. get_or table (get_or (rights_lent numbers) k 0) false) (length (rights_lent numbers)) ≡ all_move (lifted lift) (nodes s) (rights_lent numbers)
  rights-test = moves-table (lifted lift) (nodes s) table at (rights_lent numbers) (rights-below numbers (length (nodes s)) h.sides)

-- members and right sides are places of the table
module _ (s : List ℕ) (left right : Group) (numbers : List ℕ) (h : BothHeld s left right numbers) where
  -- of the members
  pub members-placed : AllBelow 1024 (flat (decode right))
  members-placed k l = let b = members-below (nodes s) right h.right-held k l in omega (arith, b, h.holds.sound.few)

  -- of the right sides
  pub rights-placed : AllBelow 1024 (rights_lent numbers)
  rights-placed k l = let b = rights-below numbers (length (nodes s)) h.sides k l in omega (arith, b, h.holds.sound.few)

  -- without the pairs
  pub no_sides : BothHeld s left right []
  no_sides = record { holds = h.holds; left-held = h.left-held; right-held = h.right-held; sides = λ k l. absurd (omega arith) }

-- ---- the kinds

-- no number, no pair
pub no_pairs : pairs_lent [] ≡ []
unfolding pairs_lent table
no_pairs = refl

module _ (left right : Group) (kind size : ℕ) (ps : List (ℕ × ℕ)) (ns : List Node) (entry : JoinKind) (q : entry ≡ join_kind kind) where
  -- what the entry says is what the kind says: the right side is shifted
  shifted_of : (b : Bool) → entry.shifted ≡ b → (join_kind kind).shifted ≡ b
  shifted_of b e = ap (λ (k : JoinKind). k.shifted) (sym q) ∙ e

  -- the pairs are used
  pairs_of_lem : (b : Bool) → entry.pairs ≡ b → (join_kind kind).pairs ≡ b
  pairs_of_lem b e = ap (λ (k : JoinKind). k.pairs) (sym q) ∙ e

  -- left is kept
  left-of : (b : Bool) → entry.left ≡ b → (join_kind kind).left ≡ b
  left-of b e = ap (λ (k : JoinKind). k.left) (sym q) ∙ e

  -- right is kept
  right_of : (b : Bool) → entry.right ≡ b → (join_kind kind).right ≡ b
  right_of b e = ap (λ (k : JoinKind). k.right) (sym q) ∙ e

  -- with the pairs
  pub by-pairs : entry.shifted ≡ true → entry.pairs ≡ true → join_by left right kind size ps ns ≡ join_shifted left (decode right) size ps ns
  unfolding join_by
  by-pairs a b = rw (shifted_of true a, pairs_of_lem true b)

  -- without them
  pub by-shift : entry.shifted ≡ true → entry.pairs ≡ false → join_by left right kind size ps ns ≡ join_shifted left (decode right) size [] ns
  unfolding join_by
  by-shift a b = rw (shifted_of true a, pairs_of_lem false b)

  -- a kind that keeps the left side as it is doesn't keep the right one
  left_alone : (join_kind kind).shifted ≡ false → (join_kind kind).left ≡ true → (join_kind kind).right ≡ false
  unfolding join_kind
  left_alone a b = rw (a, lt-leb 7 kind (omega (arith, leb-true kind 6 b)))

  -- the left side as it is
  pub by_left : entry.shifted ≡ false → entry.left ≡ true → join_by left right kind size ps ns ≡ (made_group (decode left), ns)
  unfolding join_by
  by_left a b = rw (shifted_of false a, left-of true b, left_alone (shifted_of false a) (left-of true b), append-nil (decode left))

  -- the right one
  pub by_right : entry.shifted ≡ false → entry.left ≡ false → entry.right ≡ true → join_by left right kind size ps ns ≡ (made_group (decode right), ns)
  unfolding join_by
  by_right a b c = rw (shifted_of false a, left-of false b, right_of true c)

  -- neither
  pub by-none : entry.shifted ≡ false → entry.left ≡ false → entry.right ≡ false → join_by left right kind size ps ns ≡ (made_group [], ns)
  unfolding join_by
  by-none a b c = rw (shifted_of false a, left-of false b, right_of false c)

-- a group that was made, beside the cells as they were
pub made_beside : (s : List ℕ) → Holds s → (r : Changed) (cs : List Class) (o : Changed × List Node) → r ≡ made_group cs → o ≡ (made_group cs, nodes s) → ◌≡◌ {A = Outcome} (r, s) (in_cells o)
unfolding in_cells
made_beside s h r cs o a b = ap₂ {C = Outcome} (λ (x : Changed) (y : List ℕ). (x, y)) a (sym (coded-cells s h)) ∙ ap in_cells (sym b)

-- the empty group
pub empty-made : (g : Group) (r : Changed) → g ≡ encode 256 [] → r ≡ made_group (decode g) → r ≡ made_group []
empty-made g r p q = q ∙ ap made_group (built-classes 256 [] g p)

-- it is a group
pub empty-coded : (g : Group) → g ≡ encode 256 [] → Coded g
unfolding total
empty-coded g p = built-coded 256 [] g p (omega arith) (omega arith)

-- ---- the call

-- the tables of a group have their lengths: the struct's type says so
pub tables : (g : Group) (vs : List Val) → Is the_row g vs → Tables g
tables g vs p = record {
  sizes = p.1.1.1.1.1.0.1.0.1;
  flavours = p.1.1.1.1.1.1.0.1.0.1;
  values = p.1.1.1.1.1.1.1.0.1.0.1;
  members = p.1.1.1.1.1.1.1.1.0.1.0.1;
}

module _ (cells : List ℕ) (left right : Group) (kind : ℕ) (numbers : List ℕ) where
  -- three tests that pass
  tests : (a b c : Bool) → ◌≡◌ {A = ℕ} (if a then (if b then (if c then 0 else 1) else 11) else 12) 0 → (a ≡ true) × (b ≡ true) × (c ≡ true)
  tests true true true e = (refl, refl, refl)
  tests true true false e = absurd (omega arith)
  tests true false c e = absurd (omega arith)
  tests false b c e = absurd (omega arith)

  -- what the check says where it lets a call pass
  record Passed : Type 0 where
    kind-few : kind ≤ 9
    holds : lawful cells ≡ true
    left-number : group_number cells left ≡ 0
    right-number : group_number cells right ≡ 0
    sides : AllBelow (length (nodes cells)) numbers

  -- from its number
  passed : join_number cells left right kind numbers ≡ 0 → Passed
  unfolding join_number group_number sides_below
  passed e =
      let l = lawful_group (nodes cells) left in
      let r = lawful_group (nodes cells) right in
      let ml = members_inside (nodes cells) left in
      let mr = members_inside (nodes cells) right in
      let t = tests (leb kind 9 && in_set left && in_set right) (lawful cells && (l && r && paired numbers)) (ml && mr && sides_below (length (nodes cells)) numbers) e in
      let a = and_left (leb kind 9 && in_set left) (in_set right) t.0 in
      let w = and_left (lawful cells) (l && r && paired numbers) t.1 in
      let g = and_left (l && r) (paired numbers) (and_right (lawful cells) (l && r && paired numbers) t.1) in
      let m = and_left (ml && mr) (sides_below (length (nodes cells)) numbers) t.2 in
      record {
        kind-few = leb-true kind 9 (and_left (leb kind 9) (in_set left) a);
        holds = w;
        left-number = rw (and_right (leb kind 9) (in_set left) a, w, and_left l r g, and_left ml mr m);
        right-number = rw (and_right (leb kind 9 && in_set left) (in_set right) t.0, w, and_right l r g, and_right ml mr m);
        sides = λ k b. ltb-true (get_or numbers k 0) (length (nodes cells)) (each_holds (λ i. ltb (get_or numbers i 0) (length (nodes cells))) (length numbers) k (and_right (ml && mr) (sides_below (length (nodes cells)) numbers) t.2) b);
      }

  -- the kind is one of the ten
  pub number-kind : join_number cells left right kind numbers ≡ 0 → kind < 10
  number-kind e = let p = (passed e).kind-few in omega arith

  -- both groups are checked
  pub number-both : Tables left → Tables right → join_number cells left right kind numbers ≡ 0 → BothHeld cells left right numbers
  number-both tl tr e =
      let p = passed e in
      record {
        holds = lawful-holds cells p.holds;
        left-held = number-held cells left tl.sizes tl.flavours tl.values tl.members p.left-number;
        right-held = number-held cells right tr.sizes tr.flavours tr.values tr.members p.right-number;
        sides = p.sides;
      }

  -- the call, where the check passes, and where it refuses
  pub join-passed : (size : ℕ) → outcome (join_number cells left right kind numbers) ≡ Ok tt → join_answer cells left right kind size numbers ≡ in_cells (join_by left right kind size (pairs_lent numbers) (nodes cells))
  unfolding join_answer
  join-passed size z = rw (ok-zero _ z)

  -- the refusal
  pub join-refused : (size : ℕ) (why : Refusal) → outcome (join_number cells left right kind numbers) ≡ Err why → ◌≡◌ {A = Outcome} (handed_back why left, cells) (join_answer cells left right kind size numbers)
  unfolding join_answer
  join-refused size why n = let e = err-refusal _ why n in rw (e.0, e.1)

  -- its number stands in the table
  pub join-listed : Listed (join_number cells left right kind numbers)
  unfolding join_number outcome refusal
  join-listed =
      listed-if (leb kind 9 && in_set left && in_set right) _ 12
      (listed-if (lawful cells && (lawful_group (nodes cells) left && lawful_group (nodes cells) right && paired numbers)) _ 11
      (listed-if (members_inside (nodes cells) left && members_inside (nodes cells) right && sides_below (length (nodes cells)) numbers) 0 1 refl refl)
      refl)
      refl
