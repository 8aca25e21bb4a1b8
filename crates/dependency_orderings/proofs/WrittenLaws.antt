-- Orderings in the output: how many places they take, one ordering key by key, and numbers that come into the output part by part.
use Prim.Native.Nat.{ℕ, suc, ◌+◌, ◌-◌, ◌*◌, ◌<◌, ◌≤◌, ◌/◌, ◌%◌}
use mathlib.Core.Bool.{Bool, true, false}
use mathlib.Core.List.{List, [], ◌∷◌, ◌++◌, append_assoc, append-nil}
use mathlib.Core.Path.{◌≡◌, refl, sym, ap, ap₂, ◌∙◌, subst}
use native.Mathlib.Numerals.{add-one}
use native.Mathlib.Omega.{arith}
use lib.ListN.{length, get_or, take, drop, set, length-append, length-drop, drop_of_length-le}
use lib.Seq.{get_or-append-add, length-take-le, take_all, take-suc, take-add, take_at, drop_at, drop-cons, drop-drop, drop-set-lt, set_at, append_snoc}
use Rattle.laws.proofs.Booleans.{true_not_false, same_test}
use Rattle.orderings.specs.Ordering.{expr_of, options_of}
use Rattle.orderings.specs.Layout.{keys_of}
use Rattle.orderings.specs.Inner.{all_short}
use Rattle.orderings.specs.declared.Ordering.{Ordering}
use Rattle.orderings.proofs.Codec.{size_is, key-is}
use Rattle.orderings.proofs.Appending.{AllShort, append-all, short-test, test_short, long-append}
use Rattle.dependency_orderings.specs.Output.{numbers_of, written, written_all}

-- How many places

-- each key takes two places
pub numbers-length : (o : List ℕ) → length (numbers_of o) ≡ 2 * length o
unfolding numbers_of
numbers-length [] = omega arith
numbers-length (k ∷ ks) = omega (arith, numbers-length ks)

-- an ordering takes one for its key count and two for each key
pub written-length : (o : List ℕ) → length (written o) ≡ 1 + 2 * length o
unfolding written
written-length o = omega (arith, numbers-length o)

-- keys after other keys
numbers-append : (o p : List ℕ) → numbers_of (o ++ p) ≡ numbers_of o ++ numbers_of p
unfolding numbers_of
numbers-append [] p = refl
numbers-append (k ∷ ks) p = ap (λ (t : List ℕ). expr_of k ∷ options_of k ∷ t) (numbers-append ks p)

-- orderings after other orderings
pub written-append : (os ps : List (List ℕ)) → written_all (os ++ ps) ≡ written_all os ++ written_all ps
unfolding written_all
written-append [] ps = refl
written-append (o ∷ os) ps = ap (λ (t : List ℕ). written o ++ t) (written-append os ps) ∙ sym (append_assoc (written o) (written_all os) (written_all ps))

-- one ordering
pub written_one : (o : List ℕ) → written_all (o ∷ []) ≡ written o
unfolding written_all
written_one o = append-nil (written o)

-- An ordering key by key

-- its key count and its first k keys
abbrev front : Ordering → ℕ → List ℕ
front o k = o.size ∷ numbers_of (take k (keys_of o))

-- the output where these are written
abbrev pub begun_to : Ordering → List ℕ → ℕ → List ℕ
begun_to o out k = front o k ++ drop (1 + 2 * k) out

-- two numbers are written, one after the other
set-two : (p out : List ℕ) (n v w : ℕ) → length p ≡ n → n + 1 < length out → set (set (p ++ drop n out) n v) (n + 1) w ≡ p ++ (v ∷ w ∷ []) ++ drop (n + 2) out
set-two p out n v w e l =
    let a : ℕ = get_or out n 0 in
    let b : ℕ = get_or out (suc n) 0 in
    let rest : List ℕ = drop (suc (suc n)) out in
    let q : List ℕ = p ++ (v ∷ []) in
    let m : length q ≡ n + 1 = omega (arith, length-append p (v ∷ [])) in
    let two : suc (suc n) ≡ n + 2 = omega arith in
    let split : drop n out ≡ a ∷ b ∷ rest = drop-cons out n 0 (omega arith) ∙ ap (λ (t : List ℕ). a ∷ t) (drop-cons out (suc n) 0 (omega arith)) in
    ap (λ (t : List ℕ). set (set (p ++ t) n v) (n + 1) w) split
    ∙ ap (λ (t : List ℕ). set t (n + 1) w) (set_at p a (b ∷ rest) v n e ∙ sym (append_snoc p v (b ∷ rest)))
    ∙ set_at q b rest w (n + 1) m
    ∙ append_snoc p v (w ∷ rest) ∙ sym (append_assoc p (v ∷ w ∷ []) rest)
    ∙ ap (λ (i : ℕ). p ++ (v ∷ w ∷ []) ++ drop i out) two

module _ (o : Ordering) (out : List ℕ) where
  -- the key count and k keys
  front_length : (k : ℕ) → k ≤ o.size → length (front o k) ≡ 1 + 2 * k
  front_length k l = omega (arith, numbers-length (take k (keys_of o)), length-take-le k (keys_of o) (omega (arith, size_is o)))

  -- what is written changes no length
  pub begun-length : (k : ℕ) → k ≤ o.size → 1 + 2 * o.size ≤ length out → length (begun_to o out k) ≡ length out
  begun-length k l b = omega (arith, length-append (front o k) (drop (1 + 2 * k) out), front_length k l, length-drop (1 + 2 * k) out)

  -- one key more
  pub begun-next : (k : ℕ) → k < o.size → 1 + 2 * o.size ≤ length out
      → set (set (begun_to o out k) (2 * k + 1) (get_or o.keys k 0 / 4)) (2 * k + 2) (get_or o.keys k 0 % 4) ≡ begun_to o out (k + 1)
  unfolding numbers_of expr_of options_of
  begun-next k l b =
      let key : ℕ = get_or o.keys k 0 in
      let n : ℕ = 2 * k + 1 in
      let s : 1 + 2 * k ≡ n = omega arith in
      let t : 2 * k + 2 ≡ n + 1 = omega arith in
      let u : n + 2 ≡ 1 + 2 * (k + 1) = omega arith in
      let more : take (k + 1) (keys_of o) ≡ take k (keys_of o) ++ (key ∷ []) =
      ap (λ (i : ℕ). take i (keys_of o)) (add-one k) ∙ take-suc (keys_of o) k 0 (omega (arith, size_is o))
      ∙ ap (λ (x : ℕ). take k (keys_of o) ++ (x ∷ [])) (key-is o k l) in
      ap₂ {C = List ℕ} (λ (i j : ℕ). set (set (front o k ++ drop i out) n (key / 4)) j (key % 4)) s t
      ∙ set-two (front o k) out n (key / 4) (key % 4) (omega (arith, front_length k (omega arith))) (omega arith)
      ∙ ap₂ {C = List ℕ} (λ (x : List ℕ) (i : ℕ). o.size ∷ x ++ drop i out) (sym (numbers-append (take k (keys_of o)) (key ∷ [])) ∙ ap numbers_of (sym more)) u

-- the key count is written
pub begun-begins : (o : Ordering) (out : List ℕ) (r : ℕ) → 0 < length out → r ≡ o.size → set out 0 r ≡ begun_to o (set out 0 r) 0
unfolding numbers_of
begun-begins o [] r l e = absurd (omega arith)
begun-begins o (x ∷ out) r l e = ap (λ (y : ℕ). y ∷ out) e

-- all keys are written
pub begun-ends : (o : Ordering) (out : List ℕ) (k r : ℕ) → k ≤ o.size → o.size ≤ k → begun_to o (set out 0 r) k ≡ written (keys_of o) ++ drop (1 + 2 * o.size) out
unfolding written
begun-ends o out k r a b =
    let e : k ≡ o.size = omega arith in
    ap₂ {C = List ℕ} (λ (x : List ℕ) (y : List ℕ). o.size ∷ numbers_of x ++ y) (take_all k (keys_of o) (omega (arith, size_is o))) (drop-set-lt (1 + 2 * k) out 0 r (omega arith))
    ∙ ap₂ {C = List ℕ} (λ (x : ℕ) (i : ℕ). x ∷ numbers_of (keys_of o) ++ drop (1 + 2 * i) out) (sym (size_is o)) e

-- Orderings of at most 16 keys

-- behind such orderings, whether all are such hangs on the others
pub short-after : (os ps : List (List ℕ)) → all_short os ≡ true → all_short (os ++ ps) ≡ all_short ps
short-after os ps e = same_test (all_short (os ++ ps)) (all_short ps) (λ t. short-test ps (right (test_short (os ++ ps) t))) (λ t. short-test (os ++ ps) (append-all (λ o. length o ≤ 16) os ps (test_short os e) (test_short ps t)))
  where
    right : AllShort (os ++ ps) → AllShort ps
    right h i l = let q = ap (λ (o : List ℕ). length o) (get_or-append-add os ps i []) in omega (arith, h (length os + i) (omega (arith, length-append os ps)))

-- where all are such, those before and those behind are
pub short-parts : (os ps : List (List ℕ)) → all_short (os ++ ps) ≡ true → (all_short os ≡ true) × (all_short ps ≡ true)
short-parts os ps e = go (all_short os) refl
  where
    go : (b : Bool) → all_short os ≡ b → (all_short os ≡ true) × (all_short ps ≡ true)
    go true q = (q, sym (short-after os ps q) ∙ e)
    go false q = absurd (true_not_false e (long-append os ps q))

-- Numbers that come into the output part by part

-- those before a place are written, and these are left
pub record Writing (all left first out : List ℕ) (at : ℕ) : Type 0 where
  pub below : at ≤ length all
  pub rest : drop at all ≡ left
  pub is : out ≡ take at all ++ drop at first

module _ (all first : List ℕ) (room : length all ≤ length first) where
  -- none is written
  pub writing_begins : Writing all all first first 0
  writing_begins = record { below = omega arith; rest = refl; is = refl }

  module _ (left out : List ℕ) (at : ℕ) (x : Writing all left first out at) where
    -- what is written changes no length
    pub writing-length : length out ≡ length first
    writing-length = omega (arith, ap (λ (t : List ℕ). length t) x.is, length-append (take at all) (drop at first), length-take-le at all x.below, length-drop at first, x.below)

    -- what is left and what is written is all
    pub writing-left : at + length left ≡ length all
    writing-left = omega (arith, ap (λ (t : List ℕ). length t) x.rest, length-drop at all, x.below)

    -- the output from the place on is as it was
    same_after : drop at out ≡ drop at first
    same_after = ap (drop at) x.is ∙ drop_at (take at all) (drop at first) at (length-take-le at all x.below)

    -- and has room for what is left
    pub writing-room : length (take (length out - at) (drop at out)) ≡ length first - at
    writing-room =
        omega (arith, ap (λ (t : List ℕ). length t) (take_all (length out - at) (drop at out) (omega (arith, length-drop at out))), length-drop at out, writing-length)

    -- all are written
    pub writing-ends : left ≡ [] → (at ≡ length all) × (out ≡ all ++ drop (length all) first)
    writing-ends e =
        let n : at ≡ length all = omega (arith, writing-left, ap (λ (t : List ℕ). length t) e) in
        (n, x.is ∙ ap₂ {C = List ℕ} (λ (t : List ℕ) (i : ℕ). t ++ drop i first) (take_all at all (omega arith)) n)

  -- one part more
  module _ (part left out new : List ℕ) (at n : ℕ) (x : Writing all (part ++ left) first out at) (size : n ≡ length part) (is : new ≡ part ++ drop n (take (length out - at) (drop at out))) where
    -- the rest of the output is lent, and comes back with the part at its beginning
    pub writing-on : Writing all left first (take at out ++ (new ++ drop (length out - at) (drop at out))) (at + n)
    writing-on = record {
      below = omega (arith, writing-left (part ++ left) out at x, length-append part left);
      rest = sym (drop-drop n at all) ∙ ap (drop n) x.rest ∙ drop_at part left n (sym size);
      is =
          ap₂ {C = List ℕ} (λ (s t : List ℕ). s ++ t) begin (ap₂ {C = List ℕ} (λ (s t : List ℕ). s ++ t) (is ∙ ap (λ (t : List ℕ). part ++ drop n t) lent) none ∙ append-nil (part ++ drop n (drop at first)))
          ∙ sym (append_assoc (take at all) part (drop n (drop at first)))
          ∙ ap₂ {C = List ℕ} (λ (s t : List ℕ). s ++ t) (sym more) (drop-drop n at first);
    }
      where
        begin : take at out ≡ take at all
        begin = ap (take at) x.is ∙ take_at (take at all) (drop at first) at (length-take-le at all x.below)

        lent : take (length out - at) (drop at out) ≡ drop at first
        lent = take_all (length out - at) (drop at out) (omega (arith, length-drop at out)) ∙ same_after (part ++ left) out at x

        none : drop (length out - at) (drop at out) ≡ []
        none = drop_of_length-le (drop at out) {i = length out - at} (omega (arith, length-drop at out))

        more : take (at + n) all ≡ take at all ++ part
        more = take-add at n all ∙ ap (λ (t : List ℕ). take at all ++ t) (ap (take n) x.rest ∙ take_at part left n (sym size))

-- Orderings that come into the output part by part

-- those that are left have at most 16 keys, and the others are written
pub record WritingOrders (all left : List (List ℕ)) (first out : List ℕ) (at : ℕ) : Type 0 where
  pub short : all_short left ≡ true
  pub writing : Writing (written_all all) (written_all left) first out at

module _ (all : List (List ℕ)) (first : List ℕ) (room : length (written_all all) ≤ length first) where
  -- none is written
  pub out-begins : all_short all ≡ true → WritingOrders all all first first 0
  out-begins e = record { short = e; writing = writing_begins (written_all all) first room }

  module _ (left : List (List ℕ)) (out : List ℕ) (at : ℕ) (x : WritingOrders all left first out at) where
    -- what is written changes no length
    pub out-length : length out ≡ length first
    out-length = writing-length (written_all all) first room (written_all left) out at x.writing

    -- the place is within the output
    pub out_within : at ≤ length first
    out_within = omega (arith, x.writing.below)

    -- all are written
    pub out-ends : left ≡ [] → (at ≡ length (written_all all)) × (out ≡ written_all all ++ drop (length (written_all all)) first)
    unfolding written_all
    out-ends e = writing-ends (written_all all) first room (written_all left) out at x.writing (ap written_all e)

    -- one part more
    module _ (part after : List (List ℕ)) (s : left ≡ part ++ after) where
      -- its orderings have at most 16 keys
      pub part-short : all_short part ≡ true
      part-short = (short-parts part after (sym (ap all_short s) ∙ x.short)).0

      -- what is left is its places and those after it
      split : written_all left ≡ written_all part ++ written_all after
      split = ap written_all s ∙ written-append part after

      -- its places are within the output
      pub part-within : at + length (written_all part) ≤ length first
      part-within =
          omega (arith, writing-left (written_all all) first room (written_all left) out at x.writing, ap (λ (w : List ℕ). length w) split, length-append (written_all part) (written_all after))

      -- the rest of the output has room for it
      pub part_room : length (written_all part) ≤ length (take (length out - at) (drop at out))
      part_room = omega (arith, part-within, writing-room (written_all all) first room (written_all left) out at x.writing)

      -- the loop goes on
      pub out-on : (new : List ℕ) (n : ℕ) → n ≡ length (written_all part) → new ≡ written_all part ++ drop n (take (length out - at) (drop at out))
          → WritingOrders all after first (take at out ++ (new ++ drop (length out - at) (drop at out))) (at + n)
      out-on new n e q = record {
        short = (short-parts part after (sym (ap all_short s) ∙ x.short)).1;
        writing =
            writing-on (written_all all) first room (written_all part) (written_all after) out new at n
            (subst (λ (w : List ℕ). Writing (written_all all) w first out at) split x.writing) e q;
      }
