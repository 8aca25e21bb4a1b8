-- A list of classes lent as numbers that passes the check is a fair list.
use Rattle.std.specs.Prelude.{if◌then◌else◌}
use Prim.Native.Nat.{ℕ, zero, suc, ◌+◌, ◌<◌, ◌≤◌}
use mathlib.Core.Bool.{Bool, true, false, not, ◌&&◌, ◌||◌}
use mathlib.Core.List.{List, ◌∷◌}
use mathlib.Core.Path.{◌≡◌, refl, sym, ap, ◌∙◌, subst}
use native.Mathlib.Decide.{dec_lt}
use native.Mathlib.Omega.{arith}
use borrow.Author.Tests.{eq-eqb, ltb-true, leb-true, not-true}
use lib.Dec.{eqb, ltb, leb}
use lib.ListN.{length}
use Rattle.laws.specs.Lists.{table}
use Rattle.laws.specs.Parts.{parts_end, parts_next, each_next}
use Rattle.laws.proofs.Booleans.{true_not_false, and_left, and_right, and_both}
use Rattle.laws.proofs.Each.{each_holds}
use Rattle.laws.proofs.Table.{length-table, get_or-table}
use Rattle.arena.specs.Node.{Node, literal, node_at}
use Rattle.arena.specs.Layout.{lawful, decode as nodes}
use Rattle.classes.specs.Class.{Class}
use Rattle.classes.specs.Group.{among}
use Rattle.classes.specs.Layout.{is_literal}
use Rattle.classes.specs.Steps.{fits}
use Rattle.classes.proofs.Places.{among-place, distinct-count, All}
use Rattle.classes.proofs.Marks.{flavour-uniform}
use Rattle.group_checks.proofs.HeldLaws.{then-of}
use Rattle.lent_classes.specs.Lent.{flavour_lent, value_lent, size_lent, member_lent, next_class, next-after, each_from, known_at, flavours_known, whole, fresh_lent, apart_at, members_apart, uniform_lent, literals_uniform, below_at, members_below, class_lent, classes_from, classes_lent}
use Rattle.lent_classes.specs.Check.{new_number}
use Rattle.merging.specs.Inner.{Fair}
use Rattle.merging.proofs.Reaching.{Sane, sane_fair}

-- a literal passes its test
literal-is : (ns : List Node) (e v : ℕ) → node_at ns e ≡ literal v → is_literal (node_at ns e) ≡ true
unfolding is_literal
literal-is ns e v q = rw q

module _ (ns : List Node) (numbers : List ℕ) where
  module _ (at : ℕ) (known : known_at numbers at ≡ true) (apart : apart_at numbers at ≡ true) (uniform : uniform_lent ns numbers at ≡ true) (below : below_at (length ns) numbers at ≡ true) where
    -- the place of a member
    member-place : (e : ℕ) → among e (class_lent numbers at).members ≡ true → (k : ℕ) × (k < size_lent numbers at) × (member_lent numbers at k ≡ e)
    unfolding class_lent
    member-place e h =
        let f : ℕ → ℕ = λ k. member_lent numbers at k in
        let p = among-place e (table f (size_lent numbers at)) h in
        let l : p.0 < size_lent numbers at = omega (arith, p.1, length-table f (size_lent numbers at)) in
        (p.0, l, sym (get_or-table f (size_lent numbers at) p.0 0 l) ∙ p.2)

    -- a member is in the arena
    member_below : (k : ℕ) → k < size_lent numbers at → ltb (member_lent numbers at k) (length ns) ≡ true
    unfolding below_at
    member_below k l = each_holds (λ (k : ℕ). ltb (member_lent numbers at k) (length ns)) (size_lent numbers at) k below l

    -- two places have different members
    members_differ : (i k : ℕ) → i < k → k < size_lent numbers at → member_lent numbers at i ≡ member_lent numbers at k → ⊥
    unfolding apart_at fresh_lent
    members_differ i k l b q =
        true_not_false (eq-eqb (member_lent numbers at i) (member_lent numbers at k) q)
        (not-true (eqb (member_lent numbers at i) (member_lent numbers at k))
        (each_holds (λ (i : ℕ). not (eqb (member_lent numbers at i) (member_lent numbers at k))) k i (each_holds (λ (k : ℕ). fresh_lent numbers at k) (size_lent numbers at) k apart b) l))

    -- a literal's flavour is uniform
    flavour-high : (k : ℕ) → k < size_lent numbers at → is_literal (node_at ns (member_lent numbers at k)) ≡ true → 2 ≤ flavour_lent numbers at
    unfolding uniform_lent
    flavour-high k l h =
        leb-true 2 (flavour_lent numbers at)
        (then-of (ltb (member_lent numbers at k) (length ns) && is_literal (node_at ns (member_lent numbers at k))) (leb 2 (flavour_lent numbers at)) (and_both (member_below k l) h)
        (each_holds (λ (k : ℕ). not (ltb (member_lent numbers at k) (length ns) && is_literal (node_at ns (member_lent numbers at k))) || leb 2 (flavour_lent numbers at)) (size_lent numbers at) k uniform l))

    -- a class that passes the tests
    class_sane : Sane ns (class_lent numbers at)
    unfolding class_lent known_at
    class_sane = record {
      once = distinct-count (table (λ (k : ℕ). member_lent numbers at k) (size_lent numbers at)) (record {
        apart = λ i j a l q.
            let f : ℕ → ℕ = λ k. member_lent numbers at k in
            let b : j < size_lent numbers at = omega (arith, length-table f (size_lent numbers at)) in
            members_differ i j a b (sym (get_or-table f (size_lent numbers at) i 0 (omega arith)) ∙ q ∙ get_or-table f (size_lent numbers at) j 0 b);
      });
      uniform = λ e v h q.
          let p = member-place e h in
          flavour-uniform (flavour_lent numbers at) (value_lent numbers at) known
          (flavour-high p.0 p.1 (literal-is ns (member_lent numbers at p.0) v (ap (λ (k : ℕ). node_at ns k) p.2 ∙ q)));
      inside = λ e h. let p = member-place e h in subst (λ (k : ℕ). k < length ns) p.2 (ltb-true (member_lent numbers at p.0) (length ns) (member_below p.0 p.1));
    }

  -- the classes from a place on
  lent_sane : (n at : ℕ) → length numbers ≤ n + at → each_from (known_at numbers) numbers at ≡ true → each_from (apart_at numbers) numbers at ≡ true → each_from (uniform_lent ns numbers) numbers at ≡ true
      → each_from (below_at (length ns) numbers) numbers at ≡ true → All (Sane ns) (classes_from numbers at)
  lent_sane zero at l k a u b = rw (parts_end (class_lent numbers) (next_class numbers) (length numbers) (next-after numbers) at (omega arith)) (λ i h. absurd (omega arith))
  lent_sane (suc n) at l k a u b = go (dec_lt at (length numbers)) (lent_sane n (next_class numbers at) (omega (arith, next-after numbers at)))
    where
      turn : (p : ℕ → Bool) → at < length numbers → each_from p numbers at ≡ true → (p at && each_from p numbers (next_class numbers at)) ≡ true
      turn p m h = sym (each_next p (next_class numbers) (length numbers) (next-after numbers) at m) ∙ h

      now : (p : ℕ → Bool) → at < length numbers → each_from p numbers at ≡ true → p at ≡ true
      now p m h = and_left (p at) (each_from p numbers (next_class numbers at)) (turn p m h)

      later : (p : ℕ → Bool) → at < length numbers → each_from p numbers at ≡ true → each_from p numbers (next_class numbers at) ≡ true
      later p m h = and_right (p at) (each_from p numbers (next_class numbers at)) (turn p m h)

      cons : (cs : List Class) → Sane ns (class_lent numbers at) → All (Sane ns) cs → All (Sane ns) (class_lent numbers at ∷ cs)
      cons cs s h zero i = s
      cons cs s h (suc j) i = h j (omega arith)

      go : Dec (at < length numbers)
          → (each_from (known_at numbers) numbers (next_class numbers at) ≡ true → each_from (apart_at numbers) numbers (next_class numbers at) ≡ true → each_from (uniform_lent ns numbers) numbers (next_class numbers at) ≡ true
          → each_from (below_at (length ns) numbers) numbers (next_class numbers at) ≡ true → All (Sane ns) (classes_from numbers (next_class numbers at)))
          → All (Sane ns) (classes_from numbers at)
      go (yes m) r =
          rw (parts_next (class_lent numbers) (next_class numbers) (length numbers) (next-after numbers) at m)
          (cons (classes_from numbers (next_class numbers at))
          (class_sane at (now (known_at numbers) m k) (now (apart_at numbers) m a) (now (uniform_lent ns numbers) m u) (now (below_at (length ns) numbers) m b))
          (r (later (known_at numbers) m k) (later (apart_at numbers) m a) (later (uniform_lent ns numbers) m u) (later (below_at (length ns) numbers) m b)))
      go (no m) r = rw (parts_end (class_lent numbers) (next_class numbers) (length numbers) (next-after numbers) at (omega arith)) (λ i h. absurd (omega arith))

-- what the check of a list says
pub record ListChecked (cells numbers : List ℕ) : Type 0 where
  pub known : flavours_known numbers ≡ true
  pub cells-lawful : lawful cells ≡ true
  pub is_whole : whole numbers ≡ true
  pub apart : members_apart numbers ≡ true
  pub uniform : literals_uniform (nodes cells) numbers ≡ true
  pub below : members_below (length (nodes cells)) numbers ≡ true
  pub fitting : fits 256 (classes_lent numbers) ≡ true

-- a list that passes
pub list-checked : (cells numbers : List ℕ) → new_number cells numbers ≡ 0 → ListChecked cells numbers
unfolding new_number
list-checked cells numbers e = go (flavours_known numbers) (lawful cells) (whole numbers) (members_apart numbers) (literals_uniform (nodes cells) numbers) (members_below (length (nodes cells)) numbers) (fits 256 (classes_lent numbers)) refl refl refl refl refl refl refl e
  where
    go : (a b c d u f g : Bool) → flavours_known numbers ≡ a → lawful cells ≡ b → whole numbers ≡ c → members_apart numbers ≡ d → literals_uniform (nodes cells) numbers ≡ u → members_below (length (nodes cells)) numbers ≡ f
        → fits 256 (classes_lent numbers) ≡ g → ◌≡◌ {A = ℕ} (if a then (if b && (c && d && u) then (if f then (if g then 0 else 4) else 1) else 11) else 12) 0 → ListChecked cells numbers
    go true true true true true true true p q r s t v w z = record { known = p; cells-lawful = q; is_whole = r; apart = s; uniform = t; below = v; fitting = w }
    go true true true true true true false p q r s t v w z = absurd (omega arith)
    go true true true true true false g p q r s t v w z = absurd (omega arith)
    go true true true true false f g p q r s t v w z = absurd (omega arith)
    go true true true false u f g p q r s t v w z = absurd (omega arith)
    go true true false d u f g p q r s t v w z = absurd (omega arith)
    go true false c d u f g p q r s t v w z = absurd (omega arith)
    go false b c d u f g p q r s t v w z = absurd (omega arith)

-- a list that passes the check is fair
pub lent_fair : (cells numbers : List ℕ) → new_number cells numbers ≡ 0 → Fair (nodes cells) (classes_lent numbers)
unfolding classes_lent flavours_known members_apart literals_uniform members_below
lent_fair cells numbers e =
    let c = list-checked cells numbers e in
    sane_fair (nodes cells) (classes_lent numbers) (lent_sane (nodes cells) numbers (length numbers) 0 (omega arith) c.known c.apart c.uniform c.below)
