-- The constant question: whether an expression is constant, the walk that asks it, and the answer from that.
use Rattle.std.specs.Prelude.{if◌then◌else◌}
use Prim.Native.Nat.{ℕ, zero, suc, ◌+◌, ◌<◌, ◌≤◌}
use mathlib.Core.Bool.{Bool, true, false, ◌&&◌, ◌||◌}
use mathlib.Core.List.{List}
use mathlib.Core.Path.{◌≡◌, refl, sym, ap, ◌∙◌}
use native.Mathlib.Decide.{ℕ_discrete}
use native.Mathlib.Omega.{arith}
use borrow.Author.Tests.{ne_eqb, lt-ltb}
use lib.Dec.{ltb}
use lib.ListN.{length, get_or, set, replicate}
use lib.Seq.{get_or-set_same, get_or-set_other}
use Rattle.laws.specs.Tests.{each}
use Rattle.laws.proofs.Each.{each_none, each_more, each-stops, each-ends, each_cong}
use Rattle.arena.specs.Node.{Node, node_at, child_numbers}
use Rattle.arena.specs.Arena.{Sound}
use Rattle.arena.specs.Layout.{count, cell_of, row_of, node_of, decode as nodes}
use Rattle.arena.specs.Inner.{Known}
use Rattle.arena.proofs.Layouts.{length-decode, node-decode, at-row_of}
use Rattle.arena.proofs.NodeCells.{node-column, node-literal, node-operation}
use Rattle.arena.proofs.Children.{child-below, known-lower}
use Rattle.classes.specs.declared.Constant.{Constant}
use Rattle.classes.specs.declared.Constant.TheVariants.{NoConstant as no_constant, Heterogeneous as heterogeneous, Unknown as unknown, Known as known}
use Rattle.classes.specs.Class.{Class, carried, is_constant}
use Rattle.classes.specs.Group.{class_at, class_of}
use Rattle.classes.specs.Layout.{flavour_of}
use Rattle.std.specs.Prelude.{None, Some}
use Rattle.classes.proofs.Numbers.{zeros-at}
use Rattle.questions.specs.Questions.{class_constant, or_else, constant_by, expr_constant}
use Rattle.questions.specs.Inner.{marked_by, Marked, ToldConstant, AskedConstant, AnsweredConstant, AskedConstants, AnsweredConstants}
use Rattle.questions.proofs.Asking.{constant_by-is, child-under}
use Rattle.questions.proofs.Equality.{Children, known-inside}

-- the first of two constants is one where either is
or-constant : (c d : Constant) → is_constant (or_else c d) ≡ (is_constant c || is_constant d)
unfolding is_constant or_else
or-constant no_constant d = refl
or-constant heterogeneous d = refl
or-constant unknown d = refl
or-constant (known v) d = refl

-- heterogeneous where a test passes
tested : (t : Bool) → is_constant (if t then heterogeneous else no_constant) ≡ t
unfolding is_constant
tested true = refl
tested false = refl

module _ (ns : List Node) (s : Sound ns) where
  -- the expression is constant
  abbrev Flag : (ℕ → Constant) → ℕ → Bool
  Flag own e = is_constant (constant_by ns own e)

  -- it has children, and each is constant
  abbrev All : (ℕ → Constant) → ℕ → Bool
  All own e = ltb 0 (length (child_numbers (node_at ns e))) && each (λ k. Flag own (get_or (child_numbers (node_at ns e)) k 0)) (length (child_numbers (node_at ns e)))

  -- a literal is constant, and a member of a class with a constant, and whatever has children that all are
  flag_is : (own : ℕ → Constant) (e : ℕ) → e < length ns → Flag own e ≡ (is_constant (carried (node_at ns e)) || (is_constant (own e) || All own e))
  flag_is own e l =
      ap is_constant (constant_by-is ns s own e l)
      ∙ or-constant (carried (node_at ns e)) (or_else (own e) (if All own e then heterogeneous else no_constant))
      ∙ ap (λ (t : Bool). is_constant (carried (node_at ns e)) || t) (or-constant (own e) (if All own e then heterogeneous else no_constant)
      ∙ ap (λ (t : Bool). is_constant (own e) || t) (tested (All own e)))

  -- accounts of the classes' constants that agree on who has one give the same answers
  flag-below : (own other : ℕ → Constant) → ((x : ℕ) → x < length ns → is_constant (own x) ≡ is_constant (other x)) → (m e : ℕ) → e < m → e < length ns → Flag own e ≡ Flag other e
  flag-below own other h zero e u l = absurd (omega arith)
  flag-below own other h (suc m) e u l = step (λ j v. flag-below own other h m j (omega arith) (omega arith))
    where
      js : List ℕ
      js = child_numbers (node_at ns e)

      step : ((j : ℕ) → j < e → Flag own j ≡ Flag other j) → Flag own e ≡ Flag other e
      step lower =
          let c : each (λ k. Flag own (get_or js k 0)) (length js) ≡ each (λ k. Flag other (get_or js k 0)) (length js) =
          each_cong (λ k. Flag own (get_or js k 0)) (λ k. Flag other (get_or js k 0)) (length js) (λ k v. lower (get_or js k 0) (child-under ns s e k l v)) in
          flag_is own e l ∙ rw (h e l, c) (sym (flag_is other e l))

  pub flag_cong : (own other : ℕ → Constant) → ((x : ℕ) → x < length ns → is_constant (own x) ≡ is_constant (other x)) → (e : ℕ) → e < length ns → is_constant (constant_by ns own e) ≡ is_constant (constant_by ns other e)
  flag_cong own other h e l = flag-below own other h (length ns) e l l

  -- neither a literal nor in a class with a constant: heterogeneous where it is constant, else none
  pub by_flag : (own : ℕ → Constant) (e : ℕ) → e < length ns → carried (node_at ns e) ≡ no_constant → own e ≡ no_constant
      → constant_by ns own e ≡ (if is_constant (constant_by ns own e) then heterogeneous else no_constant)
  unfolding or_else
  by_flag own e l p q =
      let c : constant_by ns own e ≡ (if All own e then heterogeneous else no_constant) = constant_by-is ns s own e l ∙ rw (p, q) in
      let t : is_constant (constant_by ns own e) ≡ All own e = ap is_constant c ∙ tested (All own e) in
      c ∙ ap (λ (b : Bool). if b then heterogeneous else no_constant) (sym t)

  -- no literal, in a class with a constant
  pub by-class : (own : ℕ → Constant) (e : ℕ) → e < length ns → carried (node_at ns e) ≡ no_constant → is_constant (own e) ≡ true → constant_by ns own e ≡ own e
  unfolding or_else is_constant
  by-class own e l p q = constant_by-is ns s own e l ∙ rw p (go (own e) q)
    where
      go : (c : Constant) → is_constant c ≡ true → or_else c (if All own e then heterogeneous else no_constant) ≡ c
      go no_constant h = absurd (let z : ◌≡◌ {A = ℕ} 0 1 = cc in omega arith)
      go heterogeneous h = refl
      go unknown h = refl
      go (known v) h = refl

-- a flavour other than 0 is a constant's, and 0 is that of none
flavour-some : (c : Constant) → (flavour_of c ≡ 0 → ⊥) → is_constant c ≡ true
unfolding is_constant flavour_of
flavour-some no_constant h = absurd (h refl)
flavour-some heterogeneous h = refl
flavour-some unknown h = refl
flavour-some (known v) h = refl

flavour-none : (c : Constant) → flavour_of c ≡ 0 → c ≡ no_constant
unfolding flavour_of
flavour-none no_constant e = refl
flavour-none heterogeneous e = absurd (omega arith)
flavour-none unknown e = absurd (omega arith)
flavour-none (known v) e = absurd (omega arith)

-- by the table of the arena's nodes a class has a constant if it has
marked-same : (cs : List Class) (n : ℕ) (marks : List ℕ) → Marked cs n marks → (x : ℕ) → x < n → is_constant (marked_by marks x) ≡ is_constant (class_constant cs x)
unfolding marked_by is_constant flavour_of
marked-same cs n marks h x l = go (class_constant cs x) (h x l)
  where
    go : (c : Constant) → get_or marks x 0 ≡ flavour_of c → is_constant (marked_by marks x) ≡ is_constant c
    go no_constant e = rw e
    go heterogeneous e = rw e
    go unknown e = rw e
    go (known v) e = rw e

-- a node is a literal, or carries no constant
module _ (s : List ℕ) (e : ℕ) (k : Known s e) where
  node-is : node_at (nodes s) e ≡ node_of (row_of s e)
  node-is = node-decode s e k.below

  pub literal_carries : cell_of s e 0 ≡ 2 → carried (node_at (nodes s) e) ≡ known (cell_of s e 1)
  unfolding carried
  literal_carries q = rw (node-is, node-literal (row_of s e) (at-row_of s e 0 (omega arith) ∙ q), at-row_of s e 1 (omega arith))

  pub other_carries : (cell_of s e 0 ≡ 2 → ⊥) → carried (node_at (nodes s) e) ≡ no_constant
  unfolding carried
  other_carries q = go (ℕ_discrete (get_or (row_of s e) 0 0) 1)
    where
      go : Dec (get_or (row_of s e) 0 0 ≡ 1) → carried (node_at (nodes s) e) ≡ no_constant
      go (yes y) = rw (node-is, node-column (row_of s e) y)
      go (no y) = rw (node-is, node-operation (row_of s e) y (λ z. q (sym (at-row_of s e 0 (omega arith)) ∙ z)))

-- child k of e is constant
abbrev pub Child : List ℕ → List ℕ → ℕ → ℕ → Bool
Child s marks e k = is_constant (constant_by (nodes s) (marked_by marks) (get_or (Children s e) k 0))

module _ (s marks seen : List ℕ) (e : ℕ) (q : AskedConstant s marks seen e) where
  abbrev Here : Bool
  Here = is_constant (constant_by (nodes s) (marked_by marks) e)

  abbrev Each : Bool
  Each = ltb 0 (length (Children s e)) && each (Child s marks e) (length (Children s e))

  rule : Here ≡ (is_constant (carried (node_at (nodes s) e)) || (is_constant (marked_by marks e) || Each))
  rule = flag_is (nodes s) q.known.holds.sound (marked_by marks) e (known-inside s e q.known)

  -- a literal
  pub literal-answered : cell_of s e 0 ≡ 2 → AnsweredConstant s marks seen e true
  unfolding is_constant
  literal-answered c = record { is = sym (rule ∙ rw (literal_carries s e q.known c)); told = q.told }

  -- in the table
  pub seen-answered : get_or seen e 0 ≡ 1 → AnsweredConstant s marks seen e true
  seen-answered c = record { is = sym (q.told e c); told = q.told }

  module _ (o : cell_of s e 0 ≡ 2 → ⊥) where
    no_literal : Here ≡ (is_constant (marked_by marks e) || Each)
    unfolding is_constant
    no_literal = rule ∙ rw (other_carries s e q.known o)

    -- in a class with a constant
    pub class-constant : (get_or marks e 0 ≡ 0 → ⊥) → AnsweredConstant s marks seen e true
    unfolding is_constant marked_by
    class-constant c = record { is = sym (no_literal ∙ rw (ne_eqb (get_or marks e 0) 0 c)); told = q.told }

    module _ (c : get_or marks e 0 ≡ 0) where
      by-children : Here ≡ Each
      unfolding is_constant marked_by
      by-children = no_literal ∙ rw c

      -- no children
      pub leaf_constant : length (Children s e) ≡ 0 → AnsweredConstant s marks seen e false
      leaf_constant z = record { is = sym (by-children ∙ rw z); told = q.told }

      module _ (n : ℕ) (m : n ≡ length (Children s e)) (z : n ≡ 0 → ⊥) where
        -- what the walk over the children asks
        pub constants-asked : AskedConstants s marks seen e n
        constants-asked = record { asked = q; children = sym m }

        walked : Here ≡ each (Child s marks e) n
        walked =
            let f : ltb 0 (length (Children s e)) ≡ true = lt-ltb 0 (length (Children s e)) (omega arith) in
            by-children ∙ rw f (ap (each (Child s marks e)) (sym m))

        -- one child is not constant
        pub constants-answered : (t : List ℕ) → AnsweredConstants s marks t e n false → AnsweredConstant s marks t e false
        constants-answered t w = record { is = w.is ∙ sym walked; told = w.told }

        -- all are, and it was written down
        pub constants-noted : (t : List ℕ) → AnsweredConstants s marks t e n true → AnsweredConstant s marks (set t e 1) e true
        constants-noted t w = record { is = w.is ∙ sym walked; told = λ x h. at x h (ℕ_discrete x e) }
          where
            at : (x : ℕ) → get_or (set t e 1) x 0 ≡ 1 → Dec (x ≡ e) → is_constant (constant_by (nodes s) (marked_by marks) x) ≡ true
            at x h (yes y) = rw y (sym (w.is ∙ sym walked))
            at x h (no y) = w.told x (sym (get_or-set_other t e x 1 0 y) ∙ h)

-- the first k children are constant
pub record Passing (s marks : List ℕ) (e : ℕ) (seen : List ℕ) (k : ℕ) : Type 0 where
  pub all : each (Child s marks e) k ≡ true
  pub told : ToldConstant (nodes s) marks seen

module _ (s marks seen₀ : List ℕ) (e n : ℕ) (q : AskedConstants s marks seen₀ e n) where
  pub passing_begins : Passing s marks e seen₀ 0
  passing_begins = record { all = each_none (Child s marks e); told = q.asked.told }

  module _ (seen : List ℕ) (k : ℕ) (g : Passing s marks e seen k) where
    -- the loop ends
    pub passing-ends : k ≤ n → n ≤ k → AnsweredConstants s marks seen e n true
    passing-ends w l = record { is = each-ends (Child s marks e) n k w l g.all; told = g.told }

    module _ (l : k < n) where
      pub child-there : k < length (Children s e)
      child-there = omega (arith, q.children)

      -- the child is lower
      pub child-less : get_or (Children s e) k 0 < e
      child-less = child-below s e q.asked.known k child-there

      module _ (x : ℕ) (ex : x ≡ get_or (Children s e) k 0) where
        -- what the walk asks of it
        pub child-asked : AskedConstant s marks seen x
        child-asked = record { known = known-lower s e x q.asked.known (omega (arith, child-less)); told = g.told }

        child-is : (t : List ℕ) (r : Bool) → AnsweredConstant s marks t x r → Child s marks e k ≡ r
        child-is t r w = sym (w.is ∙ rw ex)

        pub passing-on : (t : List ℕ) → AnsweredConstant s marks t x true → Passing s marks e t (k + 1)
        passing-on t w = record { all = each_more (Child s marks e) k g.all (child-is t true w); told = w.told }

        pub passing-stops : (t : List ℕ) → AnsweredConstant s marks t x false → AnsweredConstants s marks t e n false
        passing-stops t w = record { is = each-stops (Child s marks e) n k l (child-is t false w); told = w.told }

-- a fresh table says nothing
pub fresh-constant : (ns : List Node) (marks : List ℕ) (n : ℕ) → ToldConstant ns marks (replicate n 0)
fresh-constant ns marks n e h = absurd (let z = zeros-at n e in omega arith)

-- the constant of a class, by the answer of the search
pub mark-at : (cs : List Class) (e i : ℕ) → class_of cs e ≡ Some i → (class_at cs i).constant ≡ class_constant cs e
unfolding class_constant
mark-at cs e i p = rw p

pub mark-nowhere : (cs : List Class) (e : ℕ) → class_of cs e ≡ None → no_constant ≡ class_constant cs e
unfolding class_constant
mark-nowhere cs e p = rw p

-- a table of flavours that holds below e, and the answer for e written into it
pub marked_more : (cs : List Class) (marks : List ℕ) (e f : ℕ) → e < length marks → Marked cs e marks → f ≡ flavour_of (class_constant cs e) → Marked cs (e + 1) (set marks e f)
marked_more cs marks e f l h q j b = at (ℕ_discrete j e)
  where
    at : Dec (j ≡ e) → get_or (set marks e f) j 0 ≡ flavour_of (class_constant cs j)
    at (yes t) = rw t (get_or-set_same marks e f 0 l ∙ q)
    at (no t) = get_or-set_other marks e j f 0 t ∙ h j (omega arith)

-- the answers of the constant question
module _ (s : List ℕ) (cs : List Class) (e : ℕ) (k : Known s e) where
  pub literal-mark : cell_of s e 0 ≡ 2 → known (cell_of s e 1) ≡ expr_constant (nodes s) cs e
  unfolding or_else
  literal-mark q = sym (constant_by-is (nodes s) k.holds.sound (class_constant cs) e (known-inside s e k) ∙ rw (literal_carries s e k q))

  module _ (o : cell_of s e 0 ≡ 2 → ⊥) (own : Constant) (q : own ≡ class_constant cs e) where
    flavour-is : flavour_of own ≡ flavour_of (class_constant cs e)
    flavour-is = ap flavour_of q

    pub class-mark : (flavour_of own ≡ 0 → ⊥) → own ≡ expr_constant (nodes s) cs e
    class-mark z =
        q
        ∙ sym (by-class (nodes s) k.holds.sound (class_constant cs) e (known-inside s e k) (other_carries s e k o)
        (flavour-some (class_constant cs e) (λ f. z (flavour-is ∙ f))))

    module _ (z : flavour_of own ≡ 0) (marks : List ℕ) (h : Marked cs (count s) marks) where
      flagged : (r : Bool) → r ≡ is_constant (constant_by (nodes s) (marked_by marks) e) → expr_constant (nodes s) cs e ≡ (if r then heterogeneous else no_constant)
      flagged r a =
          let t : r ≡ is_constant (expr_constant (nodes s) cs e) =
          a ∙ flag_cong (nodes s) k.holds.sound (marked_by marks) (class_constant cs) (λ x l. marked-same cs (count s) marks h x (rw (length-decode s) at l)) e (known-inside s e k) in
          by_flag (nodes s) k.holds.sound (class_constant cs) e (known-inside s e k) (other_carries s e k o) (flavour-none (class_constant cs e) (sym flavour-is ∙ z))
          ∙ ap (λ (b : Bool). if b then heterogeneous else no_constant) (sym t)

      pub walk_yes : true ≡ is_constant (constant_by (nodes s) (marked_by marks) e) → heterogeneous ≡ expr_constant (nodes s) cs e
      walk_yes a = sym (flagged true a)

      pub walk_no : false ≡ is_constant (constant_by (nodes s) (marked_by marks) e) → no_constant ≡ expr_constant (nodes s) cs e
      walk_no a = sym (flagged false a)
