-- The table of the projections: the projection of a node by those of its children, and what an entry says.
use Prim.Native.Nat.{ℕ, zero, suc, ◌+◌, ◌<◌}
use mathlib.Core.Bool.{Bool, true, false, not, ◌&&◌, and-true}
use mathlib.Core.List.{List, [], ◌∷◌}
use Rattle.std.specs.Prelude.{Option, None, Some}
use mathlib.Core.Path.{◌≡◌, refl, sym, ap, ◌∙◌, subst}
use native.Mathlib.Decide.{ℕ_discrete}
use native.Mathlib.Omega.{arith}
use borrow.Author.Tests.{eq-eqb, ne_eqb}
use lib.Dec.{eqb}
use lib.ListN.{length, get_or, set}
use lib.Seq.{get_or-set_same, get_or-set_other}
use Rattle.laws.specs.Tests.{each}
use Rattle.laws.proofs.Booleans.{true_not_false}
use Rattle.laws.proofs.Each.{each_holds}
use Rattle.arena.specs.Node.{Node, column, literal, operation, node_at, child_numbers}
use Rattle.arena.specs.Expression.{Expression, Expressions, op, ∅, ◌▹◌, size, expression_at}
use Rattle.arena.specs.Arena.{Allowed, Sound, Small, AllSmall}
use Rattle.arena.proofs.Made.{made-is}
use Rattle.classes.specs.Class.{Class}
use Rattle.questions.proofs.Asking.{child-under}
use Rattle.mappings.specs.Mapping.{Mapped}
use Rattle.mappings.specs.Layout.{decode, Checked}
use Rattle.mappings.specs.declared.Mapping.{Mapping}
use Rattle.projection_table.specs.Projecting.{becomes, both_project, all_project, operation_of, by_children, whole_or, projections_by, projections}
use Rattle.projection_table.specs.Inner.{entry_of, Says}
use Rattle.projection_table.proofs.Becoming.{becomes-is, becomes-below, entry-none}

-- ---- the projection of a node

-- the projections of children look only at their numbers
all_cong : (xs ys : List (Option Expression)) (ks : List ℕ) → ((k : ℕ) → k < length ks → get_or xs (get_or ks k 0) None ≡ get_or ys (get_or ks k 0) None) → all_project xs ks ≡ all_project ys ks
unfolding all_project
all_cong xs ys [] h = refl
all_cong xs ys (k ∷ ks) h = rw (h 0 (omega arith), all_cong xs ys ks (λ j l. h (suc j) (omega arith)))

-- what the children give a node that may have the number i looks only below i
children_cong : (xs ys : List (Option Expression)) (i : ℕ) (n : Node) → Allowed i n → ((k : ℕ) → k < i → get_or xs k None ≡ get_or ys k None) → by_children xs n ≡ by_children ys n
unfolding by_children Allowed
children_cong xs ys i (column name index) a h = refl
children_cong xs ys i (literal value) a h = refl
children_cong xs ys i (operation label []) a h = refl
children_cong xs ys i (operation label (k ∷ ks)) a h = ap (operation_of label) (all_cong xs ys (k ∷ ks) (λ j l. h (get_or (k ∷ ks) j 0) (a.1 j l)))

-- a number's projection is what it becomes as a whole, or what its children give, for any account of what becomes of a whole expression
pub projection-by-at : (ns : List Node) (to : ℕ → Option ℕ) → Sound ns → (e : ℕ) → e < length ns
    → get_or (projections_by ns to) e None ≡ whole_or ns (by_children (projections_by ns to) (node_at ns e)) (to e)
unfolding projections_by
projection-by-at ns to s e l =
    made-is (λ xs i n. whole_or ns (by_children xs n) (to i)) None ns s
    (λ xs ys i n a h. ap (λ (x : Option Expression). whole_or ns x (to i)) (children_cong xs ys i n a h)) e l

-- by a group and a mapping
pub projection-at : (ns : List Node) (cs : List Class) (ps : List Mapped) → Sound ns → (e : ℕ) → e < length ns
    → get_or (projections ns cs ps) e None ≡ whole_or ns (by_children (projections ns cs ps) (node_at ns e)) (becomes ns cs ps e)
projection-at ns cs ps s e l = projection-by-at ns (becomes ns cs ps) s e l

-- ---- projections of children

-- node e has a projection
pub record Projects (xs : List (Option Expression)) (e : ℕ) : Type 0 where
  pub expression : Expression
  pub known : get_or xs e None ≡ Some expression

-- no projection is one
pub none-some : {A : Type 0} {o : Option A} {x : A} → o ≡ None → o ≡ Some x → ⊥
none-some p q = let z : ◌≡◌ {A = ℕ} 0 1 = cc in omega arith

-- the first of several children, and the others
record Parted (xs : List (Option Expression)) (k : ℕ) (ks : List ℕ) (ys : Expressions) : Type 0 where
  one : Expression
  others : Expressions
  one_known : get_or xs k None ≡ Some one
  others-known : all_project xs ks ≡ Some others
  is : ys ≡ one ▹ others

-- they are such where all have projections
parted : (xs : List (Option Expression)) (k : ℕ) (ks : List ℕ) (ys : Expressions) → all_project xs (k ∷ ks) ≡ Some ys → Parted xs k ks ys
unfolding all_project both_project
parted xs k ks ys e = go (get_or xs k None) (all_project xs ks) refl refl e
  where
    go : (a : Option Expression) (b : Option Expressions) → get_or xs k None ≡ a → all_project xs ks ≡ b → both_project a b ≡ Some ys → Parted xs k ks ys
    go None b p q z = absurd (none-some refl z)
    go (Some x) None p q z = absurd (none-some refl z)
    go (Some x) (Some zs) p q z = record { one = x; others = zs; one_known = p; others-known = q; is = cc }

-- where each child has a projection, they all do
pub all_known_lem : (xs : List (Option Expression)) (ks : List ℕ) → ((j : ℕ) → j < length ks → Projects xs (get_or ks j 0)) → (ys : Expressions) × (all_project xs ks ≡ Some ys)
unfolding all_project both_project
all_known_lem xs [] h = (∅, refl)
all_known_lem xs (k ∷ ks) h =
    let p = h 0 (omega arith) in
    let q = all_known_lem xs ks (λ j l. h (suc j) (omega arith)) in
    (p.expression ▹ q.0, rw (p.known, q.1))

-- where they all do, each does
pub all-child : (xs : List (Option Expression)) (ks : List ℕ) (ys : Expressions) → all_project xs ks ≡ Some ys → (j : ℕ) → j < length ks → Projects xs (get_or ks j 0)
all-child xs [] ys e j l = absurd (omega arith)
all-child xs (k ∷ ks) ys e zero l = let p = parted xs k ks ys e in record { expression = p.one; known = p.one_known }
all-child xs (k ∷ ks) ys e (suc j) l = let p = parted xs k ks ys e in all-child xs ks p.others p.others-known j (omega arith)

-- where one has none, they don't
none-known : (xs : List (Option Expression)) (ks : List ℕ) (k : ℕ) → k < length ks → get_or xs (get_or ks k 0) None ≡ None → all_project xs ks ≡ None
none-known xs ks k l e = go (all_project xs ks) refl
  where
    go : (o : Option Expressions) → all_project xs ks ≡ o → all_project xs ks ≡ None
    go None q = q
    go (Some ys) q = absurd (none-some e (all-child xs ks ys q k l).known)

-- numbers and expressions, equally many, each pair in a relation
unfoldable pub Pairwise : (ℕ → Expression → Type 0) → List ℕ → Expressions → Type 0
Pairwise P [] ∅ = Unit {0}
Pairwise P [] (x ▹ xs) = ⊥
Pairwise P (k ∷ ks) ∅ = ⊥
Pairwise P (k ∷ ks) (x ▹ xs) = P k x × Pairwise P ks xs

-- children and their projections, where each child's projection is in the relation
pub all-pairwise : (P : ℕ → Expression → Type 0) (xs : List (Option Expression)) (ks : List ℕ)
    → ((k : ℕ) → k < length ks → (x : Expression) → get_or xs (get_or ks k 0) None ≡ Some x → P (get_or ks k 0) x)
    → (ys : Expressions) → all_project xs ks ≡ Some ys → Pairwise P ks ys
unfolding all_project Pairwise
all-pairwise P xs [] h ys e = let z : ∅ ≡ ys = cc in subst (Pairwise P []) z tt
all-pairwise P xs (k ∷ ks) h ys e =
    let p = parted xs k ks ys e in
    subst (Pairwise P (k ∷ ks)) (sym p.is) (h 0 (omega arith) p.one p.one_known, all-pairwise P xs ks (λ j l. h (suc j) (omega arith)) p.others p.others-known)

-- small expressions, one for each number, are as many and all small
pub pairwise-small : (ks : List ℕ) (ys : Expressions) → Pairwise (λ k y. Small y) ks ys → (size ys ≡ length ks) × AllSmall ys
unfolding Pairwise size AllSmall
pairwise-small [] ∅ h = (refl, tt)
pairwise-small [] (y ▹ ys) h = absurd h
pairwise-small (k ∷ ks) ∅ h = absurd h
pairwise-small (k ∷ ks) (y ▹ ys) h = let r = pairwise-small ks ys h.1 in (ap suc r.0, (h.0, r.1))

-- a node whose projection is made of its children's
pub record OverChildren (xs : List (Option Expression)) (n : Node) (x : Expression) : Type 0 where
  pub label : ℕ
  pub children : List ℕ
  pub projected : Expressions
  pub node : n ≡ operation label children
  pub known : all_project xs children ≡ Some projected
  pub is : x ≡ op label projected

-- so is one whose children give it a projection
pub over-children : (xs : List (Option Expression)) (n : Node) (x : Expression) → by_children xs n ≡ Some x → OverChildren xs n x
unfolding by_children operation_of
over-children xs (column name index) x e = absurd (none-some refl e)
over-children xs (literal value) x e = absurd (none-some refl e)
over-children xs (operation label []) x e = absurd (none-some refl e)
over-children xs (operation label (k ∷ ks)) x e = go (all_project xs (k ∷ ks)) refl e
  where
    go : (o : Option Expressions) → all_project xs (k ∷ ks) ≡ o → operation_of label o ≡ Some x → OverChildren xs (operation label (k ∷ ks)) x
    go None q z = absurd (none-some refl z)
    go (Some ys) q z = record { label = label; children = k ∷ ks; projected = ys; node = refl; known = q; is = cc }

-- ---- what an entry says

-- an entry other than 0 is that of a node with a projection
pub says_some : (os : List Node) (xs : List (Option Expression)) (ns : List Node) (e entry : ℕ) → Says os xs ns e entry → (entry ≡ 0 → ⊥) → Projects xs e
unfolding Says
says_some os xs ns e zero h z = absurd (z refl)
says_some os xs ns e (suc zero) h z = record { expression = h.0; known = h.1.0 }
says_some os xs ns e (suc (suc i)) h z = record { expression = expression_at ns i; known = h.1 }

-- a node without children gets nothing from them
leaf_none : (xs : List (Option Expression)) (n : Node) → length (child_numbers n) ≡ 0 → by_children xs n ≡ None
unfolding by_children child_numbers
leaf_none xs (column name index) z = refl
leaf_none xs (literal value) z = refl
leaf_none xs (operation label []) z = refl
leaf_none xs (operation label (k ∷ ks)) z = absurd (omega arith)

-- so does one with a child that has no projection
children-none : (xs : List (Option Expression)) (n : Node) (k : ℕ) → k < length (child_numbers n) → get_or xs (get_or (child_numbers n) k 0) None ≡ None → by_children xs n ≡ None
unfolding by_children child_numbers operation_of
children-none xs (column name index) k l e = refl
children-none xs (literal value) k l e = refl
children-none xs (operation label []) k l e = refl
children-none xs (operation label (j ∷ ks)) k l e = ap (operation_of label) (none-known xs (j ∷ ks) k l e)

-- one whose children all have projections is an operation over them
children-some : (xs : List (Option Expression)) (n : Node) → (length (child_numbers n) ≡ 0 → ⊥) → ((k : ℕ) → k < length (child_numbers n) → Projects xs (get_or (child_numbers n) k 0)) → (x : Expression) × (by_children xs n ≡ Some x)
unfolding by_children child_numbers operation_of
children-some xs (column name index) z h = absurd (z refl)
children-some xs (literal value) z h = absurd (z refl)
children-some xs (operation label []) z h = absurd (z refl)
children-some xs (operation label (k ∷ ks)) z h = let a = all_known_lem xs (k ∷ ks) h in (op label a.0, ap (operation_of label) a.1)

-- "for all" that fails, fails somewhere
fails_at : (p : ℕ → Bool) (n : ℕ) → each p n ≡ false → (k : ℕ) × ((k < n) × (p k ≡ false))
unfolding each
fails_at p zero e = absurd (true_not_false refl e)
fails_at p (suc n) e = go (p n) refl (fails_at p n)
  where
    go : (b : Bool) → p n ≡ b → (each p n ≡ false → (k : ℕ) × ((k < n) × (p k ≡ false))) → (k : ℕ) × ((k < suc n) × (p k ≡ false))
    go true q r = let a = r (sym (and-true (each p n)) ∙ ap (λ (b : Bool). each p n && b) (sym q) ∙ e) in (a.0, (omega (arith, a.1.0), a.1.1))
    go false q r = (n, (omega arith, q))

-- an entry that a test tells from 0, or doesn't
entry-is-0 : (entry : ℕ) → not (eqb entry 0) ≡ false → entry ≡ 0
entry-is-0 zero e = refl
entry-is-0 (suc entry) e = absurd (true_not_false (ap not (ne_eqb (suc entry) 0 (λ z. omega arith))) e)

entry-not-0 : (entry : ℕ) → not (eqb entry 0) ≡ true → entry ≡ 0 → ⊥
entry-not-0 entry e z = true_not_false e (ap not (eq-eqb entry 0 z))

-- ---- the table

module _ (ns : List Node) (cs : List Class) (m : Mapping) (s : Sound ns) (e : ℕ) (l : e < length ns) (whole : ℕ) (q : whole ≡ entry_of (becomes ns cs (decode m) e)) where
  abbrev All : List (Option Expression)
  All = projections ns cs (decode m)

  -- something becomes of the whole expression
  pub says-whole : Checked (length ns) m → (whole ≡ 0 → ⊥) → Says ns All ns e whole
  unfolding Says entry_of whole_or
  says-whole c h = go (becomes ns cs (decode m) e) refl
    where
      go : (o : Option ℕ) → becomes ns cs (decode m) e ≡ o → Says ns All ns e whole
      go None t = absurd (h (q ∙ ap entry_of t))
      go (Some i) t =
          let y : whole ≡ i + 2 = q ∙ ap entry_of t in
          let w : suc (suc i) ≡ whole = omega arith in
          subst (Says ns All ns e) w (becomes-below ns cs (length ns) m e c l i (becomes-is ns cs (decode m) e i t), projection-at ns cs (decode m) s e l ∙ rw t)

  module _ (z : whole ≡ 0) where
    -- nothing does: what the children give
    by-children : get_or All e None ≡ by_children All (node_at ns e)
    unfolding whole_or
    by-children =
        let t : becomes ns cs (decode m) e ≡ None = entry-none (becomes ns cs (decode m) e) (sym z ∙ q) in
        projection-at ns cs (decode m) s e l ∙ rw t

    -- there are none
    pub says_leaf : length (child_numbers (node_at ns e)) ≡ 0 → Says ns All ns e 0
    unfolding Says
    says_leaf k = by-children ∙ leaf_none All (node_at ns e) k

    module _ (table : List ℕ) (h : (j : ℕ) → j < e → Says ns All ns j (get_or table j 0)) where
      -- child k
      abbrev child : ℕ → ℕ
      child k = get_or (child_numbers (node_at ns e)) k 0

      -- it has a projection, by the table
      abbrev pub projects : ℕ → Bool
      projects k = not (eqb (get_or table (child k) 0) 0)

      below : (k : ℕ) → k < length (child_numbers (node_at ns e)) → Says ns All ns (child k) (get_or table (child k) 0)
      below k b = h (child k) (child-under ns s e k l b)

      -- one child has none
      pub says_fails : (all : Bool) → all ≡ each projects (length (child_numbers (node_at ns e))) → all ≡ false → Says ns All ns e 0
      unfolding Says
      says_fails all t f =
          let a = fails_at projects (length (child_numbers (node_at ns e))) (sym t ∙ f) in
          let y : get_or table (child a.0) 0 ≡ 0 = entry-is-0 (get_or table (child a.0) 0) a.1.1 in
          by-children ∙ children-none All (node_at ns e) a.0 a.1.0 (subst (Says ns All ns (child a.0)) y (below a.0 a.1.0))

      -- all have one
      pub says-open : (length (child_numbers (node_at ns e)) ≡ 0 → ⊥) → (all : Bool) → all ≡ each projects (length (child_numbers (node_at ns e))) → all ≡ true → Says ns All ns e 1
      unfolding Says
      says-open k all t f =
          let a = children-some All (node_at ns e) k
          (λ j b. says_some ns All ns (child j) (get_or table (child j) 0) (below j b) (entry-not-0 (get_or table (child j) 0) (each_holds projects (length (child_numbers (node_at ns e))) j (sym t ∙ f) b))) in
          (a.0, (by-children ∙ a.1, a.1))

-- a table that holds below e, and the entry of e written into it
pub table_more : (P : ℕ → ℕ → Type 0) (table : List ℕ) (e entry : ℕ) → e < length table → ((j : ℕ) → j < e → P j (get_or table j 0)) → P e entry
    → (j : ℕ) → j < e + 1 → P j (get_or (set table e entry) j 0)
table_more P table e entry l h p j b = at (ℕ_discrete j e)
  where
    at : Dec (j ≡ e) → P j (get_or (set table e entry) j 0)
    at (yes q) = rw q (rw (get_or-set_same table e entry 0 l) p)
    at (no q) = rw (get_or-set_other table e j entry 0 q) (h j (omega arith))
