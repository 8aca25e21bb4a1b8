-- The walk that adds projections, over its table: what the table says stays true, a child, the rest of the children, and the operation over them.
use Rattle.arena.specs.Refusals.{Added}
use Prim.Native.Nat.{ℕ, zero, suc, ◌+◌, ◌-◌, ◌<◌, ◌≤◌}
use mathlib.Core.Bool.{Bool, true, false}
use mathlib.Core.List.{List, [], ◌∷◌}
use Rattle.std.specs.Prelude.{Option, None, Some, Err, Ok}
use mathlib.Core.Path.{◌≡◌, refl, sym, ap, ◌∙◌, subst}
use native.Mathlib.Decide.{ℕ_discrete, dec_lt}
use native.Mathlib.Numerals.{add-one, add-two}
use native.Mathlib.Omega.{arith}
use lib.ListN.{length, get_or, set, take, drop, length-set, length-drop, drop_of_length-le, get_or-eq_default}
use lib.Seq.{get_or-set_other, get_or-set_same, set_out, drop-cons, get_or-drop, get_or-take, take-take, take-set-le, drop-set-lt}
use Rattle.arena.specs.Node.{Node, operation, node_at}
use Rattle.arena.specs.Expression.{Expression, Expressions, op, ∅, ◌▹◌, expression_at}
use Rattle.arena.specs.Arena.{Allowed, Sound, Extends, Small, placed, full, and_then, add, add_expression, add_expressions}
use Rattle.arena.specs.Layout.{row, count, row_of, node_of, children_of, decode as nodes}
use Rattle.arena.specs.Calls.{in_cells}
use Rattle.arena.specs.Inner.{Holds, Placeable, told, operation_row}
use Rattle.arena.proofs.Nodes.{extends-none, extends-both, extends-longer, extends-node}
use Rattle.arena.proofs.Rows.{node_row}
use Rattle.arena.proofs.Trees.{expression-kept, expression-small}
use Rattle.arena.proofs.Growing.{AddedExpression, add-expression, add-expressions, add_expression-old}
use Rattle.arena.proofs.Layouts.{length-decode, coded-cells}
use Rattle.arena.proofs.Walking.{PlacedRow, children-row}
use Rattle.normal.proofs.Rewriting.{sound-before}
use Rattle.projection_table.specs.Projecting.{both_project, all_project}
use Rattle.arena.specs.declared.Refusal.{Refusal}
use Rattle.projection.specs.Calls.{Projected, placed_answer, projected_answer}
use Rattle.projection_table.specs.Inner.{Says, Tabled}
use Rattle.projection.specs.Inner.{Fits, Ready, Settling, Walked, ReadyFrom, told_from, WalkedFrom, settled_as, restored_as}
use Rattle.projection_table.proofs.TableLaws.{Projects, none-some, all_known_lem, all-child, all-pairwise, pairwise-small, over-children, says_some}
use Rattle.projection.proofs.RowLaws.{operation-row, row_label, row-child, children-set, label-set, row-set}

-- ---- what the table says

-- it stays true when nodes are added
pub says-kept : (os : List Node) (xs : List (Option Expression)) {ns ms : List Node} → Extends ns ms → (e k : ℕ) → Says os xs ns e k → Says os xs ms e k
unfolding Says
says-kept os xs x e zero h = h
says-kept os xs x e (suc zero) h = h
says-kept os xs x e (suc (suc i)) h = (omega (arith, extends-longer x, h.0), h.1 ∙ ap (λ (y : Expression). Some y) (sym (expression-kept x i h.0)))

-- the entry of an expression that is there
pub says-number : (os : List Node) (xs : List (Option Expression)) (ns : List Node) (e i : ℕ) → i < length ns → get_or xs e None ≡ Some (expression_at ns i) → Says os xs ns e (i + 2)
unfolding Says
says-number os xs ns e i l q = rw (add-two i) (l, q)

module _ (os : List Node) (xs : List (Option Expression)) (ns : List Node) (table : List ℕ) (f : Fits os xs ns table) where
  -- so does all that the table says
  pub fits_kept : (ms : List Node) → Extends ns ms → Fits os xs ms table
  fits_kept ms x = record { extends = extends-both f.extends x; says = λ e l. says-kept os xs x e (get_or table e 0) (f.says e l) }

  -- a node with another entry than 0 has a projection
  pub fits-some : (e : ℕ) → e < length os → (get_or table e 0 ≡ 0 → ⊥) → Projects xs e
  fits-some e l z = says_some os xs ns e (get_or table e 0) (f.says e l) z

  -- and the other way round
  pub fits_not-none : (e : ℕ) → e < length os → Projects xs e → get_or table e 0 ≡ 0 → ⊥
  unfolding Says
  fits_not-none e l p z = let q : get_or xs e None ≡ None = subst (Says os xs ns e) z (f.says e l) in none-some q p.known

  -- an entry with a number
  pub fits-number : (e i : ℕ) → e < length os → get_or table e 0 ≡ i + 2 → (i < length ns) × (get_or xs e None ≡ Some (expression_at ns i))
  unfolding Says
  fits-number e i l q = subst (Says os xs ns e) (q ∙ add-two i) (f.says e l)

  -- an answer is written into the table
  pub fits_more : (e i : ℕ) → i < length ns → get_or xs e None ≡ Some (expression_at ns i) → Fits os xs ns (set table e (i + 2))
  fits_more e i b q = record { extends = f.extends; says = says }
    where
      says : (j : ℕ) → j < length os → Says os xs ns j (get_or (set table e (i + 2)) j 0)
      says j l = at (ℕ_discrete j e) (dec_lt e (length table))
        where
          old : get_or (set table e (i + 2)) j 0 ≡ get_or table j 0 → Says os xs ns j (get_or (set table e (i + 2)) j 0)
          old v = subst (Says os xs ns j) (sym v) (f.says j l)

          at : Dec (j ≡ e) → Dec (e < length table) → Says os xs ns j (get_or (set table e (i + 2)) j 0)
          at (yes t) (yes m) = rw (t, get_or-set_same table e (i + 2) 0 m) (says-number os xs ns e i b q)
          at (yes t) (no m) = old (ap (λ (m : List ℕ). get_or m j 0) (set_out table e (i + 2) (omega arith)))
          at (no t) m = old (get_or-set_other table e j (i + 2) 0 t)

  module _ (s : Sound ns) where
    -- by what the table says of node e, where those of the nodes before it are small
    small_one : (e : ℕ) → e < length os → ((c : ℕ) → c < e → (y : Expression) → get_or xs c None ≡ Some y → Small y) → (x : Expression) → get_or xs e None ≡ Some x → (k : ℕ) → Says os xs ns e k → Small x
    unfolding Says Small Allowed
    small_one e l h x q zero p = absurd (none-some p q)
    small_one e l h x q (suc zero) p =
        let y : p.0 ≡ x = cc (q, p.1.0) in
        let o = over-children xs (node_at os e) p.0 p.1.1 in
        let a = subst (Allowed e) o.node ((sound-before f.extends s).allowed e l) in
        let r = pairwise-small o.children o.projected (all-pairwise (λ k z. Small z) xs o.children (λ j b. h (get_or o.children j 0) (a.1 j b)) o.projected o.known) in
        subst Small (sym o.is ∙ y) (omega (arith, a.0, r.0), r.1)
    small_one e l h x q (suc (suc i)) p =
        let y : expression_at ns i ≡ x = cc (q, p.1) in
        subst Small y (expression-small ns s i p.0)

    -- of the nodes below n
    small-below : (n e : ℕ) → e < n → e < length os → (x : Expression) → get_or xs e None ≡ Some x → Small x
    small-below zero e m l x q = absurd (omega arith)
    small-below (suc n) e m l x q = small_one e l (λ c b. small-below n c (omega arith) (omega arith)) x q (get_or table e 0) (f.says e l)

    -- an arena can hold the projections of the old nodes
    pub fits-small : (e : ℕ) → e < length os → (x : Expression) → get_or xs e None ≡ Some x → Small x
    fits-small e = small-below (suc e) e (omega arith)

-- one walk after the other
pub settling-both : (a b c : List ℕ) → Settling a b → Settling b c → Settling a c
settling-both a b c p q j h = q j (λ z. h (sym (p j h) ∙ z)) ∙ p j h

-- ---- the children of a node, from child k on

module _ (s table r : List ℕ) (e k : ℕ) (d : ReadyFrom s table r e k) where
  -- none is left
  pub children-done : length (children_of r) ≤ k → WalkedFrom s table r s table r e k true
  unfolding told_from all_project add_expressions
  children-done l =
      let z : drop k (children_of r) ≡ [] = drop_of_length-le (children_of r) l in
      record {
        holds = d.holds;
        extends = extends-none (nodes s);
        settling = λ j h. refl;
        row_is = d.row_is;
        sized = refl;
        front = refl;
        added = λ os xs f b. record { fits = f; expressions = ∅; known = rw z; is = rw z };
      }

  module _ (l : k < length (children_of r)) where
    -- child k
    abbrev child : ℕ
    child = get_or (children_of r) k 0

    -- it stands in the row
    in_row : get_or r (3 + k) 0 ≡ child
    in_row = row-child r k l

    -- is lower
    pub child-lower : get_or r (3 + k) 0 < e
    child-lower = omega (arith, in_row, d.children k (omega arith) l)

    -- and can be walked
    pub child-ready : Ready s table (get_or r (3 + k) 0)
    child-ready =
        record {
          olds = d.olds;
          all = d.all;
          holds = d.holds;
          fits = d.fits;
          below = omega (arith, child-lower, d.below);
          projects = λ z. d.project k (omega arith) l (ap (λ (c : ℕ). get_or table c 0) (sym in_row) ∙ z);
        }

    -- the rest begins with it
    begins : (ks : List ℕ) → length ks ≡ length (children_of r) → drop k ks ≡ get_or ks k 0 ∷ drop (k + 1) ks
    begins ks q = drop-cons ks k 0 (omega arith) ∙ rw add-one

    -- what is known of old nodes and projections that the table fits
    module _ (os : List Node) (xs : List (Option Expression)) (f : Fits os xs (nodes s) table) (b : e < length os) where
      -- so those after child k have
      known_from : (ys : Expressions) × (all_project xs (drop (k + 1) (children_of r)) ≡ Some ys)
      known_from =
          all_known_lem xs (drop (k + 1) (children_of r)) (λ j m.
          let g : get_or (drop (k + 1) (children_of r)) j 0 ≡ get_or (children_of r) (k + 1 + j) 0 = get_or-drop (k + 1) (children_of r) j 0 in
          let n : k + 1 + j < length (children_of r) = omega (arith, length-drop (k + 1) (children_of r)) in
          subst (Projects xs) (sym g) (fits-some os xs (nodes s) table f (get_or (children_of r) (k + 1 + j) 0) (omega (arith, d.children (k + 1 + j) (omega arith) n)) (d.project (k + 1 + j) (omega arith) n)))

      -- child k's, and those of the others
      known_more : (x : Expression) (ys : Expressions) → get_or xs (get_or r (3 + k) 0) None ≡ Some x → all_project xs (drop (k + 1) (children_of r)) ≡ Some ys → all_project xs (drop k (children_of r)) ≡ Some (x ▹ ys)
      unfolding all_project both_project
      known_more x ys p q =
          let p' : get_or xs child None ≡ Some x = rw in_row at p in
          rw (begins (children_of r) refl, p', q)

    module _ (t table₂ : List ℕ) (a : Added) (w : Walked s table t table₂ (get_or r (3 + k) 0) a) where
      -- there was no room for child k
      pub child-full : (j : Refusal) → a ≡ Err j → WalkedFrom s table r t table₂ r e k false
      unfolding told_from told add_expressions and_then
      child-full j q =
          record {
            holds = w.holds;
            extends = w.extends;
            settling = w.settling;
            row_is = d.row_is;
            sized = refl;
            front = refl;
            added = λ os xs f b.
                let g = w.added os xs f (omega (arith, child-lower)) in
                let m = known_from os xs f b in
                let z : add_expression g.expression (nodes s) ≡ full = sym g.is ∙ rw q in
                record {
                  fits = g.fits;
                  expressions = g.expression ▹ m.0;
                  known = known_more os xs f b g.expression m.0 g.known m.1;
                  is = rw z;
                };
          }

      module _ (i : ℕ) (q : a ≡ Ok i) where
        abbrev r₂ : List ℕ
        r₂ = set r (3 + k) i

        -- the row with the number of child k: its children
        children₂ : children_of r₂ ≡ set (children_of r) k i
        children₂ = children-set r i k d.row_is l

        -- as many as before
        long₂ : length (children_of r₂) ≡ length (children_of r)
        long₂ = ap length children₂ ∙ length-set (children_of r) k i

        -- those after child k are the same
        after : drop (k + 1) (children_of r₂) ≡ drop (k + 1) (children_of r)
        after = ap (drop (k + 1)) children₂ ∙ drop-set-lt (k + 1) (children_of r) k i (omega arith)

        -- each of them
        later : (j : ℕ) → k + 1 ≤ j → get_or (children_of r₂) j 0 ≡ get_or (children_of r) j 0
        later j m = ap (λ (c : List ℕ). get_or c j 0) children₂ ∙ get_or-set_other (children_of r) k j i 0 (λ z. omega arith)

        -- child k has a number: the others can be walked
        pub others-ready : ReadyFrom t table₂ r₂ e (k + 1)
        others-ready =
            let g = w.added d.olds d.all d.fits (omega (arith, child-lower, d.below)) in
            record {
              olds = d.olds;
              all = d.all;
              holds = w.holds;
              fits = g.fits;
              below = d.below;
              row_is = row-set r i k d.row_is l;
              few = omega (arith, long₂, d.few);
              within = omega (arith, long₂);
              children = λ j m n. omega (arith, later j m, long₂, d.children j (omega arith) (omega (arith, long₂)));
              project = λ j m n.
                  let n₂ : j < length (children_of r) = omega (arith, long₂) in
                  let c = d.children j (omega arith) n₂ in
                  let p = fits-some d.olds d.all (nodes s) table d.fits (get_or (children_of r) j 0) (omega (arith, c, d.below)) (d.project j (omega arith) n₂) in
                  rw (later j m) (fits_not-none d.olds d.all (nodes t) table₂ g.fits (get_or (children_of r) j 0) (omega (arith, c, d.below)) p);
            }

        -- and once they are
        module _ (u table₃ r' : List ℕ) (ok : Bool) (v : WalkedFrom t table₂ r₂ u table₃ r' e (k + 1) ok) where
          -- as many as before, once more
          long' : length (children_of r') ≡ length (children_of r)
          long' = v.sized ∙ long₂

          -- the number of child k stayed
          at-k : get_or (children_of r') k 0 ≡ i
          at-k =
              sym (get_or-take (k + 1) (children_of r') k 0 (omega arith))
              ∙ ap (λ (c : List ℕ). get_or c k 0) v.front
              ∙ get_or-take (k + 1) (children_of r₂) k 0 (omega arith)
              ∙ ap (λ (c : List ℕ). get_or c k 0) children₂
              ∙ get_or-set_same (children_of r) k i 0 l

          -- it stands before the others
          all_from : drop k (children_of r') ≡ i ∷ drop (k + 1) (children_of r')
          all_from = begins (children_of r') long' ∙ rw at-k

          -- as a placing: it, and then the others
          told_more : (o : Bool) (ns : List Node) → told_from o k r' ns ≡ and_then (told_from o (k + 1) r' ns) (λ ks ms. placed (i ∷ ks) ms)
          unfolding told_from and_then
          told_more true ns = rw all_from
          told_more false ns = refl

          -- so all from child k on are walked
          pub others-walked : WalkedFrom s table r u table₃ r' e k ok
          unfolding told add_expressions and_then
          others-walked =
              record {
                holds = v.holds;
                extends = extends-both w.extends v.extends;
                settling = settling-both table table₂ table₃ w.settling v.settling;
                row_is = v.row_is ∙ ap (λ (n : ℕ). row (operation n (children_of r'))) (label-set r i k d.row_is l);
                sized = long';
                front =
                    sym (take-take k (k + 1) (children_of r') (omega arith))
                    ∙ ap (take k) v.front
                    ∙ take-take k (k + 1) (children_of r₂) (omega arith)
                    ∙ ap (take k) children₂
                    ∙ take-set-le k (children_of r) k i (omega arith);
                added = λ os xs f b.
                    let g = w.added os xs f (omega (arith, child-lower)) in
                    let h = v.added os xs g.fits b in
                    let z : add_expression g.expression (nodes s) ≡ placed i (nodes t) = sym g.is ∙ rw q in
                    record {
                      fits = h.fits;
                      expressions = g.expression ▹ h.expressions;
                      known = known_more os xs f b g.expression h.expressions g.known (rw after at h.known);
                      is = told_more ok (nodes u) ∙ rw (h.is, z);
                    };
              }

-- ---- a node

-- a node that is open, for old nodes and projections that the table fits
pub record Opened (xs : List (Option Expression)) (r : List ℕ) (e : ℕ) : Type 0 where
  pub expression : Expression
  pub known : get_or xs e None ≡ Some expression
  pub projected : Expressions
  pub children-known : all_project xs (children_of r) ≡ Some projected
  pub is : expression ≡ op (get_or r 1 0) projected
  pub row_is : r ≡ operation_row r (children_of r)
  pub few : length (children_of r) ≤ 8
  pub lower : (j : ℕ) → j < length (children_of r) → get_or (children_of r) j 0 < e

-- it is an operation, and its row has the children
pub opened : (os : List Node) (xs : List (Option Expression)) (s table : List ℕ) (e : ℕ) → Holds s → Fits os xs (nodes s) table → e < length os → get_or table e 0 ≡ 1
    → (r : List ℕ) → r ≡ row_of s e → Opened xs r e
unfolding Says Allowed
opened os xs s table e h f l o r q =
    let p : Says os xs (nodes s) e 1 = subst (Says os xs (nodes s) e) o (f.says e l) in
    let c = over-children xs (node_at os e) p.0 p.1.1 in
    let n : node_at (nodes s) e ≡ operation c.label c.children = extends-node f.extends e l ∙ c.node in
    let b : e < count s = omega (arith, extends-longer f.extends, length-decode s) in
    let w : r ≡ row (operation c.label c.children) = q ∙ operation-row s e c.label c.children h b n in
    let k : children_of r ≡ c.children = ap children_of w ∙ children-row c.label c.children in
    let m : get_or r 1 0 ≡ c.label = ap (λ (i : List ℕ). get_or i 1 0) w ∙ row_label c.label c.children in
    let a = subst (Allowed e) n (h.sound.allowed e (omega (arith, length-decode s))) in
    record {
      expression = p.0;
      known = p.1.0;
      projected = c.projected;
      children-known = rw k c.known;
      is = rw m c.is;
      row_is = w ∙ rw (k, m);
      few = rw k a.0;
      lower = rw k a.1;
    }

module _ (s table : List ℕ) (e : ℕ) (d : Ready s table e) where
  -- it is in the arena
  pub ready-below : e < count s
  ready-below = omega (arith, d.below, extends-longer d.fits.extends, length-decode s)

  -- the table has its answer
  pub entry-answers : (get_or table e 0 ≡ 1 → ⊥) → Walked s table s table e (Ok (get_or table e 0 - 2))
  unfolding told
  entry-answers o =
      let z : get_or table e 0 ≡ get_or table e 0 - 2 + 2 = omega (arith, d.projects) in
      record {
        holds = d.holds;
        extends = extends-none (nodes s);
        settling = λ j h. refl;
        settled = λ i q. let v : get_or table e 0 - 2 ≡ i = cc in omega (arith, v, z);
        added = λ os xs f b.
            let n = fits-number os xs (nodes s) table f e (get_or table e 0 - 2) b z in
            record {
              fits = f;
              expression = expression_at (nodes s) (get_or table e 0 - 2);
              known = n.1;
              is = sym (add_expression-old (expression_at (nodes s) (get_or table e 0 - 2)) (nodes s) d.holds.sound (get_or table e 0 - 2) n.0 refl);
            };
      }

  -- it is open
  module _ (o : get_or table e 0 ≡ 1) (r : List ℕ) (q : r ≡ row_of s e) where
    -- for the old nodes and projections that are asked for
    mine : Opened d.all r e
    mine = opened d.olds d.all s table e d.holds d.fits d.below o r q

    -- its children can be walked
    pub children-ready : ReadyFrom s table r e 0
    children-ready =
        record {
          olds = d.olds;
          all = d.all;
          holds = d.holds;
          fits = d.fits;
          below = d.below;
          row_is = mine.row_is;
          few = mine.few;
          within = omega arith;
          children = λ j m n. mine.lower j n;
          project = λ j m n. fits_not-none d.olds d.all (nodes s) table d.fits (get_or (children_of r) j 0) (omega (arith, mine.lower j n, d.below)) (all-child d.all (children_of r) mine.projected mine.children-known j n);
        }

    module _ (t table₂ r' : List ℕ) where
      -- no room for the children: no room for the expression
      pub children-full : WalkedFrom s table r t table₂ r' e 0 false → (k : Refusal) → Walked s table t table₂ e (Err k)
      unfolding told told_from add_expression and_then
      children-full w k =
          record {
            holds = w.holds;
            extends = w.extends;
            settling = w.settling;
            settled = λ i z. absurd (let y : ◌≡◌ {A = ℕ} 0 1 = cc in omega arith);
            added = λ os xs f b.
                let g = w.added os xs f b in
                let p = opened os xs s table e d.holds f b o r q in
                let y : g.expressions ≡ p.projected = cc (g.known, p.children-known) in
                record {
                  fits = g.fits;
                  expression = p.expression;
                  known = p.known;
                  is = sym (ap (λ (x : Expression). add_expression x (nodes s)) p.is ∙ rw (← y, ← g.is));
                };
          }

      module _ (w : WalkedFrom s table r t table₂ r' e 0 true) where
        -- the children were added
        pub placed-children : (os : List Node) (xs : List (Option Expression)) → Fits os xs (nodes s) table → e < length os → (p : Opened xs r e) → placed (children_of r') (nodes t) ≡ add_expressions p.projected (nodes s)
        unfolding told_from
        placed-children os xs f b p =
            let g = w.added os xs f b in
            let y : g.expressions ≡ p.projected = cc (g.known, p.children-known) in
            g.is ∙ ap (λ (ys : Expressions). add_expressions ys (nodes s)) y

        -- an arena can hold the projection
        mine-small : Small (op (get_or r 1 0) mine.projected)
        mine-small = subst Small mine.is (fits-small d.olds d.all (nodes s) table d.fits d.holds.sound e d.below mine.expression mine.known)

        -- the operation over the projections may be the next node
        allowed : Allowed (count t) (operation (get_or r 1 0) (children_of r'))
        unfolding Allowed Small
        allowed =
            let a = add-expressions mine.projected (nodes s) d.holds.sound mine-small.1 (children_of r') (nodes t) (sym (placed-children d.olds d.all d.fits d.below mine)) in
            (omega (arith, w.sized, mine.few), λ k l. rw (length-decode t) at (a.below k l))

        -- it is what the row says
        node : node_of r' ≡ operation (get_or r 1 0) (children_of r')
        node = ap node_of w.row_is ∙ node_row (count t) (operation (get_or r 1 0) (children_of r')) allowed

        -- the operation over the projections can be placed
        pub operation-placeable : Placeable t r'
        operation-placeable = record { holds = w.holds; coded = ap row node ∙ sym w.row_is; allowed = subst (Allowed (count t)) (sym node) allowed }

        module _ (u : List ℕ) (a : Added) (p : PlacedRow r' t u a) where
          -- what was added for old nodes and projections that the table fitted
          grown : (os : List Node) (xs : List (Option Expression)) → Fits os xs (nodes s) table → e < length os → (m : Opened xs r e) → told a (nodes u) ≡ add_expression m.expression (nodes s)
          unfolding add_expression and_then
          grown os xs f b m =
              p.is ∙ ap (λ (n : Node). add n (nodes t)) node
              ∙ sym (ap (λ (x : Expression). add_expression x (nodes s)) m.is ∙ rw (← placed-children os xs f b m))

          -- its number
          numbered : (os : List Node) (xs : List (Option Expression)) (f : Fits os xs (nodes s) table) (b : e < length os) (m : Opened xs r e) (i : ℕ) → a ≡ Ok i → AddedExpression m.expression (nodes s) i (nodes u)
          unfolding told
          numbered os xs f b m i z =
              add-expression m.expression (nodes s) d.holds.sound (fits-small os xs (nodes s) table f d.holds.sound e b m.expression m.known) i (nodes u) (sym (grown os xs f b m) ∙ rw z)

          -- is small
          pub answer-small : (i : ℕ) → a ≡ Ok i → i < 1024
          answer-small i z = omega (arith, (numbered d.olds d.all d.fits d.below mine i z).below, length-decode u, p.holds.few)

          -- the table has a place for it
          in_table : e < length table₂
          in_table = go (dec_lt e (length table₂))
            where
              go : Dec (e < length table₂) → e < length table₂
              go (yes l) = l
              go (no l) =
                  let g = w.added d.olds d.all d.fits d.below in
                  absurd (fits_not-none d.olds d.all (nodes t) table₂ g.fits e d.below (record { expression = mine.expression; known = mine.known }) (get_or-eq_default table₂ 0 (omega arith)))

          -- the table with the answer fits what it did before
          fits_after : (os : List Node) (xs : List (Option Expression)) (f : Fits os xs (nodes s) table) (b : e < length os) (m : Opened xs r e) (c : Added) → a ≡ c → Fits os xs (nodes u) (settled_as table₂ e c)
          unfolding settled_as
          fits_after os xs f b m (Ok i) z =
              let n = numbered os xs f b m i z in
              fits_more os xs (nodes u) table₂ (fits_kept os xs (nodes t) table₂ (w.added os xs f b).fits (nodes u) p.extends) e i n.below (m.known ∙ ap (λ (x : Expression). Some x) (sym n.is))
          fits_after os xs f b m (Err k) z = fits_kept os xs (nodes t) table₂ (w.added os xs f b).fits (nodes u) p.extends

          -- only entries that were open changed
          settling-after : (c : Added) → Settling table (settled_as table₂ e c)
          unfolding settled_as
          settling-after (Ok i) j h = get_or-set_other table₂ e j (i + 2) 0 (λ z. h (ap (λ (n : ℕ). get_or table n 0) z ∙ o)) ∙ w.settling j h
          settling-after (Err k) j h = w.settling j h

          -- the entry is the answer's
          settled-after : (i : ℕ) → a ≡ Ok i → get_or (settled_as table₂ e a) e 0 ≡ i + 2
          unfolding settled_as
          settled-after i z = rw z (get_or-set_same table₂ e (i + 2) 0 in_table)

          -- the projection was added, and the table has the answer
          pub operation-walked : Walked s table u (settled_as table₂ e a) e a
          operation-walked =
              record {
                holds = p.holds;
                extends = extends-both w.extends p.extends;
                settling = settling-after a;
                settled = settled-after;
                added = λ os xs f b.
                    let m = opened os xs s table e d.holds f b o r q in
                    record { fits = fits_after os xs f b m a refl; expression = m.expression; known = m.known; is = grown os xs f b m };
              }

-- ---- the whole call

-- all nodes of the arena are old ones
module _ (s table : List ℕ) (e : ℕ) (xs : List (Option Expression)) (holds : Holds s) (below : e < count s) (says : Tabled (nodes s) xs (nodes s) table) where
  -- the table fits them
  pub whole-fits : Fits (nodes s) xs (nodes s) table
  whole-fits = record { extends = extends-none (nodes s); says = says }

  -- node e is one of them
  within : e < length (nodes s)
  within = omega (arith, length-decode s)

  -- the walk can begin where there is a projection
  pub whole_ready : (get_or table e 0 ≡ 0 → ⊥) → Ready s table e
  whole_ready z = record { olds = nodes s; all = xs; holds = holds; fits = whole-fits; below = within; projects = z }

  -- there is none
  pub whole-none : get_or table e 0 ≡ 0 → ◌≡◌ {A = Projected × List ℕ} (Ok None, s) (in_cells (projected_answer (nodes s) (get_or xs e None)))
  unfolding Says projected_answer in_cells
  whole-none z =
      let q : get_or xs e None ≡ None = subst (Says (nodes s) xs (nodes s) e) z (says e within) in
      rw (q, coded-cells s holds)

  -- it was added, or there was no room
  pub whole-walked : (t table₂ : List ℕ) (a : Added) → Walked s table t table₂ e a → restored_as s t a ≡ in_cells (projected_answer (nodes s) (get_or xs e None))
  unfolding restored_as projected_answer placed_answer in_cells told
  whole-walked t table₂ (Ok i) w =
      let g = w.added (nodes s) xs whole-fits within in
      rw (g.known, ← g.is, coded-cells t w.holds)
  whole-walked t table₂ (Err k) w =
      let g = w.added (nodes s) xs whole-fits within in
      rw (g.known, ← g.is, coded-cells s holds)
