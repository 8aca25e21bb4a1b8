-- The whole walk as the normal form by a group, and the public call by its tests.
use Rattle.arena.specs.declared.Refusal.TheVariants.{UnknownExpression}
use Rattle.arena.specs.declared.Refusal.{Refusal}
use Rattle.arena.specs.Refusals.{refusal, outcome, Added}
use Rattle.arena.proofs.Refusals.{err-refusal}
use Prim.Native.Nat.{ℕ, ◌<◌, ◌≤◌}
use mathlib.Core.List.{List}
use Rattle.std.specs.Prelude.{Option, None, Some, Result, Err, Ok}
use mathlib.Core.Path.{◌≡◌, refl, sym, ap, ap₂, ◌∙◌}
use native.Mathlib.Omega.{arith}
use borrow.Author.Tests.{eq-eqb, ne_eqb, lt-ltb, le-ltb}
use lib.ListN.{length, get_or, replicate}
use lib.Seq.{take_all}
use Rattle.arena.specs.Node.{Node}
use Rattle.arena.specs.Expression.{Expression, Expressions, col, lit, op, ∅, ◌▹◌, expression_at}
use Rattle.arena.specs.Arena.{Sound, add_expression}
use Rattle.arena.specs.Layout.{count, decode as nodes}
use Rattle.arena.specs.Calls.{answered, in_cells}
use Rattle.arena.specs.Inner.{Holds, told, is_refused, map_all, Walked}
use Rattle.arena.proofs.Layouts.{length-decode, coded-cells}
use Rattle.arena.proofs.Walking.{memo-none}
use Rattle.classes.specs.Class.{Class}
use Rattle.classes.specs.Layout.{decode}
use Rattle.classes.specs.Inner.{Held}
use Rattle.classes.specs.Calls.{group_number}
use Rattle.classes.specs.declared.Group.{Group}
use Rattle.normal.specs.Normal.{number_of, first_of, replaced_by, replaced, normal_by, normals_by, normal, normals}
use Rattle.normal.specs.Inner.{Firsts, olds, rewriting, Ready, settled_by}
use Rattle.normal.specs.Calls.{on_checked, normalize_expr, normalized}
use Rattle.normal.proofs.Numbers.{number-some}
use Rattle.normal.proofs.FirstMembers.{first-inside}
use Rattle.normal.proofs.Rewriting.{normals-all}

-- the normal form depends only on what replaces the arena's numbers
module _ (ns : List Node) (s : Sound ns) (to other : ℕ → ℕ) (same : (k : ℕ) → k < length ns → to k ≡ other k) where
  replaced_cong : (x : Expression) → replaced ns to x ≡ replaced ns other x
  unfolding replaced replaced_by
  replaced_cong x = go (number_of ns x) refl
    where
      go : (o : Option ℕ) → number_of ns x ≡ o → replaced_by ns to x o ≡ replaced_by ns other x o
      go None e = refl
      go (Some k) e = ap (expression_at ns) (same k (number-some ns s x k e).below)

  mutual
    unfolding normal_by normals_by

    pub normal_cong : (x : Expression) → normal_by ns to x ≡ normal_by ns other x
    normal_cong (col name index) = replaced_cong (col name index)
    normal_cong (lit v) = replaced_cong (lit v)
    normal_cong (op label xs) = replaced_cong (op label (normals_by ns to xs)) ∙ ap (λ (ys : Expressions). replaced ns other (op label ys)) (normals_cong xs)

    pub normals_cong : (xs : Expressions) → normals_by ns to xs ≡ normals_by ns other xs
    normals_cong ∅ = refl
    normals_cong (x ▹ xs) = ap₂ {C = Expressions} (λ a b. a ▹ b) (normal_cong x) (normals_cong xs)

-- a walk over all nodes of the arena, by the table of a checked group
module _ (s : List ℕ) (g : Group) (old : ℕ) (firsts : List ℕ) (holds : Holds s) (held : Held (nodes s) g) (all : old ≡ count s) (table : Firsts (decode g) old firsts) where
  whole : olds old s ≡ nodes s
  whole = take_all old (nodes s) (omega (arith, length-decode s))

  agrees : (k : ℕ) → k < length (nodes s) → get_or firsts k 0 ≡ first_of (decode g) k
  agrees k l = table k (omega (arith, length-decode s))

  -- the table stays inside
  pub table-inside : (k : ℕ) → k < old → get_or firsts k 0 < old
  table-inside k l = omega (arith, length-decode s, table k l, first-inside (nodes s) (decode g) held.good k (omega (arith, length-decode s)))

  -- the rewriting is the normal form
  pub rewriting-normal : (x : Expression) → rewriting old firsts s x ≡ normal (nodes s) (decode g) x
  rewriting-normal x =
      ap (λ (ns : List Node). normal_by ns (λ e. get_or firsts e 0) x) whole
      ∙ normal_cong (nodes s) holds.sound (λ e. get_or firsts e 0) (first_of (decode g)) agrees x

  -- also of expressions in a row
  pub rewriting-normals : (xs : Expressions) → map_all (rewriting old firsts s) xs ≡ normals (nodes s) (decode g) xs
  rewriting-normals xs =
      sym (normals-all (olds old s) (λ e. get_or firsts e 0) xs)
      ∙ ap (λ (ns : List Node). normals_by ns (λ e. get_or firsts e 0) xs) whole
      ∙ normals_cong (nodes s) holds.sound (λ e. get_or firsts e 0) (first_of (decode g)) agrees xs

  module _ (e : ℕ) (below : e < count s) where
    -- it can begin, with an empty memo
    pub whole_ready : (n : ℕ) → Ready old firsts s (replicate {A = ℕ} n 0) e
    whole_ready n =
        record {
          holds = holds;
          there = omega arith;
          inside = table-inside;
          below = omega arith;
          memo_true = memo-none (rewriting old firsts s) (nodes s) n;
        }

    module _ (t memo : List ℕ) where
      -- it has answered, or there was no room
      pub whole-settled : (a : Added) → Walked (rewriting old firsts s) s t memo e a
          → settled_by s t a ≡ in_cells (answered (nodes s) (add_expression (normal (nodes s) (decode g) (expression_at (nodes s) e)) (nodes s)))
      unfolding settled_by in_cells answered told is_refused
      whole-settled (Ok i) w = rw (← rewriting-normal (expression_at (nodes s) e), ← w.grew.is, coded-cells t w.grew.holds)
      whole-settled (Err k) w = rw (← rewriting-normal (expression_at (nodes s) e), ← w.grew.is, coded-cells s holds)

-- a call after the check's number
module _ {A : Type 0} (number : ℕ) (refused_by : ℕ → A) (call : List Node → List Class → A × List Node) (cells : List ℕ) (g : Group) where
  pub checked-done : number ≡ 0 → on_checked number refused_by call cells g ≡ in_cells (call (nodes cells) (decode g))
  unfolding on_checked
  checked-done e = rw (eq-eqb number 0 e)

  pub checked_refused : (number ≡ 0 → ⊥) → ◌≡◌ {A = A × List ℕ} (refused_by number, cells) (on_checked number refused_by call cells g)
  unfolding on_checked
  checked_refused z = rw (ne_eqb number 0 z)

-- a call whose check refuses
pub handed-back : {A : Type 0} (number : ℕ) (call : List Node → List Class → Result A Refusal × List Node) (cells : List ℕ) (g : Group) (r : Result A Refusal) (k : Refusal) → outcome number ≡ Err k → r ≡ Err k
    → ◌≡◌ {A = Result A Refusal × List ℕ} (r, cells) (on_checked number (λ k. Err (refusal k)) call cells g)
unfolding on_checked
handed-back number call cells g r k e q = let p = err-refusal _ k e in rw (q, p.0, p.1)

-- the normal form of an expression, by its test
module _ (e : ℕ) (cells : List ℕ) (g : Group) (z : group_number cells g ≡ 0) where
  pub expr-unknown : Holds cells → count cells ≤ e → ◌≡◌ {A = Added × List ℕ} (Err UnknownExpression, cells) (normalized e cells g)
  unfolding normalize_expr in_cells
  expr-unknown h l =
      let m : length (nodes cells) ≤ e = omega (arith, length-decode cells) in
      sym (checked-done (group_number cells g) (λ k. Err (refusal k)) (normalize_expr e) cells g z ∙ rw (le-ltb e (length (nodes cells)) m, coded-cells cells h))

  pub expr-known : e < count cells → (o : Added × List ℕ) → o ≡ in_cells (answered (nodes cells) (add_expression (normal (nodes cells) (decode g) (expression_at (nodes cells) e)) (nodes cells))) → o ≡ normalized e cells g
  unfolding normalize_expr
  expr-known l o q =
      let m : e < length (nodes cells) = omega (arith, length-decode cells) in
      q ∙ sym (checked-done (group_number cells g) (λ k. Err (refusal k)) (normalize_expr e) cells g z ∙ rw (lt-ltb e (length (nodes cells)) m))
