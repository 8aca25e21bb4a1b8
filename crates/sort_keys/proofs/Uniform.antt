-- Which expressions are uniform constants: the table of the flavours of the old nodes' classes says it for every node of an arena that has grown since.
use Rattle.std.specs.Prelude.{if◌then◌else◌, Option, None, Some}
use Prim.Native.Nat.{ℕ, ◌<◌, ◌≤◌}
use mathlib.Core.Bool.{Bool, true, false, ◌&&◌, ◌||◌}
use mathlib.Core.List.{List}
use mathlib.Core.Path.{◌≡◌, refl, sym, ap, ◌∙◌}
use native.Mathlib.Decide.{dec_lt}
use native.Mathlib.Omega.{arith}
use borrow.Author.Tests.{lt-ltb, le-ltb}
use lib.Dec.{ltb, leb}
use lib.ListN.{length, get_or}
use Rattle.laws.specs.Tests.{each}
use Rattle.arena.specs.Node.{Node, column, literal, operation, node_at, child_numbers}
use Rattle.arena.specs.Arena.{Sound, Extends}
use Rattle.arena.proofs.Nodes.{extends-node}
use Rattle.classes.specs.declared.Constant.{Constant}
use Rattle.classes.specs.declared.Constant.TheVariants.{NoConstant as no_constant, Heterogeneous as heterogeneous, Unknown as unknown, Known as known}
use Rattle.classes.specs.Class.{Class, is_uniform, carried, is_constant}
use Rattle.classes.specs.Group.{class_of}
use Rattle.classes.specs.Good.{Good}
use Rattle.questions.specs.Questions.{class_constant, or_else, constant_by, expr_constant}
use Rattle.classes.specs.Layout.{flavour_of, is_literal}
use Rattle.questions.specs.Inner.{Marked}
use Rattle.questions.proofs.Asking.{constant_by-is}
use Rattle.classes.proofs.Places.{class_of-some, class-flat}
use Rattle.sort_keys.specs.Keys.{Key, exprs_of, sorting}
use Rattle.sort_keys.specs.Inner.{uniform_by, kept_of}
use Rattle.sort_keys.proofs.KeyLaws.{without_cong, sorting-without}

-- a literal is uniform, else what comes after it
first-carried : (n : Node) (c : Constant) → is_uniform (or_else (carried n) c) ≡ (is_literal n || is_uniform c)
unfolding is_uniform or_else carried is_literal
first-carried (column name index) c = refl
first-carried (literal value) c = refl
first-carried (operation label children) c = refl

-- children give no uniform constant: the class's own flavour decides
first-own : (c : Constant) (t : Bool) → is_uniform (or_else c (if t then heterogeneous else no_constant)) ≡ leb 2 (flavour_of c)
unfolding is_uniform or_else flavour_of
first-own no_constant true = refl
first-own no_constant false = refl
first-own heterogeneous t = refl
first-own unknown t = refl
first-own (known v) t = refl

-- an expression in no class has no class's constant
no_class : (ns : List Node) (cs : List Class) → Good ns cs → (e : ℕ) → length ns ≤ e → flavour_of (class_constant cs e) ≡ 0
unfolding class_constant flavour_of
no_class ns cs g e l = go (class_of cs e) refl
  where
    go : (o : Option ℕ) → class_of cs e ≡ o → flavour_of (class_constant cs e) ≡ 0
    go None q = rw q
    go (Some i) q =
        let f = class_of-some cs e i q in
        absurd (let b = g.inside e (class-flat cs e i f.0 f.1) in omega arith)

-- an arena ms that grew from ns, the group's
module _ (ns ms : List Node) (cs : List Class) (old : ℕ) (marks : List ℕ) (g : Good ns cs) (n : old ≡ length ns) (m : Marked cs old marks) (s : Sound ms) where
  -- the table's flavour, of an old node
  marked : (e : ℕ) → (ltb e old && leb 2 (get_or marks e 0)) ≡ leb 2 (flavour_of (class_constant cs e))
  marked e = at (dec_lt e old)
    where
      at : Dec (e < old) → (ltb e old && leb 2 (get_or marks e 0)) ≡ leb 2 (flavour_of (class_constant cs e))
      at (yes l) = rw (lt-ltb e old l, m e l)
      at (no l) = rw (le-ltb e old (omega arith), no_class ns cs g e (omega arith))

  -- the table says what the constant question says
  pub uniform-is : (e : ℕ) → e < length ms → uniform_by ms old marks e ≡ is_uniform (expr_constant ms cs e)
  unfolding uniform_by
  uniform-is e l =
      let own = class_constant cs e in
      let all : Bool = ltb 0 (length (child_numbers (node_at ms e))) && each (λ k. is_constant (constant_by ms (class_constant cs) (get_or (child_numbers (node_at ms e)) k 0))) (length (child_numbers (node_at ms e))) in
      sym (ap is_uniform (constant_by-is ms s (class_constant cs) e l)
      ∙ first-carried (node_at ms e) (or_else own (if all then heterogeneous else no_constant))
      ∙ ap (λ (t : Bool). is_literal (node_at ms e) || t) (first-own own all ∙ sym (marked e)))

  -- the keys that are kept are those that order something
  pub kept-is : (ks : List Key) → ((k : ℕ) → k < length ks → get_or (exprs_of ks) k 0 < length ms) → kept_of ms old marks ks ≡ sorting ms cs ks
  kept-is ks b =
      without_cong (uniform_by ms old marks) (λ e. is_uniform (expr_constant ms cs e)) ks (λ k l. uniform-is (get_or (exprs_of ks) k 0) (b k l)) ∙ sym (sorting-without ms cs ks)

-- an old number stays a uniform constant, or none, when nodes are added
uniform-kept : {ns ms : List Node} → Extends ns ms → (old : ℕ) (marks : List ℕ) (e : ℕ) → e < length ns → uniform_by ms old marks e ≡ uniform_by ns old marks e
unfolding uniform_by
uniform-kept x old marks e l = rw (extends-node x e l)

-- so the same keys are kept
pub kept-kept : {ns ms : List Node} → Extends ns ms → (old : ℕ) (marks : List ℕ) (ks : List Key) → ((k : ℕ) → k < length ks → get_or (exprs_of ks) k 0 < length ns) → kept_of ms old marks ks ≡ kept_of ns old marks ks
kept-kept {ns} {ms} x old marks ks b = without_cong (uniform_by ms old marks) (uniform_by ns old marks) ks (λ k l. uniform-kept x old marks (get_or (exprs_of ks) k 0) (b k l))
