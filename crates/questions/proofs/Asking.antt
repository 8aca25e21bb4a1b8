-- What each question answers for a number of a sound arena, said with the answers for its children. Classes that put together all that others do answer yes wherever those do.
use Rattle.std.specs.Prelude.{if◌then◌else◌}
use Prim.Native.Nat.{ℕ, zero, suc, ◌<◌}
use mathlib.Core.Bool.{Bool, true, false, ◌&&◌, ◌||◌}
use mathlib.Core.List.{List}
use mathlib.Core.Path.{◌≡◌, refl, sym, ap, ◌∙◌, fun_ext}
use native.Mathlib.Omega.{arith}
use borrow.Author.Tests.{eqb-true}
use lib.Dec.{eqb, ltb}
use lib.ListN.{length, get_or}
use Rattle.laws.specs.Tests.{each}
use Rattle.laws.proofs.Booleans.{and_left, and_right, and_both, same_test}
use Rattle.laws.proofs.Each.{each_all, each_holds, each_cong}
use Rattle.arena.specs.Node.{Node, column, literal, operation, node_at, child_numbers, made}
use Rattle.arena.specs.Arena.{Allowed, Sound}
use Rattle.arena.proofs.Made.{made-is}
use Rattle.classes.specs.declared.Constant.{Constant}
use Rattle.classes.specs.declared.Constant.TheVariants.{NoConstant as no_constant, Heterogeneous as heterogeneous}
use Rattle.classes.specs.Class.{Class, carried, is_constant}
use Rattle.classes.specs.Group.{same_class}
use Rattle.questions.specs.Questions.{children_equal, equals, equal_by, exprs_equal, children_constant, or_else, constant_of_node, constant_by}

-- the children of a node that may have the number i are lower than i
pub child-lower : (i : ℕ) (n : Node) → Allowed i n → (k : ℕ) → k < length (child_numbers n) → get_or (child_numbers n) k 0 < i
unfolding Allowed child_numbers
child-lower i (column name index) a k l = absurd (omega arith)
child-lower i (literal value) a k l = absurd (omega arith)
child-lower i (operation label ks) a k l = a.1 k l

-- the rule of the equality question looks at lower answers alone
equals_local : (ns : List Node) (same : ℕ → ℕ → Bool) (xs ys : List (ℕ → Bool)) (i : ℕ) (n : Node) → Allowed i n
    → ((k : ℕ) → k < i → get_or xs k (λ b. false) ≡ get_or ys k (λ b. false)) → equals ns same xs i n ≡ equals ns same ys i n
unfolding equals children_equal
equals_local ns same xs ys i n a h = fun_ext (λ b. rw (agree b))
  where
    js : List ℕ
    js = child_numbers n

    agree : (b : ℕ) → each (λ k. get_or xs (get_or js k 0) (λ b. false) (get_or (child_numbers (node_at ns b)) k 0)) (length js)
        ≡ each (λ k. get_or ys (get_or js k 0) (λ b. false) (get_or (child_numbers (node_at ns b)) k 0)) (length js)
    agree b = each_cong _ _ (length js) (λ k l. ap (λ (f : ℕ → Bool). f (get_or (child_numbers (node_at ns b)) k 0)) (h (get_or js k 0) (child-lower i n a k l)))

-- the rule of the constant question too
constant_local : (own : ℕ → Constant) (xs ys : List Constant) (i : ℕ) (n : Node) → Allowed i n
    → ((k : ℕ) → k < i → get_or xs k no_constant ≡ get_or ys k no_constant) → constant_of_node own xs i n ≡ constant_of_node own ys i n
unfolding constant_of_node children_constant
constant_local own xs ys i n a h = rw agree
  where
    js : List ℕ
    js = child_numbers n

    agree : each (λ k. is_constant (get_or xs (get_or js k 0) no_constant)) (length js) ≡ each (λ k. is_constant (get_or ys (get_or js k 0) no_constant)) (length js)
    agree = each_cong _ _ (length js) (λ k l. ap is_constant (h (get_or js k 0) (child-lower i n a k l)))

module _ (ns : List Node) (s : Sound ns) where
  -- the equality question's answer is its rule's
  asks-is : (same : ℕ → ℕ → Bool) (a b : ℕ) → a < length ns → equal_by ns same a b ≡ equals ns same (made (λ answers i n. equals ns same answers i n) ns) a (node_at ns a) b
  unfolding equal_by
  asks-is same a b l = ap (λ (f : ℕ → Bool). f b) (made-is (λ answers i n. equals ns same answers i n) (λ b. false) ns s (equals_local ns same) a l)

  -- the same number, or one class, or both have children, equally many, and each two are equal
  pub equal_by-is : (same : ℕ → ℕ → Bool) (a b : ℕ) → a < length ns
      → equal_by ns same a b
      ≡ (eqb a b || same a b
      || (ltb 0 (length (child_numbers (node_at ns a))) && eqb (length (child_numbers (node_at ns a))) (length (child_numbers (node_at ns b)))
      && each (λ k. equal_by ns same (get_or (child_numbers (node_at ns a)) k 0) (get_or (child_numbers (node_at ns b)) k 0)) (length (child_numbers (node_at ns a)))))
  unfolding equal_by equals children_equal
  equal_by-is same a b l = asks-is same a b l

  -- a literal's own value; else its class's constant; else heterogeneous where it has children and each is constant; else none
  pub constant_by-is : (own : ℕ → Constant) (e : ℕ) → e < length ns
      → constant_by ns own e
      ≡ or_else (carried (node_at ns e)) (or_else (own e)
      (if ltb 0 (length (child_numbers (node_at ns e))) && each (λ k. is_constant (constant_by ns own (get_or (child_numbers (node_at ns e)) k 0))) (length (child_numbers (node_at ns e)))
      then heterogeneous else no_constant))
  unfolding constant_by constant_of_node children_constant
  constant_by-is own e l = made-is (λ answers i n. constant_of_node own answers i n) no_constant ns s (constant_local own) e l

  -- each child of a node of the arena is lower than it
  pub child-under : (a k : ℕ) → a < length ns → k < length (child_numbers (node_at ns a)) → get_or (child_numbers (node_at ns a)) k 0 < a
  child-under a k l v = child-lower a (node_at ns a) (s.allowed a l) k v

-- an `||` of three with each part weakened
or-wider : (p q q' r r' : Bool) → (q ≡ true → q' ≡ true) → (r ≡ true → r' ≡ true) → (p || q || r) ≡ true → (p || q' || r') ≡ true
or-wider true q q' r r' f g h = refl
or-wider false true q' r r' f g h = rw (f refl)
or-wider false false true r r' f g h = refl
or-wider false false false r r' f g h = g h

-- a relation that holds wherever another does answers yes wherever that one does: on the numbers b of a set P that has with each node its children
module _ (ns : List Node) (s : Sound ns) (same other : ℕ → ℕ → Bool) (P : ℕ → Type 0)
    (down : (b k : ℕ) → P b → k < length (child_numbers (node_at ns b)) → P (get_or (child_numbers (node_at ns b)) k 0))
    (wider : (x y : ℕ) → x < length ns → P y → same x y ≡ true → other x y ≡ true) where
  wider-below : (m a b : ℕ) → a < m → a < length ns → P b → equal_by ns same a b ≡ true → equal_by ns other a b ≡ true
  wider-below zero a b u l v h = absurd (omega arith)
  wider-below (suc m) a b u l v h =
      equal_by-is ns s other a b l
      ∙ or-wider (eqb a b) (same a b) (other a b) (both (asked same)) (both (asked other)) (wider a b l v) (children (λ j k p. wider-below m j k (omega arith) (omega arith))) (sym (equal_by-is ns s same a b l) ∙ h)
    where
      js : List ℕ
      js = child_numbers (node_at ns a)

      ks : List ℕ
      ks = child_numbers (node_at ns b)

      asked : (ℕ → ℕ → Bool) → ℕ → Bool
      asked r k = equal_by ns r (get_or js k 0) (get_or ks k 0)

      both : (ℕ → Bool) → Bool
      both p = ltb 0 (length js) && eqb (length js) (length ks) && each p (length js)

      children : ((j k : ℕ) → j < a → P k → equal_by ns same j k ≡ true → equal_by ns other j k ≡ true) → both (asked same) ≡ true → both (asked other) ≡ true
      children lower t =
          let n = length js in
          let f : (ltb 0 n && eqb n (length ks)) ≡ true = and_left (ltb 0 n && eqb n (length ks)) (each (asked same) n) t in
          let e : each (asked same) n ≡ true = and_right (ltb 0 n && eqb n (length ks)) (each (asked same) n) t in
          let q : n ≡ length ks = eqb-true n (length ks) (and_right (ltb 0 n) (eqb n (length ks)) f) in
          and_both f
          (each_all (asked other) n (λ k w. lower (get_or js k 0) (get_or ks k 0) (child-under ns s a k l w) (down b k v (omega (arith, q))) (each_holds (asked same) n k e w)))

  yes_by : (a b : ℕ) → a < length ns → P b → equal_by ns same a b ≡ true → equal_by ns other a b ≡ true
  yes_by a b l v h = wider-below (length ns) a b l l v h

-- relations that agree on the numbers of the arena give the same answers
pub equal_by_cong : (ns : List Node) → Sound ns → (same other : ℕ → ℕ → Bool) → ((x y : ℕ) → x < length ns → y < length ns → same x y ≡ other x y)
    → (a b : ℕ) → a < length ns → b < length ns → equal_by ns same a b ≡ equal_by ns other a b
equal_by_cong ns s same other e a b l v =
    same_test (equal_by ns same a b) (equal_by ns other a b)
    (yes_by ns s same other (λ y. y < length ns) down (λ x y p q h. sym (e x y p q) ∙ h) a b l v)
    (yes_by ns s other same (λ y. y < length ns) down (λ x y p q h. e x y p q ∙ h) a b l v)
  where
    down : (b k : ℕ) → b < length ns → k < length (child_numbers (node_at ns b)) → get_or (child_numbers (node_at ns b)) k 0 < length ns
    down b k l w = omega (arith, child-under ns s b k l w)

-- classes that put together all that others do answer yes wherever those do
pub yes_wider : (ns : List Node) → Sound ns → (cs ds : List Class) → ((x y : ℕ) → same_class cs x y ≡ true → same_class ds x y ≡ true)
    → (a b : ℕ) → a < length ns → exprs_equal ns cs a b ≡ true → exprs_equal ns ds a b ≡ true
yes_wider ns s cs ds wider a b l h = yes_by ns s (same_class cs) (same_class ds) (λ y. Unit {0}) (λ b k u w. tt) (λ x y p q. wider x y) a b l tt h
