-- Adding an expression adds exactly those of its parts that were missing, children before parents, left to right; and there is no room exactly where they would be too many.
use Rattle.std.specs.Prelude.{if◌then◌else◌, Option, None, Some}
use Prim.Native.Nat.{ℕ, zero, suc, ◌+◌, ◌<◌, ◌≤◌}
use mathlib.Core.Bool.{Bool, true, false, ◌||◌}
use mathlib.Core.List.{List, [], ◌∷◌, ◌++◌}
use mathlib.Core.Logic.{◌↔◌}
use mathlib.Core.Path.{◌≡◌, refl, sym, ap, ap₂, ◌∙◌, subst}
use native.Mathlib.Omega.{arith}
use borrow.Author.Tests.{eqb-true, eq-eqb, ltb-false}
use lib.Dec.{eqb, ltb}
use lib.ListN.{length, get_or, length-append}
use Rattle.laws.proofs.Booleans.{true_not_false, and_left, and_right, and_both}
use Rattle.arena.specs.Node.{Node, column, literal, operation, made_after}
use Rattle.arena.specs.Expression.{Expression, Expressions, col, lit, op, ∅, ◌▹◌, size, those, over, expressions}
use Rattle.arena.specs.Arena.{Allowed, Sound, Small, AllSmall, Placed, placed, full, and_then, find, placed_at, add, add_expression, add_expressions}
use Rattle.arena.proofs.Nodes.{find-some}
use Rattle.arena.proofs.Made.{made-append}
use Rattle.arena.proofs.Trees.{length-expressions, expression-is}
use Rattle.arena.proofs.Growing.{add-expression, add-expressions, add_expression-old, add_expressions-old}
use Rattle.normal.specs.Missing.{parts, all_parts, same_expression, same_expressions, is_among, with_missing}

mutual
  unfolding same_expression same_expressions

  -- expressions that pass the test are equal
  pub same-expression : (a b : Expression) → same_expression a b ≡ true → a ≡ b
  same-expression (col a x) (col b y) e = ap₂ {C = Expression} (λ n i. col n i) (eqb-true a b (and_left (eqb a b) (eqb x y) e)) (eqb-true x y (and_right (eqb a b) (eqb x y) e))
  same-expression (col a x) (lit w) e = absurd (true_not_false e refl)
  same-expression (col a x) (op m fs) e = absurd (true_not_false e refl)
  same-expression (lit v) (col b y) e = absurd (true_not_false e refl)
  same-expression (lit v) (lit w) e = ap {B = Expression} (λ n. lit n) (eqb-true v w e)
  same-expression (lit v) (op m fs) e = absurd (true_not_false e refl)
  same-expression (op l es) (col b y) e = absurd (true_not_false e refl)
  same-expression (op l es) (lit w) e = absurd (true_not_false e refl)
  same-expression (op l es) (op m fs) e =
      ap₂ {C = Expression} (λ n c. op n c) (eqb-true l m (and_left (eqb l m) (same_expressions es fs) e)) (same-expressions es fs (and_right (eqb l m) (same_expressions es fs) e))

  -- the same for expressions in a row
  pub same-expressions : (es fs : Expressions) → same_expressions es fs ≡ true → es ≡ fs
  same-expressions ∅ ∅ e = refl
  same-expressions ∅ (f ▹ fs) e = absurd (true_not_false e refl)
  same-expressions (x ▹ es) ∅ e = absurd (true_not_false e refl)
  same-expressions (x ▹ es) (f ▹ fs) e =
      ap₂ {C = Expressions} (λ c d. c ▹ d) (same-expression x f (and_left (same_expression x f) (same_expressions es fs) e))
      (same-expressions es fs (and_right (same_expression x f) (same_expressions es fs) e))

mutual
  unfolding same_expression same_expressions

  -- an expression passes the test with itself
  pub expression-same : (a : Expression) → same_expression a a ≡ true
  expression-same (col a x) = and_both (eq-eqb a a refl) (eq-eqb x x refl)
  expression-same (lit v) = eq-eqb v v refl
  expression-same (op l es) = and_both (eq-eqb l l refl) (expressions-same es)

  -- the same for expressions in a row
  pub expressions-same : (es : Expressions) → same_expressions es es ≡ true
  expressions-same ∅ = refl
  expressions-same (x ▹ es) = and_both (expression-same x) (expressions-same es)

-- what stands at a place is among them
is_among_lem : (e : Expression) (xs : List Expression) (i : ℕ) → i < length xs → get_or xs i (lit 0) ≡ e → is_among e xs ≡ true
unfolding is_among
is_among_lem e [] i l q = absurd (omega arith)
is_among_lem e (x ∷ xs) zero l q = rw (subst (λ (y : Expression). same_expression e y ≡ true) (sym q) (expression-same e))
is_among_lem e (x ∷ xs) (suc i) l q = go (same_expression e x) (is_among_lem e xs i (omega arith) q)
  where
    go : (b : Bool) → is_among e xs ≡ true → (b || is_among e xs) ≡ true
    go true h = refl
    go false h = h

-- what is among them stands at a place
among-at : (e : Expression) (xs : List Expression) → is_among e xs ≡ true → (i : ℕ) × (i < length xs) × (get_or xs i (lit 0) ≡ e)
unfolding is_among
among-at e [] h = absurd (true_not_false h refl)
among-at e (x ∷ xs) h = go (same_expression e x) refl h (among-at e xs)
  where
    go : (b : Bool) → same_expression e x ≡ b → (b || is_among e xs) ≡ true → (is_among e xs ≡ true → (i : ℕ) × (i < length xs) × (get_or xs i (lit 0) ≡ e))
        → (i : ℕ) × (i < length (x ∷ xs)) × (get_or (x ∷ xs) i (lit 0) ≡ e)
    go true q t r = (0, omega arith, sym (same-expression e x q))
    go false q t r = let w = r t in (suc w.0, omega (arith, w.1), w.2)

-- the missing of two lists, one after the other
pub missing-append : (xs ys zs : List Expression) → with_missing xs (ys ++ zs) ≡ with_missing (with_missing xs ys) zs
unfolding with_missing
missing-append xs [] zs = refl
missing-append xs (y ∷ ys) zs = go (is_among y xs) (missing-append xs ys zs) (missing-append (xs ++ (y ∷ [])) ys zs)
  where
    go : (b : Bool) → with_missing xs (ys ++ zs) ≡ with_missing (with_missing xs ys) zs → with_missing (xs ++ (y ∷ [])) (ys ++ zs) ≡ with_missing (with_missing (xs ++ (y ∷ [])) ys) zs
        → (if b then with_missing xs (ys ++ zs) else with_missing (xs ++ (y ∷ [])) (ys ++ zs)) ≡ with_missing (if b then with_missing xs ys else with_missing (xs ++ (y ∷ [])) ys) zs
    go true p q = p
    go false p q = q

-- nothing goes
missing-longer : (xs ys : List Expression) → length xs ≤ length (with_missing xs ys)
unfolding with_missing
missing-longer xs [] = omega arith
missing-longer xs (y ∷ ys) = go (is_among y xs) (missing-longer xs ys) (missing-longer (xs ++ (y ∷ [])) ys)
  where
    go : (b : Bool) → length xs ≤ length (with_missing xs ys) → length (xs ++ (y ∷ [])) ≤ length (with_missing (xs ++ (y ∷ [])) ys)
        → length xs ≤ length (if b then with_missing xs ys else with_missing (xs ++ (y ∷ [])) ys)
    go true p q = p
    go false p q = omega (arith, q, length-append xs (y ∷ []))

-- one part that is there, and one that is missing
missing-there : (xs : List Expression) (y : Expression) → is_among y xs ≡ true → with_missing xs (y ∷ []) ≡ xs
unfolding with_missing
missing-there xs y h = rw h

missing-new : (xs : List Expression) (y : Expression) → is_among y xs ≡ false → with_missing xs (y ∷ []) ≡ xs ++ (y ∷ [])
unfolding with_missing
missing-new xs y h = rw h

-- a node at the end of an arena adds its expression at the end
expressions-one : (ns : List Node) (n : Node) → expressions (ns ++ (n ∷ [])) ≡ expressions ns ++ (over (expressions ns) n ∷ [])
unfolding expressions made_after
expressions-one ns n = made-append (λ es i n. over es n) (lit 0) ns (n ∷ [])

-- what adding comes to, where these expressions are to be in the arena: they are, or there was no room and they are more than 1,024
unfoldable Adds : {A : Type 0} → List Expression → Placed A → Type 0
Adds want (placed a ms) = expressions ms ≡ want
Adds want full = 1024 < length want

-- adding the expression of a node whose children are there is adding the node
add-over : (n : Node) (ns : List Node) → Sound ns → Allowed (length ns) n → add_expression (over (expressions ns) n) ns ≡ add n ns
unfolding add_expression over Allowed and_then
add-over (column name index) ns s a = refl
add-over (literal v) ns s a = refl
add-over (operation label ks) ns s a = rw (add_expressions-old (those (expressions ns) ks) ns s ks a.1 refl)

-- a node: its expression is added where it is missing
node-adds : (n : Node) (ns : List Node) → Sound ns → Allowed (length ns) n → Adds (with_missing (expressions ns) (over (expressions ns) n ∷ [])) (add n ns)
unfolding Adds add placed_at
node-adds n ns s a = go (is_among x (expressions ns)) refl
  where
    x : Expression
    x = over (expressions ns) n

    longer : is_among x (expressions ns) ≡ false → length (with_missing (expressions ns) (x ∷ [])) ≡ length ns + 1
    longer h = ap length (missing-new (expressions ns) x h) ∙ omega (arith, length-append (expressions ns) (x ∷ []), length-expressions ns)

    room : is_among x (expressions ns) ≡ false → (b : Bool) → ltb (length ns) 1024 ≡ b
        → Adds (with_missing (expressions ns) (x ∷ [])) (if b then placed (length ns) (ns ++ (n ∷ [])) else full)
    room h true t = expressions-one ns n ∙ sym (missing-new (expressions ns) x h)
    room h false t = omega (arith, longer h, ltb-false (length ns) 1024 t)

    new : is_among x (expressions ns) ≡ false → (o : Option ℕ) → find n ns ≡ o → Adds (with_missing (expressions ns) (x ∷ [])) (placed_at o n ns)
    new h (Some i) f =
        let q = find-some n ns i f in
        absurd (true_not_false (is_among_lem x (expressions ns) i (omega (arith, q.0, length-expressions ns)) (expression-is ns s i q.0 ∙ ap (over (expressions ns)) q.1)) h)
    new h None f = room h (ltb (length ns) 1024) refl

    go : (b : Bool) → is_among x (expressions ns) ≡ b → Adds (with_missing (expressions ns) (x ∷ [])) (add n ns)
    go true h =
        let w = among-at x (expressions ns) h in
        subst (Adds (with_missing (expressions ns) (x ∷ []))) (sym (add_expression-old x ns s w.0 (omega (arith, w.1, length-expressions ns)) w.2) ∙ add-over n ns s a)
        (sym (missing-there (expressions ns) x h))
    go false h = new h (find n ns) refl

-- one list of parts after another: where there was room for the first
adds_on : {A : Type 0} (ns ms : List Node) (ys zs : List Expression) (p : Placed A) → expressions ms ≡ with_missing (expressions ns) ys → Adds (with_missing (expressions ms) zs) p → Adds (with_missing (expressions ns) (ys ++ zs)) p
adds_on ns ms ys zs p e h =
    subst (λ (want : List Expression). Adds want p) (ap (λ (xs : List Expression). with_missing xs zs) e ∙ sym (missing-append (expressions ns) ys zs)) h

-- and where there was none
full-on : (xs ys zs : List Expression) → 1024 < length (with_missing xs ys) → 1024 < length (with_missing xs (ys ++ zs))
full-on xs ys zs h = omega (arith, h, ap length (missing-append xs ys zs), missing-longer (with_missing xs ys) zs)

-- an operation after its children
op-adds : (label : ℕ) (es : Expressions) (ns : List Node) → Sound ns → size es ≤ 8 → AllSmall es → (p : Placed (List ℕ)) → add_expressions es ns ≡ p → Adds (with_missing (expressions ns) (all_parts es)) p
    → Adds (with_missing (expressions ns) (all_parts es ++ (op label es ∷ []))) (and_then p (λ ks ms. add (operation label ks) ms))
unfolding and_then Adds Allowed over
op-adds label es ns s few l (placed ks ms) e h =
    let a = add-expressions es ns s l ks ms e in
    adds_on ns ms (all_parts es) (op label es ∷ []) (add (operation label ks) ms) h
    (subst (λ (c : Expressions). Adds (with_missing (expressions ms) (op label c ∷ [])) (add (operation label ks) ms)) a.is
    (node-adds (operation label ks) ms a.sound (omega (arith, a.counted), a.below)))
op-adds label es ns s few l full e h = full-on (expressions ns) (all_parts es) (op label es ∷ []) h

-- expressions after an expression
kept-adds : (k : ℕ) (want : List Expression) (p : Placed (List ℕ)) → Adds want p → Adds want (and_then p (λ ks os. placed (k ∷ ks) os))
unfolding and_then Adds
kept-adds k want (placed ks os) h = h
kept-adds k want full h = h

more-adds : (x : Expression) (es : Expressions) (ns : List Node) → Sound ns → Small x → (p : Placed ℕ) → add_expression x ns ≡ p → Adds (with_missing (expressions ns) (parts x)) p
    → ((ms : List Node) → Sound ms → Adds (with_missing (expressions ms) (all_parts es)) (add_expressions es ms))
    → Adds (with_missing (expressions ns) (parts x ++ all_parts es)) (and_then p (λ k ms. and_then (add_expressions es ms) (λ ks os. placed (k ∷ ks) os)))
unfolding and_then Adds
more-adds x es ns s l (placed k ms) e h r =
    adds_on ns ms (parts x) (all_parts es) (and_then (add_expressions es ms) (λ ks os. placed (k ∷ ks) os)) h
    (kept-adds k (with_missing (expressions ms) (all_parts es)) (add_expressions es ms) (r ms (add-expression x ns s l k ms e).sound))
more-adds x es ns s l full e h r = full-on (expressions ns) (parts x) (all_parts es) h

mutual
  unfolding add_expression add_expressions parts all_parts Adds Small AllSmall Allowed over with_missing

  -- adding an expression adds its missing parts
  adds : (x : Expression) (ns : List Node) → Sound ns → Small x → Adds (with_missing (expressions ns) (parts x)) (add_expression x ns)
  adds (col name index) ns s l = node-adds (column name index) ns s l
  adds (lit v) ns s l = node-adds (literal v) ns s tt
  adds (op label es) ns s l = op-adds label es ns s l.0 l.1 (add_expressions es ns) refl (all-adds es ns s l.1)

  -- so for expressions in a row
  all-adds : (es : Expressions) (ns : List Node) → Sound ns → AllSmall es → Adds (with_missing (expressions ns) (all_parts es)) (add_expressions es ns)
  all-adds ∅ ns s l = refl
  all-adds (x ▹ es) ns s l = more-adds x es ns s l.0 (add_expression x ns) refl (adds x ns s l.0) (λ ms t. all-adds es ms t l.1)

-- what was placed, and where nothing could be
module _ {A : Type 0} (want : List Expression) (p : Placed A) (h : Adds want p) where
  placed_exactly : (a : A) (ms : List Node) → p ≡ placed a ms → expressions ms ≡ want
  unfolding Adds
  placed_exactly a ms e = subst (Adds want) e h

  full_exactly : ((a : A) (ms : List Node) → p ≡ placed a ms → Sound ms) → (p ≡ full) ↔ (1024 < length want)
  unfolding Adds
  full_exactly sound = (λ e. subst (Adds want) e h, λ l. go p refl l)
    where
      go : (q : Placed A) → p ≡ q → 1024 < length want → p ≡ full
      go (placed a ms) e l = absurd (omega (arith, l, ap length (placed_exactly a ms e), length-expressions ms, (sound a ms e).few))
      go full e l = e

-- the nodes added are exactly the missing parts of the expression, in their order
pub added_exactly : (x : Expression) (ns : List Node) → Sound ns → Small x → (i : ℕ) (ms : List Node) → add_expression x ns ≡ placed i ms → expressions ms ≡ with_missing (expressions ns) (parts x)
added_exactly x ns s l = placed_exactly (with_missing (expressions ns) (parts x)) (add_expression x ns) (adds x ns s l)

-- there is no room exactly where the arena would have more than 1,024 nodes
pub no_room_exactly : (x : Expression) (ns : List Node) → Sound ns → Small x → (add_expression x ns ≡ full) ↔ (1024 < length (with_missing (expressions ns) (parts x)))
no_room_exactly x ns s l = full_exactly (with_missing (expressions ns) (parts x)) (add_expression x ns) (adds x ns s l) (λ i ms e. (add-expression x ns s l i ms e).sound)

-- both for expressions in a row
pub all_added_exactly : (es : Expressions) (ns : List Node) → Sound ns → AllSmall es → (ks : List ℕ) (ms : List Node) → add_expressions es ns ≡ placed ks ms → expressions ms ≡ with_missing (expressions ns) (all_parts es)
all_added_exactly es ns s l = placed_exactly (with_missing (expressions ns) (all_parts es)) (add_expressions es ns) (all-adds es ns s l)

pub no_room_for_all_exactly : (es : Expressions) (ns : List Node) → Sound ns → AllSmall es → (add_expressions es ns ≡ full) ↔ (1024 < length (with_missing (expressions ns) (all_parts es)))
no_room_for_all_exactly es ns s l = full_exactly (with_missing (expressions ns) (all_parts es)) (add_expressions es ns) (all-adds es ns s l) (λ ks ms e. (add-expressions es ns s l ks ms e).sound)
