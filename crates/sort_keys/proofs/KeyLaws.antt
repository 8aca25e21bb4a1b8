-- Sort keys one by one: where a key lies, which are uniform constants, and one more key at the end.
use Rattle.std.specs.Prelude.{if◌then◌else◌}
use Prim.Native.Nat.{ℕ, zero, suc, ◌+◌, ◌*◌, ◌/◌, ◌<◌, ◌≤◌}
use mathlib.Core.Bool.{Bool, true, false}
use mathlib.Core.List.{List, [], ◌∷◌, ◌++◌, map, map-append}
use mathlib.Core.Path.{◌≡◌, refl, sym, ap, ap₂, ◌∙◌}
use native.Mathlib.Decide.{dec_lt}
use native.Mathlib.Omega.{arith}
use borrow.Author.Tests.{eq-eqb, ne_eqb, lt-ltb, le-ltb, le-leb, lt-leb}
use lib.Dec.{leb}
use lib.ListN.{length, get_or, take, set, length-append, length-map, get_or-map}
use lib.Seq.{take_all, take-append-le, length-take-le}
use Rattle.laws.proofs.Table.{length-table, get_or-table}
use Rattle.arena.specs.Node.{Node}
use Rattle.arena.specs.Layout.{count, cell_of, decode as nodes}
use Rattle.classes.specs.Class.{Class, is_uniform}
use Rattle.questions.specs.Questions.{expr_constant}
use Rattle.classes.specs.Layout.{padded}
use Rattle.group_checks.proofs.Checks.{literal-cell}
use Rattle.classes.proofs.Codec.{snoc_padded}
use Rattle.sort_keys.specs.Keys.{Key, exprs_of, with_exprs, orders_nothing, sorting}
use Rattle.sort_keys.specs.Layout.{keys_of, packed, sorted}
use Rattle.sort_keys.specs.Inner.{uniform_by, pushed, kept_key, without}
use Rattle.sort_keys.specs.declared.Sorted.{Sorted}

-- the options of a key lie within the numbers that were lent
pub key-place : (n k : ℕ) → k < n / 2 → 2 * k + 1 < n
key-place n k l = omega arith

-- ---- uniform constants

module _ (s : List ℕ) (old : ℕ) (marks : List ℕ) (e : ℕ) (b : e < count s) where
  -- a literal
  pub uniform-literal : cell_of s e 0 ≡ 2 → true ≡ uniform_by (nodes s) old marks e
  unfolding uniform_by
  uniform-literal q = rw (literal-cell s e b, eq-eqb _ _ q)

  -- a node that was added
  pub uniform-added : (cell_of s e 0 ≡ 2 → ⊥) → old ≤ e → false ≡ uniform_by (nodes s) old marks e
  unfolding uniform_by
  uniform-added q l = rw (literal-cell s e b, ne_eqb _ _ q, le-ltb e old l)

  -- an old node, by its class
  pub uniform-class : (cell_of s e 0 ≡ 2 → ⊥) → e < old → leb 2 (get_or marks e 0) ≡ uniform_by (nodes s) old marks e
  unfolding uniform_by
  uniform-class q l = rw (literal-cell s e b, ne_eqb _ _ q, lt-ltb e old l)

-- ---- one more key

module _ (out : Sorted) (e options : ℕ) where
  -- there are 16
  pub pushed-full : 16 ≤ out.size → out ≡ pushed out e options
  unfolding pushed
  pushed-full l = rw (le-leb 16 out.size l)

  -- there are fewer
  pub pushed_more : out.size < 16 → record { size = out.size + 1; keys = set out.keys out.size (e * 4 + options) } ≡ pushed out e options
  unfolding pushed
  pushed_more l = rw (lt-leb 16 out.size l)

  module _ (ns : List Node) (old : ℕ) (marks : List ℕ) where
    -- a uniform constant
    pub kept-not : true ≡ uniform_by ns old marks e → out ≡ kept_key ns old marks out e options
    unfolding kept_key
    kept-not q = rw (sym q)

    -- another
    pub kept-one : false ≡ uniform_by ns old marks e → pushed out e options ≡ kept_key ns old marks out e options
    unfolding kept_key
    kept-one q = rw (sym q)

-- one more key, beyond 16 too
pub pushed-key : (ks : List Key) (e options : ℕ) → pushed (sorted (take 16 ks)) e options ≡ sorted (take 16 (ks ++ (record { expr = e; options = options } ∷ [])))
unfolding sorted packed
pushed-key ks e options = at (dec_lt (length ks) 16)
  where
    k : Key
    k = record { expr = e; options = options }

    at : Dec (length ks < 16) → pushed (sorted (take 16 ks)) e options ≡ sorted (take 16 (ks ++ (k ∷ [])))
    at (yes l) =
        let a : take 16 ks ≡ ks = take_all 16 ks (omega arith) in
        let b : take 16 (ks ++ (k ∷ [])) ≡ ks ++ (k ∷ []) = take_all 16 (ks ++ (k ∷ [])) (omega (arith, length-append ks (k ∷ []))) in
        let m : length (map packed ks) ≡ length ks = length-map ks packed in
        let c : set (padded 16 (map packed ks)) (length ks) (packed k) ≡ padded 16 (map packed (ks ++ (k ∷ []))) =
        ap (λ (n : ℕ). set (padded 16 (map packed ks)) n (packed k)) (sym m) ∙ snoc_padded 16 (map packed ks) (packed k) (omega arith) ∙ ap (padded 16) (sym (map-append packed ks (k ∷ []))) in
        let n : length ks + 1 ≡ length (ks ++ (k ∷ [])) = sym (length-append ks (k ∷ [])) in
        rw (a, b) (sym (pushed_more (sorted ks) e options l) ∙ ap₂ {C = Sorted} (λ (i : ℕ) (l : List ℕ). record { size = i; keys = l }) n c)
    at (no l) =
        let a : length (take 16 ks) ≡ 16 = length-take-le 16 ks (omega arith) in
        sym (pushed-full (sorted (take 16 ks)) e options (omega arith)) ∙ ap sorted (sym (take-append-le 16 ks (k ∷ []) (omega arith)))

-- ---- keys without those that pass a test

pub without-append : (p : ℕ → Bool) (xs ys : List Key) → without p (xs ++ ys) ≡ without p xs ++ without p ys
unfolding without
without-append p [] ys = refl
without-append p (x ∷ xs) ys = go (p x.expr) (without-append p xs ys)
  where
    go : (b : Bool) → without p (xs ++ ys) ≡ without p xs ++ without p ys → (if b then without p (xs ++ ys) else x ∷ without p (xs ++ ys)) ≡ (if b then without p xs else x ∷ without p xs) ++ without p ys
    go true e = e
    go false e = ap (λ (l : List Key). x ∷ l) e

-- tests that agree on the keys' expressions
pub without_cong : (p q : ℕ → Bool) (ks : List Key) → ((k : ℕ) → k < length ks → p (get_or (exprs_of ks) k 0) ≡ q (get_or (exprs_of ks) k 0)) → without p ks ≡ without q ks
unfolding without exprs_of
without_cong p q [] h = refl
without_cong p q (x ∷ xs) h = rw (h 0 (omega arith), without_cong p q xs (λ k l. h (suc k) (omega arith)))

-- no more than there were
pub without_fewer : (p : ℕ → Bool) (ks : List Key) → length (without p ks) ≤ length ks
unfolding without
without_fewer p [] = omega arith
without_fewer p (x ∷ xs) = go (p x.expr) (without_fewer p xs)
  where
    go : (b : Bool) → length (without p xs) ≤ length xs → length (if b then without p xs else x ∷ without p xs) ≤ suc (length xs)
    go true l = omega arith
    go false l = omega arith

-- the keys that order something
pub sorting-without : (ns : List Node) (cs : List Class) (ks : List Key) → sorting ns cs ks ≡ without (λ e. is_uniform (expr_constant ns cs e)) ks
unfolding sorting orders_nothing without
sorting-without ns cs [] = refl
sorting-without ns cs (k ∷ ks) = rw (sorting-without ns cs ks)

-- ---- keys with other expressions

-- their expressions are below what those given are
pub with-below : (n : ℕ) (es : List ℕ) (ks : List Key) → ((j : ℕ) → j < length es → get_or es j 0 < n) → (k : ℕ) → k < length (with_exprs es ks) → get_or (exprs_of (with_exprs es ks)) k 0 < n
unfolding exprs_of with_exprs
with-below n [] ks b k l = absurd (omega arith)
with-below n (e ∷ es) [] b k l = absurd (omega arith)
with-below n (e ∷ es) (x ∷ ks) b zero l = b 0 (omega arith)
with-below n (e ∷ es) (x ∷ ks) b (suc k) l = with-below n es ks (λ j m. b (suc j) (omega arith)) k (omega arith)

-- no more than there were
pub with-fewer : (es : List ℕ) (ks : List Key) → length (with_exprs es ks) ≤ length ks
unfolding with_exprs
with-fewer [] ks = omega arith
with-fewer (e ∷ es) [] = omega arith
with-fewer (e ∷ es) (k ∷ ks) = let l = with-fewer es ks in omega arith

-- one more
pub with-more : (es : List ℕ) (ks : List Key) (e : ℕ) (d : Key) → length es < length ks
    → with_exprs (es ++ (e ∷ [])) ks ≡ with_exprs es ks ++ (record { expr = e; options = (get_or ks (length es) d).options } ∷ [])
unfolding with_exprs
with-more [] [] e d l = absurd (omega arith)
with-more [] (k ∷ ks) e d l = refl
with-more (x ∷ es) [] e d l = absurd (omega arith)
with-more (x ∷ es) (k ∷ ks) e d l = ap (λ (l : List Key). record { expr = x; options = k.options } ∷ l) (with-more es ks e d (omega arith))

-- ---- keys as they are lent

module _ (numbers : List ℕ) where
  pub keys-count : length (keys_of numbers) ≡ length numbers / 2
  unfolding keys_of
  keys-count = length-table (λ k. record { expr = get_or numbers (2 * k) 0; options = get_or numbers (2 * k + 1) 0 }) (length numbers / 2)

  pub exprs-count : length (exprs_of (keys_of numbers)) ≡ length numbers / 2
  unfolding exprs_of
  exprs-count = length-map (keys_of numbers) (λ (k : Key). k.expr) ∙ keys-count

  -- key k
  pub key-at : (k : ℕ) → k < length numbers / 2 → get_or (keys_of numbers) k (record { expr = 0; options = 0 }) ≡ record { expr = get_or numbers (2 * k) 0; options = get_or numbers (2 * k + 1) 0 }
  unfolding keys_of
  key-at k l = get_or-table (λ k. record { expr = get_or numbers (2 * k) 0; options = get_or numbers (2 * k + 1) 0 }) (length numbers / 2) k (record { expr = 0; options = 0 }) l

  -- its expression
  pub expr-at : (k : ℕ) → k < length numbers / 2 → get_or (exprs_of (keys_of numbers)) k 0 ≡ get_or numbers (2 * k) 0
  unfolding exprs_of
  expr-at k l = get_or-map (λ (k : Key). k.expr) (keys_of numbers) k (record { expr = 0; options = 0 }) ∙ ap (λ (k : Key). k.expr) (key-at k l)
