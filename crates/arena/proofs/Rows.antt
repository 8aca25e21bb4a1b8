-- One node's 11 cells: the row of a node that may stand there, the node of a row, and the test of a row.
use Rattle.std.specs.Prelude.{if◌then◌else◌}
use Prim.Native.Nat.{ℕ, suc, ◌+◌, ◌-◌, ◌*◌, ◌/◌, ◌%◌, ◌<◌, ◌≤◌}
use mathlib.Core.Bool.{Bool, true, false, ◌&&◌}
use mathlib.Core.List.{List, [], ◌∷◌, ◌++◌}
use mathlib.Core.Path.{◌≡◌, refl, sym, ap, ◌∙◌}
use native.Mathlib.Decide.{dec_lt}
use native.Mathlib.Omega.{arith}
use borrow.Author.Tests.{eqb-true, leb-true, le-leb, ltb-true, lt-ltb}
use lib.Dec.{eqb, ltb, leb}
use lib.ListN.{length, get_or, replicate, length-append, length-replicate, get_or-replicate, get_or-append}
use lib.Seq.{get_or-append-add, ext_get_or}
use Rattle.laws.specs.Tests.{each}
use Rattle.laws.specs.Lists.{table}
use Rattle.laws.proofs.Booleans.{true_not_false, and_left, and_right, and_both}
use Rattle.laws.proofs.Each.{each_all, each_holds}
use Rattle.laws.proofs.Table.{length-table, get_or-table, table_is}
use Rattle.arena.specs.Node.{Node, column, literal, operation}
use Rattle.arena.specs.Arena.{Allowed}
use Rattle.arena.specs.Layout.{row, children_of, node_of, lawful_kind, children_below, places_unused, lawful_row}
use Rattle.arena.specs.Inner.{Coded}

-- the row of a node that may stand somewhere has 11 cells
pub row-length : (i : ℕ) (n : Node) → Allowed i n → length (row n) ≡ 11
unfolding row Allowed
row-length i (column name index) a = refl
row-length i (literal value) a = refl
row-length i (operation label ks) a =
    omega (arith, length-append ks (replicate (8 - length ks) 0), length-replicate {A = ℕ} (8 - length ks) 0)

-- the third cell after a row's head and on
past_head : (a b c : ℕ) (s : List ℕ) (k : ℕ) → get_or (a ∷ b ∷ c ∷ s) (3 + k) 0 ≡ get_or s k 0
past_head a b c s k = let e : 3 + k ≡ suc (suc (suc k)) = omega arith in rw e

-- the node of a node's row is the node
pub node_row : (i : ℕ) (n : Node) → Allowed i n → node_of (row n) ≡ n
unfolding row node_of children_of Allowed
node_row i (column name index) a =
    let q : (name * 65536 + index) / 65536 ≡ name = omega arith in
    let m : (name * 65536 + index) % 65536 ≡ index = omega arith in
    rw (q, m)
node_row i (literal value) a = refl
node_row i (operation label ks) a =
    ap (λ (c : List ℕ). operation label c) (sym (table_is (λ (k : ℕ). get_or (row (operation label ks)) (3 + k) 0) (length ks) ks 0 refl
    (λ k l. sym (past_head 3 label (length ks) (ks ++ replicate (8 - length ks) 0) k ∙ get_or-append ks (replicate (8 - length ks) 0) 0 k l))))

-- a node's row is the layout of a node
pub row-coded : (i : ℕ) (n : Node) → Allowed i n → Coded (row n)
row-coded i n a = ap row (node_row i n a)

-- the layout of a node that may stand somewhere has 11 cells
pub coded-length : (i : ℕ) (r : List ℕ) → Coded r → Allowed i (node_of r) → length r ≡ 11
coded-length i r c a = sym (ap length c) ∙ row-length i (node_of r) a

-- a kind and a number of children that may go together
data Kind (kind n : ℕ) : Type 0 where
  of-column : kind ≡ 1 → n ≡ 0 → Kind kind n
  of-literal : kind ≡ 2 → n ≡ 0 → Kind kind n
  of-operation : kind ≡ 3 → n ≤ 8 → Kind kind n

-- those that pass the test
lawful-kind : (kind n : ℕ) → lawful_kind kind n ≡ true → Kind kind n
unfolding lawful_kind
lawful-kind kind n e = one (eqb kind 1) refl e
  where
    three : (b : Bool) → eqb kind 3 ≡ b → (if b then leb n 8 else false) ≡ true → Kind kind n
    three true q t = of-operation (eqb-true kind 3 q) (leb-true n 8 t)
    three false q t = absurd (true_not_false t refl)

    two : (b : Bool) → eqb kind 2 ≡ b → (if b then eqb n 0 else (if eqb kind 3 then leb n 8 else false)) ≡ true → Kind kind n
    two true q t = of-literal (eqb-true kind 2 q) (eqb-true n 0 t)
    two false q t = three (eqb kind 3) refl t

    one : (b : Bool) → eqb kind 1 ≡ b → (if b then eqb n 0 else (if eqb kind 2 then eqb n 0 else (if eqb kind 3 then leb n 8 else false))) ≡ true → Kind kind n
    one true q t = of-column (eqb-true kind 1 q) (eqb-true n 0 t)
    one false q t = two (eqb kind 2) refl t

-- a node of a lawful kind has at most 8 children
pub kind-few : (kind n : ℕ) → lawful_kind kind n ≡ true → n ≤ 8
kind-few kind n e = at (lawful-kind kind n e)
  where
    at : Kind kind n → n ≤ 8
    at (of-column p q) = omega arith
    at (of-literal p q) = omega arith
    at (of-operation p q) = q

-- an element of two lists after the first
pub get_d_past : (xs ys : List ℕ) (n k : ℕ) → length xs ≡ n → n ≤ k → get_or (xs ++ ys) k 0 ≡ get_or ys (k - n) 0
get_d_past xs ys n k e l = let q : k ≡ length xs + (k - n) = omega arith in ap (λ (m : ℕ). get_or (xs ++ ys) m 0) q ∙ get_or-append-add xs ys (k - n) 0

-- a row with its unused places 0 is its head, its children and zeros
parts : (r : List ℕ) → length r ≡ 11 → get_or r 2 0 ≤ 8 → places_unused (get_or r 2 0) r ≡ true
    → get_or r 0 0 ∷ get_or r 1 0 ∷ get_or r 2 0 ∷ (children_of r ++ replicate (8 - get_or r 2 0) 0) ≡ r
unfolding places_unused children_of
parts [] l f u = absurd (omega arith)
parts (a ∷ []) l f u = absurd (omega arith)
parts (a ∷ b ∷ []) l f u = absurd (omega arith)
parts (a ∷ b ∷ c ∷ s) l f u =
    ap (λ (t : List ℕ). a ∷ b ∷ c ∷ t)
    (ext_get_or 0 (table place c ++ zeros) s (omega (arith, long)) (λ k h. at k (dec_lt k c) (omega (arith, long))))
  where
    place : ℕ → ℕ
    place k = get_or (a ∷ b ∷ c ∷ s) (3 + k) 0

    zeros : List ℕ
    zeros = replicate (8 - c) 0

    long : length (table place c ++ zeros) ≡ 8
    long = omega (arith, length-append (table place c) zeros, length-replicate {A = ℕ} (8 - c) 0, length-table place c)

    at : (k : ℕ) → Dec (k < c) → k < 8 → get_or (table place c ++ zeros) k 0 ≡ get_or s k 0
    at k (yes h) m =
        get_or-append (table place c) zeros 0 k (omega (arith, length-table place c)) ∙ get_or-table place c k 0 h ∙ past_head a b c s k
    at k (no h) m =
        let e : 3 + c + (k - c) ≡ suc (suc (suc k)) = omega arith in
        get_d_past (table place c) zeros c k (length-table place c) (omega arith) ∙ get_or-replicate (8 - c) (k - c) 0 0 (omega arith)
        ∙ sym (rw e at (eqb-true (get_or (a ∷ b ∷ c ∷ s) (3 + c + (k - c)) 0) 0 (each_holds (λ (j : ℕ). eqb (get_or (a ∷ b ∷ c ∷ s) (3 + c + j) 0) 0) (8 - c) (k - c) u (omega arith))))

-- the same with the kind, the payload and the number of children put in
filled : (r : List ℕ) (kind payload n : ℕ) → get_or r 0 0 ≡ kind → get_or r 1 0 ≡ payload → get_or r 2 0 ≡ n → length r ≡ 11 → n ≤ 8 → places_unused (get_or r 2 0) r ≡ true
    → kind ∷ payload ∷ n ∷ (table (λ (k : ℕ). get_or r (3 + k) 0) n ++ replicate (8 - n) 0) ≡ r
unfolding children_of
filled r kind payload n p q m l f u = put ∙ parts r l (omega arith) u
  where
    put : kind ∷ payload ∷ n ∷ (table (λ (k : ℕ). get_or r (3 + k) 0) n ++ replicate (8 - n) 0)
        ≡ get_or r 0 0 ∷ get_or r 1 0 ∷ get_or r 2 0 ∷ (table (λ (k : ℕ). get_or r (3 + k) 0) (get_or r 2 0) ++ replicate (8 - get_or r 2 0) 0)
    put = λ i. sym p i ∷ sym q i ∷ sym m i ∷ (table (λ (k : ℕ). get_or r (3 + k) 0) (sym m i) ++ replicate (8 - sym m i) 0)

-- what the test of a row says: the row is the layout of a node, and the node may stand at i
pub record LawfulRow (i : ℕ) (r : List ℕ) : Type 0 where
  pub coded : Coded r
  pub allowed : Allowed i (node_of r)

-- a row whose node has that row, and may stand at i
lawful-by : (i : ℕ) (r : List ℕ) (n : Node) → node_of r ≡ n → row n ≡ r → Allowed i n → LawfulRow i r
lawful-by i r n e c a = record { coded = ap row e ∙ c; allowed = rw e a }

-- a row that passes the test is the layout of a node that may stand there
pub lawful-row : (i : ℕ) (r : List ℕ) → length r ≡ 11 → lawful_row i r ≡ true → LawfulRow i r
unfolding lawful_row children_below children_of node_of row Allowed table
lawful-row i r l e = at (lawful-kind kind n (and_left (lawful_kind kind n) (children_below i n r) both))
  where
    kind : ℕ
    kind = get_or r 0 0

    n : ℕ
    n = get_or r 2 0

    both : (lawful_kind kind n && children_below i n r) ≡ true
    both = and_left (lawful_kind kind n && children_below i n r) (places_unused n r) e

    unused : places_unused n r ≡ true
    unused = and_right (lawful_kind kind n && children_below i n r) (places_unused n r) e

    child : ℕ → ℕ
    child k = get_or r (3 + k) 0

    below : (k : ℕ) → k < length (children_of r) → get_or (children_of r) k 0 < i
    below k b =
        let c : k < n = omega (arith, length-table child n) in
        rw (get_or-table child n k 0 c) (ltb-true (child k) i (each_holds (λ (j : ℕ). ltb (child j) i) n k (and_right (lawful_kind kind n) (children_below i n r) both) c))

    at : Kind kind n → LawfulRow i r
    at (of-column p q) =
        lawful-by i r (column (get_or r 1 0 / 65536) (get_or r 1 0 % 65536)) (rw p)
        (filled r 1 (get_or r 1 0 / 65536 * 65536 + get_or r 1 0 % 65536) 0 p (omega arith) q l (omega arith) unused) (omega arith)
    at (of-literal p q) = lawful-by i r (literal (get_or r 1 0)) (rw p) (filled r 2 (get_or r 1 0) 0 p refl q l (omega arith) unused) tt
    at (of-operation p q) =
        lawful-by i r (operation (get_or r 1 0) (children_of r)) (rw p) (rw (length-table child n) (filled r 3 (get_or r 1 0) n p refl refl l q unused))
        (omega (arith, length-table child n), below)

-- the row of a node that may stand at i passes the test
pub row_lawful : (i : ℕ) (n : Node) → Allowed i n → lawful_row i (row n) ≡ true
unfolding lawful_row lawful_kind children_below places_unused row Allowed each
row_lawful i (column name index) a = refl
row_lawful i (literal value) a = refl
row_lawful i (operation label ks) a = and_both (and_both (le-leb (length ks) 8 a.0) (each_all child (length ks) below)) (each_all unused (8 - length ks) after)
  where
    zeros : List ℕ
    zeros = replicate (8 - length ks) 0

    r : List ℕ
    r = 3 ∷ label ∷ length ks ∷ (ks ++ zeros)

    child : ℕ → Bool
    child k = ltb (get_or r (3 + k) 0) i

    below : (k : ℕ) → k < length ks → child k ≡ true
    below k l = lt-ltb (get_or r (3 + k) 0) i (rw (past_head 3 label (length ks) (ks ++ zeros) k, get_or-append ks zeros 0 k l) (a.1 k l))

    unused : ℕ → Bool
    unused k = eqb (get_or r (3 + length ks + k) 0) 0

    after : (k : ℕ) → k < 8 - length ks → unused k ≡ true
    after k l =
        let e : 3 + length ks + k ≡ suc (suc (suc (length ks + k))) = omega arith in
        rw (e, get_or-append-add ks zeros k 0, get_or-replicate {A = ℕ} (8 - length ks) k 0 0 l)
