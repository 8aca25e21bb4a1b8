-- An arena in cells: what the cells of an arena are, which cells are an arena, and the test that tells.
use Prim.Native.Nat.{ℕ, zero, suc, ◌+◌, ◌-◌, ◌*◌, ◌/◌, ◌%◌, ◌<◌, ◌≤◌}
use mathlib.Core.Bool.{Bool, true, false, not, ◌&&◌}
use mathlib.Core.List.{List, [], ◌∷◌, ◌++◌}
use mathlib.Core.Logic.{◌↔◌}
use Rattle.std.specs.Prelude.{Option, None, Some, is_some}
use mathlib.Core.Path.{◌≡◌, refl, sym, ap, ◌∙◌, subst}
use native.Mathlib.Decide.{ℕ_discrete, dec_lt}
use native.Mathlib.Omega.{arith}
use borrow.Author.Tests.{eqb-true, eq-eqb, leb-true, le-leb}
use lib.Dec.{eqb, leb}
use lib.ListN.{length, get_or, take, drop, set, replicate, length-append, length-replicate, length-set, get_or-append}
use lib.Seq.{ext_get_or, get_or_at, get_or-set_same, get_or-set_other, get_or-take, get_or-drop, length-take-le, paste, length-paste, length_paste_head}
use Rattle.laws.specs.Tests.{each, first}
use Rattle.laws.proofs.Booleans.{true_not_false, and_left, and_right, and_both, same_test}
use Rattle.laws.proofs.Each.{each_all, each_holds}
use Rattle.laws.proofs.First.{first-none, first-missing, first_cong}
use Rattle.laws.proofs.Table.{length-table, get_or-table, table_is}
use Rattle.arena.specs.Node.{Node, literal, node_at, same_node}
use Rattle.arena.specs.Arena.{Allowed, Sound, find}
use Rattle.arena.specs.Layout.{row, rows, encode, count, cell_of, row_of, node_of, decode, same_row, row_below, lawful_row, lawful_node, cells_unused, lawful}
use Rattle.arena.specs.Inner.{Coded, Holds}
use Rattle.arena.proofs.Nodes.{same-node, node-same}
use Rattle.arena.proofs.Rows.{row-length, node_row, row-coded, coded-length, get_d_past, LawfulRow, lawful-row, row_lawful}

module _ (cells : List ℕ) where
  -- a node has 11 cells
  pub length-row_of : (i : ℕ) → length (row_of cells i) ≡ 11
  unfolding row_of
  length-row_of i = length-table (λ (j : ℕ). cell_of cells i j) 11

  -- the cells of a node by their places
  pub at-row_of : (i j : ℕ) → j < 11 → get_or (row_of cells i) j 0 ≡ cell_of cells i j
  unfolding row_of
  at-row_of i j l = get_or-table (λ (k : ℕ). cell_of cells i k) 11 j 0 l

  -- the arena in the cells has as many nodes as cell 0 says
  pub length-decode : length (decode cells) ≡ count cells
  unfolding decode
  length-decode = length-table (λ (i : ℕ). node_of (row_of cells i)) (count cells)

  -- a node of the arena in the cells is the node of its row
  pub node-decode : (i : ℕ) → i < count cells → node_at (decode cells) i ≡ node_of (row_of cells i)
  unfolding decode
  node-decode i l = get_or-table (λ (j : ℕ). node_of (row_of cells j)) (count cells) i (literal 0) l

  -- a row that passes the comparison is the node's row
  pub same_row_lem : (i : ℕ) (r : List ℕ) → length r ≡ 11 → same_row cells i r ≡ true → row_of cells i ≡ r
  unfolding same_row
  same_row_lem i r l e =
      ext_get_or 0 (row_of cells i) r (length-row_of i ∙ sym l)
      (λ j b. let c : j < 11 = omega (arith, length-row_of i) in
      at-row_of i j c ∙ eqb-true (cell_of cells i j) (get_or r j 0) (each_holds (λ (k : ℕ). eqb (cell_of cells i k) (get_or r k 0)) 11 j e c))

  -- the node's row passes the comparison
  pub row_same : (i : ℕ) (r : List ℕ) → row_of cells i ≡ r → same_row cells i r ≡ true
  unfolding same_row
  row_same i r e =
      each_all (λ (k : ℕ). eqb (cell_of cells i k) (get_or r k 0)) 11
      (λ j l. eq-eqb (cell_of cells i j) (get_or r j 0) (sym (at-row_of i j l) ∙ ap (λ (s : List ℕ). get_or s j 0) e))

-- layouts of the same node are equal
coded-same : (r s : List ℕ) → Coded r → Coded s → node_of r ≡ node_of s → r ≡ s
coded-same r s c d e = sym c ∙ ap row e ∙ d

-- the search for a row is the search for its node
pub row_below-is : (cells r : List ℕ) → Holds cells → Coded r → length r ≡ 11 → row_below cells (count cells) r ≡ find (node_of r) (decode cells)
unfolding row_below find
row_below-is cells r h c l =
    rw (length-decode cells)
    (first_cong (λ (i : ℕ). same_row cells i r) (λ (i : ℕ). same_node (node_of r) (node_at (decode cells) i)) (count cells)
    (λ i b. same_test (same_row cells i r) (same_node (node_of r) (node_at (decode cells) i))
    (λ e. rw (node-decode cells i b, same_row_lem cells i r l e) (node-same (node_of r)))
    (λ e. row_same cells i r (coded-same (row_of cells i) r (h.coded i b) c (sym (same-node (node_of r) (node_at (decode cells) i) e ∙ node-decode cells i b))))))

-- zeros are 0 everywhere
zeros-at : (n k : ℕ) → get_or (replicate {A = ℕ} n 0) k 0 ≡ 0
zeros-at zero k = refl
zeros-at (suc n) zero = refl
zeros-at (suc n) (suc k) = zeros-at n k

-- rows of 11 cells, one after the other
length-rows : (ns : List Node) → ((i : ℕ) → i < length ns → length (row (node_at ns i)) ≡ 11) → length (rows ns) ≡ 11 * length ns
unfolding rows
length-rows [] h = refl
length-rows (n ∷ ns) h = omega (arith, length-append (row n) (rows ns), h 0 (omega arith), length-rows ns (λ i l. h (suc i) (omega arith)))

-- and their cells by their places
at_rows : (ns : List Node) → ((i : ℕ) → i < length ns → length (row (node_at ns i)) ≡ 11)
    → (i j : ℕ) → i < length ns → j < 11 → get_or (rows ns) (11 * i + j) 0 ≡ get_or (row (node_at ns i)) j 0
unfolding rows
at_rows [] h i j l b = absurd (omega arith)
at_rows (n ∷ ns) h zero j l b =
    let e : 11 * 0 + j ≡ j = omega arith in
    rw e (get_or-append (row n) (rows ns) 0 j (omega (arith, h 0 (omega arith))))
at_rows (n ∷ ns) h (suc i) j l b =
    let e : 11 * suc i + j - 11 ≡ 11 * i + j = omega arith in
    get_d_past (row n) (rows ns) 11 (11 * suc i + j) (h 0 (omega arith)) (omega arith)
    ∙ rw e (at_rows ns (λ k m. h (suc k) (omega arith)) i j (omega arith) b)

module _ (ns : List Node) (s : Sound ns) where
  -- each row of a sound arena has 11 cells
  row-long : (i : ℕ) → i < length ns → length (row (node_at ns i)) ≡ 11
  row-long i l = row-length i (node_at ns i) (s.allowed i l)

  -- the cells of an arena are 11,265
  pub length-encode : length (encode ns) ≡ 11265
  unfolding encode
  length-encode =
      omega (arith, s.few, length-append (rows ns) (replicate (11264 - 11 * length ns) 0), length-replicate {A = ℕ} (11264 - 11 * length ns) 0, length-rows ns row-long)

  -- cell 0 is the number of nodes
  pub count-encode : count (encode ns) ≡ length ns
  unfolding encode
  count-encode = refl

  -- the cells of a node are its row
  pub cell-encode : (i j : ℕ) → i < length ns → j < 11 → cell_of (encode ns) i j ≡ get_or (row (node_at ns i)) j 0
  unfolding encode
  cell-encode i j l b =
      let e : 1 + 11 * i + j ≡ suc (11 * i + j) = omega arith in
      rw e (get_or-append (rows ns) (replicate (11264 - 11 * length ns) 0) 0 (11 * i + j) (omega (arith, length-rows ns row-long)) ∙ at_rows ns row-long i j l b)

  -- every other cell is 0
  pub rest-encode : (k : ℕ) → 1 + 11 * length ns ≤ k → get_or (encode ns) k 0 ≡ 0
  unfolding encode
  rest-encode zero l = absurd (omega arith)
  rest-encode (suc k) l =
      get_d_past (rows ns) (replicate (11264 - 11 * length ns) 0) (11 * length ns) k (length-rows ns row-long) (omega arith)
      ∙ zeros-at (11264 - 11 * length ns) (k - 11 * length ns)

  -- cells with the count, the rows and zeros are the arena's
  pub encode-is : (cells : List ℕ) → length cells ≡ 11265 → count cells ≡ length ns
      → ((i j : ℕ) → i < length ns → j < 11 → cell_of cells i j ≡ get_or (row (node_at ns i)) j 0)
      → ((k : ℕ) → 1 + 11 * length ns ≤ k → k < 11265 → get_or cells k 0 ≡ 0) → cells ≡ encode ns
  encode-is cells sized counted inside rest =
      ext_get_or 0 cells (encode ns) (sized ∙ sym length-encode) (λ k b. at k (omega (arith, sized)) (ℕ_discrete k 0) (dec_lt k (1 + 11 * length ns)))
    where
      at : (k : ℕ) → k < 11265 → Dec (k ≡ 0) → Dec (k < 1 + 11 * length ns) → get_or cells k 0 ≡ get_or (encode ns) k 0
      at k b (yes z) d = rw z (counted ∙ sym count-encode)
      at k b (no z) (yes d) =
          let e : k ≡ 1 + 11 * ((k - 1) / 11) + (k - 1) % 11 = omega arith in
          let i : (k - 1) / 11 < length ns = omega arith in
          let j : (k - 1) % 11 < 11 = omega arith in
          subst (λ (m : ℕ). get_or cells m 0 ≡ get_or (encode ns) m 0) (sym e)
          (inside ((k - 1) / 11) ((k - 1) % 11) i j ∙ sym (cell-encode ((k - 1) / 11) ((k - 1) % 11) i j))
      at k b (no z) (no d) = rest k (omega arith) b ∙ sym (rest-encode k (omega arith))

  -- the 11 cells of a node are its row
  pub row-encode : (i : ℕ) → i < length ns → row_of (encode ns) i ≡ row (node_at ns i)
  row-encode i l =
      ext_get_or 0 (row_of (encode ns) i) (row (node_at ns i)) (length-row_of (encode ns) i ∙ sym (row-long i l))
      (λ j b. let c : j < 11 = omega (arith, length-row_of (encode ns) i) in at-row_of (encode ns) i j c ∙ cell-encode i j l c)

  -- the arena in its cells is the arena
  pub decode-encode : decode (encode ns) ≡ ns
  unfolding decode
  decode-encode =
      sym (table_is (λ (i : ℕ). node_of (row_of (encode ns) i)) (count (encode ns)) ns (literal 0) (sym count-encode)
      (λ i l. let b : i < length ns = omega (arith, count-encode) in
      sym (ap node_of (row-encode i b) ∙ node_row i (node_at ns i) (s.allowed i b))))

  -- the cells of a sound arena are the layout of one
  pub encode-holds : Holds (encode ns)
  encode-holds = record {
    sized = length-encode;
    few = omega (arith, s.few, count-encode);
    coded = λ i l. let b : i < length ns = omega (arith, count-encode) in rw (row-encode i b) (row-coded i (node_at ns i) (s.allowed i b));
    rest = λ k l b. rest-encode k (omega (arith, count-encode));
    sound = rw decode-encode s;
  }

module _ (cells : List ℕ) (h : Holds cells) where
  -- each cell of a node is its row's
  cell_row : (i j : ℕ) → i < count cells → j < 11 → cell_of cells i j ≡ get_or (row (node_at (decode cells) i)) j 0
  cell_row i j l b = sym (rw (node-decode cells i l, h.coded i l) (at-row_of cells i j b))

  -- cells that are the layout of a sound arena are the layout of the arena in them
  pub coded-cells : encode (decode cells) ≡ cells
  coded-cells =
      sym (encode-is (decode cells) h.sound cells h.sized (sym (length-decode cells))
      (λ i j l b. cell_row i j (omega (arith, length-decode cells)) b) (λ k l b. h.rest k (omega (arith, length-decode cells)) b))

  -- a node of the cells may stand at its number
  row-allowed : (i : ℕ) → i < count cells → Allowed i (node_of (row_of cells i))
  row-allowed i l = rw (node-decode cells i l) at (h.sound.allowed i (omega (arith, length-decode cells)))

  -- each node of the cells passes the test
  node-lawful : (i : ℕ) → i < count cells → lawful_node cells i ≡ true
  unfolding lawful_node row_below
  node-lawful i l =
      and_both (subst (λ (r : List ℕ). lawful_row i r ≡ true) (h.coded i l) (row_lawful i (node_of (row_of cells i)) (row-allowed i l)))
      (rw (first-missing (λ (j : ℕ). same_row cells j (row_of cells i)) i (λ j b. new j b (same_row cells j (row_of cells i)) refl)))
    where
      new : (j : ℕ) → j < i → (b : Bool) → same_row cells j (row_of cells i) ≡ b → b ≡ false
      new j m true e =
          absurd (h.sound.distinct j i m (omega (arith, length-decode cells))
          (node-decode cells j (omega arith) ∙ ap node_of (same_row_lem cells j (row_of cells i) (length-row_of cells i) e) ∙ sym (node-decode cells i l)))
      new j m false e = refl

  -- the layout of a sound arena passes the test
  pub holds-lawful : lawful cells ≡ true
  unfolding lawful cells_unused
  holds-lawful =
      and_both (and_both (and_both (eq-eqb (length cells) 11265 h.sized) (le-leb (count cells) 1024 h.few))
      (each_all (λ (i : ℕ). lawful_node cells i) (count cells) node-lawful))
      (each_all (λ (k : ℕ). eqb (get_or cells (1 + 11 * count cells + k) 0) 0) (11264 - 11 * count cells)
      (λ k l. eq-eqb (get_or cells (1 + 11 * count cells + k) 0) 0 (h.rest (1 + 11 * count cells + k) (omega arith) (omega arith))))

-- no answer: nothing was found
not_some : (o : Option ℕ) → not (is_some o) ≡ true → o ≡ None
not_some None e = refl
not_some (Some i) e = absurd (true_not_false e refl)

module _ (cells : List ℕ) (e : lawful cells ≡ true) where
  -- the test of the cells says that they are 11,265, for at most 1,024 nodes
  lawful-counts : (length cells ≡ 11265) × (count cells ≤ 1024)
  unfolding lawful
  lawful-counts =
      let c : (eqb (length cells) 11265 && leb (count cells) 1024) ≡ true = and_left _ _ (and_left _ _ e) in
      (eqb-true (length cells) 11265 (and_left _ _ c), leb-true (count cells) 1024 (and_right (eqb (length cells) 11265) _ c))

  -- and that each node passes its own
  lawful-at : (i : ℕ) → i < count cells → lawful_node cells i ≡ true
  unfolding lawful
  lawful-at i l = each_holds (λ (j : ℕ). lawful_node cells j) (count cells) i (and_right (eqb (length cells) 11265 && leb (count cells) 1024) _ (and_left _ _ e)) l

  -- the node at a number is the layout of one that may stand there
  lawful_row-at : (i : ℕ) → i < count cells → LawfulRow i (row_of cells i)
  unfolding lawful_node
  lawful_row-at i l = lawful-row i (row_of cells i) (length-row_of cells i) (and_left (lawful_row i (row_of cells i)) (not (is_some (row_below cells i (row_of cells i)))) (lawful-at i l))

  -- the cells after the nodes are 0
  lawful-rest : (k : ℕ) → 1 + 11 * count cells ≤ k → k < 11265 → get_or cells k 0 ≡ 0
  unfolding lawful cells_unused
  lawful-rest k l b =
      let q : 1 + 11 * count cells + (k - (1 + 11 * count cells)) ≡ k = omega arith in
      rw q at (eqb-true (get_or cells (1 + 11 * count cells + (k - (1 + 11 * count cells))) 0) 0
      (each_holds (λ (j : ℕ). eqb (get_or cells (1 + 11 * count cells + j) 0) 0) (11264 - 11 * count cells) (k - (1 + 11 * count cells))
      (and_right (eqb (length cells) 11265 && leb (count cells) 1024 && each (λ (i : ℕ). lawful_node cells i) (count cells)) _ e) (omega arith)))

  -- no two nodes are equal
  lawful-distinct : (i j : ℕ) → i < j → j < count cells → node_of (row_of cells i) ≡ node_of (row_of cells j) → ⊥
  unfolding lawful_node row_below
  lawful-distinct i j b l q =
      true_not_false
      (row_same cells i (row_of cells j) (coded-same (row_of cells i) (row_of cells j) (lawful_row-at i (omega arith)).coded (lawful_row-at j l).coded q))
      (first-none (λ (k : ℕ). same_row cells k (row_of cells j)) j
      (not_some (first (λ (k : ℕ). same_row cells k (row_of cells j)) j) (and_right (lawful_row j (row_of cells j)) _ (lawful-at j l))) i b)

  -- cells that pass the test are the layout of a sound arena
  pub lawful-holds : Holds cells
  lawful-holds = record {
    sized = lawful-counts.0;
    few = lawful-counts.1;
    coded = λ i l. (lawful_row-at i l).coded;
    rest = lawful-rest;
    sound = record {
      few = omega (arith, lawful-counts.1, length-decode cells);
      allowed = λ i l. let b : i < count cells = omega (arith, length-decode cells) in rw (node-decode cells i b) (lawful_row-at i b).allowed;
      distinct = λ i j b l q. let c : j < count cells = omega (arith, length-decode cells) in
          lawful-distinct i j b c (sym (node-decode cells i (omega arith)) ∙ q ∙ node-decode cells j c);
    };
  }

-- the test passes exactly the layouts of sound arenas
pub lawful_exactly : (cells : List ℕ) → lawful cells ≡ true ↔ ((ns : List Node) × (Sound ns × (cells ≡ encode ns)))
lawful_exactly cells = (
  λ e. let h = lawful-holds cells e in (decode cells, (h.sound, sym (coded-cells cells h))),
  λ t. rw t.1.1 (holds-lawful (encode t.0) (encode-holds t.0 t.1.0)),
)

module _ (d : List ℕ) (at : ℕ) (s : List ℕ) (n : ℕ) (fits : at + n ≤ length d) (long : n ≤ length s) where
  -- an element before the pasted part is the old one
  paste-before : (k : ℕ) → k < at → get_or (paste d at s n) k 0 ≡ get_or d k 0
  paste-before k l =
      get_or-append (take at d ++ take n s) (drop (at + n) d) 0 k (omega (arith, length_paste_head d at s n (omega arith) long))
      ∙ get_or-append (take at d) (take n s) 0 k (omega (arith, length-take-le at d (omega arith)))
      ∙ get_or-take at d k 0 l

  -- an element of the pasted part is the other list's
  paste-inside : (k : ℕ) → k < n → get_or (paste d at s n) (at + k) 0 ≡ get_or s k 0
  paste-inside k l =
      let e : at + k - at ≡ k = omega arith in
      get_or-append (take at d ++ take n s) (drop (at + n) d) 0 (at + k) (omega (arith, length_paste_head d at s n (omega arith) long))
      ∙ get_d_past (take at d) (take n s) at (at + k) (length-take-le at d (omega arith)) (omega arith)
      ∙ rw e (get_or-take n s k 0 l)

  -- an element after the pasted part is the old one
  paste-after : (k : ℕ) → at + n ≤ k → get_or (paste d at s n) k 0 ≡ get_or d k 0
  paste-after k l =
      let e : at + n + (k - (at + n)) ≡ k = omega arith in
      get_d_past (take at d ++ take n s) (drop (at + n) d) (at + n) k (length_paste_head d at s n (omega arith) long) l
      ∙ get_or-drop (at + n) d (k - (at + n)) 0 ∙ ap (λ (m : ℕ). get_or d m 0) e

-- a row written after the nodes, and the count raised by one: the layout of the arena with the row's node added
pub append-cells : (cells r : List ℕ) → Holds cells → Coded r → Allowed (count cells) (node_of r) → Sound (decode cells ++ (node_of r ∷ []))
    → set (paste cells (1 + 11 * count cells) r 11) 0 (count cells + 1) ≡ encode (decode cells ++ (node_of r ∷ []))
append-cells cells r h c a s =
    encode-is one s (set pasted 0 (count cells + 1)) (length-set pasted 0 (count cells + 1) ∙ sized)
    (get_or-set_same pasted 0 (count cells + 1) 0 (omega (arith, sized)) ∙ sym longer)
    (λ i j l b. kept (1 + 11 * i + j) (omega arith) ∙ inside i j l b (ℕ_discrete i (count cells)))
    (λ k l b. kept k (omega arith) ∙ paste-after cells start r 11 fits long k (omega (arith, longer)) ∙ h.rest k (omega (arith, longer)) b)
  where
    one : List Node
    one = decode cells ++ (node_of r ∷ [])

    start : ℕ
    start = 1 + 11 * count cells

    longer : length one ≡ count cells + 1
    longer = omega (arith, length-append (decode cells) (node_of r ∷ []), length-decode cells)

    fits : start + 11 ≤ length cells
    fits = omega (arith, h.sized, s.few, longer)

    long : 11 ≤ length r
    long = omega (arith, coded-length (count cells) r c a)

    pasted : List ℕ
    pasted = paste cells start r 11

    sized : length pasted ≡ 11265
    sized = length-paste cells start r 11 fits long ∙ h.sized

    kept : (k : ℕ) → 0 < k → get_or (set pasted 0 (count cells + 1)) k 0 ≡ get_or pasted k 0
    kept k l = get_or-set_other pasted 0 k (count cells + 1) 0 (omega arith)

    inside : (i j : ℕ) → i < length one → j < 11 → Dec (i ≡ count cells) → get_or pasted (1 + 11 * i + j) 0 ≡ get_or (row (node_at one i)) j 0
    inside i j l b (yes q) =
        rw (q, get_or_at (decode cells) (node_of r) [] (literal 0) (count cells) (length-decode cells), c) (paste-inside cells start r 11 fits long j b)
    inside i j l b (no q) =
        let m : i < count cells = omega (arith, longer) in
        let n : i < length (decode cells) = omega (arith, length-decode cells) in
        rw (get_or-append (decode cells) (node_of r ∷ []) (literal 0) i n)
        (paste-before cells start r 11 fits long (1 + 11 * i + j) (omega arith) ∙ cell_row cells h i j m b)
