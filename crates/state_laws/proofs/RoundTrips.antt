-- A state that is written into cells and read from them is the state.
use Rattle.std.specs.Prelude.{if◌then◌else◌}
use Prim.Native.Nat.{ℕ, zero, suc, ◌+◌, ◌-◌, ◌*◌, ◌<◌, ◌≤◌}
use mathlib.Core.Bool.{Bool, true, false, not}
use mathlib.Core.List.{List, [], ◌∷◌, ◌++◌}
use mathlib.Core.Path.{◌≡◌, refl, sym, ap, ◌∙◌}
use native.Mathlib.Decide.{ℕ_discrete}
use native.Mathlib.Nat.{mul-le-mul_left}
use native.Mathlib.Omega.{arith}
use borrow.Author.Tests.{ne_eqb}
use lib.Dec.{eqb}
use lib.ListN.{length, get_or, length-append, get_or-append}
use lib.Seq.{get_or-append-add}
use Rattle.laws.specs.Lists.{table}
use Rattle.laws.proofs.Table.{table_is, table_cong}
use Rattle.classes.specs.declared.Group.{Group}
use Rattle.demands.proofs.Valid.{Tables}
use Rattle.orderings.specs.Layout.{row, place_in}
use Rattle.orderings.specs.declared.Orderings.{Orderings}
use Rattle.orderings.proofs.ListChecks.{Sized}
use Rattle.dependencies.specs.Layout.{unused, place_in as entry_in}
use Rattle.dependencies.specs.declared.DependencyMap.{DependencyMap}
use Rattle.dependencies.proofs.MapCodec.{Sized as MapSized}
use Rattle.states.specs.Cells.{part, in_row}
use Rattle.group_states.specs.Groups.{group_from, group_cells}
use Rattle.states.specs.Orders.{ordering_from, ordering_cells, orderings_from, orderings_cells}
use Rattle.states.specs.Maps.{node_from, target_cell, node_cells, map_from, map_cells}

-- ---- parts

-- cells that hold a list from one on
part-is : (cells xs : List ℕ) (at n : ℕ) → length xs ≡ n → ((k : ℕ) → k < n → get_or cells (at + k) 0 ≡ get_or xs k 0) → part cells at n ≡ xs
unfolding part
part-is cells xs at n e h = sym (table_is (λ k. get_or cells (at + k) 0) n xs 0 e (λ k l. sym (h k l)))

-- all cells
part-all : (xs : List ℕ) (n : ℕ) → length xs ≡ n → part xs 0 n ≡ xs
part-all xs n e = part-is xs xs 0 n e (λ k l. let q : 0 + k ≡ k = omega arith in ap (λ (m : ℕ). get_or xs m 0) q)

-- the first cells
part-first : (xs ys : List ℕ) (n : ℕ) → length xs ≡ n → part (xs ++ ys) 0 n ≡ xs
part-first xs ys n e =
    part-is (xs ++ ys) xs 0 n e
    (λ k l. let q : 0 + k ≡ k = omega arith in ap (λ (m : ℕ). get_or (xs ++ ys) m 0) q ∙ get_or-append xs ys 0 k (omega arith))

-- what stands before a part
part-after : (xs ys : List ℕ) (a at n : ℕ) → length xs ≡ a → part (xs ++ ys) (a + at) n ≡ part ys at n
unfolding part
part-after xs ys a at n e =
    table_cong (λ k. get_or (xs ++ ys) (a + at + k) 0) (λ k. get_or ys (at + k) 0) n
    (λ k l. let q : a + at + k ≡ length xs + (at + k) = omega arith in ap (λ (m : ℕ). get_or (xs ++ ys) m 0) q ∙ get_or-append-add xs ys (at + k) 0)

-- ---- a group

-- what is written is what is read, where the tables have their lengths
pub group-round : (g : Group) → Tables g → group_from (group_cells g) ≡ g
unfolding group_from group_cells
group-round g t = λ i. record { limit = g.limit; count = g.count; used = g.used; sizes = sizes i; flavours = flavours i; values = values i; members = members i }
  where
    head : List ℕ
    head = g.limit ∷ g.count ∷ g.used ∷ []

    late : List ℕ
    late = g.values ++ g.members

    later : List ℕ
    later = g.flavours ++ late

    sizes : part (head ++ (g.sizes ++ later)) 3 64 ≡ g.sizes
    sizes = part-after head (g.sizes ++ later) 3 0 64 refl ∙ part-first g.sizes later 64 t.sizes

    flavours : part (head ++ (g.sizes ++ later)) 67 64 ≡ g.flavours
    flavours = part-after head (g.sizes ++ later) 3 64 64 refl ∙ part-after g.sizes later 64 0 64 t.sizes ∙ part-first g.flavours late 64 t.flavours

    values : part (head ++ (g.sizes ++ later)) 131 64 ≡ g.values
    values =
        part-after head (g.sizes ++ later) 3 128 64 refl
        ∙ part-after g.sizes later 64 64 64 t.sizes
        ∙ part-after g.flavours late 64 0 64 t.flavours
        ∙ part-first g.values g.members 64 t.values

    members : part (head ++ (g.sizes ++ later)) 195 256 ≡ g.members
    members =
        part-after head (g.sizes ++ later) 3 192 256 refl
        ∙ part-after g.sizes later 64 128 256 t.sizes
        ∙ part-after g.flavours late 64 64 256 t.flavours
        ∙ part-after g.values g.members 64 0 256 t.values
        ∙ part-all g.members 256 t.members

-- ---- rows of one width, one directly after the other

module _ (f : ℕ → List ℕ) (w : ℕ) where
  -- as many cells as the rows have
  length-rows : (n : ℕ) → ((i : ℕ) → i < n → length (f i) ≡ w) → length (in_row f n) ≡ w * n
  unfolding in_row
  length-rows zero h = omega arith
  length-rows (suc n) h = omega (arith, length-append (in_row f n) (f n), length-rows n (λ i l. h i (omega arith)), h n (omega arith))

  -- a cell of a row
  at_rows : (n : ℕ) → ((i : ℕ) → i < n → length (f i) ≡ w) → (i j : ℕ) → i < n → j < w → get_or (in_row f n) (w * i + j) 0 ≡ get_or (f i) j 0
  unfolding in_row
  at_rows zero h i j l b = absurd (omega arith)
  at_rows (suc n) h i j l b = at (ℕ_discrete i n) (λ m. at_rows n (λ k c. h k (omega arith)) i j m b)
    where
      long : length (in_row f n) ≡ w * n
      long = length-rows n (λ k c. h k (omega arith))

      at : Dec (i ≡ n) → (i < n → get_or (in_row f n) (w * i + j) 0 ≡ get_or (f i) j 0) → get_or (in_row f n ++ f n) (w * i + j) 0 ≡ get_or (f i) j 0
      at (yes q) r =
          let s : w * n + j ≡ length (in_row f n) + j = omega (arith, long) in
          rw q (ap (λ (m : ℕ). get_or (in_row f n ++ f n) m 0) s ∙ get_or-append-add (in_row f n) (f n) j 0)
      at (no q) r =
          let m : i < n = omega arith in
          let p : w * suc i ≤ w * n = mul-le-mul_left w m in
          get_or-append (in_row f n) (f n) 0 (w * i + j) (omega (arith, long, p)) ∙ r m

-- rows after a count
module _ (f : ℕ → List ℕ) (c w n : ℕ) (h : (i : ℕ) → i < n → length (f i) ≡ w) where
  -- a cell of a row
  at-counted : (i j : ℕ) → i < n → j < w → (k : ℕ) → k ≡ 1 + w * i + j → get_or (c ∷ in_row f n) k 0 ≡ get_or (f i) j 0
  at-counted i j l b k e =
      let q : k ≡ suc (w * i + j) = omega arith in
      ap (λ (m : ℕ). get_or (c ∷ in_row f n) m 0) q ∙ at_rows f w n h i j l b

-- ---- a list of orderings

-- what is written is what is read, where there are 32 places of 16 keys
pub orderings-round : (g : Orderings) → Sized g → orderings_from (orderings_cells g) ≡ g
unfolding orderings_from orderings_cells ordering_from ordering_cells
orderings-round g z = λ t. record { count = g.count; list = same t }
  where
    cells : List ℕ
    cells = g.count ∷ in_row (λ i. ordering_cells (place_in g i)) 32

    wide : (i : ℕ) → i < 32 → length (ordering_cells (place_in g i)) ≡ 17
    wide i l = ap suc (z.keys i l)

    cell : (i j : ℕ) → i < 32 → j < 17 → (k : ℕ) → k ≡ 1 + 17 * i + j → get_or cells k 0 ≡ get_or (ordering_cells (place_in g i)) j 0
    cell = at-counted (λ i. ordering_cells (place_in g i)) g.count 17 32 wide

    size : (i : ℕ) → i < 32 → get_or cells (1 + 17 * i) 0 ≡ (place_in g i).size
    size i l = cell i 0 l (omega arith) (1 + 17 * i) (omega arith)

    keys : (i : ℕ) → i < 32 → part cells (1 + 17 * i + 1) 16 ≡ (place_in g i).keys
    keys i l = part-is cells (place_in g i).keys (1 + 17 * i + 1) 16 (z.keys i l) (λ k b. cell i (suc k) l (omega arith) (1 + 17 * i + 1 + k) (omega arith))

    place : (i : ℕ) → i < 32 → ordering_from cells (1 + 17 * i) ≡ place_in g i
    place i l = λ t. record { size = size i l t; keys = keys i l t }

    same : table (λ i. ordering_from cells (1 + 17 * i)) 32 ≡ g.list
    same = sym (table_is (λ i. ordering_from cells (1 + 17 * i)) 32 g.list (row []) z.places (λ i l. sym (place i l)))

-- ---- a dependency map

-- whether there is a target, from its cell
target_told : (b : Bool) (t : ℕ) → not (eqb (if b then t + 1 else 0) 0) ≡ b
target_told true t = ap not (ne_eqb (t + 1) 0 (λ e. omega arith))
target_told false t = refl

-- and its number, where none is 0
target-kept : (b : Bool) (t : ℕ) → (b ≡ false → t ≡ 0) → (if b then t + 1 else 0) - 1 ≡ t
target-kept true t h = omega arith
target-kept false t h = sym (h refl)

-- what is written is what is read, where there are 64 places of 16 dependencies and a target that is not there is 0
pub map-round : (m : DependencyMap) → MapSized m → ((i : ℕ) → i < 64 → (entry_in m i).projected ≡ false → (entry_in m i).target ≡ 0) → map_from (map_cells m) ≡ m
unfolding map_from map_cells node_from node_cells target_cell
map-round m z bare = λ t. record { count = m.count; list = same t }
  where
    cells : List ℕ
    cells = m.count ∷ in_row (λ i. node_cells (entry_in m i)) 64

    wide : (i : ℕ) → i < 64 → length (node_cells (entry_in m i)) ≡ 19
    wide i l = ap (λ (n : ℕ). suc (suc (suc n))) (z.dependencies i l)

    cell : (i j : ℕ) → i < 64 → j < 19 → (k : ℕ) → k ≡ 1 + 19 * i + j → get_or cells k 0 ≡ get_or (node_cells (entry_in m i)) j 0
    cell = at-counted (λ i. node_cells (entry_in m i)) m.count 19 64 wide

    key : (i : ℕ) → i < 64 → get_or cells (1 + 19 * i) 0 ≡ (entry_in m i).key
    key i l = cell i 0 l (omega arith) (1 + 19 * i) (omega arith)

    told : (i : ℕ) → i < 64 → get_or cells (1 + 19 * i + 1) 0 ≡ target_cell (entry_in m i)
    told i l = cell i 1 l (omega arith) (1 + 19 * i + 1) refl

    projected : (i : ℕ) → i < 64 → not (eqb (get_or cells (1 + 19 * i + 1) 0) 0) ≡ (entry_in m i).projected
    projected i l = ap (λ (x : ℕ). not (eqb x 0)) (told i l) ∙ target_told (entry_in m i).projected (entry_in m i).target

    target : (i : ℕ) → i < 64 → get_or cells (1 + 19 * i + 1) 0 - 1 ≡ (entry_in m i).target
    target i l = ap (λ (x : ℕ). x - 1) (told i l) ∙ target-kept (entry_in m i).projected (entry_in m i).target (bare i l)

    size : (i : ℕ) → i < 64 → get_or cells (1 + 19 * i + 2) 0 ≡ (entry_in m i).size
    size i l = cell i 2 l (omega arith) (1 + 19 * i + 2) refl

    dependencies : (i : ℕ) → i < 64 → part cells (1 + 19 * i + 3) 16 ≡ (entry_in m i).dependencies
    dependencies i l =
        part-is cells (entry_in m i).dependencies (1 + 19 * i + 3) 16 (z.dependencies i l)
        (λ k b. cell i (suc (suc (suc k))) l (omega arith) (1 + 19 * i + 3 + k) (omega arith))

    place : (i : ℕ) → i < 64 → node_from cells (1 + 19 * i) ≡ entry_in m i
    place i l = λ t. record { key = key i l t; projected = projected i l t; target = target i l t; size = size i l t; dependencies = dependencies i l t }

    same : table (λ i. node_from cells (1 + 19 * i)) 64 ≡ m.list
    same = sym (table_is (λ i. node_from cells (1 + 19 * i)) 64 m.list unused z.places (λ i l. sym (place i l)))
