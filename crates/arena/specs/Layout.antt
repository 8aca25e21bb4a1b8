-- How an arena lies in the lent cells, and which cells are an arena. The one file that speaks of cells.
-- There are 11,265 cells of 32 bits. Cell 0 is the number of nodes. Node i has the 11 cells from 1 + 11·i on: its kind (1 column, 2 literal, 3 operation),
-- its payload (of a column name · 65,536 + index, of a literal the value, of an operation the label), the number of its children, and 8 places for them. Every other cell is 0.
use Rattle.std.specs.Prelude.{ℕ, ◌+◌, ◌-◌, ◌*◌, ◌/◌, ◌%◌, Bool, false, not, ◌&&◌, List, [], ◌∷◌, ◌++◌, eqb, ltb, leb, length, get_or, replicate, if◌then◌else◌, Option, is_some}
use Rattle.laws.specs.Tests.{each, first}
use Rattle.laws.specs.Lists.{table}
use Rattle.arena.specs.Node.{Node, column, literal, operation}

-- the 11 cells of a node
unfoldable pub row : Node → List ℕ
row (column name index) = 1 ∷ (name * 65536 + index) ∷ 0 ∷ replicate 8 0
row (literal value) = 2 ∷ value ∷ 0 ∷ replicate 8 0
row (operation label children) = 3 ∷ label ∷ length children ∷ (children ++ replicate (8 - length children) 0)

-- the cells of nodes, one after the other
unfoldable pub rows : List Node → List ℕ
rows [] = []
rows (n ∷ ns) = row n ++ rows ns

-- the cells of an arena
unfoldable pub encode : List Node → List ℕ
encode ns = length ns ∷ (rows ns ++ replicate (11264 - 11 * length ns) 0)

-- the node count in the cells
abbrev pub count : List ℕ → ℕ
count cells = get_or cells 0 0

-- cell j of node i
abbrev pub cell_of : List ℕ → ℕ → ℕ → ℕ
cell_of cells i j = get_or cells (1 + 11 * i + j) 0

-- the 11 cells of node i
unfoldable pub row_of : List ℕ → ℕ → List ℕ
row_of cells i = table (λ j. cell_of cells i j) 11

-- the children that a row names
unfoldable pub children_of : List ℕ → List ℕ
children_of r = table (λ k. get_or r (3 + k) 0) (get_or r 2 0)

-- the node that a row is
unfoldable pub node_of : List ℕ → Node
node_of r =
    if eqb (get_or r 0 0) 1 then column (get_or r 1 0 / 65536) (get_or r 1 0 % 65536) else
    (if eqb (get_or r 0 0) 2 then literal (get_or r 1 0) else
    operation (get_or r 1 0) (children_of r))

-- the arena in the cells
unfoldable pub decode : List ℕ → List Node
decode cells = table (λ i. node_of (row_of cells i)) (count cells)

-- cell j of node i is cell j of the row, for each of the 11
unfoldable pub same_row : List ℕ → ℕ → List ℕ → Bool
same_row cells i r = each (λ j. eqb (cell_of cells i j) (get_or r j 0)) 11

-- a node below number n has this row
unfoldable pub row_below : List ℕ → ℕ → List ℕ → Option ℕ
row_below cells n r = first (λ i. same_row cells i r) n

-- how many children a node of a kind may have: none on a leaf, at most 8 on an operation; and there are three kinds
unfoldable pub lawful_kind : ℕ → ℕ → Bool
lawful_kind kind children =
    if eqb kind 1 then eqb children 0 else
    (if eqb kind 2 then eqb children 0 else
    (if eqb kind 3 then leb children 8 else false))

-- the first n children of a row are below i
unfoldable pub children_below : ℕ → ℕ → List ℕ → Bool
children_below i n r = each (λ k. ltb (get_or r (3 + k) 0) i) n

-- the places for children after the first n are 0
unfoldable pub places_unused : ℕ → List ℕ → Bool
places_unused n r = each (λ k. eqb (get_or r (3 + n + k) 0) 0) (8 - n)

-- a row may stand at number i: a lawful kind, each child below i, unused places 0
unfoldable pub lawful_row : ℕ → List ℕ → Bool
lawful_row i r = lawful_kind (get_or r 0 0) (get_or r 2 0) && children_below i (get_or r 2 0) r && places_unused (get_or r 2 0) r

-- node i is lawful, and no earlier node equals it
unfoldable pub lawful_node : List ℕ → ℕ → Bool
lawful_node cells i = lawful_row i (row_of cells i) && not (is_some (row_below cells i (row_of cells i)))

-- the cells after the first n nodes are 0
unfoldable pub cells_unused : ℕ → List ℕ → Bool
cells_unused n cells = each (λ k. eqb (get_or cells (1 + 11 * n + k) 0) 0) (11264 - 11 * n)

-- document 01's rule 11 for a lent arena: the count within its bound, each node lawful, each unused cell 0
unfoldable pub lawful : List ℕ → Bool
lawful cells =
    eqb (length cells) 11265
    && leb (count cells) 1024
    && each (λ i. lawful_node cells i) (count cells)
    && cells_unused (count cells) cells
