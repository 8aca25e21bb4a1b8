-- A group of one class of one member, and the constant that a node carries.
use Rattle.arena.specs.declared.Read.TheVariants.{Column, Literal, Operation}
use Rattle.arena.specs.declared.Read.{Read}
use Prim.Native.Nat.{ℕ, ◌<◌}
use mathlib.Core.List.{List, [], ◌∷◌}
use mathlib.Core.Path.{◌≡◌, refl, sym, ap, ◌∙◌, subst}
use native.Mathlib.Omega.{arith}
use lib.ListN.{get_or, set}
use Rattle.arena.specs.Node.{Node, node_at, column, literal, operation}
use Rattle.arena.specs.Calls.{read_of}
use Rattle.classes.specs.Class.{Constant, no_constant, known, Class, carried, single}
use Rattle.classes.specs.Group.{class_at, total}
use Rattle.classes.specs.Good.{flat}
use Rattle.classes.specs.Layout.{flavour_of, value_of, encode, decode, padded}
use Rattle.classes.specs.Inner.{Coded}
use Rattle.classes.specs.declared.Group.{Group}
use Rattle.classes.proofs.Codec.{size-encode, decode-encode, coded-encode, snoc_padded}

-- a class of one member
abbrev pub alone : ℕ → Constant → Class
alone e c = record { members = e ∷ []; constant = c }

module _ (one : Group) (e : ℕ) (c : Constant) (p : one ≡ encode 256 (alone e c ∷ [])) where
  pub one-coded : Coded one
  unfolding total
  one-coded = subst Coded (sym p) (coded-encode 256 (alone e c ∷ []) (omega arith) (omega arith))

  pub one-count : 0 < one.count
  unfolding encode
  one-count = omega (arith, ap (λ (h : Group). h.count) p)

  pub one_size : get_or one.sizes 0 0 ≡ 1
  one_size = ap (λ (h : Group). get_or h.sizes 0 0) p ∙ size-encode 256 (alone e c ∷ []) 0

  pub one-is : class_at (decode one) 0 ≡ alone e c
  one-is = ap (λ (h : Group). class_at (decode h) 0) p ∙ ap (λ (cs : List Class). class_at cs 0) (decode-encode 256 (alone e c ∷ []))

-- the constant that a node carries, by what is read of it
pub carried-literal : (n : Node) (v : ℕ) → read_of n ≡ Literal v → known v ≡ carried n
unfolding read_of carried
carried-literal (column a b) v e = absurd (let z : ◌≡◌ {A = ℕ} 0 1 = cc in omega arith)
carried-literal (literal w) v e = let q : v ≡ w = cc in ap known q
carried-literal (operation l k) v e = absurd (let z : ◌≡◌ {A = ℕ} 0 1 = cc in omega arith)

pub carried-column : (n : Node) (a b : ℕ) → read_of n ≡ Column a b → no_constant ≡ carried n
unfolding read_of carried
carried-column (column c d) a b e = refl
carried-column (literal w) a b e = absurd (let z : ◌≡◌ {A = ℕ} 0 1 = cc in omega arith)
carried-column (operation l k) a b e = refl

pub carried-operation : (n : Node) (a b : ℕ) → read_of n ≡ Operation a b → no_constant ≡ carried n
unfolding read_of carried
carried-operation (column c d) a b e = refl
carried-operation (literal w) a b e = absurd (let z : ◌≡◌ {A = ℕ} 0 1 = cc in omega arith)
carried-operation (operation l k) a b e = refl

-- a node is read at its number
pub read_back : (ns : List Node) (e w : ℕ) (r : Read) → w ≡ e → r ≡ read_of (node_at ns w) → r ≡ read_of (node_at ns e)
read_back ns e w r p q = q ∙ ap (λ (n : ℕ). read_of (node_at ns n)) p

-- the stores into the empty group
pub one-built : (g : Group) (e f v : ℕ) (k : Constant) → g ≡ encode 256 [] → f ≡ flavour_of k → v ≡ value_of k
    → ◌≡◌ {A = Group} (record { limit = g.limit; count = 1; used = 1; sizes = set g.sizes 0 1; flavours = set g.flavours 0 f; values = set g.values 0 v; members = set g.members 0 e })
    (encode 256 (alone e k ∷ []))
unfolding encode total flat
one-built g e f v k p q r =
    let l : g.limit ≡ 256 = ap (λ (h : Group). h.limit) p in
    let s : set g.sizes 0 1 ≡ padded 64 (1 ∷ []) = ap (λ (h : Group). set h.sizes 0 1) p ∙ snoc_padded 64 [] 1 (omega arith) in
    let a : set g.flavours 0 f ≡ padded 64 (flavour_of k ∷ []) = ap (λ (h : Group). set h.flavours 0 f) p ∙ ap (set (padded 64 []) 0) q ∙ snoc_padded 64 [] (flavour_of k) (omega arith) in
    let w : set g.values 0 v ≡ padded 64 (value_of k ∷ []) = ap (λ (h : Group). set h.values 0 v) p ∙ ap (set (padded 64 []) 0) r ∙ snoc_padded 64 [] (value_of k) (omega arith) in
    let x : set g.members 0 e ≡ padded 256 (e ∷ []) = ap (λ (h : Group). set h.members 0 e) p ∙ snoc_padded 256 [] e (omega arith) in
    (λ i. record { limit = l i; count = 1; used = 1; sizes = s i; flavours = a i; values = w i; members = x i })

-- an expression as a class of one
pub single-is : (ns : List Node) (e : ℕ) (k : Constant) (r : Group) → k ≡ carried (node_at ns e) → r ≡ encode 256 (alone e k ∷ []) → r ≡ encode 256 (single ns e ∷ [])
unfolding single
single-is ns e k r p q = q ∙ ap (λ (c : Constant). encode 256 (alone e c ∷ [])) p
