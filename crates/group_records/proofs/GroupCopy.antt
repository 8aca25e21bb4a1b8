-- What the loops that write a group's tables have written: members one class after the other, and the columns.
use Prim.Native.Nat.{ℕ, ◌+◌, ◌-◌, ◌*◌, ◌<◌, ◌≤◌}
use mathlib.Core.Bool.{true}
use mathlib.Core.List.{List, [], ◌∷◌, ◌++◌, map, map-append, append-nil}
use mathlib.Core.Path.{◌≡◌, refl, sym, ap, ◌∙◌, subst}
use native.Mathlib.Decide.{dec_lt}
use native.Mathlib.Numerals.{add-one}
use native.Mathlib.Omega.{arith}
use lib.ListN.{length, get_or, take, drop, set, replicate, length-append, length-set, length-map, get_or-append}
use Rattle.std.proofs.lemmas.List.{drop-replicate}
use lib.Seq.{paste, paste-zero, paste-suc, length-paste, take-paste, take-suc, take_all, length-take-le, get_or-append-add}
use Rattle.laws.proofs.Each.{each_holds}
use Rattle.classes.specs.Class.{Class}
use Rattle.classes.specs.Group.{total}
use Rattle.classes.specs.Good.{flat}
use Rattle.classes.specs.Layout.{encode, padded, known_flavour}
use Rattle.classes.specs.declared.Group.{Group}
use Rattle.classes.proofs.Marks.{flavour-back, value-back}
use Rattle.classes.proofs.Codec.{size_of, flavour_in, value_in, snoc_padded, flat_append}
use Rattle.records.specs.Fields.{field, fields}
use Rattle.records.specs.Record.{AllBelow}
use Rattle.group_records.specs.GroupRecord.{Given, class_meant, given_in, flavours_known, members_given}
use Rattle.group_records.specs.Inner.{given_of, Shaped, Before, columns_of}
use Rattle.group_records.proofs.GroupWalk.{Turn, turn, at_fields, length_fields}

-- the first k members of a class are copied to the end of a list
pub record Copied (list₀ : List ℕ) (used : ℕ) (body : List ℕ) (at m : ℕ) (list : List ℕ) (k : ℕ) : Type 0 where
  pub below : k ≤ m
  pub long : length list ≡ 32768
  pub is : list ≡ paste list₀ used (fields body at m) k
  pub low : (i : ℕ) → i < k → get_or (fields body at m) i 0 < 65536

module _ (list₀ : List ℕ) (used : ℕ) (body : List ℕ) (at m : ℕ) where
  pub copied_none : length list₀ ≡ 32768 → Copied list₀ used body at m list₀ 0
  copied_none l = record { below = omega arith; long = l; is = paste-zero list₀ used (fields body at m); low = λ i b. absurd (omega arith) }

  pub copied_more : (list : List ℕ) (k v : ℕ) → length list₀ ≡ 32768 → used + m ≤ 32768 → Copied list₀ used body at m list k → k < m → v ≡ field body (at + 2 * k) → v < 65536
      → Copied list₀ used body at m (set list (used + k) v) (k + 1)
  copied_more list k v l r c b e h =
      let n : length (fields body at m) ≡ m = length_fields body at m in
      let w : v ≡ get_or (fields body at m) k 0 = e ∙ sym (at_fields body at m k b) in
      record {
        below = omega arith;
        long = length-set list (used + k) v ∙ c.long;
        is =
            ap (λ (x : List ℕ). set x (used + k) v) c.is
            ∙ ap (λ (x : ℕ). set (paste list₀ used (fields body at m) k) (used + k) x) w
            ∙ paste-suc list₀ used (fields body at m) k 0 (omega arith) (omega arith)
            ∙ ap (paste list₀ used (fields body at m)) (sym (add-one k));
        low = λ i i<. one i i< (dec_lt i k);
      }
    where
      one : (i : ℕ) → i < k + 1 → Dec (i < k) → get_or (fields body at m) i 0 < 65536
      one i i< (yes q) = c.low i q
      one i i< (no q) =
          let s : i ≡ k = omega arith in
          let t : get_or (fields body at m) i 0 ≡ v = ap (λ (x : ℕ). get_or (fields body at m) x 0) s ∙ at_fields body at m k b ∙ sym e in
          omega arith

  pub copied_all : (list : List ℕ) (k : ℕ) → Copied list₀ used body at m list k → m ≤ k → (list ≡ paste list₀ used (fields body at m) m) × AllBelow 65536 (fields body at m)
  copied_all list k c l =
      let e : k ≡ m = omega (arith, c.below) in
      (c.is ∙ ap (paste list₀ used (fields body at m)) e, λ i b. c.low i (omega (arith, b, length_fields body at m)))

-- one class more
given-more : (gs : List Given) (j : ℕ) → j < length gs → take (j + 1) gs ≡ take j gs ++ (given_in gs j ∷ [])
given-more gs j l = ap (λ (k : ℕ). take k gs) (add-one j) ∙ take-suc gs j (record { flavour = 0; value = 0; members = [] }) l

meant_more : (gs : List Given) (j : ℕ) → j < length gs → map class_meant (take (j + 1) gs) ≡ map class_meant (take j gs) ++ (class_meant (given_in gs j) ∷ [])
meant_more gs j l = ap (map class_meant) (given-more gs j l) ∙ map-append class_meant (take j gs) (given_in gs j ∷ [])

pub members-more : (gs : List Given) (j : ℕ) → j < length gs → members_given (take (j + 1) gs) ≡ members_given (take j gs) ++ (given_in gs j).members
unfolding flat class_meant
members-more gs j l =
    ap flat (meant_more gs j l)
    ∙ flat_append (map class_meant (take j gs)) (class_meant (given_in gs j) ∷ [])
    ∙ ap (λ (ms : List ℕ). members_given (take j gs) ++ ms) (append-nil (given_in gs j).members)

-- every number of two lists is below a bound
pub both_below : (b : ℕ) (xs ys : List ℕ) → AllBelow b xs → AllBelow b ys → AllBelow b (xs ++ ys)
both_below b xs ys p q k l = at (dec_lt k (length xs))
  where
    at : Dec (k < length xs) → get_or (xs ++ ys) k 0 < b
    at (yes s) = omega (arith, get_or-append xs ys 0 k s, p k s)
    at (no s) =
        let i : ℕ = k - length xs in
        let e : length xs + (k - length xs) ≡ k = omega arith in
        let r : get_or (xs ++ ys) (length xs + (k - length xs)) 0 ≡ get_or ys (k - length xs) 0 = get_or-append-add xs ys (k - length xs) 0 in
        let g : get_or ys (k - length xs) 0 < b = q (k - length xs) (omega (arith, l, length-append xs ys)) in
        subst (λ (x : ℕ). get_or (xs ++ ys) x 0 < b) e (omega arith)

-- the members of the first j classes are gathered at the start of a list
pub record Gathered (gs : List Given) (list : List ℕ) (used at j : ℕ) : Type 0 where
  pub long : length list ≡ 32768
  pub size : used ≡ length (members_given (take j gs))
  pub is : take used list ≡ members_given (take j gs)
  pub room : 2 * used + 2 ≤ at
  pub low : AllBelow 65536 (members_given (take j gs))

pub gathered_none : (gs : List Given) (list : List ℕ) → length list ≡ 32768 → Gathered gs list 0 2 0
unfolding flat
gathered_none gs list l = record { long = l; size = refl; is = refl; room = omega arith; low = λ i b. absurd (omega arith) }

pub gathered_more : (gs : List Given) (list after body : List ℕ) (used at j m : ℕ) → Gathered gs list used at j → j < length gs → used + m ≤ 32768
    → (given_in gs j).members ≡ fields body (at + 8) m → after ≡ paste list used (fields body (at + 8) m) m → AllBelow 65536 (fields body (at + 8) m)
    → Gathered gs after (used + m) (at + (8 + 2 * m)) (j + 1)
gathered_more gs list after body used at j m g l r e p q =
    let ms : List ℕ = fields body (at + 8) m in
    let n : length (fields body (at + 8) m) ≡ m = length_fields body (at + 8) m in
    let more : members_given (take (j + 1) gs) ≡ members_given (take j gs) ++ fields body (at + 8) m = members-more gs j l ∙ ap (λ (x : List ℕ). members_given (take j gs) ++ x) e in
    let u : used ≤ length list = omega (arith, r, g.long) in
    let k : m ≤ length (fields body (at + 8) m) = omega arith in
    record {
      long = ap length p ∙ length-paste list used (fields body (at + 8) m) m (omega (arith, r, g.long)) k ∙ g.long;
      size = omega (arith, g.size, n, ap length more, length-append (members_given (take j gs)) (fields body (at + 8) m));
      is =
          ap (take (used + m)) p
          ∙ take-paste list used (fields body (at + 8) m) m u k
          ∙ ap (λ (x : List ℕ). x ++ take m (fields body (at + 8) m)) g.is
          ∙ ap (λ (x : List ℕ). members_given (take j gs) ++ x) (take_all m (fields body (at + 8) m) (omega arith))
          ∙ sym more;
      room = omega (arith, g.room);
      low = subst (AllBelow 65536) (sym more) (both_below 65536 (members_given (take j gs)) (fields body (at + 8) m) g.low q);
    }

-- the next class, of m members: it stands whole in the body, and its members fit the list
pub record Fitting (body : List ℕ) (used at j m : ℕ) : Type 0 where
  pub here : j < length (given_of body)
  pub turns : Turn body j at
  pub room : used + m ≤ 32768
  pub whole : at + 8 + 2 * m ≤ length body
  pub short : length body ≤ 65535

-- so it is at each class that the walk has not passed
pub fitting : (body list : List ℕ) (used at j m n : ℕ) → Shaped body → Before body j at → Gathered (given_of body) list used at j → j < n → n ≡ length (given_of body) → m ≡ field body (at + 6)
    → Fitting body used at j m
fitting body list used at j m n s b g l e q =
    let k : j < length (given_of body) = omega (arith, l, e) in
    let t : Turn body j at = turn body j at b k in
    record {
      here = k;
      turns = t;
      room = omega (arith, q, t.whole, g.room, s.short);
      whole = omega (arith, q, t.whole);
      short = s.short;
    }

pub gathered_all : (gs : List Given) (list : List ℕ) (used at j : ℕ) → Gathered gs list used at j → length gs ≤ j → used ≤ 32768
    → ((length list ≡ 32768) × (used ≤ 32768)) × ((take used list ≡ members_given gs) × AllBelow 65536 (members_given gs))
gathered_all gs list used at j g l b =
    let e : members_given (take j gs) ≡ members_given gs = ap members_given (take_all j gs l) in
    ((g.long, b), (g.is ∙ e, subst (AllBelow 65536) e g.low))

-- a list copied into the front of a table of members
pub table-all : (numbers : List ℕ) → numbers ++ drop (length numbers) (replicate 256 0) ≡ padded 256 numbers
unfolding padded
table-all numbers = ap (λ (t : List ℕ). numbers ++ t) (drop-replicate (length numbers) 256 0)

-- the columns of the first j classes are written
abbrev column_to : (Class → ℕ) → List Given → ℕ → List ℕ
column_to f gs j = padded 64 (map f (map class_meant (take j gs)))

pub record Columns (gs : List Given) (g : Group) (j : ℕ) : Type 0 where
  pub limit : g.limit ≡ 256
  pub used : g.used ≡ 0
  pub sizes : g.sizes ≡ column_to size_of gs j
  pub flavours : g.flavours ≡ column_to flavour_in gs j
  pub values : g.values ≡ column_to value_in gs j
  pub members : g.members ≡ padded 256 []

pub columns-none : (gs : List Given) (g : Group) → g ≡ encode 256 [] → Columns gs g 0
unfolding encode flat total
columns-none gs g e =
    record {
      limit = ap (λ (x : Group). x.limit) e;
      used = ap (λ (x : Group). x.used) e;
      sizes = ap (λ (x : Group). x.sizes) e;
      flavours = ap (λ (x : Group). x.flavours) e;
      values = ap (λ (x : Group). x.values) e;
      members = ap (λ (x : Group). x.members) e;
    }

column-more : (f : Class → ℕ) (gs : List Given) (xs : List ℕ) (j x : ℕ) → length gs ≤ 64 → j < length gs → xs ≡ column_to f gs j → x ≡ f (class_meant (given_in gs j)) → set xs j x ≡ column_to f gs (j + 1)
column-more f gs xs j x l b e q =
    let n : length (map f (map class_meant (take j gs))) ≡ j = length-map (map class_meant (take j gs)) f ∙ length-map (take j gs) class_meant ∙ length-take-le j gs (omega arith) in
    ap (λ (y : List ℕ). set y j x) e
    ∙ ap (λ (i : ℕ). set (column_to f gs j) i x) (sym n)
    ∙ snoc_padded 64 (map f (map class_meant (take j gs))) x (omega arith)
    ∙ ap (λ (y : ℕ). padded 64 (map f (map class_meant (take j gs)) ++ (y ∷ []))) q
    ∙ ap (padded 64) (sym (ap (map f) (meant_more gs j b) ∙ map-append f (map class_meant (take j gs)) (class_meant (given_in gs j) ∷ [])))

module _ (gs : List Given) (g : Group) (j : ℕ) (few : length gs ≤ 64) (known : flavours_known gs ≡ true) (b : j < length gs) (c : Columns gs g j) where
  known-here : known_flavour (given_in gs j).flavour (given_in gs j).value ≡ true
  unfolding flavours_known
  known-here = each_holds (λ j. known_flavour (given_in gs j).flavour (given_in gs j).value) (length gs) j known b

  pub columns-more : (m f v : ℕ) → m ≡ length (given_in gs j).members → f ≡ (given_in gs j).flavour → v ≡ (given_in gs j).value
      → Columns gs (record { limit = g.limit; count = g.count; used = g.used; sizes = set g.sizes j m; flavours = set g.flavours j f; values = set g.values j v; members = g.members }) (j + 1)
  unfolding class_meant
  columns-more m f v p q r =
      record {
        limit = c.limit;
        used = c.used;
        sizes = column-more size_of gs g.sizes j m few b c.sizes p;
        flavours = column-more flavour_in gs g.flavours j f few b c.flavours (q ∙ sym (flavour-back (given_in gs j).flavour (given_in gs j).value known-here));
        values = column-more value_in gs g.values j v few b c.values (r ∙ sym (value-back (given_in gs j).flavour (given_in gs j).value known-here));
        members = c.members;
      }

pub columns-all : (gs : List Given) (g : Group) (j n : ℕ) → length gs ≤ j → n ≡ length gs → Columns gs g j
    → record { limit = g.limit; count = n; used = g.used; sizes = g.sizes; flavours = g.flavours; values = g.values; members = g.members } ≡ columns_of gs
unfolding columns_of encode
columns-all gs g j n l e c =
    λ i. record {
      limit = c.limit i;
      count = (e ∙ sym (length-map gs class_meant)) i;
      used = c.used i;
      sizes = (c.sizes ∙ all size_of) i;
      flavours = (c.flavours ∙ all flavour_in) i;
      values = (c.values ∙ all value_in) i;
      members = c.members i;
    }
  where
    all : (f : Class → ℕ) → column_to f gs j ≡ padded 64 (map f (map class_meant gs))
    all f = ap (λ (hs : List Given). padded 64 (map f (map class_meant hs))) (take_all j gs l)
