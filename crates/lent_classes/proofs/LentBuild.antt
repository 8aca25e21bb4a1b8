-- A lent list as a group that is built class by class.
use Prim.Native.Nat.{ℕ, ◌+◌, ◌<◌, ◌≤◌}
use mathlib.Core.Bool.{true}
use mathlib.Core.List.{List, [], ◌∷◌, ◌++◌, append_assoc, append-nil}
use mathlib.Core.Path.{◌≡◌, refl, sym, ap, ap₂, ◌∙◌}
use native.Mathlib.Omega.{arith}
use lib.ListN.{length, get_or, take, drop, set, length-append, length-drop}
use lib.Seq.{paste, length-take-le, get_or-take, get_or-drop}
use Rattle.laws.proofs.Table.{table_is}
use Rattle.classes.specs.Class.{Class}
use Rattle.classes.specs.Group.{class_at, total}
use Rattle.classes.specs.Steps.{fits}
use Rattle.classes.specs.Layout.{encode, sum_to, decode}
use Rattle.classes.specs.Inner.{Coded, Room}
use Rattle.classes.specs.declared.Group.{Group}
use Rattle.classes.proofs.Marks.{flavour-back, value-back}
use Rattle.classes.proofs.Places.{total-more}
use Rattle.classes.proofs.Codec.{size-encode, flavour-encode, value-encode, decode-encode, coded-encode, built-limit, built-classes, built-coded, length-decode, used-is, members-cut}
use Rattle.classes.proofs.Rebuilding.{add-made}
use Rattle.lent_classes.specs.Lent.{flavour_lent, value_lent, size_lent, member_lent, each_from, known_at, flavours_known, whole, class_lent, classes_from, classes_lent}
use Rattle.lent_classes.specs.Inner.{At}
use Rattle.lent_classes.proofs.LentParts.{WholeAt, classes_end, classes-next, passes-here, passes_on, whole-at}
use Rattle.lent_classes.proofs.ListCounts.{total-append, fits-few, fits-small, size-lent, count_next, total-next}

-- the class at a place, as a group of its own from which it is copied
module _ (numbers : List ℕ) (at : ℕ) where
  abbrev alone : Group
  alone = encode 256 (class_lent numbers at ∷ [])

  size-alone : get_or alone.sizes 0 0 ≡ size_lent numbers at
  size-alone = size-encode 256 (class_lent numbers at ∷ []) 0 ∙ size-lent numbers at

  flavour-alone : known_at numbers at ≡ true → get_or alone.flavours 0 0 ≡ flavour_lent numbers at
  unfolding known_at class_lent
  flavour-alone k = flavour-encode 256 (class_lent numbers at ∷ []) 0 ∙ flavour-back (flavour_lent numbers at) (value_lent numbers at) k

  value-alone : known_at numbers at ≡ true → get_or alone.values 0 0 ≡ value_lent numbers at
  unfolding known_at class_lent
  value-alone k = value-encode 256 (class_lent numbers at ∷ []) 0 ∙ value-back (flavour_lent numbers at) (value_lent numbers at) k

  class-alone : class_at (decode alone) 0 ≡ class_lent numbers at
  class-alone = ap (λ (cs : List Class). class_at cs 0) (decode-encode 256 (class_lent numbers at ∷ []))

  coded-alone : size_lent numbers at ≤ 256 → Coded alone
  unfolding total
  coded-alone l = coded-encode 256 (class_lent numbers at ∷ []) (omega arith) (omega (arith, size-lent numbers at))

  -- it starts at 0
  start-alone : 0 ≡ sum_to alone.sizes 0
  unfolding sum_to
  start-alone = refl

  -- its members, cut from the list
  cut-lent : At numbers at → take (size_lent numbers at) (drop (at + 3) numbers) ≡ (class_lent numbers at).members
  unfolding class_lent
  cut-lent v =
      table_is (λ k. member_lent numbers at k) (size_lent numbers at) (take (size_lent numbers at) (drop (at + 3) numbers)) 0
      (length-take-le (size_lent numbers at) (drop (at + 3) numbers) (omega (arith, length-drop (at + 3) numbers, v.ends)))
      (λ k b. get_or-take (size_lent numbers at) (drop (at + 3) numbers) k 0 b ∙ get_or-drop (at + 3) numbers k 0)

  -- and from its group
  cut-alone : size_lent numbers at ≤ 256 → take (size_lent numbers at) (drop 0 alone.members) ≡ (class_lent numbers at).members
  unfolding sum_to
  cut-alone l =
      let e : length (class_at (decode alone) 0).members ≡ size_lent numbers at = ap (λ (c : Class). length c.members) class-alone ∙ size-lent numbers at in
      ap (λ (n : ℕ). take n (drop 0 alone.members)) (sym e) ∙ members-cut alone (coded-alone l) 0 ∙ ap (λ (c : Class). c.members) class-alone

-- a group with the class at a place of a lent list at its end
module _ (out : Group) (numbers : List ℕ) (at : ℕ) (v : Coded out) (room : out.used + size_lent numbers at ≤ 256) (here : At numbers at) (known : known_at numbers at ≡ true) where
  room-alone : Room out (alone numbers at) 0
  unfolding encode
  room-alone = record { out-coded = v; src_coded = coded-alone numbers at (omega arith); there = omega arith; members = omega (arith, size-alone numbers at) }

  pub lent-made : (size flavour value : ℕ) (ms : List ℕ) → out.count < 64 → size ≡ size_lent numbers at → flavour ≡ flavour_lent numbers at → value ≡ value_lent numbers at
      → ms ≡ paste out.members out.used (drop (at + 3) numbers) size
      → ◌≡◌ {A = Group}
      (record {
        limit = out.limit;
        count = out.count + 1;
        used = out.used + size;
        sizes = set out.sizes out.count size;
        flavours = set out.flavours out.count flavour;
        values = set out.values out.count value;
        members = ms;
      })
      (encode out.limit (decode out ++ (class_lent numbers at ∷ [])))
  lent-made size flavour value ms l s f w q =
      (λ i. record {
        limit = out.limit;
        count = out.count + 1;
        used = out.used + size_same i;
        sizes = set out.sizes out.count (size_same i);
        flavours = set out.flavours out.count (flavour-same i);
        values = set out.values out.count (value_same i);
        members = ms;
      })
      ∙ add-made out (alone numbers at) 0 room-alone 0 ms l (start-alone numbers at) copied
      ∙ ap (λ (c : Class). encode out.limit (decode out ++ (c ∷ []))) (class-alone numbers at)
    where
      size_same : size ≡ get_or (alone numbers at).sizes 0 0
      size_same = s ∙ sym (size-alone numbers at)

      flavour-same : flavour ≡ get_or (alone numbers at).flavours 0 0
      flavour-same = f ∙ sym (flavour-alone numbers at known)

      value_same : value ≡ get_or (alone numbers at).values 0 0
      value_same = w ∙ sym (value-alone numbers at known)

      copied : ms ≡ paste out.members out.used (drop 0 (alone numbers at).members) (get_or (alone numbers at).sizes 0 0)
      copied =
          q ∙ ap (λ (n : ℕ). paste out.members out.used (drop (at + 3) numbers) n) s
          ∙ ap (λ (xs : List ℕ). take out.used out.members ++ xs ++ drop (out.used + size_lent numbers at) out.members) (cut-lent numbers at here ∙ sym (cut-alone numbers at (omega arith)))
          ∙ ap (λ (n : ℕ). paste out.members out.used (drop 0 (alone numbers at).members) n) (sym (size-alone numbers at))

-- a group that holds the classes before a place
pub record Building (numbers : List ℕ) (out : Group) (at : ℕ) : Type 0 where
  pub coded : Coded out
  pub limit : out.limit ≡ 256
  pub classes : decode out ++ classes_from numbers at ≡ classes_lent numbers
  pub known : each_from (known_at numbers) numbers at ≡ true
  pub whole : each_from (WholeAt numbers) numbers at ≡ true

-- it begins with none
pub building-begins : (numbers : List ℕ) (out : Group) → out ≡ encode 256 [] → flavours_known numbers ≡ true → whole numbers ≡ true → Building numbers out 0
unfolding flavours_known whole classes_lent total
building-begins numbers out e k w = record {
  coded = built-coded 256 [] out e (omega arith) (omega arith);
  limit = built-limit 256 [] out e;
  classes = ap (λ (cs : List Class). cs ++ classes_from numbers 0) (built-classes 256 [] out e);
  known = k;
  whole = w;
}

module _ (numbers : List ℕ) (out : Group) (at : ℕ) (b : Building numbers out at) (f : fits 256 (classes_lent numbers) ≡ true) (l : at < length numbers) where
  -- the next class has room, is whole, and its flavour is known
  all-count : out.count + length (classes_from numbers at) ≤ 64
  all-count =
      omega (arith, length-decode out, length-append (decode out) (classes_from numbers at), ap (λ (cs : List Class). length cs) b.classes, fits-few (classes_lent numbers) f)

  all-used : out.used + total (classes_from numbers at) ≤ 256
  all-used =
      omega (arith, used-is out b.coded, total-append (decode out) (classes_from numbers at), ap total b.classes, fits-small (classes_lent numbers) f)

  few : out.count < 64
  few = omega (arith, all-count, count_next numbers at (at + 3 + size_lent numbers at) l refl)

  small : out.used + size_lent numbers at ≤ 256
  small = omega (arith, all-used, total-next numbers at (at + 3 + size_lent numbers at) l refl)

  pub building-asks : (Coded out × ((out.count < 64) × (out.used + size_lent numbers at ≤ 256))) × (At numbers at × (known_at numbers at ≡ true))
  building-asks = ((b.coded, (few, small)), (whole-at numbers at l b.whole, passes-here (known_at numbers) numbers at l b.known))

  -- and then the group holds one more
  pub building-on : (r : Group) (next : ℕ) → next ≡ at + 3 + size_lent numbers at → r ≡ encode out.limit (decode out ++ (class_lent numbers at ∷ [])) → Building numbers r next
  building-on r next e p = record {
    coded = built-coded out.limit more r p
        (omega (arith, length-append (decode out) (class_lent numbers at ∷ []), length-decode out, few))
        (omega (arith, total-more (decode out) (class_lent numbers at), size-lent numbers at, used-is out b.coded, small));
    limit = built-limit out.limit more r p ∙ b.limit;
    classes = ap (λ (cs : List Class). cs ++ classes_from numbers next) (built-classes out.limit more r p)
        ∙ append_assoc (decode out) (class_lent numbers at ∷ []) (classes_from numbers next)
        ∙ ap (λ (cs : List Class). decode out ++ cs) (sym (classes-next numbers at next l e))
        ∙ b.classes;
    known = passes_on (known_at numbers) numbers at next l e b.known;
    whole = passes_on (WholeAt numbers) numbers at next l e b.whole;
  }
    where
      more : List Class
      more = decode out ++ (class_lent numbers at ∷ [])

-- after the last class it is the list
pub building-ends : (numbers : List ℕ) (out : Group) (at : ℕ) → Building numbers out at → length numbers ≤ at → out ≡ encode 256 (classes_lent numbers)
building-ends numbers out at b l =
    let e : decode out ≡ classes_lent numbers = sym (append-nil (decode out)) ∙ ap (λ (cs : List Class). decode out ++ cs) (sym (classes_end numbers at l)) ∙ b.classes in
    sym b.coded.coded ∙ ap₂ encode b.limit e
