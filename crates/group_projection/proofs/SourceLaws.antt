-- The classes of the sources' targets, part by part: source by source, and normal form by normal form.
use Rattle.std.specs.Prelude.{if◌then◌else◌, Ok, Err}
use Prim.Native.Nat.{ℕ, zero, suc, ◌+◌, ◌<◌, ◌≤◌}
use mathlib.Core.Bool.{Bool, true, false, not, ◌||◌, ◌&&◌}
use mathlib.Core.List.{List, [], ◌∷◌, ◌++◌, append-nil, append_assoc}
use mathlib.Core.Path.{◌≡◌, refl, sym, ap, ap₂, ◌∙◌, subst}
use native.Mathlib.Decide.{dec_lt, ℕ_discrete}
use native.Mathlib.Numerals.{add-one}
use native.Mathlib.Omega.{arith}
use borrow.Author.Tests.{ne_eqb}
use lib.Dec.{eqb}
use lib.ListN.{length, get_or, take, drop, take-append-drop}
use lib.Seq.{take-suc, take_all, drop-cons, length-take-le, get_or-take}
use Rattle.laws.specs.Tests.{each}
use Rattle.laws.specs.Lists.{table}
use Rattle.laws.proofs.Booleans.{true_not_false}
use Rattle.laws.proofs.Each.{each_cong}
use Rattle.laws.proofs.Table.{length-table, get_or-table, table_is}
use Rattle.arena.specs.Node.{Node}
use Rattle.classes.specs.Class.{Class, is_constant}
use Rattle.classes.specs.Group.{class_at, total}
use Rattle.classes.specs.Good.{flat}
use Rattle.classes.specs.Steps.{fits}
use Rattle.classes.specs.declared.Constant.TheVariants.{NoConstant}
use Rattle.classes.specs.Layout.{encode, decode, fresh}
use Rattle.arena.specs.declared.Refusal.{Refusal}
use Rattle.classes.specs.declared.Group.{Group}
use Rattle.classes.proofs.Places.{nothing, total-more, length_more}
use Rattle.conditions.proofs.ConstantLaws.{fits_both}
use Rattle.merging.specs.Extending.{pushed, pushed_all, class_from, is_trivial}
use Rattle.mappings.specs.Mapping.{Mapped}
use Rattle.mappings.specs.Layout.{mapped_of, decode as mapping}
use Rattle.mappings.specs.declared.Source.{Source}
use Rattle.mappings.specs.declared.Mapping.{Mapping}
use Rattle.mappings.proofs.Targets.{decode-length}
use Rattle.mappings.proofs.PlaceReads.{read_in, read_at_lem}
use Rattle.projection.specs.Inner.{answers_in}
use Rattle.group_projection.specs.Group.{targets_of, source_classes, projected_classes, projected_list, telling}
use Rattle.group_projection.specs.Inner.{Grouped, listed, One, List256}
use Rattle.group_projection.proofs.ListedLaws.{Lists, lists_as, lists-one, lists-classes, lists-made, list-lists, one-lists, over-larger, over-more, answer-lists, answer-over, answer-again, telling-append, telling-none, telling-one}
use Rattle.group_projection.proofs.OneLaws.{pushed-one, part-lists, part-over}
use Rattle.group_projection.proofs.ProjectedParts.{all_telling}

-- ---- the targets of one source

-- the first of a list by its places
table-front : (f : ℕ → ℕ) (n k : ℕ) → k ≤ n → table f n ≡ table f k ++ drop k (table f n)
table-front f n k l =
    let len = length-table f n in
    let e : take k (table f n) ≡ table f k = table_is f k (take k (table f n)) 0 (length-take-le k (table f n) (omega arith)) (λ i b. get_or-take k (table f n) i 0 b ∙ get_or-table f n i 0 (omega arith)) in
    sym (take-append-drop k (table f n)) ∙ ap (λ (t : List ℕ). t ++ drop k (table f n)) e

-- one more
table-next : (f : ℕ → ℕ) (k : ℕ) → table f (k + 1) ≡ table f k ++ (f k ∷ [])
unfolding table
table-next f k = rw (add-one k)

-- the first k targets of a source
abbrev pub first_targets : Source → ℕ → List ℕ
first_targets source k = table (λ i. get_or source.targets i 0) k

module _ (ns : List Node) (c : Class) (source : Source) where
  -- a group of one class, the class c with the first k targets
  abbrev pub TargetsTo : ℕ → Group → Type 0
  TargetsTo k out = Lists out (pushed_all ns c (first_targets source k) ∷ [])

  -- all of them
  pub targets_end : (k : ℕ) (out : Group) → k ≡ source.size → TargetsTo k out → Lists out (pushed_all ns c (mapped_of source).targets ∷ [])
  unfolding mapped_of
  targets_end k out e v = subst (λ (n : ℕ). Lists out (pushed_all ns c (first_targets source n) ∷ [])) e v

  module _ (k : ℕ) (l : k < source.size) (out : Group) (v : TargetsTo k out) (e : ℕ) (x : e ≡ get_or source.targets k 0) (r : Grouped) (q : r ≡ listed (pushed ns (class_at (decode out) 0) e ∷ [])) where
    as_all : r ≡ listed (pushed_all ns (class_at (decode out) 0) (e ∷ []) ∷ [])
    as_all = q ∙ ap (λ (d : Class). listed (d ∷ [])) (sym (pushed-one ns (class_at (decode out) 0) e))

    next : first_targets source k ++ (e ∷ []) ≡ first_targets source (k + 1)
    next = ap (λ (y : ℕ). first_targets source k ++ (y ∷ [])) x ∙ sym (table-next (λ (i : ℕ). get_or source.targets i 0) k)

    -- one more was pushed
    pub targets-more : (h : Group) → r ≡ Ok h → TargetsTo (k + 1) h
    targets-more h n =
        lists_as h (pushed_all ns c (first_targets source k ++ (e ∷ [])) ∷ []) (pushed_all ns c (first_targets source (k + 1)) ∷ [])
        (ap (λ (t : List ℕ). pushed_all ns c t ∷ []) next) (part-lists ns c (first_targets source k) (e ∷ []) out v r as_all h n)

    -- there was no room for it, nor is there for all
    pub targets-over : (why : Refusal) → r ≡ Err why → ◌≡◌ {A = Grouped} (Err why) (listed (pushed_all ns c (mapped_of source).targets ∷ []))
    unfolding mapped_of
    targets-over why n =
        let f : ℕ → ℕ = λ i. get_or source.targets i 0 in
        let ws = drop (k + 1) (table f source.size) in
        let a : (mapped_of source).targets ≡ first_targets source k ++ (e ∷ []) ++ ws = table-front f source.size (k + 1) (omega arith) ∙ ap (λ (t : List ℕ). t ++ ws) (sym next) in
        answer-again r (pushed ns (class_at (decode out) 0) e ∷ []) q why n (pushed_all ns c (mapped_of source).targets ∷ [])
        (ap (λ (t : List ℕ). fits 256 (pushed_all ns c t ∷ [])) a ∙ part-over ns c (first_targets source k) (e ∷ []) out v r as_all why n ws)

-- none yet
pub targets-begin : (ns : List Node) (source : Source) (one : Group) → One one → TargetsTo ns (class_at (decode one) 0) source 0 one
unfolding table pushed_all
targets-begin ns source one v = one-lists one v

-- the targets of a source, or none
abbrev pub targets_if : Bool → Mapped → List ℕ
targets_if same p = if same then p.targets else []

-- they are pushed, or nothing is
pub same-pushed : (ns : List Node) (c : Class) (source : Source) (same : Bool) → same ≡ true → (r : Grouped) → r ≡ listed (pushed_all ns c (mapped_of source).targets ∷ []) → r ≡ listed (pushed_all ns c (targets_if same (mapped_of source)) ∷ [])
same-pushed ns c source same h r q = q ∙ ap (λ (b : Bool). listed (pushed_all ns c (targets_if b (mapped_of source)) ∷ [])) (sym h)

pub other-pushed : (ns : List Node) (one : Group) → One one → (source : Source) (same : Bool) → same ≡ false → ◌≡◌ {A = Grouped} (Ok one) (listed (pushed_all ns (class_at (decode one) 0) (targets_if same (mapped_of source)) ∷ []))
unfolding pushed_all
other-pushed ns one v source same h =
    lists-made one (class_at (decode one) 0 ∷ []) (one-lists one v) ∙ ap (λ (b : Bool). listed (pushed_all ns (class_at (decode one) 0) (targets_if b (mapped_of source)) ∷ [])) (sym h)

-- ---- the sources with a normal form

targets-none : (j : ℕ) (js : List ℕ) → targets_of j js [] ≡ []
unfolding targets_of
targets-none j [] = refl
targets-none j (i ∷ js) = refl

-- sources one after the other
targets-append : (j : ℕ) (xs ys : List ℕ) (ps : List Mapped) → targets_of j (xs ++ ys) ps ≡ targets_of j xs ps ++ targets_of j ys (drop (length xs) ps)
unfolding targets_of
targets-append j [] ys ps = refl
targets-append j (x ∷ xs) ys [] = sym (targets-none j ys)
targets-append j (x ∷ xs) ys (p ∷ ps) =
    ap (λ (t : List ℕ). (if eqb x j then p.targets else []) ++ t) (targets-append j xs ys ps)
    ∙ sym (append_assoc (if eqb x j then p.targets else []) (targets_of j xs ps) (targets_of j ys (drop (length xs) ps)))

-- one source more
targets_next : (j i : ℕ) (js : List ℕ) (ps : List Mapped) (d : Mapped) → i < length js → i < length ps → targets_of j (take (i + 1) js) ps ≡ targets_of j (take i js) ps ++ targets_if (eqb (get_or js i 0) j) (get_or ps i d)
unfolding targets_of
targets_next j i js ps d a b =
    let t : take (i + 1) js ≡ take i js ++ (get_or js i 0 ∷ []) = rw (add-one i) (take-suc js i 0 a) in
    let n : length (take i js) ≡ i = length-take-le i js (omega arith) in
    ap (λ (xs : List ℕ). targets_of j xs ps) t ∙ targets-append j (take i js) (get_or js i 0 ∷ []) ps
    ∙ ap (λ (xs : List Mapped). targets_of j (take i js) ps ++ targets_of j (get_or js i 0 ∷ []) xs) (ap (λ (m : ℕ). drop m ps) n ∙ drop-cons ps i d b)
    ∙ ap (λ (xs : List ℕ). targets_of j (take i js) ps ++ xs) (append-nil (targets_if (eqb (get_or js i 0) j) (get_or ps i d)))

-- all sources begin with some
targets-rest : (j i : ℕ) (js : List ℕ) (ps : List Mapped) → targets_of j js ps ≡ targets_of j (take i js) ps ++ targets_of j (drop i js) (drop (length (take i js)) ps)
targets-rest j i js ps = ap (λ (xs : List ℕ). targets_of j xs ps) (sym (take-append-drop i js)) ∙ targets-append j (take i js) (drop i js) ps

-- the class of the targets of the first i sources with a normal form
abbrev pub class_of_sources : List Node → Mapping → List ℕ → ℕ → ℕ → Class
class_of_sources ns m js form i = class_from ns (targets_of form (take i js) (mapping m))

-- that of all
abbrev pub class_of_form : List Node → Mapping → List ℕ → ℕ → Class
class_of_form ns m js form = class_from ns (targets_of form js (mapping m))

module _ (ns : List Node) (m : Mapping) (js : List ℕ) (form : ℕ) where
  -- none yet
  pub sources-begin : (one : Group) → one ≡ encode 256 (record { members = []; constant = NoConstant } ∷ []) → Lists one (class_of_sources ns m js form 0 ∷ [])
  unfolding class_from targets_of pushed_all fits total
  sources-begin one q = record { is = q; room = refl }

  -- all of them
  pub sources_end : (i : ℕ) (one : Group) → length js ≤ i → Lists one (class_of_sources ns m js form i ∷ []) → Lists one (class_of_form ns m js form ∷ [])
  sources_end i one l v =
      lists_as one (class_of_sources ns m js form i ∷ []) (class_of_form ns m js form ∷ []) (ap (λ (xs : List ℕ). class_from ns (targets_of form xs (mapping m)) ∷ []) (take_all i js l)) v

  module _ (len : length js ≡ m.count) (i : ℕ) (l : i < m.count) (one : Group) (o : Lists one (class_of_sources ns m js form i ∷ [])) (same : Bool) (t : same ≡ eqb (get_or js i 0) form)
      (r : Grouped) (q : r ≡ listed (pushed_all ns (class_at (decode one) 0) (targets_if same (mapped_of (read_in m i))) ∷ [])) where
    abbrev before : List ℕ
    before = targets_of form (take i js) (mapping m)

    abbrev here : List ℕ
    here = targets_if same (mapped_of (read_in m i))

    source-next : before ++ here ≡ targets_of form (take (i + 1) js) (mapping m)
    source-next =
        let p : Mapped = record { source = 0; targets = [] } in
        let e : here ≡ targets_if (eqb (get_or js i 0) form) (get_or (mapping m) i p) = ap₂ {C = List ℕ} (λ (b : Bool) (x : Mapped). targets_if b x) t (sym (read_at_lem m i l p)) in
        ap (λ (xs : List ℕ). before ++ xs) e ∙ sym (targets_next form i js (mapping m) p (omega arith) (omega (arith, decode-length m)))

    -- the next was pushed
    pub sources-more : (h : Group) → r ≡ Ok h → Lists h (class_of_sources ns m js form (i + 1) ∷ [])
    unfolding class_from
    sources-more h z =
        lists_as h (pushed_all ns nothing (before ++ here) ∷ []) (class_of_sources ns m js form (i + 1) ∷ []) (ap (λ (xs : List ℕ). pushed_all ns nothing xs ∷ []) source-next)
        (part-lists ns nothing before here one o r q h z)

    -- there was no room for it, nor is there for all
    pub sources-over : (why : Refusal) → r ≡ Err why → ◌≡◌ {A = Grouped} (Err why) (listed (class_of_form ns m js form ∷ []))
    unfolding class_from
    sources-over why z =
        let ws = targets_of form (drop (i + 1) js) (drop (length (take (i + 1) js)) (mapping m)) in
        let a : targets_of form js (mapping m) ≡ before ++ here ++ ws = targets-rest form (i + 1) js (mapping m) ∙ ap (λ (xs : List ℕ). xs ++ ws) (sym source-next) in
        answer-again r (pushed_all ns (class_at (decode one) 0) here ∷ []) q why z (class_of_form ns m js form ∷ [])
        (ap (λ (xs : List ℕ). fits 256 (pushed_all ns nothing xs ∷ [])) a ∙ part-over ns nothing before here one o r q why z ws)

-- ---- the normal forms

-- the number at place i of a table does not stand before it: among the first n, as in the table
pub fresh-front : (numbers : List ℕ) (n i : ℕ) → i < n → each (λ k. not (eqb (get_or numbers k 0) (get_or numbers i 0))) i ≡ fresh (take n numbers) i
unfolding fresh
fresh-front numbers n i l =
    each_cong (λ k. not (eqb (get_or numbers k 0) (get_or numbers i 0))) (λ k. not (eqb (get_or (take n numbers) k 0) (get_or (take n numbers) i 0))) i
    (λ k b. rw (get_or-take n numbers k 0 (omega arith), get_or-take n numbers i 0 l))

-- a class that is too large says something
large_tells : (c : Class) → fits 256 (c ∷ []) ≡ false → is_trivial c ≡ false
unfolding is_trivial total
large_tells c f = go (dec_lt 256 (length c.members))
  where
    go : Dec (256 < length c.members) → (eqb (length c.members) 0 || (eqb (length c.members) 1 && not (is_constant c.constant))) ≡ false
    go (yes b) = rw (ne_eqb (length c.members) 0 (λ e. omega arith), ne_eqb (length c.members) 1 (λ e. omega arith))
    go (no b) = absurd (true_not_false (fits_both 256 (c ∷ []) (omega arith) (omega arith)) f)

-- what a normal form at a place brings
abbrev pub brought : List Node → Mapping → List ℕ → ℕ → List Class
brought ns m js i = if fresh js i then class_of_form ns m js (get_or js i 0) ∷ [] else []

module _ (ns : List Node) (out : Group) (v : List256 out) (m : Mapping) (js : List ℕ) (i : ℕ) (b : Bool) (t : b ≡ fresh js i) where
  -- it stands before its place
  pub form-not : b ≡ false → ◌≡◌ {A = Grouped} (Ok out) (listed (decode out ++ telling (brought ns m js i)))
  form-not h =
      let e : brought ns m js i ≡ [] = rw (sym t ∙ h) in
      lists-made out (decode out) (list-lists out v) ∙ ap listed (sym (ap (λ (cs : List Class). decode out ++ telling cs) e ∙ ap (λ (cs : List Class). decode out ++ cs) telling-none ∙ append-nil (decode out)))

  module _ (h : b ≡ true) (form : ℕ) (x : form ≡ get_or js i 0) (one : Grouped) (o : one ≡ listed (class_of_form ns m js form ∷ [])) where
    is-brought : class_of_form ns m js form ∷ [] ≡ brought ns m js i
    is-brought =
        let e : brought ns m js i ≡ class_of_form ns m js (get_or js i 0) ∷ [] = rw (sym t ∙ h) in
        ap (λ (k : ℕ). class_of_form ns m js k ∷ []) x ∙ sym e

    -- its class is too large
    pub form-over : (why : Refusal) → one ≡ Err why → ◌≡◌ {A = Grouped} (Err why) (listed (decode out ++ telling (brought ns m js i)))
    unfolding total
    form-over why n =
        let c = class_of_form ns m js form in
        let f = answer-over one (c ∷ []) o why n in
        let g : fits 256 (decode out ++ (c ∷ [])) ≡ false = over-larger (c ∷ []) (decode out ++ (c ∷ [])) (omega (arith, total-more (decode out) c)) (omega (arith, length_more (decode out) c)) f in
        answer-again one (c ∷ []) o why n (decode out ++ (c ∷ [])) g
        ∙ ap listed (sym (ap (λ (cs : List Class). decode out ++ telling cs) (sym is-brought) ∙ ap (λ (cs : List Class). decode out ++ cs) (telling-one c (large_tells c f))))

    -- its class is kept if it says something
    pub form-asks : (k : Group) → one ≡ Ok k → List256 out × One k
    form-asks k n = (v, lists-one k (class_of_form ns m js form) (answer-lists one (class_of_form ns m js form ∷ []) o k n))

    pub form-kept : (k : Group) → one ≡ Ok k → (r : Grouped) → r ≡ listed (decode out ++ telling (class_at (decode k) 0 ∷ [])) → r ≡ listed (decode out ++ telling (brought ns m js i))
    form-kept k n r q =
        let c = class_of_form ns m js form in
        q ∙ ap (λ (cs : List Class). listed (decode out ++ telling (class_at cs 0 ∷ []))) (lists-classes k (c ∷ []) (answer-lists one (c ∷ []) o k n))
        ∙ ap (λ (cs : List Class). listed (decode out ++ telling cs)) is-brought

-- ---- normal form by normal form

-- all classes begin with those of the first i
record Front (ns : List Node) (js : List ℕ) (ps : List Mapped) (n i : ℕ) : Type 0 where
  rest : List Class
  splits : source_classes ns js ps n ≡ source_classes ns js ps i ++ rest

sources-front : (ns : List Node) (js : List ℕ) (ps : List Mapped) (n i : ℕ) → i ≤ n → Front ns js ps n i
unfolding source_classes
sources-front ns js ps zero zero l = record { rest = []; splits = refl }
sources-front ns js ps zero (suc i) l = absurd (omega arith)
sources-front ns js ps (suc n) i l = go (ℕ_discrete i (suc n)) (λ b. sources-front ns js ps n i b)
  where
    more : List Class
    more = if fresh js n then class_from ns (targets_of (get_or js n 0) js ps) ∷ [] else []

    go : Dec (i ≡ suc n) → (i ≤ n → Front ns js ps n i) → Front ns js ps (suc n) i
    go (yes e) f = record { rest = []; splits = ap (source_classes ns js ps) (sym e) ∙ sym (append-nil (source_classes ns js ps i)) }
    go (no e) f =
        let h = f (omega arith) in
        record { rest = h.rest ++ more; splits = ap (λ (cs : List Class). cs ++ more) h.splits ∙ append_assoc (source_classes ns js ps i) h.rest more }

module _ (ns : List Node) (list : Group) (m : Mapping) (js : List ℕ) where
  -- the list with the classes of the first i normal forms that say something
  abbrev pub with_sources : ℕ → List Class
  with_sources i = decode list ++ telling (source_classes ns js (mapping m) i)

  -- none yet
  pub forms-begin : List256 list → Lists list (with_sources 0)
  unfolding source_classes telling
  forms-begin v = lists_as list (decode list) (decode list ++ []) (sym (append-nil (decode list))) (list-lists list v)

  module _ (i : ℕ) (out : Group) (o : Lists out (with_sources i)) (r : Grouped) (q : r ≡ listed (decode out ++ telling (brought ns m js i))) where
    forms-is : r ≡ listed (with_sources (i + 1))
    unfolding source_classes
    forms-is =
        let cs = source_classes ns js (mapping m) i in
        let e : source_classes ns js (mapping m) (i + 1) ≡ cs ++ brought ns m js i = rw (add-one i) in
        q ∙ ap (λ (ds : List Class). listed (ds ++ telling (brought ns m js i))) (lists-classes out (with_sources i) o)
        ∙ ap listed (append_assoc (decode list) (telling cs) (telling (brought ns m js i)) ∙ ap (λ (ds : List Class). decode list ++ ds) (sym (ap telling e ∙ telling-append cs (brought ns m js i))))

    -- the next was added
    pub forms-more : (h : Group) → r ≡ Ok h → Lists h (with_sources (i + 1))
    forms-more = answer-lists r (with_sources (i + 1)) forms-is

    -- there was no room for it, nor is there for all
    pub forms-over : (n : ℕ) → i < n → (why : Refusal) → r ≡ Err why → ◌≡◌ {A = Grouped} (Err why) (listed (with_sources n))
    forms-over n l why z =
        let f = sources-front ns js (mapping m) n (i + 1) (omega arith) in
        let e : with_sources n ≡ with_sources (i + 1) ++ telling f.rest =
        ap (λ (cs : List Class). decode list ++ telling cs) f.splits ∙ ap (λ (cs : List Class). decode list ++ cs) (telling-append (source_classes ns js (mapping m) (i + 1)) f.rest)
        ∙ sym (append_assoc (decode list) (telling (source_classes ns js (mapping m) (i + 1))) (telling f.rest)) in
        answer-again r (with_sources (i + 1)) forms-is why z (with_sources n) (ap (fits 256) e ∙ over-more (with_sources (i + 1)) (telling f.rest) (answer-over r (with_sources (i + 1)) forms-is why z))

-- ---- both lists, one after the other

module _ (ns : List Node) (entries : List ℕ) (g : Group) (m : Mapping) (js : List ℕ) (front : Grouped) (f : front ≡ listed (all_telling ns entries g)) where
  list-is : projected_list ns (decode g) (mapping m) (answers_in entries (flat (decode g))) js ≡ all_telling ns entries g ++ telling (source_classes ns js (mapping m) (length js))
  unfolding projected_list
  list-is = telling-append (projected_classes ns (decode g) (answers_in entries (flat (decode g)))) (source_classes ns js (mapping m) (length js))

  -- there was no room for the first
  pub list_over : (why : Refusal) → front ≡ Err why → ◌≡◌ {A = Grouped} (Err why) (listed (projected_list ns (decode g) (mapping m) (answers_in entries (flat (decode g))) js))
  list_over why n =
      answer-again front (all_telling ns entries g) f why n (all_telling ns entries g ++ telling (source_classes ns js (mapping m) (length js)))
      (over-more (all_telling ns entries g) (telling (source_classes ns js (mapping m) (length js))) (answer-over front (all_telling ns entries g) f why n))
      ∙ ap listed (sym list-is)

  -- the second follows the first
  pub list-made : length js ≡ m.count → (h : Group) → front ≡ Ok h → (r : Grouped) → r ≡ listed (with_sources ns h m js m.count) → r ≡ listed (projected_list ns (decode g) (mapping m) (answers_in entries (flat (decode g))) js)
  list-made len h n r q =
      q ∙ ap (λ (cs : List Class). listed (cs ++ telling (source_classes ns js (mapping m) m.count))) (lists-classes h (all_telling ns entries g) (answer-lists front (all_telling ns entries g) f h n))
      ∙ ap (λ (k : ℕ). listed (all_telling ns entries g ++ telling (source_classes ns js (mapping m) k))) (sym len)
      ∙ ap listed (sym list-is)
