-- The classes of the members' projections, part by part: member by member, and class by class.
use Prim.Native.Nat.{ℕ, zero, suc, ◌+◌, ◌-◌, ◌<◌, ◌≤◌}
use mathlib.Core.List.{List, [], ◌∷◌, ◌++◌, map}
use Rattle.std.specs.Prelude.{Option, None, Some, Ok, Err}
use mathlib.Core.Path.{◌≡◌, refl, sym, ap, ap₂, ◌∙◌, subst}
use native.Mathlib.Numerals.{add-one}
use native.Mathlib.Omega.{arith}
use lib.ListN.{length, get_or, take, drop, replicate, length-drop, length-map, length-take, take-append-drop}
use lib.Seq.{take-suc, take_all, take-append-le, drop-append-le, drop-drop, length-take-le, get_or-drop}
use Rattle.arena.specs.Node.{Node}
use Rattle.classes.specs.Class.{Class, single}
use Rattle.classes.specs.Group.{class_at, total, merged_at}
use Rattle.classes.specs.Good.{flat}
use Rattle.classes.specs.Steps.{fits}
use Rattle.classes.specs.declared.Constant.TheVariants.{NoConstant}
use Rattle.classes.specs.Layout.{padded, encode, decode}
use Rattle.arena.specs.declared.Refusal.{Refusal}
use Rattle.classes.specs.Inner.{Coded}
use Rattle.classes.specs.declared.Group.{Group}
use Rattle.classes.proofs.Places.{nothing, length-flat}
use Rattle.classes.proofs.Codec.{length-decode, used-is, members-is, total-take, total-front}
use Rattle.conditions.proofs.ConstantLaws.{fits_both}
use Rattle.merging.specs.Extending.{missing, pushed_all, class_from}
use Rattle.merging.proofs.PushedClass.{class-few}
use Rattle.projection.specs.Inner.{answer_of, answers_in}
use Rattle.projection.proofs.ListLaws.{answers-more}
use Rattle.group_projection.specs.Group.{there, projected_classes, telling}
use Rattle.group_projection.specs.Inner.{Grouped, listed, One, List256, Entries}
use Rattle.group_projection.proofs.ListedLaws.{Lists, lists_as, lists-one, lists-list, lists-classes, one-lists, one-used, over-more, answer-lists, answer-over, answer-again, telling-append}
use Rattle.group_projection.proofs.OneLaws.{pushed-append, pushed-one, push-is}

-- ---- an entry of the table

-- the projection that an entry says
entry-none : (e : ℕ) → e < 2 → there (answer_of e ∷ []) ≡ []
unfolding answer_of there
entry-none zero l = refl
entry-none (suc zero) l = refl
entry-none (suc (suc i)) l = absurd (omega arith)

entry-some : (e : ℕ) → 2 ≤ e → there (answer_of e ∷ []) ≡ (e - 2) ∷ []
unfolding answer_of there
entry-some zero l = absurd (omega arith)
entry-some (suc zero) l = absurd (omega arith)
entry-some (suc (suc i)) l = let e : i ≡ suc (suc i) - 2 = omega arith in ap (λ (k : ℕ). k ∷ []) e

-- it is pushed to the class of one, if there is one
module _ (ns : List Node) (one : Group) (v : One one) (entry : ℕ) where
  abbrev only : Class
  only = class_at (decode one) 0

  pub entry-keeps : entry < 2 → one ≡ encode 256 (pushed_all ns only (there (answer_of entry ∷ [])) ∷ [])
  unfolding pushed_all
  entry-keeps l = (one-lists one v).is ∙ ap (λ (es : List ℕ). encode 256 (pushed_all ns only es ∷ [])) (sym (entry-none entry l))

  pub entry_pushes : 2 ≤ entry → (r : Group) → r ≡ encode one.limit (merged_at (decode one) (one.count - 1) (missing (class_at (decode one) (one.count - 1)) (single ns (entry - 2))))
      → r ≡ encode 256 (pushed_all ns only (there (answer_of entry ∷ [])) ∷ [])
  entry_pushes l r q =
      push-is ns one v (entry - 2) r q
      ∙ ap (λ (d : Class). encode 256 (d ∷ [])) (sym (ap (λ (es : List ℕ). pushed_all ns only es) (entry-some entry l) ∙ pushed-one ns only (entry - 2)))

-- ---- one class, member by member

-- those that there are, in parts
there-append : (xs ys : List (Option ℕ)) → there (xs ++ ys) ≡ there xs ++ there ys
unfolding there
there-append [] ys = refl
there-append (None ∷ xs) ys = there-append xs ys
there-append (Some k ∷ xs) ys = ap (λ (t : List ℕ). k ∷ t) (there-append xs ys)

-- are no more than all
there-few : (xs : List (Option ℕ)) → length (there xs) ≤ length xs
unfolding there
there-few [] = omega arith
there-few (None ∷ xs) = omega (arith, there-few xs)
there-few (Some k ∷ xs) = omega (arith, there-few xs)

-- the class of the projections of members
abbrev pub class_of_members : List Node → List ℕ → List ℕ → Class
class_of_members ns entries es = class_from ns (there (answers_in entries es))

-- a group of one class, that of the first k members' projections
abbrev pub MembersTo : List Node → List ℕ → List ℕ → ℕ → Group → Type 0
MembersTo ns entries es k one = one ≡ encode 256 (class_of_members ns entries (take k es) ∷ [])

module _ (ns : List Node) (entries es : List ℕ) where
  -- it has no more members
  members-few : (k : ℕ) → k ≤ length es → length (class_of_members ns entries (take k es)).members ≤ k
  members-few k l =
      omega (arith, class-few ns (there (answers_in entries (take k es))), there-few (answers_in entries (take k es)), length-map (take k es) (λ (e : ℕ). answer_of (get_or entries e 0)), length-take-le k es l)

  -- none yet
  pub members-begin : (one : Group) → one ≡ encode 256 (record { members = []; constant = NoConstant } ∷ []) → MembersTo ns entries es 0 one
  unfolding class_from pushed_all there
  members-begin one q = q

  -- all of them
  pub members_end : (k : ℕ) (one : Group) → length es ≤ k → MembersTo ns entries es k one → one ≡ encode 256 (class_of_members ns entries es ∷ [])
  members_end k one l q = q ∙ ap (λ (xs : List ℕ). encode 256 (class_of_members ns entries xs ∷ [])) (take_all k es l)

  module _ (k : ℕ) (one : Group) (q : MembersTo ns entries es k one) (l : k < length es) (small : length es ≤ 256) where
    -- as a list of one class
    members-lists : Lists one (class_of_members ns entries (take k es) ∷ [])
    unfolding total
    members-lists = record { is = q; room = fits_both 256 (class_of_members ns entries (take k es) ∷ []) (omega (arith, members-few k (omega arith))) (omega arith) }

    members-class : class_at (decode one) 0 ≡ class_of_members ns entries (take k es)
    members-class = ap (λ (cs : List Class). class_at cs 0) (lists-classes one (class_of_members ns entries (take k es) ∷ []) members-lists)

    -- there is room for the next
    pub members_ask : One one × (one.used < 256)
    members_ask =
        let o = lists-one one (class_of_members ns entries (take k es)) members-lists in
        (o, omega (arith, one-used one o, ap (λ (c : Class). length c.members) members-class, members-few k (omega arith)))

    -- the next
    pub members-more : (e : ℕ) → e ≡ get_or es k 0 → (r : Group) → r ≡ encode 256 (pushed_all ns (class_at (decode one) 0) (there (answer_of (get_or entries e 0) ∷ [])) ∷ []) → MembersTo ns entries es (k + 1) r
    unfolding class_from
    members-more e x r p =
        let f : ℕ → Option ℕ = λ e. answer_of (get_or entries e 0) in
        let a : there (answers_in entries (take (k + 1) es)) ≡ there (answers_in entries (take k es)) ++ there (f e ∷ []) =
        ap there (answers-more entries es k l ∙ ap (λ (y : ℕ). answers_in entries (take k es) ++ (f y ∷ [])) (sym x)) ∙ there-append (answers_in entries (take k es)) (f e ∷ []) in
        p ∙ ap (λ (c : Class). encode 256 (pushed_all ns c (there (f e ∷ [])) ∷ [])) members-class
        ∙ ap (λ (c : Class). encode 256 (c ∷ [])) (sym (ap (λ (xs : List ℕ). pushed_all ns nothing xs) a ∙ pushed-append ns nothing (there (answers_in entries (take k es))) (there (f e ∷ []))))

-- a class of few members as a list
pub members-one : (ns : List Node) (entries es : List ℕ) → length es ≤ 256 → (one : Group) → one ≡ encode 256 (class_of_members ns entries es ∷ []) → Lists one (class_of_members ns entries es ∷ [])
unfolding total
members-one ns entries es l one q = record {
  is = q;
  room =
      let e = take_all (length es) es (omega arith) in
      fits_both 256 (class_of_members ns entries es ∷ []) (omega (arith, members-few ns entries es (length es) (omega arith), ap (λ (xs : List ℕ). length (class_of_members ns entries xs).members) e)) (omega arith);
}

-- ---- class by class

-- classes one after the other
projected-append : (ns : List Node) (xs ys : List Class) (ks : List (Option ℕ)) → projected_classes ns (xs ++ ys) ks ≡ projected_classes ns xs ks ++ projected_classes ns ys (drop (total xs) ks)
unfolding projected_classes total
projected-append ns [] ys ks = refl
projected-append ns (c ∷ xs) ys ks =
    ap (λ (l : List Class). class_from ns (there (take (length c.members) ks)) ∷ l)
    (projected-append ns xs ys (drop (length c.members) ks)
    ∙ ap (λ (l : List (Option ℕ)). projected_classes ns xs (drop (length c.members) ks) ++ projected_classes ns ys l) (drop-drop (total xs) (length c.members) ks))

-- a part of what a function makes of a list
module _ (f : ℕ → Option ℕ) where
  map-take : (n : ℕ) (xs : List ℕ) → take n (map f xs) ≡ map f (take n xs)
  map-take zero xs = refl
  map-take (suc n) [] = refl
  map-take (suc n) (x ∷ xs) = ap (λ (t : List (Option ℕ)). f x ∷ t) (map-take n xs)

  map-drop : (n : ℕ) (xs : List ℕ) → drop n (map f xs) ≡ map f (drop n xs)
  map-drop zero xs = refl
  map-drop (suc n) [] = refl
  map-drop (suc n) (x ∷ xs) = map-drop n xs

-- where class j begins, and how many members it has
module _ (g : Group) (v : Coded g) (j start size : ℕ) (s : start ≡ total (take j (decode g))) (z : size ≡ length (class_at (decode g) j).members) where
  -- it ends within the members
  pub part-inside : start + size ≤ g.used
  part-inside = omega (arith, total-take (decode g) j, total-front (decode g) (suc j), used-is g v)

  -- the next begins where it ends
  pub part-next : start + size ≡ total (take (j + 1) (decode g))
  part-next = sym (rw (add-one j) (total-take (decode g) j) ∙ ap₂ {C = ℕ} (λ (a b : ℕ). a + b) (sym s) (sym z))

  -- what the table has for its members
  pub part-entries : (n : ℕ) (entries : List ℕ) → Entries n entries g.members g.used → Entries n entries (drop start g.members) size
  part-entries n entries h k l =
      subst (λ (e : ℕ). (e < 1024) × (get_or entries e 0 < n + 2)) (sym (get_or-drop start g.members k 0)) (h (start + k) (omega (arith, part-inside)))

  -- its members, from all of them and from their table
  part-members : take size (drop start (flat (decode g))) ≡ take size (drop start g.members)
  unfolding padded
  part-members =
      let n = length-flat (decode g) in
      let i = part-inside in
      let u = used-is g v in
      let fl = flat (decode g) in
      let zs : List ℕ = replicate (256 - length fl) 0 in
      sym (ap (λ (l : List ℕ). take size (drop start l)) (members-is g v)
      ∙ ap (λ (l : List ℕ). take size l) (drop-append-le start fl zs (omega arith))
      ∙ take-append-le size (drop start fl) zs (omega (arith, length-drop start fl)))

-- no class, no member
pub none_before : (cs : List Class) → 0 ≡ total (take 0 cs)
unfolding total
none_before cs = refl

-- the classes of the first j classes' projections that say something
abbrev pub front_telling : List Node → List ℕ → Group → ℕ → List Class
front_telling ns entries g j = telling (projected_classes ns (take j (decode g)) (answers_in entries (flat (decode g))))

-- those of all
abbrev pub all_telling : List Node → List ℕ → Group → List Class
all_telling ns entries g = telling (projected_classes ns (decode g) (answers_in entries (flat (decode g))))

module _ (ns : List Node) (entries : List ℕ) (g : Group) where
  -- none yet
  pub front-begins : (out : Group) → out ≡ encode 256 [] → Lists out (front_telling ns entries g 0)
  unfolding projected_classes telling fits total
  front-begins out q = record { is = q; room = refl }

  -- all of them
  pub front_ends : (j : ℕ) (out : Group) → g.count ≤ j → Lists out (front_telling ns entries g j) → Lists out (all_telling ns entries g)
  front_ends j out l v =
      lists_as out (front_telling ns entries g j) (all_telling ns entries g)
      (ap (λ (cs : List Class). telling (projected_classes ns cs (answers_in entries (flat (decode g))))) (take_all j (decode g) (omega (arith, length-decode g)))) v

  module _ (v : Coded g) (j : ℕ) (l : j < g.count) (start size : ℕ) (s : start ≡ total (take j (decode g))) (z : size ≡ length (class_at (decode g) j).members) where
    abbrev es : List ℕ
    es = take size (drop start g.members)

    -- one class more
    front-next : front_telling ns entries g (j + 1) ≡ front_telling ns entries g j ++ telling (class_of_members ns entries es ∷ [])
    unfolding projected_classes
    front-next =
        let f : ℕ → Option ℕ = λ e. answer_of (get_or entries e 0) in
        let fl = flat (decode g) in
        let ks = answers_in entries (flat (decode g)) in
        let c = class_at (decode g) j in
        let t : take (j + 1) (decode g) ≡ take j (decode g) ++ (c ∷ []) = rw (add-one j) (take-suc (decode g) j nothing (omega (arith, length-decode g))) in
        let p : take (length c.members) (drop (total (take j (decode g))) ks) ≡ answers_in entries es =
        ap₂ {C = List (Option ℕ)} (λ (a b : ℕ). take a (drop b ks)) (sym z) (sym s) ∙ ap (λ (xs : List (Option ℕ)). take size xs) (map-drop f start fl)
        ∙ map-take f size (drop start fl) ∙ ap (λ (xs : List ℕ). answers_in entries xs) (part-members g v j start size s z) in
        ap (λ (cs : List Class). telling (projected_classes ns cs ks)) t
        ∙ ap telling (projected-append ns (take j (decode g)) (c ∷ []) ks ∙ ap (λ (xs : List (Option ℕ)). projected_classes ns (take j (decode g)) ks ++ (class_from ns (there xs) ∷ [])) p)
        ∙ telling-append (projected_classes ns (take j (decode g)) ks) (class_of_members ns entries es ∷ [])

    -- all begin with them
    front_rest : all_telling ns entries g ≡ front_telling ns entries g (j + 1) ++ telling (projected_classes ns (drop (j + 1) (decode g)) (drop (total (take (j + 1) (decode g))) (answers_in entries (flat (decode g)))))
    front_rest =
        let ks = answers_in entries (flat (decode g)) in
        ap (λ (cs : List Class). telling (projected_classes ns cs ks)) (sym (take-append-drop (j + 1) (decode g)))
        ∙ ap telling (projected-append ns (take (j + 1) (decode g)) (drop (j + 1) (decode g)) ks)
        ∙ telling-append (projected_classes ns (take (j + 1) (decode g)) ks) (projected_classes ns (drop (j + 1) (decode g)) (drop (total (take (j + 1) (decode g))) ks))

    -- it has few members
    part-few : length es ≤ 256
    part-few = omega (arith, length-take size (drop start g.members), part-inside g v j start size s z, v.small)

    module _ (out : Group) (o : Lists out (front_telling ns entries g j)) (one : Group) (p : one ≡ encode 256 (class_of_members ns entries es ∷ [])) where
      -- it may be kept
      pub front-asks : List256 out × One one
      front-asks = (lists-list out (front_telling ns entries g j) o, lists-one one (class_of_members ns entries es) (members-one ns entries es part-few one p))

      module _ (r : Grouped) (q : r ≡ listed (decode out ++ telling (class_at (decode one) 0 ∷ []))) where
        front-is : r ≡ listed (front_telling ns entries g (j + 1))
        front-is =
            q ∙ ap₂ {C = Grouped} (λ (cs : List Class) (ds : List Class). listed (cs ++ telling (class_at ds 0 ∷ []))) (lists-classes out (front_telling ns entries g j) o) (lists-classes one (class_of_members ns entries es ∷ []) (members-one ns entries es part-few one p))
            ∙ ap listed (sym front-next)

        -- it was kept
        pub front-more : (h : Group) → r ≡ Ok h → Lists h (front_telling ns entries g (j + 1))
        front-more = answer-lists r (front_telling ns entries g (j + 1)) front-is

        -- there was no room for it, nor is there for all
        pub front-over : (why : Refusal) → r ≡ Err why → ◌≡◌ {A = Grouped} (Err why) (listed (all_telling ns entries g))
        front-over why n =
            answer-again r (front_telling ns entries g (j + 1)) front-is why n (all_telling ns entries g)
            (ap (fits 256) front_rest ∙ over-more (front_telling ns entries g (j + 1)) (telling (projected_classes ns (drop (j + 1) (decode g)) (drop (total (take (j + 1) (decode g))) (answers_in entries (flat (decode g)))))) (answer-over r (front_telling ns entries g (j + 1)) front-is why n))
