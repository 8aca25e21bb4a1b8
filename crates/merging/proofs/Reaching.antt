-- Lists of classes that reach `new`: what comes of a fair list is a good group; a class of expressions of the arena is one of a fair list.
use Prim.Native.Nat.{ℕ, suc, ◌+◌, ◌-◌, ◌<◌, ◌≤◌}
use mathlib.Core.Bool.{true, false}
use mathlib.Core.List.{List, [], ◌∷◌, ◌++◌, append-nil}
use mathlib.Core.Logic.{◌⊎◌, inl, inr}
use mathlib.Core.Path.{◌≡◌, refl, sym, ap, ◌∙◌, subst}
use native.Mathlib.Decide.{ℕ_discrete, dec_lt}
use native.Mathlib.Omega.{arith}
use borrow.Author.Tests.{eq-eqb}
use lib.ListN.{length, get_or, take, drop, length-append, length-take, length-drop, get_or-append}
use lib.Seq.{get_or-take, get_or-drop, get_or-append-add, append_snoc}
use Rattle.laws.proofs.Booleans.{true_not_false}
use Rattle.arena.specs.Node.{Node, literal, node_at}
use Rattle.arena.specs.Arena.{Extends}
use Rattle.arena.proofs.Nodes.{extends-longer, extends-node}
use Rattle.classes.specs.declared.Constant.{Constant}
use Rattle.classes.specs.Class.{Class, is_uniform, taken, carried, single, merged}
use Rattle.classes.specs.Group.{among, class_at}
use Rattle.classes.specs.Good.{flat, Distinct, Good}
use Rattle.classes.proofs.Places.{count, count-append, count_same, count-other, never-among, among_one, get_or-among, distinct-count, count-distinct, nothing, All, distinct-once, once-distinct, class-flat, flat-class, sum-at}
use Rattle.demands.proofs.GoodKept.{taken-keeps, taken-uniform}
use Rattle.merging.specs.Extending.{without, missing, extended, pushed, pushed_all, class_from, is_trivial}
use Rattle.merging.specs.Merging.{kept_classes, bridge_classes, from_classes}
use Rattle.merging.specs.Inner.{Fair, AllBelow}
use Rattle.merging.proofs.Overlaps.{extended-from, extended-once, Single, Extending, all-kept, kept-says, all_bridge, all_from, bridge_once}

-- ---- one class of a fair list

-- no expression twice, a literal's class uniform, every member in the arena
pub record Sane (ns : List Node) (c : Class) : Type 0 where
  pub once : Single c
  pub uniform : (e v : ℕ) → among e c.members ≡ true → node_at ns e ≡ literal v → is_uniform c.constant ≡ true
  pub inside : (e : ℕ) → among e c.members ≡ true → e < length ns

-- each class of a fair list is such
pub fair_sane : (ns : List Node) (cs : List Class) → Fair ns cs → All (Sane ns) cs
fair_sane ns cs f i l = record {
  once = distinct-count (class_at cs i).members (f.apart i l);
  uniform = λ e v h q. f.uniform i e v l h q;
  inside = λ e h. f.inside e (class-flat cs e i l h);
}

-- and a list of such classes is fair
pub sane_fair : (ns : List Node) (cs : List Class) → All (Sane ns) cs → Fair ns cs
sane_fair ns cs h = record {
  apart = λ i l. count-distinct (class_at cs i).members (h i l).once;
  uniform = λ i e v l m q. (h i l).uniform e v m q;
  inside = λ e m. let f = flat-class cs e m in (h f.0 f.1).inside e f.2;
}

-- one constant over another is uniform where either is
pub taken-either : (old new : Constant) → (is_uniform old ≡ true) ⊎ (is_uniform new ≡ true) → is_uniform (taken old new) ≡ true
taken-either old new (inl h) = taken-keeps old new h
taken-either old new (inr h) = taken-uniform old new h

-- the constant of a class that was extended is uniform where either was
pub extended-uniform : (c d : Class) → (is_uniform c.constant ≡ true) ⊎ (is_uniform d.constant ≡ true) → is_uniform (extended c d).constant ≡ true
unfolding extended merged missing
extended-uniform c d h = taken-either c.constant d.constant h

-- a class stays such when it is extended by one
pub sane_extended : (ns : List Node) (c d : Class) → Sane ns c → Sane ns d → Sane ns (extended c d)
sane_extended ns c d p q = record {
  once = λ e. extended-once c d e (p.once e) (q.once e);
  uniform = λ e v h r. extended-uniform c d (uniform-at e v r (extended-from c d e h));
  inside = λ e h. inside-at e (extended-from c d e h);
}
  where
    uniform-at : (e v : ℕ) → node_at ns e ≡ literal v → (among e c.members ≡ true) ⊎ (among e d.members ≡ true) → (is_uniform c.constant ≡ true) ⊎ (is_uniform d.constant ≡ true)
    uniform-at e v r (inl h) = inl (p.uniform e v h r)
    uniform-at e v r (inr h) = inr (q.uniform e v h r)

    inside-at : (e : ℕ) → (among e c.members ≡ true) ⊎ (among e d.members ≡ true) → e < length ns
    inside-at e (inl h) = p.inside e h
    inside-at e (inr h) = q.inside e h

-- ---- what comes of a fair list

-- a class that says something has a member
pub says-filled : (c : Class) → is_trivial c ≡ false → 0 < length c.members
unfolding is_trivial
says-filled c h = go (ℕ_discrete (length c.members) 0)
  where
    go : Dec (length c.members ≡ 0) → 0 < length c.members
    go (yes e) = absurd (true_not_false (rw (eq-eqb (length c.members) 0 e)) h)
    go (no n) = omega arith

-- a class that is extended has a member
filled-extending : Extending (λ c. 0 < length c.members)
unfolding extended merged missing
filled-extending c d h p q = omega (arith, length-append c.members (without c.members d.members))

-- a fair list becomes a good group
pub from-good : (ns : List Node) (cs : List Class) → Fair ns cs → Good ns (from_classes cs)
unfolding from_classes
from-good ns cs f =
    let s = fair_sane ns cs f in
    let a = all_from (Sane ns) (λ c d h p q. sane_extended ns c d p q) cs s in
    record {
      distinct = once-distinct (bridge_classes (kept_classes cs)) (bridge_once (kept_classes cs) (all-kept Single cs (λ i l. (s i l).once)));
      filled = all_bridge (λ c. 0 < length c.members) filled-extending (kept_classes cs) (λ i l. says-filled (class_at (kept_classes cs) i) (kept-says cs i l));
      uniform = λ i e v l h q. (a i l).uniform e v h q;
      inside = λ e h. let p = flat-class (bridge_classes (kept_classes cs)) e h in (a p.0 p.1).inside e p.2;
    }

-- ---- a class of expressions

-- a class of one is such
sane_single : (ns : List Node) (e : ℕ) → e < length ns → Sane ns (single ns e)
unfolding single carried is_uniform
sane_single ns e l = record {
  once = λ x. one x (ℕ_discrete e x);
  uniform = λ x v h q. let t : node_at ns e ≡ literal v = ap (λ (y : ℕ). node_at ns y) (among_one x e h) ∙ q in rw t;
  inside = λ x h. subst (λ (k : ℕ). k < length ns) (among_one x e h) l;
}
  where
    one : (x : ℕ) → Dec (e ≡ x) → count x (e ∷ []) ≤ 1
    one x (yes q) = subst (λ (k : ℕ). count x (k ∷ []) ≤ 1) (sym q) (omega (arith, count_same x))
    one x (no q) = omega (arith, count-other x e q)

-- expressions pushed one after the other
sane_pushed : (ns : List Node) (es : List ℕ) → AllBelow (length ns) es → (c : Class) → Sane ns c → Sane ns (pushed_all ns c es)
unfolding pushed_all pushed
sane_pushed ns [] b c s = s
sane_pushed ns (e ∷ es) b c s =
    sane_pushed ns es (λ k l. b (suc k) (omega arith)) (extended c (single ns e)) (sane_extended ns c (single ns e) s (sane_single ns e (b 0 (omega arith))))

-- the class of expressions of an arena
pub sane_from : (ns : List Node) (es : List ℕ) → AllBelow (length ns) es → Sane ns (class_from ns es)
unfolding class_from count among
sane_from ns es b =
    sane_pushed ns es b nothing (record { once = λ e. omega arith; uniform = λ e v h q. absurd (true_not_false h refl); inside = λ e h. absurd (true_not_false h refl) })

-- one that is new is pushed at the end
pushed-new : (ns : List Node) (c : Class) (e : ℕ) → among e c.members ≡ false → (pushed ns c e).members ≡ c.members ++ (e ∷ [])
unfolding pushed extended merged missing single without
pushed-new ns c e h = rw h

-- different expressions that are new stand behind each other
pushed-all : (ns : List Node) (es : List ℕ) (c : Class) → ((x : ℕ) → count x (c.members ++ es) ≤ 1) → (pushed_all ns c es).members ≡ c.members ++ es
unfolding pushed_all
pushed-all ns [] c h = sym (append-nil c.members)
pushed-all ns (e ∷ es) c h =
    let f : among e c.members ≡ false =
    never-among e c.members (let a = count-append e c.members (e ∷ es) in let b = count-append e (e ∷ []) es in omega (arith, h e, count_same e)) in
    let q = pushed-new ns c e f in
    let r : (pushed ns c e).members ++ es ≡ c.members ++ (e ∷ es) = ap (λ (l : List ℕ). l ++ es) q ∙ append_snoc c.members e es in
    pushed-all ns es (pushed ns c e) (λ x. subst (λ (l : List ℕ). count x l ≤ 1) (sym r) (h x)) ∙ r

-- a class of different expressions has them all, in their order
pub members-from : (ns : List Node) (es : List ℕ) → Distinct es → (class_from ns es).members ≡ es
unfolding class_from
members-from ns es d = pushed-all ns es nothing (λ x. distinct-count es d x)

-- ---- parts of lists, and lists one after the other

-- a part of different numbers
pub distinct-take : (n : ℕ) (ks : List ℕ) → Distinct ks → Distinct (take n ks)
distinct-take n ks d = record {
  apart = λ i j a l q.
      let m = length-take n ks in
      d.apart i j a (omega arith) (sym (get_or-take n ks i 0 (omega arith)) ∙ q ∙ get_or-take n ks j 0 (omega arith));
}

-- the other part
pub distinct-drop : (n : ℕ) (ks : List ℕ) → Distinct ks → Distinct (drop n ks)
distinct-drop n ks d = record {
  apart = λ i j a l q.
      let m = length-drop n ks in
      d.apart (n + i) (n + j) (omega arith) (omega arith) (sym (get_or-drop n ks i 0) ∙ q ∙ get_or-drop n ks j 0);
}

-- a part of numbers below a bound
pub below-take : (m n : ℕ) (ks : List ℕ) → AllBelow m ks → AllBelow m (take n ks)
below-take m n ks b k l = let q = length-take n ks in rw (get_or-take n ks k 0 (omega arith)) (b k (omega arith))

-- the other part of them
pub below-drop : (m n : ℕ) (ks : List ℕ) → AllBelow m ks → AllBelow m (drop n ks)
below-drop m n ks b k l = let q = length-drop n ks in rw (get_or-drop n ks k 0) (b (n + k) (omega arith))

-- what holds for every class of two lists holds for every class of both, one after the other
pub all_append : (Q : Class → Type 0) (cs ds : List Class) → All Q cs → All Q ds → All Q (cs ++ ds)
all_append Q cs ds h k i l = go (dec_lt i (length cs))
  where
    go : Dec (i < length cs) → Q (class_at (cs ++ ds) i)
    go (yes a) = subst Q (sym (get_or-append cs ds nothing i a)) (h i a)
    go (no a) =
        let e : i ≡ length cs + (i - length cs) = omega arith in
        let b : i - length cs < length ds = omega (arith, length-append cs ds) in
        subst (λ (j : ℕ). Q (class_at (cs ++ ds) j)) (sym e) (subst Q (sym (get_or-append-add cs ds (i - length cs) nothing)) (k (i - length cs) b))

-- each class of a good group is such, also in an arena that has grown
pub good_sane : (ns os : List Node) (ls : List Class) → Extends ns os → Good ns ls → All (Sane os) ls
good_sane ns os ls x g i l = record {
  once = λ e. omega (arith, sum-at (λ (c : Class). count e c.members) ls i nothing l, distinct-once ls g.distinct e);
  uniform = λ e v h q. g.uniform i e v l h (sym (extends-node x e (g.inside e (class-flat ls e i l h))) ∙ q);
  inside = λ e h. let b = g.inside e (class-flat ls e i l h) in omega (arith, extends-longer x);
}

-- the members of a good group are in the arena, by their places
pub flat-below : (ns : List Node) (rs : List Class) → Good ns rs → AllBelow (length ns) (flat rs)
flat-below ns rs g k l = g.inside (get_or (flat rs) k 0) (get_or-among (flat rs) k l)
