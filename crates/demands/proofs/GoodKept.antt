-- A good group stays good: by an equal condition, a constant and clearing, refused or not.
use Rattle.std.specs.Prelude.{if◌then◌else◌, Option, None, Some}
use Prim.Native.Nat.{ℕ, zero, suc, ◌+◌, ◌-◌, ◌<◌, ◌≤◌, min, max}
use mathlib.Core.Bool.{Bool, true, false}
use mathlib.Core.List.{List, [], ◌∷◌}
use mathlib.Core.Logic.{◌⊎◌, inl, inr}
use mathlib.Core.Path.{◌≡◌, refl, sym, ap, ◌∙◌, subst}
use native.Mathlib.Decide.{ℕ_discrete, dec_lt}
use native.Mathlib.Omega.{arith}
use lib.Dec.{eqb}
use lib.ListN.{length, set, length-set, length-append, get_or-eq_default}
use Rattle.laws.specs.Tests.{first}
use Rattle.laws.proofs.Booleans.{true_not_false}
use Rattle.laws.proofs.First.{first_some}
use Rattle.arena.specs.Node.{Node, literal, node_at}
use Rattle.classes.specs.declared.Constant.{Constant}
use Rattle.classes.specs.declared.Constant.TheVariants.{NoConstant as no_constant, Heterogeneous as heterogeneous, Unknown as unknown, Known as known}
use Rattle.classes.specs.Class.{Class, is_uniform, taken, carried, single, merged, same_constant}
use Rattle.classes.specs.Group.{among, class_at, class_of, removed, length_removed, pair, joined, equated, equal_condition, given, constant_at, class_like, constant_for, constant_in, with_constant, Cleared, kept, dropped, gone, cleared_by, clear_rest, clear_end, clear_kept, clear-dropped, clear-gone, cleared}
use Rattle.classes.specs.Good.{Good}
use Rattle.classes.proofs.Places.{sum, count, count_same, count-other, among-either, among_one, counts, Once, All, nothing, distinct-once, once-distinct, class-flat, flat-class, class_of-some, class_of-none, counts-removed, counts-set, counts-merged_at, counts-more, all_set, all-removed, all-merged_at, all_more}
use Rattle.conditions.specs.Steps.{add_equal, add_constant, clear, after}
use Rattle.demands.proofs.Answers.{add_equal-holds, add_constant-holds}
use Rattle.demands.proofs.Conditions.{condition_joins}

-- what a good group says of one class
record Fine (ns : List Node) (c : Class) : Type 0 where
  filled : 0 < length c.members
  uniform : (e v : ℕ) → among e c.members ≡ true → node_at ns e ≡ literal v → is_uniform c.constant ≡ true
  inside : (e : ℕ) → among e c.members ≡ true → e < length ns

-- a good group: no number twice, every class fine
record Parts (ns : List Node) (cs : List Class) : Type 0 where
  once : Once cs
  fine : All (Fine ns) cs

good-parts : (ns : List Node) (cs : List Class) → Good ns cs → Parts ns cs
good-parts ns cs g = record {
  once = distinct-once cs g.distinct;
  fine = λ i l. record { filled = g.filled i l; uniform = λ e v h q. g.uniform i e v l h q; inside = λ e h. g.inside e (class-flat cs e i l h) };
}

parts-good : (ns : List Node) (cs : List Class) → Parts ns cs → Good ns cs
parts-good ns cs p = record {
  distinct = once-distinct cs p.once;
  filled = λ i l. (p.fine i l).filled;
  uniform = λ i e v l h q. (p.fine i l).uniform e v h q;
  inside = λ e h. let f = flat-class cs e h in (p.fine f.0 f.1).inside e f.2;
}

-- a uniform constant stays uniform, whatever comes over it
pub taken-keeps : (old new : Constant) → is_uniform old ≡ true → is_uniform (taken old new) ≡ true
unfolding taken
taken-keeps old no_constant h = h
taken-keeps old heterogeneous h = rw h h
taken-keeps old unknown h = rw h h
taken-keeps old (known v) h = rw h h

-- and a uniform one over any is uniform
chosen-uniform : (old new : Constant) → is_uniform new ≡ true → is_uniform (if is_uniform old then old else new) ≡ true
chosen-uniform old new h = go (is_uniform old) refl
  where
    go : (b : Bool) → is_uniform old ≡ b → is_uniform (if b then old else new) ≡ true
    go true q = q
    go false q = h

pub taken-uniform : (old new : Constant) → is_uniform new ≡ true → is_uniform (taken old new) ≡ true
unfolding taken is_uniform
taken-uniform old no_constant h = absurd (true_not_false h refl)
taken-uniform old heterogeneous h = absurd (true_not_false h refl)
taken-uniform old unknown h = chosen-uniform old unknown refl
taken-uniform old (known v) h = chosen-uniform old (known v) refl

-- a class merged into another
fine-merged : (ns : List Node) (c d : Class) → Fine ns c → Fine ns d → Fine ns (merged c d)
unfolding merged
fine-merged ns c d f g = record {
  filled = omega (arith, length-append c.members d.members, f.filled);
  uniform = λ e v h q. uniform-at e v q (among-either e c.members d.members h);
  inside = λ e h. inside-at e (among-either e c.members d.members h);
}
  where
    uniform-at : (e v : ℕ) → node_at ns e ≡ literal v → (among e c.members ≡ true) ⊎ (among e d.members ≡ true) → is_uniform (taken c.constant d.constant) ≡ true
    uniform-at e v q (inl h) = taken-keeps c.constant d.constant (f.uniform e v h q)
    uniform-at e v q (inr h) = taken-uniform c.constant d.constant (g.uniform e v h q)

    inside-at : (e : ℕ) → (among e c.members ≡ true) ⊎ (among e d.members ≡ true) → e < length ns
    inside-at e (inl h) = f.inside e h
    inside-at e (inr h) = g.inside e h

-- a class of one, with a constant that is uniform if it is a literal
fine-one : (ns : List Node) (e : ℕ) (c : Constant) → e < length ns → ((v : ℕ) → node_at ns e ≡ literal v → is_uniform c ≡ true) → Fine ns (record { members = e ∷ []; constant = c })
fine-one ns e c l u = record {
  filled = omega arith;
  uniform = λ x v h q. u v (ap (λ (y : ℕ). node_at ns y) (among_one x e h) ∙ q);
  inside = λ x h. rw (among_one x e h) at l;
}

-- a literal carries a uniform constant
carried-uniform : (n : Node) (v : ℕ) → n ≡ literal v → is_uniform (carried n) ≡ true
unfolding carried is_uniform
carried-uniform n v q = rw q

fine-single : (ns : List Node) (e : ℕ) → e < length ns → Fine ns (single ns e)
unfolding single
fine-single ns e l = fine-one ns e (carried (node_at ns e)) l (λ v q. carried-uniform (node_at ns e) v q)

fine-pair : (ns : List Node) (a b : ℕ) → a < length ns → b < length ns → Fine ns (pair ns a b)
unfolding pair
fine-pair ns a b la lb = go (eqb a b)
  where
    go : (t : Bool) → Fine ns (if t then single ns a else merged (single ns a) (single ns b))
    go true = fine-single ns a la
    go false = fine-merged ns (single ns a) (single ns b) (fine-single ns a la) (fine-single ns b lb)

-- an equal condition, by its cases
fine-equated : (ns : List Node) (cs : List Class) (a b : ℕ) → All (Fine ns) cs → a < length ns → b < length ns → (p q : Option ℕ) → class_of cs a ≡ p → class_of cs b ≡ q → All (Fine ns) (equated ns cs a b p q).1
unfolding equated joined
fine-equated ns cs a b f la lb None None p q = all_more (Fine ns) cs (pair ns a b) f (fine-pair ns a b la lb)
fine-equated ns cs a b f la lb None (Some j) p q =
    all-merged_at (Fine ns) cs j (single ns a) f (λ l. fine-merged ns (class_at cs j) (single ns a) (f j l) (fine-single ns a la))
fine-equated ns cs a b f la lb (Some i) None p q =
    all-merged_at (Fine ns) cs i (single ns b) f (λ l. fine-merged ns (class_at cs i) (single ns b) (f i l) (fine-single ns b lb))
fine-equated ns cs a b f la lb (Some i) (Some j) p q = go (eqb i j)
  where
    less : All (Fine ns) (removed cs (max i j))
    less = all-removed (Fine ns) cs (max i j) f

    go : (t : Bool) → All (Fine ns) (if t then cs else joined cs i j)
    go true = f
    go false =
        let h : max i j < length cs = omega (arith, (class_of-some cs a i p).0, (class_of-some cs b j q).0) in
        all-merged_at (Fine ns) (removed cs (max i j)) (min i j) (class_at cs (max i j)) less
        (λ l. fine-merged ns (class_at (removed cs (max i j)) (min i j)) (class_at cs (max i j)) (less (min i j) l) (f (max i j) h))

pub condition_good : (ns : List Node) (cs : List Class) (a b : ℕ) → Good ns cs → a < length ns → b < length ns → Good ns (equal_condition ns cs a b).1
unfolding equal_condition
condition_good ns cs a b g la lb =
    let p = good-parts ns cs g in
    parts-good ns (equal_condition ns cs a b).1
    (record { once = (condition_joins ns cs p.once a b).once; fine = fine-equated ns cs a b p.fine la lb (class_of cs a) (class_of cs b) refl refl })

-- an expression that is no member may become one
once-push : (cs : List Class) (a : ℕ) → Once cs → counts a cs ≡ 0 → (e : ℕ) → counts e cs + count e (a ∷ []) ≤ 1
once-push cs a o z e = go (ℕ_discrete a e)
  where
    go : Dec (a ≡ e) → counts e cs + count e (a ∷ []) ≤ 1
    go (yes q) =
        let z' : counts e cs ≡ 0 = rw q at z in
        omega (arith, subst (λ (k : ℕ). count e (k ∷ []) ≡ 1) (sym q) (count_same e))
    go (no q) = omega (arith, count-other e a q, o e)

-- a class with an equal constant has a uniform one, where that is
same-uniform : (two : Bool) (c d : Constant) → same_constant two c d ≡ true → is_uniform d ≡ true → is_uniform c ≡ true
unfolding same_constant is_uniform
same-uniform two no_constant no_constant h u = u
same-uniform two no_constant heterogeneous h u = u
same-uniform two no_constant unknown h u = absurd (true_not_false h refl)
same-uniform two no_constant (known w) h u = absurd (true_not_false h refl)
same-uniform two heterogeneous no_constant h u = u
same-uniform two heterogeneous heterogeneous h u = u
same-uniform two heterogeneous unknown h u = absurd (true_not_false h refl)
same-uniform two heterogeneous (known w) h u = absurd (true_not_false h refl)
same-uniform two unknown d h u = refl
same-uniform two (known v) d h u = refl

-- the first class with an equal constant is uniform
like-uniform : (two : Bool) (cs : List Class) (c : Constant) (i : ℕ) → class_like two cs c ≡ Some i → (i < length cs) × (is_uniform (class_at cs i).constant ≡ true)
unfolding class_like
like-uniform two cs c i = go (is_uniform c) refl
  where
    go : (t : Bool) → is_uniform c ≡ t → (if t then first (λ j. same_constant two (class_at cs j).constant c) (length cs) else None) ≡ Some i → (i < length cs) × (is_uniform (class_at cs i).constant ≡ true)
    go true u q =
        let f = first_some (λ (j : ℕ). same_constant two (class_at cs j).constant c) (length cs) i q in
        (f.below, same-uniform two (class_at cs i).constant c f.passes u)
    go false u q = absurd (let z : ◌≡◌ {A = ℕ} 0 1 = cc in omega arith)

module _ (ns : List Node) (cs : List Class) (p : Parts ns cs) (e : ℕ) (l : e < length ns) where
  -- over a member's class
  parts-member : (c : Constant) (i : ℕ) → class_of cs e ≡ Some i → Parts ns (constant_at cs i c)
  unfolding constant_at
  parts-member c i q =
      let k = (class_of-some cs e i q).0 in
      let f = p.fine i k in
      record {
        once = λ x. omega (arith, counts-set x cs i (record { members = (class_at cs i).members; constant = taken (class_at cs i).constant c }) k, p.once x);
        fine = all_set (Fine ns) cs i (record { members = (class_at cs i).members; constant = taken (class_at cs i).constant c }) p.fine
            (λ k. record { filled = f.filled; uniform = λ x v h r. taken-keeps (class_at cs i).constant c (f.uniform x v h r); inside = f.inside });
      }

  -- a nonmember, in the class that was found or a new one
  parts_nonmember : (c : Constant) → counts e cs ≡ 0 → ((v : ℕ) → node_at ns e ≡ literal v → is_uniform c ≡ true) → (two : Bool) (o : Option ℕ) → class_like two cs c ≡ o → Parts ns (constant_for cs e c o)
  unfolding constant_for merged taken
  parts_nonmember c z u two None q = record {
    once = λ x. omega (arith, counts-more x cs (record { members = e ∷ []; constant = c }), once-push cs e p.once z x);
    fine = all_more (Fine ns) cs (record { members = e ∷ []; constant = c }) p.fine (fine-one ns e c l u);
  }
  parts_nonmember c z u two (Some i) q =
      let k = like-uniform two cs c i q in
      record {
        once = λ x. omega (arith, counts-merged_at x cs i (record { members = e ∷ []; constant = no_constant }) k.0, once-push cs e p.once z x);
        fine = all-merged_at (Fine ns) cs i (record { members = e ∷ []; constant = no_constant }) p.fine (λ b. record {
          filled = omega (arith, length-append (class_at cs i).members (e ∷ []));
          uniform = λ x v h r. k.1;
          inside = λ x h. inside-at i b x (among-either x (class_at cs i).members (e ∷ []) h);
        });
      }
    where
      inside-at : (i : ℕ) → i < length cs → (x : ℕ) → (among x (class_at cs i).members ≡ true) ⊎ (among x (e ∷ []) ≡ true) → x < length ns
      inside-at i b x (inl h) = (p.fine i b).inside x h
      inside-at i b x (inr h) = rw (among_one x e h) at l

  parts-constant : (two : Bool) (c : Constant) → ((v : ℕ) → node_at ns e ≡ literal v → is_uniform c ≡ true) → (o : Option ℕ) → class_of cs e ≡ o → Parts ns (constant_in two cs e c o)
  unfolding constant_in
  parts-constant two c u None q = parts_nonmember c (class_of-none cs e q) u two (class_like two cs c) refl
  parts-constant two c u (Some i) q = parts-member c i q

pub constant-good : (two : Bool) (ns : List Node) (cs : List Class) (e : ℕ) → Good ns cs → e < length ns → (said : Constant) → Good ns (with_constant two ns cs e said)
unfolding with_constant given
constant-good two ns cs e g l said =
    parts-good ns (with_constant two ns cs e said)
    (parts-constant ns cs (good-parts ns cs g) e l two (given ns e said) (λ v q. taken-keeps (carried (node_at ns e)) said (carried-uniform (node_at ns e) v q)) (class_of cs e) refl)

-- only a class with a heterogeneous constant is not kept as it was
changed-is : (c : Class) (k : Cleared) → cleared_by c ≡ k → (k ≡ kept → ⊥) → c.constant ≡ heterogeneous
unfolding cleared_by
changed-is c k h n = go c.constant refl
  where
    go : (d : Constant) → c.constant ≡ d → d ≡ heterogeneous
    go no_constant q = absurd (n (sym h ∙ rw q))
    go heterogeneous q = refl
    go unknown q = absurd (n (sym h ∙ rw q))
    go (known v) q = absurd (n (sym h ∙ rw q))

-- where a constant is heterogeneous there is a class
pub heterogeneous-below : (cs : List Class) (i : ℕ) → (class_at cs i).constant ≡ heterogeneous → i < length cs
heterogeneous-below cs i h = go (dec_lt i (length cs))
  where
    go : Dec (i < length cs) → i < length cs
    go (yes l) = l
    go (no n) =
        let d = get_or-eq_default cs nothing {n = i} (omega arith) in
        let r : no_constant ≡ heterogeneous = sym (ap (λ (c : Class). c.constant) d) ∙ h in
        absurd (let z : ◌≡◌ {A = ℕ} 0 1 = cc in omega arith)

-- a constant dropped: a literal's class is uniform, so no literal is there
parts-dropped : (ns : List Node) (cs : List Class) (i : ℕ) → Parts ns cs → (class_at cs i).constant ≡ heterogeneous → Parts ns (set cs i (record { members = (class_at cs i).members; constant = no_constant }))
unfolding is_uniform
parts-dropped ns cs i p h =
    let k = heterogeneous-below cs i h in
    let f = p.fine i k in
    record {
      once = λ x. omega (arith, counts-set x cs i (record { members = (class_at cs i).members; constant = no_constant }) k, p.once x);
      fine = all_set (Fine ns) cs i (record { members = (class_at cs i).members; constant = no_constant }) p.fine
          (λ k. record { filled = f.filled; uniform = λ x v m r. rw h at (f.uniform x v m r); inside = f.inside });
    }

parts-gone : (ns : List Node) (cs : List Class) (i : ℕ) → Parts ns cs → (class_at cs i).constant ≡ heterogeneous → Parts ns (removed cs i)
parts-gone ns cs i p h = record {
  once = λ x. omega (arith, counts-removed x cs i (heterogeneous-below cs i h), p.once x);
  fine = all-removed (Fine ns) cs i p.fine;
}

-- what a dropped constant and a dropped class keep, clearing keeps
module _ (P : List Class → Type 0)
    (d : (cs : List Class) (i : ℕ) → (class_at cs i).constant ≡ heterogeneous → P cs → P (set cs i (record { members = (class_at cs i).members; constant = no_constant })))
    (g : (cs : List Class) (i : ℕ) → (class_at cs i).constant ≡ heterogeneous → P cs → P (removed cs i)) where
  rest-keeps : (n i : ℕ) (changed : Bool) (cs : List Class) → length cs - i ≡ n → P cs → P (clear_rest i changed cs).1
  rest-keeps zero i changed cs e p = rw (clear_end i changed cs (omega arith)) p
  rest-keeps (suc n) i changed cs e p = go (cleared_by (class_at cs i)) refl (rest-keeps n)
    where
      l : i < length cs
      l = omega arith

      go : (k : Cleared) → cleared_by (class_at cs i) ≡ k → ((i : ℕ) (changed : Bool) (cs : List Class) → length cs - i ≡ n → P cs → P (clear_rest i changed cs).1) → P (clear_rest i changed cs).1
      go kept q r = rw (clear_kept i changed cs l q) (r (i + 1) changed cs (omega arith) p)
      go dropped q r =
          let ds : List Class = set cs i (record { members = (class_at cs i).members; constant = no_constant }) in
          rw (clear-dropped i changed cs l q)
          (r (i + 1) true ds (omega (arith, length-set cs i (record { members = (class_at cs i).members; constant = no_constant })))
          (d cs i (changed-is (class_at cs i) dropped q (λ e. let z : ◌≡◌ {A = ℕ} 0 1 = cc in omega arith)) p))
      go gone q r =
          rw (clear-gone i changed cs l q)
          (r i true (removed cs i) (omega (arith, length_removed cs i)) (g cs i (changed-is (class_at cs i) gone q (λ e. let z : ◌≡◌ {A = ℕ} 0 1 = cc in omega arith)) p))

  pub clear-keeps : (cs : List Class) → P cs → P (cleared cs).1
  unfolding cleared
  clear-keeps cs p = rest-keeps (length cs) 0 false cs (omega arith) p

pub clear-good : (ns : List Node) (cs : List Class) → Good ns cs → Good ns (cleared cs).1
clear-good ns cs g =
    parts-good ns (cleared cs).1 (clear-keeps (λ (ds : List Class). Parts ns ds) (λ ds i h p. parts-dropped ns ds i p h) (λ ds i h p. parts-gone ns ds i p h) cs (good-parts ns cs g))

-- no class at all
pub empty-good : (ns : List Node) → Good ns []
unfolding sum
empty-good ns = parts-good ns [] (record { once = λ e. omega arith; fine = λ i l. absurd (omega arith) })

-- the calls, refused or not
pub add_equal-good : (limit : ℕ) (ns : List Node) (a b : ℕ) (cs : List Class) → Good ns cs → Good ns (add_equal limit ns a b cs).classes
add_equal-good limit ns a b cs g = add_equal-holds (λ (ds : List Class). Good ns ds) limit cs g ns a b (λ la lb q. condition_good ns cs a b g la lb)

pub add_constant-good : (two : Bool) (limit : ℕ) (ns : List Node) (e : ℕ) (said : Constant) (cs : List Class) → Good ns cs → Good ns (add_constant two limit ns e said cs).classes
add_constant-good two limit ns e said cs g = add_constant-holds (λ (ds : List Class). Good ns ds) limit cs g two ns e said (λ l q. constant-good two ns cs e g l said)

pub clear-call-good : (ns : List Node) (cs : List Class) → Good ns cs → Good ns (clear cs).classes
unfolding clear
clear-call-good ns cs g = clear-good ns cs g

-- a sequence of equal conditions
pub after-good : (limit : ℕ) (ns : List Node) (cs : List Class) (ps : List (ℕ × ℕ)) → Good ns cs → Good ns (after limit ns cs ps)
unfolding after
after-good limit ns cs [] g = g
after-good limit ns cs (p ∷ ps) g =
    after-good limit ns (add_equal limit ns p.0 p.1 cs).classes ps (add_equal-good limit ns p.0 p.1 cs g)
