-- The constants of sources reach their targets: a constant that was said of an expression stays with its class, whatever is said later.
use Rattle.std.specs.Prelude.{if◌then◌else◌, Option, None, Some}
use Prim.Native.Nat.{ℕ, zero, suc, ◌+◌, ◌<◌}
use mathlib.Core.Bool.{Bool, true, false}
use mathlib.Core.List.{List, [], ◌∷◌}
use mathlib.Core.Path.{◌≡◌, refl, sym, ap, ◌∙◌, subst}
use native.Mathlib.Decide.{ℕ_discrete}
use native.Mathlib.Omega.{arith}
use lib.ListN.{length, get_or, length-append, length-map, length-set, get_or-append}
use lib.Seq.{get_or-append-add, get_or-set_same, get_or-set_other}
use Rattle.laws.specs.Tests.{first}
use Rattle.laws.proofs.Booleans.{true_not_false}
use Rattle.laws.proofs.First.{first_some}
use Rattle.arena.specs.Node.{Node, node_at}
use Rattle.arena.specs.Arena.{Sound, Extends, placed}
use Rattle.arena.proofs.Made.{made_kept}
use Rattle.classes.specs.declared.Constant.{Constant}
use Rattle.classes.specs.declared.Constant.TheVariants.{NoConstant as no_constant, Heterogeneous as heterogeneous, Unknown as unknown, Known as known}
use Rattle.classes.specs.Class.{Class, is_constant, is_uniform, taken, carried, merged, same_constant}
use Rattle.classes.specs.Group.{among, class_at, class_of, given, constant_at, class_like, constant_for, constant_in, with_constant}
use Rattle.classes.specs.Good.{Good}
use Rattle.classes.proofs.Places.{nothing, among-left, among-right, one-among, class_of-some, class_of-only, length-merged_at, merged_at-same, merged_at-other, more-old, more-new, length_more}
use Rattle.questions.specs.Questions.{class_constant, constant_of_node, constant_by, expr_constant}
use Rattle.demands.proofs.GoodKept.{taken-keeps, taken-uniform}
use Rattle.mappings.specs.Mapping.{Mapped, mapped_at}
use Rattle.mappings.specs.Agree.{Over}
use Rattle.group_projection.specs.Group.{projected_numbers, new_constants, constants_said, before_constants, projected_group}
use Rattle.group_projection.proofs.ConstantLaws.{nothing_said, said-first, said_of}
use Rattle.projection_laws.proofs.ProjectedList.{mapped_at_lem}
use Rattle.projection_laws.proofs.GroupHanded.{group-steps, group-within}

-- an expression of the arena keeps its constant when the arena grows
pub constant-kept : {ns os : List Node} → Extends ns os → (cs : List Class) (e : ℕ) → e < length ns → expr_constant os cs e ≡ expr_constant ns cs e
unfolding constant_by
constant-kept x cs e l = made_kept (λ answers i n. constant_of_node (class_constant cs) answers i n) no_constant x e l

-- ---- what constants keep

-- a test of constants that a constant passes where it takes the place of another, or another its place, or equals one that does
pub record Kept (test : Constant → Bool) : Type 0 where
  pub keeps : (old new : Constant) → test old ≡ true → test (taken old new) ≡ true
  pub takes : (old new : Constant) → test new ≡ true → test (taken old new) ≡ true
  pub same : (two : Bool) (c d : Constant) → same_constant two c d ≡ true → test d ≡ true → test c ≡ true
  pub says : (c : Constant) → test c ≡ true → is_constant c ≡ true

-- a constant that equals one that there is, uniform or not, is such a one
same_kept : (two : Bool) (c d : Constant) → same_constant two c d ≡ true → (is_constant d ≡ is_constant c) × (is_uniform d ≡ is_uniform c)
unfolding same_constant is_constant is_uniform
same_kept two no_constant no_constant h = (refl, refl)
same_kept two no_constant heterogeneous h = absurd (true_not_false h refl)
same_kept two no_constant unknown h = absurd (true_not_false h refl)
same_kept two no_constant (known w) h = absurd (true_not_false h refl)
same_kept two heterogeneous no_constant h = absurd (true_not_false h refl)
same_kept two heterogeneous heterogeneous h = (refl, refl)
same_kept two heterogeneous unknown h = absurd (true_not_false h refl)
same_kept two heterogeneous (known w) h = absurd (true_not_false h refl)
same_kept two unknown no_constant h = absurd (true_not_false h refl)
same_kept two unknown heterogeneous h = absurd (true_not_false h refl)
same_kept two unknown unknown h = (refl, refl)
same_kept two unknown (known w) h = absurd (true_not_false h refl)
same_kept two (known v) no_constant h = absurd (true_not_false h refl)
same_kept two (known v) heterogeneous h = absurd (true_not_false h refl)
same_kept two (known v) unknown h = absurd (true_not_false h refl)
same_kept two (known v) (known w) h = (refl, refl)

-- a uniform constant is one
uniform-constant : (c : Constant) → is_uniform c ≡ true → is_constant c ≡ true
unfolding is_constant is_uniform
uniform-constant no_constant h = h
uniform-constant heterogeneous h = refl
uniform-constant unknown h = refl
uniform-constant (known v) h = refl

-- being uniform is such a test
uniform-kept : Kept is_uniform
uniform-kept = record { keeps = taken-keeps; takes = taken-uniform; same = λ two c d e h. sym (same_kept two c d e).1 ∙ h; says = uniform-constant }

-- of two constants, the one that is taken is there where either is
chosen-constant : (old new : Constant) → is_constant new ≡ true → is_constant (if is_uniform old then old else new) ≡ true
chosen-constant old new h = go (is_uniform old) refl
  where
    go : (b : Bool) → is_uniform old ≡ b → is_constant (if b then old else new) ≡ true
    go true q = uniform-constant old q
    go false q = h

-- a constant stays one, whatever comes over it
taken-stays : (old new : Constant) → is_constant old ≡ true → is_constant (taken old new) ≡ true
unfolding taken is_constant
taken-stays old no_constant h = h
taken-stays old heterogeneous h = chosen-constant old heterogeneous refl
taken-stays old unknown h = chosen-constant old unknown refl
taken-stays old (known v) h = chosen-constant old (known v) refl

-- and one over any is one
taken-constant : (old new : Constant) → is_constant new ≡ true → is_constant (taken old new) ≡ true
unfolding taken is_constant
taken-constant old no_constant h = absurd (true_not_false h refl)
taken-constant old heterogeneous h = chosen-constant old heterogeneous refl
taken-constant old unknown h = chosen-constant old unknown refl
taken-constant old (known v) h = chosen-constant old (known v) refl

-- being there is such a test
constant_is-kept : Kept is_constant
constant_is-kept = record { keeps = taken-stays; takes = taken-constant; same = λ two c d e h. sym (same_kept two c d e).0 ∙ h; says = λ c h. h }

module _ (test : Constant → Bool) (t : Kept test) where
  -- a class that passes holds the expression
  record Has (cs : List Class) (x : ℕ) : Type 0 where
    place : ℕ
    below : place < length cs
    holds : among x (class_at cs place).members ≡ true
    passes : test (class_at cs place).constant ≡ true

  -- where it is the only one, it is the expression's class
  has-constant : (ns : List Node) (cs : List Class) → Good ns cs → (x : ℕ) → Has cs x → test (class_constant cs x) ≡ true
  unfolding class_constant
  has-constant ns cs g x h = rw (class_of-only cs g.distinct x h.place h.below h.holds) h.passes

  -- a constant over a class's own
  has-at : (cs : List Class) (i : ℕ) (c : Constant) (x : ℕ) → Has cs x → Has (constant_at cs i c) x
  unfolding constant_at
  has-at cs i c x h = go (ℕ_discrete h.place i)
    where
      new : Class
      new = record { members = (class_at cs i).members; constant = taken (class_at cs i).constant c }

      go : Dec (h.place ≡ i) → Has (constant_at cs i c) x
      go (yes q) =
          let b : i < length cs = omega (arith, h.below) in
          let r = get_or-set_same cs i new nothing b in
          record {
            place = i;
            below = omega (arith, length-set cs i new);
            holds = ap (λ (d : Class). among x d.members) r ∙ subst (λ (k : ℕ). among x (class_at cs k).members ≡ true) q h.holds;
            passes = ap (λ (d : Class). test d.constant) r ∙ t.keeps (class_at cs i).constant c (subst (λ (k : ℕ). test (class_at cs k).constant ≡ true) q h.passes);
          }
      go (no q) =
          let r = get_or-set_other cs i h.place new nothing q in
          record {
            place = h.place;
            below = omega (arith, length-set cs i new, h.below);
            holds = ap (λ (d : Class). among x d.members) r ∙ h.holds;
            passes = ap (λ (d : Class). test d.constant) r ∙ h.passes;
          }

  -- a nonmember in a class that was found or a new one
  has_for : (cs : List Class) (e : ℕ) (c : Constant) (o : Option ℕ) (x : ℕ) → Has cs x → Has (constant_for cs e c o) x
  unfolding constant_for merged
  has_for cs e c None x h =
      let new : Class = record { members = e ∷ []; constant = c } in
      let r = more-old cs new h.place h.below in
      record {
        place = h.place;
        below = omega (arith, length_more cs new, h.below);
        holds = ap (λ (d : Class). among x d.members) r ∙ h.holds;
        passes = ap (λ (d : Class). test d.constant) r ∙ h.passes;
      }
  has_for cs e c (Some i) x h = go (ℕ_discrete h.place i)
    where
      new : Class
      new = record { members = e ∷ []; constant = no_constant }

      go : Dec (h.place ≡ i) → Has (constant_for cs e c (Some i)) x
      go (yes q) =
          let b : i < length cs = omega (arith, h.below) in
          let r = merged_at-same cs i new b in
          record {
            place = i;
            below = omega (arith, length-merged_at cs i new);
            holds = ap (λ (d : Class). among x d.members) r ∙ among-left x (class_at cs i).members (e ∷ []) (subst (λ (k : ℕ). among x (class_at cs k).members ≡ true) q h.holds);
            passes = ap (λ (d : Class). test d.constant) r ∙ t.keeps (class_at cs i).constant no_constant (subst (λ (k : ℕ). test (class_at cs k).constant ≡ true) q h.passes);
          }
      go (no q) =
          let r = merged_at-other cs i h.place new q in
          record {
            place = h.place;
            below = omega (arith, length-merged_at cs i new, h.below);
            holds = ap (λ (d : Class). among x d.members) r ∙ h.holds;
            passes = ap (λ (d : Class). test d.constant) r ∙ h.passes;
          }

  module _ (two : Bool) (ns : List Node) where
    -- a constant said of any expression leaves the class one that passes
    has_kept : (cs : List Class) (e : ℕ) (said : Constant) (x : ℕ) → Has cs x → Has (with_constant two ns cs e said) x
    unfolding with_constant constant_in
    has_kept cs e said x h = go (class_of cs e)
      where
        go : (o : Option ℕ) → Has (constant_in two cs e (given ns e said) o) x
        go (Some i) = has-at cs i (given ns e said) x h
        go None = has_for cs e (given ns e said) (class_like two cs (given ns e said)) x h

    -- an expression of which a constant is said that passes is in such a class
    has-said : (cs : List Class) (e : ℕ) (said : Constant) → test said ≡ true → Has (with_constant two ns cs e said) e
    unfolding with_constant constant_in constant_at constant_for class_like given merged
    has-said cs e said p = go (class_of cs e) refl
      where
        c : Constant
        c = given ns e said

        passes : test c ≡ true
        passes = t.takes (carried (node_at ns e)) said p

        like : Bool → Option ℕ
        like b = if b then first (λ j. same_constant two (class_at cs j).constant c) (length cs) else None

        alike : (b : Bool) (i : ℕ) → like b ≡ Some i → (i < length cs) × (same_constant two (class_at cs i).constant c ≡ true)
        alike true i q = let f = first_some (λ (j : ℕ). same_constant two (class_at cs j).constant c) (length cs) i q in (f.below, f.passes)
        alike false i q = absurd (let z : ◌≡◌ {A = ℕ} 0 1 = cc in omega arith)

        found : (o : Option ℕ) → like (is_uniform c) ≡ o → Has (constant_for cs e c o) e
        found None q =
            let new : Class = record { members = e ∷ []; constant = c } in
            let r = more-new cs new in
            record {
              place = length cs;
              below = omega (arith, length_more cs new);
              holds = ap (λ (d : Class). among e d.members) r ∙ one-among e;
              passes = ap (λ (d : Class). test d.constant) r ∙ passes;
            }
        found (Some i) q =
            let new : Class = record { members = e ∷ []; constant = no_constant } in
            let a = alike (is_uniform c) i q in
            let r = merged_at-same cs i new a.0 in
            record {
              place = i;
              below = omega (arith, length-merged_at cs i new, a.0);
              holds = ap (λ (d : Class). among e d.members) r ∙ among-right e (class_at cs i).members (e ∷ []) (one-among e);
              passes = ap (λ (d : Class). test d.constant) r ∙ t.keeps (class_at cs i).constant no_constant (t.same two (class_at cs i).constant c a.1 passes);
            }

        go : (o : Option ℕ) → class_of cs e ≡ o → Has (constant_in two cs e c o) e
        go None q = found (like (is_uniform c)) refl
        go (Some i) q =
            let new : Class = record { members = (class_at cs i).members; constant = taken (class_at cs i).constant c } in
            let m = class_of-some cs e i q in
            let r = get_or-set_same cs i new nothing m.0 in
            record {
              place = i;
              below = omega (arith, length-set cs i new, m.0);
              holds = ap (λ (d : Class). among e d.members) r ∙ m.1;
              passes = ap (λ (d : Class). test d.constant) r ∙ t.takes (class_at cs i).constant c passes;
            }

    -- ---- one after the other

    -- all of them leave a class one that passes
    has-after : (qs : List (ℕ × Constant)) (cs ds : List Class) → constants_said two ns qs cs ≡ Some ds → (x : ℕ) → Has cs x → Has ds x
    unfolding constants_said
    has-after [] cs ds e x h = let y : cs ≡ ds = cc in subst (λ (l : List Class). Has l x) y h
    has-after (q ∷ qs) cs ds e x h = has-after qs (with_constant two ns cs q.0 q.1) ds (said-first two ns q qs cs ds e).1 x (has_kept cs q.0 q.1 x h)

    -- and whatever is said that passes, its expression is in such a class in the end
    has_all : (qs : List (ℕ × Constant)) (cs ds : List Class) → constants_said two ns qs cs ≡ Some ds
        → (k : ℕ) → k < length qs → test (get_or qs k nothing_said).1 ≡ true → Has ds (get_or qs k nothing_said).0
    has_all [] cs ds e k l p = absurd (omega arith)
    has_all (q ∷ qs) cs ds e zero l p =
        has-after qs (with_constant two ns cs q.0 q.1) ds (said-first two ns q qs cs ds e).1 q.0 (has-said cs q.0 q.1 p)
    has_all (q ∷ qs) cs ds e (suc k) l p = has_all qs (with_constant two ns cs q.0 q.1) ds (said-first two ns q qs cs ds e).1 k (omega arith) p

-- ---- of sources

-- what is said of a target of a constant source stands at some place
new-place : (ns : List Node) (cs : List Class) (ps : List Mapped) (i k : ℕ) → i < length ps → k < length (mapped_at ps i).targets → is_constant (expr_constant ns cs (mapped_at ps i).source) ≡ true
    → (n : ℕ) × (n < length (new_constants ns cs ps)) × (get_or (new_constants ns cs ps) n nothing_said ≡ (get_or (mapped_at ps i).targets k 0, expr_constant ns cs (mapped_at ps i).source))
unfolding new_constants
new-place ns cs [] i k l b h = absurd (omega arith)
new-place ns cs (p ∷ ps) zero k l b h =
    let c = expr_constant ns cs p.source in
    let m = length-map {B = ℕ × Constant} p.targets (λ (t : ℕ). (t, c)) in
    rw h (
      k,
      omega (arith, length-append (said_of c p.targets) (new_constants ns cs ps)),
      get_or-append (said_of c p.targets) (new_constants ns cs ps) nothing_said k (omega arith) ∙ mapped_at_lem {B = ℕ × Constant} (λ (t : ℕ). (t, c)) p.targets k 0 nothing_said b,
    )
new-place ns cs (p ∷ ps) (suc i) k l b h =
    let own : List (ℕ × Constant) = if is_constant (expr_constant ns cs p.source) then said_of (expr_constant ns cs p.source) p.targets else [] in
    let r = new-place ns cs ps i k (omega arith) b h in
    (length own + r.0, omega (arith, length-append own (new_constants ns cs ps), r.1), get_or-append-add own (new_constants ns cs ps) r.0 nothing_said ∙ r.2)

module _ (ns : List Node) (cs : List Class) (ps : List Mapped) (s : Sound ns) (g : Good ns cs) (o : Over ns ps)
    (ks : List (Option ℕ)) (js : List ℕ) (os : List Node) (placed-is : projected_numbers ns cs ps ≡ placed (ks, js) os)
    (ds : List Class) (made : projected_group os cs ps ks js ≡ Some ds) (i k : ℕ) (l : i < length ps) (b : k < length (mapped_at ps i).targets) where
  -- a source's constant that passes reaches each of its targets
  reaches : (test : Constant → Bool) → Kept test → test (expr_constant os cs (mapped_at ps i).source) ≡ true → test (class_constant ds (get_or (mapped_at ps i).targets k 0)) ≡ true
  reaches test t h =
      let n = new-place os cs ps i k l b (t.says (expr_constant os cs (mapped_at ps i).source) h) in
      let q = ap (λ (w : ℕ × Constant). w.0) n.2 in
      let c = ap (λ (w : ℕ × Constant). test w.1) n.2 in
      has-constant test t os ds (group-within ns cs ps s g o ks js os placed-is ds made).good (get_or (mapped_at ps i).targets k 0)
      (subst (λ (x : ℕ). Has test t ds x) q
      (has_all test t true os (new_constants os cs ps) (before_constants os cs ps ks js) ds (group-steps ns cs ps s g o ks js os placed-is ds made).1 n.0 n.1 (c ∙ h)))

  -- each target of a uniform source is in a class with a uniform constant
  pub uniform-reaches : is_uniform (expr_constant os cs (mapped_at ps i).source) ≡ true → is_uniform (class_constant ds (get_or (mapped_at ps i).targets k 0)) ≡ true
  uniform-reaches = reaches is_uniform uniform-kept

  -- each target of a constant source is in a class with a constant
  pub heterogeneous-reaches : is_constant (expr_constant os cs (mapped_at ps i).source) ≡ true → is_constant (class_constant ds (get_or (mapped_at ps i).targets k 0)) ≡ true
  heterogeneous-reaches = reaches is_constant constant_is-kept
