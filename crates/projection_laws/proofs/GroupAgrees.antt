-- The classes of a projected group agree on the output row wherever the classes agree on the input row and each target has there its source's value.
use Prim.Native.Nat.{ℕ, zero, suc, ◌+◌, ◌<◌}
use mathlib.Core.Bool.{true}
use mathlib.Core.List.{List, [], ◌∷◌, ◌++◌}
use Rattle.std.specs.Prelude.{Option, None, Some}
use mathlib.Core.Path.{◌≡◌, refl, sym, ap, ◌∙◌, subst}
use native.Mathlib.Omega.{arith}
use lib.ListN.{length, get_or, take, drop, length-append, length-take, get_or-append}
use lib.Seq.{get_or-take, get_or-drop, get_or-append-add}
use Rattle.arena.specs.Node.{Node}
use Rattle.arena.specs.Expression.{Expression, expression_at}
use Rattle.arena.specs.Value.{Meaning, Row, value}
use Rattle.arena.specs.Arena.{Sound, placed}
use Rattle.arena.proofs.Values.{value-kept}
use Rattle.classes.specs.Class.{Class}
use Rattle.classes.specs.Group.{among, class_at}
use Rattle.classes.specs.Good.{flat, Good}
use Rattle.classes.specs.Agree.{Same, MembersAgree}
use Rattle.classes.proofs.Places.{All, get_or-among, class-flat}
use Rattle.normal.proofs.NormalValue.{normal-value}
use Rattle.merging.specs.Extending.{class_from}
use Rattle.merging.proofs.Overlaps.{Within}
use Rattle.merging.proofs.Reaching.{all_append}
use Rattle.merging_laws.proofs.BridgingTheorems.{new-agrees}
use Rattle.merging_laws.proofs.JoinLaws.{from_place}
use Rattle.mappings.specs.Mapping.{Mapped, mapped_at}
use Rattle.mappings.specs.Agree.{TargetsAgree, Over}
use Rattle.group_projection.specs.Group.{projected_numbers, there, projected_classes, targets_of, source_classes, projected_list, before_constants}
use Rattle.group_projection.proofs.FairProjected.{there-place, TargetOf, targets-place, all-sources, all-telling}
use Rattle.projection_table.specs.Projecting.{projection}
use Rattle.projection_laws.proofs.LentOver.{target-inside}
use Rattle.projection_laws.proofs.ProjectedValue.{projection-value}
use Rattle.projection_laws.proofs.ProjectedList.{answers-some, answers-kept}
use Rattle.projection_laws.proofs.GroupNumbers.{NumbersPlaced, numbers-placed}

-- ---- where the members come from

-- as many classes as there were
pub length-projected : (os : List Node) (cs : List Class) (ks : List (Option ℕ)) → length (projected_classes os cs ks) ≡ length cs
unfolding projected_classes
length-projected os [] ks = refl
length-projected os (c ∷ cs) ks = ap suc (length-projected os cs (drop (length c.members) ks))

-- each member of a projected class stands for a member of the class, where the numbers that there are stand for the members in order
pub projected-member : (T : ℕ → ℕ → Type 0) (os : List Node) (cs : List Class) (ks : List (Option ℕ)) → ((j k : ℕ) → j < length (flat cs) → get_or ks j None ≡ Some k → T k (get_or (flat cs) j 0))
    → (i x : ℕ) → i < length cs → among x (class_at (projected_classes os cs ks) i).members ≡ true → (e : ℕ) × (among e (class_at cs i).members ≡ true) × T x e
unfolding projected_classes flat
projected-member T os [] ks h i x l p = absurd (omega arith)
projected-member T os (c ∷ cs) ks h zero x l p =
    let n = length c.members in
    let f = from_place os (there (take n ks)) x p in
    let t = there-place (take n ks) f.0 f.1 in
    let j = t.0 in
    let b : j < n = omega (arith, t.1, length-take n ks) in
    let q : get_or ks j None ≡ Some x = sym (get_or-take n ks j None b) ∙ t.2 ∙ ap (λ (k : ℕ). Some k) f.2 in
    let r : get_or (c.members ++ flat cs) j 0 ≡ get_or c.members j 0 = get_or-append c.members (flat cs) 0 j b in
    (get_or c.members j 0, get_or-among c.members j b, subst (λ (k : ℕ). T x k) r (h j x (omega (arith, length-append c.members (flat cs))) q))
projected-member T os (c ∷ cs) ks h (suc i) x l p =
    let n = length c.members in
    projected-member T os cs (drop n ks)
    (λ j k b q. subst (λ (e : ℕ). T k e) (get_or-append-add c.members (flat cs) j 0)
    (h (n + j) k (omega (arith, length-append c.members (flat cs))) (sym (get_or-drop n ks j None) ∙ q)))
    i x (omega arith) p

-- ---- rows

module _ {A : Type 0} (ns : List Node) (cs : List Class) (ps : List Mapped) (s : Sound ns) (g : Good ns cs) (o : Over ns ps)
    (ks : List (Option ℕ)) (js : List ℕ) (os : List Node) (placed-is : projected_numbers ns cs ps ≡ placed (ks, js) os)
    (m : Meaning A) (row out : Row A) (agree : MembersAgree ns cs m row) (targets : TargetsAgree ns ps m row out) where
  -- what was placed
  abbrev numbers : NumbersPlaced ns cs ps ks js os
  numbers = numbers-placed ns cs ps s g o ks js os placed-is

  -- the members of each projected class agree on the output row
  projected-agrees : All (Within (Same os m out)) (projected_classes os cs ks)
  projected-agrees i l x y p q =
      let b : i < length cs = omega (arith, length-projected os cs ks) in
      let e = member x b p in
      let f = member y b q in
      valued x e.0 b e.1 e.2 ∙ agree i e.0 f.0 b e.1 f.1 ∙ sym (valued y f.0 b f.1 f.2)
    where
      T : ℕ → ℕ → Type 0
      T x e = projection ns cs ps e ≡ Some (expression_at os x)

      answered : (j k : ℕ) → j < length (flat cs) → get_or ks j None ≡ Some k → T k (get_or (flat cs) j 0)
      answered j k b q =
          let x = projection ns cs ps (get_or (flat cs) j 0) in
          let a = answers-kept numbers.later x (get_or ks j None) (numbers.projected.answers j b) in
          (answers-some os x (get_or ks j None) a k q).1

      member : (x : ℕ) → i < length cs → among x (class_at (projected_classes os cs ks) i).members ≡ true → (e : ℕ) × (among e (class_at cs i).members ≡ true) × T x e
      member x b p = projected-member T os cs ks answered i x b p

      valued : (x e : ℕ) → i < length cs → among e (class_at cs i).members ≡ true → T x e → value (expression_at os x) m out ≡ value (expression_at ns e) m row
      valued x e b p t = projection-value ns cs ps s o m row out agree targets e (g.inside e (class-flat cs e i b p)) (expression_at os x) t

  -- so do the targets of the sources with one normal form
  targets-agree : (j : ℕ) → Within (Same os m out) (class_from os (targets_of j js ps))
  targets-agree j x y p q = at x p ∙ sym (at y q)
    where
      valued : (x : ℕ) → TargetOf j js ps x → value (expression_at os x) m out ≡ value (expression_at os j) m row
      valued x t =
          let i = t.place in
          let k = t.target in
          ap (λ (e : ℕ). value (expression_at os e) m out) (sym t.is)
          ∙ value-kept numbers.extends (get_or (mapped_at ps i).targets k 0) (target-inside ns ps o i t.below k t.inside) m out
          ∙ targets i k t.below t.inside
          ∙ sym (normal-value ns cs m row s g agree (expression_at ns (mapped_at ps i).source))
          ∙ sym (ap (λ (z : Expression). value z m row) (numbers.is i t.below))
          ∙ ap (λ (e : ℕ). value (expression_at os e) m row) t.form

      at : (x : ℕ) → among x (class_from os (targets_of j js ps)).members ≡ true → value (expression_at os x) m out ≡ value (expression_at os j) m row
      at x p =
          let f = from_place os (targets_of j js ps) x p in
          valued x (subst (TargetOf j js ps) f.2 (targets-place j js ps f.0 f.1))

  -- so do the members of each class that reaches `new`
  pub list-agrees : MembersAgree os (projected_list os cs ps ks js) m out
  unfolding projected_list
  list-agrees i a b l p q =
      all-telling (Within (Same os m out)) (projected_classes os cs ks ++ source_classes os js ps (length js))
      (all_append (Within (Same os m out)) (projected_classes os cs ks) (source_classes os js ps (length js)) projected-agrees (all-sources (Within (Same os m out)) os js ps targets-agree (length js)))
      i l a b p q

  -- and those of each class of the projected group
  pub before-agrees : MembersAgree os (before_constants os cs ps ks js) m out
  before-agrees = new-agrees os (projected_list os cs ps ks js) m out list-agrees
