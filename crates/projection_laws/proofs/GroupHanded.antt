-- A projected group passes the check again, beside the cells as they are left; a refusal leaves what was lent as it was.
use Rattle.std.specs.Prelude.{if◌then◌else◌, Option, None, Some, Err}
use Prim.Native.Nat.{ℕ, zero, suc, ◌<◌}
use mathlib.Core.Bool.{Bool, true, false}
use mathlib.Core.List.{List, [], ◌∷◌, ◌++◌}
use mathlib.Core.Path.{◌≡◌, refl, sym, ap, ◌∙◌, subst}
use native.Mathlib.Decide.{ℕ_discrete, dec_lt}
use native.Mathlib.Omega.{arith}
use lib.ListN.{length, get_or, get_or-eq_default}
use Rattle.arena.specs.Refusals.{refusal}
use Rattle.arena.specs.Node.{Node}
use Rattle.arena.specs.Arena.{Sound, Placed, placed, full}
use Rattle.arena.specs.Layout.{lawful, decode as nodes, encode as cells_of}
use Rattle.arena.specs.Calls.{in_cells}
use Rattle.arena.proofs.Nodes.{extends-longer}
use Rattle.arena.proofs.Layouts.{coded-cells, holds-lawful, encode-holds, decode-encode as nodes-cells}
use Rattle.classes.specs.declared.Constant.{Constant}
use Rattle.classes.specs.Class.{Class}
use Rattle.classes.specs.Good.{flat, Good}
use Rattle.classes.specs.Steps.{fits}
use Rattle.classes.specs.Layout.{encode, decode}
use Rattle.classes.specs.Calls.{changed_number, group_number}
use Rattle.classes.specs.declared.Group.{Group}
use Rattle.classes.specs.declared.Changed.{Changed}
use Rattle.group_checks.proofs.HeldLaws.{number-fit, held_number}
use Rattle.normal.specs.Calls.{on_checked}
use Rattle.merging.specs.Calls.{made_group, refused_group, made_or_refused}
use Rattle.merging_laws.proofs.JoinLaws.{number-positive}
use Rattle.lent_classes.proofs.ListCounts.{fits-few, fits-small}
use Rattle.mappings.specs.Mapping.{Mapped}
use Rattle.mappings.specs.Lent.{mapping_lent}
use Rattle.mappings.specs.Calls.{project_number}
use Rattle.mappings.specs.Agree.{Over}
use Rattle.mappings.proofs.MappingChecked.{group-passes}
use Rattle.projection_table.specs.Projecting.{projection}
use Rattle.projection_table.proofs.TableLaws.{none-some}
use Rattle.projection.proofs.CallLaws.{lent-holds}
use Rattle.group_projection.specs.Group.{projected_numbers, new_constants, constants_said, before_constants, projected_list, projected_group}
use Rattle.group_projection.specs.Calls.{project_placed, project_by, project_answer}
use Rattle.group_projection.proofs.MadeGroups.{Within}
use Rattle.group_projection.proofs.ConstantLaws.{SaidBelow, said-within, new-source, source-below}
use Rattle.group_projection.proofs.FairProjected.{ThereBelow, TargetsBelow, list_fair_projected, from-within}
use Rattle.projection_laws.proofs.ProjectedList.{answers-some, answers-kept}
use Rattle.projection_laws.proofs.LentOver.{target-inside, number-over}
use Rattle.projection_laws.proofs.ProjectedCalls.{checked-by}
use Rattle.projection_laws.proofs.GroupNumbers.{NumbersPlaced, numbers-placed}

-- ---- the projected group is one

-- what is said of numbers below n, one list after the other
said-append : (n : ℕ) (qs rs : List (ℕ × Constant)) → SaidBelow n qs → SaidBelow n rs → SaidBelow n (qs ++ rs)
said-append n [] rs a b k l = b k l
said-append n (q ∷ qs) rs a b zero l = a 0 (omega arith)
said-append n (q ∷ qs) rs a b (suc k) l = said-append n qs rs (λ j m. a (suc j) (omega arith)) b k (omega arith)

-- the constants of sources are said of targets
pub constants-below : (n : ℕ) (ns : List Node) (cs : List Class) (ps : List Mapped) → TargetsBelow n ps → SaidBelow n (new_constants ns cs ps)
unfolding new_constants
constants-below n ns cs [] b = λ k l. absurd (omega arith)
constants-below n ns cs (p ∷ ps) b =
    subst (SaidBelow n) (sym (new-source ns cs p ps))
    (said-append n (new_constants ns cs (p ∷ [])) (new_constants ns cs ps) (source-below ns cs n p (b 0 (omega arith))) (constants-below n ns cs ps (λ i l. b (suc i) (omega arith))))

module _ (ns : List Node) (cs : List Class) (ps : List Mapped) (s : Sound ns) (g : Good ns cs) (o : Over ns ps)
    (ks : List (Option ℕ)) (js : List ℕ) (os : List Node) (placed-is : projected_numbers ns cs ps ≡ placed (ks, js) os) where
  -- what was placed
  abbrev numbers : NumbersPlaced ns cs ps ks js os
  numbers = numbers-placed ns cs ps s g o ks js os placed-is

  -- the projections are in the arena
  projections-below : ThereBelow (length os) ks
  projections-below k i e = go (dec_lt k (length (flat cs)))
    where
      go : Dec (k < length (flat cs)) → i < length os
      go (yes l) =
          let x = projection ns cs ps (get_or (flat cs) k 0) in
          (answers-some os x (get_or ks k None) (answers-kept numbers.later x (get_or ks k None) (numbers.projected.answers k l)) i e).0
      go (no l) = absurd (none-some (get_or-eq_default ks None {n = k} (omega (arith, numbers.projected.counted))) e)

  -- and so are the targets
  pub targets-inside : TargetsBelow (length os) ps
  targets-inside i l k b = omega (arith, target-inside ns ps o i l k b, extends-longer numbers.extends)

  -- what becomes of the list is a group, where the list fits
  pub before-within : fits 256 (projected_list os cs ps ks js) ≡ true → Within os (before_constants os cs ps ks js)
  before-within f = from-within os (projected_list os cs ps ks js) (list_fair_projected os cs ps ks js projections-below targets-inside) f

  -- a projected group that was made: the list fits, and the constants were said
  pub group-steps : (ds : List Class) → projected_group os cs ps ks js ≡ Some ds
      → (fits 256 (projected_list os cs ps ks js) ≡ true) × (constants_said true os (new_constants os cs ps) (before_constants os cs ps ks js) ≡ Some ds)
  unfolding projected_group
  group-steps ds e = go (fits 256 (projected_list os cs ps ks js)) refl e
    where
      said : Option (List Class)
      said = constants_said true os (new_constants os cs ps) (before_constants os cs ps ks js)

      go : (b : Bool) → fits 256 (projected_list os cs ps ks js) ≡ b → (if b then said else None) ≡ Some ds → (fits 256 (projected_list os cs ps ks js) ≡ true) × (said ≡ Some ds)
      go true f q = (f, q)
      go false f q = absurd (let z : ◌≡◌ {A = ℕ} 0 1 = cc in omega arith)

  -- it is a good group within the bounds
  pub group-within : (ds : List Class) → projected_group os cs ps ks js ≡ Some ds → Within os ds
  group-within ds e =
      let p = group-steps ds e in
      said-within true os (new_constants os cs ps) (before_constants os cs ps ks js) ds (constants-below (length os) os cs ps targets-inside) (before-within p.0) p.1

-- ---- the call over nodes

-- a projection that was made: what was placed, and what came of it
pub record GroupMade (ps : List Mapped) (g : Group) (ns : List Node) (r : Changed) (os : List Node) : Type 0 where
  pub members : List (Option ℕ)
  pub forms : List ℕ
  pub classes : List Class
  pub places : projected_numbers ns (decode g) ps ≡ placed (members, forms) os
  pub makes : projected_group os (decode g) ps members forms ≡ Some classes
  pub is : r ≡ made_group classes

-- what the call comes to: the projected group, or group and arena as they were
pub record ProjectedOver (ps : List Mapped) (g : Group) (ns : List Node) (r : Changed × List Node) : Type 0 where
  pub done : changed_number r.0 ≡ 0 → GroupMade ps g ns r.0 r.1
  pub refused : (changed_number r.0 ≡ 0 → ⊥) → (r.0.group ≡ g) × (r.1 ≡ ns)

module _ (ps : List Mapped) (g : Group) (ns : List Node) where
  -- a refusal
  refused_over : (n : ℕ) → ProjectedOver ps g ns (refused_group n g ns)
  unfolding refused_group
  refused_over n = record { done = λ e. absurd (omega (arith, e, number-positive (refusal n))); refused = λ h. (refl, refl) }

  -- so comes every projection
  pub project-over : ProjectedOver ps g ns (project_by ps g ns)
  unfolding project_by project_placed made_or_refused made_group
  project-over = go (projected_numbers ns (decode g) ps) refl
    where
      made : (ks : List (Option ℕ)) (js : List ℕ) (os : List Node) → projected_numbers ns (decode g) ps ≡ placed (ks, js) os
          → (d : Option (List Class)) → projected_group os (decode g) ps ks js ≡ d → ProjectedOver ps g ns (made_or_refused g ns os d)
      made ks js os p (Some cs) q = record { done = λ e. record { members = ks; forms = js; classes = cs; places = p; makes = q; is = refl }; refused = λ z. absurd (z refl) }
      made ks js os p None q = refused_over 4

      go : (p : Placed (List (Option ℕ) × List ℕ)) → projected_numbers ns (decode g) ps ≡ p → ProjectedOver ps g ns (project_placed ps g ns p)
      go (placed kj os) q = made kj.0 kj.1 os q (projected_group os (decode g) ps kj.0 kj.1) refl
      go full q = refused_over 3

-- ---- on lent cells, a lent group and a lent mapping

-- a good group within the bounds passes the check beside its arena laid out in cells
within_valid : (ms : List Node) (cs : List Class) → Sound ms → Within ms cs → group_number (cells_of ms) (encode 256 cs) ≡ 0
within_valid ms cs s w =
    held_number (cells_of ms) (holds-lawful (cells_of ms) (encode-holds ms s)) 256 cs
    (record { low = omega arith; high = omega arith; few = fits-few cs w.room; within = fits-small cs w.room; good = subst (λ (ns : List Node). Good ns cs) (sym (nodes-cells ms s)) w.good })

module _ (cells numbers : List ℕ) (g : Group) where
  -- the call over nodes
  abbrev pub over : Changed × List Node
  over = project_by (mapping_lent numbers) g (nodes cells)

  -- by whether the check passes: what holds of the outcome over nodes and of the refusal holds of the call
  pub project-by : (P : Changed × List ℕ → Type 0) → (project_number cells g numbers ≡ 0 → P (over.0, cells_of over.1))
      → ((project_number cells g numbers ≡ 0 → ⊥) → P (record { answer = Err (refusal (project_number cells g numbers)); group = g }, cells)) → P (project_answer cells g numbers)
  unfolding project_answer on_checked in_cells
  project-by P passed refused =
      checked-by (project_number cells g numbers) (λ (k : ℕ). record { answer = Err (refusal k); group = g }) (λ ns cs. project_by (mapping_lent numbers) g ns) cells g P passed refused

  module _ (z : project_number cells g numbers ≡ 0) where
    -- the lent group's classes are a group
    pub lent-good : Good (nodes cells) (decode g)
    lent-good = (number-fit cells g (group-passes cells numbers g z)).good

    module _ (d : GroupMade (mapping_lent numbers) g (nodes cells) over.0 over.1) where
      -- what was placed
      pub made-numbers : NumbersPlaced (nodes cells) (decode g) (mapping_lent numbers) d.members d.forms over.1
      made-numbers = numbers-placed (nodes cells) (decode g) (mapping_lent numbers) (lent-holds cells numbers g z).sound lent-good (number-over cells g numbers z) d.members d.forms over.1 d.places

      -- what was made
      pub made-within : Within over.1 d.classes
      made-within =
          group-within (nodes cells) (decode g) (mapping_lent numbers) (lent-holds cells numbers g z).sound lent-good (number-over cells g numbers z) d.members d.forms over.1 d.places d.classes d.makes

    -- the arena stays sound
    over-sound : Sound over.1
    over-sound = go (ℕ_discrete (changed_number over.0) 0)
      where
        go : Dec (changed_number over.0 ≡ 0) → Sound over.1
        go (yes e) = (made-numbers ((project-over (mapping_lent numbers) g (nodes cells)).done e)).sound
        go (no e) = subst Sound (sym ((project-over (mapping_lent numbers) g (nodes cells)).refused e).1) (lent-holds cells numbers g z).sound

  -- a projected group is valid beside the cells as they are left
  pub project_valid : changed_number (project_answer cells g numbers).0 ≡ 0 → group_number (project_answer cells g numbers).1 (project_answer cells g numbers).0.group ≡ 0
  unfolding made_group
  project_valid =
      project-by (λ (r : Changed × List ℕ). changed_number r.0 ≡ 0 → group_number r.1 r.0.group ≡ 0)
      (λ z e.
      let d = (project-over (mapping_lent numbers) g (nodes cells)).done e in
      let q : over.0.group ≡ encode 256 d.classes = ap (λ (r : Changed). r.group) d.is in
      subst (λ (h : Group). group_number (cells_of over.1) h ≡ 0) (sym q) (within_valid over.1 d.classes (made-numbers z d).sound (made-within z d)))
      (λ z e. absurd (omega (arith, e, number-positive (refusal (project_number cells g numbers)))))

  -- a refusal hands back the group and leaves every cell as it was
  pub refusal-keeps-project : (changed_number (project_answer cells g numbers).0 ≡ 0 → ⊥) → ((project_answer cells g numbers).0.group ≡ g) × ((project_answer cells g numbers).1 ≡ cells)
  refusal-keeps-project =
      project-by (λ (r : Changed × List ℕ). (changed_number r.0 ≡ 0 → ⊥) → (r.0.group ≡ g) × (r.1 ≡ cells))
      (λ z n. let h = (project-over (mapping_lent numbers) g (nodes cells)).refused n in (h.0, ap cells_of h.1 ∙ coded-cells cells (lent-holds cells numbers g z)))
      (λ z n. (refl, refl))

  -- cells that are an arena stay one
  pub project-lawful : lawful cells ≡ true → lawful (project_answer cells g numbers).1 ≡ true
  project-lawful l =
      project-by (λ (r : Changed × List ℕ). lawful r.1 ≡ true) (λ z. holds-lawful (cells_of over.1) (encode-holds over.1 (over-sound z))) (λ z. l)
