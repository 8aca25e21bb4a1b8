-- The list of classes of a projection: where its members come from, that it is fair, and so what becomes of it is a group.
use Rattle.std.specs.Prelude.{if◌then◌else◌, Option, None, Some, Ok, Err}
use Prim.Native.Nat.{ℕ, zero, suc, ◌+◌, ◌-◌, ◌<◌}
use mathlib.Core.Bool.{Bool, true, false}
use mathlib.Core.List.{List, [], ◌∷◌, ◌++◌}
use mathlib.Core.Path.{◌≡◌, refl, sym, ap, ◌∙◌, subst}
use native.Mathlib.Decide.{dec_lt}
use native.Mathlib.Omega.{arith}
use borrow.Author.Tests.{eqb-true}
use lib.Dec.{eqb}
use lib.ListN.{length, get_or, take, drop, length-append, length-take, get_or-append, get_or-eq_default}
use lib.Seq.{get_or-take, get_or-drop, get_or-append-add}
use Rattle.arena.specs.Node.{Node}
use Rattle.classes.specs.Class.{Class}
use Rattle.classes.specs.Good.{flat}
use Rattle.classes.specs.Steps.{fits}
use Rattle.classes.specs.Layout.{fresh, encode, decode}
use Rattle.arena.specs.declared.Refusal.{Refusal}
use Rattle.classes.specs.Inner.{Coded}
use Rattle.classes.specs.declared.Group.{Group}
use Rattle.classes.proofs.Places.{All, length-flat}
use Rattle.classes.proofs.Codec.{at-padded, built-classes, members-is, used-is}
use Rattle.conditions.proofs.ConstantLaws.{fits_both}
use Rattle.merging.specs.Extending.{class_from, is_trivial}
use Rattle.merging.specs.Merging.{from_classes}
use Rattle.merging.specs.Inner.{Fair, AllBelow}
use Rattle.lent_classes.proofs.ListCounts.{fits-few, fits-small}
use Rattle.merging.proofs.Smaller.{from-few, from-small}
use Rattle.merging.proofs.Reaching.{Sane, sane_fair, from-good, sane_from, all_append}
use Rattle.mappings.specs.Mapping.{Mapped, mapped_at}
use Rattle.mappings.specs.Layout.{place_in, decode as mapping, Checked}
use Rattle.mappings.specs.declared.Mapping.{Mapping}
use Rattle.mappings.proofs.Targets.{targets-below, decode-length, decode-at}
use Rattle.projection.specs.Inner.{answer_of, answers_in}
use Rattle.projection_table.proofs.TableLaws.{none-some}
use Rattle.group_projection.specs.Group.{there, projected_classes, targets_of, source_classes, telling, projected_list, new_constants, constants_said, projected_group}
use Rattle.group_projection.specs.Inner.{Grouped, listed, made_or_none, Made, Entries}
use Rattle.group_projection.proofs.ListedLaws.{Lists, lists-coded, lists-classes, lists-list, answer-lists, answer-over, answer-again, listed-over}
use Rattle.group_projection.proofs.MadeGroups.{Within, within-made}

-- ---- where the numbers come from, and that they are below a bound

-- every number that there is is below n
abbrev pub ThereBelow : ℕ → List (Option ℕ) → Type 0
ThereBelow n ks = (k i : ℕ) → get_or ks k None ≡ Some i → i < n

-- every target is below n
abbrev pub TargetsBelow : ℕ → List Mapped → Type 0
TargetsBelow n ps = (i : ℕ) → i < length ps → AllBelow n (mapped_at ps i).targets

-- a number that there is stands at some place
pub there-place : (ks : List (Option ℕ)) (k : ℕ) → k < length (there ks) → (j : ℕ) × (j < length ks) × (get_or ks j None ≡ Some (get_or (there ks) k 0))
unfolding there
there-place [] k l = absurd (omega arith)
there-place (None ∷ ks) k l = let p = there-place ks k l in (suc p.0, omega (arith, p.1), p.2)
there-place (Some x ∷ ks) zero l = (0, omega arith, refl)
there-place (Some x ∷ ks) (suc k) l = let p = there-place ks k (omega arith) in (suc p.0, omega (arith, p.1), p.2)

-- so it is below n where all are
there-below : (n : ℕ) (ks : List (Option ℕ)) → ThereBelow n ks → AllBelow n (there ks)
there-below n ks h k l = let p = there-place ks k l in h p.0 (get_or (there ks) k 0) p.2

-- so are those of the first m
there-take : (n m : ℕ) (ks : List (Option ℕ)) → ThereBelow n ks → ThereBelow n (take m ks)
there-take n m ks h k i e = go (dec_lt k m)
  where
    go : Dec (k < m) → i < n
    go (yes l) = h k i (sym (get_or-take m ks k None l) ∙ e)
    go (no l) = absurd (none-some (get_or-eq_default (take m ks) None {n = k} (omega (arith, length-take m ks))) e)

-- and those of the rest
there-drop : (n m : ℕ) (ks : List (Option ℕ)) → ThereBelow n ks → ThereBelow n (drop m ks)
there-drop n m ks h k i e = h (m + k) i (sym (get_or-drop m ks k None) ∙ e)

-- a target of a source with the normal form j
pub record TargetOf (j : ℕ) (js : List ℕ) (ps : List Mapped) (x : ℕ) : Type 0 where
  pub place : ℕ
  pub below : place < length ps
  pub form : get_or js place 0 ≡ j
  pub target : ℕ
  pub inside : target < length (mapped_at ps place).targets
  pub is : get_or (mapped_at ps place).targets target 0 ≡ x

-- so is each of those that are collected for j
pub targets-place : (j : ℕ) (js : List ℕ) (ps : List Mapped) (k : ℕ) → k < length (targets_of j js ps) → TargetOf j js ps (get_or (targets_of j js ps) k 0)
unfolding targets_of
targets-place j [] ps k l = absurd (omega arith)
targets-place j (i ∷ js) [] k l = absurd (omega arith)
targets-place j (i ∷ js) (p ∷ ps) k l = go (eqb i j) refl l (targets-place j js ps)
  where
    own : Bool → List ℕ
    own b = if b then p.targets else []

    after : (x : ℕ) → TargetOf j js ps x → TargetOf j (i ∷ js) (p ∷ ps) x
    after x t = record { place = suc t.place; below = omega (arith, t.below); form = t.form; target = t.target; inside = t.inside; is = t.is }

    here : eqb i j ≡ true → ((n : ℕ) → n < length (targets_of j js ps) → TargetOf j js ps (get_or (targets_of j js ps) n 0)) → Dec (k < length p.targets) → k < length (p.targets ++ targets_of j js ps)
        → TargetOf j (i ∷ js) (p ∷ ps) (get_or (p.targets ++ targets_of j js ps) k 0)
    here q r (yes b) m = record { place = 0; below = omega arith; form = eqb-true i j q; target = k; inside = b; is = sym (get_or-append p.targets (targets_of j js ps) 0 k b) }
    here q r (no b) m =
        let n = k - length p.targets in
        let e : length p.targets + n ≡ k = omega arith in
        let w : get_or (targets_of j js ps) n 0 ≡ get_or (p.targets ++ targets_of j js ps) k 0 =
        sym (get_or-append-add p.targets (targets_of j js ps) n 0) ∙ ap (λ (a : ℕ). get_or (p.targets ++ targets_of j js ps) a 0) e in
        subst (TargetOf j (i ∷ js) (p ∷ ps)) w (after (get_or (targets_of j js ps) n 0) (r n (omega (arith, length-append p.targets (targets_of j js ps)))))

    go : (b : Bool) → eqb i j ≡ b → k < length (own b ++ targets_of j js ps) → ((n : ℕ) → n < length (targets_of j js ps) → TargetOf j js ps (get_or (targets_of j js ps) n 0))
        → TargetOf j (i ∷ js) (p ∷ ps) (get_or (own b ++ targets_of j js ps) k 0)
    go true q m r = here q r (dec_lt k (length p.targets)) m
    go false q m r = after (get_or (targets_of j js ps) k 0) (r k m)

-- they are below what every target is below
targets_of-below : (n j : ℕ) (js : List ℕ) (ps : List Mapped) → TargetsBelow n ps → AllBelow n (targets_of j js ps)
targets_of-below n j js ps h k l = let t = targets-place j js ps k l in subst (λ (x : ℕ). x < n) t.is (h t.place t.below t.target t.inside)

-- what holds of the class of the targets with any normal form holds of each class of sources
pub all-sources : (Q : Class → Type 0) (ns : List Node) (js : List ℕ) (ps : List Mapped) → ((j : ℕ) → Q (class_from ns (targets_of j js ps))) → (n : ℕ) → All Q (source_classes ns js ps n)
unfolding source_classes
all-sources Q ns js ps h zero = λ i l. absurd (omega arith)
all-sources Q ns js ps h (suc n) =
    all_append Q (source_classes ns js ps n) (if fresh js n then class_from ns (targets_of (get_or js n 0) js ps) ∷ [] else []) (all-sources Q ns js ps h n) (go (fresh js n))
  where
    go : (b : Bool) → All Q (if b then class_from ns (targets_of (get_or js n 0) js ps) ∷ [] else [])
    go true zero l = h (get_or js n 0)
    go true (suc i) l = absurd (omega arith)
    go false i l = absurd (omega arith)

-- ---- the list is fair

module _ (ns : List Node) where
  -- for each class
  sane_projected : (cs : List Class) (ks : List (Option ℕ)) → ThereBelow (length ns) ks → All (Sane ns) (projected_classes ns cs ks)
  unfolding projected_classes
  sane_projected [] ks h i l = absurd (omega arith)
  sane_projected (c ∷ cs) ks h zero l =
      let n = length c.members in
      sane_from ns (there (take n ks)) (there-below (length ns) (take n ks) (there-take (length ns) n ks h))
  sane_projected (c ∷ cs) ks h (suc i) l =
      sane_projected cs (drop (length c.members) ks) (there-drop (length ns) (length c.members) ks h) i (omega arith)

  -- for each normal form
  sane_sources : (js : List ℕ) (ps : List Mapped) → TargetsBelow (length ns) ps → (n : ℕ) → All (Sane ns) (source_classes ns js ps n)
  sane_sources js ps h = all-sources (Sane ns) ns js ps (λ j. sane_from ns (targets_of j js ps) (targets_of-below (length ns) j js ps h))

-- what holds for every class holds for every class that says something
pub all-telling : (Q : Class → Type 0) (cs : List Class) → All Q cs → All Q (telling cs)
unfolding telling
all-telling Q [] h = λ i l. absurd (omega arith)
all-telling Q (c ∷ cs) h = go (is_trivial c) (all-telling Q cs (λ i l. h (suc i) (omega arith)))
  where
    go : (b : Bool) → All Q (telling cs) → All Q (if b then telling cs else c ∷ telling cs)
    go true r i l = r i l
    go false r zero l = h 0 (omega arith)
    go false r (suc i) l = r i (omega arith)

-- no expression twice in a class, a literal's class uniform, every member in the arena
pub list_fair_projected : (ns : List Node) (cs : List Class) (ps : List Mapped) (ks : List (Option ℕ)) (js : List ℕ)
    → ThereBelow (length ns) ks → TargetsBelow (length ns) ps → Fair ns (projected_list ns cs ps ks js)
unfolding projected_list
list_fair_projected ns cs ps ks js h t =
    sane_fair ns (telling (projected_classes ns cs ks ++ source_classes ns js ps (length js)))
    (all-telling (Sane ns) (projected_classes ns cs ks ++ source_classes ns js ps (length js))
    (all_append (Sane ns) (projected_classes ns cs ks) (source_classes ns js ps (length js)) (sane_projected ns cs ks h) (sane_sources ns js ps t (length js))))

-- ---- by a table and a struct

-- what an entry below n + 2 says is below n
answer-below : (n x i : ℕ) → x < n + 2 → answer_of x ≡ Some i → i < n
unfolding answer_of
answer-below n zero i l e = absurd (none-some refl e)
answer-below n (suc zero) i l e = absurd (none-some refl e)
answer-below n (suc (suc x)) i l e = let y : x ≡ i = cc e in omega arith

-- the answers of a table for expressions
answers-below : (n : ℕ) (table es : List ℕ) → ((k : ℕ) → k < length es → get_or table (get_or es k 0) 0 < n + 2) → ThereBelow n (answers_in table es)
answers-below n table [] h k i e = absurd (none-some refl e)
answers-below n table (x ∷ es) h zero i e = answer-below n (get_or table x 0) i (h 0 (omega arith)) e
answers-below n table (x ∷ es) h (suc k) i e = answers-below n table es (λ j l. h (suc j) (omega arith)) k i e

-- a member in the table is the one of the classes
pub member-at : (g : Group) → Coded g → (k : ℕ) → get_or g.members k 0 ≡ get_or (flat (decode g)) k 0
member-at g c k = ap (λ (l : List ℕ). get_or l k 0) (members-is g c) ∙ at-padded 256 (flat (decode g)) k

-- the answers for the members of a group
pub members-answers : (n : ℕ) (table : List ℕ) (g : Group) → Coded g → Entries n table g.members g.used → ThereBelow n (answers_in table (flat (decode g)))
members-answers n table g c h =
    answers-below n table (flat (decode g))
    (λ k l. subst (λ (x : ℕ). get_or table x 0 < n + 2) (member-at g c k) (h k (omega (arith, length-flat (decode g), used-is g c))).1)

-- the targets of a checked mapping
pub checked-targets : (n : ℕ) (m : Mapping) → Checked n m → TargetsBelow n (mapping m)
checked-targets n m c i l =
    let b : i < m.count = omega (arith, decode-length m) in
    subst (λ (p : Mapped). AllBelow n p.targets) (sym (decode-at m i (record { source = 0; targets = [] }) b)) (targets-below (place_in m i) n (λ k. c.target_below i k b))

-- ---- the group

-- a fair list that fits becomes classes that fit
pub from-within : (ns : List Node) (cs : List Class) → Fair ns cs → fits 256 cs ≡ true → Within ns (from_classes cs)
from-within ns cs f e =
    record {
      room = fits_both 256 (from_classes cs) (omega (arith, from-small cs, fits-small cs e)) (omega (arith, from-few cs, fits-few cs e));
      good = from-good ns cs f;
    }

module _ (ns : List Node) (cs : List Class) (ps : List Mapped) (ks : List (Option ℕ)) (js : List ℕ)
    (answer : Grouped) (p : answer ≡ listed (projected_list ns cs ps ks js)) where
  -- it exceeds the bounds
  pub projected-over : (why : Refusal) → answer ≡ Err why → ◌≡◌ {A = Grouped} (Err why) (made_or_none (projected_group ns cs ps ks js))
  unfolding made_or_none projected_group
  projected-over why n =
      let f = answer-over answer (projected_list ns cs ps ks js) p why n in
      answer-again answer (projected_list ns cs ps ks js) p why n (projected_list ns cs ps ks js) f ∙ sym (listed-over (projected_list ns cs ps ks js) f) ∙ rw f

  module _ (list : Group) (z : answer ≡ Ok list) where
    -- the list fits
    lists : Lists list (projected_list ns cs ps ks js)
    lists = answer-lists answer (projected_list ns cs ps ks js) p list z

    -- so it can reach `new`
    pub list-coded : Coded list
    list-coded = lists-coded list (projected_list ns cs ps ks js) lists

    module _ (out : Group) (q : out ≡ encode list.limit (from_classes (decode list))) where
      -- what comes of it
      out-is : out ≡ encode 256 (from_classes (projected_list ns cs ps ks js))
      out-is =
          q
          ∙ ap (λ (n : ℕ). encode n (from_classes (decode list))) (lists-list list (projected_list ns cs ps ks js) lists).limit
          ∙ ap (λ (ds : List Class). encode 256 (from_classes ds)) (lists-classes list (projected_list ns cs ps ks js) lists)

      -- is a group
      pub projected-made : (n : ℕ) → n ≡ length ns → ThereBelow n ks → TargetsBelow n ps → Made ns out
      projected-made n e h t =
          within-made ns out (from_classes (projected_list ns cs ps ks js)) out-is
          (from-within ns (projected_list ns cs ps ks js) (list_fair_projected ns cs ps ks js (subst (λ (k : ℕ). ThereBelow k ks) e h) (subst (λ (k : ℕ). TargetsBelow k ps) e t)) lists.room)

      -- and then the constants are said
      pub projected-done : (r : Grouped) → r ≡ made_or_none (constants_said true ns (new_constants ns cs ps) (decode out)) → r ≡ made_or_none (projected_group ns cs ps ks js)
      unfolding projected_group
      projected-done r e =
          e ∙ ap (λ (ds : List Class). made_or_none (constants_said true ns (new_constants ns cs ps) ds)) (built-classes 256 (from_classes (projected_list ns cs ps ks js)) out out-is)
          ∙ rw lists.room
