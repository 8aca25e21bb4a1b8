-- A mapping over an arena: its sources and targets are in it, and a mapping that is lent and passes the check is one.
use Prim.Native.Nat.{ℕ, ◌<◌}
use mathlib.Core.Bool.{true}
use mathlib.Core.List.{List}
use mathlib.Core.Path.{◌≡◌}
use borrow.Author.Tests.{ltb-true}
use lib.Dec.{ltb}
use lib.ListN.{length, get_or}
use Rattle.laws.specs.Tests.{each}
use Rattle.laws.proofs.Booleans.{and_left, and_right}
use Rattle.laws.proofs.Each.{each_holds}
use Rattle.arena.specs.Node.{Node}
use Rattle.arena.specs.Layout.{decode as nodes}
use Rattle.classes.specs.declared.Group.{Group}
use Rattle.mappings.specs.Mapping.{Mapped, mapped_at, mapped_below, mapping_below}
use Rattle.mappings.specs.Lent.{mapping_lent}
use Rattle.mappings.specs.Calls.{project_number}
use Rattle.mappings.specs.Agree.{Over}
use Rattle.mappings.proofs.MappingChecked.{project-passes, lent-some}

module _ (ns : List Node) (ps : List Mapped) (o : Over ns ps) where
  -- a place passes the check
  place-below : (i : ℕ) → i < length ps → mapped_below (length ns) (mapped_at ps i) ≡ true
  unfolding mapping_below
  place-below i l = each_holds (λ (i : ℕ). mapped_below (length ns) (mapped_at ps i)) (length ps) i o.inside l

  -- its source is in the arena
  pub source-inside : (i : ℕ) → i < length ps → (mapped_at ps i).source < length ns
  unfolding mapped_below
  source-inside i l =
      let p = mapped_at ps i in
      ltb-true p.source (length ns) (and_left (ltb p.source (length ns)) (each (λ (k : ℕ). ltb (get_or p.targets k 0) (length ns)) (length p.targets)) (place-below i l))

  -- and so are its targets
  pub target-inside : (i : ℕ) → i < length ps → (k : ℕ) → k < length (mapped_at ps i).targets → get_or (mapped_at ps i).targets k 0 < length ns
  unfolding mapped_below
  target-inside i l k b =
      let p = mapped_at ps i in
      let t = and_right (ltb p.source (length ns)) (each (λ (k : ℕ). ltb (get_or p.targets k 0) (length ns)) (length p.targets)) (place-below i l) in
      ltb-true (get_or p.targets k 0) (length ns) (each_holds (λ (k : ℕ). ltb (get_or p.targets k 0) (length ns)) (length p.targets) k t b)

-- a mapping that is lent and passes is one over the arena
pub number-over : (cells : List ℕ) (g : Group) (numbers : List ℕ) → project_number cells g numbers ≡ 0 → Over (nodes cells) (mapping_lent numbers)
number-over cells g numbers e =
    let v = project-passes cells numbers g e in
    record { some-target = λ i l. lent-some numbers i l v.whole-list v.given; inside = v.below }
