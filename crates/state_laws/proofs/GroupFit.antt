-- A group that a call hands back, unless it is refused, fits its cells.
use Rattle.std.specs.Prelude.{if◌then◌else◌, Option, None, Some, Ok, Err}
use Prim.Native.Nat.{ℕ, suc, ◌+◌, ◌≤◌}
use mathlib.Core.Bool.{Bool, true, false, ◌&&◌}
use mathlib.Core.List.{List, [], map}
use mathlib.Core.Path.{◌≡◌, refl, sym, ap, subst}
use native.Mathlib.Omega.{arith}
use borrow.Author.Tests.{eqb-true, leb-true}
use lib.Dec.{eqb, ltb, leb}
use lib.ListN.{length, length-map}
use Rattle.laws.proofs.Booleans.{and_left, and_right}
use Rattle.arena.specs.declared.Refusal.TheVariants.{BadNumber}
use Rattle.arena.specs.Refusals.{refusal}
use Rattle.arena.specs.Node.{Node}
use Rattle.arena.specs.Layout.{lawful, decode as nodes}
use Rattle.arena.specs.Calls.{in_cells}
use Rattle.classes.specs.Class.{Class}
use Rattle.classes.specs.Group.{total}
use Rattle.classes.specs.Steps.{Outcome}
use Rattle.classes.specs.Layout.{encode, decode, constant_from}
use Rattle.classes.specs.Calls.{group_number, changed, changed_number, on_group, no_group}
use Rattle.group_checks.specs.Calls.{opened}
use Rattle.classes.specs.declared.Group.{Group}
use Rattle.classes.specs.declared.Changed.{Changed}
use Rattle.classes.proofs.Places.{length-flat}
use Rattle.classes.proofs.Codec.{total-take, total-front, size-encode, decode-encode}
use Rattle.group_checks.proofs.HeldLaws.{Fit, number-fit, number-held}
use Rattle.conditions.specs.Steps.{add_equal, add_constant, clear}
use Rattle.conditions.specs.Calls.{sayable, on_constant}
use Rattle.demands.proofs.Valid.{valid_equal, valid_constant, valid_clear, Tables}
use Rattle.merging.specs.Merging.{from_classes}
use Rattle.lent_classes.specs.Lent.{classes_lent}
use Rattle.lent_classes.specs.Check.{new_number}
use Rattle.merging.specs.Calls.{made_group, new_answer}
use Rattle.lent_classes.proofs.ListCounts.{fits-few, fits-small}
use Rattle.shifted_classes.specs.Lent.{pairs_lent}
use Rattle.joins.specs.Calls.{join_number, join_by, join_answer}
use Rattle.merging_laws.proofs.JoinLaws.{number-positive}
use Rattle.merging_laws.proofs.HandedBack.{new_valid, both-checked, kinds_handed, join_out}
use Rattle.mappings.specs.Lent.{mapping_lent}
use Rattle.mappings.specs.Calls.{project_number}
use Rattle.group_projection.specs.Calls.{project_answer}
use Rattle.projection_laws.proofs.GroupHanded.{project-over, over, project-by, made-within}
use Rattle.group_records.specs.GroupRecord.{Given, class_meant, members_given, flavours_known, classes_filled, members_apart, literals_uniform, members_known, given_number, group_given, group_of, group_read}
use Rattle.group_states.specs.Inner.{GroupFits, FitsIfDone}

-- ---- a layout of classes, and a group that is valid

-- the layout of few classes with few members fits
pub encode-fits : (limit : ℕ) (cs : List Class) → limit ≤ 256 → length cs ≤ 64 → total cs ≤ 256 → GroupFits (encode limit cs)
unfolding encode
encode-fits limit cs high few small = record {
  limit = omega arith;
  count = omega arith;
  used = omega arith;
  sizes = λ k. omega (arith, size-encode limit cs k, total-take cs k, total-front cs (suc k));
}

-- so does that of classes that are a group
fit-fits : (ns : List Node) (limit : ℕ) (cs : List Class) → Fit ns limit cs → GroupFits (encode limit cs)
fit-fits ns limit cs f = encode-fits limit cs f.high f.few (omega (arith, f.within, f.high))

-- so does a layout that passes the check
coded-fits : (cells : List ℕ) (limit : ℕ) (cs : List Class) → group_number cells (encode limit cs) ≡ 0 → GroupFits (encode limit cs)
unfolding encode
coded-fits cells limit cs e = fit-fits (nodes cells) limit cs (subst (Fit (nodes cells) limit) (decode-encode limit cs) (number-fit cells (encode limit cs) e))

-- so does a lent group that passes it
pub valid_fits : (cells : List ℕ) (g : Group) → Tables g → group_number cells g ≡ 0 → GroupFits g
valid_fits cells g t e =
    subst GroupFits (number-held cells g t.sizes t.flavours t.values t.members e).coded.coded
    (fit-fits (nodes cells) g.limit (decode g) (number-fit cells g e))

-- ---- calls on a lent group

-- a group that is opened
pub opened-fits : (limit : ℕ) → FitsIfDone (opened limit)
unfolding opened total
opened-fits limit = go (ltb 0 limit && leb limit 256) refl
  where
    out : Bool → Changed
    out b = if b then record { answer = Ok true; group = encode limit [] } else record { answer = Err BadNumber; group = encode 0 [] }

    go : (b : Bool) → (ltb 0 limit && leb limit 256) ≡ b → FitsIfDone (out b)
    go true q z = encode-fits limit [] (leb-true limit 256 (and_right (ltb 0 limit) (leb limit 256) q)) (omega arith) (omega arith)
    go false q z = absurd (omega arith)

module _ (cells : List ℕ) (g : Group) where
  -- a call that hands back a valid group for a valid one
  on_fits : (call : List Node → List Class → Outcome) → (group_number cells g ≡ 0 → group_number cells (on_group call cells g).group ≡ 0) → FitsIfDone (on_group call cells g)
  unfolding on_group changed
  on_fits call valid = go (eqb (group_number cells g) 0) refl (λ e. valid (eqb-true (group_number cells g) 0 e))
    where
      out : Bool → Changed
      out b = if b then changed g.limit (call (nodes cells) (decode g)) else record { answer = Err (refusal (group_number cells g)); group = g }

      go : (b : Bool) → eqb (group_number cells g) 0 ≡ b → (eqb (group_number cells g) 0 ≡ true → group_number cells (out b).group ≡ 0) → FitsIfDone (out b)
      go true q v z = coded-fits cells g.limit (call (nodes cells) (decode g)).classes (v q)
      go false q v z = absurd (omega (arith, z, number-positive (refusal (group_number cells g))))

  -- an equal condition
  pub equal-fits : (a b : ℕ) → FitsIfDone (on_group (λ ns cs. add_equal g.limit ns a b cs) cells g)
  equal-fits a b = on_fits (λ ns cs. add_equal g.limit ns a b cs) (valid_equal cells g a b)

  -- a constant
  pub constant-fits : (e flavour value : ℕ) → FitsIfDone (on_constant e flavour value cells g)
  unfolding on_constant
  constant-fits e flavour value = go (sayable flavour value) (valid_constant cells g e flavour value)
    where
      call : List Node → List Class → Outcome
      call ns cs = add_constant true g.limit ns e (constant_from (flavour + 1) value) cs

      out : Bool → Changed
      out b = if b then on_group call cells g else record { answer = Err BadNumber; group = g }

      go : (b : Bool) → (group_number cells g ≡ 0 → group_number cells (out b).group ≡ 0) → FitsIfDone (out b)
      go true v z = on_fits call v z
      go false v z = absurd (omega arith)

  -- clearing
  pub clear-fits : FitsIfDone (on_group (λ ns cs. clear cs) cells g)
  clear-fits = on_fits (λ ns cs. clear cs) (valid_clear cells g)

-- ---- calls that make a group

-- `new`
pub new-fits : (cells numbers : List ℕ) → FitsIfDone (new_answer cells numbers)
unfolding new_answer made_group no_group
new-fits cells numbers = go (eqb (new_number cells numbers) 0) (new_valid cells numbers)
  where
    out : Bool → Changed
    out b = if b then made_group (from_classes (classes_lent numbers)) else no_group (new_number cells numbers)

    go : (b : Bool) → (changed_number (out b) ≡ 0 → group_number cells (out b).group ≡ 0) → FitsIfDone (out b)
    go true v z = coded-fits cells 256 (from_classes (classes_lent numbers)) (v z)
    go false v z = coded-fits cells 0 [] (v z)

-- a group that was made of few classes with few members
made-fits : (r : Changed) (cs : List Class) → r ≡ made_group cs → length cs ≤ 64 → total cs ≤ 256 → GroupFits r.group
unfolding made_group
made-fits r cs e few small =
    let q : r.group ≡ encode 256 cs = ap (λ (o : Changed). o.group) e in
    subst GroupFits (sym q) (encode-fits 256 cs (omega arith) few small)

-- join
pub join-fits : (cells : List ℕ) (left right : Group) (kind size : ℕ) (numbers : List ℕ) → FitsIfDone (join_answer cells left right kind size numbers).0
unfolding join_answer in_cells
join-fits cells left right kind size numbers = go (eqb (join_number cells left right kind numbers) 0) refl
  where
    go : (b : Bool) → eqb (join_number cells left right kind numbers) 0 ≡ b → FitsIfDone (join_out cells left right kind size numbers b).0
    go true q z =
        let o = join_by left right kind size (pairs_lent numbers) (nodes cells) in
        let c = both-checked cells left right kind numbers (eqb-true (join_number cells left right kind numbers) 0 q) in
        let h = kinds_handed cells left right kind size numbers c o.0 o.1 refl z in
        made-fits o.0 h.classes h.is (fits-few h.classes h.fitting) (fits-small h.classes h.fitting)
    go false q z = absurd (omega (arith, z, number-positive (refusal (join_number cells left right kind numbers))))

-- projection
pub project-fits : (cells : List ℕ) (g : Group) (numbers : List ℕ) → FitsIfDone (project_answer cells g numbers).0
project-fits cells g numbers =
    project-by cells numbers g (λ (r : Changed × List ℕ). FitsIfDone r.0)
    (λ z e.
    let d = (project-over (mapping_lent numbers) g (nodes cells)).done e in
    let f = (made-within cells numbers g z d).room in
    made-fits (over cells numbers g).0 d.classes d.is (fits-few d.classes f) (fits-small d.classes f))
    (λ z e. absurd (omega (arith, e, number-positive (refusal (project_number cells g numbers)))))

-- ---- a group that is read from a record

-- classes that pass are few with few members
given-small : (cells : List ℕ) (gs : List Given) → given_number cells gs ≡ 0 → (length gs ≤ 64) × (length (members_given gs) ≤ 256)
unfolding given_number
given-small cells gs =
    go (flavours_known gs) (lawful cells && (classes_filled gs && members_apart gs && literals_uniform (nodes cells) gs)) (members_known (nodes cells) gs)
    (leb (length gs) 64 && leb (length (members_given gs)) 256) refl
  where
    go : (a b c d : Bool) → (leb (length gs) 64 && leb (length (members_given gs)) 256) ≡ d
        → ◌≡◌ {A = ℕ} (if a then (if b then (if c then (if d then 0 else 4) else 1) else 11) else 12) 0 → (length gs ≤ 64) × (length (members_given gs) ≤ 256)
    go true true true true q z = (
      leb-true (length gs) 64 (and_left (leb (length gs) 64) (leb (length (members_given gs)) 256) q),
      leb-true (length (members_given gs)) 256 (and_right (leb (length gs) 64) (leb (length (members_given gs)) 256) q),
    )
    go true true true false q z = absurd (omega arith)
    go true true false d q z = absurd (omega arith)
    go true false c d q z = absurd (omega arith)
    go false b c d q z = absurd (omega arith)

-- what was given, if it could be read
of-fits : (cells : List ℕ) (o : Option (List Given)) → FitsIfDone (group_of cells o)
unfolding group_of no_group
of-fits cells None = λ z. absurd (omega (arith, z, number-positive (refusal 9)))
of-fits cells (Some gs) = go (eqb (given_number cells gs) 0) refl
  where
    out : Bool → Changed
    out b = if b then record { answer = Ok true; group = encode 256 (map class_meant gs) } else no_group (given_number cells gs)

    go : (b : Bool) → eqb (given_number cells gs) 0 ≡ b → FitsIfDone (out b)
    go true q z =
        let s = given-small cells gs (eqb-true (given_number cells gs) 0 q) in
        encode-fits 256 (map class_meant gs) (omega arith) (omega (arith, s.0, length-map gs class_meant)) (omega (arith, s.1, length-flat (map class_meant gs)))
    go false q z = absurd (omega (arith, z, number-positive (refusal (given_number cells gs))))

-- a record that is read
pub read_fits : (cells bytes : List ℕ) → FitsIfDone (group_read cells bytes)
read_fits cells bytes = of-fits cells (group_given bytes)
