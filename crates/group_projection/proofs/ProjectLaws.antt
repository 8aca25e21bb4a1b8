-- The projection of a group, step by step: the members' projections, the sources' normal forms over the grown arena, the group made of both, what the caller is told, and the call by its tests.
use Rattle.std.specs.Prelude.{if◌then◌else◌, Option, None, Some, Ok, Err}
use Prim.Native.Nat.{ℕ, zero, suc, ◌+◌, ◌-◌, ◌<◌, ◌≤◌}
use mathlib.Core.Bool.{Bool, true, false}
use mathlib.Core.List.{List}
use mathlib.Core.Path.{◌≡◌, sym, ap, ap₂, ◌∙◌, subst}
use native.Mathlib.Omega.{arith}
use lib.ListN.{length, get_or, take, replicate}
use lib.Seq.{take_all, take-append-le}
use Rattle.arena.specs.declared.Refusal.{Refusal}
use Rattle.arena.specs.declared.Refusal.TheVariants.{ArenaFull, GroupFull}
use Rattle.arena.specs.Refusals.{refusal, outcome}
use Rattle.arena.proofs.Refusals.{ok-not-err, ok-zero, err-refusal}
use Rattle.arena.specs.Node.{Node}
use Rattle.arena.specs.Expression.{Expression, Expressions, those, expressions}
use Rattle.arena.specs.Arena.{Extends, Placed, placed, full, and_then, add_expressions}
use Rattle.arena.specs.Layout.{count, decode as nodes}
use Rattle.arena.specs.Calls.{in_cells}
use Rattle.arena.specs.Inner.{Holds, map_all}
use Rattle.arena.proofs.Nodes.{extends-none, extends-both, extends-longer}
use Rattle.arena.proofs.Trees.{those_cong, expression-kept}
use Rattle.arena.proofs.Layouts.{length-decode, coded-cells}
use Rattle.classes.specs.Class.{Class}
use Rattle.classes.specs.Good.{flat}
use Rattle.classes.specs.Layout.{encode, decode, padded}
use Rattle.classes.specs.Inner.{Coded, Held}
use Rattle.classes.specs.declared.Group.{Group}
use Rattle.classes.specs.declared.Changed.{Changed}
use Rattle.classes.proofs.Places.{get_or-among, length-flat}
use Rattle.classes.proofs.Codec.{used-is, members-is}
use Rattle.classes.proofs.Judging.{handed_back, refusal_is}
use Rattle.normal.specs.Normal.{normals}
use Rattle.normal.specs.Inner.{Firsts, rewriting}
use Rattle.normal.proofs.Calling.{table-inside, rewriting-normals}
use Rattle.normal.proofs.Steps.{same-rewriting}
use Rattle.normal.proofs.NormalValue.{good-extended}
use Rattle.merging.specs.Calls.{made_group, refused_group, made_or_refused}
use Rattle.mappings.specs.Mapping.{Mapped, sources}
use Rattle.mappings.specs.Lent.{mapping_lent}
use Rattle.mappings.specs.Layout.{decode as mapping, Checked}
use Rattle.mappings.specs.Calls.{project_number}
use Rattle.mappings.specs.declared.Mapping.{Mapping}
use Rattle.mappings.proofs.Targets.{decode-sources, decode-source}
use Rattle.projection_table.specs.Projecting.{projections, project_all}
use Rattle.projection_table.specs.Inner.{Says, Tabled}
use Rattle.projection.specs.Inner.{answers_in, told_answers, AddedAll, ReadyAll, WalkedAll}
use Rattle.projection_table.proofs.Sources.{checked-wider}
use Rattle.projection.proofs.Written.{list-ready}
use Rattle.group_projection.specs.Group.{projected_numbers, projected_group}
use Rattle.group_projection.specs.Calls.{project_placed, project_by, project_answer}
use Rattle.group_projection.specs.Inner.{Grouped, made_or_none, Entries, FormsReady, Formed, ProjectedOver}
use Rattle.group_projection.proofs.ListedLaws.{ok-same, err-same}
use Rattle.group_projection.proofs.FairProjected.{member-at}

-- ---- what is given

-- the used places of the table hold the members of all classes
pub members-flat : (g : Group) → Coded g → take g.used g.members ≡ flat (decode g)
unfolding padded
members-flat g c =
    let f = flat (decode g) in
    let n : g.used ≡ length f = omega (arith, length-flat (decode g), used-is g c) in
    ap (take g.used) (members-is g c) ∙ take-append-le g.used f (replicate {A = ℕ} (256 - length f) 0) (omega arith) ∙ take_all g.used f (omega arith)

-- the sources of a checked mapping are in the arena
sources-below : (n : ℕ) (m : Mapping) → Checked n m → (k : ℕ) → k < length (sources (mapping m)) → get_or (sources (mapping m)) k 0 < n
sources-below n m c k l = let b : k < m.count = omega (arith, decode-sources m) in omega (arith, decode-source m k b, c.source-below k b)

-- a group is checked also over the grown arena
held-extended : {ns ms : List Node} (g : Group) → Extends ns ms → Held ns g → Held ms g
held-extended g x h = record { coded = h.coded; low = h.low; high = h.high; within = h.within; good = good-extended (decode g) x h.good }

-- an entry is 0, 1, or 2 more than one of the numbers there are
says-below : (os : List Node) (xs : List (Option Expression)) (ns : List Node) (e k : ℕ) → Says os xs ns e k → k < length ns + 2
unfolding Says
says-below os xs ns e zero h = omega arith
says-below os xs ns e (suc zero) h = omega arith
says-below os xs ns e (suc (suc i)) h = omega (arith, h.0)

-- ---- what the caller is told

-- a group that was made, as it is handed on
abbrev handed : Group → Changed
handed h = record { answer = Ok true; group = h }

-- the group that was made, or 4
told-made : (s u : List ℕ) (g : Group) (ps : List Mapped) (r : Grouped) → Holds u → (o : Option (List Class)) → r ≡ made_or_none o → project_by ps g (nodes s) ≡ made_or_refused g (nodes s) (nodes u) o → ProjectedOver s u g ps r
unfolding made_or_none made_or_refused refused_group made_group refusal
told-made s u g ps r h (Some cs) x y = record {
  holds = h;
  done = λ b z. ap (λ (c : Group). (handed c, nodes u)) (ok-same b (encode 256 cs) (sym z ∙ x)) ∙ sym y;
  refused = λ why z. absurd (ok-not-err (sym x ∙ z));
}
told-made s u g ps r h None x y = record {
  holds = h;
  done = λ b z. absurd (ok-not-err (sym z ∙ x));
  refused = λ why z. ap (λ (w : Refusal). (handed_back w g, nodes s)) (err-same why GroupFull (sym z ∙ x)) ∙ sym y;
}

-- there was no room: 3
told-full : (s u : List ℕ) (g : Group) (ps : List Mapped) → Holds u → projected_numbers (nodes s) (decode g) ps ≡ full → ProjectedOver s u g ps (Err ArenaFull)
unfolding project_by project_placed refused_group refusal
told-full s u g ps h y = record {
  holds = h;
  done = λ b z. absurd (ok-not-err (sym z));
  refused = λ why z. ap (λ (w : Refusal). (handed_back w g, nodes s)) (err-same why ArenaFull (sym z)) ∙ sym (ap (project_placed ps g (nodes s)) y);
}

-- the outcome of the projection is handed on
pub over_done : (s t : List ℕ) (g : Group) (ps : List Mapped) (r : Grouped) → ProjectedOver s t g ps r → (h : Group) → r ≡ Ok h → ◌≡◌ {A = Changed × List ℕ} (handed h, t) (in_cells (project_by ps g (nodes s)))
unfolding in_cells
over_done s t g ps r o h z = ap (λ (c : List ℕ). (handed h, c)) (sym (coded-cells t o.holds)) ∙ ap in_cells (o.done h z)

-- a refusal: the group and the cells as they were
pub over-refused : (s t : List ℕ) → Holds s → (g : Group) (ps : List Mapped) (r : Grouped) → ProjectedOver s t g ps r → (why : Refusal) → r ≡ Err why
    → (back : Changed) → (back.answer ≡ Err why) × (back.group ≡ g) → ◌≡◌ {A = Changed × List ℕ} (back, s) (in_cells (project_by ps g (nodes s)))
unfolding in_cells
over-refused s t h g ps r o why z back q =
    ap₂ {C = Changed × List ℕ} (λ (b : Changed) (c : List ℕ). (b, c)) (refusal_is back why g q) (sym (coded-cells s h)) ∙ ap in_cells (o.refused why z)

-- ---- the projection, over what is checked already

module _ (s : List ℕ) (g : Group) (m : Mapping) (pre : (Holds s × Held (nodes s) g) × Checked (count s) m) where
  -- the arena is sound
  holds : Holds s
  holds = pre.0.0

  -- the group is checked
  held : Held (nodes s) g
  held = pre.0.1

  -- its members are in the arena
  members-below : (k : ℕ) → k < length (flat (decode g)) → get_or (flat (decode g)) k 0 < count s
  members-below k l = omega (arith, held.good.inside (get_or (flat (decode g)) k 0) (get_or-among (flat (decode g)) k l), length-decode s)

  module _ (old : ℕ) (firsts table : List ℕ) (all : old ≡ count s) (first : Firsts (decode g) old firsts) (tabled : Tabled (nodes s) (projections (nodes s) (decode g) (mapping m)) (nodes s) table) where
    -- the members can be walked
    pub walk-ready : ReadyAll s table (take g.used g.members)
    walk-ready = subst (ReadyAll s table) (sym (members-flat g held.coded)) (list-ready s (flat (decode g)) holds members-below (decode g) (mapping m) table tabled)

    -- they were, or there was no room
    module _ (t table' : List ℕ) (ok : Bool) (w : WalkedAll s table t table' (take g.used g.members) ok) where
      -- by the projections of all expressions
      added : AddedAll (nodes s) (projections (nodes s) (decode g) (mapping m)) s t table' (flat (decode g)) ok
      added =
          (subst (λ (es : List ℕ). WalkedAll s table t table' es ok) (members-flat g held.coded) w).added (nodes s) (projections (nodes s) (decode g) (mapping m))
          (record { extends = extends-none (nodes s); says = tabled })
          (λ k l. omega (arith, members-below k l, length-decode s))

      -- the first part of the definition
      members-told : (b : Bool) → ok ≡ b → project_all (nodes s) (decode g) (mapping m) (flat (decode g)) ≡ told_answers b (answers_in table' (flat (decode g))) (nodes t)
      unfolding project_all
      members-told b q = sym added.is ∙ ap (λ (c : Bool). told_answers c (answers_in table' (flat (decode g))) (nodes t)) q

      -- there was no room
      pub walk-full : ok ≡ false → ProjectedOver s t g (mapping m) (Err ArenaFull)
      unfolding told_answers projected_numbers and_then
      walk-full z = told-full s t g (mapping m) w.holds (rw (members-told false z))

      module _ (yes : ok ≡ true) where
        -- the sources' normal forms can be walked
        pub forms-ready : FormsReady old firsts t m
        forms-ready = record {
          holds = w.holds;
          there = omega (arith, extends-longer w.extends, length-decode s, length-decode t);
          inside = table-inside s g old firsts holds held all first;
          few = pre.1.bounded.few;
          below = λ k l. omega (arith, sources-below (count s) m pre.1 k l);
        }

        -- the sources are the same expressions in the grown arena
        abbrev forms : Expressions
        forms = those (expressions (nodes s)) (sources (mapping m))

        forms-kept : those (expressions (nodes t)) (sources (mapping m)) ≡ forms
        forms-kept =
            those_cong (expressions (nodes t)) (expressions (nodes s)) (sources (mapping m))
            (λ k l. expression-kept w.extends (get_or (sources (mapping m)) k 0) (omega (arith, sources-below (count s) m pre.1 k l, length-decode s)))

        -- and so are their normal forms
        normals-kept : map_all (rewriting old firsts t) (those (expressions (nodes t)) (sources (mapping m))) ≡ normals (nodes s) (decode g) forms
        normals-kept =
            ap₂ {C = Expressions} map_all (same-rewriting old s (omega arith) firsts t w.extends) forms-kept
            ∙ rewriting-normals s g old firsts holds held all first forms

        module _ (u : List ℕ) (fits : Bool) (js : List ℕ) (f : Formed old firsts t u (sources (mapping m)) fits js) where
          -- the numbers of both
          numbers-told : projected_numbers (nodes s) (decode g) (mapping m)
              ≡ and_then (if fits then placed js (nodes u) else full) (λ (is : List ℕ) (os : List Node). placed (answers_in table' (flat (decode g)), is) os)
          unfolding projected_numbers told_answers and_then
          numbers-told =
              rw (members-told true yes)
              (ap (λ (o : Placed (List ℕ)). and_then o (λ (is : List ℕ) (os : List Node). placed (answers_in table' (flat (decode g)), is) os))
              (ap (λ (xs : Expressions). add_expressions xs (nodes t)) (sym normals-kept) ∙ sym f.is))

          -- the arena as it came in is there
          extended : Extends (nodes s) (nodes u)
          extended = extends-both w.extends f.extends

          -- it has not shrunk
          longer : count s ≤ count u
          longer = omega (arith, extends-longer extended, length-decode s, length-decode u)

          -- the table's entries are in it
          entries : Entries (count u) table' g.members g.used
          entries k l =
              let b : k < length (flat (decode g)) = omega (arith, length-flat (decode g), used-is g held.coded) in
              let e = member-at g held.coded k in
              let i = members-below k b in
              let q = says-below (nodes s) (projections (nodes s) (decode g) (mapping m)) (nodes t) (get_or g.members k 0) (get_or table' (get_or g.members k 0) 0)
              (added.fits.says (get_or g.members k 0) (omega (arith, e, i, length-decode s))) in
              (omega (arith, e, i, holds.few), omega (arith, q, length-decode t, length-decode u, extends-longer f.extends))

          -- the group can be made
          pub group-ready : ((Holds u × Checked (count u) m) × Held (nodes u) g) × Entries (count u) table' g.members g.used
          group-ready = (((f.holds, checked-wider (count s) (count u) m pre.1 longer), held-extended g extended held), entries)

          -- there was no room
          pub forms-full : fits ≡ false → ProjectedOver s u g (mapping m) (Err ArenaFull)
          unfolding and_then
          forms-full z = told-full s u g (mapping m) f.holds (numbers-told ∙ rw z)

          -- the group was made, or exceeds the bounds
          pub group-made : (r : Grouped) → fits ≡ true → r ≡ made_or_none (projected_group (nodes u) (decode g) (mapping m) (answers_in table' (flat (decode g))) js) → ProjectedOver s u g (mapping m) r
          unfolding and_then project_by project_placed
          group-made r z q =
              let n : projected_numbers (nodes s) (decode g) (mapping m) ≡ placed (answers_in table' (flat (decode g)), js) (nodes u) = numbers-told ∙ rw z in
              told-made s u g (mapping m) r f.holds (projected_group (nodes u) (decode g) (mapping m) (answers_in table' (flat (decode g))) js) q (ap (project_placed (mapping m) g (nodes s)) n)

-- ---- the call

module _ (cells : List ℕ) (g : Group) (numbers : List ℕ) where
  -- the check refuses
  pub call-refused : (why : Refusal) → outcome (project_number cells g numbers) ≡ Err why → (r : Changed) → (r.answer ≡ Err why) × (r.group ≡ g) → ◌≡◌ {A = Changed × List ℕ} (r, cells) (project_answer cells g numbers)
  unfolding project_answer
  call-refused why n r q = let e = err-refusal _ why n in ap (λ (c : Changed). (c, cells)) (refusal_is r why g q) ∙ rw (e.0, e.1)

  -- it lets the call pass
  pub call-done : outcome (project_number cells g numbers) ≡ Ok tt → (ps : List Mapped) → ps ≡ mapping_lent numbers → (o : Changed × List ℕ) → o ≡ in_cells (project_by ps g (nodes cells)) → o ≡ project_answer cells g numbers
  unfolding project_answer
  call-done z ps e o q = q ∙ ap (λ (l : List Mapped). in_cells (project_by l g (nodes cells))) e ∙ rw (ok-zero _ z)
