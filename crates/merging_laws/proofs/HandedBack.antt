-- What `new` and join hand back passes the check again, beside the cells as they are left; a refusal leaves what was lent as it was.
use Rattle.std.specs.Prelude.{if◌then◌else◌, Option, None, Some, Err}
use Prim.Native.Nat.{ℕ, zero, suc, ◌+◌, ◌*◌, ◌/◌, ◌<◌, ◌≤◌}
use mathlib.Core.Bool.{Bool, true, false, ◌&&◌}
use mathlib.Core.List.Memᴰ
use mathlib.Core.List.{List, [], ◌∷◌, ◌++◌, Memᴰ}
use mathlib.Core.Logic.{◌⊎◌, inl, inr}
use mathlib.Core.Path.{◌≡◌, refl, sym, ap, ◌∙◌, subst}
use native.Mathlib.Decide.{dec_lt}
use native.Mathlib.Omega.{arith}
use borrow.Author.Tests.{eqb-true, ltb-true, leb-true, le-leb}
use lib.Dec.{eqb, ltb, leb}
use lib.IntN.{pos}
use lib.ListN.{length, get_or}
use Rattle.laws.specs.Lists.{table}
use Rattle.laws.proofs.Booleans.{and_left, and_right, and_both}
use Rattle.laws.proofs.Each.{each_holds}
use Rattle.arena.specs.Node.{Node}
use Rattle.arena.specs.Arena.{Sound, Placed, placed, full}
use Rattle.shifting.specs.Shift.{moved}
use Rattle.arena.specs.Layout.{lawful, decode as nodes, encode as cells_of}
use Rattle.arena.specs.Calls.{in_cells}
use Rattle.arena.proofs.Layouts.{coded-cells, holds-lawful, encode-holds, lawful-holds, decode-encode as nodes-cells}
use Rattle.classes.specs.Class.{Class}
use Rattle.classes.specs.Group.{total}
use Rattle.classes.specs.Good.{Good}
use Rattle.classes.specs.Steps.{fits}
use Rattle.classes.specs.Layout.{encode, decode, in_set, lawful_group, members_inside}
use Rattle.arena.specs.Refusals.{refusal}
use Rattle.classes.specs.Calls.{changed_number, group_number, no_group}
use Rattle.classes.specs.declared.Group.{Group}
use Rattle.classes.specs.declared.Changed.{Changed}
use Rattle.group_checks.proofs.HeldLaws.{Fit, number-fit, held_number}
use Rattle.merging.specs.Merging.{from_classes}
use Rattle.lent_classes.specs.Lent.{classes_lent}
use Rattle.lent_classes.specs.Check.{new_number}
use Rattle.merging.specs.Calls.{made_group, new_answer, refused_group, made_or_refused}
use Rattle.lent_classes.proofs.ListCounts.{fits-few, fits-small}
use Rattle.merging.proofs.Reaching.{from-good}
use Rattle.shifted_classes.specs.Lent.{paired, sides_below, pairs_lent}
use Rattle.joins.specs.Kinds.{join_kind}
use Rattle.shifted_classes.specs.Shifting.{all_move, shifted_numbers}
use Rattle.joins.specs.Joining.{to_shift, joined_over}
use Rattle.joins.specs.Calls.{join_number, join_placed, join_shifted, join_by, join_answer}
use Rattle.merging_laws.proofs.FairLent.{list-checked, lent_fair}
use Rattle.merging_laws.proofs.JoinLaws.{number-positive, from-fits, SidesBelow, made-to, made-good}
use Rattle.merging_laws.proofs.JoinTheorems.{used, kinds-left, kinds-right, used-below, kinds-made}

-- ---- `new`

-- classes that fit, as the check asks for them
fit_of : (ns : List Node) (cs : List Class) → Good ns cs → fits 256 cs ≡ true → Fit ns 256 cs
fit_of ns cs g f = record {
  low = omega arith;
  high = omega arith;
  few = fits-few cs f;
  within = fits-small cs f;
  good = g;
}

-- a group that `new` made is valid
pub new_valid : (cells numbers : List ℕ) → changed_number (new_answer cells numbers) ≡ 0 → group_number cells (new_answer cells numbers).group ≡ 0
unfolding new_answer made_group no_group
new_valid cells numbers = go (eqb (new_number cells numbers) 0) refl
  where
    out : Bool → Changed
    out b = if b then made_group (from_classes (classes_lent numbers)) else no_group (new_number cells numbers)

    go : (b : Bool) → eqb (new_number cells numbers) 0 ≡ b → changed_number (out b) ≡ 0 → group_number cells (out b).group ≡ 0
    go true q z =
        let e = eqb-true (new_number cells numbers) 0 q in
        let c = list-checked cells numbers e in
        held_number cells c.cells-lawful 256 (from_classes (classes_lent numbers))
        (fit_of (nodes cells) (from_classes (classes_lent numbers)) (from-good (nodes cells) (classes_lent numbers) (lent_fair cells numbers e)) (from-fits 256 (classes_lent numbers) c.fitting))
    go false q z = absurd (omega (arith, z, number-positive (refusal (new_number cells numbers))))

-- a refusal of `new` makes no group
pub refusal-makes-none : (cells numbers : List ℕ) → (changed_number (new_answer cells numbers) ≡ 0 → ⊥) → new_answer cells numbers ≡ no_group (new_number cells numbers)
unfolding new_answer made_group no_group
refusal-makes-none cells numbers = go (eqb (new_number cells numbers) 0)
  where
    out : Bool → Changed
    out b = if b then made_group (from_classes (classes_lent numbers)) else no_group (new_number cells numbers)

    go : (b : Bool) → (changed_number (out b) ≡ 0 → ⊥) → out b ≡ no_group (new_number cells numbers)
    go true z = absurd (z refl)
    go false z = refl

-- ---- join

-- an element of a table has a place
table-place : {A : Type 0} (f : ℕ → A) (n : ℕ) (x : A) → Memᴰ x (table f n) → (k : ℕ) × (k < n) × (x ≡ f k)
unfolding table
table-place f zero x m = absurd (Memᴰ.not-nil m)
table-place f (suc n) x m = go (Memᴰ.append_cases (table f n) m) (table-place f n x)
  where
    go : Memᴰ x (table f n) ⊎ Memᴰ x (f n ∷ []) → (Memᴰ x (table f n) → (k : ℕ) × (k < n) × (x ≡ f k)) → (k : ℕ) × (k < suc n) × (x ≡ f k)
    go (inl h) r = let p = r h in (p.0, omega (arith, p.1), p.2)
    go (inr h) r = (n, omega arith, Memᴰ.eq_of_singleton h)

-- the sides of lent pairs are below what all numbers are below
pub lent-sides : (n : ℕ) (numbers : List ℕ) → sides_below n numbers ≡ true → SidesBelow n (pairs_lent numbers)
unfolding sides_below pairs_lent
lent-sides n numbers h a b m =
    let f : ℕ → ℕ × ℕ = λ k. (get_or numbers (2 * k) 0, get_or numbers (2 * k + 1) 0) in
    let p = table-place f (length numbers / 2) (a, b) m in
    let l : 2 * p.0 + 1 < length numbers = omega (arith, p.1) in
    let s : (k : ℕ) → k < length numbers → get_or numbers k 0 < n = λ k i. ltb-true (get_or numbers k 0) n (each_holds (λ (k : ℕ). ltb (get_or numbers k 0) n) (length numbers) k h i) in (
      subst (λ (x : ℕ). x < n) (sym (ap (λ (q : ℕ × ℕ). q.0) p.2)) (s (2 * p.0) (omega arith)),
      subst (λ (x : ℕ). x < n) (sym (ap (λ (q : ℕ × ℕ). q.1) p.2)) (s (2 * p.0 + 1) l),
    )

-- what the check of two groups, a kind and pairs says
pub record BothChecked (cells : List ℕ) (left right : Group) (kind : ℕ) (numbers : List ℕ) : Type 0 where
  pub kind-low : kind ≤ 9
  pub cells-lawful : lawful cells ≡ true
  pub left_valid : group_number cells left ≡ 0
  pub right_valid : group_number cells right ≡ 0
  pub sides : SidesBelow (length (nodes cells)) (pairs_lent numbers)

-- a group that passes its parts of the check is valid
parts_valid : (cells : List ℕ) (g : Group) → in_set g ≡ true → lawful cells ≡ true → lawful_group (nodes cells) g ≡ true → members_inside (nodes cells) g ≡ true → group_number cells g ≡ 0
unfolding group_number
parts_valid cells g a b c d = rw (a, b, c, d)

-- two groups, a kind and pairs that pass
pub both-checked : (cells : List ℕ) (left right : Group) (kind : ℕ) (numbers : List ℕ) → join_number cells left right kind numbers ≡ 0 → BothChecked cells left right kind numbers
unfolding join_number
both-checked cells left right kind numbers e =
    go (leb kind 9 && in_set left && in_set right) (lawful cells && (lawful_group (nodes cells) left && lawful_group (nodes cells) right && paired numbers))
    (members_inside (nodes cells) left && members_inside (nodes cells) right && sides_below (length (nodes cells)) numbers) refl refl refl e
  where
    go : (a b c : Bool) → (leb kind 9 && in_set left && in_set right) ≡ a → (lawful cells && (lawful_group (nodes cells) left && lawful_group (nodes cells) right && paired numbers)) ≡ b
        → (members_inside (nodes cells) left && members_inside (nodes cells) right && sides_below (length (nodes cells)) numbers) ≡ c
        → ◌≡◌ {A = ℕ} (if a then (if b then (if c then 0 else 1) else 11) else 12) 0 → BothChecked cells left right kind numbers
    go true true true p q r z =
        let a = and_left (leb kind 9 && in_set left) (in_set right) p in
        let w = and_left (lawful cells) (lawful_group (nodes cells) left && lawful_group (nodes cells) right && paired numbers) q in
        let g = and_left (lawful_group (nodes cells) left && lawful_group (nodes cells) right) (paired numbers)
        (and_right (lawful cells) (lawful_group (nodes cells) left && lawful_group (nodes cells) right && paired numbers) q) in
        let i = and_left (members_inside (nodes cells) left && members_inside (nodes cells) right) (sides_below (length (nodes cells)) numbers) r in
        record {
          kind-low = leb-true kind 9 (and_left (leb kind 9) (in_set left) a);
          cells-lawful = w;
          left_valid =
              parts_valid cells left (and_right (leb kind 9) (in_set left) a) w (and_left (lawful_group (nodes cells) left) (lawful_group (nodes cells) right) g)
              (and_left (members_inside (nodes cells) left) (members_inside (nodes cells) right) i);
          right_valid =
              parts_valid cells right (and_right (leb kind 9 && in_set left) (in_set right) p) w (and_right (lawful_group (nodes cells) left) (lawful_group (nodes cells) right) g)
              (and_right (members_inside (nodes cells) left) (members_inside (nodes cells) right) i);
          sides = lent-sides (length (nodes cells)) numbers (and_right (members_inside (nodes cells) left && members_inside (nodes cells) right) (sides_below (length (nodes cells)) numbers) r);
        }
    go true true false p q r z = absurd (omega arith)
    go true false c p q r z = absurd (omega arith)
    go false b c p q r z = absurd (omega arith)

-- what a join that was made hands back: a good group of limit 256 within the bounds, beside a sound arena
pub record Handed (r : Changed) (ms : List Node) : Type 0 where
  pub classes : List Class
  pub is : r ≡ made_group classes
  pub sound : Sound ms
  pub good : Good ms classes
  pub fitting : fits 256 classes ≡ true

-- the classes of a lent group are within the bounds of 256
fit-fits : (ns : List Node) (l : ℕ) (cs : List Class) → Fit ns l cs → fits 256 cs ≡ true
unfolding fits
fit-fits ns l cs f = and_both (le-leb (total cs) 256 (omega (arith, f.within, f.high))) (le-leb (length cs) 64 f.few)

module _ (cells : List ℕ) (left right : Group) (kind size : ℕ) (numbers : List ℕ) (c : BothChecked cells left right kind numbers) where
  -- the classes of a side, kept as they are
  side_handed : (g : Group) → group_number cells g ≡ 0 → (r : Changed) (ms : List Node) → ◌≡◌ {A = Changed × List Node} (made_group (decode g), nodes cells) (r, ms) → Handed r ms
  side_handed g v r ms e =
      let f = number-fit cells g v in
      let w : nodes cells ≡ ms = ap (λ (o : Changed × List Node). o.1) e in
      record {
        classes = decode g;
        is = sym (ap (λ (o : Changed × List Node). o.0) e);
        sound = subst Sound w (lawful-holds cells c.cells-lawful).sound;
        good = subst (λ (ns : List Node). Good ns (decode g)) w f.good;
        fitting = fit-fits (nodes cells) g.limit (decode g) f;
      }

  -- a join of any kind
  pub kinds_handed : (r : Changed) (ms : List Node) → join_by left right kind size (pairs_lent numbers) (nodes cells) ≡ (r, ms) → changed_number r ≡ 0 → Handed r ms
  kinds_handed r ms e z = go (dec_lt kind 4) (dec_lt kind 7)
    where
      go : Dec (kind < 4) → Dec (kind < 7) → Handed r ms
      go (yes l) d =
          let ps = pairs_lent numbers in
          let ns = nodes cells in
          let s = (lawful-holds cells c.cells-lawful).sound in
          let gl = (number-fit cells left c.left_valid).good in
          let gr = (number-fit cells right c.right_valid).good in
          let b = used-below left right kind size ps ns c.sides in
          let m = kinds-made left right kind size ps ns r ms e z l in
          let g = made-good (decode left) (decode right) size (used kind ps) ns r ms s gl gr b m in
          record {
            classes = m.classes;
            is = m.is;
            sound = (made-to (decode left) (decode right) size (used kind ps) ns r ms s gl gr b m).sound;
            good = g.0;
            fitting = g.1;
          }
      go (no l) (yes d) = side_handed left c.left_valid r ms (sym (kinds-left left right kind size (pairs_lent numbers) (nodes cells) (omega arith) (omega arith)) ∙ e)
      go (no l) (no d) = side_handed right c.right_valid r ms (sym (kinds-right left right kind size (pairs_lent numbers) (nodes cells) (omega arith) c.kind-low) ∙ e)

-- what was handed back is valid beside the arena laid out in cells
handed_valid : (r : Changed) (ms : List Node) → Handed r ms → group_number (cells_of ms) r.group ≡ 0
unfolding made_group
handed_valid r ms h =
    let q : r.group ≡ encode 256 h.classes = ap (λ (o : Changed). o.group) h.is in
    subst (λ (g : Group). group_number (cells_of ms) g ≡ 0) (sym q)
    (held_number (cells_of ms) (holds-lawful (cells_of ms) (encode-holds ms h.sound)) 256 h.classes
    (subst (λ (ns : List Node). Fit ns 256 h.classes) (sym (nodes-cells ms h.sound)) (fit_of ms h.classes h.good h.fitting)))

module _ (cells : List ℕ) (left right : Group) (kind size : ℕ) (numbers : List ℕ) where
  -- the call, by whether its check passes
  abbrev pub join_out : Bool → Changed × List ℕ
  join_out b =
      if b then in_cells (join_by left right kind size (pairs_lent numbers) (nodes cells))
      else (record { answer = Err (refusal (join_number cells left right kind numbers)); group = left }, cells)

  -- a group that join made is valid beside the cells as they are left
  pub join_valid : changed_number (join_answer cells left right kind size numbers).0 ≡ 0 → group_number (join_answer cells left right kind size numbers).1 (join_answer cells left right kind size numbers).0.group ≡ 0
  unfolding join_answer in_cells
  join_valid = go (eqb (join_number cells left right kind numbers) 0) refl
    where
      go : (b : Bool) → eqb (join_number cells left right kind numbers) 0 ≡ b → changed_number (join_out b).0 ≡ 0 → group_number (join_out b).1 (join_out b).0.group ≡ 0
      go true q z =
          let o = join_by left right kind size (pairs_lent numbers) (nodes cells) in
          let c = both-checked cells left right kind numbers (eqb-true (join_number cells left right kind numbers) 0 q) in
          handed_valid o.0 o.1 (kinds_handed cells left right kind size numbers c o.0 o.1 refl z)
      go false q z = absurd (omega (arith, z, number-positive (refusal (join_number cells left right kind numbers))))

-- what a refusal of a join over nodes hands back
abbrev Kept : Group → List Node → Changed × List Node → Type 0
Kept left ns o = (changed_number o.0 ≡ 0 → ⊥) → (o.0.group ≡ left) × (o.1 ≡ ns)

module _ (left : Group) (ns : List Node) where
  -- where the classes exceed the bounds
  made_kept : (ms : List Node) (o : Option (List Class)) → Kept left ns (made_or_refused left ns ms o)
  unfolding made_or_refused refused_group made_group
  made_kept ms (Some cs) z = absurd (z refl)
  made_kept ms None z = (refl, refl)

  -- or the arena has no room
  placed-kept : (rs : List Class) (ps : List (ℕ × ℕ)) (o : Placed (List ℕ)) → Kept left ns (join_placed left rs ps ns o)
  unfolding join_placed refused_group
  placed-kept rs ps (placed ks ms) z = made_kept ms (joined_over ms (decode left) rs ps ks) z
  placed-kept rs ps full z = (refl, refl)

  -- or a column leaves its range
  shifted-kept : (rs : List Class) (size : ℕ) (ps : List (ℕ × ℕ)) → Kept left ns (join_shifted left rs size ps ns)
  unfolding join_shifted refused_group
  shifted-kept rs size ps = go (all_move (moved (pos size)) ns (to_shift rs ps))
    where
      go : (b : Bool) → Kept left ns (if b then join_placed left rs ps ns (shifted_numbers (moved (pos size)) ns (to_shift rs ps) ns) else refused_group 10 left ns)
      go true z = placed-kept rs ps (shifted_numbers (moved (pos size)) ns (to_shift rs ps) ns) z
      go false z = (refl, refl)

  -- for every kind
  kinds_kept : (right : Group) (kind size : ℕ) (ps : List (ℕ × ℕ)) → Kept left ns (join_by left right kind size ps ns)
  unfolding join_by made_group
  kinds_kept right kind size ps = go (join_kind kind).shifted
    where
      pairs : List (ℕ × ℕ)
      pairs = if (join_kind kind).pairs then ps else []

      sides : List Class
      sides = (if (join_kind kind).left then decode left else []) ++ (if (join_kind kind).right then decode right else [])

      go : (b : Bool) → Kept left ns (if b then join_shifted left (decode right) size pairs ns else (made_group sides, ns))
      go true z = shifted-kept (decode right) size pairs z
      go false z = absurd (z refl)

-- a refusal of join hands back the left group and leaves every cell as it was
pub refusal-keeps-join : (cells : List ℕ) (left right : Group) (kind size : ℕ) (numbers : List ℕ) → (changed_number (join_answer cells left right kind size numbers).0 ≡ 0 → ⊥)
    → ((join_answer cells left right kind size numbers).0.group ≡ left) × ((join_answer cells left right kind size numbers).1 ≡ cells)
unfolding join_answer in_cells
refusal-keeps-join cells left right kind size numbers = go (eqb (join_number cells left right kind numbers) 0) refl
  where
    go : (b : Bool) → eqb (join_number cells left right kind numbers) 0 ≡ b → (changed_number (join_out cells left right kind size numbers b).0 ≡ 0 → ⊥)
        → ((join_out cells left right kind size numbers b).0.group ≡ left) × ((join_out cells left right kind size numbers b).1 ≡ cells)
    go true q z =
        let k = kinds_kept left (nodes cells) right kind size (pairs_lent numbers) z in
        let c = both-checked cells left right kind numbers (eqb-true (join_number cells left right kind numbers) 0 q) in
        (k.0, ap cells_of k.1 ∙ coded-cells cells (lawful-holds cells c.cells-lawful))
    go false q z = (refl, refl)
