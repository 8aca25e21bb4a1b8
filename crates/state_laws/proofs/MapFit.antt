-- A dependency map that an insert hands back, unless it is refused, fits its cells.
use Rattle.std.specs.Prelude.{if◌then◌else◌, Option, None, Ok, Err}
use Prim.Native.Nat.{ℕ, ◌+◌, ◌*◌, ◌<◌, ◌≤◌}
use mathlib.Core.Bool.{Bool, true, false}
use mathlib.Core.List.{List, []}
use mathlib.Core.Path.{◌≡◌, refl, sym, ap, subst}
use native.Mathlib.Decide.{dec_lt}
use native.Mathlib.Omega.{arith}
use lib.Dec.{eqb}
use lib.ListN.{length, get_or-eq_default}
use Rattle.arena.specs.Layout.{count}
use Rattle.arena.proofs.Layouts.{lawful-holds}
use Rattle.arena.specs.declared.Refusal.TheVariants.{TooLarge}
use Rattle.arena.specs.Refusals.{refusal, number_of}
use Rattle.merging_laws.proofs.JoinLaws.{number-positive}
use Rattle.orderings.specs.Ordering.{expr_of}
use Rattle.dependencies.specs.Map.{Dependent, entry_at, inserted, fits}
use Rattle.dependencies.specs.Layout.{is_there, number_or0, row, encode, decode}
use Rattle.dependencies.specs.Calls.{map_number, key_of, insert_number, judged, insert_answer}
use Rattle.dependencies.specs.declared.DependencyMap.{DependencyMap}
use Rattle.dependencies.specs.declared.Key.{Key}
use Rattle.dependencies.specs.declared.Inserted.{Inserted}
use Rattle.dependencies.proofs.MapChecks.{number-arena}
use Rattle.dependencies.proofs.MapCodec.{place-encode, decode-encode}
use Rattle.dependency_laws.proofs.GoodMaps.{GoodMap, number-good}
use Rattle.dependency_laws.proofs.InsertTheorems.{insert_valid}
use Rattle.states.specs.Inner.{NodeFits, MapFits, MapFitsIfDone}

-- an entry whose target is known and that has at most 16 dependencies fits
row_fits : (n : ℕ) (x : Dependent) → n ≤ 1024 → expr_of (number_or0 x.target) < n → length x.dependencies ≤ 16 → NodeFits (row x)
unfolding row expr_of
row_fits n x few target short = record { target = λ p. omega arith; size = omega arith }

-- a place without an entry fits
none-fits : NodeFits (row (record { key = 0; target = None; dependencies = [] }))
unfolding row is_there number_or0
none-fits = record { target = λ p. omega arith; size = omega arith }

-- as many keys as there are
count-encode : (ds : List Dependent) → (encode ds).count ≡ length ds
unfolding encode
count-encode ds = refl

-- the layout of a good map over at most 1,024 nodes fits
good-fits : (n : ℕ) (ds : List Dependent) → n ≤ 1024 → GoodMap n ds → MapFits (encode ds)
good-fits n ds few g = record { count = omega (arith, g.few, count-encode ds); nodes = λ i. subst NodeFits (sym (place-encode ds i)) (at i (dec_lt i (length ds))) }
  where
    at : (i : ℕ) → Dec (i < length ds) → NodeFits (row (entry_at ds i))
    at i (yes l) = let e = g.entries i l in row_fits n (entry_at ds i) few e.target_below e.short
    at i (no l) = subst (λ (x : Dependent). NodeFits (row x)) (sym (get_or-eq_default ds (record { key = 0; target = None; dependencies = [] }) {n = i} (omega arith))) none-fits

-- a map that passes the check fits, if it is the layout of its entries
pub passed-fits : (cells : List ℕ) (m : DependencyMap) → encode (decode m) ≡ m → map_number cells m ≡ 0 → MapFits m
passed-fits cells m coded z = subst MapFits coded (good-fits (count cells) (decode m) (lawful-holds cells (number-arena cells m z)).few (number-good cells m z))

-- an insert
module _ (cells : List ℕ) (m : DependencyMap) (e options : ℕ) (target dependency : Option Key) where
  -- the entries afterwards
  abbrev after : List Dependent
  after = inserted (decode m) (e * 4 + options) (key_of target) (key_of dependency)

  -- what it hands back is a layout, unless it is refused
  made : number_of (insert_answer cells m e options target dependency).done ≡ 0 → ((insert_answer cells m e options target dependency).done ≡ Ok tt) × ((insert_answer cells m e options target dependency).map ≡ encode after)
  unfolding insert_answer judged
  made = go (eqb (insert_number cells m e options target dependency) 0) (fits after) refl
    where
      by : Bool → Bool → Inserted
      by p q = if p then (if q then record { done = Ok tt; map = encode after } else record { done = Err TooLarge; map = m }) else record { done = Err (refusal (insert_number cells m e options target dependency)); map = m }

      go : (p q : Bool) → eqb (insert_number cells m e options target dependency) 0 ≡ p → number_of (by p q).done ≡ 0 → ((by p q).done ≡ Ok tt) × ((by p q).map ≡ encode after)
      go true true s z = (refl, refl)
      go true false s z = absurd (omega arith)
      go false q s z = absurd (omega (arith, number-positive (refusal (insert_number cells m e options target dependency))))

  -- so it fits
  pub insert-fits : MapFitsIfDone (insert_answer cells m e options target dependency)
  insert-fits z =
      let d = made z in
      subst MapFits (sym d.1)
      (passed-fits cells (encode after) (ap encode (decode-encode after))
      (subst (λ (x : DependencyMap). map_number cells x ≡ 0) d.1 (insert_valid cells m e options target dependency d.0)))
