-- A round, turn by turn, as the code does it.
use Rattle.std.specs.Prelude.{if◌then◌else◌}
use Prim.Native.Nat.{ℕ, ◌+◌, ◌-◌, ◌<◌, ◌≤◌}
use mathlib.Core.Bool.{Bool, true, false}
use mathlib.Core.List.{List}
use mathlib.Core.Path.{◌≡◌, refl, sym, ap, ◌∙◌, subst}
use native.Mathlib.Omega.{arith}
use lib.Dec.{eqb}
use lib.ListN.{length}
use Rattle.orderings.specs.Ordering.{same_key}
use Rattle.reduction.specs.Reduction.{Way, onward, again, anew, Compared, compared, round_rest, round_end, round-onward, round-again, round-anew, round}
use Rattle.reduction.specs.Fewer.{goes, Left, compared-left}
use Rattle.orderings.specs.Layout.{encode, decode}
use Rattle.orderings.specs.Inner.{Held}
use Rattle.reduction.specs.Inner.{Paid, way_number, contest_of, turn_of}
use Rattle.orderings.specs.declared.Orderings.{Orderings}
use Rattle.reduction.specs.declared.Contest.{Contest}
use Rattle.reduction.specs.declared.Turned.{Turned}
use Rattle.reduction.proofs.Kept.{Cuts, begun, cuts-good, cuts-keys, compared-step}
use Rattle.orderings.proofs.Codec.{good-held, decode-encode, length-decode, count-few}

-- what holds at each turn: a round of ordering i over list g, after some cuts, goes on from place j with this list, after so many cuts
pub record Round (g : Orderings) (i cuts : ℕ) (list : Orderings) (done j : ℕ) : Type 0 where
  pub paid : Paid list done
  pub past : i < j
  pub goes : round same_key (decode g) i cuts ≡ round_rest same_key (decode list) i j done

-- the place that is compared next
abbrev pub next_of : ℕ → ℕ → ℕ
next_of w j = if eqb w 0 then j + 1 else j

-- a turn of a round from place j on
module _ (m : ℕ → ℕ → Bool) (os : List (List ℕ)) (i j c : ℕ) (a : i < j) (l : j < length os) where
  turn_on : (w : Way) → (compared m os i j).way ≡ w → (way_number w ≡ 2 → ⊥)
      → round_rest m os i j c ≡ round_rest m (compared m os i j).orderings i (next_of (way_number w) j) (c + (compared m os i j).cuts)
  unfolding way_number
  turn_on onward q n = round-onward m os i j c a l q
  turn_on again q n = round-again m os i j c a l q
  turn_on anew q n = absurd (n refl)

  turn-anew : (w : Way) → (compared m os i j).way ≡ w → way_number w ≡ 2 → round_rest m os i j c ≡ record { next = i; cuts = c + (compared m os i j).cuts; orderings = (compared m os i j).orderings }
  unfolding way_number
  turn-anew onward q n = absurd (omega arith)
  turn-anew again q n = absurd (omega arith)
  turn-anew anew q n = round-anew m os i j c l q

-- the orderings ahead become fewer
next-less : (w : Way) (a b j : ℕ) → a + goes w ≡ b → j < b → a - next_of (way_number w) j < b - j
unfolding way_number goes
next-less onward a b j e l = omega arith
next-less again a b j e l = omega arith
next-less anew a b j e l = omega arith

next_past : (w i j : ℕ) → i < j → i < next_of w j
next_past w i j l = go (eqb w 0)
  where
    go : (b : Bool) → i < (if b then j + 1 else j)
    go true = omega arith
    go false = omega arith

-- a round begins
pub round-begins : (g : Orderings) (i cuts : ℕ) → Paid g cuts → i < g.count → Round g i cuts g cuts (i + 1)
unfolding round
round-begins g i cuts p l = record { paid = p; past = omega arith; goes = refl }

module _ (g : Orderings) (i cuts : ℕ) (list : Orderings) (done j : ℕ) (v : Round g i cuts list done j) where
  -- the end
  pub round-ends : list.count ≤ j → ◌≡◌ {A = Turned} (record { next = i + 1; cuts = done; list = list }) (turn_of (round same_key (decode g) i cuts))
  unfolding turn_of
  round-ends l =
      rw (v.goes ∙ round_end same_key (decode list) i j done (omega (arith, length-decode list)))
      (λ t. record { next = i + 1; cuts = done; list = sym v.paid.held.coded t })

  pub round_room : j < list.count → Held list × ((i < list.count) × (j < list.count))
  round_room l = (v.paid.held, (omega (arith, v.past), l))

  -- one turn: what comparing came to, as its struct
  module _ (l : j < list.count) (r : Contest) (e : r ≡ contest_of (compared same_key (decode list) i j)) where
    abbrev d : Compared
    d = compared same_key (decode list) i j

    inside : j < length (decode list)
    inside = omega (arith, length-decode list)

    step : Cuts same_key (decode list) d.orderings (0 + d.cuts)
    step = compared-step same_key (decode list) (decode list) i j 0 begun (omega (arith, v.past, inside)) inside (λ q. absurd (omega (arith, v.past)))

    left : Left (decode list) 0 d
    left = compared-left same_key (decode list) i j (omega (arith, v.past, inside)) inside

    way-is : r.way ≡ way_number d.way
    unfolding contest_of
    way-is = ap (λ (x : Contest). x.way) e

    cuts-is : r.cuts ≡ d.cuts
    unfolding contest_of
    cuts-is = ap (λ (x : Contest). x.cuts) e

    list-is : r.list ≡ encode d.orderings
    unfolding contest_of
    list-is = ap (λ (x : Contest). x.list) e

    orderings-is : decode r.list ≡ d.orderings
    orderings-is = ap decode list-is ∙ decode-encode d.orderings

    held : Held r.list
    held = subst Held (sym list-is) (good-held d.orderings (cuts-good (step) v.paid.held.good))

    paid : Paid r.list (done + r.cuts)
    paid = record { held = held; paid = rw orderings-is (omega (arith, cuts-is, cuts-keys (step), v.paid.paid)) }

    pub round-cuts : done + r.cuts ≤ 512
    round-cuts = omega (arith, paid.paid)

    pub round-low : j < 32
    round-low = omega (arith, count-few list v.paid.held)

    pub round-stops : r.way ≡ 2 → ◌≡◌ {A = Turned} (record { next = i; cuts = done + r.cuts; list = r.list }) (turn_of (round same_key (decode g) i cuts))
    unfolding turn_of
    round-stops w =
        (λ t. record { next = i; cuts = done + cuts-is t; list = list-is t })
        ∙ ap turn_of (sym (v.goes ∙ turn-anew same_key (decode list) i j done v.past inside d.way refl (sym way-is ∙ w)))

    module _ (w : r.way ≡ 2 → ⊥) (next : ℕ) (q : next ≡ next_of r.way j) where
      next-is : next ≡ next_of (way_number d.way) j
      next-is = q ∙ ap (λ (x : ℕ). next_of x j) way-is

      pub round-next : Round g i cuts r.list (done + r.cuts) next
      round-next =
          record {
            paid = paid;
            past = rw q (next_past r.way i j v.past);
            goes = rw (orderings-is, cuts-is, next-is) (v.goes ∙ turn_on same_key (decode list) i j done v.past inside d.way refl (λ x. w (way-is ∙ x)));
          }

      pub round-less : r.list.count - next < list.count - j
      round-less =
          let k : r.list.count ≡ length d.orderings = sym (length-decode r.list) ∙ ap length orderings-is in
          omega (arith, next-less d.way (length d.orderings) (length (decode list)) j left.fewer inside, next-is, length-decode list)
