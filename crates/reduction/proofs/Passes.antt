-- A pass, round by round, and reduction, pass by pass, as the code does them.
use Prim.Native.Nat.{ℕ, suc, ◌+◌, ◌-◌, ◌*◌, ◌<◌, ◌≤◌}
use mathlib.Core.Bool.{Bool, true, false, not}
use mathlib.Core.List.{List, [], ◌∷◌}
use mathlib.Core.Path.{◌≡◌, refl, sym, ap, ◌∙◌, subst}
use native.Mathlib.Omega.{arith}
use borrow.Author.Tests.{eqb-true, eqb-false}
use lib.Dec.{eqb}
use lib.ListN.{length}
use Rattle.orderings.specs.Ordering.{same_key}
use Rattle.orderings.specs.Lists.{ordering_at}
use Rattle.reduction.specs.Reduction.{Turn, round, Rounded, round-leaves, pass_rest, pass_end, pass-round, pass, pass-keys, keys_in, Reduced, passes_rest, passes_end, passes_on, reduced}
use Rattle.orderings.specs.Good.{Good}
use Rattle.orderings.specs.Layout.{encode, decode}
use Rattle.orderings.specs.Inner.{Held}
use Rattle.reduction.specs.Inner.{Paid, turn_of, reduction_of}
use Rattle.orderings.specs.declared.Orderings.{Orderings}
use Rattle.reduction.specs.declared.Turned.{Turned}
use Rattle.reduction.specs.declared.Reduction.{Reduction}
use Rattle.reduction.proofs.Kept.{Cuts, begun, cuts-good, cuts-keys, cuts-on, round-trace, pass-cuts}
use Rattle.orderings.proofs.Codec.{decode-encode, length-decode}

-- orderings of at most 16 keys
keys-most : (os : List (List ℕ)) → ((i : ℕ) → i < length os → length (ordering_at os i) ≤ 16) → keys_in os ≤ length os * 16
unfolding keys_in
keys-most [] f = omega arith
keys-most (o ∷ os) f = omega (arith, f 0 (omega arith), keys-most os (λ i l. f (suc i) (omega arith)))

-- a good list has at most 512 keys
pub good-keys : (os : List (List ℕ)) → Good os → keys_in os ≤ 512
good-keys os g = omega (arith, keys-most os (λ i l. (g.each i l).few), g.few)

-- a list that cutting came to from list g
pub record Reached (g list : Orderings) (cuts : ℕ) : Type 0 where
  pub coded : encode (decode list) ≡ list
  pub trace : Cuts same_key (decode g) (decode list) cuts

-- what holds at each turn of a pass over list g: it goes on from place i with this list, after so many cuts
pub record Pass (g list : Orderings) (cuts i : ℕ) : Type 0 where
  pub reached : Reached g list cuts
  pub goes : pass same_key (decode g) ≡ pass_rest same_key (decode list) i cuts

-- a list that was reached is paid for
pub reached-paid : (g list : Orderings) (cuts : ℕ) → Held g → Reached g list cuts → Paid list cuts
reached-paid g list cuts h v =
    record {
      held = record { coded = v.coded; good = cuts-good v.trace h.good };
      paid = omega (arith, cuts-keys v.trace, good-keys (decode g) h.good);
    }

reached-by : (g list : Orderings) (cuts : ℕ) (ps : List (List ℕ)) → list ≡ encode ps → Cuts same_key (decode g) ps cuts → Reached g list cuts
reached-by g list cuts ps e t =
    let d : decode list ≡ ps = ap decode e ∙ decode-encode ps in
    record { coded = ap encode d ∙ sym e; trace = subst (λ (x : List (List ℕ)). Cuts same_key (decode g) x cuts) (sym d) t }

-- a pass begins
pub pass-begins : (g : Orderings) → Held g → Pass g g 0 0
unfolding pass
pass-begins g h = record { reached = record { coded = h.coded; trace = begun }; goes = refl }

module _ (g list : Orderings) (cuts i : ℕ) (v : Pass g list cuts i) where
  -- the end
  pub pass-ends : list.count ≤ i → ◌≡◌ {A = Turned} (record { next = i; cuts = cuts; list = list }) (turn_of (pass same_key (decode g)))
  unfolding turn_of
  pass-ends l =
      (λ t. record { next = i; cuts = cuts; list = sym v.reached.coded t })
      ∙ ap turn_of (sym (v.goes ∙ pass_end same_key (decode list) i cuts (omega (arith, length-decode list))))

  -- one round, as its struct
  module _ (l : i < list.count) (r : Turned) (e : r ≡ turn_of (round same_key (decode list) i cuts)) where
    abbrev d : Turn
    d = round same_key (decode list) i cuts

    inside : i < length (decode list)
    inside = omega (arith, length-decode list)

    leaves : Rounded (decode list) i cuts d
    leaves = round-leaves same_key i (decode list) cuts inside

    next-is : r.next ≡ d.next
    unfolding turn_of
    next-is = ap (λ (x : Turned). x.next) e

    cuts-is : r.cuts ≡ d.cuts
    unfolding turn_of
    cuts-is = ap (λ (x : Turned). x.cuts) e

    list-is : r.list ≡ encode d.orderings
    unfolding turn_of
    list-is = ap (λ (x : Turned). x.list) e

    orderings-is : decode r.list ≡ d.orderings
    orderings-is = ap decode list-is ∙ decode-encode d.orderings

    pub pass-next : Pass g r.list r.cuts r.next
    pass-next =
        record {
          reached = rw cuts-is (reached-by g r.list d.cuts d.orderings list-is (round-trace same_key (decode g) (decode list) i cuts v.reached.trace));
          goes = rw (orderings-is, cuts-is, next-is) (v.goes ∙ pass-round same_key (decode list) i cuts inside);
        }

    pub pass-less : r.list.count - r.next < list.count - i
    pass-less =
        let k : r.list.count ≡ length d.orderings = sym (length-decode r.list) ∙ ap length orderings-is in
        omega (arith, next-is, leaves.ahead, length-decode list)

-- what is left of a reduction: all the passes that the keys allow, or none
unfoldable pub ahead : (ℕ → ℕ → Bool) → Bool → List (List ℕ) → ℕ → ℕ → Reduced
ahead m true os cuts passes = passes_rest m os cuts passes
ahead m false os cuts passes = record { orderings = os; cuts = cuts; passes = passes }

-- more passes than are left
unfoldable pub passes_left : Bool → List (List ℕ) → ℕ
passes_left true os = keys_in os + 1
passes_left false os = 0

-- the most passes after a number of cuts: each pass but the last makes one
unfoldable pub most_passes : Bool → ℕ → ℕ
most_passes true cuts = cuts
most_passes false cuts = cuts + 1

-- one pass of a reduction
module _ (m : ℕ → ℕ → Bool) (os : List (List ℕ)) where
  pass-last : (c p : ℕ) → eqb (pass m os).cuts 0 ≡ true → ahead m true os c p ≡ ahead m false (pass m os).orderings (c + (pass m os).cuts) (p + 1)
  unfolding ahead
  pass-last c p e =
      let z = eqb-true (pass m os).cuts 0 e in
      let s : c ≡ c + (pass m os).cuts = omega arith in
      passes_end m os c p z ∙ (λ t. record { orderings = (pass m os).orderings; cuts = s t; passes = p + 1 })

  pass-more : (c p : ℕ) → eqb (pass m os).cuts 0 ≡ false → ahead m true os c p ≡ ahead m true (pass m os).orderings (c + (pass m os).cuts) (p + 1)
  unfolding ahead
  pass-more c p e = passes_on m os c p (eqb-false (pass m os).cuts 0 e)

  pass-ahead : (c p : ℕ) (b : Bool) → eqb (pass m os).cuts 0 ≡ b → ahead m true os c p ≡ ahead m (not b) (pass m os).orderings (c + (pass m os).cuts) (p + 1)
  pass-ahead c p true e = pass-last c p e
  pass-ahead c p false e = pass-more c p e

  pass-fewer : (b : Bool) → eqb (pass m os).cuts 0 ≡ b → passes_left (not b) (pass m os).orderings < passes_left true os
  unfolding passes_left
  pass-fewer true e = omega arith
  pass-fewer false e = omega (arith, eqb-false (pass m os).cuts 0 e, pass-keys m os)

  most-next : (c p : ℕ) (b : Bool) → eqb (pass m os).cuts 0 ≡ b → p ≤ most_passes true c → p + 1 ≤ most_passes (not b) (c + (pass m os).cuts)
  unfolding most_passes
  most-next c p true e l = omega arith
  most-next c p false e l = omega (arith, eqb-false (pass m os).cuts 0 e)

-- what holds at each turn of the reduction of list g: it goes on with this list, after so many cuts and passes, as long as there is work
pub record Work (g list : Orderings) (cuts passes : ℕ) (work : Bool) : Type 0 where
  pub reached : Reached g list cuts
  pub few : passes ≤ most_passes work cuts
  pub goes : reduced same_key (decode g) ≡ ahead same_key work (decode list) cuts passes

-- reduction begins
pub work_begins : (g : Orderings) → Held g → Work g g 0 0 true
unfolding reduced ahead most_passes
work_begins g h = record { reached = record { coded = h.coded; trace = begun }; few = omega arith; goes = refl }

module _ (g list : Orderings) (cuts passes : ℕ) (work : Bool) (v : Work g list cuts passes work) where
  -- the end
  pub work_ends : work ≡ false → ◌≡◌ {A = Reduction} (record { list = list; cuts = cuts; passes = passes }) (reduction_of (reduced same_key (decode g)))
  unfolding reduction_of ahead
  work_ends e =
      let r : reduced same_key (decode g) ≡ ahead same_key false (decode list) cuts passes = rw e at v.goes in
      (λ t. record { list = sym v.reached.coded t; cuts = cuts; passes = passes }) ∙ ap reduction_of (sym r)

  -- one pass, as its struct
  module _ (h : Held g) (l : work ≡ true) (r : Turned) (e : r ≡ turn_of (pass same_key (decode list))) where
    abbrev p : Turn
    p = pass same_key (decode list)

    made-is : r.cuts ≡ p.cuts
    unfolding turn_of
    made-is = ap (λ (x : Turned). x.cuts) e

    left_is : r.list ≡ encode p.orderings
    unfolding turn_of
    left_is = ap (λ (x : Turned). x.list) e

    after_is : decode r.list ≡ p.orderings
    after_is = ap decode left_is ∙ decode-encode p.orderings

    most : passes ≤ most_passes true cuts
    most = rw l at v.few

    further : Reached g r.list (cuts + p.cuts)
    further = reached-by g r.list (cuts + p.cuts) p.orderings left_is (cuts-on v.reached.trace (pass-cuts same_key (decode list)))

    pub work_cuts : cuts + r.cuts ≤ 512
    work_cuts = omega (arith, made-is, (reached-paid g r.list (cuts + p.cuts) h further).paid)

    pub work_passes : passes ≤ 512
    unfolding most_passes
    work_passes = omega (arith, most, work_cuts)

    pub work_next : Work g r.list (cuts + r.cuts) (passes + 1) (not (eqb r.cuts 0))
    work_next =
        let q : reduced same_key (decode g) ≡ ahead same_key true (decode list) cuts passes = rw l at v.goes in
        rw made-is
        (record {
          reached = further;
          few = most-next same_key (decode list) cuts passes (eqb p.cuts 0) refl most;
          goes = rw after_is (q ∙ pass-ahead same_key (decode list) cuts passes (eqb p.cuts 0) refl);
        })

    pub work_less : passes_left (not (eqb r.cuts 0)) (decode r.list) < passes_left work (decode list)
    work_less = rw (l, made-is, after_is) (pass-fewer same_key (decode list) (eqb p.cuts 0) refl)
