-- A valid group stays valid, and a refusal hands the group back as it was: for each call that hands back a group, over the functions that the contracts cite.
-- Valid is a group that the check lets pass beside its arena: its number is 0.
use Rattle.std.specs.Prelude.{if◌then◌else◌, Ok}
use Prim.Native.Nat.{ℕ, ◌+◌, ◌≤◌}
use mathlib.Core.Bool.{Bool, true, false, ◌&&◌}
use mathlib.Core.List.{List, []}
use mathlib.Core.Path.{◌≡◌, refl, ap, ◌∙◌}
use native.Mathlib.Omega.{arith}
use borrow.Author.Tests.{eqb-true, ltb-true, leb-true}
use lib.Dec.{eqb, ltb, leb}
use lib.ListN.{length, length-set}
use Rattle.laws.proofs.Booleans.{and_left, and_right}
use Rattle.arena.specs.declared.Refusal.TheVariants.{BadNumber}
use Rattle.arena.specs.Refusals.{refusal, number_of}
use Rattle.classes.proofs.Judging.{answer-done}
use Rattle.arena.specs.Node.{Node}
use Rattle.arena.specs.Layout.{lawful, decode as nodes}
use Rattle.classes.specs.declared.Constant.{Constant}
use Rattle.classes.specs.declared.Constant.TheVariants.{NoConstant as no_constant}
use Rattle.classes.specs.Class.{Class}
use Rattle.classes.specs.Group.{class_at, total, length_removed, equal_condition, with_constant}
use Rattle.classes.specs.Good.{Good}
use Rattle.classes.specs.Steps.{Outcome, fits}
use Rattle.classes.specs.Layout.{encode, decode, constant_from}
use Rattle.classes.specs.Calls.{changed_number, group_number, changed, on_group}
use Rattle.group_checks.specs.Calls.{opened}
use Rattle.classes.specs.declared.Group.{Group}
use Rattle.classes.specs.declared.Changed.{Changed}
use Rattle.classes.proofs.Places.{total-same, total-removed}
use Rattle.group_checks.proofs.HeldLaws.{number-lawful, Fit, number-fit, number-held, held_number}
use Rattle.classes.proofs.Judging.{handed_back}
use Rattle.conditions.specs.Steps.{add_equal, add_constant, clear}
use Rattle.conditions.specs.Calls.{sayable, on_constant}
use Rattle.demands.proofs.Answers.{add_equal-holds, add_constant-holds, add_equal-keeps, add_constant-keeps}
use Rattle.demands.proofs.GoodKept.{clear-keeps, heterogeneous-below, condition_good, constant-good, clear-call-good, empty-good}

-- from classes that are a group, a step to good ones that fit
fit-step : (ns : List Node) (l : ℕ) (cs ds : List Class) → Fit ns l cs → Good ns ds → fits l ds ≡ true → Fit ns l ds
unfolding fits
fit-step ns l cs ds f good q = record {
  low = f.low;
  high = f.high;
  few = leb-true (length ds) 64 (and_right (leb (total ds) l) (leb (length ds) 64) q);
  within = leb-true (total ds) l (and_left (leb (total ds) l) (leb (length ds) 64) q);
  good = good;
}

-- clearing makes neither more members nor more classes
clear-fewer : (l n : ℕ) (cs : List Class) → (total cs ≤ l) × (length cs ≤ n) → (total (clear cs).classes ≤ l) × (length (clear cs).classes ≤ n)
unfolding clear
clear-fewer l n cs w =
    clear-keeps (λ (ds : List Class). (total ds ≤ l) × (length ds ≤ n))
    (λ ds i h p. (omega (arith, total-same ds i no_constant, p.0), omega (arith, length-set ds i (record { members = (class_at ds i).members; constant = no_constant }), p.1)))
    (λ ds i h p. (omega (arith, total-removed ds i (heterogeneous-below ds i h), p.0), omega (arith, length_removed ds i, p.1)))
    cs w

module _ (cells : List ℕ) (g : Group) where
  -- where the classes of a call's outcome are good and within the limits, the group that it hands back is valid
  valid_outcome : (call : List Node → List Class → Outcome) → ((ns : List Node) (cs : List Class) → Fit ns g.limit cs → Fit ns g.limit (call ns cs).classes)
      → group_number cells g ≡ 0 → group_number cells (on_group call cells g).group ≡ 0
  unfolding on_group changed
  valid_outcome call k e = go (eqb (group_number cells g) 0)
    where
      go : (b : Bool) → group_number cells (if b then changed g.limit (call (nodes cells) (decode g)) else handed_back (refusal (group_number cells g)) g).group ≡ 0
      go true = held_number cells (number-lawful cells g e) g.limit (call (nodes cells) (decode g)).classes (k (nodes cells) (decode g) (number-fit cells g e))
      go false = e

  -- an equal condition
  pub valid_equal : (a b : ℕ) → group_number cells g ≡ 0 → group_number cells (on_group (λ ns cs. add_equal g.limit ns a b cs) cells g).group ≡ 0
  valid_equal a b =
      valid_outcome (λ ns cs. add_equal g.limit ns a b cs)
      (λ ns cs f. add_equal-holds (λ (ds : List Class). Fit ns g.limit ds) g.limit cs f ns a b
      (λ la lb q. fit-step ns g.limit cs (equal_condition ns cs a b).1 f (condition_good ns cs a b f.good la lb) q))

  -- a constant
  pub valid_constant : (e flavour value : ℕ) → group_number cells g ≡ 0 → group_number cells (on_constant e flavour value cells g).group ≡ 0
  unfolding on_constant
  valid_constant e flavour value z = go (sayable flavour value)
    where
      said : Constant
      said = constant_from (flavour + 1) value

      call : List Node → List Class → Outcome
      call ns cs = add_constant true g.limit ns e said cs

      go : (b : Bool) → group_number cells (if b then on_group call cells g else handed_back BadNumber g).group ≡ 0
      go true =
          valid_outcome call
          (λ ns cs f. add_constant-holds (λ (ds : List Class). Fit ns g.limit ds) g.limit cs f true ns e said
          (λ l q. fit-step ns g.limit cs (with_constant true ns cs e said) f (constant-good true ns cs e f.good l said) q)) z
      go false = z

  -- clearing
  pub valid_clear : group_number cells g ≡ 0 → group_number cells (on_group (λ ns cs. clear cs) cells g).group ≡ 0
  valid_clear =
      valid_outcome (λ ns cs. clear cs)
      (λ ns cs f. let w = clear-fewer g.limit 64 cs (f.within, f.few) in record { low = f.low; high = f.high; few = w.1; within = w.0; good = clear-call-good ns cs f.good })

-- what opening comes to, by whether the limit is from 1 to 256
abbrev opened_by : ℕ → Bool → Changed
opened_by limit b = if b then record { answer = Ok true; group = encode limit [] } else handed_back BadNumber (encode 0 [])

-- a group that was opened is valid beside every arena
pub valid_opened : (cells : List ℕ) → lawful cells ≡ true → (limit : ℕ) → changed_number (opened limit) ≡ 0 → group_number cells (opened limit).group ≡ 0
unfolding opened total
valid_opened cells w limit = go (ltb 0 limit && leb limit 256) refl
  where
    go : (b : Bool) → (ltb 0 limit && leb limit 256) ≡ b → changed_number (opened_by limit b) ≡ 0 → group_number cells (opened_by limit b).group ≡ 0
    go true q z =
        held_number cells w limit []
        (record { low = ltb-true 0 limit (and_left (ltb 0 limit) (leb limit 256) q); high = leb-true limit 256 (and_right (ltb 0 limit) (leb limit 256) q); few = omega arith; within = omega arith; good = empty-good (nodes cells) })
    go false q z = absurd (omega arith)

-- a limit that is refused opens no group
pub refusal_opens_none : (limit : ℕ) → (changed_number (opened limit) ≡ 0 → ⊥) → (opened limit).group ≡ encode 0 []
unfolding opened
refusal_opens_none limit = go (ltb 0 limit && leb limit 256)
  where
    go : (b : Bool) → (changed_number (opened_by limit b) ≡ 0 → ⊥) → (opened_by limit b).group ≡ encode 0 []
    go true z = absurd (z refl)
    go false z = refl

-- the lengths of a struct's tables, which its type gives
pub record Tables (g : Group) : Type 0 where
  pub sizes : length g.sizes ≡ 64
  pub flavours : length g.flavours ≡ 64
  pub values : length g.values ≡ 64
  pub members : length g.members ≡ 256

module _ (cells : List ℕ) (g : Group) where
  -- a call on a lent group that is refused hands it back, where its outcome does
  refusal-keeps : (call : List Node → List Class → Outcome)
      → (group_number cells g ≡ 0 → ((call (nodes cells) (decode g)).number ≡ 0 → ⊥) → encode g.limit (call (nodes cells) (decode g)).classes ≡ g)
      → (changed_number (on_group call cells g) ≡ 0 → ⊥) → (on_group call cells g).group ≡ g
  unfolding on_group changed
  refusal-keeps call k = go (eqb (group_number cells g) 0) refl
    where
      out : Bool → Changed
      out b = if b then changed g.limit (call (nodes cells) (decode g)) else handed_back (refusal (group_number cells g)) g

      go : (b : Bool) → eqb (group_number cells g) 0 ≡ b → (changed_number (out b) ≡ 0 → ⊥) → (out b).group ≡ g
      go true q z = k (eqb-true (group_number cells g) 0 q) (λ w. z (ap number_of (answer-done (call (nodes cells) (decode g)) w)))
      go false q z = refl

  -- clearing
  pub refusal-keeps-clear : (changed_number (on_group (λ ns cs. clear cs) cells g) ≡ 0 → ⊥) → (on_group (λ ns cs. clear cs) cells g).group ≡ g
  unfolding clear
  refusal-keeps-clear = refusal-keeps (λ ns cs. clear cs) (λ e z. absurd (z refl))

  module _ (t : Tables g) where
    -- a valid group is the layout of its classes
    coded : group_number cells g ≡ 0 → encode g.limit (decode g) ≡ g
    coded e = (number-held cells g t.sizes t.flavours t.values t.members e).coded.coded

    -- an equal condition
    pub refusal-keeps-equal : (a b : ℕ) → let r : Changed = on_group (λ ns cs. add_equal g.limit ns a b cs) cells g in (changed_number r ≡ 0 → ⊥) → r.group ≡ g
    refusal-keeps-equal a b =
        refusal-keeps (λ ns cs. add_equal g.limit ns a b cs)
        (λ e z. ap (encode g.limit) (add_equal-keeps g.limit (nodes cells) a b (decode g) z) ∙ coded e)

    -- a constant
    pub refusal-keeps-constant : (e flavour value : ℕ) → (changed_number (on_constant e flavour value cells g) ≡ 0 → ⊥) → (on_constant e flavour value cells g).group ≡ g
    unfolding on_constant
    refusal-keeps-constant e flavour value = go (sayable flavour value)
      where
        said : Constant
        said = constant_from (flavour + 1) value

        out : Bool → Changed
        out b = if b then on_group (λ ns cs. add_constant true g.limit ns e said cs) cells g else handed_back BadNumber g

        go : (b : Bool) → (changed_number (out b) ≡ 0 → ⊥) → (out b).group ≡ g
        go true =
            refusal-keeps (λ ns cs. add_constant true g.limit ns e said cs)
            (λ n z. ap (encode g.limit) (add_constant-keeps true g.limit (nodes cells) e said (decode g) z) ∙ coded n)
        go false = λ z. refl
