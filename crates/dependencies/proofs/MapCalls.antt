-- What is given to a call, and the answers of an insert by the check of what it is lent and given.
use Prim.Native.Nat.{ℕ, ◌+◌, ◌*◌, ◌<◌, ◌≤◌}
use mathlib.Core.Bool.{Bool, true, false, ◌&&◌}
use mathlib.Core.List.{List, []}
use Rattle.std.specs.Prelude.{if◌then◌else◌, Option, None, Some, Ok, Err}
use mathlib.Core.Path.{◌≡◌, refl, sym, ap, ◌∙◌}
use native.Mathlib.Omega.{arith}
use borrow.Author.Tests.{leb-true, ltb-true, lt-ltb, eqb-true, eq-eqb}
use lib.Dec.{eqb, ltb, leb}
use Rattle.laws.proofs.Booleans.{true_not_false, and_left, and_right}
use Rattle.arena.specs.Layout.{count, lawful}
use Rattle.arena.specs.declared.Refusal.{Refusal}
use Rattle.arena.specs.Refusals.{refusal, outcome}
use Rattle.arena.proofs.Refusals.{ok-zero, err-refusal, Listed, listed-if}
use Rattle.arena.proofs.Layouts.{lawful-holds}
use Rattle.dependencies.specs.Map.{inserted}
use Rattle.dependencies.specs.Layout.{is_there, number_or0, row, unused, decode, lawful_map, keys_inside}
use Rattle.dependencies.specs.Calls.{map_number, options_known, given_below, key_of, insert_number, judged, insert_answer}
use Rattle.dependencies.specs.Inner.{Held}
use Rattle.dependencies.specs.declared.DependencyNode.{DependencyNode}
use Rattle.dependencies.specs.declared.DependencyMap.{DependencyMap}
use Rattle.dependencies.specs.declared.Key.{Key}
use Rattle.dependencies.specs.declared.Inserted.{Inserted}
use Rattle.dependencies.proofs.MapChecks.{number-lawful, number-arena}
use Rattle.dependencies.proofs.MapCodec.{Sized, held-lawful}

-- a key that is given, as one number
module _ (g : Option Key) (k : Key) (q : g ≡ Some k) where
  pub key-given : (n : ℕ) → n ≡ k.expr * 4 + k.options → Some n ≡ key_of g
  unfolding key_of
  key-given n p = ap {B = Option ℕ} Some p ∙ sym (ap key_of q)

  -- it is within the bounds of a key
  pub key-bounds : (options_known g ≡ true) × (given_below 1024 g ≡ true) → (k.expr < 1024) × (k.options ≤ 3)
  unfolding options_known given_below
  key-bounds p = (ltb-true k.expr 1024 (sym (ap (given_below 1024) q) ∙ p.1), leb-true k.options 3 (sym (ap options_known q) ∙ p.0))

  -- a new entry with this target
  pub fresh-projected : (key n : ℕ) (r : DependencyNode) → r ≡ unused → n ≡ k.expr * 4 + k.options
      → ◌≡◌ {A = DependencyNode} (record { key = key; projected = true; target = n; size = r.size; dependencies = r.dependencies }) (row (record { key = key; target = key_of g; dependencies = [] }))
  unfolding row is_there number_or0
  fresh-projected key n r p s =
      ap (λ (x : DependencyNode). record { key = key; projected = true; target = n; size = x.size; dependencies = x.dependencies }) p
      ∙ ap (λ (o : Option ℕ). row (record { key = key; target = o; dependencies = [] })) (key-given n s)

-- no key is given
module _ (g : Option Key) (q : g ≡ None) where
  pub key-none : None ≡ key_of g
  unfolding key_of
  key-none = sym (ap key_of q)

  pub fresh-bare : (key : ℕ) (r : DependencyNode) → r ≡ unused
      → ◌≡◌ {A = DependencyNode} (record { key = key; projected = r.projected; target = r.target; size = r.size; dependencies = r.dependencies }) (row (record { key = key; target = key_of g; dependencies = [] }))
  unfolding row is_there number_or0
  fresh-bare key r p =
      ap (λ (x : DependencyNode). record { key = key; projected = x.projected; target = x.target; size = x.size; dependencies = x.dependencies }) p
      ∙ ap (λ (o : Option ℕ). row (record { key = key; target = o; dependencies = [] })) key-none

-- what is below a number is below a larger one
pub below_wider : (g : Option Key) (n m : ℕ) → n ≤ m → given_below n g ≡ true → given_below m g ≡ true
unfolding given_below
below_wider (Some k) n m l h = let b = ltb-true k.expr n h in lt-ltb k.expr m (omega arith)
below_wider None n m l h = refl

-- a number that is 0 comes after tests that passed
passed : (a b : Bool) (n : ℕ) → ◌≡◌ {A = ℕ} (if a then (if eqb n 0 then (if b then 0 else 1) else n) else 12) 0 → (a ≡ true) × (n ≡ 0) × (b ≡ true)
passed false b n h = absurd (omega arith)
passed true b n h = go (eqb n 0) b refl h
  where
    go : (d c : Bool) → eqb n 0 ≡ d → ◌≡◌ {A = ℕ} (if d then (if c then 0 else 1) else n) 0 → (true ≡ true) × (n ≡ 0) × (c ≡ true)
    go true true e z = (refl, eqb-true n 0 e, refl)
    go true false e z = absurd (omega arith)
    go false c e z = absurd (true_not_false (eq-eqb n 0 z) e)

-- the answers of an insert
module _ (cells : List ℕ) (m : DependencyMap) (e options : ℕ) (target dependency : Option Key) where
  abbrev number : ℕ
  number = insert_number cells m e options target dependency

  abbrev options_test : Bool
  options_test = leb options 3 && options_known target && options_known dependency

  abbrev exprs_test : Bool
  exprs_test = ltb e (count cells) && given_below (count cells) target && given_below (count cells) dependency

  pub insert-tests : number ≡ 0 → (options_test ≡ true) × (map_number cells m ≡ 0) × (exprs_test ≡ true)
  unfolding insert_number
  insert-tests h = passed options_test exprs_test (map_number cells m) h

  -- what is refused
  pub insert-refused : (r : Inserted) (why : Refusal) → outcome number ≡ Err why → r ≡ record { done = Err why; map = m } → r ≡ insert_answer cells m e options target dependency
  unfolding insert_answer
  insert-refused r why h q =
      let p = err-refusal number why h in
      q ∙ rw (p.0) (ap (λ (x : Refusal). record { done = Err x; map = m }) p.1)

  -- what passes
  module _ (h : outcome number ≡ Ok tt) where
    zero : number ≡ 0
    zero = eqb-true number 0 (ok-zero number h)

    pub insert-passed : (r : Inserted) → r ≡ judged m (inserted (decode m) (e * 4 + options) (key_of target) (key_of dependency)) → r ≡ insert_answer cells m e options target dependency
    unfolding insert_answer
    insert-passed r q = rw (ok-zero number h) q

    few-exprs : count cells ≤ 1024
    few-exprs = (lawful-holds cells (number-arena cells m (insert-tests zero).1)).few

    -- is what the function inside asks for
    pub insert-asks : Sized m → (Held m × ((e < 1024) × (options ≤ 3))) × (((options_known target ≡ true) × (given_below 1024 target ≡ true)) × ((options_known dependency ≡ true) × (given_below 1024 dependency ≡ true)))
    insert-asks z =
        let t = insert-tests zero in
        let o = and_left (leb options 3 && options_known target) (options_known dependency) t.0 in
        let x = and_left (ltb e (count cells) && given_below (count cells) target) (given_below (count cells) dependency) t.2 in
        let b : e < count cells = ltb-true e (count cells) (and_left (ltb e (count cells)) (given_below (count cells) target) x) in (
          (held-lawful m z (number-lawful cells m t.1), (omega (arith, few-exprs), leb-true options 3 (and_left (leb options 3) (options_known target) o))),
          (
            (and_right (leb options 3) (options_known target) o, below_wider target (count cells) 1024 few-exprs (and_right (ltb e (count cells)) (given_below (count cells) target) x)),
            (and_right (leb options 3 && options_known target) (options_known dependency) t.0, below_wider dependency (count cells) 1024 few-exprs (and_right (ltb e (count cells) && given_below (count cells) target) (given_below (count cells) dependency) t.2)),
          ),
        )

-- the numbers of the checks stand in the table
pub map_number-listed : (cells : List ℕ) (m : DependencyMap) → Listed (map_number cells m)
unfolding map_number outcome refusal
map_number-listed cells m =
    listed-if (lawful cells && lawful_map m) (if keys_inside (count cells) m then 0 else 1) 11 (listed-if (keys_inside (count cells) m) 0 1 refl refl) refl

pub insert_number-listed : (cells : List ℕ) (m : DependencyMap) (e options : ℕ) (target dependency : Option Key) → Listed (insert_number cells m e options target dependency)
unfolding insert_number outcome refusal
insert_number-listed cells m e options target dependency =
    listed-if (leb options 3 && options_known target && options_known dependency) (if eqb (map_number cells m) 0 then (if x then 0 else 1) else map_number cells m) 12
    (listed-if (eqb (map_number cells m) 0) (if x then 0 else 1) (map_number cells m) (listed-if x 0 1 refl refl) (map_number-listed cells m)) refl
  where
    x : Bool
    x = ltb e (count cells) && given_below (count cells) target && given_below (count cells) dependency
