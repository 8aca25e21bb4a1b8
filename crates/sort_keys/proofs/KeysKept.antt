-- A refusal leaves every cell as it was, and the arena stays sound: over the functions that the contracts of the two calls on sort keys cite.
use Rattle.arena.specs.declared.Refusal.TheVariants.{UnknownExpression, ArenaFull, TooLarge}
use Rattle.arena.specs.Refusals.{Added, refusal, number_of}
use Rattle.std.specs.Prelude.{if◌then◌else◌, Err, Ok}
use Prim.Native.Nat.{ℕ, ◌<◌, ◌%◌}
use mathlib.Core.Bool.{Bool, true, false, ◌&&◌}
use mathlib.Core.List.{List}
use mathlib.Core.Path.{◌≡◌, refl, ◌∙◌}
use native.Mathlib.Omega.{arith}
use borrow.Author.Tests.{ltb-true}
use lib.Dec.{eqb, ltb, leb}
use lib.ListN.{length, get_or, length-map}
use Rattle.laws.specs.Tests.{each}
use Rattle.laws.proofs.Each.{each_holds}
use Rattle.arena.specs.Node.{Node}
use Rattle.arena.specs.Expression.{expressions, those}
use Rattle.arena.specs.Arena.{Sound, Extends, Placed, placed, full}
use Rattle.arena.specs.Layout.{lawful, decode as nodes}
use Rattle.arena.specs.Calls.{added_number}
use Rattle.arena.proofs.Growing.{add-expressions}
use Rattle.classes.specs.Class.{Class}
use Rattle.classes.specs.Good.{Good}
use Rattle.classes.specs.Layout.{decode, in_set}
use Rattle.classes.specs.Calls.{group_number}
use Rattle.classes.specs.declared.Group.{Group}
use Rattle.normal.specs.Normal.{normals}
use Rattle.normal.specs.Calls.{normalize_expr, normal_forms}
use Rattle.normal.proofs.NormalKept.{Kept, kept-none, kept-done, form-kept, checked-refusal, checked-lawful}
use Rattle.normal.proofs.NormalValue.{normal_forms-small}
use Rattle.sort_keys.specs.Keys.{Key, exprs_of, with_exprs, sorting}
use Rattle.sort_keys.specs.Layout.{keys_of, sorted, options_known}
use Rattle.sort_keys.specs.Calls.{SortedIs, key_is, normalize_sort_expr, key_number, normalized_key, sorted_by, normalize_sort_exprs, keys_number, normalized_keys, key_is_number}

-- a key has the number of its expression's answer
key-same_number : (options : ℕ) (a : Added) → key_is_number (key_is options a) ≡ added_number a
unfolding key_is
key-same_number options (Ok e) = refl
key-same_number options (Err k) = refl

-- the normal form of a sort key keeps the arena
pub key-kept : (e options : ℕ) (ns : List Node) (cs : List Class) → Sound ns → Good ns cs → Kept key_is_number ns (normalize_sort_expr e options ns cs)
unfolding normalize_sort_expr
key-kept e options ns cs s g =
    let k = form-kept e ns cs s g in
    record { sound = k.sound; extends = k.extends; refused = λ h. k.refused (λ z. h (key-same_number options (normalize_expr e ns cs).0 ∙ z)) }

-- document 01's number of an answer with keys
abbrev pub sorted_number : SortedIs → ℕ
sorted_number answer = number_of answer

-- the expressions of keys that pass the test are known
known-below : (ks : List Key) (n : ℕ) → each (λ k. ltb (get_or (exprs_of ks) k 0) n) (length ks) ≡ true → (k : ℕ) → k < length (exprs_of ks) → get_or (exprs_of ks) k 0 < n
unfolding exprs_of
known-below ks n t k l =
    let m : length (exprs_of ks) ≡ length ks = length-map ks (λ (k : Key). k.expr) in
    ltb-true (get_or (exprs_of ks) k 0) n (each_holds (λ k. ltb (get_or (exprs_of ks) k 0) n) (length ks) k t (omega arith))

-- keys whose normal forms were placed, or not
sorted-kept : (ks : List Key) (ns : List Node) (cs : List Class) → Sound ns → (p : Placed (List ℕ)) → ((es : List ℕ) (ms : List Node) → p ≡ placed es ms → Sound ms × Extends ns ms)
    → Kept sorted_number ns (sorted_by ks ns cs p)
unfolding sorted_by
sorted-kept ks ns cs s full h = kept-none sorted_number (Err ArenaFull) ns s
sorted-kept ks ns cs s (placed es ms) h = go (leb (length ks) 16)
  where
    go : (few : Bool) → Kept sorted_number ns (if few then (Ok (sorted (sorting ms cs (with_exprs es ks))), ms) else (Err TooLarge, ns))
    go true = kept-done sorted_number (Ok (sorted (sorting ms cs (with_exprs es ks)))) ns refl ms (h es ms refl).0 (h es ms refl).1
    go false = kept-none sorted_number (Err TooLarge) ns s

-- so do the normal forms of sort keys
pub keys_kept : (ks : List Key) (ns : List Node) (cs : List Class) → Sound ns → Good ns cs → Kept sorted_number ns (normalize_sort_exprs ks ns cs)
unfolding normalize_sort_exprs normal_forms
keys_kept ks ns cs s g = go (each (λ k. ltb (get_or (exprs_of ks) k 0) (length ns)) (length ks)) refl
  where
    go : (b : Bool) → each (λ k. ltb (get_or (exprs_of ks) k 0) (length ns)) (length ks) ≡ b
        → Kept sorted_number ns (if b then sorted_by ks ns cs (normal_forms ns cs (exprs_of ks)) else (Err UnknownExpression, ns))
    go true t =
        sorted-kept ks ns cs s (normal_forms ns cs (exprs_of ks))
        (λ es ms q. let m = add-expressions (normals ns cs (those (expressions ns) (exprs_of ks))) ns s (normal_forms-small (exprs_of ks) ns cs s g (known-below ks (length ns) t)) es ms q in
        (m.sound, m.extends))
    go false t = kept-none sorted_number (Err UnknownExpression) ns s

-- where options and group pass, the group passes
key-passed : (options : ℕ) (cells : List ℕ) (g : Group) → key_number options cells g ≡ 0 → group_number cells g ≡ 0
unfolding key_number
key-passed options cells g e = go (leb options 3) (group_number cells g) e
  where
    go : (b : Bool) (n : ℕ) → (if b then n else 12) ≡ 0 → n ≡ 0
    go true n e = e
    go false n e = absurd (omega arith)

-- where keys and group pass, the group passes
keys-passed : (numbers cells : List ℕ) (g : Group) → keys_number numbers cells g ≡ 0 → group_number cells g ≡ 0
unfolding keys_number
keys-passed numbers cells g e = go (options_known numbers && in_set g) (eqb (length numbers % 2) 0) (group_number cells g) e
  where
    go : (a b : Bool) (n : ℕ) → (if a then (if b then n else 11) else 12) ≡ 0 → n ≡ 0
    go true true n e = e
    go true false n e = absurd (omega arith)
    go false b n e = absurd (omega arith)

module _ (cells : List ℕ) (g : Group) where
  -- a refusal of the normal form of a sort key leaves every cell as it was, and an arena stays one
  pub key-refused : (e options : ℕ) → (key_is_number (normalized_key e options cells g).0 ≡ 0 → ⊥) → (normalized_key e options cells g).1 ≡ cells
  key-refused e options =
      checked-refusal key_is_number (key_number options cells g) (λ k. Err (refusal k)) (normalize_sort_expr e options) cells g (key-passed options cells g) (key-kept e options (nodes cells) (decode g))

  pub key-lawful : (e options : ℕ) → lawful cells ≡ true → lawful (normalized_key e options cells g).1 ≡ true
  key-lawful e options =
      checked-lawful key_is_number (key_number options cells g) (λ k. Err (refusal k)) (normalize_sort_expr e options) cells g (key-passed options cells g) (key-kept e options (nodes cells) (decode g))

  -- so for sort keys
  pub keys-refusal : (numbers : List ℕ) → (sorted_number (normalized_keys numbers cells g).0 ≡ 0 → ⊥) → (normalized_keys numbers cells g).1 ≡ cells
  keys-refusal numbers =
      checked-refusal sorted_number (keys_number numbers cells g) (λ k. Err (refusal k)) (normalize_sort_exprs (keys_of numbers)) cells g (keys-passed numbers cells g) (keys_kept (keys_of numbers) (nodes cells) (decode g))

  pub keys-lawful : (numbers : List ℕ) → lawful cells ≡ true → lawful (normalized_keys numbers cells g).1 ≡ true
  keys-lawful numbers =
      checked-lawful sorted_number (keys_number numbers cells g) (λ k. Err (refusal k)) (normalize_sort_exprs (keys_of numbers)) cells g (keys-passed numbers cells g) (keys_kept (keys_of numbers) (nodes cells) (decode g))
