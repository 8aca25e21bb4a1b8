-- What the calls hand back that make a list from lent lists of keys. A refusal: its number and the list that was given. Else: a reduced list; and what is handed back passes the check again.
use Rattle.std.specs.Prelude.{if◌then◌else◌, Ok, Err}
use Rattle.arena.specs.declared.Refusal.{Refusal}
use Rattle.arena.specs.declared.Refusal.TheVariants.{UnknownExpression, TooManyChildren, ArenaFull, GroupFull, TooLarge, UnknownKey, NoTarget, OutputShort, Malformed, IndexOutOfRange, BadState, BadNumber}
use Rattle.arena.specs.Refusals.{refusal, refusal_number, number_of}
use Rattle.arena.proofs.Refusals.{refused-number}
use Rattle.orderings.proofs.Asking.{list_number-listed}
use Prim.Native.Nat.{ℕ, ◌<◌, ◌≤◌}
use mathlib.Core.Bool.{Bool, true, false}
use mathlib.Core.List.{List, [], ◌++◌}
use mathlib.Core.Path.{◌≡◌, refl, sym, ap, ◌∙◌, subst}
use native.Mathlib.Decide.{ℕ_discrete}
use native.Mathlib.Omega.{arith}
use borrow.Author.Tests.{eq-eqb, ne_eqb}
use lib.Dec.{eqb}
use lib.ListN.{length, take}
use lib.Seq.{length-take-le, get_or-take}
use Rattle.arena.specs.Layout.{count, lawful}
use Rattle.orderings.specs.Ordering.{expr_of, same_key, built}
use Rattle.orderings.specs.Lists.{ordering_at, built_all}
use Rattle.reduction.specs.Reduction.{reduced}
use Rattle.orderings.specs.Good.{Good}
use Rattle.reduction.specs.Apart.{Apart}
use Rattle.reduction.specs.Lent.{key_count, options_known, exprs_inside, lists_lent}
use Rattle.orderings.specs.Layout.{encode, decode}
use Rattle.orderings.specs.Calls.{list_number, ask_list, fits, clear_answer}
use Rattle.reduction.specs.Calls.{reduced_list, lent_number, add_answer, new_answer, extend_number, extend_answer}
use Rattle.orderings.specs.declared.Orderings.{Orderings}
use Rattle.orderings.specs.declared.Listed.{Listed}
use Rattle.orderings.proofs.Codec.{decode-encode, good-held}
use Rattle.orderings.proofs.OneOrdering.{NoneTwice, built-none_twice}
use Rattle.reduction.proofs.Kept.{reduced-good, reduced-cuts}
use Rattle.ordering_laws.proofs.Reduces.{cuts-each, reduced-apart}
use Rattle.orderings.proofs.Appending.{append-all, told}
use Rattle.orderings.proofs.ListChecks.{Sized}
use Rattle.orderings.proofs.ListHeld.{Known, Lent, number-lawful, number-held, held_number}
use Rattle.ordering_laws.proofs.ListValid.{KnownIn, extended-known, Valid, AllValid, valid_good, good_valid}
use Rattle.reduction.proofs.LentLaws.{OptionsAt, ExprsAt, lent-each, length-keys, expr-lent, exprs-of, lent-options, lent-exprs, extend-lent, extend-orderings}
use Rattle.reduction.proofs.Adding.{built-each, built-lent, reduced-fits, reduced-not}

-- no orderings: a good list, and one that passes beside any lawful arena
none-good : Good []
none-good = record { few = omega arith; each = λ i l. absurd (omega arith) }

none-known : (n : ℕ) → Known n []
none-known n i k a b = absurd (omega arith)

none_passes : (cells : List ℕ) → lawful cells ≡ true → list_number cells (encode []) ≡ 0
none_passes cells w = held_number cells w [] none-good (none-known (count cells))

none_lent : (cells : List ℕ) → Lent cells (encode [])
none_lent cells = record { held = good-held [] none-good; known = subst (Known (count cells)) (sym (decode-encode [])) (none-known (count cells)) }

-- no refusal has number 0
refusal-some : (e : Refusal) → refusal_number e ≡ 0 → ⊥
refusal-some UnknownExpression h = omega arith
refusal-some TooManyChildren h = omega arith
refusal-some ArenaFull h = omega arith
refusal-some GroupFull h = omega arith
refusal-some TooLarge h = omega arith
refusal-some UnknownKey h = omega arith
refusal-some NoTarget h = omega arith
refusal-some OutputShort h = omega arith
refusal-some Malformed h = omega arith
refusal-some IndexOutOfRange h = omega arith
refusal-some BadState h = omega arith
refusal-some BadNumber h = omega arith

-- the answer of a call that reduces, after a check that told k
abbrev reduced_or : Orderings → ℕ → List (List ℕ) → Listed
reduced_or g k os = if eqb k 0 then reduced_list g os else told (Err (refusal k)) g

-- what it can be
data Came (g : Orderings) (k : ℕ) (os : List (List ℕ)) : Listed → Type 0 where
  refused : (e : Refusal) → Came g k os (told (Err e) g)
  done : k ≡ 0 → fits os ≡ true → Came g k os (told (Ok tt) (encode (reduced same_key os).orderings))

module _ (g : Orderings) (k : ℕ) (os : List (List ℕ)) where
  came : Came g k os (reduced_or g k os)
  came = at (ℕ_discrete k 0) (fits os) refl
    where
      at : Dec (k ≡ 0) → (b : Bool) → fits os ≡ b → Came g k os (reduced_or g k os)
      at (yes z) true f = subst (Came g k os) (sym (rw (eq-eqb k 0 z) (reduced-fits g os f))) (done z f)
      at (yes z) false f = subst (Came g k os) (sym (rw (eq-eqb k 0 z) (reduced-not g os f))) (refused TooLarge)
      at (no z) b f = rw (ne_eqb k 0 z) (refused (refusal k))

  given : {r : Listed} → Came g k os r → (number_of r.done ≡ 0 → ⊥) → r.list ≡ g
  given (refused n) h = refl
  given (done z f) h = absurd (h refl)

  apart : {r : Listed} → Came g k os r → number_of r.done ≡ 0 → Apart same_key (decode r.list)
  apart (refused n) h = absurd (refusal-some n h)
  apart (done z f) h = subst (Apart same_key) (sym (decode-encode (reduced same_key os).orderings)) (reduced-apart same_key os)

  module _ (cells : List ℕ) (w : lawful cells ≡ true) (e : list_number cells g ≡ 0) where
    reduced-known : Known (count cells) os → Known (count cells) (reduced same_key os).orderings
    reduced-known h i j a b =
        cuts-each same_key (KnownIn (count cells)) begins (reduced-cuts same_key os) (λ i l k c. h i k l c) i a j b
      where
        begins : (o : List ℕ) (n : ℕ) → KnownIn (count cells) o → 0 < n → n ≤ length o → KnownIn (count cells) (take n o)
        begins o n h a b i l = let c = length-take-le n o b in subst (λ (x : ℕ). expr_of x < count cells) (sym (get_or-take n o i 0 (omega arith))) (h i (omega arith))

    passes : {r : Listed} → Came g k os r → (k ≡ 0 → AllValid (count cells) os) → list_number cells r.list ≡ 0
    passes (refused n) v = e
    passes (done z f) v =
        held_number cells w (reduced same_key os).orderings (reduced-good same_key os (valid_good (count cells) os (v z) f)) (reduced-known (λ i j a b. (v z i a).known j b))

-- clearing
module _ (cells : List ℕ) (g : Orderings) where
  abbrev clear_by : Bool → Listed
  clear_by p = if p then told (Ok tt) (encode []) else told (Err (refusal (list_number cells g))) g

  pub clear-number : number_of (clear_answer cells g).done ≡ list_number cells g
  unfolding clear_answer ask_list
  clear-number = at (ℕ_discrete (list_number cells g) 0)
    where
      at : Dec (list_number cells g ≡ 0) → number_of (clear_by (eqb (list_number cells g) 0)).done ≡ list_number cells g
      at (yes z) = rw (eq-eqb (list_number cells g) 0 z) (sym z)
      at (no z) = rw (ne_eqb (list_number cells g) 0 z) (refused-number (list_number cells g) (list_number-listed cells g) (ne_eqb (list_number cells g) 0 z))

  pub clear-refused : (number_of (clear_answer cells g).done ≡ 0 → ⊥) → (clear_answer cells g).list ≡ g
  unfolding clear_answer ask_list
  clear-refused h = rw (ne_eqb (list_number cells g) 0 (λ z. h (clear-number ∙ z)))

  pub clear-done : number_of (clear_answer cells g).done ≡ 0 → (clear_answer cells g).list ≡ encode []
  unfolding clear_answer ask_list
  clear-done h = rw (eq-eqb (list_number cells g) 0 (sym clear-number ∙ h))

  pub clear-passes : list_number cells g ≡ 0 → list_number cells (clear_answer cells g).list ≡ 0
  clear-passes z = ap (list_number cells) (clear-done (clear-number ∙ z)) ∙ none_passes cells (number-lawful cells g z)

-- a list that passes with built orderings after it: a valid ordering each
module _ (cells : List ℕ) (g : Orderings) (numbers : List ℕ) (w : Lent cells g) where
  keys-known : lent_number cells g numbers ≡ 0 → (i : ℕ) → i < length (lists_lent numbers) → KnownIn (count cells) (ordering_at (lists_lent numbers) i)
  unfolding options_known exprs_inside
  keys-known z =
      lent-each numbers (KnownIn (count cells)) (OptionsAt numbers) (ExprsAt (count cells) numbers)
      (λ at o e k l. let b : k < key_count numbers at = omega (arith, length-keys numbers at) in
      omega (arith, expr-lent numbers at o k b, exprs-of numbers at (count cells) e k b))
      (lent-options cells g numbers z) (lent-exprs cells g numbers z)

  built-known : (ks : List ℕ) → KnownIn (count cells) ks → KnownIn (count cells) (built ks)
  unfolding built
  built-known ks h = extended-known (count cells) [] ks (λ k l. absurd (omega arith)) h

  added_valid : lent_number cells g numbers ≡ 0 → AllValid (count cells) (decode g ++ built_all (lists_lent numbers))
  added_valid z =
      append-all (Valid (count cells)) (decode g) (built_all (lists_lent numbers)) (good_valid (count cells) (decode g) w.held.good w.known)
      (λ i l. let v = built-each (λ (o : List ℕ). NoneTwice o × KnownIn (count cells) o) (lists_lent numbers)
      (λ j b. (built-none_twice (ordering_at (lists_lent numbers) j), built-known (ordering_at (lists_lent numbers) j) (keys-known z j b))) i l in
      record { filled = v.0; distinct = v.1.0; known = v.1.1 })

  extended_valid : extend_number cells g numbers ≡ 0 → AllValid (count cells) (decode g ++ lists_lent numbers)
  extended_valid z =
      let y = extend-lent cells g numbers z in
      subst (λ (t : List (List ℕ)). AllValid (count cells) (decode g ++ t)) (built-lent numbers (lent-options cells g numbers y) (extend-orderings cells g numbers z)) (added_valid y)

-- adding, a new list, and extending
module _ (cells : List ℕ) (g : Orderings) (numbers : List ℕ) where
  came-added : Came g (lent_number cells g numbers) (decode g ++ built_all (lists_lent numbers)) (add_answer cells g numbers)
  unfolding add_answer
  came-added = came g (lent_number cells g numbers) (decode g ++ built_all (lists_lent numbers))

  came-extended : Came g (extend_number cells g numbers) (decode g ++ lists_lent numbers) (extend_answer cells g numbers)
  unfolding extend_answer
  came-extended = came g (extend_number cells g numbers) (decode g ++ lists_lent numbers)

  -- beside a refusal the list that was given
  pub add-refused : (number_of (add_answer cells g numbers).done ≡ 0 → ⊥) → (add_answer cells g numbers).list ≡ g
  add-refused = given g (lent_number cells g numbers) (decode g ++ built_all (lists_lent numbers)) came-added

  pub extend-refused : (number_of (extend_answer cells g numbers).done ≡ 0 → ⊥) → (extend_answer cells g numbers).list ≡ g
  extend-refused = given g (extend_number cells g numbers) (decode g ++ lists_lent numbers) came-extended

  -- else a reduced list: no nonempty suffix of one ordering is a prefix of another
  pub add_apart : number_of (add_answer cells g numbers).done ≡ 0 → Apart same_key (decode (add_answer cells g numbers).list)
  add_apart = apart g (lent_number cells g numbers) (decode g ++ built_all (lists_lent numbers)) came-added

  pub extend-apart : number_of (extend_answer cells g numbers).done ≡ 0 → Apart same_key (decode (extend_answer cells g numbers).list)
  extend-apart = apart g (extend_number cells g numbers) (decode g ++ lists_lent numbers) came-extended

  -- what is handed back passes the check again, refused or not
  lent-passes : Lent cells g → list_number cells g ≡ 0 → list_number cells (add_answer cells g numbers).list ≡ 0
  lent-passes w z = passes g (lent_number cells g numbers) (decode g ++ built_all (lists_lent numbers)) cells (number-lawful cells g z) z came-added (added_valid cells g numbers w)

  pub add-passes : Sized g → list_number cells g ≡ 0 → list_number cells (add_answer cells g numbers).list ≡ 0
  add-passes s z = lent-passes (number-held cells g s z) z

  pub extend-passes : Sized g → list_number cells g ≡ 0 → list_number cells (extend_answer cells g numbers).list ≡ 0
  extend-passes s z =
      passes g (extend_number cells g numbers) (decode g ++ lists_lent numbers) cells (number-lawful cells g z) z came-extended (extended_valid cells g numbers (number-held cells g s z))

module _ (cells numbers : List ℕ) where
  pub new-refused : (number_of (new_answer cells numbers).done ≡ 0 → ⊥) → (new_answer cells numbers).list ≡ encode []
  new-refused = add-refused cells (encode []) numbers

  pub new_apart : number_of (new_answer cells numbers).done ≡ 0 → Apart same_key (decode (new_answer cells numbers).list)
  new_apart = add_apart cells (encode []) numbers

  pub new-passes : lawful cells ≡ true → list_number cells (new_answer cells numbers).list ≡ 0
  new-passes w = lent-passes cells (encode []) numbers (none_lent cells) (none_passes cells w)
