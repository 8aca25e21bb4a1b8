-- Theorems on what the two calls answer and leave in the output: what is written, what stays, what a refusal is, which keys an answer has, and that what is written reads back.
-- The theorems are what is public, with the words that they are stated in; all else serves them.
use Rattle.std.specs.Prelude.{if◌then◌else◌, Result, Ok, Err}
use Prim.Native.Nat.{ℕ, zero, suc, ◌+◌, ◌*◌, ◌-◌, ◌<◌, ◌≤◌, ◌/◌}
use mathlib.Core.Bool.{Bool, true, false, ◌&&◌}
use mathlib.Core.List.{List, [], ◌∷◌, ◌++◌, append-nil, append_assoc}
use mathlib.Core.Logic.{◌⊎◌, inl, inr}
use mathlib.Core.Path.{◌≡◌, refl, sym, ap, ap₂, ◌∙◌, subst}
use native.Mathlib.Omega.{arith}
use borrow.Author.Tests.{leb-true, le-leb}
use lib.Dec.{eqb, ltb, leb}
use lib.ListN.{length, get_or, drop, length-append, length-drop}
use lib.Seq.{get_or_at, get_or-append-add, get_or-drop}
use Rattle.laws.specs.Tests.{each}
use Rattle.laws.proofs.Booleans.{and_left, and_right, and_both}
use Rattle.laws.proofs.Each.{each_all}
use Rattle.laws.proofs.Table.{table_is}
use Rattle.arena.specs.Layout.{count, lawful}
use Rattle.arena.specs.declared.Refusal.{Refusal}
use Rattle.arena.specs.declared.Refusal.TheVariants.{UnknownExpression, TooManyChildren, ArenaFull, GroupFull, TooLarge, UnknownKey, NoTarget, OutputShort, Malformed, IndexOutOfRange, BadState, BadNumber}
use Rattle.arena.specs.Refusals.{refusal_number, refusal, number_of}
use Rattle.arena.proofs.Refusals.{Listed, refused-number}
use Rattle.classes.specs.Group.{among}
use Rattle.classes.proofs.Places.{among-place, among-left, among-right, one-among}
use Rattle.orderings.specs.Ordering.{expr_of, options_of}
use Rattle.orderings.specs.Lists.{ordering_at}
use Rattle.orderings.proofs.OneOrdering.{NoneTwice}
use Rattle.reduction.specs.Lent.{key_count, expr_lent, options_lent, next_list, each_rest, each_end, each_next, each_list, options_known, whole, keys_lent, lists_rest, lists_end, lists-next, lists_lent}
use Rattle.sort_keys.specs.Layout.{none_cut, options_known as key_options_known}
use Rattle.dependencies.specs.Map.{Dependent}
use Rattle.dependencies.specs.Layout.{decode, lawful_map, keys_inside}
use Rattle.dependencies.specs.Calls.{map_number}
use Rattle.dependencies.specs.declared.DependencyMap.{DependencyMap}
use Rattle.enumeration.specs.Walk.{Walk, found, stopped, prefix_orderings}
use Rattle.enumeration.specs.Bounds.{fitting}
use Rattle.products.specs.Generate.{Lists, lists, stops, with_list, contributing, generated}
use Rattle.dependency_orderings.proofs.WrittenLaws.{numbers-length}
use Rattle.dependency_orderings.specs.Output.{numbers_of, written, written_all}
use Rattle.dependency_orderings.specs.Calls.{Answer, writes, answered, walk_answer, prefix_number, prefix_answer, generate_number, gathered_answer, different, generate_answer}
use Rattle.dependency_orderings.specs.declared.Enumerated.{Enumerated}
use Rattle.dependency_orderings.proofs.AnswerLaws.{prefix_number-listed, generate_number-listed}
use Rattle.enumeration_laws.proofs.Walked.{prefix-stops, contributing-stops, All, IsTarget, keys-are-targets, expressions-once}
use Rattle.enumeration_laws.proofs.Generated.{keys_from-lists, expressions-once as generated-once}

-- ---- what a call comes to

-- the numbers that a call can answer: 0, or a refusal's, in document 01's order
abbrev pub answer_numbers : List ℕ
answer_numbers = 0 ∷ 12 ∷ 11 ∷ 1 ∷ 6 ∷ 7 ∷ 5 ∷ 8 ∷ []

-- how many orderings an answer tells, and how many places they take: none beside a refusal
abbrev pub count_of : Result Enumerated Refusal → ℕ
count_of (Ok x) = x.count
count_of (Err why) = 0

abbrev pub used_of : Result Enumerated Refusal → ℕ
used_of (Ok x) = x.used
used_of (Err why) = 0

-- what a call comes to: orderings with a certain origin, written; or a refusal, with the output as it was
data Comes (Origin : List (List ℕ) → Type 0) (out : List ℕ) : Answer → Type 0 where
  wrote : (os : List (List ℕ)) → Origin os → fitting os ≡ true → length (written_all os) ≤ length out → Comes Origin out (writes os out)
  refused : (why : Refusal) → among (refusal_number why) answer_numbers ≡ true → Comes Origin out (Err why, out)

-- no refusal has number 0
some-number : (why : Refusal) → refusal_number why ≡ 0 → ⊥
some-number UnknownExpression z = omega arith
some-number TooManyChildren z = omega arith
some-number ArenaFull z = omega arith
some-number GroupFull z = omega arith
some-number TooLarge z = omega arith
some-number UnknownKey z = omega arith
some-number NoTarget z = omega arith
some-number OutputShort z = omega arith
some-number Malformed z = omega arith
some-number IndexOutOfRange z = omega arith
some-number BadState z = omega arith
some-number BadNumber z = omega arith

-- a check with a number that is refused
check_refused : (Origin : List (List ℕ) → Type 0) (out : List ℕ) (k : ℕ) → Listed k → eqb k 0 ≡ false → among k answer_numbers ≡ true → Comes Origin out (Err (refusal k), out)
check_refused Origin out k l q h = refused (refusal k) (ap (λ (n : ℕ). among n answer_numbers) (refused-number k l q) ∙ h)

-- what a walk stops with
walk_refused : (Origin : List (List ℕ) → Type 0) (out : List ℕ) (k : ℕ) → (k ≡ 6) ⊎ (k ≡ 7) → Comes Origin out (Err (refusal k), out)
unfolding among refusal
walk_refused Origin out k (inl e) = rw e (refused UnknownKey refl)
walk_refused Origin out k (inr e) = rw e (refused NoTarget refl)

-- the answer with some orderings
answered-comes : (Origin : List (List ℕ) → Type 0) (out : List ℕ) (os : List (List ℕ)) → Origin os → Comes Origin out (answered os out)
unfolding answered among
answered-comes Origin out os from = go (fitting os) (leb (length (written_all os)) (length out)) refl refl
  where
    go : (a b : Bool) → fitting os ≡ a → leb (length (written_all os)) (length out) ≡ b
        → Comes Origin out (if a then (if b then writes os out else (Err OutputShort, out)) else (Err TooLarge, out))
    go true true p q = wrote os from p (leb-true (length (written_all os)) (length out) q)
    go true false p q = refused OutputShort refl
    go false b p q = refused TooLarge refl

-- the number of a map's check is one of them
map-known : (cells : List ℕ) (m : DependencyMap) → among (map_number cells m) answer_numbers ≡ true
unfolding map_number among
map-known cells m = go (lawful cells && lawful_map m) (keys_inside (count cells) m)
  where
    go : (a b : Bool) → among (if a then (if b then 0 else 1) else 11) answer_numbers ≡ true
    go true true = refl
    go true false = refl
    go false b = refl

-- ---- prefix orderings

-- orderings are the prefix orderings of a key, by an account of the pairs that were expanded
pub record PrefixesOf (m : List Dependent) (k : ℕ) (os : List (List ℕ)) : Type 0 where
  pub account : List (ℕ × ℕ)
  pub are : prefix_orderings m k ≡ found os account

-- the number of the check is one of them
prefix-known : (cells : List ℕ) (m : DependencyMap) (e options : ℕ) → among (prefix_number cells m e options) answer_numbers ≡ true
unfolding prefix_number among
prefix-known cells m e options = go (leb options 3) (eqb (map_number cells m) 0) (ltb e (count cells))
  where
    go : (a b c : Bool) → among (if a then (if b then (if c then 0 else 1) else map_number cells m) else 12) answer_numbers ≡ true
    go true true true = refl
    go true true false = refl
    go true false c = map-known cells m
    go false b c = refl

-- the answer with what the walk came to
walk-comes : (m : List Dependent) (k : ℕ) (out : List ℕ) (w : Walk) → prefix_orderings m k ≡ w → Comes (PrefixesOf m k) out (walk_answer w out)
unfolding walk_answer
walk-comes m k out (stopped j) e = walk_refused (PrefixesOf m k) out j (prefix-stops m k j e)
walk-comes m k out (found os s) e = answered-comes (PrefixesOf m k) out os (record { account = s; are = e })

-- what the call on one key comes to
prefix-comes : (cells : List ℕ) (m : DependencyMap) (e options : ℕ) (out : List ℕ) → Comes (PrefixesOf (decode m) (e * 4 + options)) out (prefix_answer cells m e options out)
unfolding prefix_answer
prefix-comes cells m e options out = go (eqb n 0) refl
  where
    n : ℕ
    n = prefix_number cells m e options

    k : ℕ
    k = e * 4 + options

    go : (b : Bool) → eqb n 0 ≡ b → Comes (PrefixesOf (decode m) k) out (if b then walk_answer (prefix_orderings (decode m) k) out else (Err (refusal n), out))
    go true q = walk-comes (decode m) k out (prefix_orderings (decode m) k) refl
    go false q = check_refused (PrefixesOf (decode m) k) out n (prefix_number-listed cells m e options) q (prefix-known cells m e options)

-- ---- generated orderings

-- orderings are those that some keys generate: at most 16 keys, of which at most 6 contribute a list of prefix orderings
pub record GeneratedBy (m : List Dependent) (ks : List ℕ) (os : List (List ℕ)) : Type 0 where
  pub few-keys : length ks ≤ 16
  pub contributed : List (List (List ℕ))
  pub contribute : contributing m ks ≡ lists contributed
  pub few-lists : length contributed ≤ 6
  pub are : os ≡ generated contributed

-- the number of the check is one of them
generate_known : (cells : List ℕ) (m : DependencyMap) (numbers : List ℕ) → among (generate_number cells m numbers) answer_numbers ≡ true
unfolding generate_number among
generate_known cells m numbers =
    go (key_options_known numbers) (none_cut numbers) (eqb (map_number cells m) 0) (each (λ k. ltb (get_or numbers (2 * k) 0) (count cells)) (length numbers / 2))
  where
    go : (a b c d : Bool) → among (if a then (if b then (if c then (if d then 0 else 1) else map_number cells m) else 11) else 12) answer_numbers ≡ true
    go true true true true = refl
    go true true true false = refl
    go true true false d = map-known cells m
    go true false c d = refl
    go false b c d = refl

-- the answer with what the walks came to
gathered_comes : (m : List Dependent) (ks out : List ℕ) (x : Lists) → contributing m ks ≡ x → Comes (GeneratedBy m ks) out (gathered_answer x (length ks) out)
unfolding gathered_answer among
gathered_comes m ks out (stops j) e = walk_refused (GeneratedBy m ks) out j (contributing-stops m ks j e)
gathered_comes m ks out (lists ls) e = go (leb (length ks) 16 && leb (length ls) 6) refl
  where
    go : (b : Bool) → (leb (length ks) 16 && leb (length ls) 6) ≡ b
        → Comes (GeneratedBy m ks) out (if b then answered (generated ls) out else (Err TooLarge, out))
    go true q =
        answered-comes (GeneratedBy m ks) out (generated ls)
        (record { few-keys = leb-true (length ks) 16 (and_left (leb (length ks) 16) (leb (length ls) 6) q); contributed = ls; contribute = e; few-lists = leb-true (length ls) 6 (and_right (leb (length ks) 16) (leb (length ls) 6) q); are = refl })
    go false q = refused TooLarge refl

-- what the call on several keys comes to
generate_comes : (cells : List ℕ) (m : DependencyMap) (numbers out : List ℕ) → Comes (GeneratedBy (decode m) (different numbers)) out (generate_answer cells m numbers out)
unfolding generate_answer
generate_comes cells m numbers out = go (eqb n 0) refl
  where
    n : ℕ
    n = generate_number cells m numbers

    ks : List ℕ
    ks = different numbers

    go : (b : Bool) → eqb n 0 ≡ b → Comes (GeneratedBy (decode m) ks) out (if b then gathered_answer (contributing (decode m) ks) (length ks) out else (Err (refusal n), out))
    go true q = gathered_comes (decode m) ks out (contributing (decode m) ks) refl
    go false q = check_refused (GeneratedBy (decode m) ks) out n (generate_number-listed cells m numbers) q (generate_known cells m numbers)

-- ---- what is written, what stays, what a refusal is

-- an answer and the output afterwards: orderings with a certain origin, within the bounds, are written from the first place on; the answer tells how many they are and how many places they take; after them the output goes on as it was
pub record Written (Origin : List (List ℕ) → Type 0) (out : List ℕ) (r : Answer) : Type 0 where
  pub orderings : List (List ℕ)
  pub origin : Origin orderings
  pub fits : fitting orderings ≡ true
  pub counted : count_of r.0 ≡ length orderings
  pub places : used_of r.0 ≡ length (written_all orderings)
  pub room : used_of r.0 ≤ length out
  pub output : r.1 ≡ written_all orderings ++ drop (used_of r.0) out

-- what stays: the output has its length, and each place past those that are used is as it was
pub record RestKept (out : List ℕ) (r : Answer) : Type 0 where
  pub long : length r.1 ≡ length out
  pub kept : (i : ℕ) → used_of r.0 ≤ i → get_or r.1 i 0 ≡ get_or out i 0

-- a refusal: the output is as it was, no ordering is counted and no place is used
pub record Refused (out : List ℕ) (r : Answer) : Type 0 where
  pub unchanged : r.1 ≡ out
  pub none-counted : count_of r.0 ≡ 0
  pub none-used : used_of r.0 ≡ 0

-- what a call comes to with number 0
comes-written : (Origin : List (List ℕ) → Type 0) (out : List ℕ) (r : Answer) → Comes Origin out r → number_of r.0 ≡ 0 → Written Origin out r
unfolding writes
comes-written Origin out r (wrote os from f l) z = record { orderings = os; origin = from; fits = f; counted = refl; places = refl; room = l; output = refl }
comes-written Origin out r (refused why h) z = absurd (some-number why z)

-- and with another
comes-refused : (Origin : List (List ℕ) → Type 0) (out : List ℕ) (r : Answer) → Comes Origin out r → (number_of r.0 ≡ 0 → ⊥) → Refused out r
unfolding writes
comes-refused Origin out r (wrote os from f l) n = absurd (n refl)
comes-refused Origin out r (refused why h) z = record { unchanged = refl; none-counted = refl; none-used = refl }

-- and which it can be
comes-numbers : (Origin : List (List ℕ) → Type 0) (out : List ℕ) (r : Answer) → Comes Origin out r → among (number_of r.0) answer_numbers ≡ true
unfolding writes among
comes-numbers Origin out r (wrote os from f l) = refl
comes-numbers Origin out r (refused why h) = h

-- what is written leaves the rest
written_keeps : (Origin : List (List ℕ) → Type 0) (out : List ℕ) (r : Answer) → Written Origin out r → RestKept out r
written_keeps Origin out r w = record {
  long = ap (λ (l : List ℕ). length l) w.output ∙ omega (arith, length-append ws rest, length-drop n out, w.places, w.room);
  kept = λ i l.
      let e : i ≡ length ws + (i - n) = omega (arith, w.places) in
      let f : n + (i - n) ≡ i = omega arith in
      ap (λ (l : List ℕ). get_or l i 0) w.output ∙ ap (λ (k : ℕ). get_or (ws ++ rest) k 0) e ∙ get_or-append-add ws rest (i - n) 0
      ∙ get_or-drop n out (i - n) 0 ∙ ap (λ (k : ℕ). get_or out k 0) f;
}
  where
    n : ℕ
    n = used_of r.0

    ws : List ℕ
    ws = written_all w.orderings

    rest : List ℕ
    rest = drop n out

-- ---- the theorems on the calls

module _ (cells : List ℕ) (m : DependencyMap) (out : List ℕ) where
  -- where the number is 0, the prefix orderings of the key are written
  pub prefix-written : (e options : ℕ) → number_of (prefix_answer cells m e options out).0 ≡ 0 → Written (PrefixesOf (decode m) (e * 4 + options)) out (prefix_answer cells m e options out)
  prefix-written e options = comes-written (PrefixesOf (decode m) (e * 4 + options)) out (prefix_answer cells m e options out) (prefix-comes cells m e options out)

  -- where the number is 0, the orderings that the different keys among those given generate are written
  pub generate_written : (numbers : List ℕ) → number_of (generate_answer cells m numbers out).0 ≡ 0 → Written (GeneratedBy (decode m) (different numbers)) out (generate_answer cells m numbers out)
  generate_written numbers = comes-written (GeneratedBy (decode m) (different numbers)) out (generate_answer cells m numbers out) (generate_comes cells m numbers out)

  -- where the number is 0, the output has its length and each place past those that are used is as it was: of both calls
  pub rest-kept : ((e options : ℕ) → number_of (prefix_answer cells m e options out).0 ≡ 0 → RestKept out (prefix_answer cells m e options out))
      × ((numbers : List ℕ) → number_of (generate_answer cells m numbers out).0 ≡ 0 → RestKept out (generate_answer cells m numbers out))
  rest-kept = (
    (λ e options z. written_keeps (PrefixesOf (decode m) (e * 4 + options)) out (prefix_answer cells m e options out) (prefix-written e options z)),
    (λ numbers z. written_keeps (GeneratedBy (decode m) (different numbers)) out (generate_answer cells m numbers out) (generate_written numbers z)),
  )

  -- where the number is not 0, nothing is written and nothing reported
  pub prefix-refused : (e options : ℕ) → (number_of (prefix_answer cells m e options out).0 ≡ 0 → ⊥) → Refused out (prefix_answer cells m e options out)
  prefix-refused e options = comes-refused (PrefixesOf (decode m) (e * 4 + options)) out (prefix_answer cells m e options out) (prefix-comes cells m e options out)

  -- likewise with several keys
  pub generate_refused : (numbers : List ℕ) → (number_of (generate_answer cells m numbers out).0 ≡ 0 → ⊥) → Refused out (generate_answer cells m numbers out)
  generate_refused numbers = comes-refused (GeneratedBy (decode m) (different numbers)) out (generate_answer cells m numbers out) (generate_comes cells m numbers out)

  -- the number is 0, 12, 11, 1, 6, 7, 5 or 8
  pub prefix-numbers : (e options : ℕ) → among (number_of (prefix_answer cells m e options out).0) answer_numbers ≡ true
  prefix-numbers e options = comes-numbers (PrefixesOf (decode m) (e * 4 + options)) out (prefix_answer cells m e options out) (prefix-comes cells m e options out)

  -- likewise with several keys
  pub generate_numbers : (numbers : List ℕ) → among (number_of (generate_answer cells m numbers out).0) answer_numbers ≡ true
  generate_numbers numbers = comes-numbers (GeneratedBy (decode m) (different numbers)) out (generate_answer cells m numbers out) (generate_comes cells m numbers out)

-- ---- the keys of an answer

-- what is known of the keys of some orderings: each is a target of the map, and no ordering holds an expression twice
pub record KeysKnown (m : List Dependent) (os : List (List ℕ)) : Type 0 where
  pub targets : All (λ (o : List ℕ). (j : ℕ) → j < length o → IsTarget m (get_or o j 0)) os
  pub once : All NoneTwice os

-- it is known of prefix orderings
prefixes-known : (m : List Dependent) (k : ℕ) (os : List (List ℕ)) → PrefixesOf m k os → KeysKnown m os
prefixes-known m k os p = record {
  targets = (keys-are-targets m).prefix k os p.account p.are;
  once = λ j l. ((expressions-once m).prefix k os p.account p.are j l).0;
}

-- a list is that of the prefix orderings of one of some keys
pub record PrefixesOfOne (m : List Dependent) (ks : List ℕ) (os : List (List ℕ)) : Type 0 where
  pub key : ℕ
  pub is_one : among key ks ≡ true
  pub prefixes : PrefixesOf m key os

-- each of some lists is
abbrev pub AllPrefixes : List Dependent → List ℕ → List (List (List ℕ)) → Type 0
AllPrefixes m ks ls = (j : ℕ) → j < length ls → PrefixesOfOne m ks (get_or ls j [])

-- with one key more, the lists of the others are still
others_still : (m : List Dependent) (k : ℕ) (ks : List ℕ) (ls : List (List (List ℕ))) → AllPrefixes m ks ls → AllPrefixes m (k ∷ ks) ls
others_still m k ks ls a j l = let r = a j l in record { key = r.key; is_one = among-right r.key (k ∷ []) ks r.is_one; prefixes = r.prefixes }

-- and so is the key's own list before them
with_first : (m : List Dependent) (k : ℕ) (ks : List ℕ) (os : List (List ℕ)) (ls : List (List (List ℕ))) → PrefixesOf m k os → AllPrefixes m ks ls → AllPrefixes m (k ∷ ks) (os ∷ ls)
with_first m k ks os ls r a zero l = record { key = k; is_one = among-left k (k ∷ []) ks (one-among k); prefixes = r }
with_first m k ks os ls r a (suc j) l = others_still m k ks ls a j (omega arith)

-- the lists with what the walk of one more key came to
one_more : (m : List Dependent) (k : ℕ) (ks : List ℕ) (w : Walk) (x : Lists) → prefix_orderings m k ≡ w → ((ls : List (List (List ℕ))) → x ≡ lists ls → AllPrefixes m ks ls)
    → (ls : List (List (List ℕ))) → with_list w x ≡ lists ls → AllPrefixes m (k ∷ ks) ls
unfolding with_list
one_more m k ks (stopped i) x p h ls e = absurd (let z : ◌≡◌ {A = ℕ} 0 1 = cc in omega arith)
one_more m k ks (found [] s) x p h ls e = others_still m k ks ls (h ls e)
one_more m k ks (found (o ∷ os) s) (stops i) p h ls e = absurd (let z : ◌≡◌ {A = ℕ} 0 1 = cc in omega arith)
one_more m k ks (found (o ∷ os) s) (lists qs) p h ls e =
    let q : (o ∷ os) ∷ qs ≡ ls = cc in
    subst (AllPrefixes m (k ∷ ks)) q (with_first m k ks (o ∷ os) qs (record { account = s; are = p }) (h qs refl))

-- each list that contributes is that of the prefix orderings of one of the keys
pub lists-are-prefixes : (m : List Dependent) (ks : List ℕ) (ls : List (List (List ℕ))) → contributing m ks ≡ lists ls → AllPrefixes m ks ls
unfolding contributing
lists-are-prefixes m [] ls e = let q : [] ≡ ls = cc in subst (AllPrefixes m []) q (λ j l. absurd (omega arith))
lists-are-prefixes m (k ∷ ks) ls e = one_more m k ks (prefix_orderings m k) (contributing m ks) refl (lists-are-prefixes m ks) ls e

-- it is known of what such lists generate
generated-known : (m : List Dependent) (ks : List ℕ) (ls : List (List (List ℕ))) → AllPrefixes m ks ls → KeysKnown m (generated ls)
generated-known m ks ls a = record {
  targets = λ i l k b.
      let f = keys_from-lists ls i k l b in
      let p = among-place (get_or (ordering_at (generated ls) i) k 0) (ordering_at (get_or ls f.list []) f.place) f.has in
      subst (IsTarget m) p.2 ((known f.list f.list-below).targets f.place f.place-below p.0 p.1);
  once = generated-once ls (λ j l. (known j l).once);
}
  where
    known : (j : ℕ) → j < length ls → KeysKnown m (get_or ls j [])
    known j l = prefixes-known m (a j l).key (get_or ls j []) (a j l).prefixes

module _ (cells : List ℕ) (m : DependencyMap) (out : List ℕ) where
  -- every key of every prefix ordering that is written is a target of the map, and none of these orderings holds an expression twice
  pub prefix-keys : (e options : ℕ) (z : number_of (prefix_answer cells m e options out).0 ≡ 0) → KeysKnown (decode m) (prefix-written cells m out e options z).orderings
  prefix-keys e options z =
      let w = prefix-written cells m out e options z in
      prefixes-known (decode m) (e * 4 + options) w.orderings w.origin

  -- likewise of the generated orderings that are written
  pub generated-keys : (numbers : List ℕ) (z : number_of (generate_answer cells m numbers out).0 ≡ 0) → KeysKnown (decode m) (generate_written cells m out numbers z).orderings
  generated-keys numbers z =
      let w = generate_written cells m out numbers z in
      let g = w.origin in
      subst (KeysKnown (decode m)) (sym g.are) (generated-known (decode m) (different numbers) g.contributed (lists-are-prefixes (decode m) (different numbers) g.contributed g.contribute))

-- ---- reading back

-- the first is the key's expression
numbers-expr : (o rest : List ℕ) (k : ℕ) → k < length o → get_or (numbers_of o ++ rest) (2 * k) 0 ≡ expr_of (get_or o k 0)
unfolding numbers_of
numbers-expr [] rest k l = absurd (omega arith)
numbers-expr (x ∷ o) rest zero l = refl
numbers-expr (x ∷ o) rest (suc k) l =
    let e : 2 * suc k ≡ suc (suc (2 * k)) = omega arith in
    ap (λ (i : ℕ). get_or (numbers_of (x ∷ o) ++ rest) i 0) e ∙ numbers-expr o rest k (omega arith)

-- the second its options
numbers-options : (o rest : List ℕ) (k : ℕ) → k < length o → get_or (numbers_of o ++ rest) (2 * k + 1) 0 ≡ options_of (get_or o k 0)
unfolding numbers_of
numbers-options [] rest k l = absurd (omega arith)
numbers-options (x ∷ o) rest zero l = refl
numbers-options (x ∷ o) rest (suc k) l =
    let e : 2 * suc k + 1 ≡ suc (suc (2 * k + 1)) = omega arith in
    ap (λ (i : ℕ). get_or (numbers_of (x ∷ o) ++ rest) i 0) e ∙ numbers-options o rest k (omega arith)

-- a key from its expression and its options
key-again : (k : ℕ) → k ≡ expr_of k * 4 + options_of k
unfolding expr_of options_of
key-again k = omega arith

-- options are 0 to 3
options-few : (k : ℕ) → options_of k ≤ 3
unfolding options_of
options-few k = omega arith

-- an ordering that is written after some numbers, with more after it, is read at its place
module _ (before o : List ℕ) (os : List (List ℕ)) where
  -- all the numbers
  abbrev all : List ℕ
  all = before ++ written_all (o ∷ os)

  -- the ordering's place
  abbrev at : ℕ
  at = length before

  -- the ordering ends within them
  place-there : at + 1 + 2 * length o ≤ length all
  unfolding written_all written
  place-there = omega (arith, length-append before (written_all (o ∷ os)), length-append (numbers_of o) (written_all os), numbers-length o)

  -- its key count stands at its place
  count-read : key_count all at ≡ length o
  unfolding written_all written
  count-read = get_or_at before (length o) (numbers_of o ++ written_all os) 0 at refl

  -- the expression of each key stands after it
  expr-read : (k : ℕ) → k < length o → expr_lent all at k ≡ expr_of (get_or o k 0)
  unfolding written_all written
  expr-read k l =
      let e : at + 1 + 2 * k ≡ at + suc (2 * k) = omega arith in
      ap (λ (i : ℕ). get_or all i 0) e ∙ get_or-append-add before (written_all (o ∷ os)) (suc (2 * k)) 0 ∙ numbers-expr o (written_all os) k l

  -- and so do the options
  options-read : (k : ℕ) → k < length o → options_lent all at k ≡ options_of (get_or o k 0)
  unfolding written_all written
  options-read k l =
      let e : at + 2 + 2 * k ≡ at + suc (2 * k + 1) = omega arith in
      ap (λ (i : ℕ). get_or all i 0) e ∙ get_or-append-add before (written_all (o ∷ os)) (suc (2 * k + 1)) 0 ∙ numbers-options o (written_all os) k l

  -- so the keys are read
  keys-read : keys_lent all at ≡ o
  unfolding keys_lent
  keys-read =
      sym (table_is (λ k. expr_lent all at k * 4 + options_lent all at k) (key_count all at) o 0 (sym count-read)
      (λ k l. let b : k < length o = omega (arith, count-read) in key-again (get_or o k 0) ∙ rw (expr-read k b, options-read k b)))

  -- the next ordering stands directly after it
  next-read : next_list all at ≡ length (before ++ written o)
  unfolding next_list written
  next-read = omega (arith, count-read, length-append before (written o), numbers-length o)

  -- all is also what is before the next ordering, and the others after it
  all-again : all ≡ (before ++ written o) ++ written_all os
  unfolding written_all
  all-again = sym (append_assoc before (written o) (written_all os))

-- numbers in which, after some, orderings stand to the end
module _ (numbers : List ℕ) where
  -- past the last ordering the numbers end
  ends : (before : List ℕ) → numbers ≡ before ++ written_all [] → length numbers ≤ length before
  unfolding written_all
  ends before e = let l = ap (λ (l : List ℕ). length l) (e ∙ append-nil before) in omega arith

  -- one that is left is there
  there : (before o : List ℕ) (os : List (List ℕ)) → numbers ≡ before ++ written_all (o ∷ os) → length before < length numbers
  there before o os e = let l = ap (λ (l : List ℕ). length l) e in omega (arith, place-there before o os)

  -- and the next is directly after it
  next : (before o : List ℕ) (os : List (List ℕ)) → numbers ≡ before ++ written_all (o ∷ os) → next_list numbers (length before) ≡ length (before ++ written o)
  next before o os e = ap (λ (l : List ℕ). next_list l (length before)) e ∙ next-read before o os

  -- a test that passes at each ordering passes for all lists
  each_read : (p : ℕ → Bool) → ((before o : List ℕ) (os : List (List ℕ)) → numbers ≡ before ++ written_all (o ∷ os) → p (length before) ≡ true)
      → (before : List ℕ) (os : List (List ℕ)) → numbers ≡ before ++ written_all os → each_rest p numbers (length before) ≡ true
  each_read p h before [] e = each_end p numbers (length before) (ends before e)
  each_read p h before (o ∷ os) e =
      each_next p numbers (length before) (there before o os e)
      ∙ and_both (h before o os e) (ap (each_rest p numbers) (next before o os e) ∙ each_read p h (before ++ written o) os (e ∙ all-again before o os))

  -- the lists that are read are the orderings
  lists-read : (before : List ℕ) (os : List (List ℕ)) → numbers ≡ before ++ written_all os → lists_rest numbers (length before) ≡ os
  lists-read before [] e = lists_end numbers (length before) (ends before e)
  lists-read before (o ∷ os) e =
      lists-next numbers (length before) (there before o os e)
      ∙ ap₂ {C = List (List ℕ)} (λ k ks. k ∷ ks) (ap (λ (l : List ℕ). keys_lent l (length before)) e ∙ keys-read before o os)
      (ap (lists_rest numbers) (next before o os e) ∙ lists-read (before ++ written o) os (e ∙ all-again before o os))

  -- no count runs past the end
  whole-at : (before o : List ℕ) (os : List (List ℕ)) → numbers ≡ before ++ written_all (o ∷ os) → leb (next_list numbers (length before)) (length numbers) ≡ true
  unfolding next_list
  whole-at before o os e =
      subst (λ (l : List ℕ). leb (next_list l (length before)) (length l) ≡ true) (sym e)
      (le-leb (next_list (before ++ written_all (o ∷ os)) (length before)) (length (before ++ written_all (o ∷ os))) (omega (arith, place-there before o os, count-read before o os)))

  -- the options of each key are 0 to 3
  options-at : (before o : List ℕ) (os : List (List ℕ)) → numbers ≡ before ++ written_all (o ∷ os) → each (λ k. leb (options_lent numbers (length before) k) 3) (key_count numbers (length before)) ≡ true
  options-at before o os e =
      subst (λ (l : List ℕ). each (λ k. leb (options_lent l (length before) k) 3) (key_count l (length before)) ≡ true) (sym e)
      (each_all (λ k. leb (options_lent (before ++ written_all (o ∷ os)) (length before) k) 3) (key_count (before ++ written_all (o ∷ os)) (length before))
      (λ k l. le-leb (options_lent (before ++ written_all (o ∷ os)) (length before) k) 3 (omega (arith, options-read before o os k (omega (arith, count-read before o os)), options-few (get_or o k 0)))))

-- orderings that are written, read as lent lists of keys: every list is whole, every key's options are known, and the lists are the orderings
pub record ReadsBack (os : List (List ℕ)) : Type 0 where
  pub all_whole : whole (written_all os) ≡ true
  pub options-known : options_known (written_all os) ≡ true
  pub same : lists_lent (written_all os) ≡ os

-- whatever is written reads back, an ordering of no keys too: what is written can be lent as lists of keys as it stands
pub read_back : (os : List (List ℕ)) → ReadsBack os
unfolding whole options_known lists_lent each_list
read_back os =
    let ws : List ℕ = written_all os in
    record {
      all_whole = each_read ws (λ at. leb (next_list ws at) (length ws)) (whole-at ws) [] os refl;
      options-known = each_read ws (λ at. each (λ k. leb (options_lent ws at k) 3) (key_count ws at)) (options-at ws) [] os refl;
      same = lists-read ws [] os refl;
    }
