-- What the calls on a list hand back. A refusal: its number, and where a list is handed back the one that was given. Else: orderings without a repeated or unknown expression, and so a list that passes the check again.
use Rattle.std.specs.Prelude.{if◌then◌else◌, Option, Result, Ok, Err}
use Prim.Native.Nat.{ℕ, suc, ◌<◌}
use mathlib.Core.Bool.{Bool, true, false}
use mathlib.Core.List.{List, [], ◌∷◌, ◌++◌}
use mathlib.Core.Path.{◌≡◌, refl, sym, ap, subst, ◌∙◌}
use native.Mathlib.Decide.{dec_lt}
use native.Mathlib.Omega.{arith}
use borrow.Author.Tests.{eq-eqb, leb-true}
use lib.Dec.{eqb, ltb, leb}
use lib.ListN.{length, get_or, length-append, get_or-append}
use lib.Seq.{get_or_at}
use Rattle.laws.specs.Tests.{each}
use Rattle.laws.proofs.Booleans.{and_left, and_right}
use Rattle.laws.proofs.Each.{each_holds}
use Rattle.arena.specs.Layout.{count, lawful}
use Rattle.orderings.specs.Ordering.{expr_of, has_expr, pushed, extended}
use Rattle.orderings.specs.Lists.{ordering_at, extended_all, output_ordering, join_suffix}
use Rattle.ordering_questions.specs.Questions.{get_options, partial_const}
use Rattle.orderings.specs.Good.{Good}
use Rattle.orderings.specs.Layout.{row, encode, decode, lawful_list, keys_inside}
use Rattle.orderings.specs.Calls.{list_number, two_number, fits, ask_list, listed}
use Rattle.ordering_questions.specs.Calls.{options_answer, options_number, partial_answer, partial_number}
use Rattle.ordering_joins.specs.Calls.{output_of, output_answer, join_answer}
use Rattle.orderings.specs.declared.Orderings.{Orderings}
use Rattle.orderings.specs.declared.Listed.{Listed}
use Rattle.orderings.specs.declared.Ordering.{Ordering}
use Rattle.arena.specs.declared.Refusal.{Refusal}
use Rattle.arena.specs.declared.Refusal.TheVariants.{UnknownExpression, TooManyChildren, ArenaFull, GroupFull, TooLarge, UnknownKey, NoTarget, OutputShort, Malformed, IndexOutOfRange, BadState, BadNumber}
use Rattle.arena.specs.Refusals.{refusal, refusal_number, number_of}
use Rattle.arena.proofs.Refusals.{refused-number}
use Rattle.orderings.proofs.Asking.{list_number-listed, two_number-listed}
use Rattle.orderings.proofs.Appending.{told}
use Rattle.orderings.proofs.ListChecks.{Sized, three}
use Rattle.orderings.proofs.ListHeld.{Known, two-tests, two-lawful, two-held, held_number}
use Rattle.ordering_joins.proofs.Suffixes.{join_suffix-all}
use Rattle.orderings.proofs.OneOrdering.{NoneTwice, pushed-there, pushed-new, extended-none_twice, extended-begins}

-- the check's number, or the call's where the check passes
abbrev pub checked_or : ℕ → ℕ → ℕ
checked_or check call = if eqb check 0 then call else check

-- the refusal with the number of a refusal is it
refusal-is : (e : Refusal) → refusal (refusal_number e) ≡ e
unfolding refusal
refusal-is UnknownExpression = refl
refusal-is TooManyChildren = refl
refusal-is ArenaFull = refl
refusal-is GroupFull = refl
refusal-is TooLarge = refl
refusal-is UnknownKey = refl
refusal-is NoTarget = refl
refusal-is OutputShort = refl
refusal-is Malformed = refl
refusal-is IndexOutOfRange = refl
refusal-is BadState = refl
refusal-is BadNumber = refl

-- a refusal is its number alone
pub number-refused : {A : Type 0} (a : Result A Refusal) → (number_of a ≡ 0 → ⊥) → a ≡ Err (refusal (number_of a))
number-refused (Ok x) h = absurd (h refl)
number-refused (Err e) h = ap Err (sym (refusal-is e))

-- the joined ordering: its number, and beside a refusal no ordering
module _ (cells : List ℕ) (g : Orderings) where
  -- the answer, by the check and by the bound
  abbrev output_by : Bool → Bool → Result Ordering Refusal
  output_by p q = if p then (if q then Ok (row (output_ordering (decode g))) else Err TooLarge) else Err (refusal (list_number cells g))

  pub output-number : number_of (output_answer cells g) ≡ checked_or (list_number cells g) (if leb (length (output_ordering (decode g))) 16 then 0 else 5)
  unfolding ask_list output_of
  output-number = go (eqb (list_number cells g) 0) refl (leb (length (output_ordering (decode g))) 16)
    where
      go : (p : Bool) → eqb (list_number cells g) 0 ≡ p → (q : Bool) → number_of (output_by p q) ≡ (if p then (if q then 0 else 5) else list_number cells g)
      go true e true = refl
      go true e false = refl
      go false e q = refused-number (list_number cells g) (list_number-listed cells g) e

  pub output-refused : (number_of (output_answer cells g) ≡ 0 → ⊥) → output_answer cells g ≡ Err (refusal (number_of (output_answer cells g)))
  output-refused = number-refused (output_answer cells g)

-- joining: its number, and beside a refusal the list that was given
abbrev joined : Orderings → Orderings → List (List ℕ)
joined g h = join_suffix (decode g) (decode h)

module _ (cells : List ℕ) (g h : Orderings) where
  -- the answer, by the check and by the bounds
  abbrev join_by : Bool → Bool → Listed
  join_by p q = if p then (if q then told (Ok tt) (encode (joined g h)) else told (Err TooLarge) g) else told (Err (refusal (two_number cells g h))) g

  pub join-number : number_of (join_answer cells g h).done ≡ checked_or (two_number cells g h) (if fits (joined g h) then 0 else 5)
  unfolding join_answer listed
  join-number = go (eqb (two_number cells g h) 0) refl (fits (joined g h))
    where
      go : (p : Bool) → eqb (two_number cells g h) 0 ≡ p → (q : Bool) → number_of (join_by p q).done ≡ (if p then (if q then 0 else 5) else two_number cells g h)
      go true e true = refl
      go true e false = refl
      go false e q = refused-number (two_number cells g h) (two_number-listed cells g h) e

  pub join-refused : (number_of (join_answer cells g h).done ≡ 0 → ⊥) → (join_answer cells g h).list ≡ g
  unfolding join_answer listed
  join-refused = go (eqb (two_number cells g h) 0) (fits (joined g h))
    where
      go : (p q : Bool) → (number_of (join_by p q).done ≡ 0 → ⊥) → (join_by p q).list ≡ g
      go true true n = absurd (n refl)
      go true false n = refl
      go false q n = refl

-- the two questions: their numbers, and a refusal is its number alone
module _ (cells : List ℕ) (g : Orderings) (e : ℕ) where
  pub options-number : options_number (ask_list (λ k. Err (refusal k)) (options_answer (count cells) e) cells g) ≡ checked_or (list_number cells g) (if ltb e (count cells) then 0 else 1)
  unfolding ask_list options_answer
  options-number = go (eqb (list_number cells g) 0) refl (ltb e (count cells))
    where
      go : (p : Bool) → eqb (list_number cells g) 0 ≡ p → (q : Bool) → options_number (if p then (if q then Ok (get_options (decode g) e) else Err UnknownExpression) else Err (refusal (list_number cells g))) ≡ (if p then (if q then 0 else 1) else list_number cells g)
      go true c true = refl
      go true c false = refl
      go false c q = refused-number (list_number cells g) (list_number-listed cells g) c

  pub partial_number_lem : partial_number (ask_list (λ k. Err (refusal k)) (partial_answer (count cells) e) cells g) ≡ checked_or (list_number cells g) (if ltb e (count cells) then 0 else 1)
  unfolding ask_list partial_answer
  partial_number_lem = go (eqb (list_number cells g) 0) refl (ltb e (count cells))
    where
      go : (p : Bool) → eqb (list_number cells g) 0 ≡ p → (q : Bool) → partial_number (if p then (if q then Ok (partial_const (decode g) e) else Err UnknownExpression) else Err (refusal (list_number cells g))) ≡ (if p then (if q then 0 else 1) else list_number cells g)
      go true c true = refl
      go true c false = refl
      go false c q = refused-number (list_number cells g) (list_number-listed cells g) c

pub options-refused : (a : Result (Option ℕ) Refusal) → (options_number a ≡ 0 → ⊥) → a ≡ Err (refusal (options_number a))
options-refused a h = number-refused a h

pub partial_refused : (a : Result Bool Refusal) → (partial_number a ≡ 0 → ⊥) → a ≡ Err (refusal (partial_number a))
partial_refused a h = number-refused a h

-- the expressions of an ordering are known
abbrev pub KnownIn : ℕ → List ℕ → Type 0
KnownIn n o = (k : ℕ) → k < length o → expr_of (get_or o k 0) < n

-- pushing and extending add no other expression
pushed-known : (n : ℕ) (o : List ℕ) (k : ℕ) → KnownIn n o → expr_of k < n → KnownIn n (pushed o k)
pushed-known n o k h b = go (has_expr (expr_of k) o) refl
  where
    at : (i : ℕ) → i < length (o ++ (k ∷ [])) → Dec (i < length o) → expr_of (get_or (o ++ (k ∷ [])) i 0) < n
    at i l (yes p) = subst (λ (x : ℕ). expr_of x < n) (sym (get_or-append o (k ∷ []) 0 i p)) (h i p)
    at i l (no p) = subst (λ (x : ℕ). expr_of x < n) (sym (get_or_at o k [] 0 i (omega (arith, length-append o (k ∷ []))))) b

    go : (t : Bool) → has_expr (expr_of k) o ≡ t → KnownIn n (pushed o k)
    go true q = subst (KnownIn n) (sym (pushed-there o k q)) h
    go false q = subst (KnownIn n) (sym (pushed-new o k q)) (λ i l. at i l (dec_lt i (length o)))

pub extended-known : (n : ℕ) (o ks : List ℕ) → KnownIn n o → KnownIn n ks → KnownIn n (extended o ks)
unfolding extended
extended-known n o [] h m = h
extended-known n o (k ∷ ks) h m = extended-known n (pushed o k) ks (pushed-known n o k h (m 0 (omega arith))) (λ i l. m (suc i) (omega arith))

all-distinct : (o : List ℕ) (ps : List (List ℕ)) → NoneTwice o → NoneTwice (extended_all o ps)
unfolding extended_all
all-distinct o [] d = d
all-distinct o (p ∷ ps) d = all-distinct (extended o p) ps (extended-none_twice o p d)

all_known_lem : (n : ℕ) (o : List ℕ) (ps : List (List ℕ)) → KnownIn n o → Known n ps → KnownIn n (extended_all o ps)
unfolding extended_all
all_known_lem n o [] h m = h
all_known_lem n o (p ∷ ps) h m = all_known_lem n (extended o p) ps (extended-known n o p h (λ k l. m 0 k (omega arith) l)) (λ i k a b. m (suc i) k (omega arith) b)

-- the joined ordering of all has no expression twice, and none that is not known
pub output-distinct : (os : List (List ℕ)) → NoneTwice (output_ordering os)
unfolding output_ordering
output-distinct os = all-distinct [] os (λ i j a b q. omega arith)

pub output-known : (n : ℕ) (os : List (List ℕ)) → Known n os → KnownIn n (output_ordering os)
unfolding output_ordering
output-known n os h = all_known_lem n [] os (λ k l. absurd (omega arith)) h

-- an ordering but for its length: it has a key, no expression twice, and none that is not known
pub record Valid (n : ℕ) (o : List ℕ) : Type 0 where
  pub filled : 0 < length o
  pub distinct : NoneTwice o
  pub known : KnownIn n o

-- each of a list is such
abbrev pub AllValid : ℕ → List (List ℕ) → Type 0
AllValid n os = (i : ℕ) → i < length os → Valid n (ordering_at os i)

module _ (n : ℕ) where
  extended_valid : (o p : List ℕ) → Valid n o → KnownIn n p → Valid n (extended o p)
  extended_valid o p v m =
      let w = extended-begins o p in
      let l = ap (λ (q : List ℕ). length q) w.1 ∙ length-append o w.0 in
      record { filled = omega (arith, v.filled); distinct = extended-none_twice o p v.distinct; known = extended-known n o p v.known m }

  join_valid : (os ps : List (List ℕ)) → AllValid n os → Known n ps → AllValid n (join_suffix os ps)
  join_valid os ps v m = join_suffix-all (Valid n) os ps v (λ i j a b. extended_valid (ordering_at os i) (ordering_at ps j) (v i a) (λ k c. m j k b c))

  -- within the bounds it is a good list whose expressions are known
  pub valid_good : (os : List (List ℕ)) → AllValid n os → fits os ≡ true → Good os
  unfolding fits
  valid_good os v f =
      let few = and_left (leb (length os) 32) (each (λ i. leb (length (ordering_at os i)) 16) (length os)) f in
      let short = and_right (leb (length os) 32) (each (λ i. leb (length (ordering_at os i)) 16) (length os)) f in
      record {
        few = leb-true (length os) 32 few;
        each = λ i l. record {
          filled = (v i l).filled;
          few = leb-true (length (ordering_at os i)) 16 (each_holds (λ i. leb (length (ordering_at os i)) 16) (length os) i short l);
          distinct = (v i l).distinct;
        };
      }

  pub good_valid : (os : List (List ℕ)) → Good os → Known n os → AllValid n os
  good_valid os g m i l = record { filled = (g.each i l).filled; distinct = (g.each i l).distinct; known = λ k b. m i k l b }

-- of two lists that pass the check the first does
two-first : (cells : List ℕ) (g h : Orderings) → two_number cells g h ≡ 0 → list_number cells g ≡ 0
unfolding list_number
two-first cells g h e =
    let p = two-tests cells g h e in
    let l = three (lawful cells) (lawful_list g) (lawful_list h) p.0 in
    rw (l.0, l.1, and_left (keys_inside (count cells) g) (keys_inside (count cells) h) p.1)

-- what joining hands back passes the check again, refused or not
pub join-passes : (cells : List ℕ) (g h : Orderings) → Sized g → Sized h → two_number cells g h ≡ 0 → list_number cells (join_answer cells g h).list ≡ 0
unfolding join_answer listed
join-passes cells g h y z e = subst (λ (p : Bool). list_number cells (join_by cells g h p (fits (joined g h))).list ≡ 0) (sym (eq-eqb (two_number cells g h) 0 e)) (go (fits (joined g h)) refl)
  where
    go : (q : Bool) → fits (joined g h) ≡ q → list_number cells (join_by cells g h true q).list ≡ 0
    go true f =
        let w = two-held cells g h y z e in
        let os = joined g h in
        let v = join_valid (count cells) (decode g) (decode h) (good_valid (count cells) (decode g) w.0.held.good w.0.known) w.1.known in
        held_number cells (two-lawful cells g h e) os (valid_good (count cells) os v f) (λ i k a b. (v i a).known k b)
    go false f = two-first cells g h e
