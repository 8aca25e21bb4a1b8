-- Adding orderings that are built from lists of keys: what vanishes and what stays, one ordering more, the loop over all, and reduction after it.
use Prim.Native.Nat.{ℕ, zero, suc, ◌+◌, ◌*◌, ◌<◌, ◌≤◌}
use mathlib.Core.Bool.{Bool, true, false}
use mathlib.Core.List.{List, [], ◌∷◌, ◌++◌, append-nil}
use mathlib.Core.Path.{◌≡◌, refl, sym, ap, ◌∙◌, subst}
use native.Mathlib.Decide.{dec_lt, ℕ_discrete}
use native.Mathlib.Omega.{arith}
use borrow.Author.Tests.{eq-eqb, ne_eqb, ltb-true, leb-true, le-leb, lt-leb}
use lib.Dec.{ltb, leb}
use lib.ListN.{length, length-append}
use lib.Seq.{get_or_at, append_snoc}
use Rattle.laws.proofs.Booleans.{and_left, and_right}
use Rattle.orderings.specs.Ordering.{same_key, built}
use Rattle.orderings.specs.Lists.{ordering_at, nonempty, built_all}
use Rattle.reduction.specs.Reduction.{reduced}
use Rattle.orderings.specs.Good.{GoodOrdering, Good}
use Rattle.reduction.specs.Lent.{key_count, next_list, each_rest, each_next, each_list, options_known, exprs_inside, keys_lent, lists_rest, lists_end, lists-next, lists_lent, orderings_lent}
use Rattle.orderings.specs.Layout.{row, encode, decode}
use Rattle.orderings.specs.Calls.{fits}
use Rattle.reduction.specs.Calls.{reduced_list}
use Rattle.orderings.specs.Inner.{Held, Short, extended_of, all_short, made}
use Rattle.reduction.specs.Inner.{added_one, reduction_of, KeysFit, LentFit}
use Rattle.orderings.specs.declared.Orderings.{Orderings}
use Rattle.orderings.specs.declared.Ordering.{Ordering}
use Rattle.std.specs.Prelude.{Result, Ok, Err}
use Rattle.arena.specs.declared.Refusal.{Refusal}
use Rattle.arena.specs.declared.Refusal.TheVariants.{TooLarge}
use Rattle.arena.proofs.Refusals.{ok-not-err}
use Rattle.reduction.specs.declared.Reduction.{Reduction}
use Rattle.orderings.proofs.Codec.{decode-encode, length-decode, count-few, good-at}
use Rattle.orderings.proofs.OneOrdering.{NoneTwice, built-none_twice, built-same}
use Rattle.orderings.proofs.Extending.{fitting, unfitting}
use Rattle.orderings.proofs.Appending.{append-all, short-test, test_short, long-test, short-more, told, appended-is, short-encode, short-all, made-fits, made-many, made-long, made-yes, made-no, made-done, void}
use Rattle.reduction.proofs.LentLaws.{OptionsAt, ExprsAt, OrderingAt, lent-each, length-keys, keys-distinct, keys-fit}

-- an ordering that has keys stays
nonempty-some : (o : List ℕ) (os : List (List ℕ)) → 0 < length o → nonempty (o ∷ os) ≡ o ∷ nonempty os
unfolding nonempty
nonempty-some [] os l = absurd (omega arith)
nonempty-some (k ∷ o) os l = refl

nonempty-none : (o : List ℕ) (os : List (List ℕ)) → length o ≡ 0 → nonempty (o ∷ os) ≡ nonempty os
unfolding nonempty
nonempty-none [] os e = refl
nonempty-none (k ∷ o) os e = absurd (omega arith)

module _ (ks : List ℕ) (kss : List (List ℕ)) where
  built-some : 0 < length (built ks) → built_all (ks ∷ kss) ≡ built ks ∷ built_all kss
  unfolding built_all
  built-some l = nonempty-some (built ks) _ l

  built-none : length (built ks) ≡ 0 → built_all (ks ∷ kss) ≡ built_all kss
  unfolding built_all
  built-none e = nonempty-none (built ks) _ e

-- lists of keys that are orderings are built as they are
built_all-same : (kss : List (List ℕ)) → ((i : ℕ) → i < length kss → (0 < length (ordering_at kss i)) × NoneTwice (ordering_at kss i)) → built_all kss ≡ kss
unfolding built_all nonempty
built_all-same [] h = refl
built_all-same (ks ∷ kss) h =
    let e = built-same ks (h 0 (omega arith)).1 in
    built-some ks kss (omega (arith, ap (λ (o : List ℕ). length o) e, (h 0 (omega arith)).0))
    ∙ ap (λ (o : List ℕ). o ∷ built_all kss) e ∙ ap (λ (t : List (List ℕ)). ks ∷ t) (built_all-same kss (λ i l. h (suc i) (omega arith)))

pub built-lent : (numbers : List ℕ) → options_known numbers ≡ true → orderings_lent numbers ≡ true → built_all (lists_lent numbers) ≡ lists_lent numbers
unfolding options_known orderings_lent
built-lent numbers o r =
    built_all-same (lists_lent numbers)
    (lent-each numbers (λ (ks : List ℕ). (0 < length ks) × NoneTwice ks) (OptionsAt numbers) (OrderingAt numbers)
    (λ at h f. let b = ltb-true 0 (key_count numbers at) (and_left (ltb 0 (key_count numbers at)) _ f) in
    (omega (arith, length-keys numbers at), keys-distinct numbers at h (and_right (ltb 0 (key_count numbers at)) _ f)))
    o r)

-- what holds of each built ordering holds of those that stay, and they have keys
cons-each : (P : List ℕ → Type 0) (o : List ℕ) (os : List (List ℕ)) → P o → ((i : ℕ) → i < length os → P (ordering_at os i)) → (i : ℕ) → i < length (o ∷ os) → P (ordering_at (o ∷ os) i)
cons-each P o os h t zero l = h
cons-each P o os h t (suc i) l = t i (omega arith)

pub built-each : (P : List ℕ → Type 0) (kss : List (List ℕ)) → ((i : ℕ) → i < length kss → P (built (ordering_at kss i)))
    → (i : ℕ) → i < length (built_all kss) → (0 < length (ordering_at (built_all kss) i)) × P (ordering_at (built_all kss) i)
unfolding built_all nonempty
built-each P [] h i l = absurd (omega arith)
built-each P (ks ∷ kss) h i l = at (dec_lt 0 (length (built ks))) (built-each P kss (λ j b. h (suc j) (omega arith)))
  where
    at : Dec (0 < length (built ks)) → ((j : ℕ) → j < length (built_all kss) → (0 < length (ordering_at (built_all kss) j)) × P (ordering_at (built_all kss) j))
        → (0 < length (ordering_at (built_all (ks ∷ kss)) i)) × P (ordering_at (built_all (ks ∷ kss)) i)
    at (yes b) r =
        subst (λ (os : List (List ℕ)). (j : ℕ) → j < length os → (0 < length (ordering_at os j)) × P (ordering_at os j)) (sym (built-some ks kss b))
        (cons-each (λ (o : List ℕ). (0 < length o) × P o) (built ks) (built_all kss) (b, h 0 (omega arith)) r) i l
    at (no b) r =
        subst (λ (os : List (List ℕ)). (j : ℕ) → j < length os → (0 < length (ordering_at os j)) × P (ordering_at os j)) (sym (built-none ks kss (omega arith))) r i l

-- one ordering more, if it has keys: what came of it
pub data Added (list : Orderings) (ks : List ℕ) : Result Orderings Refusal → Type 0 where
  many : 0 < length ks → 32 ≤ list.count → Added list ks (Err TooLarge)
  none : length ks ≡ 0 → Added list ks (Ok list)
  one : 0 < length ks → length ks ≤ 16 → list.count < 32 → Added list ks (Ok (encode (decode list ++ (ks ∷ []))))

module _ (list : Orderings) (ks : List ℕ) where
  added_none : length ks ≡ 0 → added_one list (row ks) ≡ Ok list
  unfolding added_one row
  added_none e = rw (eq-eqb (length ks) 0 e)

  added-many : 0 < length ks → 32 ≤ list.count → added_one list (row ks) ≡ Err TooLarge
  unfolding added_one row
  added-many b c = rw (ne_eqb (length ks) 0 (λ e. omega arith), le-leb 32 list.count c)

  added-one : 0 < length ks → list.count < 32 → Short list → added_one list (row ks) ≡ Ok (encode (decode list ++ (ks ∷ [])))
  unfolding added_one row
  added-one b c s = rw (ne_eqb (length ks) 0 (λ e. omega arith), lt-leb 32 list.count c) (ap Ok (appended-is list ks s c))

  pub added : Short list → (out : Ordering) → Ok out ≡ extended_of ks → (r : Result Orderings Refusal) → r ≡ added_one list out → Added list ks r
  added s out q r p =
      let f = fitting ks out q in
      subst (λ (x : Result Orderings Refusal). Added list ks x) (sym (p ∙ ap (added_one list) f.is)) (go f.few (ℕ_discrete (length ks) 0) (dec_lt list.count 32))
    where
      go : length ks ≤ 16 → Dec (length ks ≡ 0) → Dec (list.count < 32) → Added list ks (added_one list (row ks))
      go l (yes d) f = subst (λ (x : Result Orderings Refusal). Added list ks x) (sym (added_none d)) (none d)
      go l (no d) (yes f) = subst (λ (x : Result Orderings Refusal). Added list ks x) (sym (added-one (omega arith) f s)) (one (omega arith) l f)
      go l (no d) (no f) = subst (λ (x : Result Orderings Refusal). Added list ks x) (sym (added-many (omega arith) (omega arith))) (many (omega arith) (omega arith))

-- the loop over all lists: those from a place on are still to be built and put at the end
pub record Adding (g : Orderings) (numbers : List ℕ) (at : ℕ) (list : Orderings) : Type 0 where
  pub exprs : each_rest (ExprsAt 1024 numbers) numbers at ≡ true
  pub options : each_rest (OptionsAt numbers) numbers at ≡ true
  pub short : Short list
  pub goes : decode g ++ built_all (lists_lent numbers) ≡ decode list ++ built_all (lists_rest numbers at)

module _ (g : Orderings) (numbers : List ℕ) where
  pub adding-begins : Held g → LentFit numbers → Adding g numbers 0 g
  unfolding exprs_inside options_known each_list lists_lent
  adding-begins h f = record {
    exprs = f.exprs;
    options = f.options;
    short = record { coded = h.coded; few = count-few g h; short = λ i l. (good-at g h i l).few };
    goes = refl;
  }

  module _ (at : ℕ) (list : Orderings) (x : Adding g numbers at list) where
    pub adding-keys : at < length numbers → KeysFit numbers at
    adding-keys l = keys-fit numbers at l x.exprs x.options

    module _ (l : at < length numbers) where
      abbrev new : List ℕ
      new = built (keys_lent numbers at)

      abbrev rest : List (List ℕ)
      rest = built_all (lists_rest numbers (next_list numbers at))

      step : decode g ++ built_all (lists_lent numbers) ≡ decode list ++ built_all (keys_lent numbers at ∷ lists_rest numbers (next_list numbers at))
      step = x.goes ∙ ap (λ (t : List (List ℕ)). decode list ++ built_all t) (lists-next numbers at l)

      with-new : 0 < length new → decode g ++ built_all (lists_lent numbers) ≡ decode list ++ (new ∷ rest)
      with-new b = step ∙ ap (λ (t : List (List ℕ)). decode list ++ t) (built-some (keys_lent numbers at) (lists_rest numbers (next_list numbers at)) b)

      without : length new ≡ 0 → decode g ++ built_all (lists_lent numbers) ≡ decode list ++ rest
      without e = step ∙ ap (λ (t : List (List ℕ)). decode list ++ t) (built-none (keys_lent numbers at) (lists_rest numbers (next_list numbers at)) e)

      after : (p : ℕ → Bool) → each_rest p numbers at ≡ true → each_rest p numbers (next_list numbers at) ≡ true
      after p h = and_right (p at) (each_rest p numbers (next_list numbers at)) (sym (each_next p numbers at l) ∙ h)

      next : {r : Result Orderings Refusal} → Added list new r → (more : Orderings) → r ≡ Ok more → Adding g numbers (next_list numbers at) more
      next (many b c) more z = absurd (ok-not-err (sym z))
      next (none e) more z =
          let s : list ≡ more = cc in
          subst (Adding g numbers (next_list numbers at)) s
          (record {
            exprs = after (ExprsAt 1024 numbers) x.exprs;
            options = after (OptionsAt numbers) x.options;
            short = x.short;
            goes = without e;
          })
      next (one b c f) more z =
          let longer : List (List ℕ) = decode list ++ (new ∷ []) in
          let s : encode longer ≡ more = cc in
          subst (Adding g numbers (next_list numbers at)) s
          (record {
            exprs = after (ExprsAt 1024 numbers) x.exprs;
            options = after (OptionsAt numbers) x.options;
            short = short-encode longer (omega (arith, length-append (decode list) (new ∷ []), length-decode list)) (short-more (decode list) new (short-all list x.short) c);
            goes = with-new b ∙ sym (append_snoc (decode list) new rest) ∙ ap (λ (t : List (List ℕ)). t ++ rest) (sym (decode-encode longer));
          })

      pub adding-on : (n : ℕ) → n ≡ key_count numbers at → (more : Orderings) → Added list new (Ok more) → Adding g numbers (at + (1 + 2 * n)) more
      unfolding next_list
      adding-on n e more w =
          let s : at + 1 + 2 * key_count numbers at ≡ at + (1 + 2 * n) = omega arith in
          subst (λ (k : ℕ). Adding g numbers k more) s (next w more refl)

      -- an ordering that is too long
      pub adding-long : (e : Refusal) → Err e ≡ extended_of new → Err e ≡ made (decode g ++ built_all (lists_lent numbers))
      adding-long e q =
          let u = unfitting new e q in
          let os : List (List ℕ) = decode list ++ (new ∷ rest) in
          let c = ap (λ (o : List ℕ). length o) (get_or_at (decode list) new rest [] (length (decode list)) refl) in
          ap Err u.1 ∙ sym (ap made (with-new (omega (arith, u.0))) ∙ made-long os (long-test os (length (decode list)) (omega (arith, length-append (decode list) (new ∷ rest))) (omega (arith, u.0))))

      stops : {r : Result Orderings Refusal} → Added list new r → (e : Refusal) → r ≡ Err e → Err e ≡ made (decode g ++ built_all (lists_lent numbers))
      stops (many b c) e z =
          sym z ∙ sym (ap made (with-new b) ∙ made-many (decode list ++ (new ∷ rest)) (omega (arith, length-append (decode list) (new ∷ rest), length-decode list)))
      stops (none q) e z = absurd (ok-not-err z)
      stops (one b c f) e z = absurd (ok-not-err z)

      -- one too many
      pub adding-stops : (e : Refusal) → Added list new (Err e) → Err e ≡ made (decode g ++ built_all (lists_lent numbers))
      adding-stops e w = stops w e refl

    pub adding-ends : length numbers ≤ at → Ok list ≡ made (decode g ++ built_all (lists_lent numbers))
    unfolding built_all nonempty
    adding-ends l =
        let e : decode g ++ built_all (lists_lent numbers) ≡ decode list =
        x.goes ∙ ap (λ (t : List (List ℕ)). decode list ++ built_all t) (lists_end numbers at l) ∙ append-nil (decode list) in
        sym (ap made e ∙ made-fits (decode list) (omega (arith, length-decode list, x.short.few)) (short-test (decode list) (short-all list x.short)) ∙ ap Ok x.short.coded)

-- what fits
module _ (os : List (List ℕ)) (f : fits os ≡ true) where
  pub fits-few : length os ≤ 32
  unfolding fits
  fits-few = leb-true (length os) 32 (and_left (leb (length os) 32) _ f)

  pub fits-short : (i : ℕ) → i < length os → length (ordering_at os i) ≤ 16
  unfolding fits all_short
  fits-short = test_short os (and_right (leb (length os) 32) _ f)

-- a list with built orderings after it is good, if it fits
pub added-good : (os kss : List (List ℕ)) → Good os → fits (os ++ built_all kss) ≡ true → Good (os ++ built_all kss)
added-good os kss g f = record {
  few = fits-few (os ++ built_all kss) f;
  each = λ i l. append-all (λ (o : List ℕ). length o ≤ 16 → GoodOrdering o) os (built_all kss) (λ j b c. g.each j b)
      (λ j b c. let w = built-each NoneTwice kss (λ k d. built-none_twice (ordering_at kss k)) j b in record { filled = w.0; few = c; distinct = w.1 })
      i l (fits-short (os ++ built_all kss) f i l);
}

-- reduction after adding
module _ (g : Orderings) (os : List (List ℕ)) where
  pub reduced-fits : fits os ≡ true → reduced_list g os ≡ told (Ok tt) (encode (reduced same_key os).orderings)
  unfolding reduced_list
  reduced-fits f = rw f

  pub reduced-not : fits os ≡ false → reduced_list g os ≡ told (Err TooLarge) g
  unfolding reduced_list
  reduced-not f = rw f

  pub made-refused : (e : Refusal) → Err e ≡ made os → told (Err e) g ≡ reduced_list g os
  made-refused e q = go (fits os) refl
    where
      go : (b : Bool) → fits os ≡ b → told (Err e) g ≡ reduced_list g os
      go true f = absurd (ok-not-err (sym (q ∙ made-yes os f)))
      go false f = ap (λ (x : Result Orderings Refusal). told (void x) g) (q ∙ made-no os f) ∙ sym (reduced-not f)

  pub reduced-done : (list : Orderings) → Ok list ≡ made os → (r : Reduction) → r ≡ reduction_of (reduced same_key (decode list)) → told (Ok tt) r.list ≡ reduced_list g os
  unfolding reduction_of
  reduced-done list q r p =
      let w = made-done os list q in
      ap (told (Ok tt)) (ap (λ (x : Reduction). x.list) p ∙ ap (λ (t : List (List ℕ)). encode (reduced same_key t).orderings) (ap decode w.1 ∙ decode-encode os))
      ∙ sym (reduced-fits w.0)
