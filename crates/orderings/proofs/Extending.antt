-- Pushing and extending as the code does them: the search for an expression, what only grows, the struct with one key more, and the loop.
use Prim.Native.Nat.{ℕ, suc, ◌+◌, ◌-◌, ◌<◌, ◌≤◌}
use mathlib.Core.Bool.{Bool, true, false}
use mathlib.Core.List.{List, [], ◌∷◌, ◌++◌}
use mathlib.Core.Path.{◌≡◌, refl, sym, ap, ◌∙◌, subst}
use native.Mathlib.Numerals.{add-one}
use native.Mathlib.Omega.{arith}
use borrow.Author.Tests.{leb-true, leb-false, le-leb, lt-leb}
use lib.Dec.{eqb, leb}
use lib.ListN.{length, get_or, set, drop, replicate, length-append, drop_of_length-le}
use lib.Seq.{set_at, append_snoc, drop-cons}
use Rattle.orderings.specs.Ordering.{expr_of, has_expr, pushed, extended}
use Rattle.orderings.specs.Layout.{row, keys_of}
use Rattle.orderings.specs.Inner.{HeldOrdering, ShortOrdering, extended_of, Extending}
use Rattle.orderings.specs.declared.Ordering.{Ordering}
use Rattle.std.specs.Prelude.{Ok, Err}
use Rattle.std.specs.List.{list_any}
use Rattle.arena.specs.declared.Refusal.{Refusal}
use Rattle.arena.specs.declared.Refusal.TheVariants.{TooLarge}
use Rattle.arena.proofs.Refusals.{ok-not-err}
use Rattle.orderings.proofs.Codec.{keys-row, size_is, size_few}
use Rattle.orderings.proofs.OneOrdering.{pushed-there, pushed-new, extended-begins}

-- an ordering has an expression where a test of each of its keys says so
pub has-any : (e : ℕ) (o : List ℕ) → list_any (λ k. eqb (expr_of k) e) o ≡ has_expr e o
unfolding has_expr
has-any e [] = refl
has-any e (k ∷ ks) = rw (has-any e ks)

-- extending only grows
pub extended-grows : (o ks : List ℕ) → length o ≤ length (extended o ks)
extended-grows o ks = let w = extended-begins o ks in omega (arith, ap (λ (p : List ℕ). length p) w.1, length-append o w.0)

-- an ordering of at most 16 keys and its struct
pub short-size : (r : Ordering) → ShortOrdering r → length (keys_of r) ≤ 16
short-size r h = omega (arith, h.short, size_is r)

pub row-short : (o : List ℕ) → length o ≤ 16 → ShortOrdering (row o)
unfolding row
row-short o l = record { coded = ap row (keys-row o); short = l }

pub held-short : (r : Ordering) → HeldOrdering r → ShortOrdering r
held-short r h = record { coded = h.coded; short = size_few r h }

-- what extending answers where the keys fit, and where they do not
pub fits-here : (ks : List ℕ) → length ks ≤ 16 → extended_of ks ≡ Ok (row ks)
unfolding extended_of
fits-here ks l = rw (le-leb (length ks) 16 l)

pub fits_not : (ks : List ℕ) → 16 < length ks → extended_of ks ≡ Err TooLarge
unfolding extended_of
fits_not ks l = rw (lt-leb (length ks) 16 l)

-- what an answer says of the keys
pub record Fitting (out : Ordering) (ks : List ℕ) : Type 0 where
  pub few : length ks ≤ 16
  pub is : out ≡ row ks

module _ (ks : List ℕ) where
  pub fitting : (out : Ordering) → Ok out ≡ extended_of ks → Fitting out ks
  fitting out q = go (leb (length ks) 16) refl
    where
      go : (b : Bool) → leb (length ks) 16 ≡ b → Fitting out ks
      go true s = let l = leb-true (length ks) 16 s in let e : Ok out ≡ Ok (row ks) = q ∙ fits-here ks l in record { few = l; is = cc }
      go false s = absurd (ok-not-err (q ∙ fits_not ks (leb-false (length ks) 16 s)))

  pub unfitting : (e : Refusal) → Err e ≡ extended_of ks → (16 < length ks) × (e ≡ TooLarge)
  unfitting e q = go (leb (length ks) 16) refl
    where
      go : (b : Bool) → leb (length ks) 16 ≡ b → (16 < length ks) × (e ≡ TooLarge)
      go true s = absurd (ok-not-err (sym (q ∙ fits-here ks (leb-true (length ks) 16 s))))
      go false s = let l = leb-false (length ks) 16 s in let p : Err e ≡ Err TooLarge = q ∙ fits_not ks l in (l, cc)

-- one key more
row_more : (o : List ℕ) (k : ℕ) → length o < 16 → ◌≡◌ {A = Ordering} (record { size = length o + 1; keys = set (row o).keys (length o) k }) (row (o ++ (k ∷ [])))
unfolding row
row_more o k l = λ t. record { size = same t; keys = moved t }
  where
    same : length o + 1 ≡ length (o ++ (k ∷ []))
    same = omega (arith, length-append o (k ∷ []))

    rest : List ℕ
    rest = replicate (16 - length (o ++ (k ∷ []))) 0

    moved : set (o ++ replicate (16 - length o) 0) (length o) k ≡ o ++ (k ∷ []) ++ replicate (16 - length (o ++ (k ∷ []))) 0
    moved =
        let e : 16 - length o ≡ suc (16 - length (o ++ (k ∷ []))) = omega (arith, length-append o (k ∷ [])) in
        rw e (set_at o 0 rest k (length o) refl ∙ sym (append_snoc o k rest))

-- pushing a key: its expression is there, there is no place left, or it comes to the end
module _ (r : Ordering) (key : ℕ) (h : ShortOrdering r) where
  pub push-there : has_expr (expr_of key) (keys_of r) ≡ true → Ok r ≡ extended_of (pushed (keys_of r) key)
  push-there q = sym (ap extended_of (pushed-there (keys_of r) key q) ∙ fits-here (keys_of r) (short-size r h) ∙ ap Ok h.coded)

  pub push-full : has_expr (expr_of key) (keys_of r) ≡ false → 16 ≤ r.size → Err TooLarge ≡ extended_of (pushed (keys_of r) key)
  push-full q l = sym (ap extended_of (pushed-new (keys_of r) key q) ∙ fits_not (keys_of r ++ (key ∷ [])) (omega (arith, length-append (keys_of r) (key ∷ []), size_is r)))

  pub push-new : has_expr (expr_of key) (keys_of r) ≡ false → r.size < 16
      → Ok (record { size = r.size + 1; keys = set r.keys r.size key }) ≡ extended_of (pushed (keys_of r) key)
  unfolding row
  push-new q l =
      ap Ok (subst (λ (x : Ordering). ◌≡◌ {A = Ordering} (record { size = x.size + 1; keys = set x.keys x.size key }) (row (keys_of r ++ (key ∷ [])))) h.coded (row_more (keys_of r) key (omega (arith, size_is r))))
      ∙ sym (ap extended_of (pushed-new (keys_of r) key q) ∙ fits-here (keys_of r ++ (key ∷ [])) (omega (arith, length-append (keys_of r) (key ∷ []), size_is r)))

-- extending by keys from a place on
extended-step : (o ks : List ℕ) (k : ℕ) → k < length ks → extended o (drop k ks) ≡ extended (pushed o (get_or ks k 0)) (drop (k + 1) ks)
unfolding extended
extended-step o ks k l = rw (drop-cons ks k 0 l, add-one k)

extended-done : (o ks : List ℕ) (k : ℕ) → length ks ≤ k → extended o (drop k ks) ≡ o
unfolding extended
extended-done o ks k l = rw (drop_of_length-le ks l)

-- extending an ordering by keys: the loop begins, goes on, stops, and ends
module _ (o ks : List ℕ) where
  pub extending-begins : (r : Ordering) → keys_of r ≡ o → ShortOrdering r → Extending o ks 0 r
  extending-begins r e h = record { below = omega arith; short = h; goes = ap (λ (z : List ℕ). extended z ks) (sym e) }

  module _ (k : ℕ) (out : Ordering) (x : Extending o ks k out) where
    module _ (key : ℕ) (l : k < length ks) (s : get_or ks k 0 ≡ key) where
      next : extended o ks ≡ extended (pushed (keys_of out) key) (drop (k + 1) ks)
      next = x.goes ∙ extended-step (keys_of out) ks k l ∙ ap (λ (z : ℕ). extended (pushed (keys_of out) z) (drop (k + 1) ks)) s

      pub extending-on : (more : Ordering) → Ok more ≡ extended_of (pushed (keys_of out) key) → Extending o ks (k + 1) more
      extending-on more q =
          let f = fitting (pushed (keys_of out) key) more q in
          record {
            below = omega arith;
            short = subst ShortOrdering (sym f.is) (row-short (pushed (keys_of out) key) f.few);
            goes = next ∙ ap (λ (z : List ℕ). extended z (drop (k + 1) ks)) (sym (ap keys_of f.is ∙ keys-row (pushed (keys_of out) key)));
          }

      pub extending-stops : (e : Refusal) → Err e ≡ extended_of (pushed (keys_of out) key) → Err e ≡ extended_of (extended o ks)
      extending-stops e q =
          let ps : List ℕ = pushed (keys_of out) key in
          let a = unfitting ps e q in
          let b = ap (λ (z : List ℕ). length z) next in
          ap Err a.1 ∙ sym (fits_not (extended o ks) (omega (arith, a.0, extended-grows ps (drop (k + 1) ks))))

    pub extending-ends : length ks ≤ k → Ok out ≡ extended_of (extended o ks)
    extending-ends l =
        sym (ap extended_of (x.goes ∙ extended-done (keys_of out) ks k l)
        ∙ fits-here (keys_of out) (short-size out x.short) ∙ ap Ok x.short.coded)
