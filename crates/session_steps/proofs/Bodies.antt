-- The children and the keys of a body, by their places, and the tables that they are copied into.
use Prim.Native.Nat.{ℕ, suc, ◌+◌, ◌*◌, ◌/◌, ◌<◌, ◌≤◌}
use mathlib.Core.List.{List, [], ◌∷◌}
use mathlib.Core.Path.{◌≡◌, refl, sym, ap, ◌∙◌, subst}
use native.Mathlib.Decide.{ℕ_discrete}
use native.Mathlib.Numerals.{add-one}
use native.Mathlib.Omega.{arith}
use lib.ListN.{length, get_or, take, set, length-set}
use lib.Seq.{take-suc-set, get_or-set_same, get_or-set_other}
use Rattle.laws.proofs.Table.{get_or-table}
use Rattle.laws.specs.Lists.{table}
use Rattle.records.specs.Fields.{field, fields}
use Rattle.records.specs.Record.{keys_in}
use Rattle.records.proofs.Items.{length-keys}
use Rattle.session_steps.specs.State.{key_expr, key_options}
use Rattle.session_steps.specs.Inner.{lent_keys, pairs_of}
use Rattle.session_steps.proofs.KeyNumbers.{pairs-are}

-- child k of n
pub at_fields : (body : List ℕ) (n k : ℕ) → k < n → get_or (fields body 4 n) k 0 ≡ field body (4 + 2 * k)
unfolding fields
at_fields body n k l = get_or-table (λ k. field body (4 + 2 * k)) n k 0 l

-- the first k children are copied: none, and one more
pub fields-none : (body l : List ℕ) → take 0 l ≡ fields body 4 0
unfolding fields table
fields-none body l = refl

pub fields-more : (body l : List ℕ) (k v : ℕ) → k < length l → take k l ≡ fields body 4 k → v ≡ field body (4 + 2 * k) → take (k + 1) (set l k v) ≡ fields body 4 (k + 1)
unfolding fields table
fields-more body l k v b e q = rw add-one (take-suc-set l k v b ∙ rw (e, q))

module _ (body : List ℕ) (n : ℕ) (e : length body ≡ 4 * n) where
  -- how many keys there are
  pub count-keys : length (keys_in body) ≡ n
  count-keys = omega (arith, length-keys body)

  at-keys : (k : ℕ) → k < n → get_or (keys_in body) k (0, 0) ≡ (field body (4 * k), field body (4 * k + 2))
  unfolding keys_in
  at-keys k l = get_or-table (λ k. (field body (4 * k), field body (4 * k + 2))) (length body / 4) k (0, 0) (omega arith)

  -- key k of n
  pub at-expr : (k : ℕ) → k < n → key_expr (keys_in body) k ≡ field body (4 * k)
  at-expr k l = ap (λ (p : ℕ × ℕ). p.0) (at-keys k l)

  pub at-options : (k : ℕ) → k < n → key_options (keys_in body) k ≡ field body (4 * k + 2)
  at-options k l = ap (λ (p : ℕ × ℕ). p.1) (at-keys k l)

-- the count and the first k keys are copied
pub record Copied (body : List ℕ) (n : ℕ) (l : List ℕ) (k : ℕ) : Type 0 where
  pub sized : length l ≡ 33
  pub counted : get_or l 0 0 ≡ n
  pub at : (j : ℕ) → j < k → (get_or l (1 + 2 * j) 0 ≡ field body (4 * j)) × (get_or l (2 + 2 * j) 0 ≡ field body (4 * j + 2))

module _ (body : List ℕ) (n : ℕ) where
  pub copied_none : (l : List ℕ) → length l ≡ 33 → Copied body n (set l 0 n) 0
  copied_none l s = record { sized = length-set l 0 n ∙ s; counted = get_or-set_same l 0 n 0 (omega arith); at = λ j b. absurd (omega arith) }

  pub copied_more : (l : List ℕ) (k a b : ℕ) → k < 16 → Copied body n l k → a ≡ field body (4 * k) → b ≡ field body (4 * k + 2) → Copied body n (set (set l (1 + 2 * k) a) (2 + 2 * k) b) (k + 1)
  copied_more l k a b few c p q =
      record {
        sized = length-set m (2 + 2 * k) b ∙ length-set l (1 + 2 * k) a ∙ c.sized;
        counted = get_or-set_other m (2 + 2 * k) 0 b 0 (λ e. omega arith) ∙ get_or-set_other l (1 + 2 * k) 0 a 0 (λ e. omega arith) ∙ c.counted;
        at = λ j r. go j r (ℕ_discrete j k);
      }
    where
      m : List ℕ
      m = set l (1 + 2 * k) a

      go : (j : ℕ) → j < k + 1 → Dec (j ≡ k) → (get_or (set m (2 + 2 * k) b) (1 + 2 * j) 0 ≡ field body (4 * j)) × (get_or (set m (2 + 2 * k) b) (2 + 2 * j) 0 ≡ field body (4 * j + 2))
      go j r (yes e) =
          subst (λ (i : ℕ). (get_or (set m (2 + 2 * k) b) (1 + 2 * i) 0 ≡ field body (4 * i)) × (get_or (set m (2 + 2 * k) b) (2 + 2 * i) 0 ≡ field body (4 * i + 2))) (sym e) (
            get_or-set_other m (2 + 2 * k) (1 + 2 * k) b 0 (λ e. omega arith) ∙ get_or-set_same l (1 + 2 * k) a 0 (omega (arith, c.sized)) ∙ p,
            get_or-set_same m (2 + 2 * k) b 0 (omega (arith, c.sized, length-set l (1 + 2 * k) a)) ∙ q,
          )
      go j r (no e) =
          let w = c.at j (omega arith) in (
            get_or-set_other m (2 + 2 * k) (1 + 2 * j) b 0 (λ q. omega arith) ∙ get_or-set_other l (1 + 2 * k) (1 + 2 * j) a 0 (λ q. omega arith) ∙ w.0,
            get_or-set_other m (2 + 2 * k) (2 + 2 * j) b 0 (λ q. omega arith) ∙ get_or-set_other l (1 + 2 * k) (2 + 2 * j) a 0 (λ q. omega arith) ∙ w.1,
          )

  pub copied_all : (l : List ℕ) → length body ≡ 4 * n → n ≤ 16 → (k : ℕ) → k ≤ n → n ≤ k → Copied body n l k → take (1 + 2 * n) l ≡ lent_keys (keys_in body)
  unfolding lent_keys
  copied_all [] e few k a b c = absurd (omega (arith, c.sized))
  copied_all (x ∷ l) e few k a b c =
      let m = count-keys body n e in
      let rest : take (2 * length (keys_in body)) l ≡ pairs_of (keys_in body) = pairs-are (keys_in body) l (omega (arith, c.sized, m))
      (λ j r. let w = c.at j (omega (arith, m)) in let i : j < n = omega (arith, m) in
      let u : suc (2 * j) ≡ 1 + 2 * j = omega arith in
      let v : suc (1 + 2 * j) ≡ 2 + 2 * j = omega arith in
      (ap (λ (i : ℕ). get_or (x ∷ l) i 0) u ∙ w.0 ∙ sym (at-expr body n e j i), ap (λ (i : ℕ). get_or (x ∷ l) i 0) v ∙ w.1 ∙ sym (at-options body n e j i))) in
      let t : 1 + 2 * n ≡ suc (2 * length (keys_in body)) = omega (arith, m) in
      let head : x ≡ length (keys_in body) = c.counted ∙ sym m in
      ap (λ (i : ℕ). take i (x ∷ l)) t ∙ rw (head, rest)
