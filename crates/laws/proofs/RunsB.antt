-- What `array::from_fn` makes, in the words of the tables: element i is f i.
use Rattle.std.proofs.Common.{◌≡◌, ℕ, zero, suc, ◌+◌, ◌<◌, ◌≤◌, List, refl, subst, ◌∙◌, arith, length, get_or}
use native.Mathlib.Decide.{ℕ_discrete}
use Rattle.std.specs.Array.{IsFromFnResult, IsFromFnResultFrom, IsElementAt}
use Rattle.std.specs.Fn.{Called}
use denote.Param.Members.{Mut}
use Rattle.laws.specs.Lists.{table}
use Rattle.laws.proofs.Table.{table_is}

module _ {F B : Type 0} (g : Mut F (ℕ × Unit {0}) B) (f : F) (h : ℕ → B) (d : B) (ys : List B) (closure : (x : ℕ) (b : B) (q : F) → Called g f (x, tt) b q → (q ≡ f) × (b ≡ h x)) where
  -- element j, where the calls are those of the n numbers from i on
  from_fn-at : (n i j : ℕ) (p : F) → p ≡ f → IsFromFnResultFrom g p ys i n → i ≤ j → j < i + n → get_or ys j d ≡ h j
  from_fn-at zero i j p e r a b = absurd (omega arith)
  from_fn-at (suc n) i j p e r a b =
      let c = closure i r.1 r.0 (subst (λ (z : F). Called g z (i, tt) r.1 r.0) e r.3) in
      go c (ℕ_discrete j i) (λ t. from_fn-at n (i + 1) j r.0 c.0 r.4 (omega arith) (omega arith))
    where
      go : (r.0 ≡ f) × (r.1 ≡ h i) → Dec (j ≡ i) → ((j ≡ i → ⊥) → get_or ys j d ≡ h j) → get_or ys j d ≡ h j
      go c (yes t) k = rw t (r.2.1 d ∙ c.1)
      go c (no t) k = k t

-- the whole array, by any value that stands for a place past its end
pub table-from_fn : {F B : Type 0} {g : Mut F (ℕ × Unit {0}) B} (h : ℕ → B) (n : ℕ) (d : B) (f : F) (ys : List B) → IsFromFnResult g f ys n → ((x : ℕ) (b : B) (q : F) → Called g f (x, tt) b q → (q ≡ f) × (b ≡ h x)) → ys ≡ table h n
table-from_fn {g} h n d f ys r closure =
    table_is h n ys d r.long (λ j l. from_fn-at g f h d ys closure n 0 j f refl r.each (omega arith) (omega arith))
