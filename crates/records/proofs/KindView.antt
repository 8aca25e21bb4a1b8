-- A kind is one of 1 to 8, or none of them; and the body that each kind asks for.
use Prim.Native.Nat.{ℕ, zero, suc, ◌≤◌}
use mathlib.Core.List.{List}
use Rattle.std.specs.Prelude.{None}
use mathlib.Core.Path.{◌≡◌, refl}
use native.Mathlib.Omega.{arith}
use borrow.Author.Tests.{ne_eqb}
use Rattle.records.specs.Record.{column_in, literal_in, operation_in, equal_pair_in, constant_in, normal_form_in, equality_in, ordering_in, record_in}

-- which kind a number is
pub data Kind (kind : ℕ) : Type 0 where
  is-column : kind ≡ 1 → Kind kind
  is-literal : kind ≡ 2 → Kind kind
  is-operation : kind ≡ 3 → Kind kind
  is-equal_pair : kind ≡ 4 → Kind kind
  is-constant : kind ≡ 5 → Kind kind
  is-normal_form : kind ≡ 6 → Kind kind
  is-equality : kind ≡ 7 → Kind kind
  is-ordering : kind ≡ 8 → Kind kind
  is_zero : kind ≡ 0 → Kind kind
  is-over : 9 ≤ kind → Kind kind

pub kind_view : (kind : ℕ) → Kind kind
kind_view zero = is_zero refl
kind_view (suc zero) = is-column refl
kind_view (suc (suc zero)) = is-literal refl
kind_view (suc (suc (suc zero))) = is-operation refl
kind_view (suc (suc (suc (suc zero)))) = is-equal_pair refl
kind_view (suc (suc (suc (suc (suc zero))))) = is-constant refl
kind_view (suc (suc (suc (suc (suc (suc zero)))))) = is-normal_form refl
kind_view (suc (suc (suc (suc (suc (suc (suc zero))))))) = is-equality refl
kind_view (suc (suc (suc (suc (suc (suc (suc (suc zero)))))))) = is-ordering refl
kind_view (suc (suc (suc (suc (suc (suc (suc (suc (suc k))))))))) = is-over (omega arith)

module _ (kind : ℕ) (body : List ℕ) where
  -- the body of each kind
  pub kind-column : kind ≡ 1 → record_in kind body ≡ column_in body
  unfolding record_in
  kind-column e = rw e

  pub kind-literal : kind ≡ 2 → record_in kind body ≡ literal_in body
  unfolding record_in
  kind-literal e = rw e

  pub kind-operation : kind ≡ 3 → record_in kind body ≡ operation_in body
  unfolding record_in
  kind-operation e = rw e

  pub kind-equal_pair : kind ≡ 4 → record_in kind body ≡ equal_pair_in body
  unfolding record_in
  kind-equal_pair e = rw e

  pub kind-constant : kind ≡ 5 → record_in kind body ≡ constant_in body
  unfolding record_in
  kind-constant e = rw e

  pub kind-normal_form : kind ≡ 6 → record_in kind body ≡ normal_form_in body
  unfolding record_in
  kind-normal_form e = rw e

  pub kind-equality : kind ≡ 7 → record_in kind body ≡ equality_in body
  unfolding record_in
  kind-equality e = rw e

  pub kind-ordering : kind ≡ 8 → record_in kind body ≡ ordering_in body
  unfolding record_in
  kind-ordering e = rw e

  -- no other kind is read
  pub kind-zero : kind ≡ 0 → record_in kind body ≡ None
  unfolding record_in
  kind-zero e = rw e

  pub kind-none : (kind ≡ 1 → ⊥) → (kind ≡ 2 → ⊥) → (kind ≡ 3 → ⊥) → (kind ≡ 4 → ⊥) → (kind ≡ 5 → ⊥) → (kind ≡ 6 → ⊥) → (kind ≡ 7 → ⊥) → (kind ≡ 8 → ⊥) → record_in kind body ≡ None
  unfolding record_in
  kind-none n1 n2 n3 n4 n5 n6 n7 n8 = rw (ne_eqb kind 1 n1, ne_eqb kind 2 n2, ne_eqb kind 3 n3, ne_eqb kind 4 n4, ne_eqb kind 5 n5, ne_eqb kind 6 n6, ne_eqb kind 7 n7, ne_eqb kind 8 n8)

  pub kind-over : 9 ≤ kind → record_in kind body ≡ None
  kind-over l =
      kind-none (λ e. omega arith) (λ e. omega arith) (λ e. omega arith) (λ e. omega arith) (λ e. omega arith) (λ e. omega arith) (λ e. omega arith) (λ e. omega arith)
