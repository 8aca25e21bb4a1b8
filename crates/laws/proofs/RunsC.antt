-- What lets a call of an iterator over a range call its closure at each number: the closure stays as it is, and what it asks holds below
-- the range's end.
use Rattle.std.proofs.Common.{refl, ◌≡◌, ℕ, ◌<◌, arith}
use Rattle.std.specs.Iterator.{CallableAtEachTurn}
use Rattle.std.proofs.iter.Yields.{nat_range_steps}
use Rattle.std.proofs.lemmas.Iterator.{YieldsList-from_range}
use Rattle.std.proofs.lemmas.Iterator.Adapters.{serves_from_places}
use Rattle.std.proofs.lemmas.List.FromFn.{get_or-range_with_len, length-range_with_len}
use native.Mathlib.Nat.{sub-zero}

pub callable-below : {F : Type 0} {R : F → ℕ → F → Type 0} {Q : F → ℕ → Type 0} {f : F} (n : ℕ) → ((x : ℕ) (q : F) → R f x q → q ≡ f) → ((x : ℕ) → x < n → Q f x) → CallableAtEachTurn nat_range_steps R Q (record { start = 0; end = n }) f
callable-below n keeps asks =
    serves_from_places (YieldsList-from_range 0 n n refl (sub-zero n)) keeps (λ x k l e. asks x (omega (arith, e, get_or-range_with_len, length-range_with_len)))
