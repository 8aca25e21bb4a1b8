-- The length of a body against what its counts say, class by class.
use Rattle.std.specs.Prelude.{if◌then◌else◌, Option, None, Some}
use Prim.Native.Nat.{ℕ, suc, ◌+◌, ◌-◌, ◌*◌, ◌<◌, ◌≤◌}
use mathlib.Core.Bool.{Bool, true, false, ◌&&◌}
use mathlib.Core.List.{List, []}
use mathlib.Core.Path.{◌≡◌, refl, sym, ap, ◌∙◌}
use native.Mathlib.Nat.{sub-zero}
use native.Mathlib.Omega.{arith}
use borrow.Author.Tests.{leb-true, le-leb, lt-leb, eqb-true, eq-eqb}
use lib.Dec.{eqb, leb}
use lib.ListN.{length, drop, length-drop}
use lib.Seq.{drop-drop}
use Rattle.laws.proofs.Booleans.{and_left, and_right, and_both, same_test}
use Rattle.records.specs.Fields.{field}
use Rattle.group_records.specs.GroupRecord.{Given, given_at, given_size, with_given, classes_given, body_given}
use Rattle.group_records.specs.Inner.{is_given, givens, Shaped}
use Rattle.group_records.proofs.GroupWalk.{field-drop}

-- the class at a place doesn't run past the end
abbrev pub FitsAt : List ℕ → ℕ → Bool
FitsAt body at = leb (at + 8) (length body) && leb (at + 8 + 2 * field body (at + 6)) (length body)

-- the definition's own test of what is left
fits-drop : (body : List ℕ) (at : ℕ) → at ≤ length body → (leb 8 (length (drop at body)) && leb (given_size (drop at body)) (length (drop at body))) ≡ FitsAt body at
unfolding given_size
fits-drop body at l =
    let six : field (drop at body) 6 ≡ field body (at + 6) = field-drop at 6 body in
    let n : length (drop at body) ≡ length body - at = length-drop at body in
    same_test (leb 8 (length (drop at body)) && leb (8 + 2 * field (drop at body) 6) (length (drop at body))) (FitsAt body at)
    (λ p.
    let a : 8 ≤ length (drop at body) = leb-true 8 (length (drop at body)) (and_left (leb 8 (length (drop at body))) (leb (8 + 2 * field (drop at body) 6) (length (drop at body))) p) in
    let b : 8 + 2 * field (drop at body) 6 ≤ length (drop at body) = leb-true (8 + 2 * field (drop at body) 6) (length (drop at body)) (and_right (leb 8 (length (drop at body))) (leb (8 + 2 * field (drop at body) 6) (length (drop at body))) p) in
    and_both (le-leb (at + 8) (length body) (omega arith)) (le-leb (at + 8 + 2 * field body (at + 6)) (length body) (omega arith)))
    (λ p.
    let a : at + 8 ≤ length body = leb-true (at + 8) (length body) (and_left (leb (at + 8) (length body)) (leb (at + 8 + 2 * field body (at + 6)) (length body)) p) in
    let b : at + 8 + 2 * field body (at + 6) ≤ length body = leb-true (at + 8 + 2 * field body (at + 6)) (length body) (and_right (leb (at + 8) (length body)) (leb (at + 8 + 2 * field body (at + 6)) (length body)) p) in
    and_both (le-leb 8 (length (drop at body)) (omega arith)) (le-leb (8 + 2 * field (drop at body) 6) (length (drop at body)) (omega arith)))

-- a class before others changes nothing of whether they could be read
with-given : (g : Given) (o : Option (List Given)) → is_given (with_given g o) ≡ is_given o
unfolding with_given is_given
with-given g None = refl
with-given g (Some gs) = refl

-- the n classes of some bytes could be read, by the test of the first
turn-given : (n : ℕ) (bytes : List ℕ) (b : Bool) → (leb 8 (length bytes) && leb (given_size bytes) (length bytes)) ≡ b
    → is_given (classes_given (suc n) bytes) ≡ (if b then is_given (classes_given n (drop (given_size bytes) bytes)) else false)
unfolding classes_given is_given
turn-given n bytes true q = rw q (with-given (given_at bytes) (classes_given n (drop (given_size bytes) bytes)))
turn-given n bytes false q = rw q

-- the walk: what is left to be read
abbrev pub Left : List ℕ → ℕ → ℕ → ℕ → Bool
Left body n at j = is_given (classes_given (n - j) (drop at body))

pub shape_short : (body : List ℕ) → length body < 2 → false ≡ is_given (body_given body)
unfolding body_given is_given
shape_short body l = rw (lt-leb 2 (length body) l)

pub shape_start : (body : List ℕ) (n : ℕ) → 2 ≤ length body → n ≡ field body 0 → is_given (body_given body) ≡ Left body n 2 0
unfolding body_given
shape_start body n l e = rw (le-leb 2 (length body) l, sub-zero, e)

pub shape_stop : (body : List ℕ) (n at j : ℕ) → j < n → at ≤ length body → FitsAt body at ≡ false → false ≡ Left body n at j
shape_stop body n at j l b q =
    let e : n - j ≡ suc (n - (j + 1)) = omega arith in
    rw e (sym (turn-given (n - (j + 1)) (drop at body) false (fits-drop body at b ∙ q)))

pub shape_step : (body : List ℕ) (n at j m : ℕ) → j < n → at ≤ length body → m ≡ field body (at + 6) → FitsAt body at ≡ true → Left body n at j ≡ Left body n (at + (8 + 2 * m)) (j + 1)
unfolding given_size
shape_step body n at j m l b f q =
    let e : n - j ≡ suc (n - (j + 1)) = omega arith in
    let s : 8 + 2 * field (drop at body) 6 ≡ 8 + 2 * m = omega (arith, field-drop at 6 body) in
    rw e (turn-given (n - (j + 1)) (drop at body) true (fits-drop body at b ∙ q) ∙ ap (λ (bytes : List ℕ). is_given (classes_given (n - (j + 1)) bytes)) (ap (λ (k : ℕ). drop k (drop at body)) s ∙ drop-drop (8 + 2 * m) at body))

pub shape_room : (body : List ℕ) (at m : ℕ) → m ≡ field body (at + 6) → FitsAt body at ≡ true → at + 8 + 2 * m ≤ length body
shape_room body at m e q = omega (arith, leb-true (at + 8 + 2 * field body (at + 6)) (length body) (and_right (leb (at + 8) (length body)) (leb (at + 8 + 2 * field body (at + 6)) (length body)) q))

pub shape_head : (body : List ℕ) (at : ℕ) → FitsAt body at ≡ true → at + 8 ≤ length body
shape_head body at q = leb-true (at + 8) (length body) (and_left (leb (at + 8) (length body)) (leb (at + 8 + 2 * field body (at + 6)) (length body)) q)

pub shape_end : (body : List ℕ) (n at j : ℕ) → n ≤ j → at ≤ length body → eqb at (length body) ≡ Left body n at j
unfolding classes_given is_given
shape_end body n at j l b = let e : n - j ≡ 0 = omega arith in rw e (same_end ∙ given-none (eqb (length (drop at body)) 0))
  where
    same_end : eqb at (length body) ≡ eqb (length (drop at body)) 0
    same_end =
        same_test (eqb at (length body)) (eqb (length (drop at body)) 0)
        (λ p. eq-eqb (length (drop at body)) 0 (omega (arith, eqb-true at (length body) p, length-drop at body)))
        (λ p. eq-eqb at (length body) (omega (arith, eqb-true (length (drop at body)) 0 p, length-drop at body)))

    given-none : (t : Bool) → t ≡ is_given (if t then Some [] else None)
    given-none true = refl
    given-none false = refl

-- a short body that could be read is one of classes
pub shaped-is : (body : List ℕ) → length body ≤ 65535 → is_given (body_given body) ≡ true → Shaped body
unfolding is_given givens
shaped-is body l q = record { short = l; is = at (body_given body) q }
  where
    at : (o : Option (List Given)) → is_given o ≡ true → o ≡ Some (givens o)
    at None p = absurd (let z : ◌≡◌ {A = ℕ} 0 1 = cc in omega arith)
    at (Some gs) p = refl
