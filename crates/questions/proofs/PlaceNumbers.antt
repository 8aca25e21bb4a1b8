-- The places of the nodes' classes as numbers: an answer of the search, a table of the answers, and "in one class" by such a table.
use Prim.Native.Nat.{ℕ, ◌+◌, ◌<◌}
use mathlib.Core.List.{List}
use Rattle.std.specs.Prelude.{Option, None, Some}
use mathlib.Core.Path.{◌≡◌, refl, ap, ◌∙◌}
use native.Mathlib.Decide.{ℕ_discrete}
use native.Mathlib.Omega.{arith}
use borrow.Author.Tests.{eqb-true, eq-eqb, ne_eqb}
use lib.Dec.{eqb}
use lib.ListN.{length, get_or, set}
use lib.Seq.{get_or-set_same, get_or-set_other}
use Rattle.laws.proofs.Booleans.{same_test}
use Rattle.classes.specs.Class.{Class}
use Rattle.classes.specs.Group.{class_of, same_class}
use Rattle.questions.specs.Inner.{place_number, Placed, same_place}

-- a table that holds below e, and the answer for e written into it
pub placed-more : (cs : List Class) (places : List ℕ) (e v : ℕ) → e < length places → Placed cs e places → v ≡ place_number (class_of cs e) → Placed cs (e + 1) (set places e v)
placed-more cs places e v l h q j m = at (ℕ_discrete j e)
  where
    at : Dec (j ≡ e) → get_or (set places e v) j 0 ≡ place_number (class_of cs j)
    at (yes t) = rw t (get_or-set_same places e v 0 l ∙ q)
    at (no t) = get_or-set_other places e j v 0 t ∙ h j (omega arith)

-- by the table of the arena's nodes two are in one class if they are
pub same-placed : (cs : List Class) (n : ℕ) (places : List ℕ) → Placed cs n places → (x y : ℕ) → x < n → y < n → same_place places x y ≡ same_class cs x y
unfolding same_place same_class place_number
same-placed cs n places h x y lx ly = go (class_of cs x) (class_of cs y) refl refl
  where
    number : (e : ℕ) → e < n → (o : Option ℕ) → class_of cs e ≡ o → get_or places e 0 ≡ place_number o
    number e l o q = h e l ∙ ap place_number q

    go : (o p : Option ℕ) → class_of cs x ≡ o → class_of cs y ≡ p → same_place places x y ≡ same_class cs x y
    go None None e f = rw (number x lx None e, e, f)
    go None (Some j) e f = rw (number x lx None e, e, f)
    go (Some i) None e f = rw (number x lx (Some i) e, number y ly None f, e, f, ne_eqb (i + 1) 0 (λ z. omega arith))
    go (Some i) (Some j) e f =
        rw (number x lx (Some i) e, number y ly (Some j) f, e, f, ne_eqb (i + 1) 0 (λ z. omega arith))
        (same_test (eqb (i + 1) (j + 1)) (eqb i j) (λ t. let q : i + 1 ≡ j + 1 = eqb-true _ _ t in eq-eqb i j (omega arith)) (λ t. let q : i ≡ j = eqb-true _ _ t in eq-eqb (i + 1) (j + 1) (omega arith)))
