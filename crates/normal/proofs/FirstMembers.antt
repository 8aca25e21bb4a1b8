-- The first member of an expression's class, and a table of them.
use Prim.Native.Nat.{ℕ, ◌+◌, ◌<◌}
use mathlib.Core.Bool.{true}
use mathlib.Core.List.{List, [], ◌∷◌}
use Rattle.std.specs.Prelude.{Option, None, Some}
use mathlib.Core.Path.{◌≡◌, refl, ◌∙◌}
use native.Mathlib.Decide.{ℕ_discrete}
use native.Mathlib.Omega.{arith}
use lib.ListN.{length, get_or, set}
use lib.Seq.{get_or-set_same, get_or-set_other}
use Rattle.laws.proofs.Booleans.{true_not_false}
use Rattle.arena.specs.Node.{Node}
use Rattle.classes.specs.Class.{Class}
use Rattle.classes.specs.Group.{among, class_at, class_of}
use Rattle.classes.specs.Good.{Good}
use Rattle.classes.specs.Inner.{Coded}
use Rattle.classes.specs.Layout.{decode}
use Rattle.classes.specs.declared.Group.{Group}
use Rattle.classes.proofs.Codec.{size_is}
use Rattle.classes.proofs.Places.{get_or-among, class_of-some, class-flat}
use Rattle.normal.specs.Normal.{first_at, first_of}
use Rattle.normal.specs.Inner.{Firsts}

-- a class that was found is not empty
filled-list : (e : ℕ) (l : List ℕ) → among e l ≡ true → 0 < length l
unfolding among
filled-list e [] q = absurd (true_not_false q refl)
filled-list e (m ∷ ms) q = omega arith

pub place-filled : (g : Group) (e i : ℕ) → Coded g → class_of (decode g) e ≡ Some i → 0 < get_or g.sizes i 0
place-filled g e i c q =
    let f = class_of-some (decode g) e i q in
    omega (arith, size_is g c i, filled-list e (class_at (decode g) i).members f.1)

-- the first member of the class that was found
pub first-at : (cs : List Class) (e i : ℕ) → class_of cs e ≡ Some i → get_or (class_at cs i).members 0 0 ≡ first_of cs e
unfolding first_of first_at
first-at cs e i q = rw q

-- an expression in no class
pub first-nowhere : (cs : List Class) (e : ℕ) → class_of cs e ≡ None → e ≡ first_of cs e
unfolding first_of first_at
first-nowhere cs e q = rw q

-- a table that holds below e, and the answer for e written into it
pub firsts_more : (cs : List Class) (firsts : List ℕ) (e v : ℕ) → e < length firsts → Firsts cs e firsts → v ≡ first_of cs e → Firsts cs (e + 1) (set firsts e v)
firsts_more cs firsts e v l h q j m = at (ℕ_discrete j e)
  where
    at : Dec (j ≡ e) → get_or (set firsts e v) j 0 ≡ first_of cs j
    at (yes t) = rw t (get_or-set_same firsts e v 0 l ∙ q)
    at (no t) = get_or-set_other firsts e j v 0 t ∙ h j (omega arith)

-- the first member of an arena's node is one
pub first-inside : (ns : List Node) (cs : List Class) → Good ns cs → (e : ℕ) → e < length ns → first_of cs e < length ns
unfolding first_of first_at
first-inside ns cs g e l = go (class_of cs e) refl
  where
    go : (o : Option ℕ) → class_of cs e ≡ o → first_at cs e o < length ns
    go None q = l
    go (Some i) q =
        let f = class_of-some cs e i q in
        let m = (class_at cs i).members in
        g.inside (get_or m 0 0) (class-flat cs (get_or m 0 0) i f.0 (get_or-among m 0 (filled-list e m f.1)))
