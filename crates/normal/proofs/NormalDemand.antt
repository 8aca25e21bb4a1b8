-- The last sentence of demand 3, over the functions that the contracts cite: for any limit and any sequence of equal conditions, refused ones included, on every row on which all accepted pairs agree, a normal form has the expression's value.
use Rattle.std.specs.Prelude.{Ok}
use Prim.Native.Nat.{ℕ, ◌<◌}
use mathlib.Core.Bool.{true}
use mathlib.Core.List.{List, []}
use mathlib.Core.Path.{◌≡◌, refl, sym, ap, ◌∙◌}
use native.Mathlib.Decide.{ℕ_discrete}
use lib.ListN.{length}
use Rattle.arena.specs.Node.{Node}
use Rattle.arena.specs.Expression.{expression_at}
use Rattle.arena.specs.Value.{Row, Meaning, value}
use Rattle.arena.specs.Arena.{Sound, Extends}
use Rattle.classes.specs.Class.{Class}
use Rattle.classes.specs.Group.{among, class_at, same_class}
use Rattle.classes.specs.Good.{Good}
use Rattle.conditions.specs.Steps.{after, accepted}
use Rattle.classes.proofs.Places.{class_of-only}
use Rattle.demands.proofs.Answers.{place_same}
use Rattle.demands.proofs.Chains.{Equivalence, chain-within}
use Rattle.demands.proofs.Demands.{same_class_exactly}
use Rattle.demands.proofs.GoodKept.{empty-good, after-good}
use Rattle.classes.specs.Agree.{Same, MembersAgree, PairsAgree}
use Rattle.normal.specs.Normal.{normal}
use Rattle.normal.specs.Calls.{normalize_expr}
use Rattle.normal.proofs.NormalValue.{normal_form-value, same-normal_form, same_number-value}

-- to have one value on a row is an equivalence
same_equivalence : {A : Type 0} (ns : List Node) (m : Meaning A) (row : Row A) → Equivalence (λ a b. Same ns m row a b)
same_equivalence ns m row = record { self = λ x. refl; turned = λ x y p. sym p; through = λ x y z p q. p ∙ q }

-- two members of one class are in one class, by the question
members_together : (ns : List Node) (cs : List Class) → Good ns cs → (i a b : ℕ) → i < length cs → among a (class_at cs i).members ≡ true → among b (class_at cs i).members ≡ true → same_class cs a b ≡ true
members_together ns cs g i a b l p q =
    place_same cs a b (record { place = i; left = class_of-only cs g.distinct a i l p; right = class_of-only cs g.distinct b i l q })

-- the group after a sequence of equal conditions, from an empty one
module _ (limit : ℕ) (ns : List Node) (ps : List (ℕ × ℕ)) where
  abbrev group : List Class
  group = after limit ns [] ps

  -- it is a group over the arena
  pub conditions-good : Good ns group
  conditions-good = after-good limit ns [] ps (empty-good ns)

  module _ {A : Type 0} (m : Meaning A) (row : Row A) (h : PairsAgree ns (accepted limit ns [] ps) m row) where
    -- where the accepted pairs agree, so do the members of each class
    pub members-agree : MembersAgree ns group m row
    members-agree i a b l p q = go (ℕ_discrete a b)
      where
        go : Dec (a ≡ b) → Same ns m row a b
        go (yes e) = ap (λ (k : ℕ). value (expression_at ns k) m row) e
        go (no d) =
            chain-within (λ x y. Same ns m row x y) (same_equivalence ns m row) h
            ((same_class_exactly ns limit ps a b d).0 (members_together ns group conditions-good i a b l p q))

    -- the number that the call answers has the expression's value
    pub normal_form-keeps-value : Sound ns → (e i : ℕ) (ms : List Node) → normalize_expr e ns group ≡ (Ok i, ms) → value (expression_at ms i) m row ≡ value (expression_at ns e) m row
    normal_form-keeps-value s e i ms q = normal_form-value e ns group i ms m row s conditions-good members-agree q

    -- expressions with one normal form have one value
    pub one-normal_form : Sound ns → (a b : ℕ) → normal ns group (expression_at ns a) ≡ normal ns group (expression_at ns b) → Same ns m row a b
    one-normal_form s a b e = same-normal_form ns group m row s conditions-good members-agree (expression_at ns a) (expression_at ns b) e

    -- two calls that answer one number, the second on what the first left or on any sound extension of it: one value
    pub one_number : Sound ns → (a b i : ℕ) (ms os qs : List Node) → normalize_expr a ns group ≡ (Ok i, ms) → Sound os → Extends ms os → normalize_expr b os group ≡ (Ok i, qs) → Same os m row a b
    one_number s a b i ms os qs q t y r = same_number-value a b ns group i ms os qs m row s conditions-good members-agree q t y r
