-- A contract that is one equation leaves no choice.
use mathlib.Core.Path.{◌≡◌, sym, ◌∙◌}

-- every public contract is one equation, what is answered and left ≡ a function of what was given; so two results that meet it are equal
pub one-result : {A : Type 0} {x a b : A} → a ≡ x → b ≡ x → a ≡ b
one-result p q = p ∙ sym q
