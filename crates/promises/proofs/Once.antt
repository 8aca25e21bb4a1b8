-- A contract leaves one result: the shapes in which the files Once*.antt say it. `meets r s` is what a contract says of an answer r and of the parameters afterwards, s; what is lent is read out of s.
use Prim.Native.Nat.{ℕ}
use mathlib.Core.List.{List}
use mathlib.Core.Path.{◌≡◌}

-- the answer
abbrev pub OneAnswer : {R S : Type 0} → (R → S → Type 0) → Type 0
OneAnswer {R} {S} meets = (r r' : R) (s s' : S) → meets r s → meets r' s' → r ≡ r'

-- what is lent, where nothing is answered
abbrev pub OneLent : {R S : Type 0} → (S → List ℕ) → (R → S → Type 0) → Type 0
OneLent {R} {S} lent meets = (r r' : R) (s s' : S) → meets r s → meets r' s' → lent s ≡ lent s'

-- the answer and what is lent
abbrev pub OneWith : {R S : Type 0} → (S → List ℕ) → (R → S → Type 0) → Type 0
OneWith {R} {S} lent meets = (r r' : R) (s s' : S) → meets r s → meets r' s' → ◌≡◌ {A = R × List ℕ} (r, lent s) (r', lent s')

-- the answer and what is lent in two places
abbrev pub OneWithBoth : {R S : Type 0} → (S → List ℕ) → (S → List ℕ) → (R → S → Type 0) → Type 0
OneWithBoth {R} {S} lent also meets =
    (r r' : R) (s s' : S) → meets r s → meets r' s' → ◌≡◌ {A = (R × List ℕ) × List ℕ} ((r, lent s), also s) ((r', lent s'), also s')

-- the part of the caller's memory that is handed back
abbrev pub OnePart : {R S : Type 0} → (R → List ℕ) → (R → S → Type 0) → Type 0
OnePart {R} {S} part meets = (r r' : R) (s s' : S) → meets r s → meets r' s' → part r ≡ part r'
