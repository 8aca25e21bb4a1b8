-- Joins by their kind, over the function that the contract cites: on which rows the joined classes agree, and which side the last six kinds keep.
use Rattle.std.specs.Prelude.{if◌then◌else◌}
use Prim.Native.Nat.{ℕ, ◌<◌, ◌≤◌}
use mathlib.Core.Bool.{Bool, true, false}
use mathlib.Core.List.Memᴰ
use mathlib.Core.List.{List, [], Memᴰ, append-nil}
use mathlib.Core.Path.{◌≡◌, refl, sym, ap, ◌∙◌, subst}
use native.Mathlib.Omega.{arith}
use borrow.Author.Tests.{eqb-true, le-leb, lt-leb}
use lib.Dec.{eqb}
use lib.ListN.{length}
use Rattle.arena.specs.Node.{Node}
use Rattle.arena.specs.Expression.{expression_at}
use Rattle.arena.specs.Value.{Meaning, Row, value}
use Rattle.arena.specs.Arena.{Sound}
use Rattle.classes.specs.Class.{Class}
use Rattle.classes.specs.Good.{Good}
use Rattle.classes.specs.Layout.{decode}
use Rattle.classes.specs.declared.Group.{Group}
use Rattle.classes.specs.declared.Changed.{Changed}
use Rattle.classes.proofs.Codec.{decode-encode}
use Rattle.classes.specs.Agree.{MembersAgree}
use Rattle.classes.specs.Calls.{changed_number}
use Rattle.merging.specs.Calls.{made_group}
use Rattle.joins.specs.Kinds.{join_kind}
use Rattle.joins.specs.Calls.{join_shifted, join_by}
use Rattle.merging_laws.proofs.JoinLaws.{SidesBelow, row_from, Made, shifted-made, made-agrees}

-- the pairs that a kind uses: Inner all of them, the others none
abbrev pub used : ℕ → List (ℕ × ℕ) → List (ℕ × ℕ)
used kind ps = if eqb kind 0 then ps else []

module _ (left right : Group) (kind size : ℕ) (ps : List (ℕ × ℕ)) (ns : List Node) where
  -- the first four kinds shift the right side
  pub kinds-shifted : kind < 4 → join_by left right kind size ps ns ≡ join_shifted left (decode right) size (used kind ps) ns
  unfolding join_by join_kind
  kinds-shifted l = rw (le-leb kind 3 (omega arith))

  -- LeftSemi, LeftAnti and LeftMark keep the left classes as they are, and the arena
  pub kinds-left : 4 ≤ kind → kind ≤ 6 → join_by left right kind size ps ns ≡ (made_group (decode left), ns)
  unfolding join_by join_kind
  kinds-left a b =
      rw (lt-leb kind 3 (omega arith), le-leb kind 6 b, lt-leb 7 kind (omega arith)) (ap (λ (cs : List Class). (made_group cs, ns)) (append-nil (decode left)))

  -- RightSemi, RightAnti and RightMark keep the right classes as they are, and the arena
  pub kinds-right : 7 ≤ kind → kind ≤ 9 → join_by left right kind size ps ns ≡ (made_group (decode right), ns)
  unfolding join_by join_kind
  kinds-right a b = rw (lt-leb kind 3 (omega arith), lt-leb kind 6 (omega arith), le-leb 7 kind a)

  -- the sides of the pairs that are used
  pub used-below : SidesBelow (length ns) ps → SidesBelow (length ns) (used kind ps)
  used-below b = go (eqb kind 0)
    where
      go : (t : Bool) → SidesBelow (length ns) (if t then ps else [])
      go true = b
      go false = λ x y m. absurd (Memᴰ.not-nil m)

  module _ (r : Changed) (ms : List Node) (e : join_by left right kind size ps ns ≡ (r, ms)) (z : changed_number r ≡ 0) (l : kind < 4) where
    -- what was made
    pub kinds-made : Made (decode left) (decode right) size (used kind ps) ns r ms
    kinds-made = shifted-made left (decode right) size (used kind ps) ns r ms z (sym (kinds-shifted l) ∙ e)

    -- Inner, Left, Full and Right: on a row on which the left classes agree, the right ones as they are read through the shift, and for Inner the two sides of each pair, the joined classes agree
    pub join-agrees : {A : Type 0} (m : Meaning A) (row : Row A) → Sound ns → Good ns (decode left) → Good ns (decode right) → SidesBelow (length ns) ps
        → MembersAgree ns (decode left) m row → MembersAgree ns (decode right) m (row_from size row)
        → (kind ≡ 0 → (a b : ℕ) → Memᴰ (a, b) ps → value (expression_at ns a) m row ≡ value (expression_at ns b) m (row_from size row))
        → MembersAgree ms (decode r.group) m row
    unfolding made_group
    join-agrees m row s gl gr b hl hr hp =
        let d = kinds-made in
        let q : decode r.group ≡ d.classes = ap (λ (c : Changed). decode c.group) d.is ∙ decode-encode 256 d.classes in
        subst (λ (cs : List Class). MembersAgree ms cs m row) (sym q)
        (made-agrees (decode left) (decode right) size (used kind ps) ns r ms s gl gr (used-below b) d m row hl hr (pairs (eqb kind 0) refl))
      where
        pairs : (t : Bool) → eqb kind 0 ≡ t → (x y : ℕ) → Memᴰ (x, y) (if t then ps else []) → value (expression_at ns x) m row ≡ value (expression_at ns y) m (row_from size row)
        pairs true w x y h = hp (eqb-true kind 0 w) x y h
        pairs false w x y h = absurd (Memᴰ.not-nil h)
