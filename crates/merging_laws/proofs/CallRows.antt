-- The rows on which the groups agree that the public calls hand back, over the functions that their contracts cite.
use Rattle.std.specs.Prelude.{if◌then◌else◌}
use Prim.Native.Nat.{ℕ, ◌<◌}
use mathlib.Core.Bool.{Bool, true, false}
use mathlib.Core.List.{List, Memᴰ}
use mathlib.Core.Path.{◌≡◌, refl, sym, subst}
use borrow.Author.Tests.{eqb-true}
use lib.Dec.{eqb}
use Rattle.arena.specs.Node.{Node}
use Rattle.arena.specs.Expression.{expression_at}
use Rattle.arena.specs.Value.{Meaning, Row, value}
use Rattle.arena.specs.Layout.{decode as nodes}
use Rattle.arena.specs.Calls.{in_cells}
use Rattle.arena.proofs.Layouts.{lawful-holds, decode-encode as nodes-cells}
use Rattle.classes.specs.Class.{Class}
use Rattle.classes.specs.Agree.{MembersAgree}
use Rattle.classes.specs.Layout.{decode}
use Rattle.classes.specs.Calls.{changed_number, no_group}
use Rattle.classes.specs.declared.Group.{Group}
use Rattle.classes.proofs.Codec.{decode-encode}
use Rattle.group_checks.proofs.HeldLaws.{number-fit}
use Rattle.merging.specs.Merging.{from_classes}
use Rattle.lent_classes.specs.Lent.{classes_lent}
use Rattle.lent_classes.specs.Check.{new_number}
use Rattle.arena.specs.Refusals.{refusal}
use native.Mathlib.Omega.{arith}
use Rattle.merging.specs.Calls.{made_group, new_answer}
use Rattle.shifted_classes.specs.Lent.{pairs_lent}
use Rattle.joins.specs.Calls.{join_number, join_by, join_answer}
use Rattle.merging_laws.proofs.BridgingTheorems.{new-agrees}
use Rattle.merging_laws.proofs.JoinLaws.{number-positive, row_from}
use Rattle.merging_laws.proofs.JoinTheorems.{join-agrees}
use Rattle.merging_laws.proofs.HandedBack.{both-checked, kinds_handed, join_out}

-- on a row on which the members of each lent class agree, those of each class that `new` hands back agree
pub new-call-agrees : {A : Type 0} (cells numbers : List ℕ) (m : Meaning A) (row : Row A) → changed_number (new_answer cells numbers) ≡ 0
    → MembersAgree (nodes cells) (classes_lent numbers) m row → MembersAgree (nodes cells) (decode (new_answer cells numbers).group) m row
unfolding new_answer made_group no_group
new-call-agrees cells numbers m row z h = go (eqb (new_number cells numbers) 0) refl z
  where
    go : (b : Bool) → eqb (new_number cells numbers) 0 ≡ b → changed_number (if b then made_group (from_classes (classes_lent numbers)) else no_group (new_number cells numbers)) ≡ 0
        → MembersAgree (nodes cells) (decode (if b then made_group (from_classes (classes_lent numbers)) else no_group (new_number cells numbers)).group) m row
    go true q z =
        subst (λ (cs : List Class). MembersAgree (nodes cells) cs m row) (sym (decode-encode 256 (from_classes (classes_lent numbers))))
        (new-agrees (nodes cells) (classes_lent numbers) m row h)
    go false q z = absurd (omega (arith, z, number-positive (refusal (new_number cells numbers))))

module _ (cells : List ℕ) (left right : Group) (kind size : ℕ) (numbers : List ℕ) {A : Type 0} (m : Meaning A) (row : Row A) where
  -- Inner, Left, Full and Right: on a row on which the left classes agree, the right ones as they are read through the shift, and for Inner the two sides of each lent pair, the classes that join hands back agree, over the arena as it is left
  pub join-call-agrees : kind < 4 → changed_number (join_answer cells left right kind size numbers).0 ≡ 0
      → MembersAgree (nodes cells) (decode left) m row → MembersAgree (nodes cells) (decode right) m (row_from size row)
      → (kind ≡ 0 → (a b : ℕ) → Memᴰ (a, b) (pairs_lent numbers) → value (expression_at (nodes cells) a) m row ≡ value (expression_at (nodes cells) b) m (row_from size row))
      → MembersAgree (nodes (join_answer cells left right kind size numbers).1) (decode (join_answer cells left right kind size numbers).0.group) m row
  unfolding join_answer in_cells
  join-call-agrees l z hl hr hp = go (eqb (join_number cells left right kind numbers) 0) refl z
    where
      go : (b : Bool) → eqb (join_number cells left right kind numbers) 0 ≡ b → changed_number (join_out cells left right kind size numbers b).0 ≡ 0 → MembersAgree (nodes (join_out cells left right kind size numbers b).1) (decode (join_out cells left right kind size numbers b).0.group) m row
      go true q z =
          let o = join_by left right kind size (pairs_lent numbers) (nodes cells) in
          let c = both-checked cells left right kind numbers (eqb-true (join_number cells left right kind numbers) 0 q) in
          let h = kinds_handed cells left right kind size numbers c o.0 o.1 refl z in
          subst (λ (ns : List Node). MembersAgree ns (decode o.0.group) m row) (sym (nodes-cells o.1 h.sound))
          (join-agrees left right kind size (pairs_lent numbers) (nodes cells) o.0 o.1 refl z l m row (lawful-holds cells c.cells-lawful).sound
          (number-fit cells left c.left_valid).good (number-fit cells right c.right_valid).good c.sides hl hr hp)
      go false q z = absurd (omega (arith, z, number-positive (refusal (join_number cells left right kind numbers))))
