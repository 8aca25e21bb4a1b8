-- What the call on a list of expressions writes: for each that there is no projection, or the number of one, which has the expression's value.
use Prim.Native.Nat.{ℕ, ◌<◌}
use mathlib.Core.List.{List, ◌++◌, map}
use Rattle.std.specs.Prelude.{Option, None, Some}
use mathlib.Core.Path.{◌≡◌, refl, sym, ap, ◌∙◌, subst}
use native.Mathlib.Omega.{arith}
use lib.ListN.{length, get_or, drop, length-map, get_or-append}
use Rattle.arena.specs.Node.{Node}
use Rattle.arena.specs.Expression.{Expression, expression_at}
use Rattle.arena.specs.Value.{Meaning, Row, value}
use Rattle.arena.specs.Arena.{Sound}
use Rattle.arena.specs.Layout.{encode, decode as nodes}
use Rattle.arena.specs.Calls.{in_cells}
use Rattle.arena.proofs.Layouts.{decode-encode}
use Rattle.classes.specs.Layout.{decode}
use Rattle.classes.specs.Agree.{MembersAgree}
use Rattle.classes.specs.declared.Group.{Group}
use Rattle.mappings.specs.Lent.{mapping_lent}
use Rattle.mappings.specs.Calls.{project_number}
use Rattle.mappings.specs.Agree.{TargetsAgree}
use Rattle.projection_table.specs.Projecting.{projection}
use Rattle.projection.specs.Calls.{output_of, project_expressions, projected_expressions}
use Rattle.projection.proofs.CallLaws.{lent-holds}
use Rattle.projection_laws.proofs.ProjectedValue.{projection-value}
use Rattle.projection_laws.proofs.ProjectedList.{Answers, mapped_at_lem}
use Rattle.projection_laws.proofs.LentOver.{number-over}
use Rattle.projection_laws.proofs.ProjectedCalls.{checked-by, all, all-projected}

-- what an entry of the output says of a projection: that there is none, or its number
pub record Written (ms : List Node) (x : Option Expression) (entry : ℕ) : Type 0 where
  pub absent : entry ≡ 4294967295 → x ≡ None
  pub number : (entry ≡ 4294967295 → ⊥) → (entry < length ms) × (x ≡ Some (expression_at ms entry))

-- an answer as it is written; no expression has the number that says that there is none
answer-written : (ms : List Node) → Sound ms → (x : Option Expression) (answer : Option ℕ) → Answers ms x answer → Written ms x (output_of answer)
unfolding Answers output_of
answer-written ms s x None h = record { absent = λ e. h; number = λ z. absurd (z refl) }
answer-written ms s x (Some k) h = record { absent = λ e. absurd (omega (arith, s.few, h.0)); number = λ z. h }

-- entry j of answers that were written
entry_at : (ks : List (Option ℕ)) (rest : List ℕ) (j : ℕ) → j < length ks → get_or (map output_of ks ++ rest) j 0 ≡ output_of (get_or ks j None)
entry_at ks rest j l = get_or-append (map output_of ks) rest 0 j (omega (arith, length-map ks output_of)) ∙ mapped_at_lem output_of ks j None 0 l

module _ (cells : List ℕ) (g : Group) (numbers es out : List ℕ) where
  -- the projection of expression j
  abbrev of : ℕ → Option Expression
  of j = projection (nodes cells) (decode g) (mapping_lent numbers) (get_or es j 0)

  -- what the call says where it is done
  pub record AllDone (out' cells' : List ℕ) : Type 0 where
    pub passed : project_number cells g numbers ≡ 0
    pub known : (j : ℕ) → j < length es → get_or es j 0 < length (nodes cells)
    pub written : (j : ℕ) → j < length es → Written (nodes cells') (of j) (get_or out' j 0)

  -- each entry is that of its expression's projection
  pub expressions-done : (out' cells' : List ℕ) → projected_expressions es out numbers cells g ≡ ((0, out'), cells') → AllDone out' cells'
  unfolding in_cells
  expressions-done out' cells' =
      checked-by (project_number cells g numbers) (λ k. (k, out)) (project_expressions es out (mapping_lent numbers)) cells g
      (λ (r : (ℕ × List ℕ) × List ℕ). r ≡ ((0, out'), cells') → AllDone out' cells') passes (λ z q. absurd (z (ap (λ (r : (ℕ × List ℕ) × List ℕ). r.0.0) q)))
    where
      now : (ℕ × List ℕ) × List Node
      now = all cells g numbers es out

      passes : project_number cells g numbers ≡ 0 → ◌≡◌ {A = (ℕ × List ℕ) × List ℕ} (now.0, encode now.1) ((0, out'), cells') → AllDone out' cells'
      passes z q =
          let h = all-projected cells g numbers es out z in
          let e : now.0.0 ≡ 0 = ap (λ (r : (ℕ × List ℕ) × List ℕ). r.0.0) q in
          let a : now.0.1 ≡ out' = ap (λ (r : (ℕ × List ℕ) × List ℕ). r.0.1) q in
          let c : now.1 ≡ nodes cells' = sym (decode-encode now.1 h.sound) ∙ ap (λ (r : (ℕ × List ℕ) × List ℕ). nodes r.1) q in
          let d = h.done e in
          let p = d.1.0 in
          record {
            passed = z;
            known = h.known e;
            written = λ j l.
                let i : get_or out' j 0 ≡ output_of (get_or d.0 j None) =
                ap (λ (o : List ℕ). get_or o j 0) (sym a ∙ d.1.1) ∙ entry_at d.0 (drop (length d.0) out) j (omega (arith, p.counted)) in
                subst (λ (n : ℕ). Written (nodes cells') (of j) n) (sym i)
                (subst (λ (ms : List Node). Written ms (of j) (output_of (get_or d.0 j None))) c (answer-written now.1 h.sound (of j) (get_or d.0 j None) (p.answers j l)));
          }

  -- an entry that is a number has on the output row the value that its expression has on the input row
  pub expressions-value : {A : Type 0} (out' cells' : List ℕ) → projected_expressions es out numbers cells g ≡ ((0, out'), cells') → (m : Meaning A) (row outrow : Row A)
      → MembersAgree (nodes cells) (decode g) m row → TargetsAgree (nodes cells) (mapping_lent numbers) m row outrow
      → (j : ℕ) → j < length es → (get_or out' j 0 ≡ 4294967295 → ⊥) → value (expression_at (nodes cells') (get_or out' j 0)) m outrow ≡ value (expression_at (nodes cells) (get_or es j 0)) m row
  expressions-value out' cells' q m row outrow agree targets j l z =
      let d = expressions-done out' cells' q in
      projection-value (nodes cells) (decode g) (mapping_lent numbers) (lent-holds cells numbers g d.passed).sound (number-over cells g numbers d.passed) m row outrow agree targets
      (get_or es j 0) (d.known j l) (expression_at (nodes cells') (get_or out' j 0)) ((d.written j l).number z).1

  -- an entry that says so is that of an expression without a projection
  pub expressions-absent : (out' cells' : List ℕ) → projected_expressions es out numbers cells g ≡ ((0, out'), cells') → (j : ℕ) → j < length es → get_or out' j 0 ≡ 4294967295 → of j ≡ None
  expressions-absent out' cells' q j l = ((expressions-done out' cells' q).written j l).absent
