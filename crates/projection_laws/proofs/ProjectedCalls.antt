-- What the calls that project answer and leave: a number has the expression's value, a projection that fails adds nothing, a refusal leaves every cell and the output as they were, and the arena stays sound.
use Rattle.std.specs.Prelude.{if◌then◌else◌, Option, None, Some, Ok, Err}
use Prim.Native.Nat.{ℕ, ◌<◌}
use mathlib.Core.Bool.{Bool, true, false}
use mathlib.Core.List.{List, ◌++◌, map}
use mathlib.Core.Path.{◌≡◌, refl, sym, ap, ◌∙◌, subst}
use native.Mathlib.Decide.{ℕ_discrete}
use native.Mathlib.Omega.{arith}
use borrow.Author.Tests.{ltb-true, lt-ltb}
use lib.Dec.{ltb, leb}
use lib.ListN.{length, get_or, drop}
use Rattle.laws.specs.Tests.{each}
use Rattle.arena.specs.declared.Refusal.{Refusal}
use Rattle.arena.specs.declared.Refusal.TheVariants.{UnknownExpression}
use Rattle.arena.specs.Refusals.{refusal}
use Rattle.arena.specs.Node.{Node}
use Rattle.arena.specs.Expression.{Expression, expression_at}
use Rattle.arena.specs.Value.{Meaning, Row, value}
use Rattle.arena.specs.Arena.{Sound, Extends, Placed, placed, full, add_expression}
use Rattle.arena.specs.Layout.{encode, lawful, decode as nodes}
use Rattle.arena.specs.Calls.{in_cells}
use Rattle.arena.specs.Inner.{Holds}
use Rattle.arena.proofs.Nodes.{extends-none}
use Rattle.arena.proofs.Growing.{add-expression}
use Rattle.arena.proofs.Layouts.{decode-encode, encode-holds, coded-cells, holds-lawful}
use Rattle.classes.specs.Class.{Class}
use Rattle.classes.specs.Layout.{decode}
use Rattle.classes.specs.Agree.{MembersAgree}
use Rattle.classes.specs.declared.Group.{Group}
use Rattle.normal.specs.Calls.{on_checked}
use Rattle.normal.proofs.Calling.{checked-done, checked_refused}
use Rattle.mappings.specs.Mapping.{Mapped}
use Rattle.mappings.specs.Lent.{mapping_lent}
use Rattle.mappings.specs.Calls.{project_number}
use Rattle.mappings.specs.Agree.{TargetsAgree, Over}
use Rattle.projection_table.specs.Projecting.{projection, project_all}
use Rattle.projection.specs.Calls.{Projected, placed_answer, projected_answer, project_expr, projected_expr, output_of, written_answer, project_expressions, projected_expressions}
use Rattle.projection.proofs.CallLaws.{each_below, lent-holds}
use Rattle.projection_laws.proofs.ProjectedValue.{projection-value, projection-small}
use Rattle.projection_laws.proofs.ProjectedList.{ProjectedAt, project_all-is}
use Rattle.projection_laws.proofs.LentOver.{number-over}

-- ---- the projection of one expression

-- what the answer k says: the expression is known and has a projection, and k is its number in a sound extension of the arena
pub record ProjectedTo (ns : List Node) (cs : List Class) (ps : List Mapped) (e k : ℕ) (ms : List Node) : Type 0 where
  pub known : e < length ns
  pub sound : Sound ms
  pub extends : Extends ns ms
  pub below : k < length ms
  pub is : projection ns cs ps e ≡ Some (expression_at ms k)

module _ (ns : List Node) (cs : List Class) (ps : List Mapped) (e : ℕ) where
  -- what every answer says of the arena afterwards: a number's, as above; else it is as it was
  unfoldable pub Answered : Projected → List Node → Type 0
  Answered (Ok (Some k)) ms = ProjectedTo ns cs ps e k ms
  Answered (Ok None) ms = (ms ≡ ns) × (projection ns cs ps e ≡ None)
  Answered (Err why) ms = ms ≡ ns

  module _ (s : Sound ns) (o : Over ns ps) where
    -- and so says the call's
    pub project_expr-answered : Answered (project_expr e ps ns cs).0 (project_expr e ps ns cs).1
    unfolding Answered project_expr projected_answer placed_answer
    project_expr-answered = go (ltb e (length ns)) refl (projection ns cs ps e) refl
      where
        added : e < length ns → (x : Expression) → projection ns cs ps e ≡ Some x → (p : Placed ℕ) → add_expression x ns ≡ p → Answered (placed_answer ns p).0 (placed_answer ns p).1
        added l x q (placed k ms) t =
            let a = add-expression x ns s (projection-small ns cs ps s o e l x q) k ms t in
            record { known = l; sound = a.sound; extends = a.extends; below = a.below; is = q ∙ ap (λ (y : Expression). Some y) (sym a.is) }
        added l x q full t = refl

        known : e < length ns → (x : Option Expression) → projection ns cs ps e ≡ x → Answered (projected_answer ns x).0 (projected_answer ns x).1
        known l None q = (refl, q)
        known l (Some x) q = added l x q (add_expression x ns) refl

        answer : Bool → Option Expression → Projected × List Node
        answer b x = if b then projected_answer ns x else (Err UnknownExpression, ns)

        go : (b : Bool) → ltb e (length ns) ≡ b → (x : Option Expression) → projection ns cs ps e ≡ x → Answered (answer b x).0 (answer b x).1
        go true t x q = known (ltb-true e (length ns) t) x q
        go false t x q = refl

  -- a projection that fails adds nothing
  pub failed-adds-nothing : projection ns cs ps e ≡ None → e < length ns → project_expr e ps ns cs ≡ (Ok None, ns)
  unfolding project_expr projected_answer
  failed-adds-nothing q l = rw (lt-ltb e (length ns) l, q)

-- ---- the projections of a list of expressions

-- what the call on a list comes to: done, an answer for each expression is written from the output's first place on; else output and arena are as they were
pub record ListProjected (ns : List Node) (cs : List Class) (ps : List Mapped) (es out : List ℕ) (r : (ℕ × List ℕ) × List Node) : Type 0 where
  pub sound : Sound r.1
  pub extends : Extends ns r.1
  pub known : r.0.0 ≡ 0 → (j : ℕ) → j < length es → get_or es j 0 < length ns
  pub done : r.0.0 ≡ 0 → (ks : List (Option ℕ)) × (ProjectedAt ns cs ps es ks r.1 × (r.0.1 ≡ map output_of ks ++ drop (length ks) out))
  pub refused : (r.0.0 ≡ 0 → ⊥) → (r.0.1 ≡ out) × (r.1 ≡ ns)

module _ (ns : List Node) (cs : List Class) (ps : List Mapped) (es out : List ℕ) (s : Sound ns) (o : Over ns ps) where
  -- a refusal
  list-refused : (n : ℕ) → (n ≡ 0 → ⊥) → ListProjected ns cs ps es out ((n, out), ns)
  list-refused n z = record { sound = s; extends = extends-none ns; known = λ e. absurd (z e); done = λ e. absurd (z e); refused = λ h. (refl, refl) }

  -- the call on known and unknown expressions
  pub project_expressions-is : ListProjected ns cs ps es out (project_expressions es out ps ns cs)
  unfolding project_expressions written_answer
  project_expressions-is = go (each (λ k. ltb (get_or es k 0) (length ns)) (length es)) refl (project_all ns cs ps es) refl
    where
      written : ((j : ℕ) → j < length es → get_or es j 0 < length ns) → (b : Bool) (ks : List (Option ℕ)) (ms : List Node) → ProjectedAt ns cs ps es ks ms
          → ListProjected ns cs ps es out (if b then ((0, map output_of ks ++ drop (length ks) out), ms) else ((8, out), ns))
      written below true ks ms h = record { sound = h.sound; extends = h.extends; known = λ e. below; done = λ e. (ks, (h, refl)); refused = λ z. absurd (z refl) }
      written below false ks ms h = list-refused 8 (λ z. omega arith)

      go : (b : Bool) → each (λ k. ltb (get_or es k 0) (length ns)) (length es) ≡ b → (p : Placed (List (Option ℕ))) → project_all ns cs ps es ≡ p
          → ListProjected ns cs ps es out (if b then written_answer out ns p else ((1, out), ns))
      go true t (placed ks ms) q =
          let below = each_below es (length ns) t in
          written below (leb (length ks) (length out)) ks ms (project_all-is ns cs ps es s o below ks ms q)
      go true t full q = list-refused 3 (λ z. omega arith)
      go false t p q = list-refused 1 (λ z. omega arith)

-- ---- on lent cells, a lent group and a lent mapping

-- a call after its check, by whether it passes: what holds of the outcome and of the refusal holds of the call
pub checked-by : {A : Type 0} (number : ℕ) (refused_by : ℕ → A) (call : List Node → List Class → A × List Node) (cells : List ℕ) (g : Group) (P : A × List ℕ → Type 0)
    → (number ≡ 0 → P (in_cells (call (nodes cells) (decode g)))) → ((number ≡ 0 → ⊥) → P (refused_by number, cells)) → P (on_checked number refused_by call cells g)
checked-by number refused_by call cells g P passed not-passed = go (ℕ_discrete number 0)
  where
    go : Dec (number ≡ 0) → P (on_checked number refused_by call cells g)
    go (yes z) = subst P (sym (checked-done number refused_by call cells g z)) (passed z)
    go (no z) = subst P (checked_refused number refused_by call cells g z) (not-passed z)

module _ (cells : List ℕ) (g : Group) (numbers : List ℕ) where
  module _ (e : ℕ) where
    -- the call over nodes
    abbrev one : Projected × List Node
    one = project_expr e (mapping_lent numbers) (nodes cells) (decode g)

    -- what its answer says
    one-answered : project_number cells g numbers ≡ 0 → Answered (nodes cells) (decode g) (mapping_lent numbers) e one.0 one.1
    one-answered z = project_expr-answered (nodes cells) (decode g) (mapping_lent numbers) e (lent-holds cells numbers g z).sound (number-over cells g numbers z)

    -- what every answer says of the cells afterwards: where it is a number, all that is lent passed and the number is the projection's; else they are as they were
    unfoldable CellsAnswered : Projected → List ℕ → Type 0
    CellsAnswered (Ok (Some k)) cells' = (project_number cells g numbers ≡ 0) × (Holds cells' × ProjectedTo (nodes cells) (decode g) (mapping_lent numbers) e k (nodes cells'))
    CellsAnswered (Ok None) cells' = cells' ≡ cells
    CellsAnswered (Err why) cells' = cells' ≡ cells

    -- and so says the call's
    cells-answered : CellsAnswered (projected_expr e numbers cells g).0 (projected_expr e numbers cells g).1
    unfolding CellsAnswered Answered in_cells
    cells-answered =
        checked-by (project_number cells g numbers) (λ k. Err (refusal k)) (project_expr e (mapping_lent numbers)) cells g (λ (r : Projected × List ℕ). CellsAnswered r.0 r.1)
        (λ z. go z one.0 one.1 (one-answered z)) (λ z. refl)
      where
        go : project_number cells g numbers ≡ 0 → (a : Projected) (ms : List Node) → Answered (nodes cells) (decode g) (mapping_lent numbers) e a ms → CellsAnswered a (encode ms)
        go z (Ok (Some k)) ms h = (z, (encode-holds ms h.sound, subst (ProjectedTo (nodes cells) (decode g) (mapping_lent numbers) e k) (sym (decode-encode ms h.sound)) h))
        go z (Ok None) ms h = ap encode h.0 ∙ coded-cells cells (lent-holds cells numbers g z)
        go z (Err why) ms h = ap encode h ∙ coded-cells cells (lent-holds cells numbers g z)

    -- a number that the call answers has on the output row the value that the expression has on the input row
    pub expr-value : {A : Type 0} (k : ℕ) (cells' : List ℕ) → projected_expr e numbers cells g ≡ (Ok (Some k), cells') → (m : Meaning A) (row out : Row A)
        → MembersAgree (nodes cells) (decode g) m row → TargetsAgree (nodes cells) (mapping_lent numbers) m row out
        → value (expression_at (nodes cells') k) m out ≡ value (expression_at (nodes cells) e) m row
    unfolding CellsAnswered
    expr-value k cells' q m row out agree targets =
        let c = subst (λ (r : Projected × List ℕ). CellsAnswered r.0 r.1) q cells-answered in
        let t = c.1.1 in
        projection-value (nodes cells) (decode g) (mapping_lent numbers) (lent-holds cells numbers g c.0).sound (number-over cells g numbers c.0) m row out agree targets
        e t.known (expression_at (nodes cells') k) t.is

    -- an answer that there is no projection leaves every cell as it was
    pub expr-nothing : (projected_expr e numbers cells g).0 ≡ Ok None → (projected_expr e numbers cells g).1 ≡ cells
    unfolding CellsAnswered
    expr-nothing q = subst (λ (a : Projected). CellsAnswered a (projected_expr e numbers cells g).1) q cells-answered

    -- so does a refusal
    pub expr-refused : (why : Refusal) → (projected_expr e numbers cells g).0 ≡ Err why → (projected_expr e numbers cells g).1 ≡ cells
    unfolding CellsAnswered
    expr-refused why q = subst (λ (a : Projected). CellsAnswered a (projected_expr e numbers cells g).1) q cells-answered

    -- cells that are an arena stay one
    pub expr-lawful : lawful cells ≡ true → lawful (projected_expr e numbers cells g).1 ≡ true
    unfolding CellsAnswered
    expr-lawful l = go (projected_expr e numbers cells g).0 (projected_expr e numbers cells g).1 cells-answered
      where
        go : (a : Projected) (cells' : List ℕ) → CellsAnswered a cells' → lawful cells' ≡ true
        go (Ok (Some k)) cells' h = holds-lawful cells' h.1.0
        go (Ok None) cells' h = ap lawful h ∙ l
        go (Err why) cells' h = ap lawful h ∙ l

  module _ (es out : List ℕ) where
    -- the call over nodes
    abbrev pub all : (ℕ × List ℕ) × List Node
    all = project_expressions es out (mapping_lent numbers) (nodes cells) (decode g)

    -- what it comes to
    pub all-projected : project_number cells g numbers ≡ 0 → ListProjected (nodes cells) (decode g) (mapping_lent numbers) es out all
    all-projected z = project_expressions-is (nodes cells) (decode g) (mapping_lent numbers) es out (lent-holds cells numbers g z).sound (number-over cells g numbers z)

    -- a refusal leaves the output and every cell as they were
    pub expressions-refused : ((projected_expressions es out numbers cells g).0.0 ≡ 0 → ⊥) → ((projected_expressions es out numbers cells g).0.1 ≡ out) × ((projected_expressions es out numbers cells g).1 ≡ cells)
    unfolding in_cells
    expressions-refused =
        checked-by (project_number cells g numbers) (λ k. (k, out)) (project_expressions es out (mapping_lent numbers)) cells g
        (λ (r : (ℕ × List ℕ) × List ℕ). (r.0.0 ≡ 0 → ⊥) → (r.0.1 ≡ out) × (r.1 ≡ cells))
        (λ z q. let h = (all-projected z).refused q in (h.0, ap encode h.1 ∙ coded-cells cells (lent-holds cells numbers g z))) (λ z q. (refl, refl))

    -- cells that are an arena stay one
    pub expressions-lawful : lawful cells ≡ true → lawful (projected_expressions es out numbers cells g).1 ≡ true
    unfolding in_cells
    expressions-lawful l =
        checked-by (project_number cells g numbers) (λ k. (k, out)) (project_expressions es out (mapping_lent numbers)) cells g (λ (r : (ℕ × List ℕ) × List ℕ). lawful r.1 ≡ true)
        (λ z. holds-lawful (encode all.1) (encode-holds all.1 (all-projected z).sound)) (λ z. l)
