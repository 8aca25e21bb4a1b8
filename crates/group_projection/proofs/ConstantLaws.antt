-- Constants said one after the other: of the targets of a source, and source by source.
use Rattle.std.specs.Prelude.{if◌then◌else◌, None, Some, Ok, Err}
use Prim.Native.Nat.{ℕ, zero, suc, ◌+◌, ◌<◌, ◌≤◌}
use mathlib.Core.Bool.{Bool, true, false}
use mathlib.Core.List.{List, [], ◌∷◌, ◌++◌, map, append-nil}
use mathlib.Core.Path.{◌≡◌, refl, sym, ap, ◌∙◌, subst}
use native.Mathlib.Numerals.{add-one}
use native.Mathlib.Omega.{arith}
use lib.ListN.{length, get_or, drop, length-map, drop_of_length-le}
use Rattle.arena.specs.Node.{Node}
use Rattle.classes.specs.declared.Constant.{Constant}
use Rattle.classes.specs.declared.Constant.TheVariants.{NoConstant as no_constant, Heterogeneous as heterogeneous, Unknown as unknown, Known as known}
use Rattle.classes.specs.Class.{Class, is_constant}
use Rattle.classes.specs.Group.{with_constant}
use Rattle.classes.specs.Steps.{fits, judged, refused}
use Rattle.classes.specs.Layout.{encode, decode}
use Rattle.arena.specs.Refusals.{refusal}
use Rattle.arena.specs.declared.Refusal.{Refusal}
use Rattle.arena.specs.declared.Refusal.TheVariants.{GroupFull}
use Rattle.arena.proofs.Refusals.{ok-not-err}
use Rattle.classes.specs.Calls.{changed, answer_of}
use Rattle.classes.specs.declared.Group.{Group}
use Rattle.classes.specs.declared.Changed.{Changed}
use Rattle.classes.proofs.Codec.{built-classes}
use Rattle.demands.proofs.GoodKept.{constant-good}
use Rattle.questions.specs.Questions.{expr_constant}
use Rattle.merging.specs.Inner.{AllBelow}
use Rattle.mappings.specs.Mapping.{Mapped}
use Rattle.projection_table.proofs.TableLaws.{none-some}
use Rattle.group_projection.specs.Group.{new_constants, constants_said}
use Rattle.group_projection.specs.Inner.{Grouped, made_or_none, Made}
use Rattle.group_projection.proofs.ListedLaws.{err-same}
use Rattle.group_projection.proofs.MadeGroups.{Within, within-made, made-within, made-done, made-refused, made-is}

-- ---- one after the other

-- nothing said
abbrev pub nothing_said : ℕ × Constant
nothing_said = (0, no_constant)

-- each of these is said of one of the first n
abbrev pub SaidBelow : ℕ → List (ℕ × Constant) → Type 0
SaidBelow n qs = (k : ℕ) → k < length qs → (get_or qs k nothing_said).0 < n

module _ (two : Bool) (ns : List Node) where
  -- what the first comes to
  module _ (q : ℕ × Constant) (qs : List (ℕ × Constant)) (cs : List Class) where
    pub said-next : fits 256 (with_constant two ns cs q.0 q.1) ≡ true → constants_said two ns (q ∷ qs) cs ≡ constants_said two ns qs (with_constant two ns cs q.0 q.1)
    unfolding constants_said
    said-next f = rw f

    pub said-over : fits 256 (with_constant two ns cs q.0 q.1) ≡ false → constants_said two ns (q ∷ qs) cs ≡ None
    unfolding constants_said
    said-over f = rw f

    -- where all are said, the first fits, and the others are said after it
    pub said-first : (ds : List Class) → constants_said two ns (q ∷ qs) cs ≡ Some ds → (fits 256 (with_constant two ns cs q.0 q.1) ≡ true) × (constants_said two ns qs (with_constant two ns cs q.0 q.1) ≡ Some ds)
    said-first ds e = go (fits 256 (with_constant two ns cs q.0 q.1)) refl
      where
        go : (b : Bool) → fits 256 (with_constant two ns cs q.0 q.1) ≡ b → (fits 256 (with_constant two ns cs q.0 q.1) ≡ true) × (constants_said two ns qs (with_constant two ns cs q.0 q.1) ≡ Some ds)
        go true f = (f, sym (said-next f) ∙ e)
        go false f = absurd (none-some (said-over f) e)

  -- two lists, one after the other: the second where the first fits
  said-both : (qs rs : List (ℕ × Constant)) (cs ds : List Class) → constants_said two ns qs cs ≡ Some ds → constants_said two ns (qs ++ rs) cs ≡ constants_said two ns rs ds
  unfolding constants_said
  said-both [] rs cs ds e = let y : cs ≡ ds = cc e in ap (constants_said two ns rs) y
  said-both (q ∷ qs) rs cs ds e =
      let f = said-first q qs cs ds e in
      said-next q (qs ++ rs) cs f.0 ∙ said-both qs rs (with_constant two ns cs q.0 q.1) ds f.1

  -- nothing where it doesn't
  said_neither : (qs rs : List (ℕ × Constant)) (cs : List Class) → constants_said two ns qs cs ≡ None → constants_said two ns (qs ++ rs) cs ≡ None
  unfolding constants_said
  said_neither [] rs cs e = absurd (none-some e refl)
  said_neither (q ∷ qs) rs cs e = go (fits 256 (with_constant two ns cs q.0 q.1)) refl (said_neither qs rs (with_constant two ns cs q.0 q.1))
    where
      go : (b : Bool) → fits 256 (with_constant two ns cs q.0 q.1) ≡ b
          → (constants_said two ns qs (with_constant two ns cs q.0 q.1) ≡ None → constants_said two ns (qs ++ rs) (with_constant two ns cs q.0 q.1) ≡ None)
          → constants_said two ns (q ∷ (qs ++ rs)) cs ≡ None
      go true f r = said-next q (qs ++ rs) cs f ∙ r (sym (said-next q qs cs f) ∙ e)
      go false f r = said-over q (qs ++ rs) cs f

  -- one that fits makes a group of a group
  within-next : (cs : List Class) (e : ℕ) (c : Constant) → e < length ns → Within ns cs → fits 256 (with_constant two ns cs e c) ≡ true → Within ns (with_constant two ns cs e c)
  within-next cs e c l w f = record { room = f; good = constant-good two ns cs e w.good l c }

  -- and so do all of them
  pub said-within : (qs : List (ℕ × Constant)) (cs ds : List Class) → SaidBelow (length ns) qs → Within ns cs → constants_said two ns qs cs ≡ Some ds → Within ns ds
  unfolding constants_said
  said-within [] cs ds b w e = let y : cs ≡ ds = cc e in subst (Within ns) y w
  said-within (q ∷ qs) cs ds b w e =
      let f = said-first q qs cs ds e in
      said-within qs (with_constant two ns cs q.0 q.1) ds (λ k l. b (suc k) (omega arith)) (within-next cs q.0 q.1 (b 0 (omega arith)) w f.0) f.1

-- ---- the walk over the targets

-- one constant for each of these expressions
abbrev pub said_of : Constant → List ℕ → List (ℕ × Constant)
said_of c ts = map (λ (t : ℕ). (t, c)) ts

-- from place k on
said-rest : (c : Constant) (ts : List ℕ) (k : ℕ) → k < length ts → drop k (said_of c ts) ≡ (get_or ts k 0, c) ∷ drop (suc k) (said_of c ts)
said-rest c [] k l = absurd (omega arith)
said-rest c (t ∷ ts) zero l = refl
said-rest c (t ∷ ts) (suc k) l = said-rest c ts k (omega arith)

-- k are said, and the rest is to be said
pub record SaidTo (ns : List Node) (qs : List (ℕ × Constant)) (cs : List Class) (group : Group) (k : ℕ) : Type 0 where
  pub made : Made ns group
  pub goes : constants_said true ns qs cs ≡ constants_said true ns (drop k qs) (decode group)

module _ (ns : List Node) (c : Constant) (ts : List ℕ) (cs : List Class) where
  -- nothing said yet
  pub said-begins : (out : Group) → Made ns out → cs ≡ decode out → SaidTo ns (said_of c ts) cs out 0
  said-begins out m e = record { made = m; goes = ap (constants_said true ns (said_of c ts)) e }

  module _ (group : Group) (k : ℕ) (h : SaidTo ns (said_of c ts) cs group k) where
    -- all are said
    pub said-ends : length ts ≤ k → ◌≡◌ {A = Grouped} (Ok group) (made_or_none (constants_said true ns (said_of c ts) cs))
    unfolding constants_said
    said-ends l =
        let n : length (said_of c ts) ≤ k = omega (arith, length-map {B = ℕ × Constant} ts (λ (t : ℕ). (t, c))) in
        made-is ns group h.made ∙ sym (ap made_or_none (h.goes ∙ ap (λ (l : List (ℕ × Constant)). constants_said true ns l (decode group)) (drop_of_length-le (said_of c ts) n)))

    module _ (t : ℕ) (l : k < length ts) (q : t ≡ get_or ts k 0) (step : Changed)
        (z : step ≡ changed group.limit (judged group.limit (decode group) (false, with_constant true ns (decode group) t c))) where
      -- what is to be said begins with this one
      rest : drop k (said_of c ts) ≡ (t, c) ∷ drop (k + 1) (said_of c ts)
      rest = said-rest c ts k l ∙ rw (add-one, q)

      -- the classes after it
      abbrev after : List Class
      after = with_constant true ns (decode group) t c

      -- what the step comes to
      abbrev outcome : Changed
      outcome = changed 256 (judged 256 (decode group) (false, after))

      -- the code makes the same
      step_is : step ≡ outcome
      step_is = z ∙ ap (λ (m : ℕ). changed m (judged m (decode group) (false, after))) h.made.limit

      -- it exceeds the bounds
      pub target-over : (why : Refusal) → step.answer ≡ Err why → ◌≡◌ {A = Grouped} (Err why) (made_or_none (constants_said true ns (said_of c ts) cs))
      unfolding made_or_none changed judged refused answer_of refusal
      target-over why n = go (fits 256 after) refl
        where
          go : (b : Bool) → fits 256 after ≡ b → ◌≡◌ {A = Grouped} (Err why) (made_or_none (constants_said true ns (said_of c ts) cs))
          go true f = absurd (let y : outcome.answer ≡ Ok false = rw f in ok-not-err (sym (ap (λ (c : Changed). c.answer) step_is ∙ y) ∙ n))
          go false f = (let y : outcome.answer ≡ Err GroupFull = rw f in ap Err (err-same why GroupFull (sym n ∙ ap (λ (c : Changed). c.answer) step_is ∙ y))) ∙ sym (ap made_or_none (h.goes ∙ ap (λ (l : List (ℕ × Constant)). constants_said true ns l (decode group)) rest ∙ said-over true ns (t, c) (drop (k + 1) (said_of c ts)) (decode group) f))

      -- one more is said
      pub target_more : t < length ns → (done : Bool) → step.answer ≡ Ok done → SaidTo ns (said_of c ts) cs step.group (k + 1)
      unfolding changed judged refused answer_of refusal
      target_more b done n = go (fits 256 after) refl
        where
          go : (b : Bool) → fits 256 after ≡ b → SaidTo ns (said_of c ts) cs step.group (k + 1)
          go false f = absurd (let y : outcome.answer ≡ Err GroupFull = rw f in ok-not-err (sym n ∙ ap (λ (c : Changed). c.answer) step_is ∙ y))
          go true f =
              let y : outcome.group ≡ encode 256 after = rw f in
              let x : step.group ≡ encode 256 after = ap (λ (c : Changed). c.group) step_is ∙ y in
              record {
                made = within-made ns step.group after x (within-next true ns (decode group) t c b (made-within ns group h.made) f);
                goes =
                    h.goes ∙ ap (λ (l : List (ℕ × Constant)). constants_said true ns l (decode group)) rest
                    ∙ said-next true ns (t, c) (drop (k + 1) (said_of c ts)) (decode group) f
                    ∙ sym (ap (constants_said true ns (drop (k + 1) (said_of c ts))) (built-classes 256 after step.group x));
              }

-- ---- source by source

module _ (ns : List Node) (gs : List Class) where
  -- the constants of a source and those of the rest
  pub new-source : (p : Mapped) (ps : List Mapped) → new_constants ns gs (p ∷ ps) ≡ new_constants ns gs (p ∷ []) ++ new_constants ns gs ps
  unfolding new_constants
  new-source p ps =
      sym (ap (λ (l : List (ℕ × Constant)). l ++ new_constants ns gs ps)
      (append-nil (if is_constant (expr_constant ns gs p.source) then said_of (expr_constant ns gs p.source) p.targets else [])))

  -- one that is not constant says nothing
  pub source_silent : (p : Mapped) → is_constant (expr_constant ns gs p.source) ≡ false → new_constants ns gs (p ∷ []) ≡ []
  unfolding new_constants
  source_silent p h = rw h

  -- one that is says it of each target
  pub source-says : (p : Mapped) → is_constant (expr_constant ns gs p.source) ≡ true → new_constants ns gs (p ∷ []) ≡ said_of (expr_constant ns gs p.source) p.targets
  unfolding new_constants
  source-says p h = rw h (append-nil (said_of (expr_constant ns gs p.source) p.targets))

  -- what is not NoConstant is a constant
  constant-is : (c : Constant) → (c ≡ no_constant → ⊥) → is_constant c ≡ true
  unfolding is_constant
  constant-is no_constant n = absurd (n refl)
  constant-is heterogeneous n = refl
  constant-is unknown n = refl
  constant-is (known v) n = refl

  -- by the answer to the constant question
  module _ (p : Mapped) (own : Constant) (e : own ≡ expr_constant ns gs p.source) (out : Group) where
    -- it has none
    pub source-none : own ≡ no_constant → Made ns out → ◌≡◌ {A = Grouped} (Ok out) (made_or_none (constants_said true ns (new_constants ns gs (p ∷ [])) (decode out)))
    unfolding constants_said is_constant
    source-none z w = made-is ns out w ∙ sym (ap (λ (l : List (ℕ × Constant)). made_or_none (constants_said true ns l (decode out))) (source_silent p (ap is_constant (sym e ∙ z))))

    -- it has one
    pub source-some : (own ≡ no_constant → ⊥) → (r : Grouped) → r ≡ made_or_none (constants_said true ns (said_of own p.targets) (decode out))
        → r ≡ made_or_none (constants_said true ns (new_constants ns gs (p ∷ [])) (decode out))
    source-some h r q =
        q
        ∙ ap (λ (c : Constant). made_or_none (constants_said true ns (said_of c p.targets) (decode out))) e
        ∙ sym (ap (λ (l : List (ℕ × Constant)). made_or_none (constants_said true ns l (decode out))) (source-says p (ap is_constant (sym e) ∙ constant-is own h)))

  -- what is said of targets among the first n is said of such
  said-below : (n : ℕ) (c : Constant) (ts : List ℕ) → AllBelow n ts → SaidBelow n (said_of c ts)
  said-below n c [] b k l = absurd (omega arith)
  said-below n c (t ∷ ts) b zero l = b 0 (omega arith)
  said-below n c (t ∷ ts) b (suc k) l = said-below n c ts (λ j m. b (suc j) (omega arith)) k (omega arith)

  pub source-below : (n : ℕ) (p : Mapped) → AllBelow n p.targets → SaidBelow n (new_constants ns gs (p ∷ []))
  source-below n p b = go (is_constant (expr_constant ns gs p.source)) refl
    where
      go : (t : Bool) → is_constant (expr_constant ns gs p.source) ≡ t → SaidBelow n (new_constants ns gs (p ∷ []))
      go true h = subst (SaidBelow n) (sym (source-says p h)) (said-below n (expr_constant ns gs p.source) p.targets b)
      go false h = subst (SaidBelow n) (sym (source_silent p h)) (λ k l. absurd (omega arith))

-- i sources are done, and the rest is to be said
pub record SourcesSaid (ns : List Node) (gs : List Class) (ps : List Mapped) (cs : List Class) (group : Group) (i : ℕ) : Type 0 where
  pub made : Made ns group
  pub goes : constants_said true ns (new_constants ns gs ps) cs ≡ constants_said true ns (new_constants ns gs (drop i ps)) (decode group)

module _ (ns : List Node) (gs : List Class) (ps : List Mapped) (cs : List Class) where
  -- none done
  pub sources-begin : (out : Group) → Made ns out → cs ≡ decode out → SourcesSaid ns gs ps cs out 0
  sources-begin out m e = record { made = m; goes = ap (constants_said true ns (new_constants ns gs ps)) e }

  module _ (group : Group) (i : ℕ) (h : SourcesSaid ns gs ps cs group i) where
    -- all done
    pub sources_end : length ps ≤ i → ◌≡◌ {A = Grouped} (Ok group) (made_or_none (constants_said true ns (new_constants ns gs ps) cs))
    unfolding constants_said new_constants
    sources_end l =
        made-is ns group h.made ∙ sym (ap made_or_none (h.goes ∙ ap (λ (l : List Mapped). constants_said true ns (new_constants ns gs l) (decode group)) (drop_of_length-le ps l)))

    module _ (p : Mapped) (rest : drop i ps ≡ p ∷ drop (i + 1) ps) (step : Grouped) (z : step ≡ made_or_none (constants_said true ns (new_constants ns gs (p ∷ [])) (decode group))) where
      -- this source first
      goes_on : constants_said true ns (new_constants ns gs ps) cs ≡ constants_said true ns (new_constants ns gs (p ∷ []) ++ new_constants ns gs (drop (i + 1) ps)) (decode group)
      goes_on =
          h.goes ∙ ap (λ (l : List Mapped). constants_said true ns (new_constants ns gs l) (decode group)) rest
          ∙ ap (λ (l : List (ℕ × Constant)). constants_said true ns l (decode group)) (new-source ns gs p (drop (i + 1) ps))

      -- it exceeds the bounds
      pub source-over : (why : Refusal) → step ≡ Err why → ◌≡◌ {A = Grouped} (Err why) (made_or_none (constants_said true ns (new_constants ns gs ps) cs))
      source-over why n =
          let o = made-refused (constants_said true ns (new_constants ns gs (p ∷ [])) (decode group)) step z why n in
          sym n ∙ z ∙ ap made_or_none (o ∙ sym (goes_on ∙ said_neither true ns (new_constants ns gs (p ∷ [])) (new_constants ns gs (drop (i + 1) ps)) (decode group) o))

      -- one more is done
      pub source_more : AllBelow (length ns) p.targets → (next : Group) → step ≡ Ok next → SourcesSaid ns gs ps cs next (i + 1)
      source_more b next n =
          let d = made-done (constants_said true ns (new_constants ns gs (p ∷ [])) (decode group)) step z next n in
          let ds = d.0 in
          record {
            made = within-made ns next ds d.1.1 (said-within true ns (new_constants ns gs (p ∷ [])) (decode group) ds (source-below ns gs (length ns) p b) (made-within ns group h.made) d.1.0);
            goes =
                goes_on ∙ said-both true ns (new_constants ns gs (p ∷ [])) (new_constants ns gs (drop (i + 1) ps)) (decode group) ds d.1.0
                ∙ sym (ap (constants_said true ns (new_constants ns gs (drop (i + 1) ps))) (built-classes 256 ds next d.1.1));
          }
