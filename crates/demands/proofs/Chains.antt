-- Demand 3, first sentence: after any sequence of equal conditions, refused ones included, two different expressions are in one class exactly if a chain of accepted pairs joins them.
use Rattle.std.specs.Prelude.{if◌then◌else◌}
use Prim.Native.Nat.{ℕ}
use mathlib.Core.Bool.{Bool, true, false}
use mathlib.Core.List.Memᴰ
use mathlib.Core.List.{List, [], ◌∷◌, ◌++◌, Memᴰ}
use mathlib.Core.Logic.{◌⊎◌, inl, inr, ◌↔◌}
use mathlib.Core.Path.{◌≡◌, refl, sym, subst}
use native.Mathlib.Decide.{ℕ_discrete}
use lib.Dec.{eqb}
use Rattle.laws.proofs.Booleans.{true_not_false}
use Rattle.arena.specs.Node.{Node}
use Rattle.classes.specs.Class.{Class}
use Rattle.classes.specs.Group.{equal_condition, same_class}
use Rattle.conditions.specs.Steps.{add_equal, after, accepted, Chain, here, on, back}
use Rattle.demands.proofs.Step.{With, Step}
use Rattle.demands.proofs.Answers.{same_none, with_sym, with_trans, add_equal_cases}

-- one chain after another
pub chain_trans : {ps : List (ℕ × ℕ)} {x y z : ℕ} → Chain ps x y → Chain ps y z → Chain ps x z
chain_trans here d = d
chain_trans (on m c) d = on m (chain_trans c d)
chain_trans (back m c) d = back m (chain_trans c d)

-- a chain the other way round
pub chain_sym : {ps : List (ℕ × ℕ)} {x y : ℕ} → Chain ps x y → Chain ps y x
chain_sym here = here
chain_sym (on m c) = chain_trans (chain_sym c) (back m here)
chain_sym (back m c) = chain_trans (chain_sym c) (on m here)

-- more pairs at the end, and at the front
pub chain_more : {ps : List (ℕ × ℕ)} (qs : List (ℕ × ℕ)) {x y : ℕ} → Chain ps x y → Chain (ps ++ qs) x y
chain_more qs here = here
chain_more qs (on m c) = on (Memᴰ.append_left qs m) (chain_more qs c)
chain_more qs (back m c) = back (Memᴰ.append_left qs m) (chain_more qs c)

pub chain-before : (qs : List (ℕ × ℕ)) {ps : List (ℕ × ℕ)} {x y : ℕ} → Chain ps x y → Chain (qs ++ ps) x y
chain-before qs here = here
chain-before qs (on m c) = on (Memᴰ.append_right qs m) (chain-before qs c)
chain-before qs (back m c) = back (Memᴰ.append_right qs m) (chain-before qs c)

-- a relation that is an equivalence
pub record Equivalence (R : ℕ → ℕ → Type 0) : Type 0 where
  pub self : (x : ℕ) → R x x
  pub turned : (x y : ℕ) → R x y → R y x
  pub through : (x y z : ℕ) → R x y → R y z → R x z

-- a chain lies within every equivalence that holds its pairs
pub chain-within : (R : ℕ → ℕ → Type 0) → Equivalence R → {ps : List (ℕ × ℕ)} → ((a b : ℕ) → Memᴰ (a, b) ps → R a b) → {x y : ℕ} → Chain ps x y → R x y
chain-within R v h {x} here = v.self x
chain-within R v h (on {a = a} {b = b} {c = c} m r) = v.through a b c (h a b m) (chain-within R v h r)
chain-within R v h (back {a = a} {b = b} {c = c} m r) = v.through a b c (v.turned b a (h b a m)) (chain-within R v h r)

pub chain_equivalence : (ps : List (ℕ × ℕ)) → Equivalence (λ x y. Chain ps x y)
chain_equivalence ps = record { self = λ x. here; turned = λ x y c. chain_sym c; through = λ x y z c d. chain_trans c d }

pub with_equivalence : (cs : List Class) → Equivalence (λ x y. With cs x y)
with_equivalence cs = record { self = λ x. inl refl; turned = with_sym cs; through = with_trans cs }

-- the pairs of a sequence that were accepted: of an accepted first pair itself, of a refused one the rest alone
module _ (limit : ℕ) (ns : List Node) (cs : List Class) (p : ℕ × ℕ) (ps : List (ℕ × ℕ)) where
  accepted-first : (add_equal limit ns p.0 p.1 cs).number ≡ 0 → Memᴰ p (accepted limit ns cs (p ∷ ps))
  unfolding accepted
  accepted-first e = rw e (Memᴰ.head refl)

  accepted-rest : (q : ℕ × ℕ) → Memᴰ q (accepted limit ns (add_equal limit ns p.0 p.1 cs).classes ps) → Memᴰ q (accepted limit ns cs (p ∷ ps))
  unfolding accepted
  accepted-rest q m = Memᴰ.append_right (if eqb (add_equal limit ns p.0 p.1 cs).number 0 then p ∷ [] else []) m

  accepted_cases : (q : ℕ × ℕ) → Memᴰ q (accepted limit ns cs (p ∷ ps))
      → ((q ≡ p) × (eqb (add_equal limit ns p.0 p.1 cs).number 0 ≡ true)) ⊎ Memᴰ q (accepted limit ns (add_equal limit ns p.0 p.1 cs).classes ps)
  unfolding accepted
  accepted_cases q m = go (eqb (add_equal limit ns p.0 p.1 cs).number 0) refl (Memᴰ.append_cases (if eqb (add_equal limit ns p.0 p.1 cs).number 0 then p ∷ [] else []) m)
    where
      rest : List (ℕ × ℕ)
      rest = accepted limit ns (add_equal limit ns p.0 p.1 cs).classes ps

      go : (b : Bool) → eqb (add_equal limit ns p.0 p.1 cs).number 0 ≡ b
          → Memᴰ q (if eqb (add_equal limit ns p.0 p.1 cs).number 0 then p ∷ [] else []) ⊎ Memᴰ q rest
          → ((q ≡ p) × (eqb (add_equal limit ns p.0 p.1 cs).number 0 ≡ true)) ⊎ Memᴰ q rest
      go true e (inl n) = inl (Memᴰ.eq_of_singleton (rw e at n), e)
      go false e (inl n) = absurd (Memᴰ.not-nil (rw e at n))
      go true e (inr n) = inr n
      go false e (inr n) = inr n

module _ (ns : List Node) (OK : List Class → Type 0)
    (ok_step : (cs : List Class) → OK cs → (a b : ℕ) → Step cs a b (equal_condition ns cs a b).1)
    (ok-kept : (limit : ℕ) (cs : List Class) → OK cs → (a b : ℕ) → OK (add_equal limit ns a b cs).classes)
    (ok-none : OK []) where
  -- who was together stays so, after one condition and after a sequence
  pub stays-one : (limit : ℕ) (cs : List Class) → OK cs → (a b x y : ℕ) → same_class cs x y ≡ true → same_class (add_equal limit ns a b cs).classes x y ≡ true
  stays-one limit cs k a b x y h = go (add_equal_cases limit ns a b cs)
    where
      go : (((add_equal limit ns a b cs).number ≡ 0) × ((add_equal limit ns a b cs).classes ≡ (equal_condition ns cs a b).1))
          ⊎ ((eqb (add_equal limit ns a b cs).number 0 ≡ false) × ((add_equal limit ns a b cs).classes ≡ cs))
          → same_class (add_equal limit ns a b cs).classes x y ≡ true
      go (inl e) = rw e.1 ((ok_step cs k a b).stays x y h)
      go (inr e) = rw e.1 h

  pub stays_after : (limit : ℕ) (cs : List Class) → OK cs → (ps : List (ℕ × ℕ)) (x y : ℕ) → same_class cs x y ≡ true → same_class (after limit ns cs ps) x y ≡ true
  unfolding after
  stays_after limit cs k [] x y h = h
  stays_after limit cs k (p ∷ ps) x y h =
      stays_after limit (add_equal limit ns p.0 p.1 cs).classes (ok-kept limit cs k p.0 p.1) ps x y (stays-one limit cs k p.0 p.1 x y h)

  pub ok_after : (limit : ℕ) (cs : List Class) → OK cs → (ps : List (ℕ × ℕ)) → OK (after limit ns cs ps)
  unfolding after
  ok_after limit cs k [] = k
  ok_after limit cs k (p ∷ ps) = ok_after limit (add_equal limit ns p.0 p.1 cs).classes (ok-kept limit cs k p.0 p.1) ps

  -- whoever is together after one condition is related by every equivalence that relates who was together and, if it was accepted, its pair
  one-within : (R : ℕ → ℕ → Type 0) → Equivalence R → (limit : ℕ) (cs : List Class) → OK cs → (a b : ℕ)
      → ((x y : ℕ) → same_class cs x y ≡ true → R x y) → ((add_equal limit ns a b cs).number ≡ 0 → R a b)
      → (x y : ℕ) → same_class (add_equal limit ns a b cs).classes x y ≡ true → R x y
  one-within R v limit cs k a b old new x y h = go (add_equal_cases limit ns a b cs)
    where
      wide : (u w : ℕ) → With cs u w → R u w
      wide u w (inl e) = rw e (v.self w)
      wide u w (inr s) = old u w s

      by : R a b → With cs x y ⊎ ((With cs x a × With cs b y) ⊎ (With cs x b × With cs a y)) → R x y
      by r (inl w) = wide x y w
      by r (inr (inl w)) = v.through x a y (wide x a w.0) (v.through a b y r (wide b y w.1))
      by r (inr (inr w)) = v.through x b y (wide x b w.0) (v.through b a y (v.turned a b r) (wide a y w.1))

      go : (((add_equal limit ns a b cs).number ≡ 0) × ((add_equal limit ns a b cs).classes ≡ (equal_condition ns cs a b).1))
          ⊎ ((eqb (add_equal limit ns a b cs).number 0 ≡ false) × ((add_equal limit ns a b cs).classes ≡ cs))
          → R x y
      go (inl e) = by (new e.0) ((ok_step cs k a b).only x y (rw e.1 at h))
      go (inr e) = old x y (rw e.1 at h)

  -- the same after a sequence: related by every equivalence that relates who was together and each accepted pair
  pub after-within : (R : ℕ → ℕ → Type 0) → Equivalence R → (limit : ℕ) (cs : List Class) → OK cs → (ps : List (ℕ × ℕ))
      → ((x y : ℕ) → same_class cs x y ≡ true → R x y) → ((a b : ℕ) → Memᴰ (a, b) (accepted limit ns cs ps) → R a b)
      → (x y : ℕ) → same_class (after limit ns cs ps) x y ≡ true → R x y
  unfolding after
  after-within R v limit cs k [] old new x y h = old x y h
  after-within R v limit cs k (p ∷ ps) old new x y h =
      after-within R v limit (add_equal limit ns p.0 p.1 cs).classes (ok-kept limit cs k p.0 p.1) ps
      (one-within R v limit cs k p.0 p.1 old (λ e. new p.0 p.1 (accepted-first limit ns cs p ps e)))
      (λ a b m. new a b (accepted-rest limit ns cs p ps (a, b) m)) x y h

  -- an accepted pair is together after the condition
  pair-joined : (limit : ℕ) (cs : List Class) → OK cs → (a b : ℕ) → eqb (add_equal limit ns a b cs).number 0 ≡ true → With (add_equal limit ns a b cs).classes a b
  pair-joined limit cs k a b t = go (add_equal_cases limit ns a b cs) (ℕ_discrete a b)
    where
      go : (((add_equal limit ns a b cs).number ≡ 0) × ((add_equal limit ns a b cs).classes ≡ (equal_condition ns cs a b).1))
          ⊎ ((eqb (add_equal limit ns a b cs).number 0 ≡ false) × ((add_equal limit ns a b cs).classes ≡ cs))
          → Dec (a ≡ b) → With (add_equal limit ns a b cs).classes a b
      go (inl e) (yes q) = inl q
      go (inl e) (no q) = inr (rw e.1 ((ok_step cs k a b).joins q))
      go (inr e) d = absurd (true_not_false t e.0)

  -- and after the sequence
  pub accepted-joined : (limit : ℕ) (cs : List Class) → OK cs → (ps : List (ℕ × ℕ)) (a b : ℕ) → Memᴰ (a, b) (accepted limit ns cs ps) → With (after limit ns cs ps) a b
  unfolding after accepted
  accepted-joined limit cs k [] a b m = absurd (Memᴰ.not-nil m)
  accepted-joined limit cs k (p ∷ ps) a b m = go (accepted_cases limit ns cs p ps (a, b) m) (accepted-joined limit ds kd ps a b)
    where
      ds : List Class
      ds = (add_equal limit ns p.0 p.1 cs).classes

      kd : OK ds
      kd = ok-kept limit cs k p.0 p.1

      lifted : With ds p.0 p.1 → With (after limit ns ds ps) p.0 p.1
      lifted (inl e) = inl e
      lifted (inr s) = inr (stays_after limit ds kd ps p.0 p.1 s)

      go : (((a, b) ≡ p) × (eqb (add_equal limit ns p.0 p.1 cs).number 0 ≡ true)) ⊎ Memᴰ (a, b) (accepted limit ns ds ps)
          → (Memᴰ (a, b) (accepted limit ns ds ps) → With (after limit ns ds ps) a b) → With (after limit ns ds ps) a b
      go (inl e) r = subst (λ (q : ℕ × ℕ). With (after limit ns ds ps) q.0 q.1) (sym e.0) (lifted (pair-joined limit cs k p.0 p.1 e.1))
      go (inr n) r = r n

  -- in one class: joined by a chain of accepted pairs
  pub chain-sound : (limit : ℕ) (ps : List (ℕ × ℕ)) (x y : ℕ) → same_class (after limit ns [] ps) x y ≡ true → Chain (accepted limit ns [] ps) x y
  chain-sound limit ps =
      after-within (λ x y. Chain (accepted limit ns [] ps) x y) (chain_equivalence (accepted limit ns [] ps)) limit [] ok-none ps
      (λ x y s. absurd (true_not_false s (same_none x y))) (λ a b m. on m here)

  -- joined by a chain of accepted pairs, and different: in one class
  pub chain_complete : (limit : ℕ) (ps : List (ℕ × ℕ)) (x y : ℕ) → (x ≡ y → ⊥) → Chain (accepted limit ns [] ps) x y → same_class (after limit ns [] ps) x y ≡ true
  chain_complete limit ps x y d c =
      go (chain-within (λ x y. With (after limit ns [] ps) x y) (with_equivalence (after limit ns [] ps)) (accepted-joined limit [] ok-none ps) c)
    where
      go : With (after limit ns [] ps) x y → same_class (after limit ns [] ps) x y ≡ true
      go (inl e) = absurd (d e)
      go (inr s) = s

  pub same_class_exactly : (limit : ℕ) (ps : List (ℕ × ℕ)) (x y : ℕ) → (x ≡ y → ⊥) → (same_class (after limit ns [] ps) x y ≡ true) ↔ Chain (accepted limit ns [] ps) x y
  same_class_exactly limit ps x y d = (chain-sound limit ps x y, chain_complete limit ps x y d)
