-- What becomes of a whole expression: by which source, that it is among the first n, and as an entry of the table.
use Rattle.std.specs.Prelude.{if◌then◌else◌, Option, None, Some}
use Prim.Native.Nat.{ℕ, suc, ◌+◌, ◌<◌}
use mathlib.Core.Bool.{Bool, true, false}
use mathlib.Core.List.{List, [], ◌∷◌}
use mathlib.Core.Logic.{◌⊎◌, inl, inr}
use mathlib.Core.Path.{◌≡◌, refl, sym, ap, ◌∙◌, subst}
use native.Mathlib.Omega.{arith}
use lib.Dec.{eqb}
use lib.ListN.{length}
use Rattle.arena.specs.Node.{Node, node_at}
use Rattle.classes.specs.Class.{Class}
use Rattle.classes.specs.Group.{same_class}
use Rattle.classes.specs.Layout.{is_literal}
use Rattle.mappings.specs.Mapping.{Mapped, first_target, target_for, mapped_at}
use Rattle.mappings.specs.Layout.{place_in, decode, Checked}
use Rattle.mappings.specs.declared.Mapping.{Mapping}
use Rattle.mappings.proofs.Targets.{mapped-target, decode-length, decode-at}
use Rattle.projection_table.specs.Projecting.{or_else, becomes}
use Rattle.projection_table.specs.Inner.{entry_of}

-- ---- what is found

-- number i is the first target of a source that passes a test
pub record Found (test : ℕ → Bool) (ps : List Mapped) (i : ℕ) : Type 0 where
  pub place : ℕ
  pub below : place < length ps
  pub passes : test (mapped_at ps place).source ≡ true
  pub is : first_target (mapped_at ps place) ≡ i

-- so is a target that is found
target_found : (test : ℕ → Bool) (ps : List Mapped) (i : ℕ) → target_for test ps ≡ Some i → Found test ps i
unfolding target_for
target_found test [] i e = absurd (let z : ◌≡◌ {A = ℕ} 0 1 = cc in omega arith)
target_found test (p ∷ ps) i e = go (test p.source) refl (target_found test ps i)
  where
    go : (b : Bool) → test p.source ≡ b → (target_for test ps ≡ Some i → Found test ps i) → Found test (p ∷ ps) i
    go true q r = let z : Some (first_target p) ≡ Some i = sym (rw q) ∙ e in record { place = 0; below = omega arith; passes = q; is = cc }
    go false q r = let f = r (sym (rw q) ∙ e) in record { place = suc f.place; below = omega (arith, f.below); passes = f.passes; is = f.is }

-- expression e becomes i as a whole: by its own source's first target, as a literal that stays, or by the first target of a source in its class
pub data Becomes (ns : List Node) (cs : List Class) (ps : List Mapped) (e i : ℕ) : Type 0 where
  by-source : Found (λ s. eqb s e) ps i → Becomes ns cs ps e i
  by-literal : is_literal (node_at ns e) ≡ true → e ≡ i → Becomes ns cs ps e i
  by-class : Found (λ s. same_class cs s e) ps i → Becomes ns cs ps e i

-- the first finding or the second
or_some : (o p : Option ℕ) (i : ℕ) → or_else o p ≡ Some i → (o ≡ Some i) ⊎ (p ≡ Some i)
unfolding or_else
or_some None p i e = inr e
or_some (Some j) p i e = inl e

-- what an expression becomes as a whole, it becomes in one of these ways
pub becomes-is : (ns : List Node) (cs : List Class) (ps : List Mapped) (e i : ℕ) → becomes ns cs ps e ≡ Some i → Becomes ns cs ps e i
unfolding becomes
becomes-is ns cs ps e i q = go (or_some (target_for (λ s. eqb s e) ps) (or_else (stays (is_literal (node_at ns e))) (target_for (λ s. same_class cs s e) ps)) i q)
  where
    stays : Bool → Option ℕ
    stays b = if b then Some e else None

    itself : (b : Bool) → is_literal (node_at ns e) ≡ b → stays b ≡ Some i → Becomes ns cs ps e i
    itself true t r = by-literal t (cc)
    itself false t r = absurd (let z : ◌≡◌ {A = ℕ} 0 1 = cc in omega arith)

    later : (stays (is_literal (node_at ns e)) ≡ Some i) ⊎ (target_for (λ s. same_class cs s e) ps ≡ Some i) → Becomes ns cs ps e i
    later (inl r) = itself (is_literal (node_at ns e)) refl r
    later (inr r) = by-class (target_found (λ s. same_class cs s e) ps i r)

    go : (target_for (λ s. eqb s e) ps ≡ Some i) ⊎ (or_else (stays (is_literal (node_at ns e))) (target_for (λ s. same_class cs s e) ps) ≡ Some i) → Becomes ns cs ps e i
    go (inl r) = by-source (target_found (λ s. eqb s e) ps i r)
    go (inr r) = later (or_some (stays (is_literal (node_at ns e))) (target_for (λ s. same_class cs s e) ps) i r)

-- a target that is found in a checked mapping is among the first n
found_below : (test : ℕ → Bool) (n : ℕ) (m : Mapping) → Checked n m → (i : ℕ) → Found test (decode m) i → i < n
found_below test n m c i f =
    let k = f.place in
    let b : k < m.count = omega (arith, f.below, decode-length m) in
    subst (λ (x : ℕ). x < n) f.is
    (rw (decode-at m k (record { source = 0; targets = [] }) b, mapped-target (place_in m k) 0 (c.bounded.some-target k b)) (c.target_below k 0 b (c.bounded.some-target k b)))

-- so is what becomes of a whole expression of the first n
pub becomes-below : (ns : List Node) (cs : List Class) (n : ℕ) (m : Mapping) (e : ℕ) → Checked n m → e < n → (i : ℕ) → Becomes ns cs (decode m) e i → i < n
becomes-below ns cs n m e c l i (by-source f) = found_below (λ s. eqb s e) n m c i f
becomes-below ns cs n m e c l i (by-literal t q) = omega arith
becomes-below ns cs n m e c l i (by-class f) = found_below (λ s. same_class cs s e) n m c i f

-- ---- what becomes of a whole expression, as an entry

-- an entry 0 is that of nothing
pub entry-none : (o : Option ℕ) → 0 ≡ entry_of o → o ≡ None
unfolding entry_of
entry-none None e = refl
entry-none (Some i) e = absurd (omega arith)

-- the first of two findings
first_found : (o p : Option ℕ) → (entry_of o ≡ 0 → ⊥) → or_else o p ≡ o
unfolding entry_of or_else
first_found None p h = absurd (h refl)
first_found (Some i) p h = refl

module _ (ns : List Node) (cs : List Class) (ps : List Mapped) (e own : ℕ) (q : own ≡ entry_of (target_for (λ s. eqb s e) ps)) where
  -- a mapped source
  pub becomes-own : (own ≡ 0 → ⊥) → own ≡ entry_of (becomes ns cs ps e)
  unfolding becomes
  becomes-own h =
      q
      ∙ ap entry_of (sym (first_found (target_for (λ s. eqb s e) ps)
      (or_else (if is_literal (node_at ns e) then Some e else None) (target_for (λ s. same_class cs s e) ps)) (λ z. h (q ∙ z))))

  module _ (z : own ≡ 0) where
    no_source : target_for (λ s. eqb s e) ps ≡ None
    no_source = entry-none (target_for (λ s. eqb s e) ps) (sym z ∙ q)

    -- a literal
    pub becomes-literal : is_literal (node_at ns e) ≡ true → e + 2 ≡ entry_of (becomes ns cs ps e)
    unfolding becomes or_else entry_of
    becomes-literal t = rw (no_source, t)

    -- what the class gives
    pub becomes-class : is_literal (node_at ns e) ≡ false → (r : ℕ) → r ≡ entry_of (target_for (λ s. same_class cs s e) ps) → r ≡ entry_of (becomes ns cs ps e)
    unfolding becomes or_else
    becomes-class t r h = h ∙ rw (no_source, t)
