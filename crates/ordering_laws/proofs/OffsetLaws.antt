-- What shifting a list by an offset hands back. Done: each ordering built from the shifted expressions of its keys with their options, and a list that passes the check again over the cells afterwards. Refused: the list and the cells as they were.
use Prim.Native.Nat.{ℕ, zero, suc, ◌+◌, ◌*◌, ◌<◌}
use mathlib.Core.Bool.{Bool, true, false}
use mathlib.Core.List.{List, [], ◌∷◌}
use Rattle.std.specs.Prelude.{Option, Ok, Err}
use borrow.Author.Tests.{eq-eqb, ne_eqb}
use Rattle.arena.specs.declared.Refusal.TheVariants.{ArenaFull, IndexOutOfRange}
use Rattle.arena.specs.Refusals.{refusal, number_of}
use Rattle.arena.proofs.Refusals.{zero-ok, refusal-err}
use mathlib.Core.Path.{◌≡◌, refl, sym, ap, ◌∙◌, subst, subst₂}
use native.Mathlib.Decide.{ℕ_discrete}
use native.Mathlib.Omega.{arith}
use lib.IntN.{ℤ}
use lib.ListN.{length, get_or}
use Rattle.arena.specs.Node.{Node}
use Rattle.arena.specs.Expression.{expression_at}
use Rattle.arena.specs.Arena.{Sound, Small, Extends, Placed, placed, full, add_expression}
use Rattle.shifting.specs.Shift.{moved, shifted}
use Rattle.arena.specs.Layout.{count, decode as nodes, encode as encode_nodes}
use Rattle.arena.specs.Calls.{in_cells}
use Rattle.arena.proofs.Nodes.{extends-none, extends-both, extends-longer}
use Rattle.arena.proofs.Trees.{expression-kept, expression-small}
use Rattle.arena.proofs.Growing.{between, add-expression}
use Rattle.shifting.proofs.Values.{shifted-small, moved-within}
use Rattle.arena.proofs.Layouts.{count-encode, encode-holds, holds-lawful, lawful-holds, coded-cells}
use Rattle.orderings.specs.Ordering.{expr_of, options_of, built}
use Rattle.orderings.specs.Lists.{ordering_at}
use Rattle.orderings.specs.Good.{Good, GoodOrdering}
use Rattle.ordering_joins.specs.Offset.{lists_move, shifted_keys, shifted_lists}
use Rattle.orderings.specs.Layout.{encode, decode}
use Rattle.orderings.specs.Calls.{list_number}
use Rattle.ordering_joins.specs.Calls.{offset_by, offset_list, offset_answer}
use Rattle.ordering_joins.specs.Inner.{ListThere}
use Rattle.orderings.specs.declared.Orderings.{Orderings}
use Rattle.orderings.proofs.Codec.{length-decode}
use Rattle.orderings.proofs.OneOrdering.{built-fewer, built-good}
use Rattle.orderings.proofs.Appending.{told}
use Rattle.orderings.proofs.ListChecks.{Sized}
use Rattle.orderings.proofs.ListHeld.{Known, number-lawful, held_number}
use Rattle.ordering_laws.proofs.ListValid.{KnownIn, extended-known}
use Rattle.ordering_joins.proofs.KeyTests.{place_inside}
use Rattle.ordering_joins.proofs.Offsets.{Inside, after_key, after_ordering, keys-each, lists-each}
use Rattle.ordering_joins.proofs.OffsetCall.{Outcome, number-there, offset_refused, offset_passed}

-- the expression and the options of a shifted key
expr-key : (e k : ℕ) → expr_of (e * 4 + options_of k) ≡ e
unfolding expr_of options_of
expr-key e k = omega arith

options-key : (e k : ℕ) → options_of (e * 4 + options_of k) ≡ options_of k
unfolding options_of
options-key e k = omega arith

module _ (to : ℕ → Option ℕ) (ns : List Node) where
  -- keys over the arena ms are those over ns, shifted: as many, each with its shifted expression and its options
  pub record KeysShifted (ms : List Node) (ks js : List ℕ) : Type 0 where
    pub counted : length js ≡ length ks
    pub known : KnownIn (length ms) js
    pub is : (k : ℕ) → k < length ks → expression_at ms (expr_of (get_or js k 0)) ≡ shifted to (expression_at ns (expr_of (get_or ks k 0)))
    pub options : (k : ℕ) → k < length ks → options_of (get_or js k 0) ≡ options_of (get_or ks k 0)

  -- an ordering is built from the shifted keys of another
  pub record OrderingShifted (ms : List Node) (o q : List ℕ) : Type 0 where
    pub keys : List ℕ
    pub shifts : KeysShifted ms o keys
    pub is : q ≡ built keys

  -- so it stays when nodes are added
  keys_kept : (ms ps : List Node) (ks js : List ℕ) → Extends ms ps → KeysShifted ms ks js → KeysShifted ps ks js
  keys_kept ms ps ks js x h = record {
    counted = h.counted;
    known = λ k l. omega (arith, h.known k l, extends-longer x);
    is = λ k l. expression-kept x (expr_of (get_or js k 0)) (h.known k (omega (arith, h.counted))) ∙ h.is k l;
    options = h.options;
  }

  -- one key more
  keys-cons : (ms : List Node) (k e : ℕ) (ks js : List ℕ) → e < length ms → expression_at ms e ≡ shifted to (expression_at ns (expr_of k)) → KeysShifted ms ks js → KeysShifted ms (k ∷ ks) ((e * 4 + options_of k) ∷ js)
  keys-cons ms k e ks js b q h = record { counted = ap suc h.counted; known = known; is = is; options = options }
    where
      known : KnownIn (length ms) ((e * 4 + options_of k) ∷ js)
      known zero l = rw (expr-key e k) b
      known (suc i) l = h.known i (omega arith)

      is : (i : ℕ) → i < length (k ∷ ks) → expression_at ms (expr_of (get_or ((e * 4 + options_of k) ∷ js) i 0)) ≡ shifted to (expression_at ns (expr_of (get_or (k ∷ ks) i 0)))
      is zero l = ap (expression_at ms) (expr-key e k) ∙ q
      is (suc i) l = h.is i (omega arith)

      options : (i : ℕ) → i < length (k ∷ ks) → options_of (get_or ((e * 4 + options_of k) ∷ js) i 0) ≡ options_of (get_or (k ∷ ks) i 0)
      options zero l = options-key e k
      options (suc i) l = h.options i (omega arith)

  -- an arena can hold what is made of each key's expression
  abbrev pub Fit : List ℕ → Type 0
  Fit ks = (k : ℕ) → k < length ks → Small (shifted to (expression_at ns (expr_of (get_or ks k 0))))

  -- what shifting keys comes to, from the arena ms to ps
  pub record AddedKeys (ms ps : List Node) (ks js : List ℕ) : Type 0 where
    pub extends : Extends ms ps
    pub sound : Sound ps
    pub shifts : KeysShifted ps ks js

  keys_none : (ms : List Node) → Sound ms → AddedKeys ms ms [] []
  keys_none ms s = record {
    extends = extends-none ms;
    sound = s;
    shifts = record { counted = refl; known = λ k l. absurd (omega arith); is = λ k l. absurd (omega arith); options = λ k l. absurd (omega arith) };
  }

  pub keys-added : (ks : List ℕ) → Fit ks → (ms : List Node) → Sound ms → (js : List ℕ) (ps : List Node) → shifted_keys to ns ks ms ≡ placed js ps → AddedKeys ms ps ks js
  unfolding shifted_keys
  keys-added [] f ms s js ps e =
      let p : ◌≡◌ {A = List ℕ} [] js = cc in
      let q : ms ≡ ps = cc in
      subst₂ (λ (l : List ℕ) (m : List Node). AddedKeys ms m [] l) p q (keys_none ms s)
  keys-added (k ∷ ks) f ms s js ps e =
      let x = shifted to (expression_at ns (expr_of k)) in
      let b = between (add_expression (shifted to (expression_at ns (expr_of k))) ms) (after_key to ns k ks) js ps e in
      let c = between (shifted_keys to ns ks b.arena) (λ rest qs. placed ((b.answer * 4 + options_of k) ∷ rest) qs) js ps b.then in
      let a = add-expression x ms s (f 0 (omega arith)) b.answer b.arena b.first in
      let r = keys-added ks (λ i l. f (suc i) (omega arith)) b.arena a.sound c.answer c.arena c.first in
      let t : placed ((b.answer * 4 + options_of k) ∷ c.answer) c.arena ≡ placed js ps = c.then in
      let p : (b.answer * 4 + options_of k) ∷ c.answer ≡ js = cc t in
      let q : c.arena ≡ ps = cc t in
      subst₂ (λ (l : List ℕ) (m : List Node). AddedKeys ms m (k ∷ ks) l) p q (record {
        extends = extends-both a.extends r.extends;
        sound = r.sound;
        shifts = keys-cons c.arena k b.answer ks c.answer (omega (arith, a.below, extends-longer r.extends)) (expression-kept r.extends b.answer a.below ∙ a.is) r.shifts;
      })

  -- what shifting orderings comes to
  pub record AddedLists (ms ps : List Node) (os qs : List (List ℕ)) : Type 0 where
    pub extends : Extends ms ps
    pub sound : Sound ps
    pub counted : length qs ≡ length os
    pub each : (i : ℕ) → i < length os → OrderingShifted ps (ordering_at os i) (ordering_at qs i)

  lists-cons : (ms ps rs : List Node) (o js : List ℕ) (os qs : List (List ℕ)) → AddedKeys ms ps o js → AddedLists ps rs os qs → AddedLists ms rs (o ∷ os) (built js ∷ qs)
  lists-cons ms ps rs o js os qs a r = record {
    extends = extends-both a.extends r.extends;
    sound = r.sound;
    counted = ap suc r.counted;
    each = each;
  }
    where
      each : (i : ℕ) → i < length (o ∷ os) → OrderingShifted rs (ordering_at (o ∷ os) i) (ordering_at (built js ∷ qs) i)
      each zero l = record { keys = js; shifts = keys_kept ps rs o js r.extends a.shifts; is = refl }
      each (suc i) l = r.each i (omega arith)

  pub lists-added : (os : List (List ℕ)) → ((i : ℕ) → i < length os → Fit (ordering_at os i)) → (ms : List Node) → Sound ms → (qs : List (List ℕ)) (ps : List Node) → shifted_lists to ns os ms ≡ placed qs ps → AddedLists ms ps os qs
  unfolding shifted_lists
  lists-added [] f ms s qs ps e =
      let p : ◌≡◌ {A = List (List ℕ)} [] qs = cc in
      let q : ms ≡ ps = cc in
      subst₂ (λ (l : List (List ℕ)) (m : List Node). AddedLists ms m [] l) p q (record { extends = extends-none ms; sound = s; counted = refl; each = λ i l. absurd (omega arith) })
  lists-added (o ∷ os) f ms s qs ps e =
      let b = between (shifted_keys to ns o ms) (λ ks ts. after_ordering to ns os (built ks) ts) qs ps e in
      let c = between (shifted_lists to ns os b.arena) (λ rest ts. placed (built b.answer ∷ rest) ts) qs ps b.then in
      let a = keys-added o (f 0 (omega arith)) ms s b.answer b.arena b.first in
      let r = lists-added os (λ i l. f (suc i) (omega arith)) b.arena a.sound c.answer c.arena c.first in
      let t : placed (built b.answer ∷ c.answer) c.arena ≡ placed qs ps = c.then in
      let p : built b.answer ∷ c.answer ≡ qs = cc t in
      let q : c.arena ≡ ps = cc t in
      subst₂ (λ (l : List (List ℕ)) (m : List Node). AddedLists ms m (o ∷ os) l) p q (lists-cons ms b.arena c.arena o b.answer os c.answer a r)

  -- a good list, shifted, is good, and its expressions are known
  module _ (ms ps : List Node) (os qs : List (List ℕ)) (a : AddedLists ms ps os qs) where
    pub shifted-good : Good os → Good qs
    shifted-good g = record { few = omega (arith, a.counted, g.few); each = good }
      where
        good : (i : ℕ) → i < length qs → GoodOrdering (ordering_at qs i)
        good i l =
            let b : i < length os = omega (arith, a.counted) in
            let o = a.each i b in
            let w = g.each i b in
            let n = o.shifts.counted in
            subst GoodOrdering (sym o.is) (built-good o.keys (omega (arith, n, w.filled)) (omega (arith, n, w.few, built-fewer o.keys)))

    pub shifted-known : Known (length ps) qs
    unfolding built
    shifted-known i k l b =
        let o = a.each i (omega (arith, a.counted)) in
        subst (KnownIn (length ps)) (sym o.is) (extended-known (length ps) [] o.keys (λ j m. absurd (omega arith)) o.shifts.known) k b

-- ---- the call

module _ (offset : ℤ) (cells : List ℕ) (g : Orderings) where
  -- the arena and what is made over it
  abbrev made : Placed (List (List ℕ))
  made = shifted_lists (moved offset) (nodes cells) (decode g) (nodes cells)

  abbrev can : Bool
  can = lists_move (moved offset) (nodes cells) (decode g)

  -- the outcomes where the check passes
  offset_cases : (P : Outcome → Type 0) → list_number cells g ≡ 0 → P (told (Err IndexOutOfRange) g, cells) → P (told (Err ArenaFull) g, cells)
      → ((os : List (List ℕ)) (ms : List Node) → can ≡ true → made ≡ placed os ms → P (told (Ok tt) (encode os), encode_nodes ms)) → P (offset_answer offset cells g)
  unfolding in_cells offset_list offset_by
  offset_cases P z out None done = subst P (sym (offset_passed offset cells g (zero-ok (list_number cells g) (eq-eqb (list_number cells g) 0 z)))) (go can refl)
    where
      same : encode_nodes (nodes cells) ≡ cells
      same = coded-cells cells (lawful-holds cells (number-lawful cells g z))

      by : can ≡ true → (o : Placed (List (List ℕ))) → made ≡ o → P (in_cells (offset_by g (nodes cells) o))
      by c (placed os ms) q = done os ms c q
      by c full q = subst (λ (s : List ℕ). P (told (Err ArenaFull) g, s)) (sym same) None

      go : (b : Bool) → can ≡ b → P (in_cells (offset_list offset g (nodes cells)))
      go true c = rw c (by c made refl)
      go false c = rw c (subst (λ (s : List ℕ). P (told (Err IndexOutOfRange) g, s)) (sym same) out)

  abbrev Kept : Outcome → Type 0
  Kept o = (number_of o.0.done ≡ 0 → ⊥) → ◌≡◌ {A = Outcome} o (told o.0.done g, cells)

  -- a refusal leaves the list and the cells as they were
  pub offset_keeps : (number_of (offset_answer offset cells g).0.done ≡ 0 → ⊥) → offset_answer offset cells g ≡ (told (offset_answer offset cells g).0.done g, cells)
  offset_keeps = at (ℕ_discrete (list_number cells g) 0)
    where
      at : Dec (list_number cells g ≡ 0) → Kept (offset_answer offset cells g)
      at (yes z) = offset_cases Kept z (λ n. refl) (λ n. refl) (λ os ms c q n. absurd (n refl))
      at (no n) = subst Kept (offset_refused offset cells g (refusal (list_number cells g)) (refusal-err (list_number cells g) (ne_eqb (list_number cells g) 0 n))) (λ m. refl)

  module _ (y : Sized g) (z : list_number cells g ≡ 0) where
    there : ListThere cells g
    there = number-there cells g y z

    fit : can ≡ true → (i : ℕ) → i < length (decode g) → Fit (moved offset) (nodes cells) (ordering_at (decode g) i)
    fit c i l k b =
        let o = ordering_at (decode g) i in
        let e = expr_of (get_or o k 0) in
        let inside : Inside (nodes cells) (ordering_at (decode g) i) = place_inside cells g there i (omega (arith, length-decode g)) in
        shifted-small (moved offset) (moved-within offset) (expression_at (nodes cells) e) (expression-small (nodes cells) there.holds.sound e (inside k b))
        (keys-each (moved offset) (nodes cells) o (lists-each (moved offset) (nodes cells) (decode g) c i l) k b)

    -- what was made is the list shifted
    pub offset_shifts : (os : List (List ℕ)) (ms : List Node) → can ≡ true → made ≡ placed os ms → AddedLists (moved offset) (nodes cells) (nodes cells) ms (decode g) os
    offset_shifts os ms c q = lists-added (moved offset) (nodes cells) (decode g) (fit c) (nodes cells) there.holds.sound os ms q

    -- what is handed back passes the check again over the cells afterwards, refused or not
    pub offset_passes : list_number (offset_answer offset cells g).1 (offset_answer offset cells g).0.list ≡ 0
    offset_passes = offset_cases (λ (o : Outcome). list_number o.1 o.0.list ≡ 0) z z z done
      where
        done : (os : List (List ℕ)) (ms : List Node) → can ≡ true → made ≡ placed os ms → list_number (encode_nodes ms) (encode os) ≡ 0
        done os ms c q =
            let a = offset_shifts os ms c q in
            let known : Known (count (encode_nodes ms)) os = subst (λ (n : ℕ). Known n os) (sym (count-encode ms a.sound)) (shifted-known (moved offset) (nodes cells) (nodes cells) ms (decode g) os a) in
            held_number (encode_nodes ms) (holds-lawful (encode_nodes ms) (encode-holds ms a.sound)) os (shifted-good (moved offset) (nodes cells) (nodes cells) ms (decode g) os a there.held.good) known
