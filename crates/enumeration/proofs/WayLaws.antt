-- What is left of a walk, turn by turn.
use Prim.Native.Nat.{ℕ, zero, suc, ◌+◌, ◌-◌, ◌<◌, ◌≤◌}
use mathlib.Core.Bool.{true, false}
use mathlib.Core.List.{List, [], ◌∷◌, ◌++◌, map, append-nil, append_assoc, map-append, map-map, map-id}
use mathlib.Core.Path.{◌≡◌, refl, sym, ap, ◌∙◌}
use native.Mathlib.Numerals.{add-one}
use native.Mathlib.Omega.{arith}
use lib.ListN.{length, get_or, drop}
use lib.Seq.{drop-cons}
use Rattle.orderings.specs.Ordering.{pushed}
use Rattle.enumeration.specs.Walk.{Walk, found, stopped, go_on, is_seen, over_dependencies}
use Rattle.enumeration.specs.Inner.{up_all, before, resume, upward}

-- no orderings before those of a walk
pub before-none : (w : Walk) → before [] w ≡ w
unfolding before go_on
before-none (found os s) = refl
before-none (stopped k) = refl

-- orderings before orderings before those of a walk
pub before-before : (os ps : List (List ℕ)) (w : Walk) → before os (before ps w) ≡ before (os ++ ps) w
unfolding before go_on
before-before os ps (found qs s) = ap (λ (x : List (List ℕ)). found x s) (sym (append_assoc os ps qs))
before-before os ps (stopped k) = refl

module _ (at : ℕ → List (ℕ × ℕ) → Walk) where
  -- a key whose dependencies are done is left
  pub resume-leaves : (t : ℕ) (fs : List (ℕ × List ℕ)) (s : List (ℕ × ℕ)) → resume at ((t, []) ∷ fs) s ≡ resume at fs s
  unfolding resume over_dependencies go_on
  resume-leaves t fs s = before-none (resume at fs s)

  -- a pair that was expanded is passed over
  over-skips : (t d : ℕ) (ds : List ℕ) (s : List (ℕ × ℕ)) → is_seen t d s ≡ true → over_dependencies at t (d ∷ ds) s ≡ over_dependencies at t ds s
  unfolding over_dependencies
  over-skips t d ds s e = rw e

  -- so are n pairs, one after the other
  skips : (n t : ℕ) (ds : List ℕ) (s : List (ℕ × ℕ)) (from : ℕ) → from + n ≤ length ds → ((j : ℕ) → from ≤ j → j < from + n → is_seen t (get_or ds j 0) s ≡ true) → over_dependencies at t (drop from ds) s ≡ over_dependencies at t (drop (from + n) ds) s
  skips zero t ds s from in_it seen = let e : from + 0 ≡ from = omega arith in rw e
  skips (suc n) t ds s from in_it seen =
      let e : from + suc n ≡ suc from + n = omega arith in
      ap (λ (x : List ℕ). over_dependencies at t x s) (drop-cons ds from 0 (omega arith))
      ∙ over-skips t (get_or ds from 0) (drop (suc from) ds) s (seen from (omega arith) (omega arith))
      ∙ skips n t ds s (suc from) (omega arith) (λ j a b. seen j (omega arith) (omega arith))
      ∙ ap (λ (x : ℕ). over_dependencies at t (drop x ds) s) (sym e)

  -- pairs that were expanded are passed over
  pub resume-skips : (t : ℕ) (ds : List ℕ) (fs : List (ℕ × List ℕ)) (s : List (ℕ × ℕ)) (from k : ℕ) → from ≤ k → k ≤ length ds → ((j : ℕ) → from ≤ j → j < k → is_seen t (get_or ds j 0) s ≡ true) → resume at ((t, drop from ds) ∷ fs) s ≡ resume at ((t, drop k ds) ∷ fs) s
  unfolding resume
  resume-skips t ds fs s from k up in_it seen =
      let e : from + (k - from) ≡ k = omega arith in
      ap (λ (w : Walk). go_on w (λ ps u. before (map (up_all fs) ps) (resume at fs u)))
      (skips (k - from) t ds s from (omega arith) (λ j a b. seen j a (omega arith)) ∙ ap (λ (x : ℕ). over_dependencies at t (drop x ds) s) e)

  -- what is found below a pair goes up by its target, and then the way down
  both-up : (t : ℕ) (os ps : List (List ℕ)) (fs : List (ℕ × List ℕ)) → map (up_all fs) (map (λ (o : List ℕ). pushed o t) os ++ ps) ≡ map (λ (o : List ℕ). up_all fs (pushed o t)) os ++ map (up_all fs) ps
  both-up t os ps fs =
      map-append (up_all fs) (map (λ (o : List ℕ). pushed o t) os) ps
      ∙ ap (λ (x : List (List ℕ)). x ++ map (up_all fs) ps) (map-map (up_all fs) (λ (o : List ℕ). pushed o t) os)

  -- the walk below a pair, and then what is left
  under : (t : ℕ) (ds : List ℕ) (fs : List (ℕ × List ℕ)) (w : Walk) → go_on (go_on w (λ os s. go_on (over_dependencies at t ds s) (λ ps u. found (map (λ (o : List ℕ). pushed o t) os ++ ps) u))) (λ ps u. before (map (up_all fs) ps) (resume at fs u)) ≡ upward at ((t, ds) ∷ fs) w
  unfolding go_on upward resume up_all before
  under t ds fs (stopped k) = refl
  under t ds fs (found os s) = go (over_dependencies at t ds s)
    where
      go : (v : Walk) → go_on (go_on v (λ ps u. found (map (λ (o : List ℕ). pushed o t) os ++ ps) u)) (λ ps u. before (map (up_all fs) ps) (resume at fs u)) ≡ before (map (λ (o : List ℕ). up_all fs (pushed o t)) os) (go_on v (λ ps u. before (map (up_all fs) ps) (resume at fs u)))
      go (stopped k) = refl
      go (found ps u) = ap (λ (x : List (List ℕ)). before x (resume at fs u)) (both-up t os ps fs) ∙ sym (before-before (map (λ (o : List ℕ). up_all fs (pushed o t)) os) (map (up_all fs) ps) (resume at fs u))

  -- a pair that is new is expanded
  over_expands : (t d : ℕ) (ds : List ℕ) (s : List (ℕ × ℕ)) → is_seen t d s ≡ false → over_dependencies at t (d ∷ ds) s ≡ go_on (at d (s ++ ((t, d) ∷ []))) (λ os u. go_on (over_dependencies at t ds u) (λ ps v. found (map (λ (o : List ℕ). pushed o t) os ++ ps) v))
  unfolding over_dependencies
  over_expands t d ds s e = rw e

  -- a pair that was not is expanded
  pub resume_expands : (t : ℕ) (ds : List ℕ) (fs : List (ℕ × List ℕ)) (s : List (ℕ × ℕ)) (k : ℕ) → k < length ds → is_seen t (get_or ds k 0) s ≡ false → resume at ((t, drop k ds) ∷ fs) s ≡ upward at ((t, drop (k + 1) ds) ∷ fs) (at (get_or ds k 0) (s ++ ((t, get_or ds k 0) ∷ [])))
  unfolding resume
  resume_expands t ds fs s k in_it seen =
      rw add-one
      (ap (λ (w : Walk). go_on w (λ ps u. before (map (up_all fs) ps) (resume at fs u)))
      (ap (λ (x : List ℕ). over_dependencies at t x s) (drop-cons ds k 0 in_it) ∙ over_expands t (get_or ds k 0) (drop (suc k) ds) s seen)
      ∙ under t (drop (suc k) ds) fs (at (get_or ds k 0) (s ++ ((t, get_or ds k 0) ∷ []))))

  -- a walk that stopped stops all
  pub upward-stopped : (fs : List (ℕ × List ℕ)) (k : ℕ) → upward at fs (stopped k) ≡ stopped k
  unfolding upward go_on
  upward-stopped fs k = refl

  -- one ordering is found, with the targets on the way up
  pub upward-one : (fs : List (ℕ × List ℕ)) (o : List ℕ) (s : List (ℕ × ℕ)) → upward at fs (found (o ∷ []) s) ≡ before (up_all fs o ∷ []) (resume at fs s)
  unfolding upward go_on
  upward-one fs o s = refl

  -- a key with dependencies goes on the way down
  pub upward-down : (t : ℕ) (ds : List ℕ) (fs : List (ℕ × List ℕ)) (s : List (ℕ × ℕ)) → upward at fs (over_dependencies at t ds s) ≡ resume at ((t, ds) ∷ fs) s
  unfolding upward resume
  upward-down t ds fs s = refl

  -- nothing is above the start
  pub upward-start : (w : Walk) → upward at [] w ≡ w
  unfolding upward before resume go_on up_all
  upward-start (found ps u) = ap (λ (x : List (List ℕ)). found x u) (append-nil (map (λ (o : List ℕ). o) ps) ∙ map-id ps)
  upward-start (stopped k) = refl
