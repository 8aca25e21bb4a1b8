-- What a rule makes of the nodes of an arena: one entry for each number, kept when the arena grows, and each is the rule's.
use Prim.Native.Nat.{ℕ, suc, ◌+◌, ◌<◌}
use mathlib.Core.List.{List, [], ◌∷◌, ◌++◌}
use mathlib.Core.Path.{◌≡◌, refl, sym, ap, ap₂, ◌∙◌}
use native.Mathlib.Omega.{arith}
use lib.ListN.{length, get_or, take, drop, length-append, get_or-append}
use lib.Seq.{split_at, length-take-le, get_or_at}
use Rattle.arena.specs.Node.{Node, literal, node_at, made_after, made}
use Rattle.arena.specs.Arena.{Allowed, Sound, Extends}

module _ {A : Type 0} (rule : List A → ℕ → Node → A) (d : A) where
  -- one entry for each node
  length-after : (xs : List A) (ns : List Node) → length (made_after rule xs ns) ≡ length xs + length ns
  unfolding made_after
  length-after xs [] = omega arith
  length-after xs (n ∷ ns) = omega (arith, length-after (xs ++ (rule xs (length xs) n ∷ [])) ns, length-append xs (rule xs (length xs) n ∷ []))

  pub length-made : (ns : List Node) → length (made rule ns) ≡ length ns
  unfolding made
  length-made ns = omega (arith, length-after [] ns)

  -- it goes on where it stopped
  after-append : (xs : List A) (ns ms : List Node) → made_after rule xs (ns ++ ms) ≡ made_after rule (made_after rule xs ns) ms
  unfolding made_after
  after-append xs [] ms = refl
  after-append xs (n ∷ ns) ms = after-append (xs ++ (rule xs (length xs) n ∷ [])) ns ms

  pub made-append : (ns ms : List Node) → made rule (ns ++ ms) ≡ made_after rule (made rule ns) ms
  unfolding made
  made-append ns ms = after-append [] ns ms

  -- and keeps what is there
  after_kept : (xs : List A) (ns : List Node) (i : ℕ) → i < length xs → get_or (made_after rule xs ns) i d ≡ get_or xs i d
  unfolding made_after
  after_kept xs [] i l = refl
  after_kept xs (n ∷ ns) i l =
      after_kept (xs ++ (rule xs (length xs) n ∷ [])) ns i (omega (arith, length-append xs (rule xs (length xs) n ∷ [])))
      ∙ get_or-append xs (rule xs (length xs) n ∷ []) d i l

  -- an old number keeps its entry
  pub made_kept : {ns ms : List Node} → Extends ns ms → (i : ℕ) → i < length ns → get_or (made rule ms) i d ≡ get_or (made rule ns) i d
  made_kept {ns} x i l =
      ap (λ (ms : List Node). get_or (made rule ms) i d) x.is ∙ ap (λ (xs : List A). get_or xs i d) (made-append ns x.more)
      ∙ after_kept (made rule ns) x.more i (omega (arith, length-made ns))

  -- the next node's entry is the rule's, from the entries before it
  made-next : (ns : List Node) (n : Node) (ms : List Node) → get_or (made rule (ns ++ n ∷ ms)) (length ns) d ≡ rule (made rule ns) (length ns) n
  unfolding made_after
  made-next ns n ms =
      let xs = made rule ns in
      let l = length-made ns in
      ap (λ (ys : List A). get_or ys (length ns) d) (made-append ns (n ∷ ms))
      ∙ after_kept (xs ++ (rule xs (length xs) n ∷ [])) ms (length ns) (omega (arith, length-append xs (rule xs (length xs) n ∷ [])))
      ∙ get_or_at xs (rule xs (length xs) n) [] d (length ns) l
      ∙ ap (λ (k : ℕ). rule xs k n) l

  -- in a sound arena, for a rule that looks at lower entries alone: a number's entry is the rule's, from all entries
  pub made-is : (ns : List Node) → Sound ns
      → ((xs ys : List A) (i : ℕ) (n : Node) → Allowed i n → ((k : ℕ) → k < i → get_or xs k d ≡ get_or ys k d) → rule xs i n ≡ rule ys i n)
      → (i : ℕ) → i < length ns → get_or (made rule ns) i d ≡ rule (made rule ns) i (node_at ns i)
  made-is ns s local i l =
      ap₂ {C = A} (λ ms k. get_or (made rule ms) k d) (split_at ns i (literal 0) l) (sym t)
      ∙ made-next (take i ns) (node_at ns i) (drop (suc i) ns)
      ∙ ap (λ (k : ℕ). rule (made rule (take i ns)) k (node_at ns i)) t
      ∙ local (made rule (take i ns)) (made rule ns) i (node_at ns i) (s.allowed i l)
      (λ k b. sym (made_kept x k (omega (arith, t))))
    where
      t : length (take i ns) ≡ i
      t = length-take-le i ns (omega arith)

      x : Extends (take i ns) ns
      x = record { more = node_at ns i ∷ drop (suc i) ns; is = split_at ns i (literal 0) l }
