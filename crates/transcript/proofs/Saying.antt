-- What is printed for what is said.
use Prim.Native.Nat.{ℕ}
use mathlib.Core.Bool.{Bool}
use mathlib.Core.List.{List, [], ◌∷◌, ◌++◌}
use mathlib.Core.Path.{◌≡◌, refl, subst}
use Rattle.lines.specs.Text.{spaced, line}
use Rattle.lines.specs.Writing.{RoomFor}
use Rattle.lines.proofs.Puts.{put-fits}
use Rattle.session_steps.specs.State.{Reply, quiet, normal_form, equality, refusal}
use Rattle.transcript.specs.Session.{bit, r_word, reply_text}
use Rattle.session_steps.specs.Inner.{said_of}
use Rattle.transcript.specs.Inner.{said_text}
use Rattle.session_steps.specs.declared.holding.Said.{Said}
use Rattle.session_steps.specs.declared.holding.Said.TheVariants.{Quiet, NormalForm, Equality}
use Rattle.session_steps.proofs.Told.{InTable}
use Rattle.arena.specs.declared.Refusal.{Refusal}
use Rattle.arena.specs.Refusals.{refusal_number}
use Rattle.std.specs.Prelude.{Result, Ok, Err}

-- what is printed for a reply
pub said-text : (k : ℕ) (r : Reply) → InTable r → said_text k (said_of r) ≡ reply_text k r
unfolding said_text said_of reply_text InTable
said-text k quiet t = refl
said-text k (normal_form e r) t = refl
said-text k (equality a b v) t = refl
said-text k (refusal number) t = rw t

module _ (k : ℕ) (said : Result Said Refusal) where
  pub said-quiet : said ≡ Ok Quiet → said_text k said ≡ []
  unfolding said_text
  said-quiet q = rw q

  pub said_normal-form : (e r x y : ℕ) → said ≡ Ok (NormalForm e r) → x ≡ e → y ≡ r → said_text k said ≡ line (110 ∷ []) (x ∷ y ∷ [])
  unfolding said_text
  said_normal-form e r x y q p s = rw (q, p, s)

  pub said-equality : (a b : ℕ) (v : Bool) (x y z : ℕ) → said ≡ Ok (Equality a b v) → x ≡ a → y ≡ b → z ≡ bit v → said_text k said ≡ (113 ∷ []) ++ (spaced (x ∷ y ∷ z ∷ []) ++ (10 ∷ []))
  unfolding said_text line
  said-equality a b v x y z q p s t = rw (q, p, s, t)

  -- the first byte of an answer to an equality question
  pub equality-room : (a b : ℕ) (v : Bool) → said ≡ Ok (Equality a b v) → (old : List ℕ) (at : ℕ) → RoomFor old at (said_text k said) → RoomFor old at (113 ∷ [])
  equality-room a b v q old at room =
      put-fits old at (113 ∷ []) (spaced (a ∷ b ∷ bit v ∷ []) ++ (10 ∷ [])) (subst (λ (t : List ℕ). RoomFor old at t) (said-equality a b v a b (bit v) q refl refl refl) room)

  pub said-refused : (why : Refusal) (x : ℕ) → said ≡ Err why → x ≡ refusal_number why → said_text k said ≡ line r_word (k ∷ x ∷ [])
  unfolding said_text
  said-refused why x q p = rw (q, p)
