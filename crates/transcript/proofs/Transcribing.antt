-- The text of a session as it is written and copied: input over the bound, input within it, and the call.
use Prim.Native.Nat.{ℕ, ◌+◌, ◌<◌, ◌≤◌}
use mathlib.Core.List.{List, [], ◌∷◌, ◌++◌}
use mathlib.Core.Path.{◌≡◌, sym, ap, ◌∙◌, subst}
use native.Mathlib.Omega.{arith}
use borrow.Author.Tests.{le-leb, lt-leb}
use lib.ListN.{length, take, drop, length-append}
use lib.Seq.{take_at}
use Rattle.lines.specs.Text.{line}
use Rattle.lines.specs.Writing.{Put, RoomFor}
use Rattle.lines.proofs.Puts.{put-room, put_both}
use Rattle.arena.specs.Layout.{encode as encode_nodes}
use Rattle.session_steps.specs.State.{start}
use Rattle.transcript.specs.Session.{read_all, r_word, end_text, script_text, session_text, session}
use Rattle.session_steps.specs.declared.holding.Holding.{Holding}
use Rattle.std.specs.Prelude.{Result, Ok, Err}
use Rattle.arena.specs.declared.Refusal.{Refusal}
use Rattle.arena.specs.declared.Refusal.TheVariants.{OutputShort}
use Rattle.session_steps.proofs.Bounds.{small-start}
use Rattle.transcript.proofs.LineLengths.{stop-short, end_short}
use Rattle.transcript.proofs.Running.{opening, opening-fit, opening-state, last_line, last_line_lem}

-- the text for input over the bound, and within it
pub text-over : (input : List ℕ) → 65536 < length input → session_text input ≡ line r_word (0 ∷ 9 ∷ []) ++ end_text start
unfolding session_text
text-over input l = rw (lt-leb (length input) 65536 l)

pub text-within : (input : List ℕ) → length input ≤ 65536 → session_text input ≡ script_text 1 start (read_all input)
unfolding session_text
text-within input l = rw (le-leb (length input) 65536 l)

module _ (input old : List ℕ) (space : 131096 ≤ length old) where
  -- room for the line of input over the bound
  pub over-room : RoomFor old 0 (line r_word (0 ∷ 9 ∷ []))
  over-room = omega (arith, stop-short 0 (omega arith))

  module _ (h : Holding) (q : h ≡ opening) (new1 : List ℕ) (next1 : ℕ) (p : Put old 0 (line r_word (0 ∷ 9 ∷ [])) new1 next1) where
    over_last : last_line h ≡ end_text start
    over_last = ap (λ (h : Holding). last_line h) q ∙ last_line_lem (encode_nodes []) opening opening-fit ∙ ap end_text opening-state

    -- then for the last line
    pub over_end_room : RoomFor new1 next1 (last_line h)
    over_end_room =
        put-room old 0 (line r_word (0 ∷ 9 ∷ [])) new1 next1 over-room p (last_line h)
        (omega (arith, stop-short 0 (omega arith), ap (λ (l : List ℕ). length l) over_last, end_short start small-start, length-append (line r_word (0 ∷ 9 ∷ [])) (last_line h)))

    -- and both are the text
    pub over-put : 65536 < length input → (new2 : List ℕ) (next2 : ℕ) → Put new1 next1 (last_line h) new2 next2 → Put old 0 (session_text input) new2 next2
    over-put l new2 next2 q =
        subst (λ (t : List ℕ). Put old 0 t new2 next2) (ap (λ (t : List ℕ). line r_word (0 ∷ 9 ∷ []) ++ t) over_last ∙ sym (text-over input l))
        (put_both old 0 (line r_word (0 ∷ 9 ∷ [])) new1 next1 over-room p (last_line h) new2 next2 q)

  -- input within the bound
  pub within-put : length input ≤ 65536 → (new : List ℕ) (next : ℕ) → Put old 0 (script_text 1 start (read_all input)) new next → Put old 0 (session_text input) new next
  within-put l new next p = subst (λ (t : List ℕ). Put old 0 t new next) (sym (text-within input l)) p

-- what was put at the start stands at the start
module _ (old text new : List ℕ) (n : ℕ) (p : Put old 0 text new n) where
  pub put-reaches : n ≤ length new
  put-reaches = omega (arith, p.past, ap (λ (l : List ℕ). length l) p.is, length-append text (drop (0 + length text) old))

  put-starts : take n new ≡ text
  put-starts = ap (λ (l : List ℕ). take n l) p.is ∙ take_at text (drop (0 + length text) old) n (omega (arith, p.past))

-- the call: refused where the output is too short, else the text is copied
module _ (input output old new : List ℕ) (n : ℕ) (p : Put old 0 (session_text input) new n) where
  pub session-refused : length output < n → ◌≡◌ {A = Result ℕ Refusal × List ℕ} (Err OutputShort, output) (session input output)
  unfolding session
  session-refused l = sym (rw (lt-leb (length (session_text input)) (length output) (omega (arith, p.past))))

  pub session-done : n ≤ length output → (copied : List ℕ) → copied ≡ take n new ++ drop n output → ◌≡◌ {A = Result ℕ Refusal × List ℕ} (Ok n, copied) (session input output)
  unfolding session
  session-done l copied e =
      let m : n ≡ length (session_text input) = omega (arith, p.past) in
      let c : copied ≡ session_text input ++ drop (length (session_text input)) output = e ∙ ap (λ (t : List ℕ). t ++ drop n output) (put-starts old (session_text input) new n p) ∙ ap (λ (k : ℕ). session_text input ++ drop k output) m in
      ap (λ (k : ℕ). (Ok k, copied)) m ∙ ap (λ (t : List ℕ). (Ok (length (session_text input)), t)) c
      ∙ sym (rw (le-leb (length (session_text input)) (length output) (omega arith)))
