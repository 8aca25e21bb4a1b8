-- What the inner functions ask and promise each other. The public contracts cite nothing of this file.
use Rattle.std.specs.Prelude.{ℕ, List, [], ◌∷◌, Result, Ok, Err}
use Rattle.arena.specs.declared.Refusal.{Refusal}
use Rattle.arena.specs.Refusals.{refusal_number}
use Rattle.lines.specs.Text.{line}
use Rattle.session_steps.specs.declared.holding.Said.{Said}
use Rattle.session_steps.specs.declared.holding.Said.TheVariants.{Quiet, NormalForm, Equality}
use Rattle.transcript.specs.Session.{bit, n_word, q_word, r_word}

-- what is printed for what a record is answered with
unfoldable pub said_text : ℕ → Result Said Refusal → List ℕ
said_text k (Ok Quiet) = []
said_text k (Ok (NormalForm e r)) = line n_word (e ∷ r ∷ [])
said_text k (Ok (Equality a b v)) = line q_word (a ∷ b ∷ bit v ∷ [])
said_text k (Err why) = line r_word (k ∷ refusal_number why ∷ [])
