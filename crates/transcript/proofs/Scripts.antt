-- The text of a script: record by record, and its end.
use Prim.Native.Nat.{ℕ, ◌+◌}
use mathlib.Core.Bool.{true, false}
use mathlib.Core.List.{List, [], ◌∷◌, ◌++◌, append_assoc}
use mathlib.Core.Path.{◌≡◌, refl, ap, ◌∙◌}
use native.Mathlib.Omega.{arith}
use lib.ListN.{length}
use Rattle.lines.specs.Text.{line}
use Rattle.records.specs.Record.{Record}
use Rattle.session_steps.specs.State.{State, step, after}
use Rattle.transcript.specs.Session.{Script, before, r_word, reply_text, replies, stop_text, end_text, script_text}

-- the answer to the first record, then the text of the others
pub script-record : (k : ℕ) (s : State) (r : Record) (script : Script)
    → script_text k s (before r script) ≡ reply_text k (step r s).0 ++ script_text (k + 1) (step r s).1 script
unfolding script_text before replies after
script-record k s r script =
    let rs : List Record = script.records in
    let e : k + length (r ∷ rs) ≡ k + 1 + length rs = omega arith in
    append_assoc (reply_text k (step r s).0) (replies (k + 1) (step r s).1 rs) (stop_text (k + length (r ∷ rs)) script.whole ++ end_text (after (step r s).1 rs))
    ∙ ap (λ (n : ℕ). reply_text k (step r s).0 ++ (replies (k + 1) (step r s).1 rs ++ (stop_text n script.whole ++ end_text (after (step r s).1 rs)))) e

-- no more records
pub script_end : (k : ℕ) (s : State) → script_text k s (record { records = []; whole = true }) ≡ end_text s
unfolding script_text replies after stop_text
script_end k s = refl

-- a malformed record
pub script-stop : (k : ℕ) (s : State) → script_text k s (record { records = []; whole = false }) ≡ line r_word (k ∷ 9 ∷ []) ++ end_text s
unfolding script_text replies after stop_text
script-stop k s = let e : k + 0 ≡ k = omega arith in ap (λ (n : ℕ). line r_word (n ∷ 9 ∷ []) ++ end_text s) e
