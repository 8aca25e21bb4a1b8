-- What a session promises: how long its text is, what stays when bytes are appended, and that a refusal doesn't stop it.
use Prim.Native.Nat.{ℕ, zero, suc, ◌+◌, ◌*◌, ◌<◌, ◌≤◌}
use mathlib.Core.Bool.{true}
use mathlib.Core.List.{List, [], ◌∷◌, ◌++◌, append_assoc}
use Rattle.std.specs.Prelude.{Option, None, Some}
use mathlib.Core.Path.{◌≡◌, refl, sym, ap, ap₂, ◌∙◌}
use native.Mathlib.Decide.{dec_lt}
use native.Mathlib.Omega.{arith}
use borrow.Author.Tests.{le-leb}
use lib.ListN.{length, take, drop, length-append, length-drop, get_or-append}
use lib.Seq.{drop-append-le, take-append-le}
use Rattle.laws.proofs.Booleans.{true_not_false}
use Rattle.lines.specs.Text.{line}
use Rattle.records.specs.Fields.{field}
use Rattle.records.specs.Record.{Record, read_record, record_size, record_in, body_of, is_whole}
use Rattle.records.proofs.Headers.{whole-header, whole_body, whole_from}
use Rattle.records.proofs.Items.{size_least, size-most}
use Rattle.records.proofs.Reading.{was_read}
use Rattle.session_steps.specs.State.{State, start, refusal, step, after}
use Rattle.transcript.specs.Session.{Script, before, read_all, read_none, read_malformed, read-record, r_word, reply_text, replies, stop_text, end_text, script_text, session_text, session}
use Rattle.std.specs.Prelude.{Result, Ok, Err}
use Rattle.arena.specs.declared.Refusal.{Refusal}
use Rattle.arena.specs.declared.Refusal.TheVariants.{OutputShort}
use Rattle.session_steps.proofs.Bounds.{Small, small-start, step-answered}
use Rattle.transcript.proofs.LineLengths.{stop-short, reply-short, end_short}
use Rattle.transcript.proofs.Scripts.{script-record, script_end, script-stop}
use Rattle.session_steps.proofs.States.{refused-leaves}
use Rattle.transcript.proofs.Transcribing.{text-over, text-within}

-- the text of bytes is at most two bytes for each of theirs, and 24 for the last lines
none-bounded : (bytes : List ℕ) (k : ℕ) (s : State) → length bytes ≤ 0 → Small s → length (script_text k s (read_all bytes)) ≤ 2 * length bytes + 24
none-bounded [] k s l h = omega (arith, ap (λ (t : List ℕ). length t) (ap (script_text k s) read_none ∙ script_end k s), end_short s h)
none-bounded (b ∷ bs) k s l h = absurd (omega arith)

script-bounded : (n : ℕ) (bytes : List ℕ) (k : ℕ) (s : State) → length bytes ≤ n → 4 * k + length bytes < 400000 → Small s → length (script_text k s (read_all bytes)) ≤ 2 * length bytes + 24
script-bounded zero bytes k s l c h = none-bounded bytes k s l h
script-bounded (suc n) bytes k s l c h = at (dec_lt 0 (length bytes)) (λ k s rest a c h. script-bounded n rest k s a c h)
  where
    low : k < 100000
    low = omega arith

    go : 0 < length bytes → (o : Option Record) → read_record bytes ≡ o
        → ((k : ℕ) (s : State) (rest : List ℕ) → length rest ≤ n → 4 * k + length rest < 400000 → Small s → length (script_text k s (read_all rest)) ≤ 2 * length rest + 24)
        → length (script_text k s (read_all bytes)) ≤ 2 * length bytes + 24
    go p None q f =
        let e = ap (λ (t : List ℕ). length t) (ap (script_text k s) (read_malformed bytes p q) ∙ script-stop k s) in
        omega (arith, e, length-append (line r_word (k ∷ 9 ∷ [])) (end_text s), stop-short k low, end_short s h)
    go p (Some x) q f =
        let rest : List ℕ = drop (record_size bytes) bytes in
        let d = length-drop (record_size bytes) bytes in
        let m = size_least bytes x q in
        let u = size-most bytes x q in
        let e = ap (λ (t : List ℕ). length t) (ap (script_text k s) (read-record bytes x q) ∙ script-record k s x (read_all rest)) in
        let i = f (k + 1) (step x s).1 rest (omega arith) (omega arith) (step-answered x s h).small in
        omega (arith, e, length-append (reply_text k (step x s).0) (script_text (k + 1) (step x s).1 (read_all rest)), reply-short k low bytes x s q h, i)

    at : Dec (0 < length bytes)
        → ((k : ℕ) (s : State) (rest : List ℕ) → length rest ≤ n → 4 * k + length rest < 400000 → Small s → length (script_text k s (read_all rest)) ≤ 2 * length rest + 24)
        → length (script_text k s (read_all bytes)) ≤ 2 * length bytes + 24
    at (yes p) f = go p (read_record bytes) refl f
    at (no p) f = none-bounded bytes k s (omega arith) h

-- within document 01's bound of 65,536 bytes the text is at most twice as long as the input and 24 bytes
pub text_doubles : (bytes : List ℕ) → length bytes ≤ 65536 → length (session_text bytes) ≤ 2 * length bytes + 24
text_doubles bytes l = omega (arith, ap (λ (t : List ℕ). length t) (text-within bytes l), script-bounded (length bytes) bytes 1 start (omega arith) (omega arith) small-start)

-- so no text is longer than 131,096 bytes, whatever the bytes
pub text-bounded : (bytes : List ℕ) → length (session_text bytes) ≤ 131096
text-bounded bytes = go (dec_lt 65536 (length bytes))
  where
    go : Dec (65536 < length bytes) → length (session_text bytes) ≤ 131096
    go (yes l) =
        omega (arith, ap (λ (t : List ℕ). length t) (text-over bytes l), length-append (line r_word (0 ∷ 9 ∷ [])) (end_text start), stop-short 0 (omega arith), end_short start small-start)
    go (no l) = omega (arith, text_doubles bytes (omega arith))

-- and output of 131,096 bytes is never too short: the call answers the text's length, and the text stands at the start
pub never-short : (bytes output : List ℕ) → 131096 ≤ length output
    → session bytes output ≡ (Ok (length (session_text bytes)), session_text bytes ++ drop (length (session_text bytes)) output)
unfolding session
never-short bytes output l = rw (le-leb (length (session_text bytes)) (length output) (omega (arith, text-bounded bytes)))

pub never-refused : (bytes output : List ℕ) → 131096 ≤ length output → (session bytes output).0 ≡ Err OutputShort → ⊥
never-refused bytes output l q =
    let e : Ok (length (session_text bytes)) ≡ Err OutputShort = sym (ap (λ (o : Result ℕ Refusal × List ℕ). o.0) (never-short bytes output l)) ∙ q in
    let z : ◌≡◌ {A = ℕ} 0 1 = cc in omega arith

-- a record that is read is read the same where bytes follow
module _ (bytes more : List ℕ) where
  field-front : (at : ℕ) → at + 1 < length bytes → field (bytes ++ more) at ≡ field bytes at
  unfolding field
  field-front at l = ap₂ (λ (a b : ℕ). a + 256 * b) (get_or-append bytes more 0 at (omega arith)) (get_or-append bytes more 0 (at + 1) l)

  module _ (w : is_whole bytes ≡ true) where
    size-front : record_size (bytes ++ more) ≡ record_size bytes
    unfolding record_size
    size-front = ap (λ (n : ℕ). 4 + n) (field-front 0 (omega (arith, whole-header bytes w)))

    body_front : body_of (bytes ++ more) ≡ body_of bytes
    unfolding body_of
    body_front =
        let h = whole-header bytes w in
        let b = whole_body bytes w in
        ap₂ (λ (n : ℕ) (l : List ℕ). take n l) (field-front 0 (omega arith)) (drop-append-le 4 bytes more h)
        ∙ take-append-le (field bytes 0) (drop 4 bytes) more (omega (arith, length-drop 4 bytes))

    whole-front : is_whole (bytes ++ more) ≡ true
    whole-front =
        let h = whole-header bytes w in
        let b = whole_body bytes w in
        whole_from (bytes ++ more) (omega (arith, length-append bytes more)) (omega (arith, length-append bytes more, field-front 0 (omega arith)))

    read-front : read_record (bytes ++ more) ≡ read_record bytes
    unfolding read_record
    read-front =
        rw (whole-front, w)
        (ap₂ (λ (n : ℕ) (l : List ℕ). record_in n l) (field-front 2 (omega (arith, whole-header bytes w))) body_front)

-- a script with the records of another before it
unfoldable pub prefixed : List Record → Script → Script
prefixed rs script = record { records = rs ++ script.records; whole = script.whole }

appended-none : (bytes more : List ℕ) → length bytes ≤ 0 → read_all (bytes ++ more) ≡ prefixed (read_all bytes).records (read_all more)
unfolding prefixed
appended-none [] more l = rw read_none
appended-none (b ∷ bs) more l = absurd (omega arith)

appended-within : (n : ℕ) (bytes more : List ℕ) → length bytes ≤ n → (read_all bytes).whole ≡ true → read_all (bytes ++ more) ≡ prefixed (read_all bytes).records (read_all more)
unfolding prefixed before
appended-within zero bytes more l w = appended-none bytes more l
appended-within (suc n) bytes more l w = at (dec_lt 0 (length bytes)) (λ rest a t. appended-within n rest more a t)
  where
    go : 0 < length bytes → (o : Option Record) → read_record bytes ≡ o
        → ((rest : List ℕ) → length rest ≤ n → (read_all rest).whole ≡ true → read_all (rest ++ more) ≡ prefixed (read_all rest).records (read_all more))
        → read_all (bytes ++ more) ≡ prefixed (read_all bytes).records (read_all more)
    go p None q f = absurd (true_not_false w (ap (λ (s : Script). s.whole) (read_malformed bytes p q)))
    go p (Some x) q f =
        let h = (was_read bytes x q).whole in
        let rest : List ℕ = drop (record_size bytes) bytes in
        let e = read-record bytes x q in
        let t : (read_all rest).whole ≡ true = sym (ap (λ (s : Script). s.whole) e) ∙ w in
        let d : drop (record_size (bytes ++ more)) (bytes ++ more) ≡ rest ++ more =
        ap (λ (m : ℕ). drop m (bytes ++ more)) (size-front bytes more h) ∙ drop-append-le (record_size bytes) bytes more (size-most bytes x q) in
        let i = f rest (omega (arith, length-drop (record_size bytes) bytes, size_least bytes x q, size-most bytes x q)) t in
        read-record (bytes ++ more) x (read-front bytes more h ∙ q)
        ∙ ap (λ (l : List ℕ). before x (read_all l)) d
        ∙ ap (before x) i
        ∙ ap (λ (s : Script). prefixed s.records (read_all more)) (sym e)

    at : Dec (0 < length bytes)
        → ((rest : List ℕ) → length rest ≤ n → (read_all rest).whole ≡ true → read_all (rest ++ more) ≡ prefixed (read_all rest).records (read_all more))
        → read_all (bytes ++ more) ≡ prefixed (read_all bytes).records (read_all more)
    at (yes p) f = go p (read_record bytes) refl f
    at (no p) f = appended-none bytes more (omega arith)

-- bytes that are whole records stay the same records where others follow: the records of both, one after the other
pub appended-read : (bytes more : List ℕ) → (read_all bytes).whole ≡ true
    → read_all (bytes ++ more) ≡ record { records = (read_all bytes).records ++ (read_all more).records; whole = (read_all more).whole }
unfolding prefixed
appended-read bytes more w = appended-within (length bytes) bytes more (omega arith) w

-- the text of two scripts: the lines of the first, then the text of the second from the state that the first leaves
pub script-prefixed : (k : ℕ) (s : State) (rs : List Record) (script : Script)
    → script_text k s (prefixed rs script) ≡ replies k s rs ++ script_text (k + length rs) (after s rs) script
unfolding prefixed before replies after
script-prefixed k s [] script = let e : k + 0 ≡ k = omega arith in ap (λ (n : ℕ). script_text n s script) (sym e)
script-prefixed k s (r ∷ rs) script =
    let e : k + 1 + length rs ≡ k + length (r ∷ rs) = omega arith in
    script-record k s r (prefixed rs script)
    ∙ ap (λ (t : List ℕ). reply_text k (step r s).0 ++ t) (script-prefixed (k + 1) (step r s).1 rs script)
    ∙ sym (append_assoc (reply_text k (step r s).0) (replies (k + 1) (step r s).1 rs) (script_text (k + 1 + length rs) (after (step r s).1 rs) script))
    ∙ ap (λ (n : ℕ). (reply_text k (step r s).0 ++ replies (k + 1) (step r s).1 rs) ++ script_text n (after (step r s).1 rs) script) e

-- whole records and any bytes after them, within the bound: the lines before `end` are the ones that the records alone have
pub appended-alone : (bytes : List ℕ) → length bytes ≤ 65536 → (read_all bytes).whole ≡ true
    → session_text bytes ≡ replies 1 start (read_all bytes).records ++ end_text (after start (read_all bytes).records)
unfolding script_text stop_text
appended-alone bytes l w = text-within bytes l ∙ rw w

pub appended : (bytes more : List ℕ) → length (bytes ++ more) ≤ 65536 → (read_all bytes).whole ≡ true
    → session_text (bytes ++ more) ≡ replies 1 start (read_all bytes).records ++ script_text (1 + length (read_all bytes).records) (after start (read_all bytes).records) (read_all more)
unfolding prefixed
appended bytes more l w =
    text-within (bytes ++ more) l ∙ ap (script_text 1 start) (appended-read bytes more w) ∙ script-prefixed 1 start (read_all bytes).records (read_all more)

-- a refusal is told and doesn't stop the session: the records after it are answered from the same state
pub refused-goes_on : (k : ℕ) (s : State) (x : Record) (rs : List Record) (n : ℕ) → (step x s).0 ≡ refusal n
    → replies k s (x ∷ rs) ≡ line r_word (k ∷ n ∷ []) ++ replies (k + 1) s rs
unfolding replies reply_text
refused-goes_on k s x rs n q =
    ap₂ (λ (u v : List ℕ). u ++ v) (ap (reply_text k) q) (ap (λ (t : State). replies (k + 1) t rs) (refused-leaves x s n q))
