-- A session: input bytes to the text that is printed.
use Rattle.std.specs.Prelude.{ℕ, zero, suc, ◌+◌, ◌<◌, ◌≤◌, Bool, true, false, List, [], ◌∷◌, ◌++◌, ◌≡◌, refl, eqb, leb, length, drop, if◌then◌else◌, Option, None, Some}
use Rattle.std.proofs.Common.{ap, ◌∙◌, arith, eq-eqb, ne_eqb}
use Rattle.std.proofs.lemmas.Bool.{eqb-false}
use Rattle.std.proofs.Math.ListN.{length-drop}
use Rattle.classes.specs.Group.{total}
use Rattle.records.specs.Record.{Record, read_record, record_size}
use Rattle.records.proofs.Items.{size_least, size-most}
use Rattle.session_steps.specs.State.{State, start, Reply, quiet, normal_form, equality, refusal, step, after}
use Rattle.lines.specs.Text.{line}
use Rattle.std.specs.Prelude.{Result, Ok, Err}
use Rattle.arena.specs.declared.Refusal.{Refusal}
use Rattle.arena.specs.declared.Refusal.TheVariants.{OutputShort}

-- what some bytes hold: records, and whether they end with the last of them (else a malformed one stands after it)
pub record Script : Type 0 where
  pub records : List Record
  pub whole : Bool

-- a record before a script
unfoldable pub before : Record → Script → Script
before r s = record { records = r ∷ s.records; whole = s.whole }

-- the records of some bytes, n at the most
unfoldable pub read_from : ℕ → List ℕ → Script
read_from zero bytes = record { records = []; whole = true }
read_from (suc n) bytes =
    if eqb (length bytes) 0 then record { records = []; whole = true }
    else elim (read_record bytes) [
      | None ↦ record { records = []; whole = false }
      | Some r ↦ before r (read_from n (drop (record_size bytes) bytes))
    ]

-- the records of some bytes: a record takes at least one byte
unfoldable pub read_all : List ℕ → Script
read_all bytes = read_from (length bytes) bytes

-- more than enough changes nothing
read-enough : (n m : ℕ) (bytes : List ℕ) → length bytes ≤ n → length bytes ≤ m → read_from n bytes ≡ read_from m bytes
unfolding read_from
read-enough zero zero bytes a b = refl
read-enough zero (suc m) bytes a b = rw (eq-eqb (length bytes) 0 (omega arith))
read-enough (suc n) zero bytes a b = rw (eq-eqb (length bytes) 0 (omega arith))
read-enough (suc n) (suc m) bytes a b =
    go (eqb (length bytes) 0) refl (read_record bytes) refl
    (λ r l e. read-enough n m (drop (record_size bytes) bytes) (shorter r l e n a) (shorter r l e m b))
  where
    shorter : (r : Record) → (length bytes ≡ 0 → ⊥) → read_record bytes ≡ Some r → (k : ℕ) → length bytes ≤ suc k → length (drop (record_size bytes) bytes) ≤ k
    shorter r l e k c = omega (arith, length-drop (record_size bytes) bytes, size_least bytes r e)

    go : (t : Bool) → eqb (length bytes) 0 ≡ t → (o : Option Record) → read_record bytes ≡ o
        → ((r : Record) → (length bytes ≡ 0 → ⊥) → read_record bytes ≡ Some r → read_from n (drop (record_size bytes) bytes) ≡ read_from m (drop (record_size bytes) bytes))
        → read_from (suc n) bytes ≡ read_from (suc m) bytes
    go true e o q f = rw e
    go false e None q f = rw (e, q, read_from)
    go false e (Some r) q f = rw (e, q, read_from, f r (eqb-false (length bytes) 0 e) q)

-- so: no bytes hold no record, a malformed record ends the script, and a record stands before the script of the bytes after it. Nothing after this looks at how many are enough
pub read_none : read_all [] ≡ record { records = []; whole = true }
unfolding read_all read_from
read_none = refl

module _ (bytes : List ℕ) where
  pub read_malformed : 0 < length bytes → read_record bytes ≡ None → read_all bytes ≡ record { records = []; whole = false }
  unfolding read_all read_from
  read_malformed l q =
      read-enough (length bytes) (suc (length bytes)) bytes (omega arith) (omega arith)
      ∙ rw (ne_eqb (length bytes) 0 (λ z. omega arith), q, read_from)

  pub read-record : (r : Record) → read_record bytes ≡ Some r → read_all bytes ≡ before r (read_all (drop (record_size bytes) bytes))
  unfolding read_all read_from
  read-record r q =
      read-enough (length bytes) (suc (length bytes)) bytes (omega arith) (omega arith)
      ∙ rw (ne_eqb (length bytes) 0 (λ z. omega (arith, size_least bytes r q, size-most bytes r q)), q, read_from)
      (ap (before r) (read-enough (length bytes) (length (drop (record_size bytes) bytes)) (drop (record_size bytes) bytes) (omega (arith, length-drop (record_size bytes) bytes)) (omega arith)))

-- a yes is 1, a no is 0
unfoldable pub bit : Bool → ℕ
bit true = 1
bit false = 0

-- the words `n`, `q`, `r`, `end`
abbrev pub n_word : List ℕ
n_word = 110 ∷ []

abbrev pub q_word : List ℕ
q_word = 113 ∷ []

abbrev pub r_word : List ℕ
r_word = 114 ∷ []

abbrev pub end_word : List ℕ
end_word = 101 ∷ 110 ∷ 100 ∷ []

-- what is printed for record k: `n E R`, `q A B V`, `r K N`, or nothing
unfoldable pub reply_text : ℕ → Reply → List ℕ
reply_text k quiet = []
reply_text k (normal_form e r) = line n_word (e ∷ r ∷ [])
reply_text k (equality a b v) = line q_word (a ∷ b ∷ bit v ∷ [])
reply_text k (refusal number) = line r_word (k ∷ number ∷ [])

-- what is printed for records, the first of them record k
unfoldable pub replies : ℕ → State → List Record → List ℕ
replies k s [] = []
replies k s (r ∷ rs) = reply_text k (step r s).0 ++ replies (k + 1) (step r s).1 rs

-- what is printed for a malformed record: it has the number after the last, and stops the session
unfoldable pub stop_text : ℕ → Bool → List ℕ
stop_text k true = []
stop_text k false = line r_word (k ∷ 9 ∷ [])

-- the last line: classes, members, orderings
unfoldable pub end_text : State → List ℕ
end_text s = line end_word (length s.classes ∷ total s.classes ∷ length s.orderings ∷ [])

-- the text of a script, the first of its records record k
unfoldable pub script_text : ℕ → State → Script → List ℕ
script_text k s script =
    replies k s script.records ++ (stop_text (k + length script.records) script.whole ++ end_text (after s script.records))

-- the text of a session: records are counted from 1; input over the bound is malformed as a whole
unfoldable pub session_text : List ℕ → List ℕ
session_text bytes =
    if leb (length bytes) 65536 then script_text 1 start (read_all bytes)
    else line r_word (0 ∷ 9 ∷ []) ++ end_text start

-- the call on lent output: 8 where the text doesn't fit, and then nothing is written; else its length, and the text at the start of the output
unfoldable pub session : List ℕ → List ℕ → Result ℕ Refusal × List ℕ
session bytes output =
    if leb (length (session_text bytes)) (length output) then (Ok (length (session_text bytes)), session_text bytes ++ drop (length (session_text bytes)) output)
    else (Err OutputShort, output)
