-- How long the lines of a session are: the answer to a record is at most twice as long as the record.
use Rattle.arena.specs.Refusals.{Added, refusal_number}
use Prim.Native.Nat.{ℕ, ◌*◌, ◌<◌, ◌≤◌}
use mathlib.Core.Bool.{Bool, true, false}
use mathlib.Core.List.{List, [], ◌∷◌}
use Rattle.std.specs.Prelude.{Some, Err, Ok}
use mathlib.Core.Path.{◌≡◌}
use native.Mathlib.Omega.{arith}
use lib.ListN.{length}
use Rattle.lines.specs.Text.{decimal, line}
use Rattle.lines.proofs.Lengths.{below-10, below-100, below-1000, below-10000, below-100000, length_two, length_three}
use Rattle.classes.specs.Group.{total}
use Rattle.normal.specs.Calls.{normalize_expr}
use Rattle.records.specs.Record.{Record, column, literal, operation, equal_pair, constant, normal_form_of, equality_of, one_ordering, read_record, record_size, kind_of}
use Rattle.records.proofs.Items.{size-other, size-normal_form}
use Rattle.session_steps.specs.State.{State, Reply, quiet, normal_form, equality, refusal, normal_reply, on_nodes, step}
use Rattle.transcript.specs.Session.{n_word, q_word, r_word, end_word, bit, reply_text, end_text}
use Rattle.session_steps.proofs.Bounds.{Small, Tells, NormalSmall, step-answered, normal-answered}

-- a yes or a no is one digit
bit-short : (v : Bool) → length (decimal (bit v)) ≤ 1
unfolding bit
bit-short true = below-10 1 (omega arith)
bit-short false = below-10 0 (omega arith)

module _ (k : ℕ) (l : k < 100000) where
  -- the line of an answer
  line-short : (r : Reply) → Tells r → length (reply_text k r) ≤ 14
  unfolding reply_text Tells
  line-short quiet t = omega arith
  line-short (normal_form e r) t = omega (arith, length_two n_word e r, below-10000 e (omega arith), below-10000 r (omega arith))
  line-short (equality a b v) t = omega (arith, length_three q_word a b (bit v), below-10000 a (omega arith), below-10000 b (omega arith), bit-short v)
  line-short (refusal number) t = omega (arith, length_two r_word k number, below-100000 k l, below-100 number t)

  -- the line of a normal form
  normal-short : (e : ℕ) (a : Added) → NormalSmall e a → length (reply_text k (normal_reply e a)) ≤ 12
  unfolding normal_reply reply_text NormalSmall
  normal-short e (Ok i) t = omega (arith, length_two n_word e i, below-10000 e (omega arith), below-10000 i (omega arith))
  normal-short e (Err n) t = omega (arith, length_two r_word k (refusal_number n), below-100000 k l, below-10 (refusal_number n) t)

  -- the line of a malformed record
  pub stop-short : length (line r_word (k ∷ 9 ∷ [])) ≤ 10
  stop-short = omega (arith, length_two r_word k 9, below-100000 k l, below-10 9 (omega arith))

  -- the line of a record
  pub reply-short : (bytes : List ℕ) (x : Record) (s : State) → read_record bytes ≡ Some x → Small s → length (reply_text k (step x s).0) ≤ 2 * record_size bytes
  unfolding kind_of step on_nodes
  reply-short bytes x s q h = go x q
    where
      other : (x : Record) → read_record bytes ≡ Some x → (kind_of x ≡ 6 → ⊥) → length (reply_text k (step x s).0) ≤ 2 * record_size bytes
      other x q o = omega (arith, line-short (step x s).0 (step-answered x s h).tells, size-other bytes x q o)

      normal : (e : ℕ) → read_record bytes ≡ Some (normal_form_of e) → length (reply_text k (step (normal_form_of e) s).0) ≤ 2 * record_size bytes
      normal e q = omega (arith, normal-short e (normalize_expr e s.nodes s.classes).0 (normal-answered e s h), size-normal_form bytes e q)

      go : (x : Record) → read_record bytes ≡ Some x → length (reply_text k (step x s).0) ≤ 2 * record_size bytes
      go (column name index) q = other (column name index) q (λ z. omega arith)
      go (literal value) q = other (literal value) q (λ z. omega arith)
      go (operation label children) q = other (operation label children) q (λ z. omega arith)
      go (equal_pair a b) q = other (equal_pair a b) q (λ z. omega arith)
      go (constant e flavour value) q = other (constant e flavour value) q (λ z. omega arith)
      go (normal_form_of e) q = normal e q
      go (equality_of a b) q = other (equality_of a b) q (λ z. omega arith)
      go (one_ordering keys) q = other (one_ordering keys) q (λ z. omega arith)

-- the last line
pub end_short : (s : State) → Small s → length (end_text s) ≤ 14
unfolding end_text
end_short s h =
    omega (
      arith,
      length_three end_word (length s.classes) (total s.classes) (length s.orderings),
      below-100 (length s.classes) (omega (arith, h.classes)),
      below-1000 (total s.classes) (omega (arith, h.members)),
      below-100 (length s.orderings) (omega (arith, h.orderings)),
    )
