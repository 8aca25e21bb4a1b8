-- Two results that meet a contract are equal: the public functions whose contract says the parts of the result by an equation each, or the result by what stands before it.
use Prim.Native.Nat.{ℕ, ◌<◌}
use mathlib.Core.Bool.{Bool, true, false}
use mathlib.Core.List.{List}
use mathlib.Core.Path.{◌≡◌, refl}
use native.Mathlib.Omega.{arith}
use borrow.Author.Tests.{ltb-true, ltb-false}
use lib.Dec.{ltb}
use Rattle.laws.proofs.Booleans.{true_not_false}
use Rattle.laws.proofs.Determined.{one-result}
use Rattle.enumeration.specs.Inner.{Opened}
use Rattle.enumeration.specs.declared.Seen.{Seen}
use Rattle.lines.specs.Writing.{Put}
use Rattle.promises.proofs.Once.{OneAnswer, OneWith}
use Rattle.classes.proofs.refusing.refusal.Reads as ClassesRefusingRefusal
use Rattle.enumeration.proofs.marking.next_open.Reads as EnumerationMarkingNextOpen
use Rattle.dependency_orderings.proofs.answering.answer_gathered.Reads as DependencyOrderingsAnsweringAnswerGathered
use Rattle.dependency_orderings.proofs.writing.write_all.Reads as DependencyOrderingsWritingWriteAll
use Rattle.records.proofs.fields.index.Reads as RecordsFieldsIndex
use Rattle.lines.proofs.put_byte.Reads as LinesPutByte
use Rattle.lines.proofs.put_two.Reads as LinesPutTwo
use Rattle.lines.proofs.put_three.Reads as LinesPutThree
use Rattle.transcript.proofs.text.put_refusal.Reads as TranscriptTextPutRefusal
use Rattle.transcript.proofs.text.put_end.Reads as TranscriptTextPutEnd
use Rattle.transcript.proofs.text.put_said.Reads as TranscriptTextPutSaid

-- ---- the laws

-- an answer and what is lent, each by an equation
both : {R : Type 0} {r r' x : R} {l l' y : List ℕ} → (r ≡ x) × (l ≡ y) → (r' ≡ x) × (l' ≡ y) → ◌≡◌ {A = R × List ℕ} (r, l) (r', l')
both p q = λ i. (one-result p.0 q.0 i, one-result p.1 q.1 i)

-- text that is put into lent bytes
put : {old text new new' : List ℕ} {at next next' : ℕ} → Put old at text new next → Put old at text new' next' → ◌≡◌ {A = ℕ × List ℕ} (next, new) (next', new')
put p q = both (p.past, p.is) (q.past, q.is)

-- the first place that is not told: none is lower
not_lower : {s : Seen} {from size r r' : ℕ} → Opened s from size r → Opened s from size r' → r < r' → ⊥
not_lower {r = r} p q l = true_not_false (q.before r p.low l) (p.here (omega (arith, l, q.high)))

opened : {s : Seen} {from size r r' : ℕ} → Opened s from size r → Opened s from size r' → r ≡ r'
opened {r = r} {r' = r'} p q = by (ltb r r') refl (ltb r' r) refl
  where
    by : (b : Bool) → ltb r r' ≡ b → (c : Bool) → ltb r' r ≡ c → r ≡ r'
    by true e c f = absurd (not_lower p q (ltb-true r r' e))
    by false e true f = absurd (not_lower q p (ltb-true r' r f))
    by false e false f = omega (arith, ltb-false r r' e, ltb-false r' r f)

-- ---- classes

pub classes-refusing-refusal : (κs : _) (a : _) → OneAnswer (ClassesRefusingRefusal.Learnt κs a)
classes-refusing-refusal κs a r r' s s' p q = λ i. record { answer = one-result p.0 q.0 i; group = one-result p.1 q.1 i }

-- ---- enumeration

pub enumeration-marking-next_open : (κs : _) (a : _) → OneAnswer (EnumerationMarkingNextOpen.Learnt κs a)
enumeration-marking-next_open κs a r r' s s' = opened

-- ---- dependency_orderings

-- what was gathered is of some map and some keys, as the caller has shown
pub dependency_orderings-answering-answer_gathered : (κs : _) (a : _) → DependencyOrderingsAnsweringAnswerGathered.Asked κs a → OneWith (λ s. s.1.0.now) (DependencyOrderingsAnsweringAnswerGathered.Learnt κs a)
dependency_orderings-answering-answer_gathered κs a asked r r' s s' p q =
    one-result (p asked.map asked.keys asked.gathers) (q asked.map asked.keys asked.gathers)

pub dependency_orderings-writing-write_all : (κs : _) (a : _) → OneWith (λ s. s.0.now) (DependencyOrderingsWritingWriteAll.Learnt κs a)
dependency_orderings-writing-write_all κs a r r' s s' p q = both (p.0, p.1) (q.0, q.1)

-- ---- records

pub records-fields-index : (κs : _) (a : _) → OneAnswer (RecordsFieldsIndex.Learnt κs a)
records-fields-index κs a r r' s s' p q = one-result p.0 q.0

-- ---- lines

pub lines-put_byte : (κs : _) (a : _) → OneWith (λ s. s.0.now) (LinesPutByte.Learnt κs a)
lines-put_byte κs a r r' s s' = put

pub lines-put_two : (κs : _) (a : _) → OneWith (λ s. s.0.now) (LinesPutTwo.Learnt κs a)
lines-put_two κs a r r' s s' = put

pub lines-put_three : (κs : _) (a : _) → OneWith (λ s. s.0.now) (LinesPutThree.Learnt κs a)
lines-put_three κs a r r' s s' = put

-- ---- transcript

pub transcript-text-put_refusal : (κs : _) (a : _) → OneWith (λ s. s.0.now) (TranscriptTextPutRefusal.Learnt κs a)
transcript-text-put_refusal κs a r r' s s' = put

pub transcript-text-put_end : (κs : _) (a : _) → OneWith (λ s. s.0.now) (TranscriptTextPutEnd.Learnt κs a)
transcript-text-put_end κs a r r' s s' = put

pub transcript-text-put_said : (κs : _) (a : _) → OneWith (λ s. s.0.now) (TranscriptTextPutSaid.Learnt κs a)
transcript-text-put_said κs a r r' s s' = put
