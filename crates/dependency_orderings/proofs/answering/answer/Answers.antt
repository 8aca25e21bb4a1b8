-- `dependency_orderings::answering::answer` meets its contract.
use mathlib.Core.Path.{ap, ◌∙◌}
use native.Mathlib.Omega.{arith}
use Rattle.std.specs.Prelude.{Result}
use Rattle.arena.specs.declared.Refusal.{Refusal}
use Rattle.arena.proofs.Refusals.{handed-on}
use Rattle.dependency_orderings.specs.Calls.{Answer}
use Rattle.dependency_orderings.specs.declared.Enumerated.{Enumerated}
use Rattle.dependency_orderings.proofs.AnswerLaws.{answer-none, answer-many, answer-ready, count-few, answer-long, answer-short, answer-room, answer-written}
use borrow.Author.Rules.{rules}
use Rattle.dependency_orderings.proofs.answering.answer.Goals as goal

pub returns-then-shape-eq0 : goal.returns-then-shape-eq0
returns-then-shape-eq0 c = answer-none c.args.l c.args.out.now c.if-shape-eq0.true

pub count_choices-requires : goal.count_choices-requires
count_choices-requires c = c.requires.shaped

pub returns-in_err-n : goal.returns-in_err-n
returns-in_err-n c =
    ap {B = Answer} (λ (r : Result Enumerated Refusal). (r, c.args.out.now)) (handed-on _ _ c.from_residual.ensures.1) ∙ answer-many c.args.l c.requires c.if-shape-eq0.false _ c.in_err-n.ensures c.args.out.now

pub measure_all-requires : goal.measure_all-requires
measure_all-requires c = answer-ready c.args.l c.requires c.if-shape-eq0.false _ c.in_ok-n.ensures

pub returns-in_err-places : goal.returns-in_err-places
returns-in_err-places c =
    ap {B = Answer} (λ (r : Result Enumerated Refusal). (r, c.args.out.now)) (handed-on _ _ c.from_residual-in_err-places.ensures.1) ∙ answer-long c.args.l c.requires c.if-shape-eq0.false _ c.in_ok-n.ensures c.args.out.now _ c.in_err-places.ensures

pub returns-then-out-places : goal.returns-then-out-places
returns-then-out-places c = answer-short c.args.l c.requires c.if-shape-eq0.false _ c.in_ok-n.ensures c.args.out.now _ c.in_ok-places.ensures c.if-out-places.true

pub write_all-used-requires : goal.write_all-used-requires
write_all-used-requires c =
    (answer-ready c.args.l c.requires c.if-shape-eq0.false _ c.in_ok-n.ensures, answer-room c.args.l c.requires c.if-shape-eq0.false _ c.in_ok-n.ensures c.args.out.now _ c.in_ok-places.ensures (omega arith))

pub factorial-requires : goal.factorial-requires
factorial-requires c =
    c.requires.shaped.few

pub overflow_mul-result : goal.overflow_mul-result
overflow_mul-result c =
    let b = count-few c.args.l c.requires c.if-shape-eq0.false _ c.in_ok-n.ensures c.factorial.result c.factorial.ensures in
    search rules

pub returns : goal.returns
returns c =
    let w = c.write_all-used in
    answer-written c.args.l c.requires c.if-shape-eq0.false _ c.in_ok-n.ensures c.args.out.now _ c.in_ok-places.ensures (omega arith) c.factorial.result w.result w.new.out c.factorial.ensures w.ensures
