-- `dependency_orderings::answering::answer_place` meets its contract.
use mathlib.Core.Path.{sym, ap, ◌∙◌, subst}
use mathlib.Core.List.{[]}
use Rattle.std.specs.Prelude.{Result}
use Rattle.arena.specs.declared.Refusal.{Refusal}
use Rattle.arena.proofs.Refusals.{handed-on}
use Rattle.dependencies.specs.Map.{entry_at}
use Rattle.dependencies.specs.Layout.{decode}
use Rattle.enumeration.specs.Walk.{over_start}
use Rattle.enumeration.specs.Inner.{Room, Rows}
use Rattle.enumeration.specs.declared.Found.{Found}
use Rattle.enumeration.proofs.Keeps.{room-none, rows_none}
use Rattle.dependency_orderings.specs.Calls.{Answer}
use Rattle.dependency_orderings.specs.declared.Enumerated.{Enumerated}
use Rattle.dependency_orderings.proofs.AnswerLaws.{walk-stopped, walk_rows, walk-answered}
use Rattle.dependency_orderings.proofs.answering.answer_place.Goals as goal

pub prefixes_at-requires : goal.prefixes_at-requires
prefixes_at-requires c = (c.requires, subst Room (sym c.nothing_found.ensures) room-none)

pub returns-in_err-found : goal.returns-in_err-found
returns-in_err-found c =
    let w = over_start (decode c.args.m) (entry_at (decode c.args.m) c.args.place).dependencies [] in
    ap {B = Answer} (λ (r : Result Enumerated Refusal). (r, c.args.out.now)) (handed-on _ _ c.from_residual.ensures.1)
    ∙ walk-stopped w c.args.out.now _ (c.in_err-found.ensures [] (subst (λ (f : Found). Rows f []) (sym c.nothing_found.ensures) rows_none))

pub answer_found-requires : goal.answer_found-requires
answer_found-requires c =
    let w = over_start (decode c.args.m) (entry_at (decode c.args.m) c.args.place).dependencies [] in
    let n = c.in_ok-found.ensures in
    (n.room, walk_rows w c.args.out.now _ (n.came [] (subst (λ (f : Found). Rows f []) (sym c.nothing_found.ensures) rows_none)))

pub returns : goal.returns
returns c =
    let w = over_start (decode c.args.m) (entry_at (decode c.args.m) c.args.place).dependencies [] in
    let a = c.answer_found in
    walk-answered w c.args.out.now _ (c.in_ok-found.ensures.came [] (subst (λ (f : Found). Rows f []) (sym c.nothing_found.ensures) rows_none)) (a.result, a.new.out) a.ensures
