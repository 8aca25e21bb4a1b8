-- `dependency_orderings::generate_dependency_orderings` meets its contract.
use mathlib.Core.Path.{sym, ap, ◌∙◌}
use mathlib.Core.List.{map}
use Rattle.std.specs.Prelude.{Result}
use Rattle.arena.specs.declared.Refusal.{Refusal}
use Rattle.arena.proofs.Refusals.{handed-on}
use Rattle.sort_keys.specs.Layout.{keys_of, packed}
use Rattle.dependencies.proofs.MapCodec.{arrays_sized}
use Rattle.dependency_orderings.specs.Calls.{Answer}
use Rattle.dependency_orderings.specs.declared.Enumerated.{Enumerated}
use Rattle.dependency_orderings.proofs.AnswerLaws.{generate_zero, generate_passes, generate_refused, generate_answered, map-held, keys-fit}
use Rattle.dependency_orderings.proofs.generate_dependency_orderings.Goals as goal

pub returns-in_err-generate_number : goal.returns-in_err-generate_number
returns-in_err-generate_number c =
    ap {B = Answer} (λ (r : Result Enumerated Refusal). (r, c.args.out.now)) (handed-on _ _ c.from_residual.ensures.1)
    ∙ generate_refused c.args.cells.now c.args.map c.args.keys.now _ (sym c.in_err-generate_number.ensures) c.args.out.now

pub gather-requires : goal.gather-requires
gather-requires c =
    let p = generate_passes c.args.cells.now c.args.map c.args.keys.now (generate_zero c.args.cells.now c.args.map c.args.keys.now (sym c.in_ok-generate_number.ensures)) in
    (map-held c.args.cells.now c.args.map p.map (arrays_sized c.args.map _ c.well_formed.1.0), keys-fit c.args.cells.now c.args.map p.map c.args.keys.now p)

pub answer_gathered-requires : goal.answer_gathered-requires
answer_gathered-requires c =
    record { map = c.args.map; keys = map packed (keys_of c.args.keys.now); gathers = c.gather.ensures }

pub returns : goal.returns
returns c =
    let z = generate_zero c.args.cells.now c.args.map c.args.keys.now (sym c.in_ok-generate_number.ensures) in
    c.answer_gathered.ensures c.args.map (map packed (keys_of c.args.keys.now)) c.gather.ensures ∙ generate_answered c.args.cells.now c.args.map c.args.keys.now z c.args.out.now
