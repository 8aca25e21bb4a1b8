-- `transcript::text::put_said` meets its contract.
use Prim.Native.Nat.{ℕ}
use mathlib.Core.List.{List, ◌∷◌, [], ◌++◌}
use mathlib.Core.Path.{sym, ap, ◌∙◌, subst}
use Rattle.std.specs.Prelude.{Result, Ok}
use Rattle.arena.specs.declared.Refusal.{Refusal}
use Rattle.session_steps.specs.declared.holding.Said.{Said}
use Rattle.lines.specs.Text.{spaced}
use Rattle.lines.specs.Writing.{Put, RoomFor}
use Rattle.lines.proofs.Puts.{put-none, put-fits, put-room, put_both}
use Rattle.transcript.proofs.Saying.{said-quiet, said_normal-form, said-equality, equality-room, said-refused}
use Rattle.transcript.proofs.text.put_said.Goals as goal

pub put_two-requires : goal.put_two-requires
put_two-requires c =
    subst (λ (t : List ℕ). RoomFor c.args.out.now c.args.at t) (said_normal-form c.args.k c.args.said _ _ c.wide.result c.wide-in-NormalForm.result (c.in-Ok.is ∙ ap {B = Result Said Refusal} Ok c.in-NormalForm.is) c.wide.ensures c.wide-in-NormalForm.ensures) c.requires

pub put_byte-next-requires : goal.put_byte-next-requires
put_byte-next-requires c =
    equality-room c.args.k c.args.said _ _ _ (c.in-Ok.is ∙ ap {B = Result Said Refusal} Ok c.in-Equality.is) c.args.out.now c.args.at c.requires

pub put_three-requires : goal.put_three-requires
put_three-requires c =
    put-room c.args.out.now c.args.at (113 ∷ []) c.put_byte-next.new.out c.put_byte-next.result (put-fits c.args.out.now c.args.at (113 ∷ []) (spaced (c.wide-in-Equality.result ∷ c.wide-in-Equality-2.result ∷ c.bit.result ∷ []) ++ (10 ∷ [])) (subst (λ (t : List ℕ). RoomFor c.args.out.now c.args.at t) (said-equality c.args.k c.args.said _ _ _ c.wide-in-Equality.result c.wide-in-Equality-2.result c.bit.result (c.in-Ok.is ∙ ap {B = Result Said Refusal} Ok c.in-Equality.is) c.wide-in-Equality.ensures c.wide-in-Equality-2.ensures c.bit.ensures) c.requires)) c.put_byte-next.ensures (spaced (c.wide-in-Equality.result ∷ c.wide-in-Equality-2.result ∷ c.bit.result ∷ []) ++ (10 ∷ [])) (subst (λ (t : List ℕ). RoomFor c.args.out.now c.args.at t) (said-equality c.args.k c.args.said _ _ _ c.wide-in-Equality.result c.wide-in-Equality-2.result c.bit.result (c.in-Ok.is ∙ ap {B = Result Said Refusal} Ok c.in-Equality.is) c.wide-in-Equality.ensures c.wide-in-Equality-2.ensures c.bit.ensures) c.requires)

pub put_refusal-requires : goal.put_refusal-requires
put_refusal-requires c =
    subst (λ (t : List ℕ). RoomFor c.args.out.now c.args.at t) (said-refused c.args.k c.args.said _ c.wide-in-Err.result c.in-Err.is (c.wide-in-Err.ensures ∙ c.from.ensures)) c.requires

pub returns-in-Quiet : goal.returns-in-Quiet
returns-in-Quiet c =
    subst (λ (t : List ℕ). Put c.args.out.now c.args.at t c.args.out.now c.args.at) (sym (said-quiet c.args.k c.args.said (c.in-Ok.is ∙ ap {B = Result Said Refusal} Ok c.in-Quiet.is))) (put-none c.args.out.now c.args.at)

pub returns-in-NormalForm : goal.returns-in-NormalForm
returns-in-NormalForm c =
    subst (λ (t : List ℕ). Put c.args.out.now c.args.at t c.put_two.new.out c.put_two.result) (sym (said_normal-form c.args.k c.args.said _ _ c.wide.result c.wide-in-NormalForm.result (c.in-Ok.is ∙ ap {B = Result Said Refusal} Ok c.in-NormalForm.is) c.wide.ensures c.wide-in-NormalForm.ensures)) c.put_two.ensures

pub returns-in-Equality : goal.returns-in-Equality
returns-in-Equality c =
    subst (λ (t : List ℕ). Put c.args.out.now c.args.at t c.put_three.new.out c.put_three.result) (sym (said-equality c.args.k c.args.said _ _ _ c.wide-in-Equality.result c.wide-in-Equality-2.result c.bit.result (c.in-Ok.is ∙ ap {B = Result Said Refusal} Ok c.in-Equality.is) c.wide-in-Equality.ensures c.wide-in-Equality-2.ensures c.bit.ensures)) (put_both c.args.out.now c.args.at (113 ∷ []) c.put_byte-next.new.out c.put_byte-next.result (put-fits c.args.out.now c.args.at (113 ∷ []) (spaced (c.wide-in-Equality.result ∷ c.wide-in-Equality-2.result ∷ c.bit.result ∷ []) ++ (10 ∷ [])) (subst (λ (t : List ℕ). RoomFor c.args.out.now c.args.at t) (said-equality c.args.k c.args.said _ _ _ c.wide-in-Equality.result c.wide-in-Equality-2.result c.bit.result (c.in-Ok.is ∙ ap {B = Result Said Refusal} Ok c.in-Equality.is) c.wide-in-Equality.ensures c.wide-in-Equality-2.ensures c.bit.ensures) c.requires)) c.put_byte-next.ensures (spaced (c.wide-in-Equality.result ∷ c.wide-in-Equality-2.result ∷ c.bit.result ∷ []) ++ (10 ∷ [])) c.put_three.new.out c.put_three.result c.put_three.ensures)

pub returns-in-Err : goal.returns-in-Err
returns-in-Err c =
    subst (λ (t : List ℕ). Put c.args.out.now c.args.at t c.put_refusal.new.out c.put_refusal.result) (sym (said-refused c.args.k c.args.said _ c.wide-in-Err.result c.in-Err.is (c.wide-in-Err.ensures ∙ c.from.ensures))) c.put_refusal.ensures
