-- `conditions::constants::find_like` meets its contract.
use Rattle.std.proofs.Common.{sym, ◌∙◌, rules, tests}
use mathlib.Core.Logic.{inl, inr}
use Rattle.classes.specs.Class.{is_uniform}
use Rattle.laws.proofs.Runs.{first-find}
use Rattle.conditions.proofs.ConstantLaws.{Like, like-none, like-first}
use Rattle.conditions.proofs.constants.find_like.Goals as goal

pub returns-in-NoConstant : goal.returns-in-NoConstant
unfolding is_uniform
returns-in-NoConstant c =
    sym (like-none c.args.g c.args.constant (elim c.in-NoConstant.is [ inl e ↦ rw e | inr e ↦ rw e ]))

pub returns-in-Unknown : goal.returns-in-Unknown
unfolding is_uniform
returns-in-Unknown c =
    first-find (Like c.args.g c.args.constant) c.args.g.count _ _ _ c.find.ensures.ran (λ x b q k. search (rules, tests))
    ∙ sym (like-first c.args.g c.args.constant (elim c.in-Unknown.is [ inl e ↦ rw e | inr e ↦ rw e.1 ]))
