-- `conditions::constants::same_constant` meets its contract.
use Rattle.std.proofs.Common.{◌≡◌, true, refl, ◌∙◌}
use Rattle.classes.specs.declared.Constant.{Constant}
use Rattle.classes.specs.declared.Constant.TheVariants.{NoConstant as no_constant, Heterogeneous as heterogeneous, Unknown as unknown, Known as known}
use Rattle.classes.specs.Class.{same_constant}
use Rattle.conditions.proofs.constants.same_constant.Goals as goal

-- the derived test of two constants, by cases
agree : (a b : Constant) → (Rattle.classes.specs.contracts.ConstantPartialEq.TheImpl.ghosts).eq a b ≡ same_constant true a b
unfolding same_constant
agree no_constant no_constant = refl
agree no_constant heterogeneous = refl
agree no_constant unknown = refl
agree no_constant (known w) = refl
agree heterogeneous no_constant = refl
agree heterogeneous heterogeneous = refl
agree heterogeneous unknown = refl
agree heterogeneous (known w) = refl
agree unknown no_constant = refl
agree unknown heterogeneous = refl
agree unknown unknown = refl
agree unknown (known w) = refl
agree (known v) no_constant = refl
agree (known v) heterogeneous = refl
agree (known v) unknown = refl
agree (known v) (known w) = refl

pub returns : goal.returns
returns c = c.eq.ensures ∙ agree c.args.a c.args.b
