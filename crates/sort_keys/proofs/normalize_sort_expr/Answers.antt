-- `sort_keys::normalize_sort_expr` meets its contract.
use Prim.Native.Nat.{ℕ}
use mathlib.Core.List.{List}
use mathlib.Core.Path.{sym, ap, ◌∙◌}
use native.Mathlib.Omega.{arith}
use Rattle.arena.specs.Refusals.{Added}
use Rattle.arena.proofs.Refusals.{handed-on}
use Rattle.sort_keys.specs.Calls.{KeyIs, key_is}
use Rattle.sort_keys.proofs.KeyCalls.{options-refused, key-normalized}
use Rattle.sort_keys.proofs.normalize_sort_expr.Goals as goal

pub returns-then-options-gt3 : goal.returns-then-options-gt3
returns-then-options-gt3 c =
    options-refused c.args.expr c.args.options c.args.cells.now c.args.group c.if-options-gt3.true

pub returns-in_err-expr : goal.returns-in_err-expr
unfolding key_is
returns-in_err-expr c =
    rw (handed-on _ _ c.from_residual.ensures.1) (ap {B = KeyIs × List ℕ} (λ (o : Added). (key_is c.args.options o, c.normalize_expr.new.cells)) (sym c.in_err-expr.was)
    ∙ ap {B = KeyIs × List ℕ} (λ (o : Added × List ℕ). (key_is c.args.options o.0, o.1)) c.normalize_expr.ensures ∙ key-normalized c.args.expr c.args.options c.args.cells.now c.args.group (omega arith))

pub returns : goal.returns
unfolding key_is
returns c =
    ap {B = KeyIs × List ℕ} (λ (o : Added). (key_is c.args.options o, c.normalize_expr.new.cells)) (sym c.in_ok-expr.was)
    ∙ ap {B = KeyIs × List ℕ} (λ (o : Added × List ℕ). (key_is c.args.options o.0, o.1)) c.normalize_expr.ensures ∙ key-normalized c.args.expr c.args.options c.args.cells.now c.args.group (omega arith)
