-- `galthumir::groups::galthumir_normalize_sort_exprs` meets its contract.
use Rattle.std.proofs.Common.{sym, ap, ◌∙◌, List, ℕ}
use Rattle.sort_keys.specs.Calls.{SortedIs}
use Rattle.state_laws.proofs.ListFit.{sorted-fits}
use Rattle.galthumir.proofs.Shapes.{on-first}
use Rattle.galthumir.proofs.groups.galthumir_normalize_sort_exprs.Goals as goal

pub put_sorted-requires : goal.put_sorted-requires
put_sorted-requires c s e =
    sorted-fits _ _ _ s (sym (ap (λ (o : SortedIs × List ℕ). o.0) c.normalize_sort_exprs-sorted.ensures) ∙ e)

pub returns : goal.returns
returns c = on-first _ _ _ _ _ (rw c.load_group.ensures at c.normalize_sort_exprs-sorted.ensures) c.put_sorted.ensures
