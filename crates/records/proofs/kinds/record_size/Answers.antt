-- `records::kinds::record_size` meets its contract.
use Prim.Native.Nat.{ℕ, ◌+◌}
use mathlib.Core.Path.{ap}
use native.Mathlib.Omega.{arith}
use Rattle.records.specs.Record.{record_size}
use Rattle.records.proofs.Headers.{field_below}
use Rattle.records.proofs.kinds.record_size.Goals as goal

pub overflow_add-result : goal.overflow_add-result
overflow_add-result c =
    omega (arith, c.body_length.ensures, field_below c.args.bytes.now 0 (omega (arith, c.shared_slice_known-1.given 0)) (omega (arith, c.shared_slice_known-1.given 1)))

pub returns : goal.returns
unfolding record_size
returns c =
    ap (λ (n : ℕ). 4 + n) c.body_length.ensures
