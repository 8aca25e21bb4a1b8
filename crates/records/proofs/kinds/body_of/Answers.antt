-- `records::kinds::body_of` meets its contract.
use Rattle.std.proofs.Common.{◌≡◌, ◌-◌, arith}
use Rattle.records.specs.Fields.{field}
use Rattle.records.specs.Record.{body_of, record_size}
use Rattle.records.proofs.Headers.{whole-header, whole_body}
use Rattle.records.proofs.kinds.body_of.Goals as goal

pub record_size-requires : goal.record_size-requires
record_size-requires c =
    whole-header c.args.bytes.now c.requires

pub slice_bounds-result-count : goal.slice_bounds-result-count
unfolding record_size
slice_bounds-result-count c = omega (arith, c.record_size.ensures)

pub slice_bounds-result-start : goal.slice_bounds-result-start
unfolding record_size
slice_bounds-result-start c =
    omega (arith, c.record_size.ensures, whole_body c.args.bytes.now c.requires)

pub slice_bounds-result-end : goal.slice_bounds-result-end
unfolding record_size
slice_bounds-result-end c =
    omega (arith, c.record_size.ensures, whole_body c.args.bytes.now c.requires)

pub returns : goal.returns
unfolding body_of record_size
returns c =
    let e : c.record_size.result - 4 ≡ field c.args.bytes.now 0 = omega (arith, c.record_size.ensures) in rw e
