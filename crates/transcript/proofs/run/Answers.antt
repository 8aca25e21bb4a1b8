-- `transcript::run` meets its contract.
use mathlib.Core.Path.{sym, ◌∙◌}
use native.Mathlib.Omega.{arith}
use Rattle.transcript.proofs.Running.{run-begins, end_room, end_length, run_ends, stop-room, stop_end_room, stop-length, run-stops, size_low, size-high, header-there, said-room, run-goes_on}
use Rattle.transcript.proofs.run.Goals as goal

pub loop-at-init : goal.loop-at-init
loop-at-init c =
    run-begins c.args.input.now c.args.output.now c.no_nodes-cells.result c.opened-state.result c.no_nodes-cells.ensures c.opened-state.ensures

pub slice_bounds-read_record-count : goal.slice_bounds-read_record-count
slice_bounds-read_record-count c =
    omega (arith, c.loop-at-test.true)

pub put_refusal-done-requires : goal.put_refusal-done-requires
put_refusal-done-requires c =
    stop-room c.args.input.now c.args.output.now c.loop-at.output c.loop-at.cells c.loop-at.state c.loop-at.done c.loop-at.at c.loop-at.k c.requires.0 c.requires.1 c.loop-at.invariant c.loop-at-test.true c.read_record.result c.read_record.ensures _ c.in_default.is

pub put_end-requires : goal.put_end-requires
put_end-requires c =
    stop_end_room c.args.input.now c.args.output.now c.loop-at.output c.loop-at.cells c.loop-at.state c.loop-at.done c.loop-at.at c.loop-at.k c.requires.0 c.requires.1 c.loop-at.invariant c.loop-at-test.true c.read_record.result c.read_record.ensures _ c.in_default.is c.put_refusal-done.new.out c.put_refusal-done.result c.put_refusal-done.ensures

pub shape_of-output-in_default : goal.shape_of-output-in_default
shape_of-output-in_default c =
    stop-length c.args.input.now c.args.output.now c.loop-at.output c.loop-at.cells c.loop-at.state c.loop-at.done c.loop-at.at c.loop-at.k c.requires.0 c.requires.1 c.loop-at.invariant c.loop-at-test.true c.read_record.result c.read_record.ensures _ c.in_default.is c.put_refusal-done.new.out c.put_refusal-done.result c.put_refusal-done.ensures c.put_end.new.out c.put_end.result c.put_end.ensures

pub returns-in_default : goal.returns-in_default
returns-in_default c =
    run-stops c.args.input.now c.args.output.now c.loop-at.output c.loop-at.cells c.loop-at.state c.loop-at.done c.loop-at.at c.loop-at.k c.requires.0 c.requires.1 c.loop-at.invariant c.loop-at-test.true c.read_record.result c.read_record.ensures _ c.in_default.is c.put_refusal-done.new.out c.put_refusal-done.result c.put_refusal-done.ensures c.put_end.new.out c.put_end.result c.put_end.ensures

pub slice_bounds-step-count : goal.slice_bounds-step-count
slice_bounds-step-count c =
    omega (arith, c.loop-at-test.true)

pub step-next-requires : goal.step-next-requires
step-next-requires c =
    (c.loop-at.invariant.fit, sym c.in-Ok.is ∙ c.read_record.ensures)

pub put_said-done-requires : goal.put_said-done-requires
put_said-done-requires c =
    said-room c.args.input.now c.args.output.now c.loop-at.output c.loop-at.cells c.loop-at.state c.loop-at.done c.loop-at.at c.loop-at.k c.requires.0 c.requires.1 c.loop-at.invariant c.loop-at-test.true c.read_record.result c.read_record.ensures _ c.in-Ok.is c.step-next.new.cells c.step-next.result c.step-next.ensures

pub slice_bounds-record_size-count : goal.slice_bounds-record_size-count
slice_bounds-record_size-count c =
    omega (arith, c.loop-at-test.true)

pub record_size-at-requires : goal.record_size-at-requires
record_size-at-requires c =
    header-there c.args.input.now c.args.output.now c.loop-at.output c.loop-at.cells c.loop-at.state c.loop-at.done c.loop-at.at c.loop-at.k c.requires.0 c.requires.1 c.loop-at.invariant c.loop-at-test.true c.read_record.result c.read_record.ensures _ c.in-Ok.is

pub overflow_add-at : goal.overflow_add-at
overflow_add-at c =
    omega (arith, c.record_size-at.ensures, size-high c.args.input.now c.args.output.now c.loop-at.output c.loop-at.cells c.loop-at.state c.loop-at.done c.loop-at.at c.loop-at.k c.requires.0 c.requires.1 c.loop-at.invariant c.loop-at-test.true c.read_record.result c.read_record.ensures _ c.in-Ok.is, c.requires.0)

pub overflow_add-k : goal.overflow_add-k
overflow_add-k c =
    omega (arith, c.loop-at.invariant.counted, c.loop-at.invariant.inside, c.requires.0)

pub loop-at-smaller : goal.loop-at-smaller
loop-at-smaller c =
    omega (arith, c.loop-at-test.true, c.record_size-at.ensures, size_low c.args.input.now c.args.output.now c.loop-at.output c.loop-at.cells c.loop-at.state c.loop-at.done c.loop-at.at c.loop-at.k c.requires.0 c.requires.1 c.loop-at.invariant c.loop-at-test.true c.read_record.result c.read_record.ensures _ c.in-Ok.is)

pub loop-at-preserved : goal.loop-at-preserved
loop-at-preserved c =
    run-goes_on c.args.input.now c.args.output.now c.loop-at.output c.loop-at.cells c.loop-at.state c.loop-at.done c.loop-at.at c.loop-at.k c.requires.0 c.requires.1 c.loop-at.invariant c.loop-at-test.true c.read_record.result c.read_record.ensures _ c.in-Ok.is c.step-next.new.cells c.step-next.result c.step-next.ensures c.put_said-done.new.out c.put_said-done.result c.put_said-done.ensures c.record_size-at.result c.record_size-at.ensures

pub put_end-requires-2 : goal.put_end-requires-2
put_end-requires-2 c =
    end_room c.args.input.now c.args.output.now c.loop-at.output c.loop-at.cells c.loop-at.state c.loop-at.done c.loop-at.at c.loop-at.k c.requires.0 c.requires.1 c.loop-at.invariant c.loop-at-test.false

pub shape_of-output : goal.shape_of-output
shape_of-output c =
    end_length c.args.input.now c.args.output.now c.loop-at.output c.loop-at.cells c.loop-at.state c.loop-at.done c.loop-at.at c.loop-at.k c.requires.0 c.requires.1 c.loop-at.invariant c.loop-at-test.false c.put_end-2.new.out c.put_end-2.result c.put_end-2.ensures

pub returns : goal.returns
returns c =
    run_ends c.args.input.now c.args.output.now c.loop-at.output c.loop-at.cells c.loop-at.state c.loop-at.done c.loop-at.at c.loop-at.k c.requires.0 c.requires.1 c.loop-at.invariant c.loop-at-test.false c.put_end-2.new.out c.put_end-2.result c.put_end-2.ensures
