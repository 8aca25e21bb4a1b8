-- the bytes keep their number, and each round reads some of those that are left
use Rattle.std.proofs.Common.{length, ◌-◌, ◌≤◌}
use Rattle.session.proofs.read_input.Given as goal

abbrev pub invariant-loop-done : goal.invariant-loop-done
invariant-loop-done g l = l.done ≤ length l.initial.bytes

abbrev pub decreases-loop-done : goal.decreases-loop-done
decreases-loop-done g l = length l.initial.bytes - l.done
