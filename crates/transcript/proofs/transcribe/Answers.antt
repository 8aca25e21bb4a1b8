-- `transcript::transcribe` meets its contract.
use native.Mathlib.Omega.{arith}
use Rattle.transcript.proofs.Transcribing.{over-room, over_end_room, over-put, within-put}
use Rattle.transcript.proofs.transcribe.Goals as goal

pub put_refusal-done-requires : goal.put_refusal-done-requires
put_refusal-done-requires c =
    over-room c.args.input.now c.args.output.now c.requires

pub put_end-requires : goal.put_end-requires
put_end-requires c =
    over_end_room c.args.input.now c.args.output.now c.requires c.opened.result c.opened.ensures c.put_refusal-done.new.out c.put_refusal-done.result c.put_refusal-done.ensures

pub returns-then-input-gt65536 : goal.returns-then-input-gt65536
returns-then-input-gt65536 c =
    over-put c.args.input.now c.args.output.now c.requires c.opened.result c.opened.ensures c.put_refusal-done.new.out c.put_refusal-done.result c.put_refusal-done.ensures c.if-input-gt65536.true c.put_end.new.out c.put_end.result c.put_end.ensures

pub returns : goal.returns
returns c =
    within-put c.args.input.now c.args.output.now c.requires (omega arith) c.run.new.output c.run.result c.run.ensures
