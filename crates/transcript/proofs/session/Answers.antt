-- `transcript::session` meets its contract.
use Rattle.transcript.specs.Session.{session_text}
use Rattle.transcript.proofs.Transcribing.{put-reaches, session-refused, session-done}
use Rattle.transcript.proofs.session.Goals as goal

pub returns-then-output-n : goal.returns-then-output-n
returns-then-output-n c =
    session-refused c.args.input.now c.args.output.now _ c.transcribe-n.new.output c.transcribe-n.result c.transcribe-n.ensures c.if-output-n.true

pub copy-requires : goal.copy-requires
copy-requires c =
    (put-reaches _ (session_text c.args.input.now) c.transcribe-n.new.output c.transcribe-n.result c.transcribe-n.ensures, c.if-output-n.false)

pub returns : goal.returns
returns c =
    session-done c.args.input.now c.args.output.now _ c.transcribe-n.new.output c.transcribe-n.result c.transcribe-n.ensures c.if-output-n.false c.copy.new.to c.copy.ensures
