-- `merging::bridging::bridge_step` meets its contract.
use mathlib.Core.Path.{sym, ◌∙◌}
use Rattle.merging.proofs.Bridges.{meets-inside, step-passed, step-meets}
use Rattle.merging.proofs.bridging.bridge_step.Goals as goal

pub last_meeting-requires : goal.last_meeting-requires
last_meeting-requires c = c.requires

pub extend-requires : goal.extend-requires
extend-requires c =
    let p = sym c.last_meeting.ensures ∙ c.in-Some.is in
    (c.requires.0, meets-inside c.args.g c.requires.0 c.args.i c.requires.1 c.in-Some.j p)

pub returns-in-Some : goal.returns-in-Some
returns-in-Some c =
    let p = sym c.last_meeting.ensures ∙ c.in-Some.is in
    step-meets c.args.g c.requires.0 c.args.i c.requires.1 c.in-Some.j p c.extend.result c.extend.ensures

pub returns-in-None : goal.returns-in-None
returns-in-None c =
    step-passed c.args.g c.requires.0 c.args.i c.requires.1
    (sym c.last_meeting.ensures ∙ c.in-None.is)
