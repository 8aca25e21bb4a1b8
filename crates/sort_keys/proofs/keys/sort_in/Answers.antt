-- `sort_keys::keys::sort_in` meets its contract.
use native.Mathlib.Omega.{arith}
use Rattle.sort_keys.proofs.SortCall.{keys-ready, sort_full, sort_over, sort_done}
use Rattle.sort_keys.proofs.keys.sort_in.Goals as goal

pub class_firsts-firsts-requires : goal.class_firsts-firsts-requires
class_firsts-firsts-requires c =
    (c.requires.1.coded, omega (arith, c.node_count-old.ensures, c.requires.0.0.few))

pub class_marks-marks-requires : goal.class_marks-marks-requires
class_marks-marks-requires c =
    (c.requires.1.coded, omega (arith, c.node_count-old.ensures, c.requires.0.0.few))

pub sort_all-requires : goal.sort_all-requires
sort_all-requires c =
    keys-ready c.args.cells.now c.args.g c.node_count-old.result c.args.keys.now c.class_firsts-firsts.result c.class_marks-marks.result c.requires.0.0 c.requires.0.1 c.requires.1 c.node_count-old.ensures c.class_firsts-firsts.ensures c.class_marks-marks.ensures 1024

pub returns-in_default : goal.returns-in_default
returns-in_default c =
    sort_full c.args.cells.now c.args.g c.node_count-old.result c.args.keys.now c.class_firsts-firsts.result c.class_marks-marks.result c.requires.0.0 c.requires.0.1 c.requires.1 c.node_count-old.ensures c.class_firsts-firsts.ensures c.class_marks-marks.ensures c.sort_all.new.cells c.sort_all.result c.sort_all.ensures c.in_default.field-0 c.in_default.is

pub returns-then-keys-gt16 : goal.returns-then-keys-gt16
returns-then-keys-gt16 c =
    sort_over c.args.cells.now c.args.g c.node_count-old.result c.args.keys.now c.class_firsts-firsts.result c.class_marks-marks.result c.requires.0.0 c.requires.0.1 c.requires.1 c.node_count-old.ensures c.class_firsts-firsts.ensures c.class_marks-marks.ensures c.sort_all.new.cells c.sort_all.result c.sort_all.ensures c.in-Ok.out c.in-Ok.is c.if-keys-gt16.true

pub returns : goal.returns
returns c =
    sort_done c.args.cells.now c.args.g c.node_count-old.result c.args.keys.now c.class_firsts-firsts.result c.class_marks-marks.result c.requires.0.0 c.requires.0.1 c.requires.1 c.node_count-old.ensures c.class_firsts-firsts.ensures c.class_marks-marks.ensures c.sort_all.new.cells c.sort_all.result c.sort_all.ensures c.in-Ok.out c.in-Ok.is (omega arith)
