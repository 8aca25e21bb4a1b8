-- `group_records::group::read_classes` meets its contract.
use Prim.Native.Nat.{ℕ}
use mathlib.Core.Path.{sym, ◌∙◌, subst}
use native.Mathlib.Omega.{arith}
use lib.ListN.{length-replicate}
use lib.Seq.{length-take-le}
use Rattle.records.specs.Record.{AllBelow}
use Rattle.group_records.proofs.GroupBuild.{refuse_flavour, refuse_arena, refuse_empty}
use Rattle.group_records.proofs.group.read_classes.Goals as goal
use Rattle.group_records.proofs.group.read_classes.Goals.{then-not-lawful_arena-via-then-not-lawful_arena, then-not-lawful_arena-via-else-not-lawful_arena+then-not-classes_filled}

pub returns-then-not-flavours_known : goal.returns-then-not-flavours_known
returns-then-not-flavours_known c =
    let x = c.args in
    refuse_flavour x.cells.now x.body.now c.requires c.no_group.result c.no_group.ensures (sym c.flavours_known.ensures ∙ c.if-not-flavours_known.true)

pub returns-then-not-lawful_arena : goal.returns-then-not-lawful_arena
returns-then-not-lawful_arena c =
    let x = c.args in
    let n = c.no_group-then-not-lawful_arena in
    let f = sym c.flavours_known.ensures ∙ c.if-not-flavours_known.false in
    elim c.then-not-lawful_arena.branch [
      | then-not-lawful_arena-via-then-not-lawful_arena w ↦ refuse_arena x.cells.now x.body.now c.requires n.result f n.ensures (sym c.lawful_arena.ensures ∙ w.if-not-lawful_arena.true)
      | then-not-lawful_arena-via-else-not-lawful_arena+then-not-classes_filled w ↦ refuse_empty x.cells.now x.body.now c.requires n.result f n.ensures (sym w.classes_filled.ensures ∙ w.if-not-classes_filled.true)
    ]

pub copy_all-n-requires : goal.copy_all-n-requires
copy_all-n-requires c =
    (c.requires, length-replicate {A = ℕ} 32768 0)

pub slice_bounds-list-end : goal.slice_bounds-list-end
slice_bounds-list-end c =
    omega (arith, c.copy_all-n.ensures.0.0, c.copy_all-n.ensures.0.1)

pub slice_bounds-listed_group-end : goal.slice_bounds-listed_group-end
slice_bounds-listed_group-end c =
    sym (length-take-le c.copy_all-n.result c.copy_all-n.new.list (omega (arith, c.copy_all-n.ensures.0.0, c.copy_all-n.ensures.0.1)))

pub listed_group-requires : goal.listed_group-requires
listed_group-requires c =
    record {
      shaped = c.requires;
      known = sym c.flavours_known.ensures ∙ c.if-not-flavours_known.false;
      arena = sym c.lawful_arena.ensures ∙ c.if-not-lawful_arena.false;
      filled = sym c.classes_filled.ensures ∙ c.if-not-classes_filled.false;
      members = c.copy_all-n.ensures.1.0;
      low = subst (AllBelow 65536) (sym c.copy_all-n.ensures.1.0) c.copy_all-n.ensures.1.1;
    }

pub returns : goal.returns
returns c =
    c.listed_group.ensures
