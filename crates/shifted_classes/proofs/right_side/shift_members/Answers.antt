-- `shifted_classes::right_side::shift_members` meets its contract.
use Prim.Native.Nat.{ℕ, ◌<◌, ◌+◌}
use mathlib.Core.List.{List, [], ◌∷◌, ◌++◌}
use mathlib.Core.Path.{◌≡◌, refl, sym, ◌∙◌, subst}
use native.Mathlib.Numerals.{add-one}
use native.Mathlib.Omega.{arith}
use lib.ListN.{length, take, set, length-set, length-replicate}
use lib.Seq.{take-suc-set}
use Rattle.classes.specs.Good.{flat}
use Rattle.classes.specs.Layout.{decode}
use Rattle.shifted_classes.proofs.ShiftedParts.{member-flat, length-used}
use Rattle.shifted_classes.specs.Inner.{ShiftedAll}
use Rattle.shifted_classes.proofs.Placings.{NumbersTo, walk-begin, walk-ready, walk_more, walk-fail, walk_end}
use borrow.Author.Rules.{rules}
use Rattle.shifted_classes.proofs.right_side.shift_members.Goals as goal

pub loop-k-init : goal.loop-k-init
loop-k-init c =
    (length-replicate {A = ℕ} 256 0, walk-begin c.args.lift c.args.cells.now c.args.memo.now (flat (decode c.args.g)) c.requires.1)

pub offset_bounds-g-k : goal.offset_bounds-g-k
offset_bounds-g-k c =
    search rules

pub bounds-g-k : goal.bounds-g-k
bounds-g-k c = omega (arith, c.requires.0.small, c.loop-k-test.true)

pub shift-requires : goal.shift-requires
shift-requires c =
    let o = c.loop-k in
    let l : o.k < length (flat (decode c.args.g)) = omega (arith, c.loop-k-test.true, length-used c.args.g c.requires.0) in
    walk-ready c.args.lift c.args.cells.now c.args.memo.now (flat (decode c.args.g)) c.requires.1 o.cells o.memo (take o.k o.members) o.k o.invariant.1 _ l (sym (member-flat c.args.g c.requires.0 o.k))

pub returns-in_default : goal.returns-in_default
returns-in_default c =
    let o = c.loop-k in
    let w = c.shift in
    let l : o.k < length (flat (decode c.args.g)) = omega (arith, c.loop-k-test.true, length-used c.args.g c.requires.0) in (
      walk-fail c.args.lift c.args.cells.now c.args.memo.now (flat (decode c.args.g)) c.requires.1 o.cells o.memo (take o.k o.members) o.k o.invariant.1 _ l (sym (member-flat c.args.g c.requires.0 o.k))
          w.new.cells w.new.memo w.result w.ensures c.in_default.field-0 c.in_default.is _,
      refl,
    )

pub offset_bounds-members-k : goal.offset_bounds-members-k
offset_bounds-members-k c =
    search rules

pub bounds-members-k : goal.bounds-members-k
bounds-members-k c = omega (arith, c.requires.0.small, c.loop-k-test.true)

pub loop-k-preserved : goal.loop-k-preserved
loop-k-preserved c =
    let o = c.loop-k in
    let w = c.shift in
    let e = c.in-Ok.e in
    let l : o.k < length (flat (decode c.args.g)) = omega (arith, c.loop-k-test.true, length-used c.args.g c.requires.0) in
    let few : o.k < length o.members = omega (arith, c.requires.0.small, c.loop-k-test.true, o.invariant.0) in
    let more = walk_more c.args.lift c.args.cells.now c.args.memo.now (flat (decode c.args.g)) c.requires.1 o.cells o.memo (take o.k o.members) o.k o.invariant.1 _ l (sym (member-flat c.args.g c.requires.0 o.k))
    w.new.cells w.new.memo w.result w.ensures e c.in-Ok.is in
    let is : take o.k o.members ++ (e ∷ []) ≡ take (o.k + 1) (set o.members o.k e) = sym (rw (add-one o.k) (take-suc-set o.members o.k e few)) in (
      length-set o.members o.k e ∙ o.invariant.0,
      subst (λ (d : List ℕ). NumbersTo c.args.lift c.args.cells.now w.new.cells w.new.memo (flat (decode c.args.g)) d (o.k + 1)) is more,
    )

pub returns : goal.returns
returns c =
    let o = c.loop-k in
    let k-is : o.k ≡ c.args.g.used = omega (arith, c.loop-k-test.false, o.invariant.1.below, length-used c.args.g c.requires.0) in
    let end = walk_end c.args.lift c.args.cells.now c.args.memo.now (flat (decode c.args.g)) c.requires.1 o.cells o.memo (take o.k o.members) o.k o.invariant.1 (omega (arith, c.loop-k-test.false, length-used c.args.g c.requires.0)) in
    (subst (λ (n : ℕ). ShiftedAll c.args.lift c.args.cells.now o.cells o.memo (flat (decode c.args.g)) mathlib.Core.Bool.true (take n o.members)) k-is end, tt)
