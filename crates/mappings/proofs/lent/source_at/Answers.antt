-- `mappings::lent::source_at` meets its contract.
use Prim.Native.Nat.{ℕ, ◌≤◌, ◌+◌, ◌-◌}
use mathlib.Core.Path.{◌≡◌, sym, ◌∙◌}
use native.Mathlib.Omega.{arith}
use borrow.Author.Rules.{rules}
use lib.ListN.{length, drop, replicate, length-drop, length-replicate}
use lib.Seq.{length-take-le}
use Rattle.mappings.proofs.MappingBuild.{targets-copied}
use Rattle.mappings.proofs.MappingChecked.{whole-ends, whole-few}
use Rattle.mappings.proofs.lent.source_at.Goals as goal

pub slice_bounds-targets-end : goal.slice_bounds-targets-end
slice_bounds-targets-end c =
    let b : c.count_at-size.result ≤ 8 = omega (arith, whole-few c.args.numbers.now c.args.at c.requires.1) in search rules

pub slice_bounds-copy_from_slice-end : goal.slice_bounds-copy_from_slice-end
slice_bounds-copy_from_slice-end c =
    let b : c.count_at-size.result ≤ 8 = omega (arith, whole-few c.args.numbers.now c.args.at c.requires.1) in search rules

pub slice_bounds-copy_from_slice-end-2 : goal.slice_bounds-copy_from_slice-end-2
slice_bounds-copy_from_slice-end-2 c =
    let b : c.args.at + 2 + c.count_at-size.result ≤ length c.args.numbers.now = omega (arith, whole-ends c.args.numbers.now c.args.at c.requires.1) in search rules

pub copy_from_slice-requires : goal.copy_from_slice-requires
copy_from_slice-requires c =
    let ns = c.args.numbers.now in
    let n = c.count_at-size.result in
    let e : c.args.at + 2 + n - (c.args.at + 2) ≡ n = omega arith in
    rw e (length-take-le n (replicate {A = ℕ} 8 0) (omega (arith, whole-few ns c.args.at c.requires.1, length-replicate {A = ℕ} 8 0))
    ∙ sym (length-take-le n (drop (c.args.at + 2) ns) (omega (arith, whole-ends ns c.args.at c.requires.1, length-drop (c.args.at + 2) ns))))

pub returns : goal.returns
returns c =
    let ns = c.args.numbers.now in
    let n = c.count_at-size.result in
    let e : c.args.at + 2 + n - (c.args.at + 2) ≡ n = omega arith in
    (targets-copied ns c.args.at n c.count_at-size.ensures.0 (omega (arith, whole-ends ns c.args.at c.requires.1)) c.copy_from_slice.new.self _ (rw e at c.copy_from_slice.ensures.after), c.count_at-size.ensures.0)
