-- `shifting::shifting::lift_of` meets its contract.
use Prim.Native.Nat.{ℕ, ◌≤◌, ◌<◌}
use mathlib.Core.Path.{◌≡◌, sym, subst}
use native.Mathlib.Omega.{arith}
use borrow.Author.Rules.{rules}
use lib.Dec.{T}
use lib.IntN.{ℤ, nat_abs}
use lib.Signed.{non_neg}
use mir.Syntax.{w32, w64}
use mir.Val.{Fits, SFits}
use Rattle.shifting.specs.Shift.{moved}
use Rattle.shifting.specs.Inner.{lifted}
use Rattle.shifting.proofs.Lifts.{offset_low, offset_high, lift_small, lift_moves, lift_sum, lift_again}
use Rattle.shifting.proofs.shifting.lift_of.Goals as goal
use Rattle.shifting.proofs.shifting.lift_of.Goals.{then-offset-ltminus65535-via-then-offset-ltminus65535, then-offset-ltminus65535-via-else-offset-ltminus65535+then-offset-gt65535}

pub returns-then-offset-ltminus65535 : goal.returns-then-offset-ltminus65535
returns-then-offset-ltminus65535 c =
    let z = c.args.offset in
    let f = c.ranges.offset.sfits in (
      search rules,
      elim c.then-offset-ltminus65535.branch [ then-offset-ltminus65535-via-then-offset-ltminus65535 w ↦ offset_low z f w.if-offset-ltminus65535.true | then-offset-ltminus65535-via-else-offset-ltminus65535+then-offset-gt65535 w ↦ offset_high z f w.if-offset-gt65535.true ],
    )

pub overflow_add-result : goal.overflow_add-result
overflow_add-result c =
    let z = c.args.offset in
    let f = c.ranges.offset.sfits in
    let l = lift_small z f c.if-offset-ltminus65535.false c.if-offset-gt65535.false in
    subst (λ (y : ℤ). SFits w64 y) (sym (lift_sum z f c.if-offset-ltminus65535.false c.if-offset-gt65535.false)) (record { sfits = omega arith })

pub overflow_cast-result : goal.overflow_cast-result
overflow_cast-result c =
    let z = c.args.offset in
    let f = c.ranges.offset.sfits in
    let l = lift_small z f c.if-offset-ltminus65535.false c.if-offset-gt65535.false in
    subst (λ (y : ℤ). T (non_neg y) × Fits w32 (nat_abs y)) (sym (lift_again z f c.if-offset-ltminus65535.false c.if-offset-gt65535.false)) (tt, record { fits = omega arith })

pub returns : goal.returns
returns c =
    let z = c.args.offset in
    let f = c.ranges.offset.sfits in
    let l = lift_small z f c.if-offset-ltminus65535.false c.if-offset-gt65535.false in
    subst (λ (y : ℤ). (nat_abs y ≤ 200000) × ((i : ℕ) → i < 65536 → moved z i ≡ lifted (nat_abs y) i))
    (sym (lift_again z f c.if-offset-ltminus65535.false c.if-offset-gt65535.false)) (omega arith, lift_moves z f c.if-offset-ltminus65535.false c.if-offset-gt65535.false)
