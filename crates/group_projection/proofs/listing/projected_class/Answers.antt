-- `group_projection::listing::projected_class` meets its contract.
use Prim.Native.Nat.{ℕ, ◌+◌, ◌<◌}
use mathlib.Core.Path.{◌≡◌, sym, ◌∙◌, subst}
use native.Mathlib.Omega.{arith}
use lib.ListN.{length, get_or, take, drop, length-drop}
use lib.Seq.{length-take-le, get_or-take, get_or-drop}
use Rattle.arena.specs.Layout.{count, decode as nodes}
use Rattle.group_projection.proofs.ProjectedParts.{members-begin, members_ask, members-more, members_end}
use borrow.Author.Rules.{rules}
use Rattle.group_projection.proofs.listing.projected_class.Goals as goal

pub loop-k-init : goal.loop-k-init
loop-k-init c =
    members-begin (nodes c.args.cells.now) c.args.table.now (take c.args.n (drop c.args.start c.args.members)) c.one_empty-one.result c.one_empty-one.ensures

pub bounds-members-start : goal.bounds-members-start
bounds-members-start c = omega (arith, c.requires.0.1, c.loop-k-test.true)

pub offset_bounds-table-e : goal.offset_bounds-table-e
offset_bounds-table-e c =
    let x : c.wide-e.result ≡ get_or (drop c.args.start c.args.members) c.loop-k.k 0 = c.wide-e.ensures ∙ sym (get_or-drop c.args.start c.args.members c.loop-k.k 0) in
    let b = (c.requires.1 c.loop-k.k c.loop-k-test.true).0 in
    let l : c.wide-e.result < 1024 = omega (arith, x, b) in
    search rules

pub bounds-table-e : goal.bounds-table-e
bounds-table-e c =
    let x : c.wide-e.result ≡ get_or (drop c.args.start c.args.members) c.loop-k.k 0 = c.wide-e.ensures ∙ sym (get_or-drop c.args.start c.args.members c.loop-k.k 0) in
    omega (arith, x, (c.requires.1 c.loop-k.k c.loop-k-test.true).0)

pub push_entry-one-requires : goal.push_entry-one-requires
push_entry-one-requires c =
    let o = c.loop-k in
    let es = take c.args.n (drop c.args.start c.args.members) in
    let mm : length c.args.members ≡ 256 = search rules in
    let len : length es ≡ c.args.n = length-take-le c.args.n (drop c.args.start c.args.members) (omega (arith, c.requires.0.1, length-drop c.args.start c.args.members)) in
    let x : c.wide-e.result ≡ get_or (drop c.args.start c.args.members) o.k 0 = c.wide-e.ensures ∙ sym (get_or-drop c.args.start c.args.members o.k 0) in (
      members_ask (nodes c.args.cells.now) c.args.table.now es o.k o.one o.invariant (omega (arith, len, c.loop-k-test.true)) (omega (arith, len, c.requires.0.1)),
      (c.requires.0.0, subst (λ (e : ℕ). get_or c.args.table.now e 0 < count c.args.cells.now + 2) (sym x) (c.requires.1 o.k c.loop-k-test.true).1),
    )

pub loop-k-preserved : goal.loop-k-preserved
loop-k-preserved c =
    let o = c.loop-k in
    let es = take c.args.n (drop c.args.start c.args.members) in
    let mm : length c.args.members ≡ 256 = search rules in
    let len : length es ≡ c.args.n = length-take-le c.args.n (drop c.args.start c.args.members) (omega (arith, c.requires.0.1, length-drop c.args.start c.args.members)) in
    let x : c.wide-e.result ≡ get_or es o.k 0 = c.wide-e.ensures ∙ sym (get_or-take c.args.n (drop c.args.start c.args.members) o.k 0 c.loop-k-test.true ∙ get_or-drop c.args.start c.args.members o.k 0) in
    members-more (nodes c.args.cells.now) c.args.table.now es o.k o.one o.invariant (omega (arith, len, c.loop-k-test.true)) (omega (arith, len, c.requires.0.1)) c.wide-e.result x c.push_entry-one.result c.push_entry-one.ensures

pub returns : goal.returns
returns c =
    let o = c.loop-k in
    let es = take c.args.n (drop c.args.start c.args.members) in
    let mm : length c.args.members ≡ 256 = search rules in
    let len : length es ≡ c.args.n = length-take-le c.args.n (drop c.args.start c.args.members) (omega (arith, c.requires.0.1, length-drop c.args.start c.args.members)) in
    members_end (nodes c.args.cells.now) c.args.table.now es o.k o.one (omega (arith, len, c.loop-k-test.false)) o.invariant
