-- `reduction::reducing::truncate` meets its contract.
use Rattle.std.proofs.Common.{◌≡◌, ◌++◌, ℕ, List, rules, sym, ap, ◌∙◌, arith, take, drop, replicate}
use Rattle.std.proofs.lemmas.List.{drop-replicate}
use lib.Seq.{length-take-le}
use Rattle.orderings.specs.Layout.{keys_of}
use Rattle.orderings.proofs.Codec.{size_few, filled, filled-all}
use Rattle.reduction.proofs.Meeting.{take-read}
use Rattle.reduction.proofs.reducing.truncate.Goals as goal

pub slice_bounds-copy_from_slice-end : goal.slice_bounds-copy_from_slice-end
slice_bounds-copy_from_slice-end c =
    let b = size_few c.args.o c.requires.0 in
    sym (length-take-le c.args.n (replicate 16 0) (omega arith))

pub returns : goal.returns
returns c =
    let e : c.copy_from_slice.new.self ≡ take c.args.n c.args.o.keys = search rules in
    let k : c.copy_from_slice.new.self ++ drop c.args.n (replicate 16 0) ≡ filled (keys_of c.args.o) c.args.n =
    ap (λ (t : List ℕ). t ++ drop c.args.n (replicate 16 0)) (e ∙ take-read c.args.o c.args.n c.requires.0 c.requires.1) ∙ ap (λ (t : List ℕ). take c.args.n (keys_of c.args.o) ++ t) (drop-replicate c.args.n 16 0) in
    ap (λ (t : List ℕ). record { size = c.args.n; keys = t }) k ∙ filled-all c.args.o c.args.n c.requires.1
