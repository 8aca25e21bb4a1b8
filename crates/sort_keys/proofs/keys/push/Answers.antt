-- `sort_keys::keys::push` meets its contract.
use Rattle.sort_keys.proofs.KeyLaws.{pushed-full, pushed_more}
use borrow.Author.Rules.{rules}
use Rattle.sort_keys.proofs.keys.push.Goals as goal

pub returns-then-out-ge16 : goal.returns-then-out-ge16
returns-then-out-ge16 c =
    pushed-full c.args.out c.args.e c.args.options (search rules)

pub returns : goal.returns
returns c =
    pushed_more c.args.out c.args.e c.args.options (search rules)
