-- `ordering_questions::questions::options_in` meets its contract.
use Rattle.std.proofs.Common.{◌≡◌, ℕ, rules, tests, sym, ap, ◌∙◌, eqb, refl}
use Rattle.std.specs.Prelude.{Option, None, Some}
use Rattle.std.specs.Option.{option_map}
use Rattle.std.specs.List.{find}
use Rattle.std.proofs.lemmas.Iterator.{YieldsList-from_range, YieldsList-from_map}
use Rattle.std.proofs.lemmas.Iterator.Search.{find_from_yields_List}
use native.Mathlib.Nat.{sub-zero}
use Rattle.laws.proofs.RunsA.{table-range}
use Rattle.orderings.specs.Ordering.{expr_of, options_of}
use Rattle.orderings.specs.Lists.{ordering_at}
use Rattle.orderings.specs.Layout.{decode}
use Rattle.ordering_questions.proofs.Leads.{lead, leading-keys, options-first}
use Rattle.ordering_questions.proofs.questions.options_in.Goals as goal

same : (o : Option ℕ) → option_map (λ x. x) o ≡ o
same None = refl
same (Some x) = refl

pub returns : goal.returns
unfolding expr_of options_of
returns c =
    let f = find_from_yields_List (λ k. eqb (expr_of k) c.args.e) _ _ c.find.result c.find.ensures.ran (YieldsList-from_map _ (λ i. lead (ordering_at (decode c.args.g) i)) (YieldsList-from_range 0 c.args.g.count c.args.g.count c.map.ensures.source (sub-zero c.args.g.count)) c.map.ensures.closure (λ x r q k. search rules)) (λ x b q k. search (rules, tests)) in
    let m : c.map-2.result ≡ option_map options_of c.find.result = search rules in
    m ∙ ap (option_map options_of) (sym (same c.find.result) ∙ f ∙ ap (find (λ k. eqb (expr_of k) c.args.e)) (table-range (λ i. lead (ordering_at (decode c.args.g) i)) c.args.g.count ∙ leading-keys c.args.g))
    ∙ options-first (decode c.args.g) c.args.e
