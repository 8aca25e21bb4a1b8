-- Document 01's small examples P1 to P13 as one table: what is asked, and what the paper says is answered. What is asked is answered by the definitions that the contracts of the calls cite.
use Rattle.std.specs.Prelude.{ℕ, ◌+◌, ◌*◌, Bool, true, false, List, [], ◌∷◌, Some, Err, Ok}
use Rattle.arena.specs.declared.Refusal.{Refusal}
use Rattle.arena.specs.Refusals.{Added}
use Rattle.arena.specs.Node.{Node, column, literal, operation}
use Rattle.arena.specs.Expression.{Expression, col, op, ∅, ◌▹◌, expression_at}
use Rattle.classes.specs.declared.Constant.{Constant}
use Rattle.classes.specs.declared.Constant.TheVariants.{NoConstant as no_constant, Heterogeneous as heterogeneous, Unknown as unknown}
use Rattle.classes.specs.Class.{Class}
use Rattle.classes.specs.Steps.{Outcome}
use Rattle.conditions.specs.Steps.{add_equal, add_constant}
use Rattle.questions.specs.Calls.{Answer, ConstantIs, equal_answer, constant_answer}
use Rattle.normal.specs.Calls.{normalize_expr}
use Rattle.orderings.specs.Layout.{encode}
use Rattle.orderings.specs.Lists.{join_suffix}
use Rattle.orderings.specs.Calls.{listed}
use Rattle.orderings.specs.declared.Listed.{Listed}
use Rattle.reduction.specs.Calls.{reduced_list}
use Rattle.dependencies.specs.Map.{Dependent, inserted}
use Rattle.enumeration.specs.Walk.{prefix_orderings}
use Rattle.dependency_orderings.specs.Calls.{Answer as Enumeration, walk_answer}

-- the expressions of the examples: the columns 0 to 5, which the paper calls a to f, and x and y; 6 is f(b); 7 and 8 are the labels 1 and 2 over (a,b); 9 and 10 the literals 1 and 2; 11 is f(literal)
abbrev pub nodes : List Node
nodes =
    column 0 0 ∷ column 1 1 ∷ column 2 2 ∷ column 3 3 ∷ column 4 4 ∷ column 5 5 ∷ operation 7 (1 ∷ []) ∷ operation 1 (0 ∷ 1 ∷ []) ∷ operation 2 (0 ∷ 1 ∷ []) ∷ literal 1 ∷ literal 2 ∷ operation 7 (9 ∷ []) ∷ []

-- a class without a constant
abbrev pub those : List ℕ → Class
those es = record { members = es; constant = no_constant }

-- an expression as a key, ascending
abbrev pub ascending : ℕ → ℕ
ascending e = e * 4

-- and descending
abbrev pub descending : ℕ → ℕ
descending e = e * 4 + 1

-- what is asked of a call
pub data Asked : Type 0 where
  equal_condition : (left right : ℕ) → List Class → Asked
  constant : (expr : ℕ) → Constant → List Class → Asked
  normal_form : (expr : ℕ) → List Class → Asked
  equality : (left right : ℕ) → List Class → Asked
  constant_of : (expr : ℕ) → List Class → Asked
  reduction : List (List ℕ) → Asked
  suffixed : (list by : List (List ℕ)) → Asked
  prefixes : (key : ℕ) → List Dependent → Asked

-- what is answered: what a call that changes a group comes to, a normal form, the answer to a question, a list of orderings, orderings in lent output
pub data Told : Type 0 where
  outcome : Outcome → Told
  form : Expression → Told
  no_form : (why : Refusal) → Told
  answer : Answer → Told
  constant_is : ConstantIs → Told
  list : Listed → Told
  output : Enumeration → Told

-- the number of a normal form stands for this expression of the arena afterwards
unfoldable pub form_told : Added × List Node → Told
form_told (Ok e, ns) = form (expression_at ns e)
form_told (Err why, ns) = no_form why

-- what the definitions answer, for a group of limit 256
unfoldable pub told : Asked → Told
told (equal_condition left right cs) = outcome (add_equal 256 nodes left right cs)
told (constant expr said cs) = outcome (add_constant true 256 nodes expr said cs)
told (normal_form expr cs) = form_told (normalize_expr expr nodes cs)
told (equality left right cs) = answer (equal_answer left right nodes cs)
told (constant_of expr cs) = constant_is (constant_answer expr nodes cs)
told (reduction os) = list (reduced_list (encode []) os)
told (suffixed os by) = list (listed (encode os) (join_suffix os by))
told (prefixes key ds) = output (walk_answer (prefix_orderings ds key) (9 ∷ 9 ∷ 9 ∷ 9 ∷ []))

-- a call on a group is done, with this answer and these classes
abbrev pub done : Bool → List Class → Told
done said cs = outcome (record { number = 0; answer = said; classes = cs })

-- a call on a list of orderings is done, with these orderings
abbrev pub orderings : List (List ℕ) → Told
orderings os = list (record { done = Ok tt; list = encode os })

-- the table
abbrev pub paper : List (Asked × Told)
paper =
    -- P1 (x,x) on empty: true, one class [x]
    (equal_condition 0 0 [], done true (those (0 ∷ []) ∷ []))
    -- P2 then (x,y): false, [x,y]
    ∷ (equal_condition 0 1 (those (0 ∷ []) ∷ []), done false (those (0 ∷ 1 ∷ []) ∷ []))
    -- P3 [a,b],[c,d],[e,f] and (d,a): false, [a,b,c,d],[e,f]
    ∷ (equal_condition 3 0 (those (0 ∷ 1 ∷ []) ∷ those (2 ∷ 3 ∷ []) ∷ those (4 ∷ 5 ∷ []) ∷ []), done false (those (0 ∷ 1 ∷ 2 ∷ 3 ∷ []) ∷ those (4 ∷ 5 ∷ []) ∷ []))
    -- P4 [a,b],[f(b),c]: normal form of c is f(b), of f(b) is f(a)
    ∷ (normal_form 2 (those (0 ∷ 1 ∷ []) ∷ those (6 ∷ 2 ∷ []) ∷ []), form (op 7 (col 1 1 ▹ ∅)))
    ∷ (normal_form 6 (those (0 ∷ 1 ∷ []) ∷ those (6 ∷ 2 ∷ []) ∷ []), form (op 7 (col 0 0 ▹ ∅)))
    -- P5 unknown uniform x, then y: one class [x,y]
    ∷ (constant 0 unknown [], done false (record { members = 0 ∷ []; constant = unknown } ∷ []))
    ∷ (constant 1 unknown (record { members = 0 ∷ []; constant = unknown } ∷ []), done false (record { members = 0 ∷ 1 ∷ []; constant = unknown } ∷ []))
    -- P6 empty group: label 1 over (a,b) equals label 2 over (a,b)
    ∷ (equality 7 8 [], answer (Ok true))
    -- P7 literals 1 and 2 don't
    ∷ (equality 9 10 [], answer (Ok false))
    -- P8 f(literal) is heterogeneous
    ∷ (constant_of 11 [], constant_is (Ok heterogeneous))
    -- P9 [a,b],[b,c] reduce to [a],[b,c]
    ∷ (reduction ((ascending 0 ∷ ascending 1 ∷ []) ∷ (ascending 1 ∷ ascending 2 ∷ []) ∷ []), orderings ((ascending 0 ∷ []) ∷ (ascending 1 ∷ ascending 2 ∷ []) ∷ []))
    -- P10 [a],[a,b] to [a,b]
    ∷ (reduction ((ascending 0 ∷ []) ∷ (ascending 0 ∷ ascending 1 ∷ []) ∷ []), orderings ((ascending 0 ∷ ascending 1 ∷ []) ∷ []))
    -- P11 a ascending and a descending both stay
    ∷ (reduction ((ascending 0 ∷ []) ∷ (descending 0 ∷ []) ∷ []), orderings ((ascending 0 ∷ []) ∷ (descending 0 ∷ []) ∷ []))
    -- P12 [a],[b] suffixed by [c],[d]: [a,c],[b,c],[a,d],[b,d]
    ∷ (suffixed ((ascending 0 ∷ []) ∷ (ascending 1 ∷ []) ∷ []) ((ascending 2 ∷ []) ∷ (ascending 3 ∷ []) ∷ []), orderings ((ascending 0 ∷ ascending 2 ∷ []) ∷ (ascending 1 ∷ ascending 2 ∷ []) ∷ (ascending 0 ∷ ascending 3 ∷ []) ∷ (ascending 1 ∷ ascending 3 ∷ []) ∷ []))
    -- P13 a key with itself as target and only dependency: no ordering
    ∷ (prefixes (ascending 1) (inserted [] (ascending 1) (Some (ascending 1)) (Some (ascending 1))), output (Ok (record { count = 0; used = 0 }), 9 ∷ 9 ∷ 9 ∷ 9 ∷ []))
    ∷ []
