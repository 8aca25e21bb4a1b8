-- The definitions of the calls, case by case, in the words of the functions that answer them.
use Rattle.arena.specs.declared.Refusal.{Refusal}
use Rattle.arena.specs.declared.Refusal.TheVariants.{UnknownExpression, TooManyChildren, BadNumber, TooLarge}
use Rattle.arena.specs.Refusals.{outcome, refusal}
use Rattle.std.specs.Prelude.{if◌then◌else◌, Result, Ok, Err}
use Prim.Native.Nat.{ℕ, ◌+◌, ◌<◌, ◌≤◌}
use mathlib.Core.Bool.{Bool, true, false}
use mathlib.Core.List.{List, [], ◌∷◌, ◌++◌, map}
use mathlib.Core.Path.{◌≡◌, refl, sym, ap, ◌∙◌}
use borrow.Author.Tests.{lt-ltb, le-ltb, le-leb, lt-leb}
use lib.Dec.{ltb, leb}
use lib.ListN.{length, get_or}
use Rattle.laws.specs.Tests.{each}
use Rattle.arena.specs.Node.{Node, operation}
use Rattle.arena.specs.Expression.{expression_at}
use Rattle.arena.specs.Arena.{add, add_expression}
use Rattle.arena.specs.Layout.{decode as nodes_in}
use Rattle.arena.specs.Calls.{answered, in_cells, add_operation}
use Rattle.arena.specs.Inner.{Holds}
use Rattle.arena.proofs.Layouts.{coded-cells}
use Rattle.classes.specs.Class.{Class}
use Rattle.classes.specs.Group.{with_constant}
use Rattle.questions.specs.Questions.{exprs_equal}
use Rattle.classes.specs.Steps.{refused, judged}
use Rattle.classes.specs.Layout.{constant_from}
use Rattle.conditions.specs.Calls.{sayable}
use Rattle.questions.specs.Calls.{Answer, equal_answer}
use Rattle.conditions.proofs.Calling.{say-unknown, say-known}
use Rattle.questions.proofs.Calling.{equal-known}
use Rattle.normal.specs.Normal.{normal}
use Rattle.normal.specs.Calls.{normalize_expr}
use Rattle.orderings.specs.Ordering.{same_key}
use Rattle.orderings.specs.Lists.{built_all}
use Rattle.reduction.specs.Reduction.{reduced}
use Rattle.reduction.specs.Lent.{lists_lent}
use Rattle.orderings.specs.Layout.{encode as encode_list, decode as orderings_in}
use Rattle.orderings.specs.Calls.{fits}
use Rattle.reduction.specs.Calls.{reduced_list}
use Rattle.orderings.specs.Inner.{Held as HeldList}
use Rattle.orderings.specs.declared.Listed.{Listed}
use Rattle.orderings.specs.declared.Orderings.{Orderings}
use Rattle.records.specs.Fields.{fields}
use Rattle.records.proofs.Items.{length_fields}
use Rattle.session_steps.specs.State.{added_reply, normal_reply, equality_reply, say_constant, key_expr, key_options, key_number, add_ordering}
use Rattle.session_steps.specs.Inner.{said_of, said_by, listed_of, lent_keys}
use Rattle.session_steps.specs.declared.holding.Said.{Said}
use Rattle.session_steps.specs.declared.holding.Said.TheVariants.{Equality}
use Rattle.session_steps.proofs.KeyNumbers.{lent-lists}

-- an operation over n children of a body: one is unknown, there are too many, or it is added
module _ (label n : ℕ) (body cells : List ℕ) where
  abbrev pub Known : Bool
  Known = each (λ k. ltb (get_or (fields body 4 n) k 0) (length (nodes_in cells))) n

  pub operation-unknown : Holds cells → Known ≡ false → ◌≡◌ {A = Result Said Refusal × List ℕ} (Err UnknownExpression, cells) (in_cells (said_by added_reply (add_operation label (fields body 4 n) (nodes_in cells))))
  unfolding add_operation in_cells said_by added_reply said_of refusal
  operation-unknown h e = rw (length_fields body 4 n, e, coded-cells cells h)

  pub operation-many : Holds cells → Known ≡ true → 8 < n → ◌≡◌ {A = Result Said Refusal × List ℕ} (Err TooManyChildren, cells) (in_cells (said_by added_reply (add_operation label (fields body 4 n) (nodes_in cells))))
  unfolding add_operation in_cells said_by added_reply said_of refusal
  operation-many h e l = rw (length_fields body 4 n, e, lt-leb n 8 l, coded-cells cells h)

  pub operation-added : Known ≡ true → n ≤ 8 → add_operation label (fields body 4 n) (nodes_in cells) ≡ answered (nodes_in cells) (add (operation label (fields body 4 n)) (nodes_in cells))
  unfolding add_operation
  operation-added e l = rw (length_fields body 4 n, e, le-leb n 8 l)

-- a constant that a record says
module _ (e flavour value : ℕ) (ns : List Node) (cs : List Class) where
  pub said-never : sayable flavour value ≡ false → say_constant e flavour value ns cs ≡ refused 12 cs
  unfolding say_constant
  said-never s = rw s

  pub said-unknown : sayable flavour value ≡ true → length ns ≤ e → say_constant e flavour value ns cs ≡ refused 1 cs
  unfolding say_constant
  said-unknown s l = rw s (say-unknown 256 ns cs e (constant_from (flavour + 1) value) l)

  pub said-known : sayable flavour value ≡ true → e < length ns → say_constant e flavour value ns cs ≡ judged 256 cs (false, with_constant true ns cs e (constant_from (flavour + 1) value))
  unfolding say_constant
  said-known s l = rw s (say-known 256 ns cs e (constant_from (flavour + 1) value) l)

-- a normal form
module _ (e : ℕ) (cells : List ℕ) (cs : List Class) where
  pub normal-unknown : Holds cells → length (nodes_in cells) ≤ e → ◌≡◌ {A = Result Said Refusal × List ℕ} (Err UnknownExpression, cells) (in_cells (said_by (normal_reply e) (normalize_expr e (nodes_in cells) cs)))
  unfolding normalize_expr in_cells said_by normal_reply said_of refusal
  normal-unknown h l = rw (le-ltb e (length (nodes_in cells)) l, coded-cells cells h)

  pub normal-known : e < length (nodes_in cells) → normalize_expr e (nodes_in cells) cs ≡ answered (nodes_in cells) (add_expression (normal (nodes_in cells) cs (expression_at (nodes_in cells) e)) (nodes_in cells))
  unfolding normalize_expr
  normal-known l = rw (lt-ltb e (length (nodes_in cells)) l)

-- an equality question of two known expressions
pub equality-said : (ns : List Node) (cs : List Class) (a b : ℕ) → a < length ns → b < length ns → (v : Bool) → v ≡ exprs_equal ns cs a b → Ok (Equality a b v) ≡ said_of (equality_reply a b (equal_answer a b ns cs))
unfolding said_of equality_reply
equality-said ns cs a b l m v e = ap (λ (w : Bool). Ok (Equality a b w)) e ∙ sym (ap (λ (x : Answer). said_of (equality_reply a b x)) (equal-known ns cs a b l m))

-- an ordering: options over 3, an unknown expression, or what adding it to the list comes to
module _ (keys : List (ℕ × ℕ)) (ns : List Node) (list : Orderings) (h : HeldList list) where
  abbrev pub OptionsKnown : Bool
  OptionsKnown = each (λ k. leb (key_options keys k) 3) (length keys)

  abbrev pub ExprsKnown : Bool
  ExprsKnown = each (λ k. ltb (key_expr keys k) (length ns)) (length keys)

  abbrev Told : Refusal → Listed
  Told k = record { done = Err k; list = list }

  pub ordering-options : OptionsKnown ≡ false → Told BadNumber ≡ listed_of (add_ordering keys ns (orderings_in list))
  unfolding listed_of add_ordering outcome refusal
  ordering-options o = rw (o, h.coded)

  pub ordering-unknown : OptionsKnown ≡ true → ExprsKnown ≡ false → Told UnknownExpression ≡ listed_of (add_ordering keys ns (orderings_in list))
  unfolding listed_of add_ordering outcome refusal
  ordering-unknown o x = rw (o, x, h.coded)

  pub ordering-added : OptionsKnown ≡ true → ExprsKnown ≡ true → (numbers : List ℕ) → numbers ≡ lent_keys keys
      → reduced_list list (orderings_in list ++ built_all (lists_lent numbers)) ≡ listed_of (add_ordering keys ns (orderings_in list))
  unfolding listed_of add_ordering reduced_list outcome refusal
  ordering-added o x numbers q =
      ap (λ (kss : List (List ℕ)). reduced_list list (orderings_in list ++ built_all kss)) (ap lists_lent q ∙ lent-lists keys) ∙ rw (o, x) (go (fits more))
    where
      more : List (List ℕ)
      more = orderings_in list ++ built_all (map key_number keys ∷ [])

      out : Bool → ℕ × List (List ℕ)
      out b = if b then (0, (reduced same_key more).orderings) else (5, orderings_in list)

      go : (b : Bool)
          → ◌≡◌ {A = Listed} (if b then record { done = Ok tt; list = encode_list (reduced same_key more).orderings } else record { done = Err TooLarge; list = list })
          (record { done = outcome (out b).0; list = encode_list (out b).1 })
      go true = refl
      go false = ap (λ (l : Orderings). record { done = Err TooLarge; list = l }) (sym h.coded)
