-- What a step promises, from what its call promises.
use Rattle.arena.specs.declared.Refusal.{Refusal}
use Rattle.arena.specs.Refusals.{Added, outcome, refusal as refusal_of}
use Prim.Native.Nat.{ℕ}
use mathlib.Core.List.{List}
use Rattle.std.specs.Prelude.{if◌then◌else◌, eqb, Option, None, Some, Result, Ok, Err}
use mathlib.Core.Bool.{Bool, true, false}
use mathlib.Core.Path.{◌≡◌, refl, sym, ap, ap₂, ◌∙◌, subst}
use native.Mathlib.Omega.{arith}
use Rattle.arena.specs.Node.{Node}
use Rattle.arena.specs.Layout.{encode as encode_nodes, decode as nodes_in}
use Rattle.arena.specs.Calls.{in_cells, added_number}
use Rattle.arena.proofs.Layouts.{decode-encode, encode-holds}
use Rattle.classes.specs.Class.{Class}
use Rattle.classes.specs.Steps.{Outcome}
use Rattle.classes.specs.Layout.{encode}
use Rattle.classes.specs.Calls.{answer_of, changed}
use Rattle.classes.specs.Inner.{Held}
use Rattle.classes.specs.declared.Changed.{Changed}
use Rattle.classes.proofs.Codec.{decode-encode as classes-back}
use Rattle.group_checks.proofs.HeldLaws.{Fit as ClassesFit}
use Rattle.orderings.specs.Good.{Good as GoodList}
use Rattle.orderings.specs.Layout.{encode as encode_list}
use Rattle.orderings.specs.declared.Listed.{Listed}
use Rattle.orderings.proofs.Codec.{decode-encode as List-back}
use Rattle.normal.proofs.NormalKept.{Kept}
use Rattle.records.specs.Record.{Record, read_record}
use Rattle.classes.proofs.Judging.{refusal-of}
use Rattle.session_steps.specs.State.{State, Reply, quiet, refusal, unless, added_reply, normal_reply, with_nodes, with_classes, with_orderings, on_nodes, on_classes, step}
use Rattle.session_steps.specs.Inner.{Fit, Went, said_of, said_by, told, listed_of, state_of}
use Rattle.session_steps.specs.declared.holding.Stepped.{Stepped}
use Rattle.session_steps.specs.declared.holding.Holding.{Holding}
use Rattle.session_steps.specs.declared.holding.Said.{Said}
use Rattle.session_steps.specs.declared.holding.Said.TheVariants.{NormalForm}
use Rattle.session_steps.proofs.ClassesKept.{held-extended, fit-held}
use Rattle.session_steps.proofs.OrderingsKept.{good-held}

-- the record that was read is the only one
abbrev record_or : Record → Option Record → Record
record_or d None = d
record_or d (Some x) = x

pub only : (bytes : List ℕ) (P : Record → Type 0) (y : Record) → read_record bytes ≡ Some y → P y → (x : Record) → read_record bytes ≡ Some x → P x
only bytes P y e p x f = subst P (ap (record_or y) (sym e ∙ f)) p

-- where none was read, there is none
abbrev is_there : Option Record → ℕ
is_there None = 0
is_there (Some x) = 1

pub none_read : (bytes : List ℕ) (P : Record → Type 0) → read_record bytes ≡ None → (x : Record) → read_record bytes ≡ Some x → P x
none_read bytes P e x f = let z : ◌≡◌ {A = ℕ} 0 1 = ap is_there (sym e ∙ f) in absurd (omega arith)

-- what is said of an answer about nodes, beside the cells
pub told_in : (reply : Added → Reply) (o : Added × List Node) (a : Added) (t : List ℕ) (said : Result Said Refusal) → ◌≡◌ {A = Added × List ℕ} (a, t) (in_cells o) → said ≡ said_of (reply a)
    → ◌≡◌ {A = Result Said Refusal × List ℕ} (said, t) (in_cells (said_by reply o))
unfolding in_cells said_by
told_in reply o a t said e q = ap₂ {C = Result Said Refusal × List ℕ} (λ s c. (s, c)) (q ∙ ap (λ (z : Added × List ℕ). said_of (reply z.0)) e) (ap (λ (z : Added × List ℕ). z.1) e)

-- of an answer about nodes only a refusal is told
pub added-told : (a : Added) → told a ≡ said_of (added_reply a)
unfolding told said_of added_reply
added-told (Ok i) = refl
added-told (Err k) = ap Err (sym (refusal-of k))

-- of a normal form both are told
pub normal-ok : (e x form : ℕ) (a : Added) → a ≡ Ok form → x ≡ e → Ok (NormalForm x form) ≡ said_of (normal_reply e a)
unfolding said_of normal_reply
normal-ok e x form a p q = rw (q, p)

pub normal-err : (e : ℕ) (k : Refusal) (a : Added) → a ≡ Err k → Err k ≡ said_of (normal_reply e a)
unfolding said_of normal_reply
normal-err e k a p = rw p (ap Err (sym (refusal-of k)))

-- of an outcome only its number is told
pub outcome_told : (o : Outcome) → told (answer_of o) ≡ said_of (unless o.number)
unfolding told answer_of said_of unless
outcome_told o = go (eqb o.number 0)
  where
    go : (b : Bool) → told (if b then Ok o.answer else Err (refusal_of o.number)) ≡ said_of (if b then quiet else refusal o.number)
    go true = refl
    go false = refl

-- and so of a check
pub number_told : (k : ℕ) → told {A = Unit {0}} (outcome k) ≡ said_of (unless k)
unfolding told outcome said_of unless
number_told k = go (eqb k 0)
  where
    go : (b : Bool) → told {A = Unit {0}} (if b then Ok tt else Err (refusal_of k)) ≡ said_of (if b then quiet else refusal k)
    go true = refl
    go false = refl

module _ (cells : List ℕ) (h : Holding) (x : Record) (fit : Fit cells h) where
  -- a call on the arena
  pub nodes-went : (reply : Added → Reply) (o : Added × List Node) → Kept added_number (nodes_in cells) o → step x (state_of cells h) ≡ on_nodes (state_of cells h) reply o
      → (said : Result Said Refusal) (cells' : List ℕ) → ◌≡◌ {A = Result Said Refusal × List ℕ} (said, cells') (in_cells (said_by reply o)) → (r : Stepped) → r ≡ record { said = said; holding = h }
      → Went cells h x cells' r
  unfolding in_cells said_by on_nodes state_of with_nodes
  nodes-went reply o k s said cells' q r p =
      let back = decode-encode o.1 k.sound in
      let c : cells' ≡ encode_nodes o.1 = ap (λ (z : Result Said Refusal × List ℕ). z.1) q in
      let g : r.holding ≡ h = ap (λ (z : Stepped). z.holding) p in
      record {
        fit = subst (λ (z : Holding). Fit cells' z) (sym g) (subst (λ (z : List ℕ). Fit z h) (sym c) (record {
          arena = encode-holds o.1 k.sound;
          group = subst (λ (ns : List Node). Held ns h.group) (sym back) (held-extended h.group k.extends fit.group);
          limit = fit.limit;
          list = fit.list;
        }));
        said-is = ap (λ (z : Stepped). z.said) p ∙ ap (λ (z : Result Said Refusal × List ℕ). z.0) q ∙ ap (λ (z : Reply × State). said_of z.0) (sym s);
        state-is = ap₂ {C = State} (λ c h. state_of c h) c g ∙ ap (λ (ns : List Node). with_nodes (state_of cells h) ns) back ∙ ap (λ (z : Reply × State). z.1) (sym s);
      }

  -- a question changes nothing
  pub asked-went : (reply : Reply) → step x (state_of cells h) ≡ (reply, state_of cells h) → (r : Stepped) → r ≡ record { said = said_of reply; holding = h } → Went cells h x cells r
  asked-went reply s r p =
      let g : r.holding ≡ h = ap (λ (z : Stepped). z.holding) p in
      record {
        fit = subst (λ (z : Holding). Fit cells z) (sym g) fit;
        said-is = ap (λ (z : Stepped). z.said) p ∙ ap (λ (z : Reply × State). said_of z.0) (sym s);
        state-is = ap (λ (z : Holding). state_of cells z) g ∙ ap (λ (z : Reply × State). z.1) (sym s);
      }

  -- a call on the group
  pub classes-went : (o : Outcome) → ClassesFit (nodes_in cells) 256 o.classes → step x (state_of cells h) ≡ on_classes (state_of cells h) o
      → (change : Changed) → change ≡ changed 256 o
      → (r : Stepped) → r ≡ record { said = told change.answer; holding = record { group = change.group; list = h.list } }
      → Went cells h x cells r
  unfolding changed on_classes state_of with_classes encode
  classes-went o f s change q r p =
      let made : Holding = record { group = encode 256 o.classes; list = h.list } in
      let g : r.holding ≡ made = ap (λ (z : Stepped). z.holding) p ∙ ap (λ (z : Changed). record { group = z.group; list = h.list }) q in
      record {
        fit = subst (λ (z : Holding). Fit cells z) (sym g) (record {
          arena = fit.arena;
          group = fit-held (nodes_in cells) 256 o.classes f;
          limit = refl;
          list = fit.list;
        });
        said-is = ap (λ (z : Stepped). z.said) p ∙ ap (λ (z : Changed). told z.answer) q ∙ outcome_told o ∙ ap (λ (z : Reply × State). said_of z.0) (sym s);
        state-is = ap (λ (z : Holding). state_of cells z) g ∙ ap (λ (cs : List Class). with_classes (state_of cells h) cs) (classes-back 256 o.classes) ∙ ap (λ (z : Reply × State). z.1) (sym s);
      }

  -- a call on the orderings
  pub orderings-went : (o : ℕ × List (List ℕ)) → GoodList o.1 → step x (state_of cells h) ≡ (unless o.0, with_orderings (state_of cells h) o.1)
      → (listed : Listed) → listed ≡ listed_of o
      → (r : Stepped) → r ≡ record { said = told listed.done; holding = record { group = h.group; list = listed.list } }
      → Went cells h x cells r
  unfolding listed_of state_of with_orderings
  orderings-went o f s listed q r p =
      let made : Holding = record { group = h.group; list = encode_list o.1 } in
      let g : r.holding ≡ made = ap (λ (z : Stepped). z.holding) p ∙ ap (λ (z : Listed). record { group = h.group; list = z.list }) q in
      record {
        fit = subst (λ (z : Holding). Fit cells z) (sym g) (record {
          arena = fit.arena;
          group = fit.group;
          limit = fit.limit;
          list = good-held o.1 f;
        });
        said-is = ap (λ (z : Stepped). z.said) p ∙ ap (λ (z : Listed). told z.done) q ∙ number_told o.0 ∙ ap (λ (z : Reply × State). said_of z.0) (sym s);
        state-is = ap (λ (z : Holding). state_of cells z) g ∙ ap (λ (os : List (List ℕ)). with_orderings (state_of cells h) os) (List-back o.1) ∙ ap (λ (z : Reply × State). z.1) (sym s);
      }
