-- What the inner functions ask and promise each other. The public contracts cite nothing of this file.
use Rattle.std.specs.Prelude.{ℕ, ◌+◌, ◌<◌, ◌≤◌, Bool, true, ◌&&◌, List, ◌≡◌, eqb, leb, length, if◌then◌else◌, Option, None, Some, Result, Ok, Err}
use Rattle.reduction.specs.Lent.{key_count, expr_lent, options_lent, exprs_inside, options_known, whole, orderings_lent}
use Rattle.reduction.specs.Reduction.{Way, onward, again, anew, Compared, Turn, Reduced, keys_in}
use Rattle.orderings.specs.Layout.{encode, decode, lawful_list, keys_inside}
use Rattle.orderings.specs.declared.Orderings.{Orderings}
use Rattle.orderings.specs.declared.Ordering.{Ordering}
use Rattle.arena.specs.Layout.{count, lawful}
use Rattle.arena.specs.declared.Refusal.{Refusal}
use Rattle.arena.specs.declared.Refusal.TheVariants.{TooLarge}
use Rattle.reduction.specs.declared.Contest.{Contest}
use Rattle.reduction.specs.declared.Reduction.{Reduction}
use Rattle.reduction.specs.declared.Turned.{Turned}
use Rattle.orderings.specs.Inner.{Held, appended}

-- an overlap as a number of keys: 0 for none
unfoldable pub overlap_number : Option ℕ → ℕ
overlap_number None = 0
overlap_number (Some n) = n + 1

-- how the comparing goes on, as a number
unfoldable pub way_number : Way → ℕ
way_number onward = 0
way_number again = 1
way_number anew = 2

-- what comparing came to, as its struct
unfoldable pub contest_of : Compared → Contest
contest_of c = record { way = way_number c.way; cuts = c.cuts; list = encode c.orderings }

-- what a loop came to, as its struct
unfoldable pub turn_of : Turn → Turned
turn_of t = record { next = t.next; cuts = t.cuts; list = encode t.orderings }

-- what reduction came to, as its struct
unfoldable pub reduction_of : Reduced → Reduction
reduction_of r = record { list = encode r.orderings; cuts = r.cuts; passes = r.passes }

-- a list may be compared further: it is held, and its keys and the cuts so far are within what a list can have
pub record Paid (g : Orderings) (cuts : ℕ) : Type 0 where
  pub held : Held g
  pub paid : keys_in (decode g) + cuts ≤ 512

-- the keys of the list at a place are expressions below 1,024 with options 0 to 3
pub record KeysFit (numbers : List ℕ) (at : ℕ) : Type 0 where
  pub there : at < length numbers
  pub exprs : (k : ℕ) → k < key_count numbers at → expr_lent numbers at k < 1024
  pub options : (k : ℕ) → k < key_count numbers at → options_lent numbers at k ≤ 3

-- the same of all lists that are lent
pub record LentFit (numbers : List ℕ) : Type 0 where
  pub exprs : exprs_inside 1024 numbers ≡ true
  pub options : options_known numbers ≡ true

-- no count runs past what is lent, and each list is an ordering where that is asked
unfoldable pub parts_lent : Bool → List ℕ → Bool
parts_lent orderings numbers = if orderings then whole numbers && orderings_lent numbers else whole numbers

-- the check of a list and of what is lent with it, by whether its parts are whole
unfoldable pub checked_number : List ℕ → Orderings → Bool → List ℕ → ℕ
checked_number cells g parts numbers =
    if options_known numbers then
    (if lawful cells && lawful_list g && parts then
    (if keys_inside (count cells) g && exprs_inside (count cells) numbers then 0 else 1)
    else 11)
    else 12

-- a list with an ordering at its end, if that is not empty; too large where it doesn't fit
unfoldable pub added_one : Orderings → Ordering → Result Orderings Refusal
added_one g one =
    if eqb one.size 0 then Ok g else
    (if leb 32 g.count then Err TooLarge else Ok (appended g one))
