-- What a call that changes a group comes to, over the list of classes: the answer and the classes afterwards.
-- A refusal is a case that hands back what came in.
use Rattle.std.specs.Prelude.{ℕ, Bool, false, ◌&&◌, List, leb, length, if◌then◌else◌}
use Rattle.classes.specs.Class.{Class}
use Rattle.classes.specs.Group.{total}

-- what a call came to: the refusal's number or 0, the answer, and the classes afterwards
pub record Outcome : Type 0 where
  pub number : ℕ
  pub answer : Bool
  pub classes : List Class

-- a refusal: the classes are as they were
unfoldable pub refused : ℕ → List Class → Outcome
refused k cs = record { number = k; answer = false; classes = cs }

-- the members are within the limit and the classes within 64
unfoldable pub fits : ℕ → List Class → Bool
fits limit cs = leb (total cs) limit && leb (length cs) 64

-- 4 where members or classes exceed the limit after the step
unfoldable pub judged : ℕ → List Class → Bool × List Class → Outcome
judged limit cs o = if fits limit o.1 then record { number = 0; answer = o.0; classes = o.1 } else refused 4 cs
