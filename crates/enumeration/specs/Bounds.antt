-- The bounds of an answer.
use Rattle.std.specs.Prelude.{Bool, ◌&&◌, List, ℕ, leb, length}
use Rattle.laws.specs.Tests.{each}
use Rattle.orderings.specs.Lists.{ordering_at}

-- at most 1,024 orderings of at most 16 keys each (else 5)
unfoldable pub fitting : List (List ℕ) → Bool
fitting os = leb (length os) 1024 && each (λ i. leb (length (ordering_at os i)) 16) (length os)
