-- How keys lie in lent numbers and in the struct that is handed back. The one file that speaks of that.
-- Lent, a key is two numbers, its expression and its options. In the struct it is one number, expression · 4 + options, and there is a place for each of 16 keys.
use Rattle.std.specs.Prelude.{ℕ, ◌+◌, ◌*◌, ◌/◌, ◌%◌, Bool, List, map, eqb, leb, length, get_or}
use Rattle.laws.specs.Tests.{each}
use Rattle.laws.specs.Lists.{table}
use Rattle.classes.specs.Layout.{padded}
use Rattle.sort_keys.specs.Keys.{Key}
use Rattle.sort_keys.specs.declared.Sorted.{Sorted}

-- keys as they are lent: expression and options, one after the other
unfoldable pub keys_of : List ℕ → List Key
keys_of numbers = table (λ k. record { expr = get_or numbers (2 * k) 0; options = get_or numbers (2 * k + 1) 0 }) (length numbers / 2)

-- every key's options are 0 to 3
unfoldable pub options_known : List ℕ → Bool
options_known numbers = each (λ k. leb (get_or numbers (2 * k + 1) 0) 3) (length numbers / 2)

-- no key is cut: the numbers come in pairs
abbrev pub none_cut : List ℕ → Bool
none_cut numbers = eqb (length numbers % 2) 0

-- a key as one number
unfoldable pub packed : Key → ℕ
packed k = k.expr * 4 + k.options

-- keys as the struct that is handed back; unused places are 0
unfoldable pub sorted : List Key → Sorted
sorted ks = record { size = length ks; keys = padded 16 (map packed ks) }
