-- Numbers in bytes, little-endian.
use Rattle.std.specs.Prelude.{ℕ, ◌+◌, ◌*◌, List, get_or}
use Rattle.laws.specs.Lists.{table}

-- the 16-bit number at a place: the lower byte first
unfoldable pub field : List ℕ → ℕ → ℕ
field bytes at = get_or bytes at 0 + 256 * get_or bytes (at + 1) 0

-- the 32-bit number at a place
unfoldable pub wide_field : List ℕ → ℕ → ℕ
wide_field bytes at = field bytes at + 65536 * field bytes (at + 2)

-- n 16-bit numbers from a place on
unfoldable pub fields : List ℕ → ℕ → ℕ → List ℕ
fields bytes at n = table (λ k. field bytes (at + 2 * k)) n
