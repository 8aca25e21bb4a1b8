-- `lines::put_decimal` meets its contract: it calls itself.
use Rattle.lines.proofs.+put_decimal.Given as goal

abbrev pub decreases-put_decimal : goal.decreases-put_decimal
decreases-put_decimal l = l.x
