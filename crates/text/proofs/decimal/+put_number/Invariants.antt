-- By recursion on n / 10: one digit alone (`decimal_small`), or the digits of n / 10 and one more behind them (`decimal_more`). The measure is n itself.
use Rattle.text.proofs.decimal.+put_number.Given as goal

abbrev pub decreases-put_number : goal.decreases-put_number
decreases-put_number l = l.n
