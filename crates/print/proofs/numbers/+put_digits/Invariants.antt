-- f bounds how many digits there are, and falls with each call.
use Rattle.print.proofs.numbers.+put_digits.Given as goal

abbrev pub decreases-put_digits : goal.decreases-put_digits
decreases-put_digits l = l.f
