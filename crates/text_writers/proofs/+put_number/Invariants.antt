-- `text_writers::put_number` ends: the number has fewer digits each time.
use Rattle.text_writers.proofs.+put_number.Given as goal

abbrev pub decreases-put_number : goal.decreases-put_number
decreases-put_number l = l.n
