-- What ends `Line::number`: it calls itself with the tenth of n, which is less. Assumes nothing.
use Rattle.jobline.proofs.write.Line.+number.Given as goal

abbrev pub decreases-number : goal.decreases-number
decreases-number l = l.n
