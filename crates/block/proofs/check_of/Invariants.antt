-- The sum so far is that of the words so far, modulo 4,294,967,296.
use Rattle.std.proofs.Common.{◌≡◌, ◌%◌}
use Rattle.block.specs.Block.{word_sum}
use Rattle.block.proofs.check_of.Given as goal

abbrev pub invariant-loop-i : goal.invariant-loop-i
invariant-loop-i l = l.sum ≡ word_sum l.block l.i % 4_294_967_296
