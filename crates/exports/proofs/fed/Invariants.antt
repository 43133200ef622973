use Rattle.std.specs.Slice.Iter.{chunks_rest}
use Rattle.exports.proofs.Pieces.{Fed}
use Rattle.exports.proofs.fed.Given as goal

abbrev pub invariant-loop-piece : goal.invariant-loop-piece
invariant-loop-piece l = Fed l.fn.bytes (chunks_rest l.piece-iterator) l.c
