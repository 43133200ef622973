use Rattle.state_formed.proofs.Pass.{Pass}
use Rattle.state_formed.proofs.messages_pass.Given as goal

abbrev pub invariant-loop-m : goal.invariant-loop-m
invariant-loop-m l = Pass l.set l.clock l.pending l.m-index l.before l.started
