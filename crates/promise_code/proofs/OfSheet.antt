-- What is read from a sheet has the places that its type gives it, so demand 3 asks nothing more of it. Assumes nothing.
use Rattle.rules.specs.Runs.{Demand3}
use Rattle.rules.specs.Sheet.{read_of}
use Rattle.sheet_write.specs.Answers.{ReadPlaced}
use Rattle.sheet_write.proofs.Rounds.{read_placed}
use Rattle.promise_demand3.proofs.Promise.{accepted_valid, demand_3}
use Rattle.promise_code.specs.Promised.{sheet_start, Demand3OfSheet}

pub demand_3_of_sheet : Demand3OfSheet
unfolding Demand3OfSheet Demand3 ReadPlaced
demand_3_of_sheet sheet owners places long few v calls keeps =
    demand_3 (sheet_start sheet owners places)
    (record { boxed = record { set = read_placed sheet; owners = long }; valid_set = accepted_valid (read_of sheet).set v; few = few })
    v calls keeps
