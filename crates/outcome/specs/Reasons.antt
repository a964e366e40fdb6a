-- The numbers of the refusals (01, "Who can cause a refusal"; 02, changes 2, 6 and 7), each under its reason.
use Rattle.std.specs.Prelude.{ℕ}
use Rattle.outcome.specs.declared.Reason.{Reason}
use Rattle.outcome.specs.declared.Reason.TheVariants as reason

abbrev pub number_of : Reason → ℕ
number_of reason.Length = 1
number_of reason.BlockCheck = 2
number_of reason.BlockNumber = 3
number_of reason.FixedByte = 4
number_of reason.Limits = 5
number_of reason.Age = 6
number_of reason.Year = 7
number_of reason.Deferment = 8
number_of reason.Improvement = 9
number_of reason.Factor = 10
number_of reason.Room = 11
number_of reason.Line = 12
number_of reason.HistoryLength = 13
number_of reason.RollFull = 14
number_of reason.NotOnRoll = 15
number_of reason.OnRoll = 16
number_of reason.PartPerCent = 17
