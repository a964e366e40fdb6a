-- The running total: after each call on a roll that was opened and changed by its calls alone, it is the sum for those who joined and have
-- not left. Assumes nothing.
use Rattle.std.proofs.Common.{ℕ, List, [], pos, ap, arith}
use Rattle.outcome.specs.Outcome.{value}
use Rattle.roll.specs.Roll.{Member, members_after}
use Rattle.roll.specs.Kept.{opened, roll_after}
use Rattle.roll.specs.Totals.{Stands, RunningTotal}
use Rattle.roll.proofs.Cases.{room-passes}
use Rattle.roll.proofs.Holds.{Holds, total-small, holds_opened, holds-count, holds-freed, holds-total, agree-by, agree-says, holds_after}

stands-so : (year : ℕ) (roll : List ℕ) (members : List Member) → Holds year roll members → Stands year roll members
stands-so year roll members h =
    let c = holds-count year roll members h in
    record {
      total = rw (room-passes roll h.room) (ap (λ n. value (pos n)) (holds-total year roll members h));
      says = λ call. agree-says year (agree-by year roll members h call);
      valuation_year = h.in-year;
      numbers = h.areas 0 (omega arith);
      ages = h.areas 1 (omega arith);
      pensions = h.areas 2 (omega arith);
      liabilities = h.areas 3 (omega arith);
      freed = holds-freed year roll members h;
      count = omega arith;
      fits = total-small members h.small;
    }

pub running-total : RunningTotal
running-total =
    record {
      stands = λ year lent calls small room.
          rw (room-passes lent room)
          (stands-so year (roll_after (opened year lent) calls) (members_after year [] calls)
          (holds_after year (opened year lent) [] calls (holds_opened year lent small room)));
    }
