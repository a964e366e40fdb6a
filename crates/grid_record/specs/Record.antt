-- A record of the grid (01, "a lent list of 119 point records"): a question, and its answer in place of what the record held.
use Rattle.basis.specs.Basis.{Basis}
use Rattle.question.specs.declared.Question.{Question}
use Rattle.model_points.specs.declared.PointAnswer.{PointAnswer}
use Rattle.model_points.specs.Point.{point_of}
use Rattle.grid_record.specs.declared.Point.{Point}

abbrev pub question_of : Point → Question
question_of p = record { age = p.age; deferment = p.deferment; year = p.year }

-- the record with its question unchanged, and an answer in place of what it held
abbrev pub record_of : Point → PointAnswer → Point
record_of p a =
    record {
      age = p.age;
      deferment = p.deferment;
      year = p.year;
      refusal = a.refusal.number;
      results = a.results;
      first = a.refusal.first;
      second = a.refusal.second;
    }

-- its own four results with refusal and places 0, or refusal 6 to 10 with all four results 0
unfoldable pub answered_of : Basis → Point → Point
answered_of b p = record_of p (point_of b (question_of p))
