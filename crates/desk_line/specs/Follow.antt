-- A line that takes its train's next record (R11.11): the train stays, the rest is the record's.
use Rattle.std.specs.Prelude.{ℕ}
use Rattle.desk_line.specs.declared.Line.{Line}

abbrev pub follow : Line → ℕ → ℕ → ℕ → Line
follow l c k s = record { train = l.train; cell = c; kind = k; sequence = s }
