-- A handover record in a field.
--
--   rec_line      the record of a line by value
--   RecordRead   a line by value that holds the numbers of a whole field
--   Reading      what a field says: a record, or a refusal's number and place
--   read_record   R11.6: a field at the start of lent bytes
--
-- Assumes nothing.
use Rattle.std.specs.Prelude.{ℕ, ◌≡◌, not, List, eqb, leb, length, if◌then◌else◌}
use Rattle.std.proofs.Math.Option.{Option, some}
use Rattle.fields.specs.Bytes.{big}
use Rattle.fields.specs.Header.{header_at}
use Rattle.fields.specs.declared.Field.{Field}
use Rattle.fields.specs.declared.Field.TheVariants.{Nothing, Cut, Header}
use Rattle.desk.specs.Board.{Handover, InField}
use Rattle.desk_line.specs.declared.Line.{Line}

abbrev pub rec_line : Line → Handover
rec_line l = record { train = l.train; cell = l.cell; kind = l.kind; sequence = l.sequence }

-- R11.6: the eleven bytes of the value, behind the three of the header, each number high byte first
abbrev pub values_of : List ℕ → Handover
values_of s = record { train = big s 3 4; cell = big s 7 2; kind = big s 9 1; sequence = big s 10 4 }

pub record RecordRead (s : List ℕ) (l : Line) : Type 0 where
  pub is : rec_line l ≡ values_of s
  pub carried : InField (rec_line l)

pub data Reading : Type 0 where
  says : Handover → Reading
  faulty : ℕ → Option ℕ → Reading

-- R11.7, R14.29: 1 (header), 2, 3, 1 (value), as in every field. It stands first, so every place is 0; bytes behind it are not looked at.
abbrev pub read_header : List ℕ → Field → Reading
read_header s Nothing = faulty 1 (some 0)
read_header s Cut = faulty 1 (some 0)
read_header s (Header tag value n) =
    if not (eqb tag 48) then faulty 2 (some 0)
    else if not (eqb n 11) then faulty 3 (some 0)
    else if not (leb 14 (length s)) then faulty 1 (some 0)
    else says (values_of s)

unfoldable pub read_record : List ℕ → Reading
read_record s = read_header s (header_at s 0)
