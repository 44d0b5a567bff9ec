-- R16.6: a session at a junction, byte for byte, and what the script gives for it: lane 0 is shared by trains, lane 1 is not.
--
--   junction_setup      the setup: lane 0 with the weight 512, shared; lane 1 with the weight 256; each with a longest of 100
--   junction_requests   puts of trains 5, 0 and 2, refused ones, looks and takes; then a train's queue that fills
--   junction_output     its lines: each of lane 0 ends with the train, that of lane 1 does not
--   Junction           the script gives just these lines
--
-- Assumes nothing.
use Rattle.std.specs.Prelude.{ℕ, ◌+◌, List, [], ◌∷◌, ◌++◌}
use Rattle.plan.specs.Examples.{format_field, end_field}
use Rattle.lines.specs.Line.{take_word, look_word, no_word}
use Rattle.walk.specs.Script.{at_end, script}
use Rattle.session.specs.Examples.{take_field, lanes_two, put_ok_line, no_sixteen}
use Rattle.session.specs.Computed.{RunShows}
use Rattle.session.specs.EveryKind.{look_field}

-- ---- the fields

-- 10 0005 00 0200 0064, 12 0001 00, 10 0005 01 0100 0064
abbrev pub junction_setup : List ℕ
junction_setup = format_field ++ (16 ∷ 0 ∷ 5 ∷ 0 ∷ 2 ∷ 0 ∷ 0 ∷ 100 ∷ 18 ∷ 0 ∷ 1 ∷ 0 ∷ 16 ∷ 0 ∷ 5 ∷ 1 ∷ 1 ∷ 0 ∷ 0 ∷ 100 ∷ []) ++ end_field

-- put of lane j, mark m and length n, each below 256: 20 0007 .., of train 0
abbrev pub put_field : ℕ → ℕ → ℕ → List ℕ
put_field j m n = 32 ∷ 0 ∷ 7 ∷ j ∷ 0 ∷ 0 ∷ 0 ∷ m ∷ 0 ∷ n ∷ []

-- put of lane j and train t: 26 0008 ..
abbrev pub put_train_field : ℕ → ℕ → ℕ → ℕ → List ℕ
put_train_field j t m n = 38 ∷ 0 ∷ 8 ∷ j ∷ t ∷ 0 ∷ 0 ∷ 0 ∷ m ∷ 0 ∷ n ∷ []

-- three trains wait in lane 0, and a record of lane 1
abbrev pub junction_puts : List ℕ
junction_puts = put_train_field 0 5 1 100 ++ put_train_field 0 5 2 100 ++ put_field 0 3 60 ++ put_field 0 4 60 ++ put_train_field 0 2 5 80 ++ put_field 1 6 100

-- a train that the lane does not know, which goes before the length 0; one that it knows, with that length
abbrev pub junction_refused : List ℕ
junction_refused = put_train_field 1 1 7 0 ++ put_train_field 0 8 7 0 ++ put_train_field 0 7 7 0

abbrev pub junction_takes : List ℕ
junction_takes = look_field ++ take_field ++ take_field ++ take_field ++ take_field ++ take_field ++ look_field ++ take_field ++ take_field

-- train 3's queue is full at 8; train 0 has room
abbrev pub junction_full : List ℕ
junction_full =
    put_train_field 0 3 8 10 ++ put_train_field 0 3 8 10 ++ put_train_field 0 3 8 10 ++ put_train_field 0 3 8 10 ++ put_train_field 0 3 8 10 ++ put_train_field 0 3 8 10 ++ put_train_field 0 3 8 10
    ++ put_train_field 0 3 8 10 ++ put_train_field 0 3 8 10 ++ put_field 0 9 10

abbrev pub junction_session : List ℕ
junction_session = junction_setup ++ junction_puts ++ junction_refused ++ junction_takes ++ junction_full ++ end_field

-- ---- the lines

-- a number behind its space: of one digit, of a digit and 0, and 100
abbrev pub one : ℕ → List ℕ
one n = 32 ∷ (48 + n) ∷ []

abbrev pub tens : ℕ → List ℕ
tens n = 32 ∷ (48 + n) ∷ 48 ∷ []

abbrev pub hundred : List ℕ
hundred = 32 ∷ 49 ∷ 48 ∷ 48 ∷ []

abbrev pub feed : List ℕ
feed = 10 ∷ []

-- "no 70", "no 12", "no 71"
abbrev pub no_seventy : List ℕ
no_seventy = no_word ++ tens 7 ++ feed

abbrev pub no_twelve : List ℕ
no_twelve = no_word ++ (32 ∷ 49 ∷ 50 ∷ []) ++ feed

abbrev pub no_seventy_one : List ℕ
no_seventy_one = no_word ++ (32 ∷ 55 ∷ 49 ∷ []) ++ feed

-- "end 28"
abbrev pub end_twenty_eight : List ℕ
end_twenty_eight = 101 ∷ 110 ∷ 100 ∷ 32 ∷ 50 ∷ 56 ∷ 10 ∷ []

-- Train 5's turn begins with the first put; its 100 bytes cover its first record and leave nothing, so it goes behind trains 0 and 2. Train 0 sends 60 and
-- keeps 40, which does not cover its next 60. Lane 0 is then ahead of the clock, and lane 1 is served. Train 2 empties; train 5 sends its second record;
-- train 0 comes last, with 140.
abbrev pub junction_sent : List ℕ
junction_sent =
    (look_word ++ one 0 ++ one 1 ++ hundred ++ one 5 ++ feed) ++ (take_word ++ one 0 ++ one 1 ++ hundred ++ one 5 ++ feed)
    ++ (take_word ++ one 0 ++ one 3 ++ tens 6 ++ one 0 ++ feed) ++ (take_word ++ one 1 ++ one 6 ++ hundred ++ feed)
    ++ (take_word ++ one 0 ++ one 5 ++ tens 8 ++ one 2 ++ feed) ++ (take_word ++ one 0 ++ one 2 ++ hundred ++ one 5 ++ feed)
    ++ (look_word ++ one 0 ++ one 4 ++ tens 6 ++ one 0 ++ feed) ++ (take_word ++ one 0 ++ one 4 ++ tens 6 ++ one 0 ++ feed) ++ no_sixteen

abbrev pub junction_output : List ℕ
junction_output =
    lanes_two ++ put_ok_line 0 ++ put_ok_line 1 ++ put_ok_line 0 ++ put_ok_line 1 ++ put_ok_line 0 ++ put_ok_line 0 ++ no_seventy ++ no_seventy ++ no_twelve ++ junction_sent
    ++ put_ok_line 0 ++ put_ok_line 1 ++ put_ok_line 2 ++ put_ok_line 3 ++ put_ok_line 4 ++ put_ok_line 5 ++ put_ok_line 6 ++ put_ok_line 7 ++ no_seventy_one ++ put_ok_line 0 ++ end_twenty_eight

unfoldable pub Junction : Type 0
Junction = RunShows (script junction_session 1000) junction_output 28 at_end
