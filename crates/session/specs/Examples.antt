-- The first session of docs/RULES.md, R16, byte for byte, and its output (R16.3).
--
--   requests   its requests: put 0/1/1000, put 1/2/1000, put 0/3/500, sets, four takes
--   session    the whole session: the setup, these requests, the end field
--   output     its ten lines
--
-- Assumes nothing.
use Rattle.std.specs.Prelude.{ℕ, ◌+◌, List, [], ◌∷◌, ◌++◌}
use Rattle.plan.specs.Examples.{session_setup, end_field}

-- put 0/1/1000: 20 0007 00 00000001 03E8
abbrev pub put_first : List ℕ
put_first = 32 ∷ 0 ∷ 7 ∷ 0 ∷ 0 ∷ 0 ∷ 0 ∷ 1 ∷ 3 ∷ 232 ∷ []

-- put 1/2/1000: 20 0007 01 00000002 03E8
abbrev pub put_second : List ℕ
put_second = 32 ∷ 0 ∷ 7 ∷ 1 ∷ 0 ∷ 0 ∷ 0 ∷ 2 ∷ 3 ∷ 232 ∷ []

-- put 0/3/500: 20 0007 00 00000003 01F4
abbrev pub put_third : List ℕ
put_third = 32 ∷ 0 ∷ 7 ∷ 0 ∷ 0 ∷ 0 ∷ 0 ∷ 3 ∷ 1 ∷ 244 ∷ []

-- sets: 23 0000
abbrev pub sets_field : List ℕ
sets_field = 35 ∷ 0 ∷ 0 ∷ []

-- take: 21 0000
abbrev pub take_field : List ℕ
take_field = 33 ∷ 0 ∷ 0 ∷ []

abbrev pub requests : List ℕ
requests = put_first ++ put_second ++ put_third ++ sets_field ++ take_field ++ take_field ++ take_field ++ take_field

abbrev pub session : List ℕ
session = session_setup ++ requests ++ end_field

-- "lanes 2"
abbrev pub lanes_two : List ℕ
lanes_two = 108 ∷ 97 ∷ 110 ∷ 101 ∷ 115 ∷ 32 ∷ 50 ∷ 10 ∷ []

-- "put ok N", N of one digit
abbrev pub put_ok_line : ℕ → List ℕ
put_ok_line n = 112 ∷ 117 ∷ 116 ∷ 32 ∷ 111 ∷ 107 ∷ 32 ∷ (48 + n) ∷ 10 ∷ []

-- "sets 12582912 0 0 0"
abbrev pub sets_line : List ℕ
sets_line = 115 ∷ 101 ∷ 116 ∷ 115 ∷ 32 ∷ 49 ∷ 50 ∷ 53 ∷ 56 ∷ 50 ∷ 57 ∷ 49 ∷ 50 ∷ 32 ∷ 48 ∷ 32 ∷ 48 ∷ 32 ∷ 48 ∷ 10 ∷ []

-- "take 0 1 1000"
abbrev pub take_first : List ℕ
take_first = 116 ∷ 97 ∷ 107 ∷ 101 ∷ 32 ∷ 48 ∷ 32 ∷ 49 ∷ 32 ∷ 49 ∷ 48 ∷ 48 ∷ 48 ∷ 10 ∷ []

-- "take 0 3 500"
abbrev pub take_third : List ℕ
take_third = 116 ∷ 97 ∷ 107 ∷ 101 ∷ 32 ∷ 48 ∷ 32 ∷ 51 ∷ 32 ∷ 53 ∷ 48 ∷ 48 ∷ 10 ∷ []

-- "take 1 2 1000"
abbrev pub take_second : List ℕ
take_second = 116 ∷ 97 ∷ 107 ∷ 101 ∷ 32 ∷ 49 ∷ 32 ∷ 50 ∷ 32 ∷ 49 ∷ 48 ∷ 48 ∷ 48 ∷ 10 ∷ []

-- "no 16"
abbrev pub no_sixteen : List ℕ
no_sixteen = 110 ∷ 111 ∷ 32 ∷ 49 ∷ 54 ∷ 10 ∷ []

-- "end 8"
abbrev pub end_eight : List ℕ
end_eight = 101 ∷ 110 ∷ 100 ∷ 32 ∷ 56 ∷ 10 ∷ []

-- "end 0"
abbrev pub end_none : List ℕ
end_none = 101 ∷ 110 ∷ 100 ∷ 32 ∷ 48 ∷ 10 ∷ []

abbrev pub output : List ℕ
output = lanes_two ++ put_ok_line 0 ++ put_ok_line 0 ++ put_ok_line 1 ++ sets_line ++ take_first ++ take_third ++ take_second ++ no_sixteen ++ end_eight
