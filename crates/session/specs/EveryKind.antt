-- R16.6: a session whose output has a line of every kind, byte for byte, and what the script gives for it.
--
--   every_requests   puts, sets, look, takes, lags, restarts, and a field whose tag is unknown
--   every_session    the setup of the first session, and these
--   every_output     its lines: each kind, lag above, below and at zero, `no` without a place and with one
--   EveryKind       the script gives just these lines
--
-- Assumes nothing.
use Rattle.std.specs.Prelude.{ℕ, List, [], ◌∷◌, ◌++◌}
use Rattle.std.proofs.Math.Option.{some}
use Rattle.plan.specs.Examples.{session_setup}
use Rattle.walk.specs.Script.{refusal, script}
use Rattle.session.specs.Examples.{put_first, put_second, put_third, sets_field, take_field, lanes_two, put_ok_line, sets_line, take_first, take_third, take_second}
use Rattle.session.specs.Computed.{RunShows}

-- ---- the fields

-- look: 22 0000
abbrev pub look_field : List ℕ
look_field = 34 ∷ 0 ∷ 0 ∷ []

-- lag 0: 24 0001 00
abbrev pub lag_zero : List ℕ
lag_zero = 36 ∷ 0 ∷ 1 ∷ 0 ∷ []

-- lag 1: 24 0001 01
abbrev pub lag_one : List ℕ
lag_one = 36 ∷ 0 ∷ 1 ∷ 1 ∷ []

-- restart: 25 0000
abbrev pub restart_field : List ℕ
restart_field = 37 ∷ 0 ∷ 0 ∷ []

-- put 0/4/100: 20 0007 00 00000004 0064
abbrev pub put_fourth : List ℕ
put_fourth = 32 ∷ 0 ∷ 7 ∷ 0 ∷ 0 ∷ 0 ∷ 0 ∷ 4 ∷ 0 ∷ 100 ∷ []

-- a field that no request has: 30 0000
abbrev pub unknown_field : List ℕ
unknown_field = 48 ∷ 0 ∷ 0 ∷ []

abbrev pub every_requests : List ℕ
every_requests =
    put_first ++ put_second ++ put_third ++ sets_field ++ look_field ++ take_field ++ lag_one ++ take_field ++ take_field ++ put_fourth ++ lag_zero
    ++ restart_field ++ take_field ++ restart_field ++ lag_zero ++ unknown_field

abbrev pub every_session : List ℕ
every_session = session_setup ++ every_requests

-- ---- the lines

-- "look 0 1 1000"
abbrev pub look_first : List ℕ
look_first = 108 ∷ 111 ∷ 111 ∷ 107 ∷ 32 ∷ 48 ∷ 32 ∷ 49 ∷ 32 ∷ 49 ∷ 48 ∷ 48 ∷ 48 ∷ 10 ∷ []

-- "lag 1024000"
abbrev pub lag_above : List ℕ
lag_above = 108 ∷ 97 ∷ 103 ∷ 32 ∷ 49 ∷ 48 ∷ 50 ∷ 52 ∷ 48 ∷ 48 ∷ 48 ∷ 10 ∷ []

-- "lag -512000"
abbrev pub lag_below : List ℕ
lag_below = 108 ∷ 97 ∷ 103 ∷ 32 ∷ 45 ∷ 53 ∷ 49 ∷ 50 ∷ 48 ∷ 48 ∷ 48 ∷ 10 ∷ []

-- "no 15"
abbrev pub no_fifteen : List ℕ
no_fifteen = 110 ∷ 111 ∷ 32 ∷ 49 ∷ 53 ∷ 10 ∷ []

-- "take 0 4 100"
abbrev pub take_fourth : List ℕ
take_fourth = 116 ∷ 97 ∷ 107 ∷ 101 ∷ 32 ∷ 48 ∷ 32 ∷ 52 ∷ 32 ∷ 49 ∷ 48 ∷ 48 ∷ 10 ∷ []

-- "restart ok"
abbrev pub restart_line : List ℕ
restart_line = 114 ∷ 101 ∷ 115 ∷ 116 ∷ 97 ∷ 114 ∷ 116 ∷ 32 ∷ 111 ∷ 107 ∷ 10 ∷ []

-- "lag 0"
abbrev pub lag_nought : List ℕ
lag_nought = 108 ∷ 97 ∷ 103 ∷ 32 ∷ 48 ∷ 10 ∷ []

-- "no 2 100"
abbrev pub no_two : List ℕ
no_two = 110 ∷ 111 ∷ 32 ∷ 50 ∷ 32 ∷ 49 ∷ 48 ∷ 48 ∷ 10 ∷ []

-- "end 15"
abbrev pub end_fifteen : List ℕ
end_fifteen = 101 ∷ 110 ∷ 100 ∷ 32 ∷ 49 ∷ 53 ∷ 10 ∷ []

abbrev pub every_output : List ℕ
every_output =
    lanes_two ++ put_ok_line 0 ++ put_ok_line 0 ++ put_ok_line 1 ++ sets_line ++ look_first ++ take_first ++ lag_above ++ take_third ++ take_second ++ put_ok_line 0 ++ lag_below
    ++ no_fifteen ++ take_fourth ++ restart_line ++ lag_nought ++ no_two ++ end_fifteen

-- 15 requests are answered; the sixteenth field, at byte 100, is refused by 2
unfoldable pub EveryKind : Type 0
EveryKind = RunShows (script every_session 1000) every_output 15 (refusal 2 (some 100))
