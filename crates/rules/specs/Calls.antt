-- The calls (docs/RULES.md, R3): what each answers, and the state after it.
--
--   Call, Reply, Outcome   a call with its arguments; its answer by number and value; the answer and the state after it
--   do_put .. do_restart     the six calls
--   fresh                  the fresh state of a setup
--   step                   any call
--
-- A refused call leaves the state as it is. Assumes nothing.
use Rattle.std.specs.Prelude.{ℕ, ◌+◌, ◌-◌, ◌*◌, max, not, ◌&&◌, ◌||◌, List, [], ◌∷◌, ◌++◌, map, leb, ltb, ℤ, length, set, if◌then◌else◌}
use Rattle.std.proofs.Math.Option.{Option, none, some}
use Rattle.std.proofs.Math.IntN.{sub_ℕ}
use Rattle.units.specs.Numbers.{line_rate, round_down}
use Rattle.units.specs.Plain.{without}
use Rattle.waiting.specs.Waiting.{Waiting, none_waiting, first, enter, hand_out, queue_of, full, known}
use Rattle.rules.specs.State.{clock_far, clock_step, clock_kept, Rec, Setting, Lane, State, charge, rate, start_r, first_of, holds, lane_at, setup_of, any_holds}
use Rattle.rules.specs.Choice.{Candidate, choose, least_of}
use Rattle.rules.specs.Sets.{ready, ineligible_ready, eligible_blocked, ineligible_blocked, set_word}

pub data Call : Type 0 where
  put : ℕ → ℕ → ℕ → ℕ → Call
  take look sets : Call
  lag : ℕ → Call
  restart : Call

-- R3.23: how many records of its train an accepted one found before it; lane, train, mark and length of a record; the four words; a refusal's number, and its
-- place where R14 has one
pub data Reply : Type 0 where
  accepted : ℕ → Reply
  taken seen : ℕ → ℕ → ℕ → ℕ → Reply
  words : ℕ → ℕ → ℕ → ℕ → Reply
  lagged : ℤ → Reply
  restarted : Reply
  refused : ℕ → Option ℕ → Reply

pub record Outcome : Type 0 where
  pub reply : Reply
  pub state : State

-- the calls' own refusals, 10 to 16, 70 and 71, have no place
abbrev pub no : ℕ → State → Outcome
no n s = record { reply = refused n none; state = s }

-- ---- put

-- R3.4, R14.23 to R14.25, R14.45, R14.46. By the lane alone, of its setting and what waits in it: 11 lane not in the setup, 70 a train that the lane does not
-- know, 12 a bare length (R1.6) of 0 or over the lane's longest, then no room: 71 in the train's queue of a shared lane, 13 in a lane that is not shared.
abbrev pub lane_refusal : Setting → Waiting → Rec → Option ℕ
lane_refusal g w r =
    if ltb g.weight 1 then some 11
    else if not (known w r.train) then some 70
    else if ltb r.len 1 || ltb g.longest r.len then some 12
    else if full w r.train then some (if g.shared then 71 else 13)
    else none

-- R3.4, R14.40
unfoldable pub put_refusal : State → ℕ → Rec → Option ℕ
put_refusal s j r = lane_refusal (lane_at s j).given (lane_at s j).waiting r

-- A put that is not refused and finds the clock far on takes it back first: K less in V and in each S and F. A difference of whole numbers is 0 where it
-- would be below 0, which is what R5.2 asks for an idle lane's F; no other number of a good state is below K (specs/TakeBack.antt).

-- R5.1: K, as much as leaves 2^33 of V or more, in whole steps of 2^31
unfoldable pub taken_off : ℕ → ℕ
taken_off v = round_down clock_step (v - clock_kept)

-- R5.2
unfoldable pub lowered : ℕ → Lane → Lane
lowered d l = record { given = l.given; start = l.start - d; finish = l.finish - d; waiting = l.waiting }

-- R5.2
unfoldable pub lower_all : ℕ → State → State
lower_all d s = record { clock = s.clock - d; lanes = map (lowered d) s.lanes; order = s.order }

-- R3.5, R5.1: the clock far on is taken back, any other stays
unfoldable pub shifted : State → State
shifted s = if leb clock_far s.clock then lower_all (taken_off s.clock) s else s

-- what waits in a lane that a record was put to
abbrev pub entered : Lane → Rec → Waiting
entered l r = enter l.given.longest l.waiting r

-- R3.6: a put to a holding lane leaves S and F
unfoldable pub appended : Lane → Rec → Lane
appended l r = record { given = l.given; start = l.start; finish = l.finish; waiting = entered l r }

-- R3.7: an idle lane begins at its F or at V, whichever is later, and ends a charge further on.
unfoldable pub woken : ℕ → Lane → Rec → Lane
woken v l r =
    let s = max l.finish v in
    record { given = l.given; start = s; finish = s + charge l.given r.len * rate l.given; waiting = entered l r }

-- R3.6, R3.8: where nothing was held, V goes up to the new R. R2.7: a lane that gets an S goes to the end of the tie order.
unfoldable pub accept : State → ℕ → Rec → State
accept s j r =
    let l = lane_at s j in
    if holds l then record { clock = s.clock; lanes = set s.lanes j (appended l r); order = s.order }
    else
    (let l' = woken s.clock l r in
    record {
      clock = if not (any_holds s.lanes) && ltb s.clock (start_r l') then start_r l' else s.clock;
      lanes = set s.lanes j l';
      order = s.order ++ (j ∷ []);
    })

-- R3.9, what an accepted put answers: how many records of its train the lane held before it
abbrev pub ahead : State → ℕ → ℕ → ℕ
ahead s j t = length (queue_of (lane_at s j).waiting t)

-- R3.5, R3.9
unfoldable pub put_of : State → ℕ → Rec → Option ℕ → Outcome
put_of s j r (some n) = no n s
put_of s j r none = record { reply = accepted (ahead s j r.train); state = accept (shifted s) j r }

-- R3.4
unfoldable pub do_put : State → ℕ → Rec → Outcome
do_put s j r = put_of s j r (put_refusal s j r)

-- ---- take and look

-- R3.13: a lane that finished at x goes on from x if it has a first record still, and idle it keeps x. R2.3: 0 stands for the S that it does not have.
unfoldable pub timed : Setting → ℕ → Waiting → Option Rec → Lane
timed g x w none = record { given = g; start = 0; finish = x; waiting = w }
timed g x w (some r) = record { given = g; start = x; finish = x + charge g r.len * rate g; waiting = w }

-- what waits in a lane whose first record is handed out
abbrev pub behind : Lane → Waiting
behind l = hand_out l.given.longest l.waiting

-- R3.11, R3.13
unfoldable pub served : Lane → Lane
served l = timed l.given l.finish (behind l) (first (behind l))

-- R3.14: V goes up to the least R of the lanes that hold records, where there is one and V has not reached it.
unfoldable pub settled_at : ℕ → Option ℕ → ℕ
settled_at v none = v
settled_at v (some r) = if ltb v r then r else v

-- R3.14
unfoldable pub settled : ℕ → List Lane → ℕ
settled v ls = settled_at v (least_of holds ls)

-- Lane j's first record r is handed out. R3.12: V moves on by what it costs the line (figures: R16.13). R2.7: a lane that still holds gets a new S, also where
-- R is the same, and so goes to the end of the tie order.
unfoldable pub serve : State → ℕ → Rec → State
serve s j r =
    let ls = set s.lanes j (served (lane_at s j)) in
    record {
      clock = settled (s.clock + line_rate * charge (lane_at s j).given r.len) ls;
      lanes = ls;
      order = without j s.order ++ (if holds (served (lane_at s j)) then j ∷ [] else []);
    }

-- the chosen lane's number and its first record
pub record Pick : Type 0 where
  pub lane : ℕ
  pub first : Rec

unfoldable pub pick_first : ℕ → Option Rec → Option Pick
pick_first j none = none
pick_first j (some r) = some (record { lane = j; first = r })

unfoldable pub pick_of : State → Option Candidate → Option Pick
pick_of s none = none
pick_of s (some c) = pick_first c.lane (first_of (lane_at s c.lane))

-- R3.11
unfoldable pub picked : State → Option Pick
picked s = pick_of s (choose s)

-- R3.11: the chosen lane's first record leaves it, told by its bare length (R1.6); R14.27: 16 with nothing held
unfoldable pub take_of : State → Option Pick → Outcome
take_of s none = no 16 s
take_of s (some p) = record { reply = taken p.lane p.first.train p.first.mark p.first.len; state = serve s p.lane p.first }

-- R3.15
unfoldable pub do_take : State → Outcome
do_take s = take_of s (picked s)

-- R3.16, R14.27: the answer of a take, and the state as it was
unfoldable pub look_of : State → Option Pick → Outcome
look_of s none = no 16 s
look_of s (some p) = record { reply = seen p.lane p.first.train p.first.mark p.first.len; state = s }

-- R3.16
unfoldable pub do_look : State → Outcome
do_look s = look_of s (picked s)

-- ---- sets, lag, restart

-- R3.17
unfoldable pub do_sets : State → Outcome
do_sets s = record { reply = words (set_word ready s) (set_word ineligible_ready s) (set_word eligible_blocked s) (set_word ineligible_blocked s); state = s }

-- R3.18, with its sign: how far V is past the S that a lane has or, if idle, would be given now (R16.13 has figures)
unfoldable pub lag_of : ℕ → Lane → ℤ
lag_of v l = sub_ℕ v (if holds l then l.start else max l.finish v)

-- R3.18, R14.23
unfoldable pub do_lag : State → ℕ → Outcome
do_lag s j =
    let l = lane_at s j in
    if ltb l.given.weight 1 then no 11 s else record { reply = lagged (lag_of s.clock l); state = s }

-- R2.3, R2.4
unfoldable pub idle : Setting → Lane
idle g = record { given = g; start = 0; finish = 0; waiting = none_waiting g.shared }

-- R2.4
unfoldable pub fresh : List Setting → State
fresh gs = record { clock = 0; lanes = map idle gs; order = [] }

-- R3.19: the fresh state of its own setup; R14.26: 15 while a lane holds
unfoldable pub do_restart : State → Outcome
do_restart s = if any_holds s.lanes then no 15 s else record { reply = restarted; state = fresh (setup_of s) }

-- ---- any call

-- R3.1, R14.40; a request of a session is judged here alone (R10.3)
unfoldable pub step : State → Call → Outcome
step s (put j k m n) = do_put s j (record { train = k; mark = m; len = n })
step s take = do_take s
step s look = do_look s
step s sets = do_sets s
step s (lag j) = do_lag s j
step s restart = do_restart s
