-- Worked examples of the rules, by computation. Assumes nothing.
use Prim.Native.Nat.{ℕ}
use mathlib.Core.Path.{◌≡◌, refl}
use mathlib.Core.List.{[], ◌∷◌}
use mathlib.Core.Option.{some}
use Rattle.desk.specs.Board.{Handover, empty_board, first_where, line_at}
use Rattle.desk.specs.Calls.{enter_record, clear, told, board_refused, record_refusal, target, board_step, board_after}

abbrev rec : ℕ → ℕ → ℕ → ℕ → Handover
rec t c k s = record { train = t; cell = c; kind = k; sequence = s }

-- R11.9: a leave is no first record, whatever its sequence
first-leave : (board_step empty_board (enter_record (rec 5 1 2 7))).reply ≡ board_refused 33
unfolding board_step record_refusal target first_where
first-leave = refl

first-join : (board_step empty_board (enter_record (rec 5 1 1 7))).reply ≡ told 0
unfolding board_step record_refusal target first_where
first-join = refl

-- 30 goes before 33, 32 before 33
kind-first : (board_step empty_board (enter_record (rec 5 1 3 7))).reply ≡ board_refused 30
unfolding board_step record_refusal target first_where
kind-first = refl

turn-first : (board_step (board_after empty_board (enter_record (rec 5 1 1 7) ∷ [])) (enter_record (rec 5 1 1 9))).reply ≡ board_refused 32
unfolding board_step record_refusal target first_where board_after
turn-first = refl

-- a leave of another cell
other-cell : (board_step (board_after empty_board (enter_record (rec 5 1 1 7) ∷ [])) (enter_record (rec 5 2 2 8))).reply ≡ board_refused 33
unfolding board_step record_refusal target first_where board_after
other-cell = refl

-- nothing follows the greatest sequence
last-sequence : (board_step (board_after empty_board (enter_record (rec 5 1 1 4294967295) ∷ [])) (enter_record (rec 5 1 2 4294967296))).reply ≡ board_refused 32
unfolding board_step record_refusal target first_where board_after
last-sequence = refl

-- R11.12: no clear of a train that is joined; after a leave its line is free, for the next train that has none
still-joined : (board_step (board_after empty_board (enter_record (rec 5 1 1 7) ∷ [])) (clear 5)).reply ≡ board_refused 34
unfolding board_step record_refusal target first_where board_after
still-joined = refl

lowest-free : line_at (board_after empty_board (enter_record (rec 5 1 1 7) ∷ enter_record (rec 6 1 1 0) ∷ enter_record (rec 5 1 2 8) ∷ clear 5 ∷ enter_record (rec 9 4 1 3) ∷ [])) 0 ≡ some (rec 9 4 1 3)
unfolding board_step record_refusal target first_where board_after
lowest-free = refl
