-- The board (R11.1): 64 lines, each free or the last accepted record of a train.
--
--   Handover            a handover record: train, cell, kind and sequence
--   Board               the lines by number; a free one is `none`
--   first_where          where a test first passes in a list; the list's length where it does not
--   is_of, is_free        the tests of a line: it is of a train; it is free
--   train_line, lowest   the line of a train; the lowest free line. 64 where there is none
--   Fine                the numbers that a line can hold
--   Makeable            R11.2: the boards that the rules can make
--
-- Assumes nothing.
use Rattle.std.specs.Prelude.{ℕ, suc, ◌^◌, ◌≤◌, ◌<◌, ◌≡◌, Bool, true, false, ◌⊎◌, List, [], ◌∷◌, eqb, length, get_or, replicate, if◌then◌else◌}
use Rattle.std.proofs.Math.Option.{Option, none, some}

-- a handover record; kind 1: its train joined the cell, 2: it left
pub record Handover : Type 0 where
  pub train : ℕ
  pub cell : ℕ
  pub kind : ℕ
  pub sequence : ℕ

abbrev pub Board : Type 0
Board = List (Option Handover)

-- a line for each of at most 64 trains
abbrev pub empty_board : Board
empty_board = replicate 64 none

-- R11.13
abbrev pub line_at : Board → ℕ → Option Handover
line_at b k = get_or b k none

unfoldable pub first_where : {A : Type 0} → (A → Bool) → List A → ℕ
first_where p [] = 0
first_where p (x ∷ xs) = if p x then 0 else suc (first_where p xs)

abbrev pub is_of : ℕ → Option Handover → Bool
is_of t none = false
is_of t (some r) = eqb r.train t

abbrev pub is_free : Option Handover → Bool
is_free none = true
is_free (some r) = false

abbrev pub train_line : ℕ → Board → ℕ
train_line t b = first_where (is_of t) b

-- the line for a new train
abbrev pub lowest : Board → ℕ
lowest b = first_where is_free b

-- what the board shows of a train
abbrev pub train_shown : ℕ → Board → Option Handover
train_shown t b = line_at b (train_line t b)

-- the numbers that a field can carry, with a kind that is known
pub record InField (r : Handover) : Type 0 where
  pub train : r.train < 2 ^ 32
  pub cell : r.cell < 2 ^ 16
  pub kind : r.kind < 2 ^ 8
  pub sequence : r.sequence < 2 ^ 32

-- R11.2: a first record is a join, so a leave always comes one after a join, and its sequence is 1 or more
pub record Fine (r : Handover) : Type 0 where
  pub carried : InField r
  pub kind : (r.kind ≡ 1) ⊎ ((r.kind ≡ 2) × (1 ≤ r.sequence))

pub record Makeable (b : Board) : Type 0 where
  pub size : length b ≡ 64
  pub fine : (k : ℕ) (r : Handover) → line_at b k ≡ some r → Fine r
  -- no train on two lines
  pub once : (j k t : ℕ) → is_of t (line_at b j) ≡ true → is_of t (line_at b k) ≡ true → j ≡ k
