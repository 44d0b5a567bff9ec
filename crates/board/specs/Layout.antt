-- A board in bytes (R11.3): 64 lines of two words.
--
--   board_size                 the fixed size of a board, in bytes
--   BoardRoom                 the bytes have room for a board
--   train_word, cell_word       the two words of a line
--   put_line                   the bytes with one line changed
--   Written                   a board is written in the bytes
--   ShowsBoard                the bytes show a board that the rules can make
--   handover_of, line_of_words   the line of a value; of two words
--   board_of                   the board that bytes mean
--   well_formed                two words are a line: the test of 29, for one line
--   NoBoard, TellsBoard       R11.4: the bytes show none; what the test of 29 says of bytes
--   Decided                   bytes show a board or none
--   Found                     where a test first passes on the lines below n; n where it passes on none
--   FoundFirst                the same of an answer: None where it passes on none, else a line below n
--   Parted                    whether a line's train stands on no line below
--   BitMarked, TrainOf        a word with one more bit set; the train of a line
--   SeenBelow, SeenHere       the bits of the trains that the test has passed: of all, and of one line's train
--
-- Assumes nothing.
use Rattle.std.specs.Prelude as core
use Rattle.std.specs.Prelude.{Some, None}
use Rattle.std.specs.Prelude.{ℕ, ◌+◌, ◌*◌, ◌/◌, ◌%◌, ◌≤◌, ◌<◌, ◌≡◌, Bool, true, false, ◌⊎◌, List, eqb, ltb, leb, length, get_or, if◌then◌else◌}
use Rattle.std.proofs.Math.Option.{Option, none, some}
use Rattle.words.specs.Runs.{tab}
use Rattle.words.specs.Bits.{bit}
use Rattle.words.specs.Words.{word_at, put_word}
use Rattle.desk.specs.Board.{Handover, Board, line_at, is_of, Makeable}
use Rattle.desk_line.specs.declared.Line.{Line}

-- R11.3, R13.7: 1,024
abbrev pub board_size : ℕ
board_size = 64 * 2 * 8

abbrev pub BoardRoom : List ℕ → Type 0
BoardRoom t = board_size ≤ length t

-- ---- the words of a line

abbrev pub train_word : Option Handover → ℕ
train_word none = 0
train_word (some r) = r.train + 4294967296 * r.sequence

abbrev pub cell_word : Option Handover → ℕ
cell_word none = 0
cell_word (some r) = r.cell + 65536 * r.kind

-- the bytes t with line k changed to x: its two words, and no other byte
abbrev pub put_line : List ℕ → ℕ → Option Handover → List ℕ
put_line t k x = put_word (put_word t (k * 2) (train_word x)) (k * 2 + 1) (cell_word x)

-- b is written in t, whether the rules can make it or not
pub record Written (t : List ℕ) (b : Board) : Type 0 where
  pub room : BoardRoom t
  pub size : length b ≡ 64
  pub trains : (k : ℕ) → k < 64 → word_at t (k * 2) ≡ train_word (line_at b k)
  pub cells : (k : ℕ) → k < 64 → word_at t (k * 2 + 1) ≡ cell_word (line_at b k)

-- by `ExactlyMade` of desk a makeable board is one that calls make from the empty board
pub record ShowsBoard (t : List ℕ) (b : Board) : Type 0 where
  pub room : BoardRoom t
  pub makeable : Makeable b
  pub trains : (k : ℕ) → k < 64 → word_at t (k * 2) ≡ train_word (line_at b k)
  pub cells : (k : ℕ) → k < 64 → word_at t (k * 2 + 1) ≡ cell_word (line_at b k)

-- ---- what bytes mean

abbrev pub handover_of : Line → Option Handover
handover_of l = if eqb l.kind 0 then none else some (record { train = l.train; cell = l.cell; kind = l.kind; sequence = l.sequence })

abbrev pub line_of_words : ℕ → ℕ → Option Handover
line_of_words a c =
    if eqb (c / 65536 % 256) 0 then none
    else some (record { train = a % 4294967296; cell = c % 65536; kind = c / 65536 % 256; sequence = a / 4294967296 })

unfoldable pub board_of : List ℕ → Board
board_of t = tab 64 (λ k. line_of_words (word_at t (k * 2)) (word_at t (k * 2 + 1)))

-- ---- the test of 29

unfoldable pub well_formed : ℕ → ℕ → Bool
well_formed a c =
    if eqb c 0 then eqb a 0
    else if ltb c 65536 then false
    else if ltb c 131072 then true
    else if ltb c 196608 then leb 4294967296 a
    else false

abbrev pub NoBoard : List ℕ → Type 0
NoBoard t = (b : Board) → ShowsBoard t b → ⊥

abbrev pub TellsBoard : Bool → List ℕ → Type 0
TellsBoard true t = ShowsBoard t (board_of t)
TellsBoard false t = NoBoard t

abbrev pub Decided : Type 0
Decided = (t : List ℕ) → ShowsBoard t (board_of t) ⊎ NoBoard t

-- the train of line k, where it has one, is on no line below; or it is
abbrev pub Parted : Bool → Board → ℕ → Type 0
Parted true b k = (j u : ℕ) → j < k → is_of u (line_at b j) ≡ true → is_of u (line_at b k) ≡ true → ⊥
Parted false b k = (j : ℕ) × (u : ℕ) × (j < k) × (is_of u (line_at b j) ≡ true) × (is_of u (line_at b k) ≡ true)

pub record Found (p : Option Handover → Bool) (b : Board) (n r : ℕ) : Type 0 where
  pub within : r ≤ n
  pub missed : (j : ℕ) → j < r → p (line_at b j) ≡ false
  pub hit : r < n → p (line_at b r) ≡ true

abbrev pub FoundFirst : (Option Handover → Bool) → Board → ℕ → core.Option ℕ → Type 0
FoundFirst p b n None = Found p b n n
FoundFirst p b n (Some k) = Found p b n k × (k < n)

-- ---- the bits of the trains that were passed

-- r is s with bit k set
pub record BitMarked (s k r : ℕ) : Type 0 where
  pub here : bit k r ≡ 1
  pub others : (j : ℕ) → bit j s ≡ 1 → bit j r ≡ 1

-- r is the train of line k, where it has one
abbrev pub TrainOf : Board → ℕ → ℕ → Type 0
TrainOf b k r = (u : ℕ) → is_of u (line_at b k) ≡ true → u ≡ r

-- Each train on a line below k has its bit set, one of 1,024 in sixteen words: bit u mod 64 of word u / 64 mod 16.
abbrev pub SeenBelow : Board → ℕ → List ℕ → Type 0
SeenBelow b k s = (j u : ℕ) → j < k → is_of u (line_at b j) ≡ true → bit (u % 64) (get_or s (u / 64 % 16) 0) ≡ 1

-- where line k's train stands on a line below, its bit is set in the word s
abbrev pub SeenHere : Board → ℕ → ℕ → Type 0
SeenHere b k s = (j u : ℕ) → j < k → is_of u (line_at b j) ≡ true → is_of u (line_at b k) ≡ true → bit (u % 64) s ≡ 1
