-- Where a table's parts lie (docs/TABLE.md), and what a store leaves. First come single words, the lanes' rows and their records' lengths, 1,360 words;
-- then the slot lists (crate slot_lists); then the records' marks, and the numbers of the shared lanes' trains.
--
--   SIZE, Room                                    the size, in bytes, of what the calls of the rules know: the core of a table; bytes that are long enough for it
--   page_part_bytes                                 the bytes behind the core, for the settings page that waits (crate editions)
--   table_size                                     the fixed size of a table, in bytes: both
--   Front                                         bytes that are long enough for the words before the slot lists
--   CELLS, cells                                  the words before and behind the slot lists, one after another; their number
--   word_of_cell                                    the word that a cell is
--   Behind                                        the bytes that are no cell stay: the slot lists, and all past the core
--   Now                                           what a store in the cells leaves
--   lane_word                                      the first of lane k's words: its setting; time_word, ring_word, round_word: the others
--   weight_from, group_from, rate_from, shared_from   the first bits of the parts of a setting word
--   depth_word                                     the word of a lane's room, which tells this layout from those before it
--   framing_word                                   the word of h, the line's framing bytes
--   row_of, row_at                                  a lane's first three words, taken apart, with the line's framing bytes
--   paced_word                                     a setting word with another c and group; put_pace: the cells with lane k's setting word so
--   round_at                                       a shared lane's fourth word: the round's number (crate turns)
--   place_count                                    the places of all lanes; half_count: with the trains' numbers, which lie behind their marks as marks would
--   place_in_lane                                   the number of lane k's place i among all places, i counted on past the ring's end
--   length_words                                   the words of the lengths of a lane's places; mark_words: of their marks
--   length_bits, mark_bits                          the bits of a length, and of a mark
--   length_cell                                    the cell of a place's length less one, four in a cell; mark_cell: of its mark, two in a cell
--   entry_at                                       the record at a place; put_entry: the cells with a record stored there
--   train_number                                   the number of lane k's train j (crate turns); train_place: its place, counted on behind those of the records
--   clear_cells                                    the cells with n cells of 0 from a cell on
--
-- Assumes nothing.
use Rattle.std.specs.Prelude.{◌≡◌, ℕ, zero, suc, ◌+◌, ◌-◌, ◌*◌, ◌/◌, ◌%◌, ◌^◌, ◌≤◌, ◌<◌, List, ltb, eqb, length, drop, get_or, set, if◌then◌else◌}
use Rattle.words.specs.Runs.{tab}
use Rattle.words.specs.Words.{word_at}
use Rattle.digits.specs.Digits.{digit, put_digit}
use Rattle.parts.specs.Parts.{lane_count, word_bytes, lengths_in_word, marks_in_word, row_words, rows_from, lengths_from, lists_from, rings_end, trains_end}
use Rattle.rounds.specs.Round.{train_count}
use Rattle.rules.specs.State.{lane_depth}
use Rattle.table.specs.declared.LaneRow.{LaneRow}
use Rattle.table.specs.declared.Entry.{Entry}

-- 4,096
abbrev pub place_count : ℕ
place_count = lane_count * lane_depth

-- 4,608
abbrev pub half_count : ℕ
half_count = place_count + lane_count * train_count

-- the first cell of the lengths, behind the 64 rows
abbrev pub lengths_cell : ℕ
lengths_cell = lengths_from

-- the first cell of the marks: the first word behind the slot lists
abbrev pub marks_cell : ℕ
marks_cell = lists_from

-- 3,408: the first cell of the trains' numbers, two in a cell as the marks are
abbrev pub trains_cell : ℕ
trains_cell = marks_cell + place_count / marks_in_word

-- 3,664
abbrev pub CELLS : ℕ
CELLS = trains_cell + lane_count * train_count / marks_in_word

-- R6.1: 63,488: the inner calls promise that all bytes behind it stay, so what is kept there needs no word of theirs
abbrev pub SIZE : ℕ
SIZE = trains_end

-- the last edition and a waiting page, and room for what is to come (docs/TABLE.md)
abbrev pub page_part_bytes : ℕ
page_part_bytes = 2048

-- R6.1, R13.7: 65,536
abbrev pub table_size : ℕ
table_size = SIZE + page_part_bytes

-- R6.1
abbrev pub Room : List ℕ → Type 0
Room t = SIZE ≤ length t

-- long enough for the words before the slot lists: what reading those asks
abbrev pub Front : List ℕ → Type 0
Front t = marks_cell * word_bytes ≤ length t

unfoldable pub word_of_cell : ℕ → ℕ
word_of_cell i = if ltb i marks_cell then i else i - marks_cell + rings_end / word_bytes

unfoldable pub cells : List ℕ → List ℕ
cells t = tab CELLS (λ i. word_at t (word_of_cell i))

pub record Behind (before after : List ℕ) : Type 0 where
  pub lists : (a : ℕ) → lists_from * word_bytes ≤ a → a < rings_end → get_or after a 0 ≡ get_or before a 0
  pub past : drop SIZE after ≡ drop SIZE before

pub record Now (before after w : List ℕ) : Type 0 where
  pub words : cells after ≡ w
  pub rest : Behind before after

-- ---- the single words

abbrev pub clock_word : ℕ
clock_word = 0

abbrev pub present_word : ℕ
present_word = 1

abbrev pub depth_word : ℕ
depth_word = 3

-- the line's framing bytes: one number for the whole table
abbrev pub framing_word : ℕ
framing_word = 4

-- ---- a lane

abbrev pub lane_word : ℕ → ℕ
lane_word k = rows_from + row_words * k

abbrev pub time_word : ℕ → ℕ
time_word k = lane_word k + 1

abbrev pub ring_word : ℕ → ℕ
ring_word k = lane_word k + 2

abbrev pub round_word : ℕ → ℕ
round_word k = lane_word k + 3

-- The bits of a setting word: the longest from bit 0 on, then the weight, the group and c, each up to where the next one begins; the last bit says that trains
-- share the lane.
abbrev pub weight_from : ℕ
weight_from = 16

abbrev pub group_from : ℕ
group_from = 32

abbrev pub rate_from : ℕ
rate_from = 40

abbrev pub shared_from : ℕ
shared_from = 63

abbrev pub row_of : ℕ → ℕ → ℕ → ℕ → LaneRow
row_of framing setting time ring = record {
  longest = record { 0 = setting % 2 ^ weight_from };
  framing = record { 0 = framing };
  weight = setting / 2 ^ weight_from % 2 ^ (group_from - weight_from);
  group = setting / 2 ^ group_from % 2 ^ (rate_from - group_from);
  rate = record { 0 = setting / 2 ^ rate_from % 2 ^ (shared_from - rate_from) };
  shared = eqb (setting / 2 ^ shared_from) 1;
  time = record { 0 = time };
  head = ring % lane_depth;
  count = ring / lane_depth;
}

unfoldable pub row_at : List ℕ → ℕ → LaneRow
row_at w k = row_of (get_or w framing_word 0) (get_or w (lane_word k) 0) (get_or w (time_word k) 0) (get_or w (ring_word k) 0)

-- the words with lane k's clock and ring changed; the setting stays
unfoldable pub put_row : List ℕ → ℕ → LaneRow → List ℕ
put_row w k l = set (set w (time_word k) l.time.0) (ring_word k) (l.head + lane_depth * l.count)

-- the rest of the word stays
abbrev pub paced_word : ℕ → ℕ → ℕ → ℕ
paced_word setting c i = setting % 2 ^ group_from + 2 ^ group_from * i + 2 ^ rate_from * c + 2 ^ shared_from * (setting / 2 ^ shared_from)

abbrev pub put_pace : List ℕ → ℕ → ℕ → ℕ → List ℕ
put_pace w k c i = set w (lane_word k) (paced_word (get_or w (lane_word k) 0) c i)

abbrev pub round_at : List ℕ → ℕ → ℕ
round_at w k = get_or w (round_word k) 0

-- the words with lane k's ring changed alone
abbrev pub put_ring : List ℕ → ℕ → ℕ → ℕ → List ℕ
put_ring w k head count = set w (ring_word k) (head + lane_depth * count)

-- ---- a record

abbrev pub place_in_lane : ℕ → ℕ → ℕ
place_in_lane k i = lane_depth * k + i % lane_depth

-- 16 and 32
abbrev pub length_words : ℕ
length_words = lane_depth / lengths_in_word

abbrev pub mark_words : ℕ
mark_words = lane_depth / marks_in_word

-- 16 and 32: the bits of a length, and of a mark
abbrev pub length_bits : ℕ
length_bits = 8 * word_bytes / lengths_in_word

abbrev pub mark_bits : ℕ
mark_bits = 8 * word_bytes / marks_in_word

abbrev pub length_cell : ℕ → ℕ
length_cell p = lengths_cell + p / lengths_in_word

abbrev pub mark_cell : ℕ → ℕ
mark_cell p = marks_cell + p / marks_in_word

unfoldable pub entry_at : List ℕ → ℕ → Entry
entry_at w p = record {
  mark = digit mark_bits (p % marks_in_word) (get_or w (mark_cell p) 0);
  length = record { 0 = digit length_bits (p % lengths_in_word) (get_or w (length_cell p) 0) + 1 };
}

unfoldable pub put_length : List ℕ → ℕ → ℕ → List ℕ
put_length w p n = set w (length_cell p) (put_digit length_bits (p % lengths_in_word) (n - 1) (get_or w (length_cell p) 0))

unfoldable pub put_mark : List ℕ → ℕ → ℕ → List ℕ
put_mark w p m = set w (mark_cell p) (put_digit mark_bits (p % marks_in_word) m (get_or w (mark_cell p) 0))

abbrev pub put_entry : List ℕ → ℕ → Entry → List ℕ
put_entry w p e = put_mark (put_length w p e.length.0) p e.mark

unfoldable pub clear_cells : List ℕ → ℕ → ℕ → List ℕ
clear_cells w from zero = w
clear_cells w from (suc n) = set (clear_cells w from n) (from + n) 0

-- ---- a train of a shared lane

abbrev pub train_place : ℕ → ℕ → ℕ
train_place k j = place_count + (train_count * k + j)

unfoldable pub train_number : List ℕ → ℕ → ℕ → ℕ
train_number w k j = digit mark_bits (train_place k j % marks_in_word) (get_or w (mark_cell (train_place k j)) 0)

abbrev pub put_train : List ℕ → ℕ → ℕ → ℕ → List ℕ
put_train w k j n = put_mark w (train_place k j) n
