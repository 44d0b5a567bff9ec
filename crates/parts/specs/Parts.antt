-- Where the parts of a table begin (R6.1, docs/TABLE.md). Each part lies behind the one before it, so a lane's room moves what is behind it and nothing else.
--
-- Numbers of a table:
--
--   lane_count      lanes, numbered 0 to 63
--   lowest_group, highest_group   the groups that a lane can have; group_count: how many
--   slot_list_count      the slot lists of a group
--   ring_count      rings: one for each list of each group; ring_places: the places of one, so many that all lanes can stand in it
--   word_bytes      the bytes of a word; lengths_in_word, marks_in_word: how many lengths, and marks, stand in one
--   row_words       the words of a lane's row
--
-- Where its parts begin:
--
--   rows_from      the first word of the lanes' rows, behind the single words
--   lengths_from   the first word of the records' lengths
--   lists_from     the first word of the slot lists: the groups' words
--   groups_end     the first word past those
--   rings_from     the first byte of the slot lists' rings
--   rings_end      the first byte past them: two bytes for each ring, and its places
--   marks_end      the first byte past the records' marks, which lie behind the rings
--   trains_end     the first byte past the shared lanes' trains, behind the marks: a number as long as a mark for each of a lane's trains
--
-- Assumes nothing.
use Rattle.std.specs.Prelude.{ℕ, ◌+◌, ◌-◌, ◌*◌, ◌/◌}
use Rattle.rounds.specs.Round.{train_count}
use Rattle.waiting.specs.Waiting.{lane_depth}

-- ---- numbers

abbrev pub lane_count : ℕ
lane_count = 64

abbrev pub lowest_group : ℕ
lowest_group = 16

abbrev pub highest_group : ℕ
highest_group = 31

-- 16
abbrev pub group_count : ℕ
group_count = highest_group + 1 - lowest_group

abbrev pub slot_list_count : ℕ
slot_list_count = 32

-- 512
abbrev pub ring_count : ℕ
ring_count = group_count * slot_list_count

abbrev pub ring_places : ℕ
ring_places = lane_count

abbrev pub word_bytes : ℕ
word_bytes = 8

abbrev pub lengths_in_word : ℕ
lengths_in_word = 4

abbrev pub marks_in_word : ℕ
marks_in_word = 2

-- setting, clock, ring, round
abbrev pub row_words : ℕ
row_words = 4

-- ---- parts

-- five of the single words are in use, the others are free
abbrev pub rows_from : ℕ
rows_from = 80

-- 336
abbrev pub lengths_from : ℕ
lengths_from = rows_from + row_words * lane_count

-- 1,360, where the records of 16 places in a lane ended too, a word each
abbrev pub lists_from : ℕ
lists_from = lengths_from + lane_count * (lane_depth / lengths_in_word)

-- 1,408: as many words for all groups as there are numbers below the lowest group, and two for each group
abbrev pub groups_end : ℕ
groups_end = lists_from + lowest_group + 2 * group_count

-- 11,264
abbrev pub rings_from : ℕ
rings_from = word_bytes * groups_end

-- 45,056
abbrev pub rings_end : ℕ
rings_end = rings_from + 2 * ring_count + ring_places * ring_count

-- 61,440
abbrev pub marks_end : ℕ
marks_end = rings_end + word_bytes / marks_in_word * (lane_count * lane_depth)

-- 63,488
abbrev pub trains_end : ℕ
trains_end = marks_end + word_bytes / marks_in_word * (lane_count * train_count)
