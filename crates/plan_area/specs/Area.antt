-- A plan in lent bytes (R9.7): 65 words, low byte first.
--
--   area_size                      the fixed size of a plan area, in bytes
--   AreaRoom                      long enough
--   format_in, framing_in, lane_in   the numbers of an area; setting_in: those of a lane's word
--   plan_in                        the plan that an area is, in or out of the numbers
--   narrowed                      what a plan of the code has of a lane; Gives: what it has of the whole plan
--   ShowsPlan                     the words of an area that shows a plan
--   AreaWithin                    an area that is a plan within the numbers
--
-- Assumes nothing.
use Rattle.std.specs.Prelude.{ℕ, ◌+◌, ◌-◌, ◌*◌, ◌/◌, ◌%◌, ◌≤◌, ◌<◌, ◌≡◌, Bool, List, eqb, ltb, length, if◌then◌else◌}
use Rattle.rules.specs.State.{Setting, setting_at}
use Rattle.rules.specs.Setup.{framing_of}
use Rattle.words.specs.Runs.{tab}
use Rattle.words.specs.Words.{word_at}
use Rattle.plan.specs.Accepted.{present}
use Rattle.plan_writer.specs.Write.{Planned, Within}

-- R9.7, R13.7: 520: a word for the plan, and one for each lane
abbrev pub area_size : ℕ
area_size = (1 + 64) * 8

abbrev pub AreaRoom : List ℕ → Type 0
AreaRoom a = area_size ≤ length a

-- ---- what the words are

-- Word 0: format + 2^16 framing bytes.
abbrev pub format_in : List ℕ → ℕ
format_in a = word_at a 0 % 65536

abbrev pub framing_in : List ℕ → ℕ
framing_in a = word_at a 0 / 65536

-- A lane's word: weight + 2^16 longest, and 2^32 where trains share the lane. But for that all that stands above the weight is the longest, so a bit that no
-- plan has is a longest outside its numbers. A lane that is there has the line's framing bytes.
abbrev pub shared_in : ℕ → Bool
shared_in w = eqb (w / 4294967296) 1

abbrev pub longest_in : ℕ → ℕ
longest_in w = if shared_in w then w / 65536 - 65536 else w / 65536

abbrev pub setting_in : ℕ → ℕ → Setting
setting_in h w = record { weight = w % 65536; longest = longest_in w; framing = if eqb (w % 65536) 0 then 0 else h; shared = shared_in w }

-- Word k + 1 is that of lane k.
abbrev pub lane_in : List ℕ → ℕ → Setting
lane_in a k = setting_in (framing_in a) (word_at a (k + 1))

abbrev pub lanes_in : List ℕ → List Setting
lanes_in a = tab 64 (lane_in a)

abbrev pub plan_in : List ℕ → Planned
plan_in a = record { format = format_in a; lanes = lanes_in a; count = present (lanes_in a) }

-- ---- what the code's plan has of them

-- It has two bytes for a longest and one for the framing bytes. A greater number counts as the greatest that fits, which is outside the numbers too.
abbrev pub fitted : ℕ → ℕ → ℕ
fitted most n = if ltb most n then most else n

abbrev pub narrowed : Setting → Setting
narrowed g = record { weight = g.weight; longest = fitted 65535 g.longest; framing = fitted 255 g.framing; shared = g.shared }

-- So a plan within the numbers is had whole, and what is had of one outside them is outside them.
pub record Gives (whole had : Planned) : Type 0 where
  pub same : Within whole → had ≡ whole
  pub within : Within had → Within whole

-- ---- the words of a plan

abbrev pub shared_part : Bool → ℕ
shared_part b = if b then 4294967296 else 0

abbrev pub plan_lane_word : Setting → ℕ
plan_lane_word g = g.weight + 65536 * g.longest + shared_part g.shared

pub record ShowsPlan (p : Planned) (a : List ℕ) : Type 0 where
  pub head : word_at a 0 ≡ p.format + 65536 * framing_of p.lanes
  pub lane : (k : ℕ) → k < 64 → word_at a (k + 1) ≡ plan_lane_word (setting_at p.lanes k)

-- R9.9. Long enough, and within the numbers.
pub record AreaWithin (a : List ℕ) : Type 0 where
  pub room : AreaRoom a
  pub plan : Within (plan_in a)
