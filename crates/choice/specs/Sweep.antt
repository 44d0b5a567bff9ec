-- The four words of the group sets, group by group from the highest down.
--
--   BitFits      one bit more fits each word
--   sorted_into   a group's bit goes to one of the four words
--   swept        one group more
--   AreWords     the words are those of a state
--
-- Assumes nothing.
use Rattle.std.specs.Prelude.{ℕ, ◌+◌, ◌*◌, ◌^◌, ◌<◌, min, ◌≡◌, Bool, not, ◌&&◌, leb, ltb, if◌then◌else◌}
use Rattle.rules.specs.State.{State}
use Rattle.rules.specs.Sets.{set_word, ready, ineligible_ready, eligible_blocked, ineligible_blocked}
use Rattle.rules.specs.declared.SetWords.{SetWords}
use Rattle.choice.specs.declared.Sweep.{Sweep}

-- one more bit fits each word
pub record BitFits (w : SetWords) (bit : ℕ) : Type 0 where
  pub er : w.er + bit < 2 ^ 64
  pub ir : w.ir + bit < 2 ^ 64
  pub eb : w.eb + bit < 2 ^ 64
  pub ib : w.ib + bit < 2 ^ 64

-- a group's bit goes to one of the four words, by whether it is eligible (e) and blocked (b)
abbrev pub sorted_into : SetWords → ℕ → Bool → Bool → SetWords
sorted_into w bit e b = record {
  er = if e && not b then w.er + bit else w.er;
  ir = if not e && not b then w.ir + bit else w.ir;
  eb = if e && b then w.eb + bit else w.eb;
  ib = if not e && b then w.ib + bit else w.ib;
}

-- group i, of this start, at clock v: it is blocked where an eligible group above it, the one of least finish, has a strictly smaller finish
abbrev pub swept : ℕ → ℕ → ℕ → Sweep → Sweep
swept start v i a = record {
  words = sorted_into a.words (2 ^ i) (leb start v) (ltb a.least.0 (start + 2 * 2 ^ i));
  least = record { 0 = if leb start v then min (start + 2 * 2 ^ i) a.least.0 else a.least.0 };
}

pub record AreWords (s : State) (w : SetWords) : Type 0 where
  pub er : w.er ≡ set_word ready s
  pub ir : w.ir ≡ set_word ineligible_ready s
  pub eb : w.eb ≡ set_word eligible_blocked s
  pub ib : w.ib ≡ set_word ineligible_blocked s
