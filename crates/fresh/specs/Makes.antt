-- What a fresh table is.
--
--   Makes          the bytes are the fresh table of a list of settings, with empty slot lists, and those past the table are as they were
--   lane_settings   the settings of a list of given lanes
--   FramedBy       each of the lanes has so many framing bytes
--   mixed          64 elements: by one rule below k, by another from k on
--   up_to           the settings of the lanes below k, and none of the others
--   rested_to       a state whose lanes below k are idle with F = 0
--   SettingWord    a setting word that agrees with its setting
--
-- Assumes nothing.
use Rattle.std.specs.Prelude.{◌≡◌, ℕ, ◌<◌, List, map, ltb, drop, if◌then◌else◌}
use Rattle.words.specs.Runs.{tab}
use Rattle.rules.specs.State.{Setting, State, no_setting, setting_at, lane_at}
use Rattle.rules.specs.Calls.{idle, fresh}
use Rattle.slot_lists.specs.Lists.{Empty}
use Rattle.table.specs.Layout.{SIZE, cells, row_of}
use Rattle.table.specs.Means.{meant, RowsFit, RowAgrees, given_of}
use Rattle.plan.specs.Read.{setting_of}
use Rattle.plan.specs.declared.Lane.{Lane}

-- The fresh state of R2.4 in bytes, and those past the table as they were.
pub record Makes (before after : List ℕ) (gs : List Setting) : Type 0 where
  pub state : meant after ≡ fresh gs
  pub beside : RowsFit (cells after)
  pub empty : Empty after
  pub rest : drop SIZE after ≡ drop SIZE before

abbrev pub lane_settings : List Lane → List Setting
lane_settings gs = map setting_of gs

-- the line's framing bytes: every lane of the setup has them
abbrev pub FramedBy : ℕ → List Setting → Type 0
FramedBy h gs = (k : ℕ) → 0 < (setting_at gs k).weight → (setting_at gs k).framing ≡ h

unfoldable pub mixed : {A : Type 0} → ℕ → (ℕ → A) → (ℕ → A) → List A
mixed k f g = tab 64 (λ i. if ltb i k then f i else g i)

abbrev pub up_to : ℕ → List Setting → List Setting
up_to k gs = mixed k (setting_at gs) (λ i. no_setting)

abbrev pub rested_to : ℕ → State → State
rested_to k s = record { clock = s.clock; lanes = mixed k (λ i. idle (lane_at s i).given) (lane_at s); order = s.order }

-- beside the line's framing bytes, and whatever the clock and the ring hold
pub record SettingWord (g : Setting) (word : ℕ) : Type 0 where
  pub given : (time ring : ℕ) → given_of (row_of g.framing word time ring) ≡ g
  pub agrees : (time ring : ℕ) → RowAgrees (row_of g.framing word time ring)
