-- A setup within the numbers (docs/RULES.md, R1), and its figures.
--
--   Setup           the rule for a whole setup
--   longest_charge   the greatest charge of a record that the setup allows
--   framing_of       h, the framing bytes of the line: every lane of the setup has this number
--   margin h        1,024 times (1,500 + h)
--
-- Assumes nothing.
use Rattle.std.specs.Prelude.{ℕ, ◌+◌, ◌*◌, ◌≤◌, ◌<◌, max, ◌≡◌, ◌⊎◌, List, [], ◌∷◌, length}
use Rattle.units.specs.Numbers.{line_rate}
use Rattle.units.specs.Plain.{sum}
use Rattle.rules.specs.State.{Setting, no_setting, setting_at, charge}

-- R1.2, R1.3: a lane of the setup
pub record InNumbers (g : Setting) : Type 0 where
  pub weight_low : 1 ≤ g.weight
  pub weight_high : g.weight ≤ 1024
  pub longest_low : 64 ≤ g.longest
  pub longest_high : g.longest ≤ 1500

-- R1.2
abbrev pub weights : List Setting → ℕ
weights gs = sum (λ (g : Setting). g.weight) gs

-- R1.4: the greatest of the lanes' framing numbers; a lane that is not in the setup has 0
unfoldable pub framing_of : List Setting → ℕ
framing_of [] = 0
framing_of (g ∷ gs) = max g.framing (framing_of gs)

-- R1.1, R1.2, R1.4: there is a setting for each lane number; a lane that is not in the setup has none.
pub record Setup (gs : List Setting) : Type 0 where
  pub size : length gs ≡ 64
  pub each : (k : ℕ) → InNumbers (setting_at gs k) ⊎ (setting_at gs k ≡ no_setting)
  pub some_lane : 0 < weights gs
  pub total : weights gs ≤ 1024
  -- one number for all lanes
  pub framing_high : framing_of gs ≤ 64
  pub framed : (k : ℕ) → 0 < (setting_at gs k).weight → (setting_at gs k).framing ≡ framing_of gs

-- R15.9
unfoldable pub longest_charge : List Setting → ℕ
longest_charge [] = 0
longest_charge (g ∷ gs) = max (charge g g.longest) (longest_charge gs)

-- R1.12: M, the figure of the fair share (R15.8) and of a good table (R6.6)
abbrev pub margin : ℕ → ℕ
margin h = line_rate * (1500 + h)
