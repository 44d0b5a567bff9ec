-- Inputs of examples, byte for byte.
--
--   session_setup   R16.1: the setup of the first session
--   two_weights     R16.10: a setup with weights 1,000 and w; its second lane field has no longest
--   two_lanes       the settings of lanes 0 and 1, and no other lane
--
-- Assumes nothing.
use Rattle.std.specs.Prelude.{ℕ, false, List, [], ◌∷◌, ◌++◌, set}
use Rattle.rules.specs.State.{Setting}
use Rattle.plan.specs.Read.{no_lanes}

-- 01 0002 0001
abbrev pub format_field : List ℕ
format_field = 1 ∷ 0 ∷ 2 ∷ 0 ∷ 1 ∷ []

-- 7F 0000
abbrev pub end_field : List ℕ
end_field = 127 ∷ 0 ∷ 0 ∷ []

-- 10 0005 00 0200 05DC, 10 0005 01 0100 05DC
abbrev pub session_setup : List ℕ
session_setup = format_field ++ (16 ∷ 0 ∷ 5 ∷ 0 ∷ 2 ∷ 0 ∷ 5 ∷ 220 ∷ 16 ∷ 0 ∷ 5 ∷ 1 ∷ 1 ∷ 0 ∷ 5 ∷ 220 ∷ []) ++ end_field

-- 10 0005 00 03E8 05DC, 10 0003 01 00 w
abbrev pub two_weights : ℕ → List ℕ
two_weights w = format_field ++ (16 ∷ 0 ∷ 5 ∷ 0 ∷ 3 ∷ 232 ∷ 5 ∷ 220 ∷ 16 ∷ 0 ∷ 3 ∷ 1 ∷ 0 ∷ w ∷ []) ++ end_field

abbrev pub two_lanes : ℕ → ℕ → ℕ → List Setting
two_lanes w₀ w₁ longest = set (set no_lanes 0 (record { weight = w₀; longest = longest; framing = 0; shared = false })) 1 (record { weight = w₁; longest = longest; framing = 0; shared = false })
