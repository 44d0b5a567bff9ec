-- Two busy lanes compared, of a list from the fresh table of the setup gs.
--
--   ComparedBy           for any stretch and any two lanes that both hold a record before it and after each call in it, with a figure M of the setup
--   ComparedCalls        R15.10: M as R15.8 has it
--   ComparedTightCalls   R15.10: M by the setup's own greatest charge
--   FairTightCalls       R15.9: R15.8 by the setup's own greatest charge
--
-- Assumes nothing.
use Rattle.std.specs.Prelude.{ℕ, ◌+◌, ◌*◌, ◌<◌, ◌≡◌, List, ◌++◌}
use Rattle.units.specs.Numbers.{line_rate}
use Rattle.rules.specs.State.{Setting, setting_at, rate, slot}
use Rattle.rules.specs.Setup.{framing_of, longest_charge, margin}
use Rattle.rules.specs.Fair.{bytes_sent, bytes_sent_of}
use Rattle.pages.specs.Offers.{DeviceEvent, of_rules, in_force}
use Rattle.pages.specs.Claims.{HeldThroughout}

-- R15.10 with any figure M, by the setup in force: neither lane's bytes, each times c, run ahead by 4 s(a) + 4 s(b) + 2 M. Whole numbers are compared as sums.
unfoldable pub ComparedBy : (List Setting → ℕ) → List Setting → List DeviceEvent → Type 0
ComparedBy M gs es =
    (past stretch rest : List DeviceEvent) → es ≡ past ++ stretch ++ rest
    → (a b : ℕ) → HeldThroughout a past stretch → HeldThroughout b past stretch
    → rate (setting_at (in_force gs past) a) * bytes_sent_of (in_force gs past) a (of_rules stretch)
    < rate (setting_at (in_force gs past) b) * bytes_sent_of (in_force gs past) b (of_rules stretch)
    + 4 * slot (setting_at (in_force gs past) a) + 4 * slot (setting_at (in_force gs past) b) + 2 * M (in_force gs past)

-- what a record of 1,500 bytes costs the line
abbrev pub ComparedCalls : List Setting → List DeviceEvent → Type 0
ComparedCalls = ComparedBy (λ (gs : List Setting). margin (framing_of gs))

-- R15.9: what the costliest record of the setup costs the line
abbrev pub tightest : List Setting → ℕ
tightest gs = line_rate * longest_charge gs

abbrev pub ComparedTightCalls : List Setting → List DeviceEvent → Type 0
ComparedTightCalls = ComparedBy tightest

unfoldable pub FairTightCalls : List Setting → List DeviceEvent → Type 0
FairTightCalls gs es =
    (past stretch rest : List DeviceEvent) → es ≡ past ++ stretch ++ rest
    → (k : ℕ) → HeldThroughout k past stretch
    → line_rate * bytes_sent (in_force gs past) (of_rules stretch)
    < rate (setting_at (in_force gs past) k) * bytes_sent_of (in_force gs past) k (of_rules stretch) + 4 * slot (setting_at (in_force gs past) k) + tightest (in_force gs past)
