-- Pages, byte for byte, with the setups of crate `plan`'s specs/Examples.antt.
--
--   edition_field    0x40 with edition 7
--   skipped         a field that is skipped
--   settings_field   0x41 with a setup of n bytes
--   end             the page's 0x7F
--   Shown           what is read of some pages
--
-- Assumes nothing.
use Rattle.std.specs.Prelude.{ℕ, ◌≡◌, List, [], ◌∷◌, ◌++◌}
use Rattle.std.proofs.Math.Option.{some}
use Rattle.plan.specs.Examples.{session_setup, two_weights, two_lanes}
use Rattle.page.specs.Read.{page_read, page_refused, read_page}

-- 40 0002 0007
abbrev pub edition_field : List ℕ
edition_field = 64 ∷ 0 ∷ 2 ∷ 0 ∷ 7 ∷ []

-- C0 0002 AABB
abbrev pub skipped : List ℕ
skipped = 192 ∷ 0 ∷ 2 ∷ 170 ∷ 187 ∷ []

-- 41 00 n, and the setup
abbrev pub settings_field : ℕ → List ℕ → List ℕ
settings_field n setup = 65 ∷ 0 ∷ n ∷ setup

-- 7F 0000
abbrev pub end : List ℕ
end = 127 ∷ 0 ∷ 0 ∷ []

-- R19.18: the setup of the first session (R16.1) has 24 bytes. That with weights 1,000 and w has 22, and the second weight stands at its byte 17.
pub record Shown : Type 0 where
  pub plain : read_page (edition_field ++ (settings_field 24 session_setup ++ end)) ≡ page_read 7 1 (two_lanes 512 256 1500) 2
  pub with_skipped : read_page (edition_field ++ (skipped ++ (settings_field 24 session_setup ++ (skipped ++ (skipped ++ end))))) ≡ page_read 7 1 (two_lanes 512 256 1500) 2
  pub weight_right : read_page (edition_field ++ (settings_field 22 (two_weights 24) ++ end)) ≡ page_read 7 1 (two_lanes 1000 24 1500) 2
  pub weight_over : read_page (edition_field ++ (settings_field 22 (two_weights 25) ++ end)) ≡ page_refused 6 (some 25)
  pub weight_moved : read_page (edition_field ++ (skipped ++ (settings_field 22 (two_weights 25) ++ end))) ≡ page_refused 6 (some 30)
  pub value_short : read_page (edition_field ++ (settings_field 23 session_setup ++ end)) ≡ page_refused 1 (some 29)
  pub value_long : read_page (edition_field ++ (settings_field 25 session_setup ++ end)) ≡ page_refused 4 (some 32)
  pub skipped_first : read_page (skipped ++ (edition_field ++ (settings_field 24 session_setup ++ end))) ≡ page_refused 4 (some 0)
  pub skipped_last : read_page (edition_field ++ (settings_field 24 session_setup ++ (end ++ skipped))) ≡ page_refused 4 (some 35)
  pub twice : read_page (edition_field ++ (edition_field ++ (settings_field 24 session_setup ++ end))) ≡ page_refused 4 (some 5)
  pub missing : read_page (edition_field ++ (skipped ++ end)) ≡ page_refused 4 (some 10)
  pub stops : read_page edition_field ≡ page_refused 1 (some 5)
