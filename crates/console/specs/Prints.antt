-- What the unit's program prints.
--
--   session_text   the text of an input
--   Prints    the text stands at the front of the answer area
--
-- Assumes nothing.
use Rattle.std.specs.Prelude.{ℕ, ◌≤◌, ◌≡◌, List, ◌++◌, ltb, length, drop, if◌then◌else◌}
use Rattle.std.proofs.Math.Option.{none}
use Rattle.lines.specs.Line.{no_line}
use Rattle.walk.specs.Script.{script}

-- R10.15, R14.15, R14.38: over 32,768 bytes of input give 18, alone; else the limit is 1,000
abbrev pub session_text : List ℕ → List ℕ
session_text s = if ltb 32768 (length s) then no_line 18 none else (script s 1000).text

-- R10.15
pub record Prints (s a a' : List ℕ) (n : ℕ) : Type 0 where
  pub is : a' ≡ session_text s ++ drop (length (session_text s)) a
  pub size : n ≡ length (session_text s)
  pub within : n ≤ length a'
