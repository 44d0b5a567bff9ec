-- The version that a host is told (R13.7).
--
--   version_number   major times 65,536, minor times 256 and patch together; the file VERSION has the three, and hosts/check holds this number to it
--
-- Assumes nothing.
use Rattle.std.specs.Prelude.{ℕ, ◌+◌, ◌*◌}

abbrev pub version_number : ℕ
version_number = 0 * 65536 + 2 * 256 + 0
