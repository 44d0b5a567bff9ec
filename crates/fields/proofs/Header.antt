-- Laws of a field's header.
--
--   header-whole, header-cut, header-none   what stands at a place, by the bytes left there
--   fits-left                               whether a value fits, by the bytes left at its place
--   behind-none, behind-cut, behind-short, behind-whole   the place behind a field, by its header and whether its value fits
--
-- Assumes nothing.
use Prim.Native.Nat.{ℕ, ◌+◌, ◌-◌, ◌≤◌, ◌<◌}
use mathlib.Core.Path.{◌≡◌, sym, ap, ◌∙◌}
use mathlib.Core.Bool.{true, false}
use mathlib.Core.List.{List}
use native.Mathlib.Omega.{arith}
use native.Mathlib.Decide.{dec_le}
use borrow.Author.Tests.{lt-ltb, le-ltb, le-leb, lt-leb}
use lib.Dec.{leb}
use lib.ListN.{length}
use Rattle.fields.specs.Bytes.{byte_at, big}
use Rattle.fields.specs.Header.{header_at, behind_field, behind_at}
use Rattle.fields.specs.declared.Field.TheVariants.{Nothing, Cut, Header}

module _ (s : List ℕ) (at : ℕ) where
  pub header-whole : at + 3 ≤ length s → header_at s at ≡ Header (byte_at s at) (at + 3) (big s (at + 1) 2)
  header-whole h = simp (le-leb (at + 3) (length s) h)

  pub header-cut : at < length s → length s < at + 3 → header_at s at ≡ Cut
  header-cut h l = simp (lt-leb (at + 3) (length s) l, lt-ltb at (length s) h)

  pub header-none : length s ≤ at → header_at s at ≡ Nothing
  header-none h = simp (lt-leb (at + 3) (length s) (omega arith), le-ltb at (length s) h)

pub fits-left : (l at n : ℕ) → at ≤ l → leb n (l - at) ≡ leb (at + n) l
fits-left l at n h =
    elim (dec_le n (l - at)) [
      | yes a ↦ le-leb n (l - at) a ∙ sym (le-leb (at + n) l (omega arith))
      | no a ↦ lt-leb n (l - at) (omega arith) ∙ sym (lt-leb (at + n) l (omega arith))
    ]

module _ (s : List ℕ) (at : ℕ) where
  pub behind-none : header_at s at ≡ Nothing → behind_at s at ≡ at
  unfolding behind_at
  behind-none h = ap (behind_field s at) h

  pub behind-cut : header_at s at ≡ Cut → behind_at s at ≡ at
  unfolding behind_at
  behind-cut h = ap (behind_field s at) h

  module _ (tag value n : ℕ) (h : header_at s at ≡ Header tag value n) where
    pub behind-short : leb (value + n) (length s) ≡ false → behind_at s at ≡ at
    unfolding behind_at
    behind-short f = ap (behind_field s at) h ∙ simp f

    pub behind-whole : leb (value + n) (length s) ≡ true → behind_at s at ≡ value + n
    unfolding behind_at
    behind-whole f = ap (behind_field s at) h ∙ simp f
