-- A setting in one word: longest + 2^16 weight, and 2^63 of a shared lane. Assumes nothing.
use mathlib.Core.Path.{◌≡◌, refl, ap, subst}
use mathlib.Core.Bool.{Bool, true, false}
use lib.Dec.{eqb}
use Rattle.std.specs.Prelude.{if◌then◌else◌}
use Prim.Native.Nat.{ℕ, ◌+◌, ◌*◌, ◌/◌, ◌%◌, ◌^◌, ◌≤◌}
use native.Mathlib.Omega.{arith}
use Rattle.rules.specs.State.{Setting}
use Rattle.rules.specs.Setup.{InNumbers}
use Rattle.fresh.specs.Makes.{SettingWord}

-- the top bit
abbrev pub top : Bool → ℕ
top s = if s then 1 else 0

top-most : (s : Bool) → top s ≤ 1
top-most true = omega arith
top-most false = omega arith

top-says : (s : Bool) → eqb (top s) 1 ≡ s
top-says true = refl
top-says false = refl

module _ (w l h : ℕ) (s : Bool) (n : InNumbers (record { weight = w; longest = l; framing = h; shared = s })) (framed : h ≤ 64) where
  abbrev g : Setting
  g = record { weight = w; longest = l; framing = h; shared = s }

  abbrev word : ℕ
  word = l + 65536 * w + 2 ^ 63 * top s

  longest-part : word % 2 ^ 16 ≡ l
  longest-part = omega (arith, n.longest_high, top-most s)

  weight-part : word / 2 ^ 16 % 2 ^ 16 ≡ w
  weight-part = omega (arith, n.longest_high, n.weight_high, top-most s)

  top_part : word / 2 ^ 63 ≡ top s
  top_part = omega (arith, n.longest_high, n.weight_high, top-most s)

  pub packed : SettingWord g word
  packed =
      record {
        given = λ time ring. rw (longest-part, weight-part, top_part, top-says s);
        agrees = λ time ring. record { numbers = rw (longest-part, weight-part, top_part, top-says s) n; framing = framed };
      }

  -- as the code adds it up
  abbrev low : ℕ
  low = l + 65536 * w

  pub packed_shared : s ≡ true → SettingWord g (low + 2 ^ 63)
  packed_shared e = let same : word ≡ low + 2 ^ 63 = omega (arith, ap top e) in subst (SettingWord g) same packed

  pub packed-alone : s ≡ false → SettingWord g low
  packed-alone e = let same : word ≡ low = omega (arith, ap top e) in subst (SettingWord g) same packed
