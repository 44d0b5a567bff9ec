-- Laws of `setup_tag`, `setup_fits` and `setup_field_of` of specs/Fields.antt: what they are at each tag.
-- Assumes nothing.
use Prim.Native.Nat.{ℕ, ◌+◌, ◌≤◌}
use mathlib.Core.Path.{◌≡◌, refl}
use mathlib.Core.Bool.{Bool, true, false, ◌||◌}
use mathlib.Core.List.{List}
use mathlib.Core.Logic.{◌⊎◌, inl, inr, ⊎_elim}
use native.Mathlib.Omega.{arith}
use borrow.Author.Tests.{ne_eqb, eqb-true}
use lib.Dec.{eqb}
use Rattle.std.specs.Prelude.{Some, None}
use Rattle.fields.specs.Bytes.{byte_at, big}
use Rattle.plan.specs.Fields.{setup_tag, setup_fits, longest_at, lane_field_at, setup_field_of}
use Rattle.plan.specs.declared.parse.SetupField.TheVariants.{Format, Lane, Framing, Shared, End}

pub known_is : (t : ℕ) → (t ≡ 1) ⊎ ((t ≡ 16) ⊎ ((t ≡ 17) ⊎ ((t ≡ 18) ⊎ (t ≡ 127)))) → setup_tag t ≡ true
known_is t h = ⊎_elim (λ e. rw e) (λ h. ⊎_elim (λ e. rw e) (λ h. ⊎_elim (λ e. rw e) (λ h. ⊎_elim (λ e. rw e) (λ e. rw e) h) h) h) h

module _ (t n : ℕ) where
  pub fitting-format : t ≡ 1 → setup_fits t n ≡ eqb n 2
  fitting-format e = rw e

  pub fitting-short : t ≡ 16 → n ≡ 3 → setup_fits t n ≡ true
  fitting-short e f = rw (e, f)

  pub fitting-long : t ≡ 16 → (n ≡ 3 → ⊥) → setup_fits t n ≡ eqb n 5
  fitting-long e f = rw (e, ne_eqb n 3 f)

  pub fitting-framing : t ≡ 17 → setup_fits t n ≡ eqb n 1
  fitting-framing e = rw e

  pub fitting-shared : t ≡ 18 → setup_fits t n ≡ eqb n 1
  fitting-shared e = rw e

  pub fitting-end : (t ≡ 1 → ⊥) → (t ≡ 16 → ⊥) → (t ≡ 17 → ⊥) → (t ≡ 18 → ⊥) → setup_fits t n ≡ eqb n 0
  fitting-end e f g h = rw (ne_eqb t 1 e, ne_eqb t 16 f, ne_eqb t 17 g, ne_eqb t 18 h)

-- a lane field has 3 bytes, or else 5
either : (n : ℕ) (b : Bool) → eqb n 3 ≡ b → (b || eqb n 5) ≡ true → (n ≡ 3) ⊎ (n ≡ 5)
either n true e h = inl (eqb-true n 3 e)
either n false e h = inr (eqb-true n 5 h)

pub lane-size : (n : ℕ) → setup_fits 16 n ≡ true → (n ≡ 3) ⊎ (n ≡ 5)
lane-size n h = either n (eqb n 3) refl h

pub lane-long : (n : ℕ) → setup_fits 16 n ≡ true → (n ≡ 3 → ⊥) → n ≡ 5
lane-long n h f = ⊎_elim (λ e. absurd (f e)) (λ e. e) (lane-size n h)

pub lane-three : (n : ℕ) → setup_fits 16 n ≡ true → 3 ≤ n
lane-three n h = ⊎_elim (λ e. omega arith) (λ e. omega arith) (lane-size n h)

module _ (s : List ℕ) (at n : ℕ) where
  pub longest-short : n ≡ 3 → longest_at s at n ≡ None
  longest-short e = rw e

  pub longest-long : (n ≡ 3 → ⊥) → longest_at s at n ≡ Some (big s (at + 3) 2)
  longest-long f = rw (ne_eqb n 3 f)

module _ (s : List ℕ) (t at n : ℕ) where
  pub field-format : t ≡ 1 → setup_field_of s t at n ≡ Format (big s at 2)
  unfolding setup_field_of
  field-format e = rw e

  pub field-lane : t ≡ 16 → setup_field_of s t at n ≡ Lane (lane_field_at s at n)
  unfolding setup_field_of
  field-lane e = rw e

  pub field-framing : t ≡ 17 → setup_field_of s t at n ≡ Framing (byte_at s at)
  unfolding setup_field_of
  field-framing e = rw e

  pub field_shared : t ≡ 18 → setup_field_of s t at n ≡ Shared (byte_at s at)
  unfolding setup_field_of
  field_shared e = rw e

  pub field_end : (t ≡ 1 → ⊥) → (t ≡ 16 → ⊥) → (t ≡ 17 → ⊥) → (t ≡ 18 → ⊥) → setup_field_of s t at n ≡ End
  unfolding setup_field_of
  field_end e f g h = rw (ne_eqb t 1 e, ne_eqb t 16 f, ne_eqb t 17 g, ne_eqb t 18 h)
