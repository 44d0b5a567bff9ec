-- The bytes of a field stand where it was read.
--
--   stand-bytes  where a field in the form was read, its bytes stand
--
-- Assumes nothing.
use Prim.Native.Nat.{ℕ, zero, suc, ◌+◌, ◌*◌, ◌≤◌, ◌<◌}
use mathlib.Core.Path.{◌≡◌, refl, sym, ap, ◌∙◌}
use mathlib.Core.Bool.{Bool, true, false, ◌||◌}
use mathlib.Core.Logic.{◌⊎◌, inl, inr}
use mathlib.Core.List.{List, [], ◌∷◌, ◌++◌}
use native.Mathlib.Nat.{add-zero}
use native.Mathlib.Omega.{arith}
use borrow.Author.Tests.{eqb-true}
use lib.Dec.{eqb}
use lib.ListN.{length, drop}
use lib.Seq.{drop-cons}
use Rattle.units.proofs.Bools.{true-false}
use Rattle.units.proofs.Lists.{cons}
use Rattle.fields.specs.Bytes.{byte_at, big, Bytes}
use Rattle.fields.proofs.Numbers.{big-two}
use Rattle.fields.proofs.Item.{Stands}
use Rattle.plan.specs.Fields.{setup_tag, setup_fits, setup_kinds, lane_field_at, setup_field_of}
use Rattle.plan.specs.declared.parse.SetupField.{SetupField}
use Rattle.plan.specs.declared.parse.SetupField.TheVariants.{Format, Lane, Framing, Shared, End}
use Rattle.plan.proofs.Tags.{fitting-format, fitting-framing, fitting-shared, fitting-end, lane-size, field-format, field-lane, field-framing, field_shared, field_end}
use Rattle.plan_writer.specs.Format.{field_bytes, formed}

-- the n bytes from at + i on
unfoldable run : List ℕ → ℕ → ℕ → ℕ → List ℕ
run s at i zero = []
run s at i (suc n) = byte_at s (at + i) ∷ run s at (suc i) n

drop-run : (s : List ℕ) (at i n : ℕ) → at + i + n ≤ length s → drop (at + i) s ≡ run s at i n ++ drop (at + i + n) s
unfolding run
drop-run s at i zero h = ap (λ (k : ℕ). drop k s) (let e : at + i ≡ at + i + 0 = omega arith in e)
drop-run s at i (suc n) h =
    drop-cons s (at + i) 0 (omega arith)
    ∙ ap (λ (k : ℕ). byte_at s (at + i) ∷ drop k s) (let e : suc (at + i) ≡ at + suc i = omega arith in e)
    ∙ ap (λ (l : List ℕ). byte_at s (at + i) ∷ l) (drop-run s at (suc i) n (omega arith))
    ∙ ap (λ (k : ℕ). byte_at s (at + i) ∷ (run s at (suc i) n ++ drop k s)) (let e : at + suc i + n ≡ at + i + suc n = omega arith in e)

module _ (s : List ℕ) (bytes : Bytes s) (at : ℕ) where
  abbrev b : ℕ → ℕ
  b i = byte_at s (at + i)

  first : b 0 ≡ byte_at s at
  first = ap (byte_at s) (add-zero at)

  -- the number at a place, by its two bytes
  number : (i j : ℕ) → j ≡ at + i → (big s j 2 ≡ b i * 256 + b (i + 1)) × (b (i + 1) < 256)
  number i j e =
      let p : byte_at s j ≡ b i = ap (byte_at s) e in
      let q : byte_at s (j + 1) ≡ b (i + 1) = ap (byte_at s) (omega (arith, e)) in
      (omega (arith, big-two s j, p, q), bytes (at + (i + 1)))

  from-run : (n : ℕ) → at + n ≤ length s → drop at s ≡ run s at 0 n ++ drop (at + n) s
  from-run n h =
      ap (λ (k : ℕ). drop k s) (sym (add-zero at))
      ∙ drop-run s at 0 n (omega arith)
      ∙ ap (λ (k : ℕ). run s at 0 n ++ drop k s) (let e : at + 0 + n ≡ at + n = omega arith in e)

  format-run : byte_at s at ≡ 1 → big s (at + 1) 2 ≡ 2 → run s at 0 5 ≡ field_bytes (Format (big s (at + 3) 2))
  unfolding run
  format-run t n =
      let size = number 1 (at + 1) refl in
      let value = number 3 (at + 3) refl in
      cons (omega (arith, first)) (cons (omega (arith, size)) (cons (omega (arith, size)) (cons (omega (arith, value)) (cons (omega (arith, value)) refl))))

  lane-run : byte_at s at ≡ 16 → big s (at + 1) 2 ≡ 5 → run s at 0 8 ≡ field_bytes (Lane (lane_field_at s (at + 3) 5))
  unfolding run
  lane-run t n =
      let size = number 1 (at + 1) refl in
      let weight = number 4 (at + 3 + 1) (omega arith) in
      let longest = number 6 (at + 3 + 3) (omega arith) in
      cons (omega (arith, first))
      (cons (omega (arith, size)) (cons (omega (arith, size)) (cons refl
      (cons (omega (arith, weight)) (cons (omega (arith, weight)) (cons (omega (arith, longest)) (cons (omega (arith, longest)) refl)))))))

  framing-run : byte_at s at ≡ 17 → big s (at + 1) 2 ≡ 1 → run s at 0 4 ≡ field_bytes (Framing (byte_at s (at + 3)))
  unfolding run
  framing-run t n =
      let size = number 1 (at + 1) refl in
      cons (omega (arith, first)) (cons (omega (arith, size)) (cons (omega (arith, size)) (cons refl refl)))

  shared-run : byte_at s at ≡ 18 → big s (at + 1) 2 ≡ 1 → run s at 0 4 ≡ field_bytes (Shared (byte_at s (at + 3)))
  unfolding run
  shared-run t n =
      let size = number 1 (at + 1) refl in
      cons (omega (arith, first)) (cons (omega (arith, size)) (cons (omega (arith, size)) (cons refl refl)))

  end-run : byte_at s at ≡ 127 → big s (at + 1) 2 ≡ 0 → run s at 0 3 ≡ field_bytes End
  unfolding run
  end-run t n =
      let size = number 1 (at + 1) refl in
      cons (omega (arith, first)) (cons (omega (arith, size)) (cons (omega (arith, size)) refl))

  tags : (t : ℕ) → setup_tag t ≡ true → (t ≡ 1) ⊎ ((t ≡ 16) ⊎ ((t ≡ 17) ⊎ ((t ≡ 18) ⊎ (t ≡ 127))))
  tags t h = go (eqb t 1) (eqb t 16) (eqb t 17) (eqb t 18) (eqb t 127) refl refl refl refl refl h
    where
      go : (a b c e d : Bool) → eqb t 1 ≡ a → eqb t 16 ≡ b → eqb t 17 ≡ c → eqb t 18 ≡ e → eqb t 127 ≡ d → (a || (b || (c || (e || d)))) ≡ true → (t ≡ 1) ⊎ ((t ≡ 16) ⊎ ((t ≡ 17) ⊎ ((t ≡ 18) ⊎ (t ≡ 127))))
      go true b c e d p q r v u h = inl (eqb-true t 1 p)
      go false true c e d p q r v u h = inr (inl (eqb-true t 16 q))
      go false false true e d p q r v u h = inr (inr (inl (eqb-true t 17 r)))
      go false false false true d p q r v u h = inr (inr (inr (inl (eqb-true t 18 v))))
      go false false false false true p q r v u h = inr (inr (inr (inr (eqb-true t 127 u))))
      go false false false false false p q r v u h = true-false (sym h)

  module _ (f : SetupField) (m : ℕ) (st : Stands setup_kinds s at f m) (form : formed f ≡ true) where
    abbrev t : ℕ
    t = byte_at s at

    abbrev n : ℕ
    n = big s (at + 1) 2

    -- n bytes of value, which are the field g
    whole_run : (k : ℕ) (g : SetupField) → n ≡ k → setup_field_of s t (at + 3) k ≡ g → run s at 0 (3 + k) ≡ field_bytes g → drop at s ≡ field_bytes f ++ drop m s
    whole_run k g e h r =
        let f-is : g ≡ f = sym h ∙ ap (setup_field_of s t (at + 3)) (sym e) ∙ st.field in
        from-run (3 + k) (omega (arith, st.fits, e))
        ∙ ap (λ (l : List ℕ). l ++ drop (at + (3 + k)) s) (r ∙ ap field_bytes f-is)
        ∙ ap (λ (j : ℕ). field_bytes f ++ drop j s) (let q : at + (3 + k) ≡ m = omega (arith, st.after, e) in q)

    by_size : t ≡ 16 → (n ≡ 3) ⊎ (n ≡ 5) → drop at s ≡ field_bytes f ++ drop m s
    by_size e (inl three) =
        let f-is : Lane (lane_field_at s (at + 3) 3) ≡ f = sym (field-lane s t (at + 3) 3 e) ∙ ap (setup_field_of s t (at + 3)) (sym three) ∙ st.field in
        true-false (sym form ∙ sym (ap formed f-is))
    by_size e (inr five) = whole_run 5 (Lane (lane_field_at s (at + 3) 5)) five (field-lane s t (at + 3) 5 e) (lane-run e five)

    by-tag : (t ≡ 1) ⊎ ((t ≡ 16) ⊎ ((t ≡ 17) ⊎ ((t ≡ 18) ⊎ (t ≡ 127)))) → drop at s ≡ field_bytes f ++ drop m s
    by-tag (inl e) =
        let two : n ≡ 2 = eqb-true n 2 (sym (fitting-format t n e) ∙ st.size) in
        whole_run 2 (Format (big s (at + 3) 2)) two (field-format s t (at + 3) 2 e) (format-run e two)
    by-tag (inr (inl e)) = by_size e (lane-size n (sym (ap (λ (x : ℕ). setup_fits x n) e) ∙ st.size))
    by-tag (inr (inr (inl e))) =
        let one : n ≡ 1 = eqb-true n 1 (sym (fitting-framing t n e) ∙ st.size) in
        whole_run 1 (Framing (byte_at s (at + 3))) one (field-framing s t (at + 3) 1 e) (framing-run e one)
    by-tag (inr (inr (inr (inl e)))) =
        let one : n ≡ 1 = eqb-true n 1 (sym (fitting-shared t n e) ∙ st.size) in
        whole_run 1 (Shared (byte_at s (at + 3))) one (field_shared s t (at + 3) 1 e) (shared-run e one)
    by-tag (inr (inr (inr (inr e)))) =
        let not-format : t ≡ 1 → ⊥ = λ q. omega (arith, e, q) in
        let not-lane : t ≡ 16 → ⊥ = λ q. omega (arith, e, q) in
        let not-framing : t ≡ 17 → ⊥ = λ q. omega (arith, e, q) in
        let not-shared : t ≡ 18 → ⊥ = λ q. omega (arith, e, q) in
        let none : n ≡ 0 = eqb-true n 0 (sym (fitting-end t n not-format not-lane not-framing not-shared) ∙ st.size) in
        whole_run 0 End none (field_end s t (at + 3) 0 not-format not-lane not-framing not-shared) (end-run e none)

    pub stand-bytes : drop at s ≡ field_bytes f ++ drop m s
    stand-bytes = by-tag (tags t st.tag)
