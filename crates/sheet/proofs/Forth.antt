-- A sheet that is written from a setup is read back as that setup.
--
--   forth          lines from a lane number on
--   written_read   a whole sheet
--
-- Assumes nothing.
use Prim.Native.Nat.{ℕ, suc, ◌+◌, ◌≤◌, ◌<◌}
use native.Mathlib.Omega.{arith}
use mathlib.Core.Path.{◌≡◌, refl, sym, ap, ◌∙◌}
use mathlib.Core.Bool.{Bool, true, false}
use mathlib.Core.List.{List, [], ◌∷◌, ◌++◌, append_assoc}
use mathlib.Core.Logic.{◌⊎◌, ⊎_elim}
use lib.Dec.{ltb}
use lib.ListN.{length, get_or, set, replicate, length-append}
use lib.Seq.{set_at}
use borrow.Author.Tests.{lt-ltb, ltb-false}
use Rattle.std.specs.Prelude.{if◌then◌else◌}
use Rattle.rules.specs.State.{Setting, no_setting, setting_at}
use Rattle.rules.specs.Setup.{Setup, InNumbers, weights, framing_of}
use Rattle.plan.specs.Judge.{given, seen_after}
use Rattle.plan.specs.Read.{setup_read}
use Rattle.plan.specs.Accepted.{there, present}
use Rattle.plan.specs.declared.judge.Seen.{Seen}
use Rattle.plan.specs.declared.parse.SetupField.TheVariants.{Lane}
use Rattle.sheet.specs.Form.{new_line}
use Rattle.sheet.specs.Judge.{Verdict, Verdict, row_field}
use Rattle.sheet.specs.Read.{sheet_format, none_seen, sheet_walk, read_sheet}
use Rattle.sheet.specs.Text.{line_bytes, lane_line, sheet_from, sheet_bytes}
use Rattle.sheet.specs.declared.form.Row.{Row}
use Rattle.sheet.proofs.Turn.{after_line}
use Rattle.sheet.proofs.Rows.{passes}
use Rattle.sheet.proofs.Sheets.{line-there}
use Rattle.sheet.specs.Promises.{Unshared, place₃, row_at}
use Rattle.sheet.proofs.Numbers.{length-line, line_walk}

abbrev blanks : List Setting → List Setting
blanks rest = replicate (length rest) no_setting

snoc : (xs : List Setting) (x : Setting) (ys : List Setting) → xs ++ x ∷ ys ≡ (xs ++ x ∷ []) ++ ys
snoc xs x ys = sym (append_assoc xs (x ∷ []) ys)

-- what is to be shown of the lanes from k on
abbrev Goes : List Setting → List Setting → Seen → ℕ → ℕ → Type 0
Goes rest pre seen k at =
    sheet_walk seen (pre ++ blanks rest) (new_line at) at (sheet_from k rest) ≡ setup_read sheet_format (pre ++ rest) (seen.count + present rest) (at + length (sheet_from k rest))

-- what is known there
record Ready (rest pre : List Setting) (seen : Seen) (k : ℕ) : Type 0 where
  size : length pre ≡ k
  whole : k + length rest ≡ 64
  each : (j : ℕ) → InNumbers (get_or rest j no_setting) ⊎ (get_or rest j no_setting ≡ no_setting)
  bare : (j : ℕ) → (get_or rest j no_setting).framing ≡ 0
  unshared : (j : ℕ) → (get_or rest j no_setting).shared ≡ false
  floor : seen.floor ≤ k
  total : seen.total + weights rest ≤ 1024
  some_lane : 0 < seen.count + present rest

goes_end : (pre : List Setting) (seen : Seen) (k at : ℕ) → Ready [] pre seen k → Goes [] pre seen k at
unfolding sheet_walk sheet_from
goes_end pre seen k at h =
    let c : 0 < seen.count = omega (arith, h.some_lane) in
    let n : seen.count ≡ seen.count + 0 = omega arith in
    let p : at ≡ at + 0 = omega arith in
    rw (lt-ltb 0 seen.count c) (ap (λ (m : ℕ). setup_read sheet_format (pre ++ []) m at) n ∙ ap (setup_read sheet_format (pre ++ []) (seen.count + 0)) p)

module _ (g : Setting) (rest pre : List Setting) (seen : Seen) (k at : ℕ) (h : Ready (g ∷ rest) pre seen k) where
  -- what is known behind the lane, of what is seen then
  ready-next : (seen₁ : Seen) → seen₁.floor ≤ suc k → seen₁.total + weights rest ≤ 1024 → 0 < seen₁.count + present rest → Ready rest (pre ++ g ∷ []) seen₁ (suc k)
  ready-next seen₁ floor total some_lane = record {
    size = omega (arith, h.size, length-append pre (g ∷ []));
    whole = omega (arith, h.whole);
    each = λ j. h.each (suc j);
    bare = λ j. h.bare (suc j);
    unshared = λ j. h.unshared (suc j);
    floor = floor;
    total = total;
    some_lane = some_lane;
  }

  -- a lane that is not there
  goes-absent : g ≡ no_setting → (Ready rest (pre ++ g ∷ []) seen (suc k) → Goes rest (pre ++ g ∷ []) seen (suc k) at) → Goes (g ∷ rest) pre seen k at
  unfolding sheet_from
  goes-absent e more =
      let w : g.weight ≡ 0 = ap (λ (x : Setting). x.weight) e in
      let t : there g ≡ 0 = ap there e in
      let bytes : sheet_from k (g ∷ rest) ≡ sheet_from (suc k) rest = ap (λ (x : Setting). lane_line k x ++ sheet_from (suc k) rest) e in
      let r = ready-next seen (omega (arith, h.floor)) (omega (arith, h.total)) (omega (arith, h.some_lane, t)) in
      ap (λ (x : List ℕ). sheet_walk seen (pre ++ no_setting ∷ blanks rest) (new_line at) at x) bytes
      ∙ ap (λ (x : Setting). sheet_walk seen (pre ++ x ∷ blanks rest) (new_line at) at (sheet_from (suc k) rest)) (sym e)
      ∙ ap (λ (x : List Setting). sheet_walk seen x (new_line at) at (sheet_from (suc k) rest)) (snoc pre g (blanks rest))
      ∙ more r
      ∙ ap (λ (x : List Setting). setup_read sheet_format x (seen.count + present rest) (at + length (sheet_from (suc k) rest))) (sym (snoc pre g rest))
      ∙ ap (λ (x : ℕ). setup_read sheet_format (pre ++ g ∷ rest) x (at + length (sheet_from (suc k) rest))) (omega (arith, t))
      ∙ ap (λ (x : List ℕ). setup_read sheet_format (pre ++ g ∷ rest) (seen.count + present (g ∷ rest)) (at + length x)) (sym bytes)

  -- a lane that is there
  module _ (i : InNumbers g) where
    abbrev row : Row
    row = row_at k g.weight g.longest at

    abbrev seen₁ : Seen
    seen₁ = seen_after seen (Lane (row_field row))

    abbrev at₁ : ℕ
    at₁ = place₃ k g.weight g.longest at

    goes-there : (Ready rest (pre ++ g ∷ []) seen₁ (suc k) → Goes rest (pre ++ g ∷ []) seen₁ (suc k) at₁) → Goes (g ∷ rest) pre seen k at
    unfolding sheet_from
    goes-there more =
        let small : k < 64 = omega (arith, h.whole) in
        let t : there g ≡ 1 = rw (lt-ltb 0 g.weight i.weight_low) in
        let bytes : sheet_from k (g ∷ rest) ≡ line_bytes k g.weight g.longest ++ sheet_from (suc k) rest = ap (λ (x : List ℕ). x ++ sheet_from (suc k) rest) (line-there k g i.weight_low) in
        let r = ready-next seen₁ (omega arith) (omega (arith, h.total)) (omega arith) in
        let ok = passes seen row (omega arith) i.weight_low i.weight_high i.longest_low i.longest_high h.floor (omega (arith, h.total)) in
        let own : given sheet_format 0 (row_field row) ≡ g =
        ap (λ (n : ℕ). record { weight = g.weight; longest = g.longest; framing = n; shared = false }) (sym (h.bare 0))
        ∙ ap (λ (b : Bool). record { weight = g.weight; longest = g.longest; framing = g.framing; shared = b }) (sym (h.unshared 0)) in
        let count : seen₁.count + present rest ≡ seen.count + present (g ∷ rest) = omega (arith, t) in
        let end : at₁ + length (sheet_from (suc k) rest) ≡ at + length (sheet_from k (g ∷ rest)) =
        omega (arith, length-line k g.weight g.longest at, ap length bytes, length-append (line_bytes k g.weight g.longest) (sheet_from (suc k) rest)) in
        ap (λ (x : List ℕ). sheet_walk seen (pre ++ no_setting ∷ blanks rest) (new_line at) at x) bytes
        ∙ line_walk k g.weight g.longest at seen (pre ++ no_setting ∷ blanks rest) (sheet_from (suc k) rest) (omega arith) (omega (arith, i.weight_high)) (omega (arith, i.longest_high))
        ∙ ap (λ (v : Verdict). after_line seen (pre ++ no_setting ∷ blanks rest) at₁ row v (λ seen₂ gs₂ f₂. sheet_walk seen₂ gs₂ f₂ at₁ (sheet_from (suc k) rest))) ok
        ∙ ap (λ (x : Setting). sheet_walk seen₁ (set (pre ++ no_setting ∷ blanks rest) k x) (new_line at₁) at₁ (sheet_from (suc k) rest)) own
        ∙ ap (λ (x : List Setting). sheet_walk seen₁ x (new_line at₁) at₁ (sheet_from (suc k) rest)) (set_at pre no_setting (blanks rest) g k h.size ∙ snoc pre g (blanks rest))
        ∙ more r
        ∙ ap (λ (x : List Setting). setup_read sheet_format x (seen₁.count + present rest) (at₁ + length (sheet_from (suc k) rest))) (sym (snoc pre g rest))
        ∙ ap (λ (x : ℕ). setup_read sheet_format (pre ++ g ∷ rest) x (at₁ + length (sheet_from (suc k) rest))) count
        ∙ ap (setup_read sheet_format (pre ++ g ∷ rest) (seen.count + present (g ∷ rest))) end

forth : (rest pre : List Setting) (seen : Seen) (k at : ℕ) → Ready rest pre seen k → Goes rest pre seen k at
forth [] pre seen k at h = goes_end pre seen k at h
forth (g ∷ rest) pre seen k at h =
    ⊎_elim
    (λ i. goes-there g rest pre seen k at h i (λ r. forth rest (pre ++ g ∷ []) (seen₁ g rest pre seen k at h i) (suc k) (at₁ g rest pre seen k at h i) r))
    (λ e. goes-absent g rest pre seen k at h e (λ r. forth rest (pre ++ g ∷ []) seen (suc k) at r))
    (h.each 0)

-- a lane with a weight is there
some-there : (gs : List Setting) → 0 < weights gs → 0 < present gs
some-there [] h = absurd (omega arith)
some-there (g ∷ gs) h = go (ltb 0 g.weight) refl (some-there gs)
  where
    go : (b : Bool) → ltb 0 g.weight ≡ b → (0 < weights gs → 0 < present gs) → 0 < (if b then 1 else 0) + present gs
    go true e more = omega arith
    go false e more = omega (arith, more (omega (arith, ltb-false 0 g.weight e)))

-- every lane has the line's framing bytes, or is not there
all-bare : (gs : List Setting) → Setup gs → framing_of gs ≡ 0 → (k : ℕ) → (setting_at gs k).framing ≡ 0
all-bare gs s none k = ⊎_elim (λ i. s.framed k i.weight_low ∙ none) (λ e. ap (λ (g : Setting). g.framing) e) (s.each k)

pub written_read : (gs : List Setting) → Setup gs → framing_of gs ≡ 0 → Unshared gs → read_sheet (sheet_bytes gs) ≡ setup_read sheet_format gs (present gs) (length (sheet_bytes gs))
unfolding read_sheet sheet_bytes
written_read gs s none un =
    ap (λ (n : ℕ). sheet_walk none_seen (replicate n no_setting) (new_line 0) 0 (sheet_from 0 gs)) (sym s.size)
    ∙ forth gs [] none_seen 0 0 (record {
      size = refl;
      whole = omega (arith, s.size);
      each = s.each;
      bare = all-bare gs s none;
      unshared = un;
      floor = omega arith;
      total = omega (arith, s.total);
      some_lane = omega (arith, some-there gs s.some_lane);
    })
    ∙ ap (λ (n : ℕ). setup_read sheet_format gs n (0 + length (sheet_from 0 gs))) (omega arith)
    ∙ ap (setup_read sheet_format gs (present gs)) (omega arith)
