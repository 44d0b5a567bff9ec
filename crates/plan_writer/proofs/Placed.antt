-- Lane fields and the plan that they place.
--
--   placed-back    placing a plan's lane fields gives the plan
--   fields_back    a plan that was placed has the fields that it was placed by
--
-- Assumes nothing.
use Prim.Native.Nat.{ℕ, zero, suc, ◌+◌, ◌-◌}
use mathlib.Core.Path.{◌≡◌, refl, sym, ap, subst, ◌∙◌}
use mathlib.Core.Bool.{Bool, true, false}
use mathlib.Core.List.{List, [], ◌∷◌, ◌++◌, append_assoc}
use native.Mathlib.Nat.{add-zero}
use native.Mathlib.Omega.{arith}
use lib.Dec.{ltb}
use lib.ListN.{length, set, replicate, length-append, length-replicate}
use lib.Seq.{set-append_seam, append_snoc}
use Rattle.std.specs.Prelude.{if◌then◌else◌}
use Rattle.units.proofs.Bools.{and_parts, true-false}
use Rattle.rules.specs.State.{Setting, no_setting, setting_at}
use Rattle.plan.specs.Judge.{longest_of}
use Rattle.plan.specs.Accepted.{LaneFields, Rising, LanesWithin, given_by, placed_all, shared_behind, fields_of}
use Rattle.std.specs.Prelude as core
use Rattle.std.specs.Prelude.{Some, None}
use Rattle.plan.specs.declared.parse.SetupField.{SetupField}
use Rattle.plan.specs.declared.parse.SetupField.TheVariants.{Lane, End}
use Rattle.plan_writer.specs.Format.{written_out, formed, all_formed}
use Rattle.plan_writer.specs.Write.{lane_fields_of, lane_fields, Fitting}
use Rattle.plan_writer.proofs.Lanes.{fields-there, by-lanes}

-- ---- placing a plan's own fields

module _ (v h : ℕ) where
  placed-step : (k : ℕ) (g : Setting) (gs pre : List Setting)
      → ((pre : List Setting) → length pre ≡ suc k → placed_all v h (pre ++ replicate (length gs) no_setting) (lane_fields (suc k) gs) ≡ pre ++ gs)
      → length pre ≡ k → placed_all v h (pre ++ g ∷ replicate (length gs) no_setting) (lane_fields (suc k) gs) ≡ pre ++ g ∷ gs
  placed-step k g gs pre r e =
      ap (λ (x : List Setting). placed_all v h x (lane_fields (suc k) gs)) (sym (append_snoc pre g (replicate (length gs) no_setting)))
      ∙ r (pre ++ (g ∷ [])) (omega (arith, length-append pre (g ∷ [])))
      ∙ append_snoc pre g gs

  -- a lane's fields give it its own setting
  given_back : (k : ℕ) (g : Setting) → g.framing ≡ h → given_by v h (lane_fields_of k g) ≡ g
  given_back k g e = ap (λ (x : ℕ). record { weight = g.weight; longest = g.longest; framing = x; shared = g.shared }) (sym e)

  pub placed-back : (gs : List Setting) → ((j : ℕ) → Fitting h (setting_at gs j)) → (k : ℕ) (pre : List Setting) → length pre ≡ k
      → placed_all v h (pre ++ replicate (length gs) no_setting) (lane_fields k gs) ≡ pre ++ gs
  unfolding placed_all
  placed-back gs f k pre e =
      by-lanes h (λ k gs ls. (pre : List Setting) → length pre ≡ k → placed_all v h (pre ++ replicate (length gs) no_setting) ls ≡ pre ++ gs)
      (λ k pre e. refl)
      (λ k g gs n q r pre e.
      ap (λ (x : List Setting). placed_all v h x (lane_fields (suc k) gs))
      (ap (λ (x : Setting). set (pre ++ no_setting ∷ replicate (length gs) no_setting) k x) (given_back k g q)
      ∙ ap (λ (i : ℕ). set (pre ++ no_setting ∷ replicate (length gs) no_setting) i g) (sym e) ∙ set-append_seam pre no_setting (replicate (length gs) no_setting) g)
      ∙ placed-step k g gs pre r e)
      (λ k gs r pre e. placed-step k no_setting gs pre r e)
      k gs f pre e

-- ---- the fields that a plan was placed by

none-there : (k m : ℕ) → lane_fields k (replicate m no_setting) ≡ []
unfolding lane_fields
none-there k zero = refl
none-there k (suc m) = none-there (suc k) m

fields-append : (k : ℕ) (xs ys : List Setting) → lane_fields k (xs ++ ys) ≡ lane_fields k xs ++ lane_fields (k + length xs) ys
unfolding lane_fields
fields-append k [] ys = ap (λ (i : ℕ). lane_fields i ys) (sym (add-zero k))
fields-append k (x ∷ xs) ys =
    go (ltb 0 x.weight) (fields-append (suc k) xs ys ∙ ap (λ (i : ℕ). lane_fields (suc k) xs ++ lane_fields i ys) (let e : suc k + length xs ≡ k + suc (length xs) = omega arith in e))
  where
    go : (b : Bool) → lane_fields (suc k) (xs ++ ys) ≡ lane_fields (suc k) xs ++ lane_fields (k + suc (length xs)) ys
        → (if b then lane_fields_of k x ∷ lane_fields (suc k) (xs ++ ys) else lane_fields (suc k) (xs ++ ys)) ≡ (if b then lane_fields_of k x ∷ lane_fields (suc k) xs else lane_fields (suc k) xs) ++ lane_fields (k + suc (length xs)) ys
    go true h = ap (λ (ls : List LaneFields). lane_fields_of k x ∷ ls) h
    go false h = h

set-far : {A : Type 0} (xs ys : List A) (d : ℕ) (y : A) → set (xs ++ ys) (length xs + d) y ≡ xs ++ set ys d y
set-far [] ys d y = ap (λ (i : ℕ). set ys i y) (let e : 0 + d ≡ d = omega arith in e)
set-far {A} (x ∷ xs) ys d y =
    ap (λ (i : ℕ). set (x ∷ (xs ++ ys)) i y) (let e : suc (length xs) + d ≡ suc (length xs + d) = omega arith in e)
    ∙ ap (λ (zs : List A). x ∷ zs) (set-far xs ys d y)

set-replicate : {A : Type 0} (d m : ℕ) (x y : A) → set (replicate (d + suc m) x) d y ≡ replicate d x ++ y ∷ replicate m x
set-replicate zero m x y = ap (λ (i : ℕ). set (replicate i x) 0 y) (let e : 0 + suc m ≡ suc m = omega arith in e)
set-replicate {A} (suc d) m x y =
    ap (λ (i : ℕ). set (replicate i x) (suc d) y) (let e : suc d + suc m ≡ suc (d + suc m) = omega arith in e)
    ∙ ap (λ (zs : List A). x ∷ zs) (set-replicate d m x y)

-- a lane field in the form is that of the setting that it gives
formed-field : (v line : ℕ) (l : LaneFields) → formed (Lane l.lane) ≡ true → lane_fields_of l.lane.lane (given_by v line l) ≡ l
formed-field v line l h = ap (λ (x : core.Option ℕ). record { lane = record { lane = l.lane.lane; weight = l.lane.weight; longest = x }; shared = l.shared }) (go l.lane.longest h)
  where
    go : (x : core.Option ℕ) → written_out x ≡ true → Some (longest_of v x) ≡ x
    go (Some n) h = refl
    go None h = true-false (sym h)

-- the fields behind a lane's 0x12 are in the form
formed-behind : (b : Bool) (k : ℕ) (fs gs : List SetupField) → all_formed ((shared_behind b k ++ fs) ++ gs) ≡ true → all_formed (fs ++ gs) ≡ true
formed-behind true k fs gs h = h
formed-behind false k fs gs h = h

pub fields_back : (v h : ℕ) (lanes : List LaneFields) (pre : List Setting) (m : ℕ) → length pre + m ≡ 64 → Rising (length pre) lanes → LanesWithin lanes → all_formed (fields_of lanes ++ (End ∷ [])) ≡ true
    → lane_fields 0 (placed_all v h (pre ++ replicate m no_setting) lanes) ≡ lane_fields 0 pre ++ lanes
unfolding placed_all Rising LanesWithin
fields_back v h [] pre m e r a o = fields-append 0 pre (replicate m no_setting) ∙ ap (λ (ls : List LaneFields). lane_fields 0 pre ++ ls) (none-there (0 + length pre) m)
fields_back v h (l ∷ ls) pre m e r a o =
    let both = and_parts (formed (Lane l.lane)) (all_formed ((shared_behind l.shared l.lane.lane ++ fields_of ls) ++ (End ∷ []))) o in
    let d = l.lane.lane - length pre in
    let m₁ = m - suc d in
    let m-is : m ≡ d + suc m₁ = omega (arith, a.0.number, r.0) in
    let l-is : l.lane.lane ≡ length pre + d = omega (arith, r.0) in
    let front = replicate d no_setting ++ (given_by v h l ∷ []) in
    let pre₁ = pre ++ front in
    let long : length pre₁ ≡ l.lane.lane + 1 = omega (arith, length-append pre front, length-append (replicate d no_setting) (given_by v h l ∷ []), length-replicate d no_setting) in
    let placed-is : set (pre ++ replicate m no_setting) l.lane.lane (given_by v h l) ≡ pre₁ ++ replicate m₁ no_setting =
    ap (λ (i : ℕ). set (pre ++ replicate m no_setting) i (given_by v h l)) l-is
    ∙ set-far pre (replicate m no_setting) d (given_by v h l)
    ∙ ap (λ (i : ℕ). pre ++ set (replicate i no_setting) d (given_by v h l)) m-is
    ∙ ap (λ (zs : List Setting). pre ++ zs) (set-replicate d m₁ no_setting (given_by v h l) ∙ sym (append_snoc (replicate d no_setting) (given_by v h l) (replicate m₁ no_setting)))
    ∙ sym (append_assoc pre front (replicate m₁ no_setting)) in
    let lane-is : 0 + length pre + length (replicate d no_setting) ≡ l.lane.lane = omega (arith, length-replicate d no_setting) in
    let front-is : lane_fields (0 + length pre) front ≡ l ∷ [] =
    fields-append (0 + length pre) (replicate d no_setting) (given_by v h l ∷ [])
    ∙ ap (λ (xs : List LaneFields). xs ++ lane_fields (0 + length pre + length (replicate d no_setting)) (given_by v h l ∷ [])) (none-there (0 + length pre) d)
    ∙ ap (λ (i : ℕ). lane_fields i (given_by v h l ∷ [])) lane-is
    ∙ fields-there l.lane.lane (given_by v h l) [] (a.0.numbers v h).weight_low
    ∙ ap (λ (x : LaneFields). x ∷ lane_fields (suc l.lane.lane) []) (formed-field v h l both.0)
    ∙ ap (λ (xs : List LaneFields). l ∷ xs) (none-there (suc l.lane.lane) 0) in
    ap (λ (x : List Setting). lane_fields 0 (placed_all v h x ls)) placed-is
    ∙ fields_back v h ls pre₁ m₁ (omega (arith, long)) (subst (λ (i : ℕ). Rising i ls) (sym long) r.1) a.1 (formed-behind l.shared l.lane.lane (fields_of ls) (End ∷ []) both.1)
    ∙ ap (λ (xs : List LaneFields). xs ++ ls) (fields-append 0 pre front ∙ ap (λ (xs : List LaneFields). lane_fields 0 pre ++ xs) front-is)
    ∙ append_snoc (lane_fields 0 pre) l ls
