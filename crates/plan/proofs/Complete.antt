-- Every accepted setup is read, as its own plan and as far as the place behind its 0x7F: the converse of `accepted`.
--
--   complete   the theorem
--
-- Assumes nothing.
use Prim.Native.Nat.{ℕ, zero, suc, ◌+◌, ◌-◌, ◌≤◌}
use mathlib.Core.Path.{◌≡◌, refl, sym, ap, subst, ◌∙◌}
use mathlib.Core.Bool.{Bool, true, false}
use mathlib.Core.List.{List, [], ◌∷◌, ◌++◌}
use mathlib.Core.Option.{Option, some, none}
use native.Mathlib.Omega.{arith}
use borrow.Author.Tests.{le-leb, le-ltb, eq-eqb, ne_eqb}
use lib.ListN.{length, set, length-set}
use lib.Seq.{get_or-set_same, set-set}
use Rattle.std.specs.Prelude as core
use Rattle.std.specs.Prelude.{Some, None}
use Rattle.rules.specs.State.{Setting, no_setting, setting_at}
use Rattle.fields.specs.Item.{whole_field}
use Rattle.plan.specs.Fields.{setup_item_at}
use Rattle.plan.specs.Judge.{given, longest_of, longest_right, most_framing, misplaced, Inside, over, judged_at, seen_after}
use Rattle.plan.specs.Read.{SetupReply, setup_read, nothing_seen, no_lanes, as_shared, setup_walk, read_plan}
use Rattle.plan.specs.Accepted.{Laid, LaneFields, Rising, LaneWithin, LanesWithin, weighed, given_by, framed, framed_by, placed_all, shared_behind, fields_of, AcceptedSetup}
use Rattle.plan.specs.declared.judge.Seen.{Seen}
use Rattle.plan.specs.declared.parse.LaneField.{LaneField}
use Rattle.plan.specs.declared.parse.SetupField.{SetupField}
use Rattle.plan.specs.declared.parse.SetupField.TheVariants.{Format, Lane, Framing, Shared, End}
use Rattle.plan.proofs.Turn.{turned}
use Rattle.plan.proofs.Judged.{outside-none, judged-whole}
use Rattle.fields.proofs.Item.{stands}

inside : (l : LaneField) → LaneWithin l → Inside (Lane l)
inside l w =
    let n = w.numbers 1 0 in
    outside-none l (omega (arith, w.number)) (simp (le-leb 1 l.weight n.weight_low, le-leb l.weight 1024 n.weight_high))
    (right l.longest n.longest_low n.longest_high)
  where
    right : (x : core.Option ℕ) → 64 ≤ longest_of 1 x → longest_of 1 x ≤ 1500 → longest_right x ≡ true
    right (Some k) a b = simp (le-leb 64 k a, le-leb k 1500 b)
    right None a b = refl

module _ (s : List ℕ) where
  -- a turn at a field that stands and is taken
  turn : (turns : ℕ) (seen : Seen) (gs : List Setting) (at : ℕ) (f : SetupField) (m : ℕ) (r : SetupReply) → length s - at ≤ turns → setup_item_at s at ≡ whole_field f m → judged_at seen s at ≡ whole_field f m
      → ((less : ℕ) → length s - m ≤ less → turned less s seen gs (whole_field f m) ≡ r) → setup_walk turns s seen gs at ≡ r
  unfolding setup_walk
  turn zero seen gs at f m r low i j go = absurd (omega (arith, low, (stands i).fits))
  turn (suc turns) seen gs at f m r low i j go =
      let st = stands i in
      ap (turned turns s seen gs) j ∙ go turns (omega (arith, low, st.after, st.fits))

  -- 0x12 behind the 0x10 of its lane, or none
  module _ (seen : Seen) (gs : List Setting) (l : LaneField) (size : length gs ≡ 64) (small : l.lane ≤ 63) where
    abbrev there' : Seen
    there' = seen_after seen (Lane l)

    abbrev g : Setting
    g = given seen.format seen.framing l

    abbrev gs₁ : List Setting
    gs₁ = set gs l.lane g

    abbrev whole-lane : Bool → List Setting
    whole-lane b = set gs l.lane (given_by seen.format seen.framing (record { lane = l; shared = b }))

    as-shared : set gs₁ l.lane (as_shared (setting_at gs₁ l.lane)) ≡ whole-lane true
    as-shared =
        ap (λ (x : Setting). set gs₁ l.lane (as_shared x)) (get_or-set_same gs l.lane g no_setting (omega arith))
        ∙ set-set gs l.lane g (as_shared g)

    -- what follows reads the same whether 0x12 closed the lane or not
    shared-read : (turns : ℕ) (m : ℕ) (b : Bool) (fs : List SetupField) (p : ℕ) (r : SetupReply) → length s - m ≤ turns → Laid s m (shared_behind b l.lane ++ fs) p
        → ((less q : ℕ) (seen₁ : Seen) → seen₁.begun ≡ true → seen₁.format ≡ seen.format → seen₁.framing ≡ seen.framing → seen₁.floor ≡ l.lane + 1
        → seen₁.total ≡ seen.total + l.weight → seen₁.count ≡ seen.count + 1 → length s - q ≤ less → Laid s q fs p → setup_walk less s seen₁ (whole-lane b) q ≡ r)
        → setup_walk turns s there' gs₁ m ≡ r
    unfolding Laid
    shared-read turns m false fs p r low f go = go turns m there' refl refl refl refl refl refl low f
    shared-read turns m true fs p r low f go =
        let right : misplaced there' (Shared l.lane) ≡ false = simp (eq-eqb (l.lane + 1) (l.lane + 1) refl) in
        let j = judged-whole there' s m (Shared l.lane) f.0 f.1 right refl refl in
        turn turns there' gs₁ m (Shared l.lane) f.0 r low f.1 j (λ less q.
        ap (λ (x : List Setting). setup_walk less s (seen_after there' (Shared l.lane)) x f.0) as-shared
        ∙ go less f.0 (seen_after there' (Shared l.lane)) refl refl refl refl refl refl q f.2)

  -- once the format is there: the fields of lanes, and 0x7F
  lanes-read : (turns : ℕ) (seen : Seen) (gs : List Setting) (at : ℕ) (lanes : List LaneFields) (p : ℕ) → length gs ≡ 64 → seen.begun ≡ true → length s - at ≤ turns
      → Laid s at (fields_of lanes ++ (End ∷ [])) p → Rising seen.floor lanes → LanesWithin lanes
      → seen.total + weighed lanes ≤ 1024 → 1 ≤ seen.count + length lanes → setup_walk turns s seen gs at ≡ setup_read seen.format (placed_all seen.format seen.framing gs lanes) (seen.count + length lanes) p
  unfolding Laid Rising LanesWithin placed_all
  lanes-read turns seen gs at [] p size b low f r a w c =
      let j = judged-whole seen s at End f.0 f.1 (ne_eqb seen.count 0 (λ e. omega arith)) refl refl in
      let e : seen.count ≡ seen.count + 0 = omega arith in
      turn turns seen gs at End f.0 _ low f.1 j (λ less l. ap (λ (n : ℕ). setup_read seen.format gs n f.0) e ∙ ap (setup_read seen.format gs (seen.count + 0)) f.2)
  lanes-read turns seen gs at (x ∷ xs) p size b low f r a w c =
      let l = x.lane in
      let placed-right : misplaced seen (Lane l) ≡ false = simp (b, le-ltb l.lane seen.floor r.0) in
      let under : over seen (Lane l) ≡ None = rw (le-ltb 1024 (seen.total + l.weight) (omega (arith, w))) in
      let j = judged-whole seen s at (Lane l) f.0 f.1 placed-right (inside l a.0) under in
      let e : seen.count + 1 + length xs ≡ seen.count + length (x ∷ xs) = omega arith in
      let answer = setup_read seen.format (placed_all seen.format seen.framing (whole-lane seen gs l size a.0.number x.shared) xs) (seen.count + length (x ∷ xs)) p in
      turn turns seen gs at (Lane l) f.0 _ low f.1 j (λ less q.
      shared-read seen gs l size a.0.number less f.0 x.shared (fields_of xs ++ (End ∷ [])) p answer q (apart x.shared f.2) (λ less₁ q₁ seen₁ b₁ v₁ h₁ fl t₁ c₁ low₁ f₁.
      lanes-read less₁ seen₁ (whole-lane seen gs l size a.0.number x.shared) q₁ xs p (length-set gs l.lane _ ∙ size) b₁ low₁ f₁ (subst (λ (y : ℕ). Rising y xs) (sym fl) r.1) a.1 (omega (arith, w, t₁)) (omega (arith, c₁))
      ∙ rw (v₁, h₁, c₁) (ap (λ (n : ℕ). setup_read seen.format (placed_all seen.format seen.framing (whole-lane seen gs l size a.0.number x.shared) xs) n p) e)))
    where
      apart : (b : Bool) → Laid s f.0 ((shared_behind b x.lane.lane ++ fields_of xs) ++ (End ∷ [])) p → Laid s f.0 (shared_behind b x.lane.lane ++ (fields_of xs ++ (End ∷ []))) p
      apart true g = g
      apart false g = g

  module _ (at v : ℕ) (gs : List Setting) (n p : ℕ) (k : AcceptedSetup s at v gs n p) where
    -- 0x11, where there is one
    from_second : (f : Option ℕ) (m : ℕ) → framed_by f ≤ 64 → Laid s m (framed f ++ (fields_of k.lanes ++ (End ∷ []))) p → (turns : ℕ) → length s - m ≤ turns
        → setup_walk turns s (seen_after nothing_seen (Format v)) no_lanes m ≡ setup_read v (placed_all v (framed_by f) no_lanes k.lanes) (0 + length k.lanes) p
    unfolding Laid
    from_second none m most f turns low =
        lanes-read turns (seen_after nothing_seen (Format v)) no_lanes m k.lanes p refl refl low f k.rising k.each (omega (arith, k.total)) (omega (arith, k.some_lane))
    from_second (some h) m most f turns low =
        let begun = seen_after nothing_seen (Format v) in
        let j = judged-whole begun s m (Framing h) f.0 f.1 refl (rw (le-ltb most_framing h most)) refl in
        turn turns begun no_lanes m (Framing h) f.0 _ low f.1 j (λ less q.
        lanes-read less (seen_after begun (Framing h)) no_lanes f.0 k.lanes p refl refl q f.2 k.rising k.each (omega (arith, k.total)) (omega (arith, k.some_lane)))

    from_first : setup_walk (length s - at) s nothing_seen no_lanes at ≡ setup_read v (placed_all v (framed_by k.framing) no_lanes k.lanes) (0 + length k.lanes) p
    unfolding Laid
    from_first =
        let f = k.laid in
        let j = judged-whole nothing_seen s at (Format v) f.0 f.1 refl (rw k.format) refl in
        turn (length s - at) nothing_seen no_lanes at (Format v) f.0 _ (omega arith) f.1 j (λ less q. from_second k.framing f.0 k.framing_high f.2 less q)

    pub complete : read_plan s at ≡ setup_read v gs n p
    unfolding read_plan
    complete =
        let e : 0 + length k.lanes ≡ n = omega (arith, k.number) in
        from_first ∙ ap (λ (m : ℕ). setup_read v (placed_all v (framed_by k.framing) no_lanes k.lanes) m p) e ∙ ap (λ (x : List Setting). setup_read v x n p) (sym k.given)
