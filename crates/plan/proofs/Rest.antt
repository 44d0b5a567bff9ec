-- What the walk reads once it has its format: lane fields with rising numbers, each with its 0x12 or not, and 0x7F.
--
--   Rest   what is left of a setup that is read to its end: its fields, and what they fix
--   rest   a walk that reads has a `Rest`
--
-- Assumes nothing.
use Prim.Native.Nat.{ℕ, zero, suc, ◌+◌, ◌≤◌, ◌<◌}
use mathlib.Core.Path.{◌≡◌, refl, sym, ap, subst, ◌∙◌}
use mathlib.Core.Bool.{Bool, true, false, not}
use mathlib.Core.List.{List, [], ◌∷◌, ◌++◌}
use mathlib.Core.Option.{Option}
use native.Mathlib.Omega.{arith}
use borrow.Author.Tests.{eqb-false}
use lib.ListN.{length, set}
use lib.Seq.{get_or-set_same, set-set}
use Rattle.units.proofs.Bools.{true-false}
use Rattle.rules.specs.State.{Setting, no_setting, setting_at}
use Rattle.fields.specs.Item.{whole_field, bad_field}
use Rattle.plan.specs.Fields.{SetupItem}
use Rattle.plan.specs.Judge.{given, judged_at, seen_after}
use Rattle.plan.specs.Read.{setup_read, setup_refused, as_shared, placed, setup_walk}
use Rattle.plan.specs.Accepted.{Laid, LaneFields, Rising, LanesWithin, weighed, given_by, placed_all, shared_behind, fields_of}
use Rattle.plan.specs.declared.judge.Seen.{Seen}
use Rattle.plan.specs.declared.parse.LaneField.{LaneField}
use Rattle.plan.specs.declared.parse.SetupField.{SetupField}
use Rattle.plan.specs.declared.parse.SetupField.TheVariants.{Format, Lane, Framing, Shared, End}
use Rattle.plan.proofs.Turn.{turned}
use Rattle.plan.proofs.Inside.{lane-number, in-numbers, is-rising, is-laned, is_last}
use Rattle.plan.proofs.Taken.{Taken, is-taken}
use Rattle.plan.proofs.Sound.{Sound, sound-after}

pub refused-read : {A : Type 0} {n : ℕ} {p : Option ℕ} {v : ℕ} {gs : List Setting} {k m : ℕ} → setup_refused n p ≡ setup_read v gs k m → A
refused-read h = absurd (let z : ◌≡◌ {A = ℕ} 0 1 = cc in omega arith)

-- the lanes so far, with lane k made shared or not
abbrev pub shares : Bool → ℕ → List Setting → List Setting
shares true k gs = set gs k (as_shared (setting_at gs k))
shares false k gs = gs

-- what a walk that has its format still reads: 0x12 for the last lane or not, then the fields of lanes, and 0x7F
pub record Rest (s : List ℕ) (seen : Seen) (gs : List Setting) (at v : ℕ) (gs' : List Setting) (n p : ℕ) : Type 0 where
  pub share : Bool
  pub lane : ℕ
  pub shared : share ≡ true → (seen.laned ≡ true) × (lane + 1 ≡ seen.floor)
  pub lanes : List LaneFields
  pub laid : Laid s at (shared_behind share lane ++ (fields_of lanes ++ (End ∷ []))) p
  pub rising : Rising seen.floor lanes
  pub each : LanesWithin lanes
  pub format : seen.format ≡ v
  pub given : gs' ≡ placed_all seen.format seen.framing (shares share lane gs) lanes
  pub number : seen.count + length lanes ≡ n
  pub last : Seen
  pub sound : Sound last gs'
  pub counted : last.count ≡ n
  pub some_lane : 1 ≤ n
  pub weigh : seen.total + weighed lanes ≡ last.total
  pub past : at < p
  pub within : p ≤ length s

module _ (turns : ℕ) (s : List ℕ) (seen : Seen) (gs : List Setting) (at v : ℕ) (gs' : List Setting) (n p : ℕ) (begun : seen.begun ≡ true) (ok : Sound seen gs) where
  pub rest_end : (m : ℕ) → Taken seen s at End m → setup_read seen.format gs seen.count m ≡ setup_read v gs' n p → Rest s seen gs at v gs' n p
  unfolding Laid Rising LanesWithin placed_all
  rest_end m k h =
      let g : gs ≡ gs' = cc in
      let c : seen.count ≡ n = cc in
      let q : m ≡ p = cc in
      record {
        share = false;
        lane = 0;
        shared = λ e. true-false (sym e);
        lanes = [];
        laid = (m, k.item, q);
        rising = tt;
        each = tt;
        format = let w : seen.format ≡ v = cc in w;
        given = sym g;
        number = omega arith;
        last = seen;
        sound = subst (λ (x : List Setting). Sound seen x) g ok;
        counted = c;
        some_lane = let z = eqb-false seen.count 0 k.in_place in omega arith;
        weigh = omega arith;
        past = omega (arith, k.stand.after);
        within = omega (arith, k.stand.after, k.stand.fits);
      }

  pub rest-lane : (l : LaneField) (m : ℕ) → Taken seen s at (Lane l) m → Rest s (seen_after seen (Lane l)) (placed seen.format seen.framing gs (Lane l)) m v gs' n p
      → Rest s seen gs at v gs' n p
  unfolding Laid Rising LanesWithin placed_all
  rest-lane l m k r = record {
    share = false;
    lane = 0;
    shared = λ e. true-false (sym e);
    lanes = record { lane = l; shared = r.share } ∷ r.lanes;
    laid = (m, k.item, laid_on r.share (λ e. (r.shared e).1) r.laid);
    rising = (is-rising seen l k.in_place, r.rising);
    each = (record { number = lane-number l k.inside; numbers = in-numbers l k.inside }, r.each);
    format = r.format;
    given = r.given ∙ ap (λ (x : List Setting). placed_all seen.format seen.framing x r.lanes) (given-on r.share (λ e. (r.shared e).1));
    number = omega (arith, r.number);
    last = r.last;
    sound = r.sound;
    counted = r.counted;
    some_lane = r.some_lane;
    weigh = omega (arith, r.weigh);
    past = omega (arith, r.past, k.stand.after);
    within = r.within;
  }
    where
      -- 0x12 is of this lane
      laid_on : (b : Bool) → (b ≡ true → r.lane + 1 ≡ l.lane + 1) → Laid s m (shared_behind b r.lane ++ (fields_of r.lanes ++ (End ∷ []))) p
          → Laid s m ((shared_behind b l.lane ++ fields_of r.lanes) ++ (End ∷ [])) p
      laid_on false e h = h
      laid_on true e h =
          let q : r.lane ≡ l.lane = let z = e refl in omega arith in
          subst (λ (i : ℕ). Laid s m (Shared i ∷ (fields_of r.lanes ++ (End ∷ []))) p) q h

      given-on : (b : Bool) → (b ≡ true → r.lane + 1 ≡ l.lane + 1)
          → shares b r.lane (set gs l.lane (given seen.format seen.framing l)) ≡ set gs l.lane (given_by seen.format seen.framing (record { lane = l; shared = b }))
      given-on false e = refl
      given-on true e =
          let q : r.lane ≡ l.lane = let z = e refl in omega arith in
          ap (λ (i : ℕ). set (set gs l.lane (given seen.format seen.framing l)) i (as_shared (setting_at (set gs l.lane (given seen.format seen.framing l)) i))) q
          ∙ ap (λ (x : Setting). set (set gs l.lane (given seen.format seen.framing l)) l.lane (as_shared x)) (get_or-set_same gs l.lane (given seen.format seen.framing l) no_setting (omega (arith, lane-number l k.inside, ok.size)))
          ∙ set-set gs l.lane (given seen.format seen.framing l) (as_shared (given seen.format seen.framing l))

  -- 0x12, of the last lane
  pub rest-shared : (j m : ℕ) → Taken seen s at (Shared j) m → Rest s (seen_after seen (Shared j)) (placed seen.format seen.framing gs (Shared j)) m v gs' n p
      → Rest s seen gs at v gs' n p
  unfolding Laid
  rest-shared j m k r = go r.share refl
    where
      go : (b : Bool) → r.share ≡ b → Rest s seen gs at v gs' n p
      go true e = true-false (sym (r.shared e).0)
      go false e = record {
        share = true;
        lane = j;
        shared = λ q. (is-laned seen j k.in_place, is_last seen j k.in_place);
        lanes = r.lanes;
        laid = (m, k.item, subst (λ (b : Bool). Laid s m (shared_behind b r.lane ++ (fields_of r.lanes ++ (End ∷ []))) p) e r.laid);
        rising = r.rising;
        each = r.each;
        format = r.format;
        given = r.given ∙ ap (λ (b : Bool). placed_all seen.format seen.framing (shares b r.lane (placed seen.format seen.framing gs (Shared j))) r.lanes) e;
        number = r.number;
        last = r.last;
        sound = r.sound;
        counted = r.counted;
        some_lane = r.some_lane;
        weigh = r.weigh;
        past = omega (arith, r.past, k.stand.after);
        within = r.within;
      }

  module _ (shut : seen.opening ≡ false) (more : (seen₁ : Seen) (gs₁ : List Setting) (m : ℕ) → seen₁.begun ≡ true → seen₁.opening ≡ false → Sound seen₁ gs₁ → setup_walk turns s seen₁ gs₁ m ≡ setup_read v gs' n p → Rest s seen₁ gs₁ m v gs' n p) where
    rest-field : (f : SetupField) (m : ℕ) → Taken seen s at f m → turned turns s seen gs (whole_field f m) ≡ setup_read v gs' n p → Rest s seen gs at v gs' n p
    rest-field (Format w) m k h = true-false (sym begun ∙ k.in_place)
    rest-field (Lane l) m k h =
        rest-lane l m k (more (seen_after seen (Lane l)) (placed seen.format seen.framing gs (Lane l)) m refl refl (sound-after seen gs (Lane l) ok k.in_place k.inside k.under) h)
    rest-field (Framing w) m k h = true-false (sym (ap not shut) ∙ k.in_place)
    rest-field (Shared j) m k h =
        rest-shared j m k (more (seen_after seen (Shared j)) (placed seen.format seen.framing gs (Shared j)) m refl refl (sound-after seen gs (Shared j) ok k.in_place k.inside k.under) h)
    rest-field End m k h = rest_end m k h

    rest-item : (i : SetupItem) → judged_at seen s at ≡ i → turned turns s seen gs i ≡ setup_read v gs' n p → Rest s seen gs at v gs' n p
    rest-item (bad_field a b) e h = refused-read h
    rest-item (whole_field f m) e h = rest-field f m (is-taken seen s at f m e) h

pub rest : (turns : ℕ) (s : List ℕ) (seen : Seen) (gs : List Setting) (at v : ℕ) (gs' : List Setting) (n p : ℕ) → seen.begun ≡ true → seen.opening ≡ false → Sound seen gs
    → setup_walk turns s seen gs at ≡ setup_read v gs' n p → Rest s seen gs at v gs' n p
unfolding setup_walk
rest zero s seen gs at v gs' n p b c ok h = refused-read h
rest (suc turns) s seen gs at v gs' n p b c ok h =
    rest-item turns s seen gs at v gs' n p b ok c (λ seen₁ gs₁ m b₁ c₁ ok₁ h₁. rest turns s seen₁ gs₁ m v gs' n p b₁ c₁ ok₁ h₁) (judged_at seen s at) refl h
