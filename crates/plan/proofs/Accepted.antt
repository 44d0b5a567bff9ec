-- Whatever `read_plan` reads is an accepted setup, and its plan is within the numbers.
--
--   accepted         the theorem, for a setup at a place of an input
--   accepted-whole   the same for a setup that is the whole input, and its 0x7F ends the input
--   accepted-plan, accepted-setup   what they say of the code's answer
--
-- Assumes nothing.
use Prim.Native.Nat.{ℕ, zero, suc, ◌-◌, ◌≤◌}
use mathlib.Core.Path.{◌≡◌, refl, sym, ap, subst, ◌∙◌}
use mathlib.Core.Bool.{Bool, true, false}
use mathlib.Core.List.{List, [], ◌∷◌, ◌++◌}
use mathlib.Core.Option.{Option, some, none}
use native.Mathlib.Omega.{arith}
use borrow.Author.Tests.{ltb-false}
use lib.Dec.{ltb}
use lib.ListN.{length}
use Rattle.std.specs.Prelude.{Ok, if◌then◌else◌}
use Rattle.units.proofs.Bools.{true-false}
use Rattle.rules.specs.State.{Setting}
use Rattle.rules.proofs.Figures.{framing-bound, framed-by}
use Rattle.fields.specs.Item.{whole_field, bad_field}
use Rattle.plan.specs.Fields.{SetupItem}
use Rattle.plan.specs.Judge.{known_format, judged_at, seen_after}
use Rattle.plan.specs.Read.{SetupReply, setup_read, setup_refused, nothing_seen, no_lanes, placed, setup_walk, read_plan, setup_closed, read_setup, settings, setup_reply}
use Rattle.plan.specs.Accepted.{Laid, framed, framed_by, placed_all, shared_behind, fields_of, PlanWithin}
use Rattle.plan.specs.declared.judge.Seen.{Seen}
use Rattle.plan.specs.declared.Reading.{Reading}
use Rattle.plan.specs.declared.parse.SetupField.{SetupField}
use Rattle.plan.specs.declared.parse.SetupField.TheVariants.{Format, Lane, Framing, Shared, End}
use Rattle.plan.proofs.Turn.{turned}
use Rattle.plan.proofs.Inside.{format-known, framing-small}
use Rattle.plan.proofs.Taken.{Taken, is-taken}
use Rattle.plan.proofs.Sound.{Sound, sound-first, sound-after}
use Rattle.plan.proofs.Rest.{Rest, shares, rest, rest-lane, refused-read}

-- what the fields before the lanes fix
abbrev opened : ℕ → Bool → ℕ → Seen
opened v o h = record { begun = true; opening = o; laned = false; format = v; framing = h; floor = 0; total = 0; count = 0 }

module _ (s : List ℕ) (at v : ℕ) (gs : List Setting) (n p : ℕ) where
  -- the first field is 0x01 with a known format
  module _ (w m : ℕ) (k : Taken nothing_seen s at (Format w) m) where
    -- no lane was met, so no 0x12 stands here
    not-shared : (b : Bool) → (b ≡ true → false ≡ true) → b ≡ false
    not-shared true e = true-false (sym (e refl))
    not-shared false e = refl

    -- then 0x11, or none; then the lanes
    planned : (f : Option ℕ) (o : Bool) (m₁ : ℕ) → framed_by f ≤ 64 → m ≤ m₁ → (r : Rest s (opened w o (framed_by f)) no_lanes m₁ v gs n p)
        → (Laid s m₁ (fields_of r.lanes ++ (End ∷ [])) p → Laid s m (framed f ++ (fields_of r.lanes ++ (End ∷ []))) p) → PlanWithin s at v gs n p
    unfolding Laid
    planned f o m₁ most on r laid =
        let ok = r.sound in
        let unshared : r.share ≡ false = not-shared r.share (λ e. (r.shared e).0) in
        record {
          rule = record {
            format = sym (ap known_format r.format) ∙ format-known w k.inside;
            framing = f;
            lanes = r.lanes;
            laid = (m, k.item ∙ ap (λ (x : ℕ). whole_field (Format x) m) r.format, laid (subst (λ (b : Bool). Laid s m₁ (shared_behind b r.lane ++ (fields_of r.lanes ++ (End ∷ []))) p) unshared r.laid));
            framing_high = most;
            rising = r.rising;
            each = r.each;
            total = omega (arith, r.weigh, ok.total);
            some_lane = omega (arith, r.number, r.some_lane);
            given = r.given ∙ ap (λ (b : Bool). placed_all w (framed_by f) (shares b r.lane no_lanes) r.lanes) unshared ∙ ap (λ (x : ℕ). placed_all x (framed_by f) no_lanes r.lanes) r.format;
            number = omega (arith, r.number);
          };
          setup = record {
            size = ok.size;
            each = ok.each;
            some_lane = omega (arith, ok.sum_is, ok.few, r.counted, r.some_lane);
            total = omega (arith, ok.sum_is, ok.total);
            framing_high = omega (arith, framing-bound r.last.framing gs ok.most, ok.bytes);
            framed = framed-by r.last.framing gs ok.most ok.framed;
          };
          are_there = ok.there_are ∙ r.counted;
          some_lane = r.some_lane;
          few = omega (arith, ok.count, ok.floor, r.counted);
          weigh = omega (arith, ok.sum_is, r.weigh);
          past = omega (arith, r.past, k.stand.after, on);
          within = r.within;
        }

    abbrev begun : Seen
    begun = seen_after nothing_seen (Format w)

    ok : Sound begun no_lanes
    ok = sound-after nothing_seen no_lanes (Format w) sound-first k.in_place k.inside k.under

    second-field : (turns : ℕ) (f : SetupField) (m₁ : ℕ) → Taken begun s m f m₁ → turned turns s begun no_lanes (whole_field f m₁) ≡ setup_read v gs n p → PlanWithin s at v gs n p
    unfolding Laid
    second-field turns (Format x) m₁ q h = true-false q.in_place
    second-field turns (Lane l) m₁ q h =
        let more = rest turns s (seen_after begun (Lane l)) (placed w 0 no_lanes (Lane l)) m₁ v gs n p refl refl (sound-after begun no_lanes (Lane l) ok q.in_place q.inside q.under) h in
        let r = rest-lane turns s begun no_lanes m v gs n p refl ok l m₁ q more in
        planned none true m (omega arith) (omega arith) r (λ l. l)
    second-field turns (Framing h) m₁ q e =
        let r = rest turns s (seen_after begun (Framing h)) no_lanes m₁ v gs n p refl refl (sound-after begun no_lanes (Framing h) ok q.in_place q.inside q.under) e in
        planned (some h) false m₁ (framing-small h q.inside) (omega (arith, q.stand.after)) r (λ l. (m₁, q.item, l))
    second-field turns (Shared j) m₁ q h = true-false q.in_place
    second-field turns End m₁ q h = true-false q.in_place

    second-item : (turns : ℕ) (i : SetupItem) → judged_at begun s m ≡ i → turned turns s begun no_lanes i ≡ setup_read v gs n p → PlanWithin s at v gs n p
    second-item turns (bad_field a b) j h = refused-read h
    second-item turns (whole_field f m₁) j h = second-field turns f m₁ (is-taken begun s m f m₁ j) h

    second-turn : (turns : ℕ) → setup_walk turns s begun no_lanes m ≡ setup_read v gs n p → PlanWithin s at v gs n p
    unfolding setup_walk
    second-turn zero h = refused-read h
    second-turn (suc turns) h = second-item turns (judged_at begun s m) refl h

  first_field : (turns : ℕ) (f : SetupField) (m : ℕ) → Taken nothing_seen s at f m → turned turns s nothing_seen no_lanes (whole_field f m) ≡ setup_read v gs n p
      → PlanWithin s at v gs n p
  first_field turns (Format w) m k h = second-turn w m k turns h
  first_field turns (Lane l) m k h = true-false k.in_place
  first_field turns (Framing w) m k h = true-false k.in_place
  first_field turns (Shared j) m k h = true-false k.in_place
  first_field turns End m k h = true-false k.in_place

  first-item : (turns : ℕ) (i : SetupItem) → judged_at nothing_seen s at ≡ i → turned turns s nothing_seen no_lanes i ≡ setup_read v gs n p
      → PlanWithin s at v gs n p
  first-item turns (bad_field a b) j h = refused-read h
  first-item turns (whole_field f m) j h = first_field turns f m (is-taken nothing_seen s at f m j) h

  first-turn : (turns : ℕ) → setup_walk turns s nothing_seen no_lanes at ≡ setup_read v gs n p → PlanWithin s at v gs n p
  unfolding setup_walk
  first-turn zero h = refused-read h
  first-turn (suc turns) h = first-item turns (judged_at nothing_seen s at) refl h

  pub accepted : read_plan s at ≡ setup_read v gs n p → PlanWithin s at v gs n p
  unfolding read_plan
  accepted h = first-turn (length s - at) h

module _ (s : List ℕ) (v : ℕ) (gs : List Setting) (n p : ℕ) where
  whole-test : (v₁ : ℕ) (gs₁ : List Setting) (n₁ p₁ : ℕ) (b : Bool) → read_plan s 0 ≡ setup_read v₁ gs₁ n₁ p₁ → ltb p₁ (length s) ≡ b
      → (if b then setup_refused 4 (some p₁) else setup_read v₁ gs₁ n₁ p₁) ≡ setup_read v gs n p → PlanWithin s 0 v gs n p × (p ≡ length s)
  whole-test v₁ gs₁ n₁ p₁ true e t h = refused-read h
  whole-test v₁ gs₁ n₁ p₁ false e t h =
      let a = accepted s 0 v gs n p (e ∙ h) in
      let q : p₁ ≡ p = cc in
      (a, omega (arith, a.within, ltb-false p₁ (length s) t))

  whole-reply : (r : SetupReply) → read_plan s 0 ≡ r → setup_closed s r ≡ setup_read v gs n p → PlanWithin s 0 v gs n p × (p ≡ length s)
  whole-reply (setup_refused a b) e h = refused-read h
  whole-reply (setup_read v₁ gs₁ n₁ p₁) e h = whole-test v₁ gs₁ n₁ p₁ (ltb p₁ (length s)) e refl h

  pub accepted-whole : read_setup s ≡ setup_read v gs n p → PlanWithin s 0 v gs n p × (p ≡ length s)
  unfolding read_setup
  accepted-whole h = whole-reply (read_plan s 0) refl h

-- what a caller of `read_plan` or of `read_setup` has where a setup was read: the contract's equation
pub accepted-plan : (r : Reading) (s : List ℕ) (at : ℕ) → setup_reply (Ok r) ≡ read_plan s at → PlanWithin s at r.plan.format (settings r.plan) r.plan.count r.next
accepted-plan r s at e = accepted s at r.plan.format (settings r.plan) r.plan.count r.next (sym e)

pub accepted-setup : (r : Reading) (s : List ℕ) → setup_reply (Ok r) ≡ read_setup s
    → PlanWithin s 0 r.plan.format (settings r.plan) r.plan.count r.next × (r.next ≡ length s)
accepted-setup r s e = accepted-whole s r.plan.format (settings r.plan) r.plan.count r.next (sym e)
