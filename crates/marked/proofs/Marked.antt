-- The table of marked examples: what the rules compute, carried to the public calls by `as-ruled`. Assumes nothing.
use Prim.Native.Nat.{ℕ}
use mathlib.Core.Path.{◌≡◌, refl, sym, ap, subst, ◌∙◌}
use mathlib.Core.List.{List, [], ◌∷◌, ◌++◌, map}
use mathlib.Core.Option.{none}
use lib.IntN.{sub_ℕ}
use lib.ListN.{get_or}
use Rattle.rules.specs.State.{Setting, Lane, no_lane}
use Rattle.rules.specs.Calls.{Call, put, take, lag, Reply, accepted, taken, lagged, refused, fresh}
use Rattle.rules.specs.Runs.{Event, after, trace}
use Rattle.rules.proofs.Computes.{rules}
use Rattle.pages.specs.Device.{fresh_device, DeviceCall}
use Rattle.pages.specs.Offers.{device_after, device_trace, of_rules}
use Rattle.pages.specs.Carried.{WithoutOffers}
use Rattle.pages.proofs.Carried.{without-offers}
use Rattle.paged.specs.Paged.{EncodesDevice}
use Rattle.fields.specs.Bytes.{big}
use Rattle.fields.specs.Item.{item_at}
use Rattle.plan.specs.Fields.{setup_field_of}
use Rattle.plan.specs.Judge.{lane_outside, judged_at}
use Rattle.plan.specs.Read.{setup_walk, read_plan, read_setup}
use Rattle.plan.specs.Examples.{two_lanes}
use Rattle.table.specs.Means.{meant}
use Rattle.scheduler.specs.Demands.{AsRuled}
use Rattle.scheduler.proofs.Demands.{as-ruled}
use Rattle.marked.specs.Marked.{setting, shared_setting, alone, accepted_to, Given, to_third, to_third_replies, to_full, turns, turns_replies, Marked}

abbrev replies : List Event → List Reply
replies es = map (λ (e : Event). e.reply) es

-- what is so of the rules' replies, clock and lanes is so of the calls' answers and of the bytes after them
given : (gs : List Setting) (calls : List Call) (P : List Reply → ℕ → List Lane → Type 0)
    → P (replies (trace (fresh gs) calls)) (after (fresh gs) calls).clock (after (fresh gs) calls).lanes
    → Given gs calls (λ rs s. P rs s.clock s.lanes)
unfolding AsRuled WithoutOffers
given gs calls P h t u es b ch same =
    let r = as-ruled gs t u es b ch in
    let s = after (fresh gs) calls in
    let plain = without-offers gs calls in
    let events : of_rules es ≡ trace (fresh gs) calls = ap of_rules (sym r.0) ∙ ap (λ (cs : List DeviceCall). of_rules (device_trace (fresh_device gs) cs)) same ∙ plain.0 in
    let left = subst (EncodesDevice u) (ap (device_after (fresh_device gs)) same ∙ plain.1) r.1 in
    subst (λ (ls : List Lane). P (replies (of_rules es)) (meant u).clock ls) (sym left.core.alike.lanes)
    (subst (λ (v : ℕ). P (replies (of_rules es)) v s.lanes) (sym left.core.alike.clock)
    (subst (λ (xs : List Event). P (replies xs) s.clock s.lanes) (sym events) h))

pub marked : Marked
unfolding rules accepted_to read_setup read_plan setup_walk judged_at item_at setup_field_of lane_outside big
marked =
    record {
      session = refl;
      lane0 = (refl, refl);
      lane1 = (refl, refl);
      m1 =
          given (two_lanes 512 256 1500) to_third
          (λ rs v ls. (rs ≡ to_third_replies) × (v ≡ 2560000) × ((get_or ls 0 no_lane).finish ≡ 3072000) × ((get_or ls 1 no_lane).finish ≡ 4096000))
          (refl, refl, refl, refl);
      m2 =
          given (two_lanes 512 256 1500) (to_third ++ (put 0 0 4 100 ∷ lag 0 ∷ []))
          (λ rs v ls. (rs ≡ to_third_replies ++ (accepted 0 ∷ lagged (sub_ℕ 0 512000) ∷ [])) × (v ≡ 2560000) × ((get_or ls 0 no_lane).start ≡ 3072000) × ((get_or ls 0 no_lane).finish ≡ 3276800))
          (refl, refl, refl, refl);
      m3 = (refl, refl, refl);
      light = refl;
      m4 = (
        given (alone (setting 1 64)) (put 0 0 1 64 ∷ take ∷ []) (λ rs v ls. v ≡ 65536) refl,
        given (alone (setting 1 64)) (put 0 0 1 64 ∷ take ∷ put 0 0 2 64 ∷ []) (λ rs v ls. v ≡ 67108864) refl,
      );
      m5 = (refl, refl);
      m6 = refl;
      lone = refl;
      m7 = given (alone (setting 512 1500)) to_full (λ rs v ls. rs ≡ accepted_to 64 ++ (refused 13 none ∷ taken 0 0 7 1000 ∷ accepted 63 ∷ [])) refl;
      m8 = (refl, refl);
      junction = refl;
      trains = given (alone (shared_setting 512 100)) turns (λ rs v ls. rs ≡ turns_replies) refl;
    }
