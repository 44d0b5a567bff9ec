-- A table that zf_make told as made begins a list. Assumes nothing.
use Prim.Native.Nat.{ℕ, ◌≤◌, ◌<◌}
use native.Mathlib.Omega.{arith}
use mathlib.Core.Path.{◌≡◌, refl, sym, ap, ◌∙◌}
use mathlib.Core.Logic.{◌⊎◌, inl, inr}
use mathlib.Core.List.{List}
use lib.ListN.{length}
use Rattle.words.proofs.Runs.{le-or-lt}
use mathlib.Core.Option.{Option, none, some}
use lib.Dec.{eqb}
use borrow.Author.Tests.{ne_eqb}
use Rattle.std.specs.Prelude.{if◌then◌else◌}
use Rattle.rules.specs.Calls.{refused}
use Rattle.rules.specs.Reads.{number, place_of}
use Rattle.pages.specs.Device.{answered}
use Rattle.scheduler.specs.Step.{offering}
use Rattle.scheduler.specs.declared.Offered.{Offered}
use Rattle.scheduler.specs.declared.Offered.TheVariants.{InForce, Waits}
use Rattle.scheduler.specs.declared.NotTaken.{NotTaken}
use Rattle.scheduler.specs.declared.NotTaken.TheVariants.{Old, Refused}
use Rattle.rules.specs.declared.Refusal.{Refusal}
use Rattle.rules.specs.declared.Refusal.TheVariants.{Cut, UnknownTag, WrongLength, OutOfOrder, WeightsOver, TableShort, NotGood, NoLane, BadLength, LaneFull, StillHolds, NothingHeld, RunBounds, InputLong, FormatOutside, LaneOutside, WeightOutside, LongestOutside, FramingOutside, WrongByte, SheetCut, NoSheet, NoTrain, TrainFull}
use Rattle.plan.specs.Read.{read_setup, SetupReply, setup_refused, setup_read}
use Rattle.table.specs.Layout.{table_size}
use Rattle.scheduler.specs.Make as making
use Rattle.scheduler.specs.Make.{MakeStep}
use Rattle.scheduler.proofs.Begins.{by-make}
use Rattle.zenfrosta.specs.Crossing.{refusal_words, make_code, make_values, offer_code, offer_values, Spoken}
use Rattle.zenfrosta.specs.declared.Four.{Four}
use Rattle.zenfrosta.specs.Heard.{heard_offer, Begun, HostMakes}
use Rattle.std.specs.Prelude.{Result, Ok, Err}

-- no refusal has the number 0
pub number-not-0 : (x : Refusal) → number x ≡ 0 → ⊥
number-not-0 (Cut p) e = omega arith
number-not-0 (UnknownTag p) e = omega arith
number-not-0 (WrongLength p) e = omega arith
number-not-0 (OutOfOrder p) e = omega arith
number-not-0 (WeightsOver p) e = omega arith
number-not-0 TableShort e = omega arith
number-not-0 NotGood e = omega arith
number-not-0 NoLane e = omega arith
number-not-0 BadLength e = omega arith
number-not-0 LaneFull e = omega arith
number-not-0 StillHolds e = omega arith
number-not-0 NothingHeld e = omega arith
number-not-0 RunBounds e = omega arith
number-not-0 InputLong e = omega arith
number-not-0 (FormatOutside p) e = omega arith
number-not-0 (LaneOutside p) e = omega arith
number-not-0 (WeightOutside p) e = omega arith
number-not-0 (LongestOutside p) e = omega arith
number-not-0 (FramingOutside p) e = omega arith
number-not-0 (WrongByte p) e = omega arith
number-not-0 (SheetCut p) e = omega arith
number-not-0 NoSheet e = omega arith
number-not-0 NoTrain e = omega arith
number-not-0 TrainFull e = omega arith

-- what a host hears of an offer is what it answered
place-back : (p : Option ℕ) → (if eqb (refusal_words p).b 1 then some (refusal_words p).a else none) ≡ p
place-back none = refl
place-back (some p) = refl

pub offer-back : (o : Result Offered NotTaken) → heard_offer (offer_code (offering o)) (offer_values (offering o)) ≡ offering o
unfolding heard_offer
offer-back (Ok InForce) = refl
offer-back (Ok Waits) = refl
offer-back (Err Old) = refl
offer-back (Err (Refused x)) = rw (ne_eqb (number x) 0 (number-not-0 x)) (ap (λ (p : Option ℕ). answered (refused (number x) p)) (place-back (place_of x)))

module _ (setup before t out out' : List ℕ) (n : ℕ) (m : MakeStep setup before (Ok n) t) (w : Spoken out (make_values (making.made n)) out') where
  by-plan : table_size ≤ length before → (y : SetupReply) → read_setup setup ≡ y → making.TableBySetup y before (Ok n) t → Begun setup t out'
  by-plan h (setup_refused k p) e f = let is = f.0 in let z : ◌≡◌ {A = ℕ} 0 1 = cc in absurd (omega arith)
  by-plan h (setup_read v gs k at) e f =
      let is = f.0 in
      let lanes : k ≡ n = cc in
      let told : n ≡ _ = sym (ap (λ (x : Four). x.a) w.read) in
      record {
        settings = gs;
        format = v;
        at = at;
        reads_it = e ∙ ap (λ (x : ℕ). setup_read v gs x at) (lanes ∙ told);
        led = by-make gs t (record { setup = setup; before = before; answer = Ok n; format = v; lanes = k; at = at; reads_it = e; room = h; makes = m });
      }

  by-room : (table_size ≤ length before) ⊎ (length before < table_size) → Begun setup t out'
  by-room (inl h) = by-plan h (read_setup setup) refl (m.follows h)
  by-room (inr h) = let is = (m.short h).0 in let z : ◌≡◌ {A = ℕ} 0 1 = cc in absurd (omega arith)

pub host-makes : HostMakes
unfolding HostMakes
host-makes setup before t out out' r x zero = go (le-or-lt 32 (length out))
  where
    made : (a : Result ℕ Refusal) → MakeStep setup before a t → r ≡ make_code (making.make_reply a) → Spoken out (make_values (making.make_reply a)) out' → Begun setup t out'
    made (Ok n) m c w = by-room setup before t out out' n m w (le-or-lt table_size (length before))
    made (Err y) m c w = absurd (number-not-0 y (sym c ∙ zero))

    go : (32 ≤ length out) ⊎ (length out < 32) → Begun setup t out'
    go (inl h) = let told = x.told h in made told.0 told.1 told.2 told.3
    go (inr h) = let short = (x.short h).0 in absurd (omega (arith, short, zero))
