-- Demand 3 and the comparison of two lanes, carried over from the rules by `in-one-part`. Assumes nothing.
use Prim.Native.Nat.{ℕ, ◌*◌}
use mathlib.Core.Path.{◌≡◌, sym, ap, ◌∙◌}
use mathlib.Core.List.{List, [], ◌++◌, append_assoc, append-nil}
use Rattle.rules.specs.State.{Setting}
use Rattle.rules.specs.Setup.{Setup, framing_of, longest_charge, margin}
use Rattle.rules.specs.Calls.{fresh}
use Rattle.rules.specs.Runs.{trace}
use Rattle.rules.specs.Fair.{Fair, Demand3, Compared, TwoLanes, ComparedTight}
use Rattle.rules.specs.Even.{HoldingTrain, OthersTight}
use Rattle.rules.proofs.EvenTrains.{others_tight}
use Rattle.rules.proofs.Fair.{demand3, fair_tight, two_lanes_lem, compared_tight}
use Rattle.pages.specs.Device.{fresh_device, DeviceCall}
use Rattle.pages.specs.Offers.{DeviceEvent, device_trace, AllRead, of_rules, in_force}
use Rattle.pages.specs.Claims.{HeldThroughout, FairPages, Demand3Pages, FairTightPages, InOnePart, ComparedPages, TwoLanesPages, ComparedTightPages, OthersPages, EvenTrainsPages}
use Rattle.pages.proofs.PartHeld.{train-held}
use Rattle.pages.proofs.Stretch.{stretch-of, in-one-part}

-- demand 3 with any figure that the rules' own claim has
pub fair-pages : (M : List Setting → ℕ) → ((g : List Setting) → Setup g → Fair (M g) g) → FairPages M
unfolding FairPages Fair InOnePart
fair-pages M fair gs s cs a past stretch rest e k h =
    let x = in-one-part gs s cs a past stretch rest e k h in
    fair (in_force gs past) x.setup (x.before ++ x.during) (trace (fresh (in_force gs past)) x.before) (of_rules stretch) [] x.events k (x.holding k h)

pub demand3-pages : Demand3Pages
unfolding Demand3Pages Demand3
demand3-pages = fair-pages (λ (gs : List Setting). margin (framing_of gs)) demand3

pub tight-pages : FairTightPages
unfolding FairTightPages
tight-pages = fair-pages (λ (gs : List Setting). 1024 * longest_charge gs) fair_tight

-- i): from the rules' own claim
pub compared-pages : (M : List Setting → ℕ) → ((g : List Setting) → Setup g → Compared (M g) g) → ComparedPages M
unfolding ComparedPages Compared InOnePart
compared-pages M two gs s cs a past stretch rest e i j hi hj =
    let x = in-one-part gs s cs a past stretch rest e i hi in
    two (in_force gs past) x.setup (x.before ++ x.during) (trace (fresh (in_force gs past)) x.before) (of_rules stretch) [] x.events i j (x.holding i hi) (x.holding j hj)

pub two-lanes-pages : TwoLanesPages
unfolding TwoLanesPages TwoLanes
two-lanes-pages = compared-pages (λ (gs : List Setting). margin (framing_of gs)) two_lanes_lem

pub compared-tight-pages : ComparedTightPages
unfolding ComparedTightPages ComparedTight
compared-tight-pages = compared-pages (λ (gs : List Setting). 1024 * longest_charge gs) compared_tight

-- l): the rules' own claim for trains
module _ (gs : List Setting) (s : Setup gs) (cs : List DeviceCall) (a : AllRead cs) (past stretch rest : List DeviceEvent)
    (e : device_trace (fresh_device gs) cs ≡ past ++ stretch ++ rest) (k t : ℕ) where
  pub lane-held : ((p q : List DeviceEvent) → p ++ q ≡ stretch → HoldingTrain k t (of_rules (past ++ p))) → HeldThroughout k past stretch
  lane-held h p q pq =
      let there : device_trace (fresh_device gs) cs ≡ (past ++ p) ++ [] ++ (q ++ rest)
      = e ∙ ap (λ (y : List DeviceEvent). past ++ y ++ rest) (sym pq) ∙ ap (λ (y : List DeviceEvent). y ++ rest) (sym (append_assoc past p q)) ∙ append_assoc (past ++ p) q rest
      ∙ ap (λ (y : List DeviceEvent). y ++ (q ++ rest)) (sym (append-nil (past ++ p))) in
      let x = stretch-of gs s cs a (past ++ p) [] (q ++ rest) there in
      train-held (of_rules (past ++ p)) x.device.state k t x.run.part (h p q pq)

pub others-pages : OthersPages
unfolding OthersPages OthersTight InOnePart
others-pages gs s cs a past stretch rest e k i j apart hi =
    let x = in-one-part gs s cs a past stretch rest e k (lane-held gs s cs a past stretch rest e k i hi) in
    others_tight (in_force gs past) (x.before ++ x.during) (trace (fresh (in_force gs past)) x.before) (of_rules stretch) [] x.events k i j apart (x.trains k i hi)

pub even-trains-pages : EvenTrainsPages
unfolding EvenTrainsPages OthersPages
even-trains-pages gs s cs a past stretch rest e k i j apart hi hj = others-pages gs s cs a past stretch rest e k j i (λ q. apart (sym q)) hj
