-- The figures of a busy lane's share in lists of the halt's calls. Assumes nothing.
use Prim.Native.Nat.{ℕ, ◌+◌, ◌*◌, ◌<◌}
use native.Mathlib.Omega.{arith}
use mathlib.Core.Path.{◌≡◌, refl, sym, ap, subst, ◌∙◌}
use mathlib.Core.List.{List, [], ◌∷◌, ◌++◌, map, append_assoc}
use Rattle.units.specs.Numbers.{line_rate, per_byte, least_power, power_from}
use Rattle.rules.specs.State.{Setting, setting_at, charge, rate, group, slot}
use Rattle.rules.specs.Setup.{longest_charge}
use Rattle.rules.specs.Calls.{Call}
use Rattle.rules.specs.Fair.{bytes_sent, bytes_sent_of}
use Rattle.pages.specs.Device.{Page, start_page, Device, fresh_device, DeviceCall, ruled, device_step}
use Rattle.pages.specs.Offers.{DeviceEvent, device_trace_by, device_trace, of_rules, page_in, in_force}
use Rattle.pages.specs.Carried.{WithoutOffers}
use Rattle.pages.proofs.Carried.{without-offers}
use Rattle.scheduler.specs.Chain.{calls_of, Led}
use Rattle.scheduler.specs.Compared.{FairTightCalls, tightest}
use Rattle.scheduler.specs.Demands as demands
use Rattle.scheduler.proofs.Demands.{after-make}
use Rattle.halt.specs.Halt.{halt_setup}
use Rattle.halt.specs.Lists as halt
use Rattle.halt.specs.Lists.{HaltChain, halt_margin, MarginIs, HaltShare, SeesBelow, HaltHolds}
use Rattle.halt.proofs.Lists.{begins, goes_first, goes-halt, halt-chain}

-- ---- with no offer in the list the setup in force is the first one

-- the front of a list of the rules' calls is one
ruled-front : (d : Device) (cs : List Call) (past rest : List DeviceEvent) → device_trace d (map ruled cs) ≡ past ++ rest
    → (front : List Call) × (device_trace d (map ruled front) ≡ past)
unfolding device_trace_by
ruled-front d cs [] rest e = ([], refl)
ruled-front d [] (x ∷ past) rest e = let z : ◌≡◌ {A = ℕ} 0 1 = cc in absurd (omega arith)
ruled-front d (c ∷ cs) (x ∷ past) rest e =
    let h = ruled-front (device_step d (ruled c)).device cs past rest (cc) in
    (c ∷ h.0, cc h.1)

chain-calls : {t u : List ℕ} {es : List DeviceEvent} → HaltChain t es u → (cs : List Call) × (calls_of es ≡ map ruled cs)
chain-calls halt.done = ([], refl)
chain-calls (halt.then {c = c} st ch) = let h = chain-calls ch in (c ∷ h.0, ap (λ (x : List DeviceCall). ruled c ∷ x) h.1)

-- ---- the figures

pub margin-is : MarginIs
unfolding MarginIs halt_setup longest_charge charge
margin-is = refl

record Slots : Type 0 where
  lane_0 : slot (setting_at halt_setup 0) ≡ 524288
  lane_1 : slot (setting_at halt_setup 1) ≡ 1048576
  lane_2 : slot (setting_at halt_setup 2) ≡ 2097152
  lane_3 : slot (setting_at halt_setup 3) ≡ 2097152

slots : Slots
unfolding halt_setup slot group charge per_byte least_power power_from
slots = record { lane_0 = refl; lane_1 = refl; lane_2 = refl; lane_3 = refl }

module _ (es : List DeviceEvent) (u : List ℕ) (l : Led halt_setup es u) (cs : List Call) (calls : calls_of es ≡ map ruled cs) (fair : FairTightCalls halt_setup es) where
  same-force : (past rest : List DeviceEvent) → es ≡ past ++ rest → in_force halt_setup past ≡ halt_setup
  unfolding WithoutOffers
  same-force past rest e =
      let front = ruled-front (fresh_device halt_setup) cs past rest (ap (device_trace (fresh_device halt_setup)) (sym calls) ∙ l.answers ∙ e) in
      ap (λ (p : Page). p.settings)
      (subst (λ (x : List DeviceEvent). page_in halt_setup x ≡ start_page halt_setup) front.1 (without-offers halt_setup front.0).2)

  pub share : HaltShare es
  unfolding HaltShare FairTightCalls MarginIs
  share past stretch rest e k h =
      let held : line_rate * bytes_sent halt_setup (of_rules stretch) < rate (setting_at halt_setup k) * bytes_sent_of halt_setup k (of_rules stretch) + 4 * slot (setting_at halt_setup k) + tightest halt_setup =
      subst
      (λ (gs : List Setting). line_rate * bytes_sent gs (of_rules stretch) < rate (setting_at gs k) * bytes_sent_of gs k (of_rules stretch) + 4 * slot (setting_at gs k) + tightest gs)
      (same-force past (stretch ++ rest) (e ∙ append_assoc past stretch rest)) (fair past stretch rest e k h) in
      omega (arith, held, margin-is)

  -- where the lane sends none: 1,024 T < 4 slots + 262,144
  sees : (k s n : ℕ) → slot (setting_at halt_setup k) ≡ s → 4 * s + halt_margin ≡ line_rate * n → SeesBelow k n es
  unfolding SeesBelow HaltShare
  sees k s n at sum past stretch rest e h none =
      let none-sent : rate (setting_at halt_setup k) * bytes_sent_of halt_setup k (of_rules stretch) ≡ rate (setting_at halt_setup k) * 0 = ap (λ (x : ℕ). rate (setting_at halt_setup k) * x) none in
      omega (arith, share past stretch rest e k h, at, sum, none-sent)

  pub sees-0 : SeesBelow 0 2304 es
  sees-0 = sees 0 524288 2304 slots.lane_0 refl

  pub sees-1 : SeesBelow 1 4352 es
  sees-1 = sees 1 1048576 4352 slots.lane_1 refl

  pub sees-2 : SeesBelow 2 8448 es
  sees-2 = sees 2 2097152 8448 slots.lane_2 refl

  pub sees-3 : SeesBelow 3 8448 es
  sees-3 = sees 3 2097152 8448 slots.lane_3 refl

-- ---- the claim

pub halt-holds : HaltHolds
unfolding HaltHolds demands.AfterMake
halt-holds t u es b ch =
    let go = halt-chain [] (goes_first t b) ch in
    let all = after-make halt_setup t u es (begins t b) go.0 in
    let l = go.1.led in
    let c = chain-calls ch in
    record {
      demands = all;
      table = goes-halt es u go.1;
      share = share es u l c.0 c.1 all.fair_tight;
      lane_0 = sees-0 es u l c.0 c.1 all.fair_tight;
      lane_1 = sees-1 es u l c.0 c.1 all.fair_tight;
      lane_2 = sees-2 es u l c.0 c.1 all.fair_tight;
      lane_3 = sees-3 es u l c.0 c.1 all.fair_tight;
    }
