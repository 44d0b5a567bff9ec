-- Lists of the halt's calls are lists of the scheduler's. Assumes nothing.
use Prim.Native.Nat.{ℕ, ◌≤◌, ◌<◌}
use native.Mathlib.Omega.{arith}
use mathlib.Core.Path.{◌≡◌, refl, sym, ap, subst, ◌∙◌}
use mathlib.Core.Logic.{◌⊎◌, inl, inr}
use mathlib.Core.List.{List, [], ◌∷◌, ◌++◌, append-nil, append_assoc}
use mathlib.Core.Option.{Option, none}
use lib.ListN.{length}
use Rattle.words.proofs.Runs.{le-or-lt}
use Rattle.rules.specs.State.{Setting, Lane, setup_of}
use Rattle.rules.specs.Calls.{Call, step}
use Rattle.rules.specs.Reads as rules
use Rattle.rules.specs.declared.Answer.{Answer}
use Rattle.std.specs.Prelude.{Result}
use Rattle.rules.specs.declared.Refusal.{Refusal}
use Rattle.rules.proofs.SameSetup.{same_setup, fresh-setup}
use Rattle.pages.specs.Device.{Page, Device, ruled, answered, fresh_device, in_force_of, settled_device, device_step_by}
use Rattle.pages.specs.Offers.{DeviceEvent}
use Rattle.plan.specs.Read.{read_setup, SetupReply, setup_refused, setup_read}
use Rattle.editions.specs.Part.{last_in, waiting_in}
use Rattle.table.specs.Layout.{table_size}
use Rattle.table.specs.Means.{meant}
use Rattle.paged.specs.Paged.{part_of, device_of, EncodesDevice, GoodUnit}
use Rattle.paged.proofs.Units.{device-encoded}
use Rattle.scheduler.specs.Step.{Step}
use Rattle.scheduler.specs.Make.{MakeStep, TableBySetup, made, not_made, make_reply}
use Rattle.scheduler.specs.Chain.{Chain, done, then, Begins, Led}
use Rattle.scheduler.proofs.Chains.{led_on, led-good}
use Rattle.scheduler.proofs.Begins.{by-make}
use Rattle.halt.specs.Halt.{halt_setup, HaltTable, OwnPlan}
use Rattle.halt.specs.Lists as halt
use Rattle.halt.specs.Lists.{HaltChain, HaltBegins}

-- ---- how a list begins

made-not : (n m : ℕ) (p : Option ℕ) → made n ≡ not_made m p → ⊥
made-not n m p e = let z : ◌≡◌ {A = ℕ} 0 1 = cc in absurd (omega arith)

module _ (t : List ℕ) (b : HaltBegins t) where
  by-it : (m : Result ℕ Refusal) × MakeStep b.setup b.before m t × (make_reply m ≡ made b.lanes)
  by-it =
      let s = b.makes.same (λ room o. made-not b.lanes 90 none (sym b.accepted ∙ (b.makes.other room o).0)) in
      (s.0, s.1, sym s.2 ∙ b.accepted)

  room : table_size ≤ length b.before
  room = go (le-or-lt table_size (length b.before))
    where
      go : (table_size ≤ length b.before) ⊎ (length b.before < table_size) → table_size ≤ length b.before
      go (inl h) = h
      go (inr h) = absurd (made-not b.lanes 7 _ (sym by-it.2 ∙ (by-it.1.short h).0))

  pub begins : Begins halt_setup t
  begins = go (read_setup b.setup) refl (by-it.1.follows room) (b.makes.own b.lanes b.accepted)
    where
      go : (r : SetupReply) → read_setup b.setup ≡ r → TableBySetup r b.before by-it.0 t → OwnPlan r → Begins halt_setup t
      go (setup_refused n p) e f o = absurd (made-not b.lanes n p (sym by-it.2 ∙ f.0))
      go (setup_read v gs n at) e f o = record {
        setup = b.setup;
        before = b.before;
        answer = by-it.0;
        format = v;
        lanes = n;
        at = at;
        reads_it = e ∙ ap (λ (x : List Setting). setup_read v x n at) o;
        room = room;
        makes = by-it.1;
      }

-- ---- a call leaves the halt's setup, and no page waits

pub record Goes (past : List DeviceEvent) (t : List ℕ) : Type 0 where
  pub led : Led halt_setup past t
  pub setup : setup_of (meant t) ≡ halt_setup
  pub free : waiting_in (part_of t) ≡ none

pub goes-halt : (past : List DeviceEvent) (t : List ℕ) → Goes past t → HaltTable t
goes-halt past t g = record { good = led-good halt_setup past t g.led; setup = g.setup; free = g.free }

encodes-setup : (t : List ℕ) (d : Device) → EncodesDevice t d → setup_of (meant t) ≡ setup_of d.state
encodes-setup t d e = ap (λ (ls : List Lane). setup_of (record { clock = 0; lanes = ls; order = d.state.order })) e.core.alike.lanes

module _ (c : Call) (t : List ℕ) (a : Result Answer Refusal) (u : List ℕ) (g : GoodUnit t) (free : waiting_in (part_of t) ≡ none) (p : Step c t a u) where
  left : EncodesDevice u (record { state = (step (meant t) c).state; edition = last_in (part_of t); waiting = none })
  unfolding device_of device_step_by settled_device
  left =
      subst (λ (w : Option Page). EncodesDevice u (settled_device (step (meant t) c).state (last_in (part_of t)) w)) free
      (p.device g (device_of t) (device-encoded t g))

  pub left-setup : setup_of (meant u) ≡ setup_of (meant t)
  left-setup = encodes-setup u _ left ∙ same_setup (meant t) c

  pub left-free : waiting_in (part_of u) ≡ none
  left-free = left.waiting

pub goes_first : (t : List ℕ) → HaltBegins t → Goes [] t
unfolding in_force_of
goes_first t b =
    let s = begins t b in
    let e = (subst (λ (y : SetupReply). TableBySetup y s.before s.answer t) s.reads_it (s.makes.follows s.room)).1 in
    record { led = by-make halt_setup t s; setup = encodes-setup t (fresh_device halt_setup) e ∙ fresh-setup halt_setup; free = e.waiting }

pub goes_on : (past : List DeviceEvent) (c : Call) (t : List ℕ) (a : Result Answer Refusal) (u : List ℕ) → Goes past t → Step c t a u
    → Goes (past ++ (record { call = ruled c; reply = answered (rules.reads a) } ∷ [])) u
goes_on past c t a u g p =
    let h = goes-halt past t g in
    record {
      led = led_on halt_setup past _ t u g.led (then p done);
      setup = left-setup c t a u h.good g.free p ∙ g.setup;
      free = left-free c t a u h.good g.free p;
    }

-- ---- the halt's calls are the scheduler's

pub halt-chain : (past : List DeviceEvent) {t u : List ℕ} {es : List DeviceEvent} → Goes past t → HaltChain t es u → Chain t es u × Goes (past ++ es) u
halt-chain past {t} g halt.done = (done, subst (λ (x : List DeviceEvent). Goes x t) (sym (append-nil past)) g)
halt-chain past {t} {u} g (halt.then {u = m} {c = c} {a = a} {es = es} st ch) =
    let p = st.same (goes-halt past t g) in
    let one : List DeviceEvent = record { call = ruled c; reply = answered (rules.reads a) } ∷ [] in
    let r = halt-chain (past ++ one) (goes_on past c t a m g p) ch in
    (then p r.0, subst (λ (x : List DeviceEvent). Goes x u) (append_assoc past one es) r.1)
