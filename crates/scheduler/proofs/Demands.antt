-- The demands, of the public calls' own answers. Assumes nothing.
use Prim.Native.Nat.{ℕ}
use native.Mathlib.Omega.{arith}
use mathlib.Core.Path.{◌≡◌, refl, sym, ap, subst, ◌∙◌}
use mathlib.Core.Logic.{◌⊎◌}
use mathlib.Core.List.{List, [], ◌∷◌, ◌++◌, map}
use mathlib.Core.Option.{none}
use lib.Dec.{leb}
use lib.ListN.{get_or}
use Rattle.std.specs.Prelude.{if◌then◌else◌}
use Rattle.waiting.specs.Waiting.{queue_of}
use Rattle.rules.specs.State.{Setting, Lane, no_lane, lane_at}
use Rattle.rules.specs.Calls.{take, refused}
use Rattle.rules.specs.Runs.{accepted_of, sent_of, of_train}
use Rattle.pages.specs.Device.{Page, Device, start_page, fresh_device, DeviceCall, ruled, offer, answered, in_force_now, waits_now, device_step, device_step_by}
use Rattle.pages.specs.Offers.{DeviceEvent, event_of, device_after, device_trace, device_trace_by, of_rules, any_held, newest, page_in}
use Rattle.pages.specs.Claims.{own_page, FairPages, Demand3Pages, SameSetupThroughout, InForceCounted, InOrderPages, OfferAnswers, FreeAtChange}
use Rattle.pages.specs.Carried.{HandsOut, RestartHeldPages, NeverTenPages, DrainsPages}
use Rattle.pages.proofs.Events.{device-split}
use Rattle.pages.proofs.Stretch.{same-setup-throughout}
use Rattle.pages.proofs.Fair.{demand3-pages}
use Rattle.pages.proofs.Answers.{in-force, in-order-pages, offer-answers, free-at-change}
use Rattle.pages.proofs.Carried.{restart-held-pages, never-ten-pages, drains-pages, take_gives}
use Rattle.paged.specs.Paged.{EncodesDevice}
use Rattle.scheduler.specs.Chain.{calls_of, Led}
use Rattle.scheduler.specs.Demands.{FairCalls, SameSetup, NeverTen, OrderKept, SetupKept, RestartHeld, Drains, OfferTold, FreeChange, Demands, EveryList, AfterMake, AfterRestart, AsRuled}
use Rattle.scheduler.proofs.Chains.{led-good, led_on}
use Rattle.scheduler.proofs.Begins.{by-make, by-restart}
use Rattle.scheduler.proofs.Ahead.{ahead-told}
use Rattle.scheduler.proofs.Compared.{compared-calls, compared-tight-calls, fair-tight-calls}
use Rattle.scheduler.proofs.Even.{even-calls, even-tight-calls, others-tight-calls}
use Rattle.scheduler.proofs.Waits.{waiting-calls}
use Rattle.scheduler.proofs.Drained.{drained-table}
use Rattle.scheduler.proofs.Endless.{endless-calls, clock_early}

-- two units that one table encodes have the same lanes
same-lanes : (u : List ℕ) (d d' : Device) → EncodesDevice u d → EncodesDevice u d' → d.state.lanes ≡ d'.state.lanes
same-lanes u d d' e e' = sym e.core.alike.lanes ∙ e'.core.alike.lanes

-- the first event of a list of the rules' calls
first-is : (d : Device) (cs : List DeviceCall) (e : DeviceEvent) (rest : List DeviceEvent) → device_trace d cs ≡ e ∷ rest → event_of d e.call ≡ e
unfolding device_trace_by
first-is d [] e rest q = let z : ◌≡◌ {A = ℕ} 0 1 = cc in absurd (omega arith)
first-is d (c ∷ cs) e rest q =
    let same : event_of d c ≡ e = cc in
    ap (event_of d) (sym (ap (λ (x : DeviceEvent). x.call) same)) ∙ same

-- ---- of a list that led to a table

module _ (gs : List Setting) (es : List DeviceEvent) (u : List ℕ) (l : Led gs es u) where
  abbrev end : Device
  end = device_after (fresh_device gs) (calls_of es)

  fair-calls : FairCalls gs es
  unfolding FairCalls Demand3Pages FairPages
  fair-calls past stretch rest e k h = demand3-pages gs l.setup (calls_of es) l.read past stretch rest (l.answers ∙ e) k h

  same_setup : SameSetup gs es
  unfolding SameSetup SameSetupThroughout
  same_setup past stretch rest e k h p q pq = same-setup-throughout gs l.setup (calls_of es) l.read past stretch rest (l.answers ∙ e) k h p q pq

  never_ten : NeverTen es u
  unfolding NeverTen NeverTenPages
  never_ten = (led-good gs es u l, λ past rest e p q ten. never-ten-pages gs l.setup (calls_of es) l.read past rest e p (l.answers ∙ q) ten)

  order-kept : OrderKept es u
  unfolding OrderKept InOrderPages
  order-kept d e k t =
      let lanes = same-lanes u end d l.table e in
      subst (λ (xs : List DeviceEvent). of_train t (accepted_of k (of_rules xs)) ≡ of_train t (sent_of k (of_rules xs)) ++ queue_of (lane_at d.state k).waiting t) l.answers
      (in-order-pages gs l.setup (calls_of es) l.read k t
      ∙ ap (λ (ls : List Lane). of_train t (sent_of k (of_rules (device_trace (fresh_device gs) (calls_of es)))) ++ queue_of (get_or ls k no_lane).waiting t) lanes)

  setup-kept-calls : SetupKept gs es u
  unfolding SetupKept InForceCounted
  setup-kept-calls d e =
      own_same d.edition d.state.lanes (sym e.edition ∙ l.table.edition) (same-lanes u d end e l.table)
      ∙ in-force gs l.setup (calls_of es) l.read ∙ ap (page_in gs) l.answers
    where
      own_same : (n : ℕ) (ls : List Lane) → n ≡ end.edition → ls ≡ end.state.lanes
          → ◌≡◌ {A = Page} (record { edition = n; settings = map (λ (x : Lane). x.given) ls }) (own_page end)
      own_same n ls e f = rw (e, f) refl

  restart_held : RestartHeld es
  unfolding RestartHeld RestartHeldPages
  restart_held past rest e q k h c = restart-held-pages gs l.setup (calls_of es) l.read past rest e (l.answers ∙ q) k h c

  drains : Drains es
  unfolding Drains DrainsPages device_step_by
  drains past rest e q c =
      let two = device-split (fresh_device gs) (calls_of es) past (e ∷ rest) l.read (l.answers ∙ q) in
      let d = device_after (fresh_device gs) two.calls in
      let same : event_of d (ruled take) ≡ e = ap (event_of d) (sym c) ∙ first-is d two.more e rest two.rest_is in (
        subst (λ (x : DeviceEvent). HandsOut x.reply ⊎ (x.reply ≡ answered (refused 16 none))) same (take_gives d.state),
        λ f more h none_held r.
            (drains-pages gs l.setup (calls_of es) l.read past more e f (l.answers ∙ q ∙ ap (λ (xs : List DeviceEvent). past ++ e ∷ xs) h) c).1 none_held r,
      )

  offer_told : OfferTold gs es
  unfolding OfferTold OfferAnswers
  offer_told past rest e p q c =
      let two = device-split (fresh_device gs) (calls_of es) past (e ∷ rest) l.read (l.answers ∙ q) in
      let d = device_after (fresh_device gs) two.calls in
      let same : event_of d (offer p) ≡ e = ap (event_of d) (sym c) ∙ first-is d two.more e rest two.rest_is in
      sym (ap (λ (x : DeviceEvent). x.reply) same)
      ∙ subst (λ (xs : List DeviceEvent). (device_step d (offer p)).reply ≡ (if leb p.edition (newest (start_page gs) xs).edition then answered (refused 60 none) else if any_held xs then waits_now else in_force_now))
      two.past_is (offer-answers gs l.setup two.calls two.calls_read p)

  free_change : FreeChange gs es
  unfolding FreeChange FreeAtChange
  free_change past rest e q = free-at-change gs l.setup (calls_of es) l.read past rest e (l.answers ∙ q)

  pub demands : Demands gs es u
  demands = record {
    led = l;
    fair = fair-calls;
    fair_tight = fair-tight-calls gs es u l;
    compared = compared-calls gs es u l;
    compared_tight = compared-tight-calls gs es u l;
    even = even-calls gs es u l;
    even_tight = even-tight-calls gs es u l;
    others_tight = others-tight-calls gs es u l;
    waiting = waiting-calls gs es u l;
    same_setup = same_setup;
    endless = endless-calls gs es u l;
    clock_early = clock_early gs es u l;
    never_ten = never_ten;
    order = order-kept;
    setup_kept = setup-kept-calls;
    restart_held = restart_held;
    drains = drains;
    ahead = ahead-told gs es u l;
    drained = drained-table gs es u l;
    offer_told = offer_told;
    free_change = free_change;
  }

pub every-list : EveryList
unfolding EveryList
every-list gs first calls t u l ch = demands gs (first ++ calls) u (led_on gs first calls t u l ch)

pub after-make : AfterMake
unfolding AfterMake
after-make gs t u calls b ch = demands gs calls u (led_on gs [] calls t u (by-make gs t b) ch)

pub after-restart : AfterRestart
unfolding AfterRestart
after-restart before t u a calls g p e ch = demands _ _ u (led_on _ _ calls t u (by-restart before t a g p e) ch)

pub as-ruled : AsRuled
unfolding AsRuled
as-ruled gs t u calls b ch = let l = led_on gs [] calls t u (by-make gs t b) ch in (l.answers, l.table)
