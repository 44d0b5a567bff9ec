-- What holds of every list of calls, offers of pages included, from a fresh unit of any setup.
--
--   GoodDevice                     a good table, its waiting page included
--   AlwaysGoodDevice               no call ever leaves another
--   InForceCounted                 the page in force, counted from the events, is the unit's own
--   OnePart, InOnePart             a stretch in which a lane holds throughout is a stretch of a run of the rules
--   FairPages M                    demand 3, by the setup in force where the stretch begins: Demand3Pages as asked, FairTightPages with the setup's own figure
--   ComparedPages M                two busy lanes compared (i): TwoLanesPages as asked, ComparedTightPages with the setup's own figure
--   OthersPages, EvenTrainsPages   trains of one lane (l)
--   SameSetupThroughout            that setup stays in force throughout the stretch
--   InOrderPages                   each accepted record is handed out once, in its train's order, or still held, over the changes of setup too
--   SaysAheadPages                 the number that an accepted put answers (b)
--   RefusedKeeps                   a refused call changes nothing
--   OfferAnswers                   what an offer answers, from the events before it
--   FreeAtChange                   a page comes into force only where no lane holds a record
--
-- Assumes nothing.
use Rattle.std.specs.Prelude.{ℕ, ◌+◌, ◌*◌, ◌≤◌, ◌<◌, ◌≡◌, true, List, [], ◌∷◌, ◌++◌, leb, length, if◌then◌else◌}
use Rattle.std.proofs.Math.Option.{Option, none, some}
use Rattle.units.specs.Numbers.{line_rate}
use Rattle.rules.specs.State.{Setting, setting_at, lane_at, setup_of, rate, slot, any_holds}
use Rattle.rules.specs.Setup.{Setup, framing_of, longest_charge, margin}
use Rattle.rules.specs.Calls.{Call, put, accepted, refused, fresh}
use Rattle.rules.specs.Runs.{Event, trace, accepted_of, sent_of, of_train}
use Rattle.rules.specs.Fair.{bytes_sent, bytes_sent_of, Holding}
use Rattle.rules.specs.Even.{HoldingTrain, train_bytes}
use Rattle.rounds.specs.Round.{train_depth}
use Rattle.waiting.specs.Waiting.{lane_depth, queue_of}
use Rattle.rules.specs.Good.{Good}
use Rattle.pages.specs.Device.{Page, Device, start_page, fresh_device, DeviceCall, ruled, offer, answered, in_force_now, waits_now, device_step}
use Rattle.pages.specs.Offers.{device_after, DeviceEvent, device_trace, AllRead, of_rules, Held, any_held, newest, page_in, in_force}

-- R19.10, R19.11: a page waits only while a record is held; its settings are a setup within the numbers, and its edition is above the last one taken
unfoldable pub GoodPage : Device → Option Page → Type 0
GoodPage d none = Unit {0}
GoodPage d (some p) = (any_holds d.state.lanes ≡ true) × Setup p.settings × (d.edition < p.edition)

-- R19.11
pub record GoodDevice (d : Device) : Type 0 where
  pub state : Good d.state
  pub waiting : GoodPage d d.waiting

-- R19.15
unfoldable pub AlwaysGoodDevice : Type 0
AlwaysGoodDevice = (gs : List Setting) → Setup gs → (calls : List DeviceCall) → AllRead calls → GoodDevice (device_after (fresh_device gs) calls)

-- the unit's own page in force
abbrev pub own_page : Device → Page
own_page d = record { edition = d.edition; settings = setup_of d.state }

-- R19.13
unfoldable pub InForceCounted : Type 0
InForceCounted =
    (gs : List Setting) → Setup gs → (calls : List DeviceCall) → AllRead calls
    → own_page (device_after (fresh_device gs) calls) ≡ page_in gs (device_trace (fresh_device gs) calls)

-- a lane holds a record before the stretch and after each call in it
abbrev pub HeldThroughout : ℕ → List DeviceEvent → List DeviceEvent → Type 0
HeldThroughout k past stretch = (p q : List DeviceEvent) → p ++ q ≡ stretch → Held k (past ++ p)

-- Such a stretch lies in one part: its events are those of a run of the rules from the fresh state of the setup in force, and what a lane holds throughout
-- by the count over the whole list it holds throughout by the count over that run. So every claim of the rules about stretches is one about these.
pub record OnePart (gs : List Setting) (past stretch : List DeviceEvent) : Type 0 where
  pub setup : Setup (in_force gs past)
  pub before : List Call
  pub during : List Call
  pub events : trace (fresh (in_force gs past)) (before ++ during) ≡ trace (fresh (in_force gs past)) before ++ of_rules stretch ++ []
  pub holding : (j : ℕ) → HeldThroughout j past stretch → (p q : List Event) → p ++ q ≡ of_rules stretch → Holding j (trace (fresh (in_force gs past)) before ++ p)
  pub trains : (j t : ℕ) → ((p q : List DeviceEvent) → p ++ q ≡ stretch → HoldingTrain j t (of_rules (past ++ p)))
      → (p q : List Event) → p ++ q ≡ of_rules stretch → HoldingTrain j t (trace (fresh (in_force gs past)) before ++ p)

-- R19.14
unfoldable pub InOnePart : Type 0
InOnePart =
    (gs : List Setting) → Setup gs → (calls : List DeviceCall) → AllRead calls
    → (past stretch rest : List DeviceEvent) → device_trace (fresh_device gs) calls ≡ past ++ stretch ++ rest
    → (k : ℕ) → HeldThroughout k past stretch → OnePart gs past stretch

-- c, the slot and what is charged are those of the setup in force where the stretch begins; M may differ with the setup
unfoldable pub FairPages : (List Setting → ℕ) → Type 0
FairPages M =
    (gs : List Setting) → Setup gs → (calls : List DeviceCall) → AllRead calls
    → (past stretch rest : List DeviceEvent) → device_trace (fresh_device gs) calls ≡ past ++ stretch ++ rest
    → (k : ℕ) → HeldThroughout k past stretch
    → (let g = in_force gs past in
    line_rate * bytes_sent g (of_rules stretch) < rate (setting_at g k) * bytes_sent_of g k (of_rules stretch) + 4 * slot (setting_at g k) + M g)

-- R19.14
unfoldable pub Demand3Pages : Type 0
Demand3Pages = FairPages (λ (gs : List Setting). margin (framing_of gs))

-- R19.14: and with what the costliest record of the setup in force costs the line
unfoldable pub FairTightPages : Type 0
FairTightPages = FairPages (λ (gs : List Setting). line_rate * longest_charge gs)

-- i): two lanes that both hold records throughout
unfoldable pub ComparedPages : (List Setting → ℕ) → Type 0
ComparedPages M =
    (gs : List Setting) → Setup gs → (calls : List DeviceCall) → AllRead calls
    → (past stretch rest : List DeviceEvent) → device_trace (fresh_device gs) calls ≡ past ++ stretch ++ rest
    → (a b : ℕ) → HeldThroughout a past stretch → HeldThroughout b past stretch
    → (let g = in_force gs past in
    rate (setting_at g a) * bytes_sent_of g a (of_rules stretch)
    < rate (setting_at g b) * bytes_sent_of g b (of_rules stretch) + 4 * slot (setting_at g a) + 4 * slot (setting_at g b) + 2 * M g)

-- R19.14
unfoldable pub TwoLanesPages : Type 0
TwoLanesPages = ComparedPages (λ (gs : List Setting). margin (framing_of gs))

-- R19.14
unfoldable pub ComparedTightPages : Type 0
ComparedTightPages = ComparedPages (λ (gs : List Setting). line_rate * longest_charge gs)

-- R19.14: l): a train of a lane that holds records throughout, and any other, which may come and go
unfoldable pub OthersPages : Type 0
OthersPages =
    (gs : List Setting) → Setup gs → (calls : List DeviceCall) → AllRead calls
    → (past stretch rest : List DeviceEvent) → device_trace (fresh_device gs) calls ≡ past ++ stretch ++ rest
    → (k a b : ℕ) → (a ≡ b → ⊥) → ((p q : List DeviceEvent) → p ++ q ≡ stretch → HoldingTrain k a (of_rules (past ++ p)))
    → train_bytes k b (of_rules stretch) + 2 ≤ train_bytes k a (of_rules stretch) + 3 * (setting_at (in_force gs past) k).longest

-- R19.14: and two that both do
unfoldable pub EvenTrainsPages : Type 0
EvenTrainsPages =
    (gs : List Setting) → Setup gs → (calls : List DeviceCall) → AllRead calls
    → (past stretch rest : List DeviceEvent) → device_trace (fresh_device gs) calls ≡ past ++ stretch ++ rest
    → (k a b : ℕ) → (a ≡ b → ⊥)
    → ((p q : List DeviceEvent) → p ++ q ≡ stretch → HoldingTrain k a (of_rules (past ++ p))) → ((p q : List DeviceEvent) → p ++ q ≡ stretch → HoldingTrain k b (of_rules (past ++ p)))
    → train_bytes k a (of_rules stretch) + 2 ≤ train_bytes k b (of_rules stretch) + 3 * (setting_at (in_force gs past) k).longest

-- R19.14: no stretch in which a lane holds throughout spans a change of setup. That is no premise of the claims above; it follows.
unfoldable pub SameSetupThroughout : Type 0
SameSetupThroughout =
    (gs : List Setting) → Setup gs → (calls : List DeviceCall) → AllRead calls
    → (past stretch rest : List DeviceEvent) → device_trace (fresh_device gs) calls ≡ past ++ stretch ++ rest
    → (k : ℕ) → HeldThroughout k past stretch
    → (p q : List DeviceEvent) → p ++ q ≡ stretch → page_in gs (past ++ p) ≡ page_in gs past

-- R19.15.
-- Lanes and trains by number, over the whole list: a number may mean another lane after a change of setup, and the counts stay right, since nothing is held then.
unfoldable pub InOrderPages : Type 0
InOrderPages =
    (gs : List Setting) → Setup gs → (calls : List DeviceCall) → AllRead calls → (k t : ℕ)
    → of_train t (accepted_of k (of_rules (device_trace (fresh_device gs) calls)))
    ≡ of_train t (sent_of k (of_rules (device_trace (fresh_device gs) calls))) ++ queue_of (lane_at (device_after (fresh_device gs) calls).state k).waiting t

-- R19.15.
-- The number that an accepted put answers: of the records of its train that its lane accepted before, over the whole list, those not yet handed out; below the
-- room that the setup in force gives.
unfoldable pub SaysAheadPages : Type 0
SaysAheadPages =
    (gs : List Setting) → Setup gs → (calls : List DeviceCall) → AllRead calls
    → (past rest : List DeviceEvent) (j t m l n : ℕ) → device_trace (fresh_device gs) calls ≡ past ++ (record { call = ruled (put j t m l); reply = answered (accepted n) } ∷ rest)
    → (length (of_train t (accepted_of j (of_rules past))) ≡ length (of_train t (sent_of j (of_rules past))) + n)
    × (n < (if (setting_at (in_force gs past) j).shared then train_depth else lane_depth))

-- R19.7: of an offer and of every other call, on any good unit: the state, the last edition and the waiting page stay
unfoldable pub RefusedKeeps : Type 0
RefusedKeeps =
    (d : Device) → GoodDevice d → (c : DeviceCall) (n : ℕ) (at : Option ℕ) → (device_step d c).reply ≡ answered (refused n at) → (device_step d c).device ≡ d

-- R19.7: 60 where the edition is not above that of the page last accepted; else it waits exactly if some lane holds a record
unfoldable pub OfferAnswers : Type 0
OfferAnswers =
    (gs : List Setting) → Setup gs → (calls : List DeviceCall) → AllRead calls → (p : Page)
    → (device_step (device_after (fresh_device gs) calls) (offer p)).reply
    ≡ (let es = device_trace (fresh_device gs) calls in
    if leb p.edition (newest (start_page gs) es).edition then answered (refused 60 none) else if any_held es then waits_now else in_force_now)

-- R19.14: A call that changes the edition or the setup leaves no record held, and an offer that is in force at once found none held.
unfoldable pub FreeAtChange : Type 0
FreeAtChange =
    (gs : List Setting) → Setup gs → (calls : List DeviceCall) → AllRead calls
    → (past rest : List DeviceEvent) (e : DeviceEvent) → device_trace (fresh_device gs) calls ≡ past ++ (e ∷ rest)
    → ((k : ℕ) → Held k (past ++ (e ∷ [])) → page_in gs (past ++ (e ∷ [])) ≡ page_in gs past)
    × (e.reply ≡ in_force_now → (k : ℕ) → Held k past → ⊥)
