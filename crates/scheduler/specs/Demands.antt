-- What holds of every list of public calls, offers of settings pages among them, from the fresh table of a setup: the demands, of the calls' own answers. Each
-- is said once, of a list that led to a table; a list begins with `make`, with an accepted restart, or with a session's run (zenfrosta/specs/AfterRun.antt).
--
-- Records and bytes are counted over `of_rules` of a list, which leaves the offers out. The setup in force (`in_force`, crate pages) is counted
-- from the list, too: that of the page last accepted by the last point at which nothing was held.
--
--   FairCalls      R15.8 (demand 3): a busy lane's share
--   SameSetup      the setup in force stays the same throughout such a stretch
--   NeverTen       R6.13, R15.11: no call is answered by 10, and the table after the list is good
--   OrderKept      R15.12: each accepted record is handed out once, in its train's order, or is still held; a lane that is not shared has the train 0 alone
--   SetupKept      R15.14: the table's edition and setup are those of the page in force
--   RestartHeld    R15.14: while a lane holds, a restart gives 15
--   Drains         R15.15: a unit can always be drained and restarted; Drained: how many takes that needs
--   OfferTold      what an offer answers; FreeChange: nothing is held where a page comes into force
--   Demands        R15.4: all of them, and R15.2 (demand 2)
--   EveryList      R15.4, the claim: a list of public calls on a table that a list led to
--   AfterMake      .. that `make` left; AfterRestart: that an accepted restart left
--   AsRuled        R15.2 alone, after `make`
--
-- Assumes nothing.
use Rattle.std.specs.Prelude.{ℕ, ◌+◌, ◌*◌, ◌<◌, ◌≡◌, ◌⊎◌, List, [], ◌∷◌, ◌++◌, leb, eqb, if◌then◌else◌}
use Rattle.std.proofs.Math.Option.{Option, none}
use Rattle.units.specs.Numbers.{line_rate}
use Rattle.waiting.specs.Waiting.{queue_of}
use Rattle.rules.specs.State.{Setting, setting_at, rate, slot, lane_at, setup_of}
use Rattle.rules.specs.Setup.{framing_of, margin}
use Rattle.rules.specs.Calls.{take, restart, restarted, refused}
use Rattle.rules.specs.Reads.{reads}
use Rattle.rules.specs.Runs.{accepted_of, sent_of, of_train}
use Rattle.rules.specs.Fair.{bytes_sent, bytes_sent_of}
use Rattle.rules.specs.declared.Answer.{Answer}
use Rattle.std.specs.Prelude.{Result}
use Rattle.rules.specs.declared.Refusal.{Refusal}
use Rattle.pages.specs.Device.{Page, Device, start_page, fresh_device, ruled, offer, answered, in_force_now, waits_now}
use Rattle.pages.specs.Offers.{DeviceEvent, device_after, device_trace, of_rules, Held, any_held, newest, page_in, in_force}
use Rattle.pages.specs.Claims.{own_page, HeldThroughout}
use Rattle.pages.specs.Carried.{HandsOut}
use Rattle.editions.specs.Part.{last_in}
use Rattle.table.specs.Means.{meant}
use Rattle.paged.specs.Paged.{part_of, EncodesDevice, GoodUnit}
use Rattle.scheduler.specs.Step.{Step}
use Rattle.scheduler.specs.Chain.{Chain, Begins, Led}
use Rattle.scheduler.specs.Ahead.{AheadTold}
use Rattle.scheduler.specs.Compared.{ComparedCalls, ComparedTightCalls, FairTightCalls}
use Rattle.scheduler.specs.Even.{EvenCalls, EvenTightCalls, OthersTightCalls}
use Rattle.scheduler.specs.Waits.{WaitingCalls}
use Rattle.scheduler.specs.Drained.{Drained}
use Rattle.scheduler.specs.Endless.{EndlessCalls, ClockEarly}
pub use Rattle.scheduler.specs.Chain.{calls_of}

-- ---- of a list es from the fresh table of the setup gs, which led to the bytes u

-- R15.8: for any lane and any stretch of the list (what comes before it, the stretch, what follows) in which the lane holds a record before the stretch and
-- after each call in it, with T the bytes sent in the stretch and O those of this lane: 1,024 T < c O + 4 slots + 1,024 (1,500 + h), by the setup in force.
-- Refused calls are in the list.
unfoldable pub FairCalls : List Setting → List DeviceEvent → Type 0
FairCalls gs es =
    (past stretch rest : List DeviceEvent) → es ≡ past ++ stretch ++ rest
    → (k : ℕ) → HeldThroughout k past stretch
    → line_rate * bytes_sent (in_force gs past) (of_rules stretch)
    < rate (setting_at (in_force gs past) k) * bytes_sent_of (in_force gs past) k (of_rules stretch) + 4 * slot (setting_at (in_force gs past) k) + margin (framing_of (in_force gs past))

-- R19.14: no such stretch spans a change of setup; that is no premise above, it follows
unfoldable pub SameSetup : List Setting → List DeviceEvent → Type 0
SameSetup gs es =
    (past stretch rest : List DeviceEvent) → es ≡ past ++ stretch ++ rest
    → (k : ℕ) → HeldThroughout k past stretch → (p q : List DeviceEvent) → p ++ q ≡ stretch → page_in gs (past ++ p) ≡ page_in gs past

unfoldable pub NeverTen : List DeviceEvent → List ℕ → Type 0
NeverTen es u = GoodUnit u × ((past rest : List DeviceEvent) (e : DeviceEvent) (p : Option ℕ) → es ≡ past ++ e ∷ rest → e.reply ≡ answered (refused 10 p) → ⊥)

unfoldable pub OrderKept : List DeviceEvent → List ℕ → Type 0
OrderKept es u =
    (d : Device) → EncodesDevice u d
    → (k t : ℕ) → of_train t (accepted_of k (of_rules es)) ≡ of_train t (sent_of k (of_rules es)) ++ queue_of (lane_at d.state k).waiting t

-- R19.13
unfoldable pub SetupKept : List Setting → List DeviceEvent → List ℕ → Type 0
SetupKept gs es u = (d : Device) → EncodesDevice u d → own_page d ≡ page_in gs es

-- R15.14: wherever a lane holds a record by the list's own count, as before a stretch of R15.8 and after each call in it, the next call, if it is a restart,
-- gives 15.
unfoldable pub RestartHeld : List DeviceEvent → Type 0
RestartHeld es =
    (past rest : List DeviceEvent) (e : DeviceEvent) → es ≡ past ++ e ∷ rest
    → (k : ℕ) → Held k past → e.call ≡ ruled restart → e.reply ≡ answered (refused 15 none)

-- Whatever the clock: each take hands a record out or gives 16, and a restart right after a 16 is accepted.
unfoldable pub Drains : List DeviceEvent → Type 0
Drains es =
    (past rest : List DeviceEvent) (e : DeviceEvent) → es ≡ past ++ e ∷ rest → e.call ≡ ruled take
    → (HandsOut e.reply ⊎ (e.reply ≡ answered (refused 16 none)))
    × ((f : DeviceEvent) (more : List DeviceEvent) → rest ≡ f ∷ more → e.reply ≡ answered (refused 16 none) → f.call ≡ ruled restart → f.reply ≡ answered restarted)

-- R19.14.
-- Of a page that was read: 60 where its edition is not above that of the page last accepted, in force or waiting; else it waits exactly if a lane holds a record.
unfoldable pub OfferTold : List Setting → List DeviceEvent → Type 0
OfferTold gs es =
    (past rest : List DeviceEvent) (e : DeviceEvent) (p : Page) → es ≡ past ++ e ∷ rest → e.call ≡ offer p
    → e.reply ≡ (if leb p.edition (newest (start_page gs) past).edition then answered (refused 60 none) else if any_held past then waits_now else in_force_now)

-- R19.14: A call after which a lane holds a record leaves the page in force, and an offer that is in force at once found nothing held.
unfoldable pub FreeChange : List Setting → List DeviceEvent → Type 0
FreeChange gs es =
    (past rest : List DeviceEvent) (e : DeviceEvent) → es ≡ past ++ e ∷ rest
    → ((k : ℕ) → Held k (past ++ (e ∷ [])) → page_in gs (past ++ (e ∷ [])) ≡ page_in gs past)
    × (e.reply ≡ in_force_now → (k : ℕ) → Held k past → ⊥)

pub record Demands (gs : List Setting) (es : List DeviceEvent) (u : List ℕ) : Type 0 where
  -- R15.2: every answer, and the table after the list, is what the rules give; so the list may go on
  pub led : Led gs es u
  pub fair : FairCalls gs es
  pub fair_tight : FairTightCalls gs es
  pub compared : ComparedCalls gs es
  pub compared_tight : ComparedTightCalls gs es
  pub even : EvenCalls gs es
  pub even_tight : EvenTightCalls gs es
  pub others_tight : OthersTightCalls gs es
  -- how long one record waits
  pub waiting : WaitingCalls gs es
  pub same_setup : SameSetup gs es
  pub endless : EndlessCalls gs es u
  pub clock_early : ClockEarly u
  pub never_ten : NeverTen es u
  pub order : OrderKept es u
  pub setup_kept : SetupKept gs es u
  pub restart_held : RestartHeld es
  pub drains : Drains es
  pub ahead : AheadTold gs es
  pub drained : Drained u
  pub offer_told : OfferTold gs es
  pub free_change : FreeChange gs es

-- ---- the claim, and how a list begins

unfoldable pub EveryList : Type 0
EveryList = (gs : List Setting) (first calls : List DeviceEvent) (t u : List ℕ) → Led gs first t → Chain t calls u → Demands gs (first ++ calls) u

unfoldable pub AfterMake : Type 0
AfterMake = (gs : List Setting) (t u : List ℕ) (calls : List DeviceEvent) → Begins gs t → Chain t calls u → Demands gs calls u

-- A table keeps its last edition over a restart. So what follows goes as if the list had begun with the offer of that page, which was in force at once; where no
-- page was ever taken, there is no such offer.
unfoldable pub own_offer : ℕ → List Setting → List DeviceEvent
own_offer edition gs = if eqb edition 0 then [] else record { call = offer (record { edition = edition; settings = gs }); reply = in_force_now } ∷ []

-- a good table of any origin, and its own setup
unfoldable pub AfterRestart : Type 0
AfterRestart =
    (before t u : List ℕ) (a : Result Answer Refusal) (calls : List DeviceEvent) → GoodUnit before → Step restart before a t → reads a ≡ restarted
    → Chain t calls u → Demands (setup_of (meant before)) (own_offer (last_in (part_of before)) (setup_of (meant before)) ++ calls) u

unfoldable pub AsRuled : Type 0
AsRuled =
    (gs : List Setting) (t u : List ℕ) (calls : List DeviceEvent) → Begins gs t → Chain t calls u
    → (device_trace (fresh_device gs) (calls_of calls) ≡ calls) × EncodesDevice u (device_after (fresh_device gs) (calls_of calls))
