-- The other promises, of lists with offers.
--
--   RestartHeldPages   wherever a lane holds a record by the count, a restart gives 15
--   NeverTenPages      no answer in such a list is 10, with a place or without
--   DrainsPages        a take hands a record out or gives 16, and a restart right after a 16 is accepted
--   WithoutOffers      a list with no offer, as a session's, is one of the rules, and its setup stays in force
--
-- Assumes nothing.
use Rattle.std.specs.Prelude.{ℕ, ◌≡◌, List, ◌∷◌, ◌++◌, map, ◌⊎◌}
use Rattle.std.proofs.Math.Option.{Option, none}
use Rattle.rules.specs.State.{Setting}
use Rattle.rules.specs.Setup.{Setup}
use Rattle.rules.specs.Calls.{Call, take, restart, taken, restarted, refused, fresh}
use Rattle.rules.specs.Runs.{after, trace}
use Rattle.pages.specs.Device.{start_page, fresh_device, DeviceCall, ruled, DeviceReply, answered}
use Rattle.pages.specs.Offers.{device_after, DeviceEvent, device_trace, AllRead, of_rules, Held, page_in}

-- R19.15
unfoldable pub RestartHeldPages : Type 0
RestartHeldPages =
    (gs : List Setting) → Setup gs → (calls : List DeviceCall) → AllRead calls
    → (past rest : List DeviceEvent) (e : DeviceEvent) → device_trace (fresh_device gs) calls ≡ past ++ (e ∷ rest)
    → (k : ℕ) → Held k past → e.call ≡ ruled restart → e.reply ≡ answered (refused 15 none)

-- R19.15
unfoldable pub NeverTenPages : Type 0
NeverTenPages =
    (gs : List Setting) → Setup gs → (calls : List DeviceCall) → AllRead calls
    → (past rest : List DeviceEvent) (e : DeviceEvent) (p : Option ℕ) → device_trace (fresh_device gs) calls ≡ past ++ (e ∷ rest) → e.reply ≡ answered (refused 10 p) → ⊥

-- an answer hands a record out
pub record HandsOut (r : DeviceReply) : Type 0 where
  pub lane : ℕ
  pub train : ℕ
  pub mark : ℕ
  pub len : ℕ
  pub is : r ≡ answered (taken lane train mark len)

-- R19.15
unfoldable pub DrainsPages : Type 0
DrainsPages =
    (gs : List Setting) → Setup gs → (calls : List DeviceCall) → AllRead calls
    → (past rest : List DeviceEvent) (e f : DeviceEvent) → device_trace (fresh_device gs) calls ≡ past ++ (e ∷ f ∷ rest) → e.call ≡ ruled take
    → (HandsOut e.reply ⊎ (e.reply ≡ answered (refused 16 none)))
    × (e.reply ≡ answered (refused 16 none) → f.call ≡ ruled restart → f.reply ≡ answered restarted)

-- R19.15
unfoldable pub WithoutOffers : Type 0
WithoutOffers =
    (gs : List Setting) (calls : List Call)
    → (of_rules (device_trace (fresh_device gs) (map ruled calls)) ≡ trace (fresh gs) calls)
    × (device_after (fresh_device gs) (map ruled calls) ≡ record { state = after (fresh gs) calls; edition = 0; waiting = none })
    × (page_in gs (device_trace (fresh_device gs) (map ruled calls)) ≡ start_page gs)
