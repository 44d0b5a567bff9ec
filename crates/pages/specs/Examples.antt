-- A plan sent over the air while a record waits, computed.
--
--   one_lane, page_lanes   the setup that the table was made with, and the page's
--   offered_page         the offer of a page
--   OverTheAir          the answers, call by call, and the page in force after the take and before it
--
-- Assumes nothing.
use Rattle.std.specs.Prelude.{ℕ, ◌≡◌, false, List, [], ◌∷◌, ◌++◌, map, replicate}
use Rattle.std.proofs.Math.Option.{none}
use Rattle.rules.specs.State.{Setting, no_setting}
use Rattle.rules.specs.Calls.{put, take, restart, accepted, taken, restarted, refused}
use Rattle.pages.specs.Device.{Page, fresh_device, DeviceCall, ruled, offer, DeviceReply, answered, in_force_now, waits_now}
use Rattle.pages.specs.Offers.{DeviceEvent, device_trace, page_in}

abbrev pub one_lane : List Setting
one_lane = record { weight = 512; longest = 1500; framing = 0; shared = false } ∷ replicate 63 no_setting

abbrev pub page_lanes : List Setting
page_lanes = record { weight = 256; longest = 64; framing = 7; shared = false } ∷ record { weight = 512; longest = 576; framing = 7; shared = false } ∷ replicate 62 no_setting

abbrev pub offered_page : ℕ → List Setting → DeviceCall
offered_page n gs = offer (record { edition = n; settings = gs })

-- A record waits in lane 0; the page of edition 3 comes and waits; one of edition 2 is late. Lane 1 is not there yet. The take hands out the last record, by
-- the old setup.
abbrev pub calls_before : List DeviceCall
calls_before = ruled (put 0 0 1 1000) ∷ offered_page 3 page_lanes ∷ offered_page 2 one_lane ∷ ruled (put 1 0 2 500) ∷ []

-- After it lane 1 is there, and lane 0's longest is 64. A restart keeps the edition: 3 is refused, and 4, with nothing held, is in force at once.
abbrev pub calls_behind : List DeviceCall
calls_behind = ruled take ∷ ruled (put 1 0 3 500) ∷ ruled (put 0 0 4 65) ∷ ruled take ∷ ruled restart ∷ offered_page 3 page_lanes ∷ offered_page 4 one_lane ∷ []

abbrev pub device_replies : List DeviceEvent → List DeviceReply
device_replies es = map (λ (e : DeviceEvent). e.reply) es

-- R19.18
unfoldable pub OverTheAir : Type 0
OverTheAir =
    (device_replies (device_trace (fresh_device one_lane) (calls_before ++ calls_behind))
    ≡ answered (accepted 0) ∷ waits_now ∷ answered (refused 60 none) ∷ answered (refused 11 none)
    ∷ answered (taken 0 0 1 1000) ∷ answered (accepted 0) ∷ answered (refused 12 none) ∷ answered (taken 1 0 3 500) ∷ answered restarted ∷ answered (refused 60 none) ∷ in_force_now ∷ [])
    × (◌≡◌ {A = Page} (page_in one_lane (device_trace (fresh_device one_lane) calls_before)) (record { edition = 0; settings = one_lane }))
    × (◌≡◌ {A = Page} (page_in one_lane (device_trace (fresh_device one_lane) (calls_before ++ (ruled take ∷ [])))) (record { edition = 3; settings = page_lanes }))
