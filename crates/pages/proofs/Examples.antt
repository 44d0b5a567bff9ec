-- A list of calls with pages, computed: the answers, and the page in force after it, by the events and by the unit. Assumes nothing.
use Prim.Native.Nat.{ℕ}
use mathlib.Core.Path.{◌≡◌, refl}
use mathlib.Core.Bool.{false}
use mathlib.Core.List.{List, [], ◌∷◌, map}
use mathlib.Core.Option.{none, some}
use lib.ListN.{replicate}
use Rattle.rules.specs.State.{Setting, no_setting}
use Rattle.rules.specs.Calls.{put, take, restart, accepted, taken, restarted, refused}
use Rattle.rules.specs.Runs.{sent_in, offered_in, is_accepted, of_lane, accepted_of, sent_of}
use Rattle.rules.proofs.Computes.{rules}
use Rattle.pages.specs.Device.{Page, in_force_of, fresh_device, DeviceCall, ruled, offer, unread, DeviceReply, answered, in_force_now, waits_now, settled_device, newest_edition, do_offer, device_step_by}
use Rattle.pages.specs.Offers.{device_after, DeviceEvent, device_trace, of_rule, of_rules, held_test, any_held, accepted_page, newest, free_from, page_in, device_after_by, device_trace_by}
use Rattle.pages.specs.Examples.{OverTheAir}
use Rattle.pages.specs.Claims.{own_page}

-- one lane, number 0
abbrev one : List Setting
one = record { weight = 512; longest = 1500; framing = 0; shared = false } ∷ replicate 63 no_setting

-- two lanes, 0 and 1
abbrev two : List Setting
two = record { weight = 256; longest = 64; framing = 7; shared = false } ∷ record { weight = 512; longest = 576; framing = 7; shared = false } ∷ replicate 62 no_setting

abbrev of : ℕ → List Setting → DeviceCall
of n gs = offer (record { edition = n; settings = gs })

abbrev no : ℕ → DeviceReply
no n = answered (refused n none)

-- up to the take that hands out the last record
abbrev first : List DeviceCall
first = of 0 two ∷ of 3 one ∷ ruled (put 0 0 1 1000) ∷ ruled (put 1 0 9 100) ∷ of 3 two ∷ of 4 one ∷ of 4 two ∷ of 7 two ∷ ruled restart ∷ unread 2 5 ∷ []

-- and on from there
abbrev then-on : List DeviceCall
then-on = ruled take ∷ of 7 one ∷ ruled (put 0 0 2 65) ∷ ruled (put 1 0 3 500) ∷ ruled take ∷ ruled take ∷ ruled restart ∷ of 7 one ∷ of 8 one ∷ []

abbrev all : List DeviceCall
all = of 0 two ∷ of 3 one ∷ ruled (put 0 0 1 1000) ∷ ruled (put 1 0 9 100) ∷ of 3 two ∷ of 4 one ∷ of 4 two ∷ of 7 two ∷ ruled restart ∷ unread 2 5 ∷ then-on

unfoldable pages : Unit {0}
unfolding rules sent_in offered_in is_accepted of_lane accepted_of sent_of in_force_of settled_device newest_edition do_offer device_step_by device_after_by device_trace_by of_rule of_rules held_test any_held accepted_page newest free_from page_in
pages = tt

pub over-the-air : OverTheAir
unfolding OverTheAir pages
over-the-air = (refl, refl, refl)

-- each refusal of an offer, a page that replaces another, and a page that does not read
answers : map (λ (e : DeviceEvent). e.reply) (device_trace (fresh_device one) all)
    ≡ no 60 ∷ in_force_now ∷ answered (accepted 0) ∷ no 11 ∷ no 60 ∷ waits_now ∷ no 60 ∷ waits_now ∷ no 15 ∷ answered (refused 2 (some 5))
    ∷ answered (taken 0 0 1 1000) ∷ no 60 ∷ no 12 ∷ answered (accepted 0) ∷ answered (taken 1 0 3 500) ∷ no 16 ∷ answered restarted ∷ no 60 ∷ in_force_now ∷ []
unfolding pages
answers = refl

-- before that take the page of edition 3 is in force, and the one of edition 7 waits
before-take : ◌≡◌ {A = Page} (page_in one (device_trace (fresh_device one) first)) (record { edition = 3; settings = one })
unfolding pages
before-take = refl

own-before : ◌≡◌ {A = Page} (own_page (device_after (fresh_device one) first)) (record { edition = 3; settings = one })
unfolding pages
own-before = refl

abbrev to_take : List DeviceCall
to_take = of 0 two ∷ of 3 one ∷ ruled (put 0 0 1 1000) ∷ ruled (put 1 0 9 100) ∷ of 3 two ∷ of 4 one ∷ of 4 two ∷ of 7 two ∷ ruled restart ∷ unread 2 5 ∷ ruled take ∷ []

-- the take's answer doesn't say it, but edition 7 is in force after it
after-take : ◌≡◌ {A = Page} (page_in one (device_trace (fresh_device one) to_take)) (record { edition = 7; settings = two })
unfolding pages
after-take = refl

own-after : ◌≡◌ {A = Page} (own_page (device_after (fresh_device one) to_take)) (record { edition = 7; settings = two })
unfolding pages
own-after = refl
