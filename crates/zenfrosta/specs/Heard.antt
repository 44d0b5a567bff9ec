-- R13.8: lists of exported calls, by what a host gets of each: a result, and the four words in its buffer.
--
--   heard       the reply that a result and four words tell, by the call that was made; heard_offer: of an offer
--   Crossed     a list of exported calls, each on the bytes that the last one left, with the replies that the host heard. A call that gave 255 adds nothing
--   HostLists   on a table that a list led to, such a list is one of public calls: what the host heard is what they answered, and all of `Demands` holds of it
--   HostMakes   zf_make gave 0: a list may begin with its table
--
-- So what R15.6 and R15.7 count, and a train's bytes, is counted from what crossed to the host: a take that gave 0 sent a record of the lane in word 0, of the
-- length in word 2 and of the train in word 3; a put that gave 0 was accepted; a result of 10 never comes. Assumes nothing.
use Rattle.std.specs.Prelude.{ℕ, ◌≤◌, ◌<◌, ◌≡◌, List, [], ◌∷◌, ◌++◌, eqb, length, if◌then◌else◌}
use Rattle.std.proofs.Math.Option.{none, some}
use Rattle.std.specs.Int.{w64}
use Rattle.std.proofs.Common.{to_z}
use Rattle.rules.specs.State.{Setting}
use Rattle.rules.specs.Calls.{Call, put, take, look, sets, lag, restart, Reply, accepted, taken, seen, words, lagged, restarted, refused}
use Rattle.pages.specs.Device.{ruled, DeviceReply, answered, in_force_now, waits_now}
use Rattle.pages.specs.Offers.{DeviceEvent}
use Rattle.plan.specs.Read.{setup_read, read_setup}
use Rattle.scheduler.specs.Step.{offered}
use Rattle.scheduler.specs.Chain.{Chain, Led}
use Rattle.scheduler.specs.Demands.{Demands}
use Rattle.zenfrosta.specs.Crossing.{words_in, buffer_size, CrossesCall, CrossesMaking, CrossesOffer}
use Rattle.zenfrosta.specs.declared.Four.{Four}

-- a call that gave 0
abbrev pub heard_done : Call → Four → Reply
heard_done (put j k m n) w = accepted w.a
heard_done take w = taken w.a w.d w.b w.c
heard_done look w = seen w.a w.d w.b w.c
heard_done sets w = words w.a w.b w.c w.d
heard_done (lag j) w = lagged (to_z w64 w.a)
heard_done restart w = restarted

unfoldable pub heard : Call → ℕ → Four → Reply
heard c r w = if eqb r 0 then heard_done c w else refused r (if eqb w.b 1 then some w.a else none)

-- R19.17: an offer that gave 0 is in force, or waits, by word 0
unfoldable pub heard_offer : ℕ → Four → DeviceReply
heard_offer r w =
    if eqb r 0 then (if eqb w.a 0 then in_force_now else waits_now)
    else answered (refused r (if eqb w.b 1 then some w.a else none))

pub data Crossed : List ℕ → List DeviceEvent → List ℕ → Type 0 where
  nothing : {t : List ℕ} → Crossed t [] t
  short : {t u v out out' : List ℕ} {c : Call} {r : ℕ} {es : List DeviceEvent} → length out < buffer_size → CrossesCall c t u out r out' → Crossed u es v
      → Crossed t es v
  whole : {t u v out out' : List ℕ} {c : Call} {r : ℕ} {es : List DeviceEvent} → buffer_size ≤ length out → CrossesCall c t u out r out' → Crossed u es v
      → Crossed t (record { call = ruled c; reply = answered (heard c r (words_in out')) } ∷ es) v
  short_offer : {t u v out out' : List ℕ} {r : ℕ} {es : List DeviceEvent} (bytes : List ℕ) → length out < buffer_size
      → CrossesOffer bytes t u out r out' → Crossed u es v → Crossed t es v
  whole_offer : {t u v out out' : List ℕ} {r : ℕ} {es : List DeviceEvent} (bytes : List ℕ) → buffer_size ≤ length out
      → CrossesOffer bytes t u out r out' → Crossed u es v
      → Crossed t (record { call = offered bytes; reply = heard_offer r (words_in out') } ∷ es) v

unfoldable pub HostLists : Type 0
HostLists =
    (gs : List Setting) (first calls : List DeviceEvent) (t u : List ℕ) → Led gs first t → Crossed t calls u
    → Chain t calls u × Demands gs (first ++ calls) u

-- the setup that zf_make read, and its number of lanes, which is word 0
pub record Begun (setup t out : List ℕ) : Type 0 where
  pub settings : List Setting
  pub format : ℕ
  pub at : ℕ
  pub reads_it : read_setup setup ≡ setup_read format settings (words_in out).a at
  pub led : Led settings [] t

unfoldable pub HostMakes : Type 0
HostMakes =
    (setup before t out out' : List ℕ) (r : ℕ) → CrossesMaking setup before t out r out' → r ≡ 0
    → Begun setup t out'
