-- The fields behind a session's setup (docs/RULES.md, R10), and the refusals 1 to 3 with their places.
--
--   request_size     how long the value of a known tag is
--   head_at          the header at a place, judged
--   call_of          the request of a tag, from the bytes of its value
--   request_item_at   what stands at a place: a request, the end field, or a refusal
--   call_by_number    the request of a tag, from its value as one number
--
-- Assumes nothing.
use Rattle.std.specs.Prelude as core
use Rattle.std.specs.Prelude.{ℕ, ◌+◌, ◌/◌, ◌%◌, ◌^◌, ◌≡◌, ◌||◌, List, leb, eqb, length, Some, None, Result, Ok, Err, if◌then◌else◌}
use Rattle.std.proofs.Math.Option.{Option, none, some}
use Rattle.fields.specs.Bytes.{byte_at, big}
use Rattle.fields.specs.Header.{header_at}
use Rattle.fields.specs.declared.Field.{Field}
use Rattle.fields.specs.declared.Field.TheVariants.{Nothing, Cut, Header}
use Rattle.rules.specs.Calls.{Call, put, take, look, sets, lag, restart}
use Rattle.rules.specs.Reads.{number, place_of}
use Rattle.rules.specs.declared.Refusal.{Refusal}
use Rattle.requests.specs.declared.Request as Request

-- R10.1: the tags that this part knows, each with the one length that is right for it; 0x26 is a put with a train.
abbrev pub request_size : ℕ → Option ℕ
request_size t =
    if eqb t 32 then some 7
    else (if eqb t 38 then some 8
    else (if eqb t 36 then some 1
    else (if eqb t 33 || (eqb t 34 || (eqb t 35 || (eqb t 37 || eqb t 127))) then some 0 else none)))

-- A tag and the length of its value, or a refusal's number and its place.
pub data Heading : Type 0 where
  right : ℕ → ℕ → Heading
  wrong : ℕ → Option ℕ → Heading

-- R10.2: R14.3, then R14.4
abbrev pub sized : ℕ → ℕ → ℕ → Option ℕ → Heading
sized at tag n none = wrong 2 (some at)
sized at tag n (some k) = if eqb n k then right tag n else wrong 3 (some at)

-- R10.2, R14.2 of a header
abbrev pub headed : List ℕ → ℕ → Field → Heading
headed s at Nothing = wrong 1 (some (length s))
headed s at Cut = wrong 1 (some at)
headed s at (Header tag value n) = sized at tag n (request_size tag)

unfoldable pub head_at : List ℕ → ℕ → Heading
head_at s at = headed s at (header_at s at)

-- A request and the place behind it; the end field and the place behind it; or a refusal's number and its place.
pub data RequestItem : Type 0 where
  request : Call → ℕ → RequestItem
  last : ℕ → RequestItem
  bad_request : ℕ → Option ℕ → RequestItem

-- R10.1, R10.3: no number is judged here, for the call does that. 0x26 is a put with its train behind the lane, 0x20 one of train 0.
unfoldable pub call_of : List ℕ → ℕ → ℕ → Call
call_of s tag at =
    if eqb tag 32 then put (byte_at s at) 0 (big s (at + 1) 4) (big s (at + 5) 2)
    else (if eqb tag 38 then put (byte_at s at) (byte_at s (at + 1)) (big s (at + 2) 4) (big s (at + 6) 2)
    else (if eqb tag 33 then take
    else (if eqb tag 34 then look
    else (if eqb tag 35 then sets
    else (if eqb tag 36 then lag (byte_at s at) else restart)))))

-- R10.2, R14.2 of a value, after all that is wrong with the header
abbrev pub valued : List ℕ → ℕ → Heading → RequestItem
valued s at (wrong n p) = bad_request n p
valued s at (right tag n) =
    if leb (at + 3 + n) (length s) then (if eqb tag 127 then last (at + 3 + n) else request (call_of s tag (at + 3)) (at + 3 + n))
    else bad_request 1 (some at)

-- R10.2, R14.36
unfoldable pub request_item_at : List ℕ → ℕ → RequestItem
request_item_at s at = valued s at (head_at s at)

-- ---- the code's own

abbrev pub size_is : core.Option ℕ → Option ℕ
size_is None = none
size_is (Some n) = some n

abbrev pub head_is : Result (ℕ × ℕ) Refusal → Heading
head_is (Ok h) = right h.0 h.1
head_is (Err x) = wrong (number x) (place_of x)

abbrev pub call_is : Request.Request → Call
call_is (Request.TheVariants.Put j t m n) = put j t m n.0
call_is Request.TheVariants.Take = take
call_is Request.TheVariants.Look = look
call_is Request.TheVariants.Sets = sets
call_is (Request.TheVariants.Lag j) = lag j
call_is Request.TheVariants.Restart = restart

-- a request that was read at once is the one that stands at the place
abbrev pub Quickly : List ℕ → ℕ → core.Option (Request.Request × ℕ) → Type 0
Quickly s at (Some q) = request_item_at s at ≡ request (call_is q.0) q.1
Quickly s at None = Unit

-- the value as one number, high byte first: proofs/Values.antt shows that this is `call_of`
unfoldable pub call_by_number : ℕ → ℕ → Call
call_by_number tag x =
    if eqb tag 32 then put (x / 2 ^ 48 % 2 ^ 8) 0 (x / 2 ^ 16 % 2 ^ 32) (x % 2 ^ 16)
    else (if eqb tag 38 then put (x / 2 ^ 56 % 2 ^ 8) (x / 2 ^ 48 % 2 ^ 8) (x / 2 ^ 16 % 2 ^ 32) (x % 2 ^ 16)
    else (if eqb tag 33 then take
    else (if eqb tag 34 then look
    else (if eqb tag 35 then sets
    else (if eqb tag 36 then lag (x % 2 ^ 8) else restart)))))
