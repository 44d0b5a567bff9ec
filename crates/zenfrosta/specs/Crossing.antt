-- How an answer crosses to a host in C or Rust: a code, and four words in a lent buffer; and what the exported calls of crates scheduler and session promise.
--
--   code, values   of a reply: 0 or the refusal's number; what stands in the four words
--   make_code, make_values     of making a table; offer_code, offer_values: of an offer's answer; stop_code, run_values: of a run
--   refusal_words   of a refusal: its place, and whether it has one
--   spoken         a buffer with these words at its start; words_in: the words that a host reads there
--   buffer_size     the least size of a buffer, in bytes
--   Crosses        the one rule by which every exported call answers
--   CrossesCall    the promise of zf_put, zf_put_train, zf_take, zf_look, zf_sets, zf_lag and zf_restart
--   CrossesMaking, CrossesOffer, CrossesRun   the promises of zf_make, zf_offer and zf_run
--
-- The promise of an exported call is one definition over the bytes that are lent to it: each area before the call, with a prime what stands there after it,
-- and r, the result. The other calls' promises are in Board, Plans, Old, Views and Halts. Assumes nothing.
use Rattle.std.specs.Prelude.{ℕ, ◌*◌, ◌≤◌, ◌<◌, ◌≡◌, List, length}
use Rattle.std.proofs.Math.Option.{Option, none, some}
use Rattle.std.specs.Int.{w64}
use Rattle.std.proofs.Common.{of_z}
use Rattle.words.specs.Words.{word_at, put_word}
use Rattle.rules.specs.Calls.{Call, Reply, accepted, taken, seen, words, lagged, restarted, refused}
use Rattle.rules.specs.Reads.{reads}
use Rattle.pages.specs.Device.{DeviceReply, answered, in_force_now, waits_now}
use Rattle.scheduler.specs.Step.{Step, offering, OfferStep}
use Rattle.scheduler.specs.Make.{made, not_made, MakeStep, MakeReply, make_reply}
use Rattle.walk.specs.Script.{Why, at_end, at_limit, refusal}
use Rattle.walk.specs.Follows.{why_of}
use Rattle.walk.specs.declared.RunResult.{RunResult}
use Rattle.session.specs.Ran.{Ran}
use Rattle.zenfrosta.specs.declared.Four.{Four}

abbrev pub four : ℕ → ℕ → ℕ → ℕ → Four
four a b c d = record { a = a; b = b; c = c; d = d }

-- R13.3: its place, and 1; 0 and 0 where it has none. 0 is a place too, so the second word says which it is.
abbrev pub refusal_words : Option ℕ → Four
refusal_words none = four 0 0 0 0
refusal_words (some p) = four p 1 0 0

-- R13.1: 0 if the call is done, else the number of the refusal
abbrev pub code : Reply → ℕ
code (accepted n) = 0
code (taken j k m n) = 0
code (seen j k m n) = 0
code (words a b c d) = 0
code (lagged z) = 0
code restarted = 0
code (refused n p) = n

-- R13.1, R13.4. An accepted put: how many of its train its lane held before it. A record: lane, mark, length, train. The sets: their four words. A lag: in
-- two's complement. What is left is 0, and so is the train of a lane that is not shared.
abbrev pub values : Reply → Four
values (accepted n) = four n 0 0 0
values (taken j k m n) = four j m n k
values (seen j k m n) = four j m n k
values (words a b c d) = four a b c d
values (lagged z) = four (of_z w64 z) 0 0 0
values restarted = four 0 0 0 0
values (refused n p) = refusal_words p

abbrev pub make_code : MakeReply → ℕ
make_code (made n) = 0
make_code (not_made n p) = n

-- R13.4: the number of lanes, or a refusal
abbrev pub make_values : MakeReply → Four
make_values (made n) = four n 0 0 0
make_values (not_made n p) = refusal_words p

-- R19.17
abbrev pub offer_code : DeviceReply → ℕ
offer_code (answered r) = code r
offer_code in_force_now = 0
offer_code waits_now = 0

-- R19.17: 0 in force, 1 waits; or a refusal
abbrev pub offer_values : DeviceReply → Four
offer_values (answered r) = values r
offer_values in_force_now = four 0 0 0 0
offer_values waits_now = four 1 0 0 0

-- R13.6: 0 if the run went as far as the end field or the limit, else the number of the refusal that it stopped at
abbrev pub stop_code : Why → ℕ
stop_code at_end = 0
stop_code at_limit = 0
stop_code (refusal n p) = n

-- R13.6: why a run stopped: 0 the end field, 1 the limit, 2 a refusal that has no place, 3 one that has
abbrev pub stop_kind : Why → ℕ
stop_kind at_end = 0
stop_kind at_limit = 1
stop_kind (refusal n none) = 2
stop_kind (refusal n (some p)) = 3

-- R13.6
abbrev pub stop_place : Why → ℕ
stop_place at_end = 0
stop_place at_limit = 0
stop_place (refusal n none) = 0
stop_place (refusal n (some p)) = p

-- R13.6: requests answered, answer bytes written, why it stopped, a refusal's place
abbrev pub run_values : RunResult → Four
run_values x = four x.answered x.written (stop_kind (why_of x.why)) (stop_place (why_of x.why))

-- R13.1: the buffer with four words, low byte first, in its first 32 bytes
unfoldable pub spoken : List ℕ → Four → List ℕ
spoken out w = put_word (put_word (put_word (put_word out 0 w.a) 1 w.b) 2 w.c) 3 w.d

abbrev pub words_in : List ℕ → Four
words_in out = four (word_at out 0) (word_at out 1) (word_at out 2) (word_at out 3)

-- R13.1: the words w are told in a buffer, and are what a host reads there
pub record Spoken (out : List ℕ) (w : Four) (out' : List ℕ) : Type 0 where
  pub buffer : out' ≡ spoken out w
  pub read : words_in out' ≡ w

-- R13.1: four words of eight bytes
abbrev pub buffer_size : ℕ
buffer_size = 4 * 8

-- R13.2, R14.35: a buffer that is too short gives 255, and nothing is done: no lent byte is changed, `Same`. Else the call is made, which is `Does`, and what
-- it answers is told, by its code and its words.
pub record Crosses {A : Type 0} (code : A → ℕ) (words : A → Four) (Does : A → Type 0) (Same : Type 0) (out : List ℕ) (r : ℕ) (out' : List ℕ) : Type 0 where
  pub short : length out < buffer_size → (r ≡ 255) × Same × (out' ≡ out)
  pub told : buffer_size ≤ length out → (a : A) × Does a × (r ≡ code a) × Spoken out (words a) out'

-- R13.4: .. of a call c of the rules on a table
abbrev pub CrossesCall : (c : Call) (table table' out : List ℕ) (r : ℕ) (out' : List ℕ) → Type 0
CrossesCall c table table' out r out' =
    Crosses (λ a. code (reads a)) (λ a. values (reads a)) (λ a. Step c table a table') (table' ≡ table) out r out'

-- R13.4
abbrev pub CrossesMaking : (setup table table' out : List ℕ) (r : ℕ) (out' : List ℕ) → Type 0
CrossesMaking setup table table' out r out' =
    Crosses (λ a. make_code (make_reply a)) (λ a. make_values (make_reply a)) (λ a. MakeStep setup table a table') (table' ≡ table) out r out'

-- R19.17
abbrev pub CrossesOffer : (page table table' out : List ℕ) (r : ℕ) (out' : List ℕ) → Type 0
CrossesOffer page table table' out r out' =
    Crosses (λ a. offer_code (offering a)) (λ a. offer_values (offering a)) (λ a. OfferStep page table a table') (table' ≡ table) out r out'

-- R13.6
abbrev pub CrossesRun : (session : List ℕ) (limit : ℕ) (table table' answers answers' out : List ℕ) (r : ℕ) (out' : List ℕ) → Type 0
CrossesRun session limit table table' answers answers' out r out' =
    Crosses (λ x. stop_code (why_of x.why)) run_values (Ran session limit table table' answers answers') ((table' ≡ table) × (answers' ≡ answers)) out r out'
