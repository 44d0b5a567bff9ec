-- How the converter's answer crosses to a host, as in Crossing, and what a host knows by it.
--
--   convert_code, convert_values   of converting: 0 or the refusal's number; words of 0, or the refusal's place
--   CrossesConverting            the promise of zf_convert
--   HeardTakes                   takes in a row by zf_take: from some bytes to others, with the replies that the host heard. One that gave 255 adds nothing
--   GoesOn                       the table `after` goes on where the old one stood: it took over what that means, and takes answer from it as from that
--   HostConverts                 zf_convert gave 0: the table goes on. It gave anything else: no byte of the table is changed
--
-- Assumes nothing.
use Rattle.std.specs.Prelude.{ℕ, ◌≤◌, ◌<◌, ◌≡◌, List, [], ◌∷◌, length}
use Rattle.rules.specs.Calls as calls
use Rattle.rules.specs.Calls.{take}
use Rattle.old_table.specs.Old.{OldTable}
use Rattle.convert.specs.Converts.{ConvertReply, converted, not_converted, convert_reply, TakenOver, Converts}
use Rattle.convert.specs.Takes.{OldTakes, UntilTen}
use Rattle.zenfrosta.specs.Crossing.{four, refusal_words, words_in, buffer_size, Crosses, CrossesCall}
use Rattle.zenfrosta.specs.Heard.{heard}
use Rattle.zenfrosta.specs.declared.Four.{Four}

abbrev pub convert_code : ConvertReply → ℕ
convert_code converted = 0
convert_code (not_converted n p) = n

-- R13.4
abbrev pub convert_values : ConvertReply → Four
convert_values converted = four 0 0 0 0
convert_values (not_converted n p) = refusal_words p

-- R13.4
abbrev pub CrossesConverting : (old table table' out : List ℕ) (r : ℕ) (out' : List ℕ) → Type 0
CrossesConverting old table table' out r out' =
    Crosses (λ a. convert_code (convert_reply a)) (λ a. convert_values (convert_reply a)) (λ a. Converts old table a table') (table' ≡ table) out r out'

pub data HeardTakes : List ℕ → List calls.Reply → List ℕ → Type 0 where
  nothing : {t : List ℕ} → HeardTakes t [] t
  short : {t u v out out' : List ℕ} {r : ℕ} {qs : List calls.Reply} → length out < buffer_size → CrossesCall take t u out r out' → HeardTakes u qs v
      → HeardTakes t qs v
  whole : {t u v out out' : List ℕ} {r : ℕ} {qs : List calls.Reply} → buffer_size ≤ length out → CrossesCall take t u out r out' → HeardTakes u qs v
      → HeardTakes t (heard take r (words_in out') ∷ qs) v

pub record GoesOn (old before after : List ℕ) : Type 0 where
  pub was_good : OldTable old
  pub over : TakenOver old before after
  pub takes : (rs qs : List calls.Reply) (u v : List ℕ) → OldTakes old rs u → HeardTakes after qs v → UntilTen rs qs

-- R13.4, with R7.5 and R7.6
unfoldable pub HostConverts : Type 0
HostConverts =
    (old before after out out' : List ℕ) (r : ℕ) → CrossesConverting old before after out r out'
    → (r ≡ 0 → GoesOn old before after) × ((r ≡ 0 → ⊥) → after ≡ before)
