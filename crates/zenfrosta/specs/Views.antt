-- How what a table shows crosses to a host: a code, and four words in a lent buffer, as in Crossing.
--
--   view_code, view_values   of what is shown: 0 or the refusal's number; what stands in the four words
--   CrossesView            the promise of zf_clock, zf_lane, zf_backlog, zf_record, zf_train_record, zf_edition and zf_wait
--
-- Assumes nothing.
use Rattle.std.specs.Prelude.{ℕ, ◌+◌, List}
use Rattle.plan_area.specs.Area.{shared_part}
use Rattle.show.specs.Views.{Ask, View, clock_is, setting_is, backlog_is, record_is, edition_is, wait_is, view_refused}
use Rattle.show.specs.Shows.{view_reply, Shows}
use Rattle.zenfrosta.specs.Crossing.{four, refusal_words, Crosses}
use Rattle.zenfrosta.specs.declared.Four.{Four}

abbrev pub view_code : View → ℕ
view_code (clock_is v) = 0
view_code (setting_is g i) = 0
view_code (backlog_is n x) = 0
view_code (record_is k r) = 0
view_code (edition_is n m) = 0
view_code (wait_is n m) = 0
view_code (view_refused n p) = n

-- The clock. A setting: weight, longest, h, group, which has 2^32 added in a shared lane. A backlog: how many wait, S or F. A record: lane, mark, length,
-- train. The editions: the last one taken, and the waiting page's. A worst wait: as the fair share has it for every setup, and by the costliest record of this
-- one. A refusal as in every call.
abbrev pub view_values : View → Four
view_values (clock_is v) = four v 0 0 0
view_values (setting_is g i) = four g.weight g.longest g.framing (i + shared_part g.shared)
view_values (backlog_is n x) = four n x 0 0
view_values (record_is k r) = four k r.mark r.len r.train
view_values (edition_is n m) = four n m 0 0
view_values (wait_is n m) = four n m 0 0
view_values (view_refused n p) = refusal_words p

-- R17.6, R17.8: the table is lent to be read, so there is no byte of it that could change
abbrev pub CrossesView : (a : Ask) (table out : List ℕ) (r : ℕ) (out' : List ℕ) → Type 0
CrossesView a table out r out' = Crosses (λ x. view_code (view_reply x)) (λ x. view_values (view_reply x)) (Shows a table) (Unit {0}) out r out'
