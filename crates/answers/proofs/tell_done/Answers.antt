-- `tell_done` meets its contract: each case is the line of what it reads as. Assumes nothing.
use native.Mathlib.Omega.{arith}
use mir.Syntax.{w64}
use mir.ValLaws.{to_z-of_z}
use Rattle.lines.specs.Line.{take_word, look_word}
use Rattle.lines.proofs.Most.{record-fits, record-line}
use borrow.Author.Rules.{rules}
use Rattle.answers.proofs.tell_done.Goals as goal

pub shared_lane-requires : goal.shared_lane-requires
shared_lane-requires c = (search rules, rw c.in-Taken.is at c.requires.2)

pub put_record-requires : goal.put_record-requires
put_record-requires c =
    let r = c.in-Taken.r in
    record-fits take_word (omega arith) c.shared_lane.result r.lane r.train r.mark r.length.0 (search rules, search rules, search rules, search rules) _ _ _ _ c.put_word-p.ensures c.requires.3

pub shared_lane-requires-in-Seen : goal.shared_lane-requires-in-Seen
shared_lane-requires-in-Seen c = (search rules, rw c.in-Seen.is at c.requires.2)

pub put_record-requires-in-Seen : goal.put_record-requires-in-Seen
put_record-requires-in-Seen c =
    let r = c.in-Seen.r in
    record-fits look_word (omega arith) c.shared_lane-in-Seen.result r.lane r.train r.mark r.length.0 (search rules, search rules, search rules, search rules) _ _ _ _ c.put_word-p-in-Seen.ensures c.requires.3

pub put_sets-requires : goal.put_sets-requires
put_sets-requires c = (rw c.in-Sets.is at c.requires.1, c.requires.3)

pub returns-in-Accepted : goal.returns-in-Accepted
returns-in-Accepted c = rw c.in-Accepted.is c.put_accepted.ensures

pub returns-in-Taken : goal.returns-in-Taken
returns-in-Taken c =
    let r = c.in-Taken.r in
    rw (c.in-Taken.is, ← c.shared_lane.ensures) (record-line take_word (omega arith) c.shared_lane.result r.lane r.train r.mark r.length.0 (search rules, search rules, search rules, search rules) _ _ _ _ c.put_word-p.ensures c.put_record.ensures)

pub returns-in-Seen : goal.returns-in-Seen
returns-in-Seen c =
    let r = c.in-Seen.r in
    rw (c.in-Seen.is, ← c.shared_lane-in-Seen.ensures) (record-line look_word (omega arith) c.shared_lane-in-Seen.result r.lane r.train r.mark r.length.0 (search rules, search rules, search rules, search rules) _ _ _ _ c.put_word-p-in-Seen.ensures c.put_record-in-Seen.ensures)

pub returns-in-Sets : goal.returns-in-Sets
returns-in-Sets c = rw c.in-Sets.is c.put_sets.ensures

pub returns-in-Lag : goal.returns-in-Lag
returns-in-Lag c = rw c.in-Lag.is (rw (to_z-of_z w64 c.in-Lag.z (record { sfits = c.in-Lag.known_told-in-Lag-1-own.given.0.1 })) at c.put_lag.ensures)

pub returns-in-Restarted : goal.returns-in-Restarted
returns-in-Restarted c = rw c.in-Restarted.is c.put_restarted.ensures
