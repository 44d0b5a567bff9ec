-- `worst_wait` meets its contract. Assumes nothing.
use native.Mathlib.Omega.{arith}
use mathlib.Core.Path.{◌≡◌, ◌∙◌}
use mathlib.Core.Bool.{true, false}
use borrow.Author.Rules.{rules}
use Rattle.waits.specs.Lane.{setting_of_numbers}
use Rattle.waits.proofs.Laws.{room-plain, room-shared, plain-as, shared-as}
use Rattle.waits.proofs.worst_wait.Goals as goal

pub overflow_mul-ahead : goal.overflow_mul-ahead
overflow_mul-ahead c =
    let s = c in record { fits = omega (arith, room-plain s.args.l s.args.ahead s.requires.0) }

pub overflow_add-ahead : goal.overflow_add-ahead
overflow_add-ahead c =
    let s = c in record { fits = omega (arith, room-plain s.args.l s.args.ahead s.requires.0) }

pub charge_of-own-requires : goal.charge_of-own-requires
charge_of-own-requires c =
    let s = c in
    let shared : s.args.l.shared ≡ true = search rules in
    let r = s.requires.0 in
    (omega (arith, room-shared s.args.l s.args.ahead r shared), omega (arith, r.framing), omega (arith, r.numbers.longest_high), omega (arith, c.lane_rate-c.ensures.2))

pub returns-then-l : goal.returns-then-l
returns-then-l c =
    let four = c in
    let s = four in
    let own = c.charge_of-own in
    let shared : s.args.l.shared ≡ true = search rules in
    c.line_bytes.ensures
    ∙ shared-as (setting_of_numbers s.args.l) _ s.args.ahead s.args.margin.0 own.result.0 four.four_slots-slots.result.0 four.lane_rate-c.ensures.0
    (four.four_slots-slots.ensures.0 ∙ rw c.add-most.ensures) shared own.ensures.0

pub charge_of-own-requires-2 : goal.charge_of-own-requires-2
charge_of-own-requires-2 c =
    let s = c in
    let r = s.requires.0 in
    (omega (arith, room-plain s.args.l s.args.ahead r), omega arith, omega (arith, r.framing, r.numbers.longest_high), omega (arith, c.lane_rate-c.ensures.2))

pub returns : goal.returns
returns c =
    let four = c in
    let s = four in
    let own = c.charge_of-own-2 in
    let alone : s.args.l.shared ≡ false = search rules in
    c.line_bytes-2.ensures
    ∙ plain-as (setting_of_numbers s.args.l) _ s.args.ahead s.args.margin.0 own.result.0 four.four_slots-slots.result.0 four.lane_rate-c.ensures.0
    (four.four_slots-slots.ensures.0 ∙ rw c.add-most.ensures) alone (own.ensures.0 ∙ rw c.add-most.ensures)
