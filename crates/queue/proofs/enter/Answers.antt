use mathlib.Core.Path.{◌≡◌}
use mathlib.Core.Bool.{true, false}
use native.Mathlib.Omega.{arith}
use Rattle.table.proofs.Entries.{Fits}
use Rattle.queue.proofs.Entering.{entry_of, entered-plain, entered-train}
use borrow.Author.Rules.{rules}
use Rattle.queue.proofs.enter.Goals as goal

pub returns-then-l : goal.returns-then-l
returns-then-l c =
    let s = c in
    let kind : s.args.l.shared ≡ true = search rules in
    let j = c.join-place in
    let fits : Fits (entry_of s.args.e) = record { mark = omega (arith, s.well_formed); some = s.requires.5; length = omega (arith, s.requires.4, s.requires.6) } in
    entered-train s.args.t.now _ _ s.args.k j.result s.args.l s.args.e s.requires.1 j.ensures.1 fits s.requires.6 kind (s.requires.7 kind) j.ensures.0 c.set_record.ensures

pub returns-else-l : goal.returns-else-l
returns-else-l c =
    let s = c in
    let kind : s.args.l.shared ≡ false = search rules in
    let fits : Fits (entry_of s.args.e) = record { mark = omega (arith, s.well_formed); some = s.requires.5; length = omega (arith, s.requires.4, s.requires.6) } in
    entered-plain s.args.t.now _ s.args.k s.args.l s.args.e s.requires.1 s.requires.3 fits s.requires.6 kind c.set_record-else-l.ensures
