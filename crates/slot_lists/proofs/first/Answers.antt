-- `first` meets its contract. Assumes nothing.
use mathlib.Core.Path.{sym, ap, ◌∙◌}
use Prim.Native.Nat.{ℕ}
use mathlib.Core.List.{List}
use lib.ListN.{get_or, length}
use native.Mathlib.Omega.{arith}
use Rattle.rings.specs.Rings.{ring_at}
use Rattle.slot_lists.proofs.Laws.{list_on, list-some}
use Rattle.slot_lists.proofs.first.Goals as goal

pub entry-requires : goal.entry-requires
entry-requires c =
    let s = c in
    let t = s.args.t.now in
    let e = list_on t s.args.g s.args.map s.args.b (list-some t s.args.g s.args.map s.args.b s.requires.4) in
    (s.requires.0, c.ring_number.ensures.1, omega arith, omega (arith, s.requires.4, ap length e, ap (λ (n : ℕ). length (ring_at t n)) c.ring_number.ensures.0))

pub returns : goal.returns
returns c =
    let s = c in
    let t = s.args.t.now in
    let e = list_on t s.args.g s.args.map s.args.b (list-some t s.args.g s.args.map s.args.b s.requires.4) in
    (c.entry.ensures.0 ∙ ap (λ (n : ℕ). get_or (ring_at t n) 0 0) c.ring_number.ensures.0 ∙ ap (λ (l : List ℕ). get_or l 0 0) (sym e), c.entry.ensures.1)
