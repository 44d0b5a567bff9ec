-- `plan::place` meets its contract. Assumes nothing.
use lib.ListN.{set, get_or-map}
use mathlib.Core.List.{map}
use mathlib.Core.Path.{sym, ap, subst, ◌∙◌}
use mathlib.Core.Bool.{false}
use Rattle.rules.specs.State.{Setting}
use native.Mathlib.Omega.{arith}
use Rattle.plan.proofs.Inside.{lane-number}
use Rattle.plan.proofs.Lists.{map-set}
use Rattle.plan.specs.Judge.{outside, Numbered}
use Rattle.plan.specs.Read.{setting_of, as_shared, placed}
use Rattle.plan.proofs.place.Goals as goal

pub bounds-lanes-k : goal.bounds-lanes-k
bounds-lanes-k c = omega (arith, lane-number c.in-Lane.l (sym (ap outside c.in-Lane.is) ∙ c.requires.0))

pub bounds-lanes-k-in-Shared : goal.bounds-lanes-k-in-Shared
bounds-lanes-k-in-Shared c = omega (arith, subst Numbered c.in-Shared.is c.requires.1)

pub bounds-lanes-k-in-Shared-2 : goal.bounds-lanes-k-in-Shared-2
bounds-lanes-k-in-Shared-2 c = omega (arith, subst Numbered c.in-Shared.is c.requires.1)

pub returns-in-Lane : goal.returns-in-Lane
returns-in-Lane c =
    let a = c.args in map-set setting_of a.lanes.now c.in-Lane.l.lane c.lane_of.result ∙ ap (set (map setting_of a.lanes.now) c.in-Lane.l.lane) c.lane_of.ensures ∙ sym (ap (placed a.format a.framing (map setting_of a.lanes.now)) c.in-Lane.is)

pub returns-in-Shared : goal.returns-in-Shared
returns-in-Shared c =
    let a = c.args in
    map-set setting_of a.lanes.now c.in-Shared.l _
    ∙ ap (λ (x : Setting). set (map setting_of a.lanes.now) c.in-Shared.l (as_shared x)) (sym (get_or-map setting_of a.lanes.now c.in-Shared.l (record { weight = 0; longest = 0; framing = 0; shared = false })))
    ∙ sym (ap (placed a.format a.framing (map setting_of a.lanes.now)) c.in-Shared.is)
