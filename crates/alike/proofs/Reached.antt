-- A state that is alike one that calls make from a fresh state is as good. Assumes nothing.
use Prim.Native.Nat.{ℕ}
use mathlib.Core.Path.{◌≡◌, refl, sym, subst, ◌∙◌}
use mathlib.Core.List.{List}
use Rattle.units.specs.Plain.{times}
use Rattle.rules.specs.State.{Lane, State}
use Rattle.rules.proofs.AlwaysGood.{Reached}
use Rattle.rules.proofs.Live.{Live}
use Rattle.rules.proofs.Ties.{Tied}
use Rattle.alike.specs.Alike.{Alike}

-- only `tied` speaks of the tie order, and both name the same lanes; the twin by the endless rules gets the same order
tied-with : (s : State) (o : List ℕ) → ((k : ℕ) → times k s.order ≡ times k o) → Reached s → Reached (record { clock = s.clock; lanes = s.lanes; order = o })
unfolding Live Tied
tied-with s o e r =
    let w = r.twins in
    let b = w.beside in
    record {
      by = r.by;
      twin = record { clock = r.twin.clock; lanes = r.twin.lanes; order = o };
      twins = record {
        setup = w.setup;
        range = record { lane = w.range.lane; few = w.range.few; clock = w.range.clock };
        tied = λ k. sym (e k) ∙ w.tied k;
        kind = w.kind;
        beside = record { clock = b.clock; order = refl; size = b.size; lane = b.lane };
        kept = w.kept;
        live = w.live;
      };
    }

pub alike-reached : (s t : State) → Alike s t → Reached s → Reached t
alike-reached s t a r =
    subst (λ (v : ℕ). Reached (record { clock = v; lanes = t.lanes; order = t.order })) a.clock
    (subst (λ (ls : List Lane). Reached (record { clock = s.clock; lanes = ls; order = t.order })) a.lanes (tied-with s t.order a.names r))
