-- A put to a lane that holds records moves no list, and a restart leaves none. Assumes nothing.
use mathlib.Core.Path.{◌≡◌, sym, ap, subst, ◌∙◌}
use mathlib.Core.Bool.{true}
use mathlib.Core.List.{List}
use Prim.Native.Nat.{ℕ}
use native.Mathlib.Omega.{arith}
use lib.ListN.{length}
use Rattle.rules.specs.State.{Rec, Setting, State, holds, lane_at}
use Rattle.rules.specs.Calls.{appended, accept, fresh}
use Rattle.rules.proofs.Claim.{in-range}
use Rattle.rules.proofs.Keep.{Allowed, allowed-enters}
use Rattle.slot_lists.specs.Lists.{back_at, list_at, start_at}
use Rattle.filing.specs.Filing.{Agrees}
use Rattle.filing.proofs.Others.{append-agrees}
use Rattle.table.specs.Layout.{Room}
use Rattle.table.specs.Means.{meant, Leaves, with_lane}
use Rattle.table.proofs.Lists.{solid-stays, agrees-stay, past-stays, empty-listed}
use Rattle.choice.specs.Known.{Known}
use Rattle.fresh.specs.Makes.{Makes}
use Rattle.engine.specs.Turns.{Turns}
use Rattle.engine.proofs.Waking.{accept-busy}

pub append-turns : (t u : List ℕ) (k : ℕ) (r : Rec) → Known t → Allowed (meant t) k r → holds (lane_at (meant t) k) ≡ true → length u ≡ length t
    → Leaves t u (with_lane (meant t) k (appended (lane_at (meant t) k) r)) → Turns t u (accept (meant t) k r)
append-turns t u k r known a busy len lv =
    let s = meant t in
    let e = accept-busy s k r busy in
    record {
      holds = record {
        sound = record { room = omega (arith, known.sound.room, len); beside = lv.beside known.sound.beside };
        clock = ap (λ (x : State). x.clock) (lv.state ∙ sym e);
        lanes = ap (λ (x : State). x.lanes) (lv.state ∙ sym e);
        solid = solid-stays t u lv.rest known.listed.solid;
        agrees = agrees-stay t u lv.rest (accept s k r) (append-agrees (back_at t) s (list_at t) (start_at t) k r (known.good.waiting k) (allowed-enters s k r a) known.listed.agrees (in-range s.lanes k a.has) busy);
      };
      rest = past-stays t u lv.rest;
    }

pub renew-turns : (t u : List ℕ) (gs : List Setting) → Room u → Makes t u gs → Turns t u (fresh gs)
renew-turns t u gs room m =
    let l = empty-listed u gs m.state m.empty in
    record {
      holds = record {
        sound = record { room = room; beside = m.beside };
        clock = ap (λ (x : State). x.clock) m.state;
        lanes = ap (λ (x : State). x.lanes) m.state;
        solid = l.solid;
        agrees = subst (Agrees (back_at u) (list_at u) (start_at u)) m.state l.agrees;
      };
      rest = m.rest;
    }
