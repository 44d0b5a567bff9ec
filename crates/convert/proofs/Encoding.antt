-- All lanes taken over, the new bytes are a good table and encode the old table's state. Assumes nothing.
use mathlib.Core.Path.{◌≡◌, sym, subst, ◌∙◌}
use Prim.Native.Nat.{ℕ}
use mathlib.Core.List.{List}
use native.Mathlib.Omega.{arith}
use Rattle.words.specs.Runs.{tab}
use Rattle.words.proofs.Runs.{tab-ext}
use Rattle.alike.specs.Alike.{Alike}
use Rattle.alike.proofs.Alike.{alike_refl}
use Rattle.slot_lists.specs.Lists.{back_at, list_at, start_at}
use Rattle.filing.specs.Filing.{Agrees}
use Rattle.table.specs.Layout.{Room, cells, clock_word, present_word, framing_word}
use Rattle.table.specs.Means.{lane_of, state_of, meant}
use Rattle.table.specs.Encodes.{Encodes}
use Rattle.table.proofs.Footprint.{present-kept}
use Rattle.table.proofs.Lists.{order_same, solid-same, agrees-same}
use Rattle.old_table.specs.Old.{old_lane, old_meant, OldTable}
use Rattle.convert.specs.Over.{Over}
use Rattle.convert.proofs.Moving.{agrees-over}

module _ (old t : List ℕ) (g : OldTable old) (room : Room t) (o : Over old t 64) where
  pub state-over : meant t ≡ old_meant old
  unfolding state_of old_meant
  state-over =
      let lanes : tab 64 (lane_of (cells t)) ≡ tab 64 (old_lane (cells old)) = tab-ext 64 _ _ (λ k h. (o.lanes k h).lane) in
      rw (o.carried.single clock_word (omega arith) (omega arith), lanes, order_same old t o.carried.lists)

  pub encodes-over : Encodes t (old_meant old)
  encodes-over =
      record {
        room = room;
        alike = subst (Alike (meant t)) state-over (alike_refl (meant t));
        beside = record {
          depth = o.carried.depth;
          housed = λ k h p some. (o.lanes k h).housed p some;
          rows = λ k h p.
              let here = sym (present-kept (cells old) (cells t) k (o.carried.single present_word (omega arith) (omega arith))) ∙ p in
              agrees-over (cells old) (cells t) k (o.carried.single framing_word (omega arith) (omega arith)) (o.carried.settings k h)
              (g.agrees.rows k h here) (g.agrees.paced k h here);
        };
        listed = record {
          solid = solid-same old t o.carried.lists g.agrees.solid;
          agrees = subst (Agrees (back_at t) (list_at t) (start_at t)) (sym state-over) (agrees-same old t o.carried.lists (old_meant old) g.agrees.lists);
        };
      }
