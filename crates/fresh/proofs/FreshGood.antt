-- The fresh table of a setup is good. Assumes nothing.
use mathlib.Core.Path.{sym, subst}
use Prim.Native.Nat.{ℕ}
use mathlib.Core.List.{List}
use Rattle.rules.specs.State.{Setting, State}
use Rattle.rules.specs.Setup.{Setup}
use Rattle.rules.specs.Good.{Good}
use Rattle.rules.proofs.AlwaysGood.{fresh-reached, reached-good}
use Rattle.rules.specs.Calls.{fresh}
use Rattle.table.specs.Layout.{Room}
use Rattle.table.proofs.Lists.{empty-listed}
use Rattle.good.specs.Table.{GoodTable}
use Rattle.fresh.specs.Makes.{Makes}

pub fresh-good-table : (before after : List ℕ) (gs : List Setting) → Setup gs → Room after → Makes before after gs → GoodTable after
fresh-good-table before after gs s room m =
    record {
      room = room;
      good = subst (λ (x : State). Good x) (sym m.state) (reached-good (fresh gs) (fresh-reached gs s));
      beside = m.beside;
      listed = empty-listed after gs m.state m.empty;
    }
