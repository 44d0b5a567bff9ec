-- A good table encodes a good state, and bytes that encode one are a good table. Assumes nothing.
use Prim.Native.Nat.{ℕ}
use mathlib.Core.List.{List}
use Rattle.rules.specs.State.{State}
use Rattle.rules.specs.Good.{Good}
use Rattle.alike.proofs.Alike.{alike_refl, alike-sym, alike-good}
use Rattle.table.specs.Means.{meant, Sound}
use Rattle.table.specs.Encodes.{Encodes}
use Rattle.good.specs.Encodes.{GoodEncodes, EncodesGood}
use Rattle.good.specs.Table.{GoodTable}

pub good-encodes : (t : List ℕ) → GoodTable t → Encodes t (meant t)
good-encodes t g = record { room = g.room; alike = alike_refl (meant t); beside = g.beside; listed = g.listed }

pub encodes-good : (t : List ℕ) (s : State) → Encodes t s → Good s → GoodTable t
encodes-good t s e g = record { room = e.room; good = alike-good s (meant t) (alike-sym (meant t) s e.alike) g; beside = e.beside; listed = e.listed }

pub tables-encode : GoodEncodes
unfolding GoodEncodes
tables-encode = good-encodes

pub tables-good : EncodesGood
unfolding EncodesGood
tables-good = encodes-good

-- what the inner functions rest on
pub good-sound : (t : List ℕ) → GoodTable t → Sound t
good-sound t g = record { room = g.room; beside = g.beside }
