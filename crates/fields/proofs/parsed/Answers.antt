-- `fields::parsed` meets its contract. Assumes nothing.
use Prim.Native.Nat.{◌+◌}
use lib.ListN.{length}
use native.Mathlib.Omega.{arith}
use Rattle.fields.proofs.Tested.{passed, passed-within, tested-whole, tested}
use mathlib.Core.Path.{ap}
use mathlib.Core.Bool.{not}
use Rattle.fields.proofs.parsed.Goals as goal

pub returns-then-not-known : goal.returns-then-not-known
returns-then-not-known g c = search tested

pub returns-then-not-fitting : goal.returns-then-not-fitting
returns-then-not-fitting g c = search tested

pub returns-then-not-fits : goal.returns-then-not-fits
returns-then-not-fits g c = search tested

pub taken-requires : goal.taken-requires
taken-requires g c = (passed _ _ c.fitting.ensures (ap not c.if-not-fitting.false), passed-within _ _ _ c.fits.ensures (ap not c.if-not-fits.false))

pub overflow_add-result : goal.overflow_add-result
overflow_add-result g c = omega (arith, passed-within _ (c.in-Header.value + c.in-Header.length) (length c.args.s.now) c.fits.ensures (ap not c.if-not-fits.false))

pub returns-in-Nothing : goal.returns-in-Nothing
returns-in-Nothing g c = search tested

pub returns-in-Cut : goal.returns-in-Cut
returns-in-Cut g c = search tested

pub returns-else-not-fits : goal.returns-else-not-fits
returns-else-not-fits g c = tested-whole _ _ _ _ _ _ _ _ _ _ c.field_at.ensures c.in-Header.is c.known.ensures (ap not c.if-not-known.false) c.fitting.ensures (ap not c.if-not-fitting.false) c.fits.ensures (ap not c.if-not-fits.false) _ c.taken.ensures
