-- What specs/Promises.antt promises. Assumes nothing.
use native.Mathlib.Omega.{arith}
use Rattle.plan.specs.Promises.{SetupReadsExactly, ReadsWhole, PlansWithin, LooksNoFurther, SetupRefusesInside}
use Rattle.plan.proofs.Accepted.{accepted, accepted-whole}
use Rattle.plan.proofs.Complete.{complete}
use Rattle.plan.proofs.Closed.{setup-whole}
use Rattle.plan.proofs.Prefix.{prefix}
use Rattle.plan.proofs.Refusals.{refused-place}

pub reads-exactly : SetupReadsExactly
unfolding SetupReadsExactly
reads-exactly s at v gs n next = (λ h. (accepted s at v gs n next h).rule, λ a. complete s at v gs n next a)

pub reads_whole : ReadsWhole
unfolding ReadsWhole
reads_whole s v gs n next =
    (λ h. let a = accepted-whole s v gs n next h in (a.0.rule, a.1), λ a e. setup-whole s v gs n next (complete s 0 v gs n next a) (omega (arith, e)))

pub plans-within : PlansWithin
unfolding PlansWithin
plans-within s at v gs n next a = accepted s at v gs n next (complete s at v gs n next a)

pub looks-no-further : LooksNoFurther
unfolding LooksNoFurther
looks-no-further s t at v gs n next h same = prefix s t at v gs n next h same

pub refuses-inside : SetupRefusesInside
unfolding SetupRefusesInside
refuses-inside s at n place h = refused-place s n place at h
