-- The sessions of specs/Computed.antt, specs/EveryKind.antt and specs/Junction.antt, computed from the script's definition. Assumes nothing.
use mathlib.Core.Path.{refl}
use Rattle.fields.specs.Bytes.{big}
use Rattle.fields.specs.Item.{item_at}
use Rattle.text.specs.Decimal.{digits, width_from, width, decimal, signed}
use Rattle.rules.proofs.Computes.{rules}
use Rattle.plan.specs.Fields.{setup_field_of}
use Rattle.plan.specs.Judge.{lane_outside, judged_at}
use Rattle.plan.specs.Read.{setup_walk, read_plan}
use Rattle.lines.specs.Line.{spaced}
use Rattle.requests.specs.Request.{head_at, call_of, request_item_at}
use Rattle.walk.specs.Script.{session_walk, script}
use Rattle.session.specs.Computed.{TenLines, LimitNone, LimitReached, ByteAfter, EndsEarly}
use Rattle.session.specs.EveryKind.{EveryKind}
use Rattle.session.specs.Junction.{Junction}

-- one name under which the script's definitions open
unfoldable computes : Unit {0}
unfolding rules big digits width_from width decimal signed setup_field_of item_at lane_outside judged_at setup_walk read_plan spaced head_at call_of request_item_at session_walk script
computes = tt

pub ten-lines : TenLines
unfolding computes TenLines
ten-lines = record { text_is = refl; count_is = refl; why_is = refl }

pub limit-none : LimitNone
unfolding computes LimitNone
limit-none = record { text_is = refl; count_is = refl; why_is = refl }

pub limit-reached : LimitReached
unfolding computes LimitReached
limit-reached = record { text_is = refl; count_is = refl; why_is = refl }

pub byte-after : ByteAfter
unfolding computes ByteAfter
byte-after = record { text_is = refl; count_is = refl; why_is = refl }

pub ends-early : EndsEarly
unfolding computes EndsEarly
ends-early = record { text_is = refl; count_is = refl; why_is = refl }

pub every-kind : EveryKind
unfolding computes EveryKind
every-kind = record { text_is = refl; count_is = refl; why_is = refl }

pub junction : Junction
unfolding computes Junction
junction = record { text_is = refl; count_is = refl; why_is = refl }
