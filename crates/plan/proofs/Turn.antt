-- One turn of `setup_walk`, as a function of what stands at its place, so that a proof can go by cases of it. Assumes nothing.
use Prim.Native.Nat.{ℕ}
use mathlib.Core.List.{List}
use Rattle.std.specs.Prelude.{if◌then◌else◌}
use Rattle.rules.specs.State.{Setting}
use Rattle.fields.specs.Item.{whole_field, bad_field}
use Rattle.plan.specs.Fields.{SetupItem, ends}
use Rattle.plan.specs.Judge.{seen_after}
use Rattle.plan.specs.Read.{SetupReply, setup_read, setup_refused, placed, setup_walk}
use Rattle.plan.specs.declared.judge.Seen.{Seen}

abbrev pub turned : ℕ → List ℕ → Seen → List Setting → SetupItem → SetupReply
turned turns s seen gs i = elim i [
  | bad_field n p ↦ setup_refused n p
  | whole_field f next ↦
      if ends f then setup_read seen.format gs seen.count next
      else setup_walk turns s (seen_after seen f) (placed seen.format seen.framing gs f) next
]
