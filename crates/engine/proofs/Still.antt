-- The calls that change nothing: look, sets and lag.
--
--   look-still ..   the state after each is the one before
--   looks-does      such a call's promise, by what it says
--
-- Assumes nothing.
use Prim.Native.Nat.{ℕ}
use mathlib.Core.Path.{◌≡◌, refl, sym, subst}
use mathlib.Core.List.{List}
use Rattle.rules.specs.State.{State}
use Rattle.rules.specs.Calls.{Call, look, sets, lag, Reply, accepted, taken, seen, words, lagged, restarted, refused, picked, do_look, do_sets, step}
use Rattle.rules.specs.Reads.{reads}
use Rattle.rules.specs.declared.Answer.{Answer}
use Rattle.rules.specs.declared.Refusal.{Refusal}
use Rattle.std.specs.Prelude.{Result}
use Rattle.rules.proofs.Keep.{look-same, lag-same}
use Rattle.table.specs.Means.{meant}
use Rattle.engine.specs.Does.{SaysReply, Unchanged, Does}
use Rattle.choice.specs.Known.{Known}
use Rattle.engine.specs.Turns.{Holds}
use Rattle.engine.proofs.Ends.{known-holds, step-encodes}

pub look-still : (s : State) → (step s look).state ≡ s
unfolding step do_look
look-still s = look-same s (picked s)

pub sets-still : (s : State) → (step s sets).state ≡ s
unfolding step do_sets
sets-still s = refl

pub lag-still : (s : State) (j : ℕ) → (step s (lag j)).state ≡ s
unfolding step
lag-still s j = lag-same s j

same_bytes : (r : Reply) (t : List ℕ) → Unchanged r t t
same_bytes (accepted n) t = tt
same_bytes (taken j k m n) t = tt
same_bytes (seen j k m n) t = tt
same_bytes (words a b c d) t = tt
same_bytes (lagged z) t = tt
same_bytes restarted t = tt
same_bytes (refused n p) t = refl

pub looks-does : (c : Call) (t : List ℕ) (x : Result Answer Refusal) → Known t → (step (meant t) c).state ≡ meant t → SaysReply c t x → Does c t x t
looks-does c t x known e h = record { says = h; encodes = step-encodes (meant t) c t known.good (subst (Holds t) (sym e) (known-holds t known)); unchanged = same_bytes (reads x) t; rest = refl }
