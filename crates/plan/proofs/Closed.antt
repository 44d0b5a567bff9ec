-- Laws of `read_setup` of specs/Read.antt: what stands after the setup's 0x7F.
-- Assumes nothing.
use Prim.Native.Nat.{ℕ, ◌≤◌, ◌<◌}
use mathlib.Core.Path.{◌≡◌, ap, ◌∙◌}
use mathlib.Core.List.{List}
use mathlib.Core.Option.{Option, some}
use borrow.Author.Tests.{lt-ltb, le-ltb}
use lib.ListN.{length}
use Rattle.rules.specs.State.{Setting}
use Rattle.plan.specs.Read.{setup_read, setup_refused, read_plan, setup_closed, read_setup}

module _ (s : List ℕ) where
  pub setup-refused : (n : ℕ) (q : Option ℕ) → read_plan s 0 ≡ setup_refused n q → read_setup s ≡ setup_refused n q
  unfolding read_setup
  setup-refused n q h = ap (setup_closed s) h

  module _ (v : ℕ) (gs : List Setting) (n at : ℕ) (h : read_plan s 0 ≡ setup_read v gs n at) where
    pub setup-more : at < length s → read_setup s ≡ setup_refused 4 (some at)
    unfolding read_setup
    setup-more l = ap (setup_closed s) h ∙ simp (lt-ltb at (length s) l)

    pub setup-whole : length s ≤ at → read_setup s ≡ setup_read v gs n at
    unfolding read_setup
    setup-whole l = ap (setup_closed s) h ∙ simp (le-ltb at (length s) l)
