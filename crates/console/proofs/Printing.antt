-- What the program prints, from what the run leaves. Assumes nothing.
use Prim.Native.Nat.{ℕ, ◌+◌, ◌*◌, ◌≤◌, ◌<◌}
use native.Mathlib.Nat.{zero-add}
use native.Mathlib.Omega.{arith}
use mathlib.Core.Path.{◌≡◌, ap, ◌∙◌}
use mathlib.Core.List.{List, ◌++◌}
use mathlib.Core.Option.{none}
use borrow.Author.Tests.{lt-ltb, le-ltb}
use lib.ListN.{length, drop, length-append}
use Rattle.table.specs.Layout.{table_size}
use Rattle.lines.specs.Line.{no_line, Line}
use Rattle.walk.specs.Script.{script}
use Rattle.session.specs.Ran.{Ran}
use Rattle.walk.specs.declared.RunResult.{RunResult}
use Rattle.walk.proofs.Texts.{written}
use Rattle.session.proofs.Bounds.{run-right}
use Rattle.console.specs.Prints.{session_text, Prints}

-- a text at the front of an area is within it
front : (text rest a : List ℕ) (n : ℕ) → a ≡ text ++ rest → n ≡ length text → n ≤ length a
front text rest a n e f = omega (arith, ap length e, length-append text rest, f)

pub prints-long : (s a a' : List ℕ) (n : ℕ) → 32768 < length s → Line a a' 0 (no_line 18 none) n → 64 ≤ length a → Prints s a a' n
prints-long s a a' n h l m =
    let e : a' ≡ no_line 18 none ++ drop (length (no_line 18 none)) a = written a a' (no_line 18 none) l.wrote (omega (arith, l.most)) in
    let f : n ≡ length (no_line 18 none) = l.wrote.past ∙ zero-add _ in
    let t : session_text s ≡ no_line 18 none = rw (lt-ltb 32768 (length s) h) in
    record { is = rw t e; size = rw t f; within = front (no_line 18 none) _ a' n e f }

pub prints-run : (s t t' a a' : List ℕ) (r : RunResult) → length s ≤ 32768 → table_size ≤ length t → 64 * 1002 ≤ length a → Ran s 1000 t t' a a' r → Prints s a a' r.written
prints-run s t t' a a' r h room m ran =
    let x = rw (run-right s 1000 (length t) (length a) (omega arith) (omega arith) room) at ran in
    let p : session_text s ≡ (script s 1000).text = rw (le-ltb 32768 (length s) h) in
    record { is = rw p x.answers; size = rw p x.written; within = front (script s 1000).text _ a' r.written x.answers x.written }
